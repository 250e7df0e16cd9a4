-- `registers::write_controller` meets its contract. Assumes nothing.
use Rattle.registers.proofs.Laws.{unknown, known, used_fits, in_word, part-there, no_register, crossing, bad_group, nothing-wrong, refuses, accepts}
use Rattle.dma_read.proofs.Laws.{small}
use Rattle.act.specs.Parts.{whole}
use Rattle.rules.specs.declared.Refusal.TheVariants as Refusal
use Rattle.std.specs.Prelude.{is_some}
use mathlib.Core.Path.{sym, ap, ◌∙◌}
use mathlib.Core.Bool.{false≢true}
use Rattle.registers.proofs.write_controller.Goals as goal

pub returns-then-past_part : goal.returns-then-past_part
returns-then-past_part c x p base w staging =
    let a = c.args in
    let q = sym c.past_part.ensures ∙ c.if-past_part.true in
    refuses _ base a.k x w staging _ a.used Refusal.Crossing c.refused.ensures (crossing _ _ _ (part-there _ _ a.c a.value q) q)

pub intc_write-requires : goal.intc_write-requires
intc_write-requires c = (c.requires.0, (small _ c.requires.1).0, (small _ c.requires.1).1, in_word _ _ (sym c.past_part.ensures ∙ c.if-past_part.false))

pub returns-in_default : goal.returns-in_default
returns-in_default c x p base w staging =
    let a = c.args in
    refuses _ base a.k x w staging _ a.used Refusal.Register c.refused-in_default.ensures (no_register _ _ _ (unknown (c.intc_write.ensures x p).tells (ap is_some c.in_default.is)))

pub returns-then-bad_journal : goal.returns-then-bad_journal
returns-then-bad_journal c x p base w staging =
    let a = c.args in
    refuses _ base a.k x w staging _ a.used Refusal.Journal c.refused-then-bad_journal.ensures
    (bad_group _ _ _ (known (c.intc_write.ensures x p).tells (ap is_some c.in-Some.is)) (sym c.past_part.ensures ∙ c.if-past_part.false) (sym c.bad_journal.ensures ∙ c.if-bad_journal.true))

pub stored-requires : goal.stored-requires
stored-requires c = used_fits _ _ c.bad_journal.ensures c.if-bad_journal.false

pub returns : goal.returns
returns c x p base w staging =
    let a = c.args in
    let i = c.intc_write.ensures x p in
    accepts _ base (whole a.k x) w staging _ a.used
    (nothing-wrong _ _ _ (known i.tells (ap is_some c.in-Some.is)) (sym c.past_part.ensures ∙ c.if-past_part.false) (sym c.bad_journal.ensures ∙ c.if-bad_journal.false))
    (c.stored.ensures x _ p (rw c.in-Some.is at i.does) (λ h. absurd (false≢true (sym h))) base w staging)
