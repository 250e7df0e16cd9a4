-- `registers::inputs_in` meets its contract. Assumes nothing.
use Rattle.registers.proofs.Laws.{used_fits, refuses, accepts, asked_after}
use Rattle.act.specs.Parts.{counted, whole}
use Rattle.rules.specs.declared.Refusal.TheVariants as Refusal
use Rattle.rules.specs.Calls.{inputs, wrong, barred, check, staging_after, act_of}
use mathlib.Core.Path.{refl, sym, ◌∙◌}
use Rattle.registers.proofs.inputs_in.Goals as goal

pub returns-then-bad_journal : goal.returns-then-bad_journal
unfolding wrong barred check staging_after
returns-then-bad_journal c x p base w staging =
    let a = c.args in
    refuses _ base a.k (counted x _) w staging _ a.used Refusal.Journal c.refused.ensures (rw (sym c.bad_journal.ensures ∙ c.if-bad_journal.true))
    ∙ asked_after (inputs a.standing a.lines0 a.lines1 a.lines2) base (whole a.k (counted x _)) w staging _ a.used refl refl

pub stored-requires : goal.stored-requires
stored-requires c = used_fits _ _ c.bad_journal.ensures c.if-bad_journal.false

pub returns : goal.returns
unfolding wrong barred check staging_after act_of
returns c x p base w staging =
    let a = c.args in
    let i = c.with_inputs-e.ensures x p in
    accepts _ base (whole a.k (counted x _)) w staging _ a.used (rw (sym c.bad_journal.ensures ∙ c.if-bad_journal.false)) (c.stored.ensures (counted x _) _ p i.does (λ _. i.levels) base w staging)
    ∙ asked_after (inputs a.standing a.lines0 a.lines1 a.lines2) base (whole a.k (counted x _)) w staging _ a.used refl refl
