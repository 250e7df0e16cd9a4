-- `registers::acknowledge_in` meets its contract. Assumes nothing.
use Rattle.registers.proofs.Laws.{used_fits, refuses, accepts, asked_after, heard_made, heard_unmade}
use Rattle.act.specs.Parts.{taking, whole}
use Rattle.rules.specs.declared.Refusal.TheVariants as Refusal
use Rattle.rules.specs.Lines.{acknowledge}
use Rattle.rules.specs.Calls.{ack, wrong, barred, check, staging_after, act_of}
use mathlib.Core.Path.{refl, sym, ◌∙◌}
use borrow.Author.Rules.{rules}
use Rattle.registers.proofs.acknowledge_in.Goals as goal

pub returns-then-bad_journal : goal.returns-then-bad_journal
unfolding wrong barred check staging_after
returns-then-bad_journal c x p base w staging =
    let a = c.args in
    refuses _ base a.k (taking x _) w staging _ a.used Refusal.Journal c.refused.ensures (rw (sym c.bad_journal.ensures ∙ c.if-bad_journal.true))
    ∙ asked_after (ack a.ipl) base (whole a.k (taking x _)) w staging _ a.used refl refl

pub clear-requires : goal.clear-requires
clear-requires c = let f = used_fits _ _ c.bad_journal.ensures c.if-bad_journal.false in search (rules, f)

pub returns-in_default : goal.returns-in_default
unfolding wrong barred check staging_after act_of
returns-in_default c x p base w staging =
    let a = c.args in
    accepts _ base (whole a.k (taking x _)) w staging _ a.used (rw (sym c.bad_journal.ensures ∙ c.if-bad_journal.false))
    (heard_unmade a.k x _ _ a.used a.journal.now (acknowledge a.ipl) _ p (used_fits _ _ c.bad_journal.ensures c.if-bad_journal.false) (c.ack_irq-heard.ensures x p)
    c.note_taken-counts.ensures c.note_end.ensures c.done-r.result c.done-r.ensures base w staging c.in_default.is c.clear.ensures)
    ∙ asked_after (ack a.ipl) base (whole a.k (taking x _)) w staging _ a.used refl refl

pub returns : goal.returns
unfolding wrong barred check staging_after act_of
returns c x p base w staging =
    let a = c.args in
    accepts _ base (whole a.k (taking x _)) w staging _ a.used (rw (sym c.bad_journal.ensures ∙ c.if-bad_journal.false))
    (heard_made a.k x _ _ a.used a.journal.now (acknowledge a.ipl) _ p (used_fits _ _ c.bad_journal.ensures c.if-bad_journal.false) (c.ack_irq-heard.ensures x p)
    c.note_taken-counts.ensures c.note_end.ensures c.done-r.result c.done-r.ensures base w staging c.in-Ok.is)
    ∙ asked_after (ack a.ipl) base (whole a.k (taking x _)) w staging _ a.used refl refl
