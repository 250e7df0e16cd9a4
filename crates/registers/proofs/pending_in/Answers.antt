-- `registers::pending_in` meets its contract. Assumes nothing.
use Rattle.registers.proofs.Laws.{used_fits, sum_fits, put_back, counts-long, refuses, accepts, stopped_after, pending-does, counts-made, counts-unmade}
use Rattle.act.specs.Parts.{counted, whole}
use Rattle.rules.specs.declared.Refusal.TheVariants as Refusal
use Rattle.rules.specs.Calls.{pending, add_pending, wrong, first, barred, stops, check, staging_after, act_of}
use borrow.Author.Tests.{lt-ltb, le-ltb}
use mathlib.Core.Path.{refl, sym, ◌∙◌}
use borrow.Author.Rules.{rules}
use Rattle.registers.proofs.pending_in.Goals as goal

pub returns-then-bad_journal : goal.returns-then-bad_journal
unfolding stops first barred wrong check staging_after
returns-then-bad_journal c x p base w staging =
    let a = c.args in
    refuses _ base a.k (counted x _) w staging _ a.used Refusal.Journal c.refused.ensures (rw (sym c.bad_journal.ensures ∙ c.if-bad_journal.true))
    ∙ stopped_after (pending a.channel a.count) base (whole a.k (counted x _)) w staging _ a.used refl

pub returns-then-channel-gt63 : goal.returns-then-channel-gt63
unfolding stops first barred wrong check staging_after
returns-then-channel-gt63 c x p base w staging =
    let a = c.args in
    refuses _ base a.k (counted x _) w staging _ a.used Refusal.Channel c.refused-then-channel-gt63.ensures (rw (sym c.bad_journal.ensures ∙ c.if-bad_journal.false, lt-ltb _ _ c.if-channel-gt63.true))
    ∙ stopped_after (pending a.channel a.count) base (whole a.k (counted x _)) w staging _ a.used refl

pub returns-then-bad_sum : goal.returns-then-bad_sum
unfolding stops first barred wrong check staging_after
returns-then-bad_sum c x p base w staging =
    let a = c.args in
    refuses _ base a.k (counted x _) w staging _ a.used Refusal.Count c.refused-then-bad_sum.ensures (rw (sym c.bad_journal.ensures ∙ c.if-bad_journal.false, le-ltb _ _ c.if-channel-gt63.false, sym c.bad_sum.ensures ∙ c.if-bad_sum.true))
    ∙ stopped_after (pending a.channel a.count) base (whole a.k (counted x _)) w staging _ a.used refl

pub overflow_add-after : goal.overflow_add-after
overflow_add-after c = let f = sum_fits _ _ c.bad_sum.ensures c.if-bad_sum.false in search (rules, f)

pub offset_bounds-pending-channel-in_default : goal.offset_bounds-pending-channel-in_default
offset_bounds-pending-channel-in_default c = let l = c.if-channel-gt63.false in search (rules, l)

pub bounds-pending-channel-in_default : goal.bounds-pending-channel-in_default
bounds-pending-channel-in_default c = let l = c.if-channel-gt63.false in search (rules, l)

pub clear-requires : goal.clear-requires
clear-requires c = let f = used_fits _ _ c.bad_journal.ensures c.if-bad_journal.false in search (rules, f)

pub returns-in_default : goal.returns-in_default
unfolding stops first barred wrong check staging_after act_of
returns-in_default c x p base w staging =
    let a = c.args in
    let f = sum_fits _ _ c.bad_sum.ensures c.if-bad_sum.false in
    accepts _ base (whole a.k (counted x _)) w staging _ a.used (rw (sym c.bad_journal.ensures ∙ c.if-bad_journal.false, le-ltb _ _ c.if-channel-gt63.false, sym c.bad_sum.ensures ∙ c.if-bad_sum.false))
    (counts-unmade a.k _ x _ _ a.used a.journal.now (add_pending a.channel a.count) p (used_fits _ _ c.bad_journal.ensures c.if-bad_journal.false) c.settle-s.ensures
    (pending-does a.k x _ a.channel a.count f) c.begun.ensures c.note_core-numbers.ensures (c.note_count-counts.ensures _ (counts-long a.k x _ p) refl) c.note_end.ensures c.done-r.result c.done-r.ensures base w staging
    c.in_default.is (put_back _ a.channel _) c.clear.ensures)
    ∙ stopped_after (pending a.channel a.count) base (whole a.k (counted x _)) w staging _ a.used refl

pub returns : goal.returns
unfolding stops first barred wrong check staging_after act_of
returns c x p base w staging =
    let a = c.args in
    let f = sum_fits _ _ c.bad_sum.ensures c.if-bad_sum.false in
    accepts _ base (whole a.k (counted x _)) w staging _ a.used (rw (sym c.bad_journal.ensures ∙ c.if-bad_journal.false, le-ltb _ _ c.if-channel-gt63.false, sym c.bad_sum.ensures ∙ c.if-bad_sum.false))
    (counts-made a.k _ x _ _ a.used a.journal.now (add_pending a.channel a.count) p (used_fits _ _ c.bad_journal.ensures c.if-bad_journal.false) c.settle-s.ensures
    (pending-does a.k x _ a.channel a.count f) c.begun.ensures c.note_core-numbers.ensures (c.note_count-counts.ensures _ (counts-long a.k x _ p) refl) c.note_end.ensures c.done-r.result c.done-r.ensures base w staging
    c.in-Ok.is)
    ∙ stopped_after (pending a.channel a.count) base (whole a.k (counted x _)) w staging _ a.used refl
