-- `registers::write_priority` meets its contract. Assumes nothing.
use Rattle.registers.proofs.Laws.{used_fits, put_back, bad_group, nothing-wrong, refuses, accepts, priority_made, priority_unmade, accepted_spares}
use Rattle.act.specs.Parts.{ordered, whole}
use Rattle.rules.specs.Act.{PRIORITY, put}
use Rattle.rules.specs.Fields.{bits_in}
use Rattle.rules.specs.declared.Refusal.TheVariants as Refusal
use Rattle.rules.specs.Calls.{is_none, or_nothing, levelled}
use mathlib.Core.Option.{some}
use mathlib.Core.Path.{refl, sym, ap, ◌∙◌}
use Prim.Native.Nat.{ℕ, ◌%◌, ◌^◌}
use borrow.Author.Rules.{rules}
use Rattle.registers.proofs.write_priority.Goals as goal

pub returns-then-bad_journal : goal.returns-then-bad_journal
unfolding is_none or_nothing
returns-then-bad_journal c =
    let a = c.args in
    let act = put (PRIORITY a.channel) a.value in (
      λ x p base w staging.
          refuses (levelled act) base a.k (ordered x a.priorities.now a.chip) w staging _ a.used Refusal.Journal c.refused.ensures (bad_group (some act) _ _ refl refl (sym c.bad_journal.ensures ∙ c.if-bad_journal.true)),
      λ n e. refl,
    )

pub bounds-priorities-channel-in_default : goal.bounds-priorities-channel-in_default
bounds-priorities-channel-in_default c = let l = c.requires in search (rules, l)

pub clear-requires : goal.clear-requires
clear-requires c = let f = used_fits _ _ c.bad_journal.ensures c.if-bad_journal.false in search (rules, f)

pub returns-in_default : goal.returns-in_default
unfolding is_none or_nothing
returns-in_default c =
    let a = c.args in
    let act = put (PRIORITY a.channel) a.value in
    let fair = sym c.bad_journal.ensures ∙ c.if-bad_journal.false in (
      λ x p base w staging.
          accepts _ base (whole a.k (ordered x a.priorities.now a.chip)) w staging _ a.used (nothing-wrong (some act) _ _ refl refl fair)
          (priority_unmade a.k _ x a.chip a.priorities.now a.channel a.value a.used a.journal.now p (used_fits _ _ refl fair) c.settle-s.ensures c.begun.ensures c.note_core-numbers.ensures
          (c.kept-old.ensures ∙ ap (λ (v : ℕ). v % 2 ^ bits_in a.chip (PRIORITY 0)) c.from.ensures) c.kept-after.ensures c.note_priority-order.ensures c.note_end.ensures c.done-r.result c.done-r.ensures base w staging
          c.in_default.is (put_back _ a.channel _) c.clear.ensures),
      λ n e. put_back _ a.channel _,
    )

pub returns : goal.returns
unfolding is_none or_nothing
returns c =
    let a = c.args in
    let act = put (PRIORITY a.channel) a.value in
    let fair = sym c.bad_journal.ensures ∙ c.if-bad_journal.false in (
      λ x p base w staging.
          accepts _ base (whole a.k (ordered x a.priorities.now a.chip)) w staging _ a.used (nothing-wrong (some act) _ _ refl refl fair)
          (priority_made a.k _ x a.chip a.priorities.now a.channel a.value a.used a.journal.now p (used_fits _ _ refl fair) c.settle-s.ensures c.begun.ensures c.note_core-numbers.ensures
          (c.kept-old.ensures ∙ ap (λ (v : ℕ). v % 2 ^ bits_in a.chip (PRIORITY 0)) c.from.ensures) c.kept-after.ensures c.note_priority-order.ensures c.note_end.ensures c.done-r.result c.done-r.ensures base w staging
          c.in-Ok.is),
      accepted_spares c.in-Ok.is,
    )
