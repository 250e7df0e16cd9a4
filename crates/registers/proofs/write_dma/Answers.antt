-- `registers::write_dma` meets its contract. Assumes nothing.
use Rattle.std.specs.Prelude.{None}
use Rattle.registers.proofs.Laws.{unknown, known, used_fits, fair, no_register, crossing, bad_group, nothing-wrong, refuses, accepts, dma_goes, priority_there, priority_write, priority_inside}
use Rattle.acting.proofs.Laws.{stood_new, stood_old}
use Rattle.act.specs.Parts.{counted, tabled, ordered, whole}
use Rattle.rules.specs.declared.Refusal.TheVariants as Refusal
use Rattle.rules.specs.Registers.{dma_write}
use Rattle.rules.specs.Carry.{lending}
use Rattle.rules.specs.Calls.{levelled, or_nothing}
use lib.ListN.{length}
use native.Mathlib.Omega.{arith}
use mathlib.Core.Path.{refl, sym, ◌∙◌}
use borrow.Author.Rules.{rules}
use Rattle.registers.proofs.write_dma.Goals as goal

pub overflow_sub-off : goal.overflow_sub-off
overflow_sub-off c = omega (arith, priority_there _ _ (sym c.is_priority.ensures ∙ c.if-is_priority.true))

pub write_priority-requires : goal.write_priority-requires
write_priority-requires c = omega (arith, priority_there _ _ (sym c.is_priority.ensures ∙ c.if-is_priority.true))

pub returns-then-is_priority : goal.returns-then-is_priority
returns-then-is_priority c =
    let a = c.args in
    let e = sym c.is_priority.ensures ∙ c.if-is_priority.true in
    let called = c.write_priority.ensures in (
      λ x p base w staging. rw (priority_write _ _ e a.value, priority_inside _ _ e) (called.0 (tabled (counted x a.pending.now) a.table.now) p base w staging),
      called.1,
    )

pub returns-then-not-edma_known : goal.returns-then-not-edma_known
returns-then-not-edma_known c =
    let a = c.args in (
      λ x p base w staging.
          refuses _ base a.k (ordered (tabled (counted x a.pending.now) a.table.now) a.priorities.now a.chip) w staging _ a.used Refusal.Register c.refused.ensures (no_register _ _ _ (unknown (c.edma_known.ensures a.value) c.if-not-edma_known.true)),
      λ n e. refl,
    )

pub returns-then-past_end : goal.returns-then-past_end
returns-then-past_end c =
    let a = c.args in (
      λ x p base w staging.
          refuses _ base a.k (ordered (tabled (counted x a.pending.now) a.table.now) a.priorities.now a.chip) w staging _ a.used Refusal.Crossing c.refused-then-past_end.ensures
          (crossing _ _ _ (known (c.edma_known.ensures a.value) c.if-not-edma_known.false) (sym c.past_end.ensures ∙ c.if-past_end.true)),
      λ n e. refl,
    )

pub returns-then-bad_journal : goal.returns-then-bad_journal
returns-then-bad_journal c =
    let a = c.args in (
      λ x p base w staging.
          refuses _ base a.k (ordered (tabled (counted x a.pending.now) a.table.now) a.priorities.now a.chip) w staging _ a.used Refusal.Journal c.refused-then-bad_journal.ensures
          (bad_group _ _ _ (known (c.edma_known.ensures a.value) c.if-not-edma_known.false) (sym c.past_end.ensures ∙ c.if-past_end.false) (sym c.bad_journal.ensures ∙ c.if-bad_journal.true)),
      λ n e. refl,
    )

pub edma_write-s-requires : goal.edma_write-s-requires
edma_write-s-requires c = (fair _ _ c.requires.1 (sym c.past_end.ensures ∙ c.if-past_end.false), sym c.is_priority.ensures ∙ c.if-is_priority.false)

pub end_core-r-requires : goal.end_core-r-requires
end_core-r-requires c = let f = used_fits _ _ c.bad_journal.ensures c.if-bad_journal.false in search (rules, f)

pub returns-in_default : goal.returns-in_default
returns-in_default c =
    let a = c.args in
    let fair = sym c.bad_journal.ensures ∙ c.if-bad_journal.false in
    let fits = used_fits _ _ refl fair in
    let t = a.table.now in (
      λ x p base w staging.
          let y = ordered (counted x a.pending.now) a.priorities.now a.chip in
          let lent = lending (length staging) in
          let act = or_nothing (dma_write a.off a.size a.value) in
          let g = c.settle.ensures (tabled y _) base lent act (whole a.k (tabled y t)) w a.journal.now w _ a.used p fits
          (dma_goes base lent act a.k y t _ w a.journal.now a.used (c.edma_write-s.ensures base lent (whole a.k (tabled y _)) w x.majors refl)) in
          accepts _ base (whole a.k (tabled y t)) w staging _ a.used
          (nothing-wrong _ _ _ (known (c.edma_known.ensures a.value) c.if-not-edma_known.false) (sym c.past_end.ensures ∙ c.if-past_end.false) fair)
          (stood_old c.end_core-r.result (tabled y t) (tabled y _) None w staging _ c.in_default.is
          (c.end_core-r.ensures (tabled y t) _ base lent (levelled act) w a.journal.now staging p fits (λ h. g.levels) g.since g.later g.left)),
      λ n e. refl,
    )

pub returns : goal.returns
returns c =
    let a = c.args in
    let fair = sym c.bad_journal.ensures ∙ c.if-bad_journal.false in
    let fits = used_fits _ _ refl fair in
    let t = a.table.now in (
      λ x p base w staging.
          let y = ordered (counted x a.pending.now) a.priorities.now a.chip in
          let lent = lending (length staging) in
          let act = or_nothing (dma_write a.off a.size a.value) in
          let g = c.settle.ensures (tabled y _) base lent act (whole a.k (tabled y t)) w a.journal.now w _ a.used p fits
          (dma_goes base lent act a.k y t _ w a.journal.now a.used (c.edma_write-s.ensures base lent (whole a.k (tabled y _)) w x.majors refl)) in
          accepts _ base (whole a.k (tabled y t)) w staging _ a.used
          (nothing-wrong _ _ _ (known (c.edma_known.ensures a.value) c.if-not-edma_known.false) (sym c.past_end.ensures ∙ c.if-past_end.false) fair)
          (stood_new c.end_core-r.result (tabled y t) (tabled y _) None w staging _ c.in-Ok.is
          (c.end_core-r.ensures (tabled y t) _ base lent (levelled act) w a.journal.now staging p fits (λ h. g.levels) g.since g.later g.left)),
      λ n e. refl,
    )
