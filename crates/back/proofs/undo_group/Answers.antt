-- `back::undo_group` meets its contract. The invariant: undoing the records that are left, here and now, is undoing all of them at the start. Assumes nothing.
use Rattle.rules.proofs.Typed.{table-size}
use Rattle.journal.proofs.Back.{line_as_long}
use Rattle.scan.proofs.Laws.{mode_scanning}
use Rattle.back.proofs.UndoLaws.{undo-turn, still_sound, undo_none, field_held, field_so, store_so, store_undone, both_undone, mode_kept}
use Rattle.rules.specs.State.{Device}
use Rattle.rules.specs.View.{view}
use native.Mathlib.Omega.{arith}
use mathlib.Core.Path.{refl, sym, ap, ◌∙◌}
use Prim.Native.Nat.{◌-◌}
use Rattle.back.proofs.undo_group.Goals as goal

pub loop-k-init : goal.loop-k-init
loop-k-init c = (refl, refl, table-size c.args.d c.well_formed.0, refl)

pub undo_field-e-requires : goal.undo_field-e-requires
undo_field-e-requires c = (omega arith, field_held _ _ _ (mode_scanning _ _ ∙ sym c.loop-k.invariant.3) (still_sound _ _ _ _ (omega arith) _ _ c.loop-k.window c.loop-k.invariant.1 c.requires.1 _ (omega arith)) (sym c.is_field.ensures ∙ c.if-is_field.true))

-- a record undone: it was a field's, or a store's
pub loop-k-preserved-then-is_field : goal.loop-k-preserved-then-is_field
loop-k-preserved-then-is_field c =
    let one = c.undo_store in
    let at = c.loop-k in
    let inv = at.invariant in
    let undone = field_so _ (view at.e) (sym c.is_field.ensures ∙ c.if-is_field.true) c.undo_field-e.ensures in (
      undo-turn c.args.base c.args.stands.now c.args.from c.args.count (omega arith) at.k c.loop-k-test.true (omega arith) _ (both_undone _ _ _ _ _ _ (view at.e) (store_undone _ _ _ _ _ inv.2 (still_sound _ _ _ _ (omega arith) _ _ at.window inv.1 c.requires.1 (at.k - 1) (omega arith)) one.ensures) undone) ∙ inv.0,
      omega (arith, one.auto.window),
      line_as_long _ _ _ _ _ _ one.ensures (view at.e) ∙ inv.2,
      ap (λ (d : Device). d.chip) undone ∙ mode_kept _ _ ∙ inv.3,
    )

pub loop-k-preserved : goal.loop-k-preserved
loop-k-preserved c =
    let one = c.undo_store in
    let at = c.loop-k in
    let inv = at.invariant in
    let undone = store_so _ (view at.e) (sym c.is_field.ensures ∙ c.if-is_field.false) refl in (
      undo-turn c.args.base c.args.stands.now c.args.from c.args.count (omega arith) at.k c.loop-k-test.true (omega arith) _ (both_undone _ _ _ _ _ _ (view at.e) (store_undone _ _ _ _ _ inv.2 (still_sound _ _ _ _ (omega arith) _ _ at.window inv.1 c.requires.1 (at.k - 1) (omega arith)) one.ensures) undone) ∙ inv.0,
      omega (arith, one.auto.window),
      line_as_long _ _ _ _ _ _ one.ensures (view at.e) ∙ inv.2,
      ap (λ (d : Device). d.chip) undone ∙ mode_kept _ _ ∙ inv.3,
    )

pub returns : goal.returns
returns c = sym (undo_none _ _ _ _ (omega arith)) ∙ c.loop-k.invariant.0
