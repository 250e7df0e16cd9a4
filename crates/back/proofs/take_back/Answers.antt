-- `back::take_back` meets its contract: each refusal in turn, and the group undone and its bytes zeroed. Assumes nothing.
use mathlib.Core.Path.{sym, ◌∙◌}
use native.Mathlib.Omega.{arith}
use lib.Seq.{length-take-le}
use Rattle.rules.proofs.Typed.{table-size}
use Rattle.back.proofs.CallLaws.{bad_window_lem, bad_journal_lem, used_fits, used-whole, nothing-stands, is_damaged, accepted, group_stands, refused_spares, accepted_spares}
use Rattle.back.proofs.take_back.Goals as goal

pub returns-then-bad_window : goal.returns-then-bad_window
returns-then-bad_window c = (bad_window_lem _ _ _ _ _ (sym c.bad_window.ensures ∙ c.if-bad_window.true) c.refused.ensures, refused_spares c.refused.ensures)

pub returns-then-bad_journal : goal.returns-then-bad_journal
returns-then-bad_journal c =
    (bad_journal_lem _ _ _ _ _ (sym c.bad_window.ensures ∙ c.if-bad_window.false) (sym c.bad_journal.ensures ∙ c.if-bad_journal.true) c.refused-then-bad_journal.ensures, refused_spares c.refused-then-bad_journal.ensures)

pub returns-then-used-eq0 : goal.returns-then-used-eq0
returns-then-used-eq0 c =
    (nothing-stands _ _ _ _ _ (sym c.bad_window.ensures ∙ c.if-bad_window.false) (sym c.bad_journal.ensures ∙ c.if-bad_journal.false) c.if-used-eq0.true c.refused-then-used-eq0.ensures, refused_spares c.refused-then-used-eq0.ensures)

pub slice_bounds-stands-end : goal.slice_bounds-stands-end
slice_bounds-stands-end c = used_fits _ _ (sym c.bad_journal.ensures ∙ c.if-bad_journal.false)

pub slice_bounds-stands-end-2 : goal.slice_bounds-stands-end-2
slice_bounds-stands-end-2 c = sym (length-take-le _ _ (used_fits _ _ (sym c.bad_journal.ensures ∙ c.if-bad_journal.false)))

pub last_group-requires : goal.last_group-requires
last_group-requires c =
    let a = c.args in
    let fine = sym c.bad_journal.ensures ∙ c.if-bad_journal.false in
    omega (arith, used-whole _ _ fine, length-take-le a.used a.journal.now (used_fits _ _ fine))

pub returns-in_default : goal.returns-in_default
returns-in_default c = (
  is_damaged _ _ _ _ _ (sym c.bad_window.ensures ∙ c.if-bad_window.false) (sym c.bad_journal.ensures ∙ c.if-bad_journal.false) (table-size c.args.d c.well_formed.0)
      c.last_group.ensures c.in_default.is c.refused-in_default.ensures,
  refused_spares c.refused-in_default.ensures,
)

pub undo_group-e-requires : goal.undo_group-e-requires
undo_group-e-requires c =
    let s = group_stands c.last_group.ensures c.in-Some.is in
    (omega (arith, s.long), s.sound)

pub clear-requires : goal.clear-requires
clear-requires c =
    let a = c.args in
    let fits = used_fits _ _ (sym c.bad_journal.ensures ∙ c.if-bad_journal.false) in
    let s = group_stands c.last_group.ensures c.in-Some.is in
    (omega (arith, s.long, length-take-le a.used a.journal.now fits), omega (arith, fits))

pub returns : goal.returns
returns c = (
  accepted _ c.args.d _ _ _ (sym c.bad_window.ensures ∙ c.if-bad_window.false) (sym c.bad_journal.ensures ∙ c.if-bad_journal.false) (table-size c.args.d c.well_formed.0)
      c.last_group.ensures c.in-Some.is c.undo_group-e.ensures c.clear.ensures c.accepted.ensures,
  accepted_spares c.accepted.ensures,
)
