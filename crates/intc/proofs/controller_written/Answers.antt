-- `intc::controller_written` meets its contract. One case law for each range of offsets, with the act on one controller. Assumes nothing.
use Rattle.intc.proofs.WriteLaws.{written_some, written_as, masks_in, forced_in, levels_in_lem, nothing_in, write-pending, write-masks, write-forced, write-levels, write-command}
use Rattle.masks.proofs.Ranges.{within_true}
use Rattle.rules.proofs.BytesLaws.{bytes-bytes}
use Rattle.rules.specs.Registers.{with_bytes_in, levels_write}
use Rattle.rules.specs.Bytes.{bytes}
use Rattle.rules.specs.Act.{nothing, change, MASKS, FORCED}
use mathlib.Core.Path.{◌≡◌, ◌∙◌, sym}
use lib.ListN.{length}
use native.Mathlib.Omega.{arith}
use borrow.Author.Rules.{rules}
use Rattle.intc.proofs.controller_written.Goals as goal

pub returns-then-within : goal.returns-then-within
returns-then-within c = written_some _ _ (λ _. nothing) _ (λ i. write-pending _ _ _ i (sym c.within.ensures ∙ c.if-within.true)) (nothing_in _)

pub overflow_sub-off : goal.overflow_sub-off
overflow_sub-off c = omega (arith, within_true _ _ _ (sym c.within-2.ensures ∙ c.if-within-2.true))

pub with_bytes_in-requires : goal.with_bytes_in-requires
with_bytes_in-requires c =
    let w = within_true 0x08 0x0F c.args.off (sym c.within-2.ensures ∙ c.if-within-2.true) in
    let p = c.requires.2 w.0 (omega arith) in
    (omega arith, omega arith, omega arith)

pub returns-then-within-2 : goal.returns-then-within-2
returns-then-within-2 c =
    written_some _ _ (λ i. change (MASKS i) (with_bytes_in _ _ _)) _
    (λ i. write-masks _ _ _ i (sym c.within.ensures ∙ c.if-within.false) (sym c.within-2.ensures ∙ c.if-within-2.true))
    (masks_in _ _ (search rules) c.with_bytes_in.ensures)

pub overflow_sub-off-then-within-3 : goal.overflow_sub-off-then-within-3
overflow_sub-off-then-within-3 c = omega (arith, within_true _ _ _ (sym c.within-3.ensures ∙ c.if-within-3.true))

pub with_bytes_in-requires-then-within-3 : goal.with_bytes_in-requires-then-within-3
with_bytes_in-requires-then-within-3 c =
    let w = within_true 0x10 0x17 c.args.off (sym c.within-3.ensures ∙ c.if-within-3.true) in
    let p = c.requires.2 (omega arith) w.1 in
    (omega arith, omega arith, omega arith)

pub returns-then-within-3 : goal.returns-then-within-3
returns-then-within-3 c =
    written_some _ _ (λ i. change (FORCED i) (with_bytes_in _ _ _)) _
    (λ i. write-forced _ _ _ i (sym c.within.ensures ∙ c.if-within.false) (sym c.within-2.ensures ∙ c.if-within-2.false)
    (sym c.within-3.ensures ∙ c.if-within-3.true))
    (forced_in _ _ (search rules) c.with_bytes_in-then-within-3.ensures)

pub overflow_sub-off-then-within-4 : goal.overflow_sub-off-then-within-4
overflow_sub-off-then-within-4 c = omega (arith, within_true _ _ _ (sym c.within-4.ensures ∙ c.if-within-4.true))

pub with_levels-requires : goal.with_levels-requires
with_levels-requires c =
    let w = within_true 0x40 0x7F c.args.off (sym c.within-4.ensures ∙ c.if-within-4.true) in
    (omega arith, omega arith)

pub returns-then-within-4 : goal.returns-then-within-4
returns-then-within-4 c =
    let long : length c.args.k.levels ≡ 64 = search rules in
    written_some _ _ (λ i. levels_write i _ (bytes _ _)) _
    (λ i. write-levels _ _ _ i (sym c.within.ensures ∙ c.if-within.false) (sym c.within-2.ensures ∙ c.if-within-2.false)
    (sym c.within-3.ensures ∙ c.if-within-3.false) (sym c.within-4.ensures ∙ c.if-within-4.true))
    (rw c.with_levels.ensures (levels_in_lem _ _ _ (bytes-bytes _ _) long))

pub returns : goal.returns
returns c =
    written_as _ _ _ _ _
    (λ i. write-command _ _ _ i (sym c.within.ensures ∙ c.if-within.false) (sym c.within-2.ensures ∙ c.if-within-2.false)
    (sym c.within-3.ensures ∙ c.if-within-3.false) (sym c.within-4.ensures ∙ c.if-within-4.false))
    c.command_written.ensures
