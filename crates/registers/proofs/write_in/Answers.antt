-- `registers::write_in` meets its contract, by the block. Assumes nothing.
use Rattle.registers.proofs.Laws.{write-no, wrong_size, wrong_address, write_dma_after, write-controller-after}
use Rattle.act.specs.Parts.{counted, tabled, ordered, whole}
use Rattle.rules.specs.declared.Refusal.TheVariants as Refusal
use Rattle.rules.specs.Registers.{block_of}
use native.Mathlib.Omega.{arith}
use mathlib.Core.Path.{◌≡◌, refl, sym, ◌∙◌}
use Prim.Native.Nat.{suc, ◌-◌}
use Rattle.registers.proofs.write_in.Goals as goal

pub returns-then-bad_size : goal.returns-then-bad_size
returns-then-bad_size c =
    let a = c.args in (
      λ x p base w staging.
          let y = ordered (tabled (counted x a.pending.now) a.table.now) a.priorities.now a.chip in
          write-no a.address a.size a.value base a.k y w staging a.journal.now a.used Refusal.Size c.refused.ensures
          (wrong_size a.address a.size a.value base (whole a.k y) w staging a.journal.now a.used (sym c.bad_size.ensures ∙ c.if-bad_size.true)),
      λ n e. refl,
    )

pub returns-then-not-in_blocks : goal.returns-then-not-in_blocks
returns-then-not-in_blocks c =
    let a = c.args in (
      λ x p base w staging.
          let y = ordered (tabled (counted x a.pending.now) a.table.now) a.priorities.now a.chip in
          write-no a.address a.size a.value base a.k y w staging a.journal.now a.used Refusal.Address c.refused-then-not-in_blocks.ensures
          (wrong_address a.address a.size a.value base (whole a.k y) w staging a.journal.now a.used (sym c.bad_size.ensures ∙ c.if-bad_size.false) (sym c.in_blocks.ensures ∙ c.if-not-in_blocks.true)),
      λ n e. refl,
    )

pub block_of-block-requires : goal.block_of-block-requires
block_of-block-requires c = sym c.in_blocks.ensures ∙ c.if-not-in_blocks.false

pub write_dma-requires : goal.write_dma-requires
write_dma-requires c = (omega arith, sym c.bad_size.ensures ∙ c.if-bad_size.false)

pub write_controller-requires : goal.write_controller-requires
write_controller-requires c = (omega (arith, c.block_of-block.ensures.1, c.in_default.in_default-own.rest), sym c.bad_size.ensures ∙ c.if-bad_size.false)

pub returns-in-0 : goal.returns-in-0
returns-in-0 c =
    let a = c.args in
    let called = c.write_dma.ensures in (
      λ x p base w staging.
          let y = ordered (tabled (counted x a.pending.now) a.table.now) a.priorities.now a.chip in
          called.0 x p base w staging
          ∙ write_dma_after a.address a.size a.value base (whole a.k y) w staging a.journal.now a.used (sym c.bad_size.ensures ∙ c.if-bad_size.false) (sym c.in_blocks.ensures ∙ c.if-not-in_blocks.false) (sym c.block_of-block.ensures.0 ∙ c.in-0.is),
      called.1,
    )

pub returns-in_default : goal.returns-in_default
returns-in_default c =
    let a = c.args in
    let k = c.block_of-block.result in
    let z : block_of a.address ≡ suc (k - 1) = omega (arith, c.block_of-block.ensures.0, c.in_default.in_default-own.rest) in (
      λ x p base w staging.
          let y = ordered (tabled (counted x a.pending.now) a.table.now) a.priorities.now a.chip in
          c.write_controller.ensures y p base w staging
          ∙ write-controller-after a.address a.size a.value base (whole a.k y) w staging a.journal.now a.used (sym c.bad_size.ensures ∙ c.if-bad_size.false) (sym c.in_blocks.ensures ∙ c.if-not-in_blocks.false) (k - 1) z,
      λ n e. refl,
    )
