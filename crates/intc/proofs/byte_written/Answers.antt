-- `intc::byte_written` meets its contract. One line for each arm, and for what lies below, among and above them. Assumes nothing.
use Rattle.intc.proofs.WriteLaws.{written_some, written_none, masks_in, nothing_in, command_idle, byte_none}
use lib.Bits.{bit_or, or_lt}
use Rattle.rules.specs.Words.{without}
use Rattle.rules.specs.Registers.{named, pick, controller_arms}
use Rattle.rules.specs.Act.{nothing, change, MASKS}
use mathlib.Core.Path.{refl}
use native.Mathlib.Omega.{arith}
use borrow.Author.Rules.{rules}
use Rattle.intc.proofs.byte_written.Goals as goal

pub returns-in-28 : goal.returns-in-28
unfolding pick controller_arms
returns-in-28 c =
    written_some _ _ (λ i. change (MASKS i) (λ m. bit_or m (named c.args.v))) _ (λ i. rw c.in-28.is refl)
    (masks_in _ _ (or_lt 64 c.args.k.masks c.named.result (search rules) (search rules)) (rw c.named.ensures refl))

pub returns-in-29 : goal.returns-in-29
unfolding pick controller_arms
returns-in-29 c =
    written_some _ _ (λ i. change (MASKS i) (λ m. without m (named c.args.v))) _ (λ i. rw c.in-29.is refl)
    (masks_in _ _ (search rules) (rw (c.without.ensures, c.named-in-29.ensures) refl))

pub returns-in-30 : goal.returns-in-30
returns-in-30 c = written_some _ _ (λ _. nothing) _ (λ i. command_idle _ _ i (omega arith) (omega arith)) (nothing_in _)

pub returns-in_default : goal.returns-in_default
returns-in_default c = written_none _ _ (λ i. byte_none _ _ i (λ e. omega arith) (λ e. omega arith) (λ e. omega arith) (λ e. omega arith))

pub returns-in_default-2 : goal.returns-in_default-2
returns-in_default-2 c = written_none _ _ (λ i. byte_none _ _ i (λ e. omega arith) (λ e. omega arith) (λ e. omega arith) (λ e. omega arith))
