-- `dma_commands::scalar_command` meets its contract, arm by arm. Assumes nothing.
use Rattle.dma_commands.proofs.Laws.{lost, gained}
use Rattle.rules.specs.Registers.{command}
use Rattle.rules.specs.Fields.{bits_of}
use Rattle.rules.specs.Scalars.{ERQ, EEI, INT, ERR}
use native.Mathlib.Omega.{arith}
use mathlib.Core.Path.{◌≡◌, refl}
use borrow.Author.Rules.{rules}
use Rattle.dma_commands.proofs.scalar_command.Goals as goal

pub returns-in-0 : goal.returns-in-0
unfolding command
returns-in-0 c d q = rw c.in-0.is (c.set_requests.ensures d q)

pub returns-in-1 : goal.returns-in-1
unfolding command bits_of
returns-in-1 c d q = rw c.in-1.is (lost _ ERQ refl (search rules) _ c.named-m.ensures c.without.ensures)

pub returns-in-2 : goal.returns-in-2
unfolding command bits_of
returns-in-2 c d q = rw c.in-2.is (gained _ EEI refl (search rules) _ c.named-m.ensures (search rules))

pub returns-in-3 : goal.returns-in-3
unfolding command bits_of
returns-in-3 c d q = rw c.in-3.is (lost _ EEI refl (search rules) _ c.named-m.ensures c.without-in-3.ensures)

pub returns-in-4 : goal.returns-in-4
unfolding command bits_of
returns-in-4 c d q = rw c.in-4.is (lost _ INT refl (search rules) _ c.named-m.ensures c.without-in-4.ensures)

pub returns-in_default : goal.returns-in_default
unfolding command bits_of
returns-in_default c d q = let e : c.args.k ≡ 5 = omega arith in rw e (lost _ ERR refl (search rules) _ c.named-m.ensures c.without-in_default.ensures)
