-- `dma::masks_written` meets its contract, arm by arm. Assumes nothing.
use Rattle.dma.proofs.Laws.{changed_to}
use Rattle.act.proofs.DoesLaws.{does-put}
use Rattle.rules.specs.Registers.{pick, dma_arms}
use Rattle.rules.specs.Fields.{bits_of}
use Rattle.rules.specs.Calls.{or_nothing}
use Rattle.rules.specs.Scalars.{CR, ERQ, EEI}
use borrow.Author.Tests.{ne_eqb}
use borrow.Author.Rules.{rules}
use Rattle.dma.proofs.masks_written.Goals as goal

pub returns-in-0 : goal.returns-in-0
unfolding pick dma_arms or_nothing bits_of
returns-in-0 c p d e = rw c.in-0.is (does-put _ CR _ (search rules))

pub returns-in-8 : goal.returns-in-8
unfolding pick dma_arms or_nothing bits_of
returns-in-8 c p d e = rw c.in-8.is (changed_to _ ERQ _ c.with_bytes_in.ensures (search rules))

pub returns-in-12 : goal.returns-in-12
unfolding pick dma_arms or_nothing bits_of
returns-in-12 c p d e = rw c.in-12.is (changed_to _ ERQ _ c.with_bytes_in-in-12.ensures (search rules))

pub returns-in-16 : goal.returns-in-16
unfolding pick dma_arms or_nothing bits_of
returns-in-16 c p d e = rw c.in-16.is (changed_to _ EEI _ c.with_bytes_in-in-16.ensures (search rules))

pub returns-in-20 : goal.returns-in-20
unfolding pick dma_arms or_nothing bits_of
returns-in-20 c p d e = rw c.in-20.is (changed_to _ EEI _ c.with_bytes_in-in-20.ensures (search rules))

pub returns-in_default : goal.returns-in_default
unfolding pick dma_arms or_nothing
returns-in_default c p d e = simp (ne_eqb _ _ c.in_default.in_default-own.rest.0.0.0.0.1, ne_eqb _ _ c.in_default.in_default-own.rest.0.0.0.1, ne_eqb _ _ c.in_default.in_default-own.rest.0.0.1, ne_eqb _ _ c.in_default.in_default-own.rest.0.1, ne_eqb _ _ c.in_default.in_default-own.rest.1, ne_eqb _ _ c.requires.0, ne_eqb _ _ c.requires.1) (c.flags_written.ensures p d e)
