-- `dma::flags_written` meets its contract, arm by arm. Assumes nothing.
use Rattle.dma.proofs.Laws.{changed_to}
use Rattle.act.proofs.DoesLaws.{answers-done}
use Rattle.rules.specs.Registers.{pick, dma_arms}
use Rattle.rules.specs.Fields.{bits_of}
use Rattle.rules.specs.Calls.{or_nothing}
use Rattle.rules.specs.Scalars.{INT, ERR}
use mathlib.Core.Path.{refl, ◌∙◌}
use borrow.Author.Tests.{ne_eqb}
use borrow.Author.Rules.{rules}
use Rattle.dma.proofs.flags_written.Goals as goal

pub returns-in-32 : goal.returns-in-32
unfolding pick dma_arms or_nothing bits_of
returns-in-32 c p d e = rw c.in-32.is (changed_to _ INT _ (c.without.ensures ∙ rw c.from-low.ensures refl) (search rules))

pub returns-in-36 : goal.returns-in-36
unfolding pick dma_arms or_nothing bits_of
returns-in-36 c p d e = rw c.in-36.is (changed_to _ INT _ (c.without-in-36.ensures ∙ rw c.from-low.ensures refl) (search rules))

pub returns-in-40 : goal.returns-in-40
unfolding pick dma_arms or_nothing bits_of
returns-in-40 c p d e = rw c.in-40.is (changed_to _ ERR _ (c.without-in-40.ensures ∙ rw c.from-low.ensures refl) (search rules))

pub returns-in-44 : goal.returns-in-44
unfolding pick dma_arms or_nothing bits_of
returns-in-44 c p d e = rw c.in-44.is (changed_to _ ERR _ (c.without-in-44.ensures ∙ rw c.from-low.ensures refl) (search rules))

pub returns-in_default : goal.returns-in_default
unfolding pick dma_arms or_nothing
returns-in_default c p d e = simp (ne_eqb _ _ c.in_default.in_default-own.rest.0.0.0.1, ne_eqb _ _ c.in_default.in_default-own.rest.0.0.1, ne_eqb _ _ c.in_default.in_default-own.rest.0.1, ne_eqb _ _ c.in_default.in_default-own.rest.1) (answers-done _ tt)
