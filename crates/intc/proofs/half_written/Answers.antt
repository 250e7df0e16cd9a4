-- `intc::half_written` meets its contract. One line for each arm. Assumes nothing.
use Rattle.intc.proofs.WriteLaws.{written_some, written_none, config_in, half_none}
use Rattle.rules.specs.Registers.{pick, controller_arms}
use Rattle.rules.specs.Act.{put, CONFIG}
use mathlib.Core.Path.{refl}
use Rattle.intc.proofs.half_written.Goals as goal

pub returns-in-24 : goal.returns-in-24
unfolding pick controller_arms
returns-in-24 c = written_some _ _ (λ i. put (CONFIG i) c.args.v) _ (λ i. rw c.in-24.is refl) (config_in _ _)

pub returns-in_default : goal.returns-in_default
returns-in_default c = written_none _ _ (λ i. half_none _ _ i c.in_default.in_default-own.rest.1)
