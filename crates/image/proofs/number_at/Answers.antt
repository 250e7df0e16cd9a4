-- `image::number_at` meets its contract: the low bits of the number that stands there. Assumes nothing.
use Rattle.image.specs.Image.{number_in}
use Prim.Native.Nat.{ℕ, ◌%◌, ◌^◌}
use mathlib.Core.Path.{ap, ◌∙◌}
use Rattle.image.proofs.number_at.Goals as goal

pub returns : goal.returns
unfolding number_in
returns g c = c.low.ensures ∙ ap (λ (m : ℕ). m % 2 ^ g.T.Held.bits) c.get.ensures
