-- The numbers of a row, of a type whose values are numbers. Assumes nothing.
use Rattle.std.specs.Prelude.{List, ◌≡◌, ℕ, ◌<◌, length, get_or}
use Rattle.rules.proofs.PartLaws.{any_default}
use mathlib.Core.Path.{◌∙◌}

pub held_at : (v : List ℕ) (i x : ℕ) → i < length v → x ≡ get_or v i x → x ≡ get_or v i 0
held_at v i x h e = e ∙ any_default v i x 0 h
