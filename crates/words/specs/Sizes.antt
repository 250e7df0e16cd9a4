-- The sizes that a size code can mean. Assumes nothing.
use Rattle.std.specs.Prelude.{◌≡◌, ℕ, ◌<◌, ◌≤◌, ◌⊎◌}

-- 1, 2, 4, 16 or 32
abbrev pub a_size : ℕ → Type 0
a_size n = (n ≡ 1) ⊎ ((n ≡ 2) ⊎ ((n ≡ 4) ⊎ ((n ≡ 16) ⊎ (n ≡ 32))))

-- the same, with the bounds beside it, where a caller's `omega` finds them
pub record Sized (n : ℕ) : Type 0 where
  pub positive : 0 < n
  pub most : n ≤ 32
  pub which : a_size n
