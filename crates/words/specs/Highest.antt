-- The highest set bit of a mask, by which the code walks sources downwards. Assumes nothing.
use Rattle.std.specs.Prelude.{ℕ, ◌-◌}
use Rattle.std.specs.Int.Count.{count_leading_zeros}

-- of a mask of 64 bits that is not 0
unfoldable pub highest : ℕ → ℕ
highest m = 63 - count_leading_zeros 64 m
