-- The laws that the proofs of this crate cite. Assumes nothing.
use mathlib.Core.Path.{◌≡◌, sym, ap}
use Prim.Native.Nat.{ℕ, ◌+◌, ◌*◌, ◌%◌, ◌^◌}
use native.Mathlib.Nat.{add_assoc}
use Rattle.answers.specs.Answers.{packed}

pub packed_sum : (status level vector low : ℕ) → status * 2 ^ 56 + (level * 2 ^ 40 + vector * 2 ^ 32) + low % 2 ^ 32 ≡ packed status level vector low
unfolding packed
packed_sum status level vector low = ap (λ n. n + low % 2 ^ 32) (sym (add_assoc (status * 2 ^ 56) (level * 2 ^ 40) (vector * 2 ^ 32)))
