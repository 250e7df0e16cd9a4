-- `splice` and `part` in other words: a cut and a paste. Assumes nothing.
use mathlib.Core.Path.{◌≡◌, refl, sym, ◌∙◌}
use mathlib.Core.List.{List, [], ◌∷◌, ◌++◌}
use Prim.Native.Nat.{ℕ, zero, suc, ◌+◌, ◌≤◌}
use native.Mathlib.Omega.{arith}
use lib.ListN.{length, set, take, drop}
use lib.Seq.{sets, sets-eq, drop-cons}
use Rattle.rules.specs.Bytes.{part, splice}
use Rattle.rules.proofs.BytesLaws.{splice_cons}

splice_sets : (xs : List ℕ) (at : ℕ) (ys : List ℕ) → splice xs at ys ≡ sets xs at ys
unfolding splice
splice_sets xs at [] = refl
splice_sets xs at (y ∷ ys) = sym (splice_cons xs at y ys) ∙ splice_sets (set xs at y) (suc at) ys

pub splice_cut : (xs : List ℕ) (at : ℕ) (ys : List ℕ) → at + length ys ≤ length xs → splice xs at ys ≡ take at xs ++ ys ++ drop (at + length ys) xs
splice_cut xs at ys h = splice_sets xs at ys ∙ sets-eq ys xs at h

pub part_cut : (xs : List ℕ) (at n : ℕ) → at + n ≤ length xs → part xs at n ≡ take n (drop at xs)
unfolding part
part_cut xs at zero h = refl
part_cut xs at (suc n) h = rw (drop-cons xs at 0 (omega arith), part_cut xs (suc at) n (omega arith))
