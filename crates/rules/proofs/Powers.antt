-- Powers of two as code makes them: a shifted one, and the mask below it. Each law is over the width w. Assumes nothing.
use mathlib.Core.Path.{◌≡◌, ◌∙◌, ap, ap₂}
use Prim.Native.Nat.{ℕ, ◌+◌, ◌-◌, ◌*◌, ◌/◌, ◌%◌, ◌^◌, ◌≤◌, ◌<◌}
use native.Mathlib.Nat.{one-mul, mod-lt}
use native.Mathlib.Omega.{arith}
use lib.Bits.{bit_and, bit_or, and_mask, or_shifted}
use lib.Pow.{pow_pos, pow_mono, split, shl_exact, mod-mod-pow}
use Rattle.rules.specs.Words.{without}
use Rattle.rules.proofs.Masks.{and_not}

-- 1 << k at w bits
pub one_shl : (w k : ℕ) → k < w → (1 * 2 ^ k) % 2 ^ w ≡ 2 ^ k
one_shl w k h = shl_exact {a = 1} 1 k w (omega arith) (omega arith) ∙ one-mul (2 ^ k)

pub shl_pos : (w k : ℕ) → k < w → 0 < (1 * 2 ^ k) % 2 ^ w
shl_pos w k h = rw (one_shl w k h) (pow_pos k)

-- what wrapped at w bits keeps its m low bits
pub low-low : (w m x : ℕ) → m ≤ w → x % 2 ^ w % 2 ^ m ≡ x % 2 ^ m
low-low w m x h = ap (λ (k : ℕ). x % 2 ^ k % 2 ^ m) (up w m h) ∙ mod-mod-pow x (w - m) m
  where
    up : (w m : ℕ) → m ≤ w → w ≡ w - m + m
    up w m h = omega arith

-- (a & !mask) | (x & mask), the mask of the m low bits: a, with its m low bits those of x
pub low-replaced : (w m a x : ℕ) → m ≤ w → a < 2 ^ w → bit_or (bit_and a ((2 ^ w - 1) - (2 ^ m - 1))) (bit_and x (2 ^ m - 1)) ≡ a / 2 ^ m * 2 ^ m + x % 2 ^ m
unfolding without
low-replaced w m a x h g =
    ap₂ bit_or (and_not w a (2 ^ m - 1) g below ∙ ap (λ (y : ℕ). a - y) (and_mask a m) ∙ whole a (a / 2 ^ m * 2 ^ m) (a % 2 ^ m) (split a m)) (and_mask x m)
    ∙ or_shifted (a / 2 ^ m) m (x % 2 ^ m) (mod-lt x (pow_pos m))
  where
    below : 2 ^ m - 1 < 2 ^ w
    below = omega (arith, pow_pos m, pow_mono h)

    whole : (a q r : ℕ) → q + r ≡ a → a - r ≡ q
    whole a q r e = omega arith
