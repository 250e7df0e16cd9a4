-- The highest set bit of a mask: it is set, and none above it is. Assumes nothing.
use Rattle.std.proofs.Common.{◌≡◌, ℕ, suc, ◌+◌, ◌-◌, ◌*◌, ◌%◌, ◌^◌, ◌<◌, ◌≤◌, sym, ap, subst, lt_of_lt_of_le, one-mul, arith, pow_mono}
use native.Mathlib.Nat.{pow-succ', div-eq_of_lt, div-eq_of_lt-le}
use lib.Count.{count_leading_zeros, leading_top, leading_unique}
use Rattle.rules.proofs.Masks.{bit}
use Rattle.words.specs.Highest.{highest}

module _ (m : ℕ) (h : 0 < m) (g : m < 2 ^ 64) where
  -- the zeros above it leave room for it, and m lies between its power and the next
  pub highest_is : (count_leading_zeros 64 m ≤ 63) × (2 ^ highest m ≤ m) × (m < 2 ^ suc (highest m))
  unfolding highest
  highest_is =
      let t = leading_top 64 m h g in
      let e : 63 - count_leading_zeros 64 m ≡ t.0 = place (count_leading_zeros 64 m) t.0 t.1 in
      (room (count_leading_zeros 64 m) t.0 t.1, subst (λ (j : ℕ). 2 ^ j ≤ m) (sym e) t.2, subst (λ (j : ℕ). m < 2 ^ suc j) (sym e) t.3)
    where
      place : (l j : ℕ) → l + suc j ≡ 64 → 63 - l ≡ j
      place l j e = omega arith

      room : (l j : ℕ) → l + suc j ≡ 64 → l ≤ 63
      room l j e = omega arith

  pub bit_highest : bit m (highest m) ≡ 1
  bit_highest =
      ap (λ (n : ℕ). n % 2)
      (div-eq_of_lt-le {k = 1} (2 ^ highest m) (subst (λ (n : ℕ). n ≤ m) (sym (one-mul (2 ^ highest m))) highest_is.1)
      (subst (λ (n : ℕ). m < n) (pow-succ' 2 (highest m)) highest_is.2))

  pub above-highest : (j : ℕ) → highest m < j → bit m j ≡ 0
  above-highest j k = ap (λ (n : ℕ). n % 2) (div-eq_of_lt (lt_of_lt_of_le highest_is.2 (pow_mono k)))

pub highest_lt : (m : ℕ) → highest m < 64
unfolding highest
highest_lt m = below (count_leading_zeros 64 m)
  where
    below : (l : ℕ) → 63 - l < 64
    below l = omega arith

-- a mask's highest bit is told by its power and the next
pub highest_between : (m j : ℕ) → j < 64 → 2 ^ j ≤ m → m < 2 * 2 ^ j → j ≡ highest m
unfolding highest
highest_between m j l low high =
    let e : 2 ^ suc j ≡ 2 * 2 ^ j = pow-succ' 2 j in
    let zeros : 63 - j ≡ count_leading_zeros 64 m = leading_unique 64 m (63 - j) (suc j) (omega arith) (rw e high) (rw e (omega arith)) in
    omega (arith, zeros)
