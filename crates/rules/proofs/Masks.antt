-- Masks of bits (`specs/Words.antt`), said of `bit`: each bit of a mask that gained, lost or was cut; bounds; the lowest set bit.
-- Assumes nothing.
use mathlib.Core.Bool.{true, false, not, ◌&&◌, ◌||◌}
use mathlib.Core.Path.{◌≡◌, refl, sym, ap, ap₂, ◌∙◌, subst}
use Prim.Native.Nat.{ℕ, zero, suc, ◌+◌, ◌-◌, ◌*◌, ◌/◌, ◌%◌, ◌^◌, ◌≤◌, ◌<◌, min, max}
use native.Mathlib.Nat.{pow-suc, pow-succ', div-one, div_self, div-eq_of_lt, div-div-eq-div-mul, zero-lt-suc, mul-mod_left, mul-div_cancel, zero-div, mod-lt, sub-le, sub-zero, not-suc-le-zero, le_of_suc-le-suc}
use native.Mathlib.Omega.{arith}
use lib.Arith.{digits_mod, digits_div, lt_of_le-ne, lt-one}
use lib.Pow.{pow_pos, pow-lt}
use lib.Bits.{bit_and, bit_or, and_step, or_step, and_shr, or_shr, or_lt, and_le_l}
use lib.Dec.{eqb}
use lib.Count.{count_trailing_zeros, under, trailing_le}
use Rattle.rules.specs.Words.{has, gain, lose, without, lowest}

-- bit i of m, 0 or 1: what `has` asks
abbrev pub bit : ℕ → ℕ → ℕ
bit m i = m / 2 ^ i % 2

-- ---- a number by its lowest bit and its half

pub bit_lt : (m i : ℕ) → bit m i < 2
bit_lt m i = mod-lt (m / 2 ^ i) (zero-lt-suc 1)

bit_zero : (m : ℕ) → bit m 0 ≡ m % 2
bit_zero m = ap (λ (x : ℕ). x % 2) (div-one m)

-- bit i + 1 of a number is bit i of its half
bit_suc : (m i : ℕ) → bit m (suc i) ≡ bit (m / 2) i
bit_suc m i = ap (λ (x : ℕ). m / x % 2) (pow-succ' 2 i) ∙ ap (λ (x : ℕ). x % 2) (sym (div-div-eq-div-mul m 2 (2 ^ i)))

none : (i : ℕ) → bit 0 i ≡ 0
none i = ap (λ (x : ℕ). x % 2) (zero-div (2 ^ i))

half_below : (w x : ℕ) → x < 2 ^ suc w → x / 2 < 2 ^ w
half_below w x h = halve (2 ^ w) (subst (λ (p : ℕ). x < p) (pow-suc 2 w) h)
  where
    halve : (p : ℕ) → x < p * 2 → x / 2 < p
    halve p h = omega arith

-- ---- each bit of two masks joined

bit_and_lem : (a b i : ℕ) → bit (bit_and a b) i ≡ min (bit a i) (bit b i)
bit_and_lem a b i = ap (λ (x : ℕ). x % 2) (and_shr a b i ∙ and_step (a / 2 ^ i) (b / 2 ^ i)) ∙ digits_mod _ (low (bit_lt a i) (bit_lt b i))
  where
    low : {x y : ℕ} → x < 2 → y < 2 → min x y < 2
    low h k = omega arith

bit_or_lem : (a b i : ℕ) → bit (bit_or a b) i ≡ max (bit a i) (bit b i)
bit_or_lem a b i = ap (λ (x : ℕ). x % 2) (or_shr a b i ∙ or_step (a / 2 ^ i) (b / 2 ^ i)) ∙ digits_mod _ (low (bit_lt a i) (bit_lt b i))
  where
    low : {x y : ℕ} → x < 2 → y < 2 → max x y < 2
    low h k = omega arith

-- ---- a mask cut by another

without_step : (m k : ℕ) → without m k ≡ without (m / 2) (k / 2) * 2 + (m % 2 - k % 2)
unfolding without
without_step m k = ap (λ (x : ℕ). m - x) (and_step m k) ∙ apart m k (bit_and (m / 2) (k / 2)) (and_le_l (m / 2) (k / 2))
  where
    apart : (m k p : ℕ) → p ≤ m / 2 → m - (p * 2 + min (m % 2) (k % 2)) ≡ (m / 2 - p) * 2 + (m % 2 - k % 2)
    apart m k p h = omega arith

low_bit : (m k : ℕ) → m % 2 - k % 2 < 2
low_bit m k = omega arith

pub bit_without : (m k i : ℕ) → bit (without m k) i ≡ bit m i - bit k i
bit_without m k zero =
    bit_zero (without m k)
    ∙ ap (λ (x : ℕ). x % 2) (without_step m k)
    ∙ digits_mod (without (m / 2) (k / 2)) (low_bit m k)
    ∙ ap₂ (λ (x y : ℕ). x - y) (sym (bit_zero m)) (sym (bit_zero k))
bit_without m k (suc i) =
    bit_suc (without m k) i
    ∙ ap (λ (x : ℕ). bit x i) (ap (λ (x : ℕ). x / 2) (without_step m k) ∙ digits_div (without (m / 2) (k / 2)) (low_bit m k))
    ∙ bit_without (m / 2) (k / 2) i
    ∙ ap₂ (λ (x y : ℕ). x - y) (sym (bit_suc m i)) (sym (bit_suc k i))

pub without_le : (m k : ℕ) → without m k ≤ m
unfolding without
without_le m k = sub-le m (bit_and m k)

-- m & !k at w bits
pub and_not : (w m k : ℕ) → m < 2 ^ w → k < 2 ^ w → bit_and m ((2 ^ w - 1) - k) ≡ without m k
unfolding without
and_not zero m k h g = rw (lt-one h)
and_not (suc w) m k h g =
    and_step m ((2 ^ suc w - 1) - k)
    ∙ ap₂ (λ (x y : ℕ). bit_and (m / 2) x * 2 + min (m % 2) y) (half k g') (low k g')
    ∙ ap₂ (λ (x y : ℕ). x * 2 + y) (and_not w (m / 2) (k / 2) (half_below w m h) (half_below w k g)) (cut m k)
    ∙ sym (without_step m k)
  where
    twice : 2 ^ suc w ≡ 2 ^ w * 2
    twice = pow-suc 2 w

    g' : k < 2 ^ w * 2
    g' = subst (λ (p : ℕ). k < p) twice g

    half : (k : ℕ) → k < 2 ^ w * 2 → ((2 ^ suc w - 1) - k) / 2 ≡ (2 ^ w - 1) - k / 2
    half k h = omega (arith, twice)

    low : (k : ℕ) → k < 2 ^ w * 2 → ((2 ^ suc w - 1) - k) % 2 ≡ 1 - k % 2
    low k h = omega (arith, twice)

    cut : (m k : ℕ) → min (m % 2) (1 - k % 2) ≡ m % 2 - k % 2
    cut m k = omega arith

-- ---- one bit gained or lost

pub bit_pow_same : (i : ℕ) → bit (2 ^ i) i ≡ 1
bit_pow_same i = ap (λ (x : ℕ). x % 2) (div_self (pow_pos i))

pub bit_pow_other : (i j : ℕ) → (i ≡ j → ⊥) → bit (2 ^ i) j ≡ 0
bit_pow_other zero zero h = absurd (h refl)
bit_pow_other zero (suc j) h = bit_suc 1 j ∙ none j
bit_pow_other (suc i) zero h = bit_zero (2 ^ suc i) ∙ ap (λ (x : ℕ). x % 2) (pow-suc 2 i) ∙ mul-mod_left (2 ^ i) 2
bit_pow_other (suc i) (suc j) h =
    bit_suc (2 ^ suc i) j
    ∙ ap (λ (x : ℕ). bit x j) (ap (λ (x : ℕ). x / 2) (pow-suc 2 i) ∙ mul-div_cancel (2 ^ i) (zero-lt-suc 1))
    ∙ bit_pow_other i j (λ e. h (ap suc e))

pub gain_fits : (w m i : ℕ) → i < w → m < 2 ^ w → gain m i < 2 ^ w
unfolding gain
gain_fits w m i h g = or_lt w m (2 ^ i) g (pow-lt h)

pub lose-same : (m i : ℕ) → bit (lose m i) i ≡ 0
unfolding lose without
lose-same m i = bit_without m (2 ^ i) i ∙ ap (λ (b : ℕ). bit m i - b) (bit_pow_same i) ∙ gone (bit_lt m i)
  where
    gone : {n : ℕ} → n < 2 → n - 1 ≡ 0
    gone h = omega arith

pub lose_other : (m i j : ℕ) → (i ≡ j → ⊥) → bit (lose m i) j ≡ bit m j
unfolding lose without
lose_other m i j h = bit_without m (2 ^ i) j ∙ ap (λ (b : ℕ). bit m j - b) (bit_pow_other i j h) ∙ sub-zero (bit m j)

pub lose_le : (m i : ℕ) → lose m i ≤ m
unfolding lose without
lose_le m i = without_le m (2 ^ i)

-- the mask falls where a set bit is lost: the measure of a walk over the set bits
pub lose_less : (m i : ℕ) → bit m i ≡ 1 → lose m i < m
lose_less m i b = lt_of_le-ne (lose_le m i) (λ e. apart (bit m i) (sym (lose-same m i) ∙ ap (λ (x : ℕ). bit x i) e) b)
  where
    apart : (n : ℕ) → 0 ≡ n → n ≡ 1 → ⊥
    apart n p q = omega arith

pub gain-same : (m i : ℕ) → bit (gain m i) i ≡ 1
unfolding gain
gain-same m i = bit_or_lem m (2 ^ i) i ∙ ap (λ (b : ℕ). max (bit m i) b) (bit_pow_same i) ∙ top (bit_lt m i)
  where
    top : {n : ℕ} → n < 2 → max n 1 ≡ 1
    top h = omega arith

pub gain_other : (m i j : ℕ) → (i ≡ j → ⊥) → bit (gain m i) j ≡ bit m j
unfolding gain
gain_other m i j h = bit_or_lem m (2 ^ i) j ∙ ap (λ (b : ℕ). max (bit m j) b) (bit_pow_other i j h) ∙ same (bit m j)
  where
    same : (n : ℕ) → max n 0 ≡ n
    same n = omega arith

-- ---- the same of what `has` asks

-- of two digits
digits_all : (P : ℕ → ℕ → Type 0) → P 0 0 → P 0 1 → P 1 0 → P 1 1 → (x y : ℕ) → x < 2 → y < 2 → P x y
digits_all P a b c d zero zero h k = a
digits_all P a b c d zero (suc zero) h k = b
digits_all P a b c d zero (suc (suc y)) h k = absurd (omega arith)
digits_all P a b c d (suc zero) zero h k = c
digits_all P a b c d (suc zero) (suc zero) h k = d
digits_all P a b c d (suc zero) (suc (suc y)) h k = absurd (omega arith)
digits_all P a b c d (suc (suc x)) y h k = absurd (omega arith)

module _ (a b i : ℕ) where
  pub has_and : has (bit_and a b) i ≡ (has a i && has b i)
  has_and =
      ap (λ (x : ℕ). eqb x 1) (bit_and_lem a b i) ∙ digits_all (λ x y. eqb (min x y) 1 ≡ (eqb x 1 && eqb y 1)) refl refl refl refl (bit a i) (bit b i) (bit_lt a i) (bit_lt b i)

  pub has_or : has (bit_or a b) i ≡ (has a i || has b i)
  has_or =
      ap (λ (x : ℕ). eqb x 1) (bit_or_lem a b i) ∙ digits_all (λ x y. eqb (max x y) 1 ≡ (eqb x 1 || eqb y 1)) refl refl refl refl (bit a i) (bit b i) (bit_lt a i) (bit_lt b i)

  pub has-without : has (without a b) i ≡ (has a i && not (has b i))
  has-without =
      ap (λ (x : ℕ). eqb x 1) (bit_without a b i)
      ∙ digits_all (λ x y. eqb (x - y) 1 ≡ (eqb x 1 && not (eqb y 1))) refl refl refl refl (bit a i) (bit b i) (bit_lt a i) (bit_lt b i)

module _ (m i : ℕ) where
  pub has_gained : has (gain m i) i ≡ true
  has_gained = ap (λ (x : ℕ). eqb x 1) (gain-same m i)

  pub has_lost : has (lose m i) i ≡ false
  has_lost = ap (λ (x : ℕ). eqb x 1) (lose-same m i)

  module _ (j : ℕ) (h : i ≡ j → ⊥) where
    pub has-gain_other : has (gain m i) j ≡ has m j
    has-gain_other = ap (λ (x : ℕ). eqb x 1) (gain_other m i j h)

    pub has-lose_other : has (lose m i) j ≡ has m j
    has-lose_other = ap (λ (x : ℕ). eqb x 1) (lose_other m i j h)

-- ---- the lowest set bit

trailing_clear : (w m i : ℕ) → i < count_trailing_zeros w m → bit m i ≡ 0
unfolding count_trailing_zeros
trailing_clear zero m i h = absurd (not-suc-le-zero h)
trailing_clear (suc w) m i h = go (m % 2) i refl h (λ i l. trailing_clear w (m / 2) i l)
  where
    go : (r i : ℕ) → m % 2 ≡ r → i < under r (count_trailing_zeros w (m / 2)) → ((i : ℕ) → i < count_trailing_zeros w (m / 2) → bit (m / 2) i ≡ 0) → bit m i ≡ 0
    go zero zero e h below = bit_zero m ∙ e
    go zero (suc i) e h below = bit_suc m i ∙ below i (le_of_suc-le-suc h)
    go (suc r) i e h below = absurd (not-suc-le-zero h)

pub below_lowest : (m i : ℕ) → i < lowest m → has m i ≡ false
unfolding lowest
below_lowest m i h = ap (λ (x : ℕ). eqb x 1) (trailing_clear 64 m i h)

trailing_set : (w m : ℕ) → 0 < m → m < 2 ^ w → bit m (count_trailing_zeros w m) ≡ 1
unfolding count_trailing_zeros
trailing_set zero m h g = absurd (between m h g)
  where
    between : (m : ℕ) → 0 < m → m < 1 → ⊥
    between m h g = omega arith
trailing_set (suc w) m h g = go (m % 2) refl (λ (e : m % 2 ≡ 0). trailing_set w (m / 2) (half_pos m h e) (half_below w m g))
  where
    half_pos : (m : ℕ) → 0 < m → m % 2 ≡ 0 → 0 < m / 2
    half_pos m h e = omega arith

    is_one : (m r : ℕ) → m % 2 ≡ suc r → m % 2 ≡ 1
    is_one m r e = omega arith

    go : (r : ℕ) → m % 2 ≡ r → (m % 2 ≡ 0 → bit (m / 2) (count_trailing_zeros w (m / 2)) ≡ 1) → bit m (under r (count_trailing_zeros w (m / 2))) ≡ 1
    go zero e ih = bit_suc m (count_trailing_zeros w (m / 2)) ∙ ih e
    go (suc r) e ih = bit_zero m ∙ is_one m r e

module _ (m : ℕ) (h : 0 < m) (g : m < 2 ^ 64) where
  pub bit_lowest : bit m (lowest m) ≡ 1
  unfolding lowest
  bit_lowest = trailing_set 64 m h g

  pub lowest_lt : lowest m < 64
  unfolding lowest
  lowest_lt = lt_of_le-ne (trailing_le 64 m) (λ (e : lowest m ≡ 64). apart (bit m 64) (ap (λ (n : ℕ). n % 2) (div-eq_of_lt g)) (subst (λ (k : ℕ). bit m k ≡ 1) e bit_lowest))
    where
      apart : (n : ℕ) → n ≡ 0 → n ≡ 1 → ⊥
      apart n p q = omega arith
