-- The laws that the proofs of this crate cite, over plain numbers: sizes, signed numbers, sums with a modulo. Assumes nothing.
use Rattle.std.proofs.Common.{◌≡◌, ℕ, zero, suc, ◌+◌, ◌-◌, ◌*◌, ◌/◌, ◌%◌, ◌^◌, ◌<◌, ◌≤◌, Bool, true, false, cond, pos, negsuc, nat_lt, w16, w32, List, [], ◌∷◌, get_or, min, refl, sym, ap, ◌∙◌, inl, inr, div-mul-le_self, arith, pow_mono, le-ltb, lt-ltb, eq-eqb, ne_eqb}
use Rattle.std.specs.Int.{cast_unsigned, cast_signed}
use Rattle.std.proofs.lemmas.Grind.{div_ceil_times}
use lib.Bits.{bit_and, bit_or}
use native.Mathlib.Nat.{suc-mul, div-eq_of_lt-le}
use Rattle.std.proofs.Math.Numerals.{suc-eq-add-one}
use mir.Val.{sel}
use Rattle.rules.specs.Words.{wholes, wrap32, signed, modulo_add}
use Rattle.rules.proofs.Powers.{one_shl, low-low, low-replaced}
use Rattle.words.specs.Sizes.{a_size, Sized}

-- ---- sizes

sized : (n : ℕ) → a_size n → Sized n
sized n (inl e) = record { positive = omega arith; most = omega arith; which = inl e }
sized n (inr (inl e)) = record { positive = omega arith; most = omega arith; which = inr (inl e) }
sized n (inr (inr (inl e))) = record { positive = omega arith; most = omega arith; which = inr (inr (inl e)) }
sized n (inr (inr (inr (inl e)))) = record { positive = omega arith; most = omega arith; which = inr (inr (inr (inl e))) }
sized n (inr (inr (inr (inr e)))) = record { positive = omega arith; most = omega arith; which = inr (inr (inr (inr e))) }

abbrev sizes : List ℕ
sizes = 1 ∷ 2 ∷ 4 ∷ 1 ∷ 16 ∷ 32 ∷ 1 ∷ 1 ∷ []

-- the code's table at each of its entries
pub size_entry : (k : ℕ) → k < 8 → (get_or sizes k 0 ≡ get_or sizes k 1) × (Sized (get_or sizes k 0))
size_entry zero h = (refl, sized _ (inl refl))
size_entry (suc zero) h = (refl, sized _ (inr (inl refl)))
size_entry (suc (suc zero)) h = (refl, sized _ (inr (inr (inl refl))))
size_entry (suc (suc (suc zero))) h = (refl, sized _ (inl refl))
size_entry (suc (suc (suc (suc zero)))) h = (refl, sized _ (inr (inr (inr (inl refl)))))
size_entry (suc (suc (suc (suc (suc zero))))) h = (refl, sized _ (inr (inr (inr (inr refl)))))
size_entry (suc (suc (suc (suc (suc (suc zero)))))) h = (refl, sized _ (inl refl))
size_entry (suc (suc (suc (suc (suc (suc (suc zero))))))) h = (refl, sized _ (inl refl))
size_entry (suc (suc (suc (suc (suc (suc (suc (suc k)))))))) h = absurd (omega arith)

-- what n bytes round up to, as a quotient and one more for a rest
pub wholes_up : (n size : ℕ) → 0 < size → n / size + min 1 (n % size) ≡ wholes n size
unfolding wholes
wholes_up n size h =
    let q : ℕ = n / size + min 1 (n % size) in
    let times = div_ceil_times n size h in
    let next : (q + 1) * size ≡ q * size + size = ap (λ (x : ℕ). x * size) (sym (suc-eq-add-one q)) ∙ suc-mul q size in
    sym (div-eq_of_lt-le {k = q} size (omega (arith, times.1)) (omega (arith, next, times.0)))

-- it still fits into 32 bits
pub wholes_fit : (n size : ℕ) → n ≤ 2 ^ 22 → size ≤ 32 → wholes n size * size < 2 ^ 32
unfolding wholes
wholes_fit n size h k = omega (arith, div-mul-le_self (n + size - 1) size)

-- ---- signed numbers of w bits

module _ (w n : ℕ) where
  pub signed_low : n < 2 ^ (w - 1) → n ≡ signed w n
  unfolding signed
  signed_low h = rw (lt-ltb n (2 ^ (w - 1)) h)

  pub signed_high : w ≤ 32 → 2 ^ (w - 1) ≤ n → n + (2 ^ 32 - 2 ^ w) ≡ signed w n
  unfolding signed
  signed_high k h = rw (le-ltb n (2 ^ (w - 1)) h) (omega (arith, pow_mono k))

-- a number of 16 bits that is read as signed, and written with 32
abbrev pub wide : ℕ → ℕ
wide n = cast_unsigned w32 (cast_signed w16 n)

module _ (n : ℕ) (h : n < 2 ^ 16) where
  pub signed_wide : wide n ≡ signed 16 n
  unfolding signed
  signed_wide = either (nat_lt n (2 ^ 15))
    where
      either : (b : Bool) → cast_unsigned w32 (sel b (pos n) (negsuc (2 ^ 16 - suc n))) ≡ cond b n (n + 2 ^ 32 - 2 ^ 16)
      either true = refl
      either false = omega arith

  pub wide_fits : wide n < 2 ^ 32
  wide_fits = either (nat_lt n (2 ^ 15))
    where
      either : (b : Bool) → cast_unsigned w32 (sel b (pos n) (negsuc (2 ^ 16 - suc n))) < 2 ^ 32
      either true = omega arith
      either false = omega arith

-- ---- sums with a modulo

module _ (a d m : ℕ) where
  pub modulo_none : m ≡ 0 → (a + d) % 2 ^ 32 ≡ modulo_add a d m
  unfolding modulo_add wrap32
  modulo_none e = rw (eq-eqb m 0 e)

  -- (a & !mask) | (sum & mask), as the code makes the mask
  pub modulo_some : m < 32 → (m ≡ 0 → ⊥) → a < 2 ^ 32
      → bit_or (bit_and a ((2 ^ 32 - 1) - ((1 * 2 ^ m) % 2 ^ 32 - 1))) (bit_and ((a + d) % 2 ^ 32) ((1 * 2 ^ m) % 2 ^ 32 - 1)) ≡ modulo_add a d m
  unfolding modulo_add
  modulo_some h n g =
      rw (one_shl 32 m h, ne_eqb m 0 n)
      (low-replaced 32 m a _ (omega arith) g ∙ ap (λ (x : ℕ). a / 2 ^ m * 2 ^ m + x) (low-low 32 m (a + d) (omega arith)))
