-- Hexadecimal digits, by cases and turn by turn. Assumes nothing.
use mathlib.Core.Bool.{Bool, true, false, cond, ◌&&◌, false≢true}
use mathlib.Core.List.{List}
use mathlib.Core.Path.{◌≡◌, refl, sym, ap, ◌∙◌}
use Prim.Native.Nat.{ℕ, suc, ◌+◌, ◌-◌, ◌*◌, ◌%◌, ◌^◌, ◌≤◌, ◌<◌}
use native.Mathlib.Omega.{arith}
use borrow.Author.Tests.{leb-true, lt-ltb, le-ltb, eqb-true, eqb-false}
use lib.Dec.{eqb, leb}
use lib.ListN.{get_or}
use Rattle.std.proofs.Common.{Option, None, Some, is_some}
use Rattle.std.specs.Prelude.{unwrap_or}
use Rattle.rules.proofs.BoolLaws.{and_right}
use Rattle.capture_file.specs.Hex.{nibble_of, digit_in, digits_from, spelled_from}

-- a digit's number

pub nibble_most : (b : ℕ) → nibble_of b ≤ 16
unfolding nibble_of
nibble_most b = by (leb 48 b && leb b 57) (leb 97 b && leb b 102) (leb 65 b && leb b 70) refl refl refl
  where
    by : (s t u : Bool) → (leb 48 b && leb b 57) ≡ s → (leb 97 b && leb b 102) ≡ t → (leb 65 b && leb b 70) ≡ u → cond s (b - 48) (cond t (b - 87) (cond u (b - 55) 16)) ≤ 16
    by true t u e f g = omega (arith, leb-true b 57 (and_right (leb 48 b) (leb b 57) e))
    by false true u e f g = omega (arith, leb-true b 102 (and_right (leb 97 b) (leb b 102) f))
    by false false true e f g = omega (arith, leb-true b 70 (and_right (leb 65 b) (leb b 70) g))
    by false false false e f g = omega arith

module _ (b : ℕ) {o : Option ℕ} (e : o ≡ digit_in b) where
  pub not_none : is_some o ≡ true → nibble_of b < 16
  unfolding digit_in
  not_none h = by (eqb (nibble_of b) 16) refl (sym (ap (λ (x : Option ℕ). is_some x) e) ∙ h)
    where
      by : (t : Bool) → eqb (nibble_of b) 16 ≡ t → ◌≡◌ {A = Bool} (is_some (cond t None (Some (nibble_of b)))) true → nibble_of b < 16
      by true q k = absurd (false≢true k)
      by false q k = omega (arith, eqb-false (nibble_of b) 16 q, nibble_most b)

  pub is_nothing : is_some o ≡ false → 16 ≤ nibble_of b
  unfolding digit_in
  is_nothing h = by (eqb (nibble_of b) 16) refl (sym (ap (λ (x : Option ℕ). is_some x) e) ∙ h)
    where
      by : (t : Bool) → eqb (nibble_of b) 16 ≡ t → ◌≡◌ {A = Bool} (is_some (cond t None (Some (nibble_of b)))) false → 16 ≤ nibble_of b
      by true q k = omega (arith, eqb-true (nibble_of b) 16 q)
      by false q k = absurd (false≢true (sym k))

  -- 16 is 0, modulo 16
  pub digit_or : unwrap_or o 0 ≡ nibble_of b % 16
  unfolding digit_in
  digit_or = ap (λ (x : Option ℕ). unwrap_or x 0) e ∙ by (eqb (nibble_of b) 16) refl
    where
      by : (t : Bool) → eqb (nibble_of b) 16 ≡ t → ◌≡◌ {A = ℕ} (unwrap_or (cond t None (Some (nibble_of b))) 0) (nibble_of b % 16)
      by true q = omega (arith, eqb-true (nibble_of b) 16 q)
      by false q = let few : nibble_of b < 16 = omega (arith, eqb-false (nibble_of b) 16 q, nibble_most b) in omega (arith, few)

-- ---- digits alone

module _ (text : List ℕ) (k n : ℕ) where
  pub digit_on : k < n → nibble_of (get_or text k 0) < 16 → digits_from text (k + 1) (n - (k + 1)) ≡ digits_from text k (n - k)
  unfolding digits_from
  digit_on h l =
      let left : n - k ≡ suc (n - (k + 1)) = omega arith in
      rw (left, lt-ltb _ 16 l)

  pub digit_off : k < n → 16 ≤ nibble_of (get_or text k 0) → digits_from text k (n - k) ≡ false
  unfolding digits_from
  digit_off h l =
      let left : n - k ≡ suc (n - (k + 1)) = omega arith in
      rw (left, le-ltb _ 16 l)

  pub digits_end : n ≤ k → digits_from text k (n - k) ≡ true
  unfolding digits_from
  digits_end h =
      let left : n - k ≡ 0 = omega arith in
      rw left

  -- what they spell
  pub spelled_on : (v : ℕ) → k < n → {d : ℕ} → d ≡ nibble_of (get_or text k 0) % 16 → spelled_from text (v % 2 ^ 28 * 16 + d) (k + 1) (n - (k + 1)) ≡ spelled_from text v k (n - k)
  unfolding spelled_from
  spelled_on v h e =
      let left : n - k ≡ suc (n - (k + 1)) = omega arith in
      rw (left, e)

  pub spelled_end : (v : ℕ) → n ≤ k → spelled_from text v k (n - k) ≡ v
  unfolding spelled_from
  spelled_end v h =
      let left : n - k ≡ 0 = omega arith in
      rw left
