-- Bytes of a register are bits of it: over the bytes above them, their number w, and those below. Assumes nothing.
use mathlib.Core.List.{List, [], ◌∷◌, ◌++◌}
use mathlib.Core.Path.{◌≡◌, refl, sym, ap, ap₂, ◌∙◌, subst}
use Prim.Native.Nat.{ℕ, zero, suc, ◌+◌, ◌-◌, ◌*◌, ◌/◌, ◌%◌, ◌^◌, ◌≤◌, ◌<◌}
use native.Mathlib.Nat.{pow-suc, div-add-mod', mod-lt, mod-mod, div-lt_iff_lt-mul, add-mul, mul_assoc, mul_comm, div-one}
use native.Mathlib.Omega.{arith}
use lib.ListN.{length, set, length-append}
use lib.Pow.{pow-add, pow_pos, shr-shr}
use Rattle.rules.specs.Bytes.{bytes, number, part, splice}
use Rattle.rules.specs.Lines.{bits_from, with_bits_from}
use Rattle.rules.specs.Registers.{bytes_in, with_bytes_in}
use Rattle.rules.proofs.BytesLaws.{bytes_join, number_append, value_of_bytes, value_fits, length_bytes, part-splice-same}

-- ---- a list in three parts, the middle one replaced or read

splice_tail : (x : ℕ) (l : List ℕ) (i : ℕ) (vs : List ℕ) → splice (x ∷ l) (suc i) vs ≡ x ∷ splice l i vs
unfolding splice
splice_tail x l i [] = refl
splice_tail x l i (v ∷ vs) = ap (λ (k : List ℕ). set k (suc i) v) (splice_tail x l (suc i) vs)

splice_front : (ys vs zs : List ℕ) → length ys ≡ length vs → splice (ys ++ zs) 0 vs ≡ vs ++ zs
unfolding splice
splice_front [] [] zs e = refl
splice_front [] (v ∷ vs) zs e = absurd (omega arith)
splice_front (y ∷ ys) [] zs e = absurd (omega arith)
splice_front (y ∷ ys) (v ∷ vs) zs e =
    ap (λ (k : List ℕ). set k 0 v) (splice_tail y (ys ++ zs) 0 vs) ∙ ap (λ (k : List ℕ). v ∷ k) (splice_front ys vs zs (omega arith))

splice_middle : (xs ys vs zs : List ℕ) → length ys ≡ length vs → splice ((xs ++ ys) ++ zs) (length xs) vs ≡ (xs ++ vs) ++ zs
splice_middle [] ys vs zs e = splice_front ys vs zs e
splice_middle (x ∷ xs) ys vs zs e = splice_tail x ((xs ++ ys) ++ zs) (length xs) vs ∙ ap (λ (k : List ℕ). x ∷ k) (splice_middle xs ys vs zs e)

part_middle : (xs ys zs : List ℕ) → part ((xs ++ ys) ++ zs) (length xs) (length ys) ≡ ys
part_middle xs ys zs =
    ap (λ (l : List ℕ). part l (length xs) (length ys)) (sym (splice_middle xs ys ys zs refl))
    ∙ part-splice-same ((xs ++ ys) ++ zs) (length xs) ys (omega (arith, length-append (xs ++ ys) zs, length-append xs ys))

-- ---- a number in three parts

byte_pow : (n : ℕ) → 256 ^ n ≡ 2 ^ (8 * n)
byte_pow zero = refl
byte_pow (suc n) = pow-suc 256 n ∙ ap (λ (p : ℕ). p * 256) (byte_pow n) ∙ sym (pow-add 2 (8 * n) 8) ∙ ap (λ (k : ℕ). 2 ^ k) (next n)
  where
    next : (n : ℕ) → 8 * n + 8 ≡ 8 * suc n
    next n = omega arith

bytes_pos : (n : ℕ) → 0 < 256 ^ n
bytes_pos n = rw (byte_pow n) (pow_pos (8 * n))

module _ (a w b x : ℕ) (fits : x < 256 ^ (a + w + b)) where
  above : ℕ
  above = x / 256 ^ b / 256 ^ w

  middle : ℕ
  middle = x / 256 ^ b % 256 ^ w

  below : ℕ
  below = x % 256 ^ b

  above_lt : above < 256 ^ a
  unfolding above
  above_lt =
      let h : x / 256 ^ b < 256 ^ (a + w) = (div-lt_iff_lt-mul (bytes_pos b)).1 (subst (λ (p : ℕ). x < p) (pow-add 256 (a + w) b) fits) in
      (div-lt_iff_lt-mul (bytes_pos w)).1 (subst (λ (p : ℕ). x / 256 ^ b < p) (pow-add 256 a w) h)

  in_three : bytes (a + w + b) x ≡ (bytes a above ++ bytes w middle) ++ bytes b below
  unfolding above middle below
  in_three =
      ap (bytes (a + w + b)) (sym (div-add-mod' x (256 ^ b)))
      ∙ bytes_join (a + w) b (x / 256 ^ b) (x % 256 ^ b) (mod-lt x (bytes_pos b))
      ∙ ap (λ (l : List ℕ). l ++ bytes b (x % 256 ^ b))
      (ap (bytes (a + w)) (sym (div-add-mod' (x / 256 ^ b) (256 ^ w))) ∙ bytes_join a w (x / 256 ^ b / 256 ^ w) (x / 256 ^ b % 256 ^ w) (mod-lt (x / 256 ^ b) (bytes_pos w)))

  read_parts : part (bytes (a + w + b) x) a w ≡ bytes w middle
  read_parts = rw in_three (rw (length_bytes a above, length_bytes w middle) at (part_middle (bytes a above) (bytes w middle) (bytes b below)))

  read_bits : number (part (bytes (a + w + b) x) a w) ≡ bits_from (8 * b) (8 * w) x
  unfolding bits_from middle
  read_bits =
      ap number read_parts ∙ value_of_bytes w middle ∙ mod-mod (x / 256 ^ b) (256 ^ w)
      ∙ ap₂ (λ (p q : ℕ). x / p % q) (byte_pow b) (byte_pow w)

  module _ (v : ℕ) where
    written_parts : splice (bytes (a + w + b) x) a (bytes w v) ≡ (bytes a above ++ bytes w v) ++ bytes b below
    written_parts =
        rw in_three
        (rw (length_bytes a above) at
        (splice_middle (bytes a above) (bytes w middle) (bytes w v) (bytes b below) (length_bytes w middle ∙ sym (length_bytes w v))))

    written-number : number (splice (bytes (a + w + b) x) a (bytes w v)) ≡ (above * 256 ^ w + v % 256 ^ w) * 256 ^ b + below
    unfolding below
    written-number =
        ap number written_parts
        ∙ number_append (bytes a above ++ bytes w v) (bytes b below)
        ∙ ap₂ (λ (p q : ℕ). p + q)
        (ap₂ (λ (p n : ℕ). p * 256 ^ n)
        (number_append (bytes a above) (bytes w v) ∙ ap₂ (λ (p q : ℕ). p + q) (ap₂ (λ (p n : ℕ). p * 256 ^ n) (value_fits a above_lt) (length_bytes w v)) (value_of_bytes w v))
        (length_bytes b below))
        (value_of_bytes b below ∙ mod-mod x (256 ^ b))

    written_bits : number (splice (bytes (a + w + b) x) a (bytes w v)) ≡ with_bits_from (8 * b) (8 * w) (bits_from 0 (8 * w) v) x
    unfolding with_bits_from bits_from above below
    written_bits = written-number ∙ rw (byte_pow w, byte_pow b, shr-shr, pow-add 2 (8 * b) (8 * w), div-one v) (regrouped _ _ _ _ _)
      where
        regrouped : (h p v q l : ℕ) → (h * p + v) * q + l ≡ h * (q * p) + v * q + l
        regrouped h p v q l = rw (add-mul (h * p) v q, mul_assoc h p q, mul_comm p q) refl

-- ---- the register

module _ (i size register : ℕ) (h : i + size ≤ 8) (fits : register < 2 ^ 64) where
  below8 : ℕ
  below8 = 8 - (i + size)

  all8 : i + size + below8 ≡ 8
  unfolding below8
  all8 = omega arith

  fits8 : register < 256 ^ (i + size + below8)
  fits8 = rw all8 fits

  pub bytes_bits : bytes_in i size register ≡ bits_from (8 * (8 - (i + size))) (8 * size) register
  unfolding bytes_in below8
  bytes_bits = ap (λ (n : ℕ). number (part (bytes n register) i size)) (sym all8) ∙ read_bits i size below8 register fits8

  pub with_bytes_bits : (v : ℕ) → with_bytes_in i size v register ≡ with_bits_from (8 * (8 - (i + size))) (8 * size) (bits_from 0 (8 * size) v) register
  unfolding with_bytes_in below8
  with_bytes_bits v = ap (λ (n : ℕ). number (splice (bytes n register) i (bytes size v))) (sym all8) ∙ written_bits i size below8 register fits8 v
