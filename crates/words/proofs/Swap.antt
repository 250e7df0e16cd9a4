-- Bytes with the lowest first, as the code reads, swaps and lays them: each width is two of the half, and swapped twice they are as they were.
-- Assumes nothing.
use Rattle.std.proofs.Common.{◌≡◌, ℕ, zero, suc, ◌+◌, ◌*◌, ◌/◌, ◌%◌, ◌^◌, List, [], ◌∷◌, ◌++◌, reverse, length, sym, ap, ◌∙◌, mod-lt, zero-lt-suc, div-add-mod', arith}
use mathlib.Core.List.{reverse_aux, reverse-append, reverse-reverse}
use native.Mathlib.Nat.{one-le-pow}
use lib.ListN.{length-reverse}
use Rattle.rules.specs.Bytes.{bytes, number, part, splice, Bytes}
use Rattle.rules.proofs.BytesLaws.{length_part, length_bytes, part_append, number_append, splice_append, splice_comm, bytes_join, bytes_of_value, bytes-part, bytes-bytes}

-- ---- two of w are one of w + w

pub low_two : (w : ℕ) (s : List ℕ) (at : ℕ) {low high : ℕ}
    → low ≡ number (reverse (part s at w)) → high ≡ number (reverse (part s (at + w) w)) → high * 256 ^ w + low ≡ number (reverse (part s at (w + w)))
low_two w s at l h =
    let first : List ℕ = part s at w in
    let then : List ℕ = part s (at + w) w in
    rw (part_append s at w w, reverse-append first then, number_append (reverse then) (reverse first), length-reverse first, length_part s at w, l, h)

module _ (w v : ℕ) where
  -- the low half stands first
  reverse_two : reverse (bytes (w + w) v) ≡ reverse (bytes w (v % 256 ^ w)) ++ reverse (bytes w (v / 256 ^ w))
  reverse_two =
      ap (λ (x : ℕ). reverse (bytes (w + w) x)) (sym (div-add-mod' v (256 ^ w)))
      ∙ ap (reverse {A = ℕ}) (bytes_join w w (v / 256 ^ w) (v % 256 ^ w) (mod-lt v (one-le-pow w 256 (zero-lt-suc 255))))
      ∙ reverse-append (bytes w (v / 256 ^ w)) (bytes w (v % 256 ^ w))

  pub swap_two : {low high : ℕ} → low ≡ number (reverse (bytes w (v % 256 ^ w))) → high ≡ number (reverse (bytes w (v / 256 ^ w)))
      → low * 256 ^ w + high ≡ number (reverse (bytes (w + w) v))
  swap_two l h =
      let low : List ℕ = bytes w (v % 256 ^ w) in
      let high : List ℕ = bytes w (v / 256 ^ w) in
      rw (reverse_two, number_append (reverse low) (reverse high), length-reverse high, length_bytes w (v / 256 ^ w), l, h)

  pub lay_two : (s : List ℕ) (at : ℕ) {s₁ s₂ : List ℕ}
      → s₁ ≡ splice s at (reverse (bytes w (v % 256 ^ w))) → s₂ ≡ splice s₁ (at + w) (reverse (bytes w (v / 256 ^ w)))
      → s₂ ≡ splice s at (reverse (bytes (w + w) v))
  lay_two s at l h =
      let low : List ℕ = reverse (bytes w (v % 256 ^ w)) in
      let high : List ℕ = reverse (bytes w (v / 256 ^ w)) in
      let long : length low ≡ w = length-reverse (bytes w (v % 256 ^ w)) ∙ length_bytes w (v % 256 ^ w) in
      h
      ∙ ap (λ (x : List ℕ). splice x (at + w) high) l
      ∙ splice_comm s at low (at + w) high (omega (arith, long))
      ∙ ap (λ (k : ℕ). splice (splice s (at + k) high) at low) (sym long)
      ∙ sym (splice_append s at low high)
      ∙ ap (splice s at) (sym reverse_two)

-- ---- swapped, they are the number with the highest first

bytes_reverse : (xs ys : List ℕ) → Bytes xs → Bytes ys → Bytes (reverse_aux xs ys)
bytes_reverse [] ys h k = k
bytes_reverse (x ∷ xs) ys h k = bytes_reverse xs (x ∷ ys) (λ i. h (suc i)) more
  where
    more : Bytes (x ∷ ys)
    more zero = h 0
    more (suc i) = k i

reverse_back : (w : ℕ) (xs : List ℕ) → Bytes xs → length xs ≡ w → reverse (bytes w (number (reverse xs))) ≡ xs
reverse_back w xs h e =
    ap (λ (k : ℕ). reverse (bytes k (number (reverse xs)))) (sym e ∙ sym (length-reverse xs))
    ∙ ap (reverse {A = ℕ}) (bytes_of_value (reverse xs) (bytes_reverse xs [] h (λ i. omega arith)))
    ∙ reverse-reverse xs

pub get_swapped : (w : ℕ) (s : List ℕ) (at : ℕ) {v r : ℕ} → Bytes s → v ≡ number (reverse (part s at w)) → r ≡ number (reverse (bytes w v))
    → r ≡ number (part s at w)
get_swapped w s at h v r = r ∙ rw v (ap number (reverse_back w (part s at w) (bytes-part s at w h) (length_part s at w)))

pub put_swapped : (w : ℕ) (s : List ℕ) (at v : ℕ) {v₁ : ℕ} {s₁ : List ℕ} → v₁ ≡ number (reverse (bytes w v)) → s₁ ≡ splice s at (reverse (bytes w v₁))
    → s₁ ≡ splice s at (bytes w v)
put_swapped w s at v e h = h ∙ rw e (ap (splice s at) (reverse_back w (bytes w v) (bytes-bytes w v) (length_bytes w v)))
