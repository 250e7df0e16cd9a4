-- The bytes that are an image, number by number: the device that stands in them is laid down as they are exactly if the settings' bytes are
-- those of settings and no number is wider than its bits. Assumes nothing.
use Rattle.std.specs.List.{starts_with}
use Rattle.std.specs.Cmp.Lexicographic.{pointwise, same_text, other_text}
use Rattle.std.proofs.Common.{nat_eq}
use lib.ListN.{take}
use Rattle.rules.proofs.Cut.{part_cut}
use Rattle.image.proofs.Laws.{length_numbers, alike_same, alike_self}
use mathlib.Core.Bool.{Bool, true, false, cond, ◌&&◌, false≢true, and_assoc, and-true}
use mathlib.Core.List.{List, [], ◌∷◌, ◌++◌}
use mathlib.Core.Path.{◌≡◌, refl, sym, ap, ap₂, ◌∙◌, subst}
use Prim.Native.Nat.{ℕ, zero, suc, ◌+◌, ◌-◌, ◌*◌, ◌/◌, ◌%◌, ◌^◌, ◌≤◌, ◌<◌, max}
use native.Mathlib.Nat.{mod-lt, mod-le, mod-one, mod-eq_of_lt, div-eq_of_lt, lt_of_le_of_lt, le-max_left, le-max_right, max-le, suc-max-suc}
use native.Mathlib.Nat.{zero-add, add-zero, add-suc, suc-add, zero-mul, sub-zero, sub_self}
use native.Mathlib.Omega.{arith}
use borrow.Author.Tests.{eqb-true, eq-eqb, ltb-true, lt-ltb}
use lib.Dec.{eqb, ltb}
use lib.ListN.{length, get_or, set, replicate, length-append}
use lib.Pow.{pow_pos, split}
use Rattle.rules.specs.Bytes.{Bytes, bytes, number, part}
use Rattle.rules.specs.Fields.{joined, masks_of, own_of, parts_of, fields_of}
use Rattle.rules.specs.Scalars.{scalar_bits}
use Rattle.rules.proofs.BoolLaws.{and_left, and_right, and_both}
use Rattle.rules.proofs.BytesLaws.{splice-part, length_bytes, value_fits, length_part, part_append, part_back, part_lt}
use Rattle.rules.proofs.FieldLaws.{sizes, bit_parts}
use Rattle.device.specs.Spots.{cut}
use Rattle.image.specs.Image.{laid, setting_bytes, image_of, number_in, numbers_in, scalars_in, controller_in, chip_in, device_in, held_bits, held_in, alike, is_image}
use Rattle.image.specs.Fits.{fits_in, setting_fits, scalars_fit, own_bits}
use Rattle.image.proofs.Laws.{splice_all, number_of, flags, flags-laid, scalars_got, alike_same, alike_self, alike_append}
use Rattle.image.proofs.Rows.{total, length_joined, length_flagged}

-- ---- two tests that say the same

same_test : (s t : Bool) → (s ≡ true → t ≡ true) → (t ≡ true → s ≡ true) → s ≡ t
same_test true t f g = sym (f refl)
same_test false true f g = absurd (false≢true (g refl))
same_test false false f g = refl

cond_and : (s t : Bool) → cond s t false ≡ s && t
cond_and true t = refl
cond_and false t = refl

-- a number's bytes are those that stand there
alike-bytes : (b : List ℕ) (w v at : ℕ) → Bytes b → v < 256 ^ w → alike (bytes w v) (part b at w) ≡ eqb (number (part b at w)) v
alike-bytes b w v at h l =
    let x = number (part b at w) in
    same_test (alike (bytes w v) (part b at w)) (eqb x v)
    (λ e. eq-eqb x v (sym (ap number (alike_same (bytes w v) (part b at w) e)) ∙ value_fits w l))
    (λ e. ap (λ m. alike m (part b at w)) (ap (bytes w) (sym (eqb-true x v e)) ∙ part_back b at w h) ∙ alike_self (part b at w))

-- what is kept of a number is all of it
kept_fits : (bits x : ℕ) → eqb x (x % 2 ^ bits) ≡ ltb x (2 ^ bits)
kept_fits bits x =
    same_test (eqb x (x % 2 ^ bits)) (ltb x (2 ^ bits))
    (λ e. lt-ltb x (2 ^ bits) (rw (sym (eqb-true x (x % 2 ^ bits) e)) at (mod-lt x (pow_pos bits))))
    (λ e. eq-eqb x (x % 2 ^ bits) (sym (mod-eq_of_lt (ltb-true x (2 ^ bits) e))))

-- nothing is above its bits
none_above : (bits x : ℕ) → eqb (x / 2 ^ bits) 0 ≡ ltb x (2 ^ bits)
none_above bits x =
    same_test (eqb (x / 2 ^ bits) 0) (ltb x (2 ^ bits))
    (λ e. lt-ltb x (2 ^ bits) (low (x / 2 ^ bits) (x % 2 ^ bits) (2 ^ bits) x (eqb-true (x / 2 ^ bits) 0 e) (mod-lt x (pow_pos bits)) (split x bits)))
    (λ e. eq-eqb (x / 2 ^ bits) 0 (div-eq_of_lt (ltb-true x (2 ^ bits) e)))
  where
    low : (q r p x : ℕ) → q ≡ 0 → r < p → q * p + r ≡ x → x < p
    low q r p x e h f = subst (λ n. n < p) (rw (e, zero-mul p, zero-add r) at f) h

-- the greater of two fits where both do
max_fits : (bits x y : ℕ) → ltb (max x y) (2 ^ bits) ≡ ltb y (2 ^ bits) && ltb x (2 ^ bits)
max_fits bits x y =
    let p = 2 ^ bits in
    same_test (ltb (max x y) p) (ltb y p && ltb x p)
    (λ e. and_both (lt-ltb y p (lt_of_le_of_lt (le-max_right x y) (ltb-true (max x y) p e))) (lt-ltb x p (lt_of_le_of_lt (le-max_left x y) (ltb-true (max x y) p e))))
    (λ e. lt-ltb (max x y) p (rw suc-max-suc at (max-le (ltb-true x p (and_right (ltb y p) (ltb x p) e)) (ltb-true y p (and_left (ltb y p) (ltb x p) e)))))

-- ---- numbers read from bytes, each cut to its bits, are those that stand there

module _ (b : List ℕ) (h : Bytes b) where
  whole_in : (n : ℕ) → number_in 64 b n ≡ number (part b (2064 + 8 * n) 8)
  unfolding number_in
  whole_in n = mod-eq_of_lt (part_lt 8 b (2064 + 8 * n) 8 h (omega arith))

  kept_in : (bits n : ℕ) → eqb (number_in 64 b n) (number_in bits b n) ≡ ltb (number_in 64 b n) (2 ^ bits)
  unfolding number_in
  kept_in bits n = ap (λ m. eqb (number_in 64 b n) (m % 2 ^ bits)) (sym (whole_in n)) ∙ kept_fits bits (number_in 64 b n)

  numbers_fit : (bs : List ℕ) (n : ℕ) → alike (numbers_in 64 b n (length bs)) (scalars_in bs b n) ≡ fits_in bs b n
  unfolding scalars_in numbers_in fits_in alike
  numbers_fit [] n = refl
  numbers_fit (w ∷ ws) n = rw (kept_in w n, numbers_fit ws (suc n)) (cond_and (ltb (number_in 64 b n) (2 ^ w)) (fits_in ws b (suc n)))

  -- and so are their bytes
  in_eight : (bits n : ℕ) → number_in bits b n < 256 ^ 8
  unfolding number_in
  in_eight bits n = lt_of_le_of_lt (mod-le (number (part b (2064 + 8 * n) 8)) (2 ^ bits)) (part_lt 8 b (2064 + 8 * n) 8 h (omega arith))

  bytes_fit : (bs : List ℕ) (n : ℕ) → alike (laid (scalars_in bs b n)) (part b (2064 + 8 * n) (8 * length bs)) ≡ fits_in bs b n
  unfolding laid scalars_in fits_in part alike
  bytes_fit [] n = refl
  bytes_fit (w ∷ ws) n =
      let x = number_in w b n in
      let at = 2064 + 8 * n in
      let xs = laid (scalars_in ws b (suc n)) in
      let ys = part b (2064 + 8 * suc n) (8 * length ws) in
      let long : 8 * suc (length ws) ≡ 8 + 8 * length ws = omega arith in
      let next : at + 8 ≡ 2064 + 8 * suc n = omega arith in
      let two : part b at (8 * suc (length ws)) ≡ part b at 8 ++ ys = ap (part b at) long ∙ part_append b at 8 (8 * length ws) ∙ ap (λ m. part b at 8 ++ part b m (8 * length ws)) next in
      ap (alike (bytes 8 x ++ xs)) two
      ∙ alike_append (bytes 8 x) xs (part b at 8) ys (length_bytes 8 x ∙ sym (length_part b at 8))
      ∙ ap₂ ◌&&◌ (alike-bytes b 8 x at h (in_eight w n) ∙ ap (λ m. eqb m x) (sym (whole_in n)) ∙ kept_in w n) (bytes_fit ws (suc n))

-- ---- rows, one behind the other

in_append : (bs cs b : List ℕ) (n : ℕ) → scalars_in (bs ++ cs) b n ≡ scalars_in bs b n ++ scalars_in cs b (n + length bs)
unfolding scalars_in
in_append [] cs b n = ap (scalars_in cs b) (sym (add-zero n))
in_append (w ∷ ws) cs b n =
    let next : suc n + length ws ≡ n + suc (length ws) = suc-add n (length ws) ∙ sym (add-suc n (length ws)) in
    ap (λ l. number_in w b n ∷ l) (in_append ws cs b (suc n) ∙ ap (λ m. scalars_in ws b (suc n) ++ scalars_in cs b m) next)

fits_append : (bs cs b : List ℕ) (n : ℕ) → fits_in (bs ++ cs) b n ≡ fits_in bs b n && fits_in cs b (n + length bs)
unfolding fits_in
fits_append [] cs b n = ap (fits_in cs b) (sym (add-zero n))
fits_append (w ∷ ws) cs b n =
    let next : suc n + length ws ≡ n + suc (length ws) = suc-add n (length ws) ∙ sym (add-suc n (length ws)) in
    let first = ltb (number_in 64 b n) (2 ^ w) in
    ap (λ t. first && t) (fits_append ws cs b (suc n) ∙ ap (λ m. fits_in ws b (suc n) && fits_in cs b m) next)
    ∙ sym (and_assoc first (fits_in ws b (suc n)) (fits_in cs b (n + suc (length ws))))

-- numbers of the same bits; of none: 0
numbers_in_lem : (bits : ℕ) (b : List ℕ) (n k : ℕ) → numbers_in bits b n k ≡ scalars_in (replicate k bits) b n
unfolding numbers_in scalars_in
numbers_in_lem bits b n zero = refl
numbers_in_lem bits b n (suc k) = ap (λ l. number_in bits b n ∷ l) (numbers_in_lem bits b (suc n) k)

zeros_in : (b : List ℕ) (n k : ℕ) → replicate k 0 ≡ scalars_in (replicate k 0) b n
unfolding scalars_in number_in
zeros_in b n zero = refl
zeros_in b n (suc k) = ap₂ (λ x l. x ∷ l) (sym (mod-one (number (part b (2064 + 8 * n) 8)))) (zeros_in b (suc n) k)

-- every number fits 64 bits
wide_fits : (b : List ℕ) (n : ℕ) → ltb (number_in 64 b n) (2 ^ 64) ≡ true
unfolding number_in
wide_fits b n = lt-ltb (number (part b (2064 + 8 * n) 8) % 2 ^ 64) (2 ^ 64) (mod-lt (number (part b (2064 + 8 * n) 8)) (pow_pos 64))

wides_fit : (b : List ℕ) (n k : ℕ) → fits_in (replicate k 64) b n ≡ true
unfolding fits_in
wides_fit b n zero = refl
wides_fit b n (suc k) = rw (wide_fits b n) (wides_fit b (suc n) k)

-- the parts ps are the numbers of these bits from place n on
abbrev Read : List (List ℕ) → List (List ℕ) → List ℕ → ℕ → Type 0
Read [] [] b n = Unit {0}
Read [] (p ∷ ps) b n = ⊥
Read (w ∷ ws) [] b n = ⊥
Read (w ∷ ws) (p ∷ ps) b n = (p ≡ scalars_in w b n) × Read ws ps b (n + length w)

joined_in : (ws ps : List (List ℕ)) (b : List ℕ) (n : ℕ) → Read ws ps b n → joined ps ≡ scalars_in (joined ws) b n
unfolding joined scalars_in
joined_in [] [] b n r = refl
joined_in [] (p ∷ ps) b n r = absurd r
joined_in (w ∷ ws) [] b n r = absurd r
joined_in (w ∷ ws) (p ∷ ps) b n r = ap₂ ◌++◌ r.0 (joined_in ws ps b (n + length w) r.1) ∙ sym (in_append w (joined ws) b n)

abbrev rows_fit : List (List ℕ) → List ℕ → ℕ → Bool
rows_fit [] b n = true
rows_fit (w ∷ ws) b n = fits_in w b n && rows_fit ws b (n + length w)

joined_fit : (ws : List (List ℕ)) (b : List ℕ) (n : ℕ) → fits_in (joined ws) b n ≡ rows_fit ws b n
unfolding joined fits_in
joined_fit [] b n = refl
joined_fit (w ∷ ws) b n = fits_append w (joined ws) b n ∙ ap (λ t. fits_in w b n && t) (joined_fit ws b (n + length w))

-- ---- the image

-- the bits that the fields may have in an image of a mode: those that they have in it, but for priorities
unfoldable pub row_bits : Bool → List (List ℕ)
row_bits chip = set (bit_parts chip) 11 (replicate 64 (held_bits chip))

rows_long : (chip : Bool) → length (joined (row_bits chip)) ≡ 832
unfolding total row_bits bit_parts
rows_long chip = length_joined sizes (row_bits chip) (refl, (refl, (refl, (refl, (refl, (refl, (refl, (refl, (refl, (refl, (refl, (refl, tt))))))))))))

rows_read : (b : List ℕ) → Read (row_bits (chip_in b)) (parts_of (held_in b)) b 0
unfolding row_bits bit_parts parts_of own_of held_in device_in controller_in scalars_in
rows_read b =
    let own : List ℕ → List ℕ = λ l. masks_of (controller_in b 0) (masks_of (controller_in b 1) (masks_of (controller_in b 2) l)) in (
      refl,
      (
        zeros_in b (length scalar_bits) (16 - length scalar_bits),
        (
          ap own (zeros_in b 28 36),
          (
            numbers_in_lem 64 b 64 64,
            (
              numbers_in_lem 64 b 128 64,
              (
                numbers_in_lem 32 b 192 64,
                (numbers_in_lem 8 b 256 64, (numbers_in_lem 8 b 320 64, (numbers_in_lem 8 b 384 64, (zeros_in b 448 128, (numbers_in_lem 64 b 576 192, (numbers_in_lem (held_bits (chip_in b)) b 768 64, tt)))))),
              ),
            ),
          ),
        ),
      ),
    )

fields_fit : (b : List ℕ) → Bytes b → alike (laid (fields_of (held_in b))) (part b 2064 6656) ≡ fits_in (joined (row_bits (chip_in b))) b 0
unfolding fields_of
fields_fit b h =
    let bits = joined (row_bits (chip_in b)) in
    ap (λ l. alike (laid l) (part b 2064 6656)) (joined_in (row_bits (chip_in b)) (parts_of (held_in b)) b 0 (rows_read b))
    ∙ ap (λ n. alike (laid (scalars_in bits b 0)) (part b 2064 (8 * n))) (sym (rows_long (chip_in b)))
    ∙ bytes_fit b h bits 0

-- bytes as the table, the setting and the fields
in_three_parts : (b : List ℕ) → length b ≡ 8720 → b ≡ (part b 0 2048 ++ part b 2048 16) ++ part b 2064 6656
in_three_parts b l =
    sym (splice-part b 0 (length b)) ∙ splice_all b (part b 0 (length b)) (length_part b 0 (length b))
    ∙ ap (part b 0) l ∙ part_append b 0 2064 6656 ∙ ap (λ p. p ++ part b 2064 6656) (part_append b 0 2048 16)

pub image_fits : (b : List ℕ) → length b ≡ 8720 → Bytes b → is_image b ≡ setting_fits b && fits_in (joined (row_bits (chip_in b))) b 0
unfolding is_image image_of setting_fits held_in device_in
image_fits b l h =
    let table = part b 0 2048 in
    let ignore = eqb (get_or b 2048 0) 1 in
    let flag = setting_bytes ignore (chip_in b) in
    let there = part b 2048 16 in
    let fields = laid (fields_of (held_in b)) in
    let same : length flag ≡ length there = length_flagged ignore (chip_in b) ∙ sym (length_part b 2048 16) in
    let long : length (table ++ flag) ≡ length (table ++ there) = length-append table flag ∙ ap (λ n. length table + n) same ∙ sym (length-append table there) in
    ap (alike ((table ++ flag) ++ fields)) (in_three_parts b l)
    ∙ alike_append (table ++ flag) fields (table ++ there) (part b 2064 6656) long
    ∙ ap₂ ◌&&◌ (alike_append table flag table there refl ∙ ap (λ t. t && setting_fits b) (alike_self table)) (fields_fit b h)

-- ---- as the code asks

-- a row: nothing was asked yet, one number more, all of them
module _ (bits : ℕ) (b : List ℕ) (from count : ℕ) where
  pub row_none : ltb 0 (2 ^ bits) ≡ fits_in (replicate (count - count) bits) b (from + count)
  unfolding fits_in
  row_none = rw (sub_self count) (lt-ltb 0 (2 ^ bits) (pow_pos bits))

  pub row_turn : (l k most x : ℕ) {y : ℕ} → suc k ≡ l → l ≤ count → ltb most (2 ^ bits) ≡ fits_in (replicate (count - l) bits) b (from + l)
      → x ≡ number_in 64 b (from + k) → y ≡ max most x → ltb y (2 ^ bits) ≡ fits_in (replicate (count - k) bits) b (from + k)
  row_turn l k most x e h p q r =
      let more : suc (count - l) ≡ count - k = omega (arith, e) in
      let next : from + l ≡ suc (from + k) = omega (arith, e) in
      ap (λ n. ltb n (2 ^ bits)) r ∙ max_fits bits most x
      ∙ ap₂ (λ n t. ltb n (2 ^ bits) && t) q (p ∙ ap (fits_in (replicate (count - l) bits) b) next) ∙ rw (← more) (unfold fits_in in refl)

  pub row_all : (left most : ℕ) → left ≡ 0 → ltb most (2 ^ bits) ≡ fits_in (replicate (count - left) bits) b (from + left)
      → eqb (most / 2 ^ bits) 0 ≡ fits_in (replicate count bits) b from
  row_all left most e p = none_above bits most ∙ p ∙ ap (λ n. fits_in (replicate (count - n) bits) b (from + n)) e ∙ rw (sub-zero count, add-zero from)

pub held_small : (chip : Bool) {bits : ℕ} → bits ≡ held_bits chip → bits < 64
held_small true e = omega (arith, e)
held_small false e = omega (arith, e)

-- std's test of a list's first numbers
same_numbers : (xs ys : List ℕ) → pointwise nat_eq ys xs ≡ alike xs ys
same_numbers xs ys = by (pointwise nat_eq ys xs) refl
  where
    no : (t : Bool) → alike xs ys ≡ t → (ys ≡ xs → ⊥) → false ≡ alike xs ys
    no true e h = absurd (h (sym (alike_same xs ys e)))
    no false e h = sym e

    by : (t : Bool) → pointwise nat_eq ys xs ≡ t → t ≡ alike xs ys
    by true e = let s : ys ≡ xs = same_text ys xs (sym e) in sym (ap (alike xs) s ∙ alike_self xs)
    by false e = no (alike xs ys) refl (other_text ys xs (sym e))

begins : (a v : List ℕ) → length v ≤ length a → starts_with nat_eq a v ≡ alike (part a 0 (length v)) v
begins a v h = same_numbers (take (length v) a) v ∙ ap (λ l. alike l v) (sym (part_cut a 0 (length v) (omega arith)))

-- the settings, in two numbers of 8 bytes
pub setting_fit : (b : List ℕ) {f x y : ℕ} → Bytes b → f ≡ flags (eqb (get_or b 2048 0) 1) (chip_in b)
    → x ≡ number (part b 2048 8) → y ≡ number (part b 2056 8) → eqb x f && eqb y 0 ≡ setting_fits b
unfolding setting_fits
setting_fit b h e p q =
    let ignore = eqb (get_or b 2048 0) 1 in
    let f : ℕ = flags ignore (chip_in b) in
    rw (e, p, q)
    (ap₂ ◌&&◌ (sym (alike-bytes b 8 f 2048 h (in_eight ignore (chip_in b)))) (sym (alike-bytes b 8 0 2056 h (omega arith)))
    ∙ sym (alike_append (bytes 8 f) (bytes 8 0) (part b 2048 8) (part b 2056 8) (length_bytes 8 f ∙ sym (length_part b 2048 8)))
    ∙ ap₂ alike (flags-laid ignore (chip_in b)) (sym (part_append b 2048 8 8)))
  where
    in_eight : (s t : Bool) → flags s t < 256 ^ 8
    in_eight true true = omega arith
    in_eight true false = omega arith
    in_eight false true = omega arith
    in_eight false false = omega arith

-- some of the numbers that were read
numbers_part : (bits : ℕ) (b : List ℕ) (n k i j : ℕ) → i + j ≤ k → part (numbers_in bits b n k) i j ≡ numbers_in bits b (n + i) j
unfolding part numbers_in
numbers_part bits b n k i zero h = refl
numbers_part bits b n k i (suc j) h =
    ap₂ (λ x l. x ∷ l) (number_of bits b n k i (omega arith)) (numbers_part bits b n k (suc i) j (omega arith) ∙ ap (λ m. numbers_in bits b m j) (add-suc n i))

-- the numbers that stand alone, taken from a list and listed again
pub scalars_fit_lem : (b : List ℕ) {first scalars listed : List ℕ} {q r : Bool} → Bytes b → first ≡ numbers_in 64 b 0 16 → scalars ≡ cut 0 scalar_bits first → listed ≡ scalars
    → q ≡ starts_with nat_eq first listed → r ≡ fits_in (replicate (16 - length scalar_bits) 0) b (length scalar_bits) → q && r ≡ scalars_fit b
unfolding scalars_fit scalars_in
scalars_fit_lem b {listed = listed} h p s e q r =
    let read : part (numbers_in 64 b 0 16) 0 (length scalar_bits) ≡ numbers_in 64 b 0 (length scalar_bits) = numbers_part 64 b 0 16 0 (length scalar_bits) (omega arith) in
    let again : listed ≡ scalars_in scalar_bits b 0 = e ∙ scalars_got b p s in
    ap₂ ◌&&◌ (q ∙ ap₂ (starts_with nat_eq) p again ∙ begins (numbers_in 64 b 0 16) (scalars_in scalar_bits b 0) (omega (arith, length_numbers 64 b 0 16)) ∙ ap (λ l. alike l (scalars_in scalar_bits b 0)) read ∙ numbers_fit b h scalar_bits 0) r

-- a controller's own four, of which ICONFIG is narrow
four_fit : (b rest : List ℕ) (n : ℕ) → fits_in (64 ∷ 64 ∷ 64 ∷ 16 ∷ rest) b n ≡ fits_in (replicate 1 16) b (suc (suc (suc n))) && fits_in rest b (suc (suc (suc (suc n))))
unfolding fits_in
four_fit b rest n = rw (wide_fits b n, wide_fits b (suc n), wide_fits b (suc (suc n)), and-true (ltb (number_in 64 b (suc (suc (suc n)))) (2 ^ 16)))

pub own_fit : (b : List ℕ) {q r s t : Bool} → q ≡ fits_in (replicate 1 16) b 19 → r ≡ fits_in (replicate 1 16) b 23 → s ≡ fits_in (replicate 1 16) b 27
    → t ≡ fits_in (replicate 36 0) b 28 → q && r && s && t ≡ fits_in own_bits b 16
own_fit b p q r s =
    rw (p, q, r, s, four_fit b (64 ∷ 64 ∷ 64 ∷ 16 ∷ 64 ∷ 64 ∷ 64 ∷ 16 ∷ replicate 36 0) 16, four_fit b (64 ∷ 64 ∷ 64 ∷ 16 ∷ replicate 36 0) 20, four_fit b (replicate 36 0) 24)
    (simp and_assoc)

-- the level bytes of three controllers as one row
levels_fit : (b : List ℕ) → fits_in (replicate 192 8) b 256 ≡ fits_in (replicate 64 8) b 256 && (fits_in (replicate 64 8) b 320 && fits_in (replicate 64 8) b 384)
levels_fit b = fits_append (replicate 64 8) (replicate 128 8) b 256 ∙ ap (λ t. fits_in (replicate 64 8) b 256 && t) (fits_append (replicate 64 8) (replicate 64 8) b 320)

fields_asked : (b : List ℕ) (chip : Bool) → fits_in (joined (row_bits chip)) b 0
    ≡ scalars_fit b && (fits_in own_bits b 16 && (fits_in (replicate 64 32) b 192 && (fits_in (replicate 192 8) b 256 && (fits_in (replicate 128 0) b 448 && fits_in (replicate 64 (held_bits chip)) b 768))))
unfolding row_bits bit_parts scalars_fit
fields_asked b chip = joined_fit (row_bits chip) b 0 ∙ rw (wides_fit b 64 64, wides_fit b 128 64, wides_fit b 576 192, levels_fit b) (simp (and_assoc, and-true))

pub image_asked : (b : List ℕ) {q r s t u v w : Bool} {bits : ℕ} → length b ≡ 8720 → Bytes b → q ≡ setting_fits b → r ≡ scalars_fit b → s ≡ fits_in own_bits b 16
    → t ≡ fits_in (replicate 64 32) b 192 → u ≡ fits_in (replicate 192 8) b 256 → v ≡ fits_in (replicate 128 0) b 448 → bits ≡ held_bits (chip_in b)
    → w ≡ fits_in (replicate 64 bits) b 768 → q && r && s && t && u && v && w ≡ is_image b
image_asked b l h p q r s t u e v = rw (image_fits b l h, fields_asked b (chip_in b), p, q, r, s, t, u, v, e) (simp and_assoc)
