-- There and back: the device that stands in a device's image is that device, so its image is one, and no two devices have the same. Assumes nothing.
use mathlib.Core.Bool.{Bool, true, false, cond}
use mathlib.Core.List.{List, [], ◌∷◌, ◌++◌, append_assoc}
use mathlib.Core.Path.{◌≡◌, refl, sym, ap, ap₂, ◌∙◌}
use Prim.Native.Nat.{ℕ, zero, suc, ◌+◌, ◌-◌, ◌*◌, ◌%◌, ◌^◌, ◌≤◌, ◌<◌}
use native.Mathlib.Nat.{mod-lt, mod-eq_of_lt, zero-add, add-zero, add-suc, suc-add, not-suc-le-zero, le_of_suc-le-suc, suc_inj, le_refl, lt_of_lt_of_le}
use native.Mathlib.Omega.{arith}
use borrow.Author.Tests.{leb-true}
use lib.Dec.{eqb, lit<, lit≤}
use lib.ListN.{length, get_or, replicate}
use lib.Pow.{pow_pos, pow_mono}
use lib.Seq.{get_or-append-add, get_or_at}
use Rattle.rules.specs.Act.{Field, SCALAR, MASKS, FORCED, LINES, CONFIG, BUSY, MAJORS, PENDING, SOURCE, TAKEN, PRIORITY}
use Rattle.rules.specs.Scalars.{scalar_bits}
use Rattle.rules.specs.Bytes.{Bytes, bytes, number, part}
use Rattle.rules.specs.Fields.{fields_of, own_of, parts_of, number_of, bits_of, bits_in, holds, controller}
use Rattle.rules.specs.State.{Controller, Device}
use Rattle.rules.specs.With.{with_priorities}
use Rattle.rules.proofs.BytesLaws.{length_bytes, value_of_bytes, length_part, bytes-part, part_behind, part-first}
use Rattle.rules.proofs.FieldLaws.{sizes, bit_parts, Sound, sized, levels_long, spot, Real, bits_most, holds_fits_in, holds-number, in_three}
use Rattle.rules.proofs.Powers.{low-low}
use Rattle.rules.proofs.Proper.{Proper}
use Rattle.rules.proofs.PartLaws.{Within}
use Rattle.device.proofs.Laws.{some_to_64}
use Rattle.image.specs.Image.{laid, setting_bytes, image_of, number_in, numbers_in, scalars_in, controller_in, chip_in, device_in, held_bits, held_in, is_image}
use Rattle.image.proofs.Laws.{alike_self}
use Rattle.image.proofs.Rows.{device_got, length_joined, length_front, priorities-long, total}

part-laid : (vs : List ℕ) (n : ℕ) → n < length vs → part (laid vs) (8 * n) 8 ≡ bytes 8 (get_or vs n 0)
unfolding laid
part-laid [] n h = absurd (not-suc-le-zero h)
part-laid (v ∷ vs) zero h =
    let e : part (bytes 8 v ++ laid vs) 0 (length (bytes 8 v)) ≡ bytes 8 v = part-first (bytes 8 v) (laid vs) in
    rw (length_bytes 8 v) at e
part-laid (v ∷ vs) (suc n) h =
    let here : 8 * suc n ≡ length (bytes 8 v) + 8 * n = omega (arith, length_bytes 8 v) in
    ap (λ m. part (bytes 8 v ++ laid vs) m 8) here ∙ part_behind (bytes 8 v) (laid vs) (8 * n) 8 ∙ part-laid vs n (le_of_suc-le-suc h)

-- ---- a field read back

module _ (d : Device) (s : Sound d) (t : length d.table ≡ 2048) where
  fields-long : length (fields_of d) ≡ 832
  unfolding total fields_of
  fields-long = length_joined sizes (parts_of d) (sized d s)

  number_at : (n : ℕ) → n < 832 → number (part (image_of d) (2064 + 8 * n) 8) ≡ get_or (fields_of d) n 0 % 2 ^ 64
  unfolding image_of
  number_at n h =
      let p = d.table ++ setting_bytes d.ignore d.chip in
      let vs = fields_of d in
      let here : part (p ++ laid vs) (2064 + 8 * n) 8 ≡ bytes 8 (get_or vs n 0) = ap (λ m. part (p ++ laid vs) (m + 8 * n) 8) (sym (length_front d t)) ∙ part_behind p (laid vs) (8 * n) 8 ∙ part-laid vs n (omega (arith, fields-long)) in
      ap number here ∙ value_of_bytes 8 (get_or vs n 0)

  -- with all the bits that it has in the mode, or more
  field_in_lem : (f : Field) (bits : ℕ) → Real f → number_of f < 832 → bits_in d.chip f ≤ bits → bits ≤ 64 → number_in bits (image_of d) (number_of f) ≡ holds f d
  unfolding number_in
  field_in_lem f bits r h l m =
      ap (λ v. v % 2 ^ bits) (number_at (number_of f) h)
      ∙ low-low 64 bits (get_or (fields_of d) (number_of f) 0) m
      ∙ ap (λ v. v % 2 ^ bits) (holds-number f d s r)
      ∙ mod-eq_of_lt (lt_of_lt_of_le (holds_fits_in f d s) (pow_mono l))

-- ---- the bits of priorities, in both modes

priority_most : (chip : Bool) → bits_in chip (PRIORITY 0) ≤ 64
unfolding bits_of
priority_most true = lit≤ tt
priority_most false = lit≤ tt

held_fits : (chip : Bool) → (bits_in chip (PRIORITY 0) ≤ held_bits chip) × (held_bits chip ≤ 64)
unfolding bits_of
held_fits true = (lit≤ tt, lit≤ tt)
held_fits false = (lit≤ tt, lit≤ tt)

-- ---- rows of fields read back

numbers_are : (bits : ℕ) (b : List ℕ) (n k : ℕ) (xs : List ℕ) → length xs ≡ k → ((i : ℕ) → i < k → number_in bits b (n + i) ≡ get_or xs i 0) → numbers_in bits b n k ≡ xs
unfolding numbers_in
numbers_are bits b n zero [] e h = refl
numbers_are bits b n zero (x ∷ xs) e h = absurd (omega (arith, e))
numbers_are bits b n (suc k) [] e h = absurd (omega (arith, e))
numbers_are bits b n (suc k) (x ∷ xs) e h =
    let first : number_in bits b n ≡ x = rw (add-zero n) at (h 0 (omega arith)) in
    let rest : numbers_in bits b (suc n) k ≡ xs = numbers_are bits b (suc n) k xs (suc_inj e) (λ i l. ap (number_in bits b) (suc-add n i ∙ sym (add-suc n i)) ∙ h (suc i) (omega (arith, l))) in
    rw (first, rest) refl

scalars_are : (bs b : List ℕ) (n : ℕ) (xs : List ℕ) → length xs ≡ length bs → ((i : ℕ) → i < length bs → number_in (get_or bs i 64) b (n + i) ≡ get_or xs i 0) → xs ≡ scalars_in bs b n
unfolding scalars_in
scalars_are [] b n [] e h = refl
scalars_are [] b n (x ∷ xs) e h = absurd (omega (arith, e))
scalars_are (w ∷ ws) b n [] e h = absurd (omega (arith, e))
scalars_are (w ∷ ws) b n (x ∷ xs) e h =
    let first : x ≡ number_in w b n = sym (h 0 (omega arith)) ∙ ap (number_in w b) (add-zero n) in
    let rest : xs ≡ scalars_in ws b (suc n) = scalars_are ws b (suc n) xs (suc_inj e) (λ i l. ap (number_in (get_or ws i 64) b) (suc-add n i ∙ sym (add-suc n i)) ∙ h (suc i) (omega (arith, l))) in
    ap₂ (λ y ys. y ∷ ys) first rest

three_are : (l : List Controller) → length l ≡ 3 → l ≡ controller l 0 ∷ controller l 1 ∷ controller l 2 ∷ []
three_are l e = in_three (λ l. l ≡ controller l 0 ∷ controller l 1 ∷ controller l 2 ∷ []) (λ a b c. refl) l e

made_of : (k : Controller) {masks forced lines config : ℕ} {levels : List ℕ} → k.masks ≡ masks → k.forced ≡ forced → k.lines ≡ lines → k.levels ≡ levels → k.config ≡ config
    → ◌≡◌ {A = Controller} k (record { masks = masks; forced = forced; lines = lines; levels = levels; config = config })
made_of k a b c d e = rw (← a, ← b, ← c, ← d, ← e) refl

with_own : (d : Device) {l : List Controller} {ignore chip : Bool} → d.controllers ≡ l → d.ignore ≡ ignore → d.chip ≡ chip
    → ◌≡◌ {A = Device} d (record {
      scalars = d.scalars;
      table = d.table;
      busy = d.busy;
      majors = d.majors;
      taken = d.taken;
      pending = d.pending;
      priorities = d.priorities;
      controllers = l;
      ignore = ignore;
      chip = chip;
    })
with_own d p q r = rw (← p, ← q, ← r) refl

module _ (d : Device) (s : Sound d) (t : length d.table ≡ 2048) where
  at_number : (f : Field) → Real f → number_of f < 832 → number_in (bits_of f) (image_of d) (number_of f) ≡ holds f d
  at_number f r h = field_in_lem d s t f (bits_of f) r h (bits_most d.chip f) (leb-true (bits_of f) 64 (some_to_64 f).1)

  at_image : (f : Field) → Real f → number_of f < 832 → holds f d ≡ number_in (bits_of f) (image_of d) (number_of f)
  at_image f r h = sym (at_number f r h)

  row : (bits n k : ℕ) (xs : List ℕ) → length xs ≡ k → ((i : ℕ) → i < k → number_in bits (image_of d) (n + i) ≡ get_or xs i 0) → xs ≡ numbers_in bits (image_of d) n k
  row bits n k xs e h = sym (numbers_are bits (image_of d) n k xs e h)

  table-first : d.table ≡ part (image_of d) 0 2048
  unfolding image_of
  table-first =
      let flag = setting_bytes d.ignore d.chip in
      let rest = laid (fields_of d) in
      let e : part (d.table ++ (flag ++ rest)) 0 (length d.table) ≡ d.table = part-first d.table (flag ++ rest) in
      sym (ap (λ l. part l 0 2048) (append_assoc d.table flag rest) ∙ (rw t at e))

  -- the settings
  told : (b : Bool) → b ≡ eqb (cond b 1 0) 1
  told true = refl
  told false = refl

  behind_table : image_of d ≡ d.table ++ (cond d.ignore 1 0 ∷ cond d.chip 1 0 ∷ replicate 14 0 ++ laid (fields_of d))
  unfolding image_of setting_bytes
  behind_table = append_assoc d.table (setting_bytes d.ignore d.chip) (laid (fields_of d))

  ignore-first : d.ignore ≡ eqb (get_or (image_of d) 2048 0) 1
  ignore-first =
      let rest = cond d.chip 1 0 ∷ replicate 14 0 ++ laid (fields_of d) in
      told d.ignore ∙ ap (λ n. eqb n 1) (sym (ap (λ (l : List ℕ). get_or l 2048 0) behind_table ∙ get_or_at d.table (cond d.ignore 1 0) rest 0 2048 t))

  chip_next : d.chip ≡ chip_in (image_of d)
  chip_next =
      let rest = cond d.ignore 1 0 ∷ cond d.chip 1 0 ∷ replicate 14 0 ++ laid (fields_of d) in
      let here : length d.table + 1 ≡ 2049 = omega (arith, t) in
      told d.chip ∙ ap (λ n. eqb n 1) (sym (ap (λ (l : List ℕ). get_or l 2049 0) behind_table ∙ ap (λ (n : ℕ). get_or (d.table ++ rest) n 0) (sym here) ∙ get_or-append-add d.table rest 1 0))

  levels : (c from : ℕ) → ((i : ℕ) → i < 64 → number_in 8 (image_of d) (from + i) ≡ holds (SOURCE c i) d) → length (controller d.controllers c).levels ≡ 64
      → (controller d.controllers c).levels ≡ numbers_in 8 (image_of d) from 64
  levels c from h e = row 8 from 64 (controller d.controllers c).levels e h

  own : (c : ℕ) → c < 3 → controller d.controllers c ≡ controller_in (image_of d) c
  unfolding controller_in bits_of number_of spot
  own zero h =
      made_of (controller d.controllers 0) (at_image (MASKS 0) (lit< tt) (lit< tt)) (at_image (FORCED 0) (lit< tt) (lit< tt)) (at_image (LINES 0) (lit< tt) (lit< tt))
      (levels 0 256 (λ i l. at_number (SOURCE 0 i) l (omega (arith, l))) (levels_long d s 0 (lit< tt))) (at_image (CONFIG 0) (lit< tt) (lit< tt))
  own (suc zero) h =
      made_of (controller d.controllers 1) (at_image (MASKS 1) (lit< tt) (lit< tt)) (at_image (FORCED 1) (lit< tt) (lit< tt)) (at_image (LINES 1) (lit< tt) (lit< tt))
      (levels 1 320 (λ i l. at_number (SOURCE 1 i) l (omega (arith, l))) (levels_long d s 1 (lit< tt))) (at_image (CONFIG 1) (lit< tt) (lit< tt))
  own (suc (suc zero)) h =
      made_of (controller d.controllers 2) (at_image (MASKS 2) (lit< tt) (lit< tt)) (at_image (FORCED 2) (lit< tt) (lit< tt)) (at_image (LINES 2) (lit< tt) (lit< tt))
      (levels 2 384 (λ i l. at_number (SOURCE 2 i) l (omega (arith, l))) (levels_long d s 2 (lit< tt))) (at_image (CONFIG 2) (lit< tt) (lit< tt))
  own (suc (suc (suc c))) h = absurd (omega arith)

  -- with the bits that they have in the mode, or more
  priorities : (bits : ℕ) → bits_in d.chip (PRIORITY 0) ≤ bits → bits ≤ 64 → d.priorities ≡ numbers_in bits (image_of d) 768 64
  priorities bits l m = row bits 768 64 d.priorities (priorities-long d s) (λ i h. at i h)
    where
      at : (i : ℕ) → i < 64 → number_in bits (image_of d) (768 + i) ≡ get_or d.priorities i 0
      at i h = unfold number_of in field_in_lem d s t (PRIORITY i) bits (unfold spot in h) (unfold number_of in omega (arith, h)) (unfold bits_of in l) m

  -- the device that stands in a device's image
  pub image_round : device_in (image_of d) ≡ d
  unfolding bits_of number_of spot parts_of
  image_round =
      let in_rows = (sized d s).1.1.1 in
      let bits = bits_in d.chip (PRIORITY 0) in
      sym (with_own d (three_are d.controllers s.three) ignore-first chip_next
      ∙ device_got (image_of d) (scalars_are scalar_bits (image_of d) 0 d.scalars (sized d s).0 (λ i l. scalar_at i l)) table-first
      (row 64 64 64 d.busy in_rows.0 (λ i l. at_number (BUSY i) l (omega (arith, l))))
      (row 64 128 64 d.majors in_rows.1.0 (λ i l. at_number (MAJORS i) l (omega (arith, l))))
      (row 64 576 192 d.taken in_rows.1.1.1.1.1.1.1.0 (λ i l. taken_at i l))
      (row 32 192 64 d.pending in_rows.1.1.0 (λ i l. at_number (PENDING i) l (omega (arith, l))))
      (priorities bits (le_refl bits) (priority_most d.chip) ∙ ap (λ b. numbers_in (bits_in b (PRIORITY 0)) (image_of d) 768 64) chip_next)
      (own 0 (lit< tt)) (own 1 (lit< tt)) (own 2 (lit< tt)))
    where
      scalar_at : (i : ℕ) → i < length scalar_bits → number_in (get_or scalar_bits i 64) (image_of d) (0 + i) ≡ get_or d.scalars i 0
      scalar_at i l = ap (number_in (get_or scalar_bits i 64) (image_of d)) (zero-add i) ∙ (unfold bits_of number_of in at_number (SCALAR i) (unfold spot in l) (unfold number_of in omega (arith, l)))

      taken_at : (i : ℕ) → i < 192 → number_in 64 (image_of d) (576 + i) ≡ get_or d.taken i 0
      taken_at i l = ap (number_in 64 (image_of d)) (omega arith) ∙ (unfold bits_of number_of in at_number (TAKEN i) (unfold spot in l) (unfold number_of in omega (arith, l)))

  -- it is held there with no bits but those that count
  pub held_round : held_in (image_of d) ≡ d
  unfolding held_in
  held_round =
      let bits = held_bits d.chip in
      ap₂ with_priorities image_round (sym (priorities bits (held_fits d.chip).0 (held_fits d.chip).1 ∙ ap (λ b. numbers_in (held_bits b) (image_of d) 768 64) chip_next))

  pub image_one : is_image (image_of d) ≡ true
  unfolding is_image
  image_one = rw held_round (alike_self (image_of d))

-- no two devices have the same image
pub image_only : (d e : Device) → Sound d → Sound e → length d.table ≡ 2048 → length e.table ≡ 2048 → image_of d ≡ image_of e → d ≡ e
image_only d e s t a b p = sym (image_round d s a) ∙ ap device_in p ∙ image_round e t b

-- so of every proper device, and every value of the declared type stands for one: its image is an image, and the device in it is that device
pub proper_round : (d : Device) → Proper d → (is_image (image_of d) ≡ true) × (device_in (image_of d) ≡ d)
proper_round d p = (image_one d p.sound p.size, image_round d p.sound p.size)

-- ---- the device in any bytes is proper

numbers_within : (bits : ℕ) (b : List ℕ) (n k : ℕ) → Within (replicate k bits) (numbers_in bits b n k)
unfolding numbers_in number_in
numbers_within bits b n zero = tt
numbers_within bits b n (suc k) = (mod-lt (number (part b (2064 + 8 * n) 8)) (pow_pos bits), numbers_within bits b (suc n) k)

scalars-within : (bs b : List ℕ) (n : ℕ) → Within bs (scalars_in bs b n)
unfolding scalars_in number_in
scalars-within [] b n = tt
scalars-within (w ∷ ws) b n = (mod-lt (number (part b (2064 + 8 * n) 8)) (pow_pos w), scalars-within ws b (suc n))

zeros_within : (k : ℕ) → Within (replicate k 0) (replicate k 0)
zeros_within zero = tt
zeros_within (suc k) = (lit< tt, zeros_within k)

number-within : (bits : ℕ) (b : List ℕ) (n : ℕ) → number_in bits b n < 2 ^ bits
unfolding number_in
number-within bits b n = mod-lt (number (part b (2064 + 8 * n) 8)) (pow_pos bits)

pub proper_in : (b : List ℕ) → Bytes b → Proper (device_in b)
unfolding device_in controller_in bit_parts bits_of parts_of own_of
proper_in b h =
    let w : (bits n : ℕ) → number_in bits b n < 2 ^ bits = λ bits n. number-within bits b n in
    record {
      sound = record {
        three = refl;
        fitting = (
          scalars-within scalar_bits b 0,
          (
            zeros_within (16 - length scalar_bits),
            (
              (w 64 16, (w 64 17, (w 64 18, (w 16 19, (w 64 20, (w 64 21, (w 64 22, (w 16 23, (w 64 24, (w 64 25, (w 64 26, (w 16 27, zeros_within 36)))))))))))),
              (numbers_within 64 b 64 64, (numbers_within 64 b 128 64, (numbers_within 32 b 192 64, (numbers_within 8 b 256 64, (numbers_within 8 b 320 64, (numbers_within 8 b 384 64, (zeros_within 128, (numbers_within 64 b 576 192, (numbers_within (cond (chip_in b) 6 0) b 768 64, tt))))))))),
            ),
          ),
        );
        table_bytes = bytes-part b 0 2048 h;
      };
      size = length_part b 0 2048;
    }
