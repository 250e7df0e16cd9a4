-- The rows of an image, laid down one behind the other, are the image. Assumes nothing.
use mathlib.Core.Bool.{Bool, true, false, cond}
use mathlib.Core.List.{List, [], ◌∷◌, ◌++◌, map, append-nil, append_assoc}
use mathlib.Core.Path.{◌≡◌, refl, sym, ap, ap₂, ◌∙◌}
use Prim.Native.Nat.{ℕ, zero, suc, ◌+◌, ◌-◌, ◌*◌, ◌%◌, ◌^◌, ◌≤◌}
use native.Mathlib.Nat.{zero-add, mod-one, suc_inj}
use native.Mathlib.Omega.{arith}
use lib.Dec.{eqb}
use lib.ListN.{length, get_or, replicate, length-append, length-map, length-replicate, replicate-append-replicate}
use Rattle.rules.specs.Scalars.{scalar_bits}
use Rattle.rules.specs.Act.{PRIORITY}
use Rattle.rules.specs.Bytes.{bytes, number, part, splice}
use Rattle.rules.specs.Fields.{bits_of, bits_in, joined, own_of, parts_of, fields_of, controller, masks_of}
use Rattle.rules.specs.State.{Controller, Device}
use Rattle.rules.specs.View.{view_priorities, view}
use Rattle.rules.specs.With.{with_priorities}
use Rattle.rules.specs.declared.Device.{Device as HeldDevice}
use Rattle.rules.proofs.BytesLaws.{splice_append, splice-splice, length_part}
use Rattle.rules.proofs.FieldLaws.{sizes, Sound, sized}
use Rattle.rules.proofs.PartLaws.{Sized}
use Rattle.rules.proofs.Powers.{low-low}
use Rattle.image.specs.Image.{laid, setting_bytes, image_of, chip_in, device_in, held_bits, held_in, controller_in, number_in, numbers_in, scalars_in, is_image}
use Rattle.image.specs.Parts.{scalars_of, channels_of, levels_of, taken_of}
use Rattle.image.proofs.Laws.{length_laid, sixes, splice_next, splice_all, length_numbers, alike_lengths, alike_same}

laid_append : (xs ys : List ℕ) → laid (xs ++ ys) ≡ laid xs ++ laid ys
unfolding laid
laid_append [] ys = refl
laid_append (x ∷ xs) ys = ap (λ l. bytes 8 x ++ l) (laid_append xs ys) ∙ sym (append_assoc (bytes 8 x) (laid xs) (laid ys))

joined_more : (ps : List (List ℕ)) (v : List ℕ) → joined (ps ++ v ∷ []) ≡ joined ps ++ v
unfolding joined
joined_more [] v = append-nil v
joined_more (p ∷ ps) v = ap (λ l. p ++ l) (joined_more ps v) ∙ sym (append_assoc p (joined ps) v)

unfoldable pub total : List ℕ → ℕ
total [] = 0
total (n ∷ ns) = n + total ns

pub length_joined : (ns : List ℕ) (ps : List (List ℕ)) → Sized ns ps → length (joined ps) ≡ total ns
unfolding joined total
length_joined [] [] s = refl
length_joined [] (p ∷ ps) s = absurd s
length_joined (n ∷ ns) [] s = absurd s
length_joined (n ∷ ns) (p ∷ ps) s = omega (arith, length-append p (joined ps), s.0, length_joined ns ps s.1)

-- ---- a row, and one more

pub row_first : (x y : List ℕ) (at : ℕ) (v : List ℕ) → y ≡ splice x at (laid v) → y ≡ splice x at (laid (joined (v ∷ [])))
unfolding joined
row_first x y at v e = e ∙ ap (λ l. splice x at (laid l)) (sym (append-nil v))

pub row_more : (x y z : List ℕ) (at b : ℕ) (ps : List (List ℕ)) (v ns : List ℕ) → Sized ns ps → b ≡ at + 8 * total ns
    → y ≡ splice x at (laid (joined ps)) → z ≡ splice y b (laid v) → z ≡ splice x at (laid (joined (ps ++ v ∷ [])))
row_more x y z at b ps v ns s e p q =
    let here : b ≡ at + length (laid (joined ps)) = omega (arith, e, length_laid (joined ps), length_joined ns ps s) in
    let all : laid (joined ps) ++ laid v ≡ laid (joined (ps ++ v ∷ [])) = sym (laid_append (joined ps) v) ∙ ap laid (sym (joined_more ps v)) in
    q ∙ ap (λ l. splice l b (laid v)) p ∙ ap (λ n. splice (splice x at (laid (joined ps))) n (laid v)) here ∙ splice_next x at (laid (joined ps)) (laid v) ∙ ap (splice x at) all

-- a controller's level bytes
pub laid_as : (x y : List ℕ) (at : ℕ) {k m : Controller} → y ≡ splice x at (laid k.levels) → k ≡ m → y ≡ splice x at (laid m.levels)
laid_as x y at e p = e ∙ ap (λ (k : Controller). splice x at (laid k.levels)) p

-- ---- the rows of a device

-- each controller's own four as the code makes them, of the device's controllers k, l, m
pub own_laid : (d : Device) (x y : List ℕ) (at : ℕ) {k l m : Controller} → k ≡ controller d.controllers 0 → l ≡ controller d.controllers 1 → m ≡ controller d.controllers 2
    → y ≡ splice x at (laid (masks_of k (masks_of l (masks_of m (replicate 36 0))))) → y ≡ splice x at (laid (own_of d))
unfolding own_of
own_laid d x y at p q r e = rw (← p, ← q, ← r) e

-- a row laid over the first of n zeros
over_zeros : (x : List ℕ) (at n : ℕ) (v : List ℕ) → length v ≤ n
    → splice (splice x at (laid (replicate n 0))) at (laid v) ≡ splice x at (laid (joined (v ∷ replicate (n - length v) 0 ∷ [])))
unfolding joined
over_zeros x at n v h =
    let k : ℕ = length v in
    let first : List ℕ = laid (replicate k 0) in
    let rest : List ℕ = laid (replicate (n - k) 0) in
    let all : n ≡ k + (n - k) = omega arith in
    let zeros : laid (replicate n 0) ≡ first ++ rest = ap (λ m. laid (replicate m 0)) all ∙ ap laid (sym (replicate-append-replicate k (n - k) 0)) ∙ laid_append (replicate k 0) (replicate (n - k) 0) in
    let long : length first ≡ length (laid v) = length_laid (replicate k 0) ∙ ap (λ m. 8 * m) (length-replicate k 0) ∙ sym (length_laid v) in
    ap (λ l. splice (splice x at l) at (laid v)) zeros
    ∙ ap (λ l. splice l at (laid v)) (splice_append x at first rest)
    ∙ splice-splice (splice x (at + length first) rest) at first (laid v) (omega (arith, long))
    ∙ ap (λ m. splice (splice x (at + m) rest) at (laid v)) long
    ∙ sym (splice_append x at (laid v) rest)
    ∙ ap (splice x at) (sym (laid_append v (replicate (n - k) 0)) ∙ ap (λ l. laid (v ++ l)) (sym (append-nil (replicate (n - k) 0))))

module _ (d : Device) (s : Sound d) where
  pub scalars-laid : (x y z : List ℕ) {l : List ℕ} → l ≡ d.scalars → y ≡ splice x 2064 (laid (replicate 16 0)) → z ≡ splice y 2064 (laid l)
      → z ≡ splice x 2064 (laid (joined (scalars_of d)))
  unfolding parts_of
  scalars-laid x y z e p q =
      let long : length d.scalars ≡ length scalar_bits = (sized d s).0 in
      q ∙ ap (λ m. splice y 2064 (laid m)) e ∙ ap (λ m. splice m 2064 (laid d.scalars)) p ∙ over_zeros x 2064 16 d.scalars (omega (arith, long))
      ∙ ap (λ n. splice x 2064 (laid (joined (d.scalars ∷ replicate (16 - n) 0 ∷ [])))) long

  pub channels_long : (length d.busy ≡ 64) × (length d.majors ≡ 64) × (length d.pending ≡ 64)
  unfolding parts_of
  channels_long = let t = (sized d s).1.1.1 in (t.0, t.1.0, t.1.1.0)

  pub taken-long : length d.taken ≡ 192
  unfolding parts_of
  taken-long = (sized d s).1.1.1.1.1.1.1.1.1.1.0

  pub priorities-long : length d.priorities ≡ 64
  unfolding parts_of
  priorities-long = (sized d s).1.1.1.1.1.1.1.1.1.1.1.0

module _ (d : Device) (s : Sound d) (x y z w u : List ℕ) where
  pub channels_laid : y ≡ splice x 2576 (laid d.busy) → z ≡ splice y 3088 (laid d.majors) → w ≡ splice z 3600 (laid d.pending)
      → w ≡ splice x 2576 (laid (joined (channels_of d)))
  unfolding total parts_of
  channels_laid p q r =
      let t = (sized d s).1.1 in
      row_more x z w 2576 3600 (d.busy ∷ d.majors ∷ []) d.pending (64 ∷ 64 ∷ []) (t.1.0, (t.1.1.0, tt)) refl
      (row_more x y z 2576 3088 (d.busy ∷ []) d.majors (64 ∷ []) (t.1.0, tt) refl (row_first x y 2576 d.busy p) q) r

  pub levels-laid : y ≡ splice x 4112 (laid (controller d.controllers 0).levels) → z ≡ splice y 4624 (laid (controller d.controllers 1).levels)
      → w ≡ splice z 5136 (laid (controller d.controllers 2).levels) → u ≡ splice w 5648 (laid (replicate 128 0)) → u ≡ splice x 4112 (laid (joined (levels_of d)))
  unfolding total parts_of
  levels-laid p q r v =
      let t = (sized d s).1.1.1.1.1.1 in
      let k : ℕ → List ℕ = λ c. (controller d.controllers c).levels in
      row_more x w u 4112 5648 (k 0 ∷ k 1 ∷ k 2 ∷ []) (replicate 128 0) (64 ∷ 64 ∷ 64 ∷ []) (t.0, (t.1.0, (t.1.1.0, tt))) refl
      (row_more x z w 4112 5136 (k 0 ∷ k 1 ∷ []) (k 2) (64 ∷ 64 ∷ []) (t.0, (t.1.0, tt)) refl
      (row_more x y z 4112 4624 (k 0 ∷ []) (k 1) (64 ∷ []) (t.0, tt) refl (row_first x y 4112 (k 0) p) q) r) v

  pub taken-laid : y ≡ splice x 6672 (laid d.taken) → z ≡ splice y 8208 (laid d.priorities) → z ≡ splice x 6672 (laid (joined (taken_of d)))
  unfolding total parts_of
  taken-laid p q =
      let t = (sized d s).1.1.1.1.1.1.1.1.1.1 in
      row_more x y z 6672 8208 (d.taken ∷ []) d.priorities (192 ∷ []) (t.0, tt) refl (row_first x y 6672 d.taken p) q

-- priorities: six bits of each, or none
pub held-long : (d : HeldDevice) → Sound (view d) → length d.priorities ≡ 64
held-long d s = sym (length-map d.priorities (λ (v : ℕ). v % 2 ^ bits_in d.chip (PRIORITY 0))) ∙ priorities-long (view d) s

module _ (d : HeldDevice) (s : Sound (view d)) (x y : List ℕ) where
  pub sixes_laid : d.chip ≡ true → y ≡ splice x 8208 (laid (sixes d.priorities)) → y ≡ splice x 8208 (laid (view d).priorities)
  unfolding bits_of
  sixes_laid c e = e ∙ ap (λ b. splice x 8208 (laid (view_priorities b d.priorities))) (sym c)

  pub none_laid : d.chip ≡ false → y ≡ splice x 8208 (laid (replicate 64 0)) → y ≡ splice x 8208 (laid (view d).priorities)
  unfolding bits_of
  none_laid c e = e ∙ ap (λ l. splice x 8208 (laid l)) (nothing d.priorities 64 (held-long d s)) ∙ ap (λ b. splice x 8208 (laid (view_priorities b d.priorities))) (sym c)
    where
      nothing : (l : List ℕ) (n : ℕ) → length l ≡ n → replicate n 0 ≡ map (λ (v : ℕ). v % 1) l
      nothing [] zero e = refl
      nothing [] (suc n) e = absurd (omega (arith, e))
      nothing (v ∷ l) zero e = absurd (omega (arith, e))
      nothing (v ∷ l) (suc n) e = ap₂ (λ x r. x ∷ r) (sym (mod-one v)) (nothing l n (suc_inj e))

-- ---- the image

rows : (d : Device) → joined (joined (scalars_of d) ∷ own_of d ∷ joined (channels_of d) ∷ joined (levels_of d) ∷ joined (taken_of d) ∷ []) ≡ fields_of d
unfolding joined parts_of fields_of
rows d = simp (append_assoc, append-nil)

pub length_flagged : (ignore chip : Bool) → length (setting_bytes ignore chip) ≡ 16
unfolding setting_bytes
length_flagged ignore chip = refl

-- what stands before the fields
pub length_front : (d : Device) → length d.table ≡ 2048 → length (d.table ++ setting_bytes d.ignore d.chip) ≡ 2064
length_front d t = length-append d.table (setting_bytes d.ignore d.chip) ∙ rw (t, length_flagged d.ignore d.chip) refl

pub length_image : (d : Device) → length d.table ≡ 2048 → Sized sizes (parts_of d) → length (image_of d) ≡ 8720
unfolding total image_of fields_of
length_image d t s =
    length-append (d.table ++ setting_bytes d.ignore d.chip) (laid (joined (parts_of d)))
    ∙ rw (length_front d t, length_laid (joined (parts_of d)), length_joined sizes (parts_of d) s) refl

module _ (d : Device) (s : Sound d) (t : length d.table ≡ 2048) (x y z n a b c e : List ℕ) where
  length_scalars : length (joined (scalars_of d)) ≡ 16
  unfolding total parts_of
  length_scalars = let k = sized d s in length_joined (length scalar_bits ∷ (16 - length scalar_bits) ∷ []) (scalars_of d) (k.0, (k.1.0, tt))

  length_own : length (own_of d) ≡ 48
  unfolding parts_of
  length_own = (sized d s).1.1.0

  length_channels : length (joined (channels_of d)) ≡ 192
  unfolding total parts_of
  length_channels = let k = (sized d s).1.1.1 in length_joined (64 ∷ 64 ∷ 64 ∷ []) (channels_of d) (k.0, (k.1.0, (k.1.1.0, tt)))

  length_levels : length (joined (levels_of d)) ≡ 320
  unfolding total parts_of
  length_levels = let k = (sized d s).1.1.1.1.1.1 in length_joined (64 ∷ 64 ∷ 64 ∷ 128 ∷ []) (levels_of d) (k.0, (k.1.0, (k.1.1.0, (refl, tt))))

  fields_laid : n ≡ splice z 2064 (laid (joined (scalars_of d))) → a ≡ splice n 2192 (laid (own_of d)) → b ≡ splice a 2576 (laid (joined (channels_of d)))
      → c ≡ splice b 4112 (laid (joined (levels_of d))) → e ≡ splice c 6672 (laid (joined (taken_of d))) → e ≡ splice z 2064 (laid (fields_of d))
  unfolding total
  fields_laid j f g h i =
      let h0 = joined (scalars_of d) in
      let h1 = own_of d in
      let h2 = joined (channels_of d) in
      let h3 = joined (levels_of d) in
      let h4 = joined (taken_of d) in
      row_more z c e 2064 6672 (h0 ∷ h1 ∷ h2 ∷ h3 ∷ []) h4 (16 ∷ 48 ∷ 192 ∷ 320 ∷ []) (length_scalars, (length_own, (length_channels, (length_levels, tt)))) refl
      (row_more z b c 2064 4112 (h0 ∷ h1 ∷ h2 ∷ []) h3 (16 ∷ 48 ∷ 192 ∷ []) (length_scalars, (length_own, (length_channels, tt))) refl
      (row_more z a b 2064 2576 (h0 ∷ h1 ∷ []) h2 (16 ∷ 48 ∷ []) (length_scalars, (length_own, tt)) refl
      (row_more z n a 2064 2192 (h0 ∷ []) h1 (16 ∷ []) (length_scalars, tt) refl (row_first z n 2064 h0 j) f) g) h) i
      ∙ ap (λ l. splice z 2064 (laid l)) (rows d)

  pub image_laid : length x ≡ 8720 → y ≡ splice x 0 d.table → z ≡ splice y 2048 (setting_bytes d.ignore d.chip) → n ≡ splice z 2064 (laid (joined (scalars_of d)))
      → a ≡ splice n 2192 (laid (own_of d)) → b ≡ splice a 2576 (laid (joined (channels_of d))) → c ≡ splice b 4112 (laid (joined (levels_of d)))
      → e ≡ splice c 6672 (laid (joined (taken_of d))) → e ≡ image_of d
  unfolding image_of
  image_laid l p q j f g h i =
      let flag = setting_bytes d.ignore d.chip in
      let ns = laid (fields_of d) in
      let front : z ≡ splice x 0 (d.table ++ flag) = q ∙ ap (λ m. splice m 2048 flag) p ∙ ap (λ n. splice (splice x 0 d.table) n flag) (sym (zero-add (length d.table) ∙ t)) ∙ splice_next x 0 d.table flag in
      fields_laid j f g h i
      ∙ ap (λ m. splice m 2064 ns) front
      ∙ ap (λ n. splice (splice x 0 (d.table ++ flag)) n ns) (sym (zero-add (length (d.table ++ flag)) ∙ length_front d t))
      ∙ splice_next x 0 (d.table ++ flag) ns
      ∙ splice_all x ((d.table ++ flag) ++ ns) (length_image d t (sized d s) ∙ sym l)

-- ---- bytes of another length are no image

sized-held : (b : List ℕ) → Sized sizes (parts_of (held_in b))
unfolding parts_of own_of held_in device_in scalars_in controller_in
sized-held b =
    (refl, (refl, (refl, (length_numbers 64 b 64 64, (length_numbers 64 b 128 64, (length_numbers 32 b 192 64, (length_numbers 8 b 256 64, (length_numbers 8 b 320 64, (length_numbers 8 b 384 64, (refl, (length_numbers 64 b 576 192, (length_numbers (held_bits (chip_in b)) b 768 64, tt))))))))))))

table-held : (b : List ℕ) → length (held_in b).table ≡ 2048
unfolding held_in device_in
table-held b = length_part b 0 2048

pub no_image : (b : List ℕ) → (length b ≡ 8720 → ⊥) → false ≡ is_image b
unfolding is_image
no_image b h = sym (alike_lengths (image_of (held_in b)) b (λ e. h (sym e ∙ length_image (held_in b) (table-held b) (sized-held b))))

-- an image is that of the device that is held in it
pub image_is : (b : List ℕ) → is_image b ≡ true → image_of (held_in b) ≡ b
unfolding is_image
image_is b h = alike_same (image_of (held_in b)) b h

-- and in the old mode of the device that stands in it
pub image_old : (b : List ℕ) → is_image b ≡ true → chip_in b ≡ false → image_of (device_in b) ≡ b
image_old b h e = ap image_of (sym same) ∙ image_is b h
  where
    same : held_in b ≡ device_in b
    same = unfold held_in device_in bits_of in ap (λ (bits : ℕ). with_priorities (device_in b) (numbers_in bits b 768 64)) (ap held_bits e ∙ sym (ap (λ c. bits_in c (PRIORITY 0)) e))

pub image_long : (b : List ℕ) → is_image b ≡ true → length b ≡ 8720
image_long b h = sym (ap length (image_is b h)) ∙ length_image (held_in b) (table-held b) (sized-held b)

-- ---- a device read

-- numbers of 8 bits, cut to fewer
cut_again : (bits : ℕ) → bits ≤ 8 → (b : List ℕ) (n k : ℕ) → map (λ (v : ℕ). v % 2 ^ bits) (numbers_in 8 b n k) ≡ numbers_in bits b n k
unfolding numbers_in number_in
cut_again bits h b n zero = refl
cut_again bits h b n (suc k) = ap₂ (λ x l. x ∷ l) (low-low 8 bits (number (part b (2064 + 8 * n) 8)) h) (cut_again bits h b (suc n) k)

-- priorities are held as 8 bits each, of which those of the mode count
pub priorities_got : (chip : Bool) (b : List ℕ) {held : List ℕ} → held ≡ numbers_in 8 b 768 64 → view_priorities chip held ≡ numbers_in (bits_in chip (PRIORITY 0)) b 768 64
unfolding bits_of
priorities_got chip b e = ap (view_priorities chip) e ∙ by chip
  where
    by : (chip : Bool) → map (λ (v : ℕ). v % 2 ^ cond chip 6 0) (numbers_in 8 b 768 64) ≡ numbers_in (cond chip 6 0) b 768 64
    by true = cut_again 6 (omega arith) b 768 64
    by false = cut_again 0 (omega arith) b 768 64

pub device_got : (b : List ℕ) {scalars table busy majors taken pending priorities : List ℕ} {k l m : Controller} → scalars ≡ scalars_in scalar_bits b 0 → table ≡ part b 0 2048
    → busy ≡ numbers_in 64 b 64 64 → majors ≡ numbers_in 64 b 128 64 → taken ≡ numbers_in 64 b 576 192 → pending ≡ numbers_in 32 b 192 64
    → priorities ≡ numbers_in (bits_in (chip_in b) (PRIORITY 0)) b 768 64 → k ≡ controller_in b 0 → l ≡ controller_in b 1 → m ≡ controller_in b 2
    → ◌≡◌ {A = Device} (record {
      scalars = scalars;
      table = table;
      busy = busy;
      majors = majors;
      taken = taken;
      pending = pending;
      priorities = priorities;
      controllers = k ∷ l ∷ m ∷ [];
      ignore = eqb (get_or b 2048 0) 1;
      chip = chip_in b;
    }) (device_in b)
unfolding device_in
device_got b a c d e f g p h i j = rw (a, c, d, e, f, g, p, h, i, j) refl
