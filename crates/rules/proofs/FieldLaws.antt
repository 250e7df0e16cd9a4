-- Laws of one field of a device: what it holds, what putting it changes, where its number leads. Assumes nothing.
use mathlib.Core.Bool.{Bool, true, false, cond, ◌&&◌, ◌||◌}
use mathlib.Core.List.{List, [], ◌∷◌}
use mathlib.Core.Option.{Option, none, some}
use mathlib.Core.Path.{◌≡◌, refl, sym, ap, ◌∙◌, subst, subst⁻¹}
use Prim.Native.Nat.{ℕ, zero, suc, ◌+◌, ◌-◌, ◌^◌, ◌<◌, ◌≤◌, zero-le}
use native.Mathlib.Nat.{not-suc-le-zero, zero-add, le_refl, lt_of_lt_of_le}
use native.Mathlib.Omega.{arith}
use borrow.Author.Tests.{eqb-true, ltb-true}
use lib.Dec.{eqb, ltb}
use lib.Pow.{pow_mono}
use lib.ListN.{get_or, set, length, replicate, get_or-replicate, length-set}
use Rattle.rules.specs.State.{Controller, Device}
use Rattle.rules.specs.Act.{Field, SCALAR, MASKS, FORCED, LINES, CONFIG, BUSY, MAJORS, PENDING, SOURCE, TAKEN, PRIORITY, Setting, IGNORE, CHIP}
use Rattle.rules.specs.Scalars.{scalar_bits}
use Rattle.rules.specs.Bytes.{Bytes}
use Rattle.rules.specs.With.{with_controllers, with_masks, with_forced, with_lines, with_config, with_levels}
use Rattle.rules.specs.Fields.{joined, controller, own_of, parts_of, fields_of, number_of, bits_of, in_both, bits_in, field_at, of_controller, holds, with_field, setting_of}
use Rattle.rules.proofs.BoolLaws.{and_left, and_right}
use Rattle.rules.proofs.PartLaws.{any_default, start, Sized, set_part, get_part, Within, Fitting, set_in, fitting_set, fitting_joined, fitting_sized, fitting_get}

-- ---- the parts of a device: their sizes, and the bits of each element in a mode; 0 where there is no such field

abbrev pub sizes : List ℕ
sizes = length scalar_bits ∷ (16 - length scalar_bits) ∷ 48 ∷ 64 ∷ 64 ∷ 64 ∷ 64 ∷ 64 ∷ 64 ∷ 128 ∷ 192 ∷ 64 ∷ []

unfoldable pub bit_parts : Bool → List (List ℕ)
bit_parts chip =
    scalar_bits ∷ replicate (16 - length scalar_bits) 0 ∷ (64 ∷ 64 ∷ 64 ∷ 16 ∷ 64 ∷ 64 ∷ 64 ∷ 16 ∷ 64 ∷ 64 ∷ 64 ∷ 16 ∷ replicate 36 0)
    ∷ replicate 64 64 ∷ replicate 64 64 ∷ replicate 64 32 ∷ replicate 64 8 ∷ replicate 64 8 ∷ replicate 64 8 ∷ replicate 128 0 ∷ replicate 192 64 ∷ replicate 64 (cond chip 6 0) ∷ []

unfoldable pub field_bits : Bool → List ℕ
field_bits chip = joined (bit_parts chip)

-- three controllers, every field within its bits, a table of bytes; so is every value of the type (`Typed`)
pub record Sound (d : Device) : Type 0 where
  pub three : length d.controllers ≡ 3
  pub fitting : Fitting (bit_parts d.chip) (parts_of d)
  pub table_bytes : Bytes d.table

pub sized : (d : Device) → Sound d → Sized sizes (parts_of d)
sized d s = (unfold bit_parts in fitting_sized (bit_parts d.chip) (parts_of d) s.fitting)

-- each controller has 64 level bytes
pub levels_long : (d : Device) → Sound d → (c : ℕ) → c < 3 → length (controller d.controllers c).levels ≡ 64
unfolding parts_of
levels_long d s zero h = (sized d s).1.1.1.1.1.1.0
levels_long d s (suc zero) h = (sized d s).1.1.1.1.1.1.1.0
levels_long d s (suc (suc zero)) h = (sized d s).1.1.1.1.1.1.1.1.0
levels_long d s (suc (suc (suc c))) h = absurd (omega arith)

pub within : (d : Device) → Sound d → Within (field_bits d.chip) (fields_of d)
unfolding field_bits fields_of
within d s = fitting_joined (bit_parts d.chip) (parts_of d) s.fitting

-- ---- where a field is: its part, and its place there. Part 12: nowhere
abbrev own : ℕ → ℕ → ℕ × ℕ
own zero k = (2, k)
own (suc zero) k = (2, 4 + k)
own (suc (suc zero)) k = (2, 8 + k)
own (suc (suc (suc c))) k = (12, 0)

abbrev levels_at : ℕ → ℕ → ℕ × ℕ
levels_at zero s = (6, s)
levels_at (suc zero) s = (7, s)
levels_at (suc (suc zero)) s = (8, s)
levels_at (suc (suc (suc c))) s = (12, 0)

unfoldable pub spot : Field → ℕ × ℕ
spot (SCALAR i) = (0, i)
spot (MASKS c) = own c 0
spot (FORCED c) = own c 1
spot (LINES c) = own c 2
spot (CONFIG c) = own c 3
spot (BUSY ch) = (3, ch)
spot (MAJORS ch) = (4, ch)
spot (PENDING ch) = (5, ch)
spot (SOURCE c s) = levels_at c s
spot (TAKEN i) = (10, i)
spot (PRIORITY ch) = (11, ch)

-- there is such a field: a channel below 64, a controller below 3, a source below 64, a vector from 64 to 255
abbrev pub Real : Field → Type 0
Real f = (spot f).1 < get_or sizes (spot f).0 0

-- its number says where it is
pub spot_number : (f : Field) → Real f → start sizes (spot f).0 + (spot f).1 ≡ number_of f
unfolding spot start number_of
spot_number (SCALAR i) h = zero-add i
spot_number (MASKS zero) h = refl
spot_number (MASKS (suc zero)) h = refl
spot_number (MASKS (suc (suc zero))) h = refl
spot_number (MASKS (suc (suc (suc c)))) h = absurd (not-suc-le-zero h)
spot_number (FORCED zero) h = refl
spot_number (FORCED (suc zero)) h = refl
spot_number (FORCED (suc (suc zero))) h = refl
spot_number (FORCED (suc (suc (suc c)))) h = absurd (not-suc-le-zero h)
spot_number (LINES zero) h = refl
spot_number (LINES (suc zero)) h = refl
spot_number (LINES (suc (suc zero))) h = refl
spot_number (LINES (suc (suc (suc c)))) h = absurd (not-suc-le-zero h)
spot_number (CONFIG zero) h = refl
spot_number (CONFIG (suc zero)) h = refl
spot_number (CONFIG (suc (suc zero))) h = refl
spot_number (CONFIG (suc (suc (suc c)))) h = absurd (not-suc-le-zero h)
spot_number (BUSY ch) h = refl
spot_number (MAJORS ch) h = refl
spot_number (PENDING ch) h = refl
spot_number (SOURCE zero s) h = refl
spot_number (SOURCE (suc zero) s) h = refl
spot_number (SOURCE (suc (suc zero)) s) h = refl
spot_number (SOURCE (suc (suc (suc c))) s) h = absurd (not-suc-le-zero h)
spot_number (TAKEN i) h = omega arith
spot_number (PRIORITY ch) h = refl

-- a field has its spot's bits, in every mode
spot_bits : (chip : Bool) (f : Field) → (spot f).1 < length (get_or (bit_parts chip) (spot f).0 []) → get_or (get_or (bit_parts chip) (spot f).0 []) (spot f).1 0 ≡ bits_in chip f
unfolding spot bit_parts bits_of
spot_bits chip (SCALAR i) h = any_default scalar_bits i 0 64 h
spot_bits chip (MASKS zero) h = refl
spot_bits chip (MASKS (suc zero)) h = refl
spot_bits chip (MASKS (suc (suc zero))) h = refl
spot_bits chip (MASKS (suc (suc (suc c)))) h = absurd (not-suc-le-zero h)
spot_bits chip (FORCED zero) h = refl
spot_bits chip (FORCED (suc zero)) h = refl
spot_bits chip (FORCED (suc (suc zero))) h = refl
spot_bits chip (FORCED (suc (suc (suc c)))) h = absurd (not-suc-le-zero h)
spot_bits chip (LINES zero) h = refl
spot_bits chip (LINES (suc zero)) h = refl
spot_bits chip (LINES (suc (suc zero))) h = refl
spot_bits chip (LINES (suc (suc (suc c)))) h = absurd (not-suc-le-zero h)
spot_bits chip (CONFIG zero) h = refl
spot_bits chip (CONFIG (suc zero)) h = refl
spot_bits chip (CONFIG (suc (suc zero))) h = refl
spot_bits chip (CONFIG (suc (suc (suc c)))) h = absurd (not-suc-le-zero h)
spot_bits chip (BUSY ch) h = get_or-replicate 64 ch 64 0 h
spot_bits chip (MAJORS ch) h = get_or-replicate 64 ch 64 0 h
spot_bits chip (PENDING ch) h = get_or-replicate 64 ch 32 0 h
spot_bits chip (SOURCE zero s) h = get_or-replicate 64 s 8 0 h
spot_bits chip (SOURCE (suc zero) s) h = get_or-replicate 64 s 8 0 h
spot_bits chip (SOURCE (suc (suc zero)) s) h = get_or-replicate 64 s 8 0 h
spot_bits chip (SOURCE (suc (suc (suc c))) s) h = absurd (not-suc-le-zero h)
spot_bits chip (TAKEN i) h = get_or-replicate 192 i 64 0 h
spot_bits chip (PRIORITY ch) h = get_or-replicate 64 ch (cond chip 6 0) 0 h

-- ---- a field stored

not_three : (n : ℕ) → n ≡ 3 → (n ≡ 3 → ⊥) → ⊥
not_three n e h = h e

pub in_three : {A : Type 0} (P : List A → Type 0) → ((a b c : A) → P (a ∷ b ∷ c ∷ [])) → (l : List A) → length l ≡ 3 → P l
in_three P h [] e = absurd (not_three 0 e (λ k. omega arith))
in_three P h (a ∷ []) e = absurd (not_three 1 e (λ k. omega arith))
in_three P h (a ∷ b ∷ []) e = absurd (not_three 2 e (λ k. omega arith))
in_three P h (a ∷ b ∷ c ∷ []) e = h a b c
in_three P h (a ∷ b ∷ c ∷ x ∷ l) e = absurd (not_three (suc (suc (suc (suc (length l))))) e (λ k. omega arith))

-- of the three controllers, by computation at each
abbrev InParts : Device → ℕ → (Controller → Controller) → ℕ × ℕ → ℕ → List Controller → Type 0
InParts d c g s v cs = parts_of (with_controllers d (set cs c (g (controller cs c)))) ≡ set_in (parts_of (with_controllers d cs)) s v

masks-put : (d : Device) (c v : ℕ) (x y z : Controller) → InParts d c (λ k. with_masks k v) (own c 0) v (x ∷ y ∷ z ∷ [])
unfolding parts_of own_of
masks-put d zero v x y z = refl
masks-put d (suc zero) v x y z = refl
masks-put d (suc (suc zero)) v x y z = refl
masks-put d (suc (suc (suc c))) v x y z = refl

forced-put : (d : Device) (c v : ℕ) (x y z : Controller) → InParts d c (λ k. with_forced k v) (own c 1) v (x ∷ y ∷ z ∷ [])
unfolding parts_of own_of
forced-put d zero v x y z = refl
forced-put d (suc zero) v x y z = refl
forced-put d (suc (suc zero)) v x y z = refl
forced-put d (suc (suc (suc c))) v x y z = refl

lines-put : (d : Device) (c v : ℕ) (x y z : Controller) → InParts d c (λ k. with_lines k v) (own c 2) v (x ∷ y ∷ z ∷ [])
unfolding parts_of own_of
lines-put d zero v x y z = refl
lines-put d (suc zero) v x y z = refl
lines-put d (suc (suc zero)) v x y z = refl
lines-put d (suc (suc (suc c))) v x y z = refl

config-put : (d : Device) (c v : ℕ) (x y z : Controller) → InParts d c (λ k. with_config k v) (own c 3) v (x ∷ y ∷ z ∷ [])
unfolding parts_of own_of
config-put d zero v x y z = refl
config-put d (suc zero) v x y z = refl
config-put d (suc (suc zero)) v x y z = refl
config-put d (suc (suc (suc c))) v x y z = refl

levels-put : (d : Device) (c s v : ℕ) (x y z : Controller) → InParts d c (λ k. with_levels k (set k.levels s v)) (levels_at c s) v (x ∷ y ∷ z ∷ [])
unfolding parts_of own_of
levels-put d zero s v x y z = refl
levels-put d (suc zero) s v x y z = refl
levels-put d (suc (suc zero)) s v x y z = refl
levels-put d (suc (suc (suc c))) s v x y z = refl

-- no field is a setting
pub put_setting : (s : Setting) (f : Field) (v : ℕ) (d : Device) → setting_of s (with_field f v d) ≡ setting_of s d
put_setting IGNORE f v d = by f
  where
    by : (f : Field) → (with_field f v d).ignore ≡ d.ignore
    by (SCALAR i) = refl
    by (MASKS c) = refl
    by (FORCED c) = refl
    by (LINES c) = refl
    by (CONFIG c) = refl
    by (BUSY ch) = refl
    by (MAJORS ch) = refl
    by (PENDING ch) = refl
    by (SOURCE c s) = refl
    by (TAKEN i) = refl
    by (PRIORITY ch) = refl
put_setting CHIP f v d = by f
  where
    by : (f : Field) → (with_field f v d).chip ≡ d.chip
    by (SCALAR i) = refl
    by (MASKS c) = refl
    by (FORCED c) = refl
    by (LINES c) = refl
    by (CONFIG c) = refl
    by (BUSY ch) = refl
    by (MAJORS ch) = refl
    by (PENDING ch) = refl
    by (SOURCE c s) = refl
    by (TAKEN i) = refl
    by (PRIORITY ch) = refl

-- e is d with v at a spot of its parts
pub record PutAt (d e : Device) (s : ℕ × ℕ) (v : ℕ) : Type 0 where
  pub three : length e.controllers ≡ 3
  pub table : e.table ≡ d.table
  pub parts : parts_of e ≡ set_in (parts_of d) s v

-- the one law of each field
pub put_law : (f : Field) (v : ℕ) (d : Device) → length d.controllers ≡ 3 → PutAt d (with_field f v d) (spot f) v
unfolding spot parts_of own_of
put_law (SCALAR i) v d h = record { three = h; table = refl; parts = refl }
put_law (MASKS c) v d h = record {
  three = length-set d.controllers c _ ∙ h;
  table = refl;
  parts = in_three (InParts d c (λ k. with_masks k v) (own c 0) v) (masks-put d c v) d.controllers h;
}
put_law (FORCED c) v d h = record {
  three = length-set d.controllers c _ ∙ h;
  table = refl;
  parts = in_three (InParts d c (λ k. with_forced k v) (own c 1) v) (forced-put d c v) d.controllers h;
}
put_law (LINES c) v d h = record {
  three = length-set d.controllers c _ ∙ h;
  table = refl;
  parts = in_three (InParts d c (λ k. with_lines k v) (own c 2) v) (lines-put d c v) d.controllers h;
}
put_law (CONFIG c) v d h = record {
  three = length-set d.controllers c _ ∙ h;
  table = refl;
  parts = in_three (InParts d c (λ k. with_config k v) (own c 3) v) (config-put d c v) d.controllers h;
}
put_law (BUSY ch) v d h = record { three = h; table = refl; parts = refl }
put_law (MAJORS ch) v d h = record { three = h; table = refl; parts = refl }
put_law (PENDING ch) v d h = record { three = h; table = refl; parts = refl }
put_law (SOURCE c s) v d h = record {
  three = length-set d.controllers c _ ∙ h;
  table = refl;
  parts = in_three (InParts d c (λ k. with_levels k (set k.levels s v)) (levels_at c s) v) (levels-put d c s v) d.controllers h;
}
put_law (TAKEN i) v d h = record { three = h; table = refl; parts = refl }
put_law (PRIORITY ch) v d h = record { three = h; table = refl; parts = refl }

module _ (f : Field) (v : ℕ) (d : Device) (s : Sound d) where
  pub put-sound : v < 2 ^ bits_in d.chip f → Sound (with_field f v d)
  put-sound h =
      let p = put_law f v d s.three in
      record {
        three = p.three;
        table_bytes = rw p.table s.table_bytes;
        fitting =
            subst (λ c. Fitting (bit_parts c) (parts_of (with_field f v d))) (sym (put_setting CHIP f v d))
            (subst (Fitting (bit_parts d.chip)) (sym p.parts)
            (fitting_set (bit_parts d.chip) (parts_of d) (spot f).0 (spot f).1 v s.fitting (λ l. subst (λ b. v < 2 ^ b) (sym (spot_bits d.chip f l)) h)));
      }

  -- the fields by number: the field's own changes, and no other
  pub put-fields : Real f → fields_of (with_field f v d) ≡ set (fields_of d) (number_of f) v
  unfolding fields_of
  put-fields h =
      ap joined (put_law f v d s.three).parts ∙ sym (set_part sizes (parts_of d) (sized d s) (spot f).0 (spot f).1 v h)
      ∙ ap (λ (n : ℕ). set (fields_of d) n v) (spot_number f h)

-- ---- a field read

-- a field holds what is at its spot
pub get_law : (f : Field) (d : Device) → length d.controllers ≡ 3 → holds f d ≡ get_or (get_or (parts_of d) (spot f).0 []) (spot f).1 0
unfolding spot parts_of own_of
get_law (SCALAR i) d h = refl
get_law (MASKS zero) d h = refl
get_law (MASKS (suc zero)) d h = refl
get_law (MASKS (suc (suc zero))) d h = refl
get_law (MASKS (suc (suc (suc c)))) d h = in_three (λ cs. (controller cs (suc (suc (suc c)))).masks ≡ 0) (λ x y z. refl) d.controllers h
get_law (FORCED zero) d h = refl
get_law (FORCED (suc zero)) d h = refl
get_law (FORCED (suc (suc zero))) d h = refl
get_law (FORCED (suc (suc (suc c)))) d h = in_three (λ cs. (controller cs (suc (suc (suc c)))).forced ≡ 0) (λ x y z. refl) d.controllers h
get_law (LINES zero) d h = refl
get_law (LINES (suc zero)) d h = refl
get_law (LINES (suc (suc zero))) d h = refl
get_law (LINES (suc (suc (suc c)))) d h = in_three (λ cs. (controller cs (suc (suc (suc c)))).lines ≡ 0) (λ x y z. refl) d.controllers h
get_law (CONFIG zero) d h = refl
get_law (CONFIG (suc zero)) d h = refl
get_law (CONFIG (suc (suc zero))) d h = refl
get_law (CONFIG (suc (suc (suc c)))) d h = in_three (λ cs. (controller cs (suc (suc (suc c)))).config ≡ 0) (λ x y z. refl) d.controllers h
get_law (BUSY ch) d h = refl
get_law (MAJORS ch) d h = refl
get_law (PENDING ch) d h = refl
get_law (SOURCE zero s) d h = refl
get_law (SOURCE (suc zero) s) d h = refl
get_law (SOURCE (suc (suc zero)) s) d h = refl
get_law (SOURCE (suc (suc (suc c))) s) d h = in_three (λ cs. get_or (controller cs (suc (suc (suc c)))).levels s 0 ≡ 0) (λ x y z. nothing s) d.controllers h
  where
    nothing : (s : ℕ) → ◌≡◌ {A = ℕ} (get_or [] s 0) 0
    nothing zero = refl
    nothing (suc s) = refl
get_law (TAKEN i) d h = refl
get_law (PRIORITY ch) d h = refl

-- it fits the bits that it has in the device's mode, and so those that it has at all
pub holds_fits_in : (f : Field) (d : Device) → Sound d → holds f d < 2 ^ bits_in d.chip f
holds_fits_in f d s =
    subst⁻¹ (λ x. x < 2 ^ bits_in d.chip f) (get_law f d s.three)
    (fitting_get (bit_parts d.chip) (parts_of d) (spot f).0 (spot f).1 (bits_in d.chip f) s.fitting (spot_bits d.chip f))

pub bits_most : (chip : Bool) (f : Field) → bits_in chip f ≤ bits_of f
bits_most chip f = by (in_both f || chip)
  where
    by : (b : Bool) → cond b (bits_of f) 0 ≤ bits_of f
    by true = le_refl (bits_of f)
    by false = zero-le

pub holds_fits : (f : Field) (d : Device) → Sound d → holds f d < 2 ^ bits_of f
holds_fits f d s = lt_of_lt_of_le (holds_fits_in f d s) (pow_mono (bits_most d.chip f))

-- and the document's number leads there
pub holds-number : (f : Field) (d : Device) → Sound d → Real f → get_or (fields_of d) (number_of f) 0 ≡ holds f d
unfolding fields_of
holds-number f d s h =
    ap (λ (n : ℕ). get_or (fields_of d) n 0) (sym (spot_number f h)) ∙ get_part sizes (parts_of d) (sized d s) (spot f).0 (spot f).1 h
    ∙ sym (get_law f d s.three)

-- ---- all 832 numbers, in each mode by one test that is computed

-- the field of number n, of b bits in the mode
pub record Named (chip : Bool) (n b : ℕ) (f : Field) : Type 0 where
  pub number : number_of f ≡ n
  pub bits : bits_in chip f ≡ b
  pub real : Real f

-- what stands at number n of the fields: a field of b bits, or none, and then no bits
abbrev pub Agrees : Bool → ℕ → ℕ → Option Field → Type 0
Agrees chip n b none = b ≡ 0
Agrees chip n b (some f) = Named chip n b f

-- and so from number n on
abbrev pub AllNamed : Bool → ℕ → List ℕ → Type 0
AllNamed chip n [] = Unit {0}
AllNamed chip n (b ∷ bs) = Agrees chip n b (field_at chip n) × AllNamed chip (suc n) bs

abbrev agrees : Bool → ℕ → ℕ → Option Field → Bool
agrees chip n b none = eqb b 0
agrees chip n b (some f) = eqb (number_of f) n && eqb (bits_in chip f) b && ltb (spot f).1 (get_or sizes (spot f).0 0)

abbrev all_agree : Bool → ℕ → List ℕ → Bool
all_agree chip n [] = true
all_agree chip n (b ∷ bs) = agrees chip n b (field_at chip n) && all_agree chip (suc n) bs

agreed : (chip : Bool) (n b : ℕ) (o : Option Field) → agrees chip n b o ≡ true → Agrees chip n b o
agreed chip n b none t = eqb-true b 0 t
agreed chip n b (some f) t =
    let number = eqb (number_of f) n in
    let bits = eqb (bits_in chip f) b in
    let both = and_left (number && bits) _ t in
    record {
      number = eqb-true _ _ (and_left number bits both);
      bits = eqb-true _ _ (and_right number bits both);
      real = ltb-true _ _ (and_right (number && bits) _ t);
    }

all_agreed : (chip : Bool) (n : ℕ) (bs : List ℕ) → all_agree chip n bs ≡ true → AllNamed chip n bs
all_agreed chip n [] t = tt
all_agreed chip n (b ∷ bs) t = (agreed chip n b (field_at chip n) (and_left _ _ t), all_agreed chip (suc n) bs (and_right (agrees chip n b (field_at chip n)) _ t))

pub all_named : (chip : Bool) → AllNamed chip 0 (field_bits chip)
unfolding field_bits bit_parts joined field_at of_controller number_of bits_of spot start
all_named true = all_agreed true 0 (field_bits true) refl
all_named false = all_agreed false 0 (field_bits false) refl
