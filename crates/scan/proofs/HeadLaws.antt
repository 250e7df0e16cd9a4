-- What a record's head says of its value, by cases: the laws that the proofs of the heads cite. Assumes nothing.
use mathlib.Core.Bool.{Bool, true, false, ◌&&◌, ◌||◌}
use mathlib.Core.List.{List}
use mathlib.Core.Option.{Option, none, some}
use mathlib.Core.Path.{◌≡◌, refl, sym, ap, ◌∙◌}
use Prim.Native.Nat.{ℕ, zero, suc, ◌+◌, ◌*◌, ◌^◌, ◌≤◌, ◌<◌}
use native.Mathlib.Omega.{arith}
use native.Mathlib.Nat.{add-zero, pow-suc}
use borrow.Author.Tests.{eqb-true, eq-eqb, ne_eqb}
use lib.Dec.{eqb, ltb}
use lib.ListN.{get_or}
use lib.Pow.{pow-add}
use Rattle.rules.specs.Act.{Space, window, table, Field}
use Rattle.rules.specs.Bytes.{number, part}
use Rattle.rules.specs.Carry.{Machine, legal, there}
use Rattle.rules.specs.Fields.{field_at, fits_some}
use Rattle.rules.specs.TakeBack.{marked, kind, width, place, sound_store, sound_field, sound_kind}
use Rattle.rules.proofs.BoolLaws.{or_either}
use Rattle.rules.proofs.BytesLaws.{get_or-part, part-part}
use Rattle.std.specs.Prelude.{Option as Maybe, Some, None}
use Rattle.std.proofs.lemmas.Option.{none-some, same_Some}
use Rattle.device.specs.Spots.{bits_found}
use Rattle.device.proofs.Laws.{found_ranged}
use Rattle.scan.specs.Heads.{Judges, sound_with}
use Rattle.scan.specs.Heads.{Head}

-- ---- the mark

pub mark_is : (j : List ℕ) (at : ℕ) → marked (part j at 16) ≡ eqb (get_or j at 0) 0x4A && eqb (get_or j (at + 1) 0) 0x52
unfolding marked
mark_is j at = rw (get_or-part j at 16 0 (omega arith), get_or-part j at 16 1 (omega arith), add-zero at)

-- ---- stores

-- the bits of so many bytes
pub byte_bits : (w : ℕ) → 2 ^ (w * 8) ≡ 256 ^ w
byte_bits zero = refl
byte_bits (suc w) =
    let e : suc w * 8 ≡ w * 8 + 8 = omega arith in
    ap (λ (n : ℕ). 2 ^ n) e ∙ pow-add 2 (w * 8) 8 ∙ ap (λ (x : ℕ). x * 256) (byte_bits w) ∙ sym (pow-suc 256 w)

pub legal_wide : (sp : Space) (w : ℕ) → legal sp w ≡ true → (0 < w) × (w ≤ 8)
unfolding legal
legal_wide window w =
    or_either (eqb w 1 || eqb w 2) (eqb w 4)
    (or_either (eqb w 1) (eqb w 2) (λ t. let e = eqb-true w 1 t in (omega arith, omega arith)) (λ t. let e = eqb-true w 2 t in (omega arith, omega arith)))
    (λ t. let e = eqb-true w 4 t in (omega arith, omega arith))
legal_wide table w =
    or_either (eqb w 1 || eqb w 2 || eqb w 4) (eqb w 8)
    (or_either (eqb w 1 || eqb w 2) (eqb w 4)
    (or_either (eqb w 1) (eqb w 2) (λ t. let e = eqb-true w 1 t in (omega arith, omega arith)) (λ t. let e = eqb-true w 2 t in (omega arith, omega arith)))
    (λ t. let e = eqb-true w 4 t in (omega arith, omega arith)))
    (λ t. let e = eqb-true w 8 t in (omega arith, omega arith))

pub legal-most : (sp : Space) (w : ℕ) → legal sp w ≡ true → w ≤ 8
legal-most sp w e = (legal_wide sp w e).1

module _ (base : ℕ) (m : Machine) (sp : Space) (w a : ℕ) where
  pub wrong-width : legal sp w ≡ false → Judges None (sound_store base m sp w a)
  unfolding sound_store
  wrong-width e = record { agrees = λ v. rw e; ranged = tt }

  module _ (fair : legal sp w ≡ true) where
    pub outside : there base sp a w m ≡ false → Judges None (sound_store base m sp w a)
    unfolding sound_store
    outside e = record { agrees = λ v. rw (fair, e); ranged = tt }

    pub wide : there base sp a w m ≡ true → Judges (Some (w * 8)) (sound_store base m sp w a)
    unfolding sound_store
    wide e = let l = legal_wide sp w fair in record { agrees = λ v. rw (fair, e, byte_bits w); ranged = (omega arith, omega arith) }

-- ---- fields

module _ (base : ℕ) (chip : Bool) (w n : ℕ) where
  pub field_width : (w ≡ 8 → ⊥) → Judges None (sound_field base chip w n)
  unfolding sound_field
  field_width e = record { agrees = λ v. rw (ne_eqb w 8 e); ranged = tt }

  -- a field may be there or not, and its bits are those that were found
  module _ (eight : w ≡ 8) {r : Maybe ℕ} (bits : r ≡ bits_found chip (field_at chip n)) where
    pub field_none : r ≡ None → Judges None (sound_field base chip w n)
    unfolding sound_field
    field_none z = record { agrees = λ v. rw (eq-eqb w 8 eight) (by v (field_at chip n) (sym z ∙ bits)); ranged = tt }
      where
        by : (v : ℕ) (o : Option Field) → None ≡ bits_found chip o → false ≡ fits_some chip o v
        by v none e = refl
        by v (some f) e = absurd (none-some _ e)

    pub field_wide : {b : ℕ} → r ≡ Some b → Judges (Some b) (sound_field base chip w n)
    unfolding sound_field
    field_wide {b} z = record { agrees = λ v. rw (eq-eqb w 8 eight) (by v (field_at chip n) (sym z ∙ bits)); ranged = found_ranged chip n (sym z ∙ bits) }
      where
        by : (v : ℕ) (o : Option Field) → Some b ≡ bits_found chip o → ltb v (2 ^ b) ≡ fits_some chip o v
        by v none e = absurd (none-some _ (sym e))
        by v (some f) e = ap (λ (x : ℕ). ltb v (2 ^ x)) (same_Some _ _ e)

-- ---- a record: what the code reads of it

pub number_one : (l : List ℕ) (i : ℕ) → number (part l i 1) ≡ get_or l i 0
unfolding number part
number_one l i = omega arith

pub unmarked : (base : ℕ) (m : Machine) (l : List ℕ) → marked l ≡ false → Judges None (sound_with base m l)
unfolding sound_with
unmarked base m l e = record { agrees = λ v. rw e; ranged = tt }

module _ (base : ℕ) (m : Machine) (j : List ℕ) (at : ℕ) {k w a : ℕ} (is-marked : marked (part j at 16) ≡ true)
    (kind-is : k ≡ number (part j (at + 2) 1)) (width_is : w ≡ number (part j (at + 3) 1)) (place_is : a ≡ number (part j (at + 4) 4))
  where
    read : (v : ℕ) → sound_with base m (part j at 16) v ≡ sound_kind base m k w a v
    unfolding sound_with place
    read v =
        let K : kind (part j at 16) ≡ k = get_or-part j at 16 2 (omega arith) ∙ sym (kind-is ∙ number_one j (at + 2)) in
        let W : width (part j at 16) ≡ w = get_or-part j at 16 3 (omega arith) ∙ sym (width_is ∙ number_one j (at + 3)) in
        let A : place (part j at 16) ≡ a = ap number (part-part j at 16 4 4 (omega arith)) ∙ sym place_is in
        rw (is-marked, K, W, A)

    judged : {h : Head} {test : ℕ → Bool} → Judges h test → ((v : ℕ) → sound_kind base m k w a v ≡ test v) → Judges h (sound_with base m (part j at 16))
    judged h e = record { agrees = λ v. h.agrees v ∙ sym (read v ∙ e v); ranged = h.ranged }

    pub in_window : {h : Head} → k ≡ 0 → Judges h (sound_store base m window w a) → Judges h (sound_with base m (part j at 16))
    unfolding sound_kind
    in_window e h = judged h (λ v. rw e)

    pub in_table_lem : {h : Head} → k ≡ 1 → Judges h (sound_store base m table w a) → Judges h (sound_with base m (part j at 16))
    unfolding sound_kind
    in_table_lem e h = judged h (λ v. rw e)

    pub in_field : {h : Head} {chip : Bool} → m.dev.chip ≡ chip → k ≡ 2 → Judges h (sound_field base chip w a) → Judges h (sound_with base m (part j at 16))
    unfolding sound_kind
    in_field c e h = judged h (λ v. rw (e, c))

    pub other_kind : (k ≡ 0 → ⊥) → (k ≡ 1 → ⊥) → (k ≡ 2 → ⊥) → Judges None (sound_with base m (part j at 16))
    unfolding sound_kind
    other_kind n₀ n₁ n₂ = judged (record { agrees = λ v. refl; ranged = tt }) (λ v. by k refl v)
      where
        by : (i : ℕ) → k ≡ i → (v : ℕ) → sound_kind base m i w a v ≡ false
        by zero e v = absurd (n₀ e)
        by (suc zero) e v = absurd (n₁ e)
        by (suc (suc zero)) e v = absurd (n₂ e)
        by (suc (suc (suc i))) e v = refl
