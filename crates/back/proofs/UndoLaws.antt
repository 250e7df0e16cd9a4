-- One sound record undone, by its kind; a group's records undone in turn, last to first. Assumes nothing.
use mathlib.Core.Bool.{Bool, true, false, false≢true}
use mathlib.Core.List.{List}
use mathlib.Core.Option.{Option, none, some}
use mathlib.Core.Path.{◌≡◌, refl, sym, ap, ◌∙◌, subst}
use Prim.Native.Nat.{ℕ, zero, suc, ◌+◌, ◌-◌, ◌*◌, ◌≤◌, ◌<◌}
use native.Mathlib.Omega.{arith}
use borrow.Author.Tests.{ltb-true, ltb-false, ne_eqb}
use lib.Dec.{eqb, ltb}
use lib.ListN.{length, take, drop}
use lib.Seq.{drop-drop}
use Rattle.rules.specs.Act.{window, table, Field, SCALAR, MASKS, FORCED, LINES, CONFIG, BUSY, MAJORS, PENDING, SOURCE, TAKEN, PRIORITY, CHIP}
use Rattle.rules.specs.Bytes.{number, part}
use Rattle.rules.specs.Carry.{Machine, Rec, stood_at, stood_in, with_device, kind_of, undo_rec, undo}
use Rattle.rules.specs.Fields.{field_at, fits_some, with_field, with_some, with_number}
use Rattle.rules.specs.TakeBack.{kind, width, place, value, marked, sound_field, sound_kind, sound, all_sound, rec_of, decode, decode_all}
use Rattle.rules.specs.With.{with_table}
use Rattle.rules.specs.State.{Device}
use Rattle.rules.proofs.BoolLaws.{and_left, and_right}
use Rattle.rules.proofs.BytesLaws.{get_or-part, part-part}
use Rattle.rules.proofs.Cut.{part_cut}
use Rattle.rules.proofs.FieldLaws.{put_setting}
use Rattle.scan.specs.Heads.{scanning}
use Rattle.scan.proofs.HeadLaws.{number_one}
use Rattle.scan.proofs.Laws.{sound-same, table-scanning}
use Rattle.journal.specs.Undoing.{Undone, undo_as, undo_line}
use Rattle.journal.proofs.Back.{SameSizes, store_as}
use Rattle.back.specs.Standing.{machine, undo_store, undo_field, UndoesStore}

-- ---- the record of a store

other_kind : (base k n a v : ℕ) (m : Machine) → (k ≡ 0 → ⊥) → (k ≡ 1 → ⊥) → undo_as base k n a v m ≡ m
unfolding undo_as
other_kind base k n a v m p q = rw (ne_eqb k 0 p, ne_eqb k 1 q)

-- of a sound record: what the journal's undoing does with it is what the rules' does where it is a store's, and nothing where it is a field's
module _ (chip : Bool) (base : ℕ) (l w t : List ℕ) (long : length t ≡ 2048) (fair : sound base (scanning chip w) l ≡ true) where
  sizes : (e : Device) → SameSizes (scanning chip w) (machine w (with_table e t))
  unfolding scanning
  sizes e = record { memory = refl; table = long ∙ sym (unfold scanning in table-scanning chip w) }

  by_kind : (e : Device) (k : ℕ) → sound_kind base (scanning chip w) k (width l) (place l) (value l) ≡ true
      → undo_as base k (width l) (place l) (value l) (machine w (with_table e t)) ≡ undo_store base (rec_of k (width l) (place l) (value l)) (machine w (with_table e t))
  unfolding sound_kind rec_of undo_store undo_rec kind_of
  by_kind e zero s = store_as base window (place l) (width l) (value l) (scanning chip w) (machine w (with_table e t)) (sizes e) s
  by_kind e (suc zero) s = store_as base table (place l) (width l) (value l) (scanning chip w) (machine w (with_table e t)) (sizes e) s
  by_kind e (suc (suc k)) s = other_kind base (suc (suc k)) (width l) (place l) (value l) (machine w (with_table e t)) (λ q. omega arith) (λ q. omega arith)

  pub store_undone : {w' t' : List ℕ} → Undone (undo_line base l) w w' t t' → UndoesStore base (decode l) w t w' t'
  unfolding undo_line decode sound
  store_undone h e = h e ∙ by_kind e (kind l) (and_right (marked l) (sound_kind base (scanning chip w) (kind l) (width l) (place l) (value l)) fair)

-- ---- the record of a field

module _ (j : List ℕ) (at : ℕ) where
  pub kind_at : {k : ℕ} → k ≡ number (part j (at + 2) 1) → ltb 1 k ≡ ltb 1 (kind (part j at 16))
  kind_at e = ap (ltb 1) (e ∙ number_one j (at + 2) ∙ sym (get_or-part j at 16 2 (omega arith)))

  pub place_at_lem : {a : ℕ} → a ≡ number (part j (at + 4) 4) → a ≡ place (part j at 16)
  unfolding place
  place_at_lem e = e ∙ ap number (sym (part-part j at 16 4 4 (omega arith)))

  pub value_at : {v : ℕ} → v ≡ number (part j (at + 8) 8) → v ≡ value (part j at 16)
  unfolding value
  value_at e = e ∙ ap number (sym (part-part j at 16 8 8 (omega arith)))

past_stores : (k : ℕ) → ltb 1 k ≡ true → (k ≡ 0 → ⊥) × (k ≡ 1 → ⊥)
past_stores k h = (λ e. omega (arith, ltb-true 1 k h, e), λ e. omega (arith, ltb-true 1 k h, e))

module _ (base : ℕ) (m : Machine) (b : List ℕ) where
  pub field_held : {chip : Bool} → m.dev.chip ≡ chip → sound base m b ≡ true → ltb 1 (kind b) ≡ true → fits_some chip (field_at chip (place b)) (value b) ≡ true
  unfolding sound sound_kind sound_field
  field_held {chip} mode fair h =
      subst (λ c. fits_some c (field_at c (place b)) (value b) ≡ true) mode
      (by (kind b) (past_stores (kind b) h).0 (past_stores (kind b) h).1 (and_right (marked b) (sound_kind base m (kind b) (width b) (place b) (value b)) fair))
    where
      by : (i : ℕ) → (i ≡ 0 → ⊥) → (i ≡ 1 → ⊥) → sound_kind base m i (width b) (place b) (value b) ≡ true → fits_some m.dev.chip (field_at m.dev.chip (place b)) (value b) ≡ true
      by zero n₀ n₁ s = absurd (n₀ refl)
      by (suc zero) n₀ n₁ s = absurd (n₁ refl)
      by (suc (suc zero)) n₀ n₁ s = and_right (eqb (width b) 8) (fits_some m.dev.chip (field_at m.dev.chip (place b)) (value b)) s
      by (suc (suc (suc i))) n₀ n₁ s = absurd (false≢true s)

module _ (b : List ℕ) (d : Device) {r : Device} where
  pub field_so : ltb 1 (kind b) ≡ true → r ≡ with_number (place b) (value b) d → r ≡ undo_field (decode b) d
  unfolding decode rec_of undo_field
  field_so h e = e ∙ by (kind b) (past_stores (kind b) h).0 (past_stores (kind b) h).1
    where
      by : (i : ℕ) → (i ≡ 0 → ⊥) → (i ≡ 1 → ⊥) → with_number (place b) (value b) d ≡ undo_field (rec_of i (width b) (place b) (value b)) d
      by zero n₀ n₁ = absurd (n₀ refl)
      by (suc zero) n₀ n₁ = absurd (n₁ refl)
      by (suc (suc i)) n₀ n₁ = refl

  pub store_so : ltb 1 (kind b) ≡ false → r ≡ d → r ≡ undo_field (decode b) d
  unfolding decode rec_of undo_field
  store_so h e = e ∙ by (kind b) (ltb-false 1 (kind b) h)
    where
      by : (i : ℕ) → i ≤ 1 → d ≡ undo_field (rec_of i (width b) (place b) (value b)) d
      by zero l = refl
      by (suc zero) l = refl
      by (suc (suc i)) l = absurd (omega arith)

-- a field and the table are apart
apart : (f : Field) (v : ℕ) (d : Device) (t : List ℕ) → with_table (with_field f v d) t ≡ with_field f v (with_table d t)
apart (SCALAR i) v d t = refl
apart (MASKS c) v d t = refl
apart (FORCED c) v d t = refl
apart (LINES c) v d t = refl
apart (CONFIG c) v d t = refl
apart (BUSY ch) v d t = refl
apart (MAJORS ch) v d t = refl
apart (PENDING ch) v d t = refl
apart (SOURCE c s) v d t = refl
apart (TAKEN i) v d t = refl
apart (PRIORITY ch) v d t = refl

some_apart : (o : Option Field) (v : ℕ) (d : Device) (t : List ℕ) → with_table (with_some o v d) t ≡ with_some o v (with_table d t)
some_apart none v d t = refl
some_apart (some f) v d t = apart f v d t

-- no record changes the mode
pub mode_kept : (r : Rec) (d : Device) → (undo_field r d).chip ≡ d.chip
unfolding undo_field
mode_kept (stood_at sp a n v) d = refl
mode_kept (stood_in n v) d = by (field_at d.chip n)
  where
    by : (o : Option Field) → (with_some o v d).chip ≡ d.chip
    by none = refl
    by (some f) = put_setting CHIP f v d

-- store and field undone apart are the record undone
pub both_undone : (base : ℕ) (r : Rec) (w t w' t' : List ℕ) (d : Device) {e : Device} → UndoesStore base r w t w' t' → e ≡ undo_field r d
    → machine w' (with_table e t') ≡ undo_rec base r (machine w (with_table d t))
unfolding undo_store undo_field
both_undone base (stood_at sp a n v) w t w' t' d {e} s f = s e ∙ ap (λ (x : Device). undo_rec base (stood_at sp a n v) (machine w (with_table x t))) f
both_undone base (stood_in n v) w t w' t' d {e} s f =
    s e ∙ ap (λ (x : Device). machine w (with_table x t)) f ∙ (unfold undo_rec with_device in ap (machine w) (some_apart (field_at d.chip n) v d t))

-- ---- records in turn

module _ (base : ℕ) where
  -- of n + 1 records the last is undone first
  last_first : (n : ℕ) (l : List ℕ) (m : Machine) → undo base (decode_all (suc n) l) m ≡ undo base (decode_all n l) (undo_rec base (decode (take 16 (drop (n * 16) l))) m)
  unfolding undo decode_all
  last_first zero l m = refl
  last_first (suc n) l m =
      ap (undo_rec base (decode (take 16 l)))
      (last_first n (drop 16 l) m
      ∙ ap (λ (x : List ℕ). undo base (decode_all n (drop 16 l)) (undo_rec base (decode (take 16 x)) m)) (drop-drop (n * 16) 16 l ∙ ap (λ (i : ℕ). drop i l) further))
    where
      further : 16 + n * 16 ≡ suc n * 16
      further = omega arith

  each_sound : (m : Machine) (n : ℕ) (l : List ℕ) → all_sound base m n l ≡ true → (i : ℕ) → i < n → sound base m (take 16 (drop (i * 16) l)) ≡ true
  unfolding all_sound
  each_sound m zero l e i h = absurd (omega arith)
  each_sound m (suc n) l e zero h = and_left (sound base m (take 16 l)) (all_sound base m n (drop 16 l)) e
  each_sound m (suc n) l e (suc i) h =
      ap (λ (x : List ℕ). sound base m (take 16 x)) (sym (drop-drop (i * 16) 16 l ∙ ap (λ (p : ℕ). drop p l) further))
      ∙ each_sound m n (drop 16 l) (and_right (sound base m (take 16 l)) (all_sound base m n (drop 16 l)) e) i (omega arith)
    where
      further : 16 + i * 16 ≡ suc i * 16
      further = omega arith

  -- `count` records from `from` on
  module _ (j : List ℕ) (from count : ℕ) (fits : from + count * 16 ≤ length j) where
    record_at_lem : (i : ℕ) → i < count → part j (from + i * 16) 16 ≡ take 16 (drop (i * 16) (drop from j))
    record_at_lem i h = part_cut j (from + i * 16) 16 (omega arith) ∙ ap (take 16) (sym (drop-drop (i * 16) from j))

    -- each is sound, also in a window that has changed since, but is as long
    pub still_sound : (chip : Bool) (w₀ w : List ℕ) → length w ≡ length w₀ → all_sound base (scanning chip w₀) count (drop from j) ≡ true
        → (i : ℕ) → i < count → sound base (scanning chip w) (part j (from + i * 16) 16) ≡ true
    unfolding scanning
    still_sound chip w₀ w long e i h =
        sound-same base (scanning chip w₀) (scanning chip w) long refl refl (part j (from + i * 16) 16)
        ∙ ap (sound base (scanning chip w₀)) (record_at_lem i h)
        ∙ each_sound (scanning chip w₀) count (drop from j) e i h

    -- the last `done` are undone: the next is the last that is left
    pub undo-turn : (left : ℕ) → 0 < left → left ≤ count → (m : Machine) {m' : Machine} → m' ≡ undo_rec base (decode (part j (from + (left - 1) * 16) 16)) m
        → undo base (decode_all (left - 1) (drop from j)) m' ≡ undo base (decode_all left (drop from j)) m
    undo-turn left more within m e =
        let n : ℕ = left - 1 in
        let s : left ≡ suc n = omega arith in
        rw (e, record_at_lem n (omega arith)) (sym (last_first n (drop from j) m)) ∙ ap (λ (k : ℕ). undo base (decode_all k (drop from j)) m) (sym s)

  pub undo_none : (n : ℕ) (l : List ℕ) (m : Machine) → n ≡ 0 → undo base (decode_all n l) m ≡ m
  unfolding undo decode_all
  undo_none n l m e = rw e
