-- The code's undoing and that of the rules: window and table are what the rules' undoing makes of them. Assumes nothing.
use mathlib.Core.Bool.{Bool, true, false, cond, ◌&&◌}
use mathlib.Core.Option.{Option, none, some}
use mathlib.Core.List.{List, [], ◌∷◌, ◌++◌, append_assoc}
use mathlib.Core.Path.{◌≡◌, refl, sym, ap, ◌∙◌}
use Prim.Native.Nat.{ℕ, ◌+◌, ◌-◌, ◌*◌, ◌/◌, ◌^◌, ◌≤◌, ◌<◌, min}
use native.Mathlib.Nat.{mul-div_cancel, zero-lt-suc, lt_of_lt_of_le, pow-le-pow_right}
use native.Mathlib.Omega.{arith}
use lib.Dec.{eqb, leb, ltb}
use lib.ListN.{length, take, drop, replicate, length-append, length-take, length-drop, take-append-drop}
use lib.Seq.{take_at, drop_at, take-take}
use borrow.Author.Tests.{leb-true, ltb-true}
use Rattle.rules.specs.Act.{Space, window, table, Field, SCALAR, MASKS, FORCED, LINES, CONFIG, BUSY, MAJORS, PENDING, SOURCE, TAKEN, PRIORITY}
use Rattle.rules.specs.Fields.{field_at, with_some}
use Rattle.rules.specs.Bytes.{bytes, part}
use Rattle.rules.specs.Calls.{world_of}
use Rattle.rules.specs.Carry.{Machine, Rec, stood_at, stood_in, legal, bytes_of, with_bytes_of, with_device, there, stored, line, kind_of, line_of, lines_of, cleared, undo_rec, undo}
use Rattle.rules.specs.TakeBack.{kind, width, place, value, sound_store}
use Rattle.rules.specs.State.{Device}
use Rattle.rules.specs.With.{with_table}
use Rattle.rules.proofs.BoolLaws.{and_left, and_right}
use Rattle.rules.proofs.Back.{SoundRec, AllSound, length_rec, length_lines}
use Rattle.rules.proofs.Undo.{as_in}
use Rattle.rules.proofs.BytesLaws.{length_splice, value_fits}
use Rattle.journal.specs.Undoing.{machine_of, Undone, undo_as, undo_line, undo_lines}
use Rattle.journal.proofs.Laws.{memory_width, legal-width}

-- ---- a record is read back as it was written

module _ (k w a v : ℕ) where
  place_back : a < 2 ^ 32 → place (line k w a v) ≡ a
  unfolding place line part bytes
  place_back h = value_fits 4 h

  value_back : v < 2 ^ 64 → value (line k w a v) ≡ v
  unfolding value line part bytes
  value_back h = value_fits 8 h

-- ---- window and table in another device

as_in_stored : (base : ℕ) (d : Device) (sp : Space) (a n v : ℕ) (m : Machine) → as_in d (stored base sp a n v m) ≡ stored base sp a n v (as_in d m)
unfolding stored with_bytes_of bytes_of
as_in_stored base d window a n v m = refl
as_in_stored base d table a n v m = refl

-- no field is in the table
table_apart : (o : Option Field) (v : ℕ) (e : Device) → (with_some o v e).table ≡ e.table
table_apart none v e = refl
table_apart (some (SCALAR i)) v e = refl
table_apart (some (MASKS c)) v e = refl
table_apart (some (FORCED c)) v e = refl
table_apart (some (LINES c)) v e = refl
table_apart (some (CONFIG c)) v e = refl
table_apart (some (BUSY ch)) v e = refl
table_apart (some (MAJORS ch)) v e = refl
table_apart (some (PENDING ch)) v e = refl
table_apart (some (SOURCE c s)) v e = refl
table_apart (some (TAKEN i)) v e = refl
table_apart (some (PRIORITY ch)) v e = refl

-- as long as it was
pub record SameSizes (m₀ m : Machine) : Type 0 where
  pub memory : length m.mem ≡ length m₀.mem
  pub table : length m.dev.table ≡ length m₀.dev.table

module _ (base : ℕ) where
  there-same : (sp : Space) (a n : ℕ) (m₀ m : Machine) → SameSizes m₀ m → there base sp a n m₀ ≡ true → there base sp a n m ≡ true
  unfolding there
  there-same window a n m₀ m s h = rw s.memory h
  there-same table a n m₀ m s h = rw s.table h

  stored_sizes : (sp : Space) (a n v : ℕ) (m₀ m : Machine) → SameSizes m₀ m → SameSizes m₀ (stored base sp a n v m)
  unfolding stored with_bytes_of bytes_of
  stored_sizes window a n v m₀ m s = record { memory = length_splice m.mem _ _ ∙ s.memory; table = s.table }
  stored_sizes table a n v m₀ m s = record { memory = s.memory; table = length_splice m.dev.table _ _ ∙ s.table }

  -- ---- one record

  -- of a store that is sound in m₀
  pub store_as : (sp : Space) (a n v : ℕ) (m₀ m : Machine) → SameSizes m₀ m → sound_store base m₀ sp n a v ≡ true → undo_as base (kind_of sp) n a v m ≡ stored base sp a n v m
  unfolding undo_as kind_of sound_store
  store_as window a n v m₀ m s h =
      let first = and_left (legal window n && there base window a n m₀) (ltb v (256 ^ n)) h in
      let fair = and_left (legal window n) (there base window a n m₀) first in
      let here : there base window a n m ≡ true = there-same window a n m₀ m s (and_right (legal window n) (there base window a n m₀) first) in
      rw (fair, here)
  store_as table a n v m₀ m s h =
      let first = and_left (legal table n && there base table a n m₀) (ltb v (256 ^ n)) h in
      let fair = and_left (legal table n) (there base table a n m₀) first in
      let here : there base table a n m ≡ true = there-same table a n m₀ m s (and_right (legal table n) (there base table a n m₀) first) in
      rw (fair, here)

  -- whatever it is, window and table stay as long
  as_sizes : (k n a v : ℕ) (m₀ m : Machine) → SameSizes m₀ m → SameSizes m₀ (undo_as base k n a v m)
  unfolding undo_as
  as_sizes k n a v m₀ m s =
      by (eqb k 0 && legal window n && there base window a n m) (eqb k 1 && legal table n && there base table a n m)
    where
      by : (b c : Bool) → SameSizes m₀ (cond b (stored base window a n v m) (cond c (stored base table a n v m) m))
      by true c = stored_sizes window a n v m₀ m s
      by false true = stored_sizes table a n v m₀ m s
      by false false = s

  pub line_as_long : (l w w' t t' : List ℕ) → Undone (undo_line base l) w w' t t' → (d : Device) → length t' ≡ length t
  unfolding undo_line
  line_as_long l w w' t t' h d =
      ap (λ (m : Machine). length m.dev.table) (h d) ∙ (as_sizes (kind l) (width l) (place l) (value l) (machine_of w t d) (machine_of w t d) (record { memory = refl; table = refl })).table

  -- as an act wrote it: it can be read back
  module _ (d : Device) (m₀ : Machine) (low : base + length m₀.mem ≤ 2 ^ 32) (table-low : length m₀.dev.table ≤ 2 ^ 32) where
    there_below : (sp : Space) (a n : ℕ) → 0 < n → there base sp a n m₀ ≡ true → a < 2 ^ 32
    unfolding there
    there_below window a n p h = let e = leb-true (a + n) (base + length m₀.mem) (and_right (leb base a) (leb (a + n) (base + length m₀.mem)) h) in omega arith
    there_below table a n p h = let e = leb-true (a + n) (length m₀.dev.table) h in omega arith

    wide : (sp : Space) (n : ℕ) → legal sp n ≡ true → (0 < n) × (n ≤ 8)
    wide window n h = let b = memory_width n h in (b.positive, omega (arith, b.most))
    wide table n h = let b = legal-width n h in (b.positive, b.most)

    store_line : (sp : Space) (a n v : ℕ) (m : Machine) → SameSizes m₀ m → sound_store base m₀ sp n a v ≡ true → undo_line base (line_of (stood_at sp a n v)) m ≡ stored base sp a n v m
    unfolding undo_line line_of sound_store
    store_line sp a n v m s h =
        let first = and_left (legal sp n && there base sp a n m₀) (ltb v (256 ^ n)) h in
        let size = wide sp n (and_left (legal sp n) (there base sp a n m₀) first) in
        let small : v < 256 ^ n = ltb-true v (256 ^ n) (and_right (legal sp n && there base sp a n m₀) (ltb v (256 ^ n)) h) in
        let A : place (line (kind_of sp) n a v) ≡ a = place_back (kind_of sp) n a v (there_below sp a n size.0 (and_right (legal sp n) (there base sp a n m₀) first)) in
        let O : value (line (kind_of sp) n a v) ≡ v = value_back (kind_of sp) n a v (lt_of_lt_of_le small (pow-le-pow_right {n = 256} (zero-lt-suc 255) size.1)) in
        rw (A, O) (unfold line in store_as sp a n v m₀ m s h)

    -- ---- an act's records, one after the other

    line_sizes : (r : Rec) (m : Machine) → SoundRec base m₀ r → SameSizes m₀ m → SameSizes m₀ (undo_line base (line_of r) m)
    line_sizes (stood_at sp a n v) m h s = rw (store_line sp a n v m s h) (stored_sizes sp a n v m₀ m s)
    line_sizes (stood_in n v) m h s = (unfold undo_line undo_as line_of line in s)

    line_undone : (r : Rec) (m m' : Machine) → SoundRec base m₀ r → SameSizes m₀ m → as_in d m ≡ as_in d m' → as_in d (undo_line base (line_of r) m) ≡ as_in d (undo_rec base r m')
    unfolding undo_rec with_device
    line_undone (stood_at sp a n v) m m' h s e =
        ap (as_in d) (store_line sp a n v m s h) ∙ as_in_stored base d sp a n v m ∙ ap (stored base sp a n v) e ∙ sym (as_in_stored base d sp a n v m')
    line_undone (stood_in n v) m m' h s e =
        let f : as_in d (undo_line base (line_of (stood_in n v)) m) ≡ as_in d m' = (unfold undo_line undo_as line_of line in e) in
        f ∙ ap (λ (t : List ℕ). record { mem = m'.mem; dev = with_table d t }) (sym (table_apart (field_at m'.dev.chip n) v m'.dev))

    lines_sizes : (m : Machine) → SameSizes m₀ m → (log : List Rec) → AllSound base m₀ log → (rest : List ℕ) → SameSizes m₀ (undo_lines base (length log) (lines_of log ++ rest) m)
    unfolding undo_lines lines_of AllSound
    lines_sizes m s [] h rest = s
    lines_sizes m s (r ∷ rs) h rest =
        rw (append_assoc (line_of r) (lines_of rs) rest, take_at (line_of r) (lines_of rs ++ rest) 16 (length_rec r), drop_at (line_of r) (lines_of rs ++ rest) 16 (length_rec r))
        (line_sizes r (undo_lines base (length rs) (lines_of rs ++ rest) m) h.0 (lines_sizes m s rs h.1 rest))

    pub log_undone : (m : Machine) → SameSizes m₀ m → (log : List Rec) → AllSound base m₀ log → (rest : List ℕ)
        → as_in d (undo_lines base (length log) (lines_of log ++ rest) m) ≡ as_in d (undo base log m)
    unfolding undo_lines lines_of undo AllSound
    log_undone m s [] h rest = refl
    log_undone m s (r ∷ rs) h rest =
        rw (append_assoc (line_of r) (lines_of rs) rest, take_at (line_of r) (lines_of rs ++ rest) 16 (length_rec r), drop_at (line_of r) (lines_of rs ++ rest) 16 (length_rec r))
        (line_undone r (undo_lines base (length rs) (lines_of rs ++ rest) m) (undo base rs m) h.0 (lines_sizes m s rs h.1 rest) (log_undone m s rs h.1 rest))

-- ---- the journal ends at `at`, behind the records of a log that began at `used`

module _ (j before : List ℕ) (log : List Rec) (used at : ℕ) (made : take at j ≡ before ++ lines_of log) (begun : length before ≡ used) where
  records : min at (length j) ≡ used + length log * 16
  records = omega (arith, length-take at j, ap length made, length-append before (lines_of log), length_lines log)

  stretch : drop used j ≡ lines_of log ++ drop at j
  stretch =
      ap (drop used) (sym (take-append-drop at j) ∙ ap (λ (l : List ℕ). l ++ drop at j) made ∙ append_assoc before (lines_of log) (drop at j))
      ∙ drop_at before (lines_of log ++ drop at j) used begun

  -- window and table of a machine m, rolled back
  pub rolled_stores : (base : ℕ) (d : Device) (m₀ m : Machine) → SameSizes m₀ m → base + length m₀.mem ≤ 2 ^ 32 → length m₀.dev.table ≤ 2 ^ 32 → AllSound base m₀ log
      → as_in d (undo_lines base ((min at (length j) - used) / 16) (drop used j) m) ≡ as_in d (undo base log m)
  rolled_stores base d m₀ m sizes low table-low s =
      let e : min at (length j) - used ≡ length log * 16 = omega (arith, records) in
      rw (e, mul-div_cancel (length log) (zero-lt-suc 15), stretch) (log_undone base d m₀ low table-low m sizes log s (drop at j))

  -- the journal, rolled back to the world that it began in
  pub rolled_journal : (d : Device) (w j₀ : List ℕ) → before ≡ take used j₀ → length j ≡ length j₀ → {j' : List ℕ} → j' ≡ take used j ++ replicate (length j - used) 0
      → j' ≡ (cleared (world_of d w j₀ used)).used ++ (cleared (world_of d w j₀ used)).free
  unfolding cleared
  rolled_journal d w j₀ first alike e =
      let kept : take used j ≡ take used j₀ =
      sym (take-take used at j (omega (arith, records))) ∙ ap (take used) made ∙ take_at before (lines_of log) used begun ∙ first in
      e ∙ rw (kept, alike, length-drop used j₀)
