-- Take back where the used journal ends with a group of sound records: that group is undone, and only that group goes. Assumes nothing.
use mathlib.Core.Bool.{Bool, true, ◌&&◌, ◌||◌, false≢true}
use mathlib.Core.List.{List, [], ◌∷◌, ◌++◌, append_assoc}
use mathlib.Core.Option.{Option, none, some}
use mathlib.Core.Path.{◌≡◌, refl, sym, ap, ap₂, ◌∙◌, subst}
use Prim.Native.Nat.{ℕ, ◌+◌, ◌-◌, ◌*◌, ◌^◌, ◌≤◌, ◌<◌}
use native.Mathlib.Nat.{le_trans, lt_of_lt_of_le, lt_of_not-le, zero-lt-suc, pow-le-pow_right}
use native.Mathlib.Omega.{arith}
use borrow.Author.Tests.{eq-eqb, ltb-true, leb-true, le-leb, ne_eqb, eqb-true}
use lib.Dec.{eqb, leb, lit<, lit≤}
use lib.ListN.{take, drop, length, replicate, length-append}
use lib.Pow.{pow_mono}
use lib.Seq.{take_at, drop_at}
use Rattle.rules.specs.Act.{Space, window, table, Field, SCALAR, MASKS, FORCED, LINES, CONFIG, BUSY, MAJORS, PENDING, SOURCE, TAKEN, PRIORITY}
use Rattle.rules.proofs.FieldLaws.{bits_most}
use Rattle.rules.proofs.Numbers.{at_none}
use Rattle.rules.proofs.ScalarLaws.{scalar_bits_lem}
use Rattle.rules.specs.Bytes.{bytes, part}
use Rattle.rules.specs.Fields.{bits_of, bits_in, field_at, fits_some}
use Rattle.rules.specs.Carry.{Machine, World, Rec, stood_at, stood_in, made, unmade, there, legal, line, kind_of, line_of, lines_of, end_line, undo}
use Rattle.rules.specs.TakeBack.{marked, place, value, sound_store, sound_field, sound_kind, sound, all_sound, ends, rec_of, decode, decode_all, take_group, take_last, take_end, take_back}
use Rattle.rules.proofs.BoolLaws.{and_left, and_right, and_both, or_either}
use Rattle.rules.proofs.BytesLaws.{value_fits}
use Rattle.rules.proofs.Keeps.{Good}

-- ---- widths, numbers and values are small

legal-width : (sp : Space) (w : ℕ) → legal sp w ≡ true → (1 ≤ w) × (w ≤ 8)
unfolding legal
legal-width window w =
    or_either (eqb w 1 || eqb w 2) (eqb w 4)
    (or_either (eqb w 1) (eqb w 2) (λ t. omega (arith, eqb-true w 1 t)) (λ t. omega (arith, eqb-true w 2 t)))
    (λ t. omega (arith, eqb-true w 4 t))
legal-width table w =
    or_either (eqb w 1 || eqb w 2 || eqb w 4) (eqb w 8)
    (or_either (eqb w 1 || eqb w 2) (eqb w 4)
    (or_either (eqb w 1) (eqb w 2) (λ t. omega (arith, eqb-true w 1 t)) (λ t. omega (arith, eqb-true w 2 t)))
    (λ t. omega (arith, eqb-true w 4 t)))
    (λ t. omega (arith, eqb-true w 8 t))

bits_le : (f : Field) → bits_of f ≤ 64
unfolding bits_of
bits_le (SCALAR i) = leb-true _ 64 (scalar_bits_lem i).1
bits_le (MASKS c) = lit≤ tt
bits_le (FORCED c) = lit≤ tt
bits_le (LINES c) = lit≤ tt
bits_le (CONFIG c) = lit≤ tt
bits_le (BUSY ch) = lit≤ tt
bits_le (MAJORS ch) = lit≤ tt
bits_le (PENDING ch) = lit≤ tt
bits_le (TAKEN i) = lit≤ tt
bits_le (PRIORITY ch) = lit≤ tt
bits_le (SOURCE c s) = lit≤ tt

fits_below : (chip : Bool) (o : Option Field) (v : ℕ) → fits_some chip o v ≡ true → v < 256 ^ 8
fits_below chip none v e = absurd (false≢true e)
fits_below chip (some f) v e = lt_of_lt_of_le (ltb-true v (2 ^ bits_in chip f) e) (pow_mono (le_trans (bits_most chip f) (bits_le f)))

number_below : (chip : Bool) (n v : ℕ) → fits_some chip (field_at chip n) v ≡ true → n < 832
number_below chip n v e = lt_of_not-le (λ h. false≢true (subst (λ o. fits_some chip o v ≡ true) (at_none chip n h) e))

-- ---- one record

-- a record that a store or a field can have left: its place is there, and its value fits
abbrev pub SoundRec : ℕ → Machine → Rec → Type 0
SoundRec base m (stood_at sp a w v) = sound_store base m sp w a v ≡ true
SoundRec base m (stood_in n v) = fits_some m.dev.chip (field_at m.dev.chip n) v ≡ true

unfoldable pub AllSound : ℕ → Machine → List Rec → Type 0
AllSound base m [] = Unit {0}
AllSound base m (r ∷ g) = SoundRec base m r × AllSound base m g

length_line : (k w a v : ℕ) → length (line k w a v) ≡ 16
unfolding line bytes
length_line k w a v = refl

pub length_rec : (r : Rec) → length (line_of r) ≡ 16
unfolding line_of
length_rec (stood_at sp a w v) = length_line (kind_of sp) w a v
length_rec (stood_in n v) = length_line 2 8 n v

place-line : (k w a v : ℕ) → a < 256 ^ 4 → place (line k w a v) ≡ a
unfolding place line part bytes
place-line k w a v h = value_fits 4 h

value_line : (k w a v : ℕ) → v < 256 ^ 8 → value (line k w a v) ≡ v
unfolding value line part bytes
value_line k w a v h = value_fits 8 h

module _ (base : ℕ) (m : Machine) (good : Good base m) where
  place_below : (sp : Space) (w a : ℕ) → legal sp w ≡ true → there base sp a w m ≡ true → a < 256 ^ 4
  unfolding there
  place_below window w a l t =
      let s = legal-width window w l in
      omega (arith, good.mem_below, leb-true (a + w) (base + length m.mem) (and_right (leb base a) _ t))
  place_below table w a l t =
      let s = legal-width table w l in
      omega (arith, good.table_below, leb-true (a + w) (length m.dev.table) t)

  held : (sp : Space) (w a v : ℕ) → sound_store base m sp w a v ≡ true → (a < 256 ^ 4) × (v < 256 ^ 8)
  unfolding sound_store
  held sp w a v e =
      let place = legal sp w && there base sp a w m in
      let l = and_left (legal sp w) _ (and_left place _ e) in (
        place_below sp w a l (and_right (legal sp w) _ (and_left place _ e)),
        lt_of_lt_of_le (ltb-true v (256 ^ w) (and_right place _ e)) (pow-le-pow_right {n = 256} (zero-lt-suc 255) (legal-width sp w l).1),
      )

  sound-line : (r : Rec) → SoundRec base m r → sound base m (line_of r) ≡ true
  unfolding sound sound_kind sound_field marked line_of line kind_of
  sound-line (stood_at window a w v) e =
      let h = held window w a v e in
      rw (place-line 0 w a v h.0, value_line 0 w a v h.1) e
  sound-line (stood_at table a w v) e =
      let h = held table w a v e in
      rw (place-line 1 w a v h.0, value_line 1 w a v h.1) e
  sound-line (stood_in n v) e =
      rw (place-line 2 8 n v (lt_of_lt_of_le (number_below m.dev.chip n v e) (lit≤ {m = 832} {n = 256 ^ 4} tt)), value_line 2 8 n v (fits_below m.dev.chip (field_at m.dev.chip n) v e)) e

  decode-line : (r : Rec) → SoundRec base m r → decode (line_of r) ≡ r
  unfolding decode rec_of line_of line kind_of
  decode-line (stood_at window a w v) e =
      let h = held window w a v e in
      rw (place-line 0 w a v h.0, value_line 0 w a v h.1)
  decode-line (stood_at table a w v) e =
      let h = held table w a v e in
      rw (place-line 1 w a v h.0, value_line 1 w a v h.1)
  decode-line (stood_in n v) e =
      rw (place-line 2 8 n v (lt_of_lt_of_le (number_below m.dev.chip n v e) (lit≤ {m = 832} {n = 256 ^ 4} tt)), value_line 2 8 n v (fits_below m.dev.chip (field_at m.dev.chip n) v e))

  -- ---- a group's records

  sound-lines : (g : List Rec) (rest : List ℕ) → AllSound base m g → all_sound base m (length g) (lines_of g ++ rest) ≡ true
  unfolding all_sound lines_of AllSound
  sound-lines [] rest h = refl
  sound-lines (r ∷ g) rest h =
      let others = lines_of g ++ rest in
      rw (append_assoc (line_of r) (lines_of g) rest, take_at (line_of r) others 16 (length_rec r), drop_at (line_of r) others 16 (length_rec r))
      (and_both (sound-line r h.0) (sound-lines g rest h.1))

  -- what is read from the bytes of records
  pub decode-lines : (g : List Rec) (rest : List ℕ) → AllSound base m g → decode_all (length g) (lines_of g ++ rest) ≡ g
  unfolding decode_all lines_of AllSound
  decode-lines [] rest h = refl
  decode-lines (r ∷ g) rest h =
      let others = lines_of g ++ rest in
      rw (append_assoc (line_of r) (lines_of g) rest, take_at (line_of r) others 16 (length_rec r), drop_at (line_of r) others 16 (length_rec r))
      (ap₂ (λ x y. x ∷ y) (decode-line r h.0) (decode-lines g rest h.1))

pub length_lines : (g : List Rec) → length (lines_of g) ≡ length g * 16
unfolding lines_of
length_lines [] = refl
length_lines (r ∷ g) = length-append (line_of r) (lines_of g) ∙ ap₂ (λ x y. x + y) (length_rec r) (length_lines g) ∙ omega arith

-- ---- a group as it stands in the journal: its records, and its end

unfoldable pub group_bytes : List Rec → List ℕ
group_bytes g = lines_of g ++ end_line (length g)

pub length_end : (n : ℕ) → length (end_line n) ≡ 16
unfolding end_line
length_end n = length_line 3 0 0 n

end_ends : (n : ℕ) → ends (end_line n) ≡ true
unfolding ends end_line marked line
end_ends n = rw (place-line 3 0 0 n (lit< tt))

end_value : (n : ℕ) → n < 256 ^ 8 → value (end_line n) ≡ n
unfolding end_line
end_value n h = value_line 3 0 0 n h

pub length_group : (g : List Rec) → length (group_bytes g) ≡ (length g + 1) * 16
unfolding group_bytes
length_group g = length-append (lines_of g) (end_line (length g)) ∙ ap₂ (λ x y. x + y) (length_lines g) (length_end (length g)) ∙ omega arith

-- ---- the call

-- what a take-back of the group g leads to: the group undone, the journal used as before it, zeros in its place
abbrev pub taken_back : ℕ → World → List Rec → List ℕ → World
taken_back base u g before = record { now = undo base g u.now; used = before; free = replicate (length (group_bytes g)) 0 ++ u.free }

module _ (base : ℕ) (u : World) (good : Good base u.now) (g : List Rec) (all : AllSound base u.now g) where
  take_group_lem : (before : List ℕ) → take_group base u (length g) before (group_bytes g) ≡ made tt (taken_back base u g before)
  unfolding take_group group_bytes
  take_group_lem before = rw (sound-lines base u.now good g (end_line (length g)) all, decode-lines base u.now good g (end_line (length g)) all, take_group)

  take_last_lem : (before : List ℕ) → u.used ≡ before ++ group_bytes g → take_last base u (length g) ≡ made tt (taken_back base u g before)
  unfolding take_last
  take_last_lem before e =
      let l : length u.used ≡ length before + (length g + 1) * 16 = ap length e ∙ length-append before (group_bytes g) ∙ ap (λ x. length before + x) (length_group g) in
      let from = length u.used - (length g + 1) * 16 in
      let t : take from u.used ≡ before = ap (take from) e ∙ take_at before (group_bytes g) from (omega arith) in
      let d : drop from u.used ≡ group_bytes g = ap (drop from) e ∙ drop_at before (group_bytes g) from (omega arith) in
      rw (le-leb ((length g + 1) * 16) (length u.used) (omega arith), take_last) (rw (t, d) (take_group_lem before))

  -- the used journal ends with the group g, after what was used before it
  pub take_back_lem : (before : List ℕ) → u.used ≡ before ++ group_bytes g → length g < 256 ^ 8 → take_back base u ≡ made tt (taken_back base u g before)
  unfolding take_back take_end
  take_back_lem before e few =
      let p = before ++ lines_of g in
      let n = length u.used in
      let f : u.used ≡ p ++ end_line (length g) = e ∙ (unfold group_bytes in sym (append_assoc before (lines_of g) (end_line (length g)))) in
      let l : n ≡ length p + 16 = ap length f ∙ length-append p (end_line (length g)) ∙ ap (λ x. length p + x) (length_end (length g)) in
      let d : drop (n - 16) u.used ≡ end_line (length g) = ap (drop (n - 16)) f ∙ drop_at p (end_line (length g)) (n - 16) (omega arith) in
      rw (ne_eqb n 0 (λ z. omega arith), take_back) (rw d (rw (end_ends (length g), take_end) (rw (end_value (length g) few) (take_last_lem before e))))

-- and where nothing is used there is nothing to take back
pub take_none : (base : ℕ) (u : World) → u.used ≡ [] → take_back base u ≡ unmade 12 u
unfolding take_back
take_none base u e = rw (eq-eqb (length u.used) 0 (ap length e), take_back)
