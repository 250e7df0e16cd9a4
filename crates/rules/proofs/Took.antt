-- An act of any tree: accepted, undoing its group gives back what it found; refused, undoing its records does. Assumes nothing.
use mathlib.Core.Bool.{Bool, true, false, ◌&&◌}
use mathlib.Core.List.{List, [], ◌∷◌, ◌++◌, append_assoc, append-nil}
use mathlib.Core.Option.{Option, none, some}
use mathlib.Core.Path.{◌≡◌, refl, sym, ap, ap₂, ◌∙◌, subst}
use Prim.Native.Nat.{ℕ, suc, ◌+◌, ◌-◌, ◌/◌, ◌%◌, ◌^◌, ◌≤◌, ◌<◌}
use native.Mathlib.Nat.{mul-div_cancel, le_refl}
use native.Mathlib.Omega.{arith}
use borrow.Author.Tests.{leb-true, lt-ltb}
use lib.Dec.{eqb, leb, ltb, lit<}
use lib.ListN.{length, drop, length-append, length-drop}
use lib.Seq.{drop-append_seam}
use Rattle.rules.specs.Act.{Act, Space, window, table, Field}
use Rattle.rules.specs.Bytes.{Bytes, number}
use Rattle.rules.specs.With.{with_table}
use Rattle.rules.specs.Fields.{bits_in, field_at, fits_some, fields_of}
use Rattle.rules.specs.Carry.{Machine, World, Rec, stood_at, stood_in, Out, ok, no, bytes_of, with_device, index_of, there, legal, fetched, line_of, lines_of, end_line, recorded, go, After, made, unmade, changed, last_lines, written, cleared, leave, perform, undo, Lent}
use Rattle.rules.specs.TakeBack.{sound_store, decode_all}
use Rattle.rules.proofs.BoolLaws.{and_both}
use Rattle.rules.proofs.BytesLaws.{part_lt}
use Rattle.rules.proofs.PartLaws.{Within}
use Rattle.rules.proofs.FieldLaws.{within, field_bits, Agrees, AllNamed, all_named, put_law}
use Rattle.rules.proofs.Steps.{cutting}
use Rattle.rules.proofs.Free.{Seen, seen}
use Rattle.rules.proofs.Keeps.{AtEnd, go-keeps, Alike, alike-store, alike-put, Good, good_store, good_put}
use Rattle.rules.proofs.Undo.{as_in, store_back, undo_append, has_bits, fields_back}
use Rattle.rules.proofs.Back.{SoundRec, AllSound, length_rec, length_lines, decode-lines, group_bytes, length_group}

-- ---- what is sound goes by lengths alone

module _ (base : ℕ) where
  there-same : (sp : Space) (a w : ℕ) (m m₀ : Machine) → Alike m₀ m → there base sp a w m ≡ there base sp a w m₀
  unfolding there
  there-same window a w m m₀ h = ap (λ n. leb base a && leb (a + w) (base + n)) h.mem_is
  there-same table a w m m₀ h = ap (leb (a + w)) h.table_is

  sound-same : (r : Rec) (m m₀ : Machine) → Alike m₀ m → SoundRec base m₀ r → SoundRec base m r
  unfolding sound_store
  sound-same (stood_at sp a w v) m m₀ h e = ap (λ b. legal sp w && b && ltb v (256 ^ w)) (there-same sp a w m m₀ h) ∙ e
  sound-same (stood_in n v) m m₀ h e = subst (λ c. fits_some c (field_at c n) v ≡ true) (sym h.chip_is) e

  all_same : (g : List Rec) (m m₀ : Machine) → Alike m₀ m → AllSound base m₀ g → AllSound base m g
  unfolding AllSound
  all_same [] m m₀ h a = tt
  all_same (r ∷ g) m m₀ h a = (sound-same r m m₀ h a.0, all_same g m m₀ h a.1)

  all_append : (g k : List Rec) (m : Machine) → AllSound base m g → AllSound base m k → AllSound base m (g ++ k)
  unfolding AllSound
  all_append [] k m a b = b
  all_append (r ∷ g) k m a b = (a.0, all_append g k m a.1 b)

  -- a field that differs has its number, and what it was fits
  all_changed : (bs xs ys : List ℕ) (n : ℕ) (m : Machine) → AllNamed m.dev.chip n bs → Within bs xs → Within bs ys → AllSound base m (changed n xs ys)
  unfolding AllSound changed
  all_changed [] [] ys n m a f g = tt
  all_changed [] (x ∷ xs) ys n m a f g = absurd f
  all_changed (b ∷ bs) [] ys n m a f g = absurd f
  all_changed (b ∷ bs) (x ∷ xs) [] n m a f g = tt
  all_changed (b ∷ bs) (x ∷ xs) (y ∷ ys) n m a f g = differs (eqb x y) refl (all_changed bs xs ys (suc n) m a.1 f.1 g.1)
    where
      fits : (o : Option Field) → Agrees m.dev.chip n b o → (b ≡ 0 → ⊥) → fits_some m.dev.chip o x ≡ true
      fits none z nz = absurd (nz z)
      fits (some w) k nz = lt-ltb x (2 ^ bits_in m.dev.chip w) (subst (λ c. x < 2 ^ c) (sym k.bits) f.0)

      differs : (t : Bool) → eqb x y ≡ t → AllSound base m (changed (suc n) xs ys)
          → AllSound base m (elim t [ true ↦ changed (suc n) xs ys | false ↦ stood_in n x ∷ changed (suc n) xs ys ])
      differs true t rest = rest
      differs false t rest = (fits (field_at m.dev.chip n) a.0 (has_bits x y b f.0 g.0 t), rest)

-- ---- all through an act

lines_append : (g h : List Rec) → lines_of (g ++ h) ≡ lines_of g ++ lines_of h
unfolding lines_of
lines_append [] h = refl
lines_append (r ∷ g) h = ap (λ l. line_of r ++ l) (lines_append g h) ∙ sym (append_assoc (line_of r) (lines_of g) (lines_of h))

-- the length of the whole journal
abbrev pub total : World → ℕ
total u = length u.used + length u.free

-- how far an act that began at u has come, where it stands at v: `log` is what it has recorded, and undoing that on the window and table
-- of v, with the fields of u, gives back what was there
pub record Underway (base : ℕ) (u v : World) : Type 0 where
  pub log : List Rec
  pub used_is : v.used ≡ u.used ++ lines_of log
  pub undone : undo base log (as_in u.now.dev v.now) ≡ u.now
  pub all_sound : AllSound base u.now log
  pub alike : Alike u.now v.now
  pub good : Good base v.now
  pub total_is : total v ≡ total u

module _ (base : ℕ) (u : World) (entry : Good base u.now) where
  begun : Underway base u u
  unfolding lines_of undo AllSound
  begun = record {
    log = [];
    used_is = sym (append-nil u.used);
    undone = refl;
    all_sound = tt;
    alike = record { mem_is = refl; table_is = refl; ignore_is = refl; chip_is = refl };
    good = entry;
    total_is = refl;
  }

  on_store : (sp : Space) (a n x : ℕ) (v : World) → there base sp a n v.now ≡ true → legal sp n ≡ true → 16 ≤ length v.free
      → Underway base u v → Underway base u (recorded base sp a n x v)
  unfolding recorded undo lines_of AllSound
  on_store sp a n x v t l room h =
      let old = number (fetched base sp a n v.now) in
      let r = stood_at sp a n old in
      record {
        log = h.log ++ r ∷ [];
        used_is =
            ap (λ y. y ++ line_of r) h.used_is ∙ append_assoc u.used (lines_of h.log) (line_of r)
            ∙ ap (λ y. u.used ++ y) (ap (λ y. lines_of h.log ++ y) (sym (append-nil (line_of r))) ∙ sym (lines_append h.log (r ∷ [])));
        undone =
            undo_append base h.log (r ∷ []) _
            ∙ ap (undo base h.log) (store_back base sp a n x v.now u.now.dev h.good.mem_bytes h.good.sound_dev.table_bytes) ∙ h.undone;
        all_sound = all_append base h.log (r ∷ []) u.now h.all_sound (old_sound, tt);
        alike = alike-store base sp a n x v.now h.alike;
        good = good_store base sp a n x v.now h.good;
        total_is = omega (arith, length-append v.used (line_of r), length_rec r, length-drop 16 v.free, h.total_is);
      }
    where
      bytes-there : (sp : Space) → Bytes (bytes_of sp v.now)
      bytes-there window = unfold bytes_of in h.good.mem_bytes
      bytes-there table = unfold bytes_of in h.good.sound_dev.table_bytes

      old_sound : sound_store base u.now sp n a (number (fetched base sp a n v.now)) ≡ true
      old_sound =
          unfold sound_store fetched in
          and_both (and_both l (sym (there-same base sp a n v.now u.now h.alike) ∙ t))
          (lt-ltb _ _ (part_lt n (bytes_of sp v.now) (index_of base sp a) n (bytes-there sp) (le_refl n)))

  on-put : (f : Field) (x : ℕ) (v : World) → Underway base u v → Underway base u (cutting f x v)
  unfolding with_device
  on-put f x v h =
      let y = x % 2 ^ bits_in v.now.dev.chip f in
      record {
        log = h.log;
        used_is = h.used_is;
        undone =
            ap (λ t. undo base h.log (record { mem = v.now.mem; dev = with_table u.now.dev t })) (put_law f y v.now.dev h.good.sound_dev.three).table
            ∙ h.undone;
        all_sound = h.all_sound;
        alike = alike-put f y v.now h.good.sound_dev h.alike;
        good = good_put base f x v.now h.good;
        total_is = h.total_is;
      }

  -- where its steps end, with an answer or refused
  pub go_underway : (lent : Lent) {A : Type 0} (m : Act A) → AtEnd (Underway base u) (go base lent m u)
  go_underway lent m = go-keeps base lent (Underway base u) on_store on-put m u begun

  -- roll back: at a refusal the used journal is that of the entry and the records made since; they are what is read from its bytes; and
  -- undoing them, as a take-back does, on window and table as they are and the fields of the entry gives back what was there
  pub rolled_back_lem : (lent : Lent) {A : Type 0} (m : Act A) (n : ℕ) (v : World) → go base lent m u ≡ no n v
      → (log : List Rec) × (v.used ≡ u.used ++ lines_of log) × (decode_all (length log) (drop (length u.used) v.used) ≡ log)
      × (undo base log (as_in u.now.dev v.now) ≡ u.now)
  rolled_back_lem lent m n v e =
      let h : Underway base u v = subst (AtEnd (Underway base u)) e (go_underway lent m) in
      let bytes : drop (length u.used) v.used ≡ lines_of h.log ++ [] =
      ap (drop (length u.used)) h.used_is ∙ drop-append_seam u.used (lines_of h.log) ∙ sym (append-nil (lines_of h.log)) in
      (h.log, h.used_is, ap (decode_all (length h.log)) bytes ∙ decode-lines base u.now entry h.log [] h.all_sound, h.undone)

-- ---- an accepted act

-- v is u and one group more, which leads back
pub record Led (base : ℕ) (u v : Seen) : Type 0 where
  pub group : List Rec
  pub used_is : v.used ≡ u.used ++ group_bytes group
  pub all_sound : AllSound base v.now group
  pub few : length group < 256 ^ 8
  pub undone : undo base group v.now ≡ u.now

-- of an act that began at u and was accepted at v
abbrev pub Took : ℕ → World → World → Type 0
Took base u v = Led base (seen u) (seen v) × Good base v.now × (total v ≡ total u)

abbrev WhereMade : {A : Type 0} → (World → Type 0) → After A World → Type 0
WhereMade P (made a v) = P v
WhereMade P (unmade n v) = Unit {0}

close_group : (u : List ℕ) (g f : List Rec) → (u ++ lines_of g) ++ (lines_of f ++ end_line (length g + length f)) ≡ u ++ group_bytes (g ++ f)
unfolding group_bytes
close_group u g f = simp (lines_append g f, length-append g f, append_assoc)

module _ (base : ℕ) (u : World) (entry : Good base u.now) (small : total u ≤ 2 ^ 28) where
  ended : (v : World) → Underway base u v → length (last_lines u v) ≤ length v.free → Took base u (written (last_lines u v) v)
  unfolding written last_lines
  ended v h room =
      let f = changed 0 (fields_of u.now.dev) (fields_of v.now.dev) in
      let g = h.log ++ f in
      let all : AllSound base u.now g =
      all_append base h.log f u.now h.all_sound
      (all_changed base (field_bits u.now.dev.chip) (fields_of u.now.dev) (fields_of v.now.dev) 0 u.now (all_named u.now.dev.chip) (within u.now.dev entry.sound_dev)
      (subst (λ c. Within (field_bits c) (fields_of v.now.dev)) h.alike.chip_is (within v.now.dev h.good.sound_dev))) in
      let n : (length v.used - length u.used) / 16 ≡ length h.log =
      ap (λ x. (x - length u.used) / 16) (ap length h.used_is ∙ length-append u.used (lines_of h.log) ∙ ap (λ x. length u.used + x) (length_lines h.log))
      ∙ ap (λ x. x / 16) (omega arith) ∙ mul-div_cancel (length h.log) (lit< tt) in
      let used : v.used ++ last_lines u v ≡ u.used ++ group_bytes g =
      ap₂ (λ x y. x ++ (lines_of f ++ end_line (y + length f))) h.used_is n ∙ close_group u.used h.log f in
      let sum : length (v.used ++ last_lines u v) + length (drop (length (last_lines u v)) v.free) ≡ total u =
      omega (arith, length-append v.used (last_lines u v), length-drop (length (last_lines u v)) v.free, h.total_is) in (
        record {
          group = g;
          used_is = used;
          all_sound = all_same base g v.now u.now h.alike all;
          few = omega (arith, sum, ap length used, length-append u.used (group_bytes g), length_group g);
          undone =
              undo_append base h.log f v.now
              ∙ ap (undo base h.log) (fields_back base u.now v.now entry.sound_dev h.good.sound_dev h.alike.ignore_is h.alike.chip_is)
              ∙ h.undone;
        },
        h.good,
        sum,
      )

  -- every act: one group more is used, all its records are sound, and undoing them gives back the machine at entry
  pub accepted : (lent : Lent) {A : Type 0} (m : Act A) (a : A) (v : World) → perform base lent m u ≡ made a v → Took base u v
  unfolding perform leave
  accepted lent {A} m a v e = subst (WhereMade (Took base u)) e (left (go base lent m u) (go_underway base u entry lent m))
    where
      left : (o : Out A) → AtEnd (Underway base u) o → WhereMade (Took base u) (leave u o)
      left (no n w) h = tt
      left (ok b w) h = room (leb (length (last_lines u w)) (length w.free)) refl
        where
          room : (t : Bool) → leb (length (last_lines u w)) (length w.free) ≡ t
              → WhereMade {A = A} (Took base u) (elim t [ true ↦ made b (written (last_lines u w) w) | false ↦ unmade 11 (cleared u) ])
          room true t = ended w h (leb-true _ _ t)
          room false t = tt

-- ---- a refused act

abbrev WhereUnmade : {A : Type 0} → (World → Type 0) → After A World → Type 0
WhereUnmade P (made a v) = Unit {0}
WhereUnmade P (unmade n v) = P v

-- window, device and used journal are those of the entry, and the room is cleared
pub refused : (base : ℕ) (lent : Lent) {A : Type 0} (m : Act A) (u : World) (n : ℕ) (v : World) → perform base lent m u ≡ unmade n v → v ≡ cleared u
unfolding perform leave
refused base lent {A} m u n v e = subst (WhereUnmade (λ w. w ≡ cleared u)) e (left (go base lent m u))
  where
    left : (o : Out A) → WhereUnmade (λ w. w ≡ cleared u) (leave u o)
    left (no k w) = refl
    left (ok b w) =
        elim (leb (length (last_lines u w)) (length w.free)) as (λ t. WhereUnmade {A = A} (λ w. w ≡ cleared u) (elim t [ true ↦ made b (written (last_lines u w) w) | false ↦ unmade 11 (cleared u) ])) [
          | true ↦ tt
          | false ↦ refl
        ]
