-- A store undone, and the fields that differ put back by their numbers. Assumes nothing.
use mathlib.Core.Bool.{Bool, true, false}
use mathlib.Core.List.{List, [], ◌∷◌, ◌++◌}
use mathlib.Core.Option.{Option, none, some}
use mathlib.Core.Path.{◌≡◌, refl, sym, ap, ap₂, ◌∙◌, subst}
use Prim.Native.Nat.{ℕ, suc, ◌^◌, ◌<◌}
use native.Mathlib.Numerals.{add-one}
use native.Mathlib.Omega.{arith}
use borrow.Author.Tests.{eqb-true, eqb-false}
use lib.Dec.{eqb}
use lib.ListN.{set, length, length-append}
use lib.Seq.{set_at, append_snoc}
use Rattle.rules.specs.Act.{Space, window, table, Field, IGNORE, CHIP}
use Rattle.rules.specs.Bytes.{Bytes, bytes, number, part, splice}
use Rattle.rules.specs.State.{Device}
use Rattle.rules.specs.With.{with_table}
use Rattle.rules.specs.Fields.{own_of, parts_of, fields_of, field_at, with_some}
use Rattle.rules.specs.Carry.{Machine, Rec, stood_at, stood_in, bytes_of, with_bytes_of, with_device, index_of, fetched, stored, changed, undo_rec, undo}
use Rattle.rules.proofs.BytesLaws.{length_bytes, splice-undo, part_back}
use Rattle.rules.proofs.PartLaws.{Within}
use Rattle.rules.proofs.FieldLaws.{Sound, within, field_bits, Agrees, AllNamed, all_named, put_setting, put_law, put-sound, put-fields}
use Rattle.rules.proofs.Same.{device-same}

-- ---- one store

-- the bytes that stood there, kept as a number, stored again
splice_back : (xs : List ℕ) (i n v : ℕ) → Bytes xs → splice (splice xs i (bytes n v)) i (bytes n (number (part xs i n))) ≡ xs
splice_back xs i n v b =
    ap (λ (l : List ℕ). splice (splice xs i (bytes n v)) i l) (part_back xs i n b ∙ ap (part xs i) (sym (length_bytes n v))) ∙ splice-undo xs i (bytes n v)

-- the window and the table of m, and all else of device d
abbrev pub as_in : Device → Machine → Machine
as_in d m = record { mem = m.mem; dev = with_table d m.dev.table }

module _ (base : ℕ) where
  -- what the device's fields are does not matter to it
  pub store_back : (sp : Space) (a n v : ℕ) (m : Machine) (d : Device) → Bytes m.mem → Bytes m.dev.table
      → undo_rec base (stood_at sp a n (number (fetched base sp a n m))) (as_in d (stored base sp a n v m)) ≡ as_in d m
  unfolding undo_rec stored fetched with_bytes_of bytes_of
  store_back window a n v m d b c = ap (λ (l : List ℕ). record { mem = l; dev = with_table d m.dev.table }) (splice_back m.mem (index_of base window a) n v b)
  store_back table a n v m d b c = ap (λ (l : List ℕ). record { mem = m.mem; dev = with_table d l }) (splice_back m.dev.table (index_of base table a) n v c)

  pub undo_append : (g h : List Rec) (m : Machine) → undo base (g ++ h) m ≡ undo base g (undo base h m)
  unfolding undo
  undo_append [] h m = refl
  undo_append (r ∷ g) h m = ap (undo_rec base r) (undo_append g h m)

-- ---- the fields

-- two values of so many bits that differ: there are bits
pub has_bits : (x y b : ℕ) → x < 2 ^ b → y < 2 ^ b → eqb x y ≡ false → b ≡ 0 → ⊥
has_bits x y b h k t e = eqb-false x y t (omega (arith, subst (λ c. x < 2 ^ c) e h, subst (λ c. y < 2 ^ c) e k))

-- e is m, but for its fields, which are l by number
record Restored (m e : Machine) (l : List ℕ) : Type 0 where
  mem : e.mem ≡ m.mem
  fields : fields_of e.dev ≡ l
  table : e.dev.table ≡ m.dev.table
  ignore : e.dev.ignore ≡ m.dev.ignore
  chip : e.dev.chip ≡ m.dev.chip
  sound : Sound e.dev

module _ (base : ℕ) where
  -- one field, put back by its number
  one_back : (p xs : List ℕ) (x y n b : ℕ) (m e : Machine) → length p ≡ n → x < 2 ^ b → (b ≡ 0 → ⊥) → Agrees m.dev.chip n b (field_at m.dev.chip n)
      → Restored m e (p ++ y ∷ xs) → Restored m (undo_rec base (stood_in n x) e) (p ++ x ∷ xs)
  unfolding undo_rec with_device
  one_back p xs x y n b m e lp h nz k r = named (field_at e.dev.chip n) (subst (λ c. Agrees c n b (field_at c n)) (sym r.chip) k)
    where
      named : (o : Option Field) → Agrees e.dev.chip n b o → Restored m (with_device (with_some o x e.dev) e) (p ++ x ∷ xs)
      named none z = absurd (nz z)
      named (some f) k =
          let q = put_law f x e.dev r.sound.three in
          record {
            mem = r.mem;
            fields =
                put-fields f x e.dev r.sound k.real ∙ ap (λ i. set (fields_of e.dev) i x) k.number ∙ ap (λ l. set l n x) r.fields
                ∙ set_at p y xs x n lp;
            table = q.table ∙ r.table;
            ignore = put_setting IGNORE f x e.dev ∙ r.ignore;
            chip = put_setting CHIP f x e.dev ∙ r.chip;
            sound = put-sound f x e.dev r.sound (subst (λ c. x < 2 ^ c) (sym k.bits) h);
          }

  -- the fields that differ, put back
  changed_back : (bs xs ys p : List ℕ) (n : ℕ) (m : Machine) → AllNamed m.dev.chip n bs → length p ≡ n → Within bs xs → Within bs ys
      → Sound m.dev → fields_of m.dev ≡ p ++ ys → Restored m (undo base (changed n xs ys) m) (p ++ xs)
  unfolding changed undo
  changed_back [] [] [] p n m a lp f g s h = record { mem = refl; fields = h; table = refl; ignore = refl; chip = refl; sound = s }
  changed_back [] [] (y ∷ ys) p n m a lp f g s h = absurd g
  changed_back [] (x ∷ xs) ys p n m a lp f g s h = absurd f
  changed_back (b ∷ bs) [] ys p n m a lp f g s h = absurd f
  changed_back (b ∷ bs) (x ∷ xs) [] p n m a lp f g s h = absurd g
  changed_back (b ∷ bs) (x ∷ xs) (y ∷ ys) p n m a lp f g s h =
      differs (eqb x y) refl
      (subst (Restored m (undo base (changed (suc n) xs ys) m)) (append_snoc p y xs)
      (changed_back bs xs ys (p ++ y ∷ []) (suc n) m a.1 (length-append p (y ∷ []) ∙ add-one (length p) ∙ ap suc lp) f.1 g.1 s (h ∙ sym (append_snoc p y ys))))
    where
      differs : (t : Bool) → eqb x y ≡ t → Restored m (undo base (changed (suc n) xs ys) m) (p ++ y ∷ xs)
          → Restored m (undo base (elim t [ true ↦ changed (suc n) xs ys | false ↦ stood_in n x ∷ changed (suc n) xs ys ]) m) (p ++ x ∷ xs)
      differs true t rest = subst (λ z. Restored m (undo base (changed (suc n) xs ys) m) (p ++ z ∷ xs)) (sym (eqb-true x y t)) rest
      differs false t rest = one_back p xs x y n b m (undo base (changed (suc n) xs ys) m) lp f.0 (has_bits x y b f.0 g.0 t) a.0 rest

  -- the records of the fields that differ from those of m₀, undone at m: the device of m₀, but for the table
  pub fields_back : (m₀ m : Machine) → Sound m₀.dev → Sound m.dev → m.dev.ignore ≡ m₀.dev.ignore → m.dev.chip ≡ m₀.dev.chip
      → undo base (changed 0 (fields_of m₀.dev) (fields_of m.dev)) m ≡ as_in m₀.dev m
  unfolding fields_of parts_of own_of
  fields_back m₀ m s t i c =
      let e = undo base (changed 0 (fields_of m₀.dev) (fields_of m.dev)) m in
      let r : Restored m e (fields_of m₀.dev) =
      changed_back (field_bits m.dev.chip) (fields_of m₀.dev) (fields_of m.dev) [] 0 m (all_named m.dev.chip) refl
      (subst (λ x. Within (field_bits x) (fields_of m₀.dev)) (sym c) (within m₀.dev s)) (within m.dev t) t refl in
      ap₂ (λ l d. record { mem = l; dev = d }) r.mem
      (device-same e.dev (with_table m₀.dev m.dev.table) r.sound
      (record { three = s.three; fitting = s.fitting; table_bytes = t.table_bytes }) r.fields r.table (r.ignore ∙ i) (r.chip ∙ c))
