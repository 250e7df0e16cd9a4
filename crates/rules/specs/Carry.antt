-- An act carried out with a journal: document 01, "Journal records", and refusals 9, 10 and 11. Assumes nothing.
use Rattle.std.specs.Prelude.{Bool, true, false, ◌&&◌, ◌||◌, List, [], ◌∷◌, ◌++◌, ℕ, suc, ◌+◌, ◌-◌, ◌/◌, ◌%◌, ◌^◌, eqb, leb, length, drop, replicate}
use Rattle.rules.specs.Act.{Act, Done, Endless, Stage, Fetch, Store, Ask, Put, Look, Space, window, table}
use Rattle.rules.specs.State.{Device}
use Rattle.rules.specs.With.{with_table}
use Rattle.rules.specs.Fields.{bits_in, holds, with_field, setting_of, with_number, fields_of}
use Rattle.rules.specs.Bytes.{bytes, number, part, splice}

-- ---- what is there

-- memory window and device
pub record Machine : Type 0 where
  pub mem : List ℕ
  pub dev : Device

-- and the journal: its used part, and the room after it
pub record World : Type 0 where
  pub now : Machine
  pub used : List ℕ
  pub free : List ℕ

-- ---- places

-- memory store: width 1, 2, 4; descriptor store: 1, 2, 4, 8
unfoldable pub legal : Space → ℕ → Bool
legal window w = eqb w 1 || eqb w 2 || eqb w 4
legal table w = eqb w 1 || eqb w 2 || eqb w 4 || eqb w 8

unfoldable pub bytes_of : Space → Machine → List ℕ
bytes_of window m = m.mem
bytes_of table m = m.dev.table

unfoldable pub with_bytes_of : Space → List ℕ → Machine → Machine
with_bytes_of window l m = record { mem = l; dev = m.dev }
with_bytes_of table l m = record { mem = m.mem; dev = with_table m.dev l }

unfoldable pub with_device : Device → Machine → Machine
with_device d m = record { mem = m.mem; dev = d }

module _ (base : ℕ) where
  -- where a place stands among the bytes of its space
  unfoldable pub index_of : Space → ℕ → ℕ
  index_of window a = a - base
  index_of table a = a

  -- w bytes from a are all there
  unfoldable pub there : Space → ℕ → ℕ → Machine → Bool
  there window a w m = leb base a && leb (a + w) (base + length m.mem)
  there table a w m = leb (a + w) (length m.dev.table)

  unfoldable pub fetched : Space → ℕ → ℕ → Machine → List ℕ
  fetched sp a w m = part (bytes_of sp m) (index_of sp a) w

  unfoldable pub stored : Space → ℕ → ℕ → ℕ → Machine → Machine
  stored sp a w v m = with_bytes_of sp (splice (bytes_of sp m) (index_of sp a) (bytes w v)) m

-- ---- records: where something stood, and what

pub data Rec : Type 0 where
  -- in a space: place, width, the number that stood there
  stood_at : Space → ℕ → ℕ → ℕ → Rec
  -- in the field of a number
  stood_in : ℕ → ℕ → Rec

-- mark 4A 52, kind, width, 4-byte place, 8-byte old value
unfoldable pub line : ℕ → ℕ → ℕ → ℕ → List ℕ
line kind width place value = 0x4A ∷ 0x52 ∷ kind ∷ width ∷ (bytes 4 place ++ bytes 8 value)

unfoldable pub kind_of : Space → ℕ
kind_of window = 0
kind_of table = 1

unfoldable pub line_of : Rec → List ℕ
line_of (stood_at sp a w v) = line (kind_of sp) w a v
line_of (stood_in n v) = line 2 8 n v

unfoldable pub lines_of : List Rec → List ℕ
lines_of [] = []
lines_of (r ∷ rs) = line_of r ++ lines_of rs

-- the end of a group of n records
unfoldable pub end_line : ℕ → List ℕ
end_line n = line 3 0 0 n

-- ---- steps

-- what is lent to a call and never changed, besides the window's base: how many bytes of staging there are
pub record Lent : Type 0 where
  pub staging : ℕ

abbrev pub lending : ℕ → Lent
lending n = record { staging = n }

-- how an act's steps end: with its answer, or refused with a number; and what is there then
pub data Out (A : Type 0) : Type 0 where
  ok : A → World → Out A
  no : ℕ → World → Out A

module _ (base : ℕ) where
  -- one record before the store
  unfoldable pub recorded : Space → ℕ → ℕ → ℕ → World → World
  recorded sp a w v u = record {
    now = stored base sp a w v u.now;
    used = u.used ++ line_of (stood_at sp a w (number (fetched base sp a w u.now)));
    free = drop 16 u.free;
  }

module _ (base : ℕ) (lent : Lent) where
  -- 9 before 11 at one store
  unfoldable pub go : {A : Type 0} → Act A → World → Out A
  go (Done a) u = ok a u
  go Endless u = no 11 u
  go (Stage n k) u = elim (leb n lent.staging) [ true ↦ go k u | false ↦ no 10 u ]
  go (Fetch sp a n k) u = elim (there base sp a n u.now) [ true ↦ go (k (fetched base sp a n u.now)) u | false ↦ no 9 u ]
  go (Store sp a n v k) u =
      elim (there base sp a n u.now && legal sp n) [
        | true ↦ elim (leb 16 (length u.free)) [ true ↦ go k (recorded base sp a n v u) | false ↦ no 11 u ]
        | false ↦ no 9 u
      ]
  go (Ask f k) u = go (k (holds f u.now.dev)) u
  -- cut to the field's bits in this mode
  go (Put f v k) u = go k (record { now = with_device (with_field f (v % 2 ^ bits_in u.now.dev.chip f) u.now.dev) u.now; used = u.used; free = u.free })
  go (Look s k) u = go (k (setting_of s u.now.dev)) u

-- ---- an act as a call makes it

-- how a call ends: it is made, or it counts as not made (a refusal with its number; 0 for a register read); and what is there then
pub data After (A W : Type 0) : Type 0 where
  made : A → W → After A W
  unmade : ℕ → W → After A W

-- each field that differs from entry, in number order: its number and what it was
unfoldable pub changed : ℕ → List ℕ → List ℕ → List Rec
changed n [] ys = []
changed n (x ∷ xs) [] = []
changed n (x ∷ xs) (y ∷ ys) = elim (eqb x y) [ true ↦ changed (suc n) xs ys | false ↦ stood_in n x ∷ changed (suc n) xs ys ]

-- what an act that began at u and stands at v ends its group with: one record for each field that differs from entry, then the end record
unfoldable pub last_lines : World → World → List ℕ
last_lines u v =
    let fields = changed 0 (fields_of u.now.dev) (fields_of v.now.dev) in
    lines_of fields ++ end_line ((length v.used - length u.used) / 16 + length fields)

unfoldable pub written : List ℕ → World → World
written lines u = record { now = u.now; used = u.used ++ lines; free = drop (length lines) u.free }

-- window, device and used journal as at entry; journal bytes past the used length zero to the end
unfoldable pub cleared : World → World
cleared u = record { now = u.now; used = u.used; free = replicate (length u.free) 0 }

-- the end of an act that began at u
unfoldable pub leave : {A : Type 0} → World → Out A → After A World
leave u (ok a v) =
    elim (leb (length (last_lines u v)) (length v.free)) [ true ↦ made a (written (last_lines u v) v) | false ↦ unmade 11 (cleared u) ]
leave u (no n v) = unmade n (cleared u)

module _ (base : ℕ) (lent : Lent) where
  unfoldable pub perform : {A : Type 0} → Act A → World → After A World
  perform m u = leave u (go base lent m u)

-- ---- undoing

module _ (base : ℕ) where
  unfoldable pub undo_rec : Rec → Machine → Machine
  undo_rec (stood_at sp a w v) m = stored base sp a w v m
  undo_rec (stood_in n v) m = with_device (with_number n v m.dev) m

  -- records in the order of the journal: undoing goes last to first
  unfoldable pub undo : List Rec → Machine → Machine
  undo [] m = m
  undo (r ∷ rs) m = undo_rec r (undo rs m)

-- on an `unfolding` line: all the definitions of this file
unfoldable pub carry : Unit {0}
unfolding legal bytes_of with_bytes_of with_device index_of there fetched stored line kind_of line_of lines_of end_line recorded go changed last_lines written cleared leave perform undo_rec undo
carry = tt
