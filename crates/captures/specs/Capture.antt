-- Document 02, [2]: the memory accesses of an act as a bus probe sees them; whether a list of accesses is one that the rules give, or where it first
-- departs; and a list as records in a file. Assumes nothing.
use Rattle.std.specs.Prelude.{Option, None, Some, Result, Ok, Err, Bool, true, false, cond, not, ◌&&◌, ◌||◌, List, [], ◌∷◌, ◌++◌, ℕ, zero, suc, ◌*◌, ◌/◌, ◌%◌, ◌^◌, eqb, ltb, length, replicate}
use Rattle.rules.specs.State.{Device}
use Rattle.rules.specs.Act.{Act, Done, Endless, Stage, Fetch, Store, Ask, Put, Look, window, table}
use Rattle.rules.specs.Scalars.{CR}
use Rattle.rules.specs.Bytes.{bytes, number, part, splice}
use Rattle.rules.specs.Calls.{fresh}
use Rattle.rules.specs.Fields.{bits_in, holds, with_field, setting_of}
use Rattle.rules.specs.Minor.{pass}
use Rattle.rules.specs.With.{with_table}
use Rattle.captures.specs.declared.Due.{Due}
use Rattle.captures.specs.declared.Departure.{Departure}
use Rattle.captures.specs.declared.Flaw.{Flaw}
use Rattle.captures.specs.declared.Malformed.{Malformed}

-- ---- what is told

-- the list is allowed, or departs at access number i, where this is due (or nothing)
abbrev pub Judged : Type 0
Judged = Option Departure

abbrev pub allowed : Judged
allowed = None

abbrev pub departs : ℕ → Option Due → Judged
departs i due = Some (record { at = i; due = due })

-- record number i is malformed or cut; else a verdict
abbrev pub Captured : Type 0
Captured = Result Judged Malformed

abbrev pub malformed : ℕ → Flaw → Captured
malformed i f = Err (record { place = i; why = f })

-- "read or write, address, width, value"
pub data Access : Type 0 where
  reads writes : ℕ → ℕ → ℕ → Access

unfoldable pub first : List ℕ → ℕ
first [] = 0
first (v ∷ vs) = v

unfoldable pub rest : {A : Type 0} → List A → List A
rest [] = []
rest (v ∷ vs) = vs

-- ---- what the rules give: the accesses of an act on device d, in order, where the reads give the values vs, each cut to its width (0 where there is
-- none left): "a read may give any value". The table and the fields are no memory: steps on them are carried out, and the probe doesn't see them

unfoldable pub accesses : {A : Type 0} → Act A → Device → List ℕ → List Access
accesses (Done a) d vs = []
accesses Endless d vs = []
accesses (Stage n k) d vs = accesses k d vs
accesses (Fetch window a n k) d vs = reads a n (first vs % 256 ^ n) ∷ accesses (k (bytes n (first vs % 256 ^ n))) d (rest vs)
accesses (Fetch table a n k) d vs = accesses (k (part d.table a n)) d vs
accesses (Store window a n v k) d vs = writes a n (v % 256 ^ n) ∷ accesses k d vs
accesses (Store table a n v k) d vs = accesses k (with_table d (splice d.table a (bytes n v))) vs
accesses (Ask f k) d vs = accesses (k (holds f d)) d vs
accesses (Put f v k) d vs = accesses k (with_field f (v % 2 ^ bits_in d.chip f) d) vs
accesses (Look s k) d vs = accesses (k (setting_of s d)) d vs

-- ---- the judge

-- the value of the next access, if it is a read of n bytes at a
unfoldable pub read_as : ℕ → ℕ → List Access → Option ℕ
read_as a n [] = None
read_as a n (reads b w v ∷ l) = cond (eqb a b && eqb n w) (Some v) None
read_as a n (writes b w v ∷ l) = None

-- whether the next access is a write of v in n bytes at a
unfoldable pub wrote_as : ℕ → ℕ → ℕ → List Access → Bool
wrote_as a n v [] = false
wrote_as a n v (reads b w x ∷ l) = false
wrote_as a n v (writes b w x ∷ l) = eqb a b && eqb n w && eqb v x

-- no access is left
unfoldable pub ended : List Access → ℕ → Judged
ended [] i = allowed
ended (x ∷ l) i = departs i None

-- an act's judge: l is what is left of the list, and its first access is number i
unfoldable pub judge : {A : Type 0} → Act A → Device → List Access → ℕ → Judged
judge (Done a) d l i = ended l i
judge Endless d l i = ended l i
judge (Stage n k) d l i = judge k d l i
judge (Fetch window a n k) d l i =
    elim (read_as a n l) [ None ↦ departs i (Some (Due.Read a n)) | Some v ↦ judge (k (bytes n v)) d (rest l) (suc i) ]
judge (Fetch table a n k) d l i = judge (k (part d.table a n)) d l i
judge (Store window a n v k) d l i =
    elim (wrote_as a n (v % 256 ^ n) l) [ true ↦ judge k d (rest l) (suc i) | false ↦ departs i (Some (Due.Write a n (v % 256 ^ n))) ]
judge (Store table a n v k) d l i = judge k (with_table d (splice d.table a (bytes n v))) l i
judge (Ask f k) d l i = judge (k (holds f d)) d l i
judge (Put f v k) d l i = judge k (with_field f (v % 2 ^ bits_in d.chip f) d) l i
judge (Look s k) d l i = judge (k (setting_of s d)) d l i

-- "one channel's minor loop", from the 32 bytes of its descriptor and CR: a fresh device with that descriptor as channel 0's. Which channel it is
-- decides only whether a link is to itself, which no access shows
unfoldable pub board : List ℕ → ℕ → Device
board descriptor cr = with_field CR cr (with_table (fresh false false) (descriptor ++ replicate 2016 0))

unfoldable pub judged : List ℕ → ℕ → List Access → Judged
judged descriptor cr l = judge (pass 0) (board descriptor cr) l 0

-- ---- a list as a file: one record of 16 bytes for each access, "with our two-byte mark in front", then kind (4 a read, 5 a write), width, 4-byte
-- address, 8-byte value

unfoldable pub mark_of : List ℕ → ℕ
mark_of r = number (part r 0 2)

unfoldable pub kind_in : List ℕ → ℕ
kind_in r = number (part r 2 1)

unfoldable pub width_of : List ℕ → ℕ
width_of r = number (part r 3 1)

unfoldable pub address_of : List ℕ → ℕ
address_of r = number (part r 4 4)

unfoldable pub value_of : List ℕ → ℕ
value_of r = number (part r 8 8)

-- the first thing that is wrong with a record
unfoldable pub flaw_of : List ℕ → Option Flaw
flaw_of r =
    cond (not (eqb (mark_of r) 0x4A52)) (Some Flaw.Mark)
    (cond (not (eqb (kind_in r) 4 || eqb (kind_in r) 5)) (Some Flaw.Kind)
    (cond (not (eqb (width_of r) 1 || eqb (width_of r) 2 || eqb (width_of r) 4)) (Some Flaw.Width)
    (cond (not (ltb (value_of r) (256 ^ width_of r))) (Some Flaw.Value) None)))

unfoldable pub access_of : List ℕ → Access
access_of r = cond (eqb (kind_in r) 4) (reads (address_of r) (width_of r) (value_of r)) (writes (address_of r) (width_of r) (value_of r))

-- how many whole records a file has, and whether it ends inside one
unfoldable pub records : List ℕ → ℕ
records file = length file / 16

unfoldable pub is_cut : List ℕ → Bool
is_cut file = not (eqb (length file % 16) 0)

module _ (file : List ℕ) where
  unfoldable pub record_at : ℕ → List ℕ
  record_at i = part file (16 * i) 16

  -- the accesses of n records from number i on
  unfoldable pub accesses_of : ℕ → ℕ → List Access
  accesses_of zero i = []
  accesses_of (suc n) i = access_of (record_at i) ∷ accesses_of n (suc i)

  -- the first malformed one of n records from number i on; else what comes after
  unfoldable pub unless_flawed : ℕ → ℕ → Captured → Captured
  unless_flawed zero i after = after
  unless_flawed (suc n) i after =
      elim (flaw_of (record_at i)) [ Some f ↦ malformed i f | None ↦ unless_flawed n (suc i) after ]

  -- a malformed record comes before a cut one, and both before any verdict
  unfoldable pub captured : List ℕ → ℕ → Captured
  captured descriptor cr =
      unless_flawed (records file) 0
      (cond (is_cut file)
      (malformed (records file) Flaw.Cut)
      (Ok (judged descriptor cr (accesses_of (records file) 0))))

-- on an `unfolding` line: all the definitions of this file
unfoldable pub captures : Unit {0}
unfolding first rest accesses read_as wrote_as ended judge board judged mark_of kind_in width_of address_of value_of flaw_of access_of records is_cut record_at accesses_of unless_flawed captured
captures = tt
