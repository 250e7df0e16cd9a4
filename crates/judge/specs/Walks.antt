-- The judge as a walk: what is due at each access, and where the walk stands after it. They are the code's own steps, in its words; that a walk
-- judges as the rules do is proved in proofs/Follow.antt. Assumes nothing.
use Rattle.std.specs.Prelude.{Option, None, Some, Result, Ok, Err, ◌≡◌, ℕ, zero, suc, ◌+◌, ◌-◌, ◌*◌, ◌/◌, ◌%◌, ◌^◌, ◌<◌, ◌≤◌, Bool, false, cond, not, ◌&&◌, ◌⊎◌, List, [], ◌∷◌, ◌==◌, nat_lt, slice_index}
use Rattle.rules.specs.declared.Tcd.{Tcd}
use Rattle.rules.specs.Bytes.{number}
use Rattle.rules.specs.Minor.{ESG, ssize, dsize, minor_bytes}
use Rattle.rules.specs.Words.{has, size_of, unit_of, wholes, wrap32, signed, modulo_add, count_of}
use Rattle.captures.specs.declared.Due.{Due}
use Rattle.captures.specs.declared.Flaw.{Flaw}
use Rattle.captures.specs.declared.Departure.{Departure}
use Rattle.captures.specs.Capture.{Judged, allowed, departs, Captured, malformed, kind_in, width_of, address_of, value_of, flaw_of, record_at}
use Rattle.judge.specs.declared.Side.{Side}
use Rattle.judge.specs.declared.Plan.{Plan}
use Rattle.judge.specs.declared.Place.{Place}
use Rattle.judge.specs.declared.Walk.{Walk}
use Rattle.judge.specs.declared.Seen.{Seen}
use Rattle.judge.specs.declared.Course.{Course}

-- ---- what a descriptor asks for

unfoldable pub side_of : ℕ → ℕ → Side
side_of code off = record {
  size = size_of code;
  unit = unit_of (size_of code);
  more = size_of code / unit_of (size_of code) - 1;
  offset = signed 16 off;
  modulo = code / 2 ^ 3 % 2 ^ 5;
}

-- whole source sizes
unfoldable pub reads_of : ℕ → Tcd → ℕ
reads_of cr t = wholes (minor_bytes cr t) (ssize t)

unfoldable pub plan_of : ℕ → Tcd → Plan
plan_of cr t = record {
  source = side_of (t.attr / 2 ^ 8) t.soff;
  dest = side_of t.attr t.doff;
  writes = reads_of cr t * ssize t / dsize t;
  gathers = count_of t.citer == 1 && has t.csr ESG;
  next = t.dlast;
}

-- the bytes of a unit
abbrev pub a_unit : ℕ → Type 0
a_unit n = (n ≡ 1) ⊎ ((n ≡ 2) ⊎ (n ≡ 4))

-- a size and its unit
pub record Parted (size unit : ℕ) : Type 0 where
  pub is_unit : unit ≡ unit_of size
  pub which : a_unit unit
  pub some_unit : 0 < unit
  pub unit_most : unit ≤ 4
  pub some_units : 1 ≤ size / unit
  pub units_most : size / unit ≤ 8

-- what holds of a side, and keeps the code's sums within their types
pub record Narrow (s : Side) : Type 0 where
  pub is_unit : unit_of s.size ≡ s.unit
  pub units : s.size / unit_of s.size ≡ suc s.more
  pub which : a_unit s.unit
  pub some_unit : 0 < s.unit
  pub unit_most : s.unit ≤ 4
  pub some_size : 0 < s.size
  pub size_most : s.size ≤ 32
  pub more_most : s.more < 8
  pub modulo_most : s.modulo < 32

pub record Fitting (p : Plan) : Type 0 where
  pub of_source : Narrow p.source
  pub of_dest : Narrow p.dest

abbrev pub Within : Place → Type 0
Within at = at.left + at.unit < 8

abbrev pub Sane : Walk → Type 0
Sane (Walk.Move at) = Within at
Sane (Walk.Lay at v) = Within at
Sane (Walk.Read at) = Within at
Sane (Walk.Write at written read) = Within at × (written + at.sizes < 2 ^ 32)
Sane (Walk.Fetch left a) = a + left < 2 ^ 33
Sane Walk.Over = Unit {0}

abbrev pub Safe : Course → Type 0
Safe (Course.Going w) = Sane w
Safe (Course.Departed x) = Unit {0}
Safe (Course.Refused x) = Unit {0}

-- ---- where a walk begins, and where it stands after an access

-- the first unit of a size, with n sizes after it
unfoldable pub place_at : Side → ℕ → ℕ → ℕ → Place
place_at side n a b = record { sizes = n; left = side.more; unit = 0; from = a; to = b }

unfoldable pub next_unit : Place → Place
next_unit at = record { sizes = at.sizes; left = at.left - 1; unit = at.unit + 1; from = at.from; to = at.to }

unfoldable pub advanced : Side → ℕ → ℕ
advanced side a = modulo_add a side.offset side.modulo

unfoldable pub fetch_on : ℕ → ℕ → Walk
fetch_on left a = cond (left == 0) Walk.Over (Walk.Fetch (left - 1) (a + 1))

module _ (p : Plan) where
  unfoldable pub ending_of : Walk
  ending_of = cond p.gathers (Walk.Fetch 31 p.next) Walk.Over

  unfoldable pub moves_from : ℕ → ℕ → ℕ → Walk
  moves_from n a b = cond (n == 0) ending_of (Walk.Move (place_at p.source (n - 1) a b))

  unfoldable pub writes_from : ℕ → ℕ → ℕ → ℕ → ℕ → Walk
  writes_from n written read a b = cond (n == 0) ending_of (Walk.Write (place_at p.dest (n - 1) a b) written read)

  unfoldable pub reads_from : ℕ → ℕ → ℕ → ℕ → Walk
  reads_from n read a b = cond (n == 0) (writes_from p.writes 0 read a b) (Walk.Read (place_at p.source (n - 1) a b))

  unfoldable pub move_on : Place → Walk
  move_on at = cond (at.left == 0) (moves_from at.sizes (advanced p.source at.from) (advanced p.dest at.to)) (Walk.Move (next_unit at))

  -- after access number i, which was a read
  unfoldable pub read_on : ℕ → Place → Walk
  read_on i at = cond (at.left == 0) (reads_from at.sizes (i + 1) (advanced p.source at.from) at.to) (Walk.Read (next_unit at))

  unfoldable pub write_on : Place → ℕ → ℕ → Walk
  write_on at written read = cond (at.left == 0) (writes_from at.sizes (written + 1) read at.from (advanced p.dest at.to)) (Walk.Write (next_unit at) written read)

  -- after access number i, which had value v
  unfoldable pub onward_of : ℕ → Walk → ℕ → Walk
  onward_of i (Walk.Move at) v = Walk.Lay at v
  onward_of i (Walk.Lay at x) v = move_on at
  onward_of i (Walk.Read at) v = read_on i at
  onward_of i (Walk.Write at written read) v = write_on at written read
  onward_of i (Walk.Fetch left a) v = fetch_on left a
  onward_of i Walk.Over v = Walk.Over

unfoldable pub start_of : ℕ → Tcd → Walk
start_of cr t =
    cond (count_of t.citer == 0)
    Walk.Over
    (cond (ssize t == dsize t)
    (moves_from (plan_of cr t) (reads_of cr t) t.saddr t.daddr)
    (reads_from (plan_of cr t) (reads_of cr t) 0 t.saddr t.daddr))

-- ---- what is due

unfoldable pub unit_at : Side → ℕ → ℕ → ℕ
unit_at side a k = wrap32 (a + k * side.unit)

-- where a unit to be written stands in what was read
unfoldable pub place_of : Side → Place → ℕ → ℕ
place_of side at written = written * side.size + at.unit * side.unit

-- the values read, in records: those from record number `origin` on are at hand
module _ (sources : List ℕ) (origin : ℕ) where
  -- byte j of what the first accesses, so many as were reads, gave in units of so many bytes
  unfoldable pub source_byte : ℕ → ℕ → ℕ → ℕ
  source_byte unit read j =
      cond (nat_lt (j / unit) read)
      (cond (nat_lt (j / unit) origin) 0 (slice_index sources (16 * (j / unit - origin) + (16 - unit + j % unit))))
      0

  unfoldable pub source_bytes : ℕ → ℕ → ℕ → ℕ → List ℕ
  source_bytes unit read j zero = []
  source_bytes unit read j (suc n) = source_byte unit read j ∷ source_bytes unit read (j + 1) n

  unfoldable pub source_number : ℕ → ℕ → ℕ → ℕ → ℕ
  source_number unit read j n = number (source_bytes unit read j n)

  unfoldable pub due_of : Plan → Walk → Option Due
  due_of p (Walk.Move at) = Some (Due.Read (unit_at p.source at.from at.unit) p.source.unit)
  due_of p (Walk.Lay at v) = Some (Due.Write (unit_at p.source at.to at.unit) p.source.unit v)
  due_of p (Walk.Read at) = Some (Due.Read (unit_at p.source at.from at.unit) p.source.unit)
  due_of p (Walk.Write at written read) =
      Some (Due.Write (unit_at p.dest at.to at.unit) p.dest.unit
      (source_number p.source.unit read (place_of p.dest at written) p.dest.unit))
  due_of p (Walk.Fetch left a) = Some (Due.Read (wrap32 a) 1)
  due_of p Walk.Over = None

-- the first record whose value the next write carries
unfoldable pub origin_in : Plan → Walk → ℕ
origin_in p (Walk.Move at) = 0
origin_in p (Walk.Lay at v) = 0
origin_in p (Walk.Read at) = 0
origin_in p (Walk.Write at written read) = place_of p.dest at written / p.source.unit
origin_in p (Walk.Fetch left a) = 0
origin_in p Walk.Over = 0

unfoldable pub origin_of : Plan → Course → ℕ
origin_of p (Course.Going w) = origin_in p w
origin_of p (Course.Departed x) = 0
origin_of p (Course.Refused x) = 0

-- ---- records

unfoldable pub seen_in : List ℕ → Seen
seen_in r = record { read = (kind_in r == 4); address = address_of r; width = width_of r; value = value_of r }

abbrev pub Record : Type 0
Record = Result Seen Flaw

unfoldable pub unless_unfit : Option Flaw → Seen → Record
unless_unfit None x = Ok x
unless_unfit (Some f) x = Err f

unfoldable pub looked_at : List ℕ → Record
looked_at r = unless_unfit (flaw_of r) (seen_in r)

unfoldable pub meets_due : Option Due → Seen → Bool
meets_due (Some (Due.Read a n)) x = x.read && a == x.address && n == x.width
meets_due (Some (Due.Write a n v)) x = not x.read && a == x.address && n == x.width && v == x.value
meets_due None x = false

-- ---- the course of a judgement

-- access number i departed, where this is due; record number i is malformed
abbrev pub departed_at : ℕ → Option Due → Course
departed_at i due = Course.Departed (record { at = i; due = due })

abbrev pub refused_at : ℕ → Flaw → Course
refused_at i f = Course.Refused (record { place = i; why = f })

-- once an access departed, records are only looked at
unfoldable pub look_past : ℕ → Departure → Record → Course
look_past i x (Ok y) = Course.Departed x
look_past i x (Err f) = refused_at i f

unfoldable pub unless_cut : ℕ → Bool → Judged → Captured
unless_cut n is_cut found = cond is_cut (malformed n Flaw.Cut) (Ok found)

-- a list of n accesses, where this is still due
unfoldable pub ended_at : ℕ → Option Due → Judged
ended_at n (Some due) = departs n (Some due)
ended_at n None = allowed

module _ (p : Plan) (sources : List ℕ) (origin : ℕ) where
  unfoldable pub walk_on : ℕ → Walk → Seen → Course
  walk_on i w x = cond (meets_due (due_of sources origin p w) x) (Course.Going (onward_of p i w x.value)) (departed_at i (due_of sources origin p w))

  -- after record number i
  unfoldable pub step_of : ℕ → Course → Record → Course
  step_of i (Course.Going w) (Ok x) = walk_on i w x
  step_of i (Course.Going w) (Err f) = refused_at i f
  step_of i (Course.Departed x) r = look_past i x r
  step_of i (Course.Refused x) r = Course.Refused x

  -- after n records from place k on, which are numbered from `number` on
  unfoldable pub on_all : ℕ → List ℕ → ℕ → ℕ → Course → Course
  on_all number records zero k c = c
  on_all number records (suc n) k c = on_all number records n (k + 1) (step_of (number + k) c (looked_at (record_at records k)))

  -- n records were there, and then a cut one or none
  unfoldable pub verdict_of : ℕ → Bool → Course → Captured
  verdict_of n is_cut (Course.Going w) = unless_cut n is_cut (ended_at n (due_of sources origin p w))
  verdict_of n is_cut (Course.Departed x) = unless_cut n is_cut (Some x)
  verdict_of n is_cut (Course.Refused x) = Err x
