-- The answer of an entry in one number (docs/ABI.md), and all that is there after an entry, however it holds a device. Assumes nothing.
use Rattle.std.specs.Prelude.{Some, None, Ok, Err, cond, List, ℕ, ◌+◌, ◌*◌, ◌/◌, ◌%◌, ◌^◌, eqb}
use Rattle.rules.specs.Verdicts.{Heard}
use Rattle.rules.specs.Calls.{heard_level, heard_vector, Told, told, ToldRead, told_read}
use Rattle.rules.specs.State.{Device}
use Rattle.captures.specs.Capture.{Judged, Captured}

-- bits 63..56 status, 47..40 level, 39..32 vector, 31..0 the low bits of a number
unfoldable pub packed : ℕ → ℕ → ℕ → ℕ → ℕ
packed status level vector low = status * 2 ^ 56 + level * 2 ^ 40 + vector * 2 ^ 32 + low % 2 ^ 32

-- what a caller reads off it
abbrev pub status_in : ℕ → ℕ
status_in r = r / 2 ^ 56

abbrev pub level_in : ℕ → ℕ
level_in r = r / 2 ^ 40 % 2 ^ 8

abbrev pub vector_in : ℕ → ℕ
vector_in r = r / 2 ^ 32 % 2 ^ 8

abbrev pub low_in : ℕ → ℕ
low_in r = r % 2 ^ 32

-- level 0: nothing
abbrev pub heard_in : ℕ → Heard
heard_in r = cond (eqb (level_in r) 0) None (Some (record { level = level_in r; vector = vector_in r }))

-- a register read: the value, 0 after a refusal
unfoldable pub read_by : ToldRead → ℕ
read_by (told_read n v) = packed n 0 0 v

-- a capture: whether it departs in the vector's place, and at which access; 22 and at which record
unfoldable pub judged_by : Judged → ℕ
judged_by None = packed 0 0 0 0
judged_by (Some x) = packed 0 0 1 x.at

unfoldable pub captured_by : Captured → ℕ
captured_by (Err x) = packed 22 0 0 x.place
captured_by (Ok j) = judged_by j

-- an entry's answer, the device as the entry holds it, window, staging, journal
pub data Left (D : Type 0) : Type 0 where
  left : ℕ → D → List ℕ → List ℕ → List ℕ → Left D

-- what a call tells, where `of` is how a device is held
unfoldable pub left_by : {D : Type 0} → (Device → D) → Told → Left D
left_by of (told n heard d window staging journal used) = left (packed n (heard_level heard) (heard_vector heard) used) (of d) window staging journal
