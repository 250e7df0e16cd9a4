-- What the damage scan of a group says. Document 01, "Damaged". Assumes nothing.
use Rattle.std.specs.Prelude.{Bool, false, ◌&&◌, List, ◌≡◌, ℕ, ◌^◌, ◌≤◌, ◌<◌, ltb, length, Option, Some, None}
use Rattle.rules.specs.Calls.{fresh}
use Rattle.rules.specs.Carry.{Machine}
use Rattle.rules.specs.TakeBack.{marked, kind, width, place, sound_kind, all_sound}
use Rattle.rules.specs.State.{Device}

-- a machine of this mode with this window; what else its device holds makes no difference to the scan
unfoldable pub scanning : Bool → List ℕ → Machine
scanning chip w = record { mem = w; dev = fresh false chip }

-- what the first 8 bytes of a record leave to its value: so many bits; or nothing, since they are damaged
abbrev pub Head : Type 0
Head = Option ℕ

-- whether a value is sound behind a head: it has no more bits than are left to it
abbrev pub allows : Head → ℕ → Bool
allows (Some b) v = ltb v (2 ^ b)
allows None v = false

-- some are, and at most 64
abbrev pub Ranged : Head → Type 0
Ranged (Some b) = (0 < b) × (b ≤ 64)
Ranged None = Unit {0}

-- a head that says of every value what a test of the rules says
pub record Judges (h : Head) (test : ℕ → Bool) : Type 0 where
  pub agrees : (v : ℕ) → allows h v ≡ test v
  pub ranged : Ranged h

-- a record's test, as a test of its value
unfoldable pub sound_with : ℕ → Machine → List ℕ → ℕ → Bool
sound_with base m l v = marked l && sound_kind base m (kind l) (width l) (place l) v

-- the verdict on the first n records of a group. Of a device only its mode and the length of its table count
abbrev pub Scanned : Bool → Bool → ℕ → List ℕ → ℕ → List ℕ → Type 0
Scanned r chip base w n group = (d : Device) → d.chip ≡ chip → length d.table ≡ 2048 → r ≡ all_sound base (record { mem = w; dev = d }) n group
