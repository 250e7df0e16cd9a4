-- The last journalled group of a used journal, and what a take-back does with it. Assumes nothing.
use Rattle.std.specs.Prelude.{Bool, true, List, ◌++◌, ◌≡◌, ℕ, ◌+◌, ◌-◌, ◌*◌, length, take, drop, replicate, Option, Some, None}
use Rattle.rules.specs.Carry.{Machine, World, Rec, stood_at, stood_in, made, unmade, undo_rec, undo}
use Rattle.rules.specs.Fields.{with_number}
use Rattle.rules.specs.TakeBack.{all_sound, decode_all, take_back}
use Rattle.rules.specs.With.{with_table}
use Rattle.rules.specs.State.{Device}
use Rattle.scan.specs.Heads.{scanning}
use Rattle.back.specs.declared.Group.{Group}

abbrev pub machine : List ℕ → Device → Machine
machine w d = record { mem = w; dev = d }

-- a world with this used journal
abbrev pub journalled : Machine → List ℕ → List ℕ → World
journalled m used free = record { now = m; used = used; free = free }

-- a group of n records, from index `from` on, and its end, taken back: undone, the journal used as before it, zeros in its place
abbrev pub taken_back : ℕ → World → ℕ → ℕ → World
taken_back base u from n = record {
  now = undo base (decode_all n (drop from u.used)) u.now;
  used = take from u.used;
  free = replicate (length u.used - from) 0 ++ u.free;
}

-- a sound group of n records before its end, from index `from` on: its bytes are all there
pub record Sound (chip : Bool) (base : ℕ) (w used : List ℕ) (from n : ℕ) : Type 0 where
  pub long : from + (n + 1) * 16 ≡ length used
  pub sound : all_sound base (scanning chip w) n (drop from used) ≡ true

-- what was found to stand last, in a mode, a window w and a used journal, and what it makes of a take-back. Of a device only its mode and the length of
-- its table count
abbrev pub Finds : Bool → ℕ → List ℕ → List ℕ → Option Group → Type 0
Finds chip base w used (Some group) =
    Sound chip base w used group.from group.count
    × ((d : Device) (free : List ℕ) → d.chip ≡ chip → length d.table ≡ 2048
    → take_back base (journalled (machine w d) used free) ≡ made tt (taken_back base (journalled (machine w d) used free) group.from group.count))
Finds chip base w used None =
    (d : Device) (free : List ℕ) → d.chip ≡ chip → length d.table ≡ 2048
    → take_back base (journalled (machine w d) used free) ≡ unmade 13 (journalled (machine w d) used free)

-- a record undone where it is a store's, and nothing done where it is a field's; and the other way round
unfoldable pub undo_store : ℕ → Rec → Machine → Machine
undo_store base (stood_at sp a n v) m = undo_rec base (stood_at sp a n v) m
undo_store base (stood_in n v) m = m

unfoldable pub undo_field : Rec → Device → Device
undo_field (stood_at sp a n v) d = d
undo_field (stood_in n v) d = with_number n v d

-- window and table before and after the record of a store was undone, for every device that holds the table
abbrev pub UndoesStore : ℕ → Rec → List ℕ → List ℕ → List ℕ → List ℕ → Type 0
UndoesStore base r w t w' t' = (e : Device) → machine w' (with_table e t') ≡ undo_store base r (machine w (with_table e t))
