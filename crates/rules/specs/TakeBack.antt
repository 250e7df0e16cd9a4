-- Take back: document 01, refusals 12 and 13, and "Damaged". Assumes nothing.
use Rattle.std.specs.Prelude.{Bool, true, false, ◌&&◌, List, [], ◌∷◌, ◌++◌, ℕ, zero, suc, ◌+◌, ◌-◌, ◌*◌, ◌^◌, eqb, leb, ltb, get_or, take, drop, length, replicate}
use Rattle.rules.specs.Act.{Space, window, table}
use Rattle.rules.specs.Bytes.{number, part}
use Rattle.rules.specs.Fields.{field_at, fits_some}
use Rattle.rules.specs.Carry.{Machine, World, Rec, stood_at, stood_in, After, made, unmade, there, legal, undo}

-- ---- the parts of a record of 16 bytes

unfoldable pub marked : List ℕ → Bool
marked l = eqb (get_or l 0 0) 0x4A && eqb (get_or l 1 0) 0x52

abbrev pub kind : List ℕ → ℕ
kind l = get_or l 2 0

abbrev pub width : List ℕ → ℕ
width l = get_or l 3 0

unfoldable pub place : List ℕ → ℕ
place l = number (part l 4 4)

unfoldable pub value : List ℕ → ℕ
value l = number (part l 8 8)

-- ---- damage

module _ (base : ℕ) where
  -- a width that its kind can have, a place in table or window, a value that its width can hold
  unfoldable pub sound_store : Machine → Space → ℕ → ℕ → ℕ → Bool
  sound_store m sp w a v = legal sp w && there base sp a w m && ltb v (256 ^ w)

  -- width 8, a number that names a field of the mode, a value that the field can hold
  unfoldable pub sound_field : Bool → ℕ → ℕ → ℕ → Bool
  sound_field chip w n v = eqb w 8 && fits_some chip (field_at chip n) v

  -- kinds 0, 1 and 2; an end (3) inside the group is damage, and so is any other kind
  unfoldable pub sound_kind : Machine → ℕ → ℕ → ℕ → ℕ → Bool
  sound_kind m zero w a v = sound_store m window w a v
  sound_kind m (suc zero) w a v = sound_store m table w a v
  sound_kind m (suc (suc zero)) w a v = sound_field m.dev.chip w a v
  sound_kind m (suc (suc (suc k))) w a v = false

  unfoldable pub sound : Machine → List ℕ → Bool
  sound m l = marked l && sound_kind m (kind l) (width l) (place l) (value l)

  -- the first n records of l
  unfoldable pub all_sound : Machine → ℕ → List ℕ → Bool
  all_sound m zero l = true
  all_sound m (suc n) l = sound m (take 16 l) && all_sound m n (drop 16 l)

-- an end, of a group of as many records as it says
unfoldable pub ends : List ℕ → Bool
ends l = marked l && eqb (kind l) 3 && eqb (width l) 0 && eqb (place l) 0

-- ---- what the records say

unfoldable pub rec_of : ℕ → ℕ → ℕ → ℕ → Rec
rec_of zero w a v = stood_at window a w v
rec_of (suc zero) w a v = stood_at table a w v
rec_of (suc (suc k)) w a v = stood_in a v

unfoldable pub decode : List ℕ → Rec
decode l = rec_of (kind l) (width l) (place l) (value l)

unfoldable pub decode_all : ℕ → List ℕ → List Rec
decode_all zero l = []
decode_all (suc n) l = decode (take 16 l) ∷ decode_all n (drop 16 l)

-- ---- the call, its arguments tested

module _ (base : ℕ) where
  -- the last group has n records: what is before it, and its bytes with its end
  unfoldable pub take_group : World → ℕ → List ℕ → List ℕ → After (Unit {0}) World
  take_group u n before group =
      elim (all_sound base u.now n group) [
        | true ↦ made tt (record { now = undo base (decode_all n group) u.now; used = before; free = replicate (length group) 0 ++ u.free })
        | false ↦ unmade 13 u
      ]

  -- a group longer than the used part is damage
  unfoldable pub take_last : World → ℕ → After (Unit {0}) World
  take_last u n =
      let from = length u.used - (n + 1) * 16 in
      elim (leb ((n + 1) * 16) (length u.used)) [ true ↦ take_group u n (take from u.used) (drop from u.used) | false ↦ unmade 13 u ]

  -- and so is a last record that is no end
  unfoldable pub take_end : World → List ℕ → After (Unit {0}) World
  take_end u l = elim (ends l) [ true ↦ take_last u (value l) | false ↦ unmade 13 u ]

  unfoldable pub take_back : World → After (Unit {0}) World
  take_back u = elim (eqb (length u.used) 0) [ true ↦ unmade 12 u | false ↦ take_end u (drop (length u.used - 16) u.used) ]

-- on an `unfolding` line: all the definitions of this file
unfoldable pub takes : Unit {0}
unfolding marked place value sound_store sound_field sound_kind sound all_sound ends rec_of decode decode_all take_group take_last take_end take_back
takes = tt
