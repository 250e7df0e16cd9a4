-- The end of an act: records one after the other, until one does not fit, and what then is there. Assumes nothing.
use Rattle.std.specs.Prelude.{cond, List, [], ◌∷◌, ◌++◌, ◌≡◌, ℕ, ◌+◌, ◌-◌, ◌/◌, ◌^◌, ◌≤◌, ◌<◌, leb, length, get_or, set, take, replicate, Option, Some, None}
use Rattle.rules.specs.Bytes.{splice}
use Rattle.rules.specs.Calls.{world_of}
use Rattle.rules.specs.Carry.{World, Rec, line_of, end_line, changed, After, made, unmade, ok, cleared, leave}
use Rattle.rules.specs.Fields.{masks_of, fields_of}
use Rattle.rules.specs.Scalars.{scalar_bits, view_scalars}
use Rattle.rules.specs.State.{Device}
use Rattle.rules.specs.View.{view_priorities}
use Rattle.act.specs.Parts.{Arrays, held_at}
use Rattle.act.specs.declared.Core.{Core}

-- ---- records, one after the other

-- where the next record goes; or nowhere, since one did not fit
abbrev pub Noted : Type 0
Noted = Option ℕ

-- where the next record goes, and the journal
pub data Noting : Type 0 where
  noting : Noted → List ℕ → Noting

-- one record more; one that does not fit leaves the journal as it is
unfoldable pub add : List ℕ → Noting → Noting
add l (noting None j) = noting None j
add l (noting (Some at) j) = cond (leb (at + 16) (length j)) (noting (Some (at + 16)) (splice j at l)) (noting None j)

unfoldable pub add_all : List Rec → Noting → Noting
add_all [] s = s
add_all (r ∷ rs) s = add_all rs (add (line_of r) s)

-- the end of the group that began at `used`
unfoldable pub add_end : ℕ → Noting → Noting
add_end used (noting None j) = noting None j
add_end used (noting (Some at) j) = add (end_line ((at - used) / 16)) (noting (Some at) j)

-- ---- promises of the functions that add records; j and j' are the journal at entry and at exit

-- the fields from number n on, b at the act's entry and a now: one record for each that differs
abbrev pub Notes : ℕ → List ℕ → List ℕ → Noted → Noted → List ℕ → List ℕ → Type 0
Notes n b a s r j j' = noting r j' ≡ add_all (changed n b a) (noting s j)

-- and there are m of them
pub record Part (m n : ℕ) (b a : List ℕ) (s r : Noted) (j j' : List ℕ) : Type 0 where
  pub long : length b ≡ m
  pub long_now : length a ≡ m
  pub noted : Notes n b a s r j j'

-- of m fields from number n on, field i, b at the act's entry and a now, where no other was changed
abbrev pub NotesOne : ℕ → ℕ → ℕ → ℕ → ℕ → Noted → Noted → List ℕ → List ℕ → Type 0
NotesOne m n i b a s r j j' = (xs : List ℕ) → length xs ≡ m → get_or xs i 0 ≡ b → Part m n xs (set xs i a) s r j j'

-- what is asked of the two arrays: as long as each other, and numbers that a record's place can hold
pub record Noteworthy (n : ℕ) (b a : List ℕ) : Type 0 where
  pub alike : length b ≡ length a
  pub places : n + length b < 2 ^ 32

-- ---- the fields of a device that is held in parts

-- 0 to 63
unfoldable pub core_in : Core → List ℕ
core_in k =
    view_scalars k.scalars ++ (replicate (16 - length scalar_bits) 0 ++ masks_of (held_at k 0) (masks_of (held_at k 1) (masks_of (held_at k 2) (replicate 36 0))))

-- 256 to 447
unfoldable pub levels_in : Core → List ℕ
levels_in k = (held_at k 0).levels ++ ((held_at k 1).levels ++ (held_at k 2).levels)

-- 768 to 831
abbrev pub order_in : Arrays → List ℕ
order_in x = view_priorities x.chip x.priorities

-- ---- how an act that began at u and reached device d ends: made, or refused for want of room

unfoldable pub closed : {A : Type 0} → Noted → A → World → Device → List ℕ → List ℕ → After A World
closed (Some e) a u d w j = made a (world_of d w j e)
closed None a u d w j = unmade 11 (cleared u)

-- what the end of an act promises, of every world that it began in with the fields xs, and every device that it reached with the fields ys;
-- and the journal is the same below `at`, also where a record did not fit, and does not end past its last byte. (`closes` of proofs/Group has
-- it for every answer.)
pub record Closes (r : Noted) (xs ys : List ℕ) (used at : ℕ) (j j' : List ℕ) : Type 0 where
  pub ends : (u : World) (d : Device) (w : List ℕ) → fields_of u.now.dev ≡ xs → fields_of d ≡ ys → length u.used ≡ used
      → closed r (tt {0}) u d w j' ≡ leave u (ok tt (world_of d w j at))
  pub front : take at j' ≡ take at j
  pub long : length j' ≡ length j
  pub inside : (e : ℕ) → r ≡ Some e → e ≤ length j'
