-- Demand 3 of rows of entries on a device in memory, each on what the one before it left, with the used length read off its answer: device, window
-- and used journal are what the entries still standing, made alone in order, give; these are accepted and answer the same; and what a take-back
-- answers. Assumes nothing.
use Rattle.std.specs.Prelude.{None}
use mathlib.Core.List.{List, [], ◌∷◌}
use mathlib.Core.Logic.{◌↔◌}
use mathlib.Core.Path.{◌≡◌, sym, ap, subst}
use Prim.Native.Nat.{ℕ, ◌^◌, ◌≤◌}
use lib.ListN.{length}
use Rattle.rules.specs.Calls.{after, after_back, after_read}
use Rattle.rules.specs.Carry.{After, made, unmade}
use Rattle.rules.specs.State.{Device}
use Rattle.rules.specs.Verdicts.{Heard}
use Rattle.rules.proofs.Along.{Along, make_along, back_along}
use Rattle.rules.proofs.Bench.{Held, RowCall, act, read, amiss, amiss_back, make_held, back_held}
use Rattle.rules.proofs.Proper.{Proper}
use Rattle.rules.proofs.Hearing.{Audible, act_hears, back_hears}
use Rattle.rules.proofs.History.{Entry, Walk, walk, Alone}
use Rattle.rules.proofs.Through.{carried}
use Rattle.answers.specs.Answers.{read_by}
use Rattle.answers.proofs.Reading.{read_status}
use Rattle.answers.specs.Answers.{status_in}
use Rattle.answers.proofs.Rows.{Shelf, compared_shelf, ended_entry, ended_aside, Opens, used_fits, shelf_of, entry_ended, aside_ended, rows_same_as_alone, rows_last_taken_back, rows_refused_12}
use Rattle.direct.specs.Direct.{left_of}

-- what a device in memory stands for, and what the caller owns beside it
abbrev pub DeviceShelf : Type 0
DeviceShelf = Shelf Device

-- a device is held as it is
abbrev itself : Held → DeviceShelf
itself = shelf_of (λ d. d)

module _ (base : ℕ) where
  -- by the entries' contracts; those of the entries that are not lent a window hold for every base, window and staging
  unfoldable pub make_direct : RowCall → DeviceShelf → After Heard DeviceShelf
  make_direct (act c staging) s = ended_entry (left_of (after c base s.device s.window staging s.journal s.used))
  make_direct (read address size) s = unmade (status_in (read_by (after_read s.device address size))) s
  make_direct (amiss c b window staging journal used bad) s = ended_aside s (left_of (after c b s.device window staging journal used))
  make_direct (amiss_back b window journal used bad) s = ended_aside s (left_of (after_back b s.device window journal used))

  unfoldable pub back_direct : DeviceShelf → After Heard DeviceShelf
  back_direct s = ended_entry (left_of (after_back base s.device s.window s.journal s.used))

  -- where a row leads, its last entry first
  abbrev pub direct_row : DeviceShelf → List (Entry RowCall) → Walk RowCall Heard DeviceShelf
  direct_row start row = walk make_direct back_direct start row

  -- entries, the last one first, made alone in order from the start: all are accepted, with these answers, and lead to s
  abbrev pub DirectAlone : DeviceShelf → List (RowCall × Heard) → DeviceShelf → Type 0
  DirectAlone start cs s = Alone make_direct start cs s

-- ---- an entry is the bench's call

module _ (base n k : ℕ) (few : k ≤ 2 ^ 28) where
  same_make : (c : RowCall) (h : Held) → Along n k h → make_direct base c (itself h) ≡ carried (λ a. a) itself (make_held base c h)
  unfolding make_direct make_held
  same_make (act c staging) h a =
      let t = after c base h.device h.window staging h.journal h.used in
      entry_ended (λ d. d) t (act_hears c base h.device h.window staging h.journal h.used) (used_fits n k few t (make_along base n k (act c staging) h a))
  same_make (read address size) h a = ap (λ (i : ℕ). unmade i (itself h)) (read_status (after_read h.device address size))
  same_make (amiss c b window staging journal used bad) h a =
      aside_ended (λ d. d) h (after c b h.device window staging journal used) (act_hears c b h.device window staging journal used)
  same_make (amiss_back b window journal used bad) h a =
      aside_ended (λ d. d) h (after_back b h.device window journal used) (subst Audible (sym (back_hears b h.device window journal used)) tt)

  same_back : (h : Held) → Along n k h → back_direct base (itself h) ≡ carried (λ a. a) itself (back_held base h)
  unfolding back_direct back_held
  same_back h a =
      let t = after_back base h.device h.window h.journal h.used in
      entry_ended (λ d. d) t (subst Audible (sym (back_hears base h.device h.window h.journal h.used)) tt) (used_fits n k few t (back_along base n k h a))

-- ---- demand 3: from a proper device, as every value of the declared type is one (rules/proofs/Each, `typed_proper`)

module _ (base : ℕ) (own : Held) (opens : Opens base (itself own)) (proper : Proper own.device) where
  -- the entries still standing, made alone in order, are all accepted, answer what they answered in the row, and give device, window and used
  -- journal as they are
  pub direct_same_as_alone : (row : List (Entry RowCall)) → let s = direct_row base (itself own) row in
      (t : DeviceShelf) × DirectAlone base (itself own) s.standing t × (compared_shelf s.here ≡ compared_shelf t)
  direct_same_as_alone =
      rows_same_as_alone (λ d. d) base own opens proper (make_direct base) (back_direct base) (same_make base (length own.window) (length own.journal) opens.room)
      (same_back base (length own.window) (length own.journal) opens.room)

  -- where one stands, a take-back is accepted, and leads to what the others, made alone in order, give
  pub direct_last_taken_back : (row : List (Entry RowCall)) (c : RowCall × Heard) (cs : List (RowCall × Heard)) → let s = direct_row base (itself own) row in s.standing ≡ c ∷ cs
      → (t u : DeviceShelf) × (back_direct base s.here ≡ made None t) × DirectAlone base (itself own) cs u × (compared_shelf t ≡ compared_shelf u)
  direct_last_taken_back =
      rows_last_taken_back (λ d. d) base own opens proper (make_direct base) (back_direct base) (same_make base (length own.window) (length own.journal) opens.room)
      (same_back base (length own.window) (length own.journal) opens.room)

  -- it is refused with 12, and all is as it was, exactly if none stands
  pub direct_refused_12 : (row : List (Entry RowCall)) → let s = direct_row base (itself own) row in (back_direct base s.here ≡ unmade 12 s.here) ↔ (s.standing ≡ [])
  direct_refused_12 =
      rows_refused_12 (λ d. d) base own opens proper (make_direct base) (back_direct base) (same_make base (length own.window) (length own.journal) opens.room)
      (same_back base (length own.window) (length own.journal) opens.room)
