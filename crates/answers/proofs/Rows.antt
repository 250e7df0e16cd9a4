-- Demand 3 of rows of entries, however they hold a device (`of`), each on what the one before it left, with the used length read off its answer:
-- device, window and used journal are what the entries still standing, made alone in order, give; these are accepted and answer the same; and what a
-- take-back answers. Assumes nothing.
use Rattle.std.specs.Prelude.{None}
use mathlib.Core.Bool.{false}
use mathlib.Core.List.{List, [], ◌∷◌}
use mathlib.Core.Logic.{◌↔◌}
use mathlib.Core.Path.{◌≡◌, refl, sym, ap, ◌∙◌, subst}
use Prim.Native.Nat.{ℕ, zero, suc, ◌%◌, ◌^◌, ◌≤◌, ◌<◌}
use native.Mathlib.Omega.{arith}
use lib.ListN.{length, take}
use Rattle.rules.specs.Bytes.{Bytes}
use Rattle.rules.specs.Calls.{bad_window, Told, told, heard_told}
use Rattle.rules.specs.Carry.{After, made, unmade}
use Rattle.rules.specs.State.{Device}
use Rattle.rules.specs.Verdicts.{Heard}
use Rattle.rules.proofs.Along.{Along, make_along, back_along}
use Rattle.rules.proofs.Bench.{Held, RowCall, ended, ended_amiss, make_held, back_held, walked}
use Rattle.rules.proofs.Demand3.{Start, same_as_alone, last_taken_back, refused_12_iff_none, refused_only_12}
use Rattle.rules.proofs.Proper.{Proper}
use Rattle.rules.proofs.Hearing.{Audible}
use Rattle.rules.proofs.History.{Entry, Walk, walk, Alone}
use Rattle.rules.proofs.Lasts.{Ending}
use Rattle.rules.proofs.Through.{carried, carried_walk, walk_keeps, alone_through, walk_through}
use Rattle.answers.specs.Answers.{Left, left, left_by}
use Rattle.answers.proofs.Reading.{status_is, low_is, heard_is}
use Rattle.answers.specs.Answers.{status_in, low_in, heard_in}

-- ---- what a caller owns between entries, and how an entry ends for it

pub record Shelf (D : Type 0) : Type 0 where
  pub device : D
  pub window : List ℕ
  pub journal : List ℕ
  pub used : ℕ

-- what is compared: device, window, and of the journal its used part and the used length
abbrev pub compared_shelf : {D : Type 0} → Shelf D → Shelf D
compared_shelf s = record { device = s.device; window = s.window; journal = take s.used s.journal; used = s.used }

-- made, if its status is 0
abbrev pub ended_by : {D : Type 0} → ℕ → Heard → Shelf D → After Heard (Shelf D)
ended_by zero heard s = made heard s
ended_by (suc n) heard s = unmade (suc n) s

abbrev pub ended_entry : {D : Type 0} → Left D → After Heard (Shelf D)
ended_entry (left r device window staging journal) = ended_by (status_in r) (heard_in r) (record { device = device; window = window; journal = journal; used = low_in r })

-- the same where the entry was given, of all that the caller owns, the device only
abbrev pub ended_aside : {D : Type 0} → Shelf D → Left D → After Heard (Shelf D)
ended_aside s (left r device window staging journal) = ended_by (status_in r) (heard_in r) (record { device = device; window = s.window; journal = s.journal; used = s.used })

-- where a row begins: nothing used of a journal of at most 2^28 bytes, a window that refusal 5 lets pass
pub record Opens {D : Type 0} (base : ℕ) (s : Shelf D) : Type 0 where
  pub empty : s.used ≡ 0
  pub room : length s.journal ≤ 2 ^ 28
  pub window_passes : bad_window base (length s.window) ≡ false
  pub window_bytes : Bytes s.window

-- ---- a bench's outcome as an entry ends

abbrev pub used_told : Told → ℕ
used_told (told n heard d window staging journal used) = used

-- the used length of an outcome, where the bench goes on from it
pub used_fits : (n k : ℕ) → k ≤ 2 ^ 28 → (t : Told) → Ending (Along n k) (ended t) → used_told t < 2 ^ 32
used_fits n k h (told zero heard d w s j u) a = omega (arith, a.long.within, a.long.journal_is)
used_fits n k h (told (suc i) heard d w s j u) a = omega (arith, a.long.within, a.long.journal_is)

module _ {D : Type 0} (of : Device → D) where
  abbrev pub shelf_of : Held → Shelf D
  shelf_of h = record { device = of h.device; window = h.window; journal = h.journal; used = h.used }

  pub entry_ended : (t : Told) → Audible (heard_told t) → used_told t < 2 ^ 32 → ended_entry (left_by of t) ≡ carried (λ a. a) shelf_of (ended t)
  unfolding left_by
  entry_ended (told zero heard d w s j u) a b = λ i.
      ended_by (status_is zero heard u a i) (heard_is zero heard u a i) (record { device = of d; window = w; journal = j; used = low_is zero heard u a b i })
  entry_ended (told (suc n) heard d w s j u) a b = λ i.
      ended_by (status_is (suc n) heard u a i) (heard_is (suc n) heard u a i) (record { device = of d; window = w; journal = j; used = low_is (suc n) heard u a b i })

  pub aside_ended : (h : Held) (t : Told) → Audible (heard_told t) → ended_aside (shelf_of h) (left_by of t) ≡ carried (λ a. a) shelf_of (ended_amiss h t)
  unfolding left_by
  aside_ended h (told zero heard d w s j u) a = λ i.
      ended_by (status_is zero heard u a i) (heard_is zero heard u a i) (record { device = of d; window = h.window; journal = h.journal; used = h.used })
  aside_ended h (told (suc n) heard d w s j u) a = λ i.
      ended_by (status_is (suc n) heard u a i) (heard_is (suc n) heard u a i) (record { device = of d; window = h.window; journal = h.journal; used = h.used })

  -- ---- demand 3, of any entries that are the bench's calls as long as lengths stay and the device is proper

  module _ (base : ℕ) (own : Held) (opens : Opens base (shelf_of own)) (proper : Proper own.device) (make : RowCall → Shelf D → After Heard (Shelf D))
      (take_back : Shelf D → After Heard (Shelf D))
      (same_make : (c : RowCall) (h : Held) → Along (length own.window) (length own.journal) h → make c (shelf_of h) ≡ carried (λ a. a) shelf_of (make_held base c h))
      (same_back : (h : Held) → Along (length own.window) (length own.journal) h → take_back (shelf_of h) ≡ carried (λ a. a) shelf_of (back_held base h))
    where
      abbrev n : ℕ
      n = length own.window

      abbrev k : ℕ
      k = length own.journal

      -- where a row leads, its last entry first
      abbrev row_of : List (Entry RowCall) → Walk RowCall Heard (Shelf D)
      row_of row = walk make take_back (shelf_of own) row

      own_start : Start base own
      own_start = record {
        empty = opens.empty;
        room = opens.room;
        window_passes = opens.window_passes;
        window_bytes = opens.window_bytes;
        device_sound = proper.sound;
        table_fits = omega (arith, proper.size);
      }

      own_along : Along n k own
      own_along = record {
        long = record { window_is = refl; journal_is = refl; whole = ap (λ (u : ℕ). u % 16) opens.empty; within = omega (arith, opens.empty) };
        proper = proper;
      }

      -- rows of entries are rows of the bench's calls, and so are entries made alone
      row_is : (row : List (Entry RowCall)) → row_of row ≡ carried_walk shelf_of (walked base own row)
      row_is row =
          walk_through (make_held base) make shelf_of (Along n k) (make_along base n k) same_make (back_held base) take_back (λ (a : Heard). a) (back_along base n k) same_back own
          own_along row

      alone_is : {cs : List (RowCall × Heard)} {h : Held} → Alone (make_held base) own cs h → Alone make (shelf_of own) cs (shelf_of h)
      alone_is m = alone_through (make_held base) make shelf_of (Along n k) (make_along base n k) same_make own own_along m

      -- along a row the bench's device stays proper, so that a take-back entry is the bench's
      back_is : (row : List (Entry RowCall)) → let h = (walked base own row).here in take_back (shelf_of h) ≡ carried (λ a. a) shelf_of (back_held base h)
      back_is row =
          same_back (walked base own row).here
          (walk_keeps (make_held base) (back_held base) (Along n k) (make_along base n k) (back_along base n k) own own_along row)

      -- the entries still standing, made alone in order, are all accepted, answer what they answered in the row, and give device, window and used
      -- journal as they are
      pub rows_same_as_alone : (row : List (Entry RowCall)) → let s = row_of row in
          (t : Shelf D) × Alone make (shelf_of own) s.standing t × (compared_shelf s.here ≡ compared_shelf t)
      rows_same_as_alone row =
          let r = same_as_alone base own own_start row in
          subst (λ s. (t : Shelf D) × Alone make (shelf_of own) s.standing t × (compared_shelf s.here ≡ compared_shelf t)) (sym (row_is row))
          (shelf_of r.0, alone_is r.1, ap shelf_of r.2)

      -- where one stands, a take-back is accepted, and leads to what the others, made alone in order, give
      pub rows_last_taken_back : (row : List (Entry RowCall)) (c : RowCall × Heard) (cs : List (RowCall × Heard)) → let s = row_of row in s.standing ≡ c ∷ cs
          → (t u : Shelf D) × (take_back s.here ≡ made None t) × Alone make (shelf_of own) cs u × (compared_shelf t ≡ compared_shelf u)
      rows_last_taken_back row c cs =
          subst
          (λ s. s.standing ≡ c ∷ cs → (t u : Shelf D) × (take_back s.here ≡ made None t) × Alone make (shelf_of own) cs u × (compared_shelf t ≡ compared_shelf u))
          (sym (row_is row)) (λ e.
          let r = last_taken_back base own own_start row c cs e in
          (shelf_of r.0, shelf_of r.1, back_is row ∙ ap (carried (λ (a : Heard). a) shelf_of) r.2, alone_is r.3, ap shelf_of r.4))

      -- it is refused with 12, and all is as it was, exactly if none stands
      pub rows_refused_12 : (row : List (Entry RowCall)) → let s = row_of row in (take_back s.here ≡ unmade 12 s.here) ↔ (s.standing ≡ [])
      rows_refused_12 row =
          let r = refused_12_iff_none base own own_start row in
          subst (λ s. (take_back s.here ≡ unmade 12 s.here) ↔ (s.standing ≡ [])) (sym (row_is row)) (
            λ e. r.0 (by_end (back_held base h) refl (sym (back_is row) ∙ e)),
            λ e. back_is row ∙ ap (carried (λ (a : Heard). a) shelf_of) (r.1 e),
          )
        where
          h : Held
          h = (walked base own row).here

          by_end : (o : After Heard Held) → back_held base h ≡ o → carried (λ (a : Heard). a) shelf_of o ≡ unmade 12 (shelf_of h) → back_held base h ≡ unmade 12 h
          by_end (made a x) f g = let z : ◌≡◌ {A = ℕ} 0 1 = cc in absurd (omega arith)
          by_end (unmade i x) f g =
              let p : i ≡ 12 = cc in
              let q = refused_only_12 base own own_start row i x f in
              f ∙ λ j. unmade (p j) (q.1 j)
