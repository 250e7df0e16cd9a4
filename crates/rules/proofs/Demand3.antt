-- Demand 3 for the calls of document 01 as their contracts state them: from an empty journal, after any row of calls and take-backs, window,
-- device and used journal are what the calls still standing, made alone in order, give; and what a take-back does there. Assumes nothing.
use Rattle.std.specs.Prelude.{None}
use mathlib.Core.Bool.{true, false}
use mathlib.Core.List.{List, [], ◌∷◌}
use mathlib.Core.Logic.{◌↔◌}
use mathlib.Core.Path.{◌≡◌, refl, sym, ap, ap₂, ◌∙◌, subst⁻¹}
use Prim.Native.Nat.{ℕ, suc, ◌≤◌, ◌<◌, ◌^◌}
use native.Mathlib.Omega.{arith}
use lib.ListN.{length, take}
use Rattle.rules.specs.Bytes.{Bytes}
use Rattle.rules.specs.Carry.{World, After, made, unmade}
use Rattle.rules.specs.TakeBack.{take_back}
use Rattle.rules.specs.Calls.{bad_window, wrong_back}
use Rattle.rules.specs.View.{view}
use Rattle.rules.specs.declared.Device.{Device as HeldDevice}
use Rattle.rules.specs.Verdicts.{Heard}
use Rattle.rules.proofs.FieldLaws.{Sound}
use Rattle.rules.proofs.Keeps.{Good}
use Rattle.rules.proofs.Typed.{Typed, table-size, sound}
use Rattle.rules.proofs.Took.{total}
use Rattle.rules.proofs.History.{Entry, Walk, walk}
use Rattle.rules.proofs.Standing.{refuses_with, never_back, standing-alone, undoes_last, refused_12}
use Rattle.rules.proofs.Lasts.{back_lasts, back_refused}
use Rattle.rules.proofs.CallLaws.{window_fits, back_right, window_refused, journal_refused}
use Rattle.rules.proofs.Through.{carried}
use Rattle.rules.proofs.Bench.{Held, compared, RowCall, back_held, walked, MadeAlone}
use Rattle.rules.proofs.BenchWorlds.{world_in, held_of, shown, compared_held, call_of, make_world, back_through, wrong_through, AsLong, first_as_long, alone_is, row_as_long, row_is}

-- where a row begins: nothing is used of a journal of at most 2^28 bytes, the window is of bytes and one that refusal 5 lets pass, and the
-- device is sound
pub record Start (base : ℕ) (h : Held) : Type 0 where
  pub empty : h.used ≡ 0
  pub room : length h.journal ≤ 2 ^ 28
  pub window_passes : bad_window base (length h.window) ≡ false
  pub window_bytes : Bytes h.window
  pub device_sound : Sound h.device
  pub table_fits : length h.device.table ≤ 2 ^ 32

-- every value of the declared type will do
pub typed_start : (base : ℕ) (d : HeldDevice) (window journal : List ℕ) → Typed d → length journal ≤ 2 ^ 28 → bad_window base (length window) ≡ false → Bytes window
    → Start base (record { device = view d; window = window; journal = journal; used = 0 })
typed_start base d window journal typed room passes bytes = record {
  empty = refl;
  room = room;
  window_passes = passes;
  window_bytes = bytes;
  device_sound = sound d typed;
  table_fits = omega (arith, table-size d typed);
}

module _ (base : ℕ) (start : Held) (begins : Start base start) where
  -- ---- the bench's rows are rows of worlds, and what `Standing` asks of their start holds

  back_is : (u : World) → AsLong start u → back_held base (held_of u) ≡ carried (λ _. None) held_of (take_back base u)
  back_is u l =
      back_through base u
      (back_right base (length u.now.mem) (total u) (length u.used) (ap (bad_window base) l.window_is ∙ begins.window_passes)
      (omega (arith, l.journal_is, begins.room)) l.whole (omega arith))

  abbrev worlds : List (Entry RowCall) → Walk RowCall Heard World
  worlds row = walk (make_world base) (take_back base) (world_in start) row

  -- a fact of where a row leads, shown in the world
  seen_there : (P : Walk RowCall Heard Held → Type 0) (row : List (Entry RowCall)) → P (record { here = held_of (worlds row).here; standing = (worlds row).standing }) → P (walked base start row)
  seen_there P row = subst⁻¹ P (row_is base start begins.empty (take_back base) (back_lasts base) back_is row)

  back_there : (row : List (Entry RowCall)) → back_held base (held_of (worlds row).here) ≡ carried (λ _. None) held_of (take_back base (worlds row).here)
  back_there row = back_is (worlds row).here (row_as_long base start begins.empty (take_back base) (back_lasts base) back_is row)

  refused_there : (row : List (Entry RowCall)) (n : ℕ) (h : Held) → back_held base (held_of (worlds row).here) ≡ unmade n h
      → take_back base (worlds row).here ≡ unmade n (worlds row).here
  refused_there row n h e = by_end (take_back base u) refl (sym (back_there row) ∙ e)
    where
      u : World
      u = (worlds row).here

      by_end : (o : After (Unit {0}) World) → take_back base u ≡ o → carried {B = Heard} (λ (_ : Unit {0}). None) held_of o ≡ unmade n h → take_back base u ≡ unmade n u
      by_end (made a v) f g = let z : ◌≡◌ {A = ℕ} 0 1 = cc in absurd (omega arith)
      by_end (unmade k v) f g = let p : k ≡ n = cc in f ∙ ap₂ (λ i w. unmade i w) p (back_refused base u k v f).0

  good : Good base (world_in start).now
  good = record {
    sound_dev = begins.device_sound;
    mem_bytes = begins.window_bytes;
    mem_below = window_fits base (length start.window) begins.window_passes;
    table_below = begins.table_fits;
  }

  none_used : (world_in start).used ≡ []
  none_used = ap (λ n. take n start.journal) begins.empty

  few : total (world_in start) ≤ 2 ^ 28
  few = omega (arith, (first_as_long base start begins.empty).journal_is, begins.room)

  -- ---- demand 3

  -- the calls still standing, made alone in order, are all accepted, answer what they answered in the row, and give window, device and used
  -- journal as they are
  pub same_as_alone : (row : List (Entry RowCall)) → let s = walked base start row in (h : Held) × MadeAlone base start s.standing h × (compared s.here ≡ compared h)
  same_as_alone row =
      seen_there (λ s. (h : Held) × MadeAlone base start s.standing h × (compared s.here ≡ compared h)) row
      (let r = standing-alone (call_of base) base (world_in start) good none_used few row in
      (held_of r.0, alone_is base start begins.empty r.1, compared_held (worlds row).here ∙ ap shown r.2 ∙ sym (compared_held r.0)))

  -- where one stands, a take-back is made, and leads to what the others, made alone in order, give
  pub last_taken_back : (row : List (Entry RowCall)) (c : RowCall × Heard) (cs : List (RowCall × Heard)) → let s = walked base start row in s.standing ≡ c ∷ cs
      → (h k : Held) × (back_held base s.here ≡ made None h) × MadeAlone base start cs k × (compared h ≡ compared k)
  last_taken_back row c cs =
      seen_there (λ s. s.standing ≡ c ∷ cs → (h k : Held) × (back_held base s.here ≡ made None h) × MadeAlone base start cs k × (compared h ≡ compared k)) row (λ e.
      let r = undoes_last (call_of base) base (world_in start) good none_used few row c cs e in (
        held_of r.0,
        held_of r.1,
        back_there row ∙ ap (carried (λ (_ : Unit {0}). None) held_of) r.2,
        alone_is base start begins.empty r.3,
        compared_held r.0 ∙ ap shown r.4 ∙ sym (compared_held r.1),
      ))

  -- it is refused with 12, and all is as it was, exactly if none stands
  pub refused_12_iff_none : (row : List (Entry RowCall)) → let s = walked base start row in (back_held base s.here ≡ unmade 12 s.here) ↔ (s.standing ≡ [])
  refused_12_iff_none row =
      let r = refused_12 (call_of base) base (world_in start) good none_used few row in
      seen_there (λ s. (back_held base s.here ≡ unmade 12 s.here) ↔ (s.standing ≡ [])) row (
        λ e. r.0 (refused_there row 12 (held_of (worlds row).here) e),
        λ e. back_there row ∙ ap (carried (λ (_ : Unit {0}). None) held_of) (r.1 e),
      )

  -- and there is no other refusal of it
  pub refused_only_12 : (row : List (Entry RowCall)) (n : ℕ) (h : Held) → let s = walked base start row in back_held base s.here ≡ unmade n h → (n ≡ 12) × (h ≡ s.here)
  refused_only_12 row n h =
      seen_there (λ s. back_held base s.here ≡ unmade n h → (n ≡ 12) × (h ≡ s.here)) row (λ e.
      let r = refused_there row n h e in
      let f = back_there row ∙ ap (carried (λ (_ : Unit {0}). None) held_of) r in
      (by-standing (worlds row).standing refl r, cc))
    where
      by-standing : (cs : List (RowCall × Heard)) → (worlds row).standing ≡ cs → take_back base (worlds row).here ≡ unmade n (worlds row).here → n ≡ 12
      by-standing [] p e = let f = (refused_12 (call_of base) base (world_in start) good none_used few row).1 p in cc
      by-standing (c ∷ cs) p e =
          let f = (undoes_last (call_of base) base (world_in start) good none_used few row c cs p).2 in
          let z : ◌≡◌ {A = ℕ} 0 1 = cc in absurd (omega arith)

-- ---- where every take-back is refused for its arguments

module _ (base : ℕ) (start : Held) (empty : start.used ≡ 0) (row : List (Entry RowCall)) where
  -- every take-back is refused with n, and what is there is what the standing calls, made alone in order, give
  abbrev pub NoBack : ℕ → Walk RowCall Heard Held → Type 0
  NoBack n s = ((h : Held) × MadeAlone base start s.standing h × (compared s.here ≡ compared h)) × (back_held base s.here ≡ unmade n s.here)

  never_taken_back : (n : ℕ) → ((used : ℕ) → wrong_back base (length start.window) (length start.journal) used ≡ suc n) → NoBack (suc n) (walked base start row)
  never_taken_back n always =
      let s = walk (make_world base) (refuses_with (suc n)) (world_in start) row in
      let r = never_back (call_of base) base (suc n) (world_in start) row in
      subst⁻¹ (NoBack (suc n)) (row_is base start empty (refuses_with (suc n)) (λ u l. l) refuses row) (
        (held_of r.0, alone_is base start empty r.1, compared_held s.here ∙ ap shown r.2 ∙ sym (compared_held r.0)),
        refuses s.here (row_as_long base start empty (refuses_with (suc n)) (λ u l. l) refuses row),
      )
    where
      refuses : (u : World) → AsLong start u → back_held base (held_of u) ≡ unmade (suc n) (held_of u)
      refuses u l = wrong_through base u n (ap₂ (λ w j. wrong_back base w j (length u.used)) l.window_is l.journal_is ∙ always (length u.used))

  -- a window that refusal 5 does not let pass
  pub no_back_5 : bad_window base (length start.window) ≡ true → NoBack 5 (walked base start row)
  no_back_5 bad = never_taken_back 4 (λ used. window_refused base (length start.window) (length start.journal) used bad)

  -- a journal longer than 2^28 bytes
  pub no_back_6 : bad_window base (length start.window) ≡ false → 2 ^ 28 < length start.journal → NoBack 6 (walked base start row)
  no_back_6 passes long = never_taken_back 5 (λ used. journal_refused base (length start.window) (length start.journal) used passes long)
