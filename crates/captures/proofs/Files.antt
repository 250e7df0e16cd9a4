-- A capture as a file: the first malformed or cut record is told, and otherwise the verdict is that of the list. Assumes nothing.
use mathlib.Core.Bool.{Bool, true, false, cond, not, ◌||◌}
use mathlib.Core.List.{List, ◌∷◌}
use mathlib.Core.Path.{◌≡◌, refl, sym, ap, ◌∙◌}
use Prim.Native.Nat.{ℕ, zero, suc, ◌+◌, ◌^◌, ◌<◌}
use native.Mathlib.Nat.{add-suc, suc-add, add-zero}
use native.Mathlib.Omega.{arith}
use borrow.Author.Tests.{ltb-true}
use lib.Dec.{eqb, ltb}
use Rattle.std.proofs.Common.{Option, None, Some, Ok}
use Rattle.rules.specs.Minor.{pass}
use Rattle.captures.specs.declared.Flaw.{Flaw}
use Rattle.captures.specs.declared.Due.{Due}
use Rattle.captures.specs.Capture.{allowed, departs, Captured, malformed, Access, reads, writes, accesses, judged, board, mark_of, kind_in, width_of, address_of, value_of, flaw_of, access_of, records, is_cut, record_at, accesses_of, unless_flawed, captured}
use Rattle.captures.proofs.Judges.{values, Fit, complete, sound}
use Rattle.captures.proofs.Departs.{Departing, departing}

-- ---- a record that is not malformed has a value that fits its width

unflawed : (a b c d : Bool) → ◌≡◌ {A = Option Flaw} (cond (not a) (Some Flaw.Mark) (cond (not b) (Some Flaw.Kind) (cond (not c) (Some Flaw.Width) (cond (not d) (Some Flaw.Value) None)))) None → d ≡ true
unflawed true true true true e = refl
unflawed true true true false e = let z : ◌≡◌ {A = ℕ} 0 1 = cc in absurd (omega arith)
unflawed true true false d e = let z : ◌≡◌ {A = ℕ} 0 1 = cc in absurd (omega arith)
unflawed true false c d e = let z : ◌≡◌ {A = ℕ} 0 1 = cc in absurd (omega arith)
unflawed false b c d e = let z : ◌≡◌ {A = ℕ} 0 1 = cc in absurd (omega arith)

pub value_fits_width : (r : List ℕ) → flaw_of r ≡ None → value_of r < 256 ^ width_of r
unfolding flaw_of
value_fits_width r e =
    ltb-true (value_of r) (256 ^ width_of r)
    (unflawed (eqb (mark_of r) 0x4A52) (eqb (kind_in r) 4 || eqb (kind_in r) 5) (eqb (width_of r) 1 || eqb (width_of r) 2 || eqb (width_of r) 4) (ltb (value_of r) (256 ^ width_of r)) e)

module _ (file : List ℕ) where
  -- none of n records from number i on is malformed
  abbrev pub Clean : ℕ → ℕ → Type 0
  Clean n i = (k : ℕ) → k < n → flaw_of (record_at file (i + k)) ≡ None

  later : (n i : ℕ) → Clean (suc n) i → Clean n (suc i)
  later n i h k l = ap (λ (j : ℕ). flaw_of (record_at file j)) (suc-add i k ∙ sym (add-suc i k)) ∙ h (suc k) (omega arith)

  now_clean : (n i : ℕ) → Clean (suc n) i → flaw_of (record_at file i) ≡ None
  now_clean n i h = ap (λ (j : ℕ). flaw_of (record_at file j)) (sym (add-zero i)) ∙ h 0 (omega arith)

  -- so every value fits its width
  pub clean_fit : (n i : ℕ) → Clean n i → Fit (accesses_of file n i)
  unfolding accesses_of access_of
  clean_fit zero i h = tt
  clean_fit (suc n) i h = by (eqb (kind_in (record_at file i)) 4) (clean_fit n (suc i) (later n i h))
    where
      fits : value_of (record_at file i) < 256 ^ width_of (record_at file i)
      fits = value_fits_width (record_at file i) (now_clean n i h)

      r : List ℕ
      r = record_at file i

      by : (b : Bool) → Fit (accesses_of file n (suc i)) → Fit (cond b (reads (address_of r) (width_of r) (value_of r)) (writes (address_of r) (width_of r) (value_of r)) ∷ accesses_of file n (suc i))
      by true after = (fits, after)
      by false after = (fits, after)

  -- ---- what is told

  pub none_flawed : (n i : ℕ) (after : Captured) → Clean n i → unless_flawed file n i after ≡ after
  unfolding unless_flawed
  none_flawed zero i after h = refl
  none_flawed (suc n) i after h = ap (λ (o : Option Flaw). elim o [ Some f ↦ malformed i f | None ↦ unless_flawed file n (suc i) after ]) (now_clean n i h) ∙ none_flawed n (suc i) after (later n i h)

  -- record k after number i is malformed, and none before it
  pub first_flawed : (n i k : ℕ) (f : Flaw) (after : Captured) → k < n → Clean k i → flaw_of (record_at file (i + k)) ≡ Some f → unless_flawed file n i after ≡ malformed (i + k) f
  unfolding unless_flawed
  first_flawed zero i k f after l h e = absurd (omega arith)
  first_flawed (suc n) i zero f after l h e =
      let here : flaw_of (record_at file i) ≡ Some f = ap (λ (j : ℕ). flaw_of (record_at file j)) (sym (add-zero i)) ∙ e in
      ap (λ (o : Option Flaw). elim o [ Some g ↦ malformed i g | None ↦ unless_flawed file n (suc i) after ]) here ∙ ap (λ (j : ℕ). malformed j f) (sym (add-zero i))
  first_flawed (suc n) i (suc k) f after l h e =
      let next : suc i + k ≡ i + suc k = suc-add i k ∙ sym (add-suc i k) in
      ap (λ (o : Option Flaw). elim o [ Some g ↦ malformed i g | None ↦ unless_flawed file n (suc i) after ]) (now_clean k i h)
      ∙ first_flawed n (suc i) k f after (omega arith) (later k i h) (ap (λ (j : ℕ). flaw_of (record_at file j)) next ∙ e)
      ∙ ap (λ (j : ℕ). malformed j f) next

  module _ (descriptor : List ℕ) (cr : ℕ) where
    -- 22 at the first malformed record
    pub refused_at : (k : ℕ) (f : Flaw) → k < records file → Clean k 0 → flaw_of (record_at file k) ≡ Some f → captured file descriptor cr ≡ malformed k f
    unfolding captured
    refused_at k f l h e =
        let from_zero : 0 + k ≡ k = omega arith in
        first_flawed (records file) 0 k f _ l h (ap (λ (j : ℕ). flaw_of (record_at file j)) from_zero ∙ e) ∙ ap (λ (j : ℕ). malformed j f) from_zero

    module _ (clean : Clean (records file) 0) where
      -- 22 at the record that is cut, where none before it is malformed
      pub refused_cut : is_cut file ≡ true → captured file descriptor cr ≡ malformed (records file) Flaw.Cut
      unfolding captured
      refused_cut e = none_flawed (records file) 0 _ clean ∙ ap (λ (c : Bool). cond c (malformed (records file) Flaw.Cut) (Ok (judged descriptor cr (accesses_of file (records file) 0)))) e

      -- else the verdict
      pub found : is_cut file ≡ false → captured file descriptor cr ≡ Ok (judged descriptor cr (accesses_of file (records file) 0))
      unfolding captured
      found e = none_flawed (records file) 0 _ clean ∙ ap (λ (c : Bool). cond c (malformed (records file) Flaw.Cut) (Ok (judged descriptor cr (accesses_of file (records file) 0)))) e

      -- which accepts each list that the rules give
      pub accepts : (vs : List ℕ) → is_cut file ≡ false → accesses_of file (records file) 0 ≡ accesses (pass 0) (board descriptor cr) vs
          → captured file descriptor cr ≡ Ok allowed
      unfolding judged
      accepts vs e same-list = found e ∙ ap (λ (l : List Access). Ok (judged descriptor cr l)) same-list ∙ ap Ok (complete (pass 0) (board descriptor cr) vs 0)

      -- and no other
      pub and_no_other : is_cut file ≡ false → captured file descriptor cr ≡ Ok allowed
          → accesses (pass 0) (board descriptor cr) (values (accesses_of file (records file) 0)) ≡ accesses_of file (records file) 0
      unfolding judged
      and_no_other e h =
          let told : Ok (judged descriptor cr (accesses_of file (records file) 0)) ≡ Ok allowed = sym (found e) ∙ h in
          let allowed : judged descriptor cr (accesses_of file (records file) 0) ≡ allowed = cc in
          sound (pass 0) (board descriptor cr) (accesses_of file (records file) 0) 0 (clean_fit (records file) 0 clean) allowed

      -- and tells the first access that departs
      pub first_departing : (p : ℕ) (due : Option Due) → is_cut file ≡ false → captured file descriptor cr ≡ Ok (departs p due)
          → Departing (pass 0) (board descriptor cr) (accesses_of file (records file) 0) 0 p due
      unfolding judged
      first_departing p due e h =
          let told : Ok (judged descriptor cr (accesses_of file (records file) 0)) ≡ Ok (departs p due) = sym (found e) ∙ h in
          let departs-so : judged descriptor cr (accesses_of file (records file) 0) ≡ departs p due = cc in
          departing (pass 0) (board descriptor cr) (accesses_of file (records file) 0) 0 p due (clean_fit (records file) 0 clean) departs-so
