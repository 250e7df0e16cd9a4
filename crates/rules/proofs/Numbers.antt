-- The field of a number, range by range, and what a device holds under a number. Assumes nothing.
use mathlib.Core.Bool.{Bool, true, false, cond}
use mathlib.Core.List.{List, [], ◌∷◌}
use mathlib.Core.Option.{Option, none, some}
use mathlib.Core.Path.{◌≡◌, refl, sym, ap, ◌∙◌, subst}
use Prim.Native.Nat.{ℕ, zero, suc, ◌+◌, ◌-◌, ◌/◌, ◌%◌, ◌≤◌, ◌<◌}
use native.Mathlib.Nat.{add-zero, add-suc, suc-add, zero-add, not-suc-le-zero, le_of_suc-le-suc}
use native.Mathlib.Omega.{arith}
use borrow.Author.Tests.{lt-ltb, le-ltb, ltb-true, ltb-false}
use lib.Dec.{ltb}
use lib.ListN.{get_or, length, get_or-eq_default}
use Rattle.rules.specs.State.{Device}
use Rattle.rules.specs.Act.{Field, SCALAR, BUSY, MAJORS, PENDING, SOURCE, TAKEN, PRIORITY}
use Rattle.rules.specs.Scalars.{scalar_bits}
use Rattle.rules.specs.Fields.{joined, fields_of, field_at, of_controller, holds}
use Rattle.rules.proofs.PartLaws.{Within}
use Rattle.rules.proofs.FieldLaws.{Sound, within, bit_parts, field_bits, Named, Agrees, AllNamed, all_named, holds-number}

-- ---- range by range

module _ (chip : Bool) (n : ℕ) where
  pub at_scalar : n < length scalar_bits → field_at chip n ≡ some (SCALAR n)
  unfolding field_at
  at_scalar h = rw (lt-ltb n (length scalar_bits) h)

  pub at_gap : length scalar_bits ≤ n → n < 16 → field_at chip n ≡ none
  unfolding field_at
  at_gap h k = rw (le-ltb n (length scalar_bits) h, lt-ltb n 16 k)

  pub at_own : 16 ≤ n → n < 28 → field_at chip n ≡ some (of_controller ((n - 16) % 4) ((n - 16) / 4))
  unfolding field_at
  at_own h k = rw (le-ltb n (length scalar_bits) (omega arith), le-ltb n 16 h, lt-ltb n 28 k)

  pub at_gap_2 : 28 ≤ n → n < 64 → field_at chip n ≡ none
  unfolding field_at
  at_gap_2 h k = rw (le-ltb n (length scalar_bits) (omega arith), le-ltb n 16 (omega arith), le-ltb n 28 h, lt-ltb n 64 k)

  -- from 64 on: past the first four tests
  past_64 : 64 ≤ n → (ltb n (length scalar_bits) ≡ false) × (ltb n 16 ≡ false) × (ltb n 28 ≡ false) × (ltb n 64 ≡ false)
  past_64 h = (le-ltb n (length scalar_bits) (omega arith), le-ltb n 16 (omega arith), le-ltb n 28 (omega arith), le-ltb n 64 h)

  pub at_busy : 64 ≤ n → n < 128 → field_at chip n ≡ some (BUSY (n - 64))
  unfolding field_at
  at_busy h k = let p = past_64 h in rw (p.0, p.1, p.2, p.3, lt-ltb n 128 k)

  pub at_majors : 128 ≤ n → n < 192 → field_at chip n ≡ some (MAJORS (n - 128))
  unfolding field_at
  at_majors h k = let p = past_64 (omega arith) in rw (p.0, p.1, p.2, p.3, le-ltb n 128 h, lt-ltb n 192 k)

  pub at_pending : 192 ≤ n → n < 256 → field_at chip n ≡ some (PENDING (n - 192))
  unfolding field_at
  at_pending h k = let p = past_64 (omega arith) in rw (p.0, p.1, p.2, p.3, le-ltb n 128 (omega arith), le-ltb n 192 h, lt-ltb n 256 k)

  -- from 256 on: past three more
  past_256 : 256 ≤ n → (ltb n 128 ≡ false) × (ltb n 192 ≡ false) × (ltb n 256 ≡ false)
  past_256 h = (le-ltb n 128 (omega arith), le-ltb n 192 (omega arith), le-ltb n 256 h)

  pub at_source : 256 ≤ n → n < 448 → field_at chip n ≡ some (SOURCE ((n - 256) / 64) ((n - 256) % 64))
  unfolding field_at
  at_source h k =
      let p = past_64 (omega arith) in
      let q = past_256 h in
      rw (p.0, p.1, p.2, p.3, q.0, q.1, q.2, lt-ltb n 448 k)

  pub at_gap_3 : 448 ≤ n → n < 576 → field_at chip n ≡ none
  unfolding field_at
  at_gap_3 h k =
      let p = past_64 (omega arith) in
      let q = past_256 (omega arith) in
      rw (p.0, p.1, p.2, p.3, q.0, q.1, q.2, le-ltb n 448 h, lt-ltb n 576 k)

  pub at_taken : 576 ≤ n → n < 768 → field_at chip n ≡ some (TAKEN (n - 576))
  unfolding field_at
  at_taken h k =
      let p = past_64 (omega arith) in
      let q = past_256 (omega arith) in
      rw (p.0, p.1, p.2, p.3, q.0, q.1, q.2, le-ltb n 448 (omega arith), le-ltb n 576 h, lt-ltb n 768 k)

  -- from 768 on: past three more
  past_768 : 768 ≤ n → (ltb n 448 ≡ false) × (ltb n 576 ≡ false) × (ltb n 768 ≡ false)
  past_768 h = (le-ltb n 448 (omega arith), le-ltb n 576 (omega arith), le-ltb n 768 h)

  -- the chip's own
  pub at_priority : 768 ≤ n → n < 832 → field_at chip n ≡ cond chip (some (PRIORITY (n - 768))) none
  unfolding field_at
  at_priority h k =
      let p = past_64 (omega arith) in
      let q = past_256 (omega arith) in
      let r = past_768 h in
      rw (p.0, p.1, p.2, p.3, q.0, q.1, q.2, r.0, r.1, r.2, lt-ltb n 832 k)

  pub at_none : 832 ≤ n → field_at chip n ≡ none
  unfolding field_at
  at_none h =
      let p = past_64 (omega arith) in
      let q = past_256 (omega arith) in
      let r = past_768 (omega arith) in
      rw (p.0, p.1, p.2, p.3, q.0, q.1, q.2, r.0, r.1, r.2, le-ltb n 832 h)

-- ---- what stands at each number

named_at : (chip : Bool) (k : ℕ) (bs : List ℕ) → AllNamed chip k bs → (n : ℕ) → n < length bs → Agrees chip (k + n) (get_or bs n 0) (field_at chip (k + n))
named_at chip k [] a n h = absurd (not-suc-le-zero h)
named_at chip k (b ∷ bs) a zero h = rw add-zero a.0
named_at chip k (b ∷ bs) a (suc n) h = rw (add-suc, ← suc-add) (named_at chip (suc k) bs a.1 n (le_of_suc-le-suc h))

pub agrees_at : (chip : Bool) (n : ℕ) → n < 832 → Agrees chip n (get_or (field_bits chip) n 0) (field_at chip n)
agrees_at chip n h = rw zero-add at (named_at chip 0 (field_bits chip) (all_named chip) n (unfold field_bits bit_parts joined in h))

none_some : {f : Field} → ◌≡◌ {A = Option Field} none (some f) → ⊥
none_some e = let z : ◌≡◌ {A = ℕ} 0 1 = cc in omega arith

module _ (chip : Bool) (n : ℕ) where
  -- a number that leads to a field is the field's
  pub field_named : (f : Field) → field_at chip n ≡ some f → Named chip n (get_or (field_bits chip) n 0) f
  field_named f e = by (ltb n 832) refl
    where
      by : (t : Bool) → ltb n 832 ≡ t → Named chip n (get_or (field_bits chip) n 0) f
      by true q = subst (Agrees chip n (get_or (field_bits chip) n 0)) e (agrees_at chip n (ltb-true n 832 q))
      by false q = absurd (none_some (sym (at_none chip n (ltb-false n 832 q)) ∙ e))

  -- where there is no field there are no bits
  no_bits : field_at chip n ≡ none → get_or (field_bits chip) n 0 ≡ 0
  no_bits e = by (ltb n 832) refl
    where
      by : (t : Bool) → ltb n 832 ≡ t → get_or (field_bits chip) n 0 ≡ 0
      by true q = subst (Agrees chip n (get_or (field_bits chip) n 0)) e (agrees_at chip n (ltb-true n 832 q))
      by false q = get_or-eq_default (field_bits chip) 0 (unfold field_bits bit_parts joined in ltb-false n 832 q)

-- ---- what a device holds there

in_no_bits : (bs xs : List ℕ) (n : ℕ) → Within bs xs → get_or bs n 0 ≡ 0 → get_or xs n 0 ≡ 0
in_no_bits [] [] n w e = e
in_no_bits [] (x ∷ xs) n w e = absurd w
in_no_bits (b ∷ bs) [] n w e = absurd w
in_no_bits (b ∷ bs) (x ∷ xs) zero w e = let h = w.0 in omega (arith, rw e at h)
in_no_bits (b ∷ bs) (x ∷ xs) (suc n) w e = in_no_bits bs xs n w.1 e

module _ (d : Device) (s : Sound d) (n : ℕ) where
  pub number-holds : (f : Field) → field_at d.chip n ≡ some f → get_or (fields_of d) n 0 ≡ holds f d
  number-holds f e =
      let p = field_named d.chip n f e in
      ap (λ (k : ℕ). get_or (fields_of d) k 0) (sym p.number) ∙ holds-number f d s p.real

  pub number-empty : field_at d.chip n ≡ none → get_or (fields_of d) n 0 ≡ 0
  number-empty e = in_no_bits (field_bits d.chip) (fields_of d) n (within d s) (no_bits d.chip n e)
