-- The pending call of document 02's [1]: refused with 14 exactly if the sum passes 2^32 - 1, once 6 and 8 let it pass, and then all is as it was; and
-- accepted, it adds to the count of its channel and changes no other. Assumes nothing.
use Rattle.std.specs.Prelude.{None}
use mathlib.Core.Bool.{Bool, true, false}
use mathlib.Core.List.{List}
use mathlib.Core.Logic.{◌↔◌}
use mathlib.Core.Path.{◌≡◌, refl, sym, ap, ◌∙◌, subst}
use Prim.Native.Nat.{ℕ, zero, suc, ◌+◌, ◌-◌, ◌^◌, ◌<◌, ◌≤◌}
use native.Mathlib.Nat.{mod-eq_of_lt}
use native.Mathlib.Omega.{arith}
use borrow.Author.Tests.{lt-ltb, ltb-true, ltb-false}
use lib.Dec.{leb, ltb}
use lib.ListN.{length, set}
use Rattle.rules.specs.Act.{Field, SCALAR, MASKS, FORCED, LINES, CONFIG, BUSY, MAJORS, PENDING, SOURCE, TAKEN, PRIORITY, acts, nothing}
use Rattle.rules.specs.Calls.{pending, add_pending, levelled, act_of, bad_journal, bad_sum, check, wrong, first, barred, stops, told, number_told, device_told, staging_after, world_of, told_after, after}
use Rattle.rules.specs.Carry.{World, Out, ok, no, After, made, unmade, with_device, last_lines, written, cleared, leave, perform, go, Lent, lending}
use Rattle.rules.specs.Fields.{bits_of, holds}
use Rattle.rules.specs.State.{Device}
use Rattle.rules.specs.Verdicts.{Heard}
use Rattle.rules.proofs.CallLaws.{barred_next, not_stopped, either_way, act_stopped}
use Rattle.rules.proofs.Each.{Rights, at_done, Properly, each_keeps, proper_field}
use Rattle.rules.proofs.Proper.{Proper}
use Rattle.rules.proofs.Keeps.{AtEnd}
use Rattle.rules.proofs.Lasts.{act_number}
use Rattle.rules.proofs.Pieces.{levelled_each}
use Rattle.rules.proofs.Steps.{putting, cutting}

-- ---- lines and level touch no count

abbrev OfLines : Field → Type 0
OfLines (SCALAR i) = Unit {0}
OfLines (MASKS c) = ⊥
OfLines (FORCED c) = ⊥
OfLines (LINES c) = Unit {0}
OfLines (CONFIG c) = ⊥
OfLines (BUSY ch) = ⊥
OfLines (MAJORS ch) = ⊥
OfLines (PENDING ch) = ⊥
OfLines (SOURCE c s) = ⊥
OfLines (TAKEN i) = ⊥
OfLines (PRIORITY ch) = ⊥

abbrev levelling : Rights
levelling = record { may_stage = λ n. ⊥; may_fetch = λ sp a n. ⊥; may_store = λ sp a n. ⊥; may_put = OfLines }

module _ (counts : List ℕ) where
  abbrev Counts : World → Type 0
  Counts u = u.now.dev.pending ≡ counts

  on-put : (f : Field) (v : ℕ) (u : World) → Proper u.now.dev → OfLines f → Counts u → Counts (cutting f v u)
  unfolding with_device
  on-put (SCALAR i) v u q h p = p
  on-put (MASKS c) v u q h p = absurd h
  on-put (FORCED c) v u q h p = absurd h
  on-put (LINES c) v u q h p = p
  on-put (CONFIG c) v u q h p = absurd h
  on-put (BUSY ch) v u q h p = absurd h
  on-put (MAJORS ch) v u q h p = absurd h
  on-put (PENDING ch) v u q h p = absurd h
  on-put (SOURCE c s) v u q h p = absurd h
  on-put (TAKEN i) v u q h p = absurd h
  on-put (PRIORITY ch) v u q h p = absurd h

  levelled-counts : (base : ℕ) (lent : Lent) (u : World) → Properly Counts u → AtEnd (Properly Counts) (go base lent (levelled nothing) u)
  levelled-counts base lent =
      each_keeps base lent levelling Counts (λ sp a n v u q h. absurd h) on-put (levelled_each (λ c. tt) tt nothing at_done)

  -- where an act ends so and is made
  ended-counts : (u : World) (o : Out Heard) (staging : List ℕ) (used : ℕ) → AtEnd (Properly Counts) o
      → ((n : ℕ) (v : World) → leave u o ≡ unmade n v → 9 ≤ n) → number_told (told_after staging used (leave u o)) ≡ 0
      → (device_told (told_after staging used (leave u o))).pending ≡ counts
  unfolding leave told_after written
  ended-counts u (no n v) staging used q h = λ e. absurd (omega (arith, h n (cleared u) refl))
  ended-counts u (ok a v) staging used q h =
      elim (leb (length (last_lines u v)) (length v.free))
      as (λ b. number_told (told_after staging used (elim b [ true ↦ made a (written (last_lines u v) v) | false ↦ unmade 11 (cleared u) ])) ≡ 0
      → (device_told (told_after staging used (elim b [ true ↦ made a (written (last_lines u v) v) | false ↦ unmade 11 (cleared u) ]))).pending ≡ counts) [
        | true ↦ (λ e. q.1)
        | false ↦ (λ e. absurd (omega arith))
      ]

-- ---- the call

module _ (base : ℕ) (d : Device) (window staging journal : List ℕ) (used ch count : ℕ) where
  -- of the count that stands and the one to be added
  abbrev pub sum : ℕ
  sum = holds (PENDING ch) d + count

  u : World
  u = world_of d window journal used

  lent : Lent
  lent = lending (length staging)

  -- what bars the call, whether the sum passes or not
  by_sum : (b : Bool) → ltb (2 ^ 32 - 1) sum ≡ b → barred (pending ch count) d ≡ check b 14 0
  unfolding barred bad_sum
  by_sum b e = ap (λ x. check x 14 0) e

  passes : (b : Bool) → ltb (2 ^ 32 - 1) sum ≡ b → check b 14 0 ≡ 14 → 2 ^ 32 - 1 < sum
  unfolding check
  passes true e f = ltb-true (2 ^ 32 - 1) sum e
  passes false e f = absurd (omega arith)

  fits : (b : Bool) → ltb (2 ^ 32 - 1) sum ≡ b → check b 14 0 ≡ 0 → sum < 2 ^ 32
  unfolding check
  fits true e f = absurd (omega arith)
  fits false e f = omega (arith, ltb-false (2 ^ 32 - 1) sum e)

  -- 14: all is as it was, staging and the journal's unused room too
  pub sum_refused : wrong base (length window) (length journal) used (pending ch count) ≡ 0 → 2 ^ 32 - 1 < sum
      → after (pending ch count) base d window staging journal used ≡ told 14 None d window staging journal used
  unfolding check
  sum_refused right l =
      act_stopped base d window journal used 13 (pending ch count) staging
      (barred_next base (length window) (length journal) used (pending ch count) d right ∙ by_sum true (lt-ltb (2 ^ 32 - 1) sum l))

  -- neither 6 nor 8 is 14, nor is what an act is refused with
  not_otherwise : (a b : Bool) → check a 6 (check b 8 0) ≡ 14 → ⊥
  unfolding check
  not_otherwise true b e = omega arith
  not_otherwise false true e = omega arith
  not_otherwise false false e = omega arith

  stopped_14 : (m : ℕ) → wrong base (length window) (length journal) used (pending ch count) ≡ m → first m (barred (pending ch count) d) ≡ 14 → (m ≡ 0) × (2 ^ 32 - 1 < sum)
  unfolding wrong first
  stopped_14 zero e f = let b = ltb (2 ^ 32 - 1) sum in (refl, passes b refl (sym (by_sum b refl) ∙ f))
  stopped_14 (suc m) e f = absurd (not_otherwise (bad_journal (length journal) used) (ltb 63 ch) (e ∙ f))

  only_14 : number_told (after (pending ch count) base d window staging journal used) ≡ 14 → stops base (length window) (length journal) used (pending ch count) d ≡ 14
  unfolding after told_after u lent
  only_14 =
      either_way (λ t. number_told t ≡ 14 → stops base (length window) (length journal) used (pending ch count) d ≡ 14) d window staging journal used
      (stops base (length window) (length journal) used (pending ch count) d) (λ k e f. e ∙ f) (λ e. by_end (perform base lent (act_of (pending ch count)) u) refl)
    where
      by_end : (o : After Heard World) → perform base lent (act_of (pending ch count)) u ≡ o → number_told (told_after (staging_after (pending ch count) staging) used o) ≡ 14
          → stops base (length window) (length journal) used (pending ch count) d ≡ 14
      by_end (made a v) e f = absurd (omega arith)
      by_end (unmade n v) e f = absurd (omega (arith, (act_number base lent (act_of (pending ch count)) u n v e).1))

  -- exactly then
  pub fourteen : (number_told (after (pending ch count) base d window staging journal used) ≡ 14)
      ↔ ((wrong base (length window) (length journal) used (pending ch count) ≡ 0) × (2 ^ 32 - 1 < sum))
  unfolding stops
  fourteen = (
    λ e. stopped_14 (wrong base (length window) (length journal) used (pending ch count)) refl (only_14 e),
    λ h. ap number_told (sum_refused h.0 h.1),
  )

  -- the act, once the count is added
  added : sum < 2 ^ 32 → go base lent (act_of (pending ch count)) u ≡ go base lent (levelled nothing) (putting (PENDING ch) sum u)
  unfolding act_of add_pending levelled acts go bits_of u
  added l = ap (λ v. go base lent (levelled nothing) (putting (PENDING ch) v u)) (mod-eq_of_lt l)

  -- accepted: the counts are those that stood, but for the channel's, which is the sum
  pub count_added : Proper d → number_told (after (pending ch count) base d window staging journal used) ≡ 0
      → (device_told (after (pending ch count) base d window staging journal used)).pending ≡ set d.pending ch sum
  unfolding after perform with_device bits_of u lent
  count_added p =
      either_way (λ t. number_told t ≡ 0 → (device_told t).pending ≡ set d.pending ch sum) d window staging journal used
      (stops base (length window) (length journal) used (pending ch count) d) (λ k _ f. absurd (omega arith))
      (λ e. ended-counts (set d.pending ch sum) u (go base lent (act_of (pending ch count)) u) _ used (ends (uncut e))
      (λ n v g. (act_number base lent (act_of (pending ch count)) u n v g).0))
    where
      uncut : stops base (length window) (length journal) used (pending ch count) d ≡ 0 → sum < 2 ^ 32
      uncut e = let b = ltb (2 ^ 32 - 1) sum in fits b refl (sym (by_sum b refl) ∙ (not_stopped base (length window) (length journal) used (pending ch count) d e).1)

      ends : sum < 2 ^ 32 → AtEnd (Properly (Counts (set d.pending ch sum))) (go base lent (act_of (pending ch count)) u)
      ends l =
          subst (λ o. AtEnd (Properly (Counts (set d.pending ch sum))) o) (sym (added l))
          (levelled-counts (set d.pending ch sum) base lent (putting (PENDING ch) sum u) (proper_field (PENDING ch) sum d l p, refl))
