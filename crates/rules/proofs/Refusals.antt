-- With which numbers each call can be refused. Calls without a window are never refused with 9 or 10: none of their steps could be.
-- Assumes nothing.
use mathlib.Core.Bool.{Bool, true, false, not, ◌||◌}
use mathlib.Core.List.{List, [], ◌∷◌}
use mathlib.Core.Path.{◌≡◌, refl, sym, ap, ◌∙◌, subst}
use Prim.Native.Nat.{ℕ, zero, suc, ◌≤◌}
use native.Mathlib.Omega.{arith}
use borrow.Author.Tests.{eqb-true, eqb-false}
use lib.Dec.{eqb, leb, ltb}
use lib.ListN.{length}
use Rattle.rules.specs.Act.{Act, Space, window, table, PENDING}
use Rattle.rules.specs.Calls.{Asked, write, inputs, pending, run, service, ack, add_pending, act_of, bad_size, is_none, bad_window, bad_journal, bad_time, bad_sum, check, wrong, first, barred, stops, wrong_back, wrong_read, number_told, staging_after, world_of, told_after, after, heard_nothing, after_back, read_unless, after_read}
use Rattle.rules.specs.Carry.{World, Out, ok, no, recorded, After, made, unmade, last_lines, written, cleared, leave, perform, go, Lent, lending}
use Rattle.rules.specs.Fields.{holds, setting_of}
use Rattle.rules.specs.Registers.{in_blocks, block_of, offset_of, write_at, read_at, past_table, past_word}
use Rattle.rules.specs.TakeBack.{take_back}
use Rattle.rules.specs.State.{Device}
use Rattle.rules.specs.Verdicts.{Heard}
use Rattle.rules.proofs.Bench.{read_number}
use Rattle.rules.proofs.CallLaws.{not_stopped, either_way}
use Rattle.rules.proofs.Each.{Rights, Each, at_done, at_endless, at_stage, at_fetch, at_store, at_ask, at_put, at_look, each_change, proper-store, proper-put, fetched_length}
use Rattle.rules.proofs.Proper.{Proper}
use Rattle.rules.proofs.FieldLaws.{holds_fits}
use Rattle.rules.proofs.Guards.{go_bare, call_bare}
use Rattle.rules.proofs.Lasts.{act_number, back_refused}
use Rattle.rules.proofs.Arms.{write_each}
use Rattle.rules.proofs.Pieces.{levelled_each, acknowledge_each, inputs_each}
use Rattle.rules.proofs.Steps.{cutting}

-- ---- the numbers, 0 for accepted

unfoldable pub numbers_of : Asked → List ℕ
numbers_of (write address size v) = 0 ∷ 1 ∷ 2 ∷ 3 ∷ 4 ∷ 6 ∷ 11 ∷ []
numbers_of (inputs standing l0 l1 l2) = 0 ∷ 6 ∷ 11 ∷ []
numbers_of (pending ch count) = 0 ∷ 6 ∷ 8 ∷ 11 ∷ 14 ∷ []
numbers_of (run now pace) = 0 ∷ 5 ∷ 6 ∷ 7 ∷ 9 ∷ 10 ∷ 11 ∷ []
numbers_of (service now pace) = 0 ∷ 5 ∷ 6 ∷ 7 ∷ 9 ∷ 10 ∷ 11 ∷ []
numbers_of (ack ipl) = 0 ∷ 6 ∷ 11 ∷ []

unfoldable pub numbers_of_back : List ℕ
numbers_of_back = 0 ∷ 5 ∷ 6 ∷ 12 ∷ 13 ∷ []

unfoldable pub numbers_of_read : List ℕ
numbers_of_read = 0 ∷ 1 ∷ 2 ∷ 3 ∷ 4 ∷ []

unfoldable pub among : ℕ → List ℕ → Bool
among n [] = false
among n (m ∷ ms) = eqb n m || among n ms

check_among : (b : Bool) (n next : ℕ) (l : List ℕ) → among n l ≡ true → among next l ≡ true → among (check b n next) l ≡ true
unfolding check
check_among true n next l p q = p
check_among false n next l p q = q

-- ---- a call without a window

-- not in the window
abbrev OffWindow : Space → Type 0
OffWindow window = ⊥
OffWindow table = Unit {0}

-- no staging, and no window
abbrev aside : Rights
aside = record { may_stage = λ n. ⊥; may_fetch = λ sp a n. OffWindow sp; may_store = λ sp a n. OffWindow sp; may_put = λ f. Unit {0} }

-- steps that need no staging and keep off the window are refused with 11 only
Full : {A : Type 0} → Out A → Type 0
Full (ok a u) = Unit {0}
Full (no n u) = n ≡ 11

module _ (base : ℕ) (lent : Lent) where
  aside_full : {A : Type 0} {m : Act A} → Each aside m → (u : World) → Proper u.now.dev → Full (go_bare base lent m u)
  unfolding go_bare Full
  aside_full at_done u p = tt
  aside_full at_endless u p = refl
  aside_full (at_stage h q) u p = absurd h
  aside_full (at_fetch {sp = table} {a} {n} h q) u p = aside_full (q _ (fetched_length base table a n u.now)) u p
  aside_full {A = A} (at_store {sp = table} {a} {n} {v} {k} h q) u p =
      let r = recorded base table a n v u in
      elim (leb 16 (length u.free)) as (λ b. Full {A = A} (elim b [ true ↦ go_bare base lent k r | false ↦ no 11 u ])) [
        | true ↦ aside_full q r (proper-store base u p table a n v)
        | false ↦ refl
      ]
  aside_full {A = A} (at_fetch {sp = window} {a = a} {n = n} {k = k} h q) u p = elim h [ ]
  aside_full {A = A} (at_store {sp = window} {a = a} {n = n} {v = v} {k = k} h q) u p = elim h [ ]
  aside_full (at_ask {f} q) u p = aside_full (q (holds f u.now.dev) (holds_fits f u.now.dev p.sound)) u p
  aside_full (at_put {f} {v} h q) u p = aside_full q (cutting f v u) (proper-put f v u p)
  aside_full (at_look {s} q) u p = aside_full (q (setting_of s u.now.dev)) u p

-- how an act ends, and its number
abbrev number_of_end : {A : Type 0} → After A World → ℕ
number_of_end (made a u) = 0
number_of_end (unmade n u) = n

module _ {A : Type 0} (u : World) (l : List ℕ) (accepted : among 0 l ≡ true) (full : among 11 l ≡ true) where
  leave_among : (o : Out A) → ((n : ℕ) (v : World) → o ≡ no n v → among n l ≡ true) → among (number_of_end (leave u o)) l ≡ true
  unfolding leave
  leave_among (no n v) h = h n v refl
  leave_among (ok a v) h =
      elim (leb (length (last_lines u v)) (length v.free))
      as (λ b. among (number_of_end {A = A} (elim b [ true ↦ made a (written (last_lines u v) v) | false ↦ unmade 11 (cleared u) ])) l ≡ true) [
        | true ↦ accepted
        | false ↦ full
      ]

number-told : (staging : List ℕ) (used : ℕ) (o : After Heard World) → number_told (told_after staging used o) ≡ number_of_end o
unfolding told_after
number-told staging used (made heard u) = refl
number-told staging used (unmade n u) = refl

-- ---- the calls

module _ (base : ℕ) (d : Device) (window journal : List ℕ) (used : ℕ) where
  u : World
  u = world_of d window journal used

  -- of an outcome: stopped, or the act's
  by-stops : (c : Asked) (staging : List ℕ) (l : List ℕ) → among (stops base (length window) (length journal) used c d) l ≡ true
      → (stops base (length window) (length journal) used c d ≡ 0 → among (number_of_end (perform base (lending (length staging)) (act_of c) u)) l ≡ true)
      → among (number_told (after c base d window staging journal used)) l ≡ true
  unfolding after u
  by-stops c staging l p q =
      either_way (λ t. among (number_told t) l ≡ true) d window staging journal used (stops base (length window) (length journal) used c d)
      (λ k e. ap (λ n. among n l) (sym e) ∙ p)
      (λ e. ap (λ n. among n l) (number-told (staging_after c staging) used (perform base (lending (length staging)) (act_of c) u)) ∙ q e)

  module _ (c : Asked) (staging l : List ℕ) (accepted : among 0 l ≡ true) (full : among 11 l ≡ true) where
    -- without a window
    aside_among : Each aside (act_of c) → Proper d → wrong base (length window) (length journal) used c ≡ 0
        → among (number_of_end (perform base (lending (length staging)) (act_of c) u)) l ≡ true
    unfolding perform Full u
    aside_among e p right = leave_among u l accepted full (go base (lending (length staging)) (act_of c) u) (λ n v f.
        let g : Full (go base (lending (length staging)) (act_of c) u) = subst (λ o. Full o) (sym (call_bare base (lending (length staging)) (length window) (length journal) used c right u p)) (aside_full base (lending (length staging)) e u p) in
        let k : n ≡ 11 = subst (λ o. Full o) f g in ap (λ i. among i l) k ∙ full)

    -- with one
    within_among : among 9 l ≡ true → among 10 l ≡ true → among (number_of_end (perform base (lending (length staging)) (act_of c) u)) l ≡ true
    within_among outside short = by_end (perform base (lending (length staging)) (act_of c) u) refl
      where
        one_of : (n : ℕ) → 9 ≤ n → n ≤ 11 → (a b : Bool) → eqb n 9 ≡ a → eqb n 10 ≡ b → among n l ≡ true
        one_of n h k true b e f = ap (λ i. among i l) (eqb-true n 9 e) ∙ outside
        one_of n h k false true e f = ap (λ i. among i l) (eqb-true n 10 f) ∙ short
        one_of n h k false false e f =
            let i : n ≡ 11 = omega (arith, eqb-false n 9 e, eqb-false n 10 f) in ap (λ j. among j l) i ∙ full

        by_end : (o : After Heard World) → perform base (lending (length staging)) (act_of c) u ≡ o → among (number_of_end o) l ≡ true
        by_end (made heard v) e = accepted
        by_end (unmade n v) e = let r = act_number base (lending (length staging)) (act_of c) u n v e in one_of n r.0 r.1 (eqb n 9) (eqb n 10) refl refl

  -- the tests of the arguments, one after another
  timed_among : (now pace : ℕ) (l : List ℕ) → among 5 l ≡ true → among 6 l ≡ true → among 7 l ≡ true → among 0 l ≡ true
      → among (wrong base (length window) (length journal) used (run now pace)) l ≡ true
  unfolding wrong
  timed_among now pace l p q r s = check_among (bad_window base (length window)) 5 _ l p (check_among (bad_journal (length journal) used) 6 _ l q (check_among (bad_time now pace) 7 0 l r s))

  wrong_among : (c : Asked) → among (wrong base (length window) (length journal) used c) (numbers_of c) ≡ true
  unfolding wrong numbers_of among
  wrong_among (write address size v) =
      let l = numbers_of (write address size v) in
      let past = past_table address size || past_word address size in
      check_among (bad_size size) 1 _ l refl
      (check_among (not (in_blocks address)) 2 _ l refl
      (check_among (is_none (write_at address size v)) 3 _ l refl
      (check_among past 4 _ l refl (check_among (bad_journal (length journal) used) 6 0 l refl refl))))
  wrong_among (inputs standing l0 l1 l2) = check_among (bad_journal (length journal) used) 6 0 (numbers_of (inputs standing l0 l1 l2)) refl refl
  wrong_among (pending ch count) =
      let l = numbers_of (pending ch count) in
      check_among (bad_journal (length journal) used) 6 _ l refl (check_among (ltb 63 ch) 8 0 l refl refl)
  wrong_among (run now pace) = timed_among now pace (numbers_of (run now pace)) refl refl refl refl
  wrong_among (service now pace) = timed_among now pace (numbers_of (service now pace)) refl refl refl refl
  wrong_among (ack ipl) = check_among (bad_journal (length journal) used) 6 0 (numbers_of (ack ipl)) refl refl

  -- and what the device holds
  barred_among : (c : Asked) → among (barred c d) (numbers_of c) ≡ true
  unfolding barred numbers_of among
  barred_among (write address size v) = refl
  barred_among (inputs standing l0 l1 l2) = refl
  barred_among (pending ch count) = check_among (bad_sum (holds (PENDING ch) d) count) 14 0 (numbers_of (pending ch count)) refl refl
  barred_among (run now pace) = refl
  barred_among (service now pace) = refl
  barred_among (ack ipl) = refl

  first_among : (m n : ℕ) (l : List ℕ) → among m l ≡ true → among n l ≡ true → among (first m n) l ≡ true
  unfolding first
  first_among zero n l p q = q
  first_among (suc m) n l p q = p

  stops_among : (c : Asked) → among (stops base (length window) (length journal) used c d) (numbers_of c) ≡ true
  unfolding stops
  stops_among c = first_among (wrong base (length window) (length journal) used c) (barred c d) (numbers_of c) (wrong_among c) (barred_among c)

  -- each act's number is 0 or one of its own
  pub act_numbers : (c : Asked) (staging : List ℕ) → Proper d → among (number_told (after c base d window staging journal used)) (numbers_of c) ≡ true
  unfolding numbers_of among act_of add_pending write_at
  act_numbers c staging p = by-stops c staging (numbers_of c) (stops_among c) (λ e. performed c (not_stopped base (length window) (length journal) used c d e).0)
    where
      performed : (c : Asked) → wrong base (length window) (length journal) used c ≡ 0 → among (number_of_end (perform base (lending (length staging)) (act_of c) u)) (numbers_of c) ≡ true
      performed (write address size v) e =
          aside_among (write address size v) staging (numbers_of (write address size v)) refl refl (levelled_each (λ c. tt) tt _ (write_each (λ f. tt) (λ ch h. (tt, tt)) (block_of address) (offset_of address) size v (λ b t. tt))) p e
      performed (inputs standing l0 l1 l2) e =
          aside_among (inputs standing l0 l1 l2) staging (numbers_of (inputs standing l0 l1 l2)) refl refl (levelled_each (λ c. tt) tt _ (inputs_each (λ f. tt) standing l0 l1 l2)) p e
      performed (pending ch count) e =
          aside_among (pending ch count) staging (numbers_of (pending ch count)) refl refl (levelled_each (λ c. tt) tt _ (each_change (PENDING ch) _ tt)) p e
      performed (run now pace) e = within_among (run now pace) staging (numbers_of (run now pace)) refl refl refl refl
      performed (service now pace) e = within_among (service now pace) staging (numbers_of (service now pace)) refl refl refl refl
      performed (ack ipl) e = aside_among (ack ipl) staging (numbers_of (ack ipl)) refl refl (acknowledge_each (λ i. tt) ipl) p e

  args_among : among (wrong_back base (length window) (length journal) used) numbers_of_back ≡ true
  unfolding wrong_back among numbers_of_back
  args_among = check_among (bad_window base (length window)) 5 _ numbers_of_back refl (check_among (bad_journal (length journal) used) 6 0 numbers_of_back refl refl)

  twelve_or : (n : ℕ) → 12 ≤ n → n ≤ 13 → (b : Bool) → eqb n 12 ≡ b → among n numbers_of_back ≡ true
  unfolding among numbers_of_back
  twelve_or n h k true e = ap (λ i. among i numbers_of_back) (eqb-true n 12 e)
  twelve_or n h k false e = let i : n ≡ 13 = omega (arith, eqb-false n 12 e) in ap (λ j. among j numbers_of_back) i

  -- so is a take-back's
  pub back_numbers : among (number_told (after_back base d window journal used)) numbers_of_back ≡ true
  unfolding after_back u told_after heard_nothing among numbers_of_back
  back_numbers =
      either_way (λ t. among (number_told t) numbers_of_back ≡ true) d window [] journal used (wrong_back base (length window) (length journal) used)
      (λ k e. ap (λ n. among n numbers_of_back) (sym e) ∙ args_among) (λ _. by_end (take_back base u) refl)
    where
      by_end : (o : After (Unit {0}) World) → take_back base u ≡ o → among (number_told (told_after [] used (heard_nothing o))) numbers_of_back ≡ true
      by_end (made a v) e = refl
      by_end (unmade n v) e = let r = back_refused base u n v e in twelve_or n r.1 r.2 (eqb n 12) refl

module _ (d : Device) (address size : ℕ) where
  read_among : among (wrong_read d address size) numbers_of_read ≡ true
  unfolding wrong_read among numbers_of_read
  read_among =
      let l = numbers_of_read in
      check_among (bad_size size) 1 _ l refl
      (check_among (not (in_blocks address)) 2 _ l refl
      (check_among (is_none (read_at d address size)) 3 _ l refl (check_among (past_table address size) 4 0 l refl refl)))

  -- and a read's
  pub read_numbers : among (read_number (after_read d address size)) numbers_of_read ≡ true
  unfolding after_read read_unless
  read_numbers = by_number (wrong_read d address size) read_among
    where
      by_number : (n : ℕ) → among n numbers_of_read ≡ true
          → among (read_number (read_unless n (read_at d address size))) numbers_of_read ≡ true
      by_number zero p = p
      by_number (suc n) p = p
