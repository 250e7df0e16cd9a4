-- What a bench owns, its calls and its rows, as worlds, calls and rows of `Standing`. Assumes nothing.
use Rattle.std.specs.Prelude.{None}
use mathlib.Core.List.{List, [], ◌++◌}
use mathlib.Core.Option.{Option, none, some}
use mathlib.Core.Path.{◌≡◌, refl, sym, ap, ◌∙◌, subst, subst₂}
use Prim.Native.Nat.{ℕ, zero, suc, ◌+◌, ◌%◌, ◌≤◌}
use native.Mathlib.Omega.{arith}
use lib.ListN.{length, take, drop, length-append, take-append-drop}
use lib.Seq.{length-take-le, take-append_seam, drop-append_seam}
use Rattle.rules.specs.Act.{Act, done}
use Rattle.rules.specs.Carry.{World, After, made, unmade, cleared, perform, lending, Lent}
use Rattle.rules.specs.TakeBack.{take_back}
use Rattle.rules.specs.Calls.{Asked, act_of, wrong, stops, wrong_back, Told, staging_after, world_of, told_after, unless_stopped, after, heard_nothing, after_back, after_read}
use Rattle.rules.specs.Verdicts.{Heard}
use Rattle.rules.proofs.Free.{Seen, seen, Agree}
use Rattle.rules.proofs.Took.{total, refused}
use Rattle.rules.proofs.History.{Entry, walk, Alone}
use Rattle.rules.proofs.Standing.{Call, make_call}
use Rattle.rules.proofs.Lasts.{Ending, Lasts, perform_lasts, act_number, back_refused}
use Rattle.rules.proofs.CallLaws.{back_wrong}
use Rattle.rules.proofs.Through.{carried, carried_walk, walk_keeps, alone_through, walk_through}
use Rattle.rules.proofs.Bench.{Held, compared, RowCall, act, read, amiss, amiss_back, ended, read_number, make_held, back_held, walked, MadeAlone, amiss_ends, amiss_back_ends}

-- ---- what it owns

-- as a call finds it
abbrev pub world_in : Held → World
world_in h = world_of h.device h.window h.journal h.used

-- and as a call leaves it
abbrev pub held_of : World → Held
held_of u = record { device = u.now.dev; window = u.now.mem; journal = u.used ++ u.free; used = length u.used }

world-held : (u : World) → world_in (held_of u) ≡ u
world-held u = λ i. record { now = u.now; used = take-append_seam u.used u.free i; free = drop-append_seam u.used u.free i }

pub held-world : (h : Held) → h.used ≤ length h.journal → held_of (world_in h) ≡ h
held-world h l = λ i. record {
  device = h.device;
  window = h.window;
  journal = take-append-drop h.used h.journal i;
  used = length-take-le h.used h.journal l i;
}

pub held_lasts : (h : Held) → h.used ≤ length h.journal → h.used % 16 ≡ 0 → Lasts (length h.window) (length h.journal) (world_in h)
held_lasts h l whole = record {
  window_is = refl;
  journal_is = sym (length-append (take h.used h.journal) (drop h.used h.journal)) ∙ ap length (take-append-drop h.used h.journal);
  whole = ap (λ n. n % 16) (length-take-le h.used h.journal l) ∙ whole;
}

-- what is compared, of what is seen of a world
abbrev pub shown : Seen → Held
shown s = record { device = s.now.dev; window = s.now.mem; journal = s.used; used = length s.used }

pub compared_held : (u : World) → compared (held_of u) ≡ shown (seen u)
compared_held u = λ i. record { device = u.now.dev; window = u.now.mem; journal = take-append_seam u.used u.free i; used = length u.used }

-- ---- its calls, as calls of `Standing`

-- 0 is none
abbrev refusal : ℕ → Option ℕ
refusal zero = none
refusal (suc n) = some (suc n)

-- what keeps a call from being made before anything is done
abbrev before : ℕ → RowCall → World → Option ℕ
before base (act c staging) u = refusal (stops base (length u.now.mem) (total u) (length u.used) c u.now.dev)
before base (read address size) u = some (read_number (after_read u.now.dev address size))
before base (amiss c b window staging journal used bad) u = some (wrong b (length window) (length journal) used c)
before base (amiss_back b window journal used bad) u = some (wrong_back b (length window) (length journal) used)

pub before_same : (base : ℕ) (c : RowCall) (u v : World) → Agree u v → before base c u ≡ before base c v
before_same base (act c staging) u v h = λ i.
    let s = h.seen_is i in
    refusal (stops base (length s.now.mem) (length s.used + h.room_is i) (length s.used) c s.now.dev)
before_same base (read address size) u v h = ap (λ (s : Seen). some (read_number (after_read s.now.dev address size))) h.seen_is
before_same base (amiss c b window staging journal used bad) u v h = refl
before_same base (amiss_back b window journal used bad) u v h = refl

-- of a call that is never made its staging and its tree do not matter
abbrev lent_to : RowCall → Lent
lent_to (act c staging) = lending (length staging)
lent_to (read address size) = lending 0
lent_to (amiss c b window staging journal used bad) = lending 0
lent_to (amiss_back b window journal used bad) = lending 0

abbrev tree_of : RowCall → Act Heard
tree_of (act c staging) = act_of c
tree_of (read address size) = done None
tree_of (amiss c b window staging journal used bad) = done None
tree_of (amiss_back b window journal used bad) = done None

abbrev pub call_of : ℕ → RowCall → Call Heard
call_of base c = record { before = before base c; before_same = before_same base c; lent = lent_to c; act = tree_of c }

module _ (base : ℕ) (c : Asked) (staging : List ℕ) (u : World) where
  performed : (o : After Heard World) → perform base (lending (length staging)) (act_of c) u ≡ o → ended (told_after (staging_after c staging) (length u.used) o) ≡ carried (λ a. a) held_of o
  unfolding told_after cleared
  performed (made heard v) e = refl
  performed (unmade zero v) e = absurd (omega (arith, act_number base (lending (length staging)) (act_of c) u zero v e))
  performed (unmade (suc n) v) e =
      ap (λ (k : ℕ). unmade (suc n) (record { device = v.now.dev; window = v.now.mem; journal = v.used ++ v.free; used = k }))
      (sym (ap (λ (w : World). length w.used) (refused base (lending (length staging)) (act_of c) u (suc n) v e)))

  act_through : ended (after c base u.now.dev u.now.mem staging (u.used ++ u.free) (length u.used)) ≡ carried (λ a. a) held_of (make_call base (call_of base (act c staging)) u)
  unfolding after unless_stopped make_call
  act_through =
      subst₂ (λ n v. ended (as_told (stops base (length u.now.mem) n (length u.used) c u.now.dev) v) ≡ carried (λ a. a) held_of (make_call base (call_of base (act c staging)) u))
      (sym (length-append u.used u.free)) (sym (world-held u)) (by_number (stops base (length u.now.mem) (total u) (length u.used) c u.now.dev))
    where
      as_told : ℕ → World → Told
      as_told n v =
          unless_stopped u.now.dev u.now.mem staging (u.used ++ u.free) (length u.used) n
          (told_after (staging_after c staging) (length u.used) (perform base (lending (length staging)) (act_of c) v))

      by_number : (n : ℕ) → ended (as_told n u) ≡ carried (λ a. a) held_of (elim (refusal n) [ none ↦ perform base (lending (length staging)) (act_of c) u | some n ↦ unmade n u ])
      by_number zero = performed (perform base (lending (length staging)) (act_of c) u) refl
      by_number (suc n) = refl

module _ (base : ℕ) where
  abbrev pub make_world : RowCall → World → After Heard World
  make_world c u = make_call base (call_of base c) u

  pub make_through : (c : RowCall) (u : World) → make_held base c (held_of u) ≡ carried (λ a. a) held_of (make_world c u)
  unfolding make_held make_call
  make_through (act c staging) u = act_through base c staging u
  make_through (read address size) u = refl
  make_through (amiss c b window staging journal used bad) u = amiss_ends (held_of u) c b window staging journal used bad
  make_through (amiss_back b window journal used bad) u = amiss_back_ends (held_of u) b window journal used bad

  -- a take-back whose arguments are right
  pub back_through : (u : World) → wrong_back base (length u.now.mem) (total u) (length u.used) ≡ 0
      → back_held base (held_of u) ≡ carried (λ _. None) held_of (take_back base u)
  unfolding back_held after_back unless_stopped
  back_through u right =
      subst₂ (λ n v. ended (unless_stopped u.now.dev u.now.mem [] (u.used ++ u.free) (length u.used) (wrong_back base (length u.now.mem) n (length u.used))
      (told_after [] (length u.used) (heard_nothing (take_back base v)))) ≡ carried (λ _. None) held_of (take_back base u))
      (sym (length-append u.used u.free)) (sym (world-held u)) (rw right (taken_back_lem (take_back base u) refl))
    where
      taken_back_lem : (o : After (Unit {0}) World) → take_back base u ≡ o
          → ended (told_after [] (length u.used) (heard_nothing o)) ≡ carried (λ _. None) held_of o
      taken_back_lem (made a v) e = unfold told_after heard_nothing in refl
      taken_back_lem (unmade zero v) e = absurd (omega (arith, (back_refused base u zero v e).1))
      taken_back_lem (unmade (suc n) v) e =
          unfold told_after heard_nothing in
          ap (λ (k : ℕ). unmade (suc n) (record { device = v.now.dev; window = v.now.mem; journal = v.used ++ v.free; used = k }))
          (sym (ap (λ (w : World). length w.used) (back_refused base u (suc n) v e).0))

  -- and one whose arguments are wrong
  pub wrong_through : (u : World) (n : ℕ) → wrong_back base (length u.now.mem) (total u) (length u.used) ≡ suc n → back_held base (held_of u) ≡ unmade (suc n) (held_of u)
  unfolding back_held
  wrong_through u n e =
      ap ended (back_wrong base u.now.dev u.now.mem (u.used ++ u.free) (length u.used) n
      (ap (λ k. wrong_back base (length u.now.mem) k (length u.used)) (length-append u.used u.free) ∙ e))

  pub make_lasts : {n k : ℕ} (c : RowCall) (u : World) → Lasts n k u → Ending (Lasts n k) (make_world c u)
  unfolding make_call
  make_lasts {n} {k} c u h = checked (before base c u)
    where
      checked : (b : Option ℕ) → Ending {A = Heard} (Lasts n k) (elim b [ none ↦ perform base (lent_to c) (tree_of c) u | some i ↦ unmade i u ])
      checked none = perform_lasts base (lent_to c) (tree_of c) u h
      checked (some i) = h

-- ---- its rows

-- window and journal are as long as at the start, and whole records are used
abbrev pub AsLong : Held → World → Type 0
AsLong start u = Lasts (length start.window) (length start.journal) u

-- from an empty journal
module _ (base : ℕ) (start : Held) (empty : start.used ≡ 0) where
  first-held : held_of (world_in start) ≡ start
  first-held = held-world start (omega arith)

  pub first_as_long : AsLong start (world_in start)
  first_as_long = held_lasts start (omega arith) (ap (λ n. n % 16) empty)

  -- calls of worlds made alone are calls of the bench made alone
  pub alone_is : {cs : List (RowCall × Heard)} {w : World} → Alone (make_world base) (world_in start) cs w → MadeAlone base start cs (held_of w)
  alone_is {cs} {w} k =
      subst (λ h. MadeAlone base h cs (held_of w)) first-held
      (alone_through (make_world base) (make_held base) held_of (AsLong start) (make_lasts base) (λ c u _. make_through base c u) (world_in start) first_as_long k)

  -- where take-backs of worlds that are as long are those of the bench
  module _ (takes_back : World → After (Unit {0}) World) (back_keeps : (u : World) → AsLong start u → Ending (AsLong start) (takes_back u))
      (back_is : (u : World) → AsLong start u → back_held base (held_of u) ≡ carried (λ _. None) held_of (takes_back u))
    where
      pub row_as_long : (row : List (Entry RowCall)) → AsLong start (walk (make_world base) takes_back (world_in start) row).here
      row_as_long row = walk_keeps (make_world base) takes_back (AsLong start) (make_lasts base) back_keeps (world_in start) first_as_long row

      pub row_is : (row : List (Entry RowCall)) → walked base start row ≡ carried_walk held_of (walk (make_world base) takes_back (world_in start) row)
      row_is row =
          subst (λ h. walked base h row ≡ carried_walk held_of (walk (make_world base) takes_back (world_in start) row)) first-held
          (walk_through (make_world base) (make_held base) held_of (AsLong start) (make_lasts base) (λ c u _. make_through base c u) takes_back (back_held base) (λ _. None) back_keeps back_is (world_in start) first_as_long row)
