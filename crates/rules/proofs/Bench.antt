-- A bench over the outcomes of `specs/Calls.antt`: what it owns, what a row of its calls holds, how each ends, and what every refusal leaves.
-- Assumes nothing.
use mathlib.Core.List.{List}
use mathlib.Core.Path.{◌≡◌, refl, ap, subst}
use Prim.Native.Nat.{ℕ, zero, suc}
use native.Mathlib.Omega.{arith}
use lib.ListN.{length, take}
use Rattle.rules.specs.Carry.{After, made, unmade}
use Rattle.rules.specs.Calls.{Asked, wrong, wrong_back, Told, told, after, after_back, ToldRead, told_read, after_read}
use Rattle.rules.specs.State.{Device}
use Rattle.rules.specs.Verdicts.{Heard}
use Rattle.rules.proofs.History.{Entry, Walk, walk, Alone}
use Rattle.rules.proofs.CallLaws.{AsGiven, act_wrong, back_wrong, act_as_given, back_as_given}

-- ---- what it owns, and its calls

-- between calls
pub record Held : Type 0 where
  pub device : Device
  pub window : List ℕ
  pub journal : List ℕ
  pub used : ℕ

-- what is compared: device, window, and of the journal its used part and the used length
abbrev pub compared : Held → Held
compared h = record { device = h.device; window = h.window; journal = take h.used h.journal; used = h.used }

-- what a row holds besides take-backs
pub data RowCall : Type 0 where
  -- an act, and the staging it is given
  act : Asked → List ℕ → RowCall
  -- a register read: full address, size
  read : ℕ → ℕ → RowCall
  -- an act given any base, lists and used length in place of the bench's own, and refused for its arguments
  amiss : (c : Asked) (base : ℕ) (window staging journal : List ℕ) (used : ℕ) → (wrong base (length window) (length journal) used c ≡ 0 → ⊥) → RowCall
  -- a take-back likewise
  amiss_back : (base : ℕ) (window journal : List ℕ) (used : ℕ) → (wrong_back base (length window) (length journal) used ≡ 0 → ⊥) → RowCall

-- how a call ends for the bench, by its outcome: it is made if its number is 0
abbrev pub ended : Told → After Heard Held
ended (told zero heard d window staging journal used) = made heard (record { device = d; window = window; journal = journal; used = used })
ended (told (suc n) heard d window staging journal used) = unmade (suc n) (record { device = d; window = window; journal = journal; used = used })

-- the same where the call was given, of all that the bench owns, the device only
abbrev pub ended_amiss : Held → Told → After Heard Held
ended_amiss h (told zero heard d window staging journal used) = made heard (record { device = d; window = h.window; journal = h.journal; used = h.used })
ended_amiss h (told (suc n) heard d window staging journal used) = unmade (suc n) (record { device = d; window = h.window; journal = h.journal; used = h.used })

-- the number of a read, 0 if it is answered
abbrev pub read_number : ToldRead → ℕ
read_number (told_read n v) = n

module _ (base : ℕ) where
  -- a read changes nothing, and counts as not made
  unfoldable pub make_held : RowCall → Held → After Heard Held
  make_held (act c staging) h = ended (after c base h.device h.window staging h.journal h.used)
  make_held (read address size) h = unmade (read_number (after_read h.device address size)) h
  make_held (amiss c b window staging journal used bad) h = ended_amiss h (after c b h.device window staging journal used)
  make_held (amiss_back b window journal used bad) h = ended_amiss h (after_back b h.device window journal used)

  unfoldable pub back_held : Held → After Heard Held
  back_held h = ended (after_back base h.device h.window h.journal h.used)

  -- where a row leads, its last entry first: what the bench owns then, and the calls still standing with their answers, the last one first
  abbrev pub walked : Held → List (Entry RowCall) → Walk RowCall Heard Held
  walked start row = walk make_held back_held start row

  -- calls, the last one first, made alone in order from the start: all are made, with these answers, and lead to h
  abbrev pub MadeAlone : Held → List (RowCall × Heard) → Held → Type 0
  MadeAlone start cs h = Alone make_held start cs h

-- ---- every refusal, whatever the bench owns

module _ (h : Held) where
  -- arguments amiss: all is as it was
  pub amiss_ends : (c : Asked) (b : ℕ) (window staging journal : List ℕ) (used : ℕ) → (wrong b (length window) (length journal) used c ≡ 0 → ⊥)
      → ended_amiss h (after c b h.device window staging journal used) ≡ unmade (wrong b (length window) (length journal) used c) h
  amiss_ends c b window staging journal used bad = by_number (wrong b (length window) (length journal) used c) refl
    where
      by_number : (n : ℕ) → wrong b (length window) (length journal) used c ≡ n → ended_amiss h (after c b h.device window staging journal used) ≡ unmade n h
      by_number zero e = absurd (bad e)
      by_number (suc n) e = ap (ended_amiss h) (act_wrong b h.device window journal used n c staging e)

  pub amiss_back_ends : (b : ℕ) (window journal : List ℕ) (used : ℕ) → (wrong_back b (length window) (length journal) used ≡ 0 → ⊥)
      → ended_amiss h (after_back b h.device window journal used) ≡ unmade (wrong_back b (length window) (length journal) used) h
  amiss_back_ends b window journal used bad = by_number (wrong_back b (length window) (length journal) used) refl
    where
      by_number : (n : ℕ) → wrong_back b (length window) (length journal) used ≡ n → ended_amiss h (after_back b h.device window journal used) ≡ unmade n h
      by_number zero e = absurd (bad e)
      by_number (suc n) e = ap (ended_amiss h) (back_wrong b h.device window journal used n e)

-- what is compared, and the journal's length
abbrev pub Unchanged : Held → Held → Type 0
Unchanged h h' = (compared h' ≡ compared h) × (length h'.journal ≡ length h.journal)

module _ (base : ℕ) (h : Held) (n : ℕ) (h' : Held) where
  given_back : (t : Told) → AsGiven h.device h.window h.journal h.used t → ended t ≡ unmade n h' → Unchanged h h'
  given_back (told zero heard d w s j u) l e = let z : ◌≡◌ {A = ℕ} 0 1 = cc in absurd (omega arith)
  given_back (told (suc k) heard d w s j u) l e =
      let p : record { device = d; window = w; journal = j; used = u } ≡ h' = cc in
      subst (Unchanged h) p (λ i. record { device = l.0 i; window = l.1 i; journal = l.3 i; used = l.2 i }, l.4)

  same : (k : ℕ) (o : After Heard Held) → o ≡ unmade k h → o ≡ unmade n h' → Unchanged h h'
  same k o e f = let p : h ≡ h' = cc in subst (Unchanged h) p (refl, refl)

  -- a call that is not made
  pub refusal_leaves : (c : RowCall) → make_held base c h ≡ unmade n h' → Unchanged h h'
  unfolding make_held
  refusal_leaves (act c staging) e =
      given_back (after c base h.device h.window staging h.journal h.used) (act_as_given base h.device h.window h.journal h.used c staging) e
  refusal_leaves (read address size) e = same _ _ refl e
  refusal_leaves (amiss c b window staging journal used bad) e = same _ _ (amiss_ends h c b window staging journal used bad) e
  refusal_leaves (amiss_back b window journal used bad) e = same _ _ (amiss_back_ends h b window journal used bad) e

  -- and a take-back that is not
  pub back_refusal_leaves : back_held base h ≡ unmade n h' → Unchanged h h'
  unfolding back_held
  back_refusal_leaves e =
      given_back (after_back base h.device h.window h.journal h.used) (back_as_given base h.device h.window h.journal h.used) e
