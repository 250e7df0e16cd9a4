-- Channels whose busy time is over, one after another: what is left to do from where the loop stands is the whole from where it began.
-- Assumes nothing.
use mathlib.Core.Bool.{Bool, true, false, cond, ◌&&◌}
use mathlib.Core.List.{List}
use mathlib.Core.Path.{◌≡◌, refl, sym, ◌∙◌}
use Prim.Native.Nat.{ℕ, suc, ◌+◌, ◌-◌, ◌≤◌, ◌<◌}
use native.Mathlib.Numerals.{add-one}
use native.Mathlib.Omega.{arith}
use borrow.Author.Tests.{eq-eqb, ne_eqb}
use lib.Dec.{leb}
use lib.ListN.{get_or, set}
use Rattle.rules.specs.Act.{BUSY, put, when, ◌>>=◌, acts}
use Rattle.rules.specs.Carry.{Out, ok, with_device, go, Lent}
use Rattle.rules.specs.Fields.{bits_of, holds}
use Rattle.rules.specs.Run.{over, release}
use Rattle.rules.specs.Words.{has, gain}
use Rattle.rules.specs.With.{with_busy}
use Rattle.rules.specs.Scalars.{ERQ}
use Rattle.rules.specs.State.{Device}
use Rattle.act.specs.Does.{beside}
use Rattle.turns.specs.Frees.{freed, freeing}

-- ---- a busy time, by cases

module _ (now until : ℕ) where
  pub over-free : until ≡ 0 → false ≡ over now until
  unfolding over
  over-free e = rw (eq-eqb until 0 e)

  pub over_by : (until ≡ 0 → ⊥) → leb until now ≡ over now until
  unfolding over
  over_by h = rw (ne_eqb until 0 h)

-- ---- one channel, by cases

module _ (now erq ch m : ℕ) (b : List ℕ) {o : Bool} (asked : o ≡ over now (get_or b ch 0)) where
  pub still_busy : o ≡ false → (m ≡ freeing now erq b ch m) × (b ≡ freed now b ch)
  unfolding freeing freed
  still_busy e = (rw (← asked, e), rw (← asked, e))

  module _ (on : o ≡ true) {e : Bool} (enabled : e ≡ has erq ch) where
    pub freed_only : e ≡ false → (m ≡ freeing now erq b ch m) × (set b ch 0 ≡ freed now b ch)
    unfolding freeing freed
    freed_only h = (rw (← asked, on, ← enabled, h), rw (← asked, on))

    pub freed_too : e ≡ true → {v : ℕ} → v ≡ gain m ch → (v ≡ freeing now erq b ch m) × (set b ch 0 ≡ freed now b ch)
    unfolding freeing freed
    freed_too h g = (rw (← asked, on, ← enabled, h) g, rw (← asked, on))

-- ---- one after another

module _ (base : ℕ) (lent : Lent) (mem used free : List ℕ) (now : ℕ) where
  release-turn : (d : Device) (b : List ℕ) (n ch m : ℕ)
      → go base lent (release now (suc n) ch m) (beside mem used free (with_busy d b)) ≡ go base lent (release now n (suc ch) (freeing now (holds ERQ d) b ch m)) (beside mem used free (with_busy d (freed now b ch)))
  unfolding release go acts freeing freed with_device bits_of
  release-turn d b n ch m = by (over now (get_or b ch 0)) refl
    where
      by : (o : Bool) → over now (get_or b ch 0) ≡ o
          → go base lent (when (over now (get_or b ch 0)) (put (BUSY ch) 0) >>= (λ _. release now n (suc ch) (cond (over now (get_or b ch 0) && has (holds ERQ d) ch) (gain m ch) m))) (beside mem used free (with_busy d b))
          ≡ go base lent (release now n (suc ch) (cond (over now (get_or b ch 0) && has (holds ERQ d) ch) (gain m ch) m)) (beside mem used free (with_busy d (cond (over now (get_or b ch 0)) (set b ch 0) b)))
      by true e = rw e
      by false e = rw e

  module _ (erq : ℕ) (d : Device) (enabled : holds ERQ d ≡ erq) (whole : Out ℕ) (b : List ℕ) (ch m : ℕ)
      (rest : go base lent (release now (64 - ch) ch m) (beside mem used free (with_busy d b)) ≡ whole)
    where
      pub release_again : ch < 64 → (m' : ℕ) (b' : List ℕ) → m' ≡ freeing now erq b ch m → b' ≡ freed now b ch
          → go base lent (release now (64 - (ch + 1)) (ch + 1) m') (beside mem used free (with_busy d b')) ≡ whole
      release_again h m' b' p q =
          let n : 64 - ch ≡ suc (64 - (ch + 1)) = omega arith in
          rw (p, q, add-one, ← enabled) (sym (release-turn d b (64 - suc ch) ch m) ∙ (rw (n, add-one) at rest))

      pub release_end : 64 ≤ ch → whole ≡ ok m (beside mem used free (with_busy d b))
      unfolding release go
      release_end h = let z : 64 - ch ≡ 0 = omega arith in sym (rw z at rest)
