-- What holds all along a row of a bench's calls and take-backs, accepted or refused: window and journal are as long as at the start, whole records
-- of the journal are used and no more than it has, and the device is proper. Assumes nothing.
use Rattle.std.specs.Prelude.{None}
use mathlib.Core.Path.{◌≡◌, refl, sym, ◌∙◌, subst}
use Prim.Native.Nat.{ℕ, zero, suc, ◌%◌, ◌≤◌}
use native.Mathlib.Omega.{arith}
use lib.ListN.{length, length-append}
use Rattle.rules.specs.Calls.{Told, told, device_told, wrong_back, after, after_back}
use Rattle.rules.specs.Carry.{World, After, made, unmade}
use Rattle.rules.specs.TakeBack.{take_back}
use Rattle.rules.specs.Verdicts.{Heard}
use Rattle.rules.proofs.Bench.{Held, RowCall, act, read, amiss, amiss_back, ended, make_held, back_held, amiss_ends, amiss_back_ends}
use Rattle.rules.proofs.BenchWorlds.{world_in, held_of, held-world, held_lasts, make_world, make_through, make_lasts, back_through, wrong_through}
use Rattle.rules.proofs.Proper.{Proper}
use Rattle.rules.proofs.Lasts.{Ending, Lasts, back_lasts}
use Rattle.rules.proofs.Stays.{act_keeps-proper, back_keeps-proper}
use Rattle.rules.proofs.Through.{carried}
use Rattle.rules.proofs.Took.{total}

-- a window and a journal of these lengths, and of it whole records used
pub record SameLengths (window journal : ℕ) (h : Held) : Type 0 where
  pub window_is : length h.window ≡ window
  pub journal_is : length h.journal ≡ journal
  pub whole : h.used % 16 ≡ 0
  pub within : h.used ≤ length h.journal

pub record Along (window journal : ℕ) (h : Held) : Type 0 where
  pub long : SameLengths window journal h
  pub proper : Proper h.device

as_long : {n k : ℕ} (u : World) → Lasts n k u → SameLengths n k (held_of u)
as_long u l = record {
  window_is = l.window_is;
  journal_is = length-append u.used u.free ∙ l.journal_is;
  whole = l.whole;
  within = omega (arith, length-append u.used u.free);
}

all_as_long : (n k : ℕ) {A : Type 0} (f : A → Heard) (o : After A World) → Ending (Lasts n k) o → Ending (SameLengths n k) (carried f held_of o)
all_as_long n k f (made a u) l = as_long u l
all_as_long n k f (unmade i u) l = as_long u l

-- the device of an outcome
proper-ended : (t : Told) → Proper (device_told t) → Ending (λ (h : Held). Proper h.device) (ended t)
proper-ended (told zero heard d w s j u) p = p
proper-ended (told (suc n) heard d w s j u) p = p

both : (n k : ℕ) (o : After Heard Held) → Ending (SameLengths n k) o → Ending (λ (h : Held). Proper h.device) o → Ending (Along n k) o
both n k (made a h) l p = record { long = l; proper = p }
both n k (unmade i h) l p = record { long = l; proper = p }

module _ (base n k : ℕ) where
  world_lasts : (h : Held) → Along n k h → Lasts n k (world_in h)
  world_lasts h a =
      let l = held_lasts h a.long.within a.long.whole in
      record { window_is = a.long.window_is; journal_is = l.journal_is ∙ a.long.journal_is; whole = l.whole }

  make_as_long : (c : RowCall) (h : Held) → Along n k h → Ending (SameLengths n k) (make_held base c h)
  make_as_long c h a =
      subst (λ x. Ending (SameLengths n k) (make_held base c x)) (held-world h a.long.within)
      (subst (Ending (SameLengths n k)) (sym (make_through base c (world_in h)))
      (all_as_long n k (λ x. x) (make_world base c (world_in h)) (make_lasts base c (world_in h) (world_lasts h a))))

  make_proper : (c : RowCall) (h : Held) → Along n k h → Ending (λ (x : Held). Proper x.device) (make_held base c h)
  unfolding make_held
  make_proper (act c staging) h a = proper-ended (after c base h.device h.window staging h.journal h.used) (act_keeps-proper base h.device h.window h.journal h.used c staging a.proper)
  make_proper (read address size) h a = a.proper
  make_proper (amiss c b window staging journal used bad) h a =
      subst (Ending (λ (x : Held). Proper x.device)) (sym (amiss_ends h c b window staging journal used bad)) a.proper
  make_proper (amiss_back b window journal used bad) h a =
      subst (Ending (λ (x : Held). Proper x.device)) (sym (amiss_back_ends h b window journal used bad)) a.proper

  pub make_along : (c : RowCall) (h : Held) → Along n k h → Ending (Along n k) (make_held base c h)
  make_along c h a = both n k (make_held base c h) (make_as_long c h a) (make_proper c h a)

  back_as_long : (h : Held) → Along n k h → Ending (SameLengths n k) (back_held base h)
  back_as_long h a =
      subst (λ x. Ending (SameLengths n k) (back_held base x)) (held-world h a.long.within)
      (by_number (wrong_back base (length h.window) (total u) (length u.used)) refl)
    where
      u : World
      u = world_in h

      by_number : (i : ℕ) → wrong_back base (length h.window) (total u) (length u.used) ≡ i → Ending (SameLengths n k) (back_held base (held_of u))
      by_number zero e = subst (Ending (SameLengths n k)) (sym (back_through base u e)) (all_as_long n k (λ _. None) (take_back base u) (back_lasts base u (world_lasts h a)))
      by_number (suc i) e = subst (Ending (SameLengths n k)) (sym (wrong_through base u i e)) (as_long u (world_lasts h a))

  pub back_along : (h : Held) → Along n k h → Ending (Along n k) (back_held base h)
  unfolding back_held
  back_along h a =
      both n k (back_held base h) (back_as_long h a)
      (proper-ended (after_back base h.device h.window h.journal h.used) (back_keeps-proper base h.device h.window h.journal h.used a.proper))
