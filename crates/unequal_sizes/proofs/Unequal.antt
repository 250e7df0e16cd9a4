-- A transfer of unequal sizes, by how its reads and its writes end; and the places in staging that its loops come to. Assumes nothing.
use Rattle.std.specs.Prelude.{Option, Some, None, Result, Ok, Err}
use mathlib.Core.List.{List, []}
use mathlib.Core.Logic.{inl, inr}
use mathlib.Core.Path.{◌≡◌, sym, ap, ◌∙◌}
use Prim.Native.Nat.{ℕ, suc, ◌+◌, ◌*◌, ◌/◌, ◌≤◌, ◌<◌}
use native.Mathlib.Nat.{suc-mul}
use Rattle.rules.specs.Act.{Act, ◌>>=◌, ◌>>◌, done, stage}
use Rattle.rules.specs.Calls.{world_of}
use Rattle.rules.specs.Carry.{World, Out, go, Lent}
use Rattle.rules.specs.Minor.{read_sizes, write_sizes, move_unequal}
use Rattle.rules.specs.State.{Device}
use Rattle.rules.specs.declared.Refusal.TheVariants as Refusal
use Rattle.rules.proofs.Steps.{and_then, go_bind, stage_enough, stage_short}
use Rattle.words.specs.Sizes.{a_size, Sized}
use Rattle.equal_sizes.specs.Moves.{moved}
use Rattle.act.specs.declared.Stopped.{Stopped}
use Rattle.unequal_sizes.specs.Stages.{read_to, wrote}
use Rattle.unequal_sizes.specs.declared.Written.{Written}

-- ---- places

-- one size fewer is left
pub fewer : (left rest size : ℕ) → left ≡ suc rest → left * size ≡ rest * size + size
fewer left rest size more = ap (λ (n : ℕ). n * size) more ∙ suc-mul rest size

-- a size that is none of 1, 2 and 4 is whole units of 4
pub whole-units : (n : ℕ) → Sized n → (n ≡ 1 → ⊥) → (n ≡ 2 → ⊥) → n / 4 * 4 ≡ n
whole-units n h n₁ n₂ = by h.which
  where
    by : a_size n → n / 4 * 4 ≡ n
    by (inl e) = absurd (n₁ e)
    by (inr (inl e)) = absurd (n₂ e)
    by (inr (inr (inl e))) = rw e
    by (inr (inr (inr (inl e)))) = rw e
    by (inr (inr (inr (inr e)))) = rw e

-- ---- the whole

module _ (base : ℕ) (lent : Lent) (dev : Device) (w j : List ℕ) (e reads soff smod doff dmod ssize dsize s d : ℕ) where
  abbrev start : World
  start = world_of dev w j e

  abbrev tree : Act (ℕ × ℕ)
  tree = move_unequal reads soff smod doff dmod ssize dsize s d

  abbrev reading : Act (ℕ × List ℕ)
  reading = read_sizes reads soff smod ssize s []

  abbrev writing : List ℕ → Act ℕ
  writing l = write_sizes (reads * ssize / dsize) doff dmod dsize d l 0

  abbrev rest : ℕ × List ℕ → Act (ℕ × ℕ)
  rest p = writing p.1 >>= (λ d'. done (p.0, d'))

  pub unequal_short : lent.staging < reads * ssize → moved (Err (record { why = Refusal.Staging; at = e })) dev w j ≡ go base lent tree start
  unfolding moved move_unequal stage ◌>>◌ ◌>>=◌
  unequal_short h = sym (stage_short base lent (reads * ssize) (reading >>= rest) start h)

  module _ (fits : reads * ssize ≤ lent.staging) where
    enough : go base lent (reading >>= rest) start ≡ go base lent tree start
    unfolding move_unequal stage ◌>>◌ ◌>>=◌
    enough = sym (stage_enough base lent (reads * ssize) (reading >>= rest) start fits)

    module _ (r : Option ℕ) (l : List ℕ) (did : read_to r l start ≡ go base lent reading start) where
      then_rest : (q : Option ℕ) → r ≡ q → and_then (read_to q l start) (λ p. go base lent (rest p)) ≡ go base lent tree start
      then_rest q h =
          ap (λ (o : Out (ℕ × List ℕ)). and_then o (λ p. go base lent (rest p))) (sym (ap (λ (x : Option ℕ). read_to x l start) h) ∙ did)
          ∙ sym (go_bind base lent reading rest start)
          ∙ enough

      pub unequal_unread : r ≡ None → moved (Err (record { why = Refusal.Outside; at = e })) dev w j ≡ go base lent tree start
      unfolding moved read_to and_then
      unequal_unread h = then_rest None h

      module _ {s' : ℕ} (at : r ≡ Some s') (q : Result Written (Stopped ℕ)) (w' j' : List ℕ) (put : wrote q dev w' j' ≡ go base lent (writing l) start)
        where
          ended : (x : Result Written (Stopped ℕ)) → q ≡ x → and_then (wrote x dev w' j') (λ d'. go base lent (done (s', d'))) ≡ go base lent tree start
          unfolding read_to and_then
          ended x h =
              ap (λ (o : Out ℕ). and_then o (λ d'. go base lent (done (s', d')))) (sym (ap (λ (y : Result Written (Stopped ℕ)). wrote y dev w' j') h) ∙ put)
              ∙ sym (go_bind base lent (writing l) (λ d'. done (s', d')) start)
              ∙ then_rest (Some s') at

          pub unequal_to : {written : Written} → q ≡ Ok written
              → moved (Ok (record { from = s'; to = written.to; at = written.at })) dev w' j' ≡ go base lent tree start
          unfolding moved wrote and_then go
          unequal_to {written} h = ended (Ok written) h

          pub unequal_not : {stopped : Stopped ℕ} → q ≡ Err stopped → moved (Err stopped) dev w' j' ≡ go base lent tree start
          unfolding moved wrote and_then
          unequal_not {stopped} h = ended (Err stopped) h
