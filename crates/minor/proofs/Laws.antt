-- A transfer, by its sizes; and a pass, by how its transfer ends. Assumes nothing.
use Rattle.std.specs.Prelude.{Some, None, Result, Ok, Err}
use mathlib.Core.Bool.{Bool, true, false, cond}
use mathlib.Core.List.{List}
use mathlib.Core.Path.{◌≡◌, refl, sym, ap, ◌∙◌}
use Prim.Native.Nat.{ℕ, ◌+◌, ◌*◌, ◌/◌, ◌^◌, ◌≤◌}
use lib.Dec.{eqb}
use lib.ListN.{length}
use borrow.Author.Tests.{eq-eqb, ne_eqb}
use Rattle.rules.specs.Act.{Act, done, ask, ◌>>=◌, ◌>>◌}
use Rattle.rules.specs.Bytes.{part}
use Rattle.rules.specs.Carry.{World, Out, ok, go, Lent}
use Rattle.rules.specs.Minor.{tcd_of, ssize, dsize, move_sizes, move_unequal, transfer, minor_bytes, minor_end, offset, source_offset, dest_offset, pass}
use Rattle.rules.specs.Words.{count_of, size_of, wholes}
use Rattle.rules.specs.State.{Device}
use Rattle.rules.specs.declared.Tcd.{Tcd}
use Rattle.rules.proofs.Steps.{and_then, go_bind}
use Rattle.act.specs.Worlds.{over, world, came_to, on}
use Rattle.act.specs.declared.Flow.{Flow}
use Rattle.act.specs.Worlds.{Step}
use Rattle.act.specs.declared.Stopped.{Stopped}
use Rattle.act.proofs.Laws.{on_then, described}
use Rattle.equal_sizes.specs.Moves.{moved}
use Rattle.equal_sizes.specs.declared.Moved.{Moved}
use Rattle.equal_sizes.specs.declared.steps.Steps.{Steps}
use Rattle.minor.specs.Passes.{passed}
use Rattle.minor.specs.Stepping.{StepsOf}

-- ---- a transfer

module _ (t : Tcd) (n : ℕ) {from to reads : ℕ} {step : Steps} (p : from ≡ size_of (t.attr / 2 ^ 8)) (q : to ≡ size_of t.attr) (s : StepsOf t step)
    (r : reads ≡ wholes n from)
  where
    pub transfer_equal : from ≡ to → move_sizes reads step.soff step.smod step.doff step.dmod from t.saddr t.daddr ≡ transfer t n
    unfolding transfer ssize dsize
    transfer_equal e = rw (s.soff, s.smod, s.doff, s.dmod, ← p, ← q, ← r, eq-eqb from to e)

    pub transfer_unequal : (from ≡ to → ⊥) → move_unequal reads step.soff step.smod step.doff step.dmod from to t.saddr t.daddr ≡ transfer t n
    unfolding transfer ssize dsize
    transfer_unequal e = rw (s.soff, s.smod, s.doff, s.dmod, ← p, ← q, ← r, ne_eqb from to e)

-- ---- a pass

-- the scalars, with another end of the journal
abbrev pub ended : Flow → ℕ → Flow
ended c e = record { scalars = c.scalars; at = e }

module _ (base : ℕ) (lent : Lent) (d : Device) (c : Flow) (w j t m : List ℕ) (ch : ℕ) {x : Tcd} (read : x ≡ tcd_of (part t (32 * ch) 32)) (fits : 32 * ch + 32 ≤ length t) where
  abbrev start : World
  start = world d c w j t m

  abbrev moving : Act (ℕ × ℕ)
  moving = transfer x (minor_bytes c.scalars.cr x)

  abbrev finishing : ℕ × ℕ → Act (Unit {0})
  finishing p = minor_end ch x (offset (source_offset c.scalars.cr x) x p.0) (offset (dest_offset c.scalars.cr x) x p.1)

  abbrev rest : ℕ × ℕ → Act Bool
  rest p = finishing p >> done true

  body : go base lent (cond (eqb (count_of x.citer) 0) (done false) (moving >>= rest)) start ≡ go base lent (pass ch) start
  unfolding pass came_to on go ask ◌>>=◌
  body = described base lent (Ok c) d w j t m ch _ read fits

  pub pass_idle : {n : ℕ} → n ≡ count_of x.citer → n ≡ 0 → passed None c d w j t m ≡ go base lent (pass ch) start
  unfolding passed go
  pass_idle counted e = rw (eq-eqb (count_of x.citer) 0 (sym counted ∙ e)) at body

  module _ {n : ℕ} (counted : n ≡ count_of x.citer) (some : n ≡ 0 → ⊥) (r : Result Moved (Stopped ℕ)) (w' j' : List ℕ) (did : moved r (over d c t m) w' j' ≡ go base lent moving start) where
    working : (q : Result Moved (Stopped ℕ)) → r ≡ q → and_then (moved q (over d c t m) w' j') (λ p. go base lent (rest p)) ≡ go base lent (pass ch) start
    working q h =
        ap (λ (o : Out (ℕ × ℕ)). and_then o (λ p. go base lent (rest p))) (sym (ap (λ (y : Result Moved (Stopped ℕ)). moved y (over d c t m) w' j') h) ∙ did)
        ∙ sym (go_bind base lent moving rest start)
        ∙ rw (ne_eqb (count_of x.citer) 0 (λ z. some (counted ∙ z))) at body

    pub pass_not : {stopped : Stopped ℕ} → r ≡ Err stopped → passed (Some (Err (record { why = stopped.why; at = ended c stopped.at }))) c d w' j' t m ≡ go base lent (pass ch) start
    unfolding passed moved and_then
    pass_not {stopped} h = working (Err stopped) h

    ran : (q : Step) (w'' j'' t'' m'' : List ℕ) → passed (Some q) c d w'' j'' t'' m'' ≡ on base lent (done true) (came_to q d w'' j'' t'' m'')
    unfolding passed on came_to go
    ran (Ok f) w'' j'' t'' m'' = refl
    ran (Err stopped) w'' j'' t'' m'' = refl

    pub pass_to : {moved : Moved} {s₁ d₁ : ℕ} → r ≡ Ok moved → s₁ ≡ offset (source_offset c.scalars.cr x) x moved.from → d₁ ≡ offset (dest_offset c.scalars.cr x) x moved.to
        → (q : Step) (w'' j'' t'' m'' : List ℕ) → came_to q d w'' j'' t'' m'' ≡ on base lent (minor_end ch x s₁ d₁) (came_to (Ok (ended c moved.at)) d w' j' t m)
        → passed (Some q) c d w'' j'' t'' m'' ≡ go base lent (pass ch) start
    unfolding moved and_then came_to on
    pass_to {moved} {s₁} {d₁} h p₁ p₂ q w'' j'' t'' m'' k =
        let o : Out (Unit {0}) = ok tt (world d (ended c moved.at) w' j' t m) in
        ran q w'' j'' t'' m''
        ∙ ap (on base lent (done true)) k
        ∙ sym (on_then base lent (minor_end ch x s₁ d₁) (done true) o)
        ∙ ap (λ (y : ℕ). on base lent (minor_end ch x y d₁ >> done true) o) p₁
        ∙ ap (λ (y : ℕ). on base lent (minor_end ch x (offset (source_offset c.scalars.cr x) x moved.from) y >> done true) o) p₂
        ∙ working (Ok moved) h
