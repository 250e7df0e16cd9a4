-- What an act can hear: nothing, or a level from 1 to 7 and a vector from 64 to 255. Assumes nothing.
use Rattle.std.specs.Prelude.{Some, None}
use mathlib.Core.Bool.{Bool, true, false, cond, not, ◌&&◌}
use mathlib.Core.List.{List, []}
use mathlib.Core.Path.{◌≡◌, refl}
use Prim.Native.Nat.{ℕ, zero, suc, ◌+◌, ◌*◌, ◌≤◌, ◌<◌}
use native.Mathlib.Nat.{mod-lt}
use native.Mathlib.Omega.{arith}
use borrow.Author.Tests.{eqb-false}
use lib.Dec.{eqb, leb, lit<}
use lib.ListN.{length, get_or}
use Rattle.rules.specs.Act.{Act, change, TAKEN}
use Rattle.rules.specs.Calls.{Asked, write, inputs, pending, run, service, ack, levelled, act_of, stops, wrong_back, heard_told, staging_after, world_of, told_after, after, heard_nothing, after_back}
use Rattle.rules.specs.Carry.{World, Out, ok, no, go, After, made, unmade, last_lines, written, cleared, leave, perform, Lent, lending}
use Rattle.rules.specs.Lines.{sources, level_bytes, relevel, answers, Found, loudest_above, above, heard_from, hear, acknowledge}
use Rattle.rules.specs.TakeBack.{take_back}
use Rattle.rules.specs.Words.{has}
use Rattle.rules.specs.State.{Device}
use Rattle.rules.specs.Verdicts.{Heard}
use Rattle.rules.proofs.CallLaws.{either_way}
use Rattle.rules.proofs.Leads.{IfAnswered, Leads, leads_bind, leads_then, leads_done, leads_cond, shrinks}

abbrev pub Audible : Heard → Type 0
Audible None = Unit {0}
Audible (Some source) = (0 < source.level) × (source.level < 8) × (64 ≤ source.vector) × (source.vector < 256)

-- ---- what is found

-- a level below 8 at a place below n
Below : ℕ → Found → Type 0
Below n f = (f.0 < 8) × (f.1 < n)

either_below : (n : ℕ) (b : Bool) (f g : Found) → Below n f → Below n g → Below n (cond b f g)
either_below n true f g p q = p
either_below n false f g p q = q

loudest_below : (ipl : ℕ) (levels : List ℕ) (m s : ℕ) → s ≤ 64 → Below 64 (loudest_above ipl levels m s)
unfolding loudest_above Below
loudest_below ipl levels m zero h = (lit< tt, lit< tt)
loudest_below ipl levels m (suc s) h =
    let below = loudest_above ipl levels m s in
    either_below 64 (has m s && answers ipl _ && leb below.0 _) (_, s) below (mod-lt (get_or levels s 0) (lit< tt), h) (loudest_below ipl levels m s (omega arith))

above_below : (c : ℕ) → c < 3 → (f below : Found) → Below 64 f → Below 192 below → Below 192 (above c f below)
unfolding above Below
above_below c h (l, s) below p q = either_below 192 (not (eqb l 0) && leb below.0 l) (l, 64 * c + s) below (p.0, omega (arith, p.1)) q

module _ {base : ℕ} {lent : Lent} where
  heard_below : (ipl c : ℕ) → c < 3 → (below : Found) (u : World) → Below 192 below → Leads base lent u (heard_from ipl c below) (λ f _. Below 192 f)
  unfolding heard_from
  heard_below ipl c h below u p =
      leads_bind (shrinks (sources c) u (length u.free) (omega arith)) λ m v _.
      leads_bind (shrinks (level_bytes c 64 0) v (length v.free) (omega arith)) λ levels w _.
      leads_done (above_below c h (loudest_above ipl levels m 64) below (loudest_below ipl levels m 64 (omega arith)) p)

  hear_audible : (f : Found) (u : World) → Below 192 f → Leads base lent u (hear f) (λ heard _. Audible heard)
  unfolding hear Below
  hear_audible (l, i) u p =
      leads_cond (eqb l 0) (λ _. leads_done tt) (λ e.
      leads_then (shrinks (change (TAKEN i) _) u (length u.free) (omega arith)) λ _ v _.
      leads_done (omega (arith, eqb-false l 0 e), p.0, omega arith, omega (arith, p.1)))

  acknowledge_audible : (ipl : ℕ) (u : World) → Leads base lent u (acknowledge ipl) (λ heard _. Audible heard)
  unfolding acknowledge Below
  acknowledge_audible ipl u =
      leads_bind (heard_below ipl 0 (lit< tt) (0, 0) u (lit< tt, lit< tt)) λ h0 v p.
      leads_bind (heard_below ipl 1 (lit< tt) h0 v p) λ h1 w q.
      leads_bind (heard_below ipl 2 (lit< tt) h1 w q) λ h2 x r.
      hear_audible h2 x r

  levelled_audible : (m : Act (Unit {0})) (u : World) → Leads base lent u (levelled m) (λ heard _. Audible heard)
  unfolding levelled
  levelled_audible m u =
      leads_then (shrinks m u (length u.free) (omega arith)) λ _ v _.
      leads_then (shrinks relevel v (length v.free) (omega arith)) λ _ w _.
      leads_done tt

  call_audible : (c : Asked) (u : World) → Leads base lent u (act_of c) (λ heard _. Audible heard)
  unfolding act_of
  call_audible (write address size v) u = levelled_audible _ u
  call_audible (inputs standing l0 l1 l2) u = levelled_audible _ u
  call_audible (pending ch count) u = levelled_audible _ u
  call_audible (run now pace) u = levelled_audible _ u
  call_audible (service now pace) u = levelled_audible _ u
  call_audible (ack ipl) u = acknowledge_audible ipl u

-- ---- what a call tells

pub act_hears : (c : Asked) (base : ℕ) (d : Device) (window staging journal : List ℕ) (used : ℕ) → Audible (heard_told (after c base d window staging journal used))
unfolding after perform leave told_after
act_hears c base d window staging journal used =
    either_way (λ t. Audible (heard_told t)) d window staging journal used (stops base (length window) (length journal) used c d) (λ k _. tt)
    (λ _. left (go base (lending (length staging)) (act_of c) u) (call_audible c u).answered)
  where
    u : World
    u = world_of d window journal used

    left : (o : Out Heard) → IfAnswered (λ heard _. Audible heard) o → Audible (heard_told (told_after (staging_after c staging) used (leave u o)))
    left (no n v) p = tt
    left (ok heard v) p =
        elim (leb (length (last_lines u v)) (length v.free))
        as (λ b. Audible (heard_told (told_after (staging_after c staging) used (elim b [ true ↦ made heard (written (last_lines u v) v) | false ↦ unmade 11 (cleared u) ])))) [
          | true ↦ p
          | false ↦ tt
        ]

-- a take-back hears nothing
pub back_hears : (base : ℕ) (d : Device) (window journal : List ℕ) (used : ℕ) → heard_told (after_back base d window journal used) ≡ None
unfolding after_back
back_hears base d window journal used =
    either_way (λ t. heard_told t ≡ None) d window [] journal used (wrong_back base (length window) (length journal) used) (λ k _. refl)
    (λ _. by_end (take_back base (world_of d window journal used)))
  where
    by_end : (o : After (Unit {0}) World) → heard_told (told_after [] used (heard_nothing o)) ≡ None
    by_end (made a v) = unfold told_after heard_nothing in refl
    by_end (unmade n v) = unfold told_after heard_nothing in refl
