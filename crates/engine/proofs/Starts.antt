-- How a call begins: refusals 5, 6 and 7 by cases, what holds where none is given, the turns of a run, and a service's. Assumes nothing.
use Rattle.std.specs.Prelude.{Ok}
use mathlib.Core.Bool.{Bool, true, false, cond, not, ◌&&◌, ◌||◌, false≢true}
use mathlib.Core.List.{List, [], ◌++◌, append-nil}
use mathlib.Core.Path.{◌≡◌, refl, sym, ap, ◌∙◌, subst}
use Prim.Native.Nat.{ℕ, ◌+◌, ◌-◌, ◌%◌, ◌^◌, ◌≤◌, ◌<◌}
use native.Mathlib.Nat.{lt_of_le_of_lt}
use native.Mathlib.Omega.{arith}
use borrow.Author.Tests.{ltb-false}
use lib.Bits.{bit_and, bit_or, or_lt, and_le_l}
use lib.Dec.{eqb, ltb, lit<}
use lib.ListN.{length, set, take, drop, replicate}
use lib.Seq.{drop-length}
use Rattle.rules.specs.Act.{ask, put, change, look, when, ◌>>=◌}
use Rattle.rules.specs.Scalars.{ERQ, KICK, DEFERRED, view_scalars}
use Rattle.rules.specs.Calls.{bad_window, bad_journal, bad_time, check, wrong, run}
use Rattle.rules.specs.Carry.{World, Out, ok, with_device, go, Lent, lending}
use Rattle.rules.specs.Fields.{bits_of, holds, with_field}
use Rattle.rules.specs.Run.{requesting, turns, run_turns, chip_turns, release, run_all, service_all}
use Rattle.rules.specs.View.{view_priorities}
use Rattle.rules.specs.With.{with_busy}
use Rattle.rules.specs.State.{Device}
use Rattle.rules.specs.declared.Scalars.{Scalars}
use Rattle.rules.proofs.BoolLaws.{neither}
use Rattle.rules.proofs.CallLaws.{passed, window_fits}
use Rattle.rules.proofs.Each.{proper_field}
use Rattle.rules.proofs.Proper.{Proper}
use Rattle.rules.proofs.Leads.{IfAnswered, proper_kept}
use Rattle.rules.proofs.Steps.{bind_ok, then_ok, ask-does, put-does, change-does}
use Rattle.act.specs.Does.{beside, Answers}
use Rattle.act.specs.Worlds.{came_to}
use Rattle.act.specs.declared.Flow.{Flow}
use Rattle.act.specs.Worlds.{Step}
use Rattle.chip.specs.Turned.{Chips}
use Rattle.controllers.specs.Waiting.{waiting_in}
use Rattle.controllers.proofs.InputLaws.{requesting-answers}
use Rattle.turns.specs.Frees.{Frees}
use Rattle.turns.specs.Turns.{turning, Turns}
use Rattle.act.specs.Parts.{working, whole}
use Rattle.engine.specs.Runs.{run_of, TakesTurns, numbered, Begins}

-- ---- refusals 5, 6 and 7

module _ (base window journal used time pace : ℕ) {a : Bool} (first : a ≡ bad_window base window) where
  pub window_bad : a ≡ true → 5 ≡ wrong base window journal used (run time pace)
  unfolding wrong check
  window_bad h = rw (← first, h)

  module _ (h : a ≡ false) {b : Bool} (second : b ≡ bad_journal journal used) where
    pub journal_bad : b ≡ true → 6 ≡ wrong base window journal used (run time pace)
    unfolding wrong check
    journal_bad k = rw (← first, h, ← second, k)

    module _ (k : b ≡ false) {c : Bool} (third : c ≡ bad_time time pace) where
      pub time_bad : c ≡ true → 7 ≡ wrong base window journal used (run time pace)
      unfolding wrong check
      time_bad l = rw (← first, h, ← second, k, ← third, l)

      pub none_bad : c ≡ false → 0 ≡ wrong base window journal used (run time pace)
      unfolding wrong check
      none_bad l = rw (← first, h, ← second, k, ← third, l)

-- where none is given
pub record Right (base window journal used time pace : ℕ) : Type 0 where
  pub early : time ≤ 2 ^ 62
  pub slow : pace ≤ 1000000
  pub within : used ≤ journal
  pub below : base + window ≤ 2 ^ 32

pub right : (base window journal used time pace : ℕ) → wrong base window journal used (run time pace) ≡ 0 → Right base window journal used time pace
unfolding wrong bad_journal bad_time
right base window journal used time pace e =
    let w = passed (bad_window base window) 4 _ e in
    let j = passed (bad_journal journal used) 5 _ w.1 in
    let t = neither (ltb (2 ^ 62) time) (ltb 1000000 pace) (passed (bad_time time pace) 6 0 j.1).0 in
    record {
      early = ltb-false _ _ t.0;
      slow = ltb-false _ _ t.1;
      within = ltb-false _ _ (neither (ltb (2 ^ 28) journal || not (eqb (used % 16) 0)) (ltb journal used) j.0).1;
      below = window_fits base window w.0;
    }

-- ---- the turns of a run

pub zeros : (s : List ℕ) (n : ℕ) {s' : List ℕ} → s' ≡ take 0 s ++ replicate (length s - 0) 0 ++ drop (length s) s → length s ≡ n → s' ≡ replicate n 0
zeros s n h e = let q : length s - 0 ≡ n = omega arith in h ∙ rw (q, drop-length s, append-nil)

-- ---- a service's

module _ (time : ℕ) (d : Device) (back asking : ℕ) (b : List ℕ) (frees : Frees time (holds ERQ d) back d.busy b) (asks : Answers requesting (with_busy d b) asking (with_busy d b))
    (hb : back < 2 ^ 64) (hk : holds KICK d < 2 ^ 64) (hd : holds DEFERRED d < 2 ^ 64) (apart : holds KICK (with_field DEFERRED 0 d) ≡ holds KICK d)
  where
    abbrev joined : ℕ
    joined = bit_or (holds KICK d) (bit_and (bit_or back (holds DEFERRED d)) (bit_or asking (holds KICK d)))

    fits : joined < 2 ^ 64
    fits = or_lt 64 (holds KICK d) _ hk (lt_of_le_of_lt (and_le_l (bit_or back (holds DEFERRED d)) (bit_or asking (holds KICK d))) (or_lt 64 back (holds DEFERRED d) hb hd))

    pub begun_again : (pace base : ℕ) (lent : Lent) (mem used free : List ℕ)
        → go base lent (service_all time pace) (beside mem used free d) ≡ go base lent (run_of true time pace) (beside mem used free (with_field KICK joined (with_field DEFERRED 0 (with_busy d b))))
    unfolding service_all Answers with_device bits_of
    begun_again pace base lent mem used free =
        let u : World = beside mem used free (with_busy d b) in
        let v : World = beside mem used free (with_field DEFERRED 0 (with_busy d b)) in
        let g : ℕ → ℕ = λ k. bit_or k (bit_and (bit_or back (holds DEFERRED d)) (bit_or asking k)) in
        bind_ok base lent (release time 64 0 0) _ (beside mem used free d) (frees base lent mem used free d refl)
        ∙ bind_ok base lent (ask DEFERRED) _ u (ask-does base lent u DEFERRED)
        ∙ bind_ok base lent requesting _ u (asks base lent mem used free)
        ∙ then_ok base lent (put DEFERRED 0) _ u (put-does base lent u DEFERRED 0 (lit< tt))
        ∙ then_ok base lent (change KICK g) _ v (rw (ap g apart) at (change-does base lent v KICK g (rw (ap g apart) fits)))

    -- and the device is proper still
    pub begun_proper : Proper d → Proper (with_field KICK joined (with_field DEFERRED 0 (with_busy d b)))
    unfolding bits_of
    begun_proper p =
        let u : World = beside [] [] [] d in
        let freed : Proper (with_busy d b) = subst (IfAnswered (λ _ v. Proper v.now.dev)) (frees 0 (lending 0) [] [] [] d refl) (proper_kept {base = 0} {lent = lending 0} (release time 64 0 0) u p).answered in
        proper_field KICK joined (with_field DEFERRED 0 (with_busy d b)) fits (proper_field DEFERRED 0 (with_busy d b) (lit< tt) freed)

-- where the turns begin

pub begins_run : (again : Bool) → again ≡ false → (time : ℕ) (s : Scalars) (used : ℕ) (b p : List ℕ) {r : Flow} → r ≡ record { scalars = s; at = used } → Begins again time s r b b p used
begins_run again h time s used b p e = record { goes = λ pace base lent k ignore x tb m w j. rw (h, e) refl; proper = λ k ignore x tb m w j q. rw e q }

pub begins_service : (again : Bool) → again ≡ true → (time : ℕ) (s : Scalars) (used : ℕ) (b b' p : List ℕ) (r : Flow) → Begins true time s r b b' p used → Begins again time s r b b' p used
begins_service again h time s used b b' p r o = rw h o

pub begins_again : (time : ℕ) (s : Scalars) (used back asking : ℕ) (b b' p : List ℕ) → Frees time s.erq back b b' → asking ≡ waiting_in p 64 0 s.standing
    → back < 2 ^ 64 → s.kick < 2 ^ 64 → s.deferred < 2 ^ 64
    → (n : Scalars) → view_scalars n ≡ set (set (view_scalars s) 6 0) 5 (bit_or s.kick (bit_and (bit_or back s.deferred) (bit_or asking s.kick)))
    → Begins true time s (record { scalars = n; at = used }) b b' p used
begins_again time s used back asking b b' p frees asks hb hk hd n v = record {
  goes = λ pace base lent k ignore x tb m w j.
      let d : Device = whole (numbered s k ignore) (working x tb b m p) in
      rw v (begun_again time d back asking b' frees (requesting-answers (with_busy d b') asks) hb hk hd refl pace base lent w (take used j) (drop used j));
  proper = λ k ignore x tb m w j q.
      let d : Device = whole (numbered s k ignore) (working x tb b m p) in
      rw v (begun_proper time d back asking b' frees (requesting-answers (with_busy d b') asks) hb hk hd refl q);
}

-- ---- turns as the mode makes them

-- of a service KICK is asked
pub asked_again : (again : Bool) (kick : ℕ) → again ≡ true → eqb kick 0 ≡ (again && eqb kick 0)
asked_again again kick h = rw h

module _ (time pace base : ℕ) (lent : Lent) (u : World) where
  abbrev by_mode : Out (Unit {0})
  by_mode = go base lent (cond u.now.dev.chip (chip_turns time pace run_turns 0) (turns time pace run_turns)) u

  run-by_mode : go base lent (run_all time pace) u ≡ by_mode
  unfolding run_all go look ◌>>=◌
  run-by_mode = refl

  kick_asked : go base lent (run_of true time pace) u ≡ go base lent (when (not (eqb (holds KICK u.now.dev) 0)) (run_all time pace)) u
  kick_asked = bind_ok base lent (ask KICK) (λ kick. when (not (eqb kick 0)) (run_all time pace)) u (ask-does base lent u KICK)

  none_taken : (again : Bool) → (again && eqb (holds KICK u.now.dev) 0) ≡ true → go base lent (run_of again time pace) u ≡ ok tt u
  none_taken true e = kick_asked ∙ ap (λ (x : Bool). go base lent (when (not x) (run_all time pace)) u) e ∙ (unfold when go in refl)
  none_taken false e = absurd (false≢true e)

  some_taken : (again : Bool) → (again && eqb (holds KICK u.now.dev) 0) ≡ false → go base lent (run_of again time pace) u ≡ by_mode
  some_taken true e = kick_asked ∙ ap (λ (x : Bool). go base lent (when (not x) (run_all time pace)) u) e ∙ (unfold when in run-by_mode)
  some_taken false e = run-by_mode

module _ (again chip : Bool) (o : List ℕ) (time pace base : ℕ) (lent : Lent) (t : Flow) (w j tb b m p : List ℕ) {q : Bool} (asked : q ≡ (again && eqb t.scalars.kick 0)) where
  pub turns_idle : q ≡ true → TakesTurns again chip o time pace base lent t (Ok t) w w j j tb tb b b m m p p
  unfolding came_to
  turns_idle h d proper mode order = sym (none_taken time pace base lent (turning d t w j tb b m p) again (sym asked ∙ h))

  module _ (h : q ≡ false) (r : Step) (w' j' tb' b' m' p' : List ℕ) where
    pub turns-chip : chip ≡ true → Chips time pace base lent o t r w w' j j' tb tb' b b' m m' p p' → TakesTurns again chip o time pace base lent t r w w' j j' tb tb' b b' m m' p p'
    turns-chip c did d proper mode order =
        did d proper (order ∙ ap (λ (x : Bool). view_priorities x o) c)
        ∙ sym (some_taken time pace base lent (turning d t w j tb b m p) again (sym asked ∙ h) ∙ ap (λ (x : Bool). go base lent (cond x (chip_turns time pace run_turns 0) (turns time pace run_turns)) (turning d t w j tb b m p)) (mode ∙ c))

    pub turns_old : chip ≡ false → Turns (turns time pace run_turns) base lent t r w w' j j' tb tb' b b' m m' p p' → TakesTurns again chip o time pace base lent t r w w' j j' tb tb' b b' m m' p p'
    turns_old c did d proper mode order =
        did d
        ∙ sym (some_taken time pace base lent (turning d t w j tb b m p) again (sym asked ∙ h) ∙ ap (λ (x : Bool). go base lent (cond x (chip_turns time pace run_turns 0) (turns time pace run_turns)) (turning d t w j tb b m p)) (mode ∙ c))
