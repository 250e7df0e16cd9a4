-- A turn, by cases, as the code makes it; and turns one after another: what is left to do from where the loop stands is the whole from where it
-- began. Assumes nothing.
use Rattle.std.specs.Prelude.{Some, None, Ok, Err, Option, Result}
use mathlib.Core.Bool.{Bool, true, false, cond, not, ◌&&◌}
use mathlib.Core.List.{List}
use mathlib.Core.Path.{◌≡◌, refl, sym, ap, ap₂, ◌∙◌, subst}
use Prim.Native.Nat.{ℕ, suc, ◌+◌, ◌-◌, ◌*◌, ◌^◌, ◌≤◌, ◌<◌}
use native.Mathlib.Omega.{arith}
use borrow.Author.Tests.{ne_eqb, lt-ltb}
use lib.Dec.{eqb, ltb}
use lib.ListN.{length, get_or, set}
use lib.Seq.{get_or-set_other}
use Rattle.rules.specs.Act.{Act, PENDING, done, nothing, change, when, ◌>>=◌, ◌>>◌}
use Rattle.rules.specs.Bytes.{number, part}
use Rattle.rules.specs.Calls.{world_of, refusal_number}
use Rattle.rules.specs.Carry.{World, Out, ok, no, with_device, go, Lent}
use Rattle.rules.specs.Fields.{bits_of, holds}
use Rattle.rules.specs.Minor.{tcd_of, pass, START}
use Rattle.rules.specs.Run.{paced, choose, chip_turn, chip_turns}
use Rattle.rules.specs.Scalars.{KICK, view_scalars}
use Rattle.rules.specs.State.{Device}
use Rattle.rules.specs.View.{view_priorities}
use Rattle.rules.specs.With.{with_scalars, with_table, with_majors}
use Rattle.rules.specs.Words.{has, gain, lose}
use Rattle.rules.specs.declared.Scalars.{Scalars}
use Rattle.rules.proofs.Proper.{Proper}
use Rattle.rules.proofs.Leads.{IfAnswered, proper_kept}
use Rattle.rules.proofs.Linked.{Flags, turn_spares}
use Rattle.rules.proofs.Steps.{putting, go-done, bind_ok, bind_no, then_ok, change-does}
use Rattle.act.specs.Worlds.{came_to}
use Rattle.act.specs.declared.Flow.{Flow}
use Rattle.act.specs.Worlds.{Step}
use Rattle.minor.specs.Passes.{passed, Passes}
use Rattle.channel.proofs.Reading.{tcd_in, descriptor_read}
use Rattle.turns.specs.Turns.{around, turning, Paces}
use Rattle.chip.specs.Chosen.{chosen}
use Rattle.chip.specs.Seen.{start_in, Sees, ready_in, minor_link, major_link, Renews}
use Rattle.chip.specs.Turned.{turned_to, line_turn, Passing, Serves}
use Rattle.chip.specs.declared.Kept.{Kept}
use Rattle.chip.specs.declared.Turned.{Turned}
use Rattle.act.specs.declared.Stopped.{Stopped}
use Rattle.chip.proofs.Choosing.{ready_at, choose-goes, chosen_none}
use Rattle.chip.proofs.Seeing.{ready_seen, sees_again}

-- ---- one pass

module _ (base : ℕ) (lent : Lent) (ch : ℕ) (t : Flow) (w w' j j' tb tb' m m' : List ℕ) (r : Option Step) (did : Passes (pass ch) base lent t r w w' j j' tb tb' m m') where
  pub pass_not : r ≡ None → Passing (pass ch) base lent t (Ok (record { went = false; flow = t })) w w' j j' tb tb' m m'
  unfolding passed turned_to
  pass_not e d = rw e at (did d)

  pub pass_went : (s : Step) (f : Flow) → r ≡ Some s → s ≡ Ok f → Passing (pass ch) base lent t (Ok (record { went = true; flow = f })) w w' j j' tb tb' m m'
  unfolding passed turned_to
  pass_went s f ran e d = rw (ran, e) at (did d)

  pub pass-off : (s : Step) (stopped : Stopped Flow) → r ≡ Some s → s ≡ Err stopped → Passing (pass ch) base lent t (Err stopped) w w' j j' tb tb' m m'
  unfolding passed turned_to
  pass-off s stopped ran e d = rw (ran, e) at (did d)

-- what comes behind it: with its answer, or not at all
module _ (base : ℕ) (lent : Lent) (d : Device) (w' j' tb' m' : List ℕ) (u : World) (act : Act Bool) (k : Bool → Act Bool) where
  pub passes_on : (r : Result Turned (Stopped Flow)) → turned_to r d w' j' tb' m' ≡ go base lent act u
      → ((a : Bool) → k a ≡ (nothing >> done a)) → turned_to r d w' j' tb' m' ≡ go base lent (act >>= k) u
  unfolding turned_to go ◌>>=◌ ◌>>◌
  passes_on (Ok turned) e h = sym (bind_ok base lent act k u (sym e) ∙ rw (h turned.went))
  passes_on (Err stopped) e h = sym (bind_no base lent act k u (sym e))

-- ---- channel 35 on request

module _ (base : ℕ) (lent : Lent) (time pace : ℕ) (t : Flow) (w w' j j' tb tb' b m m' : List ℕ) (r : Result Turned (Stopped Flow)) (did : Passing (pass 35) base lent t r w w' j j' tb tb' m m')
    (bytes : ℕ) (read : bytes ≡ (tcd_of (part tb (32 * 35) 32)).nbytes) (long : length tb ≡ 2048)
  where
    others : (b' : List ℕ) (until : ℕ) → b' ≡ set b 35 until → (c : ℕ) → (35 ≡ c → ⊥) → get_or b' c 0 ≡ get_or b c 0
    others b' until e c f = ap (λ (l : List ℕ). get_or l c 0) e ∙ get_or-set_other b 35 c until 0 (λ z. f (sym z))

    begun : (d : Device) (p : List ℕ) → let u = turning d t w j tb b m p in
        go base lent (line_turn time pace) u ≡ go base lent (pass 35 >>= (λ went. paced time pace (cond went bytes 0) >> done went)) u
    unfolding line_turn
    begun d p = descriptor_read base lent 35 _ (turning d t w j tb b m p) (omega arith) ∙ rw (← read)

    pub line_went : (x : Turned) (g : Flow) (b' : List ℕ) → r ≡ Ok x → Paces time pace (cond x.went bytes 0) x.flow g b b' → (p : List ℕ)
        → Serves (line_turn time pace) 35 base lent t (Ok (record { went = x.went; flow = g })) w w' j j' tb tb' b b' m m' p p
    line_went x g b' e keeps p = record { does = does; busy = others b' _ keeps.until; pending = λ c h. refl }
      where
        does : (d : Device) → turned_to (Ok (record { went = x.went; flow = g })) (around d b' p) w' j' tb' m' ≡ go base lent (line_turn time pace) (turning d t w j tb b m p)
        does d =
            let u = turning d t w j tb b m p in
            (unfold turned_to go ◌>>=◌ in
            sym (begun d p ∙ bind_ok base lent (pass 35) (λ went. paced time pace (cond went bytes 0) >> done went) u (sym (rw e at (did (around d b p))))
            ∙ then_ok base lent (paced time pace (cond x.went bytes 0)) (done x.went) _ (keeps.does base lent d w' j' tb' m' p)))

    pub line-off : (stopped : Stopped Flow) → r ≡ Err stopped → (p : List ℕ) → Serves (line_turn time pace) 35 base lent t (Err stopped) w w' j j' tb tb' b b m m' p p
    line-off stopped e p = record { does = does; busy = λ c h. refl; pending = λ c h. refl }
      where
        does : (d : Device) → turned_to (Err stopped) (around d b p) w' j' tb' m' ≡ go base lent (line_turn time pace) (turning d t w j tb b m p)
        does d =
            let u = turning d t w j tb b m p in
            (unfold turned_to in
            sym (begun d p ∙ bind_no base lent (pass 35) (λ went. paced time pace (cond went bytes 0) >> done went) u (sym (rw e at (did (around d b p))))))

-- ---- a turn

-- behind the KICK bit and the descriptor
unfoldable pub served : ℕ → ℕ → ℕ → ℕ → ℕ → Act Bool
served time pace ch csr bytes = do
  when (not (has csr START) && not (eqb ch 35)) (change (PENDING ch) (λ count. count - 1))
  went ← pass ch
  when (not (has csr START) && eqb ch 35) (paced time pace (cond went bytes 0))
  done went

kick_gone : (base : ℕ) (lent : Lent) (time pace ch : ℕ) (u : World) → length u.now.dev.table ≡ 2048 → ch < 64 → lose (holds KICK u.now.dev) ch < 2 ^ 64
    → go base lent (chip_turn time pace ch) u ≡ go base lent (served time pace ch (tcd_in ch u).csr (tcd_in ch u).nbytes) (putting KICK (lose (holds KICK u.now.dev) ch) u)
unfolding chip_turn served bits_of with_device
kick_gone base lent time pace ch u long low h =
    then_ok base lent (change KICK (λ k. lose k ch)) _ u (change-does base lent u KICK (λ k. lose k ch) h)
    ∙ descriptor_read base lent ch _ (putting KICK (lose (holds KICK u.now.dev) ch) u) (omega arith)

module _ (base : ℕ) (lent : Lent) (time pace ch : ℕ) (t : Flow) (w w' j j' tb tb' b m m' p : List ℕ) (long : length tb ≡ 2048) (low : ch < 64) (kick : ℕ)
    (goes : kick ≡ lose t.scalars.kick ch) (fits : kick < 2 ^ 64) (n : Scalars) (gone : view_scalars n ≡ set (view_scalars t.scalars) 5 kick)
    (csr : ℕ) (read : csr ≡ (tcd_of (part tb (32 * ch) 32)).csr)
  where
    abbrev bytes : ℕ
    bytes = (tcd_of (part tb (32 * ch) 32)).nbytes

    from : (d : Device) → go base lent (chip_turn time pace ch) (turning d t w j tb b m p) ≡ go base lent (served time pace ch csr bytes) (turning d (record { scalars = n; at = t.at }) w j tb b m p)
    unfolding with_device
    from d =
        let now : view_scalars n ≡ set (view_scalars t.scalars) 5 (lose t.scalars.kick ch) = gone ∙ ap (set (view_scalars t.scalars) 5) goes in
        kick_gone base lent time pace ch (turning d t w j tb b m p) long low (rw goes at fits)
        ∙ ap₂ (λ (c : ℕ) (l : List ℕ). go base lent (served time pace ch c bytes) (world_of (with_majors (with_table (with_scalars (around d b p) l) tb) m) w j t.at))
        (sym read) (sym now)

    -- START led to it: nothing is spent, and there is no pace
    module _ (on : has csr START ≡ true) (r : Result Turned (Stopped Flow)) (did : Passing (pass ch) base lent (record { scalars = n; at = t.at }) r w w' j j' tb tb' m m') where
      started-does : (d : Device) → turned_to r (around d b p) w' j' tb' m' ≡ go base lent (chip_turn time pace ch) (turning d t w j tb b m p)
      unfolding served when go ◌>>=◌ ◌>>◌
      started-does d = passes_on base lent (around d b p) w' j' tb' m' (turning d (record { scalars = n; at = t.at }) w j tb b m p) (pass ch) (λ went. nothing >> done went) r (did (around d b p)) (λ a. refl) ∙ sym (from d ∙ rw on)

      pub turn-started : Serves (chip_turn time pace ch) ch base lent t r w w' j j' tb tb' b b m m' p p
      turn-started = record { does = started-does; busy = λ c h. refl; pending = λ c h. refl }

    module _ (off : has csr START ≡ false) where
      -- channel 35: the pace applies
      module _ (is : ch ≡ 35) (r : Result Turned (Stopped Flow)) (b' : List ℕ) (did : (p : List ℕ) → Serves (line_turn time pace) 35 base lent (record { scalars = n; at = t.at }) r w w' j j' tb tb' b b' m m' p p) where
        lined-does : (d : Device) → turned_to r (around d b' p) w' j' tb' m' ≡ go base lent (chip_turn time pace ch) (turning d t w j tb b m p)
        unfolding served when go ◌>>=◌ ◌>>◌ line_turn
        lined-does d =
            (did p).does d
            ∙ descriptor_read base lent 35 _ (turning d (record { scalars = n; at = t.at }) w j tb b m p) (omega arith)
            ∙ sym (from d ∙ rw (off, is))

        pub turn-lined : Serves (chip_turn time pace ch) ch base lent t r w w' j j' tb tb' b b' m m' p p
        turn-lined = record { does = lined-does; busy = λ c h. (did p).busy c (λ z. h (is ∙ z)); pending = λ c h. refl }

      -- another channel: one pending count is spent
      module _ (isn't : ch ≡ 35 → ⊥) (p' : List ℕ) (spent : p' ≡ set p ch (get_or p ch 0 - 1)) (count : get_or p ch 0 < 2 ^ 32) (r : Result Turned (Stopped Flow))
          (did : Passing (pass ch) base lent (record { scalars = n; at = t.at }) r w w' j j' tb tb' m m')
        where
          spends : (d : Device) → go base lent (served time pace ch csr bytes) (turning d (record { scalars = n; at = t.at }) w j tb b m p)
              ≡ go base lent (pass ch >>= (λ went. nothing >> done went)) (turning d (record { scalars = n; at = t.at }) w j tb b m p')
          unfolding served when bits_of with_device
          spends d =
              let u = turning d (record { scalars = n; at = t.at }) w j tb b m p in
              rw (off, ne_eqb ch 35 isn't)
              (then_ok base lent (change (PENDING ch) (λ count. count - 1)) (pass ch >>= (λ went. nothing >> done went)) u
              (change-does base lent u (PENDING ch) (λ count. count - 1) (less (get_or p ch 0) count))
              ∙ ap (λ (l : List ℕ). go base lent (pass ch >>= (λ went. nothing >> done went)) (turning d (record { scalars = n; at = t.at }) w j tb b m l)) (sym spent))
            where
              less : (x : ℕ) → x < 2 ^ 32 → x - 1 < 2 ^ 32
              less x h = omega arith

          asked_does : (d : Device) → turned_to r (around d b p') w' j' tb' m' ≡ go base lent (chip_turn time pace ch) (turning d t w j tb b m p)
          asked_does d =
              passes_on base lent (around d b p') w' j' tb' m' (turning d (record { scalars = n; at = t.at }) w j tb b m p') (pass ch) (λ went. nothing >> done went) r (did (around d b p')) (λ a. refl)
              ∙ sym (from d ∙ spends d)

          pub turn_asked : Serves (chip_turn time pace ch) ch base lent t r w w' j j' tb tb' b b m m' p p'
          turn_asked = record {
            does = asked_does;
            busy = λ c h. refl;
            pending = λ c h. ap (λ (l : List ℕ). get_or l c 0) spent ∙ get_or-set_other p ch c _ 0 (λ z. h (sym z));
          }

-- ---- turns one after another

-- one turn of the tree, where the ready channels are those of a mask
module _ (base : ℕ) (lent : Lent) (time pace : ℕ) (u : World) (long : length u.now.dev.table ≡ 2048) (past mask : ℕ)
    (seen : (c : ℕ) → c < 64 → has mask c ≡ (ready_at time u c && not (has past c))) (n : ℕ)
  where
    abbrev picked : ℕ
    picked = chosen mask u.now.dev.priorities 64 0 64 0

    chips_asked : go base lent (chip_turns time pace (suc n) past) u
        ≡ go base lent (cond (ltb picked 64) (chip_turn time pace picked >>= (λ went. chip_turns time pace n (cond went past (gain past picked)))) nothing) u
    unfolding chip_turns
    chips_asked = bind_ok base lent (choose time past 64 0 64 0) _ u (choose-goes base lent time past mask u long seen 64 0 64 0 refl)

    chips_none : mask ≡ 0 → go base lent (chip_turns time pace (suc n) past) u ≡ ok tt u
    chips_none e =
        let none : picked ≡ 64 = ap (λ (k : ℕ). chosen k u.now.dev.priorities 64 0 64 0) e ∙ chosen_none u.now.dev.priorities 64 0 64 0 in
        chips_asked ∙ rw none (go-done base lent tt u)

    module _ (ch : ℕ) (is : ch ≡ picked) (low : ch < 64) where
      chips-made : go base lent (chip_turns time pace (suc n) past) u ≡ go base lent (chip_turn time pace ch >>= (λ went. chip_turns time pace n (cond went past (gain past ch)))) u
      chips-made = chips_asked ∙ rw (← is, lt-ltb ch 64 low)

      chips-on : (went : Bool) (v : World) → go base lent (chip_turn time pace ch) u ≡ ok went v
          → go base lent (chip_turns time pace (suc n) past) u ≡ go base lent (chip_turns time pace n (cond went past (gain past ch))) v
      chips-on went v e = chips-made ∙ bind_ok base lent (chip_turn time pace ch) _ u e

      chips-off : (k : ℕ) (v : World) → go base lent (chip_turn time pace ch) u ≡ no k v → go base lent (chip_turns time pace (suc n) past) u ≡ no k v
      chips-off k v e = chips-made ∙ bind_no base lent (chip_turn time pace ch) _ u e

-- the loop stands at k, s, w, j, .. with `left` turns to go; `whole` is how the whole ends
pub record Stands (base : ℕ) (lent : Lent) (time pace : ℕ) (o : List ℕ) (d : Device) (whole : Out (Unit {0})) (k : Kept) (s : Flow) (w j tb b m p : List ℕ) (left : ℕ) : Type 0 where
  pub rest : go base lent (chip_turns time pace left k.past) (turning d s w j tb b m p) ≡ whole
  pub proper : Proper (turning d s w j tb b m p).now.dev
  pub sees : Sees time k tb b p
  pub priorities : d.priorities ≡ view_priorities true o

module _ {base : ℕ} {lent : Lent} {time pace : ℕ} {o : List ℕ} {d : Device} {whole : Out (Unit {0})} {k : Kept} {s : Flow} {w j tb b m p : List ℕ} {left : ℕ}
    (at : Stands base lent time pace o d whole k s w j tb b m p left)
  where
    pub chips_out : left ≤ 0 → came_to (Ok s) (around d b p) w j tb m ≡ whole
    unfolding came_to chip_turns go
    chips_out e = let z : left ≡ 0 = omega arith in rw z at at.rest

    module _ (after : ℕ) (more : left ≡ suc after) (mask : ℕ) (is : mask ≡ ready_in s.scalars.erq s.scalars.standing k) where
      abbrev u : World
      u = turning d s w j tb b m p

      from_here : go base lent (chip_turns time pace (suc after) k.past) (turning d s w j tb b m p) ≡ whole
      from_here = rw more at at.rest

      seen : (c : ℕ) → c < 64 → has mask c ≡ (ready_at time (turning d s w j tb b m p) c && not (has k.past c))
      unfolding ready_at
      seen c h = ap (λ (x : ℕ). has x c) is ∙ ready_seen s.scalars.erq s.scalars.standing time k tb b p at.sees c h

      pub chips_stop : mask ≡ 0 → came_to (Ok s) (around d b p) w j tb m ≡ whole
      unfolding came_to
      chips_stop e = sym (chips_none base lent time pace u at.proper.size k.past mask seen after e) ∙ from_here

      module _ (ch : ℕ) (chose : ch ≡ chosen mask (view_priorities true o) 64 0 64 0) (low : ch < 64) (lent' : Lent) (same : lent' ≡ lent) (r : Result Turned (Stopped Flow))
          (w' j' tb' b' m' p' : List ℕ) (did : Serves (chip_turn time pace ch) ch base lent' s r w w' j j' tb tb' b b' m m' p p')
        where
          picked_so : ch ≡ chosen mask d.priorities 64 0 64 0
          picked_so = rw at.priorities chose

          did_so : turned_to r (around d b' p') w' j' tb' m' ≡ go base lent (chip_turn time pace ch) (turning d s w j tb b m p)
          did_so = rw same at (did.does d)

          pub chips_refused : {stopped : Stopped Flow} → r ≡ Err stopped → came_to (Err stopped) (around d b' p') w' j' tb' m' ≡ whole
          unfolding came_to turned_to
          chips_refused {stopped} z =
              sym (chips-off base lent time pace u at.proper.size k.past mask seen after ch picked_so low (refusal_number stopped.why) (turning d stopped.at w' j' tb' b' m' p')
              (sym (rw z at did_so)))
              ∙ from_here

          module _ (x : Turned) (going : r ≡ Ok x) (k' : Kept) (minor major : ℕ) (one : minor ≡ minor_link tb ch)
              (other : major ≡ major_link tb ch) (renewed : Renews ch minor major time x.went k k' tb' b' p')
            where
              renewed_so : Renews ch (minor_link tb ch) (major_link tb ch) time x.went k k' tb' b' p'
              renewed_so =
                  subst (λ (y : ℕ). Renews ch y (major_link tb ch) time x.went k k' tb' b' p') one (subst (λ (y : ℕ). Renews ch minor y time x.went k k' tb' b' p') other renewed)

              made : go base lent (chip_turn time pace ch) (turning d s w j tb b m p) ≡ ok x.went (turning d x.flow w' j' tb' b' m' p')
              unfolding turned_to
              made = sym (rw going at did_so)

              starts-same : (c : ℕ) → (ch ≡ c → ⊥) → (minor_link tb ch ≡ c → ⊥) → (major_link tb ch ≡ c → ⊥) → start_in tb' c ≡ start_in tb c
              unfolding start_in
              starts-same c own y z =
                  ap (λ (n : ℕ). has n START)
                  (subst (IfAnswered (λ _ v. Flags c (number (part tb (32 * c + 0x1F) 1)) v)) made
                  (turn_spares {base = base} {lent = lent} time pace ch c low u at.proper (record { not_own = λ i. own (sym i); not_minor = λ i. y (sym i); not_major = λ i. z (sym i) })).answered)

              pub chips_again : Stands base lent time pace o d whole k' x.flow w' j' tb' b' m' p' after
              chips_again = record {
                rest =
                    ap (λ (y : ℕ). go base lent (chip_turns time pace after y) (turning d x.flow w' j' tb' b' m' p')) renewed.past
                    ∙ sym (chips-on base lent time pace u at.proper.size k.past mask seen after ch picked_so low x.went (turning d x.flow w' j' tb' b' m' p') made)
                    ∙ from_here;
                proper = subst (IfAnswered (λ _ v. Proper v.now.dev)) made (proper_kept {base = base} {lent = lent} (chip_turn time pace ch) u at.proper).answered;
                sees = sees_again ch time x.went k k' tb tb' b b' p p' at.sees renewed_so starts-same did.busy did.pending;
                priorities = at.priorities;
              }
