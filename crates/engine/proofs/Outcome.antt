-- How a call ends whose turns came to a world: rolled back where it is refused, and closed where it is not. Assumes nothing.
use Rattle.std.specs.Prelude.{None, Ok, Err}
use mathlib.Core.Bool.{Bool}
use mathlib.Core.List.{List}
use mathlib.Core.Path.{◌≡◌, refl, sym, ap, ◌∙◌, subst}
use Prim.Native.Nat.{ℕ, ◌+◌, ◌^◌, ◌≤◌}
use native.Mathlib.Omega.{arith}
use lib.ListN.{length, replicate, take, drop, length-append, take-append-drop}
use lib.Seq.{length-take-le}
use Rattle.rules.specs.Act.{Act}
use Rattle.rules.specs.Bytes.{Bytes}
use Rattle.rules.specs.Calls.{told, refusal_number, levelled, world_of, told_after}
use Rattle.rules.specs.Carry.{Machine, World, changed, go, unmade, cleared, perform, Lent, lending}
use Rattle.rules.specs.Fields.{fields_of}
use Rattle.rules.specs.State.{Device}
use Rattle.rules.specs.declared.Refusal.{Refusal}
use Rattle.rules.proofs.Proper.{Proper}
use Rattle.rules.proofs.Keeps.{AtEnd, Good}
use Rattle.rules.proofs.Took.{Underway, go_underway}
use Rattle.rules.proofs.Undo.{as_in}
use Rattle.act.specs.Parts.{Arrays, ordered, working, whole, told_done}
use Rattle.act.specs.Worlds.{world, came_to, flow_of, walk_of}
use Rattle.act.specs.declared.Core.{Core}
use Rattle.act.specs.declared.Done.{Done}
use Rattle.act.specs.declared.Flow.{Flow}
use Rattle.act.specs.Worlds.{Step}
use Rattle.act.specs.Worlds.{Walk}
use Rattle.journal.specs.Undoing.{machine_of, RolledBack}
use Rattle.journal.proofs.Back.{rolled_stores, rolled_journal}
use Rattle.closing.specs.Closes.{noting, add_all, add_end, Notes, Part, core_in}
use Rattle.closing.specs.Closes.{Noted}
use Rattle.closing.proofs.Parts.{same-part, same_taken, all_noted}
use Rattle.acting.specs.Ending.{Settled, Settles, begun_at, end_at, done_by, remaining, refused_by}
use Rattle.acting.specs.declared.Reached.{Reached}
use Rattle.acting.proofs.Laws.{since_then, front_then, told_made, told_unmade, core_kept, stands_new, stands_old}
use Rattle.engine.specs.Runs.{RunsAll, Begins, turns_of, Ended, EndsTurns}

-- ---- the last records of an act of turns

ends_where : (s₀ : Step) {q : Walk} → q ≡ walk_of s₀ → end_at q ≡ (flow_of s₀).at
ends_where (Ok c) e = ap end_at e
ends_where (Err stopped) e = ap end_at e

module _ (k : Core) (s : Reached) (x : Arrays) (tb tb' b b' m m' p p' : List ℕ) (used : ℕ) (j : List ℕ) {n₀ t₁ t₂ t₃ t₄ n : Noted} {j₁ j₂ j₃ j₄ j₅ : List ℕ}
    (begins : n₀ ≡ begun_at s.walk) (core : Notes 0 (core_in k) (core_in s.core) n₀ t₁ j j₁) (times : Part 64 64 b b' t₁ t₂ j₁ j₂) (counts : Part 64 128 m m' t₂ t₃ j₂ j₃)
    (waits : Part 64 192 p p' t₃ t₄ j₃ j₄) (end : noting n j₅ ≡ add_end used (noting t₄ j₄)) (r : Done) (is : r ≡ done_by k s n used)
    (s₀ : Step) (base : ℕ) (lent : Lent) (act : Act (Unit {0})) (w j₀ w' : List ℕ) (proper : Proper (whole k (working x tb b m p))) (fits : used ≤ length j₀)
    (went : Settled k (working x tb' b' m' p') s₀ s base lent act (whole k (working x tb b m p)) w j₀ w' j used)
  where
    abbrev before : Arrays
    before = working x tb b m p

    abbrev after : Arrays
    after = working x tb' b' m' p'

    noted : noting n j₅ ≡ add_end used (add_all (changed 0 (fields_of (whole k before)) (fields_of (whole s.core after))) (noting (begun_at s.walk) j))
    noted =
        end
        ∙ ap (add_end used)
        (all_noted k s.core before after n₀ j core times counts waits (same-part k s.core before proper went.levels t₄ j₄) (same_taken k before proper t₄ j₄) refl
        ∙ ap (λ (z : Noted). add_all (changed 0 (fields_of (whole k before)) (fields_of (whole s.core after))) (noting z j)) begins)

    pub turns-ended : Ended k before after s₀ r base lent act w j₀ w' j j₅ used
    turns-ended = record {
      told_made = λ z v. told_made k before after None used w j₀ w' j j₅ fits went.since base lent (levelled act) s n went.later went.left noted r is z v;
      told_unmade = λ why v. told_unmade k before after None used w j₀ w' j j₅ fits went.since base lent (levelled act) s n went.later went.left noted r is v;
      core_kept = λ why v. core_kept k before after None used w j₀ w' j j₅ fits went.since base lent (levelled act) s n went.later went.left noted r is v;
      front = subst (λ (at : ℕ). take at j₅ ≡ take at j) (ends_where s₀ went.ends) (front_then k before after None used w j₀ w' j j₅ fits went.since base lent (levelled act) s n went.later went.left noted);
      long = sym (since_then k before after None used w j₀ w' j j₅ fits went.since base lent (levelled act) s n went.later went.left noted).long ∙ went.since.long;
    }

-- where a step came to
at_step : (P : World → Type 0) (s : Step) (d : Device) (w j t m : List ℕ) → AtEnd P (came_to s d w j t m) → P (world d (flow_of s) w j t m)
unfolding came_to
at_step P (Ok c) d w j t m h = h
at_step P (Err stopped) d w j t m h = h

-- ---- an act that began with d, w, j and came to s, w', j': rolled back

module _ (base : ℕ) (lent : Lent) (act : Act (Unit {0})) (d : Device) (w j : List ℕ) (used : ℕ) (proper : Proper d) (bytes : Bytes w) (below : base + length w ≤ 2 ^ 32) (fits : used ≤ length j)
    (s : Step) (d' : Device) (w' j' tb m : List ℕ) (goes : came_to s d' w' j' tb m ≡ go base lent act (world_of d w j used))
  where
    abbrev u : World
    u = world_of d w j used

    abbrev at : ℕ
    at = (flow_of s).at

    good : Good base (record { mem = w; dev = d })
    good = record { sound_dev = proper.sound; mem_bytes = bytes; mem_below = below; table_below = omega (arith, proper.size) }

    way : Underway base u (world d' (flow_of s) w' j' tb m)
    way = at_step (Underway base u) s d' w' j' tb m (subst (AtEnd (Underway base u)) (sym goes) (go_underway base u good lent act))

    begun : length (take used j) ≡ used
    begun = length-take-le used j fits

    long : length j' ≡ length j
    long =
        sym (ap length (take-append-drop at j')) ∙ length-append (take at j') (drop at j') ∙ way.total_is ∙ sym (length-append (take used j) (drop used j)) ∙ ap length (take-append-drop used j)

    -- the journal may have grown since, past `at`
    module _ (j₂ : List ℕ) (front : take at j₂ ≡ take at j') (same : length j₂ ≡ length j') where
      module _ (w'' t'' j'' : List ℕ) (back : RolledBack base used at w' w'' tb t'' j₂ j'') where
        stores_back : as_in d (machine_of w'' t'' d) ≡ u.now
        stores_back =
            ap (as_in d) (back.stores_are d)
            ∙ rolled_stores j₂ (take used j) way.log used at (front ∙ way.used_is) begun base d u.now (machine_of w' tb d) (record { memory = way.alike.mem_is; table = way.alike.table_is }) below good.table_below way.all_sound
            ∙ ap (as_in d) way.undone

        window_back : w'' ≡ w
        window_back = ap (λ (x : Machine). x.mem) stores_back

        pub table_back : t'' ≡ d.table
        table_back = ap (λ (x : Machine). x.dev.table) stores_back

        pub told_back : (z : List ℕ) (n : ℕ) → perform base lent (levelled act) u ≡ unmade n (cleared u)
            → told n None d w'' z j'' used ≡ told_after z used (perform base lent (levelled act) u)
        unfolding told_after cleared
        told_back z n p =
            rw (p, window_back, rolled_journal j₂ (take used j) way.log used at (front ∙ way.used_is) begun d w j refl (same ∙ long) back.journal_is)

-- ---- a run's

module _ (again chip : Bool) (o : List ℕ) (time pace base : ℕ) (k : Core) (y : Arrays) (w s j tb b m p : List ℕ) (used : ℕ) (t : Flow) (b₁ : List ℕ) (begins : Begins again time k.scalars t b b₁ p used)
    (r : Step) (w' s' j' tb' b' m' p' : List ℕ) (ran : RunsAll again chip o time pace base t r w w' s s' j j' tb tb' b₁ b' m m' p p')
    (proper : Proper (whole k (working (ordered y o chip) tb b m p))) (bytes : Bytes w) (below : base + length w ≤ 2 ^ 32) (fits : used ≤ length j)
    (e : Reached) (settles : Settles k r e) (q : Done) (j₂ : List ℕ) {b₀ m₀ p₀ : List ℕ} (closes : EndsTurns k e used q b₀ b' m₀ m' p₀ p' j' j₂) (same-b : b₀ ≡ b) (same-m : m₀ ≡ m) (same-p : p₀ ≡ p)
  where
    abbrev x : Arrays
    x = ordered y o chip

    abbrev lends : Lent
    lends = lending (length s)

    abbrev old : Arrays
    old = working x tb b m p

    abbrev new : Arrays
    new = working x tb' b' m' p'

    goes : came_to r (whole k new) w' j' tb' m' ≡ go base lends (turns_of again time pace) (world_of (whole k old) w j used)
    goes =
        ran.does (whole k new) (begins.proper k.controllers k.ignore_masks x tb m w j proper) refl refl
        ∙ sym (begins.goes pace base lends k.controllers k.ignore_masks x tb m w j)

    ended : Ended k old new r q base lends (turns_of again time pace) w j w' j' j₂ used
    ended = (rw (same-b, same-m, same-p) at closes) x tb tb' r base lends (turns_of again time pace) w j w' proper fits (settles new base lends (turns_of again time pace) (whole k old) w j w' j' used proper fits goes)

    pub carried_made : q.verdict ≡ (Ok tt)
        → told_done None q (remaining q.verdict (working x tb' b m p) new) w' s' j₂ ≡ told_after (replicate (length s) 0) used (perform base lends (levelled (turns_of again time pace)) (world_of (whole k old) w j used))
    carried_made v = rw ran.cleared_staging (stands_new q (working x tb' b m p) new None w' (replicate (length s) 0) j₂ v (ended.told_made (replicate (length s) 0) v))

    pub carried_unmade : {why : Refusal} → q.verdict ≡ Err why → (w'' t'' j'' : List ℕ) {at : ℕ} → at ≡ (flow_of r).at → RolledBack base used at w' w'' tb' t'' j₂ j''
        → told_done None q (remaining q.verdict (working x t'' b m p) (working x t'' b' m' p')) w'' s' j''
        ≡ told_after (replicate (length s) 0) used (perform base lends (levelled (turns_of again time pace)) (world_of (whole k old) w j used))
    carried_unmade {why} v w'' t'' j'' is back₀ =
        let back = rw is at back₀ in
        let kept : t'' ≡ tb = table_back base lends (turns_of again time pace) (whole k old) w j used proper bytes below fits r (whole k new) w' j' tb' m' goes j₂ ended.front ended.long w'' t'' j'' back in
        rw ran.cleared_staging
        (stands_old q (working x t'' b m p) (working x t'' b' m' p') None w'' (replicate (length s) 0) j'' v
        (ap (λ (z : Done). told_done None z (working x t'' b m p) w'' (replicate (length s) 0) j'') (ended.core_kept why v)
        ∙ ap (λ (t : List ℕ). told_done None (refused_by k (Err why) used) (working x t b m p) w'' (replicate (length s) 0) j'') kept
        ∙ told_back base lends (turns_of again time pace) (whole k old) w j used proper bytes below fits r (whole k new) w' j' tb' m' goes j₂ ended.front ended.long w'' t'' j'' back (replicate (length s) 0) (refusal_number why) (ended.told_unmade why v)))
