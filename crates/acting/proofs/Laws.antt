-- How acts end, by cases. Assumes nothing.
use Rattle.std.specs.Prelude.{Some, None, Ok, Err}
use mathlib.Core.List.{List, ◌++◌}
use mathlib.Core.Path.{◌≡◌, refl, sym, ap, ◌∙◌, subst}
use Prim.Native.Nat.{ℕ, ◌≤◌, min}
use native.Mathlib.Omega.{arith}
use lib.ListN.{length, take, drop, length-drop, take-append-drop}
use lib.Seq.{take-take, length-take-le}
use Rattle.rules.specs.Act.{Act, done, ◌>>◌}
use Rattle.rules.specs.Calls.{Told, told, told_after, refusal_number, verdict_number, world_of, levelled}
use Rattle.rules.specs.Carry.{World, unmade, ok, no, cleared, changed, go, leave, perform, Lent}
use Rattle.rules.specs.Fields.{fields_of}
use Rattle.rules.specs.Lines.{relevel}
use Rattle.rules.specs.State.{Device}
use Rattle.rules.specs.Verdicts.{Heard}
use Rattle.rules.specs.declared.Refusal.{Refusal}
use Rattle.rules.specs.Verdicts.{Verdict}
use Rattle.rules.proofs.Proper.{Proper}
use Rattle.rules.proofs.Grown.{Longer, Grown, go_grows, journal_grows}
use Rattle.rules.proofs.Keeps.{AtEnd}
use Rattle.rules.proofs.Leads.{IfAnswered, proper_kept}
use Rattle.rules.proofs.Steps.{then_ok, then_no, go-done, leave_refused}
use Rattle.act.specs.Does.{Answers, Does}
use Rattle.act.specs.Parts.{Arrays, tabled, counted, taking, whole, SameLevels, told_done}
use Rattle.act.specs.Worlds.{came_to}
use Rattle.act.specs.declared.Core.{Core}
use Rattle.act.specs.declared.Done.{Done}
use Rattle.act.specs.declared.Flow.{Flow}
use Rattle.act.specs.declared.Stopped.{Stopped}
use Rattle.act.specs.Worlds.{Step}
use Rattle.act.specs.Worlds.{Walk}
use Rattle.closing.specs.Closes.{noting, add_all, add_end, Notes, Part, core_in, levels_in, closed, Closes}
use Rattle.closing.specs.Closes.{Noted}
use Rattle.closing.proofs.Group.{group_closes, closes, all_full_so}
use Rattle.closing.proofs.Parts.{same, same-part, same-busy, same-majors, same-pending, same_taken, all_noted}
use Rattle.controllers.specs.Works.{Works}
use Rattle.acting.specs.declared.Reached.{Reached}
use Rattle.acting.specs.Ending.{arrived_at, arrived, end_at, Later, Since, begun_at, done_at, done_by, refused_by, cleared_from, remaining, Settled}

-- ---- lines and level anew

module _ (base : ℕ) (lent : Lent) (act : Act (Unit {0})) (d : Device) (w j₀ w' j : List ℕ) (used : ℕ) (p : Proper d) (fits : used ≤ length j₀) where
  abbrev u : World
  u = world_of d w j₀ used

  since_longer : {at : ℕ} → Longer used at j₀ j → Since used j₀ j
  since_longer l = record { front = sym l.front; long = sym l.long }

  -- the steps came to device e
  module _ (e : Device) (at : ℕ) (went : go base lent act u ≡ ok tt (world_of e w' j at)) where
    proper-on : Proper e
    proper-on = subst (IfAnswered (λ _ v. Proper v.now.dev)) went (proper_kept act u p).answered

    longer_on : Longer used at j₀ j
    longer_on = journal_grows d e w w' j₀ j used at fits (subst (AtEnd (Grown u)) went (go_grows base lent u act))

    levelled-on : (e' : Device) → Does relevel e e' → perform base lent (levelled act) u ≡ leave u (ok None (world_of e' w' j at))
    unfolding levelled Answers perform
    levelled-on e' h =
        ap (leave u)
        (then_ok base lent act (relevel >> done None) u went
        ∙ then_ok base lent relevel (done None) (world_of e w' j at) (h base lent w' (take at j) (drop at j))
        ∙ go-done base lent None (world_of e' w' j at))

  -- the steps were refused
  module _ (n : ℕ) (e e' : Device) (at : ℕ) (went : go base lent act u ≡ no n (world_of e w' j at)) where
    longer_off : Longer used at j₀ j
    longer_off = journal_grows d e w w' j₀ j used at fits (subst (AtEnd (Grown u)) went (go_grows base lent u act))

    levelled-off : perform base lent (levelled act) u ≡ leave u (no n (world_of e' w' j at))
    unfolding levelled perform leave
    levelled-off = ap (leave u) (then_no base lent act (relevel >> done None) u went)

  module _ (k : Core) (x : Arrays) where
    pub settled_on : {s : Step} {c : Flow} {r : Core} → s ≡ Ok c → ((y : Arrays) → Works relevel (record { scalars = c.scalars; controllers = k.controllers; ignore_masks = k.ignore_masks }) r y)
        → came_to s (whole k x) w' j x.table x.majors ≡ go base lent act u → Settled k x s (record { walk = Ok c.at; core = r }) base lent act d w j₀ w' j used
    unfolding came_to
    settled_on {c = c} {r = r} f works goes =
        let e = whole (record { scalars = c.scalars; controllers = k.controllers; ignore_masks = k.ignore_masks }) x in
        let went : go base lent act u ≡ ok tt (world_of e w' j c.at) = sym (rw f at goes) in
        let l = longer_on e c.at went in
        let n = works x (proper-on e c.at went) in
        record {
          left = levelled-on e c.at went (whole r x) n.does;
          since = since_longer l;
          later = omega (arith, l.later, l.long);
          levels = record { first = n.levels.first; second = n.levels.second; third = n.levels.third };
          ends = rw f refl;
        }

    pub settled_off : {s : Step} {stopped : Stopped Flow} → s ≡ Err stopped → came_to s (whole k x) w' j x.table x.majors ≡ go base lent act u
        → Settled k x s (record { walk = Err (record { why = stopped.why; at = stopped.at.at }); core = k }) base lent act d w j₀ w' j used
    unfolding came_to
    settled_off {stopped = stopped} f goes =
        let why = stopped.why in
        let c = stopped.at in
        let e = whole (record { scalars = c.scalars; controllers = k.controllers; ignore_masks = k.ignore_masks }) x in
        let went : go base lent act u ≡ no (refusal_number why) (world_of e w' j c.at) = sym (rw f at goes) in
        record {
          left = levelled-off (refusal_number why) e (whole k x) c.at went;
          since = since_longer (longer_off (refusal_number why) e (whole k x) c.at went);
          later = tt;
          levels = record { first = refl; second = refl; third = refl };
          ends = rw f refl;
        }

-- ---- the last records, and the answer

-- of a call that ended with verdict v: made with all that is there then, or counting as not made
module _ (k : Core) (x x' : Arrays) (h : Heard) (used : ℕ) (w j₀ w' j j₂ : List ℕ) (fits : used ≤ length j₀) (since : Since used j₀ j) where
  abbrev d : Device
  d = whole k x

  abbrev began : World
  began = world_of d w j₀ used

  module _ (e : Core) (at : ℕ) (later : used ≤ min at (length j)) {n : Noted}
      (noted : noting n j₂ ≡ add_end used (add_all (changed 0 (fields_of d) (fields_of (whole e x'))) (noting (Some at) j)))
    where
      ends : Closes n (fields_of d) (fields_of (whole e x')) used at j j₂
      ends = group_closes _ _ used at j later noted

      closed_so : closed n h began (whole e x') w' j₂ ≡ leave began (ok h (world_of (whole e x') w' j at))
      closed_so = closes ends h began (whole e x') w' refl refl (length-take-le used j₀ fits)

      since-on : Since used j₀ j₂
      since-on = record {
        front = since.front ∙ sym (take-take used at j (omega arith)) ∙ ap (take used) (sym ends.front) ∙ take-take used at j₂ (omega arith);
        long = since.long ∙ sym ends.long;
      }

      made_at : {end : ℕ} (z : List ℕ) → n ≡ Some end → told 0 h (whole e x') w' z j₂ end ≡ told_after z used (leave began (ok h (world_of (whole e x') w' j at)))
      unfolding closed told_after
      made_at {end} z f =
          ap (λ (l : List ℕ). told 0 h (whole e x') w' z l end) (sym (take-append-drop end j₂))
          ∙ ap (told 0 h (whole e x') w' z (take end j₂ ++ drop end j₂)) (sym (length-take-le end j₂ (ends.inside end f)))
          ∙ ap (told_after z used) (rw f at closed_so)

      full_at : n ≡ None → leave began (ok h (world_of (whole e x') w' j at)) ≡ unmade 11 (cleared began)
      unfolding closed
      full_at f = sym (rw f at closed_so)

  module _ (base : ℕ) (lent : Lent) (m : Act Heard) (s : Reached) (n : Noted) (later : Later used s.walk j)
      (left : perform base lent m began ≡ leave began (arrived h s x' w' j))
      (noted : noting n j₂ ≡ add_end used (add_all (changed 0 (fields_of d) (fields_of (whole s.core x'))) (noting (begun_at s.walk) j)))
    where
      pub since_then : Since used j₀ j₂
      since_then = by s.walk later noted
        where
          by : (q : Walk) → Later used q j → noting n j₂ ≡ add_end used (add_all (changed 0 (fields_of d) (fields_of (whole s.core x'))) (noting (begun_at q) j)) → Since used j₀ j₂
          by (Ok at) l f = since-on s.core at l f
          by (Err stopped) l f = subst (Since used j₀) (sym (all_full_so used _ j f)) since

      pub front_then : take (end_at s.walk) j₂ ≡ take (end_at s.walk) j
      front_then = by s.walk later noted
        where
          by : (q : Walk) → Later used q j → noting n j₂ ≡ add_end used (add_all (changed 0 (fields_of d) (fields_of (whole s.core x'))) (noting (begun_at q) j)) → take (end_at q) j₂ ≡ take (end_at q) j
          by (Ok at) l f = (ends s.core at l f).front
          by (Err stopped) l f = ap (take stopped.at) (all_full_so used _ j f)

      done-made : (z : List ℕ) → (done_by k s n used).verdict ≡ (Ok tt) → told_done h (done_by k s n used) x' w' z j₂ ≡ told_after z used (perform base lent m began)
      done-made z v = by s.walk n later noted v ∙ ap (told_after z used) (sym left)
        where
          by : (q : Walk) (n : Noted) → Later used q j → noting n j₂ ≡ add_end used (add_all (changed 0 (fields_of d) (fields_of (whole s.core x'))) (noting (begun_at q) j))
              → (done_at k q s.core n used).verdict ≡ (Ok tt)
              → told_done h (done_at k q s.core n used) x' w' z j₂ ≡ told_after z used (leave began (arrived_at q h (whole s.core x') w' j))
          by (Ok at) (Some end) l f v = made_at s.core at l f z refl
          by (Ok at) None l f v = absurd (let z : ◌≡◌ {A = ℕ} 0 1 = cc in omega arith)
          by (Err stopped) n l f v = absurd (let z : ◌≡◌ {A = ℕ} 0 1 = cc in omega arith)

      -- a refused call's number, and that it leaves the core as it was
      done-unmade : {why : Refusal} → (done_by k s n used).verdict ≡ Err why
          → (perform base lent m began ≡ unmade (refusal_number why) (cleared began)) × (done_by k s n used ≡ refused_by k (Err why) used)
      done-unmade {why} v = let r = by s.walk n later noted v in (left ∙ r.0, r.1)
        where
          by : (q : Walk) (n : Noted) → Later used q j → noting n j₂ ≡ add_end used (add_all (changed 0 (fields_of d) (fields_of (whole s.core x'))) (noting (begun_at q) j))
              → (done_at k q s.core n used).verdict ≡ Err why
              → (leave began (arrived_at q h (whole s.core x') w' j) ≡ unmade (refusal_number why) (cleared began)) × (done_at k q s.core n used ≡ refused_by k (Err why) used)
          by (Ok at) (Some end) l f v = absurd (let z : ◌≡◌ {A = ℕ} 0 1 = cc in omega arith)
          by (Ok at) None l f v = (full_at s.core at l f refl ∙ ap (λ (q : ℕ). unmade q (cleared began)) (ap verdict_number v), ap (λ (q : Verdict). refused_by k q used) v)
          by (Err stopped) n l f v = (leave_refused began (world_of (whole s.core x') w' j stopped.at) (refusal_number stopped.why) ∙ ap (λ (q : ℕ). unmade q (cleared began)) (ap verdict_number v), ap (λ (q : Verdict). refused_by k q used) v)

      -- the same of the answer, as code has it
      module _ (r : Done) (is : r ≡ done_by k s n used) where
        pub told_made : (z : List ℕ) → r.verdict ≡ (Ok tt) → told_done h r x' w' z j₂ ≡ told_after z used (perform base lent m began)
        told_made z v = rw is (done-made z (rw is at v))

        pub told_unmade : {why : Refusal} → r.verdict ≡ Err why → perform base lent m began ≡ unmade (refusal_number why) (cleared began)
        told_unmade v = (done-unmade (rw is at v)).0

        pub core_kept : {why : Refusal} → r.verdict ≡ Err why → r ≡ refused_by k (Err why) used
        core_kept v = is ∙ (done-unmade (rw is at v)).1

        -- where nothing is to be undone but the journal
        pub told-cleared : (z : List ℕ) {j₃ : List ℕ} {why : Refusal} → r.verdict ≡ Err why → j₃ ≡ cleared_from used j₂
            → told_done None r x w z j₃ ≡ told_after z used (perform base lent m began)
        unfolding told_after cleared
        told-cleared z {j₃} {why} v c =
            let t = since_then in
            ap (λ (q : Done). told_done None q x w z j₃) (core_kept v)
            ∙ ap (λ (l : List ℕ). told (refusal_number why) None d w z l used) (c ∙ rw (← t.front, ← t.long, ← length-drop used j₀) refl)
            ∙ ap (told_after z used) (sym (told_unmade v))

-- ---- an act that changed the core alone, and perhaps the table

module _ (k : Core) (s : Reached) (x : Arrays) (t : List ℕ) (p : Proper (whole k x)) (used : ℕ) (j : List ℕ) {b t₁ t₂ n : Noted} {j₁ j₂ j₃ : List ℕ} where
  pub core_noted : b ≡ begun_at s.walk → Notes 0 (core_in k) (core_in s.core) b t₁ j j₁ → Part 192 256 (levels_in k) (levels_in s.core) t₁ t₂ j₁ j₂
      → noting n j₃ ≡ add_end used (noting t₂ j₂)
      → noting n j₃ ≡ add_end used (add_all (changed 0 (fields_of (whole k x)) (fields_of (whole s.core (tabled x t)))) (noting (begun_at s.walk) j))
  core_noted e f g h =
      h
      ∙ ap (add_end used)
      (all_noted k s.core x (tabled x t) b j f (same-busy k x p t₁ j₁) (same-majors k x p t₁ j₁) (same-pending k x p t₁ j₁) g (same_taken k x p t₂ j₂) refl
      ∙ ap (λ (q : Noted). add_all (changed 0 (fields_of (whole k x)) (fields_of (whole s.core (tabled x t)))) (noting q j)) e)

-- what stands after a call, by its verdict; and the other way round
module _ (r : Done) (x y : Arrays) (h : Heard) (w z j : List ℕ) {u : Told} where
  pub stands_new : r.verdict ≡ (Ok tt) → told_done h r y w z j ≡ u → told_done h r (remaining r.verdict x y) w z j ≡ u
  unfolding remaining
  stands_new v e = ap (λ (q : Verdict). told_done h r (remaining q x y) w z j) v ∙ e

  pub stands_old : {why : Refusal} → r.verdict ≡ Err why → told_done h r x w z j ≡ u → told_done h r (remaining r.verdict x y) w z j ≡ u
  unfolding remaining
  stands_old v e = ap (λ (q : Verdict). told_done h r (remaining q x y) w z j) v ∙ e

  pub stood_new : r.verdict ≡ (Ok tt) → told_done h r (remaining r.verdict x y) w z j ≡ u → told_done h r y w z j ≡ u
  unfolding remaining
  stood_new v e = sym (ap (λ (q : Verdict). told_done h r (remaining q x y) w z j) v) ∙ e

  pub stood_old : {why : Refusal} → r.verdict ≡ Err why → told_done h r (remaining r.verdict x y) w z j ≡ u → told_done h r x w z j ≡ u
  unfolding remaining
  stood_old v e = sym (ap (λ (q : Verdict). told_done h r (remaining q x y) w z j) v) ∙ e

-- what an act does to a device is done from the journal's end on
pub does-goes : (base : ℕ) (lent : Lent) (act : Act (Unit {0})) (d : Device) (k : Core) (x : Arrays) (w j : List ℕ) (used : ℕ) → Does act d (whole k x)
    → came_to (Ok (record { scalars = k.scalars; at = used })) (whole k x) w j x.table x.majors ≡ go base lent act (world_of d w j used)
unfolding came_to Answers
does-goes base lent act d k x w j used h = sym (h base lent w (take used j) (drop used j))

pub then_levels : {k l m : Core} → SameLevels k l → SameLevels l m → SameLevels k m
then_levels p q = record { first = p.first ∙ q.first; second = p.second ∙ q.second; third = p.third ∙ q.third }

-- where nothing but the core changed
pub stood_same : (r : Done) (x : Arrays) (h : Heard) (w z j : List ℕ) {u : Told} → told_done h r (remaining r.verdict x x) w z j ≡ u → told_done h r x w z j ≡ u
stood_same r x h w z j e = sym (ap (λ (y : Arrays). told_done h r y w z j) (by r.verdict)) ∙ e
  where
    by : (v : Verdict) → remaining v x x ≡ x
    by (Ok tt) = (unfold remaining in refl)
    by (Err n) = (unfold remaining in refl)

-- the last records of an act that changed pending counts besides the core
module _ (k : Core) (s : Reached) (x : Arrays) (p : Proper (whole k x)) (q : List ℕ) (used : ℕ) (j : List ℕ) {b t₁ t₂ n : Noted} {j₁ j₂ j₃ : List ℕ} where
  pub counts-noted : b ≡ begun_at s.walk → SameLevels k s.core → Notes 0 (core_in k) (core_in s.core) b t₁ j j₁ → Part 64 192 x.pending q t₁ t₂ j₁ j₂
      → noting n j₃ ≡ add_end used (noting t₂ j₂)
      → noting n j₃ ≡ add_end used (add_all (changed 0 (fields_of (whole k x)) (fields_of (whole s.core (counted x q)))) (noting (begun_at s.walk) j))
  counts-noted e same-sources f g h =
      h
      ∙ ap (add_end used)
      (all_noted k s.core x (counted x q) b j f (same-busy k x p t₁ j₁) (same-majors k x p t₁ j₁) g (same-part k s.core x p same-sources t₂ j₂) (same_taken k x p t₂ j₂) refl
      ∙ ap (λ (z : Noted). add_all (changed 0 (fields_of (whole k x)) (fields_of (whole s.core (counted x q)))) (noting z j)) e)

-- of one that changed taken counts alone
module _ (k : Core) (x : Arrays) (p : Proper (whole k x)) (q : List ℕ) (used at : ℕ) (j : List ℕ) {t n : Noted} {j₁ j₂ : List ℕ} where
  pub taken-noted : Part 192 576 x.taken q (Some at) t j j₁ → noting n j₂ ≡ add_end used (noting t j₁)
      → noting n j₂ ≡ add_end used (add_all (changed 0 (fields_of (whole k x)) (fields_of (whole k (taking x q)))) (noting (Some at) j))
  taken-noted g h =
      h
      ∙ ap (add_end used)
      (all_noted k k x (taking x q) (Some at) j (same 0 (core_in k) (Some at) j) (same-busy k x p (Some at) j) (same-majors k x p (Some at) j) (same-pending k x p (Some at) j)
      (same-part k k x p (record { first = refl; second = refl; third = refl }) (Some at) j) g refl)
