-- Two answers that tell the same are the same, with what is there beside them: every contract over `told_acted`, `told_heard` or `told_reading` fixes
-- its outcome. Assumes nothing.
use Rattle.std.specs.Prelude.{Ok, Err}
use mathlib.Core.List.{List, [], ◌∷◌, map}
use mathlib.Core.Path.{◌≡◌, refl, sym, ap, ap₂, ◌∙◌, subst}
use Prim.Native.Nat.{ℕ, suc, ◌-◌}
use native.Mathlib.Omega.{arith}
use lib.ListN.{get_or, drop}
use Rattle.rules.specs.Calls.{refusal_number, verdict_number, Told, told, Spared, told_acted, told_heard, told_reading}
use Rattle.rules.specs.State.{Device}
use Rattle.rules.specs.View.{view_controller, view}
use Rattle.rules.specs.declared.Acknowledged.{Acknowledged}
use Rattle.rules.specs.declared.Acted.{Acted}
use Rattle.rules.specs.declared.Controller.{Controller as HeldController}
use Rattle.rules.specs.declared.Device.{Device as HeldDevice}
use Rattle.rules.specs.Verdicts.{Heard}
use Rattle.rules.specs.Verdicts.{Reading}
use Rattle.rules.specs.declared.Refusal.{Refusal}
use Rattle.rules.specs.Verdicts.{Verdict}
use Rattle.rules.proofs.CallLaws.{AsGiven}
use Rattle.rules.proofs.ScalarLaws.{scalars_once}

-- ---- the refusal of a number

-- in the order of their numbers, from 1
refusals : List Refusal
refusals =
    Refusal.Size ∷ Refusal.Address ∷ Refusal.Register ∷ Refusal.Crossing ∷ Refusal.Window ∷ Refusal.Journal ∷ Refusal.Time ∷ Refusal.Channel ∷ Refusal.Outside
    ∷ Refusal.Staging ∷ Refusal.Room ∷ Refusal.NothingStands ∷ Refusal.Damaged ∷ Refusal.Count ∷ []

refusal_at : ℕ → Refusal
refusal_at n = get_or refusals n Refusal.Size

-- each has its number, and no other has it
numbered : (r : Refusal) → (n : ℕ) × (refusal_number r ≡ suc n) × (refusal_at n ≡ r)
unfolding refusal_at refusals
numbered Refusal.Size = (0, refl, refl)
numbered Refusal.Address = (1, refl, refl)
numbered Refusal.Register = (2, refl, refl)
numbered Refusal.Crossing = (3, refl, refl)
numbered Refusal.Window = (4, refl, refl)
numbered Refusal.Journal = (5, refl, refl)
numbered Refusal.Time = (6, refl, refl)
numbered Refusal.Channel = (7, refl, refl)
numbered Refusal.Outside = (8, refl, refl)
numbered Refusal.Staging = (9, refl, refl)
numbered Refusal.Room = (10, refl, refl)
numbered Refusal.NothingStands = (11, refl, refl)
numbered Refusal.Damaged = (12, refl, refl)
numbered Refusal.Count = (13, refl, refl)

-- no number is 0
pub refusal_suc : (r : Refusal) → (n : ℕ) × (refusal_number r ≡ suc n)
refusal_suc r = ((numbered r).0, (numbered r).1)

refusal_counts : (r : Refusal) → refusal_number r ≡ 0 → ⊥
refusal_counts r e = omega (arith, (refusal_suc r).1)

refusal_back : (r : Refusal) → refusal_at (refusal_number r - 1) ≡ r
refusal_back r = ap (λ n. refusal_at (n - 1)) (numbered r).1 ∙ ap refusal_at (less_one (numbered r).0) ∙ (numbered r).2
  where
    less_one : (n : ℕ) → suc n - 1 ≡ n
    less_one n = omega arith

refusal_once : (r s : Refusal) → refusal_number r ≡ refusal_number s → r ≡ s
refusal_once r s e = sym (refusal_back r) ∙ ap (λ n. refusal_at (n - 1)) e ∙ refusal_back s

verdict_once : (v w : Verdict) → verdict_number v ≡ verdict_number w → v ≡ w
verdict_once (Ok u) (Ok v) e = refl
verdict_once (Ok u) (Err s) e = absurd (refusal_counts s (sym e))
verdict_once (Err r) (Ok u) e = absurd (refusal_counts r e)
verdict_once (Err r) (Err s) e = ap (λ x. Err x) (refusal_once r s e)

-- ---- what stands for the same is the same

controllers_once : (ks ls : List HeldController) → map view_controller ks ≡ map view_controller ls → ks ≡ ls
controllers_once [] [] e = refl
controllers_once [] (l ∷ ls) e = absurd (let z : ◌≡◌ {A = ℕ} 0 1 = cc in omega arith)
controllers_once (k ∷ ks) [] e = absurd (let z : ◌≡◌ {A = ℕ} 0 1 = cc in omega arith)
controllers_once (k ∷ ks) (l ∷ ls) e = ap₂ (λ x xs. x ∷ xs) (one (ap (λ xs. get_or xs 0 (view_controller k)) e)) (controllers_once ks ls (ap (λ xs. drop 1 xs) e))
  where
    one : view_controller k ≡ view_controller l → k ≡ l
    one p = λ i. record { masks = (p i).masks; forced = (p i).forced; lines = (p i).lines; levels = (p i).levels; config = (p i).config }

-- but for the bits of priorities that count for nothing: d with other priorities
abbrev pub prioritized : HeldDevice → List ℕ → HeldDevice
prioritized d l = record {
  scalars = d.scalars;
  table = d.table;
  busy = d.busy;
  majors = d.majors;
  taken = d.taken;
  pending = d.pending;
  priorities = l;
  controllers = d.controllers;
  ignore_masks = d.ignore_masks;
  chip = d.chip;
}

pub view_once : (d e : HeldDevice) → view d ≡ view e → d ≡ prioritized e d.priorities
view_once d e p =
    let cs : d.controllers ≡ e.controllers = controllers_once d.controllers e.controllers (ap (λ (x : Device). x.controllers) p) in λ i.
    record {
      scalars = scalars_once d.scalars e.scalars (ap (λ (x : Device). x.scalars) p) i;
      table = (p i).table;
      busy = (p i).busy;
      majors = (p i).majors;
      taken = (p i).taken;
      pending = (p i).pending;
      priorities = d.priorities;
      controllers = cs i;
      ignore_masks = (p i).ignore;
      chip = (p i).chip;
    }

-- ---- an act: the answer, window, staging and journal

-- the same answer, but for those bits
pub record SameActed (a b : Acted) : Type 0 where
  pub verdict : a.verdict ≡ b.verdict
  pub used : a.used ≡ b.used
  pub device : a.device ≡ prioritized b.device a.device.priorities

pub told_once : (a b : Acted) {w x s t i j : List ℕ} → told_acted a w s i ≡ told_acted b x t j → SameActed a b × (w ≡ x) × (s ≡ t) × (i ≡ j)
told_once a b e =
    (record { verdict = verdict_once a.verdict b.verdict (cc e); used = cc e; device = view_once a.device b.device (cc e) }, cc e, cc e, cc e)

-- an acknowledge
pub record SameHeard (a b : Acknowledged) : Type 0 where
  pub verdict : a.verdict ≡ b.verdict
  pub heard : a.heard ≡ b.heard
  pub used : a.used ≡ b.used
  pub device : a.device ≡ prioritized b.device a.device.priorities

pub heard_once : (a b : Acknowledged) {w x s t i j : List ℕ} → told_heard a w s i ≡ told_heard b x t j → SameHeard a b × (w ≡ x) × (s ≡ t) × (i ≡ j)
heard_once a b e = (
  record { verdict = verdict_once a.verdict b.verdict (cc e); heard = cc e; used = cc e; device = view_once a.device b.device (cc e) },
  cc e,
  cc e,
  cc e,
)

-- ---- a refusal: the device is the one given, those bits too where the call spares them

pub given_back : (d e : HeldDevice) (window journal : List ℕ) (used : ℕ) {t : Told} → AsGiven (view d) window journal used t → (v : Verdict) {h : Heard} {w s j : List ℕ} {u : ℕ}
    → told (verdict_number v) h (view e) w s j u ≡ t → Spared v d.priorities e.priorities → (n : Refusal) → v ≡ Err n → e ≡ d
given_back d e window journal used given v {h} {w} {s} {j} {u} tells spared n is =
    let back : AsGiven (view d) window journal used (told (verdict_number v) h (view e) w s j u) = subst (AsGiven (view d) window journal used) (sym tells) given in
    view_once e d (rw (is, (refusal_suc n).1) at back).0 ∙ ap (prioritized d) (spared n is)

-- ---- a register read

pub reading_once : (a b : Reading) → told_reading a ≡ told_reading b → a ≡ b
reading_once (Ok v) (Ok w) e = let p : v ≡ w = cc e in ap (λ x. Ok x) p
reading_once (Ok v) (Err s) e = let p : 0 ≡ refusal_number s = cc e in absurd (refusal_counts s (sym p))
reading_once (Err r) (Ok w) e = let p : refusal_number r ≡ 0 = cc e in absurd (refusal_counts r p)
reading_once (Err r) (Err s) e = ap (λ x. Err x) (refusal_once r s (cc e))
