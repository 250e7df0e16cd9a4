-- The laws that the proofs of this crate cite: an entry, once its call has been made. Assumes nothing.
use Rattle.std.specs.Prelude.{None, Ok, Err}
use mathlib.Core.Bool.{true, false}
use mathlib.Core.List.{List, []}
use mathlib.Core.Path.{◌≡◌, refl, sym, ap, ◌∙◌}
use Prim.Native.Nat.{ℕ, ◌≤◌, ◌<◌}
use native.Mathlib.Omega.{arith}
use borrow.Author.Tests.{eq-eqb, ne_eqb, lt-ltb, le-ltb}
use lib.Dec.{eqb, lit<}
use lib.ListN.{length}
use Rattle.rules.specs.Act.{IGNORE}
use Rattle.rules.specs.Calls.{Asked, ack, Told, device_told, after, told_acted, Spared, fresh, verdict_number, heard_level, heard_vector}
use Rattle.rules.specs.State.{Device}
use Rattle.rules.specs.View.{view_priorities, view}
use Rattle.rules.specs.declared.Acted.{Acted}
use Rattle.rules.specs.declared.Device.{Device as HeldDevice}
use Rattle.rules.specs.Verdicts.{Heard}
use Rattle.rules.specs.Verdicts.{Verdict}
use Rattle.image.specs.Image.{image_of, device_in, is_image}
use Rattle.act.specs.Parts.{Arrays, whole, told_done}
use Rattle.rules.proofs.Proper.{Proper}
use Rattle.rules.proofs.Stays.{act_keeps_setting}
use Rattle.act.specs.declared.Core.{Core}
use Rattle.act.specs.declared.Done.{Done}
use Rattle.direct.proofs.Hears.{ack-keeps}
use Rattle.answers.specs.Answers.{packed, left, left_by}
use Rattle.answers.proofs.Reading.{unpacked}
use Rattle.answers.specs.Answers.{status_in}
use Rattle.direct.specs.declared.Fed.{Fed}
use Rattle.direct.specs.declared.Short.{Short}
use Rattle.direct.specs.Direct.{core_in, fed_core, left_of, SparedBy, fresh_by, saved, saved_by, loaded_by}

-- an act that was made, and what it answered put into one number
pub act_left : (a : Acted) {window staging journal : List ℕ} {t : Told} {r : ℕ} {d : HeldDevice} → told_acted a window staging journal ≡ t → (r ≡ packed (verdict_number a.verdict) 0 0 a.used) × (d ≡ a.device)
    → left r (view d) window staging journal ≡ left_of t
unfolding left_by
act_left a q s = rw (← q, s.0, s.1) refl

-- and the number of a refusal is in the answer
pub spared_answer : (v : Verdict) (used : ℕ) {held held' : List ℕ} {r : ℕ} → Spared v held held' → r ≡ packed (verdict_number v) 0 0 used → SparedBy r held held'
spared_answer (Ok tt) used spared p n is =
    let none : status_in _ ≡ 0 = ap status_in p ∙ (unpacked 0 0 0 used (lit< tt) (lit< tt)).0 in
    absurd (omega (arith, none, is))
spared_answer (Err why) used spared p n is = spared why refl

pub spared_device : (a : Acted) {d : HeldDevice} {held : List ℕ} {r : ℕ} → Spared a.verdict held a.device.priorities
    → (r ≡ packed (verdict_number a.verdict) 0 0 a.used) × (d ≡ a.device) → SparedBy r held d.priorities
spared_device a spared s = rw s.1 (spared_answer a.verdict a.used spared s.0)

-- the same on a device in parts: no call changes a setting
abbrev pub kept : Core → Core → Core
kept k l = record { scalars = l.scalars; controllers = l.controllers; ignore_masks = k.ignore_masks }

pub done-left : (c : Asked) (h : Heard) (k : Core) (a : Done) (y x : Arrays) (base : ℕ) (w s j w' s' j' : List ℕ) (used : ℕ) {r : ℕ}
    → told_done h a x w' s' j' ≡ after c base (whole k y) w s j used → r ≡ packed (verdict_number a.verdict) (heard_level h) (heard_vector h) a.used
    → left r (whole (kept k a.core) x) w' s' j' ≡ left_of (after c base (whole k y) w s j used)
unfolding left_by
done-left c h k a y x base w s j w' s' j' used {r} q p =
    let i : a.core.ignore_masks ≡ k.ignore_masks = ap (λ t. (device_told t).ignore) q ∙ act_keeps_setting base (whole k y) w j used IGNORE c s in
    rw (← q, p) (ap (λ b. left (packed (verdict_number a.verdict) (heard_level h) (heard_vector h) a.used) (whole (record { scalars = a.core.scalars; controllers = a.core.controllers; ignore_masks = b }) x) w' s' j') (sym i))

-- the same, handed back as a struct; the core was taken from what an entry copied
pub fed_left : (c : Asked) (k : Short) (l : Core) → l ≡ core_in k → (a : Done) (r : Fed) (y x : Arrays) (base : ℕ) (w s j w' s' j' : List ℕ) (used : ℕ)
    → told_done None a x w' s' j' ≡ after c base (whole l y) w s j used
    → (r.answer ≡ packed (verdict_number a.verdict) 0 0 a.used) × (r.scalars ≡ a.core.scalars) × (r.controllers ≡ a.core.controllers)
    → left r.answer (whole (fed_core (core_in k) r) x) w' s' j' ≡ left_of (after c base (whole (core_in k) y) w s j used)
fed_left c k l same a r y x base w s j w' s' j' used q p = rw (p.1, p.2) (done-left c None (core_in k) a y x base w s j w' s' j' used (rw same at q) p.0)

pub proper_core : (k : Short) (l : Core) (x : Arrays) → l ≡ core_in k → Proper (whole (core_in k) x) → Proper (whole l x)
proper_core k l x same p = rw same p

-- an acknowledge changes neither numbers nor controllers
heeded_left : (ipl : ℕ) (h : Heard) (k : Core) (a : Done) (y x : Arrays) (base : ℕ) (w s j w' s' j' : List ℕ) (used : ℕ) {r : ℕ} → Proper (whole k y)
    → told_done h a x w' s' j' ≡ after (ack ipl) base (whole k y) w s j used → r ≡ packed (verdict_number a.verdict) (heard_level h) (heard_vector h) a.used
    → left r (whole k x) w' s' j' ≡ left_of (after (ack ipl) base (whole k y) w s j used)
unfolding left_by
heeded_left ipl h k a y x base w s j w' s' j' used {r} proper q p =
    let i : (whole a.core x).ignore ≡ (whole k y).ignore = ap (λ t. (device_told t).ignore) q ∙ act_keeps_setting base (whole k y) w j used IGNORE (ack ipl) s in
    let keeps = ack-keeps (whole k y) base w s j used ipl proper in
    let e : (whole a.core x).scalars ≡ (whole k y).scalars = ap (λ t. (device_told t).scalars) q ∙ keeps.0 in
    let f : (whole a.core x).controllers ≡ (whole k y).controllers = ap (λ t. (device_told t).controllers) q ∙ keeps.1 in
    rw (← q, p) (sym (λ n. left (packed (verdict_number a.verdict) (heard_level h) (heard_vector h) a.used) (record {
      scalars = e n;
      controllers = f n;
      busy = x.busy;
      majors = x.majors;
      pending = x.pending;
      taken = x.taken;
      priorities = view_priorities x.chip x.priorities;
      table = x.table;
      ignore = i n;
      chip = x.chip;
    }) w' s' j'))

pub heard_left : (ipl : ℕ) (h : Heard) (k : Short) (l : Core) → l ≡ core_in k → (a : Done) (y x : Arrays) (base : ℕ) (w s j w' s' j' : List ℕ) (used : ℕ) {r : ℕ} → Proper (whole (core_in k) y)
    → told_done h a x w' s' j' ≡ after (ack ipl) base (whole l y) w s j used → r ≡ packed (verdict_number a.verdict) (heard_level h) (heard_vector h) a.used
    → left r (whole (core_in k) x) w' s' j' ≡ left_of (after (ack ipl) base (whole (core_in k) y) w s j used)
heard_left ipl h k l same a y x base w s j w' s' j' used proper q p = heeded_left ipl h (core_in k) a y x base w s j w' s' j' used proper (rw same at q) p

-- ---- a fresh device

pub fresh_unknown : (d : Device) (ignore mode : ℕ) → 1 < ignore → {r : ℕ} → r ≡ packed 255 0 0 0 → left r d [] [] [] ≡ fresh_by d ignore mode
unfolding fresh_by
fresh_unknown d ignore mode k p = rw (le-ltb ignore 2 k) (ap (λ n. left n d [] [] []) p)

module _ (d : Device) (ignore mode : ℕ) (h : ignore ≤ 1) where
  pub fresh_unmoded : 1 < mode → {r : ℕ} → r ≡ packed 255 0 0 0 → left r d [] [] [] ≡ fresh_by d ignore mode
  unfolding fresh_by
  fresh_unmoded k p = rw (lt-ltb ignore 2 (omega (arith, h)), le-ltb mode 2 k) (ap (λ n. left n d [] [] []) p)

  pub fresh-made : mode ≤ 1 → {e : Device} → e ≡ fresh (eqb ignore 1) (eqb mode 1) → left 0 e [] [] [] ≡ fresh_by d ignore mode
  unfolding fresh_by
  fresh-made k p = rw (lt-ltb ignore 2 (omega (arith, h)), lt-ltb mode 2 (omega (arith, k)), p) refl

-- ---- a device as bytes

pub save_short : (d : Device) (image : List ℕ) → (length image ≡ 8720 → ⊥) → {r : ℕ} → r ≡ packed 255 0 0 0 → saved r image ≡ saved_by d image
unfolding saved_by
save_short d image h p = rw (ne_eqb (length image) 8720 h) (ap (λ n. saved n image) p)

pub save_made : (d : Device) (image : List ℕ) → length image ≡ 8720 → {image' : List ℕ} → image' ≡ image_of d → saved 0 image' ≡ saved_by d image
unfolding saved_by
save_made d image h p = rw (eq-eqb (length image) 8720 h) (ap (saved 0) p)

pub load_not : (d : Device) (image : List ℕ) → is_image image ≡ false → {r : ℕ} → r ≡ packed 255 0 0 0 → left r d [] [] [] ≡ loaded_by d image
unfolding loaded_by
load_not d image h p = rw h (ap (λ n. left n d [] [] []) p)

pub load_made : (d : Device) (image : List ℕ) → is_image image ≡ true → {e : Device} → e ≡ device_in image → left 0 e [] [] [] ≡ loaded_by d image
unfolding loaded_by
load_made d image h p = rw h (ap (λ e. left 0 e [] [] []) p)
