-- The laws that the proofs of this crate cite: an entry, once its call has been made. Assumes nothing.
use Rattle.std.specs.Prelude.{Ok, Err}
use mathlib.Core.Bool.{true, false}
use mathlib.Core.List.{List, []}
use mathlib.Core.Path.{◌≡◌, refl, sym, ap, ◌∙◌}
use Prim.Native.Nat.{ℕ, ◌≤◌, ◌<◌}
use native.Mathlib.Omega.{arith}
use borrow.Author.Tests.{eq-eqb, ne_eqb, lt-ltb, le-ltb}
use lib.Dec.{eqb}
use lib.ListN.{length}
use Rattle.rules.specs.Calls.{Told, ToldRead, fresh, told_acted, told_heard, verdict_number, heard_level, heard_vector}
use Rattle.rules.specs.declared.Acknowledged.{Acknowledged}
use Rattle.rules.specs.declared.Acted.{Acted}
use Rattle.rules.specs.State.{Device}
use Rattle.rules.specs.View.{view}
use Rattle.rules.specs.declared.Refusal.{Refusal}
use Rattle.rules.specs.Verdicts.{Verdict}
use Rattle.rules.proofs.Told.{refusal_suc}
use Rattle.image.specs.Image.{image_of, device_in, is_image}
use Rattle.captures.specs.Capture.{Captured, captured}
use Rattle.answers.specs.Answers.{packed, left, left_by, read_by, captured_by}
use Rattle.entries.specs.Entry.{image_after, entered, entered_read, entered_capture, freshened}

-- bytes that are no image, and what is left is what was given
pub no_entry : (image window staging journal : List ℕ) (used : ℕ) (t : Told) {r : ℕ} → is_image image ≡ false → r ≡ packed 255 0 0 used
    → left r image window staging journal ≡ entered image window staging journal used t
unfolding entered
no_entry image window staging journal used t h p = rw h (ap (λ n. left n image window staging journal) p)

module _ (image window staging journal : List ℕ) (used : ℕ) (f : Device → Told) {d : Device} {image' window' staging' journal' : List ℕ} {r : ℕ}
    (h : is_image image ≡ true) (p : d ≡ device_in image) where
  pub act_entry : (a : Acted) → told_acted a window' staging' journal' ≡ f d
      → (r ≡ packed (verdict_number a.verdict) 0 0 a.used) × (image' ≡ image_after image (verdict_number a.verdict) (view a.device))
      → left r image' window' staging' journal' ≡ entered image window staging journal used (f (device_in image))
  unfolding entered left_by
  act_entry a q s = rw (h, ← p, ← q, s.0, s.1) refl

  pub heard_entry : (a : Acknowledged) → told_heard a window' staging' journal' ≡ f d
      → r ≡ packed (verdict_number a.verdict) (heard_level a.heard) (heard_vector a.heard) a.used → image' ≡ image_after image (verdict_number a.verdict) (view a.device)
      → left r image' window' staging' journal' ≡ entered image window staging journal used (f (device_in image))
  unfolding entered left_by
  heard_entry a q s t = rw (h, ← p, ← q, s, t) refl

pub no_read : (image : List ℕ) (t : ToldRead) {r : ℕ} → is_image image ≡ false → r ≡ packed 255 0 0 0 → r ≡ entered_read image t
unfolding entered_read
no_read image t h p = rw h p

pub read_entry : (image : List ℕ) (f : Device → ToldRead) {d : Device} {r : ℕ} {t : ToldRead} → is_image image ≡ true → d ≡ device_in image → t ≡ f d → r ≡ read_by t → r ≡ entered_read image (f (device_in image))
unfolding entered_read
read_entry image f h p q e = rw (h, ← p, ← q) e

-- ---- a device laid down, or not

pub laid_down : (image : List ℕ) (d : Device) {v : Verdict} {image' : List ℕ} → v ≡ (Ok tt) → image' ≡ image_of d → image' ≡ image_after image (verdict_number v) d
laid_down image d e p = p ∙ ap (λ v. image_after image (verdict_number v) d) (sym e)

pub left_so : (image : List ℕ) (d : Device) {v : Verdict} {n : Refusal} → v ≡ Err n → image ≡ image_after image (verdict_number v) d
left_so image d {n = n} e = sym (ap (λ v. image_after image (verdict_number v) d) e ∙ ap (λ k. image_after image k d) (refusal_suc n).1)

-- ---- a fresh device

module _ (image : List ℕ) (ignore mode : ℕ) where
  pub fresh_short : (length image ≡ 8720 → ⊥) → {r : ℕ} → r ≡ packed 255 0 0 0 → left r image [] [] [] ≡ freshened image ignore mode
  unfolding freshened
  fresh_short h p = rw (ne_eqb (length image) 8720 h) (ap (λ n. left n image [] [] []) p)

  module _ (h : length image ≡ 8720) where
    pub fresh_unknown : 1 < ignore → {r : ℕ} → r ≡ packed 255 0 0 0 → left r image [] [] [] ≡ freshened image ignore mode
    unfolding freshened
    fresh_unknown k p = rw (eq-eqb (length image) 8720 h, le-ltb ignore 2 k) (ap (λ n. left n image [] [] []) p)

    pub fresh_other : ignore ≤ 1 → 1 < mode → {r : ℕ} → r ≡ packed 255 0 0 0 → left r image [] [] [] ≡ freshened image ignore mode
    unfolding freshened
    fresh_other k l p = rw (eq-eqb (length image) 8720 h, lt-ltb ignore 2 (omega (arith, k)), le-ltb mode 2 l) (ap (λ n. left n image [] [] []) p)

    pub fresh_entry : ignore ≤ 1 → mode ≤ 1 → {d : Device} {image' : List ℕ} → d ≡ fresh (eqb ignore 1) (eqb mode 1) → image' ≡ image_of d
        → left 0 image' [] [] [] ≡ freshened image ignore mode
    unfolding freshened
    fresh_entry k l p q = rw (eq-eqb (length image) 8720 h, lt-ltb ignore 2 (omega (arith, k)), lt-ltb mode 2 (omega (arith, l)), q, p) refl

-- ---- a capture

module _ (descriptor : List ℕ) (cr : ℕ) (file : List ℕ) {r : ℕ} where
  pub no-descriptor : (length descriptor ≡ 32 → ⊥) → r ≡ packed 255 0 0 0 → r ≡ entered_capture descriptor cr file
  unfolding entered_capture
  no-descriptor h e = rw (ne_eqb (length descriptor) 32 h) e

  pub capture_entry : length descriptor ≡ 32 → {c : Captured} → c ≡ captured file descriptor cr → r ≡ captured_by c → r ≡ entered_capture descriptor cr file
  unfolding entered_capture
  capture_entry h e f = rw (eq-eqb (length descriptor) 32 h, ← e) f
