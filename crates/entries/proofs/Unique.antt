-- What the contracts of the entries come to: two outcomes are equal; on the image of a device an entry is the call on that device; and a refused
-- call leaves the image. Assumes nothing.
use mathlib.Core.Bool.{Bool, true, false, cond}
use mathlib.Core.List.{List}
use mathlib.Core.Path.{◌≡◌, refl, sym, ap, ◌∙◌}
use Prim.Native.Nat.{ℕ, zero, suc}
use native.Mathlib.Omega.{arith}
use Rattle.rules.specs.Calls.{heard_level, heard_vector, Told, told, number_told}
use Rattle.rules.specs.State.{Device}
use Rattle.rules.proofs.CallLaws.{AsGiven}
use Rattle.rules.proofs.Proper.{Proper}
use Rattle.image.specs.Image.{image_of, device_in, is_image}
use Rattle.image.proofs.Round.{proper_round}
use Rattle.answers.specs.Answers.{Left, left, left_by, packed}
use Rattle.entries.specs.Entry.{image_after, entered}

left_parts : {r r' : ℕ} {image image' window window' staging staging' journal journal' : List ℕ} → left r image window staging journal ≡ left r' image' window' staging' journal'
    → (r ≡ r') × (image ≡ image') × (window ≡ window') × (staging ≡ staging') × (journal ≡ journal')
left_parts e = (cc, cc, cc, cc, cc)

-- whatever it is that both equal
pub entry_fixed : (l : Left (List ℕ)) {r r' : ℕ} {image image' window window' staging staging' journal journal' : List ℕ}
    → left r image window staging journal ≡ l → left r' image' window' staging' journal' ≡ l
    → (r ≡ r') × (image ≡ image') × (window ≡ window') × (staging ≡ staging') × (journal ≡ journal')
entry_fixed l p q = left_parts (p ∙ sym q)

-- a call that leaves the device where it is refused leaves its image
as_laid : (d : Device) (window journal : List ℕ) (used : ℕ) (t : Told) → AsGiven d window journal used t → left_by (image_after (image_of d) (number_told t)) t ≡ left_by image_of t
unfolding left_by
as_laid d window journal used (told zero heard e w s j u) g = refl
as_laid d window journal used (told (suc n) heard e w s j u) g = ap (λ i. left (packed (suc n) (heard_level heard) (heard_vector heard) u) (image_of i) w s j) (sym g.0)

-- on the image of a proper device, and every value of the declared type is one, whatever the call tells of a device, as long as a refusal leaves it
-- (`CallLaws`: `act_as_given`, `back_as_given`)
pub entry_is_call : (d : Device) → Proper d → (f : Device → Told) (window staging journal : List ℕ) (used : ℕ) → AsGiven d window journal used (f d)
    → entered (image_of d) window staging journal used (f (device_in (image_of d))) ≡ left_by image_of (f d)
unfolding entered
entry_is_call d g f window staging journal used a = let r = proper_round d g in rw (r.0, r.1) (as_laid d window journal used (f d) a)

-- a refused call leaves every image, byte by byte, and so do bytes that are none
abbrev pub image_left : Left (List ℕ) → List ℕ
image_left (left r image window staging journal) = image

pub image_left_lem : (image window staging journal : List ℕ) (used n : ℕ) (t : Told) → number_told t ≡ suc n → image_left (entered image window staging journal used t) ≡ image
unfolding entered left_by
image_left_lem image window staging journal used n (told zero heard d w s j u) e = absurd (omega (arith, e))
image_left_lem image window staging journal used n (told (suc m) heard d w s j u) e = by (is_image image)
  where
    by : (b : Bool) → image_left (cond b (left (packed (suc m) (heard_level heard) (heard_vector heard) u) image w s j) (left (packed 255 0 0 used) image window staging journal)) ≡ image
    by true = refl
    by false = refl
