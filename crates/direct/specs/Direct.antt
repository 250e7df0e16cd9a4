-- What the entries over a device in memory leave behind: a call of document 01, its answer packed into one number. Assumes nothing.
use Rattle.std.specs.Prelude.{cond, ◌&&◌, List, [], ◌≡◌, ℕ, suc, eqb, ltb, length}
use Rattle.rules.specs.Calls.{Asked, Told, after, fresh}
use Rattle.rules.specs.State.{Device}
use Rattle.rules.proofs.Proper.{Proper}
use Rattle.act.specs.Parts.{Arrays, ordered, working, whole}
use Rattle.act.specs.declared.Core.{Core}
use Rattle.image.specs.Image.{image_of, device_in, is_image}
use Rattle.answers.specs.Answers.{packed, Left, left, left_by}
use Rattle.answers.specs.Answers.{status_in}
use Rattle.direct.specs.declared.Fed.{Fed}
use Rattle.direct.specs.declared.Short.{Short}

-- an act or a take-back: what the call tells
abbrev pub left_of : Told → Left Device
left_of t = left_by (λ d. d) t

-- where the answer has the number of a refusal, those bits of priorities that count for nothing (rules/specs/View) are as they were too: of all that are
-- held, before and after it
abbrev pub SparedBy : ℕ → List ℕ → List ℕ → Type 0
SparedBy r held held' = (n : ℕ) → status_in r ≡ suc n → held' ≡ held

-- an act that is not lent a window, nor staging: what it answers and leaves is what the call tells, whatever base, window and staging are, and these
-- are left as they are
abbrev pub Aside : Asked → Device → Device → List ℕ → List ℕ → ℕ → ℕ → Type 0
Aside c d d' journal journal' used r = (base : ℕ) (window staging : List ℕ)
    → left r d' window staging journal' ≡ left_of (after c base d window staging journal used)

-- a fresh device: 255 where one of the settings is neither 0 nor 1, and the device as it was
unfoldable pub fresh_by : Device → ℕ → ℕ → Left Device
fresh_by d ignore mode = cond (ltb ignore 2 && ltb mode 2) (left 0 (fresh (eqb ignore 1) (eqb mode 1)) [] [] []) (left (packed 255 0 0 0) d [] [] [])

-- ---- a device as bytes

-- all that is there after it was laid down: the answer, the bytes
pub data Saved : Type 0 where
  saved : ℕ → List ℕ → Saved

-- 255 where the length is another, and the bytes as they were
unfoldable pub saved_by : Device → List ℕ → Saved
saved_by d image = cond (eqb (length image) 8720) (saved 0 (image_of d)) (saved (packed 255 0 0 0) image)

-- 255 where the bytes are no image, and the device as it was
unfoldable pub loaded_by : Device → List ℕ → Left Device
loaded_by d image = cond (is_image image) (left 0 (device_in image) [] [] []) (left (packed 255 0 0 0) d [] [] [])

-- ---- an act on a device in parts: a core by value, arrays lent

-- the core in what an entry copies; and one with the numbers and controllers that were handed back: no call changes a setting
abbrev pub core_in : Short → Core
core_in k = record { scalars = k.scalars; controllers = k.controllers; ignore_masks = k.ignore_masks }

abbrev pub fed_core : Core → Fed → Core
fed_core k r = record { scalars = r.scalars; controllers = r.controllers; ignore_masks = k.ignore_masks }

-- of one that is lent neither window nor staging: of a device with core k and arrays x before it and x' after it
abbrev pub Feeds : Asked → Short → Fed → Arrays → Arrays → List ℕ → List ℕ → ℕ → Type 0
Feeds c k r x x' j j' used = Proper (whole (core_in k) x) → Aside c (whole (core_in k) x) (whole (fed_core (core_in k) r) x') j j' used r.answer

-- of one that changes arrays alone
abbrev pub Heeds : Asked → Short → ℕ → Arrays → Arrays → List ℕ → List ℕ → ℕ → Type 0
Heeds c k r x x' j j' used = Proper (whole (core_in k) x) → Aside c (whole (core_in k) x) (whole (core_in k) x') j j' used r

-- of a run or a service: w, s, j, tb, b, m, p, o are window, staging, journal, table, busy, majors, pending and priorities
abbrev pub RunsFed : Asked → ℕ → Short → Fed → Arrays → List ℕ → List ℕ → List ℕ → List ℕ → List ℕ → List ℕ → List ℕ → List ℕ → List ℕ → List ℕ → List ℕ → List ℕ → List ℕ → List ℕ → List ℕ → List ℕ → ℕ → Type 0
RunsFed c base k r x w w' s s' j j' tb tb' b b' m m' p p' o o' used = Proper (whole (core_in k) (working (ordered x o k.chip) tb b m p))
    → left r.answer (whole (fed_core (core_in k) r) (working (ordered x o' k.chip) tb' b' m' p')) w' s' j'
    ≡ left_of (after c base (whole (core_in k) (working (ordered x o k.chip) tb b m p)) w s j used)
