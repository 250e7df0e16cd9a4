-- What no entry does that meets its contract: turn a setting round, or take a third one; lay a device down in bytes of another length. By
-- computation. On what a device stands for the entries are the calls (specs/Direct, `left_of`, `Aside`), so that what shuts out wrong programs for the
-- calls does so for them; the places in an answer: crate `answers`, proofs/Reading. Assumes nothing.
use mathlib.Core.Bool.{true, false}
use mathlib.Core.List.{List, [], ◌∷◌}
use mathlib.Core.Path.{◌≡◌, refl}
use Prim.Native.Nat.{ℕ}
use lib.ListN.{length}
use Rattle.rules.specs.Calls.{fresh}
use Rattle.rules.specs.State.{Device}
use Rattle.answers.specs.Answers.{packed, left}
use Rattle.direct.specs.Direct.{fresh_by, saved, saved_by}

-- of each setting 1 is on and 0 is off; 2 is refused, and the device stays
pub settings : (d : Device) → fresh_by d 1 0 ∷ fresh_by d 0 1 ∷ fresh_by d 0 0 ∷ fresh_by d 2 0 ∷ fresh_by d 0 2 ∷ []
    ≡ left 0 (fresh true false) [] [] []
    ∷ left 0 (fresh false true) [] [] []
    ∷ left 0 (fresh false false) [] [] []
    ∷ left (packed 255 0 0 0) d [] [] []
    ∷ left (packed 255 0 0 0) d [] [] []
    ∷ []
unfolding fresh_by
settings d = refl

-- 8,719 bytes stay as they are
pub too_short : (d : Device) (image : List ℕ) → length image ≡ 8719 → saved_by d image ≡ saved (packed 255 0 0 0) image
unfolding saved_by
too_short d image e = rw e
