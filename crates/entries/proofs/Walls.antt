-- What no entry does that meets its contract: turn a setting round, or take one for the other. By computation. On the image of a device the entries are the calls
-- (`Unique.entry_is_call`), so that what shuts out wrong programs for the calls does so for them; the places in an answer: crate `answers`,
-- proofs/Reading. Assumes nothing.
use mathlib.Core.Bool.{true, false}
use mathlib.Core.List.{List, []}
use mathlib.Core.Path.{◌≡◌}
use Prim.Native.Nat.{ℕ}
use lib.ListN.{length}
use Rattle.rules.specs.Calls.{fresh}
use Rattle.image.specs.Image.{image_of}
use Rattle.answers.specs.Answers.{left, packed}
use Rattle.entries.specs.Entry.{freshened}

-- 1 ignores masks and 0 does not; 1 is the chip's mode and 0 the old one; 2 is refused, and so are 8,719 bytes
module _ (image : List ℕ) (long : length image ≡ 8720) where
  pub setting_1 : freshened image 1 0 ≡ left 0 (image_of (fresh true false)) [] [] []
  unfolding freshened
  setting_1 = rw long

  pub setting_0 : freshened image 0 1 ≡ left 0 (image_of (fresh false true)) [] [] []
  unfolding freshened
  setting_0 = rw long

  pub setting_2 : freshened image 2 0 ≡ left (packed 255 0 0 0) image [] [] []
  unfolding freshened
  setting_2 = rw long

  pub mode_2 : freshened image 0 2 ≡ left (packed 255 0 0 0) image [] [] []
  unfolding freshened
  mode_2 = rw long

pub too_short : (image : List ℕ) → length image ≡ 8719 → freshened image 1 0 ≡ left (packed 255 0 0 0) image [] [] []
unfolding freshened
too_short image e = rw e
