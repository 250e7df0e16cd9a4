-- What the C entries leave behind (docs/ABI.md): a call of document 01 between two images. Assumes nothing.
use Rattle.std.specs.Prelude.{cond, ◌&&◌, List, [], ◌≡◌, ℕ, zero, suc, eqb, ltb, length}
use Rattle.rules.specs.Calls.{Asked, fresh, Told, number_told, after, ToldRead}
use Rattle.rules.specs.State.{Device}
use Rattle.image.specs.Image.{image_of, device_in, is_image}
use Rattle.answers.specs.Answers.{packed, read_by, captured_by, Left, left, left_by}
use Rattle.captures.specs.Capture.{captured}

-- the image after a call that ends with a number: that of the device then, if it is 0; after a refusal the image as it was, byte by byte
abbrev pub image_after : List ℕ → ℕ → Device → List ℕ
image_after image zero d = image_of d
image_after image (suc n) d = image

-- an act or a take-back: 255 where the bytes are no image; else what the call tells
unfoldable pub entered : List ℕ → List ℕ → List ℕ → List ℕ → ℕ → Told → Left (List ℕ)
entered image window staging journal used t =
    cond (is_image image) (left_by (image_after image (number_told t)) t) (left (packed 255 0 0 used) image window staging journal)

-- an act that is not lent a window, nor staging: what it answers and leaves is what the call tells, whatever base, window and staging are, and these
-- are left as they are
abbrev pub Aside : Asked → List ℕ → List ℕ → List ℕ → List ℕ → ℕ → ℕ → Type 0
Aside c image image' journal journal' used r = (base : ℕ) (window staging : List ℕ)
    → left r image' window staging journal' ≡ entered image window staging journal used (after c base (device_in image) window staging journal used)

-- a register read
unfoldable pub entered_read : List ℕ → ToldRead → ℕ
entered_read image t = cond (is_image image) (read_by t) (packed 255 0 0 0)

-- a capture from the board: 255 where the descriptor is not 32 bytes
unfoldable pub entered_capture : List ℕ → ℕ → List ℕ → ℕ
entered_capture descriptor cr file = cond (eqb (length descriptor) 32) (captured_by (captured file descriptor cr)) (packed 255 0 0 0)

-- a fresh device: 255 where the length is another, or a setting neither 0 nor 1
unfoldable pub freshened : List ℕ → ℕ → ℕ → Left (List ℕ)
freshened image ignore mode =
    cond (eqb (length image) 8720 && ltb ignore 2 && ltb mode 2) (left 0 (image_of (fresh (eqb ignore 1) (eqb mode 1))) [] [] []) (left (packed 255 0 0 0) image [] [] [])
