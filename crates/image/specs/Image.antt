-- The image of a device: 8,720 bytes (docs/ABI.md). Assumes nothing.
use Rattle.std.specs.Prelude.{Bool, true, false, cond, List, [], ◌∷◌, ◌++◌, ℕ, zero, suc, ◌+◌, ◌*◌, ◌%◌, ◌^◌, eqb, get_or, replicate}
use Rattle.rules.specs.Act.{PRIORITY}
use Rattle.rules.specs.Bytes.{bytes, number, part}
use Rattle.rules.specs.Fields.{bits_in, fields_of}
use Rattle.rules.specs.Scalars.{scalar_bits}
use Rattle.rules.specs.State.{Controller, Device}
use Rattle.rules.specs.With.{with_priorities}

-- ---- a device laid down

-- numbers in 8 bytes each, big-endian
unfoldable pub laid : List ℕ → List ℕ
laid [] = []
laid (v ∷ vs) = bytes 8 v ++ laid vs

-- byte 2048: 1 where masks are ignored; byte 2049: 1 in the chip's mode; bytes 2050 to 2063: 0
unfoldable pub setting_bytes : Bool → Bool → List ℕ
setting_bytes ignore chip = cond ignore 1 0 ∷ cond chip 1 0 ∷ replicate 14 0

-- the table; the settings; the fields by their numbers
unfoldable pub image_of : Device → List ℕ
image_of d = (d.table ++ setting_bytes d.ignore d.chip) ++ laid (fields_of d)

-- ---- the device that stands in an image

-- the number at place n, of which `bits` are kept; and k of them from place n on
unfoldable pub number_in : ℕ → List ℕ → ℕ → ℕ
number_in bits b n = number (part b (2064 + 8 * n) 8) % 2 ^ bits

unfoldable pub numbers_in : ℕ → List ℕ → ℕ → ℕ → List ℕ
numbers_in bits b n zero = []
numbers_in bits b n (suc k) = number_in bits b n ∷ numbers_in bits b (suc n) k

-- and from place n on one number of each of these bits
unfoldable pub scalars_in : List ℕ → List ℕ → ℕ → List ℕ
scalars_in [] b n = []
scalars_in (bits ∷ more) b n = number_in bits b n ∷ scalars_in more b (suc n)

unfoldable pub controller_in : List ℕ → ℕ → Controller
controller_in b c = record {
  masks = number_in 64 b (16 + 4 * c);
  forced = number_in 64 b (17 + 4 * c);
  lines = number_in 64 b (18 + 4 * c);
  levels = numbers_in 8 b (256 + 64 * c) 64;
  config = number_in 16 b (19 + 4 * c);
}

abbrev pub chip_in : List ℕ → Bool
chip_in b = eqb (get_or b 2049 0) 1

unfoldable pub device_in : List ℕ → Device
device_in b = record {
  scalars = scalars_in scalar_bits b 0;
  table = part b 0 2048;
  busy = numbers_in 64 b 64 64;
  majors = numbers_in 64 b 128 64;
  taken = numbers_in 64 b 576 192;
  pending = numbers_in 32 b 192 64;
  priorities = numbers_in (bits_in (chip_in b) (PRIORITY 0)) b 768 64;
  controllers = controller_in b 0 ∷ controller_in b 1 ∷ controller_in b 2 ∷ [];
  ignore = eqb (get_or b 2048 0) 1;
  chip = chip_in b;
}

-- ---- images and other bytes

unfoldable pub alike : List ℕ → List ℕ → Bool
alike [] [] = true
alike [] (y ∷ ys) = false
alike (x ∷ xs) [] = false
alike (x ∷ xs) (y ∷ ys) = cond (eqb x y) (alike xs ys) false

-- how many bits a priority may have in an image of this mode: 0 to 255 may stand there, of which the low six bits count; or 0 alone
abbrev pub held_bits : Bool → ℕ
held_bits chip = cond chip 8 0

-- the device in the bytes, with its priorities as they are held there
unfoldable pub held_in : List ℕ → Device
held_in b = with_priorities (device_in b) (numbers_in (held_bits (chip_in b)) b 768 64)

-- the bytes are those of the device that is held in them: the length is 8,720, what must be 0 is, no setting is above 1, and no field is too wide
unfoldable pub is_image : List ℕ → Bool
is_image b = alike (image_of (held_in b)) b
