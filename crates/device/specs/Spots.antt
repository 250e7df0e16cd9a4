-- Where the field of a number stands in a device, and how many bits it has; what is known of a controller. Assumes nothing.
use Rattle.std.specs.Prelude.{Option as Maybe, Some, None, Bool, cond, List, [], ◌∷◌, ◌≡◌, ℕ, suc, ◌%◌, ◌^◌, ◌<◌, leb, length, get_or}
use Rattle.std.proofs.Math.Option.{Option, none, some}
use Rattle.rules.specs.Act.{Field, SCALAR, MASKS, FORCED, LINES, CONFIG, BUSY, MAJORS, PENDING, SOURCE, TAKEN, PRIORITY}
use Rattle.rules.specs.Bytes.{Bytes}
use Rattle.rules.specs.Fields.{bits_in, field_at}
use Rattle.rules.specs.Scalars.{scalar_bits}
use Rattle.rules.specs.State.{Controller}
use Rattle.device.specs.declared.Spot.{Spot}
use Rattle.device.specs.declared.Spot.TheVariants.{Scalar, Masks, Forced, Lines, Config, Busy, Majors, Pending, Source, Taken, Priority}

-- the low bits of a number of 64; and numbers from place n on, each cut to its bits
unfoldable pub low : ℕ → ℕ → ℕ
low b x = cond (leb 64 b) x (x % 2 ^ b)

unfoldable pub cut : ℕ → List ℕ → List ℕ → List ℕ
cut n [] v = []
cut n (b ∷ bs) v = low b (get_or v n 0) ∷ cut (suc n) bs v

-- the field that stands there
abbrev pub field_of : Spot → Field
field_of (Scalar n) = SCALAR n
field_of (Masks c) = MASKS c
field_of (Forced c) = FORCED c
field_of (Lines c) = LINES c
field_of (Config c) = CONFIG c
field_of (Busy ch) = BUSY ch
field_of (Majors ch) = MAJORS ch
field_of (Pending ch) = PENDING ch
field_of (Source c s) = SOURCE c s
field_of (Taken i) = TAKEN i
field_of (Priority ch) = PRIORITY ch

abbrev pub field_in : Maybe Spot → Option Field
field_in None = none
field_in (Some s) = some (field_of s)

-- there is such a place
abbrev pub Inside : Spot → Type 0
Inside (Scalar n) = n < length scalar_bits
Inside (Masks c) = c < 3
Inside (Forced c) = c < 3
Inside (Lines c) = c < 3
Inside (Config c) = c < 3
Inside (Busy ch) = ch < 64
Inside (Majors ch) = ch < 64
Inside (Pending ch) = ch < 64
Inside (Source c s) = (c < 3) × (s < 64)
Inside (Taken i) = i < 192
Inside (Priority ch) = ch < 64

abbrev pub InsideSome : Maybe Spot → Type 0
InsideSome None = Unit {0}
InsideSome (Some s) = Inside s

-- the spot of number n, in a mode, if a field has that number
pub record Found (chip : Bool) (n : ℕ) (s : Maybe Spot) : Type 0 where
  pub name : field_in s ≡ field_at chip n
  pub inside : InsideSome s

-- how many bits a field has in a mode; 0 where there is none
abbrev pub bits_some : Bool → Option Field → ℕ
bits_some chip none = 0
bits_some chip (some f) = bits_in chip f

abbrev pub bits_at : Bool → ℕ → ℕ
bits_at chip n = bits_some chip (field_at chip n)

-- the same where there may be none
abbrev pub bits_found : Bool → Option Field → Maybe ℕ
bits_found chip none = None
bits_found chip (some f) = Some (bits_in chip f)

-- the bounds of a controller's numbers, and the length of its levels
pub record Fits (k : Controller) : Type 0 where
  pub masks : k.masks < 2 ^ 64
  pub forced : k.forced < 2 ^ 64
  pub lines : k.lines < 2 ^ 64
  pub config : k.config < 2 ^ 16
  pub levels_long : length k.levels ≡ 64
  pub levels : Bytes k.levels
