-- What the code asks of bytes to tell whether they are an image: bits of numbers, place by place. Assumes nothing.
use Rattle.std.specs.Prelude.{Bool, true, ◌&&◌, List, [], ◌∷◌, ℕ, suc, ◌-◌, ◌^◌, eqb, ltb, length, get_or, replicate}
use Rattle.rules.specs.Bytes.{part}
use Rattle.rules.specs.Scalars.{scalar_bits}
use Rattle.image.specs.Image.{setting_bytes, number_in, chip_in, alike}

-- from place n on one number of each of these bits: none is too wide
unfoldable pub fits_in : List ℕ → List ℕ → ℕ → Bool
fits_in [] b n = true
fits_in (bits ∷ more) b n = ltb (number_in 64 b n) (2 ^ bits) && fits_in more b (suc n)

-- bytes 2048 to 2063 are those of settings
unfoldable pub setting_fits : List ℕ → Bool
setting_fits b = alike (setting_bytes (eqb (get_or b 2048 0) 1) (chip_in b)) (part b 2048 16)

-- places 0 to 15: the numbers that stand alone, and 0 behind them
unfoldable pub scalars_fit : List ℕ → Bool
scalars_fit b = fits_in scalar_bits b 0 && fits_in (replicate (16 - length scalar_bits) 0) b (length scalar_bits)

-- places 16 to 63: each controller's own four, and 0 behind them
abbrev pub own_bits : List ℕ
own_bits = 64 ∷ 64 ∷ 64 ∷ 16 ∷ 64 ∷ 64 ∷ 64 ∷ 16 ∷ 64 ∷ 64 ∷ 64 ∷ 16 ∷ replicate 36 0
