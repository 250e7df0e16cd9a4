-- Hexadecimal digits, in either case, as numbers and bytes. Assumes nothing.
use Rattle.std.specs.Prelude.{Option, None, Some, Bool, true, cond, ◌&&◌, List, ℕ, zero, suc, ◌+◌, ◌-◌, ◌*◌, ◌%◌, ◌^◌, eqb, ltb, leb, get_or}

-- a digit's number; 16 where it is none
unfoldable pub nibble_of : ℕ → ℕ
nibble_of b =
    cond (leb 48 b && leb b 57) (b - 48)
    (cond (leb 97 b && leb b 102) (b - 87)
    (cond (leb 65 b && leb b 70) (b - 55) 16))

-- the same, or nothing
unfoldable pub digit_in : ℕ → Option ℕ
digit_in b = cond (eqb (nibble_of b) 16) None (Some (nibble_of b))

module _ (text : List ℕ) where
  -- whether n characters from k on are digits
  unfoldable pub digits_from : ℕ → ℕ → Bool
  digits_from k zero = true
  digits_from k (suc n) = ltb (nibble_of (get_or text k 0)) 16 && digits_from (k + 1) n

  -- what they spell, behind a number, as far as 32 bits hold it
  unfoldable pub spelled_from : ℕ → ℕ → ℕ → ℕ
  spelled_from v k zero = v
  spelled_from v k (suc n) = spelled_from (v % 2 ^ 28 * 16 + nibble_of (get_or text k 0) % 16) (k + 1) n

  -- byte k, of two digits each
  unfoldable pub byte_of : ℕ → ℕ
  byte_of k = nibble_of (get_or text (2 * k) 0) % 16 * 16 + nibble_of (get_or text (2 * k + 1) 0) % 16
