-- Lists of bytes: big-endian numbers over any width; parts of a list, read and laid over. Assumes nothing.
use Rattle.std.specs.Prelude.{List, [], ◌∷◌, ℕ, zero, suc, ◌+◌, ◌*◌, ◌/◌, ◌%◌, ◌^◌, ◌<◌, length, get_or, set}

-- the w low bytes of n, the highest first
unfoldable pub bytes : ℕ → ℕ → List ℕ
bytes zero n = []
bytes (suc w) n = n / 256 ^ w % 256 ∷ bytes w n

-- the number that bytes spell, the highest first
unfoldable pub number : List ℕ → ℕ
number [] = 0
number (b ∷ bs) = b * 256 ^ length bs + number bs

-- the n elements of l from index i on
unfoldable pub part : List ℕ → ℕ → ℕ → List ℕ
part l i zero = []
part l i (suc n) = get_or l i 0 ∷ part l (suc i) n

-- l, with v laid over it from index i on
unfoldable pub splice : List ℕ → ℕ → List ℕ → List ℕ
splice l i [] = l
splice l i (b ∷ v) = set (splice l (suc i) v) i b

-- every element is a byte
abbrev pub Bytes : List ℕ → Type 0
Bytes l = (i : ℕ) → get_or l i 0 < 256

-- on an `unfolding` line: all the definitions of this file
unfoldable pub bytes_rules : Unit {0}
unfolding bytes number part splice
bytes_rules = tt
