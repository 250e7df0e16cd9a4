-- Document 01, "Descriptors and one minor loop": sizes, sums, counts; and masks of bits. Assumes nothing.
use Rattle.std.specs.Prelude.{Bool, cond, [], ◌∷◌, ℕ, ◌+◌, ◌-◌, ◌*◌, ◌/◌, ◌%◌, ◌^◌, min, eqb, ltb, get_or}
use Rattle.std.specs.Int.Bits.{bit_and, bit_or}
use Rattle.std.specs.Int.Count.{count_trailing_zeros}

-- ---- masks. A mask is a number; its bit i is asked by / and %, gained by `bit_or`, and lost by taking away what `bit_and` finds.

abbrev pub has : ℕ → ℕ → Bool
has m i = eqb (m / 2 ^ i % 2) 1

unfoldable pub gain : ℕ → ℕ → ℕ
gain m i = bit_or m (2 ^ i)

-- the bits of m that are not in k
unfoldable pub without : ℕ → ℕ → ℕ
without m k = m - bit_and m k

unfoldable pub lose : ℕ → ℕ → ℕ
lose m i = m - bit_and m (2 ^ i)

-- the lowest set bit of a mask of 64 bits that is not 0
unfoldable pub lowest : ℕ → ℕ
lowest m = count_trailing_zeros 64 m

-- ---- sizes

-- size codes 0, 1, 2, 4, 5 mean 1, 2, 4, 16, 32 bytes; 3, 6, 7 mean 1
unfoldable pub size_of : ℕ → ℕ
size_of code = get_or (1 ∷ 2 ∷ 4 ∷ 1 ∷ 16 ∷ 32 ∷ 1 ∷ 1 ∷ []) (code % 8) 1

-- a size moves in units: the size, at most 4 bytes
unfoldable pub unit_of : ℕ → ℕ
unit_of size = min size 4

-- how many whole sizes n bytes round up to
unfoldable pub wholes : ℕ → ℕ → ℕ
wholes n size = (n + size - 1) / size

-- ---- sums

-- every address sum wraps at 2^32
unfoldable pub wrap32 : ℕ → ℕ
wrap32 n = n % 2 ^ 32

-- a signed number of w bits, as what is added for it in a sum that wraps at 2^32
unfoldable pub signed : ℕ → ℕ → ℕ
signed w n = cond (ltb n (2 ^ (w - 1))) n (n + 2 ^ 32 - 2 ^ w)

-- with modulo m above 0 only the low m bits move
unfoldable pub modulo_add : ℕ → ℕ → ℕ → ℕ
modulo_add a d m = cond (eqb m 0) (wrap32 (a + d)) (a / 2 ^ m * 2 ^ m + (a + d) % 2 ^ m)

-- ---- counts

-- if bit 15 of a count is set, the count is its low 9 bits and bits 14..9 the link; else it is the low 15 bits with no link
abbrev pub linked : ℕ → Bool
linked raw = has raw 15

abbrev pub count_of : ℕ → ℕ
count_of raw = cond (linked raw) (raw % 2 ^ 9) (raw % 2 ^ 15)

abbrev pub link_of : ℕ → ℕ
link_of raw = raw / 2 ^ 9 % 2 ^ 6

-- the same field with another count
abbrev pub recount : ℕ → ℕ → ℕ
recount raw n = cond (linked raw) (raw / 2 ^ 9 * 2 ^ 9 + n) n

-- on an `unfolding` line: all the definitions of this file
unfoldable pub words : Unit {0}
unfolding gain without lose lowest size_of unit_of wholes wrap32 signed modulo_add
words = tt
