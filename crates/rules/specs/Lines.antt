-- Document 01, "Run, service, controllers": lines, level, acknowledge. Assumes nothing.
use Rattle.std.specs.Prelude.{Bool, cond, not, ◌&&◌, ◌||◌, List, [], ◌∷◌, ℕ, zero, suc, ◌+◌, ◌*◌, ◌/◌, ◌%◌, ◌^◌, max, eqb, leb, ltb, get_or, Some, None}
use Rattle.std.specs.Int.Bits.{bit_or}
use Rattle.rules.specs.Act.{Act, done, ask, put, change, look, ◌>>=◌, ◌>>◌, MASKS, FORCED, LINES, SOURCE, TAKEN, IGNORE}
use Rattle.rules.specs.Scalars.{INT, LEVEL}
use Rattle.rules.specs.Words.{has, without}
use Rattle.rules.specs.Verdicts.{Heard}

-- ---- DMA-owned lines

-- n bits of a mask from bit i on; and a mask with others there
unfoldable pub bits_from : ℕ → ℕ → ℕ → ℕ
bits_from i n m = m / 2 ^ i % 2 ^ n

unfoldable pub with_bits_from : ℕ → ℕ → ℕ → ℕ → ℕ
with_bits_from i n new m = m / 2 ^ (i + n) * 2 ^ (i + n) + new * 2 ^ i + m % 2 ^ i

-- the lines of controller c with its DMA-owned bits from another mask of lines
unfoldable pub owned_from : ℕ → ℕ → ℕ → ℕ
owned_from zero other lines = with_bits_from 8 16 (bits_from 8 16 other) lines
owned_from (suc zero) other lines = with_bits_from 8 40 (bits_from 8 40 other) lines
owned_from (suc (suc c)) other lines = with_bits_from 0 1 (bits_from 0 1 other) lines

-- INT bits 0..15 drive controller 0 lines 8..23; 16..55 controller 1 lines 8..47; any of 56..63 controller 2 line 0
unfoldable pub driven : ℕ → ℕ → ℕ → ℕ
driven zero int lines = with_bits_from 8 16 (bits_from 0 16 int) lines
driven (suc zero) int lines = with_bits_from 8 40 (bits_from 16 40 int) lines
driven (suc (suc c)) int lines = with_bits_from 0 1 (cond (eqb (bits_from 56 8 int) 0) 0 1) lines

-- ---- level

-- lines not masked, or forced (with the ignore setting, lines or forced)
unfoldable pub deliverable : Bool → ℕ → ℕ → ℕ → ℕ
deliverable ignore lines masks forced = bit_or (cond ignore lines (without lines masks)) forced

-- the deliverable sources of controller c, as a mask
unfoldable pub sources : ℕ → Act ℕ
sources c = do
  ignore ← look IGNORE
  lines ← ask (LINES c)
  masks ← ask (MASKS c)
  forced ← ask (FORCED c)
  done (deliverable ignore lines masks forced)

-- the level bytes of so many sources of controller c, from s on
unfoldable pub level_bytes : ℕ → ℕ → ℕ → Act (List ℕ)
level_bytes c zero s = done []
level_bytes c (suc left) s = do
  l ← ask (SOURCE c s)
  rest ← level_bytes c left (suc s)
  done (l ∷ rest)

-- the highest of the low 3 bits of the level bytes of the sources in m below s, or 0
unfoldable pub loudest : List ℕ → ℕ → ℕ → ℕ
loudest levels m zero = 0
loudest levels m (suc s) = cond (has m s) (max (get_or levels s 0 % 8) (loudest levels m s)) (loudest levels m s)

unfoldable pub level_of : ℕ → Act ℕ
level_of c = do
  m ← sources c
  levels ← level_bytes c 64 0
  done (loudest levels m 64)

-- lines and level worked out anew
unfoldable pub relevel : Act (Unit {0})
relevel = do
  int ← ask INT
  change (LINES 0) (driven 0 int)
  change (LINES 1) (driven 1 int)
  change (LINES 2) (driven 2 int)
  l0 ← level_of 0
  l1 ← level_of 1
  l2 ← level_of 2
  put LEVEL (max l2 (max l1 l0))

-- ---- acknowledge

-- level 0 is ignored, and any level at or below `ipl` but 7
unfoldable pub answers : ℕ → ℕ → Bool
answers ipl l = not (eqb l 0) && (ltb ipl l || eqb l 7)

-- a level and where it was found; level 0: nowhere
abbrev pub Found : Type 0
Found = ℕ × ℕ

-- of the sources in m below s: the highest level that answers, of equals the higher source
unfoldable pub loudest_above : ℕ → List ℕ → ℕ → ℕ → Found
loudest_above ipl levels m zero = (0, 0)
loudest_above ipl levels m (suc s) =
    let l = get_or levels s 0 % 8 in
    let below = loudest_above ipl levels m s in
    cond (has m s && answers ipl l && leb below.0 l) (l, s) below

-- what is found in controller c stands against what was found below it: of equals the higher controller
unfoldable pub above : ℕ → Found → Found → Found
above c (l, s) below = cond (not (eqb l 0) && leb below.0 l) (l, 64 * c + s) below

unfoldable pub heard_from : ℕ → ℕ → Found → Act Found
heard_from ipl c below = do
  m ← sources c
  levels ← level_bytes c 64 0
  done (above c (loudest_above ipl levels m 64) below)

-- that level and vector 64 + 64 x controller + source, whose taken count rises
unfoldable pub hear : Found → Act Heard
hear (l, i) = cond (eqb l 0) (done None) (do
  change (TAKEN i) (λ n. (n + 1) % 2 ^ 64)
  done (Some (record { level = l; vector = 64 + i })))

unfoldable pub acknowledge : ℕ → Act Heard
acknowledge ipl = do
  h0 ← heard_from ipl 0 (0, 0)
  h1 ← heard_from ipl 1 h0
  h2 ← heard_from ipl 2 h1
  hear h2

-- on an `unfolding` line: all the definitions of this file
unfoldable pub lines_rules : Unit {0}
unfolding bits_from with_bits_from owned_from driven deliverable sources level_bytes loudest level_of relevel answers loudest_above above heard_from hear acknowledge
lines_rules = tt
