-- A journal as text: "one record a line", in hexadecimal. Assumes nothing.
use Rattle.std.specs.Prelude.{cond, List, [], ◌∷◌, ◌++◌, ◌≡◌, ℕ, zero, suc, ◌+◌, ◌/◌, ◌%◌, ◌≤◌, ltb, take, drop}
use Rattle.rules.specs.Bytes.{splice}
use Rattle.rules.specs.TakeBack.{marked}

-- the lower-case digit of a number below 16
unfoldable pub digit_of : ℕ → ℕ
digit_of n = cond (ltb n 10) (48 + n) (87 + n)

-- two digits for each byte
unfoldable pub digits : List ℕ → List ℕ
digits [] = []
digits (b ∷ bs) = digit_of (b / 16) ∷ digit_of (b % 16) ∷ digits bs

-- and the line's end
unfoldable pub line_text : List ℕ → List ℕ
line_text bs = digits bs ++ 10 ∷ []

-- the lines of the first n records of l
unfoldable pub text : ℕ → List ℕ → List ℕ
text zero l = []
text (suc n) l = line_text (take 16 l) ++ text n (drop 16 l)

-- how many of the first n records of l stand before one with a wrong mark
unfoldable pub marked_first : ℕ → List ℕ → ℕ
marked_first zero l = 0
marked_first (suc n) l = cond (marked (take 16 l)) (suc (marked_first n (drop 16 l))) 0

-- of the first n records of l, r are listed at the front of `out`; that r is at most n stands beside it, so that a caller's `omega` finds it
pub record Listed (n r : ℕ) (l out out' : List ℕ) : Type 0 where
  pub at_most : r ≤ n
  pub as_many : r ≡ marked_first n l
  pub as_text : out' ≡ splice out 0 (text r l)
