-- An act's steps, as a tree: what it asks of memory, table and fields, what it does to them, and what it answers.
-- How a tree is carried out is no part of it: see `Carry`. Assumes nothing.
use Rattle.std.specs.Prelude.{Bool, true, false, List, ℕ}

infixl 20 ◌>>=◌
infixl 20 ◌>>◌
-- where bytes are: in the memory window, by address, or in the descriptor table, by offset
pub data Space : Type 0 where
  window table : Space

-- the fields, by name; `SCALAR i` is the number i of those that stand alone (`Scalars` has their names), `TAKEN i` the taken count of vector
-- 64 + i, `SOURCE c s` the level byte of source s of controller c, `PRIORITY ch` a channel's priority
pub data Field : Type 0 where
  SCALAR MASKS FORCED LINES CONFIG BUSY MAJORS PENDING TAKEN PRIORITY : ℕ → Field
  SOURCE : ℕ → ℕ → Field

-- what is chosen when the device is made, and no step changes: whether masks are ignored; whether service is as the chip does it
pub data Setting : Type 0 where
  IGNORE CHIP : Setting

pub data Act (A : Type 0) : Type 0 where
  -- the answer
  Done : A → Act A
  -- there is no end to it
  Endless : Act A
  -- so many bytes of staging are needed
  Stage : ℕ → Act A → Act A
  -- the bytes at a place: where, how many
  Fetch : Space → ℕ → ℕ → (List ℕ → Act A) → Act A
  -- a number is stored at a place: where, in how many bytes, what
  Store : Space → ℕ → ℕ → ℕ → Act A → Act A
  -- what one field holds
  Ask : Field → (ℕ → Act A) → Act A
  -- one field gets a value
  Put : Field → ℕ → Act A → Act A
  -- how a setting is
  Look : Setting → (Bool → Act A) → Act A

unfoldable pub ◌>>=◌ : {A B : Type 0} → Act A → (A → Act B) → Act B
Done a >>= f = f a
Endless >>= f = Endless
Stage n k >>= f = Stage n (k >>= f)
Fetch sp a n k >>= f = Fetch sp a n (λ v. k v >>= f)
Store sp a n v k >>= f = Store sp a n v (k >>= f)
Ask n k >>= f = Ask n (λ v. k v >>= f)
Put n v k >>= f = Put n v (k >>= f)
Look s k >>= f = Look s (λ b. k b >>= f)

unfoldable pub ◌>>◌ : {A B : Type 0} → Act A → Act B → Act B
m >> k = m >>= (λ _. k)

-- ---- the single steps

abbrev pub done : {A : Type 0} → A → Act A
done a = Done a

abbrev pub nothing : Act (Unit {0})
nothing = Done tt

abbrev pub endless : {A : Type 0} → Act A
endless = Endless

unfoldable pub stage : ℕ → Act (Unit {0})
stage n = Stage n nothing

unfoldable pub fetch : Space → ℕ → ℕ → Act (List ℕ)
fetch sp a n = Fetch sp a n (λ v. Done v)

unfoldable pub store : Space → ℕ → ℕ → ℕ → Act (Unit {0})
store sp a n v = Store sp a n v nothing

unfoldable pub ask : Field → Act ℕ
ask n = Ask n (λ v. Done v)

unfoldable pub put : Field → ℕ → Act (Unit {0})
put n v = Put n v nothing

-- what a field holds is changed
unfoldable pub change : Field → (ℕ → ℕ) → Act (Unit {0})
change n g = Ask n (λ v. Put n (g v) nothing)

unfoldable pub look : Setting → Act Bool
look s = Look s (λ b. Done b)

unfoldable pub when : Bool → Act (Unit {0}) → Act (Unit {0})
when true m = m
when false m = nothing

-- on an `unfolding` line: all the definitions of this file
unfoldable pub acts : Unit {0}
unfolding ◌>>=◌ ◌>>◌ stage fetch store ask put change look when
acts = tt
