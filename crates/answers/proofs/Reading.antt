-- What a caller reads off an answer is what was put there. Assumes nothing.
use Rattle.std.specs.Prelude.{Some, None}
use mathlib.Core.List.{◌∷◌, []}
use mathlib.Core.Path.{◌≡◌, refl, ◌∙◌}
use Prim.Native.Nat.{ℕ, ◌+◌, ◌*◌, ◌%◌, ◌^◌, ◌<◌}
use native.Mathlib.Nat.{mod-lt, mod-eq_of_lt}
use native.Mathlib.Omega.{arith}
use borrow.Author.Tests.{ne_eqb}
use lib.Dec.{lit<}
use Rattle.rules.specs.Calls.{heard_level, heard_vector, ToldRead, told_read}
use Rattle.rules.specs.Verdicts.{Heard}
use Rattle.rules.proofs.Bench.{read_number}
use Rattle.rules.proofs.Hearing.{Audible}
use Rattle.answers.specs.Answers.{packed, read_by, status_in, level_in, vector_in, low_in, heard_in}

pub unpacked : (n l v low : ℕ) → l < 2 ^ 8 → v < 2 ^ 8 → let r = packed n l v low in (status_in r ≡ n) × (level_in r ≡ l) × (vector_in r ≡ v) × (low_in r ≡ low % 2 ^ 32)
unfolding packed
unpacked n l v low h k = parts (low % 2 ^ 32) (mod-lt low (lit< tt))
  where
    parts : (x : ℕ) → x < 2 ^ 32 → let r = n * 2 ^ 56 + l * 2 ^ 40 + v * 2 ^ 32 + x in (status_in r ≡ n) × (level_in r ≡ l) × (vector_in r ≡ v) × (low_in r ≡ x)
    parts x b = (omega arith, omega arith, omega arith, omega arith)

heard_bytes : (heard : Heard) → Audible heard → (heard_level heard < 2 ^ 8) × (heard_vector heard < 2 ^ 8)
heard_bytes None a = (lit< tt, lit< tt)
heard_bytes (Some source) a = (omega (arith, a.1), a.3)

-- of an outcome: its number, what was heard, and its used length where that fits 32 bits
module _ (n : ℕ) (heard : Heard) (used : ℕ) (a : Audible heard) where
  abbrev word : ℕ
  word = packed n (heard_level heard) (heard_vector heard) used

  pub status_is : status_in word ≡ n
  status_is = let b = heard_bytes heard a in (unpacked n (heard_level heard) (heard_vector heard) used b.0 b.1).0

  pub low_is : used < 2 ^ 32 → low_in word ≡ used
  low_is fits = let b = heard_bytes heard a in (unpacked n (heard_level heard) (heard_vector heard) used b.0 b.1).3 ∙ mod-eq_of_lt fits

pub heard_is : (n : ℕ) (heard : Heard) (used : ℕ) → Audible heard → heard_in (packed n (heard_level heard) (heard_vector heard) used) ≡ heard
heard_is n None used a = let r = unpacked n 0 0 used (lit< tt) (lit< tt) in rw r.1 refl
heard_is n (Some source) used a =
    let l = source.level in
    let v = source.vector in
    let r = unpacked n l v used (omega (arith, a.1)) a.3 in rw (r.1, r.2, ne_eqb l 0 (λ e. omega (arith, a.0))) refl

pub read_status : (t : ToldRead) → status_in (read_by t) ≡ read_number t
unfolding read_by
read_status (told_read n v) = (unpacked n 0 0 v (lit< tt) (lit< tt)).0

-- status, level, vector and the low 32 bits of a number, each in its place: by computation
pub in_its_place : packed 9 0 0 16 ∷ packed 0 7 0 0 ∷ packed 0 0 255 0 ∷ packed 255 7 255 0x123456789 ∷ []
    ≡ 0x0900000000000010
    ∷ 0x0000070000000000
    ∷ 0x000000FF00000000
    ∷ 0xFF0007FF23456789
    ∷ []
unfolding packed
in_its_place = refl
