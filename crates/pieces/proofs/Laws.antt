-- What reading on gives of a file's known bytes. Assumes nothing.
use Rattle.std.proofs.Common.{◌≡◌, ℕ, ◌+◌, List, take, drop}
use Rattle.std.proofs.Math.Seq.{take-add}
use Rattle.std.proofs.KnownBytes.{Consumes-trans}
use Rattle.std.specs.Io.KnownBytes.{Consumes}
use Rattle.std.specs.declared.option.Option.{Option}

-- n more bytes, behind those that are there
pub read_on : (a b c : Option (List ℕ)) (have n : ℕ) (xs ys : List ℕ) → Consumes a b (take have xs) → take have ys ≡ take have xs
    → Consumes b c (take n (drop have ys)) → Consumes a c (take (have + n) ys)
read_on a b c have n xs ys before front more =
    rw (take-add have n ys, front) (Consumes-trans a b c (take have xs) (take n (drop have ys)) before more)
