-- `acting::clear` meets its contract. Assumes nothing.
use Prim.Native.Nat.{ℕ, ◌-◌}
use mathlib.Core.List.{◌++◌, List, append-nil}
use lib.ListN.{length, take, replicate}
use lib.Seq.{drop-length}
use mathlib.Core.Path.{◌∙◌, ap}
use Rattle.acting.proofs.clear.Goals as goal

pub returns : goal.returns
returns c = let a = c.args in let j = a.journal.now in c.clear.ensures ∙ ap (λ (l : List ℕ). take a.used j ++ replicate (length j - a.used) 0 ++ l) (drop-length j) ∙ append-nil (take a.used j ++ replicate (length j - a.used) 0)
