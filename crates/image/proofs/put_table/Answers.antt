-- `image::put_table` meets its contract: the front is the table, and what was behind it stays. Assumes nothing.
use Prim.Native.Nat.{◌+◌}
use mathlib.Core.Path.{◌≡◌, sym, ap, ◌∙◌}
use mathlib.Core.List.{◌++◌}
use lib.ListN.{length, drop}
use native.Mathlib.Omega.{arith}
use Rattle.rules.proofs.Cut.{splice_cut}
use Rattle.image.proofs.put_table.Goals as goal

pub returns : goal.returns
returns c =
    let n : 0 + length c.args.table.now ≡ length c.args.table.now = omega arith in
    ap (λ l. l ++ drop (length c.args.table.now) c.args.image.now) c.copy_from_slice.ensures.after ∙ rw n at (sym (splice_cut c.args.image.now 0 c.args.table.now (omega arith)))
