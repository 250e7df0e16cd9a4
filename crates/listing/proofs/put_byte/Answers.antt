-- `listing::put_byte` meets its contract. Assumes nothing.
use native.Mathlib.Omega.{arith}
use lib.ListN.{length-set}
use Rattle.listing.proofs.put_byte.Goals as goal

pub bounds-out-to-2 : goal.bounds-out-to-2
bounds-out-to-2 c = simp length-set (omega arith)

pub returns : goal.returns
returns c = rw (c.digit.ensures, c.digit-2.ensures)
