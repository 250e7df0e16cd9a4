-- `image::fits` meets its contract. The loop's invariant: the greatest of the numbers behind those that are left fits exactly if all of them do. Assumes nothing.
use Rattle.image.proofs.FitLaws.{row_none, row_turn, row_all}
use native.Mathlib.Omega.{arith}
use Rattle.image.proofs.fits.Goals as goal

pub loop-k-init : goal.loop-k-init
loop-k-init c = let a = c.args in row_none a.bits a.image.now a.from a.count

pub loop-k-preserved : goal.loop-k-preserved
loop-k-preserved c =
    let a = c.args in
    let l = c.loop-k in
    row_turn a.bits a.image.now a.from a.count l.k _ l.most _ (omega arith) (omega arith) l.invariant c.number_at.ensures c.max-most.ensures

pub returns : goal.returns
returns c =
    let a = c.args in
    let l = c.loop-k in
    row_all a.bits a.image.now a.from a.count l.k l.most (omega arith) l.invariant
