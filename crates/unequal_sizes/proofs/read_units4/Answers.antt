-- `unequal_sizes::read_units4` meets its contract. Assumes nothing.
use Rattle.std.proofs.Common.{◌≡◌, ◌+◌, ◌*◌, ap, arith, take}
use Rattle.unequal_sizes.proofs.Reading.{read_on_lem, read_off, reads_on, reads_end}
use Rattle.unequal_sizes.specs.Stages.{gotten}
use Rattle.unequal_sizes.proofs.read_units4.Goals as goal

pub returns-in_err-read_unit : goal.returns-in_err-read_unit
unfolding gotten
returns-in_err-read_unit c lent d j e =
    let a = c.args in
    let l = c.loop-k in
    let turn = reads_on a.count l.k 4 a.from (take (a.len + l.k * 4) l.staging) c.loop-k-test.true c.unit_at-a.ensures in
    rw c.from_residual.ensures (read_off a.base a.window.now _ _ _ turn l.invariant.1 _ c.in_err-read_unit.was c.read_unit.ensures lent d j e)

pub loop-k-preserved : goal.loop-k-preserved
loop-k-preserved c =
    let a = c.args in
    let l = c.loop-k in
    let turn = reads_on a.count l.k 4 a.from (take (a.len + l.k * 4) l.staging) c.loop-k-test.true c.unit_at-a.ensures in
    let next : a.len + l.k * 4 + 4 ≡ a.len + (l.k + 1) * 4 = omega arith in
    (omega arith, rw (← next) (read_on_lem a.base a.window.now _ _ _ turn l.invariant.1 _ c.in_ok-read_unit.was c.read_unit.ensures))

pub returns : goal.returns
returns c lent d j e =
    let a = c.args in
    let l = c.loop-k in
    let all : a.len + a.count * 4 ≡ a.len + l.k * 4 = omega arith in
    reads_end a.base lent d a.window.now j e a.count l.k 4 a.from (take (a.len + l.k * 4) l.staging)
    (omega arith) (l.invariant.1 lent d j e) (ap (λ n. take n l.staging) all)
