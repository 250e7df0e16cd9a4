-- `unequal_sizes::read_units` meets its contract. A turn is the law of a size that is one unit. Assumes nothing.
use Rattle.std.proofs.Common.{◌≡◌, ℕ, ◌+◌, ◌-◌, ◌*◌, refl, ap, arith, rules, take}
use Rattle.unequal_sizes.proofs.Reading.{read_on_lem, read_off, read_single_on, read_sizes_end}
use Rattle.unequal_sizes.proofs.Unequal.{fewer}
use Rattle.unequal_sizes.specs.Stages.{read_to}
use Rattle.unequal_sizes.proofs.read_units.Goals as goal

pub returns-in_err-read_unit : goal.returns-in_err-read_unit
unfolding read_to
returns-in_err-read_unit g c lent d j e =
    let a = c.args in
    let l = c.loop in
    let p = c.requires.0 in
    let turn =
    read_single_on (a.sizes.count - l.counter) (a.sizes.count - (l.counter + 1)) a.sizes.off a.sizes.modulo g.row.WIDTH l.s (take l.len l.staging)
    (omega arith) refl p.positive p.most l.invariant.0 in
    rw c.from_residual.ensures (read_off a.base a.window.now _ _ _ turn l.invariant.3 _ c.in_err-read_unit.was c.read_unit.ensures lent d j e)

pub loop-preserved : goal.loop-preserved
loop-preserved g c =
    let a = c.args in
    let l = c.loop in
    let p = c.requires.0 in
    let turn =
    read_single_on (a.sizes.count - l.counter) (a.sizes.count - (l.counter + 1)) a.sizes.off a.sizes.modulo g.row.WIDTH l.s (take l.len l.staging)
    (omega arith) c.modulo_add-s.ensures p.positive p.most l.invariant.0 in (
      search rules,
      omega arith,
      omega (arith, fewer (a.sizes.count - l.counter) (a.sizes.count - (l.counter + 1)) g.row.WIDTH (omega arith)),
      read_on_lem a.base a.window.now _ _ _ turn l.invariant.3 _ c.in_ok-read_unit.was c.read_unit.ensures,
    )

pub returns : goal.returns
returns g c lent d j e =
    let a = c.args in
    let l = c.loop in
    let none : a.sizes.count - l.counter ≡ 0 = omega arith in
    let all : a.sizes.count * g.row.WIDTH ≡ l.len = omega (arith, ap (λ (n : ℕ). n * g.row.WIDTH) none) in
    read_sizes_end a.base lent d a.window.now j e (a.sizes.count - l.counter) _ _ g.row.WIDTH l.s (take l.len l.staging)
    none (l.invariant.3 lent d j e) (ap (λ n. take n l.staging) all)
