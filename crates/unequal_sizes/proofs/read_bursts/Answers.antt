-- `unequal_sizes::read_bursts` meets its contract. A turn is the law of a size in units of 4. Assumes nothing.
use Rattle.std.proofs.Common.{◌≡◌, ℕ, ◌+◌, ◌-◌, ◌*◌, refl, sym, ap, arith, take}
use Rattle.unequal_sizes.proofs.Reading.{read_on_lem, read_off, read_bursts_on, read_sizes_end}
use Rattle.unequal_sizes.proofs.Unequal.{fewer}
use Rattle.unequal_sizes.specs.Stages.{read_to}
use Rattle.unequal_sizes.proofs.read_bursts.Goals as goal

pub returns-in_err-read_units4 : goal.returns-in_err-read_units4
unfolding read_to
returns-in_err-read_units4 c lent d j e =
    let a = c.args in
    let l = c.loop in
    let turn =
    read_bursts_on (a.sizes.count - l.counter) (a.sizes.count - (l.counter + 1)) a.sizes.off a.sizes.modulo a.size l.s (take l.len l.staging)
    (omega arith) refl c.requires.0 in
    rw c.from_residual.ensures (read_off a.base a.window.now _ _ _ turn l.invariant.2 _ c.in_err-read_units4.was c.read_units4.ensures lent d j e)

pub loop-preserved : goal.loop-preserved
loop-preserved c =
    let a = c.args in
    let l = c.loop in
    let turn =
    read_bursts_on (a.sizes.count - l.counter) (a.sizes.count - (l.counter + 1)) a.sizes.off a.sizes.modulo a.size l.s (take l.len l.staging)
    (omega arith) c.modulo_add-s.ensures c.requires.0 in (
      omega arith,
      omega (arith, fewer (a.sizes.count - l.counter) (a.sizes.count - (l.counter + 1)) a.size (omega arith)),
      rw (ap (λ (n : ℕ). l.len + n) (sym c.requires.2))
          (read_on_lem a.base a.window.now _ _ _ turn l.invariant.2 _ c.in_ok-read_units4.was c.read_units4.ensures),
    )

pub returns : goal.returns
returns c lent d j e =
    let a = c.args in
    let l = c.loop in
    let none : a.sizes.count - l.counter ≡ 0 = omega arith in
    let all : a.sizes.count * a.size ≡ l.len = omega (arith, ap (λ (n : ℕ). n * a.size) none) in
    read_sizes_end a.base lent d a.window.now j e (a.sizes.count - l.counter) _ _ a.size l.s (take l.len l.staging)
    none (l.invariant.2 lent d j e) (ap (λ n. take n l.staging) all)
