-- `equal_sizes::all_known` meets its contract: each test shows its part. Assumes nothing.
use mathlib.Core.Bool.{false≢true}
use Rattle.std.proofs.Common.{◌*◌, ◌≤◌, arith, leb-true}
use Rattle.equal_sizes.proofs.all_known.Goals as goal

pub returns-then-width-gt4 : goal.returns-then-width-gt4
returns-then-width-gt4 c = λ e. absurd (false≢true e)

pub returns-then-step-ne0 : goal.returns-then-step-ne0
returns-then-step-ne0 c = λ e. absurd (false≢true e)

pub returns-then-step-ne0-2 : goal.returns-then-step-ne0-2
returns-then-step-ne0-2 c = λ e. absurd (false≢true e)

pub returns-then-base-len : goal.returns-then-base-len
returns-then-base-len c = λ e. absurd (false≢true e)

pub returns-then-not-inside : goal.returns-then-not-inside
returns-then-not-inside c = λ e. absurd (false≢true e)

pub returns-then-not-inside-2 : goal.returns-then-not-inside-2
returns-then-not-inside-2 c = λ e. absurd (false≢true e)

pub returns : goal.returns
returns c e =
    let room : c.args.units.count * 16 ≤ c.span.result = leb-true _ _ e in
    record {
      small = omega arith;
      sources_plain = omega arith;
      targets_plain = omega arith;
      unwrapped = omega arith;
      sources = c.inside.ensures c.if-not-inside.false;
      targets = c.inside-2.ensures c.if-not-inside-2.false;
      records = omega (arith, room, c.span.ensures);
    }
