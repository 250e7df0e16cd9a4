-- `judge::Judge::source_byte` meets its contract. Assumes nothing.
use Rattle.std.proofs.Common.{refl, arith}
use Rattle.judge.proofs.Cases.{past_read, before_origin, at_hand}
use Rattle.judge.proofs.Judge.source_byte.Goals as goal
use Rattle.judge.proofs.Judge.source_byte.Goals.{then-read-number-via-then-read-number, then-read-number-via-else-read-number+then-number-self}

pub returns-then-read-number : goal.returns-then-read-number
returns-then-read-number c = elim c.then-read-number.branch [
  | then-read-number-via-then-read-number w ↦ past_read _ _ _ _ _ refl w.if-read-number.true
  | then-read-number-via-else-read-number+then-number-self w ↦ before_origin _ _ _ _ _ refl w.if-read-number.false w.if-number-self.true
]

pub returns : goal.returns
returns c = at_hand _ _ _ _ _ refl c.if-read-number.false (λ h. omega (arith, c.if-number-self.false)) c.byte_at.ensures
