-- `major_end::count_major` meets its contract: a refused step stays, and the count wraps as the rule says. Assumes nothing.
use Rattle.std.proofs.Common.{refl, rules}
use Rattle.act.proofs.Laws.{stays_refused, majors-changed}
use Rattle.major_end.proofs.count_major.Goals as goal

pub returns-in_err-s : goal.returns-in_err-s
returns-in_err-s c base lent d w j t = stays_refused base lent _ c.from_residual.result d w j t _ c.from_residual.ensures c.in_err-s.was

pub returns : goal.returns
returns c base lent d w j t = majors-changed base lent d _ w j t _ c.in_ok-s.was _ _ refl (search rules)
