-- `major_end::word44` meets its contract: two numbers side by side. Assumes nothing.
use Rattle.std.proofs.Common.{rules}
use Rattle.major_end.proofs.Descriptor.{from_44}
use Rattle.major_end.proofs.word44.Goals as goal

pub returns : goal.returns
returns c = from_44 _ _ (search rules) (search rules)
