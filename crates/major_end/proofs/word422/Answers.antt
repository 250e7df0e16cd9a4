-- `major_end::word422` meets its contract: three numbers side by side. Assumes nothing.
use Rattle.std.proofs.Common.{rules}
use Rattle.major_end.proofs.Descriptor.{from_422}
use Rattle.major_end.proofs.word422.Goals as goal

pub returns : goal.returns
returns c = from_422 _ _ _ (search rules) (search rules) (search rules)
