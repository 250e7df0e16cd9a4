-- `major_end::load_next` meets its contract: what `gather` gives, `replace` stores. Assumes nothing.
use Rattle.std.proofs.Common.{◌∙◌}
use Rattle.rules.specs.Minor.{load_next}
use Rattle.major_end.proofs.load_next.Goals as goal

pub returns : goal.returns
unfolding load_next
returns c lent d m = c.replace.ensures _ lent d _ m ∙ c.gather-s1.ensures lent d _ _ m _
