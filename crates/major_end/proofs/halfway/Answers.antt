-- `major_end::halfway` meets its contract, by its three tests. Assumes nothing.
use Rattle.major_end.proofs.Descriptor.{half_off, half_other, half_same}
use Rattle.major_end.proofs.halfway.Goals as goal

pub returns-then-not-csr_has : goal.returns-then-not-csr_has
returns-then-not-csr_has c = half_off _ _ c.csr_has.ensures c.if-not-csr_has.true

pub returns-then-n-half : goal.returns-then-n-half
returns-then-n-half c = half_other _ _ c.csr_has.ensures c.if-not-csr_has.false c.count_of-half.ensures c.if-n-half.true

pub returns : goal.returns
returns c = half_same _ _ c.csr_has.ensures c.if-not-csr_has.false c.count_of-half.ensures c.if-n-half.false
