-- `words::bytes_at` meets its contract: a cut is a part. Assumes nothing.
use Rattle.std.proofs.Common.{◌≡◌, ◌+◌, ◌-◌, sym, ◌∙◌, arith}
use Rattle.rules.proofs.Cut.{part_cut}
use Rattle.words.proofs.bytes_at.Goals as goal

pub returns : goal.returns
returns g c =
    let long : c.args.at + g.row.N - c.args.at ≡ g.row.N = omega arith in
    c.copy_from_slice.ensures.after ∙ rw long (sym (part_cut c.args.s.now c.args.at g.row.N c.requires))
