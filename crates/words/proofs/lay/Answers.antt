-- `words::lay` meets its contract: what is laid down takes the place of as many bytes. Assumes nothing.
use Rattle.std.proofs.Common.{◌≡◌, ◌+◌, ◌-◌, length, take, sym, ◌∙◌, append_assoc, arith}
use Rattle.std.proofs.lemmas.List.{drop-drop}
use Rattle.rules.proofs.Cut.{splice_cut}
use Rattle.words.proofs.lay.Goals as goal

pub returns : goal.returns
returns g c =
    let s = c.args.s.now in
    let at = c.args.at in
    let laid = c.args.laid.now in
    let size : at + g.row.N - at ≡ length laid = omega (arith, c.told-laid) in
    rw (c.copy_from_slice.ensures.after, size, drop-drop (length laid) at s)
    (sym (append_assoc (take at s) laid _) ∙ sym (splice_cut s at laid (omega (arith, c.told-laid))))
