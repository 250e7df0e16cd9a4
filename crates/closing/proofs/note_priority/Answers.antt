-- `closing::note_priority` meets its contract: one field of all priorities. Assumes nothing.
use mathlib.Core.Path.{refl, sym, ◌∙◌}
use native.Mathlib.Omega.{arith}
use lib.ListN.{length-set}
use Rattle.closing.proofs.Laws.{one_changed}
use Rattle.closing.proofs.note_priority.Goals as goal

pub returns : goal.returns
returns c order long is =
    let a = c.args in
    record {
      long = long;
      long_now = length-set order a.channel a.after ∙ long;
      noted =
          one_changed 768 _ order a.channel _ _ a.after _ (omega (arith, long, c.requires))
          (c.from.ensures ∙ sym is) c.from-2.ensures refl c.note_field.ensures;
    }
