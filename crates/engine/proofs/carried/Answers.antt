-- `engine::carried` meets its contract. Assumes nothing.
use Rattle.engine.proofs.Outcome.{carried_made, carried_unmade}
use borrow.Author.Rules.{rules}
use Rattle.engine.proofs.carried.Goals as goal

pub roll_back-requires : goal.roll_back-requires
roll_back-requires c = search (rules, c.requires.0, c.end_turns-r.auto, c.run_all-s.auto)

pub shape_of-window-in_default : goal.shape_of-window-in_default
shape_of-window-in_default c = search (rules, c.roll_back.auto, c.run_all-s.auto)

pub returns-in_default : goal.returns-in_default
returns-in_default c x p =
    let a = c.args in
    let q = c.requires in
    carried_unmade a.again a.chip _ a.clock.now a.clock.pace a.base a.k x _ _ _ _ _ _ _ a.used c.beginning-t.result _ c.beginning-t.ensures _ _ _ _ _ _ _ _ c.run_all-s.ensures p (λ i. search (rules, c.type_inv.window i)) q.1 q.0 _ c.settle.ensures c.end_turns-r.result _ c.end_turns-r.ensures q.2 q.3 q.4 c.in_default.is _ _ _ c.end_of.ensures c.roll_back.ensures

pub returns : goal.returns
returns c x p =
    let a = c.args in
    let q = c.requires in
    carried_made a.again a.chip _ a.clock.now a.clock.pace a.base a.k x _ _ _ _ _ _ _ a.used c.beginning-t.result _ c.beginning-t.ensures _ _ _ _ _ _ _ _ c.run_all-s.ensures p (λ i. search (rules, c.type_inv.window i)) q.1 q.0 _ c.settle.ensures c.end_turns-r.result _ c.end_turns-r.ensures q.2 q.3 q.4 c.in-Ok.is
