-- `equal_sizes::run_known` meets its contract. The loop's invariant: what is left to move from here is the whole from the start, and is known to
-- lie in the window with room for its records. Assumes nothing.
use Rattle.std.proofs.Common.{◌≡◌, ◌+◌, ◌-◌, refl, arith, rules}
use native.Mathlib.Nat.{sub-zero}
use Rattle.rules.specs.Minor.{move_unit}
use Rattle.words.proofs.Laws.{modulo_none}
use Rattle.act.proofs.Loops.{turn_on}
use Rattle.equal_sizes.proofs.Laws.{single_on, sizes_end}
use Rattle.equal_sizes.proofs.KnownLaws.{here_source, here_target, here_room, known_on}
use Rattle.equal_sizes.proofs.run_known.Goals as goal

pub loop-init : goal.loop-init
loop-init g c = (search rules, search rules, refl, refl, rw (sub-zero c.args.count) c.requires.1, λ lent d. rw sub-zero)

pub move_known-requires : goal.move_known-requires
move_known-requires g c =
    let at = c.loop in
    let more : c.args.count - at.counter ≡ 0 → ⊥ = omega arith in
    let known = rw (← at.invariant.2, ← at.invariant.3) at at.invariant.4 in
    (here_source more known, here_target more known, here_room more known, c.requires.0)

pub overflow_add-end : goal.overflow_add-end
overflow_add-end g c =
    let more : c.args.count - c.loop.counter ≡ 0 → ⊥ = omega arith in
    record { fits = omega (arith, here_room more c.loop.invariant.4) }

pub loop-preserved : goal.loop-preserved
loop-preserved g c =
    let at = c.loop in
    let a = c.args in
    let more : a.count - at.counter ≡ 0 → ⊥ = omega arith in
    let known = at.invariant.4 in
    let p = c.requires.0 in
    let turn = single_on (a.count - at.counter) (a.count - (at.counter + 1)) a.step.soff a.step.smod a.step.doff a.step.dmod g.row.WIDTH at.s at.d (omega arith) (modulo_none _ _ _ known.sources_plain) (modulo_none _ _ _ known.targets_plain) p.positive p.most at.invariant.0 at.invariant.1 in (
      search rules,
      search rules,
      omega arith,
      omega arith,
      known_on more known (omega arith) p.positive refl refl,
      turn_on a.base _ a.at _ _ (move_unit g.row.WIDTH at.s at.d) _ turn _ _ at.end at.invariant.5 _ _ c.move_known.ensures refl,
    )

pub returns : goal.returns
returns g c lent dev =
    let at = c.loop in
    let a = c.args in
    sizes_end a.base lent dev (a.count - at.counter) _ _ _ _ g.row.WIDTH at.s at.d at.end at.window at.journal (omega arith) (at.invariant.5 lent dev)
