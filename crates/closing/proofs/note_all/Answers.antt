-- `closing::note_all` meets its contract: what is left to note from here is what was to note from the start. Assumes nothing.
use mathlib.Core.Path.{◌≡◌, ◌∙◌}
use Prim.Native.Nat.{◌+◌, ◌*◌, ◌/◌}
use native.Mathlib.Omega.{arith}
use lib.ListN.{length}
use Rattle.closing.proofs.Laws.{stays_full, told_at, turns_start, block, block_full, to_end}
use Rattle.closing.proofs.note_all.Goals as goal

pub returns-in_err-at : goal.returns-in_err-at
returns-in_err-at g c = rw c.from_residual.ensures (stays_full _ _ c.in_err-at.was)

pub loop-k-init : goal.loop-k-init
loop-k-init g c = turns_start _ _ _ _ _

pub returns-in_err-at-2 : goal.returns-in_err-at-2
returns-in_err-at-2 g c =
    rw c.from_residual-in_err-at-2.ensures
    (told_at _ _ _ c.in_ok-at.was
    (block_full _ _ _ _ _ (c.loop-k.k * 16 + 16) _ c.requires.alike (omega arith) (omega arith) c.note_block.ensures c.in_err-at-2.was ∙ c.loop-k.invariant))

pub loop-k-preserved : goal.loop-k-preserved
loop-k-preserved g c =
    let next : (c.loop-k.k + 1) * 16 ≡ c.loop-k.k * 16 + 16 = omega arith in
    rw next (block _ _ _ _ _ (c.loop-k.k * 16 + 16) _ c.requires.alike (omega arith) (omega arith) c.note_block.ensures c.in_ok-at-2.was ∙ c.loop-k.invariant)

pub returns : goal.returns
returns g c =
    let last : c.loop-k.k ≡ length c.args.before.now / 16 = omega arith in
    told_at _ _ _ c.in_ok-at.was (to_end _ _ _ _ _ _ c.note_each.ensures ∙ rw (← last) c.loop-k.invariant)
