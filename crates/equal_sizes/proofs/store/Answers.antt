-- `equal_sizes::store` meets its contract, by where the unit falls and whether its record fits: the laws of a window store at every width. Assumes nothing.
use Rattle.std.proofs.Common.{length, arith}
use Rattle.rules.specs.Carry.{legal}
use Rattle.act.proofs.Laws.{window_outside, window_full, none_refused}
use Rattle.memory.proofs.Laws.{not_there, at_there}
use Rattle.journal.proofs.Laws.{room, no_room}
use Rattle.equal_sizes.proofs.KnownLaws.{at_within}
use Rattle.std.proofs.Common.{◌∙◌, ap, not}
use Rattle.std.specs.Result.{result_ok}
use Rattle.equal_sizes.proofs.store.Goals as goal

pub returns-in_err-ok_or : goal.returns-in_err-ok_or
returns-in_err-ok_or c lent d =
    let p = none_refused c.from_residual.result c.ok_or.ensures.value c.ok_or.ensures.ok_part c.in_err-ok_or.was c.from_residual.ensures in
    rw p.1 (window_outside _ lent d _ _ _ _ _ _ (not_there _ _ _ _ c.where_is.ensures p.0 d))

pub returns-then-not-has_room : goal.returns-then-not-has_room
unfolding legal
returns-then-not-has_room c lent d =
    window_full _ lent d _ _ _ _ _ _ (at_there _ _ _ _ c.where_is.ensures (c.ok_or.ensures.ok_part ∙ ap result_ok c.in_ok-ok_or.was) d) c.requires.one_of (no_room _ _ c.has_room.ensures (ap not c.if-not-has_room.true))

pub store_known-requires : goal.store_known-requires
store_known-requires c =
    (at_within _ _ _ _ c.where_is.ensures (c.ok_or.ensures.ok_part ∙ ap result_ok c.in_ok-ok_or.was), room _ _ c.has_room.ensures (ap not c.if-not-has_room.false), c.requires)

pub overflow_add-result : goal.overflow_add-result
overflow_add-result c = record { fits = omega (arith, room c.args.at (length c.args.journal.now) c.has_room.ensures (ap not c.if-not-has_room.false)) }
