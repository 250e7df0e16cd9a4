-- `device::with_number` meets its contract: what the number leads to is stored at its spot. Assumes nothing.
use mathlib.Core.Path.{ap, ◌∙◌}
use borrow.Author.Tests.{ltb-true}
use Rattle.std.specs.Prelude.{Some}
use Rattle.rules.specs.Fields.{bits_of}
use Rattle.device.proofs.Laws.{found_inside, found_fits, priority_byte}
use Rattle.device.proofs.with_number.Goals as goal

pub with_scalar-e-requires : goal.with_scalar-e-requires
unfolding bits_of
with_scalar-e-requires c =
    let e = c.in-Some.is ∙ ap Some c.in-Scalar.is in
    let p = c.spot_of.ensures in
    (found_inside p e, ltb-true _ _ (found_fits p e _ c.requires))

pub overflow_cast-v : goal.overflow_cast-v
unfolding bits_of
overflow_cast-v c = record { fits = ltb-true _ _ (found_fits c.spot_of.ensures (c.in-Some.is ∙ ap Some c.in-Config.is) _ c.requires) }

pub overflow_cast-v-in-Pending : goal.overflow_cast-v-in-Pending
unfolding bits_of
overflow_cast-v-in-Pending c = record { fits = ltb-true _ _ (found_fits c.spot_of.ensures (c.in-Some.is ∙ ap Some c.in-Pending.is) _ c.requires) }

pub overflow_cast-v-in-Source : goal.overflow_cast-v-in-Source
unfolding bits_of
overflow_cast-v-in-Source c = record { fits = ltb-true _ _ (found_fits c.spot_of.ensures (c.in-Some.is ∙ ap Some c.in-Source.is) _ c.requires) }

pub overflow_cast-v-in-Priority : goal.overflow_cast-v-in-Priority
overflow_cast-v-in-Priority c =
    record { fits = priority_byte c.args.d.chip _ _ (found_fits c.spot_of.ensures (c.in-Some.is ∙ ap Some c.in-Priority.is) _ c.requires) }
