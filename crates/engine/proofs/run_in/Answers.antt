-- `engine::run_in` meets its contract. Assumes nothing.
use Rattle.std.specs.Prelude.{None}
use Rattle.engine.specs.Runs.{call_of}
use Rattle.engine.proofs.Calling.{asked_wrong, refused_told, asked_told}
use Rattle.engine.proofs.Starts.{right}
use Rattle.acting.proofs.Laws.{stood_new, stood_old}
use Rattle.act.specs.Parts.{ordered, working}
use Rattle.rules.specs.Calls.{verdict_number}
use mathlib.Core.Path.{refl, sym, ap, ◌∙◌}
use Rattle.engine.proofs.run_in.Goals as goal

pub returns-in_default : goal.returns-in_default
returns-in_default c x p =
    let a = c.args in
    refused_told a.base _ _ _ _ a.used (call_of a.again a.time a.pace) _ (c.tested-v.ensures ∙ sym (asked_wrong a.base _ _ a.used a.time a.pace a.again)) c.in_default.is

-- the clock that refusal 7 lets through
pub invariant_of-carried : goal.invariant_of-carried
invariant_of-carried c =
    let a = c.args in
    let r = right a.base _ _ a.used a.time a.pace (sym c.tested-v.ensures ∙ ap verdict_number c.in-Ok.is) in
    record { now_bounded = r.early; pace_bounded = r.slow }

pub carried-r-requires : goal.carried-r-requires
carried-r-requires c =
    let a = c.args in
    let r = right a.base _ _ a.used a.time a.pace (sym c.tested-v.ensures ∙ ap verdict_number c.in-Ok.is) in
    (r.within, r.below, refl, refl, refl)

pub returns-in_default-ended : goal.returns-in_default-ended
returns-in_default-ended c x p =
    let a = c.args in
    asked_told a.base _ _ _ _ a.used a.time a.pace _ a.again (sym c.tested-v.ensures ∙ ap verdict_number c.in-Ok.is)
    (stood_old c.carried-r.result (working (ordered x _ a.chip) _ _ _ _) (working (ordered x _ a.chip) _ _ _ _) None _ _ _ c.in_default-ended.is (c.carried-r.ensures x p))

pub returns : goal.returns
returns c x p =
    let a = c.args in
    asked_told a.base _ _ _ _ a.used a.time a.pace _ a.again (sym c.tested-v.ensures ∙ ap verdict_number c.in-Ok.is)
    (stood_new c.carried-r.result (working (ordered x _ a.chip) _ _ _ _) (working (ordered x _ a.chip) _ _ _ _) None _ _ _ c.in-Ok-ended.is (c.carried-r.ensures x p))
