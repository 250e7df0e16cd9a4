-- `entries::kp_inputs` meets its contract. Assumes nothing.
use Rattle.entries.proofs.Laws.{no_entry, act_entry}
use Rattle.rules.specs.Calls.{after, inputs as inputs_call}
use Rattle.image.proofs.Rows.{image_long}
use mathlib.Core.Path.{sym, ◌∙◌}
use native.Mathlib.Omega.{arith}
use Rattle.entries.proofs.kp_inputs.Goals as goal

pub returns-then-not-is_image : goal.returns-then-not-is_image
returns-then-not-is_image c = λ base window staging. no_entry _ window staging _ _ _ (sym c.is_image.ensures ∙ c.if-not-is_image.true) c.packed.ensures

pub get_device-d-requires : goal.get_device-d-requires
get_device-d-requires c = image_long _ (sym c.is_image.ensures ∙ c.if-not-is_image.false)

pub put_back-requires : goal.put_back-requires
put_back-requires c = omega (arith, image_long c.args.image.now (sym c.is_image.ensures ∙ c.if-not-is_image.false))

pub returns : goal.returns
returns c =
    let a = c.args in λ base window staging.
    act_entry a.image.now window staging a.journal.now a.used (λ d. after (inputs_call a.standing a.lines0 a.lines1 a.lines2) base d window staging a.journal.now a.used) (sym c.is_image.ensures ∙ c.if-not-is_image.false) c.get_device-d.ensures c.inputs-r.result (c.inputs-r.ensures.0 base window staging) c.put_back.ensures
