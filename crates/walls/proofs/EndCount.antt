-- No invented end count. START's loop and channel 35's recurse on a number of passes; whatever other number stands there, if it is more than a
-- journal has room for or a count holds, and whatever is done where it runs out, a call that meets its contract leaves the same. Cites `Ends`.
-- Assumes nothing.
use mathlib.Core.Path.{◌≡◌, ap, ◌∙◌}
use lib.ListN.{length}
use Rattle.rules.specs.Calls.{Asked, Told, stops, staging_after, world_of, told_after}
use Rattle.rules.specs.Carry.{go, leave, perform, lending}
use Rattle.rules.proofs.CallLaws.{not_stopped, act_goes}
use Rattle.rules.proofs.Proper.{Proper}
use Rattle.rules.proofs.Ends.{Limits, Enough, act_or, call_ends}
use Rattle.walls.specs.Wrong.{Given, acts}

-- what a call leaves that is not stopped before its act, with other limits
unfoldable pub limited : Limits → Asked → Given → Told
limited o c g =
    let u = world_of g.device g.window g.journal g.used in
    told_after (staging_after c g.staging) g.used (leave u (go g.base (lending (length g.staging)) (act_or o c) u))

module _ (c : Asked) (g : Given) (right : stops g.base (length g.window) (length g.journal) g.used c g.device ≡ 0) where
  -- the device is of the declared type (`Each.typed_proper`)
  pub no_end_count : (t : Told) → t ≡ acts c g → (o : Limits) → Enough o → Proper g.device → t ≡ limited o c g
  unfolding acts perform limited
  no_end_count t meets o enough proper =
      let u = world_of g.device g.window g.journal g.used in
      meets ∙ act_goes g.base g.device g.window g.journal g.used c g.staging right
      ∙ ap (λ x. told_after (staging_after c g.staging) g.used (leave u x))
      (call_ends g.base (lending (length g.staging)) o enough g.device g.window g.journal g.used c proper
      (not_stopped g.base (length g.window) (length g.journal) g.used c g.device right).0)
