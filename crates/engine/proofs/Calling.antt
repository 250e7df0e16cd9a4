-- The public calls: refused by 5, 6 or 7, or carried out. Assumes nothing.
use Rattle.std.specs.Prelude.{None, Err}
use mathlib.Core.Bool.{Bool, true, false}
use mathlib.Core.List.{List}
use mathlib.Core.Path.{◌≡◌, refl, sym, ap, ◌∙◌}
use Prim.Native.Nat.{ℕ, suc}
use lib.ListN.{length, replicate}
use Rattle.rules.specs.Calls.{Asked, run, service, Told, told, verdict_number, levelled, act_of, wrong, barred, staging_after, world_of, told_after, after}
use Rattle.rules.specs.Carry.{perform, lending}
use Rattle.rules.specs.Run.{run_all, service_all}
use Rattle.rules.specs.State.{Device}
use Rattle.rules.specs.declared.Refusal.{Refusal}
use Rattle.rules.specs.Verdicts.{Verdict}
use Rattle.rules.proofs.CallLaws.{wrong-alone, act_wrong, act_goes}
use Rattle.rules.proofs.Told.{refusal_suc}
use Rattle.engine.specs.Runs.{turns_of, call_of}

service-wrong : (base window journal used time pace : ℕ) → wrong base window journal used (service time pace) ≡ wrong base window journal used (run time pace)
unfolding wrong
service-wrong base window journal used time pace = refl

pub asked_wrong : (base window journal used time pace : ℕ) (again : Bool) → wrong base window journal used (call_of again time pace) ≡ wrong base window journal used (run time pace)
asked_wrong base window journal used time pace true = service-wrong base window journal used time pace
asked_wrong base window journal used time pace false = refl

module _ (base : ℕ) (d : Device) (w s j : List ℕ) (used : ℕ) where
  pub refused_told : (c : Asked) (v : Verdict) → verdict_number v ≡ wrong base (length w) (length j) used c → {n : Refusal} → v ≡ Err n
      → told (verdict_number v) None d w s j used ≡ after c base d w s j used
  refused_told c v e {n} h =
      let k = refusal_suc n in
      let is : verdict_number v ≡ suc k.0 = ap verdict_number h ∙ k.1 in
      ap (λ i. told i None d w s j used) is ∙ sym (act_wrong base d w j used k.0 c s (sym e ∙ is))

  module _ (time pace : ℕ) (x : Told) where
    run-told : wrong base (length w) (length j) used (run time pace) ≡ 0
        → x ≡ told_after (replicate (length s) 0) used (perform base (lending (length s)) (levelled (run_all time pace)) (world_of d w j used))
        → x ≡ after (run time pace) base d w s j used
    unfolding barred staging_after act_of
    run-told e q = q ∙ sym (act_goes base d w j used (run time pace) s (wrong-alone base (length w) (length j) used (run time pace) d refl ∙ e))

    service-told : wrong base (length w) (length j) used (service time pace) ≡ 0
        → x ≡ told_after (replicate (length s) 0) used (perform base (lending (length s)) (levelled (service_all time pace)) (world_of d w j used))
        → x ≡ after (service time pace) base d w s j used
    unfolding barred staging_after act_of
    service-told e q = q ∙ sym (act_goes base d w j used (service time pace) s (wrong-alone base (length w) (length j) used (service time pace) d refl ∙ e))

    pub asked_told : (again : Bool) → wrong base (length w) (length j) used (run time pace) ≡ 0
        → x ≡ told_after (replicate (length s) 0) used (perform base (lending (length s)) (levelled (turns_of again time pace)) (world_of d w j used))
        → x ≡ after (call_of again time pace) base d w s j used
    asked_told true e q = service-told (service-wrong base (length w) (length j) used time pace ∙ e) q
    asked_told false e q = run-told e q
