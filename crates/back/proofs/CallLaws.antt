-- A take-back by cases: each refusal, and the call that is accepted. Assumes nothing.
use Rattle.std.specs.Prelude.{Some, None, Ok, Err, Option}
use mathlib.Core.Bool.{Bool, true, false, not, ◌||◌}
use mathlib.Core.List.{List, [], ◌++◌, append_assoc}
use mathlib.Core.Path.{◌≡◌, refl, sym, ap, ◌∙◌}
use Prim.Native.Nat.{ℕ, ◌-◌, ◌%◌, ◌^◌, ◌≤◌}
use native.Mathlib.Omega.{arith}
use borrow.Author.Tests.{ltb-false, eqb-true, not-false}
use lib.Dec.{eqb, ltb}
use lib.ListN.{length, take, drop, replicate, take-append-drop}
use lib.Seq.{length-take-le, take-take}
use Rattle.rules.specs.Calls.{Spared, verdict_number, told_acted, world_of, bad_window, bad_journal, check, wrong_back, told_after, heard_nothing, told, unless_stopped, after_back}
use Rattle.rules.specs.Carry.{unmade, undo}
use Rattle.rules.specs.TakeBack.{decode_all, take_back}
use Rattle.rules.specs.declared.Acted.{Acted}
use Rattle.rules.specs.View.{view}
use Rattle.rules.specs.declared.Device.{Device as HeldDevice}
use Rattle.rules.specs.declared.Refusal.{Refusal}
use Rattle.rules.proofs.BoolLaws.{neither}
use Rattle.rules.proofs.Back.{take_none}
use Rattle.rules.proofs.Told.{refusal_suc}
use Rattle.back.specs.Standing.{machine, Finds, Sound}
use Rattle.back.specs.declared.Group.{Group}

module _ (len used : ℕ) (fine : bad_journal len used ≡ false) where
  pub used_fits : used ≤ len
  unfolding bad_journal
  used_fits = ltb-false len used (neither (ltb (2 ^ 28) len || not (eqb (used % 16) 0)) (ltb len used) fine).1

  -- so some bytes are at least 16
  pub used-whole : used % 16 ≡ 0
  unfolding bad_journal
  used-whole =
      eqb-true (used % 16) 0
      (not-false (eqb (used % 16) 0)
      (neither (ltb (2 ^ 28) len) (not (eqb (used % 16) 0)) (neither (ltb (2 ^ 28) len || not (eqb (used % 16) 0)) (ltb len used) fine).0).1)

-- the answer r, with window and journal as they are then
module _ (base : ℕ) (d : HeldDevice) (w j : List ℕ) (used : ℕ) where
  pub bad_window_lem : {r : Acted} → bad_window base (length w) ≡ true → r ≡ record { verdict = Err Refusal.Window; used = used; device = d }
      → told_acted r w [] j ≡ after_back base (view d) w j used
  unfolding after_back unless_stopped wrong_back check
  bad_window_lem e h = rw (h, e)

  module _ (window-fine : bad_window base (length w) ≡ false) where
    pub bad_journal_lem : {r : Acted} → bad_journal (length j) used ≡ true → r ≡ record { verdict = Err Refusal.Journal; used = used; device = d }
        → told_acted r w [] j ≡ after_back base (view d) w j used
    unfolding after_back unless_stopped wrong_back check
    bad_journal_lem e h = rw (h, window-fine, e)

    module _ (journal-fine : bad_journal (length j) used ≡ false) where
      tested : after_back base (view d) w j used ≡ told_after [] used (heard_nothing (take_back base (world_of (view d) w j used)))
      unfolding after_back unless_stopped wrong_back check
      tested = rw (window-fine, journal-fine)

      unmade_as : (n : ℕ) → take_back base (world_of (view d) w j used) ≡ unmade n (world_of (view d) w j used) → told n None (view d) w [] j used ≡ after_back base (view d) w j used
      unfolding told_after heard_nothing
      unmade_as n e = sym (tested ∙ rw (e, take-append-drop used j))

      pub nothing-stands : {r : Acted} → used ≡ 0 → r ≡ record { verdict = Err Refusal.NothingStands; used = used; device = d }
          → told_acted r w [] j ≡ after_back base (view d) w j used
      nothing-stands z h = rw h (unmade_as 12 (take_none base (world_of (view d) w j used) (rw z)))

      -- what was found to stand is s
      module _ (long : length d.table ≡ 2048) {s : Option Group} (found : Finds d.chip base w (take used j) s) where
        pub is_damaged : {r : Acted} → s ≡ None → r ≡ record { verdict = Err Refusal.Damaged; used = used; device = d }
            → told_acted r w [] j ≡ after_back base (view d) w j used
        is_damaged e h = rw h (unmade_as 13 ((rw e at found) (view d) (drop used j) refl long))

        pub accepted : {group : Group} {after : HeldDevice} {w' j' : List ℕ} {r : Acted} → s ≡ Some group
            → machine w' (view after) ≡ undo base (decode_all group.count (drop group.from (take used j))) (machine w (view d))
            → j' ≡ take group.from j ++ replicate (used - group.from) 0 ++ drop used j
            → r ≡ record { verdict = Ok tt; used = group.from; device = after }
            → told_acted r w' [] j' ≡ after_back base (view d) w j used
        unfolding told_after heard_nothing
        accepted {group} e undone cleared h =
            let from : ℕ = group.from in
            let stood = rw e at found in
            let all : length (take used j) ≡ used = length-take-le used j (used_fits (length j) used journal-fine) in
            let some : from ≤ used = omega (arith, stood.0.long) in
            let kept : length (take from (take used j)) ≡ from = length-take-le from (take used j) (omega arith) in
            let joined = append_assoc (take from j) (replicate (used - from) 0) (drop used j) in
            rw (h, cleared) (sym (tested ∙ rw (stood.1 (view d) (drop used j) refl long, ← undone, kept, all, take-take from used j some, joined)))

-- of a group that stands the bytes are there, and it is sound
pub group_stands : {chip : Bool} {base : ℕ} {w used : List ℕ} {s : Option Group} {group : Group} → Finds chip base w used s → s ≡ Some group → Sound chip base w used group.from group.count
group_stands found e = (rw e at found).0

-- ---- priorities: a refused call's answer has the device, and an accepted one's verdict is no refusal

pub refused_spares : {d : HeldDevice} {r : Acted} {why : Refusal} {used : ℕ} → r ≡ record { verdict = Err why; used = used; device = d } → Spared r.verdict d.priorities r.device.priorities
refused_spares h n e = ap (λ (a : Acted). a.device.priorities) h

pub accepted_spares : {held : List ℕ} {after : HeldDevice} {r : Acted} {from : ℕ} → r ≡ record { verdict = (Ok tt); used = from; device = after } → Spared r.verdict held r.device.priorities
accepted_spares {r = r} h n e =
    let z : verdict_number r.verdict ≡ 0 = ap (λ (a : Acted). verdict_number a.verdict) h in
    absurd (omega (arith, sym z ∙ ap verdict_number e, (refusal_suc n).1))
