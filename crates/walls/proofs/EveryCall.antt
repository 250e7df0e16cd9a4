-- Every act and the take-back have a wall (`ShutOut` says what it shuts out), the read two theorems of its own; and a fresh device. By
-- computation. Assumes nothing.
use mathlib.Core.Bool.{Bool, true, false}
use mathlib.Core.List.{List, [], ◌∷◌, ◌++◌}
use mathlib.Core.Path.{◌≡◌, refl, sym, ap, ◌∙◌}
use Prim.Native.Nat.{ℕ}
use borrow.Author.Tests.{eqb-false}
use lib.ListN.{get_or, replicate}
use Rattle.rules.specs.State.{Device}
use Rattle.rules.specs.Scalars.{CR, DEFERRED, KICK, STANDING}
use Rattle.rules.specs.Calls.{fresh, ToldRead, told_read, after_read}
use Rattle.rules.specs.Carry.{end_line}
use Rattle.rules.specs.Fields.{holds, with_field, fields_of}
use Rattle.rules.proofs.Bench.{read_number}
use Rattle.rules.proofs.CallLaws.{read_parts}
use Rattle.rules.proofs.Marked.{tcd, window₀, device₀, ringing}
use Rattle.walls.specs.Wrong.{Wall, ReadRefusesAlways, OneValue, writes, gives, counts, runs, serves, hears, takes_back}
use Rattle.walls.specs.Examples.{requesting, lent, standing, computed}

-- CR gets a value: one field's record and the end. A descriptor write that leaves START set: a store and KICK's record besides
pub write_wall : Wall writes
unfolding computed
write_wall = record {
  first = (0xFC044000, 4, 0x80);
  given = lent (fresh false false) [] [];
  second = (0xFC04501E, 2, 1);
  given₂ = lent (fresh false false) [] [];
  accepted = refl;
  accepted₂ = refl;
  differ = λ e. eqb-false 32 48 refl (ap (λ l. get_or l 3 0) e);
  changes = λ e. eqb-false 0x80 0 refl (ap (holds CR) e);
}

-- a standing request; and masks that are as they were
pub inputs_wall : Wall gives
unfolding computed
inputs_wall = record {
  first = (1, 0, 0, 0);
  given = lent (fresh false false) [] [];
  second = (0, 0, 0, 0);
  given₂ = lent (fresh false false) [] [];
  accepted = refl;
  accepted₂ = refl;
  differ = λ e. eqb-false 32 16 refl (ap (λ l. get_or l 3 0) e);
  changes = λ e. eqb-false 1 0 refl (ap (holds STANDING) e);
}

-- a count of 7 for channel 63; and one of 0, as it was
pub pending_wall : Wall counts
unfolding computed
pending_wall = record {
  first = (63, 7);
  given = lent (fresh false false) [] [];
  second = (63, 0);
  given₂ = lent (fresh false false) [] [];
  accepted = refl;
  accepted₂ = refl;
  differ = λ e. eqb-false 32 16 refl (ap (λ l. get_or l 3 0) e);
  changes = λ e. eqb-false 7 0 refl (ap (λ d. get_or d.pending 63 0) e);
}

-- 'Run only'; and a run with nothing to do
pub run_wall : Wall runs
unfolding computed
run_wall = record {
  first = (0, 0);
  given = lent device₀ window₀ [];
  second = (0, 0);
  given₂ = lent (fresh false false) window₀ [];
  accepted = refl;
  accepted₂ = refl;
  differ = λ e. eqb-false 192 16 refl (ap (λ l. get_or l 3 0) e);
  changes = λ e. eqb-false 0 1 refl (ap (holds KICK) e);
}

-- a deferred channel that requests is offered again, and moves a word; and a service with nothing to do
pub service_wall : Wall serves
unfolding computed
service_wall = record {
  first = (0, 0);
  given = lent (with_field DEFERRED 1 (with_field KICK 0 (requesting 0 1 (tcd 0x0202 4 1 1 0)))) window₀ [];
  second = (0, 0);
  given₂ = lent (fresh false false) window₀ [];
  accepted = refl;
  accepted₂ = refl;
  differ = λ e. eqb-false 208 16 refl (ap (λ l. get_or l 3 0) e);
  changes = λ e. eqb-false 0 1 refl (ap (holds DEFERRED) e);
}

-- document 01's P10: level 7, vector 255, whose taken count rises; and nothing is found
pub acknowledge_wall : Wall hears
unfolding computed
acknowledge_wall = record {
  first = 7;
  given = lent ringing [] [];
  second = 7;
  given₂ = lent (fresh false false) [] [];
  accepted = refl;
  accepted₂ = refl;
  differ = λ e. eqb-false 255 0 refl (ap (λ l. get_or l 2 0) e);
  changes = λ e. eqb-false 1 0 refl (ap (λ d. get_or d.taken 191 0) e);
}

-- 'Run only' is taken back; and of two acts that changed nothing the second
pub back_wall : Wall takes_back
unfolding computed
back_wall = record {
  first = tt;
  given = standing;
  second = tt;
  given₂ = record { base = 0x80000000; device = fresh false false; window = window₀; staging = []; journal = end_line 0 ++ end_line 0; used = 32 };
  accepted = refl;
  accepted₂ = refl;
  differ = λ e. eqb-false 0 16 refl (ap (λ l. get_or l 3 0) e);
  changes = λ e. eqb-false 1 0 refl (ap (holds KICK) e);
}

-- ---- a register read: CR of two devices

unfoldable pub with_cr : ℕ → Device
with_cr v = with_field CR v (fresh false false)

module _ (program : Device → ℕ → ℕ → ToldRead)
    (meets : program (with_cr 0) 0xFC044000 4 ≡ after_read (with_cr 0) 0xFC044000 4)
    (meets₂ : program (with_cr 1) 0xFC044000 4 ≡ after_read (with_cr 1) 0xFC044000 4) where
  reads_0 : program (with_cr 0) 0xFC044000 4 ≡ told_read 0 0
  unfolding computed with_cr
  reads_0 = meets

  reads_1 : program (with_cr 1) 0xFC044000 4 ≡ told_read 0 1
  unfolding computed with_cr
  reads_1 = meets₂

  pub read_not_refusing_always : ReadRefusesAlways program → ⊥
  unfolding ReadRefusesAlways
  read_not_refusing_always wrong = wrong (with_cr 0) 0xFC044000 4 (ap read_number reads_0)

  pub read_not_one_value : OneValue program → ⊥
  unfolding OneValue
  read_not_one_value wrong = eqb-false 0 1 refl (read_parts (sym reads_0 ∙ wrong (with_cr 0) (with_cr 1) _ _ _ _ ∙ reads_1)).1

-- ---- a fresh device: table, settings, and the fields by their numbers: 7 is the deadline, 16, 20 and 24 the masks, 768 to 831 the priorities, which
-- are the channels' own numbers in the chip's mode

unfoldable pub own : Bool → List ℕ
own true =
    0 ∷ 1 ∷ 2 ∷ 3 ∷ 4 ∷ 5 ∷ 6 ∷ 7 ∷ 8 ∷ 9 ∷ 10 ∷ 11 ∷ 12 ∷ 13 ∷ 14 ∷ 15
    ∷ 16 ∷ 17 ∷ 18 ∷ 19 ∷ 20 ∷ 21 ∷ 22 ∷ 23 ∷ 24 ∷ 25 ∷ 26 ∷ 27 ∷ 28 ∷ 29 ∷ 30 ∷ 31
    ∷ 32 ∷ 33 ∷ 34 ∷ 35 ∷ 36 ∷ 37 ∷ 38 ∷ 39 ∷ 40 ∷ 41 ∷ 42 ∷ 43 ∷ 44 ∷ 45 ∷ 46 ∷ 47
    ∷ 48 ∷ 49 ∷ 50 ∷ 51 ∷ 52 ∷ 53 ∷ 54 ∷ 55 ∷ 56 ∷ 57 ∷ 58 ∷ 59 ∷ 60 ∷ 61 ∷ 62 ∷ 63 ∷ []
own false = replicate 64 0

pub fresh-fields : (ignore chip : Bool) → ((fresh ignore chip).table ≡ replicate 2048 0)
    × ((fresh ignore chip).ignore ≡ ignore)
    × ((fresh ignore chip).chip ≡ chip)
    × (fields_of (fresh ignore chip)
    ≡ replicate 7 0 ++ 0xFFFFFFFFFFFFFFFF ∷ replicate 8 0 ++ 0xFFFFFFFFFFFFFFFF ∷ replicate 3 0 ++ 0xFFFFFFFFFFFFFFFF ∷ replicate 3 0 ++ 0xFFFFFFFFFFFFFFFF ∷ replicate 743 0 ++ own chip)
unfolding computed own
fresh-fields ignore true = (refl, refl, refl, refl)
fresh-fields ignore false = (refl, refl, refl, refl)
