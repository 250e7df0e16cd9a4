-- What the calls promise: all that is there after them, for every base, window and staging. Assumes nothing.
use Rattle.std.specs.Prelude.{Bool, false, ◌&&◌, List, ◌≡◌, ℕ, ◌+◌, ◌%◌, ltb, length, None}
use Rattle.std.proofs.Math.Option.{Option}
use Rattle.rules.specs.Act.{Act}
use Rattle.rules.specs.Calls.{Asked, ack, bad_journal, is_none, or_nothing, check, levelled, Told, told_acted, told_heard, told_after, unless_stopped, world_of, after}
use Rattle.rules.specs.Carry.{perform, lending}
use Rattle.rules.specs.Registers.{within, in_table}
use Rattle.rules.specs.declared.Acknowledged.{Acknowledged}
use Rattle.rules.specs.declared.Acted.{Acted}
use Rattle.rules.specs.State.{Device}
use Rattle.rules.specs.Verdicts.{Heard}
use Rattle.rules.proofs.Proper.{Proper}
use Rattle.act.specs.Does.{Does}
use Rattle.act.specs.Parts.{Arrays, whole, SameLevels, told_done}
use Rattle.act.specs.declared.Core.{Core}
use Rattle.act.specs.declared.Done.{Done}

-- ---- refusal 4, by the offset

unfoldable pub past_end : ℕ → ℕ → Bool
past_end off size = in_table off && ltb 0x1800 (off + size)

unfoldable pub past_part : ℕ → ℕ → Bool
past_part off size = within 0x08 0x17 off && ltb 4 (off % 4 + size)

-- ---- acts

-- the number of what is wrong, 0 for nothing, and the act
unfoldable pub answered : ℕ → Act Heard → ℕ → Device → List ℕ → List ℕ → List ℕ → ℕ → Told
answered n m base d w staging j used = unless_stopped d w staging j used n (told_after staging used (perform base (lending (length staging)) m (world_of d w j used)))

-- of a write within a block: what it does there, if there is such a register, and whether it is refused by 4
abbrev pub Writes : Option (Act (Unit {0})) → Bool → Core → Done → Arrays → Arrays → List ℕ → List ℕ → ℕ → Type 0
Writes does past k r x x' j j' used = Proper (whole k x) → (base : ℕ) (w staging : List ℕ)
    → told_done None r x' w staging j'
    ≡ answered (check (is_none does) 3 (check past 4 (check (bad_journal (length j) used) 6 0))) (levelled (or_nothing does)) base (whole k x) w staging j used

-- of an act without a store, which came from core k to e
abbrev pub Stores : Core → Core → Bool → ℕ → Done → List ℕ → List ℕ → Type 0
Stores k e levels used r j j' = (x : Arrays) (act : Act (Unit {0})) → Proper (whole k x) → Does act (whole k x) (whole e x) → (levels ≡ false → SameLevels k e)
    → (base : ℕ) (w staging : List ℕ)
    → told_done None r x w staging j' ≡ told_after staging used (perform base (lending (length staging)) (levelled act) (world_of (whole k x) w j used))

-- ---- the calls

abbrev pub Made : Asked → Device → ℕ → Acted → List ℕ → List ℕ → Type 0
Made c d used r j j' = (base : ℕ) (window staging : List ℕ) → told_acted r window staging j' ≡ after c base d window staging j used

abbrev pub MadeHeard : ℕ → Device → ℕ → Acknowledged → List ℕ → List ℕ → Type 0
MadeHeard ipl d used r j j' = (base : ℕ) (window staging : List ℕ) → told_heard r window staging j' ≡ after (ack ipl) base d window staging j used
