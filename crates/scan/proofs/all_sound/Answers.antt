-- `scan::all_sound` meets its contract. The records' invariant: whether those that are left are sound decides. The bytes' invariant: the value is
-- the number that its bytes from the next on spell. Assumes nothing.
use Rattle.scan.proofs.Laws.{any_device, zero_turn, first-left, some_here, none_left, head_damaged, value_damaged, record_sound, wide_ranged}
use lib.Dec.{ltb}
use lib.ListN.{get_or}
use mathlib.Core.Path.{◌≡◌, sym, ap, ◌∙◌}
use native.Mathlib.Omega.{arith}
use Prim.Native.Nat.{◌+◌, ◌-◌, ◌*◌, ◌/◌, ◌^◌}
use Rattle.scan.proofs.all_sound.Goals as goal

pub bytes-preserved : goal.bytes-preserved
bytes-preserved c = zero_turn _ _ _ c.bytes.invariant (omega arith) c.if-journal-at-ne0.false

pub records-preserved : goal.records-preserved
records-preserved c =
    let r = wide_ranged c.head_of.ensures c.in-Some.is in
    let at : c.args.from + c.records.done * 16 + 16 - (c.in-Some.bits + 7) / 8 ≡ c.args.from + c.records.done * 16 + 8 + c.bytes.k = omega arith in
    let fits = first-left _ _ _ c.bytes.invariant _ _ (λ n. (c.type_inv.journal n).fits) (omega arith) r.0 (omega arith) (omega arith)
    ∙ ap (λ i. ltb (get_or c.args.journal.now i 0) (2 ^ (c.in-Some.bits + 8 - (c.in-Some.bits + 7) / 8 * 8))) (sym at) ∙ sym c.is_within.ensures ∙ c.if-not-is_within.false in
    record_sound _ _ _ _ _ _ (omega arith) (omega arith) c.head_of.ensures c.in-Some.is fits ∙ c.records.invariant

pub returns : goal.returns
returns c d m e = sym (none_left _ _ _ _ _ c.records.done (omega arith)) ∙ c.records.invariant ∙ any_device _ _ _ d m e _ _

pub returns-in_default : goal.returns-in_default
returns-in_default c d m e =
    sym (head_damaged _ _ _ _ _ _ (omega arith) (omega arith) c.head_of.ensures c.in_default.is)
    ∙ c.records.invariant ∙ any_device _ _ _ d m e _ _

pub returns-then-journal-at-ne0 : goal.returns-then-journal-at-ne0
returns-then-journal-at-ne0 c d m e =
    sym (value_damaged _ _ _ _ _ _ (omega arith) (omega arith) c.head_of.ensures c.in-Some.is (some_here _ _ _ c.bytes.invariant _ ((c.in-Some.bits + 7) / 8) (omega arith) (omega arith) c.if-journal-at-ne0.true))
    ∙ c.records.invariant ∙ any_device _ _ _ d m e _ _

pub returns-then-not-is_within : goal.returns-then-not-is_within
returns-then-not-is_within c d m e =
    let r = wide_ranged c.head_of.ensures c.in-Some.is in
    let at : c.args.from + c.records.done * 16 + 16 - (c.in-Some.bits + 7) / 8 ≡ c.args.from + c.records.done * 16 + 8 + c.bytes.k = omega arith in
    let more = first-left _ _ _ c.bytes.invariant _ _ (λ n. (c.type_inv.journal n).fits) (omega arith) r.0 (omega arith) (omega arith)
    ∙ ap (λ i. ltb (get_or c.args.journal.now i 0) (2 ^ (c.in-Some.bits + 8 - (c.in-Some.bits + 7) / 8 * 8))) (sym at) ∙ sym c.is_within.ensures ∙ c.if-not-is_within.true in
    sym (value_damaged _ _ _ _ _ _ (omega arith) (omega arith) c.head_of.ensures c.in-Some.is more)
    ∙ c.records.invariant ∙ any_device _ _ _ d m e _ _
