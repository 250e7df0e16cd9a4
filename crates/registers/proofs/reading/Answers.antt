-- `registers::reading` meets its contract. Assumes nothing.
use Rattle.std.proofs.Common.{◌≡◌, ℕ, Option, Some, None, refl, ap, ◌∙◌}
use Rattle.std.specs.Option.{ok_or}
use Rattle.rules.specs.Calls.{check, is_none, or_zero, read_unless, told_reading}
use Rattle.rules.specs.declared.Refusal.TheVariants as Refusal
use Rattle.intc.specs.Cells.{reads}
use Rattle.registers.proofs.reading.Goals as goal

told : (cell : Option ℕ) → told_reading (ok_or cell Refusal.Register) ≡ read_unless (check (is_none (reads cell)) 3 0) (reads cell)
unfolding read_unless check is_none or_zero
told (Some v) = refl
told None = refl

pub returns : goal.returns
returns c = ap told_reading c.ok_or.ensures.value ∙ told c.args.cell
