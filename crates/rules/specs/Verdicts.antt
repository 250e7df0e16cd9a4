-- How a call ends, what a register read answers, and what an acknowledge finds. Assumes nothing.
use Rattle.std.specs.Prelude.{ℕ, Option, Result}
use Rattle.rules.specs.declared.Refusal.{Refusal}
use Rattle.rules.specs.declared.Source.{Source}

-- accepted, or why it is refused
abbrev pub Verdict : Type 0
Verdict = Result (Unit {0}) Refusal

-- the value, or why it is refused
abbrev pub Reading : Type 0
Reading = Result ℕ Refusal

-- a source with its level and vector, or nothing
abbrev pub Heard : Type 0
Heard = Option Source
