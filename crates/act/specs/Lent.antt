-- What is lent, at entry and at exit, as one argument of a promise. Assumes nothing.
use Rattle.std.specs.Prelude.{List, ℕ, length}
use Rattle.std.specs.Borrow.{MutBor}
use denote.Triple.Both.{Both}
use Rattle.rules.specs.Carry.{Lent, lending}

-- numbers behind a reference, at a call's entry and at its exit
abbrev pub Held : Type 0
Held = Both (MutBor (List ℕ)) (MutBor (List ℕ))

-- a promise of the numbers at entry and at exit, of what is lent
infixl 1 ◌⇒◌
abbrev pub ◌⇒◌ {ℓ} : {A : Type ℓ} → (List ℕ → List ℕ → A) → Held → A
P ⇒ x = P x.entry.now x.exit.now

-- the staging that is lent
abbrev pub by : Held → Lent
by staging = lending (length staging.entry.now)
