-- The numbers of a device that stand alone, by document 01's numbers ("0 CR, 1 ERQ, .."): their names, their bits, and where code holds them.
-- A new one is a line in each list. Assumes nothing.
use Rattle.std.specs.Prelude.{List, [], ◌∷◌, ℕ}
use Rattle.rules.specs.Act.{Field, SCALAR}
use Rattle.rules.specs.declared.Scalars.{Scalars}

abbrev pub CR : Field
CR = SCALAR 0

abbrev pub ERQ : Field
ERQ = SCALAR 1

abbrev pub EEI : Field
EEI = SCALAR 2

abbrev pub INT : Field
INT = SCALAR 3

abbrev pub ERR : Field
ERR = SCALAR 4

abbrev pub KICK : Field
KICK = SCALAR 5

abbrev pub DEFERRED : Field
DEFERRED = SCALAR 6

abbrev pub DEADLINE : Field
DEADLINE = SCALAR 7

abbrev pub LEVEL : Field
LEVEL = SCALAR 8

-- standing requests
abbrev pub STANDING : Field
STANDING = SCALAR 9

-- CR: 32 bits; the level 8; others 64
abbrev pub scalar_bits : List ℕ
scalar_bits = 32 ∷ 64 ∷ 64 ∷ 64 ∷ 64 ∷ 64 ∷ 64 ∷ 64 ∷ 8 ∷ 64 ∷ []

abbrev pub view_scalars : Scalars → List ℕ
view_scalars s =
    s.cr ∷ s.erq ∷ s.eei ∷ s.int ∷ s.err ∷ s.kick ∷ s.deferred ∷ s.deadline ∷ s.level ∷ s.standing ∷ []
