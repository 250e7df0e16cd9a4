-- The fields of a device in the rows that the code lays them down in. Assumes nothing.
use Rattle.std.specs.Prelude.{List, [], ◌∷◌, ℕ, ◌-◌, length, replicate}
use Rattle.rules.specs.Fields.{controller}
use Rattle.rules.specs.Scalars.{scalar_bits}
use Rattle.rules.specs.State.{Device}

abbrev pub scalars_of : Device → List (List ℕ)
scalars_of d = d.scalars ∷ replicate (16 - length scalar_bits) 0 ∷ []

abbrev pub channels_of : Device → List (List ℕ)
channels_of d = d.busy ∷ d.majors ∷ d.pending ∷ []

abbrev pub levels_of : Device → List (List ℕ)
levels_of d =
    (controller d.controllers 0).levels ∷ (controller d.controllers 1).levels ∷ (controller d.controllers 2).levels ∷ replicate 128 0 ∷ []

abbrev pub taken_of : Device → List (List ℕ)
taken_of d = d.taken ∷ d.priorities ∷ []
