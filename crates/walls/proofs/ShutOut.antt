-- A wall shuts out three wrong programs: whatever meets the contract at the wall's two calls does not refuse always, has not one constant answer,
-- and changes something. Assumes nothing.
use mathlib.Core.Path.{◌≡◌, sym, ap, ◌∙◌}
use Rattle.rules.specs.Calls.{Told, number_told, device_told}
use Rattle.walls.specs.Wrong.{Given, answer_of, RefusesAlways, OneAnswer, ChangesNothing, Wall}

module _ {X : Type 0} {rule : X → Given → Told} (wall : Wall rule) (program : X → Given → Told)
    (meets : program wall.first wall.given ≡ rule wall.first wall.given)
    (meets₂ : program wall.second wall.given₂ ≡ rule wall.second wall.given₂) where
  pub not_refusing_always : RefusesAlways program → ⊥
  unfolding RefusesAlways
  not_refusing_always wrong = wrong wall.first wall.given (ap number_told meets ∙ wall.accepted)

  pub not_one_answer : OneAnswer program → ⊥
  unfolding OneAnswer
  not_one_answer wrong =
      wall.differ
      (ap answer_of (sym meets)
      ∙ wrong wall.first wall.second wall.given wall.given₂ (ap number_told meets ∙ wall.accepted) (ap number_told meets₂ ∙ wall.accepted₂)
      ∙ ap answer_of meets₂)

  pub not_changing_nothing : ChangesNothing program → ⊥
  unfolding ChangesNothing
  not_changing_nothing wrong = wall.changes (ap device_told (sym meets) ∙ wrong wall.first wall.given)
