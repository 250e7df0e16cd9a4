-- Where an access falls, by cases, and what an answer says. Assumes nothing.
use mathlib.Core.Bool.{Bool, true, false, cond}
use mathlib.Core.List.{List}
use mathlib.Core.Path.{◌≡◌, refl, sym, ◌∙◌}
use Prim.Native.Nat.{ℕ, ◌+◌, ◌-◌, ◌≤◌, ◌<◌}
use native.Mathlib.Omega.{arith}
use lib.Dec.{leb}
use lib.ListN.{length}
use borrow.Author.Tests.{leb-true}
use Rattle.std.specs.Prelude.{Option, Some, None}
use Rattle.rules.specs.Act.{window}
use Rattle.rules.specs.Carry.{there, index_of}
use Rattle.rules.specs.State.{Device}
use Rattle.rules.proofs.BoolLaws.{and_left, and_right}
use Rattle.rules.proofs.Steps.{in_window, below_window, past-window}
use Rattle.memory.specs.Places.{holding, place_of}

module _ (base : ℕ) (w : List ℕ) (a n : ℕ) where
  pub place_below : a < base → None ≡ place_of base w a n
  unfolding place_of
  place_below h = rw (below_window base a n (holding w) h)

  pub place-past : base + length w < a + n → None ≡ place_of base w a n
  unfolding place_of holding
  place-past h = rw (past-window base a n (holding w) h)

  pub place_in : base ≤ a → a + n ≤ base + length w → Some (a - base) ≡ place_of base w a n
  unfolding place_of holding index_of
  place_in h l = rw (in_window base a n (holding w) h l)

  -- and what an answer says
  module _ {r : Option ℕ} (asked : r ≡ place_of base w a n) where
    decided : (b : Bool) → there base window a n (holding w) ≡ b → r ≡ cond b (Some (index_of base window a)) None
    unfolding place_of
    decided b e = rw (← e) asked

    module _ (found : r ≡ None) where
      pub not_inside : there base window a n (holding w) ≡ false
      not_inside = by (there base window a n (holding w)) refl
        where
          by : (b : Bool) → there base window a n (holding w) ≡ b → b ≡ false
          by false t = refl
          by true t = let z : Some (index_of base window a) ≡ None = sym (decided true t) ∙ found in absurd (let y : ◌≡◌ {A = ℕ} 0 1 = cc in omega arith)

      pub not_there : (d : Device) → there base window a n (record { mem = w; dev = d }) ≡ false
      unfolding there holding
      not_there d = not_inside

    module _ {i : ℕ} (found : r ≡ Some i) where
      pub inside : there base window a n (holding w) ≡ true
      inside = by (there base window a n (holding w)) refl
        where
          by : (b : Bool) → there base window a n (holding w) ≡ b → b ≡ true
          by true t = refl
          by false t = let z : None ≡ Some i = sym (decided false t) ∙ found in absurd (let y : ◌≡◌ {A = ℕ} 0 1 = cc in omega arith)

      pub at_there : (d : Device) → there base window a n (record { mem = w; dev = d }) ≡ true
      unfolding there holding
      at_there d = inside

      pub at_index : i ≡ index_of base window a
      at_index = let z : Some i ≡ Some (index_of base window a) = sym found ∙ decided true inside in cc

      pub at_fits : i + n ≤ length w
      unfolding there holding index_of
      at_fits =
          let low : base ≤ a = leb-true base a (and_left (leb base a) (leb (a + n) (base + length w)) inside) in
          let high : a + n ≤ base + length w = leb-true (a + n) (base + length w) (and_right (leb base a) (leb (a + n) (base + length w)) inside) in
          omega (arith, at_index)
