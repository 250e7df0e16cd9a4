-- What a device stands for of which one controller is changed; and a priority. Assumes nothing.
use mathlib.Core.Bool.{Bool, true}
use mathlib.Core.List.{List, [], ◌∷◌, map}
use mathlib.Core.Path.{◌≡◌, refl, sym, ap, ◌∙◌}
use Prim.Native.Nat.{ℕ, zero, suc, ◌%◌, ◌^◌}
use native.Mathlib.Nat.{mod-eq_of_lt}
use lib.ListN.{get_or, set}
use lib.Pow.{pow_pos}
use Rattle.rules.specs.Act.{PRIORITY}
use Rattle.rules.specs.Fields.{bits_of, bits_in, controller, on_controller}
use Rattle.rules.specs.State.{Controller}
use Rattle.rules.specs.View.{view_controller, view_priorities, view}
use Rattle.rules.specs.With.{with_controllers}
use Rattle.rules.specs.declared.Controller.{Controller as HeldController}
use Rattle.rules.specs.declared.Device.{Device as HeldDevice}

module _ {A B : Type 0} (f : A → B) where
  pub map_set : (l : List A) (i : ℕ) (x : A) → map f (set l i x) ≡ set (map f l) i (f x)
  map_set [] i x = refl
  map_set (y ∷ l) zero x = refl
  map_set (y ∷ l) (suc i) x = ap (λ (r : List B). f y ∷ r) (map_set l i x)

  pub map_get : (l : List A) (i : ℕ) (a : A) → get_or (map f l) i (f a) ≡ f (get_or l i a)
  map_get [] i a = refl
  map_get (y ∷ l) zero a = refl
  map_get (y ∷ l) (suc i) a = map_get l i a

-- what code's arrays give where they have none
abbrev pub no_held : HeldController
no_held = record { masks = 0; forced = 0; lines = 0; levels = []; config = 0 }

module _ (cs : List HeldController) (c : ℕ) where
  -- one of several controllers
  pub controller_viewed : controller (map view_controller cs) c ≡ view_controller (get_or cs c no_held)
  controller_viewed = map_get view_controller cs c no_held

  -- and one in its place that stands for it, changed
  pub set_viewed : (k : HeldController) (g : Controller → Controller) → view_controller k ≡ g (view_controller (get_or cs c no_held))
      → map view_controller (set cs c k) ≡ set (map view_controller cs) c (g (controller (map view_controller cs) c))
  set_viewed k g e = map_set view_controller cs c k ∙ ap (set (map view_controller cs) c) (e ∙ ap g (sym controller_viewed))

-- of a device
pub put_viewed : (d : HeldDevice) (c : ℕ) (k : HeldController) (g : Controller → Controller) → view_controller k ≡ g (view_controller (get_or d.controllers c no_held))
    → with_controllers (view d) (map view_controller (set d.controllers c k)) ≡ on_controller (view d) c g
put_viewed d c k g e = ap (with_controllers (view d)) (set_viewed d.controllers c k g e)

-- of what is held as a priority, the bits that count in a mode
pub priority_viewed : (chip : Bool) (l : List ℕ) (ch : ℕ) → get_or (view_priorities chip l) ch 0 ≡ get_or l ch 0 % 2 ^ bits_in chip (PRIORITY 0)
priority_viewed chip l ch =
    let bits : ℕ = bits_in chip (PRIORITY 0) in
    ap (get_or (view_priorities chip l) ch) (sym (mod-eq_of_lt (pow_pos bits))) ∙ map_get (λ (v : ℕ). v % 2 ^ bits) l ch 0

-- six, in the chip's
pub six_viewed : (l : List ℕ) (ch : ℕ) → get_or l ch 0 % 64 ≡ get_or (view_priorities true l) ch 0
unfolding bits_of
six_viewed l ch = sym (priority_viewed true l ch)
