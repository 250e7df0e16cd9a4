-- A take-back undoes more than one record, and all of a group or nothing. By computation. Assumes nothing.
use Rattle.std.specs.Prelude.{None}
use mathlib.Core.Bool.{false}
use mathlib.Core.List.{List, [], ◌∷◌, ◌++◌}
use mathlib.Core.Logic.{◌⊎◌, inl, inr}
use mathlib.Core.Path.{◌≡◌, refl, sym, ap, ◌∙◌}
use Prim.Native.Nat.{ℕ}
use borrow.Author.Tests.{eqb-false}
use lib.ListN.{replicate, get_or, length}
use Rattle.rules.specs.Calls.{fresh, Told, told, device_told, window_told}
use Rattle.rules.specs.Carry.{line, end_line}
use Rattle.rules.specs.Fields.{holds}
use Rattle.rules.specs.Scalars.{KICK}
use Rattle.walls.specs.Wrong.{Given, UndoesOneRecord, takes_back}
use Rattle.walls.specs.Examples.{standing, computed}

module _ (program : Unit {0} → Given → Told) (meets : program tt standing ≡ takes_back tt standing) where
  -- the run changed the window and the device, and both are as before
  pub not_one_record : UndoesOneRecord program → ⊥
  unfolding UndoesOneRecord computed
  not_one_record wrong = by_part (wrong tt standing)
    where
      by_part : (window_told (program tt standing) ≡ standing.window) ⊎ (device_told (program tt standing) ≡ standing.device) → ⊥
      by_part (inl e) = eqb-false 0 0x11 refl (ap (λ t. get_or (window_told t) 4 0) (sym meets) ∙ ap (λ w. get_or w 4 0) e)
      by_part (inr e) = eqb-false 1 0 refl (ap (λ t. holds KICK (device_told t)) (sym meets) ∙ ap (holds KICK) e)

-- ---- damage: 13, and all is as it was

-- a group of these records, made by hand
unfoldable pub group : List ℕ → Given
group records = record { base = 0x80000000; device = fresh false false; window = 7 ∷ 8 ∷ []; staging = []; journal = records; used = length records }

unfoldable pub refused_with : ℕ → List ℕ → Told
refused_with n records = told n None (fresh false false) (7 ∷ 8 ∷ []) [] records (length records)

-- a value too wide for its field, or for its width, in its last byte of those that must be 0
pub field_too_wide : takes_back tt (group (line 2 8 8 0x100 ++ end_line 1)) ≡ refused_with 13 (line 2 8 8 0x100 ++ end_line 1)
unfolding computed group refused_with
field_too_wide = refl

pub byte_too_wide : takes_back tt (group (line 0 1 0x80000001 0x100 ++ end_line 1)) ≡ refused_with 13 (line 0 1 0x80000001 0x100 ++ end_line 1)
unfolding computed group refused_with
byte_too_wide = refl

-- the first record is sound, the second stands outside the window: the first is not undone
pub nothing_undone : takes_back tt (group (line 0 1 0x80000001 5 ++ line 0 1 0x80000002 6 ++ end_line 2)) ≡ refused_with 13 (line 0 1 0x80000001 5 ++ line 0 1 0x80000002 6 ++ end_line 2)
unfolding computed group refused_with
nothing_undone = refl

-- an end inside the group; a group longer than the used part; nothing stands
pub end_inside : takes_back tt (group (end_line 0 ++ end_line 1)) ≡ refused_with 13 (end_line 0 ++ end_line 1)
unfolding computed group refused_with
end_inside = refl

pub too_long : takes_back tt (group (end_line 1)) ≡ refused_with 13 (end_line 1)
unfolding computed group refused_with
too_long = refl

pub none_stands : takes_back tt (group []) ≡ refused_with 12 []
unfolding computed group refused_with
none_stands = refl

-- two stores to one place: undone last to first, what stood there first stands there again
pub last_to_first : takes_back tt (group (line 0 1 0x80000001 5 ++ line 0 1 0x80000001 6 ++ end_line 2)) ≡ told 0 None (fresh false false) (7 ∷ 5 ∷ []) [] (replicate 48 0) 0
unfolding computed group
last_to_first = refl
