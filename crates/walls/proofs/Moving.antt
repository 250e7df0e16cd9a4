-- A run moves more than one unit and makes more than one pass, of a channel with START, of one that requests and of channel 35; and how units
-- and sizes follow each other. By computation. Assumes nothing.
use mathlib.Core.Bool.{Bool, true, false}
use mathlib.Core.List.{List, [], ◌∷◌, ◌++◌}
use mathlib.Core.Logic.{◌⊎◌, inl, inr}
use mathlib.Core.Path.{◌≡◌, refl, sym, ap, ◌∙◌}
use Prim.Native.Nat.{ℕ, ◌+◌, ◌<◌, ◌≤◌}
use native.Mathlib.Omega.{arith}
use borrow.Author.Tests.{eqb-false, ltb-true, ltb-false}
use lib.Dec.{ltb}
use lib.ListN.{replicate, get_or}
use Rattle.rules.specs.Scalars.{DEFERRED, KICK}
use Rattle.rules.specs.Calls.{Told, window_told}
use Rattle.rules.specs.Fields.{with_field}
use Rattle.rules.proofs.Marked.{tcd}
use Rattle.walls.specs.Wrong.{Given, MovesOneUnit, runs, serves}
use Rattle.walls.specs.Examples.{moving, with_channel, requesting, lent, computed}

-- ---- units

unfoldable pub sixteen : List ℕ
sixteen = 1 ∷ 2 ∷ 3 ∷ 4 ∷ 5 ∷ 6 ∷ 7 ∷ 8 ∷ 9 ∷ 10 ∷ 11 ∷ 12 ∷ 13 ∷ 14 ∷ 15 ∷ 16 ∷ []

-- 16 bytes in one size of 16: four units
unfoldable pub burst : Given
burst = lent (with_channel 0 (moving 0x0404 16 16 1 0x80000010 1)) (sixteen ++ replicate 16 0) []

burst_moved : window_told (runs (0, 0) burst) ≡ sixteen ++ sixteen
unfolding computed burst sixteen
burst_moved = refl

module _ (program : ℕ × ℕ → Given → Told) (meets : program (0, 0) burst ≡ runs (0, 0) burst) where
  moved : (i : ℕ) → get_or (window_told (program (0, 0) burst)) i 0 ≡ get_or (sixteen ++ sixteen) i 0
  moved i = ap (λ t. get_or (window_told t) i 0) meets ∙ ap (λ w. get_or w i 0) burst_moved

  by_place : (a : ℕ) → ((i : ℕ) → (i < a) ⊎ (a + 4 ≤ i) → get_or (window_told (program (0, 0) burst)) i 0 ≡ get_or burst.window i 0)
      → (b : Bool) → ltb 16 a ≡ b → ⊥
  unfolding burst sixteen lent
  by_place a same true e = eqb-false 1 0 refl (sym (moved 16) ∙ same 16 (inl (ltb-true 16 a e)))
  by_place a same false e = eqb-false 16 0 refl (sym (moved 31) ∙ same 31 (inr (omega (arith, ltb-false 16 a e))))

  pub not_one_unit : MovesOneUnit program → ⊥
  unfolding MovesOneUnit
  not_one_unit wrong = let w = wrong (0, 0) burst in by_place w.0 w.1 (ltb 16 w.0) refl

-- ---- passes

unfoldable pub word : List ℕ
word = 0x11 ∷ 0x22 ∷ 0x33 ∷ 0x44 ∷ []

unfoldable pub three : List ℕ
three = word ++ replicate 8 0

-- each pass moves a word, from where the one before stored it. START runs minor loops until majors changes
pub start_second-pass : window_told (runs (0, 0) (lent (with_channel 0 (tcd 0x0202 4 2 2 1)) three [])) ≡ word ++ word ++ word
unfolding computed word three
start_second-pass = refl

-- two requests, two passes; of three loops the third waits
pub request_second-pass : window_told (runs (0, 0) (lent (requesting 5 2 (tcd 0x0202 4 3 3 0)) three [])) ≡ word ++ word ++ word
unfolding computed word three
request_second-pass = refl

pub service-second-pass : window_told (serves (0, 0) (lent (with_field DEFERRED 1 (with_field KICK 0 (requesting 0 2 (tcd 0x0202 4 3 3 0)))) three [])) ≡ word ++ word ++ word
unfolding computed word three
service-second-pass = refl

-- ---- how units and sizes follow each other

-- equal sizes: read and written unit by unit, so that a copy onto itself one byte on repeats the first byte
pub unit_by_unit : window_told (runs (0, 0) (lent (with_channel 0 (moving 0 1 8 1 0x80000001 1)) sixteen []))
    ≡ replicate 9 1 ++ (10 ∷ 11 ∷ 12 ∷ 13 ∷ 14 ∷ 15 ∷ 16 ∷ [])
unfolding computed sixteen
unit_by_unit = refl

-- unequal sizes: all is read before the first halfword is written over what is still to be read
pub all_read_first : window_told (runs (0, 0) (lent (with_channel 0 (moving 0x0001 1 4 1 0x80000001 1)) sixteen (replicate 4 0)))
    ≡ 1 ∷ 1 ∷ 3 ∷ 4 ∷ 5 ∷ 6 ∷ 7 ∷ 8 ∷ 9 ∷ 10 ∷ 11 ∷ 12 ∷ 13 ∷ 14 ∷ 15 ∷ 16 ∷ []
unfolding computed sixteen
all_read_first = refl

-- equal sizes round up to whole sizes: one byte asked, a word moved
pub rounded_up : window_told (runs (0, 0) (lent (with_channel 0 (moving 0x0202 4 1 1 0x80000004 1)) three [])) ≡ word ++ word ++ replicate 4 0
unfolding computed word three
rounded_up = refl

-- P7: three bytes read, none written. P8: six bytes asked, eight read, four halfwords written
pub whole_sizes_written : window_told (runs (0, 0) (lent (with_channel 0 (moving 0x0002 1 3 1 0x80000004 1)) three (replicate 3 0))) ≡ three
unfolding computed word three
whole_sizes_written = refl

pub whole_sizes_read : window_told (runs (0, 0) (lent (with_channel 0 (moving 0x0201 4 6 1 0x80000010 1)) (sixteen ++ replicate 16 0) (replicate 8 0)))
    ≡ sixteen ++ (1 ∷ 2 ∷ 0 ∷ 0 ∷ 3 ∷ 4 ∷ 0 ∷ 0 ∷ 5 ∷ 6 ∷ 0 ∷ 0 ∷ 7 ∷ 8 ∷ 0 ∷ 0 ∷ [])
unfolding computed sixteen
whole_sizes_read = refl

-- units stand at address + k x unit, plainly: a modulo of 8 bytes moves none of the four
pub units_plain : window_told (runs (0, 0) (lent (with_channel 0 (moving 0x1C04 16 16 1 0x80000010 1)) (sixteen ++ replicate 16 0) [])) ≡ sixteen ++ sixteen
unfolding computed sixteen
units_plain = refl
