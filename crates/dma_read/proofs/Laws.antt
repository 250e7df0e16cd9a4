-- The cases of `dma_read`, and of the sizes. Assumes nothing.
use mathlib.Core.Bool.{Bool, true, false, not, ◌||◌}
use mathlib.Core.List.{List}
use mathlib.Core.Option.{none, some}
use mathlib.Core.Path.{◌≡◌, refl}
use Prim.Native.Nat.{ℕ, ◌-◌, ◌%◌, ◌≤◌, ◌<◌}
use native.Mathlib.Omega.{arith}
use borrow.Author.Tests.{eqb-true, eqb-false, ne_eqb}
use lib.Dec.{eqb}
use lib.ListN.{get_or}
use Rattle.rules.specs.State.{Device}
use Rattle.rules.specs.Act.{table, PRIORITY}
use Rattle.rules.specs.Bytes.{number, part}
use Rattle.rules.specs.Calls.{bad_size}
use Rattle.rules.specs.Carry.{legal}
use Rattle.rules.specs.Fields.{holds}
use Rattle.rules.specs.Registers.{within, in_table, look_up, dma_cells, dma_read}
use Rattle.rules.specs.View.{view_priorities}
use Rattle.rules.proofs.ViewLaws.{six_viewed}
use Rattle.masks.proofs.Ranges.{never}

-- a size that is neither 1 nor 2 is 4
pub four : (size : ℕ) → bad_size size ≡ false → (size ≡ 1 → ⊥) → (size ≡ 2 → ⊥) → size ≡ 4
unfolding bad_size
four size e p q = eqb-true size 4 (by (eqb size 4) (simp (ne_eqb size 1 p, ne_eqb size 2 q) at e))
  where
    by : (b : Bool) → not b ≡ false → b ≡ true
    by true h = refl
    by false h = absurd (let z : ◌≡◌ {A = ℕ} 0 1 = cc in omega arith)

-- none of them is longer than 4, and a record can have each
pub small : (size : ℕ) → bad_size size ≡ false → (0 < size) × (size ≤ 4)
small size e = one (eqb size 1) refl
  where
    two : (b : Bool) → eqb size 2 ≡ b → (size ≡ 1 → ⊥) → (0 < size) × (size ≤ 4)
    two true f p = let q = eqb-true size 2 f in (omega arith, omega arith)
    two false f p = let q = four size e p (eqb-false size 2 f) in (omega arith, omega arith)

    one : (b : Bool) → eqb size 1 ≡ b → (0 < size) × (size ≤ 4)
    one true f = let q = eqb-true size 1 f in (omega arith, omega arith)
    one false f = two (eqb size 2) refl (eqb-false size 1 f)

pub width : (size : ℕ) → bad_size size ≡ false → legal table size ≡ true
unfolding bad_size legal
width size e = by (eqb size 1 || eqb size 2 || eqb size 4) (eqb size 8) e
  where
    by : (a b : Bool) → not a ≡ false → a || b ≡ true
    by true b h = refl
    by false b h = absurd (let z : ◌≡◌ {A = ℕ} 0 1 = cc in omega arith)

-- the table's offsets, as the code tests them
pub in_table_lem : (off : ℕ) {b r : Bool} → r ≡ within 0x1000 0x17FF off → r ≡ b → in_table off ≡ b
unfolding in_table
in_table_lem off e f = rw (← e) f

module _ (d : Device) (off : ℕ) where
  pub read_table : (size : ℕ) {v : ℕ} → in_table off ≡ true → v ≡ number (part d.table (off - 0x1000) size) → some v ≡ dma_read d off size
  unfolding dma_read
  read_table size e f = rw (e, f)

  module _ (e : in_table off ≡ false) where
    -- no cell is a byte
    no_byte : look_up off 1 (dma_cells d) ≡ none
    unfolding look_up dma_cells
    no_byte = simp never

    pub read_command : within 0x18 0x1F off ≡ true → some 0 ≡ dma_read d off 1
    unfolding dma_read
    read_command f = rw (e, f)

    -- a byte that is no command: a priority, in the chip's mode, or none
    module _ (f : within 0x18 0x1F off ≡ false) where
      pub read_old_byte : d.chip ≡ false → none ≡ dma_read d off 1
      unfolding dma_read
      read_old_byte g = rw (e, f, no_byte, g)

      pub read_no-byte : within 0x100 0x13F off ≡ false → none ≡ dma_read d off 1
      unfolding dma_read
      read_no-byte g = rw (e, f, no_byte, g, never d.chip)

      pub read_priority : {v : ℕ} → d.chip ≡ true → within 0x100 0x13F off ≡ true → v ≡ holds (PRIORITY (off - 0x100)) d → some v ≡ dma_read d off 1
      unfolding dma_read
      read_priority g h k = rw (e, f, g, h, k)

    -- all others are words
    pub read_no-size : (size : ℕ) → (size ≡ 1 → ⊥) → (size ≡ 4 → ⊥) → none ≡ dma_read d off size
    unfolding dma_read look_up dma_cells
    read_no-size size p q = simp (e, ne_eqb size 1 p, ne_eqb size 4 q, never)

    pub read_cell : look_up off 4 (dma_cells d) ≡ dma_read d off 4
    unfolding dma_read
    read_cell = rw (e, never d.chip)

-- six bits of a priority, in the chip's mode
pub six_read : {chip : Bool} (l : List ℕ) (ch : ℕ) {v : ℕ} → chip ≡ true → v ≡ get_or l ch 0 % 64 → v ≡ get_or (view_priorities chip l) ch 0
six_read l ch e f = rw (e, f) (six_viewed l ch)
