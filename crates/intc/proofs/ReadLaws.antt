-- Controller registers, read: the cases of `controller_read`. Assumes nothing.
use mathlib.Core.Bool.{true, false}
use mathlib.Core.Option.{none, some}
use mathlib.Core.Path.{◌≡◌}
use Prim.Native.Nat.{ℕ, ◌-◌}
use borrow.Author.Tests.{ne_eqb}
use lib.ListN.{get_or}
use Rattle.rules.specs.State.{Controller}
use Rattle.rules.specs.Registers.{within, look_up, controller_cells, controller_read}
use Rattle.masks.proofs.Ranges.{never}

-- ---- reads

module _ (k : Controller) (off : ℕ) where
  -- no cell is a byte
  no_byte : look_up off 1 (controller_cells k) ≡ none
  unfolding look_up controller_cells
  no_byte = simp never

  pub read_level : within 0x40 0x7F off ≡ true → some (get_or k.levels (off - 0x40) 0) ≡ controller_read k off 1
  unfolding controller_read
  read_level e = rw e

  pub read_command : within 0x40 0x7F off ≡ false → within 0x1C 0x1F off ≡ true → some 0 ≡ controller_read k off 1
  unfolding controller_read
  read_command e f = rw (e, f)

  pub read_no-byte : within 0x40 0x7F off ≡ false → within 0x1C 0x1F off ≡ false → none ≡ controller_read k off 1
  unfolding controller_read
  read_no-byte e f = rw (e, f, no_byte)

  pub read_no-size : (size : ℕ) → (size ≡ 1 → ⊥) → (size ≡ 2 → ⊥) → (size ≡ 4 → ⊥) → none ≡ controller_read k off size
  unfolding controller_read look_up controller_cells
  read_no-size size h1 h2 h4 = simp (ne_eqb size 1 h1, ne_eqb size 2 h2, ne_eqb size 4 h4, never)
