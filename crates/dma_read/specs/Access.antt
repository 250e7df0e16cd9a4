-- What a DMA register access has passed before it is made: refusals 1 and 4 of document 01; and whether it is that of a priority. Assumes nothing.
use Rattle.std.specs.Prelude.{Bool, true, false, ◌&&◌, ◌≡◌, ℕ, ◌+◌, ◌≤◌, eqb}
use Rattle.rules.specs.Calls.{bad_size}
use Rattle.rules.specs.Registers.{within, in_table}

pub record Fair (off size : ℕ) : Type 0 where
  -- the size is 1, 2 or 4
  pub sized : bad_size size ≡ false
  -- a descriptor access does not run past offset 0x17FF
  pub inside : in_table off ≡ true → off + size ≤ 0x1800

-- "the bytes at DMA offsets 0x100 to 0x13F" (document 02, [10])
unfoldable pub is_priority : ℕ → ℕ → Bool
is_priority off size = eqb size 1 && within 0x100 0x13F off
