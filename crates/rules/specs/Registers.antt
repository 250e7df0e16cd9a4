-- Document 01, "The calls": the registers, exactly the arms of `edma_read`, `edma_write`, `intc_read` and `intc_write`, and the descriptor
-- table at DMA offsets 0x1000..0x17FF; and priorities at 0x100..0x13F (document 02, [10]). Assumes nothing.
use Rattle.std.specs.Prelude.{Bool, cond, ◌&&◌, List, [], ◌∷◌, ℕ, zero, suc, ◌+◌, ◌-◌, ◌*◌, ◌/◌, ◌%◌, ◌^◌, eqb, leb, ltb, get_or}
use Rattle.std.proofs.Math.Option.{Option, none, some}
use Rattle.std.specs.Int.Bits.{bit_and, bit_or}
use Rattle.rules.specs.Act.{Act, nothing, fetch, store, put, change, when, table, ◌>>=◌, ◌>>◌, MASKS, FORCED, CONFIG, SOURCE, PRIORITY}
use Rattle.rules.specs.Scalars.{CR, ERQ, EEI, INT, ERR, KICK}
use Rattle.rules.specs.Bytes.{bytes, number, part, splice}
use Rattle.rules.specs.Words.{has, gain, lose, without}
use Rattle.rules.specs.Minor.{START, DONE}
use Rattle.rules.specs.Run.{requesting}
use Rattle.rules.specs.Fields.{controller, holds}
use Rattle.rules.specs.State.{Controller, Device}

-- ---- the blocks

unfoldable pub within : ℕ → ℕ → ℕ → Bool
within lo hi n = leb lo n && leb n hi

-- blocks of 0x4000 bytes: DMA 0xFC044000, controllers 0, 1, 2 at 0xFC048000, 0xFC04C000, 0xFC050000
unfoldable pub in_blocks : ℕ → Bool
in_blocks address = within 0xFC044000 0xFC053FFF address

-- 0 DMA; 1, 2, 3: controllers 0, 1, 2
unfoldable pub block_of : ℕ → ℕ
block_of address = (address - 0xFC044000) / 0x4000

unfoldable pub offset_of : ℕ → ℕ
offset_of address = address % 0x4000

-- the descriptor table's offsets
unfoldable pub in_table : ℕ → Bool
in_table off = within 0x1000 0x17FF off

-- ---- a 64-bit register as eight bytes

unfoldable pub bytes_in : ℕ → ℕ → ℕ → ℕ
bytes_in i size register = number (part (bytes 8 register) i size)

unfoldable pub with_bytes_in : ℕ → ℕ → ℕ → ℕ → ℕ
with_bytes_in i size v register = number (splice (bytes 8 register) i (bytes size v))

-- ---- DMA registers, written

-- the channels that a command byte names: bit 6, all; else bits 5..0
unfoldable pub named : ℕ → ℕ
named v = cond (has v 6) (2 ^ 64 - 1) (2 ^ (v % 2 ^ 6))

-- a START or DONE bit is one store of width 1 at 0x1F
unfoldable pub flag_one : (ℕ → ℕ) → ℕ → Act (Unit {0})
flag_one g ch = do
  b ← fetch table (32 * ch + 0x1F) 1
  store table (32 * ch + 0x1F) 1 (g (number b))

-- of the channels in m, so many from ch on, rising
unfoldable pub flag_each : (ℕ → ℕ) → ℕ → ℕ → ℕ → Act (Unit {0})
flag_each g m zero ch = nothing
flag_each g m (suc left) ch = do
  _ ← when (has m ch) (flag_one g ch)
  flag_each g m left (suc ch)

unfoldable pub set_requests : ℕ → Act (Unit {0})
set_requests v = do
  change ERQ (λ m. bit_or m (named v))
  asking ← requesting
  change KICK (λ k. bit_or k (bit_and (named v) asking))

unfoldable pub set_starts : ℕ → Act (Unit {0})
set_starts v = do
  flag_each (λ b. gain b START) (named v) 64 0
  change KICK (λ k. bit_or k (named v))

unfoldable pub clear_dones : ℕ → Act (Unit {0})
clear_dones v = flag_each (λ b. lose b DONE) (named v) 64 0

-- the command bytes at 0x18 to 0x1F
unfoldable pub command : ℕ → ℕ → Act (Unit {0})
command k v =
    get_or
    (set_requests v
    ∷ change ERQ (λ m. without m (named v))
    ∷ change EEI (λ m. bit_or m (named v))
    ∷ change EEI (λ m. without m (named v))
    ∷ change INT (λ m. without m (named v))
    ∷ change ERR (λ m. without m (named v))
    ∷ set_starts v
    ∷ clear_dones v
    ∷ [])
    k nothing

-- four of them as one word, the top one first
unfoldable pub commands : ℕ → ℕ → Act (Unit {0})
commands k v = do
  command k (v / 2 ^ 24 % 256)
  command (k + 1) (v / 2 ^ 16 % 256)
  command (k + 2) (v / 2 ^ 8 % 256)
  command (k + 3) (v % 256)

-- a descriptor write that covers byte 0x1F of the channel it begins in, and leaves START set, sets that KICK bit
unfoldable pub table_write : ℕ → ℕ → ℕ → Act (Unit {0})
table_write off size v =
    let ch = off / 32 in do
      store table off size v
      b ← fetch table (32 * ch + 0x1F) 1
      when (ltb (32 * ch + 0x1F) (off + size) && has (number b) START) (change KICK (λ k. gain k ch))

-- one arm: offset, size, what is done there
pub record Arm : Type 0 where
  pub off : ℕ
  pub size : ℕ
  pub does : Act (Unit {0})

abbrev pub arm : ℕ → ℕ → Act (Unit {0}) → Arm
arm off size does = record { off = off; size = size; does = does }

unfoldable pub pick : ℕ → ℕ → List Arm → Option (Act (Unit {0}))
pick off size [] = none
pick off size (a ∷ rest) = cond (eqb off a.off && eqb size a.size) (some a.does) (pick off size rest)

unfoldable pub dma_arms : ℕ → List Arm
dma_arms v =
    arm 0x00 4 (put CR v)
    ∷ arm 0x08 4 (change ERQ (with_bytes_in 0 4 v))
    ∷ arm 0x0C 4 (change ERQ (with_bytes_in 4 4 v))
    ∷ arm 0x10 4 (change EEI (with_bytes_in 0 4 v))
    ∷ arm 0x14 4 (change EEI (with_bytes_in 4 4 v))
    ∷ arm 0x18 4 (commands 0 v)
    ∷ arm 0x1C 4 (commands 4 v)
    ∷ arm 0x20 4 (change INT (λ m. without m (v * 2 ^ 32)))
    ∷ arm 0x24 4 (change INT (λ m. without m v))
    ∷ arm 0x28 4 (change ERR (λ m. without m (v * 2 ^ 32)))
    ∷ arm 0x2C 4 (change ERR (λ m. without m v))
    ∷ []

unfoldable pub dma_write : ℕ → ℕ → ℕ → Option (Act (Unit {0}))
dma_write off size v =
    cond (in_table off) (some (table_write (off - 0x1000) size v))
    (cond (eqb size 1 && within 0x18 0x1F off) (some (command (off - 0x18) v))
    (cond (eqb size 1 && within 0x100 0x13F off) (some (put (PRIORITY (off - 0x100)) v))
    (pick off size (dma_arms v))))

-- ---- controller registers, written

-- level bytes from source s on; those past 63 are dropped
unfoldable pub levels_write : ℕ → ℕ → List ℕ → Act (Unit {0})
levels_write c s [] = nothing
levels_write c s (b ∷ bs) = do
  _ ← when (ltb s 64) (put (SOURCE c s) b)
  levels_write c (suc s) bs

unfoldable pub controller_arms : ℕ → ℕ → List Arm
controller_arms c v =
    arm 0x18 2 (put (CONFIG c) v)
    ∷ arm 0x1C 1 (change (MASKS c) (λ m. bit_or m (named v)))
    ∷ arm 0x1D 1 (change (MASKS c) (λ m. without m (named v)))
    ∷ arm 0x1E 1 nothing
    ∷ arm 0x1F 1 nothing
    ∷ []

unfoldable pub controller_write : ℕ → ℕ → ℕ → ℕ → Option (Act (Unit {0}))
controller_write c off size v =
    cond (within 0x00 0x07 off) (some nothing)
    (cond (within 0x08 0x0F off) (some (change (MASKS c) (with_bytes_in (off - 0x08) size v)))
    (cond (within 0x10 0x17 off) (some (change (FORCED c) (with_bytes_in (off - 0x10) size v)))
    (cond (within 0x40 0x7F off) (some (levels_write c (off - 0x40) (bytes size v)))
    (pick off size (controller_arms c v)))))

-- ---- any register, written: by its block; none where there is no such register

unfoldable pub write_in : ℕ → ℕ → ℕ → ℕ → Option (Act (Unit {0}))
write_in zero off size v = dma_write off size v
write_in (suc c) off size v = controller_write c off size v

unfoldable pub write_at : ℕ → ℕ → ℕ → Option (Act (Unit {0}))
write_at address size v = write_in (block_of address) (offset_of address) size v

-- ---- registers, read

-- one register: offset, size, what it reads
pub record Cell : Type 0 where
  pub off : ℕ
  pub size : ℕ
  pub reads : ℕ

abbrev pub cell : ℕ → ℕ → ℕ → Cell
cell off size reads = record { off = off; size = size; reads = reads }

unfoldable pub look_up : ℕ → ℕ → List Cell → Option ℕ
look_up off size [] = none
look_up off size (c ∷ rest) = cond (eqb off c.off && eqb size c.size) (some c.reads) (look_up off size rest)

unfoldable pub dma_cells : Device → List Cell
dma_cells d =
    cell 0x00 4 (holds CR d)
    ∷ cell 0x04 4 0
    ∷ cell 0x08 4 (bytes_in 0 4 (holds ERQ d))
    ∷ cell 0x0C 4 (bytes_in 4 4 (holds ERQ d))
    ∷ cell 0x10 4 (bytes_in 0 4 (holds EEI d))
    ∷ cell 0x14 4 (bytes_in 4 4 (holds EEI d))
    ∷ cell 0x20 4 (bytes_in 0 4 (holds INT d))
    ∷ cell 0x24 4 (bytes_in 4 4 (holds INT d))
    ∷ cell 0x28 4 (bytes_in 0 4 (holds ERR d))
    ∷ cell 0x2C 4 (bytes_in 4 4 (holds ERR d))
    ∷ cell 0x30 4 0
    ∷ cell 0x34 4 0
    ∷ []

unfoldable pub dma_read : Device → ℕ → ℕ → Option ℕ
dma_read d off size =
    cond (in_table off) (some (number (part d.table (off - 0x1000) size)))
    (cond (eqb size 1 && within 0x18 0x1F off) (some 0)
    (cond (d.chip && (eqb size 1 && within 0x100 0x13F off)) (some (holds (PRIORITY (off - 0x100)) d))
    (look_up off size (dma_cells d))))

unfoldable pub controller_cells : Controller → List Cell
controller_cells c =
    cell 0x00 4 (bytes_in 0 4 (bit_or c.lines c.forced))
    ∷ cell 0x04 4 (bytes_in 4 4 (bit_or c.lines c.forced))
    ∷ cell 0x08 4 (bytes_in 0 4 c.masks)
    ∷ cell 0x0C 4 (bytes_in 4 4 c.masks)
    ∷ cell 0x10 4 (bytes_in 0 4 c.forced)
    ∷ cell 0x14 4 (bytes_in 4 4 c.forced)
    ∷ cell 0x18 2 c.config
    ∷ []

unfoldable pub controller_read : Controller → ℕ → ℕ → Option ℕ
controller_read c off size =
    cond (eqb size 1 && within 0x40 0x7F off) (some (get_or c.levels (off - 0x40) 0))
    (cond (eqb size 1 && within 0x1C 0x1F off) (some 0)
    (look_up off size (controller_cells c)))

unfoldable pub read_in : Device → ℕ → ℕ → ℕ → Option ℕ
read_in d zero off size = dma_read d off size
read_in d (suc c) off size = controller_read (controller d.controllers c) off size

unfoldable pub read_at : Device → ℕ → ℕ → Option ℕ
read_at d address size = read_in d (block_of address) (offset_of address) size

-- ---- refusal 4

-- a descriptor access past offset 0x17FF
unfoldable pub past_table : ℕ → ℕ → Bool
past_table address size = eqb (block_of address) 0 && in_table (offset_of address) && ltb 0x1800 (offset_of address + size)

-- a controller write in 0x08..0x17 with offset mod 4 plus size above 4
unfoldable pub past_word : ℕ → ℕ → Bool
past_word address size = ltb 0 (block_of address) && within 0x08 0x17 (offset_of address) && ltb 4 (offset_of address % 4 + size)

-- on an `unfolding` line: all the definitions of this file
unfoldable pub writing : Unit {0}
unfolding bytes_in with_bytes_in named flag_one flag_each set_requests set_starts clear_dones command commands table_write pick dma_arms dma_write levels_write controller_arms controller_write
writing = tt

unfoldable pub registers : Unit {0}
unfolding within in_blocks block_of offset_of in_table writing write_in write_at look_up dma_cells dma_read controller_cells controller_read read_in read_at past_table past_word
registers = tt
