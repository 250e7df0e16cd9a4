-- Document 01's marked examples, by computation: P1 to P10 as one table, the 'Run only' listing byte for byte, and the run taken back.
-- Assumes nothing.
use Rattle.std.specs.Prelude.{None}
use mathlib.Core.Bool.{Bool, false, cond}
use mathlib.Core.List.{List, [], ◌∷◌, ◌++◌}
use mathlib.Core.Path.{◌≡◌, refl}
use Prim.Native.Nat.{ℕ, ◌-◌, ◌^◌}
use lib.Count.{count_trailing_zeros}
use lib.ListN.{replicate}
use Rattle.rules.specs.State.{Device}
use Rattle.rules.specs.declared.Tcd.{Tcd}
use Rattle.rules.specs.Act.{Act, Done, Endless, Stage, Fetch, Store, Ask, Put, Look, acts, FORCED, MAJORS, PENDING, SOURCE}
use Rattle.rules.specs.Scalars.{ERQ, KICK}
use Rattle.rules.specs.Bytes.{bytes_rules, bytes}
use Rattle.rules.specs.Calls.{calls, fresh, run, ack, after, after_back, Told, told, device_told, heard_level, heard_vector}
use Rattle.rules.specs.Carry.{carry}
use Rattle.rules.specs.Fields.{fields, holds, with_field}
use Rattle.rules.specs.Lines.{lines_rules}
use Rattle.rules.specs.Minor.{minor, tcd_bytes, source_offset, minor_bytes, minor_offset, transfer, halfway}
use Rattle.rules.specs.Run.{runs}
use Rattle.rules.specs.TakeBack.{takes}
use Rattle.rules.specs.With.{with_table}
use Rattle.rules.specs.Words.{words, modulo_add, count_of, link_of, recount}

-- ---- P1 to P10

-- the descriptor of 'Run only', but for sizes, bytes, counts and csr
unfoldable pub tcd : ℕ → ℕ → ℕ → ℕ → ℕ → Tcd
tcd attr nbytes citer biter csr = record {
  saddr = 0x80000000;
  attr = attr;
  soff = 4;
  nbytes = nbytes;
  slast = 0;
  daddr = 0x80000004;
  citer = citer;
  doff = 4;
  dlast = 0;
  biter = biter;
  csr = csr;
}

-- the widths of the reads of an act, and of its writes, in their order, where every byte reads 0
unfoldable pub reads : {A : Type 0} → Act A → List ℕ
reads (Done a) = []
reads Endless = []
reads (Stage n k) = reads k
reads (Fetch sp a n k) = n ∷ reads (k (replicate n 0))
reads (Store sp a n v k) = reads k
reads (Ask f k) = reads (k 0)
reads (Put f v k) = reads k
reads (Look s k) = reads (k false)

unfoldable pub writes : {A : Type 0} → Act A → List ℕ
writes (Done a) = []
writes Endless = []
writes (Stage n k) = writes k
writes (Fetch sp a n k) = writes (k (replicate n 0))
writes (Store sp a n v k) = n ∷ writes k
writes (Ask f k) = writes (k 0)
writes (Put f v k) = writes k
writes (Look s k) = writes (k false)

unfoldable pub bit : Bool → ℕ
bit b = cond b 1 0

-- controller 2 source 63 forced and masked, level 7
unfoldable pub ringing : Device
ringing = with_field (SOURCE 2 63) 7 (with_field (FORCED 2) (2 ^ 63) (fresh false false))

unfoldable pub heard_of : Told → List ℕ
heard_of (told n heard d w s j u) = n ∷ heard_level heard ∷ heard_vector heard ∷ []

-- channel 0 with this `citer`, asked for one pass: its majors after it
unfoldable pub one_pass : ℕ → Device
one_pass citer = with_field KICK 1 (with_field ERQ 1 (with_field (PENDING 0) 1 (with_table (fresh false false) (tcd_bytes (tcd 0x0202 4 citer citer 0) ++ replicate 2016 0))))

unfoldable pub majors_after : ℕ → ℕ
majors_after citer = holds (MAJORS 0) (device_told (after (run 0 0) 0x80000000 (one_pass citer) (replicate 8 0) [] (replicate 512 0) 0))

unfoldable pub marked : List (List ℕ)
marked =
    (modulo_add 0x80000FFE 4 4 ∷ [])
    ∷ (modulo_add 0xFFFFFFFE 4 0 ∷ [])
    ∷ (modulo_add 0xFFFFFFFF 1 31 ∷ [])
    ∷ (count_of 0x8205 ∷ link_of 0x8205 ∷ recount 0x8205 (count_of 0x8205 - 1) ∷ [])
    ∷ (recount 0x8201 (count_of 0x8201 - 1) ∷ count_of 0x8200 ∷ [])
    ∷ (minor_bytes 0x80 (tcd 0 0xBFFFFC08 1 1 0) ∷ bit (source_offset 0x80 (tcd 0 0xBFFFFC08 1 1 0)) ∷ minor_offset (tcd 0 0xBFFFFC08 1 1 0) ∷ minor_bytes 0 (tcd 0 0xBFFFFC08 1 1 0) ∷ [])
    ∷ reads (transfer (tcd 0x0002 3 1 1 0) 3)
    ∷ writes (transfer (tcd 0x0002 3 1 1 0) 3)
    ∷ reads (transfer (tcd 0x0201 6 1 1 0) 6)
    ∷ writes (transfer (tcd 0x0201 6 1 1 0) 6)
    ∷ (bit (halfway (tcd 0 0 1 1 4) 0) ∷ bit (halfway (tcd 0 0 5 5 4) 3) ∷ bit (halfway (tcd 0 0 5 5 4) 2) ∷ bit (halfway (tcd 0 0 5 5 4) 1) ∷ [])
    ∷ heard_of (after (ack 7) 0 ringing [] [] (replicate 64 0) 0)
    ∷ []

-- a row for each, of P7 and P8 one for what is read and one for what is written; 0xFFFFFFFF is -1 in a sum that wraps at 2^32
pub P1-P10 : marked
    ≡ (0x80000FF2 ∷ [])
    ∷ (2 ∷ [])
    ∷ (0x80000000 ∷ [])
    ∷ (5 ∷ 1 ∷ 0x8204 ∷ [])
    ∷ (0x8200 ∷ 0 ∷ [])
    ∷ (8 ∷ 1 ∷ 0xFFFFFFFF ∷ 4194304 ∷ [])
    ∷ (1 ∷ 1 ∷ 1 ∷ [])
    ∷ []
    ∷ (4 ∷ 4 ∷ [])
    ∷ (2 ∷ 2 ∷ 2 ∷ 2 ∷ [])
    ∷ (0 ∷ 0 ∷ 1 ∷ 0 ∷ [])
    ∷ (0 ∷ 7 ∷ 255 ∷ [])
    ∷ []
unfolding marked tcd reads writes bit ringing heard_of acts bytes_rules words fields carry minor runs lines_rules calls
P1-P10 = refl

-- P5: one pass of 0x8201 is a major end, and one of 0x8202 is not
pub P5-major-end : majors_after 0x8201 ∷ majors_after 0x8202 ∷ [] ≡ 1 ∷ 0 ∷ []
unfolding majors_after one_pass tcd count_trailing_zeros acts bytes_rules words fields carry minor runs lines_rules calls
P5-major-end = refl

-- ---- run only

unfoldable pub window₀ : List ℕ
window₀ = 0x11 ∷ 0x22 ∷ 0x33 ∷ 0x44 ∷ 0 ∷ 0 ∷ 0 ∷ 0 ∷ []

unfoldable pub device₀ : Device
device₀ = with_field KICK 1 (with_table (fresh false false) (tcd_bytes (tcd 0x0202 4 1 1 1) ++ replicate 2016 0))

-- a journal of 13 records' room, 0xEE all through
unfoldable pub journal₀ : List ℕ
journal₀ = replicate 208 0xEE

unfoldable pub listing : List ℕ
listing =
    bytes 16 0x4a520004800000040000000000000000
    ++ bytes 16 0x4a520104000000000000000080000000
    ++ bytes 16 0x4a520104000000100000000080000004
    ++ bytes 16 0x4a520102000000140000000000000001
    ++ bytes 16 0x4a5201020000001e0000000000000001
    ++ bytes 16 0x4a520108000000008000000402020004
    ++ bytes 16 0x4a520108000000080000000400000000
    ++ bytes 16 0x4a520108000000108000000800000004
    ++ bytes 16 0x4a520108000000180000000000010040
    ++ bytes 16 0x4a520208000000050000000000000001
    ++ bytes 16 0x4a520208000000800000000000000000
    ++ bytes 16 0x4a52030000000000000000000000000b

unfoldable pub ran : Told
ran = after (run 0 0) 0x80000000 device₀ window₀ (0xAA ∷ []) journal₀ 0

-- number, window, staging, journal and used length of an outcome
unfoldable pub shown : Told → List (List ℕ)
shown (told n heard d w s j u) = (n ∷ u ∷ []) ∷ w ∷ s ∷ j ∷ []

-- accepted; the word is moved; staging is cleared; the listing is the journal's used part, and past the new end it is unchanged
pub run_only : shown ran ≡ (0 ∷ 192 ∷ []) ∷ (0x11 ∷ 0x22 ∷ 0x33 ∷ 0x44 ∷ 0x11 ∷ 0x22 ∷ 0x33 ∷ 0x44 ∷ []) ∷ (0 ∷ []) ∷ (listing ++ replicate 16 0xEE) ∷ []
unfolding shown ran window₀ device₀ journal₀ listing tcd count_trailing_zeros acts bytes_rules words fields carry minor runs lines_rules calls
run_only = refl

unfoldable pub taken_back : Told → Told
taken_back (told n heard d w s j u) = after_back 0x80000000 d w j u

-- taken back: window and device are as they were, the group's bytes are zero and the rest unchanged
pub run_back : taken_back ran ≡ told 0 None device₀ window₀ [] (replicate 192 0 ++ replicate 16 0xEE) 0
unfolding taken_back ran window₀ device₀ journal₀ tcd count_trailing_zeros acts bytes_rules words fields carry minor runs lines_rules calls takes
run_back = refl

-- with room for eleven records: refused with 11, all as at entry, the journal zero to its end
unfoldable pub short : Told
short = after (run 0 0) 0x80000000 device₀ window₀ (0xAA ∷ []) (replicate 181 0xEE) 0

pub run_short : short ≡ told 11 None device₀ window₀ (0 ∷ []) (replicate 181 0) 0
unfolding short window₀ device₀ tcd count_trailing_zeros acts bytes_rules words fields carry minor runs lines_rules calls
run_short = refl
