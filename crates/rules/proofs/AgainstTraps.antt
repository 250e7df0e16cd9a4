-- Document 01's traps, by computation: what a run that falls into one would leave. Modules are checked by name, this one first: a definition
-- that falls into a trap is refused by the computed fact, before any law that follows the shape of a tree. Assumes nothing.
use mathlib.Core.Bool.{false}
use mathlib.Core.List.{List, [], ◌∷◌, ◌++◌}
use mathlib.Core.Path.{◌≡◌, refl}
use Prim.Native.Nat.{ℕ}
use lib.Count.{count_trailing_zeros}
use lib.ListN.{replicate}
use Rattle.rules.specs.State.{Device}
use Rattle.rules.specs.declared.Tcd.{Tcd}
use Rattle.rules.specs.Act.{acts}
use Rattle.rules.specs.Scalars.{KICK}
use Rattle.rules.specs.Bytes.{bytes_rules, part}
use Rattle.rules.specs.Calls.{calls, fresh, run, after, Told, told, number_told}
use Rattle.rules.specs.Carry.{carry}
use Rattle.rules.specs.Fields.{holds, fields, with_field}
use Rattle.rules.specs.Lines.{lines_rules}
use Rattle.rules.specs.Minor.{minor, tcd_bytes}
use Rattle.rules.specs.Run.{runs}
use Rattle.rules.specs.With.{with_table}
use Rattle.rules.specs.Words.{words}

-- a byte from 0x80000000 to 0x80000001, with 'slast' 0x100 and START
unfoldable pub one_byte : ℕ → ℕ → ℕ → Tcd
one_byte citer dlast csr = record {
  saddr = 0x80000000;
  attr = 0;
  soff = 1;
  nbytes = 1;
  slast = 0x100;
  daddr = 0x80000001;
  citer = citer;
  doff = 1;
  dlast = dlast;
  biter = citer;
  csr = csr;
}

-- channel 0 has this descriptor and is kicked
unfoldable pub kicked : Tcd → Device
kicked t = with_field KICK 1 (with_table (fresh false false) (tcd_bytes t ++ replicate 2016 0))

-- number, KICK and the first 64 bytes of the table of an outcome
unfoldable pub table_of : Told → List (List ℕ)
table_of (told n heard d w s j u) = (n ∷ holds KICK d ∷ []) ∷ part d.table 0 32 ∷ part d.table 32 32 ∷ []

unfoldable pub next : List ℕ
next = 0x5A ∷ 0x5B ∷ 0x5C ∷ 0x5D ∷ replicate 28 0

-- with ESG the 32 bytes from `dlast` replace the descriptor, and `slast` is not added after
pub slast_after-ESG : table_of (after (run 0 0) 0x80000000 (kicked (one_byte 1 0x80000002 0x11)) (7 ∷ 0 ∷ next) [] (replicate 1600 0) 0) ≡ (0 ∷ 0 ∷ []) ∷ next ∷ replicate 32 0 ∷ []
unfolding table_of kicked one_byte next count_trailing_zeros acts bytes_rules words fields carry minor runs lines_rules calls
slast_after-ESG = refl

-- count 1 with a link to channel 1: the new count is 0, so no minor link is taken; channel 1's START and KICK stay clear
pub link_at_count_0 : table_of (after (run 0 0) 0x80000000 (kicked (one_byte 0x8201 0 1)) (7 ∷ 0 ∷ []) [] (replicate 1600 0) 0)
    ≡ (0 ∷ 0 ∷ [])
    ∷ (0x80 ∷ 0 ∷ 1 ∷ 1 ∷ 0 ∷ 0 ∷ 0 ∷ 1 ∷ 0 ∷ 0 ∷ 0 ∷ 1 ∷ 0 ∷ 0 ∷ 1 ∷ 0 ∷ 0x80 ∷ 0 ∷ 0 ∷ 2 ∷ 0x82 ∷ 1 ∷ 0 ∷ 1 ∷ 0 ∷ 0 ∷ 0 ∷ 0 ∷ 0x82 ∷ 1 ∷ 0 ∷ 0x80 ∷ [])
    ∷ replicate 32 0
    ∷ []
unfolding table_of kicked one_byte count_trailing_zeros acts bytes_rules words fields carry minor runs lines_rules calls
link_at_count_0 = refl

-- a byte stored outside the window, with no room for its record either: 9 before 11 at one store
pub outside_before_room : number_told (after (run 0 0) 0x80000000 (kicked (one_byte 1 0 1)) (7 ∷ []) [] [] 0) ≡ 9
unfolding kicked one_byte count_trailing_zeros acts bytes_rules words fields carry minor runs lines_rules calls
outside_before_room = refl
