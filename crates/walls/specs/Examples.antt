-- What the examples are made of: devices that a caller can have, fresh ones with fields and descriptors set, and what a call is given. Assumes
-- nothing.
use Rattle.std.specs.Prelude.{false, List, [], ◌∷◌, ◌++◌, ℕ, ◌-◌, ◌*◌, ◌^◌, replicate}
use Rattle.std.specs.Int.Count.{count_trailing_zeros}
use Rattle.rules.specs.State.{Device}
use Rattle.rules.specs.declared.Tcd.{Tcd}
use Rattle.rules.specs.Act.{acts, Field, PENDING}
use Rattle.rules.specs.Scalars.{ERQ, KICK}
use Rattle.rules.specs.Bytes.{bytes_rules}
use Rattle.rules.specs.Calls.{calls, fresh, device_told, window_told, journal_told}
use Rattle.rules.specs.Carry.{carry}
use Rattle.rules.specs.Fields.{fields, holds, with_field}
use Rattle.rules.specs.Lines.{lines_rules}
use Rattle.rules.specs.Minor.{minor, tcd_bytes}
use Rattle.rules.specs.Registers.{registers}
use Rattle.rules.specs.Run.{runs}
use Rattle.rules.specs.TakeBack.{takes}
use Rattle.rules.specs.With.{with_table}
use Rattle.rules.specs.Words.{words}
use Rattle.rules.proofs.Marked.{tcd, window₀, device₀, journal₀, ran, ringing}
use Rattle.walls.specs.Wrong.{Given, writes, wrongs}

-- a descriptor that moves bytes from 0x80000000 on: attr, nbytes, counts, where to, csr; steps of the size given
unfoldable pub moving : ℕ → ℕ → ℕ → ℕ → ℕ → ℕ → Tcd
moving attr step nbytes count daddr csr = record {
  saddr = 0x80000000;
  attr = attr;
  soff = step;
  nbytes = nbytes;
  slast = 0;
  daddr = daddr;
  citer = count;
  doff = step;
  dlast = 0;
  biter = count;
  csr = csr;
}

-- a fresh device in which one channel has this descriptor, and its KICK bit
unfoldable pub with_channel : ℕ → Tcd → Device
with_channel ch t = with_field KICK (2 ^ ch) (with_table (fresh false false) (replicate (32 * ch) 0 ++ tcd_bytes t ++ replicate (2016 - 32 * ch) 0))

-- and asks for that many passes: its ERQ bit and a pending count
unfoldable pub requesting : ℕ → ℕ → Tcd → Device
requesting ch count t = with_field ERQ (2 ^ ch) (with_field (PENDING ch) count (with_channel ch t))

-- at base 0x80000000, with an empty journal of 32 records' room, each byte 0xEE
unfoldable pub lent : Device → List ℕ → List ℕ → Given
lent d window staging = record { base = 0x80000000; device = d; window = window; staging = staging; journal = replicate 512 0xEE; used = 0 }

-- what document 01's 'Run only' left
unfoldable pub standing : Given
standing = record { base = 0x80000000; device = device_told ran; window = window_told ran; staging = []; journal = journal_told ran; used = 192 }

-- what some fields hold
unfoldable pub held : Device → List Field → List ℕ
held d [] = []
held d (f ∷ fs) = holds f d ∷ held d fs

-- and after a write of so many bytes at an address
unfoldable pub written : Device → ℕ → ℕ → ℕ → List Field → List ℕ
written d address size v fs = held (device_told (writes (address, size, v) (lent d [] []))) fs

-- on an `unfolding` line: all that computes
unfoldable pub examples : Unit {0}
unfolding moving with_channel requesting lent standing held written tcd window₀ device₀ journal₀ ran ringing
examples = tt

unfoldable pub computed : Unit {0}
unfolding examples wrongs count_trailing_zeros acts bytes_rules words fields carry minor runs lines_rules registers takes calls
computed = tt
