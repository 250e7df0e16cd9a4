-- Service as the chip does it (document 02, [10]): devices of that mode for the examples, what is looked at after a run, and programs for a run that
-- the request calls wrong. Assumes nothing.
use Rattle.std.specs.Prelude.{Bool, true, false, List, [], ◌∷◌, ◌++◌, ◌≡◌, ℕ, zero, suc, ◌+◌, ◌-◌, ◌*◌, ◌^◌, ◌≤◌, ◌<◌, get_or, replicate}
use Rattle.rules.specs.State.{Device}
use Rattle.rules.specs.declared.Tcd.{Tcd}
use Rattle.rules.specs.Act.{MAJORS, PENDING, PRIORITY}
use Rattle.rules.specs.Scalars.{ERQ}
use Rattle.rules.specs.Bytes.{part}
use Rattle.rules.specs.Calls.{fresh, Told, number_told, device_told, window_told, journal_told}
use Rattle.rules.specs.Fields.{holds, with_field}
use Rattle.rules.specs.Minor.{tcd_of, tcd_bytes}
use Rattle.rules.specs.With.{with_table}
use Rattle.rules.proofs.Marked.{window₀}
use Rattle.walls.specs.Wrong.{Given}
use Rattle.walls.specs.Examples.{lent}

-- ---- devices

-- a descriptor that moves bytes one by one: from and to which places of the window, how many loops of a byte each, csr
unfoldable pub byte : ℕ → ℕ → ℕ → ℕ → Tcd
byte from to count csr = record {
  saddr = 0x80000000 + from;
  attr = 0;
  soff = 1;
  nbytes = 1;
  slast = 0;
  daddr = 0x80000000 + to;
  citer = count;
  doff = 1;
  dlast = 0;
  biter = count;
  csr = csr;
}

-- one with count 0: its pass answers no
unfoldable pub empty : ℕ → Tcd
empty csr = byte 0 4 0 csr

-- a table of so many descriptors, of which these are the first
unfoldable pub laid : ℕ → List Tcd → List ℕ
laid zero ts = []
laid (suc left) [] = replicate (32 * suc left) 0
laid (suc left) (t ∷ ts) = tcd_bytes t ++ laid left ts

-- a fresh device, of the chip's mode or the old one, with these descriptors from channel 0 on
unfoldable pub in_mode : Bool → List Tcd → Device
in_mode chip ts = with_table (fresh false chip) (laid 64 ts)

unfoldable pub in_chip : List Tcd → Device
in_chip ts = in_mode true ts

-- one of the chip's mode in which one channel has a descriptor
unfoldable pub alone : ℕ → Tcd → Device
alone ch t = with_table (fresh false true) (replicate (32 * ch) 0 ++ tcd_bytes t ++ replicate (2016 - 32 * ch) 0)

-- and it asks for that many loops: its ERQ bit and a pending count
unfoldable pub asking : ℕ → ℕ → Device → Device
asking ch count d = with_field ERQ (2 ^ ch) (with_field (PENDING ch) count d)

-- the device, 11 22 33 44 00 00 00 00 in the window, and no staging
unfoldable pub over : Device → Given
over d = lent d window₀ []

-- ---- what is looked at

-- how a channel stands: csr and count, pending count, majors
unfoldable pub stands : ℕ → Device → List ℕ
stands ch d =
    let t = tcd_of (part d.table (32 * ch) 32) in
    t.csr ∷ t.citer ∷ holds (PENDING ch) d ∷ holds (MAJORS ch) d ∷ []

-- the window after a call, and how a channel stands
unfoldable pub left : ℕ → Told → List (List ℕ)
left ch t = window_told t ∷ stands ch (device_told t) ∷ []

-- three channels with START: channel 0 stores 11, channel 1 stores 22 and channel 2 stores 33, all to one byte
unfoldable pub trio : Device
trio = in_chip (byte 0 4 1 1 ∷ byte 1 4 1 1 ∷ byte 2 4 1 1 ∷ [])

-- what that byte held, in order: before each of three stores, by their records (each turn has nine), and at the end
unfoldable pub held_there : Told → List ℕ
held_there t = get_or (journal_told t) 15 9 ∷ get_or (journal_told t) 159 9 ∷ get_or (journal_told t) 303 9 ∷ get_or (window_told t) 4 9 ∷ []

-- ---- wrong programs, for a run

-- two channels with START and these priorities: channel 0 stores 11 and channel 1 stores 22, both to one byte, where then stands what was stored last
unfoldable pub rivals : ℕ → ℕ → Given
rivals p q = over (with_field (PRIORITY 0) p (with_field (PRIORITY 1) q (in_chip (byte 0 4 1 1 ∷ byte 1 4 1 1 ∷ []))))

unfoldable pub stays : Told → ℕ
stays t = get_or (window_told t) 4 0

-- channel 0 has so many loops to make, of a byte each, for which the window has room up to four: with START; or with one request
unfoldable pub starting : ℕ → Given
starting count = over (in_chip (byte 0 4 count 1 ∷ []))

unfoldable pub requested : ℕ → Given
requested count = over (asking 0 1 (in_chip (byte 0 4 count 0 ∷ [])))

-- channel 0 has so many requests, and its pass answers no
unfoldable pub refusing : ℕ → Given
refusing count = over (asking 0 count (in_chip (empty 0 ∷ [])))

module _ (program : ℕ × ℕ → Given → Told) where
  -- serving the lowest priority first: the higher one stores last
  unfoldable pub LowestFirst : Type 0
  LowestFirst = (x : ℕ × ℕ) (p q : ℕ) → p < q → q < 64 → number_told (program x (rivals p q)) ≡ 0 → stays (program x (rivals p q)) ≡ 0x22

  -- serving the lower number first among equals
  unfoldable pub LowerNumberFirst : Type 0
  LowerNumberFirst = (x : ℕ × ℕ) (p : ℕ) → p < 64 → number_told (program x (rivals p p)) ≡ 0 → stays (program x (rivals p p)) ≡ 0x22

  -- running the whole major loop for one START; or for one request
  unfoldable pub WholeForStart : Type 0
  WholeForStart = (x : ℕ × ℕ) (count : ℕ) → 0 < count → count ≤ 4 → number_told (program x (starting count)) ≡ 0
      → holds (MAJORS 0) (device_told (program x (starting count))) ≡ 1

  unfoldable pub WholeForRequest : Type 0
  WholeForRequest = (x : ℕ × ℕ) (count : ℕ) → 0 < count → count ≤ 4 → number_told (program x (requested count)) ≡ 0
      → holds (MAJORS 0) (device_told (program x (requested count))) ≡ 1

  -- asking a channel again whose pass answered no: a second request is spent
  unfoldable pub AsksAgain : Type 0
  AsksAgain = (x : ℕ × ℕ) (count : ℕ) → 2 ≤ count → count < 2 ^ 32 → number_told (program x (refusing count)) ≡ 0
      → holds (PENDING 0) (device_told (program x (refusing count))) + 2 ≤ count

-- on an `unfolding` line: all the definitions of this file that compute
unfoldable pub chips : Unit {0}
unfolding byte empty laid in_mode in_chip alone asking over stands left trio held_there rivals stays starting requested refusing
chips = tt
