-- Captures (document 02, [2]) of one word that is moved, and what wrong judges would say of them. Assumes nothing.
use Rattle.std.specs.Prelude.{List, [], ◌∷◌, ◌++◌, ◌≡◌, ℕ, zero, suc, Ok}
use Rattle.rules.specs.Carry.{line}
use Rattle.rules.specs.Minor.{tcd_bytes}
use Rattle.captures.specs.Capture.{allowed, Captured, Access, reads, writes}

-- from 80000000 to 80000004: sizes, byte count, count, csr; the next descriptor is at 90000000
unfoldable pub descriptor : ℕ → ℕ → ℕ → ℕ → List ℕ
descriptor attr nbytes citer csr = tcd_bytes (record {
  saddr = 0x80000000;
  attr = attr;
  soff = 4;
  nbytes = nbytes;
  slast = 0;
  daddr = 0x80000004;
  citer = citer;
  doff = 4;
  dlast = 0x90000000;
  biter = citer;
  csr = csr;
})

-- a list as a file
unfoldable pub file_of : List Access → List ℕ
file_of [] = []
file_of (reads a n v ∷ l) = line 4 n a v ++ file_of l
file_of (writes a n v ∷ l) = line 5 n a v ++ file_of l

-- a word read, and a word written
unfoldable pub moved : ℕ → ℕ → List Access
moved v x = reads 0x80000000 4 v ∷ writes 0x80000004 4 x ∷ []

-- so many fetches of one byte
unfoldable pub fetched : ℕ → ℕ → List Access
fetched zero a = []
fetched (suc n) a = reads a 1 7 ∷ fetched n (suc a)

unfoldable pub addresses : List Access → List ℕ
addresses [] = []
addresses (reads a n v ∷ l) = a ∷ addresses l
addresses (writes a n v ∷ l) = a ∷ addresses l

-- ---- wrong judges: of a descriptor, CR and a file

module _ (program : List ℕ → ℕ → List ℕ → Captured) where
  unfoldable pub AcceptsAlways : Type 0
  AcceptsAlways = (d : List ℕ) (cr : ℕ) (l : List Access) → program d cr (file_of l) ≡ Ok allowed

  unfoldable pub AcceptsNever : Type 0
  AcceptsNever = (d : List ℕ) (cr : ℕ) (l : List Access) → program d cr (file_of l) ≡ Ok allowed → ⊥

  -- comparing addresses only
  unfoldable pub AddressesAlone : Type 0
  AddressesAlone = (d : List ℕ) (cr : ℕ) (l m : List Access) → addresses l ≡ addresses m → program d cr (file_of l) ≡ program d cr (file_of m)

  -- ignoring the fetches: ESG makes no difference
  unfoldable pub IgnoresFetches : Type 0
  IgnoresFetches = (attr nbytes citer cr : ℕ) (l : List Access) → program (descriptor attr nbytes citer 0x11) cr (file_of l) ≡ program (descriptor attr nbytes citer 0x01) cr (file_of l)

  -- no longer looking at records, once an access has departed
  unfoldable pub StopsLooking : Type 0
  StopsLooking = (d : List ℕ) (cr : ℕ) (l : List Access) (more : List ℕ) (v : Captured) → program d cr (file_of l) ≡ v → (v ≡ Ok allowed → ⊥)
      → program d cr (file_of l ++ more) ≡ v

-- on an `unfolding` line: all the definitions of this file that compute
unfoldable pub capturing : Unit {0}
unfolding descriptor file_of moved fetched addresses
capturing = tt
