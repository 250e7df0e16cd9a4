-- What functions that read the window into staging, and those that write it from there, promise: that they do the steps of their trees, whatever
-- the rest of the world is. Assumes nothing.
use Rattle.std.specs.Prelude.{List, [], ◌≡◌, ℕ, Option, Some, None, Result, Ok, Err}
use Rattle.rules.specs.Act.{Act}
use Rattle.rules.specs.Calls.{world_of, refusal_number}
use Rattle.rules.specs.Carry.{World, Out, ok, no, go, Lent}
use Rattle.rules.specs.Minor.{read_sizes, write_sizes}
use Rattle.rules.specs.State.{Device}
use Rattle.rules.specs.declared.Refusal.TheVariants as Refusal
use Rattle.act.specs.declared.Stopped.{Stopped}
use Rattle.equal_sizes.specs.Moves.{moved}
use Rattle.equal_sizes.specs.declared.Moved.{Moved}
use Rattle.unequal_sizes.specs.declared.sizes.Sizes.{Sizes}
use Rattle.unequal_sizes.specs.declared.Written.{Written}

-- ---- the trees of whole sizes: read from the first on, and written from the start of what was read

abbrev pub reads_of : Sizes → ℕ → Act (ℕ × List ℕ)
reads_of s size = read_sizes s.count s.off s.modulo size s.first []

abbrev pub writes_of : Sizes → ℕ → List ℕ → Act ℕ
writes_of s size got = write_sizes s.count s.off s.modulo size s.first got 0

-- ---- reads change nothing but staging: with l read so far, or with a byte outside the window

unfoldable pub gotten : Option (Unit {0}) → List ℕ → World → Out (List ℕ)
gotten (Some all) l u = ok l u
gotten None l u = no (refusal_number Refusal.Outside) u

unfoldable pub read_to : Option ℕ → List ℕ → World → Out (ℕ × List ℕ)
read_to (Some s) l u = ok (s, l) u
read_to None l u = no (refusal_number Refusal.Outside) u

abbrev pub Reads : Act (List ℕ) → ℕ → List ℕ → Option (Unit {0}) → List ℕ → Type 0
Reads act base w r l = (lent : Lent) (d : Device) (j : List ℕ) (e : ℕ) → gotten r l (world_of d w j e) ≡ go base lent act (world_of d w j e)

abbrev pub ReadsTo : Act (ℕ × List ℕ) → ℕ → List ℕ → Option ℕ → List ℕ → Type 0
ReadsTo act base w r l = (lent : Lent) (d : Device) (j : List ℕ) (e : ℕ) → read_to r l (world_of d w j e) ≡ go base lent act (world_of d w j e)

-- ---- writes, from the journal's end `at` on

unfoldable pub wrote : Result Written (Stopped ℕ) → Device → List ℕ → List ℕ → Out ℕ
wrote (Ok r) d w j = ok r.to (world_of d w j r.at)
wrote (Err stopped) d w j = no (refusal_number stopped.why) (world_of d w j stopped.at)

abbrev pub Writes : Act ℕ → ℕ → ℕ → Result Written (Stopped ℕ) → List ℕ → List ℕ → List ℕ → List ℕ → Type 0
Writes act base at r w w' j j' = (lent : Lent) (d : Device) → wrote r d w' j' ≡ go base lent act (world_of d w j at)

-- ---- a transfer, with what is lent

abbrev pub Stages : Act (ℕ × ℕ) → ℕ → Lent → ℕ → Result Moved (Stopped ℕ) → List ℕ → List ℕ → List ℕ → List ℕ → Type 0
Stages act base lent at r w w' j j' = (d : Device) → moved r d w' j' ≡ go base lent act (world_of d w j at)
