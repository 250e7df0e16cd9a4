-- The wrong programs that document 01 names ("What the promises have to say"), and some that a request of document 02 calls wrong, as properties
-- of any program for a call: from what the call is asked and given to all that is there after it. And what shuts them out. A program is a function
-- on all numbers and lists: what it does with those that no caller can give is free. Assumes nothing.
use Rattle.std.specs.Prelude.{List, [], ◌∷◌, ◌⊎◌, ◌≡◌, ℕ, ◌+◌, ◌≤◌, ◌<◌, get_or}
use Rattle.rules.specs.Act.{PENDING}
use Rattle.rules.specs.Fields.{holds}
use Rattle.rules.specs.Calls.{Asked, Told, told, ToldRead, heard_level, heard_vector, after, after_back, write, inputs, pending, run, service, ack, number_told, device_told, window_told}
use Rattle.rules.specs.State.{Device}
use Rattle.rules.proofs.Bench.{read_number}

-- ---- what a call is given and leaves

pub record Given : Type 0 where
  pub base : ℕ
  pub device : Device
  pub window : List ℕ
  pub staging : List ℕ
  pub journal : List ℕ
  pub used : ℕ

-- number, level, vector, used length
unfoldable pub answer_of : Told → List ℕ
answer_of (told n heard d w s j u) = n ∷ heard_level heard ∷ heard_vector heard ∷ u ∷ []

-- ---- wrong programs, for a call that is asked an X

module _ {X : Type 0} (program : X → Given → Told) where
  -- refusing always
  unfoldable pub RefusesAlways : Type 0
  RefusesAlways = (x : X) (g : Given) → number_told (program x g) ≡ 0 → ⊥

  -- one constant answer, wherever it accepts
  unfoldable pub OneAnswer : Type 0
  OneAnswer = (x y : X) (g h : Given) → number_told (program x g) ≡ 0 → number_told (program y h) ≡ 0 → answer_of (program x g) ≡ answer_of (program y h)

  -- changing nothing
  unfoldable pub ChangesNothing : Type 0
  ChangesNothing = (x : X) (g : Given) → device_told (program x g) ≡ g.device

  -- moving only the first unit, of 4 bytes at the most, or any one
  unfoldable pub MovesOneUnit : Type 0
  MovesOneUnit = (x : X) (g : Given)
      → (a : ℕ) × ((i : ℕ) → (i < a) ⊎ (a + 4 ≤ i) → get_or (window_told (program x g)) i 0 ≡ get_or g.window i 0)

  -- undoing only the first record, or any one: a record is of the window or of the device
  unfoldable pub UndoesOneRecord : Type 0
  UndoesOneRecord = (x : X) (g : Given) → (window_told (program x g) ≡ g.window) ⊎ (device_told (program x g) ≡ g.device)

-- ---- what shuts the first three out: two calls that are accepted and answer differently, the first of which changes the device

pub record Wall {X : Type 0} (rule : X → Given → Told) : Type 0 where
  pub first : X
  pub given : Given
  pub second : X
  pub given₂ : Given
  pub accepted : number_told (rule first given) ≡ 0
  pub accepted₂ : number_told (rule second given₂) ≡ 0
  pub differ : answer_of (rule first given) ≡ answer_of (rule second given₂) → ⊥
  pub changes : device_told (rule first given) ≡ given.device → ⊥

-- ---- a register read, of a device, an address and a size, changes nothing

module _ (program : Device → ℕ → ℕ → ToldRead) where
  unfoldable pub ReadRefusesAlways : Type 0
  ReadRefusesAlways = (d : Device) (address size : ℕ) → read_number (program d address size) ≡ 0 → ⊥

  -- one constant value
  unfoldable pub OneValue : Type 0
  OneValue = (d e : Device) (a b m n : ℕ) → program d a m ≡ program e b n

-- ---- the pending call, of a channel and a count (document 02's [1])

module _ (program : ℕ × ℕ → Given → Told) where
  -- storing over the count that stands
  unfoldable pub StoresOver : Type 0
  StoresOver = (x : ℕ × ℕ) (g : Given) → number_told (program x g) ≡ 0 → get_or (device_told (program x g)).pending x.0 0 ≡ x.1

  -- refusing no sum; or every one to which both counts add
  unfoldable pub TakesAnySum : Type 0
  TakesAnySum = (x : ℕ × ℕ) (g : Given) → number_told (program x g) ≡ 14 → ⊥

  unfoldable pub TakesNoSum : Type 0
  TakesNoSum = (x : ℕ × ℕ) (g : Given) → 0 < holds (PENDING x.0) g.device → 0 < x.1 → number_told (program x g) ≡ 0 → ⊥

-- ---- the calls, as their contracts have them

unfoldable pub acts : Asked → Given → Told
acts c g = after c g.base g.device g.window g.staging g.journal g.used

-- address, size, value
unfoldable pub writes : ℕ × ℕ × ℕ → Given → Told
writes x = acts (write x.0 x.1 x.2)

-- standing, lines of the three controllers
unfoldable pub gives : ℕ × ℕ × ℕ × ℕ → Given → Told
gives x = acts (inputs x.0 x.1 x.2 x.3)

-- channel, count
unfoldable pub counts : ℕ × ℕ → Given → Told
counts x = acts (pending x.0 x.1)

-- `now`, pace
unfoldable pub runs : ℕ × ℕ → Given → Told
runs x = acts (run x.0 x.1)

unfoldable pub serves : ℕ × ℕ → Given → Told
serves x = acts (service x.0 x.1)

-- `ipl`
unfoldable pub hears : ℕ → Given → Told
hears ipl = acts (ack ipl)

unfoldable pub takes_back : Unit {0} → Given → Told
takes_back x g = after_back g.base g.device g.window g.journal g.used

-- on an `unfolding` line: all the definitions of this file that compute
unfoldable pub wrongs : Unit {0}
unfolding answer_of acts writes gives counts runs serves hears takes_back
wrongs = tt
