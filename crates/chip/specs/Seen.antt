-- What is kept of the channels between turns, and how it is brought up to date. tb, b, p are table, busy times and pending counts. Assumes nothing.
use Rattle.std.specs.Prelude.{Bool, cond, not, List, ◌≡◌, ℕ, ◌+◌, ◌*◌, ◌/◌, ◌%◌, ◌^◌, ◌<◌, eqb, ltb, get_or}
use Rattle.std.specs.Int.Bits.{bit_and, bit_or}
use Rattle.rules.specs.Bytes.{number, part}
use Rattle.rules.specs.Minor.{START}
use Rattle.rules.specs.Words.{has, gain, without, link_of}
use Rattle.chip.specs.declared.Kept.{Kept}

-- ---- what is asked of one channel

unfoldable pub start_in : List ℕ → ℕ → Bool
start_in tb c = has (number (part tb (32 * c + 0x1F) 1)) START

abbrev pub waits_in : List ℕ → ℕ → Bool
waits_in p c = not (eqb (get_or p c 0) 0)

-- not busy past `now`
abbrev pub free_in : ℕ → List ℕ → ℕ → Bool
free_in time b c = not (ltb time (get_or b c 0))

-- ---- masks

-- r is m, but for channel ch, which is in it if `on`
pub record Marks (m ch : ℕ) (on : Bool) (r : ℕ) : Type 0 where
  pub here : has r ch ≡ on
  pub elsewhere : (c : ℕ) → (ch ≡ c → ⊥) → has r c ≡ has m c

-- of the channels below n, which have START, a pending count, and no busy time past `now`
pub record SeesBelow (n time : ℕ) (k : Kept) (tb b p : List ℕ) : Type 0 where
  pub starts : (c : ℕ) → c < n → has k.starts c ≡ start_in tb c
  pub waits : (c : ℕ) → c < n → has k.waits c ≡ waits_in p c
  pub free : (c : ℕ) → c < n → has k.free c ≡ free_in time b c

abbrev pub Sees : ℕ → Kept → List ℕ → List ℕ → List ℕ → Type 0
Sees time k tb b p = SeesBelow 64 time k tb b p

-- one channel is looked at anew
pub record LooksAt (ch time : ℕ) (k r : Kept) (tb b p : List ℕ) : Type 0 where
  pub starts : Marks k.starts ch (start_in tb ch) r.starts
  pub waits : Marks k.waits ch (waits_in p ch) r.waits
  pub free : Marks k.free ch (free_in time b ch) r.free
  pub past : r.past ≡ k.past

-- those that have START or both ERQ and a request, aren't busy past `now`, and are not passed over
unfoldable pub ready_in : ℕ → ℕ → Kept → ℕ
ready_in erq standing k = bit_and (bit_or k.starts (bit_and erq (bit_or standing k.waits))) (without k.free k.past)

-- ---- after a turn

-- the channels that a channel can link to: by its count, and at the major end
abbrev pub minor_link : List ℕ → ℕ → ℕ
minor_link tb ch = link_of (number (part tb (32 * ch + 0x14) 2))

abbrev pub major_link : List ℕ → ℕ → ℕ
major_link tb ch = number (part tb (32 * ch + 0x1E) 2) / 2 ^ 8 % 2 ^ 6

-- the channel is looked at anew, START of two others besides; and it is passed over if its pass answered no
pub record Renews (ch minor major time : ℕ) (went : Bool) (k r : Kept) (tb b p : List ℕ) : Type 0 where
  pub own_start : has r.starts ch ≡ start_in tb ch
  pub minor_start : has r.starts minor ≡ start_in tb minor
  pub major_start : has r.starts major ≡ start_in tb major
  pub other_starts : (c : ℕ) → (ch ≡ c → ⊥) → (minor ≡ c → ⊥) → (major ≡ c → ⊥) → has r.starts c ≡ has k.starts c
  pub waits : Marks k.waits ch (waits_in p ch) r.waits
  pub free : Marks k.free ch (free_in time b ch) r.free
  pub past : r.past ≡ cond went k.past (gain k.past ch)
