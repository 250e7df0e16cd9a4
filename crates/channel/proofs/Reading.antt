-- Reads: a descriptor in an act, and its parts as the code reads them; whether a channel is offered. Assumes nothing.
use mathlib.Core.Bool.{Bool, true, false, not}
use mathlib.Core.List.{List}
use mathlib.Core.Path.{◌≡◌, refl, sym, ap, ◌∙◌}
use Prim.Native.Nat.{ℕ, ◌+◌, ◌*◌, ◌≤◌}
use lib.Dec.{lit≤, eqb}
use lib.ListN.{length, get_or}
use Rattle.rules.specs.Act.{Act, table, ask, fetch, ◌>>=◌}
use Rattle.rules.specs.Bytes.{number, part}
use Rattle.rules.specs.Carry.{World, bytes_of, index_of, fetched, go, Lent}
use Rattle.rules.specs.Fields.{holds}
use Rattle.rules.specs.Minor.{descriptor, tcd_of}
use Rattle.rules.specs.Run.{requests, offered}
use Rattle.rules.specs.Scalars.{ERQ, STANDING}
use Rattle.rules.specs.Words.{has}
use Rattle.rules.specs.declared.Tcd.{Tcd}
use Rattle.rules.proofs.BytesLaws.{part-part}
use Rattle.rules.proofs.Steps.{in_table_lem, fetch-inside}
use Rattle.channel.specs.Offers.{offered_in}

-- ---- a descriptor

-- the descriptor of a channel in a world
abbrev pub tcd_in : ℕ → World → Tcd
tcd_in ch u = tcd_of (part u.now.dev.table (32 * ch) 32)

pub descriptor_read : (base : ℕ) (lent : Lent) (ch : ℕ) {A : Type 0} (k : Tcd → Act A) (u : World) → 32 * ch + 32 ≤ length u.now.dev.table
    → go base lent (descriptor ch >>= k) u ≡ go base lent (k (tcd_in ch u)) u
unfolding descriptor fetch ◌>>=◌ fetched bytes_of index_of
descriptor_read base lent ch k u h = fetch-inside base lent table (32 * ch) 32 (λ b. k (tcd_of b)) u (in_table_lem base (32 * ch) 32 u.now h)

module _ (l : List ℕ) (o : ℕ) where
  inner : (i n : ℕ) → i + n ≤ 32 → number (part (part l o 32) i n) ≡ number (part l (o + i) n)
  inner i n h = ap number (part-part l o 32 i n h)

  pub nbytes_read : {v : ℕ} → v ≡ number (part l (o + 0x08) 4) → v ≡ (tcd_of (part l o 32)).nbytes
  unfolding tcd_of
  nbytes_read e = e ∙ sym (inner 0x08 4 (lit≤ tt))

  pub csr_read : {v : ℕ} → v ≡ number (part l (o + 0x1E) 2) → v ≡ (tcd_of (part l o 32)).csr
  unfolding tcd_of
  csr_read e = e ∙ sym (inner 0x1E 2 (lit≤ tt))

-- ---- requests

-- whether a channel is offered in a world
abbrev pub offered_at : ℕ → World → Bool
offered_at ch u = offered_in (holds ERQ u.now.dev) (holds STANDING u.now.dev) u.now.dev.pending ch

pub offered_read : (base : ℕ) (lent : Lent) (ch : ℕ) {A : Type 0} (k : Bool → Act A) (u : World) → go base lent (offered ch >>= k) u ≡ go base lent (k (offered_at ch u)) u
unfolding offered requests go ask ◌>>=◌ offered_in
offered_read base lent ch k u = refl

-- by cases, as the code asks
module _ (erq standing : ℕ) (counts : List ℕ) (ch : ℕ) {e : Bool} (enabled : e ≡ has erq ch) where
  pub offered-off : e ≡ false → false ≡ offered_in erq standing counts ch
  unfolding offered_in
  offered-off h = rw (sym enabled ∙ h)

  module _ (on : e ≡ true) {s : Bool} (stands : s ≡ has standing ch) where
    pub offered-standing : s ≡ true → true ≡ offered_in erq standing counts ch
    unfolding offered_in
    offered-standing h = rw (sym enabled ∙ on, sym stands ∙ h)

    pub offered-pending : s ≡ false → not (eqb (get_or counts ch 0) 0) ≡ offered_in erq standing counts ch
    unfolding offered_in
    offered-pending h = rw (sym enabled ∙ on, sym stands ∙ h)
