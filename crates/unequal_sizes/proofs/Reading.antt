-- Reads into staging, each law over every unit: a unit by cases, a turn of a loop, and its end. Assumes nothing.
use mathlib.Core.List.{List, ◌++◌}
use mathlib.Core.Path.{◌≡◌, sym, ap, ◌∙◌}
use Prim.Native.Nat.{ℕ, suc, ◌+◌, ◌-◌, ◌*◌, ◌/◌, ◌%◌, ◌^◌, ◌≤◌, ◌<◌}
use native.Mathlib.Nat.{add-zero, zero-mul, mod-eq_of_lt, div_self, min-eq_left, min-eq_right}
use native.Mathlib.Numerals.{add-one}
use native.Mathlib.Omega.{arith}
use lib.ListN.{length, take, length-append}
use lib.Seq.{take_at, length-take-le}
use Rattle.rules.specs.Act.{Act, window, ◌>>=◌, done, fetch}
use Rattle.rules.specs.Bytes.{bytes, number, part, splice, Bytes}
use Rattle.rules.specs.Calls.{world_of}
use Rattle.rules.specs.Carry.{Out, no, go, bytes_of, fetched, Lent}
use Rattle.rules.specs.Minor.{read_unit, read_units, read_sizes}
use Rattle.rules.specs.Words.{wrap32, unit_of, modulo_add}
use Rattle.rules.specs.State.{Device}
use Rattle.rules.proofs.BytesLaws.{part_back, length_part}
use Rattle.rules.proofs.Cut.{splice_cut}
use Rattle.rules.proofs.Steps.{and_then, go_bind, fetch-inside, fetch_outside}
use Rattle.memory.specs.Places.{place_of}
use Rattle.std.specs.Prelude.{Option, Some, None}
use Rattle.memory.proofs.Laws.{not_there, at_there, at_index}
use Rattle.unequal_sizes.specs.Stages.{gotten, read_to, Reads}

-- ---- a unit

-- k bytes of the window at i, stored in staging behind the n that were there
pub staged : (l : List ℕ) (n k : ℕ) (w : List ℕ) (i : ℕ) {v : ℕ} {l' : List ℕ} → n + k ≤ length l → Bytes w → v ≡ number (part w i k) → l' ≡ splice l n (bytes k v)
    → take (n + k) l' ≡ take n l ++ part w i k
staged l n k w i fits each got put =
    let size : length (part w i k) ≡ k = length_part w i k in
    ap (take (n + k)) (put ∙ ap (λ (x : ℕ). splice l n (bytes k x)) got ∙ ap (splice l n) (part_back w i k each) ∙ splice_cut l n (part w i k) (omega arith))
    ∙ take_at (take n l ++ part w i k) _ (n + k) (omega (arith, length-append (take n l) (part w i k), length-take-le n l (omega arith)))

-- by where it is read
module _ (base : ℕ) (lent : Lent) (d : Device) (w j : List ℕ) (e u a : ℕ) (got : List ℕ) {p : Option ℕ} (asked : p ≡ place_of base w a u) where
  pub read_outside : p ≡ None → (l : List ℕ) → gotten None l (world_of d w j e) ≡ go base lent (read_unit u a got) (world_of d w j e)
  unfolding gotten read_unit fetch ◌>>=◌
  read_outside h l = sym (fetch_outside base lent window a u (λ v. done (got ++ v)) (world_of d w j e) (not_there base w a u asked h d))

  pub read_inside : {i : ℕ} {l : List ℕ} → p ≡ Some i → l ≡ got ++ part w i u
      → gotten (Some tt) l (world_of d w j e) ≡ go base lent (read_unit u a got) (world_of d w j e)
  unfolding gotten read_unit fetch ◌>>=◌ fetched bytes_of go
  read_inside h more =
      rw (more, at_index base w a u asked h)
      (sym (fetch-inside base lent window a u (λ v. done (got ++ v)) (world_of d w j e) (at_there base w a u asked h d)))

-- ---- a turn. Reading `left` from here is reading `whole` from the start, with this window, whatever else is there.

abbrev pub Rests : {A : Type 0} → ℕ → List ℕ → Act A → Act A → Type 0
Rests base w left whole = (lent : Lent) (d : Device) (j : List ℕ) (e : ℕ) → go base lent left (world_of d w j e) ≡ go base lent whole (world_of d w j e)

module _ {A : Type 0} (base : ℕ) (w : List ℕ) (whole : Act A) (x : Act (List ℕ)) (y : List ℕ → Act A) {left : Act A} (turn : x >>= y ≡ left)
    (rest : Rests base w left whole) (l : List ℕ)
  where
    read : (r q : Option (Unit {0})) → r ≡ q → Reads x base w r l → (lent : Lent) (d : Device) (j : List ℕ) (e : ℕ)
        → and_then (gotten q l (world_of d w j e)) (λ z. go base lent (y z)) ≡ go base lent whole (world_of d w j e)
    read r q h did lent d j e =
        ap (λ (o : Out (List ℕ)). and_then o (λ z. go base lent (y z))) (sym (ap (λ (b : Option (Unit {0})). gotten b l (world_of d w j e)) h) ∙ did lent d j e)
        ∙ sym (go_bind base lent x y (world_of d w j e))
        ∙ ap (λ (m : Act A). go base lent m (world_of d w j e)) turn
        ∙ rest lent d j e

    pub read_on_lem : {r : Option (Unit {0})} {all : Unit {0}} → r ≡ Some all → Reads x base w r l → Rests base w (y l) whole
    unfolding gotten and_then
    read_on_lem {r} {all} h did lent d j e = read r (Some all) h did lent d j e

    pub read_off : {r : Option (Unit {0})} → r ≡ None → Reads x base w r l → (lent : Lent) (d : Device) (j : List ℕ) (e : ℕ)
        → no 9 (world_of d w j e) ≡ go base lent whole (world_of d w j e)
    unfolding gotten and_then
    read_off {r} h did lent d j e = read r None h did lent d j e

-- ---- units in turn: number k of `count`

pub reads_on : (count k u s : ℕ) (got : List ℕ) → k < count → {a : ℕ} → a ≡ (s + k * u) % 2 ^ 32
    → read_unit u a got >>= (λ more. read_units (count - (k + 1)) (k + 1) u s more) ≡ read_units (count - k) k u s got
unfolding read_units wrap32
reads_on count k u s got h p =
    let e : count - k ≡ suc (count - (k + 1)) = omega arith in
    rw (e, p, add-one k)

pub reads_end : (base : ℕ) (lent : Lent) (d : Device) (w j : List ℕ) (e count k u s : ℕ) (got : List ℕ) {o : Out (List ℕ)} {l : List ℕ} → count ≤ k
    → go base lent (read_units (count - k) k u s got) (world_of d w j e) ≡ o → l ≡ got → gotten (Some tt) l (world_of d w j e) ≡ o
unfolding read_units gotten go
reads_end base lent d w j e count k u s got h rest same =
    let z : 0 ≡ count - k = omega arith in
    rw same (ap (λ (n : ℕ). go base lent (read_units n k u s got) (world_of d w j e)) z ∙ rest)

-- one unit is a whole size of its own
one_read : (u s : ℕ) (got : List ℕ) → 0 < u → s < 2 ^ 32 → read_units (u / u) 0 u s got ≡ read_unit u s got
unfolding read_units read_unit fetch ◌>>=◌ wrap32
one_read u s got h l = rw (div_self h, zero-mul u, add-zero s, mod-eq_of_lt l)

-- ---- sizes in turn

-- `rest` of them are left after this one
module _ (left rest soff smod size s : ℕ) (got : List ℕ) (more : left ≡ suc rest) {s' : ℕ} (p : s' ≡ modulo_add s soff smod) where
  abbrev after : List ℕ → Act (ℕ × List ℕ)
  after l = read_sizes rest soff smod size s' l

  -- a size that is read in units of u
  sizes_on : (u : ℕ) → u ≡ unit_of size → read_units (size / u) 0 u s got >>= after ≡ read_sizes left soff smod size s got
  unfolding read_sizes
  sizes_on u e = rw (ap (λ (n : ℕ). read_sizes n soff smod size s got) more, e, p)

  pub read_bursts_on : 4 ≤ size → read_units (size / 4) 0 4 s got >>= after ≡ read_sizes left soff smod size s got
  unfolding unit_of
  read_bursts_on h = sizes_on 4 (sym (min-eq_right h))

  -- a size that is one unit
  pub read_single_on : 0 < size → size ≤ 4 → s < 2 ^ 32 → read_unit size s got >>= after ≡ read_sizes left soff smod size s got
  unfolding unit_of
  read_single_on h k l = ap (λ (m : Act (List ℕ)). m >>= after) (sym (one_read size s got h l)) ∙ sizes_on size (sym (min-eq_left k))

pub read_sizes_end : (base : ℕ) (lent : Lent) (d : Device) (w j : List ℕ) (e left soff smod size s : ℕ) (got : List ℕ) {o : Out (ℕ × List ℕ)} {l : List ℕ} → left ≡ 0
    → go base lent (read_sizes left soff smod size s got) (world_of d w j e) ≡ o → l ≡ got → read_to (Some s) l (world_of d w j e) ≡ o
unfolding read_sizes read_to go
read_sizes_end base lent d w j e left soff smod size s got z rest same =
    rw same (ap (λ (n : ℕ). go base lent (read_sizes n soff smod size s got) (world_of d w j e)) (sym z) ∙ rest)
