-- Writes from staging, each law over every unit: a turn of a loop, and its end. Assumes nothing.
use Rattle.std.specs.Prelude.{Ok}
use mathlib.Core.List.{List}
use mathlib.Core.Path.{◌≡◌, sym, ap, ◌∙◌}
use Prim.Native.Nat.{ℕ, suc, ◌+◌, ◌-◌, ◌*◌, ◌/◌, ◌%◌, ◌^◌, ◌≤◌, ◌<◌}
use native.Mathlib.Nat.{add-zero, zero-mul, mod-eq_of_lt, div_self, min-eq_left, min-eq_right}
use native.Mathlib.Numerals.{add-one}
use native.Mathlib.Omega.{arith}
use Rattle.rules.specs.Act.{Act, window, ◌>>=◌, ◌>>◌, store}
use Rattle.rules.specs.Bytes.{number, part}
use Rattle.rules.specs.Calls.{world_of}
use Rattle.rules.specs.Carry.{Out, go, Lent}
use Rattle.rules.specs.Minor.{write_units, write_sizes}
use Rattle.rules.specs.Words.{wrap32, unit_of, modulo_add}
use Rattle.rules.specs.State.{Device}
use Rattle.act.specs.Worlds.{walked}
use Rattle.unequal_sizes.specs.Stages.{wrote}

-- ---- units in turn: number k of `count`

pub writes-on : (count k u d : ℕ) (got : List ℕ) (o : ℕ) → k < count → {b v : ℕ} → b ≡ (d + k * u) % 2 ^ 32 → v ≡ number (part got (o + k * u) u)
    → store window b u v >> write_units (count - (k + 1)) (k + 1) u d got o ≡ write_units (count - k) k u d got o
unfolding write_units wrap32 ◌>>◌
writes-on count k u d got o h p q =
    let e : count - k ≡ suc (count - (k + 1)) = omega arith in
    rw (e, p, q, ap (λ (i : ℕ). write_units (count - (k + 1)) i u d got o) (add-one k))

pub writes_end : (base : ℕ) (lent : Lent) (dev : Device) (count k u d : ℕ) (got : List ℕ) (o e : ℕ) (w j : List ℕ) {z : Out (Unit {0})} → count ≤ k
    → go base lent (write_units (count - k) k u d got o) (world_of dev w j e) ≡ z → walked (Ok e) dev w j ≡ z
unfolding write_units walked go
writes_end base lent dev count k u d got o e w j h rest =
    let z : 0 ≡ count - k = omega arith in
    ap (λ (n : ℕ). go base lent (write_units n k u d got o) (world_of dev w j e)) z ∙ rest

-- one unit is a whole size of its own
one_write : (u d : ℕ) (got : List ℕ) (o : ℕ) → 0 < u → d < 2 ^ 32 → write_units (u / u) 0 u d got o ≡ store window d u (number (part got o u))
unfolding write_units store ◌>>=◌ ◌>>◌ wrap32
one_write u d got o h l = rw (div_self h, zero-mul u, add-zero d, add-zero o, mod-eq_of_lt l)

-- ---- sizes in turn

-- `rest` of them are left after this one
module _ (left rest doff dmod size d : ℕ) (got : List ℕ) (o : ℕ) (more : left ≡ suc rest) {d' : ℕ} (p : d' ≡ modulo_add d doff dmod) where
  abbrev after : Act ℕ
  after = write_sizes rest doff dmod size d' got (o + size)

  -- a size that is written in units of u
  sizes_on : (u : ℕ) → u ≡ unit_of size → write_units (size / u) 0 u d got o >> after ≡ write_sizes left doff dmod size d got o
  unfolding write_sizes ◌>>◌
  sizes_on u e = rw (ap (λ (n : ℕ). write_sizes n doff dmod size d got o) more, e, p)

  pub write_bursts_on : 4 ≤ size → write_units (size / 4) 0 4 d got o >> after ≡ write_sizes left doff dmod size d got o
  unfolding unit_of
  write_bursts_on h = sizes_on 4 (sym (min-eq_right h))

  -- a size that is one unit
  pub write_single_on : 0 < size → size ≤ 4 → d < 2 ^ 32 → {v : ℕ} → v ≡ number (part got o size)
      → store window d size v >> after ≡ write_sizes left doff dmod size d got o
  unfolding unit_of
  write_single_on h k l q =
      ap (λ (m : Act (Unit {0})). m >> after) (ap (store window d size) q ∙ sym (one_write size d got o h l)) ∙ sizes_on size (sym (min-eq_left k))

pub write_sizes_end : (base : ℕ) (lent : Lent) (dev : Device) (left doff dmod size d : ℕ) (got : List ℕ) (o e : ℕ) (w j : List ℕ) {z : Out ℕ} → left ≡ 0
    → go base lent (write_sizes left doff dmod size d got o) (world_of dev w j e) ≡ z → wrote (Ok (record { to = d; at = e })) dev w j ≡ z
unfolding write_sizes wrote go
write_sizes_end base lent dev left doff dmod size d got o e w j h rest =
    ap (λ (n : ℕ). go base lent (write_sizes n doff dmod size d got o) (world_of dev w j e)) (sym h) ∙ rest
