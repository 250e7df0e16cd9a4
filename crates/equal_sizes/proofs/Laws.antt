-- Units and whole sizes in turn, each law over every unit: a unit by cases, a turn of a loop, and its end. Assumes nothing.
use Rattle.std.proofs.Common.{◌≡◌, ℕ, suc, ◌+◌, ◌-◌, ◌*◌, ◌/◌, ◌%◌, ◌^◌, ◌<◌, ◌≤◌, List, sym, refl, ap, ◌∙◌, inl, inr, add-zero, mod-eq_of_lt, zero-mul, add-one, arith, ne_eqb, eqb-true, Some, None, Ok, Err}
use native.Mathlib.Nat.{div_self, min-eq_left, min-eq_right}
use Rattle.rules.specs.Act.{Act, window, ◌>>=◌, ◌>>◌, nothing, fetch, store}
use Rattle.rules.specs.Bytes.{number, part}
use Rattle.rules.specs.Calls.{world_of}
use Rattle.rules.specs.Carry.{Out, go, bytes_of, fetched, Lent}
use Rattle.rules.specs.Minor.{move_unit, move_units, move_sizes}
use Rattle.rules.specs.Words.{wrap32, unit_of, modulo_add}
use Rattle.rules.specs.State.{Device}
use Rattle.rules.specs.declared.Refusal.TheVariants as Refusal
use Rattle.rules.proofs.Steps.{fetch-inside, fetch_outside}
use Rattle.words.specs.Sizes.{a_size, Sized}
use Rattle.words.specs.Widths.{MemoryWidth}
use Rattle.act.specs.Worlds.{walked}
use Rattle.memory.specs.Places.{place_of}
use Rattle.std.specs.Prelude.{Option}
use Rattle.memory.proofs.Laws.{not_there, at_there, at_index}
use Rattle.equal_sizes.specs.Moves.{moved}

-- ---- a unit, by where it is read

module _ (base : ℕ) (lent : Lent) (dev : Device) (w j : List ℕ) (e u a b : ℕ) {p : Option ℕ} (asked : p ≡ place_of base w a u) where
  pub unit_outside : p ≡ None → walked (Err (record { why = Refusal.Outside; at = e })) dev w j ≡ go base lent (move_unit u a b) (world_of dev w j e)
  unfolding walked move_unit fetch ◌>>=◌
  unit_outside h = sym (fetch_outside base lent window a u (λ v. store window b u (number v)) (world_of dev w j e) (not_there base w a u asked h dev))

  -- stored with the width k that a match told
  pub unit_read : {k i v : ℕ} {r : Out (Unit {0})} → u ≡ k → p ≡ Some i → v ≡ number (part w i k) → r ≡ go base lent (store window b k v) (world_of dev w j e)
      → r ≡ go base lent (move_unit u a b) (world_of dev w j e)
  unfolding move_unit fetch ◌>>=◌ fetched bytes_of
  unit_read is h got did =
      did ∙ rw (got, ← is, at_index base w a u asked h)
      (sym (fetch-inside base lent window a u (λ v. store window b u (number v)) (world_of dev w j e) (at_there base w a u asked h dev)))

-- a width that is neither 1 nor 2
pub four : (u : ℕ) → MemoryWidth u → (u ≡ 1 → ⊥) → (u ≡ 2 → ⊥) → u ≡ 4
four u h n₁ n₂ = eqb-true u 4 (rw (ne_eqb u 1 n₁, ne_eqb u 2 n₂) at h.one_of)

-- ---- units in turn: number k of `count`

pub units-on : (count k u s d : ℕ) → k < count → {a b : ℕ} → a ≡ (s + k * u) % 2 ^ 32 → b ≡ (d + k * u) % 2 ^ 32
    → move_unit u a b >> move_units (count - (k + 1)) (k + 1) u s d ≡ move_units (count - k) k u s d
unfolding move_units wrap32 ◌>>◌
units-on count k u s d h p q =
    let e : count - k ≡ suc (count - (k + 1)) = omega arith in
    rw (e, p, q, ap (λ (i : ℕ). move_units (count - (k + 1)) i u s d) (add-one k))

pub units_end : (base : ℕ) (lent : Lent) (dev : Device) (count k u s d e : ℕ) (w j : List ℕ) {o : Out (Unit {0})} → count ≤ k
    → go base lent (move_units (count - k) k u s d) (world_of dev w j e) ≡ o → walked (Ok e) dev w j ≡ o
unfolding move_units walked go
units_end base lent dev count k u s d e w j h rest =
    let z : 0 ≡ count - k = omega arith in
    ap (λ (n : ℕ). go base lent (move_units n k u s d) (world_of dev w j e)) z ∙ rest

-- one unit is a whole size of its own
alone : (u a b : ℕ) → move_unit u a b >> nothing ≡ move_unit u a b
unfolding move_unit fetch store ◌>>=◌ ◌>>◌
alone u a b = refl

one_unit : (u s d : ℕ) → 0 < u → s < 2 ^ 32 → d < 2 ^ 32 → move_units (u / u) 0 u s d ≡ move_unit u s d
unfolding move_units wrap32 ◌>>◌
one_unit u s d h ls ld = rw (div_self h, zero-mul u, add-zero s, add-zero d, mod-eq_of_lt ls, mod-eq_of_lt ld) (alone u s d)

-- ---- sizes in turn

-- `rest` of them are left after this one
module _ (left rest soff smod doff dmod size s d : ℕ) (more : left ≡ suc rest) {s' d' : ℕ} (p : s' ≡ modulo_add s soff smod) (q : d' ≡ modulo_add d doff dmod) where
  abbrev after : Act (ℕ × ℕ)
  after = move_sizes rest soff smod doff dmod size s' d'

  -- a size that moves in units of u
  sizes_on : (u : ℕ) → u ≡ unit_of size → move_units (size / u) 0 u s d >> after ≡ move_sizes left soff smod doff dmod size s d
  unfolding move_sizes ◌>>◌
  sizes_on u e =
      rw (ap (λ (n : ℕ). move_sizes n soff smod doff dmod size s d) more, e, p, q)

  pub bursts_on : 4 ≤ size → move_units (size / 4) 0 4 s d >> after ≡ move_sizes left soff smod doff dmod size s d
  unfolding unit_of
  bursts_on h = sizes_on 4 (sym (min-eq_right h))

  -- a size that is one unit
  pub single_on : 0 < size → size ≤ 4 → s < 2 ^ 32 → d < 2 ^ 32 → move_unit size s d >> after ≡ move_sizes left soff smod doff dmod size s d
  unfolding unit_of
  single_on h k ls ld = ap (λ (m : Act (Unit {0})). m >> after) (sym (one_unit size s d h ls ld)) ∙ sizes_on size (sym (min-eq_left k))

pub sizes_end : (base : ℕ) (lent : Lent) (dev : Device) (left soff smod doff dmod size s d e : ℕ) (w j : List ℕ) {o : Out (ℕ × ℕ)} → left ≡ 0
    → go base lent (move_sizes left soff smod doff dmod size s d) (world_of dev w j e) ≡ o → moved (Ok (record { from = s; to = d; at = e })) dev w j ≡ o
unfolding move_sizes moved go
sizes_end base lent dev left soff smod doff dmod size s d e w j z rest =
    ap (λ (n : ℕ). go base lent (move_sizes n soff smod doff dmod size s d) (world_of dev w j e)) (sym z) ∙ rest

-- ---- a size that is none of 1, 2 and 4

pub bursting : (n : ℕ) → Sized n → (n ≡ 1 → ⊥) → (n ≡ 2 → ⊥) → (n ≡ 4 → ⊥) → 4 ≤ n
bursting n h n₁ n₂ n₄ = by h.which
  where
    by : a_size n → 4 ≤ n
    by (inl e) = absurd (n₁ e)
    by (inr (inl e)) = absurd (n₂ e)
    by (inr (inr (inl e))) = absurd (n₄ e)
    by (inr (inr (inr (inl e)))) = omega arith
    by (inr (inr (inr (inr e)))) = omega arith
