-- The bytes of the next descriptor, gathered one by one from the window: a turn of the loop, by cases, and its end. Assumes nothing.
use Rattle.std.proofs.Common.{◌≡◌, ℕ, suc, ◌+◌, ◌-◌, ◌%◌, ◌^◌, ◌<◌, List, [], ◌∷◌, ◌++◌, length, get_or, take, sym, add_assoc, arith, take_all, Some, None, Ok, Err}
use Rattle.rules.specs.Act.{Act, window, ◌>>=◌, fetch}
use Rattle.rules.specs.Bytes.{part}
use Rattle.rules.specs.Carry.{Out, bytes_of, fetched, Lent}
use Rattle.rules.specs.Minor.{gather}
use Rattle.rules.specs.Words.{wrap32}
use Rattle.rules.specs.State.{Device}
use Rattle.rules.specs.declared.Refusal.TheVariants as Refusal
use Rattle.rules.proofs.Steps.{fetch-inside, fetch_outside}
use Rattle.act.specs.Worlds.{world, came_to, on}
use Rattle.act.specs.declared.Flow.{Flow}
use Rattle.memory.specs.Places.{place_of}
use Rattle.std.specs.Prelude.{Option}
use Rattle.memory.proofs.Laws.{not_there, at_there, at_index}

-- the byte number i of n, at address `from` + i
module _ (base : ℕ) (lent : Lent) (d : Device) (c : Flow) (w j t m : List ℕ) {A : Type 0} (k : List ℕ → Act A) (n i from : ℕ) (more : i < n)
    (got : List ℕ) {a : ℕ} (address : a ≡ (from + i) % 2 ^ 32) {p : Option ℕ} (asked : p ≡ place_of base w a 1)
  where
    less : n - i ≡ suc (n - (i + 1))
    less = omega arith

    pub gather_outside : p ≡ None → (x : List ℕ)
        → on base lent (k x) (came_to (Err (record { why = Refusal.Outside; at = c })) d w j t m) ≡ on base lent (gather (n - i) (from + i) got >>= k) (came_to (Ok c) d w j t m)
    unfolding gather on came_to fetch ◌>>=◌ wrap32
    gather_outside h x =
        rw (less, ← address) (sym (fetch_outside base lent window a 1 (λ b. gather (n - (i + 1)) (from + i + 1) (got ++ b) >>= k) (world d c w j t m) (not_there base w a 1 asked h _)))

    pub gather-inside : {o : ℕ} → p ≡ Some o
        → on base lent (gather (n - (i + 1)) (from + (i + 1)) (got ++ get_or w o 0 ∷ []) >>= k) (came_to (Ok c) d w j t m)
        ≡ on base lent (gather (n - i) (from + i) got >>= k) (came_to (Ok c) d w j t m)
    unfolding gather on came_to fetch ◌>>=◌ wrap32 fetched bytes_of part
    gather-inside h =
        rw (less, ← address, ← add_assoc from i 1, at_index base w a 1 asked h)
        (sym (fetch-inside base lent window a 1 (λ b. gather (n - (i + 1)) (from + i + 1) (got ++ b) >>= k) (world d c w j t m) (at_there base w a 1 asked h _)))

pub gather_end : (base : ℕ) (lent : Lent) (o : Out (Unit {0})) {A : Type 0} (k : List ℕ → Act A) (n i : ℕ) (b : List ℕ) (from : ℕ) → n ≡ i → length b ≡ i
    → on base lent (k b) o ≡ on base lent (gather (n - i) from (take i b) >>= k) o
unfolding gather ◌>>=◌
gather_end base lent o k n i b from e h =
    let z : n - i ≡ 0 = omega arith in
    rw (z, take_all i b (omega arith))
