-- The laws that the proofs of this crate cite, over plain variables: widths, room, and a record's bytes. Assumes nothing.
use mathlib.Core.Bool.{Bool, true, false, not, ◌||◌}
use mathlib.Core.List.{List, ◌∷◌, ◌++◌}
use mathlib.Core.Path.{◌≡◌, refl, sym, ap, ◌∙◌}
use Prim.Native.Nat.{ℕ, ◌+◌, ◌-◌, ◌≤◌, ◌<◌}
use native.Mathlib.Numerals.{towards_suc}
use native.Mathlib.Omega.{arith}
use lib.Dec.{eqb, leb}
use lib.ListN.{length, set}
use borrow.Author.Tests.{leb-true, leb-false, le-leb, lt-leb, eqb-true, not-true, not-false}
use Rattle.rules.specs.Act.{window, table}
use Rattle.rules.specs.Bytes.{bytes, splice}
use Rattle.rules.specs.Carry.{legal, line}
use Rattle.rules.proofs.BoolLaws.{or_either}
use Rattle.rules.proofs.BytesLaws.{splice_comm, splice_append, length_bytes}
use Rattle.words.specs.Widths.{MemoryWidth, TableWidth}

-- ---- widths

pub legal-table : (w : ℕ) → TableWidth w → legal table w ≡ true
unfolding legal
legal-table w h = h.one_of

pub memory_width : (w : ℕ) → legal window w ≡ true → MemoryWidth w
unfolding legal
memory_width w e = record { positive = bounds.0; most = bounds.1; one_of = e }
  where
    bounds : (0 < w) × (w ≤ 4)
    bounds =
        or_either (eqb w 1 || eqb w 2) (eqb w 4)
        (or_either (eqb w 1) (eqb w 2) (λ t. omega (arith, eqb-true w 1 t)) (λ t. omega (arith, eqb-true w 2 t)))
        (λ t. omega (arith, eqb-true w 4 t)) e

pub legal-width : (w : ℕ) → legal table w ≡ true → TableWidth w
unfolding legal
legal-width w e = record { positive = bounds.0; most = bounds.1; one_of = e }
  where
    bounds : (0 < w) × (w ≤ 8)
    bounds =
        or_either (eqb w 1 || eqb w 2 || eqb w 4) (eqb w 8)
        (or_either (eqb w 1 || eqb w 2) (eqb w 4)
        (or_either (eqb w 1) (eqb w 2) (λ t. omega (arith, eqb-true w 1 t)) (λ t. omega (arith, eqb-true w 2 t)))
        (λ t. omega (arith, eqb-true w 4 t)))
        (λ t. omega (arith, eqb-true w 8 t)) e

pub table-width : (w : ℕ) → MemoryWidth w → TableWidth w
table-width w h = record { positive = h.positive; most = omega arith; one_of = rw h.one_of }

-- ---- a record's bytes stored, the place first

pub record_laid : (j : List ℕ) (at kind width place value : ℕ)
    → set (set (set (set (splice (splice j (at + 4) (bytes 4 place)) (at + 8) (bytes 8 value)) (at + 3) width) (at + 2) kind) (at + 1) 0x52) at 0x4A ≡ splice j at (line kind width place value)
unfolding line splice
record_laid j at kind width place value =
    let P : List ℕ = bytes 4 place in
    let O : List ℕ = bytes 8 value in
    let e : at + 4 + length P ≡ at + 8 = omega (arith, length_bytes 4 place) in
    let both : splice (splice j (at + 4) P) (at + 8) O ≡ splice j (at + 4) (P ++ O) =
    splice_comm j (at + 4) P (at + 8) O (omega (arith, e)) ∙ ap (λ (k : ℕ). splice (splice j k O) (at + 4) P) (sym e) ∙ sym (splice_append j (at + 4) P O) in
    rw both (marked j at (P ++ O))
  where
    marked : (j : List ℕ) (at : ℕ) (rest : List ℕ)
        → set (set (set (set (splice j (at + 4) rest) (at + 3) width) (at + 2) kind) (at + 1) 0x52) at 0x4A ≡ splice j at (0x4A ∷ 0x52 ∷ kind ∷ width ∷ rest)
    marked j at rest = simp (towards_suc, splice)

-- ---- room

pub room_asked : (at n k : ℕ) → k ≤ n → leb at (n - k) ≡ leb (at + k) n
room_asked at n k h = by (leb at (n - k)) refl
  where
    by : (b : Bool) → leb at (n - k) ≡ b → b ≡ leb (at + k) n
    by true e = sym (le-leb (at + k) n (omega (arith, leb-true at (n - k) e)))
    by false e = sym (lt-leb (at + k) n (omega (arith, leb-false at (n - k) e)))

module _ (at n : ℕ) {r : Bool} (asked : r ≡ leb (at + 16) n) where
  pub no_room : not r ≡ true → n < at + 16
  no_room e = leb-false (at + 16) n (sym asked ∙ not-true r e)

  pub room : not r ≡ false → at + 16 ≤ n
  room e = leb-true (at + 16) n (sym asked ∙ not-false r e)
