-- Zeros laid over a list; one record undone, by cases; records undone in turn, last to first. Assumes nothing.
use mathlib.Core.Bool.{Bool, true, false, not}
use mathlib.Core.List.{List, ◌++◌, append-nil}
use mathlib.Core.Path.{◌≡◌, refl, sym, ap, ◌∙◌}
use Prim.Native.Nat.{ℕ, zero, suc, ◌+◌, ◌-◌, ◌*◌, ◌≤◌, ◌<◌}
use native.Mathlib.Omega.{arith}
use lib.ListN.{length, get_or, take, drop, replicate}
use lib.Seq.{drop-drop, drop-length}
use borrow.Author.Tests.{le-leb, lt-leb, ne_eqb, not-true, not-false}
use Rattle.rules.specs.Act.{window, table}
use Rattle.rules.specs.Bytes.{bytes, number, part, splice}
use Rattle.rules.specs.Carry.{Machine, legal, there, index_of, bytes_of, with_bytes_of, stored}
use Rattle.rules.specs.State.{Device}
use Rattle.rules.specs.TakeBack.{kind, width, place, value}
use Rattle.rules.proofs.BytesLaws.{get_or-part, part-part}
use Rattle.rules.proofs.Cut.{part_cut}
use Rattle.memory.specs.Places.{holding, place_of}
use Rattle.journal.specs.Undoing.{machine_of, Undone, undo_as, undo_line, undo_lines}
use Rattle.std.specs.Prelude.{Option, Some, None}
use Rattle.memory.proofs.Laws.{not_inside, inside, at_index}

-- zeros to the end
pub zeros_to_end : (used : ℕ) (j : List ℕ) {j' : List ℕ} → j' ≡ take used j ++ replicate (length j - used) 0 ++ drop (length j) j
    → j' ≡ take used j ++ replicate (length j - used) 0
zeros_to_end used j e = e ∙ rw (drop-length j, append-nil)

-- ---- one record, by cases: what the code reads of it, and what it does

number_one : (l : List ℕ) (i : ℕ) → number (part l i 1) ≡ get_or l i 0
unfolding number part
number_one l i = omega arith

-- the record of a memory store
module _ (base a n v : ℕ) (w t : List ℕ) {fair : Bool} (asked : fair ≡ legal window n) where
  pub other_width : not fair ≡ true → Undone (undo_as base 0 n a v) w w t t
  unfolding undo_as
  other_width h d = rw (← asked, not-true fair h)

  module _ (legal-is : not fair ≡ false) {r : Option ℕ} (place-asked : r ≡ place_of base w a n) where
    pub other_place : r ≡ None → Undone (undo_as base 0 n a v) w w t t
    unfolding undo_as there
    other_place h d = let o : there base window a n (machine_of w t d) ≡ false = (unfold there holding in not_inside base w a n place-asked h) in rw (← asked, not-false fair legal-is, o)

    pub laid_back : {i : ℕ} {w' : List ℕ} → r ≡ Some i → w' ≡ splice w i (bytes n v) → Undone (undo_as base 0 n a v) w w' t t
    unfolding undo_as there stored with_bytes_of bytes_of
    laid_back h e d =
        let o : there base window a n (machine_of w t d) ≡ true = (unfold there holding in inside base w a n place-asked h) in
        rw (← asked, not-false fair legal-is, o, ← at_index base w a n place-asked h, e)

-- the record of a descriptor store
module _ (base a n v : ℕ) (w t : List ℕ) {fair : Bool} (asked : fair ≡ legal table n) where
  pub other_table-width : not fair ≡ true → Undone (undo_as base 1 n a v) w w t t
  unfolding undo_as
  other_table-width h d = rw (← asked, not-true fair h)

  module _ (legal-is : not fair ≡ false) where
    pub past-table : length t < a + n → Undone (undo_as base 1 n a v) w w t t
    unfolding undo_as there
    past-table h d = rw (← asked, not-false fair legal-is, lt-leb (a + n) (length t) h)

    pub table_back : {t' : List ℕ} → a + n ≤ length t → t' ≡ splice t a (bytes n v) → Undone (undo_as base 1 n a v) w w t t'
    unfolding undo_as there stored with_bytes_of bytes_of index_of
    table_back h e d = rw (← asked, not-false fair legal-is, le-leb (a + n) (length t) h, e)

-- what the code reads of a record
module _ (base : ℕ) (j : List ℕ) (p : ℕ) {k n a v : ℕ}
    (kind-is : k ≡ number (part j (p + 2) 1)) (width_is : n ≡ number (part j (p + 3) 1)) (place_is : a ≡ number (part j (p + 4) 4)) (value_is : v ≡ number (part j (p + 8) 8))
  where
    read : (m : Machine) → undo_line base (part j p 16) m ≡ undo_as base k n a v m
    unfolding undo_line place value
    read m =
        let K : kind (part j p 16) ≡ k = get_or-part j p 16 2 (omega arith) ∙ sym (kind-is ∙ number_one j (p + 2)) in
        let N : width (part j p 16) ≡ n = get_or-part j p 16 3 (omega arith) ∙ sym (width_is ∙ number_one j (p + 3)) in
        let A : place (part j p 16) ≡ a = ap number (part-part j p 16 4 4 (omega arith)) ∙ sym place_is in
        let O : value (part j p 16) ≡ v = ap number (part-part j p 16 8 8 (omega arith)) ∙ sym value_is in
        rw (K, N, A, O)

    pub of_kind : (w t : List ℕ) {w' t' : List ℕ} (i : ℕ) → k ≡ i → Undone (undo_as base i n a v) w w' t t' → Undone (undo_line base (part j p 16)) w w' t t'
    of_kind w t i e h d = h d ∙ ap (λ (x : ℕ). undo_as base x n a v (machine_of w t d)) (sym e) ∙ sym (read (machine_of w t d))

    pub other_kind : (w t : List ℕ) → (k ≡ 0 → ⊥) → (k ≡ 1 → ⊥) → Undone (undo_line base (part j p 16)) w w t t
    unfolding undo_as
    other_kind w t h i d = rw (read (machine_of w t d), ne_eqb k 0 h, ne_eqb k 1 i)

-- ---- records in turn

module _ (base : ℕ) where
  -- the first n + 1 records: the last of them is undone first
  last_first : (n : ℕ) (l : List ℕ) (m : Machine) → undo_lines base (suc n) l m ≡ undo_lines base n l (undo_line base (take 16 (drop (n * 16) l)) m)
  unfolding undo_lines
  last_first zero l m = refl
  last_first (suc n) l m =
      ap (undo_line base (take 16 l))
      (last_first n (drop 16 l) m
      ∙ ap (λ (x : List ℕ). undo_lines base n (drop 16 l) (undo_line base (take 16 x) m)) (drop-drop (n * 16) 16 l ∙ ap (λ (i : ℕ). drop i l) further))
    where
      further : 16 + n * 16 ≡ suc n * 16
      further = omega arith

  -- a turn of the loop
  pub undo-turn : (left from : ℕ) (j w t : List ℕ) {w' t' : List ℕ} → 0 < left → from + left * 16 ≤ length j
      → Undone (undo_line base (part j (from + (left - 1) * 16) 16)) w w' t t' → (d : Device)
      → undo_lines base (left - 1) (drop from j) (machine_of w' t' d) ≡ undo_lines base left (drop from j) (machine_of w t d)
  undo-turn left from j w t more fits e d =
      let n : ℕ = left - 1 in
      let s : left ≡ suc n = omega arith in
      let l : part j (from + n * 16) 16 ≡ take 16 (drop (n * 16) (drop from j)) =
      part_cut j (from + n * 16) 16 (omega arith) ∙ ap (take 16) (sym (drop-drop (n * 16) from j)) in
      rw (e d, l) (sym (last_first n (drop from j) (machine_of w t d))) ∙ ap (λ (k : ℕ). undo_lines base k (drop from j) (machine_of w t d)) (sym s)

  pub undo_none : (n : ℕ) (l : List ℕ) (m : Machine) → n ≡ 0 → undo_lines base n l m ≡ m
  unfolding undo_lines
  undo_none n l m e = rw e
