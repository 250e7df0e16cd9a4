-- Records one after the other: one by cases, a part's fields turn by turn and block by block, part after part. Assumes nothing.
use Rattle.std.specs.Prelude.{Some, None}
use mathlib.Core.Bool.{Bool, true, false}
use mathlib.Core.List.{List, [], ◌∷◌, ◌++◌, map, map-id}
use mathlib.Core.Logic.{◌⊎◌, inl, inr}
use mathlib.Core.Path.{◌≡◌, refl, sym, ap, ap₂, ◌∙◌}
use Prim.Native.Nat.{ℕ, zero, suc, ◌+◌, ◌-◌, ◌/◌, ◌≤◌, ◌<◌}
use native.Mathlib.Nat.{add-suc, add-zero, suc-add, suc_inj, not-suc-le-zero, le_of_suc-le-suc, le_of_eq}
use native.Mathlib.Numerals.{add-one}
use native.Mathlib.Omega.{arith}
use borrow.Author.Tests.{le-leb, lt-leb, eq-eqb, ne_eqb}
use lib.Bits.{bit_or, bit_xor, or_add_and, xor_add_and, and_le_l, and_le_r}
use lib.Dec.{eqb}
use lib.ListN.{length, get_or, set, take, drop, length-take, length-drop, take-append-drop, drop_of_length-le}
use lib.Seq.{take_all, drop-cons, drop-drop}
use Rattle.std.proofs.lemmas.List.{length-map, map-append}
use Rattle.rules.specs.Bytes.{splice}
use Rattle.rules.specs.Carry.{Rec, stood_in, line, line_of, end_line, changed}
use Rattle.closing.specs.Closes.{Noted, Noting, noting, add, add_all, add_end}

-- ---- one record, by cases

module _ (l j : List ℕ) (at : ℕ) where
  pub add-no : length j < at + 16 → noting None j ≡ add l (noting (Some at) j)
  unfolding add
  add-no h = rw (lt-leb _ _ h)

  pub add_yes : at + 16 ≤ length j → {j' : List ℕ} → j' ≡ splice j at l → noting (Some (at + 16)) j' ≡ add l (noting (Some at) j)
  unfolding add
  add_yes h f = rw (f, le-leb _ _ h)

-- ---- records of fields: once one does not fit, nothing more happens

pub all_full : (rs : List Rec) (j : List ℕ) → noting None j ≡ add_all rs (noting None j)
unfolding add_all add
all_full [] j = refl
all_full (r ∷ rs) j = all_full rs j

pub stays_full : (rs : List Rec) (j : List ℕ) {s : Noted} → s ≡ None → noting None j ≡ add_all rs (noting s j)
stays_full rs j e = rw e (all_full rs j)

-- the place that a match told
pub told_at : (rs : List Rec) (at : ℕ) (j : List ℕ) {s : Noted} {o : Noting} → s ≡ Some at → o ≡ add_all rs (noting (Some at) j) → o ≡ add_all rs (noting s j)
told_at rs at j e h = rw e h

pub field_same : (n x y : ℕ) (s : Noting) → x ≡ y → s ≡ add_all (changed n (x ∷ []) (y ∷ [])) s
unfolding add_all changed
field_same n x y s e = rw (eq-eqb x y e, changed, add_all)

pub field_other : (n x y : ℕ) (s : Noting) {s' : Noting} → (x ≡ y → ⊥) → s' ≡ add (line 2 8 n x) s → s' ≡ add_all (changed n (x ∷ []) (y ∷ [])) s
unfolding add_all changed line_of
field_other n x y s e h = rw (ne_eqb x y e, changed, add_all) h

-- ---- lists in parts

add_append : (rs qs : List Rec) (s : Noting) → add_all (rs ++ qs) s ≡ add_all qs (add_all rs s)
unfolding add_all
add_append [] qs s = refl
add_append (r ∷ rs) qs s = add_append rs qs (add (line_of r) s)

changed_append : (n : ℕ) (ps xs qs ys : List ℕ) → length ps ≡ length qs → changed n (ps ++ xs) (qs ++ ys) ≡ changed n ps qs ++ changed (n + length ps) xs ys
unfolding changed
changed_append n [] xs [] ys e = ap (λ (k : ℕ). changed k xs ys) (sym (add-zero n))
changed_append n [] xs (q ∷ qs) ys e = absurd (not-suc-le-zero (le_of_eq (sym e)))
changed_append n (p ∷ ps) xs [] ys e = absurd (not-suc-le-zero (le_of_eq e))
changed_append n (p ∷ ps) xs (q ∷ qs) ys e = by (eqb p q) refl (changed_append (suc n) ps xs qs ys (suc_inj e))
  where
    by : (t : Bool) → eqb p q ≡ t → changed (suc n) (ps ++ xs) (qs ++ ys) ≡ changed (suc n) ps qs ++ changed (suc n + length ps) xs ys
        → changed n (p ∷ (ps ++ xs)) (q ∷ (qs ++ ys)) ≡ changed n (p ∷ ps) (q ∷ qs) ++ changed (n + suc (length ps)) xs ys
    by true t tail = rw (t, changed, add-suc, ← suc-add) tail
    by false t tail = rw (t, changed, add-suc, ← suc-add) (ap (λ (l : List Rec). stood_in n p ∷ l) tail)

-- a part, then the rest
pub part-on : (n m : ℕ) (ps qs xs ys : List ℕ) (s : Noting) {s' r : Noting} → length ps ≡ length qs → n + length ps ≡ m
    → s' ≡ add_all (changed n ps qs) s → r ≡ add_all (changed m xs ys) s' → r ≡ add_all (changed n (ps ++ xs) (qs ++ ys)) s
part-on n m ps qs xs ys s l p e f = f ∙ rw (changed_append n ps xs qs ys l, add_append, e, p)

pub field_on : (n m x y : ℕ) (xs ys : List ℕ) (s : Noting) {s' r : Noting} → n + 1 ≡ m
    → s' ≡ add_all (changed n (x ∷ []) (y ∷ [])) s → r ≡ add_all (changed m xs ys) s' → r ≡ add_all (changed n (x ∷ xs) (y ∷ ys)) s
field_on n m x y xs ys s p e f = part-on n m (x ∷ []) (y ∷ []) xs ys s refl p e f

-- ---- the same lists

changed_self : (n : ℕ) (xs : List ℕ) → changed n xs xs ≡ []
unfolding changed
changed_self n [] = refl
changed_self n (x ∷ xs) = rw (eq-eqb x x refl, changed) (changed_self (suc n) xs)

pub none_changed : (n : ℕ) (xs ys : List ℕ) (s : Noting) → xs ≡ ys → s ≡ add_all (changed n xs ys) s
unfolding add_all
none_changed n xs ys s e = rw (e, changed_self n ys)

-- lists that are the same but for one element
changed_set : (n : ℕ) (xs : List ℕ) (i v : ℕ) → i < length xs → changed n xs (set xs i v) ≡ changed (n + i) (get_or xs i 0 ∷ []) (v ∷ [])
unfolding changed
changed_set n [] i v h = absurd (not-suc-le-zero h)
changed_set n (x ∷ xs) zero v h = by (eqb x v) refl
  where
    by : (t : Bool) → eqb x v ≡ t → changed n (x ∷ xs) (v ∷ xs) ≡ changed (n + 0) (x ∷ []) (v ∷ [])
    by true t = rw (t, changed) (changed_self (suc n) xs)
    by false t = rw (t, changed, add-zero) (ap (λ (l : List Rec). stood_in n x ∷ l) (changed_self (suc n) xs))
changed_set n (x ∷ xs) (suc i) v h =
    rw (eq-eqb x x refl, changed)
    (changed_set (suc n) xs i v (le_of_suc-le-suc h) ∙ ap (λ (k : ℕ). changed k (get_or xs i 0 ∷ []) (v ∷ [])) (suc-add n i ∙ sym (add-suc n i)))

pub one_changed : (n m : ℕ) (xs : List ℕ) (i x y v : ℕ) (s : Noting) {r : Noting} → i < length xs → x ≡ get_or xs i 0 → y ≡ v → m ≡ n + i
    → r ≡ add_all (changed m (x ∷ []) (y ∷ [])) s → r ≡ add_all (changed n xs (set xs i v)) s
one_changed n m xs i x y v s h e f g p = rw (changed_set n xs i v h, ← e, ← f, ← g) p

-- a part that no act changes, then the rest
pub same-on : (n m : ℕ) (ps xs ys : List ℕ) (s : Noting) {r : Noting} → n + length ps ≡ m → r ≡ add_all (changed m xs ys) s → r ≡ add_all (changed n (ps ++ xs) (ps ++ ys)) s
same-on n m ps xs ys s p f = part-on n m ps ps xs ys s refl p (none_changed n ps ps s refl) f

-- ---- turn by turn, for elements of every width

-- the elements from i to e
abbrev between : {A : Type 0} → ℕ → ℕ → List A → List A
between i e xs = take (e - i) (drop i xs)

module _ {A : Type 0} (n : A → ℕ) where
  length_between : (i e : ℕ) (xs : List A) → e ≤ length xs → length (map n (between i e xs)) ≡ e - i
  length_between i e xs h = simp (length-map, length-take, length-drop) (omega arith)

  cut : (i e : ℕ) (xs : List A) → i ≤ e → map n (drop i xs) ≡ map n (between i e xs) ++ map n (drop e xs)
  cut i e xs h =
      let k : i + (e - i) ≡ e = omega arith in
      ap (map n) (sym (take-append-drop (e - i) (drop i xs)) ∙ ap (λ (t : List A). between i e xs ++ t) (drop-drop (e - i) i xs ∙ ap (λ (m : ℕ). drop m xs) k))
      ∙ map-append n (between i e xs) (drop e xs)

  to_length : (i : ℕ) (xs : List A) → between i (length xs) xs ≡ drop i xs
  to_length i xs = take_all (length xs - i) (drop i xs) (omega (arith, length-drop i xs))

  -- element i, which the number x is
  head : (i : ℕ) (xs : List A) {a : A} {x : ℕ} → i < length xs → a ≡ get_or xs i a → x ≡ n a → map n (drop i xs) ≡ x ∷ map n (drop (suc i) xs)
  head i xs {a} h p e = ap (map n) (drop-cons xs i a h) ∙ ap (λ (y : ℕ). y ∷ map n (drop (suc i) xs)) (ap n (sym p) ∙ sym e)

  pub alike : (bs cs : List A) → length (map n bs) ≡ length (map n cs) → length bs ≡ length cs
  alike bs cs e = sym (length-map bs n) ∙ e ∙ length-map cs n

module _ {A : Type 0} (n : A → ℕ) (first : ℕ) (bs cs : List A) where
  -- what is to note from element i on
  abbrev from : ℕ → List Rec
  from i = changed (first + i) (map n (drop i bs)) (map n (drop i cs))

  pub turns_start : (s : Noting) → add_all (from 0) s ≡ add_all (changed first (map n bs) (map n cs)) s
  turns_start s = rw add-zero

  module _ (i : ℕ) (s : Noting) {b c : A} {x y : ℕ} {r : Noted} {j : List ℕ} (l : length (map n bs) ≡ length (map n cs)) (h : i < length bs) (p : b ≡ get_or bs i b) (q : c ≡ get_or cs i c)
      (u : x ≡ n b) (v : y ≡ n c) (one : noting r j ≡ add_all (changed (first + i) (x ∷ []) (y ∷ [])) s)
    where
      then_rest : {o : Noting} → o ≡ add_all (changed (first + i + 1) (map n (drop (suc i) bs)) (map n (drop (suc i) cs))) (noting r j) → o ≡ add_all (from i) s
      then_rest e =
          let k : i < length cs = omega (arith, alike n bs cs l) in
          rw (head n i bs h p u, head n i cs k q v)
          (field_on (first + i) (first + i + 1) x y (map n (drop (suc i) bs)) (map n (drop (suc i) cs)) s refl one e)

      pub turn : {at : ℕ} → r ≡ Some at → add_all (from (i + 1)) (noting (Some at) j) ≡ add_all (from i) s
      turn e = let m : first + (i + 1) ≡ first + i + 1 = omega arith in then_rest (rw (m, add-one i, e))

      pub turn_full : r ≡ None → noting None j ≡ add_all (from i) s
      turn_full e = then_rest (stays_full _ j e)

  -- all from i to e in one go
  module _ (i e : ℕ) (s : Noting) {r : Noted} {j : List ℕ} (l : length (map n bs) ≡ length (map n cs)) (h : i ≤ e) (k : e ≤ length bs)
      (part : noting r j ≡ add_all (changed (first + i) (map n (between i e bs)) (map n (between i e cs))) s)
    where
      then_on : {o : Noting} → o ≡ add_all (from e) (noting r j) → o ≡ add_all (from i) s
      then_on f =
          let m : length (map n (between i e bs)) ≡ e - i = length_between n i e bs k in
          let o : length (map n (between i e cs)) ≡ e - i = length_between n i e cs (omega (arith, alike n bs cs l)) in
          rw (cut n i e bs h, cut n i e cs h)
          (part-on (first + i) (first + e) (map n (between i e bs)) (map n (between i e cs)) (map n (drop e bs)) (map n (drop e cs)) s (m ∙ sym o) (omega arith) part f)

      pub block : {at : ℕ} → r ≡ Some at → add_all (from e) (noting (Some at) j) ≡ add_all (from i) s
      block q = then_on (rw q)

      pub block_full : r ≡ None → noting None j ≡ add_all (from i) s
      block_full q = then_on (stays_full _ j q)

  -- and all from i on
  pub to_end : (i : ℕ) (s : Noting) {o : Noting}
      → o ≡ add_all (changed (first + i) (map n (between i (length bs) bs)) (map n (between i (length cs) cs))) s → o ≡ add_all (from i) s
  to_end i s e = e ∙ rw (to_length n i bs, to_length n i cs)

  pub turns-done : (i : ℕ) (s : Noting) → length bs ≤ i → s ≡ add_all (from i) s
  unfolding changed add_all
  turns-done i s h = rw (drop_of_length-le bs h)

-- elements that are themselves the numbers
pub numbers : {xs ys : List ℕ} → map (λ (x : ℕ). x) xs ≡ map (λ (x : ℕ). x) ys → xs ≡ ys
numbers {xs} {ys} e = sym (map-id xs) ∙ e ∙ map-id ys

pub plain : (n : ℕ) (xs ys : List ℕ) (s : Noting) {o : Noting} → o ≡ add_all (changed n (map (λ (x : ℕ). x) xs) (map (λ (x : ℕ). x) ys)) s → o ≡ add_all (changed n xs ys) s
plain n xs ys s e = e ∙ ap₂ (λ (b a : List ℕ). add_all (changed n b a) s) (map-id xs) (map-id ys)

-- ---- elements that are the same, of every width: where their XORs together are 0

or_none : (a b : ℕ) → bit_or a b ≡ 0 → (a ≡ 0) × (b ≡ 0)
or_none a b e = (omega (arith, or_add_and a b, and_le_r a b), omega (arith, or_add_and a b, and_le_l a b))

xor_none : (a b : ℕ) → bit_xor a b ≡ 0 → a ≡ b
xor_none a b e = omega (arith, xor_add_and a b, and_le_l a b, and_le_r a b)

-- one pair more, of which x is the XOR, and o' all XORs so far together
pub same_more : {A : Type 0} (n : A → ℕ) {bs cs bs' cs' : List A} {b c o x o' : A} {R : Type 0} → bs ≡ b ∷ bs' → cs ≡ c ∷ cs'
    → n x ≡ bit_xor (n b) (n c) → n o' ≡ bit_or (n o) (n x) → (n o ≡ 0 → map n bs ≡ map n cs → R) → n o' ≡ 0 → map n bs' ≡ map n cs' → R
same_more n {b = b} {c = c} {o = o} {x = x} p q f g k z e =
    let both : (n o ≡ 0) × (n x ≡ 0) = or_none (n o) (n x) (sym g ∙ z) in
    k both.0 (rw (p, q) (ap₂ (λ (u : ℕ) (v : List ℕ). u ∷ v) (xor_none (n b) (n c) (sym f ∙ both.1)) e))

-- none is left
pub same_end : {A : Type 0} (n : A → ℕ) (bs cs : List A) → length bs ≡ length cs → (bs ≡ []) ⊎ (cs ≡ []) → map n bs ≡ map n cs
same_end n [] [] l e = refl
same_end n [] (c ∷ cs) l e = absurd (not-suc-le-zero (le_of_eq (sym l)))
same_end n (b ∷ bs) [] l e = absurd (not-suc-le-zero (le_of_eq l))
same_end n (b ∷ bs) (c ∷ cs) l (inl e) = absurd (not-suc-le-zero (le_of_eq (ap length e)))
same_end n (b ∷ bs) (c ∷ cs) l (inr e) = absurd (not-suc-le-zero (le_of_eq (ap length e)))

-- ---- the end record, by cases

pub end_full : (used : ℕ) (j : List ℕ) {s : Noted} → s ≡ None → noting None j ≡ add_end used (noting s j)
unfolding add_end
end_full used j e = rw e

pub end_at_lem : (used at n : ℕ) (j : List ℕ) {s : Noted} {o : Noting} → s ≡ Some at → n ≡ (at - used) / 16 → o ≡ add (line 3 0 0 n) (noting (Some at) j) → o ≡ add_end used (noting s j)
unfolding add_end end_line
end_at_lem used at n j e f g = g ∙ rw (e, f)
