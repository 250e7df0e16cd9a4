-- The laws that the proofs of this crate cite, over plain variables: digits, marks, lines in turn. Assumes nothing.
use mathlib.Core.Bool.{◌&&◌, Bool, true, false, cond}
use mathlib.Core.List.{List, [], ◌∷◌, ◌++◌, append_assoc, append-nil}
use mathlib.Core.Path.{◌≡◌, refl, sym, ap, ◌∙◌}
use Prim.Native.Nat.{ℕ, zero, suc, ◌+◌, ◌-◌, ◌*◌, ◌/◌, ◌%◌, ◌≤◌, ◌<◌}
use native.Mathlib.Nat.{add-zero, zero-add, sub-zero}
use native.Mathlib.Numerals.{add-one}
use native.Mathlib.Omega.{arith}
use lib.Dec.{eqb}
use lib.ListN.{length, get_or, set, take, drop, length-append, length-drop}
use lib.Seq.{drop-drop, length-take-le}
use borrow.Author.Tests.{lt-ltb, le-ltb}
use Rattle.rules.specs.Bytes.{part, splice}
use Rattle.rules.specs.TakeBack.{marked}
use Rattle.rules.proofs.BytesLaws.{get_or-part, length_part, splice_append, splice_comm}
use Rattle.rules.proofs.Cut.{part_cut}
use Rattle.listing.specs.Lines.{digit_of, digits, line_text, text, marked_first}

-- ---- digits

module _ (n : ℕ) where
  pub digit_low : n < 10 → 48 + n ≡ digit_of n
  unfolding digit_of
  digit_low h = rw (lt-ltb n 10 h)

  pub digit_high : 10 ≤ n → 87 + n ≡ digit_of n
  unfolding digit_of
  digit_high h = rw (le-ltb n 10 h)

length_digits : (bs : List ℕ) → length (digits bs) ≡ 2 * length bs
unfolding digits
length_digits [] = refl
length_digits (b ∷ bs) = omega (arith, length_digits bs)

-- of the n bytes from `at` on, `left` are left
module _ (out₀ journal : List ℕ) (at to n : ℕ) where
  pub digits_none : out₀ ≡ splice out₀ (to + 2 * n) (digits (part journal (at + n) (n - n)))
  unfolding splice part digits
  digits_none =
      let z : n - n ≡ 0 = omega arith in
      rw z

  pub digits-turn : (out : List ℕ) (left : ℕ) {out' : List ℕ} → 0 < left → left ≤ n → out ≡ splice out₀ (to + 2 * left) (digits (part journal (at + left) (n - left)))
      → out' ≡ set (set out (to + 2 * (left - 1) + 1) (digit_of (get_or journal (at + (left - 1)) 0 % 16))) (to + 2 * (left - 1)) (digit_of (get_or journal (at + (left - 1)) 0 / 16))
      → out' ≡ splice out₀ (to + 2 * (left - 1)) (digits (part journal (at + (left - 1)) (n - (left - 1))))
  unfolding splice part digits
  digits-turn out left more most e f =
      let p : ℕ = to + 2 * (left - 1) in
      let k : n - (left - 1) ≡ suc (n - left) = omega arith in
      let i : to + 2 * left ≡ suc (suc (to + 2 * (left - 1))) = omega arith in
      let o : to + 2 * (left - 1) + 1 ≡ suc (to + 2 * (left - 1)) = omega arith in
      let s : at + left ≡ suc (at + (left - 1)) = omega arith in
      f ∙ rw (e, k, i, o, s)

  pub digits_all : {out : List ℕ} (left : ℕ) → left ≡ 0 → out ≡ splice out₀ (to + 2 * left) (digits (part journal (at + left) (n - left)))
      → out ≡ splice out₀ to (digits (part journal at n))
  digits_all left z e =
      let i : to + 2 * left ≡ to = omega arith in
      let s : at + left ≡ at = omega arith in
      let k : n - left ≡ n = omega arith in
      e ∙ rw (i, s, k)

-- ---- a line, and a line behind lines

-- what is laid down behind what was laid down
behind : (out : List ℕ) (to : ℕ) (xs ys : List ℕ) → splice (splice out to xs) (to + length xs) ys ≡ splice out to (xs ++ ys)
behind out to xs ys = splice_comm out to xs (to + length xs) ys (omega arith) ∙ sym (splice_append out to xs ys)

set_laid : (xs : List ℕ) (i v : ℕ) → set xs i v ≡ splice xs i (v ∷ [])
unfolding splice
set_laid xs i v = refl

pub line-ended : (out : List ℕ) (to : ℕ) (journal : List ℕ) (at : ℕ) {out' : List ℕ} → out' ≡ splice out to (digits (part journal at 16))
    → set out' (to + 32) 10 ≡ splice out to (line_text (part journal at 16))
unfolding line_text
line-ended out to journal at e =
    let D : List ℕ = digits (part journal at 16) in
    let n : to + 32 ≡ to + length D = omega (arith, length_digits (part journal at 16), length_part journal at 16) in
    rw (e, n) (set_laid (splice out to D) (to + length D) 10 ∙ behind out to D (10 ∷ []))

text_more : (r : ℕ) (l : List ℕ) → text (suc r) l ≡ text r l ++ line_text (take 16 (drop (r * 16) l))
unfolding text
text_more zero l = append-nil (line_text (take 16 l))
text_more (suc r) l =
    ap (λ (x : List ℕ). line_text (take 16 l) ++ x)
    (text_more r (drop 16 l) ∙ ap (λ (x : List ℕ). text r (drop 16 l) ++ line_text (take 16 x)) (drop-drop (r * 16) 16 l ∙ ap (λ (i : ℕ). drop i l) further))
    ∙ sym (append_assoc (line_text (take 16 l)) (text r (drop 16 l)) (line_text (take 16 (drop (suc r * 16) l))))
  where
    further : 16 + r * 16 ≡ suc r * 16
    further = omega arith

pub text_none : (out l : List ℕ) → out ≡ splice out 0 (text 0 l)
unfolding text splice
text_none out l = refl

length_text : (r : ℕ) (l : List ℕ) → r * 16 ≤ length l → length (text r l) ≡ r * 33
unfolding text line_text
length_text zero l h = refl
length_text (suc r) l h =
    omega (arith, length-append (line_text (take 16 l)) (text r (drop 16 l)), length-append (digits (take 16 l)) (10 ∷ []), length_digits (take 16 l), length-take-le 16 l (omega arith), length_text r (drop 16 l) (omega (arith, length-drop 16 l)))

module _ (l : List ℕ) (r : ℕ) (fits : r * 16 + 16 ≤ length l) where
  here : part l (r * 16) 16 ≡ take 16 (drop (r * 16) l)
  here = part_cut l (r * 16) 16 fits

  pub text-turn : (out₀ : List ℕ) {out out' : List ℕ} → out ≡ splice out₀ 0 (text r l) → out' ≡ splice out (r * 33) (line_text (part l (r * 16) 16))
      → out' ≡ splice out₀ 0 (text (r + 1) l)
  text-turn out₀ e f =
      let n : r * 33 ≡ 0 + length (text r l) = omega (arith, length_text r l (omega arith)) in
      f ∙ rw (e, n, add-one r, text_more r l, here) (behind out₀ 0 (text r l) (line_text (take 16 (drop (r * 16) l))))

-- ---- marks

pub mark_is : (l : List ℕ) (at : ℕ) → marked (part l at 16) ≡ eqb (get_or l at 0) 0x4A && eqb (get_or l (at + 1) 0) 0x52
unfolding marked
mark_is l at = rw (get_or-part l at 16 0 (omega arith), get_or-part l at 16 1 (omega arith), add-zero at)

pub nothing_yet : (l : List ℕ) (n : ℕ) → 0 + marked_first (n - 0) (drop (0 * 16) l) ≡ marked_first n l
nothing_yet l n = rw (sub-zero, zero-add)

-- r records of n are listed, and m are to be
module _ (l : List ℕ) (n r m : ℕ) (so_far : r + marked_first (n - r) (drop (r * 16) l) ≡ m) where
  pub marks_end : n ≤ r → r ≡ m
  unfolding marked_first
  marks_end h =
      let z : n - r ≡ 0 = omega arith in
      omega (arith, rw z at so_far)

  module _ (more : r < n) (fits : n * 16 ≤ length l) {b : Bool} (asked : b ≡ marked (part l (r * 16) 16)) where
    next : r + cond b (suc (marked_first (n - (r + 1)) (drop ((r + 1) * 16) l))) 0 ≡ m
    unfolding marked_first
    next =
        let k : n - r ≡ suc (n - (r + 1)) = omega arith in
        let further : (r + 1) * 16 ≡ r * 16 + 16 = omega arith in
        rw (further, ← drop-drop 16 (r * 16) l, asked, here l r (omega arith)) (rw k at so_far)

    pub marks_turn : b ≡ true → r + 1 + marked_first (n - (r + 1)) (drop ((r + 1) * 16) l) ≡ m
    marks_turn e = omega (arith, rw e at next)

    pub marks_stop : b ≡ false → r ≡ m
    marks_stop e = omega (arith, rw e at next)
