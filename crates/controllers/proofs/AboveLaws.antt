-- The walk of an acknowledge over a controller's deliverable sources, from the highest down: the loudest that answers. Assumes nothing.
use Rattle.std.proofs.Common.{◌≡◌, ℕ, zero, suc, ◌+◌, ◌-◌, ◌*◌, ◌%◌, ◌^◌, ◌<◌, ◌≤◌, Bool, true, false, cond, not, ◌&&◌, eqb, ltb, leb, List, get_or, sym, refl, ap, ◌∙◌, add-zero, add-suc, arith, le-ltb, lt-ltb, eq-eqb, ne_eqb, eqb-true, le-leb, leb-false, leb-true}
use native.Mathlib.Nat.{zero-div}
use borrow.Author.Tests.{lt-leb, eqb-false, not-true}
use lib.Dec.{leb-zero}
use lib.Arith.{lt_of_le-ne}
use Rattle.rules.specs.Words.{has, lose}
use Rattle.rules.specs.Lines.{answers, loudest_above, above, Found}
use Rattle.rules.proofs.BoolLaws.{and_left}
use Rattle.rules.proofs.Masks.{bit, lose-same, lose_other}
use Rattle.words.specs.Highest.{highest}
use Rattle.words.proofs.Highest.{bit_highest, above-highest, highest_lt}
use Rattle.controllers.specs.Levels.{said_by, over}

-- ---- what was found, put together

over_assoc : (a b c : Found) → over (over a b) c ≡ over a (over b c)
unfolding over
over_assoc a b c = by (leb b.0 a.0) (leb c.0 b.0) refl refl
  where
    by : (s t : Bool) → leb b.0 a.0 ≡ s → leb c.0 b.0 ≡ t → over (over a b) c ≡ over a (over b c)
    by true true e f = rw (e, f, e, le-leb c.0 a.0 (omega (arith, leb-true))) refl
    by true false e f = rw (e, f) refl
    by false true e f = rw (e, f, e) refl
    by false false e f = rw (e, f, lt-leb c.0 a.0 (omega (arith, leb-false))) refl

over_nothing : (a : Found) → over a (0, 0) ≡ a
unfolding over
over_nothing a = rw (leb-zero a.0)

-- ---- which levels answer, and what a source says, by cases

module _ (ipl l : ℕ) where
  pub answers_none : l ≡ 0 → false ≡ answers ipl l
  unfolding answers
  answers_none e = rw (eq-eqb l 0 e)

  pub answers_more : (l ≡ 0 → ⊥) → ipl < l → ltb ipl l ≡ answers ipl l
  unfolding answers
  answers_more n h = rw (ne_eqb l 0 n, lt-ltb ipl l h)

  pub answers_seven : (l ≡ 0 → ⊥) → l ≤ ipl → eqb l 7 ≡ answers ipl l
  unfolding answers
  answers_seven n h = rw (ne_eqb l 0 n, le-ltb ipl l h)

  module _ (s : ℕ) (best : Found) {t : Bool} (e : t ≡ answers ipl l) where
    pub louder_here : t ≡ true → best.0 < l → (l, s) ≡ over best (said_by ipl l s)
    unfolding over said_by
    louder_here a h = rw (← e, a, lt-leb l best.0 h)

    pub louder_there : t ≡ true → l ≤ best.0 → best ≡ over best (said_by ipl l s)
    unfolding over said_by
    louder_there a h = rw (← e, a, le-leb l best.0 h)

    pub louder_silent : t ≡ false → best ≡ over best (said_by ipl l s)
    unfolding said_by
    louder_silent a = rw (← e, a) (sym (over_nothing best))

-- ---- controllers, by cases

module _ (c : ℕ) (here below : Found) where
  pub above-nothing : here.0 ≡ 0 → below ≡ above c here below
  unfolding above
  above-nothing e = rw (eq-eqb here.0 0 e)

  pub above_quieter : (here.0 ≡ 0 → ⊥) → here.0 < below.0 → below ≡ above c here below
  unfolding above
  above_quieter n h = rw (ne_eqb here.0 0 n, lt-leb below.0 here.0 h)

  pub above_louder : (here.0 ≡ 0 → ⊥) → below.0 ≤ here.0 → (here.0, 64 * c + here.1) ≡ above c here below
  unfolding above
  above_louder n h = rw (ne_eqb here.0 0 n, le-leb below.0 here.0 h)

-- ---- the walk over the sources of a mask

-- level 0 never answers
answers_some : (ipl l : ℕ) → answers ipl l ≡ true → l ≡ 0 → ⊥
unfolding answers
answers_some ipl l e = eqb-false l 0 (not-true (eqb l 0) (and_left (not (eqb l 0)) _ e))

module _ (ipl : ℕ) (levels : List ℕ) where
  -- level 0 is found nowhere
  nowhere : (m n : ℕ) → (loudest_above ipl levels m n).0 ≡ 0 → loudest_above ipl levels m n ≡ (0, 0)
  unfolding loudest_above
  nowhere m zero h = refl
  nowhere m (suc s) h = by (has m s) (answers ipl (get_or levels s 0 % 8)) (leb (loudest_above ipl levels m s).0 (get_or levels s 0 % 8)) refl (nowhere m s) h
    where
      l : ℕ
      l = get_or levels s 0 % 8

      below : Found
      below = loudest_above ipl levels m s

      by : (a b c : Bool) → answers ipl l ≡ b → (below.0 ≡ 0 → below ≡ (0, 0)) → (cond (a && b && c) (l, s) below).0 ≡ 0 → cond (a && b && c) (l, s) below ≡ (0, 0)
      by true true true e ih h = absurd (answers_some ipl l e h)
      by true true false e ih h = ih h
      by true false c e ih h = ih h
      by false b c e ih h = ih h

  -- nothing above it changes nothing
  pub over_none : (m n : ℕ) → over (0, 0) (loudest_above ipl levels m n) ≡ loudest_above ipl levels m n
  unfolding over
  over_none m n = by (leb (loudest_above ipl levels m n).0 0) refl
    where
      by : (t : Bool) → leb (loudest_above ipl levels m n).0 0 ≡ t → cond t (0, 0) (loudest_above ipl levels m n) ≡ loudest_above ipl levels m n
      by true e = sym (nowhere m n (omega (arith, leb-true)))
      by false e = refl

  -- only the sources in the mask count
  above_same : (m p n : ℕ) → ((j : ℕ) → j < n → bit m j ≡ bit p j) → loudest_above ipl levels m n ≡ loudest_above ipl levels p n
  unfolding loudest_above
  above_same m p zero h = refl
  above_same m p (suc n) h = rw (h n (omega arith), above_same m p n (λ j l. h j (omega arith)))

  above_skips : (m n k : ℕ) → ((j : ℕ) → n ≤ j → bit m j ≡ 0) → loudest_above ipl levels m (n + k) ≡ loudest_above ipl levels m n
  unfolding loudest_above
  above_skips m n zero h = rw add-zero
  above_skips m n (suc k) h = rw (add-suc, h (n + k) (omega arith)) (above_skips m n k h)

  -- the highest bit apart from the rest
  above_top : (m s : ℕ) → bit m s ≡ 1 → loudest_above ipl levels m (suc s) ≡ over (said_by ipl (get_or levels s 0 % 8) s) (loudest_above ipl levels m s)
  unfolding loudest_above said_by
  above_top m s b = rw b (by (answers ipl (get_or levels s 0 % 8)))
    where
      by : (t : Bool) → cond (t && leb (loudest_above ipl levels m s).0 (get_or levels s 0 % 8)) (get_or levels s 0 % 8, s) (loudest_above ipl levels m s) ≡ over (cond t (get_or levels s 0 % 8, s) (0, 0)) (loudest_above ipl levels m s)
      by true = unfold over in refl
      by false = sym (over_none m s)

  -- where a source is found
  found_below : (m n : ℕ) → n ≤ 64 → (loudest_above ipl levels m n).1 < 64
  unfolding loudest_above
  found_below m zero h = omega arith
  found_below m (suc s) h =
      by (has m s && answers ipl (get_or levels s 0 % 8) && leb (loudest_above ipl levels m s).0 (get_or levels s 0 % 8)) (found_below m s (omega arith))
    where
      by : (t : Bool) → (loudest_above ipl levels m s).1 < 64 → (cond t (get_or levels s 0 % 8, s) (loudest_above ipl levels m s)).1 < 64
      by true ih = omega arith
      by false ih = ih

  pub found_at : (m : ℕ) (f : Found) → f ≡ loudest_above ipl levels m 64 → f.1 < 64
  found_at m f e = rw e (found_below m 64 (omega arith))

  above_none : (n : ℕ) → loudest_above ipl levels 0 n ≡ (0, 0)
  unfolding loudest_above
  above_none zero = refl
  above_none (suc n) = rw (zero-div (2 ^ n)) (above_none n)

  -- the sources of a mask: its highest bit's, then those of the rest
  module _ (p : ℕ) (some : 0 < p) (fits : p < 2 ^ 64) where
    highest_apart : (s : ℕ) → s ≡ highest p → loudest_above ipl levels p 64 ≡ over (said_by ipl (get_or levels s 0 % 8) s) (loudest_above ipl levels (lose p s) 64)
    highest_apart s e =
        let k : ℕ = 63 - s in
        let below : s < 64 = rw e (highest_lt p) in
        let set : bit p s ≡ 1 = rw e (bit_highest p some fits) in
        let clear : (j : ℕ) → s < j → bit p j ≡ 0 = λ j h. above-highest p some fits j (rw e at h) in
        let q : suc s + k ≡ 64 = omega arith in
        let r : s + suc k ≡ 64 = omega arith in
        rw (← q) (above_skips p (suc s) k clear)
        ∙ above_top p s set
        ∙ ap (over (said_by ipl (get_or levels s 0 % 8) s))
        (above_same p (lose p s) s (λ j h. sym (lose_other p s j (omega arith))) ∙ sym (above_skips (lose p s) s (suc k) (left clear)) ∙ rw r)
      where
        left : ((j : ℕ) → s < j → bit p j ≡ 0) → (j : ℕ) → s ≤ j → bit (lose p s) j ≡ 0
        left clear j h = by (eqb s j) refl
          where
            by : (t : Bool) → eqb s j ≡ t → bit (lose p s) j ≡ 0
            by true t = rw (← eqb-true s j t) (lose-same p s)
            by false t = lose_other p s j (eqb-false s j t) ∙ clear j (lt_of_le-ne h (eqb-false s j t))

    -- a turn of the walk: the highest bit goes, and its source is heard
    pub above-turn : (best b whole : Found) (s q : ℕ) → s ≡ highest p → q ≡ lose p s → b ≡ over best (said_by ipl (get_or levels s 0 % 8) s) → over best (loudest_above ipl levels p 64) ≡ whole → over b (loudest_above ipl levels q 64) ≡ whole
    above-turn best b whole s q e gone said h = rw (gone, said) (over_assoc _ _ _ ∙ ap (over best) (sym (highest_apart s e)) ∙ h)

  pub above_end : (best whole : Found) (p : ℕ) → p ≡ 0 → over best (loudest_above ipl levels p 64) ≡ whole → best ≡ whole
  above_end best whole p e h = sym (over_nothing best) ∙ ap (over best) (sym (above_none 64)) ∙ ap (λ (x : ℕ). over best (loudest_above ipl levels x 64)) (sym e) ∙ h
