-- A walk over the set bits of a mask of sources: the mask falls, and the loudest source is found, whatever the order. Assumes nothing.
use Rattle.std.proofs.Common.{◌≡◌, ℕ, zero, suc, ◌%◌, ◌^◌, ◌<◌, max, Bool, true, false, cond, eqb, List, get_or, sym, refl, ap, ◌∙◌, arith, eqb-true}
use native.Mathlib.Nat.{zero-max, max-zero, zero-div}
use borrow.Author.Tests.{eqb-false}
use Rattle.rules.specs.Words.{has, lose, lowest}
use Rattle.rules.specs.Lines.{loudest}
use Rattle.rules.proofs.Masks.{bit, lose-same, lose_other, lose_less, bit_lowest}
use Rattle.words.specs.Highest.{highest}
use Rattle.words.proofs.Highest.{bit_highest}

module _ (levels : List ℕ) where
  -- what source s says
  abbrev says : ℕ → ℕ → ℕ
  says m s = cond (has m s) (get_or levels s 0 % 8) 0

  loudest_suc : (m s : ℕ) → loudest levels m (suc s) ≡ max (says m s) (loudest levels m s)
  unfolding loudest
  loudest_suc m s = by (has m s) (get_or levels s 0 % 8) (loudest levels m s)
    where
      by : (b : Bool) (l r : ℕ) → cond b (max l r) r ≡ max (cond b l 0) r
      by true l r = refl
      by false l r = sym (zero-max r)

  -- only the sources in the mask count
  loudest-same : (m p n : ℕ) → ((j : ℕ) → j < n → bit m j ≡ bit p j) → loudest levels m n ≡ loudest levels p n
  unfolding loudest
  loudest-same m p zero h = refl
  loudest-same m p (suc n) h = rw (h n (omega arith), loudest-same m p n (λ j l. h j (omega arith)))

  -- the highest bit apart from the rest, and another bit
  apart_top : (m s : ℕ) → bit m s ≡ 1 → loudest levels m (suc s) ≡ max (get_or levels s 0 % 8) (loudest levels (lose m s) (suc s))
  unfolding loudest
  apart_top m s b =
      rw (b, lose-same m s) (ap (max (get_or levels s 0 % 8)) (loudest-same m (lose m s) s (λ j l. sym (lose_other m s j (omega arith)))))

  apart_below : (m s n : ℕ) → (s ≡ n → ⊥) → loudest levels m n ≡ max (get_or levels s 0 % 8) (loudest levels (lose m s) n)
      → loudest levels m (suc n) ≡ max (get_or levels s 0 % 8) (loudest levels (lose m s) (suc n))
  apart_below m s n q e = rw (loudest_suc m n, loudest_suc (lose m s) n, e, lose_other m s n q) (swapped _ _ _)
    where
      swapped : (a b c : ℕ) → max a (max b c) ≡ max b (max a c)
      swapped a b c = omega arith

  -- a set bit s apart from the rest
  loudest_apart : (m s n : ℕ) → s < n → bit m s ≡ 1 → loudest levels m n ≡ max (get_or levels s 0 % 8) (loudest levels (lose m s) n)
  loudest_apart m s zero h b = absurd (omega arith)
  loudest_apart m s (suc n) h b = by (eqb s n) refl (λ l. loudest_apart m s n l b)
    where
      by : (t : Bool) → eqb s n ≡ t → (s < n → loudest levels m n ≡ max (get_or levels s 0 % 8) (loudest levels (lose m s) n))
          → loudest levels m (suc n) ≡ max (get_or levels s 0 % 8) (loudest levels (lose m s) (suc n))
      by true e ih = rw (← eqb-true s n e) (apart_top m s b)
      by false e ih = let q : s ≡ n → ⊥ = eqb-false s n e in apart_below m s n q (ih (omega arith))

  loudest_none : (n : ℕ) → loudest levels 0 n ≡ 0
  unfolding loudest
  loudest_none zero = refl
  loudest_none (suc n) = rw (zero-div (2 ^ n)) (loudest_none n)

-- ---- a turn of a walk

-- the bits that crate words finds are set
module _ (p : ℕ) {s : ℕ} (some : 0 < p) (fits : p < 2 ^ 64) where
  pub lowest_set : s ≡ lowest p → bit p s ≡ 1
  lowest_set e = rw e (bit_lowest p some fits)

  pub highest_set : s ≡ highest p → bit p s ≡ 1
  highest_set e = rw e (bit_highest p some fits)

-- a set bit goes, and its source is heard
module _ (p s : ℕ) {q : ℕ} (set : bit p s ≡ 1) (gone : q ≡ lose p s) where
  pub walk_less : q < p
  walk_less = rw gone (lose_less p s set)

  pub loudest-turn : (levels : List ℕ) (best whole : ℕ) {b : ℕ} → s < 64 → b ≡ max best (get_or levels s 0 % 8) → max best (loudest levels p 64) ≡ whole → max b (loudest levels q 64) ≡ whole
  loudest-turn levels best whole below e h = rw (gone, e) (assoc _ _ _ ∙ ap (max best) (sym (loudest_apart levels p s 64 below set)) ∙ h)
    where
      assoc : (a b c : ℕ) → max (max a b) c ≡ max a (max b c)
      assoc a b c = omega arith

pub loudest_start : (levels : List ℕ) (m : ℕ) → max 0 (loudest levels m 64) ≡ loudest levels m 64
loudest_start levels m = zero-max _

pub loudest_end : (levels : List ℕ) (best p whole : ℕ) → p ≡ 0 → max best (loudest levels p 64) ≡ whole → best ≡ whole
loudest_end levels best p whole e h = sym (max-zero best) ∙ ap (max best) (sym (loudest_none levels 64)) ∙ ap (λ (x : ℕ). max best (loudest levels x 64)) (sym e) ∙ h
