-- What is kept of the channels is what the tree would find; and it stays so after a turn. Assumes nothing.
use mathlib.Core.Bool.{Bool, true, false, cond, not, ◌&&◌, ◌||◌}
use mathlib.Core.List.{List}
use mathlib.Core.Path.{◌≡◌, refl, sym, ap, ap₂, ◌∙◌}
use Prim.Native.Nat.{ℕ, suc, ◌+◌, ◌≤◌, ◌<◌}
use native.Mathlib.Nat.{not-suc-le-zero}
use native.Mathlib.Omega.{arith}
use lib.Bits.{bit_and, bit_or}
use lib.Dec.{eqb, leb, ltb}
use lib.ListN.{get_or}
use borrow.Author.Tests.{eqb-true, eqb-false, ltb-true, ltb-false, le-leb, lt-leb}
use Rattle.rules.specs.Words.{has, gain, lose, without}
use Rattle.rules.proofs.Masks.{has_and, has_or, has-without, has_gained, has_lost, has-gain_other, has-lose_other}
use Rattle.channel.specs.Offers.{offered_in}
use Rattle.chip.specs.Seen.{start_in, waits_in, free_in, Marks, SeesBelow, Sees, LooksAt, ready_in, minor_link, major_link, Renews}
use Rattle.chip.specs.declared.Kept.{Kept}

-- ---- one bit of a mask

module _ (m ch : ℕ) {on : Bool} {r : ℕ} where
  pub marked_in : on ≡ true → r ≡ gain m ch → Marks m ch on r
  marked_in e g = record { here = ap (λ (x : ℕ). has x ch) g ∙ has_gained m ch ∙ sym e; elsewhere = λ c f. ap (λ (x : ℕ). has x c) g ∙ has-gain_other m ch c f }

  pub marked_out : on ≡ false → r ≡ lose m ch → Marks m ch on r
  marked_out e g = record { here = ap (λ (x : ℕ). has x ch) g ∙ has_lost m ch ∙ sym e; elsewhere = λ c f. ap (λ (x : ℕ). has x c) g ∙ has-lose_other m ch c f }

-- a busy time that is not past `now`
pub not_past : (time until : ℕ) → leb until time ≡ not (ltb time until)
not_past time until = by (ltb time until) refl
  where
    by : (b : Bool) → ltb time until ≡ b → leb until time ≡ not b
    by true e = lt-leb until time (ltb-true time until e)
    by false e = le-leb until time (ltb-false time until e)

-- ---- all channels, one after another

-- a mask that is right below n, and one bit more
next_bit : (f : ℕ → Bool) (n m r : ℕ) → ((c : ℕ) → c < n → has m c ≡ f c) → Marks m n (f n) r → (c : ℕ) → c < suc n → has r c ≡ f c
next_bit f n m r low k c h = by (eqb n c) refl
  where
    by : (b : Bool) → eqb n c ≡ b → has r c ≡ f c
    by true e = let z : n ≡ c = eqb-true n c e in ap (has r) (sym z) ∙ k.here ∙ ap f z
    by false e = let z = eqb-false n c e in k.elsewhere c z ∙ low c (omega (arith, z))

pub sees_none : (time : ℕ) (k : Kept) (tb b p : List ℕ) → SeesBelow 0 time k tb b p
sees_none time k tb b p = record {
  starts = λ c h. absurd (not-suc-le-zero h);
  waits = λ c h. absurd (not-suc-le-zero h);
  free = λ c h. absurd (not-suc-le-zero h);
}

pub sees_more : {n time : ℕ} {k r : Kept} {tb b p : List ℕ} → SeesBelow n time k tb b p → LooksAt n time k r tb b p → SeesBelow (n + 1) time r tb b p
sees_more {n} {time} {k} {r} {tb} {b} {p} s l = record {
  starts = λ c h. next_bit (start_in tb) n k.starts r.starts s.starts l.starts c (omega arith);
  waits = λ c h. next_bit (waits_in p) n k.waits r.waits s.waits l.waits c (omega arith);
  free = λ c h. next_bit (free_in time b) n k.free r.free s.free l.free c (omega arith);
}

pub sees_all : {n time : ℕ} {k : Kept} {tb b p : List ℕ} → SeesBelow n time k tb b p → 64 ≤ n → Sees time k tb b p
sees_all s h = record { starts = λ c l. s.starts c (omega arith); waits = λ c l. s.waits c (omega arith); free = λ c l. s.free c (omega arith) }

-- ---- those that are ready

pub ready_seen : (erq standing time : ℕ) (k : Kept) (tb b p : List ℕ) → Sees time k tb b p → (c : ℕ) → c < 64
    → has (ready_in erq standing k) c ≡ (((start_in tb c || offered_in erq standing p c) && free_in time b c) && not (has k.past c))
unfolding ready_in offered_in
ready_seen erq standing time k tb b p s c h =
    has_and (bit_or k.starts (bit_and erq (bit_or standing k.waits))) (without k.free k.past) c
    ∙ ap₂ (λ x y. x && y)
    (has_or k.starts (bit_and erq (bit_or standing k.waits)) c
    ∙ ap₂ (λ x y. x || y) (s.starts c h)
    (has_and erq (bit_or standing k.waits) c ∙ ap (λ y. has erq c && y) (has_or standing k.waits c ∙ ap (λ y. has standing c || y) (s.waits c h))))
    (has-without k.free k.past c ∙ ap (λ x. x && not (has k.past c)) (s.free c h))
    ∙ assoc (start_in tb c || (has erq c && (has standing c || waits_in p c))) (free_in time b c) (not (has k.past c))
  where
    assoc : (x y z : Bool) → (x && (y && z)) ≡ ((x && y) && z)
    assoc true y z = refl
    assoc false y z = refl

-- ---- after a turn

-- START of two channels more
pub renews : (ch minor major time : ℕ) (went : Bool) (k own r : Kept) (tb b p : List ℕ) {starts : ℕ} → LooksAt ch time k own tb b p
    → Marks own.starts minor (start_in tb minor) starts → Marks starts major (start_in tb major) r.starts → r.waits ≡ own.waits → r.free ≡ own.free
    → r.past ≡ cond went k.past (gain k.past ch) → Renews ch minor major time went k r tb b p
renews ch minor major time went k own r tb b p {starts} l a z w f q = record {
  own_start = either major ch starts r.starts (either minor ch own.starts starts l.starts.here a.here (a.elsewhere ch)) z.here (z.elsewhere ch);
  minor_start = either major minor starts r.starts a.here z.here (z.elsewhere minor);
  major_start = z.here;
  other_starts = λ c x y v. z.elsewhere c v ∙ a.elsewhere c y ∙ l.starts.elsewhere c x;
  waits = rw w l.waits;
  free = rw f l.free;
  past = q;
}
  where
    -- a bit that was right stays so, whether it is the one looked at or not
    either : (n c m m' : ℕ) → has m c ≡ start_in tb c → has m' n ≡ start_in tb n → ((n ≡ c → ⊥) → has m' c ≡ has m c) → has m' c ≡ start_in tb c
    either n c m m' right here elsewhere = by (eqb n c) refl
      where
        by : (t : Bool) → eqb n c ≡ t → has m' c ≡ start_in tb c
        by true e = let i : n ≡ c = eqb-true n c e in ap (has m') (sym i) ∙ here ∙ ap (start_in tb) i
        by false e = elsewhere (eqb-false n c e) ∙ right

-- where nothing changed but at the channel, and START at most of the two others, all is seen again
pub sees_again : (ch time : ℕ) (went : Bool) (k r : Kept) (tb tb' b b' p p' : List ℕ) → Sees time k tb b p
    → Renews ch (minor_link tb ch) (major_link tb ch) time went k r tb' b' p'
    → ((c : ℕ) → (ch ≡ c → ⊥) → (minor_link tb ch ≡ c → ⊥) → (major_link tb ch ≡ c → ⊥) → start_in tb' c ≡ start_in tb c)
    → ((c : ℕ) → (ch ≡ c → ⊥) → get_or b' c 0 ≡ get_or b c 0) → ((c : ℕ) → (ch ≡ c → ⊥) → get_or p' c 0 ≡ get_or p c 0)
    → Sees time r tb' b' p'
sees_again ch time went k r tb tb' b b' p p' s n same_start same-busy same-pending = record {
  starts = λ c h. start c h (eqb ch c) (eqb (minor_link tb ch) c) (eqb (major_link tb ch) c) refl refl refl;
  waits = λ c h. at_own c r.waits (eqb ch c) refl (waits_in p') n.waits.here (λ f. n.waits.elsewhere c f ∙ s.waits c h ∙ ap (λ (x : ℕ). not (eqb x 0)) (sym (same-pending c f)));
  free = λ c h. at_own c r.free (eqb ch c) refl (free_in time b') n.free.here (λ f. n.free.elsewhere c f ∙ s.free c h ∙ ap (λ (x : ℕ). not (ltb time x)) (sym (same-busy c f)));
}
  where
    at_own : (c m : ℕ) (t : Bool) → eqb ch c ≡ t → (f : ℕ → Bool) → has m ch ≡ f ch → ((ch ≡ c → ⊥) → has m c ≡ f c) → has m c ≡ f c
    at_own c m true e f here other = let i : ch ≡ c = eqb-true ch c e in ap (has m) (sym i) ∙ here ∙ ap f i
    at_own c m false e f here other = other (eqb-false ch c e)

    start : (c : ℕ) → c < 64 → (x y z : Bool) → eqb ch c ≡ x → eqb (minor_link tb ch) c ≡ y → eqb (major_link tb ch) c ≡ z → has r.starts c ≡ start_in tb' c
    start c h true y z e f g = let i : ch ≡ c = eqb-true ch c e in ap (has r.starts) (sym i) ∙ n.own_start ∙ ap (start_in tb') i
    start c h false true z e f g = let i : minor_link tb ch ≡ c = eqb-true _ c f in ap (has r.starts) (sym i) ∙ n.minor_start ∙ ap (start_in tb') i
    start c h false false true e f g = let i : major_link tb ch ≡ c = eqb-true _ c g in ap (has r.starts) (sym i) ∙ n.major_start ∙ ap (start_in tb') i
    start c h false false false e f g =
        let i = eqb-false ch c e in
        let j = eqb-false (minor_link tb ch) c f in
        let l = eqb-false (major_link tb ch) c g in
        n.other_starts c i j l ∙ s.starts c h ∙ sym (same_start c i j l)
