-- Where the judge says that a list departs: up to there the rules give it, for the values that it reads; every list of the rules that begins so has
-- there what the judge says is due; and none goes on with the list's next access (or ends there, where the list goes on; or goes on there, where the
-- list ends). Assumes nothing.
use mathlib.Core.Bool.{Bool, true, false, cond, ◌&&◌}
use mathlib.Core.List.{List, [], ◌∷◌, ◌++◌}
use mathlib.Core.Path.{◌≡◌, refl, sym, ap, ◌∙◌}
use Prim.Native.Nat.{ℕ, zero, suc, ◌+◌, ◌%◌, ◌^◌, ◌<◌}
use native.Mathlib.Nat.{mod-eq_of_lt, add-suc, suc-add}
use native.Mathlib.Omega.{arith}
use borrow.Author.Tests.{eqb-true, eq-eqb}
use lib.Dec.{eqb}
use lib.ListN.{take, drop, length}
use Rattle.std.proofs.Common.{Option, None, Some}
use Rattle.rules.specs.State.{Device}
use Rattle.rules.specs.Act.{Act, Done, Endless, Stage, Fetch, Store, Ask, Put, Look, window, table}
use Rattle.rules.specs.Bytes.{bytes, part, splice}
use Rattle.rules.specs.Fields.{bits_in, holds, with_field, setting_of}
use Rattle.rules.specs.With.{with_table}
use Rattle.rules.proofs.BoolLaws.{and_left, and_right, and_both}
use Rattle.captures.specs.declared.Due.{Due}
use Rattle.captures.specs.declared.Departure.{Departure}
use Rattle.captures.specs.Capture.{Judged, allowed, departs, Access, reads, writes, first, rest, accesses, read_as, wrote_as, ended, judge}
use Rattle.captures.proofs.Judges.{values, Fit, same, read_next, write_next}

-- whether a list goes on with what is due
unfoldable pub asks : Option Due → List Access → Bool
asks None [] = true
asks None (x ∷ l) = false
asks (Some (Due.Read a n)) [] = false
asks (Some (Due.Read a n)) (reads b w v ∷ l) = eqb a b && eqb n w
asks (Some (Due.Read a n)) (writes b w v ∷ l) = false
asks (Some (Due.Write a n v)) [] = false
asks (Some (Due.Write a n v)) (reads b w x ∷ l) = false
asks (Some (Due.Write a n v)) (writes b w x ∷ l) = eqb a b && eqb n w && eqb v x

-- access number p is the first that departs, where the list's first is number i
pub record Departing {A : Type 0} (m : Act A) (d : Device) (l : List Access) (i p : ℕ) (due : Option Due) : Type 0 where
  pub far : ℕ
  pub at : p ≡ i + far
  pub given : take far (accesses m d (values l)) ≡ take far l
  pub asked : (vs : List ℕ) → take far (accesses m d vs) ≡ take far l → asks due (drop far (accesses m d vs)) ≡ true
  pub beyond : (vs : List ℕ) → take (suc far) (accesses m d vs) ≡ take (suc far) l → ⊥

here : {A : Type 0} (m : Act A) (d : Device) (l : List Access) (i p : ℕ) (is due : Option Due) → departs i is ≡ departs p due
    → ((vs : List ℕ) → asks is (accesses m d vs) ≡ true) → ((vs : List ℕ) → take 1 (accesses m d vs) ≡ take 1 l → ⊥) → Departing m d l i p due
here m d l i p is due e a b =
    let told : ◌≡◌ {A = Departure} (record { at = i; due = is }) (record { at = p; due = due }) = cc in
    let same-due : is ≡ due = ap (λ (x : Departure). x.due) told in
    let place : i ≡ p = ap (λ (x : Departure). x.at) told in
    record {
      far = 0;
      at = omega (arith, place);
      given = refl;
      asked = λ vs q. ap (λ (x : Option Due). asks x (accesses m d vs)) (sym same-due) ∙ a vs;
      beyond = b;
    }

never : {P : Type 0} (p : ℕ) (due : Option Due) → allowed ≡ departs p due → P
never p due e = let z : ◌≡◌ {A = ℕ} 0 1 = cc in absurd (omega arith)

pub departing : {A : Type 0} (m : Act A) (d : Device) (l : List Access) (i p : ℕ) (due : Option Due) → Fit l → judge m d l i ≡ departs p due → Departing m d l i p due
unfolding judge accesses ended read_as wrote_as first rest values asks
departing (Done a) d [] i p due f e = never p due e
departing (Done a) d (x ∷ l) i p due f e =
    here (Done a) d (x ∷ l) i p None due e (λ vs. refl) λ vs q. let z : ◌≡◌ {A = ℕ} 0 1 = cc in omega arith
departing Endless d [] i p due f e = never p due e
departing {A} Endless d (x ∷ l) i p due f e =
    here {A = A} Endless d (x ∷ l) i p None due e (λ vs. refl) λ vs q. let z : ◌≡◌ {A = ℕ} 0 1 = cc in omega arith
departing (Stage n k) d l i p due f e =
    let r = departing k d l i p due f e in
    record { far = r.far; at = r.at; given = r.given; asked = r.asked; beyond = r.beyond }
departing (Fetch window a n k) d [] i p due f e =
    here (Fetch window a n k) d [] i p (Some (Due.Read a n)) due e (λ vs. and_both (same a) (same n)) λ vs q. let z : ◌≡◌ {A = ℕ} 0 1 = cc in omega arith
departing (Fetch window a n k) d (writes b w v ∷ l) i p due f e =
    here (Fetch window a n k) d (writes b w v ∷ l) i p (Some (Due.Read a n)) due e (λ vs. and_both (same a) (same n)) λ vs q. let z : ◌≡◌ {A = ℕ} 0 1 = cc in omega arith
departing (Fetch window a n k) d (reads b w v ∷ l) i p due f e = by (eqb a b && eqb n w) refl (departing (k (bytes n v)) d l (suc i) p due f.1) e
  where
    by : (t : Bool) → eqb a b && eqb n w ≡ t → (judge (k (bytes n v)) d l (suc i) ≡ departs p due → Departing (k (bytes n v)) d l (suc i) p due)
        → ◌≡◌ {A = Judged} (elim (cond t (Some v) None) [ None ↦ departs i (Some (Due.Read a n)) | Some x ↦ judge (k (bytes n x)) d l (suc i) ]) (departs p due)
        → Departing (Fetch window a n k) d (reads b w v ∷ l) i p due
    by false t h e = here (Fetch window a n k) d (reads b w v ∷ l) i p (Some (Due.Read a n)) due e (λ vs. and_both (same a) (same n)) λ vs q.
        let at : a ≡ b = cc in
        let wide : n ≡ w = cc in
        let z : false ≡ true = sym t ∙ and_both (eq-eqb a b at) (eq-eqb n w wide) in
        let y : ◌≡◌ {A = ℕ} 0 1 = cc in
        omega arith
    by true t h e =
        let at : a ≡ b = eqb-true a b (and_left (eqb a b) (eqb n w) t) in
        let wide : n ≡ w = eqb-true n w (and_right (eqb a b) (eqb n w) t) in
        let fits : v < 256 ^ n = rw wide f.0 in
        let cut : v % 256 ^ n ≡ v = mod-eq_of_lt fits in
        let r = h e in
        record {
          far = suc r.far;
          at = omega (arith, r.at);
          given = rw (← at, ← wide, cut) (ap (λ (x : List Access). reads a n v ∷ x) r.given);
          asked = λ vs q.
              let value : first vs % 256 ^ n ≡ v = cc in
              let tail : take r.far (accesses (k (bytes n (first vs % 256 ^ n))) d (rest vs)) ≡ take r.far l = cc in
              rw value (r.asked (rest vs) (rw value at tail));
          beyond = λ vs q.
              let value : first vs % 256 ^ n ≡ v = cc in
              let tail : take (suc r.far) (accesses (k (bytes n (first vs % 256 ^ n))) d (rest vs)) ≡ take (suc r.far) l = cc in
              r.beyond (rest vs) (rw value at tail);
        }
departing (Fetch table a n k) d l i p due f e =
    let r = departing (k (part d.table a n)) d l i p due f e in
    record { far = r.far; at = r.at; given = r.given; asked = r.asked; beyond = r.beyond }
departing (Store window a n v k) d [] i p due f e =
    here (Store window a n v k) d [] i p (Some (Due.Write a n (v % 256 ^ n))) due e (λ vs. and_both (and_both (same a) (same n)) (same (v % 256 ^ n))) λ vs q. let z : ◌≡◌ {A = ℕ} 0 1 = cc in omega arith
departing (Store window a n v k) d (reads b w x ∷ l) i p due f e =
    here (Store window a n v k) d (reads b w x ∷ l) i p (Some (Due.Write a n (v % 256 ^ n))) due e (λ vs. and_both (and_both (same a) (same n)) (same (v % 256 ^ n))) λ vs q. let z : ◌≡◌ {A = ℕ} 0 1 = cc in omega arith
departing (Store window a n v k) d (writes b w x ∷ l) i p due f e = by (eqb a b && eqb n w && eqb (v % 256 ^ n) x) refl (departing k d l (suc i) p due f.1) e
  where
    by : (t : Bool) → eqb a b && eqb n w && eqb (v % 256 ^ n) x ≡ t → (judge k d l (suc i) ≡ departs p due → Departing k d l (suc i) p due)
        → ◌≡◌ {A = Judged} (elim t [ true ↦ judge k d l (suc i) | false ↦ departs i (Some (Due.Write a n (v % 256 ^ n))) ]) (departs p due)
        → Departing (Store window a n v k) d (writes b w x ∷ l) i p due
    by false t h e =
        here (Store window a n v k) d (writes b w x ∷ l) i p (Some (Due.Write a n (v % 256 ^ n))) due e (λ vs. and_both (and_both (same a) (same n)) (same (v % 256 ^ n))) λ vs q.
        let at : a ≡ b = cc in
        let wide : n ≡ w = cc in
        let value : v % 256 ^ n ≡ x = cc in
        let z : false ≡ true = sym t ∙ and_both (and_both (eq-eqb a b at) (eq-eqb n w wide)) (eq-eqb (v % 256 ^ n) x value) in
        let y : ◌≡◌ {A = ℕ} 0 1 = cc in
        omega arith
    by true t h e =
        let at : a ≡ b = eqb-true a b (and_left (eqb a b) (eqb n w) (and_left (eqb a b && eqb n w) (eqb (v % 256 ^ n) x) t)) in
        let wide : n ≡ w = eqb-true n w (and_right (eqb a b) (eqb n w) (and_left (eqb a b && eqb n w) (eqb (v % 256 ^ n) x) t)) in
        let value : v % 256 ^ n ≡ x = eqb-true (v % 256 ^ n) x (and_right (eqb a b && eqb n w) (eqb (v % 256 ^ n) x) t) in
        let r = h e in
        record {
          far = suc r.far;
          at = omega (arith, r.at);
          given = rw (← at, ← wide, value) (ap (λ (y : List Access). writes a n x ∷ y) r.given);
          asked = λ vs q.
              let tail : take r.far (accesses k d vs) ≡ take r.far l = cc in
              r.asked vs tail;
          beyond = λ vs q.
              let tail : take (suc r.far) (accesses k d vs) ≡ take (suc r.far) l = cc in
              r.beyond vs tail;
        }
departing (Store table a n v k) d l i p due f e =
    let r = departing k (with_table d (splice d.table a (bytes n v))) l i p due f e in
    record { far = r.far; at = r.at; given = r.given; asked = r.asked; beyond = r.beyond }
departing (Ask g k) d l i p due f e =
    let r = departing (k (holds g d)) d l i p due f e in
    record { far = r.far; at = r.at; given = r.given; asked = r.asked; beyond = r.beyond }
departing (Put g v k) d l i p due f e =
    let r = departing k (with_field g (v % 2 ^ bits_in d.chip g) d) l i p due f e in
    record { far = r.far; at = r.at; given = r.given; asked = r.asked; beyond = r.beyond }
departing (Look s k) d l i p due f e =
    let r = departing (k (setting_of s d)) d l i p due f e in
    record { far = r.far; at = r.at; given = r.given; asked = r.asked; beyond = r.beyond }

-- ---- a list that is too short, and one that is too long

-- where a list departs
unfoldable pub departs_at : Judged → Option ℕ
departs_at None = None
departs_at (Some x) = Some x.at

-- "a short list departs at its length"
pub short : {A : Type 0} (m : Act A) (d : Device) (vs : List ℕ) (n i : ℕ) → n < length (accesses m d vs) → departs_at (judge m d (take n (accesses m d vs)) i) ≡ Some (i + n)
unfolding judge accesses ended read_as wrote_as rest departs_at
short (Done a) d vs n i h = absurd (omega arith)
short Endless d vs n i h = absurd (omega arith)
short (Stage w k) d vs n i h = short k d vs n i h
short (Fetch window a w k) d vs zero i h = ap Some (omega arith)
short (Fetch window a w k) d vs (suc n) i h =
    ap departs_at (read_next a w d _ i k (first vs % 256 ^ w))
    ∙ short (k (bytes w (first vs % 256 ^ w))) d (rest vs) n (suc i) (omega arith)
    ∙ ap Some (suc-add i n ∙ sym (add-suc i n))
short (Fetch table a w k) d vs n i h = short (k (part d.table a w)) d vs n i h
short (Store window a w v k) d vs zero i h = ap Some (omega arith)
short (Store window a w v k) d vs (suc n) i h =
    ap departs_at (write_next a w d _ i v k) ∙ short k d vs n (suc i) (omega arith) ∙ ap Some (suc-add i n ∙ sym (add-suc i n))
short (Store table a w v k) d vs n i h = short k (with_table d (splice d.table a (bytes w v))) vs n i h
short (Ask f k) d vs n i h = short (k (holds f d)) d vs n i h
short (Put f v k) d vs n i h = short k (with_field f (v % 2 ^ bits_in d.chip f) d) vs n i h
short (Look s k) d vs n i h = short (k (setting_of s d)) d vs n i h

-- and a long one at the first access too many, where nothing is due
pub long : {A : Type 0} (m : Act A) (d : Device) (vs : List ℕ) (x : Access) (l : List Access) (i : ℕ)
    → judge m d (accesses m d vs ++ (x ∷ l)) i ≡ departs (i + length (accesses m d vs)) None
unfolding judge accesses ended read_as wrote_as rest
long (Done a) d vs x l i = ap (λ (p : ℕ). departs p None) (omega arith)
long Endless d vs x l i = ap (λ (p : ℕ). departs p None) (omega arith)
long (Stage w k) d vs x l i = long k d vs x l i
long (Fetch window a w k) d vs x l i =
    read_next a w d _ i k (first vs % 256 ^ w)
    ∙ long (k (bytes w (first vs % 256 ^ w))) d (rest vs) x l (suc i)
    ∙ ap (λ (p : ℕ). departs p None) (omega arith)
long (Fetch table a w k) d vs x l i = long (k (part d.table a w)) d vs x l i
long (Store window a w v k) d vs x l i =
    write_next a w d _ i v k ∙ long k d vs x l (suc i) ∙ ap (λ (p : ℕ). departs p None) (omega arith)
long (Store table a w v k) d vs x l i = long k (with_table d (splice d.table a (bytes w v))) vs x l i
long (Ask f k) d vs x l i = long (k (holds f d)) d vs x l i
long (Put f v k) d vs x l i = long k (with_field f (v % 2 ^ bits_in d.chip f) d) vs x l i
long (Look s k) d vs x l i = long (k (setting_of s d)) d vs x l i
