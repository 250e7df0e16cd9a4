-- The judge accepts exactly the lists that the rules give: by one induction over trees each. Assumes nothing.
use mathlib.Core.Bool.{Bool, true, false, cond, ◌&&◌, false≢true}
use mathlib.Core.List.{List, [], ◌∷◌}
use mathlib.Core.Path.{◌≡◌, refl, ◌∙◌}
use Prim.Native.Nat.{ℕ, suc, ◌%◌, ◌^◌, ◌<◌}
use native.Mathlib.Nat.{mod-eq_of_lt}
use native.Mathlib.Omega.{arith}
use borrow.Author.Tests.{eqb-true, eq-eqb}
use lib.Dec.{eqb}
use Rattle.std.proofs.Common.{Option, None, Some}
use Rattle.rules.specs.State.{Device}
use Rattle.rules.specs.Act.{Act, Done, Endless, Stage, Fetch, Store, Ask, Put, Look, window, table}
use Rattle.rules.specs.Bytes.{bytes, part, splice}
use Rattle.rules.specs.Fields.{bits_in, holds, with_field, setting_of}
use Rattle.rules.specs.With.{with_table}
use Rattle.rules.proofs.BoolLaws.{and_left, and_right, and_both}
use Rattle.captures.specs.declared.Due.{Due}
use Rattle.captures.specs.Capture.{Judged, allowed, departs, Access, reads, writes, first, rest, accesses, read_as, wrote_as, ended, judge}

-- the values that the reads of a list give
unfoldable pub values : List Access → List ℕ
values [] = []
values (reads a n v ∷ l) = v ∷ values l
values (writes a n v ∷ l) = values l

-- each value of a list fits its width: a record that breaks this is malformed (22)
abbrev pub Fit : List Access → Type 0
Fit [] = Unit {0}
Fit (reads a n v ∷ l) = (v < 256 ^ n) × Fit l
Fit (writes a n v ∷ l) = (v < 256 ^ n) × Fit l

pub same : (n : ℕ) → eqb n n ≡ true
same n = eq-eqb n n refl

-- ---- the next access is the one that is due

module _ {A : Type 0} (a n : ℕ) (d : Device) (l : List Access) (i : ℕ) where
  pub read_next : (k : List ℕ → Act A) (v : ℕ) → judge (Fetch window a n k) d (reads a n v ∷ l) i ≡ judge (k (bytes n v)) d l (suc i)
  unfolding judge read_as rest
  read_next k v = by (eqb a a && eqb n n) (and_both (same a) (same n))
    where
      by : (t : Bool) → t ≡ true
          → ◌≡◌ {A = Judged} (elim (cond t (Some v) None) [ None ↦ departs i (Some (Due.Read a n)) | Some x ↦ judge (k (bytes n x)) d l (suc i) ]) (judge (k (bytes n v)) d l (suc i))
      by true e = refl
      by false e = absurd (false≢true e)

  pub write_next : (v : ℕ) (k : Act A) → judge (Store window a n v k) d (writes a n (v % 256 ^ n) ∷ l) i ≡ judge k d l (suc i)
  unfolding judge wrote_as rest
  write_next v k = by (eqb a a && eqb n n && eqb (v % 256 ^ n) (v % 256 ^ n)) (and_both (and_both (same a) (same n)) (same (v % 256 ^ n)))
    where
      by : (t : Bool) → t ≡ true
          → ◌≡◌ {A = Judged} (elim t [ true ↦ judge k d l (suc i) | false ↦ departs i (Some (Due.Write a n (v % 256 ^ n))) ]) (judge k d l (suc i))
      by true e = refl
      by false e = absurd (false≢true e)

-- ---- every list that the rules give is allowed

pub complete : {A : Type 0} (m : Act A) (d : Device) (vs : List ℕ) (i : ℕ) → judge m d (accesses m d vs) i ≡ allowed
unfolding judge accesses ended read_as wrote_as rest
complete (Done a) d vs i = refl
complete Endless d vs i = refl
complete (Stage n k) d vs i = complete k d vs i
complete (Fetch window a n k) d vs i =
    read_next a n d _ i k (first vs % 256 ^ n) ∙ complete (k (bytes n (first vs % 256 ^ n))) d (rest vs) (suc i)
complete (Fetch table a n k) d vs i = complete (k (part d.table a n)) d vs i
complete (Store window a n v k) d vs i = write_next a n d _ i v k ∙ complete k d vs (suc i)
complete (Store table a n v k) d vs i = complete k (with_table d (splice d.table a (bytes n v))) vs i
complete (Ask f k) d vs i = complete (k (holds f d)) d vs i
complete (Put f v k) d vs i = complete k (with_field f (v % 2 ^ bits_in d.chip f) d) vs i
complete (Look s k) d vs i = complete (k (setting_of s d)) d vs i

-- ---- and no other: an allowed list is the one that the rules give for the values that it reads

not_allowed : {P : Type 0} (i : ℕ) (due : Option Due) → departs i due ≡ allowed → P
not_allowed i due e = let z : ◌≡◌ {A = ℕ} 0 1 = cc in absurd (omega arith)

pub sound : {A : Type 0} (m : Act A) (d : Device) (l : List Access) (i : ℕ) → Fit l → judge m d l i ≡ allowed → accesses m d (values l) ≡ l
unfolding judge accesses ended read_as wrote_as first rest values
sound (Done a) d [] i f e = refl
sound (Done a) d (x ∷ l) i f e = not_allowed i None e
sound Endless d [] i f e = refl
sound Endless d (x ∷ l) i f e = not_allowed i None e
sound (Stage n k) d l i f e = sound k d l i f e
sound (Fetch window a n k) d [] i f e = not_allowed i (Some (Due.Read a n)) e
sound (Fetch window a n k) d (writes b w v ∷ l) i f e = not_allowed i (Some (Due.Read a n)) e
sound (Fetch window a n k) d (reads b w v ∷ l) i f e = by (eqb a b && eqb n w) refl (sound (k (bytes n v)) d l (suc i) f.1) e
  where
    by : (t : Bool) → eqb a b && eqb n w ≡ t → (judge (k (bytes n v)) d l (suc i) ≡ allowed → accesses (k (bytes n v)) d (values l) ≡ l)
        → ◌≡◌ {A = Judged} (elim (cond t (Some v) None) [ None ↦ departs i (Some (Due.Read a n)) | Some x ↦ judge (k (bytes n x)) d l (suc i) ]) allowed
        → reads a n (v % 256 ^ n) ∷ accesses (k (bytes n (v % 256 ^ n))) d (values l) ≡ reads b w v ∷ l
    by false t h e = not_allowed i (Some (Due.Read a n)) e
    by true t h e =
        let at : a ≡ b = eqb-true a b (and_left (eqb a b) (eqb n w) t) in
        let wide : n ≡ w = eqb-true n w (and_right (eqb a b) (eqb n w) t) in
        let fits : v < 256 ^ n = rw wide f.0 in
        let cut : v % 256 ^ n ≡ v = mod-eq_of_lt fits in
        let after : accesses (k (bytes n v)) d (values l) ≡ l = h e in
        rw (← at, ← wide, cut, after)
sound (Fetch table a n k) d l i f e = sound (k (part d.table a n)) d l i f e
sound (Store window a n v k) d [] i f e = not_allowed i (Some (Due.Write a n (v % 256 ^ n))) e
sound (Store window a n v k) d (reads b w x ∷ l) i f e = not_allowed i (Some (Due.Write a n (v % 256 ^ n))) e
sound (Store window a n v k) d (writes b w x ∷ l) i f e = by (eqb a b && eqb n w && eqb (v % 256 ^ n) x) refl (sound k d l (suc i) f.1) e
  where
    by : (t : Bool) → eqb a b && eqb n w && eqb (v % 256 ^ n) x ≡ t → (judge k d l (suc i) ≡ allowed → accesses k d (values l) ≡ l)
        → ◌≡◌ {A = Judged} (elim t [ true ↦ judge k d l (suc i) | false ↦ departs i (Some (Due.Write a n (v % 256 ^ n))) ]) allowed
        → writes a n (v % 256 ^ n) ∷ accesses k d (values l) ≡ writes b w x ∷ l
    by false t h e = not_allowed i (Some (Due.Write a n (v % 256 ^ n))) e
    by true t h e =
        let at : a ≡ b = eqb-true a b (and_left (eqb a b) (eqb n w) (and_left (eqb a b && eqb n w) (eqb (v % 256 ^ n) x) t)) in
        let wide : n ≡ w = eqb-true n w (and_right (eqb a b) (eqb n w) (and_left (eqb a b && eqb n w) (eqb (v % 256 ^ n) x) t)) in
        let value : v % 256 ^ n ≡ x = eqb-true (v % 256 ^ n) x (and_right (eqb a b && eqb n w) (eqb (v % 256 ^ n) x) t) in
        let after : accesses k d (values l) ≡ l = h e in
        rw (← at, ← wide, value, after)
sound (Store table a n v k) d l i f e = sound k (with_table d (splice d.table a (bytes n v))) l i f e
sound (Ask g k) d l i f e = sound (k (holds g d)) d l i f e
sound (Put g v k) d l i f e = sound k (with_field g (v % 2 ^ bits_in d.chip g) d) l i f e
sound (Look s k) d l i f e = sound (k (setting_of s d)) d l i f e
