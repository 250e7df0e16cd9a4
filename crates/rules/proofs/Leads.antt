-- From what is there, where an act's steps lead if they end with an answer: rules that follow the definitions of `specs/`. Assumes nothing.
use mathlib.Core.Bool.{Bool, true, false, cond, ◌&&◌}
use mathlib.Core.Path.{◌≡◌, refl, sym, ◌∙◌}
use Prim.Native.Nat.{ℕ, ◌-◌, ◌≤◌}
use native.Mathlib.Omega.{arith}
use borrow.Author.Tests.{leb-true}
use lib.Dec.{leb}
use lib.ListN.{length, length-drop}
use Rattle.rules.specs.Act.{Act, Done, Space, store, ◌>>=◌, ◌>>◌}
use Rattle.rules.specs.Carry.{World, Out, ok, no, there, legal, recorded, go, Lent}
use Rattle.rules.proofs.Steps.{and_then, go_bind}
use Rattle.rules.proofs.Keeps.{AtEnd, go-keeps}
use Rattle.rules.proofs.Each.{proper-store, proper-put}
use Rattle.rules.proofs.Proper.{Proper}

-- Q of the answer and of what is there then, if an act's steps end with an answer
abbrev pub IfAnswered : {A : Type 0} → (A → World → Type 0) → Out A → Type 0
IfAnswered Q (ok a v) = Q a v
IfAnswered Q (no n v) = Unit {0}

module _ (base : ℕ) (lent : Lent) where
  -- from u, the steps of m lead to Q
  pub record Leads {A : Type 0} (u : World) (m : Act A) (Q : A → World → Type 0) : Type 0 where
    pub answered : IfAnswered Q (go base lent m u)

bound : {A B : Type 0} (P : A → World → Type 0) (Q : B → World → Type 0) (o : Out A) (f : A → World → Out B) → IfAnswered P o
    → ((a : A) (v : World) → P a v → IfAnswered Q (f a v)) → IfAnswered Q (and_then o f)
unfolding and_then
bound P Q (ok a v) f p q = q a v p
bound P Q (no n v) f p q = tt

module _ {base : ℕ} {lent : Lent} where
  pub leads_bind : {A B : Type 0} {u : World} {m : Act A} {f : A → Act B} {P : A → World → Type 0} {Q : B → World → Type 0}
      → Leads base lent u m P → ((a : A) (v : World) → P a v → Leads base lent v (f a) Q) → Leads base lent u (m >>= f) Q
  leads_bind {u = u} {m = m} {f = f} {P = P} {Q = Q} p q = record {
    answered = rw (go_bind base lent m f u) (bound P Q (go base lent m u) _ p.answered (λ a v h. (q a v h).answered));
  }

  pub leads_then : {A B : Type 0} {u : World} {m : Act A} {k : Act B} {P : A → World → Type 0} {Q : B → World → Type 0}
      → Leads base lent u m P → ((a : A) (v : World) → P a v → Leads base lent v k Q) → Leads base lent u (m >> k) Q
  unfolding ◌>>◌
  leads_then p q = leads_bind p q

  pub leads_map : {A : Type 0} {u : World} {m : Act A} {P Q : A → World → Type 0}
      → Leads base lent u m P → ((a : A) (v : World) → P a v → Q a v) → Leads base lent u m Q
  leads_map {A = A} {u = u} {m = m} {P = P} {Q = Q} p q = record { answered = by_end (go base lent m u) p.answered }
    where
      by_end : (o : Out A) → IfAnswered P o → IfAnswered Q o
      by_end (ok a v) h = q a v h
      by_end (no n v) h = tt

  pub leads_both : {A : Type 0} {u : World} {m : Act A} {P Q : A → World → Type 0}
      → Leads base lent u m P → Leads base lent u m Q → Leads base lent u m (λ a v. P a v × Q a v)
  leads_both {A = A} {u = u} {m = m} {P = P} {Q = Q} p q = record { answered = by_end (go base lent m u) p.answered q.answered }
    where
      by_end : (o : Out A) → IfAnswered P o → IfAnswered Q o → IfAnswered (λ a v. P a v × Q a v) o
      by_end (ok a v) h k = (h, k)
      by_end (no n v) h k = tt

  pub leads_done : {A : Type 0} {u : World} {a : A} {Q : A → World → Type 0} → Q a u → Leads base lent u (Done a) Q
  unfolding go
  leads_done h = record { answered = h }

  pub leads_cond : {A : Type 0} {u : World} (b : Bool) {m k : Act A} {Q : A → World → Type 0}
      → (b ≡ true → Leads base lent u m Q) → (b ≡ false → Leads base lent u k Q) → Leads base lent u (cond b m k) Q
  leads_cond true p q = p refl
  leads_cond false p q = q refl

  -- what is so in any case
  pub leads_end : {A : Type 0} {P : World → Type 0} (m : Act A) (u : World) → AtEnd P (go base lent m u) → Leads base lent u m (λ _ v. P v)
  leads_end {A = A} {P = P} m u p = record { answered = by_end (go base lent m u) p }
    where
      by_end : (o : Out A) → AtEnd P o → IfAnswered (λ _ v. P v) o
      by_end (ok a v) h = h
      by_end (no n v) h = tt

  -- one store
  pub leads_store : (sp : Space) (a n v : ℕ) (u : World) → Leads base lent u (store sp a n v) (λ _ w. (w ≡ recorded base sp a n v u) × (16 ≤ length u.free))
  unfolding go store
  leads_store sp a n v u = record { answered = made_or (there base sp a n u.now && legal sp n) (leb 16 (length u.free)) refl }
    where
      made_or : (b c : Bool) → leb 16 (length u.free) ≡ c
          → IfAnswered {A = Unit {0}} (λ _ w. (w ≡ recorded base sp a n v u) × (16 ≤ length u.free))
          (elim b [ true ↦ elim c [ true ↦ ok tt (recorded base sp a n v u) | false ↦ no 11 u ] | false ↦ no 9 u ])
      made_or false c e = tt
      made_or true false e = tt
      made_or true true e = (refl, leb-true 16 (length u.free) e)

-- ---- what every act keeps

-- a record takes 16 bytes of the room
pub one_record : (base : ℕ) (sp : Space) (a n v : ℕ) (u : World) → length (recorded base sp a n v u).free ≡ length u.free - 16
unfolding recorded
one_record base sp a n v u = length-drop 16 u.free

module _ {base : ℕ} {lent : Lent} where
  -- no act gives room back
  pub shrinks : {A : Type 0} (m : Act A) (u : World) (most : ℕ) → length u.free ≤ most → Leads base lent u m (λ _ v. length v.free ≤ most)
  shrinks m u most h =
      leads_end m u
      (go-keeps base lent (λ v. length v.free ≤ most) (λ sp a n v w t l r k. omega (arith, one_record base sp a n v w)) (λ f v w k. k) m u h)

  -- a proper device stays one
  pub proper_kept : {A : Type 0} (m : Act A) (u : World) → Proper u.now.dev → Leads base lent u m (λ _ v. Proper v.now.dev)
  proper_kept m u p =
      leads_end m u (go-keeps base lent (λ v. Proper v.now.dev) (λ sp a n v w _ _ _ q. proper-store base w q sp a n v) (λ f v w q. proper-put f v w q) m u p)

-- ---- two acts that begin alike

same_after : {A B : Type 0} (P : A → World → Type 0) (o : Out A) (f g : A → World → Out B) → IfAnswered P o → ((a : A) (v : World) → P a v → f a v ≡ g a v)
    → and_then o f ≡ and_then o g
unfolding and_then
same_after P (ok a v) f g p q = q a v p
same_after P (no n v) f g p q = refl

module _ {base : ℕ} {lent : Lent} where
  -- from where the first act leads they go on alike
  pub same_bind : {A B : Type 0} {u : World} {m : Act A} {P : A → World → Type 0} (f g : A → Act B) → Leads base lent u m P
      → ((a : A) (v : World) → P a v → go base lent (f a) v ≡ go base lent (g a) v) → go base lent (m >>= f) u ≡ go base lent (m >>= g) u
  same_bind {u = u} {m = m} {P = P} f g p q =
      go_bind base lent m f u ∙ same_after P (go base lent m u) _ _ p.answered q ∙ sym (go_bind base lent m g u)

module _ (base : ℕ) (lent : Lent) where
  pub same_cond : {A : Type 0} (u : World) (b : Bool) (x y z w : Act A) → (b ≡ true → go base lent x u ≡ go base lent z u)
      → (b ≡ false → go base lent y u ≡ go base lent w u) → go base lent (cond b x y) u ≡ go base lent (cond b z w) u
  same_cond u true x y z w p q = p refl
  same_cond u false x y z w p q = q refl
