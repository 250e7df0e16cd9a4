-- An act after an act, and each single step by cases: the equations by which code is proved against its tree. Assumes nothing.
use mathlib.Core.Bool.{Bool, true, false, ◌&&◌}
use mathlib.Core.List.{List}
use mathlib.Core.Path.{◌≡◌, refl, ap, ◌∙◌}
use Prim.Native.Nat.{ℕ, ◌+◌, ◌%◌, ◌^◌, ◌≤◌, ◌<◌}
use native.Mathlib.Nat.{mod-eq_of_lt}
use borrow.Author.Tests.{le-leb, lt-leb}
use lib.Dec.{leb}
use lib.ListN.{length}
use Rattle.rules.specs.Act.{Act, Done, Endless, Stage, Fetch, Store, Ask, Put, Look, Space, window, table, Field, ◌>>=◌, ◌>>◌, nothing, store, ask, put, change}
use Rattle.rules.specs.Fields.{bits_in, holds, with_field}
use Rattle.rules.specs.Carry.{Machine, World, Out, ok, no, with_device, there, legal, fetched, recorded, go, unmade, last_lines, cleared, leave, Lent}
use Rattle.rules.proofs.BoolLaws.{and_both}

-- ---- composition

-- what comes after steps: it goes on where they ended, and what is refused stays refused
unfoldable pub and_then : {A B : Type 0} → Out A → (A → World → Out B) → Out B
and_then (ok a u) f = f a u
and_then (no n u) f = no n u

either : {A B : Type 0} (b : Bool) (x y : Out A) (f : A → World → Out B) {x' y' : Out B} → x' ≡ and_then x f → y' ≡ and_then y f
    → elim b [ true ↦ x' | false ↦ y' ] ≡ and_then (elim b [ true ↦ x | false ↦ y ]) f
either true x y f p q = p
either false x y f p q = q

module _ (base : ℕ) (lent : Lent) where
  -- the steps of `m >>= f` are those of m, then those of f of its answer
  pub go_bind : {A B : Type 0} (m : Act A) (f : A → Act B) (u : World) → go base lent (m >>= f) u ≡ and_then (go base lent m u) (λ a. go base lent (f a))
  unfolding go ◌>>=◌ and_then
  go_bind (Done a) f u = refl
  go_bind Endless f u = refl
  go_bind (Stage n k) f u = either (leb n lent.staging) (go base lent k u) (no 10 u) (λ a. go base lent (f a)) (go_bind k f u) refl
  go_bind (Fetch sp a n k) f u =
      let l = fetched base sp a n u.now in
      either (there base sp a n u.now) (go base lent (k l) u) (no 9 u) (λ a. go base lent (f a)) (go_bind (k l) f u) refl
  go_bind (Store sp a n v k) f u =
      let o = go base lent k (recorded base sp a n v u) in
      let room = leb 16 (length u.free) in
      either (there base sp a n u.now && legal sp n) (elim room [ true ↦ o | false ↦ no 11 u ]) (no 9 u) (λ a. go base lent (f a))
      (either room o (no 11 u) (λ a. go base lent (f a)) (go_bind k f (recorded base sp a n v u)) refl) refl
  go_bind (Ask n k) f u = go_bind (k _) f u
  go_bind (Put n v k) f u = go_bind k f _
  go_bind (Look s k) f u = go_bind (k _) f u

  pub go_then : {A B : Type 0} (m : Act A) (k : Act B) (u : World) → go base lent (m >> k) u ≡ and_then (go base lent m u) (λ _. go base lent k)
  unfolding ◌>>◌
  go_then m k u = go_bind m (λ _. k) u

  -- by how the first act ends
  module _ {A B : Type 0} (m : Act A) (f : A → Act B) (u : World) where
    pub bind_ok : {a : A} {v : World} → go base lent m u ≡ ok a v → go base lent (m >>= f) u ≡ go base lent (f a) v
    unfolding and_then
    bind_ok e = go_bind m f u ∙ ap (λ (o : Out A). and_then o (λ a. go base lent (f a))) e

    pub bind_no : {n : ℕ} {v : World} → go base lent m u ≡ no n v → go base lent (m >>= f) u ≡ no n v
    unfolding and_then
    bind_no e = go_bind m f u ∙ ap (λ (o : Out A). and_then o (λ a. go base lent (f a))) e

  module _ {A B : Type 0} (m : Act A) (k : Act B) (u : World) where
    pub then_ok : {a : A} {v : World} → go base lent m u ≡ ok a v → go base lent (m >> k) u ≡ go base lent k v
    unfolding ◌>>◌
    then_ok e = bind_ok m (λ _. k) u e

    pub then_no : {n : ℕ} {v : World} → go base lent m u ≡ no n v → go base lent (m >> k) u ≡ no n v
    unfolding ◌>>◌
    then_no e = bind_no m (λ _. k) u e

-- ---- places

module _ (base a w : ℕ) (m : Machine) where
  pub in_window : base ≤ a → a + w ≤ base + length m.mem → there base window a w m ≡ true
  unfolding there
  in_window h l = and_both (le-leb base a h) (le-leb (a + w) (base + length m.mem) l)

  pub below_window : a < base → there base window a w m ≡ false
  unfolding there
  below_window h = rw (lt-leb base a h)

  pub past-window : base + length m.mem < a + w → there base window a w m ≡ false
  unfolding there
  past-window h = rw (lt-leb (a + w) (base + length m.mem) h) (never (leb base a))
    where
      never : (b : Bool) → b && false ≡ false
      never true = refl
      never false = refl

  pub in_table_lem : a + w ≤ length m.dev.table → there base table a w m ≡ true
  unfolding there
  in_table_lem h = le-leb (a + w) (length m.dev.table) h

  pub past-table : length m.dev.table < a + w → there base table a w m ≡ false
  unfolding there
  past-table h = lt-leb (a + w) (length m.dev.table) h

-- ---- one step, and what the tree has after it

-- a field gets a value that is within its bits
abbrev pub putting : Field → ℕ → World → World
putting f v u = record { now = with_device (with_field f v u.now.dev) u.now; used = u.used; free = u.free }

-- and any value, cut to the bits that it has in the mode
abbrev pub cutting : Field → ℕ → World → World
cutting f v u = putting f (v % 2 ^ bits_in u.now.dev.chip f) u

module _ (base : ℕ) (lent : Lent) {A : Type 0} where
  pub go-done : (a : A) (u : World) → go base lent (Done a) u ≡ ok a u
  unfolding go
  go-done a u = refl

  pub go-endless : (u : World) → go base lent {A = A} Endless u ≡ no 11 u
  unfolding go
  go-endless u = refl

  module _ (n : ℕ) (k : Act A) (u : World) where
    pub stage_enough : n ≤ lent.staging → go base lent (Stage n k) u ≡ go base lent k u
    unfolding go
    stage_enough h = rw (le-leb n lent.staging h, go)

    pub stage_short : lent.staging < n → go base lent (Stage n k) u ≡ no 10 u
    unfolding go
    stage_short h = rw (lt-leb n lent.staging h, go)

  module _ (sp : Space) (a n : ℕ) (k : List ℕ → Act A) (u : World) where
    pub fetch-inside : there base sp a n u.now ≡ true → go base lent (Fetch sp a n k) u ≡ go base lent (k (fetched base sp a n u.now)) u
    unfolding go
    fetch-inside h = rw (h, go)

    pub fetch_outside : there base sp a n u.now ≡ false → go base lent (Fetch sp a n k) u ≡ no 9 u
    unfolding go
    fetch_outside h = rw (h, go)

  module _ (sp : Space) (a n v : ℕ) (k : Act A) (u : World) where
    pub store-made : there base sp a n u.now ≡ true → legal sp n ≡ true → 16 ≤ length u.free
        → go base lent (Store sp a n v k) u ≡ go base lent k (recorded base sp a n v u)
    unfolding go
    store-made h l r = rw (h, l, le-leb 16 (length u.free) r, go)

    pub store_outside : there base sp a n u.now ≡ false → go base lent (Store sp a n v k) u ≡ no 9 u
    unfolding go
    store_outside h = rw (h, go)

    pub store_full : there base sp a n u.now ≡ true → legal sp n ≡ true → length u.free < 16
        → go base lent (Store sp a n v k) u ≡ no 11 u
    unfolding go
    store_full h l r = rw (h, l, lt-leb 16 (length u.free) r, go)

  module _ (f : Field) (v : ℕ) (k : Act A) (u : World) where
    pub go-put : go base lent (Put f v k) u ≡ go base lent k (cutting f v u)
    unfolding go
    go-put = refl

    pub put_fits : v < 2 ^ bits_in u.now.dev.chip f → go base lent (Put f v k) u ≡ go base lent k (putting f v u)
    put_fits h = go-put ∙ ap (λ (x : ℕ). go base lent k (putting f x u)) (mod-eq_of_lt h)

-- ---- one step alone

module _ (base : ℕ) (lent : Lent) (u : World) where
  module _ (sp : Space) (a n v : ℕ) where
    pub store_does : there base sp a n u.now ≡ true → legal sp n ≡ true → 16 ≤ length u.free
        → go base lent (store sp a n v) u ≡ ok tt (recorded base sp a n v u)
    unfolding go store
    store_does h l r = store-made base lent sp a n v nothing u h l r

    pub store_refused : there base sp a n u.now ≡ false → go base lent (store sp a n v) u ≡ no 9 u
    unfolding store
    store_refused h = store_outside base lent sp a n v nothing u h

    pub store-no_room : there base sp a n u.now ≡ true → legal sp n ≡ true → length u.free < 16 → go base lent (store sp a n v) u ≡ no 11 u
    unfolding store
    store-no_room h l r = store_full base lent sp a n v nothing u h l r

  pub ask-does : (f : Field) → go base lent (ask f) u ≡ ok (holds f u.now.dev) u
  unfolding go ask
  ask-does f = refl

  module _ (f : Field) where
    pub put-does : (v : ℕ) → v < 2 ^ bits_in u.now.dev.chip f → go base lent (put f v) u ≡ ok tt (putting f v u)
    unfolding go put
    put-does v h = put_fits base lent f v nothing u h

    pub change-does : (g : ℕ → ℕ) → g (holds f u.now.dev) < 2 ^ bits_in u.now.dev.chip f → go base lent (change f g) u ≡ ok tt (putting f (g (holds f u.now.dev)) u)
    unfolding go change
    change-does g h = put_fits base lent f (g (holds f u.now.dev)) nothing u h

-- ---- the end of an act that began at u

module _ {A : Type 0} (u v : World) where
  pub leave_full : (a : A) → length v.free < length (last_lines u v) → leave u (ok a v) ≡ unmade 11 (cleared u)
  unfolding leave
  leave_full a h = rw (lt-leb (length (last_lines u v)) (length v.free) h, leave)

  pub leave_refused : (n : ℕ) → leave {A = A} u (no n v) ≡ unmade n (cleared u)
  unfolding leave
  leave_refused n = refl
