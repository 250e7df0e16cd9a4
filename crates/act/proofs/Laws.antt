-- The laws by which the engine's functions are proved against their trees: one after another, choices, reads, changed scalars, and stores
-- with their records, each over plain variables. Assumes nothing.
use Rattle.std.specs.Prelude.{Option, None, Result, Ok, Err}
use Rattle.std.specs.Option.{ok_or}
use Rattle.std.specs.Result.{IsErr, IsErrAnd, result_ok}
use Rattle.std.proofs.lemmas.Result.{err_from_is_err_and}
use mathlib.Core.Bool.{Bool, true, false, cond}
use mathlib.Core.List.{List, ◌++◌}
use mathlib.Core.Path.{◌≡◌, refl, sym, ap, ◌∙◌}
use Prim.Native.Nat.{ℕ, ◌+◌, ◌*◌, ◌^◌, ◌≤◌, ◌<◌}
use native.Mathlib.Nat.{mod-eq_of_lt}
use native.Mathlib.Omega.{arith}
use lib.ListN.{length, get_or, set, take, drop, length-drop, length-append}
use lib.Seq.{take_at, drop_at, drop-drop, length-take-le}
use Rattle.rules.specs.Act.{Act, window, table, SCALAR, MAJORS, ◌>>=◌, ◌>>◌, nothing, fetch, store, change, when}
use Rattle.rules.specs.Scalars.{scalar_bits, view_scalars}
use Rattle.rules.specs.Bytes.{bytes, number, part, splice}
use Rattle.rules.specs.Calls.{world_of, refusal_number}
use Rattle.rules.specs.Carry.{Out, ok, no, bytes_of, with_bytes_of, with_device, legal, index_of, there, stored, line, kind_of, line_of, go, recorded, Lent}
use Rattle.rules.specs.Carry.{fetched as Carry·fetched}
use Rattle.rules.specs.Fields.{bits_of}
use Rattle.rules.specs.Minor.{descriptor, tcd_of}
use Rattle.rules.specs.State.{Device}
use Rattle.rules.specs.declared.Refusal.{Refusal}
use Rattle.rules.specs.declared.Scalars.{Scalars}
use Rattle.rules.specs.declared.Tcd.{Tcd}
use Rattle.rules.proofs.BytesLaws.{length_bytes}
use Rattle.rules.proofs.Cut.{splice_cut}
use Rattle.rules.proofs.Steps.{and_then, go_bind, go_then, in_table_lem, fetch-inside, store_does, store_refused, store-no_room}
use Rattle.act.specs.Worlds.{Step, Walk, world, came_to, walked, on}
use Rattle.act.specs.declared.Flow.{Flow}
use Rattle.act.specs.declared.Stopped.{Stopped}

-- ---- one after another

module _ (base : ℕ) (lent : Lent) where
  after_on : {A : Type 0} (k : Act A) (o : Out (Unit {0})) → and_then o (λ _. go base lent k) ≡ on base lent k o
  unfolding and_then on
  after_on k (ok a u) = refl
  after_on k (no n u) = refl

  -- an act after an act, on what came before
  pub on_then : {A : Type 0} (m : Act (Unit {0})) (k : Act A) (o : Out (Unit {0})) → on base lent (m >> k) o ≡ on base lent k (on base lent m o)
  unfolding on ◌>>◌
  on_then m k (ok a u) = go_bind base lent m (λ _. k) u ∙ after_on k (go base lent m u)
  on_then m k (no n u) = refl

  -- a function after another is the act after the other
  pub then : {A : Type 0} (m : Act (Unit {0})) (k : Act A) {r : Out A} {p : Out (Unit {0})} (o : Out (Unit {0})) → r ≡ on base lent k p → p ≡ on base lent m o
      → r ≡ on base lent (m >> k) o
  then m k o e d = e ∙ ap (on base lent k) d ∙ sym (on_then m k o)

  pub on-nothing : (o : Out (Unit {0})) → on base lent nothing o ≡ o
  unfolding on go
  on-nothing (ok tt u) = refl
  on-nothing (no n u) = refl

  -- a refused step stays
  pub stays : (m : Act (Unit {0})) {s : Step} {e : Stopped Flow} (d : Device) (w j t l : List ℕ) → s ≡ Err e
      → came_to s d w j t l ≡ on base lent m (came_to s d w j t l)
  unfolding on came_to
  stays m d w j t l e = rw e

  -- whatever is to be done
  pub stays_so : {A : Type 0} (x y : Act A) {s : Step} {e : Stopped Flow} (d : Device) (w j t l : List ℕ) → s ≡ Err e
      → on base lent x (came_to s d w j t l) ≡ on base lent y (came_to s d w j t l)
  unfolding on came_to
  stays_so x y d w j t l e = rw e

  -- the step that a match came_to
  pub told_so : {A : Type 0} (x : Act A) {s s' : Step} (d : Device) (w j t l : List ℕ) → s ≡ s'
      → on base lent x (came_to s' d w j t l) ≡ on base lent x (came_to s d w j t l)
  told_so x d w j t l e = rw e

  -- ---- choices

  -- an act that is left out
  pub passed : (b : Bool) (m : Act (Unit {0})) (o : Out (Unit {0})) → b ≡ false → o ≡ on base lent (when b m) o
  unfolding when
  passed b m o e = rw (e, on-nothing o)

  -- the same of the step that a match came_to
  pub skips : (d : Device) {s : Step} (c : Flow) (w j t l : List ℕ) → s ≡ Ok c → (b : Bool) (m : Act (Unit {0})) → b ≡ false
      → came_to (Ok c) d w j t l ≡ on base lent (when b m) (came_to s d w j t l)
  skips d c w j t l going b m e = rw going (passed b m (came_to (Ok c) d w j t l) e)

  -- and one that is not left out
  pub taken : (b : Bool) (m : Act (Unit {0})) {r : Out (Unit {0})} (o : Out (Unit {0})) → b ≡ true → r ≡ on base lent m o → r ≡ on base lent (when b m) o
  unfolding when
  taken b m o e d = rw e d

  -- one of two
  pub picked : {A : Type 0} (b : Bool) (x y : Act A) {r : Out A} (o : Out (Unit {0})) → b ≡ true → r ≡ on base lent x o → r ≡ on base lent (cond b x y) o
  picked b x y o e d = rw e d

  pub left_out : {A : Type 0} (b : Bool) (x y : Act A) {r : Out A} (o : Out (Unit {0})) → b ≡ false → r ≡ on base lent y o → r ≡ on base lent (cond b x y) o
  left_out b x y o e d = rw e d

-- ---- reads of the table

module _ (base : ℕ) (lent : Lent) where
  pub fetched : (s : Step) (d : Device) (w j t l : List ℕ) {A : Type 0} (place n : ℕ) (k : List ℕ → Act A) → place + n ≤ length t
      → on base lent (fetch table place n >>= k) (came_to s d w j t l) ≡ on base lent (k (part t place n)) (came_to s d w j t l)
  unfolding on came_to fetch ◌>>=◌ Carry·fetched bytes_of index_of
  fetched (Ok c) d w j t l place n k h = fetch-inside base lent table place n k (world d c w j t l) (in_table_lem base place n (world d c w j t l).now h)
  fetched (Err e) d w j t l place n k h = refl

  -- a descriptor
  pub described : (s : Step) (d : Device) (w j t l : List ℕ) {A : Type 0} (ch : ℕ) (k : Tcd → Act A) {x : Tcd} → x ≡ tcd_of (part t (32 * ch) 32) → 32 * ch + 32 ≤ length t
      → on base lent (k x) (came_to s d w j t l) ≡ on base lent (descriptor ch >>= k) (came_to s d w j t l)
  unfolding descriptor fetch ◌>>=◌
  described s d w j t l ch k e h = rw e (sym (fetched s d w j t l (32 * ch) 32 (λ b. k (tcd_of b)) h))

-- ---- a scalar changed

module _ (base : ℕ) (lent : Lent) (d : Device) {s : Step} (c : Flow) (w j t l : List ℕ) (going : s ≡ Ok c) (g : ℕ → ℕ) where
  pub scalar_changed : (i : ℕ) {v : ℕ} (n : Scalars) → view_scalars n ≡ set (view_scalars c.scalars) i v → v ≡ g (get_or (view_scalars c.scalars) i 0) → v < 2 ^ get_or scalar_bits i 64
      → came_to (Ok (record { scalars = n; at = c.at })) d w j t l ≡ on base lent (change (SCALAR i) g) (came_to s d w j t l)
  unfolding came_to on go change bits_of with_device
  scalar_changed i n p e h = rw (going, p, ← e, mod-eq_of_lt h)

  -- of a function that hands on the step it was given
  pub majors-changed : (ch : ℕ) {v : ℕ} → v ≡ g (get_or l ch 0) → v < 2 ^ 64
      → came_to s d w j t (set l ch v) ≡ on base lent (change (MAJORS ch) g) (came_to s d w j t l)
  unfolding came_to on go change bits_of with_device
  majors-changed ch e h = rw (going, ← e, mod-eq_of_lt h)

-- ---- the journal, one record longer

pub length_line : (kind width place value : ℕ) → length (line kind width place value) ≡ 16
unfolding line
length_line kind width place value = omega (arith, length-append (bytes 4 place) (bytes 8 value), length_bytes 4 place, length_bytes 8 value)

module _ (j : List ℕ) (at : ℕ) (record-bytes : List ℕ) (size : length record-bytes ≡ 16) (fits : at + 16 ≤ length j) where
  cut : splice j at record-bytes ≡ take at j ++ record-bytes ++ drop (at + 16) j
  cut = splice_cut j at record-bytes (omega arith) ∙ ap (λ (n : ℕ). take at j ++ record-bytes ++ drop (at + n) j) size

  head : length (take at j ++ record-bytes) ≡ at + 16
  head = omega (arith, length-append (take at j) record-bytes, length-take-le at j (omega arith))

  pub used-on : take (at + 16) (splice j at record-bytes) ≡ take at j ++ record-bytes
  used-on = ap (take (at + 16)) cut ∙ take_at (take at j ++ record-bytes) (drop (at + 16) j) (at + 16) head

  pub free_on : drop (at + 16) (splice j at record-bytes) ≡ drop 16 (drop at j)
  free_on = ap (drop (at + 16)) cut ∙ drop_at (take at j ++ record-bytes) (drop (at + 16) j) (at + 16) head ∙ sym (drop-drop 16 at j)

-- room for a record, as an act asks for it

module _ (j : List ℕ) (at : ℕ) where
  room : at + 16 ≤ length j → 16 ≤ length (drop at j)
  room h = simp length-drop (omega arith)

  no_room : length j < at + 16 → length (drop at j) < 16
  no_room h = simp length-drop (omega arith)

-- ---- one store of the table, by cases

module _ (base : ℕ) (lent : Lent) (d : Device) {s : Step} (c : Flow) (w j t l : List ℕ) (going : s ≡ Ok c)
    (place width value : ℕ) (fits : place + width ≤ length t) (fair : legal table width ≡ true)
  where
    here : there base table place width (world d c w j t l).now ≡ true
    here = in_table_lem base place width (world d c w j t l).now fits

    pub table_full : length j < c.at + 16 → came_to (Err (record { why = Refusal.Room; at = c })) d w j t l ≡ on base lent (store table place width value) (came_to s d w j t l)
    unfolding came_to on
    table_full h = rw going (sym (store-no_room base lent (world d c w j t l) table place width value here fair (no_room j c.at h)))

    pub table_done : c.at + 16 ≤ length j → {old : ℕ} {t' j' : List ℕ} {c' : Flow}
        → old ≡ number (part t place width) → t' ≡ splice t place (bytes width value) → j' ≡ splice j c.at (line 1 width place old)
        → c' ≡ record { scalars = c.scalars; at = c.at + 16 }
        → came_to (Ok c') d w j' t' l ≡ on base lent (store table place width value) (came_to s d w j t l)
    unfolding came_to on recorded stored with_bytes_of bytes_of index_of Carry·fetched line_of kind_of
    table_done h p q r e =
        let L : List ℕ = line 1 width place (number (part t place width)) in
        let n : length L ≡ 16 = length_line 1 width place (number (part t place width)) in
        rw (going, e, r, q, p, used-on j c.at L n h, free_on j c.at L n h)
        (sym (store_does base lent (world d c w j t l) table place width value here fair (room j c.at h)))

-- ---- one store of the window, by cases

module _ (base : ℕ) (lent : Lent) (d : Device) (w j : List ℕ) (e a width value : ℕ) where
  pub window_outside : there base window a width (world_of d w j e).now ≡ false → walked (Err (record { why = Refusal.Outside; at = e })) d w j ≡ go base lent (store window a width value) (world_of d w j e)
  unfolding walked
  window_outside h = sym (store_refused base lent (world_of d w j e) window a width value h)

  module _ (here : there base window a width (world_of d w j e).now ≡ true) (fair : legal window width ≡ true) where
    pub window_full : length j < e + 16 → walked (Err (record { why = Refusal.Room; at = e })) d w j ≡ go base lent (store window a width value) (world_of d w j e)
    unfolding walked
    window_full h = sym (store-no_room base lent (world_of d w j e) window a width value here fair (no_room j e h))

    pub window-done : e + 16 ≤ length j → {i old : ℕ} {w' j' : List ℕ}
        → i ≡ index_of base window a → old ≡ number (part w i width) → w' ≡ splice w i (bytes width value) → j' ≡ splice j e (line 0 width a old)
        → walked (Ok (e + 16)) d w' j' ≡ go base lent (store window a width value) (world_of d w j e)
    unfolding walked recorded stored with_bytes_of bytes_of Carry·fetched line_of kind_of
    window-done h i-is p q r =
        let old : ℕ = number (part w (index_of base window a) width) in
        let L : List ℕ = line 0 width a old in
        let n : length L ≡ 16 = length_line 0 width a old in
        rw (r, q, p, i-is, used-on j e L n h, free_on j e L n h)
        (sym (store_does base lent (world_of d w j e) window a width value here fair (room j e h)))

-- ---- what is done after a walk

module _ (base : ℕ) (lent : Lent) (d : Device) (w j : List ℕ) (e : ℕ) (x : Act (Unit {0})) {A : Type 0} (y : Act A) {r : Walk} (w' j' : List ℕ)
    (did : walked r d w' j' ≡ go base lent x (world_of d w j e))
  where
    after_walk : {q : Walk} → r ≡ q → and_then (walked q d w' j') (λ _. go base lent y) ≡ go base lent (x >> y) (world_of d w j e)
    after_walk {q} h =
        ap (λ (o : Out (Unit {0})). and_then o (λ _. go base lent y)) (sym (ap (λ (o : Walk). walked o d w' j') h) ∙ did)
        ∙ sym (go_then base lent x y (world_of d w j e))

    pub walk_on_lem : {e' : ℕ} → r ≡ Ok e' → go base lent y (world_of d w' j' e') ≡ go base lent (x >> y) (world_of d w j e)
    unfolding walked and_then
    walk_on_lem h = after_walk h

    pub walk_off : {stopped : Stopped ℕ} → r ≡ Err stopped → no (refusal_number stopped.why) (world_of d w' j' stopped.at) ≡ go base lent (x >> y) (world_of d w j e)
    unfolding walked and_then
    walk_off h = after_walk h

-- ---- what `?` hands on

-- the same error
pub made_err : {T E : Type 0} {e : E} (r : Result T E) → IsErr r × IsErrAnd r (λ y. y ≡ e) → r ≡ Err e
made_err r gave = let p = err_from_is_err_and r gave.1 in p.1 ∙ ap (λ y. Err y) p.2

-- a refused step is handed on as it was
pub stays_refused : (base : ℕ) (lent : Lent) (m : Act (Unit {0})) {s : Step} {e : Stopped Flow} (r : Step) (d : Device) (w j t l : List ℕ)
    → IsErr r × IsErrAnd r (λ y. y ≡ e) → s ≡ Err e → came_to r d w j t l ≡ on base lent m (came_to s d w j t l)
stays_refused base lent m r d w j t l gave was = rw (made_err r gave ∙ sym was) (stays base lent m d w j t l was)

-- where there was none, `ok_or` and `?` make the error given
pub none_refused : {T U E : Type 0} {o : Option T} {q : Result T E} {e y : E} (r : Result U E) → q ≡ ok_or o e → o ≡ result_ok q → q ≡ Err y
    → IsErr r × IsErrAnd r (λ z. z ≡ y) → (o ≡ None) × (r ≡ Err e)
none_refused {o} {q} {e} {y} r value part was gave =
    let none : o ≡ None = part ∙ ap result_ok was in
    let same : ok_or o e ≡ Err y = sym value ∙ was in
    let p = err_from_is_err_and r gave.1 in
    let is : y ≡ e = (let z : Err e ≡ Err y = ap (λ x. ok_or x e) (sym none) ∙ same in sym cc) in
    (none, p.1 ∙ ap (λ x. Err x) (p.2 ∙ is))
