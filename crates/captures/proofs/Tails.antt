-- What a probe sees of one minor loop: the accesses of its transfer, then, where the count is 1 and ESG is set, 32 fetches from `dlast`. The rest is
-- steps on table and fields. Assumes nothing.
use mathlib.Core.Bool.{Bool, true, false, cond, not, ◌&&◌}
use mathlib.Core.List.{List, [], ◌++◌}
use mathlib.Core.Path.{◌≡◌, refl, sym, ap, ◌∙◌}
use Prim.Native.Nat.{ℕ, zero, suc, ◌+◌, ◌-◌, ◌/◌, ◌%◌, ◌^◌, ◌≤◌}
use native.Mathlib.Omega.{arith}
use borrow.Author.Tests.{eqb-true, eqb-false, eq-eqb, ne_eqb}
use lib.Dec.{eqb}
use lib.ListN.{length, replicate, length-append}
use Rattle.std.proofs.Common.{Option, None, Some}
use Rattle.rules.specs.State.{Device}
use Rattle.rules.specs.declared.Tcd.{Tcd}
use Rattle.rules.specs.Act.{Act, Done, Fetch, Store, Ask, Put, Field, done, nothing, change, when, window, table, ◌>>=◌, ◌>>◌, acts, MAJORS}
use Rattle.rules.specs.Scalars.{INT, ERQ, KICK}
use Rattle.rules.specs.Bytes.{bytes, number, part, splice}
use Rattle.rules.specs.Calls.{calls}
use Rattle.rules.specs.Fields.{fields, bits_in, holds, with_field}
use Rattle.rules.specs.With.{with_table}
use Rattle.rules.specs.Words.{has, wrap32, gain, lose, linked, count_of, link_of, recount}
use Rattle.rules.specs.Minor.{START, ACTIVE, DONE, ESG, MAJORELINK, tcd_of, tcd_bytes, descriptor, store_words, store_whole, source_offset, dest_offset, minor_bytes, offset, transfer, link, link_to, gather, replaced, load_next, wound, reload, flags, major_end, started, minor_stores, halfway, minor_end, pass}
use Rattle.rules.proofs.BytesLaws.{part-first, part-part, part-splice_below, part-splice-above, part-splice-same, length_bytes, length_splice, value_of_bytes}
use Rattle.rules.proofs.Masks.{gain_other, lose_other}
use Rattle.captures.specs.declared.Due.{Due}
use Rattle.captures.specs.Capture.{Judged, departs, Access, rest, read_as, ended, judge, board}

-- ---- steps on table and fields alone

data Quiet {A : Type 0} : Act A → Type 0 where
  at_done : {a : A} → Quiet (Done a)
  at_fetch : {a n : ℕ} {k : List ℕ → Act A} → ((l : List ℕ) → Quiet (k l)) → Quiet (Fetch table a n k)
  at_store : {a n v : ℕ} {k : Act A} → Quiet k → Quiet (Store table a n v k)
  at_ask : {f : Field} {k : ℕ → Act A} → ((v : ℕ) → Quiet (k v)) → Quiet (Ask f k)
  at_put : {f : Field} {v : ℕ} {k : Act A} → Quiet k → Quiet (Put f v k)

quiet_bind : {A B : Type 0} {m : Act A} {f : A → Act B} → Quiet m → ((a : A) → Quiet (f a)) → Quiet (m >>= f)
unfolding ◌>>=◌
quiet_bind (at_done {a}) g = g a
quiet_bind (at_fetch p) g = at_fetch (λ l. quiet_bind (p l) g)
quiet_bind (at_store p) g = at_store (quiet_bind p g)
quiet_bind (at_ask p) g = at_ask (λ v. quiet_bind (p v) g)
quiet_bind (at_put p) g = at_put (quiet_bind p g)

quiet_then : {A B : Type 0} {m : Act A} {k : Act B} → Quiet m → Quiet k → Quiet (m >> k)
unfolding ◌>>◌
quiet_then p q = quiet_bind p (λ _. q)

-- the probe sees nothing of them
unseen : {A : Type 0} {m : Act A} → Quiet m → (d : Device) (l : List Access) (i : ℕ) → judge m d l i ≡ ended l i
unfolding judge
unseen at_done d l i = refl
unseen (at_fetch {a} {n} p) d l i = unseen (p (part d.table a n)) d l i
unseen (at_store {a} {n} {v} p) d l i = unseen p (with_table d (splice d.table a (bytes n v))) l i
unseen (at_ask {f} p) d l i = unseen (p (holds f d)) d l i
unseen (at_put {f} {v} p) d l i = unseen p (with_field f (v % 2 ^ bits_in d.chip f) d) l i

quiet_change : (f : Field) (g : ℕ → ℕ) → Quiet (change f g)
unfolding change
quiet_change f g = at_ask (λ v. at_put at_done)

quiet_when : (b : Bool) {m : Act (Unit {0})} → Quiet m → Quiet (when b m)
unfolding when
quiet_when true q = q
quiet_when false q = at_done

quiet_whole : (ch : ℕ) (b : List ℕ) → Quiet (store_whole ch b)
unfolding store_whole store_words acts
quiet_whole ch b = at_store (at_store (at_store (at_store at_done)))

quiet_replaced : (ch : ℕ) (b : List ℕ) → Quiet (replaced ch b)
unfolding replaced
quiet_replaced ch b = quiet_then (quiet_whole ch b) (quiet_when _ (quiet_change KICK (λ k. gain k ch)))

quiet_linked : (to : ℕ) → Quiet (link to)
unfolding link acts
quiet_linked to = at_fetch (λ l. at_store (at_ask (λ v. at_put at_done)))

quiet_link : (ch : ℕ) (on : Bool) (to : ℕ) → Quiet (link_to ch on to)
unfolding link_to
quiet_link ch on to = quiet_when (on && not (eqb to ch)) (quiet_linked to)

quiet_flags : (ch csr : ℕ) → Quiet (flags ch csr)
unfolding flags
quiet_flags ch csr = quiet_then (quiet_when _ (quiet_change INT _)) (quiet_when _ (quiet_change ERQ _))

-- ---- the fetches of a scatter/gather end

unfoldable pub gathered : ℕ → ℕ → Act (Unit {0})
gathered zero a = nothing
gathered (suc n) a = Fetch window (wrap32 a) 1 (λ b. gathered n (a + 1))

-- whatever they give, and whatever device they are made on
gathered_alike : {A B C : Type 0} (n a : ℕ) (got : List ℕ) (f : List ℕ → Act A) (k : Act B) (m : Act C) → ((l : List ℕ) → Quiet ((f l >> k) >> m))
    → (d e : Device) (l : List Access) (i : ℕ) → judge (((gather n a got >>= f) >> k) >> m) d l i ≡ judge (gathered n a) e l i
unfolding judge gather gathered acts
gathered_alike zero a got f k m q d e l i = unseen (q got) d l i
gathered_alike (suc n) a got f k m q d e l i =
    by (read_as (wrap32 a) 1 l) (λ v. gathered_alike n (a + 1) (got ++ bytes 1 v) f k m q d e (rest l) (suc i))
  where
    by : (o : Option ℕ)
        → ((v : ℕ) → judge (((gather n (a + 1) (got ++ bytes 1 v) >>= f) >> k) >> m) d (rest l) (suc i) ≡ judge (gathered n (a + 1)) e (rest l) (suc i))
        → ◌≡◌ {A = Judged} (elim o [ None ↦ departs i (Some (Due.Read (wrap32 a) 1)) | Some v ↦ judge (((gather n (a + 1) (got ++ bytes 1 v) >>= f) >> k) >> m) d (rest l) (suc i) ])
        (elim o [ None ↦ departs i (Some (Due.Read (wrap32 a) 1)) | Some v ↦ judge (gathered n (a + 1)) e (rest l) (suc i) ])
    by None h = refl
    by (Some v) h = h v

unfoldable pub fetches : Tcd → Act (Unit {0})
fetches t = cond (eqb (count_of t.citer) 1 && has t.csr ESG) (gathered 32 t.dlast) nothing

-- ---- what the stores of a minor loop leave of the descriptor

module _ (b z : List ℕ) (h : length b ≡ 32) (s e citer csr : ℕ) where
  stores : List ℕ → List ℕ
  stores l = splice (splice (splice (splice l 0 (bytes 4 s)) 0x10 (bytes 4 e)) 0x14 (bytes 2 citer)) 0x1E (bytes 2 csr)

  -- `dlast`
  dlast_stays : (tcd_of (part (stores (b ++ z)) 0 32)).dlast ≡ (tcd_of b).dlast
  unfolding tcd_of stores
  dlast_stays =
      let x1 : List ℕ = splice (b ++ z) 0 (bytes 4 s) in
      let x2 : List ℕ = splice x1 0x10 (bytes 4 e) in
      let x3 : List ℕ = splice x2 0x14 (bytes 2 citer) in
      ap number
      (part-part (splice x3 0x1E (bytes 2 csr)) 0 32 0x18 4 (omega arith)
      ∙ part-splice_below x3 0x1E (bytes 2 csr) 0x18 4 (omega arith)
      ∙ part-splice-above x2 0x14 (bytes 2 citer) 0x18 4 (omega (arith, length_bytes 2 citer))
      ∙ part-splice-above x1 0x10 (bytes 4 e) 0x18 4 (omega (arith, length_bytes 4 e))
      ∙ part-splice-above (b ++ z) 0 (bytes 4 s) 0x18 4 (omega (arith, length_bytes 4 s))
      ∙ sym (part-part (b ++ z) 0 32 0x18 4 (omega arith))
      ∙ ap (λ (l : List ℕ). part l 0x18 4) (ap (part (b ++ z) 0) (sym h) ∙ part-first b z))

  -- `csr` is what was stored
  csr_stored : (tcd_of (part (stores (b ++ z)) 0 32)).csr ≡ csr % 256 ^ 2
  unfolding tcd_of stores
  csr_stored =
      let x1 : List ℕ = splice (b ++ z) 0 (bytes 4 s) in
      let x2 : List ℕ = splice x1 0x10 (bytes 4 e) in
      let x3 : List ℕ = splice x2 0x14 (bytes 2 citer) in
      let room : 0x1E + length (bytes 2 csr) ≤ length x3 = omega (arith, length_bytes 2 csr, h, length-append b z, length_splice (b ++ z) 0 (bytes 4 s), length_splice x1 0x10 (bytes 4 e), length_splice x2 0x14 (bytes 2 citer)) in
      ap number
      (part-part (splice x3 0x1E (bytes 2 csr)) 0 32 0x1E 2 (omega arith)
      ∙ ap (part (splice x3 0x1E (bytes 2 csr)) 0x1E) (sym (length_bytes 2 csr))
      ∙ part-splice-same x3 0x1E (bytes 2 csr) room)
      ∙ value_of_bytes 2 csr

-- ESG is none of the bits that go or come as a pass begins
esg_stays : (csr : ℕ) → has (started csr % 256 ^ 2) ESG ≡ has csr ESG
unfolding started
esg_stays csr =
    let x = lose csr START in
    let y = gain x ACTIVE in
    let e : lose y DONE / 2 ^ 4 % 2 ≡ csr / 2 ^ 4 % 2 = lose_other y DONE ESG (omega arith) ∙ gain_other x ACTIVE ESG (omega arith) ∙ lose_other csr START ESG (omega arith) in
    let low : lose y DONE % 256 ^ 2 / 2 ^ 4 % 2 ≡ csr / 2 ^ 4 % 2 = omega (arith, e) in
    ap (λ (k : ℕ). eqb k 1) low

-- ---- the end of a minor loop

-- the fetches, where they are to be made
unfoldable when_gathered : Bool → ℕ → Act (Unit {0})
when_gathered on a = cond on (gathered 32 a) nothing

reload_seen : (t : Tcd) (k : Act (Unit {0})) → Quiet k → (d e : Device) (l : List Access) (i : ℕ)
    → judge ((reload 0 t >> k) >> done true) d l i ≡ judge (when_gathered (has t.csr ESG) t.dlast) e l i
unfolding reload load_next when_gathered
reload_seen t k q d e l i = by (has t.csr ESG)
  where
    by : (on : Bool) → judge ((cond on (gather 32 t.dlast [] >>= (λ next. replaced 0 next)) (store_whole 0 (tcd_bytes (wound t))) >> k) >> done true) d l i
        ≡ judge (cond on (gathered 32 t.dlast) nothing) e l i
    by true = gathered_alike 32 t.dlast [] (λ next. replaced 0 next) k (done true) (λ next. quiet_then (quiet_then (quiet_replaced 0 next) q) at_done) d e l i
    by false = unseen (quiet_then (quiet_then (quiet_whole 0 (tcd_bytes (wound t))) q) at_done) d l i ∙ sym (unseen {m = nothing} at_done e l i)

major_seen : (d e : Device) (l : List Access) (i : ℕ)
    → judge (major_end 0 >> done true) d l i ≡ judge (when_gathered (has (tcd_of (part d.table 0 32)).csr ESG) (tcd_of (part d.table 0 32)).dlast) e l i
unfolding judge major_end descriptor acts
major_seen d e l i =
    let t = tcd_of (part d.table 0 32) in
    let n = holds (MAJORS 0) d in
    reload_seen t (flags 0 t.csr >> link_to 0 (has t.csr MAJORELINK) (t.csr / 2 ^ 8 % 2 ^ 6)) (quiet_then (quiet_flags 0 t.csr) (quiet_link 0 (has t.csr MAJORELINK) (t.csr / 2 ^ 8 % 2 ^ 6)))
    (with_field (MAJORS 0) ((n + 1) % 2 ^ 64 % 2 ^ bits_in d.chip (MAJORS 0)) d) e l i

module _ (b : List ℕ) (cr : ℕ) (h : length b ≡ 32) (l : List Access) (i : ℕ) where
  -- once the stores are made, and whatever became of the fields
  ends_seen : (s e citer : ℕ) (d : Device) → d.table ≡ stores b (replicate 2016 0) h s e citer (started (tcd_of b).csr) (b ++ replicate 2016 0)
      → (count_of (tcd_of b).citer ≡ 0 → ⊥)
      → judge (cond (eqb (count_of (tcd_of b).citer - 1) 0) (major_end 0) (link_to 0 (linked citer) (link_of citer)) >> done true) d l i
      ≡ judge (fetches (tcd_of b)) (board b cr) l i
  unfolding fetches when_gathered
  ends_seen s e citer d stood some_left = by (eqb (count_of (tcd_of b).citer - 1) 0) refl
    where
      z : List ℕ
      z = replicate 2016 0

      csr : ℕ
      csr = (tcd_of b).csr

      by : (last : Bool) → eqb (count_of (tcd_of b).citer - 1) 0 ≡ last
          → judge (cond last (major_end 0) (link_to 0 (linked citer) (link_of citer)) >> done true) d l i
          ≡ judge (cond (eqb (count_of (tcd_of b).citer) 1 && has csr ESG) (gathered 32 (tcd_of b).dlast) nothing) (board b cr) l i
      by true q =
          let one : eqb (count_of (tcd_of b).citer) 1 ≡ true = eq-eqb (count_of (tcd_of b).citer) 1 (omega (arith, eqb-true (count_of (tcd_of b).citer - 1) 0 q, some_left)) in
          major_seen d (board b cr) l i
          ∙ ap (λ (x : List ℕ). judge (when_gathered (has (tcd_of (part x 0 32)).csr ESG) (tcd_of (part x 0 32)).dlast) (board b cr) l i) stood
          ∙ ap (λ (x : ℕ). judge (when_gathered (has x ESG) (tcd_of (part (stores b z h s e citer (started csr) (b ++ z)) 0 32)).dlast) (board b cr) l i) (csr_stored b z h s e citer (started csr))
          ∙ ap (λ (x : ℕ). judge (when_gathered (has (started csr % 256 ^ 2) ESG) x) (board b cr) l i) (dlast_stays b z h s e citer (started csr))
          ∙ ap (λ (x : Bool). judge (when_gathered x (tcd_of b).dlast) (board b cr) l i) (esg_stays csr)
          ∙ ap (λ (x : Bool). judge (when_gathered (x && has csr ESG) (tcd_of b).dlast) (board b cr) l i) (sym one)
      by false q =
          let none-due : eqb (count_of (tcd_of b).citer) 1 ≡ false = ne_eqb (count_of (tcd_of b).citer) 1 (omega (arith, eqb-false (count_of (tcd_of b).citer - 1) 0 q)) in
          unseen (quiet_then (quiet_link 0 (linked citer) (link_of citer)) at_done) d l i
          ∙ sym (unseen {m = nothing} at_done (board b cr) l i)
          ∙ ap (λ (x : Bool). judge (when_gathered (x && has csr ESG) (tcd_of b).dlast) (board b cr) l i) (sym none-due)

  pub end_seen : (s e : ℕ) → (count_of (tcd_of b).citer ≡ 0 → ⊥) → judge (minor_end 0 (tcd_of b) s e >> done true) (board b cr) l i ≡ judge (fetches (tcd_of b)) (board b cr) l i
  unfolding minor_end minor_stores judge acts stores board fields calls
  end_seen s e some_left = by (halfway (tcd_of b) (count_of (tcd_of b).citer - 1))
    where
      citer : ℕ
      citer = recount (tcd_of b).citer (count_of (tcd_of b).citer - 1)

      after : Device
      after = with_table (board b cr) (stores b (replicate 2016 0) h s e citer (started (tcd_of b).csr) (b ++ replicate 2016 0))

      by : (half : Bool)
          → judge ((when half (change INT (λ m. gain m 0)) >> cond (eqb (count_of (tcd_of b).citer - 1) 0) (major_end 0) (link_to 0 (linked citer) (link_of citer))) >> done true) after l i
          ≡ judge (fetches (tcd_of b)) (board b cr) l i
      by true = ends_seen s e citer (with_field INT (gain (holds INT after) 0 % 2 ^ bits_in after.chip INT) after) refl some_left
      by false = ends_seen s e citer after refl some_left

  -- the transfer, then the end
  pub pass_seen : judge (pass 0) (board b cr) l i
      ≡ judge (cond (eqb (count_of (tcd_of b).citer) 0) (done false) (transfer (tcd_of b) (minor_bytes cr (tcd_of b)) >>= (λ sd. minor_end 0 (tcd_of b) (offset (source_offset cr (tcd_of b)) (tcd_of b) sd.0) (offset (dest_offset cr (tcd_of b)) (tcd_of b) sd.1) >> done true))) (board b cr) l i
  unfolding pass descriptor judge acts board fields calls
  pass_seen = ap (λ (x : List ℕ). judge (cond (eqb (count_of (tcd_of x).citer) 0) (done false) (transfer (tcd_of x) (minor_bytes cr (tcd_of x)) >>= (λ sd. minor_end 0 (tcd_of x) (offset (source_offset cr (tcd_of x)) (tcd_of x) sd.0) (offset (dest_offset cr (tcd_of x)) (tcd_of x) sd.1) >> done true))) (board b cr) l i)
      (ap (part (b ++ replicate 2016 0) 0) (sym h) ∙ part-first b (replicate 2016 0))
