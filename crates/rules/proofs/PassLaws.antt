-- What one pass of a channel does: where it may fetch and store, the room that it takes, and what it makes of the channel's count and majors.
-- Assumes nothing.
use mathlib.Core.Bool.{Bool, true, false, cond, ◌&&◌, not, false≢true}
use mathlib.Core.List.{List, [], ◌∷◌}
use mathlib.Core.Logic.{◌⊎◌, inl, inr, ⊎_elim}
use mathlib.Core.Path.{◌≡◌, refl, sym, ap, ◌∙◌, subst⁻¹}
use Prim.Native.Nat.{ℕ, zero, suc, ◌+◌, ◌-◌, ◌*◌, ◌/◌, ◌%◌, ◌^◌, ◌<◌, ◌≤◌}
use native.Mathlib.Nat.{mod-lt}
use native.Mathlib.Omega.{arith}
use lib.Dec.{eqb, ltb, lit<, lit≤}
use lib.ListN.{get_or, length}
use lib.Seq.{get_or-set_same}
use borrow.Author.Tests.{ltb-true, ltb-false, eq-eqb, ne_eqb, eqb-true, eqb-false, not-true}
use Rattle.rules.specs.State.{Device}
use Rattle.rules.specs.declared.Tcd.{Tcd}
use Rattle.rules.specs.Act.{Act, fetch, store, ask, change, when, Space, window, table, MAJORS}
use Rattle.rules.specs.Scalars.{KICK, INT, ERQ, CR}
use Rattle.rules.specs.Act as acts
use Rattle.rules.specs.Carry.{World, ok, no, bytes_of, with_bytes_of, index_of, stored, fetched, with_device, legal, there, recorded, go, Lent}
use Rattle.rules.specs.Bytes.{bytes, number, part, splice}
use Rattle.rules.specs.Fields.{bits_of, holds, with_field, parts_of}
use Rattle.rules.specs.Words.{has, linked, count_of, recount, size_of, unit_of}
use Rattle.rules.specs.Minor.{ESG, MAJORELINK, tcd_of, descriptor, store_words, store_whole, move_unit, move_units, move_sizes, read_unit, read_units, read_sizes, write_units, write_sizes, move_unequal, ssize, dsize, transfer, link, link_to, gather, replaced, load_next, reload, flags, major_end, minor_stores, minor_end, pass}
use Rattle.rules.proofs.BoolLaws.{and_right}
use Rattle.rules.proofs.BytesLaws.{length_bytes, part-splice-above, part-splice_below, part-splice-same, part-part, part_lt, value_fits}
use Rattle.rules.proofs.FieldLaws.{sized, put_law}
use Rattle.rules.proofs.Steps.{putting}
use Rattle.rules.proofs.Each.{Rights, Each, Properly, proper-store, proper-put, each_keeps, at_done, ◌>>=◌, ◌>>◌, each_stage, each_fetch, each_store, each_ask, each_change, each_when, each_cond}
use Rattle.rules.proofs.Proper.{Proper}
use Rattle.rules.proofs.Leads.{IfAnswered, Leads, leads_bind, leads_then, leads_map, leads_both, leads_done, leads_cond, leads_end, leads_store, one_record, shrinks, proper_kept}

-- ---- the transfer

-- a size moves in units of 1, 2 or 4 bytes
unit_of_code : (n : ℕ) → legal window (unit_of (get_or (1 ∷ 2 ∷ 4 ∷ 1 ∷ 16 ∷ 32 ∷ 1 ∷ 1 ∷ []) n 1)) ≡ true
unfolding legal unit_of
unit_of_code zero = refl
unit_of_code (suc zero) = refl
unit_of_code (suc (suc zero)) = refl
unit_of_code (suc (suc (suc zero))) = refl
unit_of_code (suc (suc (suc (suc zero)))) = refl
unit_of_code (suc (suc (suc (suc (suc zero))))) = refl
unit_of_code (suc (suc (suc (suc (suc (suc zero)))))) = refl
unit_of_code (suc (suc (suc (suc (suc (suc (suc zero))))))) = refl
unit_of_code (suc (suc (suc (suc (suc (suc (suc (suc n)))))))) = refl

unit_legal : (code : ℕ) → legal window (unit_of (size_of code)) ≡ true
unfolding size_of
unit_legal code = unit_of_code (code % 8)

-- any staging may be needed, and the window fetched and stored to in units
pub record OnWindow (r : Rights) : Type 0 where
  pub stage_any : (n : ℕ) → r.may_stage n
  pub fetch_unit : (a n : ℕ) → legal window n ≡ true → r.may_fetch window a n
  pub store_unit : (a n : ℕ) → legal window n ≡ true → r.may_store window a n

module _ {r : Rights} (w : OnWindow r) where
  units_each : (left k u s d : ℕ) → legal window u ≡ true → Each r (move_units left k u s d)
  unfolding move_units move_unit
  units_each zero k u s d l = at_done
  units_each (suc left) k u s d l = do
    _ ← do
      _ ← each_fetch _ _ _ (w.fetch_unit _ u l)
      each_store _ _ _ _ (w.store_unit _ u l)
    units_each left (suc k) u s d l

  sizes_each : (n soff smod doff dmod size s d : ℕ) → legal window (unit_of size) ≡ true → Each r (move_sizes n soff smod doff dmod size s d)
  unfolding move_sizes
  sizes_each zero soff smod doff dmod size s d l = at_done
  sizes_each (suc n) soff smod doff dmod size s d l = do
    _ ← units_each _ 0 (unit_of size) s d l
    sizes_each n soff smod doff dmod size _ _ l

  reads_each : (left k u s : ℕ) (got : List ℕ) → legal window u ≡ true → Each r (read_units left k u s got)
  unfolding read_units read_unit
  reads_each zero k u s got l = at_done
  reads_each (suc left) k u s got l = do
    more ← do
      _ ← each_fetch _ _ _ (w.fetch_unit _ u l)
      at_done
    reads_each left (suc k) u s more l

  read_sizes_each : (n soff smod size s : ℕ) (got : List ℕ) → legal window (unit_of size) ≡ true → Each r (read_sizes n soff smod size s got)
  unfolding read_sizes
  read_sizes_each zero soff smod size s got l = at_done
  read_sizes_each (suc n) soff smod size s got l = do
    more ← reads_each _ 0 (unit_of size) s got l
    read_sizes_each n soff smod size _ more l

  writes_each : (left k u d : ℕ) (got : List ℕ) (o : ℕ) → legal window u ≡ true → Each r (write_units left k u d got o)
  unfolding write_units
  writes_each zero k u d got o l = at_done
  writes_each (suc left) k u d got o l = do
    _ ← each_store _ _ _ _ (w.store_unit _ u l)
    writes_each left (suc k) u d got o l

  write_sizes_each : (n doff dmod size d : ℕ) (got : List ℕ) (o : ℕ) → legal window (unit_of size) ≡ true → Each r (write_sizes n doff dmod size d got o)
  unfolding write_sizes
  write_sizes_each zero doff dmod size d got o l = at_done
  write_sizes_each (suc n) doff dmod size d got o l = do
    _ ← writes_each _ 0 (unit_of size) d got o l
    write_sizes_each n doff dmod size _ got _ l

  -- a transfer touches the window only
  pub transfer_each : (t : Tcd) (n : ℕ) → Each r (transfer t n)
  unfolding transfer move_unequal ssize dsize
  transfer_each t n =
      each_cond (eqb (ssize t) (dsize t))
      (λ _. sizes_each _ _ _ _ _ _ _ _ (unit_legal _))
      (λ _. do
        _ ← each_stage _ (w.stage_any _)
        (s, got) ← read_sizes_each _ _ _ _ _ [] (unit_legal _)
        d ← write_sizes_each _ _ _ _ _ got 0 (unit_legal _)
        at_done)

-- ---- links and the major end

module _ {r : Rights} where
  pub descriptor_each : (ch : ℕ) → r.may_fetch table (32 * ch) 32 → Each r (descriptor ch)
  unfolding descriptor
  descriptor_each ch f = do
    _ ← each_fetch _ _ _ f
    at_done

  -- byte 0x1F of another channel
  pub link_each : (ch : ℕ) (on : Bool) (to : ℕ) → r.may_fetch table (32 * to + 0x1F) 1 → ((to ≡ ch → ⊥) → r.may_store table (32 * to + 0x1F) 1) → r.may_put KICK
      → Each r (link_to ch on to)
  unfolding link_to link
  link_each ch on to f s k = each_when (on && not (eqb to ch)) λ e. do
    _ ← each_fetch _ _ _ f
    each_store _ _ _ _ (s (eqb-false to ch (not-true _ (and_right on _ e))))
    each_change _ _ k

  gather_each : (n a : ℕ) (got : List ℕ) → ((a : ℕ) → r.may_fetch window a 1) → Each r (gather n a got)
  unfolding gather
  gather_each zero a got f = at_done
  gather_each (suc n) a got f = do
    _ ← each_fetch _ _ _ (f _)
    gather_each n _ _ f

-- the channel's own descriptor may be stored to
abbrev pub OnOwn : Rights → ℕ → Type 0
OnOwn r ch = (a n : ℕ) → 32 * ch ≤ a → a + n ≤ 32 * ch + 32 → legal table n ≡ true → r.may_store table a n

module _ {r : Rights} where
  whole_each : (ch : ℕ) (b : List ℕ) → OnOwn r ch → Each r (store_whole ch b)
  unfolding store_whole store_words legal
  whole_each ch b o = do
    each_store _ _ _ _ (o _ _ (omega arith) (omega arith) refl)
    each_store _ _ _ _ (o _ _ (omega arith) (omega arith) refl)
    each_store _ _ _ _ (o _ _ (omega arith) (omega arith) refl)
    each_store _ _ _ _ (o _ _ (omega arith) (omega arith) refl)

  pub reload_each : (ch : ℕ) (t : Tcd) → OnWindow r → OnOwn r ch → r.may_put KICK → Each r (reload ch t)
  unfolding reload load_next replaced legal
  reload_each ch t w o k =
      each_cond (has t.csr ESG)
      (λ _. do
        next ← gather_each 32 _ [] (λ a. w.fetch_unit a 1 refl)
        whole_each ch next o
        each_when _ (λ _. each_change _ _ k))
      (λ _. whole_each ch _ o)

  pub flags_each : (ch csr : ℕ) → r.may_put INT → r.may_put ERQ → Each r (flags ch csr)
  unfolding flags
  flags_each ch csr i e = do
    each_when _ (λ _. each_change _ _ i)
    each_when _ (λ _. each_change _ _ e)

  pub stores_each : (ch s d citer csr : ℕ) → OnOwn r ch → Each r (minor_stores ch s d citer csr)
  unfolding minor_stores legal
  stores_each ch s d citer csr o = do
    each_store _ _ _ _ (o _ _ (omega arith) (omega arith) refl)
    each_store _ _ _ _ (o _ _ (omega arith) (omega arith) refl)
    each_store _ _ _ _ (o _ _ (omega arith) (omega arith) refl)
    each_store _ _ _ _ (o _ _ (omega arith) (omega arith) refl)

-- ---- a whole pass

-- the rights that a pass of channel ch needs: the window in units, its own descriptor, byte 0x1F of any channel, and four fields
pub record OfPass (r : Rights) (ch : ℕ) : Type 0 where
  pub on_window : OnWindow r
  pub fetch_own : r.may_fetch table (32 * ch) 32
  pub store_own : OnOwn r ch
  pub fetch_link : (to : ℕ) → to < 64 → r.may_fetch table (32 * to + 0x1F) 1
  pub store_link : (to : ℕ) → to < 64 → r.may_store table (32 * to + 0x1F) 1
  pub put_int : r.may_put INT
  pub put_kick : r.may_put KICK
  pub put_erq : r.may_put ERQ
  pub put_majors : r.may_put (MAJORS ch)

module _ {r : Rights} (ch : ℕ) (p : OfPass r ch) where
  any_link : (on : Bool) (n : ℕ) → Each r (link_to ch on (n % 2 ^ 6))
  any_link on n =
      let l : n % 2 ^ 6 < 64 = mod-lt n (lit< tt) in
      link_each ch on (n % 2 ^ 6) (p.fetch_link _ l) (λ _. p.store_link _ l) p.put_kick

  major_each : Each r (major_end ch)
  unfolding major_end
  major_each = do
    t ← descriptor_each ch p.fetch_own
    each_change _ _ p.put_majors
    reload_each ch t p.on_window p.store_own p.put_kick
    flags_each ch t.csr p.put_int p.put_erq
    any_link (has t.csr MAJORELINK) (t.csr / 2 ^ 8)

  pub pass_each : Each r (pass ch)
  unfolding pass minor_end
  pass_each = do
    t ← descriptor_each ch p.fetch_own
    cr ← each_ask CR
    each_cond (eqb (count_of t.citer) 0)
        (λ _. at_done)
        (λ _. do
          _ ← transfer_each p.on_window t _
          do
            stores_each ch _ _ _ _ p.store_own
            each_when _ (λ _. each_change _ _ p.put_int)
            each_cond (eqb (count_of t.citer - 1) 0) (λ _. major_each) (λ _. any_link _ _)
          at_done)

-- ---- room in the journal

module _ {base : ℕ} {lent : Lent} where
  store_room : (sp : Space) (a n v : ℕ) (u : World) (most : ℕ) → length u.free ≤ most → Leads base lent u (store sp a n v) (λ _ w. length w.free + 16 ≤ most)
  store_room sp a n v u most h =
      leads_map (leads_store sp a n v u) (λ _ w k. omega (arith, one_record base sp a n v u, ap (λ (x : World). length x.free) k.0, k.1))

  -- the four stores of a pass are four records
  stores_room : (ch s d citer csr : ℕ) (u : World) → Leads base lent u (minor_stores ch s d citer csr) (λ _ v. length v.free + 64 ≤ length u.free)
  unfolding minor_stores
  stores_room ch s d citer csr u =
      leads_then (store_room _ _ _ _ u (length u.free) (omega arith)) λ _ v h.
      leads_then (store_room _ _ _ _ v (length u.free - 16) (omega arith)) λ _ w k.
      leads_then (store_room _ _ _ _ w (length u.free - 32) (omega arith)) λ _ x l.
      leads_map (store_room _ _ _ _ x (length u.free - 48) (omega arith)) λ _ y i. omega arith

  minor_room : (ch : ℕ) (t : Tcd) (s d : ℕ) (u : World) (most : ℕ) → length u.free ≤ most
      → Leads base lent u (minor_end ch t s d) (λ _ v. length v.free + 64 ≤ most)
  unfolding minor_end
  minor_room ch t s d u most h =
      leads_then (stores_room ch _ _ _ _ u) λ _ v k.
      leads_then (shrinks (when _ _) v (most - 64) (omega arith)) λ _ w l.
      leads_map (shrinks (cond (eqb (count_of t.citer - 1) 0) _ _) w (most - 64) l) λ _ x i. omega arith

  -- a pass that answers yes writes four records at least
  pub pass_room : (ch : ℕ) (u : World) → Leads base lent u (pass ch) (λ went v. went ≡ true → length v.free + 64 ≤ length u.free)
  unfolding pass
  pass_room ch u =
      leads_bind (shrinks (descriptor ch) u (length u.free) (omega arith)) λ t v h.
      leads_bind (shrinks (ask CR) v (length u.free) h) λ cr w k.
      leads_cond (eqb (count_of t.citer) 0)
      (λ _. leads_done (λ e. absurd (false≢true e)))
      (λ _.
      leads_bind (shrinks (transfer t _) w (length u.free) k) λ sd x l.
      leads_then (minor_room ch t _ _ x (length u.free) l) λ _ y i.
      leads_done (λ e. i))

-- ---- counts

-- a channel's `citer`, and its count, in the table
unfoldable pub citer_at : ℕ → Device → ℕ
citer_at ch d = number (part d.table (32 * ch + 0x14) 2)

-- its `csr`
unfoldable pub csr_at : ℕ → Device → ℕ
csr_at ch d = number (part d.table (32 * ch + 0x1E) 2)

-- a descriptor says what stands there
abbrev pub Said : ℕ → World → Tcd → Type 0
Said ch u t = (t.citer ≡ citer_at ch u.now.dev) × (t.csr ≡ csr_at ch u.now.dev)

unfoldable pub count_at : ℕ → Device → ℕ
count_at ch d = count_of (citer_at ch d)

-- a count fits 15 bits
pub count_below : (raw : ℕ) → count_of raw < 2 ^ 15
count_below raw = either (linked raw)
  where
    either : (b : Bool) → cond b (raw % 2 ^ 9) (raw % 2 ^ 15) < 2 ^ 15
    either true = omega arith
    either false = omega arith

-- another count, no larger, in the same field: it is the count, and it fits
recount_law : (raw n : ℕ) → raw < 2 ^ 16 → n ≤ count_of raw → (count_of (recount raw n) ≡ n) × (recount raw n < 2 ^ 16)
recount_law raw n h l = either (linked raw) refl l
  where
    either : (b : Bool) → linked raw ≡ b → n ≤ cond b (raw % 2 ^ 9) (raw % 2 ^ 15)
        → (count_of (cond b (raw / 2 ^ 9 * 2 ^ 9 + n) n) ≡ n) × (cond b (raw / 2 ^ 9 * 2 ^ 9 + n) n < 2 ^ 16)
    either true e l =
        let bit : raw / 2 ^ 15 % 2 ≡ 1 = eqb-true _ _ e in
        let still : linked (raw / 2 ^ 9 * 2 ^ 9 + n) ≡ true = eq-eqb ((raw / 2 ^ 9 * 2 ^ 9 + n) / 2 ^ 15 % 2) 1 (omega arith) in
        (rw still (omega arith), omega arith)
    either false e l =
        let gone : linked n ≡ false = ne_eqb (n / 2 ^ 15 % 2) 1 (omega arith) in
        (rw gone (omega arith), omega arith)

-- ---- what leaves a channel's majors alone, and what leaves bytes of the table alone

unfoldable pub sparing_majors : ℕ → Rights
sparing_majors ch = record {
  may_stage = λ n. Unit {0};
  may_fetch = λ sp a n. Unit {0};
  may_store = λ sp a n. Unit {0};
  may_put = λ f. (v : ℕ) (d : Device) → holds (MAJORS ch) (with_field f v d) ≡ holds (MAJORS ch) d;
}

-- before or behind k bytes of the table from i on
abbrev pub Beside : ℕ → ℕ → Space → ℕ → ℕ → Type 0
Beside i k window a n = Unit {0}
Beside i k table a n = (a + n ≤ i) ⊎ (i + k ≤ a)

-- bytes of two channels are beside each other
pub others_beside : (c ch o k a n : ℕ) → (c ≡ ch → ⊥) → o + k ≤ 32 → 32 * ch ≤ a → a + n ≤ 32 * ch + 32 → Beside (32 * c + o) k table a n
others_beside c ch o k a n f h l b = side (ltb ch c) refl
  where
    side : (t : Bool) → ltb ch c ≡ t → Beside (32 * c + o) k table a n
    side true e = inl (omega (arith, ltb-true ch c e))
    side false e = inr (omega (arith, ltb-false ch c e, f))

unfoldable pub sparing : ℕ → ℕ → Rights
sparing i k = record { may_stage = λ n. Unit {0}; may_fetch = λ sp a n. Unit {0}; may_store = Beside i k; may_put = λ f. Unit {0} }

abbrev pub Majors : ℕ → ℕ → World → Type 0
Majors ch x u = holds (MAJORS ch) u.now.dev ≡ x

-- the number that stands there
abbrev pub Stands : ℕ → ℕ → ℕ → World → Type 0
Stands i k x u = number (part u.now.dev.table i k) ≡ x

module _ (base ch : ℕ) where
  majors_unstored : (sp : Space) (a n v : ℕ) (u : World) → holds (MAJORS ch) (recorded base sp a n v u).now.dev ≡ holds (MAJORS ch) u.now.dev
  unfolding recorded stored with_bytes_of
  majors_unstored window a n v u = refl
  majors_unstored table a n v u = refl

module _ (base i k : ℕ) where
  unstored : (sp : Space) (a n v : ℕ) (u : World) → Beside i k sp a n
      → number (part (recorded base sp a n v u).now.dev.table i k) ≡ number (part u.now.dev.table i k)
  unfolding recorded stored with_bytes_of bytes_of index_of
  unstored window a n v u b = refl
  unstored table a n v u b =
      ap number
      (⊎_elim
      (λ h. part-splice-above u.now.dev.table a (bytes n v) i k (omega (arith, length_bytes n v)))
      (λ h. part-splice_below u.now.dev.table a (bytes n v) i k (omega arith))
      b)

  -- stored there, it is there
  stored-stands : (x : ℕ) (u : World) → i + k ≤ 2048 → x < 256 ^ k → Proper u.now.dev → Stands i k x (recorded base table i k x u)
  unfolding recorded stored with_bytes_of bytes_of index_of
  stored-stands x u h l p =
      let t = u.now.dev.table in
      ap (λ (n : ℕ). number (part (splice t i (bytes k x)) i n)) (sym (length_bytes k x))
      ∙ ap number (part-splice-same t i (bytes k x) (omega (arith, length_bytes k x, p.size)))
      ∙ value_fits k l

module _ {base : ℕ} {lent : Lent} where
  pub majors_kept : {A : Type 0} (ch x : ℕ) {m : Act A} → Each (sparing_majors ch) m → (u : World) → Properly (Majors ch x) u
      → Leads base lent u m (λ _ v. Properly (Majors ch x) v)
  unfolding sparing_majors with_device
  majors_kept ch x {m} e u p =
      leads_end m u
      (each_keeps base lent (sparing_majors ch) (Majors ch x)
      (λ sp a n v w _ _ _ h. majors_unstored base ch sp a n v w ∙ h) (λ f v w _ s h. s _ w.now.dev ∙ h) e u p)

  pub stands_kept : {A : Type 0} (i k x : ℕ) {m : Act A} → Each (sparing i k) m → (u : World) → Properly (Stands i k x) u
      → Leads base lent u m (λ _ v. Properly (Stands i k x) v)
  unfolding sparing with_device
  stands_kept i k x {m} e u p =
      leads_end m u
      (each_keeps base lent (sparing i k) (Stands i k x)
      (λ sp a n v w _ s _ h. unstored base i k sp a n v w s ∙ h)
      (λ f v w q _ h. ap (λ t. number (part t i k)) (put_law f _ w.now.dev q.sound.three).table ∙ h)
      e u p)

-- ---- majors and count after a pass

-- of a channel that had this count and these majors: one less is left to count, and majors stays; or that was the last, and majors is one more
pub data Counted (ch count majors : ℕ) (after : Device) : Type 0 where
  fewer : count_at ch after + 1 ≡ count → holds (MAJORS ch) after ≡ majors → Counted ch count majors after
  ended : count ≡ 1 → holds (MAJORS ch) after ≡ (majors + 1) % 2 ^ 64 → Counted ch count majors after

majors-put : (ch x : ℕ) (u : World) → ch < 64 → Proper u.now.dev → Majors ch x (putting (MAJORS ch) x u)
unfolding with_device parts_of
majors-put ch x u h p = get_or-set_same u.now.dev.majors ch x 0 (omega (arith, (sized u.now.dev p.sound).1.1.1.1.0))

module _ {base : ℕ} {lent : Lent} (ch : ℕ) (h : ch < 64) where
  -- majors + 1
  leads_majors : (x : ℕ) (u : World) → Properly (Majors ch x) u
      → Leads base lent u (change (MAJORS ch) (λ n. (n + 1) % 2 ^ 64)) (λ _ v. Properly (Majors ch ((x + 1) % 2 ^ 64)) v)
  unfolding go change bits_of
  leads_majors x u p =
      let n = holds (MAJORS ch) u.now.dev in
      record { answered = (proper-put (MAJORS ch) ((n + 1) % 2 ^ 64) u p.0, majors-put ch _ u h p.0 ∙ omega (arith, p.1)) }

  majors_rise : (x : ℕ) (u : World) → Properly (Majors ch x) u → Leads base lent u (major_end ch) (λ _ v. Properly (Majors ch ((x + 1) % 2 ^ 64)) v)
  unfolding major_end sparing_majors
  majors_rise x u p =
      leads_bind (majors_kept ch x (descriptor_each ch tt) u p) λ t v q.
      leads_then (leads_majors x v q) λ _ w o.
      majors_kept ch ((x + 1) % 2 ^ 64)
      (do
        reload_each ch t (record { stage_any = λ n. tt; fetch_unit = λ a n l. tt; store_unit = λ a n l. tt }) (λ a n l b k. tt) (λ v d. refl)
        flags_each ch t.csr (λ v d. refl) (λ v d. refl)
        link_each ch (has t.csr MAJORELINK) (t.csr / 2 ^ 8 % 2 ^ 6) tt (λ _. tt) (λ v d. refl))
      w o

  -- what is stored is there
  leads_stands : (i k x : ℕ) (u : World) → i + k ≤ 2048 → x < 256 ^ k → Proper u.now.dev → Leads base lent u (store table i k x) (λ _ v. Properly (Stands i k x) v)
  leads_stands i k x u l f p =
      leads_map (leads_store table i k x u) λ _ v q. subst⁻¹ (Properly (Stands i k x)) q.0 (proper-store base u p table i k x, stored-stands base i k x u l f p)

  -- the count stored is there after the four stores, and so is `csr`
  stores_count : (s d citer csr : ℕ) (u : World) → citer < 2 ^ 16 → Proper u.now.dev
      → Leads base lent u (minor_stores ch s d citer csr) (λ _ v. Properly (Stands (32 * ch + 0x14) 2 citer) v)
  unfolding minor_stores sparing
  stores_count s d citer csr u l p =
      leads_then (proper_kept (store _ _ _ _) u p) λ _ v q.
      leads_then (proper_kept (store _ _ _ _) v q) λ _ w o.
      leads_then (leads_stands (32 * ch + 0x14) 2 citer w (omega arith) l o) λ _ x k.
      stands_kept (32 * ch + 0x14) 2 citer (each_store _ _ _ _ (inr (omega arith))) x k

  pub stores_csr : (s d citer csr : ℕ) (u : World) → csr < 2 ^ 16 → Proper u.now.dev
      → Leads base lent u (minor_stores ch s d citer csr) (λ _ v. Properly (Stands (32 * ch + 0x1E) 2 csr) v)
  unfolding minor_stores
  stores_csr s d citer csr u l p =
      leads_then (proper_kept (store _ _ _ _) u p) λ _ v q.
      leads_then (proper_kept (store _ _ _ _) v q) λ _ w o.
      leads_then (proper_kept (store _ _ _ _) w o) λ _ x k.
      leads_stands (32 * ch + 0x1E) 2 csr x (omega arith) l k

  -- what spares both spares each of them
  both_kept : {A : Type 0} (c x : ℕ) {m : Act A} → Each (sparing (32 * ch + 0x14) 2) m → Each (sparing_majors ch) m → (u : World)
      → Properly (Stands (32 * ch + 0x14) 2 c) u × Properly (Majors ch x) u
      → Leads base lent u m (λ _ v. Properly (Stands (32 * ch + 0x14) 2 c) v × Properly (Majors ch x) v)
  both_kept c x e f u p = leads_both (stands_kept (32 * ch + 0x14) 2 c e u p.0) (majors_kept ch x f u p.1)

  -- the end of a pass: its stores, INTHALF, then the major end or the link
  minor-counts : (t : Tcd) (s d x : ℕ) (u : World) → t.citer < 2 ^ 16 → 0 < count_of t.citer → Properly (Majors ch x) u
      → Leads base lent u (minor_end ch t s d) (λ _ v. Counted ch (count_of t.citer) x v.now.dev)
  unfolding minor_end sparing_majors sparing count_at citer_at
  minor-counts t s d x u l c p =
      let n = count_of t.citer - 1 in
      let r = recount_law t.citer n l (omega arith) in
      leads_then (leads_both (stores_count s d _ _ u r.1 p.0) (majors_kept ch x (stores_each ch _ _ _ _ (λ a n l b w. tt)) u p)) λ _ v q.
      leads_then (both_kept _ x (each_when _ (λ _. each_change INT _ tt)) (each_when _ (λ _. each_change INT _ (λ v d. refl))) v q) λ _ w o.
      leads_cond (eqb n 0)
      (λ e. leads_map (majors_rise x w o.1) λ _ y k. ended (omega (arith, eqb-true n 0 e)) k.1)
      (λ _.
      leads_map (both_kept _ x (link_each ch _ _ tt (λ f. others_beside ch _ 0x14 2 _ 1 (λ e. f (sym e)) (lit≤ tt) (omega arith) (omega arith)) tt) (link_each ch _ _ tt (λ _. tt) (λ v d. refl)) w o) λ _ y k.
      fewer (rw k.0.1 (ap (λ (m : ℕ). m + 1) r.0 ∙ omega arith)) k.1.1)

  pub descriptor_said : (u : World) → Leads base lent u (descriptor ch) (λ t v. Said ch u t)
  unfolding descriptor go acts.◌>>=◌ fetch tcd_of fetched bytes_of index_of citer_at csr_at
  descriptor_said u = record { answered = made_or (there base table (32 * ch) 32 u.now) }
    where
      t : List ℕ
      t = part u.now.dev.table (32 * ch) 32

      made_or : (b : Bool) → IfAnswered {A = Tcd} (λ t v. Said ch u t) (elim b [ true ↦ ok (tcd_of t) u | false ↦ no 9 u ])
      made_or true = (ap number (part-part u.now.dev.table (32 * ch) 32 0x14 2 (omega arith)), ap number (part-part u.now.dev.table (32 * ch) 32 0x1E 2 (omega arith)))
      made_or false = tt

  -- a pass that answers yes counts one
  pub pass-counts : (u : World) → Proper u.now.dev
      → Leads base lent u (pass ch) (λ went v. went ≡ true → Counted ch (count_at ch u.now.dev) (holds (MAJORS ch) u.now.dev) v.now.dev)
  unfolding pass count_at sparing_majors citer_at
  pass-counts u p =
      let x = holds (MAJORS ch) u.now.dev in
      let c = citer_at ch u.now.dev in
      let fits : c < 2 ^ 16 = part_lt 2 u.now.dev.table (32 * ch + 0x14) 2 p.sound.table_bytes (omega arith) in
      leads_bind (leads_both (descriptor_said u) (majors_kept ch x (descriptor_each ch tt) u (p, refl))) λ t v q.
      leads_bind (majors_kept ch x (each_ask CR) v q.1) λ cr w o.
      leads_cond (eqb (count_of t.citer) 0)
      (λ _. leads_done (λ e. absurd (false≢true e)))
      (λ e.
      leads_bind (majors_kept ch x (transfer_each (record { stage_any = λ n. tt; fetch_unit = λ a n l. tt; store_unit = λ a n l. tt }) t _) w o) λ sd y k.
      leads_then (minor-counts t _ _ x y (omega (arith, q.0.0)) (omega (arith, eqb-false (count_of t.citer) 0 e)) k) λ _ z i.
      leads_done (λ _. rw q.0.0 at i))
