-- Which channels can gain or lose START in a pass: the channel itself, and those that its count and its `csr` name as links. Assumes nothing.
use mathlib.Core.Bool.{Bool, true, false, cond}
use mathlib.Core.List.{List}
use mathlib.Core.Path.{◌≡◌, refl, sym, ap, ◌∙◌, subst⁻¹}
use Prim.Native.Nat.{ℕ, ◌+◌, ◌-◌, ◌*◌, ◌/◌, ◌%◌, ◌^◌, ◌<◌, ◌≤◌}
use native.Mathlib.Nat.{mod-eq_of_lt}
use native.Mathlib.Omega.{arith}
use lib.Bits.{bit_and, bit_or, and_shr, or_shr, or_zero_r, and_mask}
use lib.Dec.{eqb, lit<, lit≤}
use borrow.Author.Tests.{eqb-false, ne_eqb}
use Rattle.rules.specs.Act.{Act, Space, window, table, when, BUSY, MAJORS, PENDING}
use Rattle.rules.specs.Bytes.{number, part}
use Rattle.rules.specs.Carry.{World, with_bytes_of, with_device, stored, recorded, Lent}
use Rattle.rules.specs.Minor.{START, ACTIVE, DONE, major_end, link_to, started, minor_end, pass}
use Rattle.rules.specs.Scalars.{CR, INT, KICK, DEADLINE}
use Rattle.rules.specs.Run.{paced, chip_turn}
use Rattle.rules.specs.Words.{gain, lose, without, linked, link_of, count_of, recount}
use Rattle.rules.specs.declared.Tcd.{Tcd}
use Rattle.rules.proofs.BytesLaws.{part_lt}
use Rattle.rules.proofs.Each.{Rights, Each, Properly, each_keeps, at_done, ◌>>◌, each_ask, each_put, each_change, each_when}
use Rattle.rules.proofs.Proper.{Proper}
use Rattle.rules.proofs.FieldLaws.{put_law}
use Rattle.rules.proofs.Leads.{Leads, leads_bind, leads_then, leads_both, leads_done, leads_cond, leads_end, proper_kept}
use Rattle.rules.proofs.Masks.{gain_fits, lose_le, and_not}
use Rattle.rules.proofs.PassLaws.{OnWindow, OnOwn, transfer_each, descriptor_each, link_each, reload_each, flags_each, stores_each, sparing, Stands, others_beside, stands_kept, stores_csr, citer_at, csr_at, descriptor_said}

-- ---- `csr` as a pass stores it names the same link

lost_above : (i m : ℕ) → (2 ^ 16 - 1 - 2 ^ i) / 2 ^ 8 ≡ 2 ^ 8 - 1 → 2 ^ i < 2 ^ 16 → m < 2 ^ 16 → lose m i / 2 ^ 8 ≡ m / 2 ^ 8
unfolding lose without
lost_above i m e f h =
    ap (λ (x : ℕ). x / 2 ^ 8) (sym (and_not 16 m (2 ^ i) h f))
    ∙ and_shr m ((2 ^ 16 - 1) - 2 ^ i) 8
    ∙ ap (bit_and (m / 2 ^ 8)) e
    ∙ and_mask (m / 2 ^ 8) 8
    ∙ mod-eq_of_lt (omega arith)

gained_above : (i m : ℕ) → 2 ^ i / 2 ^ 8 ≡ 0 → gain m i / 2 ^ 8 ≡ m / 2 ^ 8
unfolding gain
gained_above i m e = or_shr m (2 ^ i) 8 ∙ ap (bit_or (m / 2 ^ 8)) e ∙ or_zero_r (m / 2 ^ 8)

started_fits : (csr : ℕ) → csr < 2 ^ 16 → started csr < 2 ^ 16
unfolding started
started_fits csr h =
    let a : lose csr START < 2 ^ 16 = omega (arith, lose_le csr START) in
    let b : gain (lose csr START) ACTIVE < 2 ^ 16 = gain_fits 16 (lose csr START) ACTIVE (lit< tt) a in
    omega (arith, lose_le (gain (lose csr START) ACTIVE) DONE)

started-link : (csr : ℕ) → csr < 2 ^ 16 → started csr / 2 ^ 8 ≡ csr / 2 ^ 8
unfolding started
started-link csr h =
    let a : lose csr START < 2 ^ 16 = omega (arith, lose_le csr START) in
    let b : gain (lose csr START) ACTIVE < 2 ^ 16 = gain_fits 16 (lose csr START) ACTIVE (lit< tt) a in
    lost_above DONE (gain (lose csr START) ACTIVE) refl (lit< tt) b
    ∙ gained_above ACTIVE (lose csr START) refl
    ∙ lost_above START csr refl (lit< tt) h

-- ---- what a pass stores to byte 0x1F of other channels

-- c is neither the channel nor one of those that its descriptor names
pub record Apart (ch c : ℕ) (tb : List ℕ) : Type 0 where
  pub not_own : c ≡ ch → ⊥
  pub not_minor : c ≡ link_of (number (part tb (32 * ch + 0x14) 2)) → ⊥
  pub not_major : c ≡ number (part tb (32 * ch + 0x1E) 2) / 2 ^ 8 % 2 ^ 6 → ⊥

-- that byte
abbrev pub Flags : ℕ → ℕ → World → Type 0
Flags c x u = Stands (32 * c + 0x1F) 1 x u

module _ (ch c : ℕ) (own : c ≡ ch → ⊥) where
  own_beside : (a n : ℕ) → 32 * ch ≤ a → a + n ≤ 32 * ch + 32 → (sparing (32 * c + 0x1F) 1).may_store table a n
  unfolding sparing
  own_beside a n l b = others_beside c ch 0x1F 1 a n own (lit≤ tt) l b

  linked-beside : (to : ℕ) → (c ≡ to → ⊥) → (sparing (32 * c + 0x1F) 1).may_store table (32 * to + 0x1F) 1
  unfolding sparing
  linked-beside to f = others_beside c to 0x1F 1 _ 1 f (lit≤ tt) (omega arith) (omega arith)

  link_spares : (on : Bool) (to : ℕ) → (c ≡ to → ⊥) → Each (sparing (32 * c + 0x1F) 1) (link_to ch on to)
  unfolding sparing
  link_spares on to f = link_each ch on to tt (λ _. linked-beside to f) tt

  -- the link of a count that is one less is the same, if it still has one
  counted_spares : (raw n : ℕ) → raw < 2 ^ 16 → n < count_of raw → (c ≡ link_of raw → ⊥) → Each (sparing (32 * c + 0x1F) 1) (link_to ch (linked (recount raw n)) (link_of (recount raw n)))
  unfolding link_to sparing
  counted_spares raw n l k f = either (linked raw) refl k
    where
      either : (b : Bool) → linked raw ≡ b → n < cond b (raw % 2 ^ 9) (raw % 2 ^ 15)
          → Each (sparing (32 * c + 0x1F) 1) (link_to ch (linked (cond b (raw / 2 ^ 9 * 2 ^ 9 + n) n)) (link_of (cond b (raw / 2 ^ 9 * 2 ^ 9 + n) n)))
      either true e k =
          let same : link_of (raw / 2 ^ 9 * 2 ^ 9 + n) ≡ link_of raw = omega arith in
          link_spares (linked (raw / 2 ^ 9 * 2 ^ 9 + n)) (link_of (raw / 2 ^ 9 * 2 ^ 9 + n)) (λ g. f (g ∙ same))
      either false e k = let gone : linked n ≡ false = ne_eqb (n / 2 ^ 15 % 2) 1 (omega arith) in rw gone (unfold when in at_done)

  on_window : OnWindow (sparing (32 * c + 0x1F) 1)
  unfolding sparing
  on_window = record { stage_any = λ n. tt; fetch_unit = λ a n l. tt; store_unit = λ a n l. tt }

  own_spares : OnOwn (sparing (32 * c + 0x1F) 1) ch
  own_spares a n l b w = own_beside a n l b

module _ {base : ℕ} {lent : Lent} (ch c x : ℕ) (h : ch < 64) (own : c ≡ ch → ⊥) where
  -- the byte, and beside it the channel's own `csr`
  both_stand : {A : Type 0} (csr : ℕ) {m : Act A} → Each (sparing (32 * c + 0x1F) 1) m → Each (sparing (32 * ch + 0x1E) 2) m → (u : World)
      → Properly (Flags c x) u × Properly (Stands (32 * ch + 0x1E) 2 csr) u
      → Leads base lent u m (λ _ v. Properly (Flags c x) v × Properly (Stands (32 * ch + 0x1E) 2 csr) v)
  both_stand csr e f u p = leads_both (stands_kept (32 * c + 0x1F) 1 x e u p.0) (stands_kept (32 * ch + 0x1E) 2 csr f u p.1)

  -- the major end links by `csr` as it stands then
  major_spares : (csr : ℕ) (u : World) → (c ≡ csr / 2 ^ 8 % 2 ^ 6 → ⊥) → Properly (Flags c x) u × Properly (Stands (32 * ch + 0x1E) 2 csr) u
      → Leads base lent u (major_end ch) (λ _ v. Properly (Flags c x) v)
  unfolding major_end sparing csr_at
  major_spares csr u f p =
      leads_bind (leads_both (descriptor_said ch h u) (stands_kept (32 * c + 0x1F) 1 x (descriptor_each ch tt) u p.0)) λ t v q.
      let e : t.csr ≡ csr = q.0.1 ∙ p.1.1 in
      stands_kept (32 * c + 0x1F) 1 x
      (do
        each_change (MAJORS ch) _ tt
        reload_each ch t (on_window ch c own) (own_spares ch c own) tt
        flags_each ch t.csr tt tt
        link_spares ch c own _ _ (λ g. f (g ∙ ap (λ (n : ℕ). n / 2 ^ 8 % 2 ^ 6) e)))
      v q.1

  minor_spares : (t : Tcd) (s d : ℕ) (u : World) → t.citer < 2 ^ 16 → t.csr < 2 ^ 16 → 0 < count_of t.citer → (c ≡ link_of t.citer → ⊥) → (c ≡ t.csr / 2 ^ 8 % 2 ^ 6 → ⊥)
      → Properly (Flags c x) u → Leads base lent u (minor_end ch t s d) (λ _ v. Properly (Flags c x) v)
  unfolding minor_end sparing
  minor_spares t s d u l k n f g p =
      leads_then
      (leads_both (stands_kept (32 * c + 0x1F) 1 x (stores_each ch _ _ _ _ (own_spares ch c own)) u p) (stores_csr ch h s d _ (started t.csr) u (started_fits t.csr k) p.0)) λ _ v q.
      leads_then (both_stand (started t.csr) (each_when _ (λ _. each_change INT _ tt)) (each_when _ (λ _. each_change INT _ tt)) v q) λ _ w o.
      leads_cond (eqb (count_of t.citer - 1) 0)
      (λ _. major_spares (started t.csr) w (λ e. g (e ∙ ap (λ (m : ℕ). m % 2 ^ 6) (started-link t.csr k))) o)
      (λ _. stands_kept (32 * c + 0x1F) 1 x (counted_spares ch c own t.citer _ l (omega arith) f) w o.0)

-- a pass leaves byte 0x1F, and so START, of every other channel as it was
pub pass_spares : {base : ℕ} {lent : Lent} (ch c : ℕ) → ch < 64 → (u : World) → Proper u.now.dev → Apart ch c u.now.dev.table
    → Leads base lent u (pass ch) (λ _ v. Flags c (number (part u.now.dev.table (32 * c + 0x1F) 1)) v)
unfolding pass sparing citer_at csr_at
pass_spares ch c h u p a =
    let x = number (part u.now.dev.table (32 * c + 0x1F) 1) in
    let spare : Each (sparing (32 * c + 0x1F) 1) _ = descriptor_each ch tt in
    let i : citer_at ch u.now.dev < 2 ^ 16 = part_lt 2 u.now.dev.table (32 * ch + 0x14) 2 p.sound.table_bytes (omega arith) in
    let j : csr_at ch u.now.dev < 2 ^ 16 = part_lt 2 u.now.dev.table (32 * ch + 0x1E) 2 p.sound.table_bytes (omega arith) in
    leads_bind (leads_both (descriptor_said ch h u) (stands_kept (32 * c + 0x1F) 1 x spare u (p, refl))) λ t v q.
    leads_bind (stands_kept (32 * c + 0x1F) 1 x (each_ask CR) v q.1) λ cr w o.
    leads_cond (eqb (count_of t.citer) 0)
    (λ _. leads_done o.1)
    (λ e.
    leads_bind (stands_kept (32 * c + 0x1F) 1 x (transfer_each (on_window ch c a.not_own) t _) w o) λ sd y k.
    leads_then
    (minor_spares ch c x h a.not_own t _ _ y (omega (arith, q.0.0)) (omega (arith, q.0.1)) (omega (arith, eqb-false (count_of t.citer) 0 e))
    (λ g. a.not_minor (g ∙ ap link_of q.0.0)) (λ g. a.not_major (g ∙ ap (λ (n : ℕ). n / 2 ^ 8 % 2 ^ 6) q.0.1)) k) λ _ z b.
    leads_done b.1)

-- ---- and so does a turn of the chip's mode

-- an act that stores nothing to the table leaves it
abbrev OffTable : Space → ℕ → ℕ → Type 0
OffTable window a n = Unit {0}
OffTable table a n = ⊥

unfoldable off_table : Rights
off_table = record { may_stage = λ n. Unit {0}; may_fetch = λ sp a n. Unit {0}; may_store = OffTable; may_put = λ f. Unit {0} }

abbrev Tabled : List ℕ → World → Type 0
Tabled tb v = v.now.dev.table ≡ tb

off-table : (base : ℕ) (tb : List ℕ) (sp : Space) (a n v : ℕ) (u : World) → OffTable sp a n → Tabled tb u → Tabled tb (recorded base sp a n v u)
unfolding recorded stored with_bytes_of
off-table base tb window a n v u o p = p
off-table base tb table a n v u o p = absurd o

table_kept : {base : ℕ} {lent : Lent} {A : Type 0} (tb : List ℕ) {m : Act A} → Each off_table m → (u : World) → Properly (Tabled tb) u → Leads base lent u m (λ _ v. Properly (Tabled tb) v)
unfolding off_table with_device
table_kept {base} {lent} tb {m} e u p =
    leads_end m u
    (each_keeps base lent off_table (Tabled tb) (λ sp a n v w _ o _ h. off-table base tb sp a n v w o h) (λ f v w q _ h. (put_law f _ w.now.dev q.sound.three).table ∙ h) e u p)

pub turn_spares : {base : ℕ} {lent : Lent} (now pace ch c : ℕ) → ch < 64 → (u : World) → Proper u.now.dev → Apart ch c u.now.dev.table
    → Leads base lent u (chip_turn now pace ch) (λ _ v. Flags c (number (part u.now.dev.table (32 * c + 0x1F) 1)) v)
unfolding chip_turn paced off_table
turn_spares now pace ch c h u p a =
    let tb = u.now.dev.table in
    let byte : List ℕ → ℕ = λ t. number (part t (32 * c + 0x1F) 1) in
    leads_then (table_kept tb (each_change KICK _ tt) u (p, refl)) λ _ v q.
    leads_bind (table_kept tb (descriptor_each ch tt) v q) λ t w o.
    leads_then (table_kept tb (each_when _ (λ _. each_change (PENDING ch) _ tt)) w o) λ _ x r.
    leads_bind (leads_both (pass_spares ch c h x r.0 (subst⁻¹ (Apart ch c) r.1 a)) (proper_kept (pass ch) x r.0)) λ went y k.
    leads_then
    (table_kept y.now.dev.table
    (each_when _ (λ _. do
      each_put (BUSY 35) _ tt
      each_change DEADLINE _ tt))
    y (k.1, refl)) λ _ z l.
    leads_done (ap byte l.1 ∙ k.0 ∙ ap byte r.1)
