-- The calls, by cases: what is wrong with the arguments, in number order, and what is done. Assumes nothing.
use Rattle.std.specs.Prelude.{Some, None, Ok, Err}
use mathlib.Core.Bool.{Bool, true, false, not, ◌||◌}
use mathlib.Core.List.{List, []}
use mathlib.Core.Option.{Option, some}
use mathlib.Core.Path.{◌≡◌, refl, sym, ap, ◌∙◌}
use Prim.Native.Nat.{ℕ, suc, ◌+◌, ◌-◌, ◌%◌, ◌^◌, ◌≤◌, ◌<◌}
use native.Mathlib.Nat.{mod-mod}
use native.Mathlib.Omega.{arith}
use borrow.Author.Tests.{le-leb, lt-leb, leb-false, ltb-false, ne_eqb, lt-ltb}
use lib.Dec.{eqb, leb, ltb}
use lib.ListN.{length, get_or, set, take, drop}
use lib.Seq.{set-get_or, set-set}
use Rattle.rules.specs.Act.{Act, PENDING, PRIORITY, put}
use Rattle.rules.specs.Calls.{Asked, write, act_of, add_pending, bad_size, bad_journal, bad_sum, is_none, or_nothing, check, wrong, barred, stops, wrong_read, levelled, Told, told, told_after, staging_after, told_reading, refusal_number, world_of, unless_stopped, after, read_unless, after_read, Spared}
use Rattle.rules.specs.Carry.{Out, ok, changed, go, leave, perform, Lent, lending}
use Rattle.rules.specs.Fields.{bits_of, bits_in, parts_of, fields_of}
use Rattle.rules.specs.Registers.{within, in_blocks, in_table, block_of, offset_of, dma_read, dma_write, read_in, read_at, write_in, write_at, controller_write, past_table, past_word}
use Rattle.rules.specs.State.{Device}
use Rattle.rules.specs.View.{view_priorities}
use Rattle.rules.specs.Verdicts.{Heard}
use Rattle.rules.specs.declared.Refusal.{Refusal}
use Rattle.rules.specs.Verdicts.{Verdict}
use Rattle.rules.proofs.BoolLaws.{and_left, and_right, and_both}
use Rattle.rules.proofs.CallLaws.{wrong-alone}
use Rattle.rules.proofs.Proper.{Proper}
use Rattle.rules.proofs.FieldLaws.{sized}
use Rattle.rules.proofs.Told.{refusal_suc}
use Rattle.rules.proofs.ViewLaws.{map_set, priority_viewed}
use Rattle.act.specs.Does.{Answers, Does}
use Rattle.act.specs.Parts.{Arrays, tabled, counted, taking, ordered, whole, SameLevels, told_done}
use Rattle.act.specs.Worlds.{on, came_to}
use Rattle.act.specs.declared.Core.{Core}
use Rattle.act.specs.declared.Done.{Done}
use Rattle.act.proofs.DoesLaws.{does-cut, does-change}
use Rattle.closing.specs.Closes.{noting, add_all, add_end, Notes, NotesOne, Part, core_in, order_in}
use Rattle.closing.specs.Closes.{Noted}
use Rattle.closing.proofs.Parts.{same-part, same-busy, same-majors, same-pending, same_taken, every_noted}
use Rattle.acting.specs.Ending.{begun_at, done_by, cleared_from, Settled, Settles}
use Rattle.acting.specs.declared.Reached.{Reached}
use Rattle.acting.proofs.Laws.{told_made, told-cleared, does-goes, counts-noted, taken-noted}
use Rattle.intc.specs.Writes.{InWord}
use Rattle.masks.proofs.Ranges.{within_true, never}
use Rattle.dma_read.specs.Access.{Fair, is_priority}
use Rattle.registers.specs.Asked.{past_end, past_part, answered}

-- ---- tests

-- what a test of `known` says
pub unknown : {r b : Bool} → r ≡ not b → r ≡ false → b ≡ true
unknown {b = true} e f = refl
unknown {b = false} e f = absurd (let z : ◌≡◌ {A = ℕ} 0 1 = cc in omega arith)

pub known : {r b : Bool} → r ≡ not b → r ≡ true → b ≡ false
known {b = false} e f = refl
known {b = true} e f = absurd (let z : ◌≡◌ {A = ℕ} 0 1 = cc in omega arith)

or_last : (a b : Bool) → a || b ≡ false → b ≡ false
or_last true b h = absurd (let z : ◌≡◌ {A = ℕ} 0 1 = cc in omega arith)
or_last false b h = h

or_false : (a : Bool) → a || false ≡ a
or_false true = refl
or_false false = refl

pub used_fits : (len used : ℕ) {r : Bool} → r ≡ bad_journal len used → r ≡ false → used ≤ len
unfolding bad_journal
used_fits len used e f = ltb-false len used (or_last (ltb (2 ^ 28) len || not (eqb (used % 16) 0)) (ltb len used) (sym e ∙ f))

-- a sum that may be made
pub sum_fits : (standing count : ℕ) {r : Bool} → r ≡ bad_sum standing count → r ≡ false → standing + count < 2 ^ 32
unfolding bad_sum
sum_fits standing count e f = omega (arith, ltb-false (2 ^ 32 - 1) (standing + count) (sym e ∙ f))

-- what stood there, put back
pub put_back : (l : List ℕ) (i v : ℕ) → set (set l i v) i (get_or l i 0) ≡ l
put_back l i v = set-set l i v (get_or l i 0) ∙ set-get_or l i 0

-- an accepted call has no refusal's promise to keep
pub accepted_spares : {v : Verdict} {held held' : List ℕ} → v ≡ (Ok tt) → Spared v held held'
accepted_spares e n f = absurd (let z : ◌≡◌ {A = ℕ} 0 1 = cc in omega arith)

-- ---- refusal 4, by the offset

module _ (off size : ℕ) where
  pub fair : bad_size size ≡ false → past_end off size ≡ false → Fair off size
  unfolding past_end
  fair s p = record { sized = s; inside = λ e. ltb-false 0x1800 (off + size) (rw e at p) }

  -- in the table there is a register
  pub end_there : (d : Device) → past_end off size ≡ true → is_none (dma_read d off size) ≡ false
  unfolding past_end dma_read is_none
  end_there d p = rw (and_left (in_table off) (ltb 0x1800 (off + size)) p)

  past-within : (lo hi : ℕ) → within lo hi off ≡ false → lo ≤ off → hi < off
  unfolding within
  past-within lo hi e h = leb-false off hi (rw (le-leb lo off h) at e)

  pub in_word : past_part off size ≡ false → InWord off size
  unfolding past_part within
  in_word p l h = ltb-false 4 (off % 4 + size) (rw (le-leb 0x08 off l, le-leb off 0x17 h) at p)

  -- and so there is in 0x08..0x17
  pub part-there : (c v : ℕ) → past_part off size ≡ true → is_none (controller_write c off size v) ≡ false
  unfolding past_part controller_write is_none
  part-there c v p = first (within 0x00 0x07 off) refl
    where
      here : (0x08 ≤ off) × (off ≤ 0x17)
      here = within_true 0x08 0x17 off (and_left (within 0x08 0x17 off) (ltb 4 (off % 4 + size)) p)

      third : within 0x08 0x0F off ≡ false → within 0x10 0x17 off ≡ true
      third e = let l : 0x0F < off = past-within 0x08 0x0F e here.0 in unfold within in and_both (le-leb 0x10 off (omega arith)) (le-leb off 0x17 here.1)

      second : within 0x00 0x07 off ≡ false → (b : Bool) → within 0x08 0x0F off ≡ b → is_none (controller_write c off size v) ≡ false
      second f true e = rw (f, e)
      second f false e = rw (f, e, third e)

      first : (b : Bool) → within 0x00 0x07 off ≡ b → is_none (controller_write c off size v) ≡ false
      first true e = rw e
      first false e = second e (within 0x08 0x0F off) refl

-- ---- the number of what is wrong with a write within a block

module _ (does : Option (Act (Unit {0}))) (past bad : Bool) where
  abbrev number : ℕ
  number = check (is_none does) 3 (check past 4 (check bad 6 0))

  pub no_register : is_none does ≡ true → number ≡ 3
  unfolding check
  no_register e = rw e

  module _ (e : is_none does ≡ false) where
    pub crossing : past ≡ true → number ≡ 4
    unfolding check
    crossing f = rw (e, f)

    module _ (f : past ≡ false) where
      pub bad_group : bad ≡ true → number ≡ 6
      unfolding check
      bad_group g = rw (e, f, g)

      pub nothing-wrong : bad ≡ false → number ≡ 0
      unfolding check
      nothing-wrong g = rw (e, f, g)

-- ---- refused, accepted

module _ (m : Act Heard) (base : ℕ) (d : Device) (w staging j : List ℕ) (used : ℕ) where
  told-no : (why : Refusal) → told (refusal_number why) None d w staging j used ≡ answered (refusal_number why) m base d w staging j used
  unfolding answered unless_stopped
  told-no why = rw (refusal_suc why).1 refl

  pub accepts : {n : ℕ} {x : Told} → n ≡ 0 → x ≡ told_after staging used (perform base (lending (length staging)) m (world_of d w j used)) → x ≡ answered n m base d w staging j used
  unfolding answered unless_stopped
  accepts e q = rw e q

-- of a device in parts
pub refuses : (m : Act Heard) (base : ℕ) (k : Core) (x : Arrays) (w staging j : List ℕ) (used : ℕ) (why : Refusal) {n : ℕ} {r : Done}
    → r ≡ record { verdict = Err why; used = used; core = k } → n ≡ refusal_number why → told_done None r x w staging j ≡ answered n m base (whole k x) w staging j used
refuses m base k x w staging j used why e f = rw (e, f) (told-no m base (whole k x) w staging j used why)

-- a call that leaves staging as it is
pub stopped_after : (c : Asked) (base : ℕ) (d : Device) (w staging j : List ℕ) (used : ℕ) → staging_after c staging ≡ staging
    → answered (stops base (length w) (length j) used c d) (act_of c) base d w staging j used ≡ after c base d w staging j used
unfolding answered after
stopped_after c base d w staging j used e = rw e refl

-- and that no device bars
pub asked_after : (c : Asked) (base : ℕ) (d : Device) (w staging j : List ℕ) (used : ℕ) → staging_after c staging ≡ staging → barred c d ≡ 0
    → answered (wrong base (length w) (length j) used c) (act_of c) base d w staging j used ≡ after c base d w staging j used
asked_after c base d w staging j used e b =
    ap (λ n. answered n (act_of c) base d w staging j used) (sym (wrong-alone base (length w) (length j) used c d b)) ∙ stopped_after c base d w staging j used e

-- ---- write, by the block

-- the refusals before a block is known
pub write-no : (address size v base : ℕ) (k : Core) (x : Arrays) (w staging j : List ℕ) (used : ℕ) (why : Refusal) {r : Done}
    → r ≡ record { verdict = Err why; used = used; core = k } → wrong base (length w) (length j) used (write address size v) ≡ refusal_number why
    → told_done None r x w staging j ≡ after (write address size v) base (whole k x) w staging j used
unfolding staging_after barred
write-no address size v base k x w staging j used why e f =
    refuses (act_of (write address size v)) base k x w staging j used why e f ∙ asked_after (write address size v) base (whole k x) w staging j used refl refl

module _ (address size v base : ℕ) (d : Device) (w staging j : List ℕ) (used : ℕ) where
  abbrev off : ℕ
  off = address % 0x4000

  pub wrong_size : bad_size size ≡ true → wrong base (length w) (length j) used (write address size v) ≡ 1
  unfolding wrong check
  wrong_size e = rw e

  module _ (s : bad_size size ≡ false) where
    pub wrong_address : in_blocks address ≡ false → wrong base (length w) (length j) used (write address size v) ≡ 2
    unfolding wrong check
    wrong_address e = rw (s, e)

    module _ (b : in_blocks address ≡ true) where
      pub write_dma_after : block_of address ≡ 0
          → answered (number (dma_write off size v) (past_end off size) (bad_journal (length j) used)) (levelled (or_nothing (dma_write off size v))) base d w staging j used
          ≡ after (write address size v) base d w staging j used
      unfolding staging_after barred wrong check act_of write_at write_in offset_of past_table past_word past_end
      write_dma_after z = rw (← asked_after (write address size v) base d w staging j used refl refl, s, b, z, or_false)

      pub write-controller-after : (c : ℕ) → block_of address ≡ suc c
          → answered (number (controller_write c off size v) (past_part off size) (bad_journal (length j) used)) (levelled (or_nothing (controller_write c off size v))) base d w staging j used
          ≡ after (write address size v) base d w staging j used
      unfolding staging_after barred wrong check act_of write_at write_in offset_of past_table past_word past_part
      write-controller-after c z =
          rw (← asked_after (write address size v) base d w staging j used refl refl, s, b, z, ne_eqb (suc c) 0 (λ e. omega arith), lt-ltb 0 (suc c) (omega arith))

-- a DMA write begins with a core's numbers and the table t, and comes to the table t'
pub dma_goes : (base : ℕ) (lent : Lent) (act : Act (Unit {0})) (k : Core) (x : Arrays) (t t' : List ℕ) (w j : List ℕ) (at : ℕ) {o : Out (Unit {0})}
    → o ≡ on base lent act (came_to (Ok (record { scalars = k.scalars; at = at })) (whole k (tabled x t')) w j t x.majors) → o ≡ go base lent act (world_of (whole k (tabled x t)) w j at)
unfolding on came_to
dma_goes base lent act k x t t' w j at f = f

-- ---- read, by the block

module _ (d : Device) (address size : ℕ) where
  abbrev place : ℕ
  place = address % 0x4000

  pub read_no-size : bad_size size ≡ true → told_reading (Err Refusal.Size) ≡ after_read d address size
  unfolding after_read wrong_read check read_unless
  read_no-size e = rw e

  module _ (s : bad_size size ≡ false) where
    pub read_no_block : in_blocks address ≡ false → told_reading (Err Refusal.Address) ≡ after_read d address size
    unfolding after_read wrong_read check read_unless
    read_no_block e = rw (s, e)

    module _ (b : in_blocks address ≡ true) where
      pub read_dma_after : block_of address ≡ 0
          → read_unless (check (is_none (dma_read d place size)) 3 (check (past_end place size) 4 0)) (dma_read d place size) ≡ after_read d address size
      unfolding after_read wrong_read check read_at read_in offset_of past_table past_end
      read_dma_after z = rw (s, b, z)

      pub read_controller-after : (c : ℕ) → block_of address ≡ suc c
          → read_unless (check (is_none (read_in d (suc c) place size)) 3 0) (read_in d (suc c) place size) ≡ after_read d address size
      unfolding after_read wrong_read check read_at offset_of past_table
      read_controller-after c z = rw (s, b, z, ne_eqb (suc c) 0 (λ e. omega arith))

-- ---- acts on a device in parts, from what their steps and their last records ensure

-- how an act without a store settles
pub stored_settled : (base : ℕ) (lent : Lent) (act : Act (Unit {0})) (d : Device) (k : Core) (x : Arrays) (w j : List ℕ) (used : ℕ) (s : Reached) → Proper d → used ≤ length j
    → Settles k (Ok (record { scalars = k.scalars; at = used })) s → Does act d (whole k x) → Settled k x (Ok (record { scalars = k.scalars; at = used })) s base lent act d w j w j used
stored_settled base lent act d k x w j used s p fits settles does = settles x base lent act d w j w j used p fits (does-goes base lent act d k x w j used does)

-- there are 64 counts
pub counts-long : (k : Core) (x : Arrays) (q : List ℕ) → Proper (whole k (counted x q)) → length q ≡ 64
counts-long k x q p = (same-pending k (counted x q) p None []).long

pub pending-does : (k : Core) (x : Arrays) (q : List ℕ) (ch count : ℕ) → get_or q ch 0 + count < 2 ^ 32
    → Does (add_pending ch count) (whole k (counted x q)) (whole k (counted x (set q ch (get_or q ch 0 + count))))
unfolding add_pending bits_of
pending-does k x q ch count h = does-change (whole k (counted x q)) (PENDING ch) (λ old. old + count) h

-- an act without a store, which came from the arrays y to y', and its last records
module _ (k : Core) (s : Reached) (y y' : Arrays) (used : ℕ) (j : List ℕ) (act : Act (Unit {0})) (p : Proper (whole k y)) (fits : used ≤ length j)
    (settles : Settles k (Ok (record { scalars = k.scalars; at = used })) s) (does : Does act (whole k y) (whole k y')) {n : Noted} {j₁ : List ℕ}
    (noted : SameLevels k s.core → noting n j₁ ≡ add_end used (add_all (changed 0 (fields_of (whole k y)) (fields_of (whole s.core y'))) (noting (begun_at s.walk) j)))
    (r : Done) (is : r ≡ done_by k s n used) (base : ℕ) (w staging : List ℕ)
  where
    abbrev lends : Lent
    lends = lending (length staging)

    went : Settled k y' (Ok (record { scalars = k.scalars; at = used })) s base lends act (whole k y) w j w j used
    went = stored_settled base lends act (whole k y) k y' w j used s p fits settles does

    act_made : r.verdict ≡ (Ok tt)
        → told_done None r y' w staging j₁ ≡ told_after staging used (perform base lends (levelled act) (world_of (whole k y) w j used))
    act_made v = told_made k y y' None used w j w j j₁ fits went.since base lends (levelled act) s n went.later went.left (noted went.levels) r is staging v

    -- the arrays are put back
    act_unmade : {why : Refusal} {j₂ : List ℕ} → r.verdict ≡ Err why → j₂ ≡ cleared_from used j₁
        → told_done None r y w staging j₂ ≡ told_after staging used (perform base lends (levelled act) (world_of (whole k y) w j used))
    act_unmade v c = told-cleared k y y' None used w j w j j₁ fits went.since base lends (levelled act) s n went.later went.left (noted went.levels) r is staging v c

-- pending counts
module _ (k : Core) (s : Reached) (x : Arrays) (q q' : List ℕ) (used : ℕ) (j : List ℕ) (act : Act (Unit {0})) (p : Proper (whole k (counted x q))) (fits : used ≤ length j)
    (settles : Settles k (Ok (record { scalars = k.scalars; at = used })) s) (does : Does act (whole k (counted x q)) (whole k (counted x q')))
    {b t₁ t₂ n : Noted} {j₁ j₂ j₃ : List ℕ} (begins : b ≡ begun_at s.walk) (core : Notes 0 (core_in k) (core_in s.core) b t₁ j j₁) (counts : Part 64 192 q q' t₁ t₂ j₁ j₂)
    (end : noting n j₃ ≡ add_end used (noting t₂ j₂)) (r : Done) (is : r ≡ done_by k s n used) (base : ℕ) (w staging : List ℕ)
  where
    counts_in : SameLevels k s.core → noting n j₃ ≡ add_end used (add_all (changed 0 (fields_of (whole k (counted x q))) (fields_of (whole s.core (counted x q')))) (noting (begun_at s.walk) j))
    counts_in same-sources = counts-noted k s (counted x q) p q' used j begins same-sources core counts end

    pub counts-made : r.verdict ≡ (Ok tt)
        → told_done None r (counted x q') w staging j₃ ≡ told_after staging used (perform base (lending (length staging)) (levelled act) (world_of (whole k (counted x q)) w j used))
    counts-made v = act_made k s (counted x q) (counted x q') used j act p fits settles does counts_in r is base w staging v

    pub counts-unmade : {why : Refusal} {q₄ j₄ : List ℕ} → r.verdict ≡ Err why → q₄ ≡ q → j₄ ≡ cleared_from used j₃
        → told_done None r (counted x q₄) w staging j₄ ≡ told_after staging used (perform base (lending (length staging)) (levelled act) (world_of (whole k (counted x q)) w j used))
    counts-unmade v e c = rw e (act_unmade k s (counted x q) (counted x q') used j act p fits settles does counts_in r is base w staging v c)

-- ---- priorities

-- such an access has a register, and does not run past the table
module _ (off size : ℕ) (e : is_priority off size ≡ true) where
  pub priority_there : (0x100 ≤ off) × (off ≤ 0x13F)
  unfolding is_priority
  priority_there = within_true 0x100 0x13F off (and_right (eqb size 1) (within 0x100 0x13F off) e)

  no_table : in_table off ≡ false
  unfolding in_table within
  no_table = rw (lt-leb 0x1000 off (omega (arith, priority_there)))

  no-command : within 0x18 0x1F off ≡ false
  unfolding within
  no-command = rw (lt-leb off 0x1F (omega (arith, priority_there)), never (leb 0x18 off))

  pub priority_write : (v : ℕ) → dma_write off size v ≡ some (put (PRIORITY (off - 0x100)) v)
  unfolding dma_write is_priority
  priority_write v = rw (no_table, no-command, never (eqb size 1), e)

  pub priority_inside : past_end off size ≡ false
  unfolding past_end
  priority_inside = rw no_table

-- of what is held, the bits of the mode count: they stay when they are cut again
module _ (chip : Bool) (l : List ℕ) (ch v : ℕ) where
  abbrev cut : ℕ
  cut = v % 2 ^ bits_in chip (PRIORITY 0)

  priority_set : view_priorities chip (set l ch cut) ≡ set (view_priorities chip l) ch cut
  priority_set = map_set (λ (x : ℕ). x % 2 ^ bits_in chip (PRIORITY 0)) l ch cut ∙ ap (set (view_priorities chip l) ch) (mod-mod v (2 ^ bits_in chip (PRIORITY 0)))

  priority_does : (k : Core) (x : Arrays) → Does (put (PRIORITY ch) v) (whole k (ordered x l chip)) (whole k (ordered x (set l ch cut) chip))
  unfolding bits_of
  priority_does k x = rw priority_set (does-cut (whole k (ordered x l chip)) (PRIORITY ch) v)

module _ (k : Core) (s : Reached) (x : Arrays) (chip : Bool) (l : List ℕ) (ch v used : ℕ) (j : List ℕ) (p : Proper (whole k (ordered x l chip))) (fits : used ≤ length j)
    (settles : Settles k (Ok (record { scalars = k.scalars; at = used })) s) {b t₁ t₂ n : Noted} {j₁ j₂ j₃ : List ℕ} {old new : ℕ} (begins : b ≡ begun_at s.walk)
    (core : Notes 0 (core_in k) (core_in s.core) b t₁ j j₁) (was : old ≡ get_or l ch 0 % 2 ^ bits_in chip (PRIORITY 0)) (is-now : new ≡ v % 2 ^ bits_in chip (PRIORITY 0))
    (order : NotesOne 64 768 ch old new t₁ t₂ j₁ j₂) (end : noting n j₃ ≡ add_end used (noting t₂ j₂)) (r : Done) (is : r ≡ done_by k s n used) (base : ℕ) (w staging : List ℕ)
  where
    abbrev y : Arrays
    y = ordered x l chip

    abbrev y' : Arrays
    y' = ordered x (set l ch (v % 2 ^ bits_in chip (PRIORITY 0))) chip

    long : length (view_priorities chip l) ≡ 64
    unfolding parts_of
    long = (sized (whole k y) p.sound).1.1.1.1.1.1.1.1.1.1.1.0

    one_noted : Notes 768 (order_in y) (order_in y') t₁ t₂ j₁ j₂
    one_noted = rw (priority_set chip l ch v, ← is-now) (order (view_priorities chip l) long (priority_viewed chip l ch ∙ sym was)).noted

    noted : SameLevels k s.core → noting n j₃ ≡ add_end used (add_all (changed 0 (fields_of (whole k y)) (fields_of (whole s.core y'))) (noting (begun_at s.walk) j))
    noted same-sources =
        end
        ∙ ap (add_end used)
        (every_noted k s.core y y' b j core (same-busy k y p t₁ j₁) (same-majors k y p t₁ j₁) (same-pending k y p t₁ j₁) (same-part k s.core y p same-sources t₁ j₁) (same_taken k y p t₁ j₁)
        one_noted
        ∙ ap (λ (z : Noted). add_all (changed 0 (fields_of (whole k y)) (fields_of (whole s.core y'))) (noting z j)) begins)

    pub priority_made : r.verdict ≡ (Ok tt)
        → told_done None r (ordered x (set l ch new) chip) w staging j₃ ≡ told_after staging used (perform base (lending (length staging)) (levelled (put (PRIORITY ch) v)) (world_of (whole k y) w j used))
    priority_made e = rw is-now (act_made k s y y' used j (put (PRIORITY ch) v) p fits settles (priority_does chip l ch v k x) noted r is base w staging e)

    pub priority_unmade : {why : Refusal} {l₄ j₄ : List ℕ} → r.verdict ≡ Err why → l₄ ≡ l → j₄ ≡ cleared_from used j₃
        → told_done None r (ordered x l₄ chip) w staging j₄ ≡ told_after staging used (perform base (lending (length staging)) (levelled (put (PRIORITY ch) v)) (world_of (whole k y) w j used))
    priority_unmade e f c = rw f (act_unmade k s y y' used j (put (PRIORITY ch) v) p fits settles (priority_does chip l ch v k x) noted r is base w staging e c)

-- ---- acknowledge

heard_left : (base : ℕ) (lent : Lent) (m : Act Heard) (d e : Device) (w j : List ℕ) (used : ℕ) (h : Heard) → Answers m d h e
    → perform base lent m (world_of d w j used) ≡ leave (world_of d w j used) (ok h (world_of e w j used))
unfolding perform Answers
heard_left base lent m d e w j used h a = rw (a base lent w (take used j) (drop used j)) refl

module _ (k : Core) (x : Arrays) (q q' : List ℕ) (used : ℕ) (j : List ℕ) (m : Act Heard) (h : Heard) (p : Proper (whole k (taking x q))) (fits : used ≤ length j)
    (answers : Answers m (whole k (taking x q)) h (whole k (taking x q'))) {t n : Noted} {j₁ j₂ : List ℕ} (counts : Part 192 576 q q' (Some used) t j j₁)
    (end : noting n j₂ ≡ add_end used (noting t j₁)) (r : Done) (is : r ≡ done_by k (record { walk = Ok used; core = k }) n used) (base : ℕ) (w staging : List ℕ)
  where
    abbrev left : perform base (lending (length staging)) m (world_of (whole k (taking x q)) w j used) ≡ leave (world_of (whole k (taking x q)) w j used) (ok h (world_of (whole k (taking x q')) w j used))
    left = heard_left base (lending (length staging)) m (whole k (taking x q)) (whole k (taking x q')) w j used h answers

    pub heard_made : r.verdict ≡ (Ok tt)
        → told_done h r (taking x q') w staging j₂ ≡ told_after staging used (perform base (lending (length staging)) m (world_of (whole k (taking x q)) w j used))
    heard_made v =
        told_made k (taking x q) (taking x q') h used w j w j j₂ fits (record { front = refl; long = refl }) base (lending (length staging)) m (record { walk = Ok used; core = k }) n (omega arith) left
        (taken-noted k (taking x q) p q' used used j counts end) r is staging v

    pub heard_unmade : {why : Refusal} {j₃ : List ℕ} → r.verdict ≡ Err why → j₃ ≡ cleared_from used j₂
        → told_done None r (taking x q) w staging j₃ ≡ told_after staging used (perform base (lending (length staging)) m (world_of (whole k (taking x q)) w j used))
    heard_unmade v c =
        told-cleared k (taking x q) (taking x q') h used w j w j j₂ fits (record { front = refl; long = refl }) base (lending (length staging)) m (record { walk = Ok used; core = k }) n (omega arith) left
        (taken-noted k (taking x q) p q' used used j counts end) r is staging v c
