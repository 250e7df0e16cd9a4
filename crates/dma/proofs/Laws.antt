-- Which arm of `dma_write` a write is, and what the arms do. Assumes nothing.
use mathlib.Core.Bool.{Bool, true, false, cond, not, ◌&&◌}
use mathlib.Core.List.{List}
use mathlib.Core.Option.{none, some}
use mathlib.Core.Logic.{◌⊎◌, inl, inr}
use mathlib.Core.Path.{◌≡◌, refl, sym, ◌∙◌}
use Prim.Native.Nat.{ℕ, ◌+◌, ◌-◌, ◌*◌, ◌/◌, ◌^◌, ◌≤◌, ◌<◌}
use borrow.Author.Tests.{ne_eqb}
use lib.Bits.{bit_or}
use lib.Dec.{ltb}
use lib.ListN.{length}
use Rattle.rules.specs.State.{Device}
use Rattle.rules.specs.Act.{Act, Field, PRIORITY, table, fetch, store, put, change, when, ◌>>=◌}
use Rattle.rules.specs.Scalars.{KICK}
use Rattle.rules.specs.Bytes.{number}
use Rattle.rules.specs.Calls.{is_none, bad_size}
use Rattle.rules.specs.Carry.{Out, legal, Lent}
use Rattle.rules.specs.Fields.{bits_in, holds, with_field}
use Rattle.rules.specs.Registers.{within, in_table, command, table_write, pick, dma_arms, dma_write}
use Rattle.rules.specs.Minor.{START}
use Rattle.rules.specs.Words.{has, gain}
use Rattle.act.specs.Does.{Does}
use Rattle.act.specs.Worlds.{came_to, on}
use Rattle.act.specs.Worlds.{Step}
use Rattle.act.proofs.DoesLaws.{does-change}
use Rattle.act.proofs.Laws.{then, fetched}
use Rattle.masks.proofs.Ranges.{never}
use Rattle.dma.specs.Started.{starts_in}
use Rattle.words.specs.Widths.{TableWidth}
use Rattle.dma_read.specs.Access.{is_priority}
use Rattle.dma_read.proofs.Laws.{small, width}
use native.Mathlib.Omega.{arith}

-- the sizes that refusal 1 lets through are widths of a descriptor store
pub table_wide : (size : ℕ) → bad_size size ≡ false → TableWidth size
unfolding legal
table_wide size e = let s = small size e in record { positive = s.0; most = omega arith; one_of = width size e }

-- ---- which arm it is

if_there : (b : Bool) (a : Act (Unit {0})) → b ≡ not (is_none (cond b (some a) none))
unfolding is_none
if_there true a = refl
if_there false a = refl

module _ (off v : ℕ) where
  pub write-table : (size : ℕ) → in_table off ≡ true → dma_write off size v ≡ some (table_write (off - 0x1000) size v)
  unfolding dma_write
  write-table size e = rw e

  module _ (e : in_table off ≡ false) where
    -- no arm is a byte
    no_byte : pick off 1 (dma_arms v) ≡ none
    unfolding pick dma_arms
    no_byte = simp never

    pub write-command : within 0x18 0x1F off ≡ true → dma_write off 1 v ≡ some (command (off - 0x18) v)
    unfolding dma_write
    write-command f = rw (e, f)

    -- a byte that is no command is a priority, or there is no such register
    module _ (f : within 0x18 0x1F off ≡ false) where
      pub byte_none : is_priority off 1 ≡ false → dma_write off 1 v ≡ none
      unfolding dma_write is_priority
      byte_none g = rw (e, f, no_byte, g)

      pub byte-there : within 0x100 0x13F off ≡ not (is_none (dma_write off 1 v))
      unfolding dma_write
      byte-there = rw (e, f, no_byte) (if_there (within 0x100 0x13F off) (put (PRIORITY (off - 0x100)) v))

    pub write_word : dma_write off 4 v ≡ pick off 4 (dma_arms v)
    unfolding dma_write
    write_word = rw e

    -- the words that are registers, as code lists them
    abbrev word : Type 0
    word = off ≡ 0x00 ⊎ (off ≡ 0x08 ⊎ (off ≡ 0x0C ⊎ (off ≡ 0x10 ⊎ (off ≡ 0x14 ⊎ (off ≡ 0x18 ⊎ (off ≡ 0x1C ⊎ (off ≡ 0x20 ⊎ (off ≡ 0x24 ⊎ (off ≡ 0x28 ⊎ (off ≡ 0x2C))))))))))

    pub word-there : word → true ≡ not (is_none (dma_write off 4 v))
    unfolding pick dma_arms is_none
    word-there (inl e) = rw (write_word, e)
    word-there (inr (inl e)) = rw (write_word, e)
    word-there (inr (inr (inl e))) = rw (write_word, e)
    word-there (inr (inr (inr (inl e)))) = rw (write_word, e)
    word-there (inr (inr (inr (inr (inl e))))) = rw (write_word, e)
    word-there (inr (inr (inr (inr (inr (inl e)))))) = rw (write_word, e)
    word-there (inr (inr (inr (inr (inr (inr (inl e))))))) = rw (write_word, e)
    word-there (inr (inr (inr (inr (inr (inr (inr (inl e)))))))) = rw (write_word, e)
    word-there (inr (inr (inr (inr (inr (inr (inr (inr (inl e))))))))) = rw (write_word, e)
    word-there (inr (inr (inr (inr (inr (inr (inr (inr (inr (inl e)))))))))) = rw (write_word, e)
    word-there (inr (inr (inr (inr (inr (inr (inr (inr (inr (inr e)))))))))) = rw (write_word, e)

    pub word-none : (word → ⊥) → false ≡ not (is_none (dma_write off 4 v))
    unfolding pick dma_arms is_none
    word-none never_one = rw write_word (simp (ne_eqb off 0x00 (λ e. never_one (inl e)), ne_eqb off 0x08 (λ e. never_one (inr (inl e))), ne_eqb off 0x0C (λ e. never_one (inr (inr (inl e)))), ne_eqb off 0x10 (λ e. never_one (inr (inr (inr (inl e))))), ne_eqb off 0x14 (λ e. never_one (inr (inr (inr (inr (inl e)))))), ne_eqb off 0x18 (λ e. never_one (inr (inr (inr (inr (inr (inl e))))))), ne_eqb off 0x1C (λ e. never_one (inr (inr (inr (inr (inr (inr (inl e)))))))), ne_eqb off 0x20 (λ e. never_one (inr (inr (inr (inr (inr (inr (inr (inl e))))))))), ne_eqb off 0x24 (λ e. never_one (inr (inr (inr (inr (inr (inr (inr (inr (inl e)))))))))), ne_eqb off 0x28 (λ e. never_one (inr (inr (inr (inr (inr (inr (inr (inr (inr (inl e))))))))))), ne_eqb off 0x2C (λ e. never_one (inr (inr (inr (inr (inr (inr (inr (inr (inr (inr e)))))))))))))

    pub write_none : (size : ℕ) → (size ≡ 1 → ⊥) → (size ≡ 4 → ⊥) → dma_write off size v ≡ none
    unfolding dma_write pick dma_arms
    write_none size p q = simp (e, ne_eqb size 1 p, ne_eqb size 4 q, never)

-- ---- what the arms do

-- a field gets the value that an act works out for it
pub changed_to : (d : Device) (f : Field) (g : ℕ → ℕ) {x : ℕ} → x ≡ g (holds f d) → x < 2 ^ bits_in d.chip f → Does (change f g) d (with_field f x d)
changed_to d f g e h = rw e (does-change d f g (rw e at h))

-- a descriptor write: its store, and then KICK
module _ (base : ℕ) (lent : Lent) (d : Device) (w : List ℕ) (off size v : ℕ) (s : Step) (j t l : List ℕ) where
  pub table-written : (o : Out (Unit {0})) {r : Out (Unit {0})} {b : Bool} {m : ℕ} → 32 * (off / 32) + 0x1F + 1 ≤ length t → b ≡ starts_in t off size → m ≡ 2 ^ (off / 32)
      → r ≡ on base lent (when b (change KICK (λ k. bit_or k m))) (came_to s d w j t l) → came_to s d w j t l ≡ on base lent (store table off size v) o
      → r ≡ on base lent (table_write off size v) o
  unfolding table_write starts_in gain
  table-written o h e f kicks stores =
      let rest : List ℕ → Act (Unit {0}) = λ b. when (ltb (32 * (off / 32) + 0x1F) (off + size) && has (number b) START) (change KICK (λ k. bit_or k (2 ^ (off / 32)))) in
      then base lent (store table off size v) (fetch table (32 * (off / 32) + 0x1F) 1 >>= rest) o
      (kicks ∙ rw (e, f) (sym (fetched base lent s d w j t l (32 * (off / 32) + 0x1F) 1 rest h))) stores
