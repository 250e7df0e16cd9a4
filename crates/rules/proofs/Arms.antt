-- The register writes, within any rights that let them put every field and fetch and store the last byte of a channel's descriptor; a write to the table
-- besides needs the right to its own store. Assumes nothing.
use mathlib.Core.Bool.{Bool, true, false, cond, ◌&&◌}
use mathlib.Core.List.{List, [], ◌∷◌}
use mathlib.Core.Option.{Option}
use mathlib.Core.Path.{◌≡◌, refl}
use Prim.Native.Nat.{ℕ, zero, suc, ◌+◌, ◌-◌, ◌*◌, ◌/◌, ◌≤◌, ◌<◌}
use native.Mathlib.Omega.{arith}
use borrow.Author.Tests.{leb-true}
use lib.Dec.{eqb, leb, ltb}
use lib.ListN.{get_or}
use Rattle.rules.specs.Act.{Act, table, Field, MASKS, FORCED, CONFIG, SOURCE, PRIORITY, nothing}
use Rattle.rules.specs.Scalars.{CR, ERQ, EEI, INT, ERR, KICK}
use Rattle.rules.specs.Calls.{or_nothing}
use Rattle.rules.specs.Registers.{within, in_table, flag_one, flag_each, set_requests, set_starts, clear_dones, command, commands, table_write, Arm, pick, dma_arms, dma_write, levels_write, controller_arms, controller_write, write_in}
use Rattle.rules.specs.Words.{has}
use Rattle.rules.proofs.BoolLaws.{and_left, and_right}
use Rattle.rules.proofs.Each.{Rights, Each, at_done, ◌>>=◌, ◌>>◌, each_fetch, each_store, each_put, each_change, each_when}
use Rattle.rules.proofs.Pieces.{requesting_each}

infixr 20 ◌also◌
-- ---- rows of acts

-- every act of a row is within the rights
data AllIn (r : Rights) : List (Act (Unit {0})) → Type 0 where
  no_more : AllIn r []
  ◌also◌ : {a : Act (Unit {0})} {row : List (Act (Unit {0}))} → Each r a → AllIn r row → AllIn r (a ∷ row)

-- what the arms of a row do
abbrev acts : List Arm → List (Act (Unit {0}))
acts [] = []
acts (a ∷ row) = a.does ∷ acts row

module _ {r : Rights} where
  of_row : {row : List (Act (Unit {0}))} (k : ℕ) → AllIn r row → Each r (get_or row k nothing)
  of_row zero no_more = at_done
  of_row (suc k) no_more = at_done
  of_row zero (p also q) = p
  of_row (suc k) (p also q) = of_row k q

  -- one way or the other, where there is such a register
  either_each : (b : Bool) (x y : Option (Act (Unit {0}))) → (b ≡ true → Each r (or_nothing x)) → (b ≡ false → Each r (or_nothing y)) → Each r (or_nothing (cond b x y))
  either_each true x y p q = p refl
  either_each false x y p q = q refl

  pick_each : (off size : ℕ) (row : List Arm) → AllIn r (acts row) → Each r (or_nothing (pick off size row))
  unfolding pick or_nothing
  pick_each off size [] no_more = at_done
  pick_each off size (a ∷ row) (p also q) = either_each (eqb off a.off && eqb size a.size) _ _ (λ _. p) (λ _. pick_each off size row q)

-- ---- the arms

module _ {r : Rights} (may : (f : Field) → r.may_put f) (flag : (ch : ℕ) → ch < 64 → r.may_fetch table (32 * ch + 0x1F) 1 × r.may_store table (32 * ch + 0x1F) 1) where
  flags_each : (g : ℕ → ℕ) (m left ch : ℕ) → ch + left ≤ 64 → Each r (flag_each g m left ch)
  unfolding flag_each flag_one
  flags_each g m zero ch h = at_done
  flags_each g m (suc left) ch h = do
    _ ← each_when (has m ch) (λ _. do
      b ← each_fetch _ _ _ (flag ch (omega arith)).0
      each_store _ _ _ _ (flag ch (omega arith)).1)
    flags_each g m left (suc ch) (omega arith)

  set_requests_each : (v : ℕ) → Each r (set_requests v)
  unfolding set_requests
  set_requests_each v = do
    each_change ERQ _ (may ERQ)
    asking ← requesting_each
    each_change KICK _ (may KICK)

  set_starts_each : (v : ℕ) → Each r (set_starts v)
  unfolding set_starts
  set_starts_each v = do
    flags_each _ _ 64 0 (omega arith)
    each_change KICK _ (may KICK)

  command_each : (k v : ℕ) → Each r (command k v)
  unfolding command clear_dones
  command_each k v =
      of_row k
      (set_requests_each v
      also each_change ERQ _ (may ERQ)
      also each_change EEI _ (may EEI)
      also each_change EEI _ (may EEI)
      also each_change INT _ (may INT)
      also each_change ERR _ (may ERR)
      also set_starts_each v
      also flags_each _ _ 64 0 (omega arith)
      also no_more)

  commands_each : (k v : ℕ) → Each r (commands k v)
  unfolding commands
  commands_each k v = do
    command_each _ _
    command_each _ _
    command_each _ _
    command_each _ _

  table-write_each : (off size v : ℕ) → off < 2048 → r.may_store table off size → Each r (table_write off size v)
  unfolding table_write
  table-write_each off size v h s = do
    each_store _ _ _ _ s
    b ← each_fetch _ _ _ (flag (off / 32) (omega arith)).0
    each_when _ (λ _. each_change KICK _ (may KICK))

  -- where the table begins, its own offsets begin
  dma_each : (off size v : ℕ) → (in_table off ≡ true → r.may_store table (off - 0x1000) size) → Each r (or_nothing (dma_write off size v))
  unfolding dma_write or_nothing dma_arms in_table within
  dma_each off size v s =
      either_each (in_table off) _ _
      (λ e.
      let low : 0x1000 ≤ off = leb-true _ _ (and_left _ _ e) in
      let high : off ≤ 0x17FF = leb-true _ _ (and_right (leb 0x1000 off) _ e) in
      table-write_each (off - 0x1000) size v (omega arith) (s e))
      (λ _. either_each (eqb size 1 && within 0x18 0x1F off) _ _ (λ _. command_each (off - 0x18) v)
      (λ _. either_each (eqb size 1 && within 0x100 0x13F off) _ _ (λ _. each_put (PRIORITY (off - 0x100)) v (may (PRIORITY (off - 0x100))))
      (λ _. pick_each off size (dma_arms v)
      (each_put CR v (may CR)
      also each_change ERQ _ (may ERQ)
      also each_change ERQ _ (may ERQ)
      also each_change EEI _ (may EEI)
      also each_change EEI _ (may EEI)
      also commands_each 0 v
      also commands_each 4 v
      also each_change INT _ (may INT)
      also each_change INT _ (may INT)
      also each_change ERR _ (may ERR)
      also each_change ERR _ (may ERR)
      also no_more))))

  levels-write_each : (c s : ℕ) (bs : List ℕ) → Each r (levels_write c s bs)
  unfolding levels_write
  levels-write_each c s [] = at_done
  levels-write_each c s (b ∷ bs) = do
    _ ← each_when (ltb s 64) (λ _. each_put (SOURCE c s) b (may (SOURCE c s)))
    levels-write_each c (suc s) bs

  controller_each : (c off size v : ℕ) → Each r (or_nothing (controller_write c off size v))
  unfolding controller_write or_nothing controller_arms
  controller_each c off size v =
      either_each (within 0x00 0x07 off) _ _ (λ _. at_done)
      (λ _. either_each (within 0x08 0x0F off) _ _ (λ _. each_change (MASKS c) _ (may (MASKS c)))
      (λ _. either_each (within 0x10 0x17 off) _ _ (λ _. each_change (FORCED c) _ (may (FORCED c)))
      (λ _. either_each (within 0x40 0x7F off) _ _ (λ _. levels-write_each c (off - 0x40) _)
      (λ _. pick_each off size (controller_arms c v)
      (each_put (CONFIG c) v (may (CONFIG c))
      also each_change (MASKS c) _ (may (MASKS c))
      also each_change (MASKS c) _ (may (MASKS c))
      also at_done
      also at_done
      also no_more)))))

  pub write_each : (block off size v : ℕ) → (block ≡ 0 → in_table off ≡ true → r.may_store table (off - 0x1000) size) → Each r (or_nothing (write_in block off size v))
  unfolding write_in
  write_each zero off size v s = dma_each off size v (s refl)
  write_each (suc c) off size v s = controller_each c off size v
