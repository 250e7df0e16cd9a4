-- Pieces that several calls have in common, within any rights: which channels request, lines and level, the search of an acknowledge. Assumes
-- nothing.
use Prim.Native.Nat.{ℕ, zero, suc}
use lib.Dec.{eqb}
use Rattle.rules.specs.Act.{Act, Field, MASKS, FORCED, LINES, PENDING, TAKEN, SOURCE, IGNORE}
use Rattle.rules.specs.Scalars.{ERQ, INT, KICK, LEVEL, STANDING}
use Rattle.rules.specs.Calls.{set_inputs, levelled}
use Rattle.rules.specs.Lines.{Found, sources, level_bytes, level_of, relevel, heard_from, hear, acknowledge}
use Rattle.rules.specs.Run.{waiting, requesting}
use Rattle.rules.proofs.Each.{Rights, Each, at_done, ◌>>=◌, ◌>>◌, each_ask, each_put, each_change, each_look, each_cond}

module _ {r : Rights} where
  -- ---- these only ask

  waiting_each : (left ch m : ℕ) → Each r (waiting left ch m)
  unfolding waiting
  waiting_each zero ch m = at_done
  waiting_each (suc left) ch m = do
    count ← each_ask (PENDING ch)
    waiting_each left (suc ch) _

  pub requesting_each : Each r requesting
  unfolding requesting
  requesting_each = do
    standing ← each_ask STANDING
    waiting_each 64 0 standing

  sources_each : (c : ℕ) → Each r (sources c)
  unfolding sources
  sources_each c = do
    ignore ← each_look IGNORE
    lines ← each_ask (LINES c)
    masks ← each_ask (MASKS c)
    forced ← each_ask (FORCED c)
    at_done

  levels_each : (c left s : ℕ) → Each r (level_bytes c left s)
  unfolding level_bytes
  levels_each c zero s = at_done
  levels_each c (suc left) s = do
    l ← each_ask (SOURCE c s)
    rest ← levels_each c left (suc s)
    at_done

  level_each : (c : ℕ) → Each r (level_of c)
  unfolding level_of
  level_each c = do
    m ← sources_each c
    levels ← levels_each c 64 0
    at_done

  heard_each : (ipl c : ℕ) (below : Found) → Each r (heard_from ipl c below)
  unfolding heard_from
  heard_each ipl c below = do
    m ← sources_each c
    levels ← levels_each c 64 0
    at_done

  -- ---- and these put

  -- lines and level
  module _ (lines : (c : ℕ) → r.may_put (LINES c)) (level : r.may_put LEVEL) where
    relevel_each : Each r relevel
    unfolding relevel
    relevel_each = do
      int ← each_ask INT
      each_change (LINES 0) _ (lines 0)
      each_change (LINES 1) _ (lines 1)
      each_change (LINES 2) _ (lines 2)
      l0 ← level_each 0
      l1 ← level_each 1
      l2 ← level_each 2
      each_put LEVEL _ level

    pub levelled_each : (m : Act (Unit {0})) → Each r m → Each r (levelled m)
    unfolding levelled
    levelled_each m p = do
      p
      relevel_each
      at_done

  -- a taken count
  pub acknowledge_each : ((i : ℕ) → r.may_put (TAKEN i)) → (ipl : ℕ) → Each r (acknowledge ipl)
  unfolding acknowledge hear
  acknowledge_each taken ipl = do
    h0 ← heard_each ipl 0 (0, 0)
    h1 ← heard_each ipl 1 h0
    h2 ← heard_each ipl 2 h1
    each_cond (eqb h2.0 0) (λ _. at_done) (λ _. do
      each_change (TAKEN h2.1) _ (taken h2.1)
      at_done)

  -- the standing mask, lines and KICK
  pub inputs_each : ((f : Field) → r.may_put f) → (standing l0 l1 l2 : ℕ) → Each r (set_inputs standing l0 l1 l2)
  unfolding set_inputs
  inputs_each may standing l0 l1 l2 = do
    each_put STANDING standing (may STANDING)
    each_change (LINES 0) _ (may (LINES 0))
    each_change (LINES 1) _ (may (LINES 1))
    each_change (LINES 2) _ (may (LINES 2))
    erq ← each_ask ERQ
    asking ← requesting_each
    each_change KICK _ (may KICK)
