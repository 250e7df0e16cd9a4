-- An act's steps only add to the used part of the journal, and take what they add from its room; and what that says of a journal that is one
-- list with an end. Assumes nothing.
use mathlib.Core.List.{List, [], ◌++◌, append_assoc, append-nil}
use mathlib.Core.Path.{◌≡◌, refl, sym, ap, ◌∙◌}
use Prim.Native.Nat.{ℕ, ◌+◌, ◌≤◌, min}
use native.Mathlib.Omega.{arith}
use lib.ListN.{length, take, length-append, length-take, length-drop}
use lib.Seq.{take_at, take-take, length-take-le}
use Rattle.rules.specs.State.{Device}
use Rattle.rules.specs.Act.{Act, Space, Field}
use Rattle.rules.specs.Calls.{world_of}
use Rattle.rules.specs.Carry.{World, line_of, stood_at, fetched, recorded, go, Lent}
use Rattle.rules.specs.Bytes.{number}
use Rattle.rules.proofs.Back.{length_rec}
use Rattle.rules.proofs.Keeps.{AtEnd, go-keeps}
use Rattle.rules.proofs.Steps.{cutting}

pub record Grown (u v : World) : Type 0 where
  pub more : List ℕ
  pub used_is : v.used ≡ u.used ++ more
  pub total_is : length v.used + length v.free ≡ length u.used + length u.free

module _ (base : ℕ) (lent : Lent) (u : World) where
  on_store : (sp : Space) (a n v : ℕ) (w : World) → 16 ≤ length w.free → Grown u w → Grown u (recorded base sp a n v w)
  unfolding recorded
  on_store sp a n v w h g =
      let r = stood_at sp a n (number (fetched base sp a n w.now)) in
      record {
        more = g.more ++ line_of r;
        used_is = ap (λ (l : List ℕ). l ++ line_of r) g.used_is ∙ append_assoc u.used g.more (line_of r);
        total_is = omega (arith, length-append w.used (line_of r), length_rec r, length-drop 16 w.free, g.total_is);
      }

  on-put : (f : Field) (v : ℕ) (w : World) → Grown u w → Grown u (cutting f v w)
  on-put f v w g = record { more = g.more; used_is = g.used_is; total_is = g.total_is }

  pub go_grows : {A : Type 0} (m : Act A) → AtEnd (Grown u) (go base lent m u)
  go_grows m =
      go-keeps base lent (Grown u) (λ sp a n v w _ _ h g. on_store sp a n v w h g) on-put m u
      record { more = []; used_is = sym (append-nil u.used); total_is = refl }

-- ---- a journal that is one list: what stood below the used length stands there still, and it is as long as it was

pub record Longer (used at : ℕ) (j j' : List ℕ) : Type 0 where
  pub front : take used j' ≡ take used j
  pub long : length j' ≡ length j
  -- an end past the last byte is the last byte's
  pub later : used ≤ min at (length j)

module _ (d e : Device) (w w' j j' : List ℕ) (used at : ℕ) (fits : used ≤ length j) (g : Grown (world_of d w j used) (world_of e w' j' at)) where
  same-long : length j' ≡ length j
  same-long = omega (arith, g.total_is, length-take used j, length-drop used j, length-take at j', length-drop at j')

  later-on : used ≤ min at (length j)
  later-on = omega (arith, same-long, length-take at j', length-take-le used j fits, ap length g.used_is, length-append (take used j) g.more)

  pub journal_grows : Longer used at j j'
  journal_grows = record {
    front = sym (take-take used at j' (omega (arith, later-on))) ∙ ap (take used) g.used_is ∙ take_at (take used j) g.more used (length-take-le used j fits);
    long = same-long;
    later = later-on;
  }
