-- Controller registers, written: each arm's act on one controller, and which arm it is. Assumes nothing.
use mathlib.Core.Bool.{Bool, true, false, false≢true}
use mathlib.Core.List.{List, [], ◌∷◌, map}
use mathlib.Core.Option.{Option, none, some}
use mathlib.Core.Path.{◌≡◌, refl, sym, ap, ◌∙◌, subst, subst⁻¹}
use Prim.Native.Nat.{ℕ, suc, ◌+◌, ◌-◌, ◌/◌, ◌%◌, ◌^◌, ◌≤◌, ◌<◌}
use native.Mathlib.Nat.{pow-suc, div-one, div-div-eq-div-mul}
use native.Mathlib.Omega.{arith}
use borrow.Author.Tests.{lt-ltb, le-ltb, ltb-true, ltb-false, eqb-true, eqb-false, ne_eqb}
use lib.Dec.{eqb, ltb}
use lib.ListN.{length, set, get_or, length-set}
use lib.Seq.{set-set, set-get_or, set_out, get_or-set_same}
use Rattle.rules.specs.State.{Controller, Device}
use Rattle.rules.specs.Act.{Act, nothing, put, change, when, ◌>>=◌, MASKS, FORCED, CONFIG, SOURCE}
use Rattle.rules.specs.Bytes.{Bytes, bytes, splice}
use Rattle.rules.specs.Calls.{is_none, or_nothing}
use Rattle.rules.specs.Fields.{controller, no_controller, bits_of}
use Rattle.rules.specs.Registers.{within, with_bytes_in, levels_write, pick, controller_arms, controller_write}
use Rattle.rules.specs.View.{view_controller}
use Rattle.rules.specs.declared.Controller.{Controller as HeldController}
use Rattle.rules.specs.With.{with_controllers, with_masks, with_forced, with_config, with_levels}
use Rattle.rules.proofs.BytesLaws.{length_splice, splice_cons}
use Rattle.rules.proofs.ViewLaws.{map_set, no_held, controller_viewed}
use Rattle.act.specs.Does.{Does}
use Rattle.act.specs.Parts.{Arrays, whole, held_at}
use Rattle.act.specs.declared.Core.{Core}
use Rattle.act.proofs.DoesLaws.{answers-done, answers_bind, does-put, does-cut, does-change}
use Rattle.intc.specs.Writes.{write_to, command_at, InController, WrittenIn, Written}
use Rattle.masks.proofs.Ranges.{never}

-- ---- acts on one controller

-- what is stored where it was
pub nothing_in : (k : Controller) → InController (λ _. nothing) k k
nothing_in k c d l e = subst (λ (x : List Controller). Does nothing d (with_controllers d x)) (sym (rw (← e) (set-get_or d.controllers c no_controller))) (answers-done d tt)

-- a register gets a value within its bits
module _ (g : ℕ → ℕ) (k : Controller) {r : ℕ} (fits : r < 2 ^ 64) where
  pub masks_in : r ≡ g k.masks → InController (λ c. change (MASKS c) g) k (with_masks k r)
  unfolding bits_of
  masks_in p c d l e =
      let q : r ≡ g (controller d.controllers c).masks = rw e p in
      rw (q, ← e) (does-change d (MASKS c) g (rw (← q) fits))

  pub forced_in : r ≡ g k.forced → InController (λ c. change (FORCED c) g) k (with_forced k r)
  unfolding bits_of
  forced_in p c d l e =
      let q : r ≡ g (controller d.controllers c).forced = rw e p in
      rw (q, ← e) (does-change d (FORCED c) g (rw (← q) fits))

-- a value cut to 16 bits
pub config_in : (v : ℕ) (k : Controller) → InController (λ c. put (CONFIG c) v) k (with_config k (v % 2 ^ 16))
unfolding bits_of
config_in v k c d l e = rw (← e) (does-cut d (CONFIG c) v)

-- one after another
in_then : (act next : ℕ → Act (Unit {0})) (k j e : Controller) → InController act k j → InController next j e → InController (λ c. act c >>= (λ _. next c)) k e
in_then act next k j e f g c d l q =
    let cs : List Controller = set d.controllers c j in
    let d1 : Device = with_controllers d cs in
    let r : Device = with_controllers d (set d.controllers c e) in
    let last : Does (next c) d1 (with_controllers d (set cs c e)) = g c d1 (omega (arith, length-set d.controllers c j)) (get_or-set_same d.controllers c j no_controller l) in
    answers_bind (act c) (λ _. next c) d d1 r tt tt (f c d l q) (subst (λ (x : List Controller). Does (next c) d1 (with_controllers d x)) (set-set d.controllers c j e) last)

-- ---- level bytes; those past 63 are dropped

-- source s of a controller with another level byte
abbrev storing : Controller → ℕ → ℕ → Controller
storing k s x = with_levels k (set k.levels s x)

module _ (k : Controller) (s x : ℕ) (bs : List ℕ) (small : x < 256) where
  level_in_lem : InController (λ c. put (SOURCE c s) x) k (storing k s x)
  unfolding bits_of
  level_in_lem c d l e = rw (← e) (does-put d (SOURCE c s) x small)

  levels-here : s < 64 → InController (λ c. levels_write c (suc s) bs) (storing k s x) (with_levels k (splice (set k.levels s x) (suc s) bs))
      → InController (λ c. levels_write c s (x ∷ bs)) k (with_levels k (splice k.levels s (x ∷ bs)))
  unfolding levels_write when
  levels-here h f =
      rw (lt-ltb s 64 h)
      (subst (λ (l : List ℕ). InController (λ c. put (SOURCE c s) x >>= (λ _. levels_write c (suc s) bs)) k (with_levels k l)) (splice_cons k.levels s x bs)
      (in_then (λ c. put (SOURCE c s) x) (λ c. levels_write c (suc s) bs) k (storing k s x) _ level_in_lem f))

  levels-past : length k.levels ≡ 64 → 64 ≤ s → InController (λ c. levels_write c (suc s) bs) k (with_levels k (splice k.levels (suc s) bs))
      → InController (λ c. levels_write c s (x ∷ bs)) k (with_levels k (splice k.levels s (x ∷ bs)))
  unfolding levels_write when splice
  levels-past e h f =
      rw (le-ltb s 64 h)
      (subst⁻¹ (λ (l : List ℕ). InController (λ c. nothing >>= (λ _. levels_write c (suc s) bs)) k (with_levels k l))
      (set_out (splice k.levels (suc s) bs) s x (omega (arith, length_splice k.levels (suc s) bs)))
      (in_then (λ _. nothing) (λ c. levels_write c (suc s) bs) k k _ (nothing_in k) f))

pub levels_in_lem : (bs : List ℕ) (s : ℕ) (k : Controller) → Bytes bs → length k.levels ≡ 64 → InController (λ c. levels_write c s bs) k (with_levels k (splice k.levels s bs))
levels_in_lem [] s k b h = unfold levels_write splice in nothing_in k
levels_in_lem (x ∷ bs) s k b h =
    by (ltb s 64) refl (levels_in_lem bs (suc s) k (λ i. b (suc i)) h) (levels_in_lem bs (suc s) (storing k s x) (λ i. b (suc i)) (length-set k.levels s x ∙ h))
  where
    by : (t : Bool) → ltb s 64 ≡ t → InController (λ c. levels_write c (suc s) bs) k (with_levels k (splice k.levels (suc s) bs))
        → InController (λ c. levels_write c (suc s) bs) (storing k s x) (with_levels k (splice (set k.levels s x) (suc s) bs))
        → InController (λ c. levels_write c s (x ∷ bs)) k (with_levels k (splice k.levels s (x ∷ bs)))
    by true t past here = levels-here k s x bs (b 0) (ltb-true s 64 t) here
    by false t past here = levels-past k s x bs (b 0) h (ltb-false s 64 t) past

-- a turn of the loop over the bytes of v, the last first: n of them are stored
module _ (k : Controller) (s v : ℕ) where
  abbrev laid : ℕ → ℕ → Controller
  laid size i = with_levels k (splice k.levels (s + i) (bytes (size - i) v))

  pub levels_start : (size : ℕ) → (v ≡ v / 256 ^ (size - size)) × (k ≡ laid size size)
  unfolding bytes splice
  levels_start size = let e : size - size ≡ 0 = omega arith in rw e (sym (div-one v), refl)

  pub levels-turn : (size i : ℕ) {e f : Controller} {rest : ℕ} → 0 < i → i ≤ size → rest ≡ v / 256 ^ (size - i) → e ≡ laid size i
      → f ≡ storing e (s + (i - 1)) (rest % 256) → (rest / 256 ≡ v / 256 ^ (size - (i - 1))) × (f ≡ laid size (i - 1))
  unfolding bytes splice
  levels-turn size i h l p q r =
      let n : size - (i - 1) ≡ suc (size - i) = omega arith in
      let m : s + i ≡ suc (s + (i - 1)) = omega arith in
      (rw (n, p, pow-suc 256 (size - i)) (div-div-eq-div-mul v (256 ^ (size - i)) 256), rw (r, q, p, n, m) refl)

  pub levels_end : (size i : ℕ) {e : Controller} → i ≤ 0 → e ≡ laid size i → e ≡ with_levels k (splice k.levels s (bytes size v))
  levels_end size i h q =
      let z : i ≡ 0 = omega arith in
      let n : size - i ≡ size = omega arith in
      let m : s + i ≡ s = omega arith in
      q ∙ rw (n, m) refl

-- ---- which arm it is

module _ (write : ℕ → Option (Act (Unit {0}))) (k : Controller) where
  pub written_some : (act : ℕ → Act (Unit {0})) (e : Controller) → ((c : ℕ) → write c ≡ some (act c)) → InController act k e → WrittenIn write k true e
  unfolding is_none or_nothing
  written_some act e h f = record {
    tells = λ c. rw (h c) refl;
    does = λ c d l q. rw (h c) (f c d l q);
    keeps = λ t. absurd (false≢true (sym t));
  }

  pub written_none : ((c : ℕ) → write c ≡ none) → WrittenIn write k false k
  unfolding is_none or_nothing
  written_none h = record {
    tells = λ c. rw (h c) refl;
    does = λ c d l q. rw (h c) (nothing_in k c d l q);
    keeps = λ t. refl;
  }

-- another way to say which arm it is
pub written_as : (write other : ℕ → Option (Act (Unit {0}))) (k : Controller) (known : Bool) (e : Controller) → ((c : ℕ) → other c ≡ write c)
    → WrittenIn write k known e → WrittenIn other k known e
written_as write other k known e h w = record {
  tells = λ c. rw (h c) (w.tells c);
  does = λ c d l q. rw (h c) (w.does c d l q);
  keeps = w.keeps;
}

-- ---- the same of a device

pub written-device : (write : ℕ → Option (Act (Unit {0}))) (c : ℕ) (d : Device) (known : Bool) (e : Controller) → c < length d.controllers
    → WrittenIn write (controller d.controllers c) known e → Written (write c) d known (with_controllers d (set d.controllers c e))
written-device write c d known e l w = record {
  tells = w.tells c;
  does = w.does c d l refl;
  keeps = λ t. ap (λ (x : List Controller). with_controllers d x) (ap (set d.controllers c) (w.keeps t) ∙ set-get_or d.controllers c no_controller);
}

-- the same of a device in parts
pub written_held : (write : ℕ → Option (Act (Unit {0}))) (c : ℕ) (k : Core) (x : Arrays) (known : Bool) (e : HeldController) → c < length (whole k x).controllers
    → WrittenIn write (held_at k c) known (view_controller e)
    → Written (write c) (whole k x) known (with_controllers (whole k x) (map view_controller (set k.controllers c e)))
written_held write c k x known e l w =
    rw (map_set view_controller k.controllers c e)
    (written-device write c (whole k x) known (view_controller e) l (subst (λ (n : Controller). WrittenIn write n known (view_controller e)) (sym (controller_viewed k.controllers c)) w))

-- where there is no such register
pub unwritten_held : (write : ℕ → Option (Act (Unit {0}))) (c : ℕ) (k : Core) (x : Arrays) → c < length (whole k x).controllers
    → WrittenIn write (held_at k c) false (held_at k c) → Written (write c) (whole k x) false (whole k x)
unwritten_held write c k x l w =
    let at : HeldController = get_or k.controllers c no_held in
    subst (λ (cs : List HeldController). Written (write c) (whole k x) false (with_controllers (whole k x) (map view_controller cs)))
    (set-get_or k.controllers c no_held) (written_held write c k x false at l w)

-- ---- arms that are no ranges

module _ (off v c : ℕ) where
  pub command_idle : 0x1E ≤ off → off < 0x20 → command_at off 1 v c ≡ some nothing
  unfolding pick controller_arms
  command_idle h l = by (eqb off 0x1E) refl
    where
      by : (t : Bool) → eqb off 0x1E ≡ t → command_at off 1 v c ≡ some nothing
      by true t = rw (eqb-true off 0x1E t) refl
      by false t = let n = eqb-false off 0x1E t in let e : off ≡ 0x1F = omega arith in rw e refl

  pub byte_none : (off ≡ 0x1C → ⊥) → (off ≡ 0x1D → ⊥) → (off ≡ 0x1E → ⊥) → (off ≡ 0x1F → ⊥) → command_at off 1 v c ≡ none
  unfolding pick controller_arms
  byte_none p q r s = simp (ne_eqb off 0x1C p, ne_eqb off 0x1D q, ne_eqb off 0x1E r, ne_eqb off 0x1F s, never)

  pub half_none : (off ≡ 0x18 → ⊥) → command_at off 2 v c ≡ none
  unfolding pick controller_arms
  half_none p = simp (ne_eqb off 0x18 p, never)

  pub command_none : (size : ℕ) → (size ≡ 1 → ⊥) → (size ≡ 2 → ⊥) → command_at off size v c ≡ none
  unfolding pick controller_arms
  command_none size p q = simp (ne_eqb size 1 p, ne_eqb size 2 q, never)

-- ---- arms that are ranges

module _ (off size v c : ℕ) where
  pub write-pending : within 0x00 0x07 off ≡ true → write_to off size v c ≡ some nothing
  unfolding controller_write
  write-pending e = rw e

  module _ (e : within 0x00 0x07 off ≡ false) where
    pub write-masks : within 0x08 0x0F off ≡ true → write_to off size v c ≡ some (change (MASKS c) (with_bytes_in (off - 0x08) size v))
    unfolding controller_write
    write-masks f = rw (e, f)

    module _ (f : within 0x08 0x0F off ≡ false) where
      pub write-forced : within 0x10 0x17 off ≡ true → write_to off size v c ≡ some (change (FORCED c) (with_bytes_in (off - 0x10) size v))
      unfolding controller_write
      write-forced g = rw (e, f, g)

      module _ (g : within 0x10 0x17 off ≡ false) where
        pub write-levels : within 0x40 0x7F off ≡ true → write_to off size v c ≡ some (levels_write c (off - 0x40) (bytes size v))
        unfolding controller_write
        write-levels h = rw (e, f, g, h)

        pub write-command : within 0x40 0x7F off ≡ false → write_to off size v c ≡ command_at off size v c
        unfolding controller_write
        write-command h = rw (e, f, g, h)
