-- What commands do: masks that gain and lose channels, flags of descriptors one after the other, commands in a row. Assumes nothing.
use Rattle.std.specs.Prelude.{Ok}
use mathlib.Core.Bool.{Bool, true}
use mathlib.Core.List.{List}
use mathlib.Core.Path.{◌≡◌, refl, sym, ◌∙◌}
use Prim.Native.Nat.{ℕ, suc, ◌+◌, ◌-◌, ◌*◌, ◌/◌, ◌%◌, ◌^◌, ◌≤◌, ◌<◌}
use native.Mathlib.Nat.{lt_of_le_of_lt}
use native.Mathlib.Numerals.{add-one}
use native.Mathlib.Omega.{arith}
use lib.Bits.{bit_and, bit_or, or_lt, and_le_l}
use lib.ListN.{length, take, drop}
use Rattle.rules.specs.State.{Device}
use Rattle.rules.specs.Act.{Act, Field, table, store, change, when, ◌>>◌}
use Rattle.rules.specs.Scalars.{ERQ, KICK, view_scalars}
use Rattle.rules.specs.Bytes.{number, part}
use Rattle.rules.specs.Carry.{Out, Lent}
use Rattle.rules.specs.Fields.{bits_of, bits_in, holds, with_field}
use Rattle.rules.specs.Registers.{named, flag_one, flag_each, set_requests, set_starts, command, commands}
use Rattle.rules.specs.Minor.{START}
use Rattle.rules.specs.Run.{requesting}
use Rattle.rules.specs.With.{with_scalars, with_table, with_majors}
use Rattle.rules.specs.Words.{has, gain, without}
use Rattle.rules.specs.declared.Scalars.{Scalars}
use Rattle.rules.proofs.Masks.{without_le}
use Rattle.act.specs.Does.{Answers, Does}
use Rattle.act.specs.Worlds.{came_to, on}
use Rattle.act.specs.declared.Flow.{Flow}
use Rattle.act.specs.Worlds.{Step}
use Rattle.act.proofs.DoesLaws.{answers_bind, answers_then, does-change}
use Rattle.act.proofs.Laws.{on_then, then, on-nothing, fetched}
use Rattle.controllers.specs.Waiting.{waiting_in}
use Rattle.controllers.proofs.InputLaws.{requesting-answers}
use Rattle.dma_commands.specs.Commands.{OnNumbers}

-- ---- masks

-- a mask of 64 bits loses, or gains, the named channels
module _ (d : Device) (f : Field) (wide : bits_in d.chip f ≡ 64) (fits : holds f d < 2 ^ 64) (v : ℕ) {m : ℕ} (e : m ≡ named v) where
  pub lost : {x : ℕ} → x ≡ without (holds f d) m → Does (change f (λ k. without k (named v))) d (with_field f x d)
  lost q = rw (q, e) (does-change d f (λ k. without k (named v)) (rw wide (lt_of_le_of_lt (without_le (holds f d) (named v)) fits)))

  pub gained : m < 2 ^ 64 → Does (change f (λ k. bit_or k (named v))) d (with_field f (bit_or (holds f d) m) d)
  gained h = rw e (does-change d f (λ k. bit_or k (named v)) (rw wide (or_lt 64 (holds f d) (named v) fits (rw e at h))))

-- ERQ gains the named channels, and then KICK those of them that request
pub requests : (d : Device) (n : Scalars) (v : ℕ) {m a : ℕ} → m ≡ named v → m < 2 ^ 64 → n.erq < 2 ^ 64 → n.kick < 2 ^ 64 → a ≡ waiting_in d.pending 64 0 n.standing
    → let e = with_scalars d (view_scalars n) in Does (set_requests v) e (with_field KICK (bit_or n.kick (bit_and m a)) (with_field ERQ (bit_or n.erq m) e))
unfolding set_requests bits_of
requests d n v {m} {a} e h p q asks =
    let d0 : Device = with_scalars d (view_scalars n) in
    let d1 : Device = with_field ERQ (bit_or n.erq m) d0 in
    let r : Device = with_field KICK (bit_or n.kick (bit_and m a)) d1 in
    answers_then _ _ d0 d1 r (tt {0}) (tt {0}) (gained d0 ERQ refl p v e h)
    (answers_bind requesting _ d1 d1 r a (tt {0}) (requesting-answers d1 asks)
    (rw (← e) (does-change d1 KICK (λ k. bit_or k (bit_and m a)) (or_lt 64 n.kick (bit_and m a) q (lt_of_le_of_lt (and_le_l m a) h)))))

-- ---- flags

module _ (base : ℕ) (lent : Lent) where
  pub flag_done : (s : Step) (d : Device) (w j t l : List ℕ) (g : ℕ → ℕ) (ch : ℕ) {x b : ℕ} {r : Out (Unit {0})}
      → 32 * ch + 0x1F + 1 ≤ length t → b ≡ number (part t (32 * ch + 0x1F) 1) → x ≡ g b
      → r ≡ on base lent (store table (32 * ch + 0x1F) 1 x) (came_to s d w j t l) → r ≡ on base lent (flag_one g ch) (came_to s d w j t l)
  unfolding flag_one
  flag_done s d w j t l g ch h p e q =
      q ∙ rw (e, p) (sym (fetched base lent s d w j t l (32 * ch + 0x1F) 1 (λ b. store table (32 * ch + 0x1F) 1 (g (number b))) h))

  -- a turn of the loop over the channels, and its end
  module _ (g : ℕ → ℕ) (m ch : ℕ) (o : Out (Unit {0})) {whole : Out (Unit {0})} (so_far : on base lent (flag_each g m (64 - ch) ch) o ≡ whole) where
    pub flag_turn : {o' : Out (Unit {0})} {b : Bool} → ch < 64 → b ≡ has m ch → o' ≡ on base lent (when b (flag_one g ch)) o
        → on base lent (flag_each g m (64 - (ch + 1)) (ch + 1)) o' ≡ whole
    unfolding flag_each ◌>>◌
    flag_turn h p e =
        let q : 64 - ch ≡ suc (64 - (ch + 1)) = omega arith in
        rw (e, p, add-one) (sym (on_then base lent (when (has m ch) (flag_one g ch)) (flag_each g m (64 - suc ch) (suc ch)) o) ∙ (rw (q, add-one) at so_far))

    pub flag_end : 64 ≤ ch → o ≡ whole
    unfolding flag_each
    flag_end h = let q : 64 - ch ≡ 0 = omega arith in sym (on-nothing base lent o) ∙ (rw q at so_far)

-- ---- one after another

module _ (base : ℕ) (lent : Lent) where
  -- what is done to the numbers that stand alone is done to the device they are taken from
  pub numbers_done : (m : Act (Unit {0})) (d : Device) {s : Step} (c : Flow) (n : Scalars) (w j t l : List ℕ) {p : List ℕ} → s ≡ Ok c → d.pending ≡ p
      → OnNumbers m p c.scalars n → came_to (Ok (record { scalars = n; at = c.at })) d w j t l ≡ on base lent m (came_to s d w j t l)
  unfolding came_to on Answers
  numbers_done m d c n w j t l going e h = rw going (sym (h (with_majors (with_table d t) l) e base lent w (take c.at j) (drop c.at j)))

  pub starts : (v : ℕ) (o : Out (Unit {0})) {m : ℕ} {r p : Out (Unit {0})} → m ≡ named v → r ≡ on base lent (when true (change KICK (λ k. bit_or k m))) p
      → p ≡ on base lent (flag_each (λ b. gain b START) m 64 0) o → r ≡ on base lent (set_starts v) o
  unfolding set_starts when
  starts v o e f g = then base lent (flag_each (λ b. gain b START) (named v) 64 0) (change KICK (λ k. bit_or k (named v))) o (rw e at f) (rw e at g)

  pub in_row : (k v : ℕ) (o : Out (Unit {0})) {p q r x : Out (Unit {0})} → p ≡ on base lent (command k (v / 2 ^ 24 % 256)) o → q ≡ on base lent (command (k + 1) (v / 2 ^ 16 % 256)) p
      → r ≡ on base lent (command (k + 2) (v / 2 ^ 8 % 256)) q → x ≡ on base lent (command (k + 3) (v % 256)) r → x ≡ on base lent (commands k v) o
  unfolding commands
  in_row k v o {p} {q} d c b a = then base lent _ _ o (then base lent _ _ p (then base lent _ _ q a b) c) d
