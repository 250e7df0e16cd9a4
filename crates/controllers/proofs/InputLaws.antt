-- The acts that give the device its inputs, said of its fields. Assumes nothing.
use Rattle.std.proofs.Common.{◌≡◌, ℕ, zero, suc, ◌+◌, ◌-◌, ◌^◌, ◌<◌, ◌≤◌, cond, eqb, List, map, length, get_or, sym, refl, ap, ◌∙◌, lt_of_le_of_lt, add-one, arith, get_or-set_other}
use lib.Bits.{bit_and, bit_or, or_lt, and_le_r}
use Rattle.rules.specs.State.{Controller, Device}
use Rattle.rules.specs.Act.{LINES, PENDING}
use Rattle.rules.specs.Scalars.{ERQ, KICK, STANDING}
use Rattle.rules.specs.Calls.{set_inputs}
use Rattle.rules.specs.Fields.{controller, bits_of, holds, with_field}
use Rattle.rules.specs.Lines.{owned_from}
use Rattle.rules.specs.Run.{waiting, requesting}
use Rattle.rules.specs.View.{view_controller}
use Rattle.rules.specs.With.{with_controllers, with_lines}
use Rattle.rules.specs.Words.{gain}
use Rattle.rules.specs.declared.Controller.{Controller as HeldController}
use Rattle.rules.proofs.FieldLaws.{in_three, Sound, holds_fits}
use Rattle.rules.proofs.ViewLaws.{controller_viewed}
use Rattle.act.specs.Does.{Answers, Does}
use Rattle.act.specs.Parts.{Arrays, whole, held_at, SameLevels}
use Rattle.act.specs.declared.Core.{Core}
use Rattle.act.proofs.DoesLaws.{answers-done, answers-ask, answers_bind, answers_then, does-put, does-change}
use Rattle.controllers.specs.Waiting.{waiting_in}
use Rattle.controllers.proofs.MaskParts.{owned_fits}
use Rattle.controllers.proofs.DeviceLaws.{stored3, stored_viewed, with3, same-levels}

-- ---- requesting channels

waiting-answers : (d : Device) (n ch m : ℕ) → Answers (waiting n ch m) d (waiting_in d.pending n ch m) d
unfolding waiting waiting_in
waiting-answers d zero ch m = answers-done d m
waiting-answers d (suc n) ch m = answers_bind _ _ d d d _ _ (answers-ask d (PENDING ch)) (waiting-answers d n (suc ch) _)

pub requesting-answers : (d : Device) {r : ℕ} → r ≡ waiting_in d.pending 64 0 (holds STANDING d) → Answers requesting d r d
unfolding requesting
requesting-answers d e = rw e (answers_bind _ _ d d d _ _ (answers-ask d STANDING) (waiting-answers d 64 0 (holds STANDING d)))

-- a turn of the loop over the channels
pub waiting-turn : (counts : List ℕ) (i m whole : ℕ) {m' : ℕ} → i < 64 → m' ≡ cond (eqb (get_or counts i 0) 0) m (gain m i)
    → waiting_in counts (64 - i) i m ≡ whole → waiting_in counts (64 - (i + 1)) (i + 1) m' ≡ whole
unfolding waiting_in
waiting-turn counts i m whole h e w =
    let q : 64 - i ≡ suc (64 - (i + 1)) = omega arith in
    rw (e, add-one) (rw (q, add-one) at w)

pub waiting_end : (counts : List ℕ) (i m whole : ℕ) → 64 ≤ i → waiting_in counts (64 - i) i m ≡ whole → m ≡ whole
unfolding waiting_in
waiting_end counts i m whole h w = let q : 64 - i ≡ 0 = omega arith in rw q at w

-- ---- new inputs

-- controller c of d with lines that are given
abbrev pub giving : Device → ℕ → ℕ → Controller
giving d c lines = with_lines (controller d.controllers c) (owned_from c (controller d.controllers c).lines lines)

-- the same of a core
abbrev pub giving_held : Core → ℕ → ℕ → Controller
giving_held k c lines = with_lines (held_at k c) (owned_from c (held_at k c).lines lines)

giving_viewed : (k : Core) (x : Arrays) (c lines : ℕ) → giving_held k c lines ≡ giving (whole k x) c lines
giving_viewed k x c lines = ap (λ (n : Controller). with_lines n (owned_from c n.lines lines)) (sym (controller_viewed k.controllers c))

-- KICK gains those that request and have their ERQ bit set
abbrev pub gaining : Device → ℕ → ℕ
gaining d asking = bit_or (holds KICK d) (bit_and asking (holds ERQ d))

module _ (s l0 l1 l2 : ℕ) (hs : s < 2 ^ 64) (h0 : l0 < 2 ^ 64) (h1 : l1 < 2 ^ 64) (h2 : l2 < 2 ^ 64) where
  abbrev given : Device → List Controller → Device
  given d cs = with_field STANDING s (with_controllers d cs)

  abbrev all : Device → List Controller → List Controller
  all d cs = stored3 cs (giving (with_controllers d cs) 0 l0) (giving (with_controllers d cs) 1 l1) (giving (with_controllers d cs) 2 l2)

  kick_fits : (d : Device) → Sound d → (asking : ℕ) → gaining (with_field STANDING s d) asking < 2 ^ 64
  unfolding bits_of
  kick_fits d t asking =
      let kick : holds KICK (with_field STANDING s d) ≡ holds KICK d = get_or-set_other d.scalars 9 5 s 0 (λ e. omega arith) in
      let erq : holds ERQ (with_field STANDING s d) ≡ holds ERQ d = get_or-set_other d.scalars 9 1 s 0 (λ e. omega arith) in
      rw (kick, erq) (or_lt 64 (holds KICK d) _ (holds_fits KICK d t) (lt_of_le_of_lt (and_le_r asking (holds ERQ d)) (holds_fits ERQ d t)))

  module _ (d : Device) (a b c : Controller) (t : Sound (with3 d a b c)) (asking : ℕ) where
    x : Controller
    x = giving (with3 d a b c) 0 l0

    y : Controller
    y = giving (with3 d a b c) 1 l1

    z : Controller
    z = giving (with3 d a b c) 2 l2

    abbrev last : Device
    last = with_field STANDING s (with3 d x y z)

    three_given : Answers requesting last asking last → Does (set_inputs s l0 l1 l2) (with3 d a b c) (with_field KICK (gaining last asking) last)
    unfolding set_inputs bits_of x y z
    three_given asks =
        let r : Device = with_field KICK (gaining last asking) last in
        let d0 : Device = with_field STANDING s (with3 d a b c) in
        let d1 : Device = with_field STANDING s (with3 d x b c) in
        let d2 : Device = with_field STANDING s (with3 d x y c) in
        answers_then _ _ (with3 d a b c) d0 r _ _ (does-put (with3 d a b c) STANDING s hs)
        (answers_then _ _ d0 d1 r _ _ (does-change d0 (LINES 0) (λ old. owned_from 0 old l0) (owned_fits 0 a.lines l0 h0))
        (answers_then _ _ d1 d2 r _ _ (does-change d1 (LINES 1) (λ old. owned_from 1 old l1) (owned_fits 1 b.lines l1 h1))
        (answers_then _ _ d2 last r _ _ (does-change d2 (LINES 2) (λ old. owned_from 2 old l2) (owned_fits 2 c.lines l2 h2))
        (answers_bind _ _ last last r _ _ (answers-ask last ERQ)
        (answers_bind _ _ last last r _ _ asks
        (does-change last KICK (λ k. bit_or k (bit_and asking (holds ERQ last))) (kick_fits (with3 d a b c) t asking)))))))

  -- as code makes it: the lines of each, then the requesting channels of that device
  pub inputs-does : (d : Device) → Sound d → (asking : ℕ) {x y z : Controller} → x ≡ giving d 0 l0 → y ≡ giving d 1 l1 → z ≡ giving d 2 l2
      → Answers requesting (given d (stored3 d.controllers x y z)) asking (given d (stored3 d.controllers x y z))
      → Does (set_inputs s l0 l1 l2) d (let e = given d (stored3 d.controllers x y z) in with_field KICK (gaining e asking) e)
  inputs-does d t asking ex ey ez =
      rw (ex, ey, ez)
      (in_three
      (λ cs. Sound (with_controllers d cs)
      → Answers requesting (given d (all d cs)) asking (given d (all d cs))
      → Does (set_inputs s l0 l1 l2) (with_controllers d cs) (with_field KICK (gaining (given d (all d cs)) asking) (given d (all d cs))))
      (λ a b c t asks. unfold x y z in three_given d a b c t asking asks)
      d.controllers t.three t)

  -- the same of a device in parts
  pub inputs-held : (k : Core) (v : Arrays) → Sound (whole k v) → (asking : ℕ) {x y z : HeldController} → view_controller x ≡ giving_held k 0 l0 → view_controller y ≡ giving_held k 1 l1 → view_controller z ≡ giving_held k 2 l2
      → let e = given (whole k v) (map view_controller (stored3 k.controllers x y z)) in Answers requesting e asking e → Does (set_inputs s l0 l1 l2) (whole k v) (with_field KICK (gaining e asking) e)
  inputs-held k v t asking {x} {y} {z} ex ey ez =
      rw (stored_viewed k.controllers x y z) (inputs-does (whole k v) t asking (ex ∙ giving_viewed k v 0 l0) (ey ∙ giving_viewed k v 1 l1) (ez ∙ giving_viewed k v 2 l2))

-- their level bytes stay
pub inputs_keep : (k l : Core) (l0 l1 l2 : ℕ) → length (map view_controller k.controllers) ≡ 3 → {x y z : HeldController} → view_controller x ≡ giving_held k 0 l0 → view_controller y ≡ giving_held k 1 l1
    → view_controller z ≡ giving_held k 2 l2 → l.controllers ≡ stored3 k.controllers x y z → SameLevels k l
inputs_keep k l l0 l1 l2 three {x} {y} {z} ex ey ez e =
    same-levels k l three (view_controller x) (view_controller y) (view_controller z) (at 0 l0 ex) (at 1 l1 ey) (at 2 l2 ez) (ap (map view_controller) e ∙ stored_viewed k.controllers x y z)
  where
    at : (c lines : ℕ) {n : HeldController} → view_controller n ≡ giving_held k c lines → (controller (map view_controller k.controllers) c).levels ≡ n.levels
    at c lines h = ap (λ (n : Controller). n.levels) (controller_viewed k.controllers c ∙ refl) ∙ ap (λ (n : Controller). n.levels) (sym h)
