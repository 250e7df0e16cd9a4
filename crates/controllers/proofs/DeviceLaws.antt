-- The acts of `specs/Lines.antt` of rules on a device: what they answer and leave, said of its controllers. Assumes nothing.
use Rattle.std.proofs.Common.{◌≡◌, ℕ, zero, suc, ◌+◌, ◌%◌, ◌^◌, ◌<◌, max, Bool, List, [], ◌∷◌, map, length, get_or, set, sym, refl, ap, ◌∙◌, subst, mod-lt, arith, lit<, ext_get_or, pow_pos, eq-eqb, ne_eqb, Some, None}
use Rattle.rules.specs.State.{Controller, Device}
use Rattle.rules.specs.Verdicts.{Heard}
use Rattle.rules.specs.Act.{acts, put, LINES, SOURCE, TAKEN}
use Rattle.rules.specs.Scalars.{INT, LEVEL}
use Rattle.rules.specs.Bytes.{part}
use Rattle.rules.specs.Carry.{go}
use Rattle.rules.specs.Fields.{controller, bits_of, holds, with_field}
use Rattle.rules.specs.View.{view_controller}
use Rattle.rules.specs.With.{with_controllers, with_lines}
use Rattle.rules.specs.declared.Controller.{Controller as HeldController}
use Rattle.rules.specs.Lines.{driven, sources, level_bytes, level_of, relevel, above, heard_from, hear, acknowledge, Found}
use Rattle.rules.proofs.BytesLaws.{length_part, get_or-part}
use Rattle.rules.proofs.FieldLaws.{in_three, Sound, levels_long, holds_fits}
use Rattle.rules.proofs.ViewLaws.{map_set, no_held, controller_viewed}
use Rattle.act.specs.Does.{Answers, Does}
use Rattle.act.specs.Parts.{Arrays, whole, held_at, SameLevels}
use Rattle.act.specs.declared.Core.{Core}
use Rattle.act.proofs.DoesLaws.{answers-done, answers-ask, answers_bind, answers_then, does-put, does-change}
use Rattle.controllers.proofs.MaskParts.{driven_fits}
use Rattle.controllers.specs.Levels.{sources_of, level_in, driven_in, controllers_in, highest_in, loud_in}

-- ---- what a controller says

-- a part that is the whole list
part-whole : (xs : List ℕ) (n : ℕ) → length xs ≡ n → part xs 0 n ≡ xs
part-whole xs n e = ext_get_or 0 (part xs 0 n) xs (length_part xs 0 n ∙ sym e) (λ i h. get_or-part xs 0 n i (rw (length_part xs 0 n) at h) ∙ at i)
  where
    at : (i : ℕ) → get_or xs (0 + i) 0 ≡ get_or xs i 0
    at i = ap (λ (k : ℕ). get_or xs k 0) (plain i)
      where
        plain : (i : ℕ) → 0 + i ≡ i
        plain i = omega arith

module _ (d : Device) (c : ℕ) where
  sources-answers : Answers (sources c) d (sources_of d.ignore (controller d.controllers c)) d
  unfolding Answers go sources acts
  sources-answers base lent mem used free = refl

  bytes_answer : (n s : ℕ) → Answers (level_bytes c n s) d (part (controller d.controllers c).levels s n) d
  unfolding level_bytes part
  bytes_answer zero s = answers-done d []
  bytes_answer (suc n) s =
      answers_bind _ _ d d d _ _ (answers-ask d (SOURCE c s)) (answers_bind _ _ d d d _ _ (bytes_answer n (suc s)) (answers-done d _))

  module _ (long : length (controller d.controllers c).levels ≡ 64) where
    levels_answer : Answers (level_bytes c 64 0) d (controller d.controllers c).levels d
    levels_answer =
        subst (λ (l : List ℕ). Answers (level_bytes c 64 0) d l d) (part-whole (controller d.controllers c).levels 64 long) (bytes_answer 64 0)

    level_answers : Answers (level_of c) d (level_in d.ignore (controller d.controllers c)) d
    unfolding level_of level_in
    level_answers = answers_bind _ _ d d d _ _ sources-answers (answers_bind _ _ d d d _ _ levels_answer (answers-done d _))

    heard_answers : (ipl : ℕ) (below : Found) → Answers (heard_from ipl c below) d (above c (loud_in ipl d.ignore (controller d.controllers c)) below) d
    unfolding heard_from loud_in
    heard_answers ipl below = answers_bind _ _ d d d _ _ sources-answers (answers_bind _ _ d d d _ _ levels_answer (answers-done d _))

-- ---- lines and level worked out anew

-- three others stored in an array of controllers, as code does it
abbrev pub stored3 : {A : Type 0} → List A → A → A → A → List A
stored3 cs x y z = set (set (set cs 0 x) 1 y) 2 z

-- what they stand for
pub stored_viewed : (cs : List HeldController) (x y z : HeldController)
    → map view_controller (stored3 cs x y z) ≡ stored3 (map view_controller cs) (view_controller x) (view_controller y) (view_controller z)
stored_viewed cs x y z =
    map_set view_controller (set (set cs 0 x) 1 y) 2 z
    ∙ ap (λ l. set l 2 (view_controller z)) (map_set view_controller (set cs 0 x) 1 y ∙ ap (λ l. set l 1 (view_controller y)) (map_set view_controller cs 0 x))

-- d with three controllers
abbrev pub with3 : Device → Controller → Controller → Controller → Device
with3 d x y z = with_controllers d (x ∷ y ∷ z ∷ [])

module _ (d : Device) (a b c : Controller) (s : Sound (with3 d a b c)) where
  x : Controller
  x = driven_in (holds INT d) (a ∷ b ∷ c ∷ []) 0

  y : Controller
  y = driven_in (holds INT d) (a ∷ b ∷ c ∷ []) 1

  z : Controller
  z = driven_in (holds INT d) (a ∷ b ∷ c ∷ []) 2

  lines_fit : (i : ℕ) → driven i (holds INT d) (controller (a ∷ b ∷ c ∷ []) i).lines < 2 ^ 64
  unfolding bits_of
  lines_fit i = driven_fits i (holds INT d) _ (holds_fits (LINES i) (with3 d a b c) s)

  three_does : (n : ℕ) → n < 2 ^ 8 → n ≡ max (level_in d.ignore z) (max (level_in d.ignore y) (level_in d.ignore x))
      → Does relevel (with3 d a b c) (with_field LEVEL n (with3 d x y z))
  unfolding relevel bits_of x y z
  three_does n h e =
      let r : Device = with_field LEVEL n (with3 d x y z) in
      answers_bind _ _ (with3 d a b c) (with3 d a b c) r _ _ (answers-ask (with3 d a b c) INT)
      (answers_then _ _ (with3 d a b c) (with3 d x b c) r _ _ (does-change (with3 d a b c) (LINES 0) (driven 0 (holds INT d)) (lines_fit 0))
      (answers_then _ _ (with3 d x b c) (with3 d x y c) r _ _ (does-change (with3 d x b c) (LINES 1) (driven 1 (holds INT d)) (lines_fit 1))
      (answers_then _ _ (with3 d x y c) (with3 d x y z) r _ _ (does-change (with3 d x y c) (LINES 2) (driven 2 (holds INT d)) (lines_fit 2))
      (answers_bind _ _ (with3 d x y z) (with3 d x y z) r _ _ (level_answers (with3 d x y z) 0 (levels_long (with3 d a b c) s 0 (omega arith)))
      (answers_bind _ _ (with3 d x y z) (with3 d x y z) r _ _ (level_answers (with3 d x y z) 1 (levels_long (with3 d a b c) s 1 (omega arith)))
      (answers_bind _ _ (with3 d x y z) (with3 d x y z) r _ _ (level_answers (with3 d x y z) 2 (levels_long (with3 d a b c) s 2 (omega arith)))
      (subst (λ (v : ℕ). Does (put LEVEL v) (with3 d x y z) r) e (does-put (with3 d x y z) LEVEL n h))))))))

-- as code works them out: the lines of each, then the highest of their levels
abbrev driven_held : ℕ → List HeldController → ℕ → Controller
driven_held int cs c = let k = get_or cs c no_held in with_lines (view_controller k) (driven c int k.lines)

driven_viewed : (int : ℕ) (cs : List HeldController) (c : ℕ) → driven_held int cs c ≡ driven_in int (map view_controller cs) c
driven_viewed int cs c = ap (λ (k : Controller). with_lines k (driven c int k.lines)) (sym (controller_viewed cs c))

pub made_anew : (ignore : Bool) (int : ℕ) (cs : List HeldController) {x y z : HeldController} {l0 l1 l2 m n : ℕ}
    → view_controller x ≡ driven_held int cs 0 → view_controller y ≡ driven_held int cs 1 → view_controller z ≡ driven_held int cs 2
    → l0 ≡ level_in ignore (view_controller x) → l1 ≡ level_in ignore (view_controller y) → l2 ≡ level_in ignore (view_controller z) → m ≡ max l1 l0 → n ≡ max l2 m
    → (map view_controller (stored3 cs x y z) ≡ controllers_in int (map view_controller cs)) × (n ≡ highest_in ignore int (map view_controller cs))
made_anew ignore int cs {x} {y} {z} ex ey ez e0 e1 e2 em en =
    let p = ex ∙ driven_viewed int cs 0 in
    let q = ey ∙ driven_viewed int cs 1 in
    let r = ez ∙ driven_viewed int cs 2 in
    (stored_viewed cs x y z ∙ rw (p, q, r) refl, en ∙ rw (em, e2, e1, e0, p, q, r) refl)

-- a device with them
pub relevel-does : (d : Device) → Sound d → {cs : List Controller} {n : ℕ} → cs ≡ controllers_in (holds INT d) d.controllers
    → n ≡ highest_in d.ignore (holds INT d) d.controllers → n < 2 ^ 8 → Does relevel d (with_field LEVEL n (with_controllers d cs))
relevel-does d s {n = n} lines e h =
    rw lines
    (in_three
    (λ cs. Sound (with_controllers d cs) → n ≡ highest_in d.ignore (holds INT d) cs → Does relevel (with_controllers d cs) (with_field LEVEL n (with_controllers d (controllers_in (holds INT d) cs))))
    (λ a b c t k. unfold x y z in three_does d a b c t n h k)
    d.controllers s.three s e)

-- ---- three controllers stored anew, with the level bytes of the old ones

levels-stored : (cs : List Controller) → length cs ≡ 3 → (x y z : Controller) → (controller cs 0).levels ≡ x.levels → (controller cs 1).levels ≡ y.levels
    → (controller cs 2).levels ≡ z.levels → (c : ℕ) → c < 3 → (controller cs c).levels ≡ (controller (stored3 cs x y z) c).levels
levels-stored cs three x y z p q r c h =
    in_three (λ ds. (controller ds 0).levels ≡ x.levels → (controller ds 1).levels ≡ y.levels → (controller ds 2).levels ≡ z.levels
    → (controller ds c).levels ≡ (controller (stored3 ds x y z) c).levels) (one c h) cs three p q r
  where
    one : (c : ℕ) → c < 3 → (a b d : Controller) → a.levels ≡ x.levels → b.levels ≡ y.levels → d.levels ≡ z.levels
        → (controller (a ∷ b ∷ d ∷ []) c).levels ≡ (controller (x ∷ y ∷ z ∷ []) c).levels
    one zero h a b d p q r = p
    one (suc zero) h a b d p q r = q
    one (suc (suc zero)) h a b d p q r = r
    one (suc (suc (suc c))) h a b d p q r = absurd (omega arith)

pub same-levels : (k l : Core) → length (map view_controller k.controllers) ≡ 3 → (x y z : Controller) → (controller (map view_controller k.controllers) 0).levels ≡ x.levels
    → (controller (map view_controller k.controllers) 1).levels ≡ y.levels → (controller (map view_controller k.controllers) 2).levels ≡ z.levels
    → map view_controller l.controllers ≡ stored3 (map view_controller k.controllers) x y z → SameLevels k l
same-levels k l three x y z p q r e = record { first = at 0 (lit< tt); second = at 1 (lit< tt); third = at 2 (lit< tt) }
  where
    at : (c : ℕ) → c < 3 → (held_at k c).levels ≡ (held_at l c).levels
    at c h =
        ap (λ (k : Controller). k.levels) (sym (controller_viewed k.controllers c))
        ∙ levels-stored (map view_controller k.controllers) three x y z p q r c h
        ∙ ap (λ (cs : List Controller). (controller cs c).levels) (sym e)
        ∙ ap (λ (k : Controller). k.levels) (controller_viewed l.controllers c)

-- ---- acknowledge

module _ (d : Device) (l i : ℕ) where
  pub hear-nothing : l ≡ 0 → Answers (hear (l, i)) d None d
  unfolding hear
  hear-nothing e = rw (eq-eqb l 0 e) (answers-done d _)

  -- the taken count rises, and wraps at 2^64
  pub hear_source : {n v : ℕ} → (l ≡ 0 → ⊥) → v ≡ (holds (TAKEN i) d + 1) % 2 ^ 64 → n ≡ 64 + i → Answers (hear (l, i)) d (Some (record { level = l; vector = n })) (with_field (TAKEN i) v d)
  unfolding hear bits_of
  hear_source {v = v} h e f =
      rw (ne_eqb l 0 h, f, e)
      (answers_then _ _ d (with_field (TAKEN i) ((holds (TAKEN i) d + 1) % 2 ^ 64) d) _ _ _ (does-change d (TAKEN i) (λ n. (n + 1) % 2 ^ 64) (mod-lt _ (pow_pos 64)))
      (answers-done _ _))

-- as code makes it: what is heard from each, then that source is heard
pub acknowledge-answers : (d : Device) → Sound d → (ipl : ℕ) {h0 h1 h2 : Found} → h0 ≡ above 0 (loud_in ipl d.ignore (controller d.controllers 0)) (0, 0)
    → h1 ≡ above 1 (loud_in ipl d.ignore (controller d.controllers 1)) h0
    → h2 ≡ above 2 (loud_in ipl d.ignore (controller d.controllers 2)) h1
    → (a : Heard) (r : Device) → Answers (hear h2) d a r → Answers (acknowledge ipl) d a r
unfolding acknowledge
acknowledge-answers d s ipl e0 e1 e2 a r h =
    answers_bind _ _ d d r _ _ (heard_answers d 0 (levels_long d s 0 (omega arith)) ipl (0, 0))
    (rw (← e0) (answers_bind _ _ d d r _ _ (heard_answers d 1 (levels_long d s 1 (omega arith)) ipl _)
    (rw (← e1) (answers_bind _ _ d d r _ _ (heard_answers d 2 (levels_long d s 2 (omega arith)) ipl _)
    (rw (← e2) h)))))

-- the same of a device in parts
abbrev heard_held : Core → ℕ → ℕ → Found
heard_held k ipl c = loud_in ipl k.ignore_masks (held_at k c)

pub acknowledge-held : (k : Core) (x : Arrays) → Sound (whole k x) → (ipl : ℕ) {h0 h1 h2 : Found} → h0 ≡ above 0 (heard_held k ipl 0) (0, 0) → h1 ≡ above 1 (heard_held k ipl 1) h0 → h2 ≡ above 2 (heard_held k ipl 2) h1
    → (a : Heard) (r : Device) → Answers (hear h2) (whole k x) a r → Answers (acknowledge ipl) (whole k x) a r
acknowledge-held k x s ipl {h0} {h1} {h2} e0 e1 e2 = acknowledge-answers (whole k x) s ipl (e0 ∙ at 0 (0, 0)) (e1 ∙ at 1 h0) (e2 ∙ at 2 h1)
  where
    at : (c : ℕ) (below : Found) → above c (heard_held k ipl c) below ≡ above c (loud_in ipl k.ignore_masks (controller (map view_controller k.controllers) c)) below
    at c below = ap (λ (n : Controller). above c (loud_in ipl k.ignore_masks n) below) (sym (controller_viewed k.controllers c))
