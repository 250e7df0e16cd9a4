-- The fields in number order, part after part, with what no act changes between them. Assumes nothing.
use mathlib.Core.List.{List, [], ◌∷◌, ◌++◌, append_assoc, append-nil, map}
use mathlib.Core.Path.{◌≡◌, refl, sym, ap, ap₂, ◌∙◌}
use Prim.Native.Nat.{ℕ, ◌+◌, ◌-◌}
use native.Mathlib.Omega.{arith}
use lib.ListN.{length, length-append, replicate}
use Rattle.rules.specs.Carry.{changed}
use Rattle.rules.specs.Fields.{joined, own_of, parts_of, fields_of, controller, masks_of}
use Rattle.rules.specs.Scalars.{scalar_bits, view_scalars}
use Rattle.rules.specs.State.{Controller}
use Rattle.rules.proofs.Proper.{Proper}
use Rattle.rules.proofs.FieldLaws.{sized, levels_long}
use Rattle.rules.proofs.ViewLaws.{controller_viewed}
use Rattle.act.specs.Parts.{Arrays, whole, held_at, SameLevels}
use Rattle.act.specs.declared.Core.{Core}
use Rattle.closing.specs.Closes.{Noted, Noting, noting, add_all, Notes, Part, core_in, levels_in, order_in}
use Rattle.closing.proofs.Laws.{part-on, same-on, none_changed, plain}

-- a part whose elements are themselves the numbers
pub of_numbers : {m n : ℕ} {b a : List ℕ} {s r : Noted} {j j' : List ℕ} → length b ≡ m → length a ≡ m → Notes n (map (λ (x : ℕ). x) b) (map (λ (x : ℕ). x) a) s r j j' → Part m n b a s r j j'
of_numbers l k e = record { long = l; long_now = k; noted = plain _ _ _ _ e }

-- a part, then the rest
rest-on : (s : Noted) (j : List ℕ) (n k m : ℕ) (b a xs ys : List ℕ) {t : Noted} {i : List ℕ} {o : Noting} → n + m ≡ k → Part m n b a s t j i
    → o ≡ add_all (changed k xs ys) (noting t i) → o ≡ add_all (changed n (b ++ xs) (a ++ ys)) (noting s j)
rest-on s j n k m b a xs ys e p f = part-on n k b a xs ys (noting s j) (p.long ∙ sym p.long_now) (ap (λ (l : ℕ). n + l) p.long ∙ e) p.noted f

-- of a controller its masks, forced, lines and config, then the rest
own_on : (s : Noted) (j : List ℕ) (n k : ℕ) (b a : Controller) (xs ys : List ℕ) {t : Noted} {i : List ℕ} {o : Noting} → n + 4 ≡ k → Notes n (masks_of b []) (masks_of a []) s t j i
    → o ≡ add_all (changed k xs ys) (noting t i) → o ≡ add_all (changed n (masks_of b xs) (masks_of a ys)) (noting s j)
own_on s j n k b a xs ys e p f = part-on n k (masks_of b []) (masks_of a []) xs ys (noting s j) refl e p f

-- ---- 0 to 63, 256 to 447

module _ (s : Noted) (j : List ℕ) (b a : Core) {t₁ t₂ t₃ r : Noted} {j₁ j₂ j₃ j' : List ℕ} where
  pub core_done : Notes 0 (view_scalars b.scalars) (view_scalars a.scalars) s t₁ j j₁
      → Notes 16 (masks_of (held_at b 0) []) (masks_of (held_at a 0) []) t₁ t₂ j₁ j₂
      → Notes 20 (masks_of (held_at b 1) []) (masks_of (held_at a 1) []) t₂ t₃ j₂ j₃
      → Notes 24 (masks_of (held_at b 2) []) (masks_of (held_at a 2) []) t₃ r j₃ j'
      → Notes 0 (core_in b) (core_in a) s r j j'
  unfolding core_in
  core_done e f g h =
      part-on 0 (length scalar_bits) (view_scalars b.scalars) (view_scalars a.scalars) _ _ (noting s j) refl refl e
      (same-on (length scalar_bits) 16 (replicate (16 - length scalar_bits) 0) _ _ (noting t₁ j₁) refl
      (own_on t₁ j₁ 16 20 (held_at b 0) (held_at a 0) _ _ refl f
      (own_on t₂ j₂ 20 24 (held_at b 1) (held_at a 1) _ _ refl g
      (own_on t₃ j₃ 24 28 (held_at b 2) (held_at a 2) _ _ refl h
      (none_changed 28 (replicate 36 0) (replicate 36 0) (noting r j') refl)))))

module _ (s : Noted) (j : List ℕ) (b a : Core) {t₁ t₂ r : Noted} {j₁ j₂ j' : List ℕ} where
  pub levels-done : Part 64 256 (held_at b 0).levels (held_at a 0).levels s t₁ j j₁ → Part 64 320 (held_at b 1).levels (held_at a 1).levels t₁ t₂ j₁ j₂
      → Part 64 384 (held_at b 2).levels (held_at a 2).levels t₂ r j₂ j' → Part 192 256 (levels_in b) (levels_in a) s r j j'
  unfolding levels_in
  levels-done e f g = record {
    long = long (held_at b 0).levels (held_at b 1).levels (held_at b 2).levels e.long f.long g.long;
    long_now = long (held_at a 0).levels (held_at a 1).levels (held_at a 2).levels e.long_now f.long_now g.long_now;
    noted =
        rest-on s j 256 320 64 (held_at b 0).levels (held_at a 0).levels _ _ refl e
        (rest-on t₁ j₁ 320 384 64 (held_at b 1).levels (held_at a 1).levels _ _ refl f g.noted);
  }
    where
      long : (x y z : List ℕ) → length x ≡ 64 → length y ≡ 64 → length z ≡ 64 → length (x ++ (y ++ z)) ≡ 192
      long x y z p q f = omega (arith, length-append x (y ++ z), length-append y z)

-- ---- what is the same needs no record

pub same : (n : ℕ) (xs : List ℕ) (s : Noted) (j : List ℕ) → Notes n xs xs s s j j
same n xs s j = none_changed n xs xs (noting s j) refl

module _ (k l : Core) (x : Arrays) (p : Proper (whole k x)) where
  levels_are : (c : ℕ) → length (controller (whole k x).controllers c).levels ≡ 64 → length (held_at k c).levels ≡ 64
  levels_are c e = ap (λ (n : Controller). length n.levels) (sym (controller_viewed k.controllers c)) ∙ e

  length_levels : length (levels_in k) ≡ 192
  unfolding levels_in
  length_levels =
      let a = levels_are 0 (levels_long (whole k x) p.sound 0 (omega arith)) in
      let b = levels_are 1 (levels_long (whole k x) p.sound 1 (omega arith)) in
      let c = levels_are 2 (levels_long (whole k x) p.sound 2 (omega arith)) in
      omega (arith, length-append (held_at k 0).levels ((held_at k 1).levels ++ (held_at k 2).levels), length-append (held_at k 1).levels (held_at k 2).levels)

  pub same-part : SameLevels k l → (s : Noted) (j : List ℕ) → Part 192 256 (levels_in k) (levels_in l) s s j j
  same-part e s j =
      let q : levels_in k ≡ levels_in l = (unfold levels_in in rw (e.first, e.second, e.third)) in
      record { long = length_levels; long_now = ap length (sym q) ∙ length_levels; noted = none_changed 256 (levels_in k) (levels_in l) (noting s j) q }

-- ---- all fields

own_in : (k : Core) (x : Arrays) → view_scalars k.scalars ++ (replicate (16 - length scalar_bits) 0 ++ own_of (whole k x)) ≡ core_in k
unfolding own_of core_in
own_in k x = rw (controller_viewed k.controllers 0, controller_viewed k.controllers 1, controller_viewed k.controllers 2) refl

levels_in_lem : (k : Core) (x : Arrays) → (controller (whole k x).controllers 0).levels ++ ((controller (whole k x).controllers 1).levels ++ (controller (whole k x).controllers 2).levels) ≡ levels_in k
unfolding levels_in
levels_in_lem k x = rw (controller_viewed k.controllers 0, controller_viewed k.controllers 1, controller_viewed k.controllers 2) refl

in_parts : (s g h x y z k l m o t q : List ℕ) → joined (s ∷ g ∷ h ∷ x ∷ y ∷ z ∷ k ∷ l ∷ m ∷ o ∷ t ∷ q ∷ []) ≡ (s ++ (g ++ h)) ++ (x ++ (y ++ (z ++ ((k ++ (l ++ m)) ++ (o ++ (t ++ q))))))
unfolding joined
in_parts s g h x y z k l m o t q = simp (append_assoc, append-nil)

fields_in : (k : Core) (x : Arrays) → fields_of (whole k x) ≡ core_in k ++ (x.busy ++ (x.majors ++ (x.pending ++ (levels_in k ++ (replicate 128 0 ++ (x.taken ++ order_in x))))))
unfolding fields_of parts_of
fields_in k x =
    in_parts (view_scalars k.scalars) (replicate (16 - length scalar_bits) 0) (own_of (whole k x)) x.busy x.majors x.pending _ _ _ (replicate 128 0) x.taken (order_in x)
    ∙ ap₂ (λ (h l : List ℕ). h ++ (x.busy ++ (x.majors ++ (x.pending ++ (l ++ (replicate 128 0 ++ (x.taken ++ order_in x))))))) (own_in k x) (levels_in_lem k x)

module _ (k : Core) (x : Arrays) (p : Proper (whole k x)) (s : Noted) (j : List ℕ) where
  pub same-busy : Part 64 64 x.busy x.busy s s j j
  unfolding parts_of
  same-busy = let z = sized (whole k x) p.sound in record { long = z.1.1.1.0; long_now = z.1.1.1.0; noted = same 64 x.busy s j }

  pub same-majors : Part 64 128 x.majors x.majors s s j j
  unfolding parts_of
  same-majors = let z = sized (whole k x) p.sound in record { long = z.1.1.1.1.0; long_now = z.1.1.1.1.0; noted = same 128 x.majors s j }

  pub same-pending : Part 64 192 x.pending x.pending s s j j
  unfolding parts_of
  same-pending = let z = sized (whole k x) p.sound in record { long = z.1.1.1.1.1.0; long_now = z.1.1.1.1.1.0; noted = same 192 x.pending s j }

  pub same_taken : Part 192 576 x.taken x.taken s s j j
  unfolding parts_of
  same_taken =
      let z = (sized (whole k x) p.sound).1.1.1.1.1.1.1.1.1.1 in
      record { long = z.0; long_now = z.0; noted = same 576 x.taken s j }

module _ (k l : Core) (x y : Arrays) (s : Noted) (j : List ℕ) {t₁ t₂ t₃ t₄ t₅ t₆ r : Noted} {j₁ j₂ j₃ j₄ j₅ j₆ j' : List ℕ} where
  pub every_noted : Notes 0 (core_in k) (core_in l) s t₁ j j₁ → Part 64 64 x.busy y.busy t₁ t₂ j₁ j₂ → Part 64 128 x.majors y.majors t₂ t₃ j₂ j₃
      → Part 64 192 x.pending y.pending t₃ t₄ j₃ j₄ → Part 192 256 (levels_in k) (levels_in l) t₄ t₅ j₄ j₅ → Part 192 576 x.taken y.taken t₅ t₆ j₅ j₆
      → Notes 768 (order_in x) (order_in y) t₆ r j₆ j' → Notes 0 (fields_of (whole k x)) (fields_of (whole l y)) s r j j'
  unfolding core_in
  every_noted e f g h i m o =
      rw (fields_in k x, fields_in l y)
      (part-on 0 64 (core_in k) (core_in l) _ _ (noting s j) refl refl e
      (rest-on t₁ j₁ 64 128 64 x.busy y.busy _ _ refl f
      (rest-on t₂ j₂ 128 192 64 x.majors y.majors _ _ refl g
      (rest-on t₃ j₃ 192 256 64 x.pending y.pending _ _ refl h
      (rest-on t₄ j₄ 256 448 192 (levels_in k) (levels_in l) _ _ refl i
      (same-on 448 576 (replicate 128 0) _ _ (noting t₅ j₅) refl
      (rest-on t₅ j₅ 576 768 192 x.taken y.taken _ _ refl m o)))))))

-- where priorities are as they were
module _ (k l : Core) (x y : Arrays) (s : Noted) (j : List ℕ) {t₁ t₂ t₃ t₄ t₅ r : Noted} {j₁ j₂ j₃ j₄ j₅ j' : List ℕ} where
  pub all_noted : Notes 0 (core_in k) (core_in l) s t₁ j j₁ → Part 64 64 x.busy y.busy t₁ t₂ j₁ j₂ → Part 64 128 x.majors y.majors t₂ t₃ j₂ j₃
      → Part 64 192 x.pending y.pending t₃ t₄ j₃ j₄ → Part 192 256 (levels_in k) (levels_in l) t₄ t₅ j₄ j₅ → Part 192 576 x.taken y.taken t₅ r j₅ j'
      → order_in x ≡ order_in y → Notes 0 (fields_of (whole k x)) (fields_of (whole l y)) s r j j'
  all_noted e f g h i m o = every_noted k l x y s j e f g h i m (none_changed 768 (order_in x) (order_in y) (noting r j') o)
