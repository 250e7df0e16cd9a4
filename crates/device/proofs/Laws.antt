-- The laws that the proofs of this crate cite: a spot and its field, the bits of a value, a controller's bounds, priorities. Assumes nothing.
use mathlib.Core.Bool.{Bool, true, false, cond}
use mathlib.Core.List.{List, [], ◌∷◌, ◌++◌}
use mathlib.Core.Option.{Option, none, some}
use mathlib.Core.Path.{◌≡◌, refl, sym, ap, ap₂, ◌∙◌, subst}
use Prim.Native.Nat.{ℕ, zero, suc, ◌+◌, ◌-◌, ◌%◌, ◌^◌, ◌≤◌, ◌<◌}
use native.Mathlib.Nat.{zero-add, add-zero, add-suc, suc-add, mod-eq_of_lt, le_trans, lt_of_lt_of_le}
use native.Mathlib.Omega.{arith}
use borrow.Author.Tests.{ltb-true, leb-true}
use lib.Dec.{leb, ltb, lit≤}
use lib.ListN.{get_or, set, length, replicate}
use lib.Pow.{pow_mono}
use Rattle.rules.specs.Act.{Field, SCALAR, MASKS, FORCED, LINES, CONFIG, BUSY, MAJORS, PENDING, SOURCE, TAKEN, PRIORITY}
use Rattle.rules.specs.Scalars.{scalar_bits, view_scalars}
use Rattle.rules.specs.Calls.{counting}
use Rattle.rules.specs.Fields.{bits_of, bits_in, number_of, controller, with_field, with_some, field_at, fits_some}
use Rattle.rules.specs.State.{Device}
use Rattle.rules.specs.View.{view_priorities, view}
use Rattle.rules.specs.With.{with_priorities}
use Rattle.rules.specs.declared.Device.{Device as HeldDevice}
use Rattle.rules.specs.declared.Scalars.{Scalars}
use Rattle.rules.proofs.FieldLaws.{Sound, levels_long, holds_fits, spot, bits_most as bits-in-most}
use Rattle.rules.proofs.Numbers.{at_priority, field_named}
use Rattle.rules.proofs.PartLaws.{any_default, Within, within_set}
use Rattle.rules.proofs.ScalarLaws.{scalar_bits_lem}
use Rattle.rules.proofs.Told.{prioritized}
use Rattle.rules.proofs.ViewLaws.{map_set}
use Rattle.device.specs.declared.Spot.{Spot}
use Rattle.std.specs.Prelude.{Option as Maybe, Some, None}
use Rattle.std.specs.Option.{unwrap_or}
use Rattle.std.proofs.lemmas.Option.{none-some, same_Some}
use Rattle.device.specs.Spots.{low, cut, Fits, Found, field_of, Inside, bits_some, bits_at, bits_found}

-- ---- a controller

pub controller_fits : (d : Device) → Sound d → (c : ℕ) → c < 3 → Fits (controller d.controllers c)
unfolding bits_of
controller_fits d s c h = record {
  masks = holds_fits (MASKS c) d s;
  forced = holds_fits (FORCED c) d s;
  lines = holds_fits (LINES c) d s;
  config = holds_fits (CONFIG c) d s;
  levels_long = levels_long d s c h;
  levels = λ i. holds_fits (SOURCE c i) d s;
}

-- ---- priorities

-- the numbers of the first k channels, zeros behind them
abbrev pub counted_to : ℕ → List ℕ
counted_to k = counting k 0 ++ replicate (64 - k) 0

pub counted_none : replicate 64 0 ≡ counted_to 0
unfolding counting
counted_none = refl

pub counted-turn : {l : List ℕ} (k : ℕ) → k < 64 → l ≡ counted_to k → set l k k ≡ counted_to (k + 1)
unfolding counting
counted-turn {l} k h p =
    let one : k + 1 ≡ suc k = omega arith in
    let more : 64 - k ≡ suc (64 - suc k) = omega arith in
    rw (one, p, more) (rw zero-add at (next k 0 (replicate (64 - suc k) 0)))
  where
    next : (n from : ℕ) (xs : List ℕ) → set (counting n from ++ 0 ∷ xs) n (from + n) ≡ counting (suc n) from ++ xs
    next zero from xs = rw (add-zero from) refl
    next (suc n) from xs = ap (λ (r : List ℕ). from ∷ r) (ap (set (counting n (suc from) ++ 0 ∷ xs) n) (omega arith) ∙ next n (suc from) xs)

-- the mode's fresh ones
pub own_numbers : (chip : Bool) {l : List ℕ} → chip ≡ true → l ≡ counting 64 0 → view_priorities chip l ≡ cond chip (counting 64 0) (replicate 64 0)
unfolding counting bits_of
own_numbers chip e p = rw (p, e) refl

-- one stored that the mode's bits can hold
pub priority_put : (d : HeldDevice) (ch v : ℕ) → v < 2 ^ bits_in d.chip (PRIORITY ch) → view (prioritized d (set d.priorities ch v)) ≡ with_field (PRIORITY ch) v (view d)
unfolding bits_of
priority_put d ch v h =
    ap (with_priorities (view d))
    (map_set (λ (x : ℕ). x % 2 ^ bits_in d.chip (PRIORITY 0)) d.priorities ch v ∙ ap (set (view_priorities d.chip d.priorities) ch) (mod-eq_of_lt h))

-- their numbers lead to them in the chip's mode alone
pub at_chip : {chip : Bool} {n : ℕ} → 768 ≤ n → n < 832 → chip ≡ true → field_at chip n ≡ some (PRIORITY (n - 768))
at_chip {chip} {n} h k e = at_priority chip n h k ∙ ap (λ b. cond b (some (PRIORITY (n - 768))) none) e

pub at_old : {chip : Bool} {n : ℕ} → 768 ≤ n → n < 832 → chip ≡ false → field_at chip n ≡ none
at_old {chip} {n} h k e = at_priority chip n h k ∙ ap (λ b. cond b (some (PRIORITY (n - 768))) none) e

chip-alone : (chip : Bool) (n ch : ℕ) → field_at chip n ≡ some (PRIORITY ch) → chip ≡ true
unfolding spot number_of
chip-alone true n ch e = refl
chip-alone false n ch e =
    let p = field_named false n (PRIORITY ch) e in
    let q : field_at false n ≡ none = at_old (omega (arith, p.number)) (omega (arith, p.number, p.real)) refl in
    absurd (let z : ◌≡◌ {A = ℕ} 0 1 = cc in omega arith)

-- one that has a number in a mode has all its bits there
named_bits : (chip : Bool) (n : ℕ) (f : Field) → field_at chip n ≡ some f → bits_in chip f ≡ bits_of f
named_bits chip n (SCALAR i) e = refl
named_bits chip n (MASKS c) e = refl
named_bits chip n (FORCED c) e = refl
named_bits chip n (LINES c) e = refl
named_bits chip n (CONFIG c) e = refl
named_bits chip n (BUSY ch) e = refl
named_bits chip n (MAJORS ch) e = refl
named_bits chip n (PENDING ch) e = refl
named_bits chip n (SOURCE c s) e = refl
named_bits chip n (TAKEN i) e = refl
named_bits chip n (PRIORITY ch) e = ap (λ b. bits_in b (PRIORITY ch)) (chip-alone chip n ch e)

-- ---- the spot of number n in a mode, which a match found to be t

module _ {chip : Bool} {n : ℕ} {o : Maybe Spot} {t : Spot} (p : Found chip n o) (e : o ≡ Some t) where
  found : Found chip n (Some t)
  found = subst (Found chip n) e p

  pub found_inside : Inside t
  found_inside = found.inside

  pub found_fits : (v : ℕ) → fits_some chip (field_at chip n) v ≡ true → fits_some chip (some (field_of t)) v ≡ true
  found_fits v h = subst (λ o. fits_some chip o v ≡ true) (sym found.name) h

  pub found_bits : {x : ℕ} → x ≡ bits_of (field_of t) → Some x ≡ bits_found chip (field_at chip n)
  found_bits h = rw (h, ← found.name, named_bits chip n (field_of t) (sym found.name)) refl

  pub found_puts : (v : ℕ) (d : Device) {r : Device} → r ≡ with_field (field_of t) v d → r ≡ with_some (field_at chip n) v d
  found_puts v d h = h ∙ ap (λ o. with_some o v d) found.name

-- and where it found none
module _ {chip : Bool} {n : ℕ} {o : Maybe Spot} (p : Found chip n o) (e : o ≡ None) where
  none_found : Found chip n None
  none_found = subst (Found chip n) e p

  pub none_bits : None ≡ bits_found chip (field_at chip n)
  none_bits = rw (← none_found.name) refl

  pub none_puts : (v : ℕ) (d : Device) → d ≡ with_some (field_at chip n) v d
  none_puts v d = ap (λ o. with_some o v d) none_found.name

-- a number says the same, 0 where there is none
pub bits_number : (chip : Bool) (n : ℕ) {r : Maybe ℕ} → r ≡ bits_found chip (field_at chip n) → unwrap_or r 0 ≡ bits_at chip n
bits_number chip n p = ap (λ r. unwrap_or r 0) p ∙ by (field_at chip n)
  where
    by : (o : Option Field) → unwrap_or (bits_found chip o) 0 ≡ bits_some chip o
    by none = refl
    by (some f) = refl

-- ---- a value's bits

-- every field has some, and at most 64
pub some_to_64 : (f : Field) → (ltb 0 (bits_of f) ≡ true) × (leb (bits_of f) 64 ≡ true)
unfolding bits_of
some_to_64 (SCALAR i) = scalar_bits_lem i
some_to_64 (MASKS c) = (refl, refl)
some_to_64 (FORCED c) = (refl, refl)
some_to_64 (LINES c) = (refl, refl)
some_to_64 (CONFIG c) = (refl, refl)
some_to_64 (BUSY ch) = (refl, refl)
some_to_64 (MAJORS ch) = (refl, refl)
some_to_64 (PENDING ch) = (refl, refl)
some_to_64 (SOURCE c s) = (refl, refl)
some_to_64 (TAKEN i) = (refl, refl)
some_to_64 (PRIORITY ch) = (refl, refl)

-- a value that a field can hold in a mode has the field's bits
pub fits_bits : (chip : Bool) (f : Field) (v : ℕ) → fits_some chip (some f) v ≡ true → v < 2 ^ bits_of f
fits_bits chip f v h = lt_of_lt_of_le (ltb-true _ _ h) (pow_mono (bits-in-most chip f))

pub priority_byte : (chip : Bool) (ch v : ℕ) → fits_some chip (some (PRIORITY ch)) v ≡ true → v < 2 ^ 8
unfolding bits_of
priority_byte chip ch v h = let k = fits_bits chip (PRIORITY ch) v h in omega arith

pub bits_most : (chip : Bool) (n : ℕ) → bits_at chip n ≤ 64
bits_most chip n = most (field_at chip n)
  where
    most : (o : Option Field) → bits_some chip o ≤ 64
    most none = lit≤ tt
    most (some f) = le_trans (bits-in-most chip f) (leb-true (bits_of f) 64 (some_to_64 f).1)

-- the code's table
pub listed_bits : (n : ℕ) → n < length scalar_bits → get_or scalar_bits n 0 ≡ bits_of (SCALAR n)
unfolding bits_of
listed_bits n h = any_default scalar_bits n 0 64 h

-- a field that was found has some bits, and at most 64
pub found_ranged : (chip : Bool) (n : ℕ) {b : ℕ} → Some b ≡ bits_found chip (field_at chip n) → (0 < b) × (b ≤ 64)
found_ranged chip n {b} p = by (field_at chip n) refl p
  where
    by : (o : Option Field) → field_at chip n ≡ o → Some b ≡ bits_found chip o → (0 < b) × (b ≤ 64)
    by none q e = absurd (none-some b (sym e))
    by (some f) q e =
        let s : b ≡ bits_of f = same_Some b _ e ∙ named_bits chip n f q in
        let r = some_to_64 f in
        (rw s (ltb-true 0 (bits_of f) r.0), rw s (leb-true (bits_of f) 64 r.1))

-- and where no bits are, no value fits
module _ (chip : Bool) (n v : ℕ) {b : ℕ} (e : b ≡ bits_at chip n) where
  pub fits_none : b ≡ 0 → false ≡ fits_some chip (field_at chip n) v
  fits_none z = by (field_at chip n) refl (sym e ∙ z)
    where
      by : (o : Option Field) → field_at chip n ≡ o → bits_some chip o ≡ 0 → false ≡ fits_some chip o v
      by none p q = refl
      by (some f) p q = absurd (omega (arith, ltb-true 0 (bits_of f) (some_to_64 f).0, sym (named_bits chip n f p) ∙ q))

-- ---- numbers cut to their bits

low_fits : (b x : ℕ) → x < 2 ^ b → low b x ≡ x
unfolding low
low_fits b x h = by (leb 64 b)
  where
    by : (t : Bool) → cond t x (x % 2 ^ b) ≡ x
    by true = refl
    by false = mod-eq_of_lt h

-- those that have no more bits stay
cut_fits : (n : ℕ) (bs l xs : List ℕ) → ((i : ℕ) → get_or l (n + i) 0 ≡ get_or xs i 0) → Within bs xs → cut n bs l ≡ xs
unfolding cut
cut_fits n [] l [] e h = refl
cut_fits n [] l (x ∷ xs) e h = absurd h
cut_fits n (b ∷ bs) l [] e h = absurd h
cut_fits n (b ∷ bs) l (x ∷ xs) e h =
    ap₂ (λ y ys. y ∷ ys) (ap (λ (k : ℕ). low b (get_or l k 0)) (sym (add-zero n)) ∙ ap (low b) (e 0) ∙ low_fits b x h.0)
    (cut_fits (suc n) bs l xs (λ i. ap (λ (k : ℕ). get_or l k 0) (suc-add n i ∙ sym (add-suc n i)) ∙ e (suc i)) h.1)

-- one of them stored
pub scalar_stored : (s r : Scalars) (n v : ℕ) {l : List ℕ} → Within scalar_bits (view_scalars s) → v < 2 ^ get_or scalar_bits n 64
    → l ≡ view_scalars s → view_scalars r ≡ cut 0 scalar_bits (set l n v) → view_scalars r ≡ set (view_scalars s) n v
scalar_stored s r n v {l} h k p e =
    let q : set l n v ≡ set (view_scalars s) n v = ap (λ (m : List ℕ). set m n v) p in
    e ∙ cut_fits 0 scalar_bits (set l n v) (set (view_scalars s) n v) (λ i. ap (λ (m : List ℕ). get_or m (0 + i) 0) q ∙ ap (λ (m : ℕ). get_or (set (view_scalars s) n v) m 0) (zero-add i))
    (within_set scalar_bits (view_scalars s) n v h (λ m. subst (λ b. v < 2 ^ b) (any_default scalar_bits n 64 0 m) k))
