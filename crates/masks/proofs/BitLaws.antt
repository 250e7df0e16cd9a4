-- Some bits of a mask, read and replaced (`specs/Lines.antt` of rules), over their place i and number n. Assumes nothing.
use mathlib.Core.Path.{◌≡◌, sym, ap, ◌∙◌, subst}
use Prim.Native.Nat.{ℕ, ◌+◌, ◌-◌, ◌*◌, ◌/◌, ◌%◌, ◌^◌, ◌≤◌, ◌<◌}
use native.Mathlib.Nat.{add_comm, mod-lt}
use native.Mathlib.Omega.{arith}
use lib.Arith.{digits_lt}
use lib.Pow.{pow-add, pow_pos, shr_lt, shl_exact, split, mod-pow-add}
use Rattle.rules.specs.Lines.{bits_from, with_bits_from}

module _ (i n m : ℕ) where
  pub bits_lt : bits_from i n m < 2 ^ n
  unfolding bits_from
  bits_lt = mod-lt (m / 2 ^ i) (pow_pos n)

  -- a mask: what stands above the bits, they, and what stands below
  in_parts : m / 2 ^ (i + n) * 2 ^ (i + n) + (bits_from i n m * 2 ^ i + m % 2 ^ i) ≡ m
  unfolding bits_from
  in_parts =
      ap (λ (x : ℕ). m / 2 ^ (i + n) * 2 ^ (i + n) + x) (sym (mod-pow-add m n i) ∙ ap (λ (k : ℕ). m % 2 ^ k) (add_comm n i)) ∙ split m (i + n)

  bits_le : bits_from i n m * 2 ^ i ≤ m
  bits_le = middle _ _ (m % 2 ^ i) m in_parts
    where
      middle : (a b c m : ℕ) → a + (b + c) ≡ m → b ≤ m
      middle a b c m e = omega arith

  -- the old ones go, the new ones come
  bits_replaced : (new : ℕ) → m - bits_from i n m * 2 ^ i + new * 2 ^ i ≡ with_bits_from i n new m
  unfolding with_bits_from
  bits_replaced new = replaced (m / 2 ^ (i + n) * 2 ^ (i + n)) (bits_from i n m * 2 ^ i) (m % 2 ^ i) m (new * 2 ^ i) in_parts
    where
      replaced : (a b c m d : ℕ) → a + (b + c) ≡ m → m - b + d ≡ a + d + c
      replaced a b c m d e = omega arith

pub replaced_fits : (w i n new m : ℕ) → i + n ≤ w → new < 2 ^ n → m < 2 ^ w → with_bits_from i n new m < 2 ^ w
unfolding with_bits_from
replaced_fits w i n new m h l g =
    let k : ℕ = w - (i + n) in
    let e : k + (i + n) ≡ w = omega arith in
    let low : new * 2 ^ i + m % 2 ^ i < 2 ^ (i + n) = subst (λ (p : ℕ). new * 2 ^ i + m % 2 ^ i < p) (sym (pow-add 2 n i) ∙ ap (λ (x : ℕ). 2 ^ x) (add_comm n i)) (digits_lt l (mod-lt m (pow_pos i))) in
    let high : m / 2 ^ (i + n) < 2 ^ k = shr_lt k (i + n) (subst (λ (x : ℕ). m < 2 ^ x) (sym e) g) in
    regroup (m / 2 ^ (i + n) * 2 ^ (i + n)) (new * 2 ^ i) (m % 2 ^ i) (2 ^ w)
    (subst (λ (p : ℕ). m / 2 ^ (i + n) * 2 ^ (i + n) + (new * 2 ^ i + m % 2 ^ i) < p) (sym (pow-add 2 k (i + n)) ∙ ap (λ (x : ℕ). 2 ^ x) e) (digits_lt high low))
  where
    regroup : (a b c p : ℕ) → a + (b + c) < p → a + b + c < p
    regroup a b c p h = omega arith

-- at w bits, as code makes it by shifts, with the bits b that are there
module _ (w i n new m : ℕ) {b : ℕ} (e : b ≡ bits_from i n m) (h : i + n ≤ w) where
  shifted : {x : ℕ} → x < 2 ^ n → (x * 2 ^ i) % 2 ^ w ≡ x * 2 ^ i
  shifted l = shl_exact n i w l (omega arith)

  old : (b * 2 ^ i) % 2 ^ w ≡ bits_from i n m * 2 ^ i
  old = rw e (shifted (bits_lt i n m))

  pub old_le : (b * 2 ^ i) % 2 ^ w ≤ m
  old_le = rw old (bits_le i n m)

  pub replaced : new < 2 ^ n → m - (b * 2 ^ i) % 2 ^ w + (new * 2 ^ i) % 2 ^ w ≡ with_bits_from i n new m
  replaced l = rw (old, shifted l) (bits_replaced i n m new)
