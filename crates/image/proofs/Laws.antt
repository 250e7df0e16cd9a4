-- The laws that the proofs of this crate cite: numbers laid down and read, place by place. Assumes nothing.
use mathlib.Core.Bool.{Bool, true, false, cond, ◌&&◌, false≢true}
use mathlib.Core.List.{List, [], ◌∷◌, ◌++◌, map, append-nil}
use mathlib.Core.Path.{◌≡◌, refl, sym, ap, ap₂, subst, ◌∙◌}
use Prim.Native.Nat.{ℕ, zero, suc, ◌+◌, ◌-◌, ◌*◌, ◌%◌, ◌^◌, ◌≤◌, ◌<◌}
use native.Mathlib.Nat.{zero-add, add-zero, add-suc, suc-add, sub-zero, sub_self, le_antisymm, not-suc-le-zero, le_of_suc-le-suc}
use native.Mathlib.Omega.{arith}
use borrow.Author.Tests.{eqb-true, eq-eqb, leb-true}
use lib.Dec.{eqb, leb}
use lib.ListN.{length, get_or, set, drop, length-append, length-map, drop_of_length-le}
use lib.Seq.{drop-cons, drop-length}
use Rattle.rules.specs.Bytes.{bytes, number, part, splice}
use Rattle.rules.specs.Scalars.{scalar_bits}
use Rattle.rules.proofs.BytesLaws.{splice_append, splice_comm, splice_nil, length_bytes}
use Rattle.rules.proofs.Cut.{splice_cut}
use Rattle.rules.proofs.Powers.{low-low}
use Rattle.rules.proofs.ScalarLaws.{scalar_bits_lem}
use Rattle.rules.proofs.ViewLaws.{map_get}
use Rattle.device.specs.Spots.{low, cut}
use Rattle.image.specs.Image.{laid, setting_bytes, number_in, numbers_in, scalars_in, alike}

-- ---- laying down

pub length_laid : (vs : List ℕ) → length (laid vs) ≡ 8 * length vs
unfolding laid
length_laid [] = refl
length_laid (v ∷ vs) =
    let e : length (bytes 8 v ++ laid vs) ≡ length (bytes 8 v) + length (laid vs) = length-append (bytes 8 v) (laid vs) in
    omega (arith, e, length_bytes 8 v, length_laid vs)

pub laid_none : (x : List ℕ) (from : ℕ) (v : List ℕ) → x ≡ splice x (2064 + 8 * (from + length v)) (laid (drop (length v) v))
unfolding laid
laid_none x from v = rw (drop-length v) (sym (splice_nil x (2064 + 8 * (from + length v))))

-- one more, before those that are there
pub laid-turn : (x : List ℕ) (from : ℕ) (v : List ℕ) (l k u : ℕ) (y z : List ℕ) → suc k ≡ l → l ≤ length v
    → y ≡ splice x (2064 + 8 * (from + l)) (laid (drop l v)) → u ≡ get_or v k 0
    → z ≡ splice y (2064 + 8 * (from + k)) (bytes 8 u)
    → z ≡ splice x (2064 + 8 * (from + k)) (laid (drop k v))
laid-turn x from v l k u y z e b p r q =
    let here : splice x (2064 + 8 * (from + l)) (laid (drop l v)) ≡ splice x (2064 + 8 * (from + suc k)) (laid (drop (suc k) v)) = ap (λ n. splice x (2064 + 8 * (from + n)) (laid (drop n v))) (sym e) in
    let next : 2064 + 8 * (from + suc k) ≡ 2064 + 8 * (from + k) + length (bytes 8 (get_or v k 0)) = omega (arith, length_bytes 8 (get_or v k 0)) in
    let more : splice x (2064 + 8 * (from + k)) (bytes 8 (get_or v k 0) ++ laid (drop (suc k) v)) ≡ splice x (2064 + 8 * (from + k)) (laid (drop k v)) = rw (drop-cons v k 0 (omega (arith, e))) (unfold laid in refl) in
    q
    ∙ ap (λ n. splice y (2064 + 8 * (from + k)) (bytes 8 n)) r
    ∙ ap (λ m. splice m (2064 + 8 * (from + k)) (bytes 8 (get_or v k 0))) (p ∙ here ∙ ap (λ n. splice x n (laid (drop (suc k) v))) next)
    ∙ sym (splice_append x (2064 + 8 * (from + k)) (bytes 8 (get_or v k 0)) (laid (drop (suc k) v)))
    ∙ more

-- the same where the length is told in another way
pub row-none : (x : List ℕ) (from : ℕ) (v : List ℕ) {n : ℕ} → length v ≡ n → x ≡ splice x (2064 + 8 * (from + n)) (laid (drop n v))
row-none x from v long = subst (λ (m : ℕ). x ≡ splice x (2064 + 8 * (from + m)) (laid (drop m v))) long (laid_none x from v)

-- the low six bits of each
abbrev pub sixes : List ℕ → List ℕ
sixes v = map (λ (x : ℕ). x % 64) v

module _ (x : List ℕ) (from : ℕ) (v : List ℕ) where
  pub sixes_none : x ≡ splice x (2064 + 8 * (from + length v)) (laid (drop (length v) (sixes v)))
  sixes_none = rw length-map at (laid_none x from (sixes v))

  pub sixes_turn : (l k u : ℕ) (y z : List ℕ) → suc k ≡ l → l ≤ length v
      → y ≡ splice x (2064 + 8 * (from + l)) (laid (drop l (sixes v))) → u ≡ get_or v k 0 % 64
      → z ≡ splice y (2064 + 8 * (from + k)) (bytes 8 u)
      → z ≡ splice x (2064 + 8 * (from + k)) (laid (drop k (sixes v)))
  sixes_turn l k u y z e b p r q =
      laid-turn x from (sixes v) l k u y z e (omega (arith, length-map v (λ (x : ℕ). x % 64))) p (r ∙ sym (map_get (λ (x : ℕ). x % 64) v k 0)) q

-- one list behind the other
pub splice_next : (x : List ℕ) (at : ℕ) (ys zs : List ℕ) → splice (splice x at ys) (at + length ys) zs ≡ splice x at (ys ++ zs)
splice_next x at ys zs = splice_comm x at ys (at + length ys) zs (omega arith) ∙ sym (splice_append x at ys zs)

-- the settings
abbrev pub flags : Bool → Bool → ℕ
flags ignore chip = cond ignore 0x0100000000000000 0 + cond chip 0x0001000000000000 0

pub flags-laid : (ignore chip : Bool) → bytes 8 (flags ignore chip) ++ bytes 8 0 ≡ setting_bytes ignore chip
unfolding bytes setting_bytes
flags-laid true true = refl
flags-laid true false = refl
flags-laid false true = refl
flags-laid false false = refl

pub flags-put : (x y z : List ℕ) (ignore chip : Bool) (f : ℕ) → f ≡ flags ignore chip → y ≡ splice x 2048 (bytes 8 f) → z ≡ splice y 2056 (bytes 8 0) → z ≡ splice x 2048 (setting_bytes ignore chip)
flags-put x y z ignore chip f e p q =
    let next : 2048 + length (bytes 8 f) ≡ 2056 = omega (arith, length_bytes 8 f) in
    q ∙ ap (λ l. splice l 2056 (bytes 8 0)) p ∙ ap (λ n. splice (splice x 2048 (bytes 8 f)) n (bytes 8 0)) (sym next) ∙ splice_next x 2048 (bytes 8 f) (bytes 8 0)
    ∙ ap (splice x 2048) (ap (λ n. bytes 8 n ++ bytes 8 0) e ∙ flags-laid ignore chip)

-- ---- reading

pub length_numbers : (bits : ℕ) (b : List ℕ) (n k : ℕ) → length (numbers_in bits b n k) ≡ k
unfolding numbers_in
length_numbers bits b n zero = refl
length_numbers bits b n (suc k) = ap suc (length_numbers bits b (suc n) k)

pub splice_all : (x y : List ℕ) → length y ≡ length x → splice x 0 y ≡ y
splice_all x y e =
    let none : drop (0 + length y) x ≡ [] = drop_of_length-le x {i = 0 + length y} (omega (arith, e)) in
    splice_cut x 0 y (omega (arith, e)) ∙ ap (λ l. y ++ l) none ∙ append-nil y

pub number_of : (bits : ℕ) (b : List ℕ) (n k i : ℕ) → i < k → get_or (numbers_in bits b n k) i 0 ≡ number_in bits b (n + i)
unfolding numbers_in
number_of bits b n zero i h = absurd (not-suc-le-zero h)
number_of bits b n (suc k) zero h = ap (number_in bits b) (sym (add-zero n))
number_of bits b n (suc k) (suc i) h = number_of bits b (suc n) k i (le_of_suc-le-suc h) ∙ ap (number_in bits b) (suc-add n i ∙ sym (add-suc n i))

-- the low bits of a number that was read whole
low-number : (bits : ℕ) (b : List ℕ) (n : ℕ) → bits ≤ 64 → low bits (number_in 64 b n) ≡ number_in bits b n
unfolding low number_in
low-number bits b n h = by (leb 64 bits) refl
  where
    x : ℕ
    x = number (part b (2064 + 8 * n) 8)

    by : (t : Bool) → leb 64 bits ≡ t → cond t (x % 2 ^ 64) (x % 2 ^ 64 % 2 ^ bits) ≡ x % 2 ^ bits
    by true e = ap (λ (k : ℕ). x % 2 ^ k) (le_antisymm (leb-true 64 bits e) h)
    by false e = low-low 64 bits x h

-- numbers read whole, and then cut
cut_in : (bs b : List ℕ) (n k : ℕ) → ((i : ℕ) → get_or bs i 64 ≤ 64) → n + length bs ≤ k → cut n bs (numbers_in 64 b 0 k) ≡ scalars_in bs b n
unfolding cut scalars_in
cut_in [] b n k h l = refl
cut_in (w ∷ ws) b n k h l =
    ap₂ (λ y ys. y ∷ ys) (ap (low w) (number_of 64 b 0 k n (omega arith) ∙ ap (number_in 64 b) (zero-add n)) ∙ low-number w b n (h 0))
    (cut_in ws b (suc n) k (λ i. h (suc i)) (omega arith))

pub scalars_got : (b : List ℕ) {first scalars : List ℕ} → first ≡ numbers_in 64 b 0 16 → scalars ≡ cut 0 scalar_bits first → scalars ≡ scalars_in scalar_bits b 0
scalars_got b p q = q ∙ ap (cut 0 scalar_bits) p ∙ cut_in scalar_bits b 0 16 (λ i. leb-true (get_or scalar_bits i 64) 64 (scalar_bits_lem i).1) (omega arith)

module _ (bits : ℕ) (b x : List ℕ) (from : ℕ) where
  pub numbers_none : x ≡ splice x (length x) (numbers_in bits b (from + length x) (length x - length x))
  unfolding numbers_in
  numbers_none = rw (sub_self (length x)) (sym (splice_nil x (length x)))

  pub numbers_turn : (l k v : ℕ) (y : List ℕ) → suc k ≡ l → l ≤ length x
      → y ≡ splice x l (numbers_in bits b (from + l) (length x - l)) → v ≡ number_in bits b (from + k)
      → set y k v ≡ splice x k (numbers_in bits b (from + k) (length x - k))
  numbers_turn l k v y e h p q =
      let here : splice x l (numbers_in bits b (from + l) (length x - l)) ≡ splice x (suc k) (numbers_in bits b (suc (from + k)) (length x - suc k)) = rw (← e, add-suc from k) refl in
      let more : suc (length x - suc k) ≡ length x - k = omega (arith, e) in
      rw (p ∙ here, q, ← more) (unfold numbers_in splice in refl)

  pub numbers_all : (left : ℕ) (y : List ℕ) → left ≡ 0
      → y ≡ splice x left (numbers_in bits b (from + left) (length x - left)) → y ≡ numbers_in bits b from (length x)
  numbers_all left y e p =
      p ∙ ap (λ n. splice x n (numbers_in bits b (from + n) (length x - n))) e ∙ rw (add-zero from, sub-zero (length x)) (splice_all x (numbers_in bits b from (length x)) (length_numbers bits b from (length x)))

-- the same where the length is told in another way
module _ (bits : ℕ) (b x : List ℕ) (from : ℕ) {n : ℕ} (long : length x ≡ n) where
  pub got_none : x ≡ splice x n (numbers_in bits b (from + n) (n - n))
  got_none = subst (λ (m : ℕ). x ≡ splice x m (numbers_in bits b (from + m) (m - m))) long (numbers_none bits b x from)

  pub got_turn : (l k v : ℕ) (y : List ℕ) → suc k ≡ l → l ≤ n
      → y ≡ splice x l (numbers_in bits b (from + l) (n - l)) → v ≡ number_in bits b (from + k)
      → set y k v ≡ splice x k (numbers_in bits b (from + k) (n - k))
  got_turn l k v y e h p q =
      subst (λ (m : ℕ). l ≤ m → y ≡ splice x l (numbers_in bits b (from + l) (m - l)) → set y k v ≡ splice x k (numbers_in bits b (from + k) (m - k))) long
      (λ i r. numbers_turn bits b x from l k v y e i r q) h p

  pub got_all : (left : ℕ) (y : List ℕ) → left ≡ 0 → y ≡ splice x left (numbers_in bits b (from + left) (n - left)) → y ≡ numbers_in bits b from n
  got_all left y e p =
      subst (λ (m : ℕ). y ≡ splice x left (numbers_in bits b (from + left) (m - left)) → y ≡ numbers_in bits b from m) long
      (numbers_all bits b x from left y e) p

-- ---- number by number

pub alike_lengths : (a b : List ℕ) → (length a ≡ length b → ⊥) → alike a b ≡ false
unfolding alike
alike_lengths [] [] h = absurd (h refl)
alike_lengths [] (y ∷ b) h = refl
alike_lengths (x ∷ a) [] h = refl
alike_lengths (x ∷ a) (y ∷ b) h = rw (alike_lengths a b (λ e. h (ap suc e))) (either (eqb x y))
  where
    either : (t : Bool) → cond t false false ≡ false
    either true = refl
    either false = refl

alike_both : (x y : ℕ) (a b : List ℕ) (t : Bool) → eqb x y ≡ t → (alike a b ≡ true → a ≡ b) → cond t (alike a b) false ≡ true → x ∷ a ≡ y ∷ b
alike_both x y a b true e f g = rw (eqb-true x y e, f g) refl
alike_both x y a b false e f g = absurd (false≢true g)

pub alike_same : (a b : List ℕ) → alike a b ≡ true → a ≡ b
unfolding alike
alike_same [] [] h = refl
alike_same [] (y ∷ b) h = absurd (false≢true h)
alike_same (x ∷ a) [] h = absurd (false≢true h)
alike_same (x ∷ a) (y ∷ b) h = alike_both x y a b (eqb x y) refl (alike_same a b) h

pub alike_self : (a : List ℕ) → alike a a ≡ true
unfolding alike
alike_self [] = refl
alike_self (x ∷ a) = rw (eq-eqb x x refl) (alike_self a)

-- lists in two parts, the first as long
pub alike_append : (xs ys zs ws : List ℕ) → length xs ≡ length zs → alike (xs ++ ys) (zs ++ ws) ≡ alike xs zs && alike ys ws
unfolding alike
alike_append [] ys [] ws e = refl
alike_append [] ys (z ∷ zs) ws e = absurd (omega (arith, e))
alike_append (x ∷ xs) ys [] ws e = absurd (omega (arith, e))
alike_append (x ∷ xs) ys (z ∷ zs) ws e = rw (alike_append xs ys zs ws (omega (arith, e))) (either (eqb x z) (alike xs zs))
  where
    either : (s t : Bool) → cond s (t && alike ys ws) false ≡ cond s t false && alike ys ws
    either true t = refl
    either false t = refl
