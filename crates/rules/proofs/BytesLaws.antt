-- Laws of the bytes of `specs/Bytes.antt`, each over every width. Assumes nothing.
use mathlib.Core.Path.{◌≡◌, refl, sym, ap, ◌∙◌}
use mathlib.Core.List.{List, [], ◌∷◌, ◌++◌}
use Prim.Native.Nat.{ℕ, zero, suc, ◌+◌, ◌*◌, ◌/◌, ◌%◌, ◌^◌, ◌≤◌, ◌<◌}
use native.Mathlib.Nat.{div-div-eq-div-mul, add-zero, add-suc, suc-add, zero-add, pow-succ', mod-eq_of_lt, mod-lt, one-le-pow, zero-lt-suc, mod-one, div-add-mod', add-mul-div_right, add-mul-mod_self_right, mul_assoc, add-mul, add_assoc, add_comm, lt_of_lt_of_le, pow-le-pow_right}
use native.Mathlib.Omega.{arith}
use lib.ListN.{length, get_or, set, length-set, length-append}
use lib.Seq.{set-set, set-get_or, set_comm, get_or-set_same, get_or-set_other, get_or-append-add}
use lib.Pow.{pow-add}
use lib.Arith.{mod-mul, digits_lt, digits_div}
use Rattle.rules.specs.Bytes.{bytes, number, part, splice, Bytes}

-- ---- splice

pub length_splice : (xs : List ℕ) (at : ℕ) (ys : List ℕ) → length (splice xs at ys) ≡ length xs
unfolding splice
length_splice xs at [] = refl
length_splice xs at (y ∷ ys) = length-set (splice xs (suc at) ys) at y ∙ length_splice xs (suc at) ys

pub get_or-splice_below : (xs : List ℕ) (at : ℕ) (ys : List ℕ) (i : ℕ) → i < at → get_or (splice xs at ys) i 0 ≡ get_or xs i 0
unfolding splice
get_or-splice_below xs at [] i h = refl
get_or-splice_below xs at (y ∷ ys) i h =
    get_or-set_other (splice xs (suc at) ys) at i y 0 (omega arith) ∙ get_or-splice_below xs (suc at) ys i (omega arith)

pub get_or-splice_above : (xs : List ℕ) (at : ℕ) (ys : List ℕ) (i : ℕ) → at + length ys ≤ i → get_or (splice xs at ys) i 0 ≡ get_or xs i 0
unfolding splice
get_or-splice_above xs at [] i h = refl
get_or-splice_above xs at (y ∷ ys) i h =
    get_or-set_other (splice xs (suc at) ys) at i y 0 (omega arith) ∙ get_or-splice_above xs (suc at) ys i (omega arith)

-- a store below or above a splice changes places with it
pub splice_set_below : (xs : List ℕ) (i v at : ℕ) (ys : List ℕ) → i < at → splice (set xs i v) at ys ≡ set (splice xs at ys) i v
unfolding splice
splice_set_below xs i v at [] h = refl
splice_set_below xs i v at (y ∷ ys) h =
    ap (λ (l : List ℕ). set l at y) (splice_set_below xs i v (suc at) ys (omega arith)) ∙ set_comm (splice xs (suc at) ys) i at v y (omega arith)

pub splice_set_above : (xs : List ℕ) (i v at : ℕ) (ys : List ℕ) → at + length ys ≤ i → splice (set xs i v) at ys ≡ set (splice xs at ys) i v
unfolding splice
splice_set_above xs i v at [] h = refl
splice_set_above xs i v at (y ∷ ys) h =
    ap (λ (l : List ℕ). set l at y) (splice_set_above xs i v (suc at) ys (omega arith)) ∙ set_comm (splice xs (suc at) ys) i at v y (omega arith)

-- the front can also be stored first
pub splice_cons : (xs : List ℕ) (at y : ℕ) (ys : List ℕ) → splice (set xs at y) (suc at) ys ≡ splice xs at (y ∷ ys)
unfolding splice
splice_cons xs at y ys = splice_set_below xs at y (suc at) ys (omega arith)

-- two splices side by side are one
pub splice_append : (xs : List ℕ) (at : ℕ) (ys zs : List ℕ) → splice xs at (ys ++ zs) ≡ splice (splice xs (at + length ys) zs) at ys
unfolding splice
splice_append xs at [] zs = rw add-zero
splice_append xs at (y ∷ ys) zs =
    ap (λ (l : List ℕ). set l at y) (splice_append xs (suc at) ys zs)
    ∙ ap (λ (k : ℕ). splice (splice xs k zs) at (y ∷ ys)) (suc-add at (length ys) ∙ sym (add-suc at (length ys)))

-- splices at disjoint places change places
pub splice_comm : (xs : List ℕ) (a : ℕ) (ys : List ℕ) (b : ℕ) (zs : List ℕ) → a + length ys ≤ b → splice (splice xs a ys) b zs ≡ splice (splice xs b zs) a ys
unfolding splice
splice_comm xs a ys b [] h = refl
splice_comm xs a ys b (z ∷ zs) h =
    ap (λ (l : List ℕ). set l b z) (splice_comm xs a ys (suc b) zs (omega arith)) ∙ sym (splice_set_above (splice xs (suc b) zs) b z a ys h)

-- a second splice at the same place hides a first that is no longer
pub splice-splice : (xs : List ℕ) (at : ℕ) (ys zs : List ℕ) → length ys ≤ length zs → splice (splice xs at ys) at zs ≡ splice xs at zs
unfolding splice
splice-splice xs at [] zs h = refl
splice-splice xs at (y ∷ ys) [] h = absurd (omega arith)
splice-splice xs at (y ∷ ys) (z ∷ zs) h =
    ap (λ (l : List ℕ). set l at z) (splice_set_below (splice xs (suc at) ys) at y (suc at) zs (omega arith) ∙ ap (λ (l : List ℕ). set l at y) (splice-splice xs (suc at) ys zs (omega arith)))
    ∙ set-set (splice xs (suc at) zs) at y z

-- ---- part

pub length_part : (xs : List ℕ) (at n : ℕ) → length (part xs at n) ≡ n
unfolding part
length_part xs at zero = refl
length_part xs at (suc n) = ap suc (length_part xs (suc at) n)

-- what was there, laid over it, changes nothing
pub splice-part : (xs : List ℕ) (at n : ℕ) → splice xs at (part xs at n) ≡ xs
unfolding splice part
splice-part xs at zero = refl
splice-part xs at (suc n) = ap (λ (l : List ℕ). set l at (get_or xs at 0)) (splice-part xs (suc at) n) ∙ set-get_or xs at 0

-- what was there before a splice, laid over it, undoes it
pub splice-undo : (xs : List ℕ) (at : ℕ) (ys : List ℕ) → splice (splice xs at ys) at (part xs at (length ys)) ≡ xs
splice-undo xs at ys = splice-splice xs at ys (part xs at (length ys)) (omega (arith, length_part xs at (length ys))) ∙ splice-part xs at (length ys)

-- a part that a splice leaves alone
pub part-splice_below : (xs : List ℕ) (at : ℕ) (ys : List ℕ) (i n : ℕ) → i + n ≤ at → part (splice xs at ys) i n ≡ part xs i n
unfolding part
part-splice_below xs at ys i zero h = refl
part-splice_below xs at ys i (suc n) h =
    λ k. get_or-splice_below xs at ys i (omega arith) k ∷ part-splice_below xs at ys (suc i) n (omega arith) k

pub part-splice-above : (xs : List ℕ) (at : ℕ) (ys : List ℕ) (i n : ℕ) → at + length ys ≤ i → part (splice xs at ys) i n ≡ part xs i n
unfolding part
part-splice-above xs at ys i zero h = refl
part-splice-above xs at ys i (suc n) h =
    λ k. get_or-splice_above xs at ys i h k ∷ part-splice-above xs at ys (suc i) n (omega arith) k

-- what a splice laid down is there
pub part-splice-same : (xs : List ℕ) (at : ℕ) (ys : List ℕ) → at + length ys ≤ length xs → part (splice xs at ys) at (length ys) ≡ ys
unfolding part splice
part-splice-same xs at [] h = refl
part-splice-same xs at (y ∷ ys) h =
    λ k. get_or-set_same (splice xs (suc at) ys) at y 0 (omega (arith, length_splice xs (suc at) ys)) k
    ∷ (part-splice-above (splice xs (suc at) ys) at (y ∷ []) (suc at) (length ys) (omega arith) ∙ part-splice-same xs (suc at) ys (omega arith)) k

pub part_append : (xs : List ℕ) (at n m : ℕ) → part xs at (n + m) ≡ part xs at n ++ part xs (at + n) m
unfolding part
part_append xs at zero m = simp (zero-add, add-zero)
part_append xs at (suc n) m = rw (suc-add, part_append xs (suc at) n m, suc-add at n, add-suc at n)

-- parts of a list in two
pub part_behind : (p q : List ℕ) (i k : ℕ) → part (p ++ q) (length p + i) k ≡ part q i k
unfolding part
part_behind p q i zero = refl
part_behind p q i (suc k) =
    rw (get_or-append-add p q i 0, ← add-suc (length p) i) (ap (λ l. get_or q i 0 ∷ l) (part_behind p q (suc i) k))

pub part-first : (p q : List ℕ) → part (p ++ q) 0 (length p) ≡ p
unfolding part
part-first [] q = refl
part-first (x ∷ p) q = ap (λ l. x ∷ l) (rw (zero-add 1) (part_behind (x ∷ []) (p ++ q) 0 (length p)) ∙ part-first p q)

-- ---- numbers

pow_pos : (w : ℕ) → 0 < 256 ^ w
pow_pos w = one-le-pow w 256 (zero-lt-suc 255)

pub length_bytes : (w v : ℕ) → length (bytes w v) ≡ w
unfolding bytes
length_bytes zero v = refl
length_bytes (suc w) v = ap suc (length_bytes w v)

-- the value of the bytes of a value: what the width holds of it
pub value_of_bytes : (w v : ℕ) → number (bytes w v) ≡ v % 256 ^ w
unfolding number bytes
value_of_bytes zero v = sym (mod-one v)
value_of_bytes (suc w) v =
    rw (length_bytes w v, value_of_bytes w v, pow-succ' 256 w) (sym (mod-mul v (zero-lt-suc 255) (pow_pos w)))

-- a value that fits comes back
pub value_fits : (w : ℕ) {v : ℕ} → v < 256 ^ w → number (bytes w v) ≡ v
value_fits w {v} h = value_of_bytes w v ∙ mod-eq_of_lt h

pub value_lt : (bs : List ℕ) → Bytes bs → number bs < 256 ^ length bs
unfolding number
value_lt [] h = omega arith
value_lt (b ∷ bs) h = rw (pow-succ' 256 (length bs)) (digits_lt (h 0) (value_lt bs (λ i. h (suc i))))

-- only what the width holds counts
pub bytes-add : (w q v : ℕ) → bytes w (v + q * 256 ^ w) ≡ bytes w v
unfolding bytes
bytes-add zero q v = refl
bytes-add (suc w) q v =
    let e : q * 256 ^ suc w ≡ q * 256 * 256 ^ w = ap (λ (k : ℕ). q * k) (pow-succ' 256 w) ∙ sym (mul_assoc q 256 (256 ^ w)) in
    rw (e, bytes-add w (q * 256) v, add-mul-div_right v (q * 256) (pow_pos w), add-mul-mod_self_right (v / 256 ^ w) q 256)

-- the bytes of a value of bytes
pub bytes_of_value : (bs : List ℕ) → Bytes bs → bytes (length bs) (number bs) ≡ bs
unfolding number bytes
bytes_of_value [] h = refl
bytes_of_value (b ∷ bs) h =
    let low : number bs < 256 ^ length bs = value_lt bs (λ i. h (suc i)) in
    λ k. (ap (λ (x : ℕ). x % 256) (digits_div b low) ∙ mod-eq_of_lt (h 0)) k
    ∷ (ap (bytes (length bs)) (add_comm (b * 256 ^ length bs) (number bs)) ∙ bytes-add (length bs) b (number bs) ∙ bytes_of_value bs (λ i. h (suc i))) k

-- the bytes of one number, then those of another
pub number_append : (xs ys : List ℕ) → number (xs ++ ys) ≡ number xs * 256 ^ length ys + number ys
unfolding number
number_append [] ys = omega arith
number_append (x ∷ xs) ys =
    rw (length-append xs ys, pow-add 256 (length xs) (length ys), number_append xs ys)
    (joined x (256 ^ length xs) (256 ^ length ys) (number xs) (number ys))
  where
    joined : (x p q m n : ℕ) → x * (p * q) + (m * q + n) ≡ (x * p + m) * q + n
    joined x p q m n = rw (add-mul (x * p) m q, mul_assoc x p q, add_assoc (x * (p * q)) (m * q) n)

pub bytes-part : (xs : List ℕ) (at n : ℕ) → Bytes xs → Bytes (part xs at n)
unfolding part
bytes-part xs at zero h i = omega arith
bytes-part xs at (suc n) h zero = h at
bytes-part xs at (suc n) h (suc i) = bytes-part xs (suc at) n h i

pub bytes-bytes : (w v : ℕ) → Bytes (bytes w v)
unfolding bytes
bytes-bytes zero v i = omega arith
bytes-bytes (suc w) v zero = mod-lt (v / 256 ^ w) (zero-lt-suc 255)
bytes-bytes (suc w) v (suc i) = bytes-bytes w v i

bytes_set : (xs : List ℕ) (k v : ℕ) → Bytes xs → v < 256 → Bytes (set xs k v)
bytes_set [] k v h l i = h i
bytes_set (x ∷ xs) zero v h l zero = l
bytes_set (x ∷ xs) zero v h l (suc i) = h (suc i)
bytes_set (x ∷ xs) (suc k) v h l zero = h 0
bytes_set (x ∷ xs) (suc k) v h l (suc i) = bytes_set xs k v (λ j. h (suc j)) l i

pub bytes-splice : (xs : List ℕ) (at : ℕ) (ys : List ℕ) → Bytes xs → Bytes ys → Bytes (splice xs at ys)
unfolding splice
bytes-splice xs at [] h l = h
bytes-splice xs at (y ∷ ys) h l = bytes_set (splice xs (suc at) ys) at y (bytes-splice xs (suc at) ys h (λ i. l (suc i))) (l 0)

-- a part's elements, and a part of a part
pub get_or-part : (xs : List ℕ) (at n i : ℕ) → i < n → get_or (part xs at n) i 0 ≡ get_or xs (at + i) 0
unfolding part
get_or-part xs at zero i h = absurd (omega arith)
get_or-part xs at (suc n) zero h = rw add-zero
get_or-part xs at (suc n) (suc i) h = get_or-part xs (suc at) n i (omega arith) ∙ ap (λ (k : ℕ). get_or xs k 0) (suc-add at i ∙ sym (add-suc at i))

pub part-part : (xs : List ℕ) (at n i m : ℕ) → i + m ≤ n → part (part xs at n) i m ≡ part xs (at + i) m
unfolding part
part-part xs at n i zero h = refl
part-part xs at n i (suc m) h =
    λ k. get_or-part xs at n i (omega arith) k ∷ (part-part xs at n (suc i) m (omega arith) ∙ ap (λ (l : ℕ). part xs l m) (add-suc at i)) k

-- the old value of a part, laid over again
pub part_back : (xs : List ℕ) (at n : ℕ) → Bytes xs → bytes n (number (part xs at n)) ≡ part xs at n
part_back xs at n b =
    ap (λ (k : ℕ). bytes k (number (part xs at n))) (sym (length_part xs at n)) ∙ bytes_of_value (part xs at n) (bytes-part xs at n b)

-- a part of n bytes is a number below 256 ^ m, m at least n
pub part_lt : (m : ℕ) (w : List ℕ) (at n : ℕ) → Bytes w → n ≤ m → number (part w at n) < 256 ^ m
part_lt m w at n b h =
    lt_of_lt_of_le (rw length_part at (value_lt (part w at n) (bytes-part w at n b))) (pow-le-pow_right {n = 256} (zero-lt-suc 255) h)

-- ---- four bytes written out

pub splice_nil : (xs : List ℕ) (at : ℕ) → splice xs at [] ≡ xs
unfolding splice
splice_nil xs at = refl

-- ---- two numbers side by side

pub bytes_join : (n m x y : ℕ) → y < 256 ^ m → bytes (n + m) (x * 256 ^ m + y) ≡ bytes n x ++ bytes m y
unfolding bytes
bytes_join zero m x y h = ap (λ (k : ℕ). bytes k (x * 256 ^ m + y)) (zero-add m) ∙ ap (bytes m) (add_comm (x * 256 ^ m) y) ∙ bytes-add m x y
bytes_join (suc n) m x y h =
    ap (λ (k : ℕ). bytes k (x * 256 ^ m + y)) (suc-add n m)
    ∙ (λ k. head k ∷ bytes_join n m x y h k)
  where
    head : (x * 256 ^ m + y) / 256 ^ (n + m) % 256 ≡ x / 256 ^ n % 256
    head =
        ap (λ (p : ℕ). (x * 256 ^ m + y) / p % 256) (ap (λ (k : ℕ). 256 ^ k) (add_comm n m) ∙ pow-add 256 m n)
        ∙ ap (λ (q : ℕ). q % 256) (sym (div-div-eq-div-mul (x * 256 ^ m + y) (256 ^ m) (256 ^ n)))
        ∙ ap (λ (q : ℕ). q / 256 ^ n % 256) (digits_div x h)

-- a number of w + w bytes is read as two of w, the high one first
pub number_two : (w : ℕ) (xs : List ℕ) (at : ℕ) {high low : ℕ}
    → high ≡ number (part xs at w) → low ≡ number (part xs (at + w) w) → high * 256 ^ w + low ≡ number (part xs at (w + w))
number_two w xs at h l =
    rw (part_append xs at w w, number_append (part xs at w) (part xs (at + w) w), length_part xs (at + w) w, h, l)

-- and laid down as two of w
pub splice_two : (w : ℕ) (xs : List ℕ) (at v : ℕ) {ys zs : List ℕ}
    → ys ≡ splice xs at (bytes w (v / 256 ^ w)) → zs ≡ splice ys (at + w) (bytes w (v % 256 ^ w)) → zs ≡ splice xs at (bytes (w + w) v)
splice_two w xs at v y z =
    let high : List ℕ = bytes w (v / 256 ^ w) in
    let low : List ℕ = bytes w (v % 256 ^ w) in
    let long : length high ≡ w = length_bytes w (v / 256 ^ w) in
    z
    ∙ ap (λ (l : List ℕ). splice l (at + w) low) y
    ∙ splice_comm xs at high (at + w) low (omega (arith, long))
    ∙ ap (λ (k : ℕ). splice (splice xs (at + k) low) at high) (sym long)
    ∙ sym (splice_append xs at high low)
    ∙ ap (splice xs at) (sym (bytes_join w w (v / 256 ^ w) (v % 256 ^ w) (mod-lt v (pow_pos w))) ∙ ap (bytes (w + w)) (div-add-mod' v (256 ^ w)))

pub word_44 : (a b : ℕ) → b < 2 ^ 32 → bytes 8 (a * 4294967296 + b) ≡ bytes 4 a ++ bytes 4 b
word_44 a b h = bytes_join 4 4 a b h

pub word_422 : (a b c : ℕ) → b < 2 ^ 16 → c < 2 ^ 16 → bytes 8 (a * 4294967296 + (b * 65536 + c)) ≡ bytes 4 a ++ (bytes 2 b ++ bytes 2 c)
word_422 a b c h k = bytes_join 4 4 a (b * 65536 + c) (omega arith) ∙ ap (λ (l : List ℕ). bytes 4 a ++ l) (bytes_join 2 2 b c k)
