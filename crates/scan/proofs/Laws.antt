-- The scan's two loops: records in turn, and of each the value's leading bytes in turn. Assumes nothing.
use Rattle.std.specs.Prelude.{Some, None}
use mathlib.Core.Bool.{Bool, true, false, ◌&&◌}
use mathlib.Core.List.{List}
use mathlib.Core.Path.{◌≡◌, refl, sym, ap, ◌∙◌, subst}
use Prim.Native.Nat.{ℕ, zero, suc, ◌+◌, ◌-◌, ◌*◌, ◌/◌, ◌^◌, ◌≤◌, ◌<◌}
use native.Mathlib.Omega.{arith}
use native.Mathlib.Nat.{le_trans, zero-mul, suc-mul, mul-le-mul_right, div-eq_of_lt, le-div_iff_mul-le}
use borrow.Author.Tests.{lt-ltb, le-ltb, ltb-true, ltb-false, eq-eqb, ne_eqb}
use lib.Dec.{eqb, leb, ltb}
use lib.ListN.{length, get_or, take, drop, length-replicate}
use lib.Pow.{pow-add, pow_mono, pow_pos}
use lib.Seq.{drop-drop}
use Rattle.rules.specs.Act.{Space, window, table}
use Rattle.rules.specs.Bytes.{number, part, Bytes}
use Rattle.rules.specs.Calls.{fresh}
use Rattle.rules.specs.Carry.{Machine, legal, there}
use Rattle.rules.specs.TakeBack.{kind, width, place, value, marked, sound_store, sound_field, sound_kind, sound, all_sound}
use Rattle.rules.specs.State.{Device}
use Rattle.rules.proofs.BytesLaws.{length_part, value_lt, bytes-part, part-part}
use Rattle.rules.proofs.Cut.{part_cut}
use Rattle.memory.specs.Places.{holding}
use Rattle.scan.specs.Heads.{allows, Judges, scanning, sound_with}
use Rattle.scan.proofs.HeadLaws.{byte_bits}
use Rattle.scan.specs.Heads.{Head}

-- ---- what is sound goes by lengths and mode alone

module _ (base : ℕ) (m₀ m : Machine) (mem_is : length m.mem ≡ length m₀.mem) (table_is : length m.dev.table ≡ length m₀.dev.table) where
  there-same : (sp : Space) (a w : ℕ) → there base sp a w m ≡ there base sp a w m₀
  unfolding there
  there-same window a w = ap (λ n. leb base a && leb (a + w) (base + n)) mem_is
  there-same table a w = ap (leb (a + w)) table_is

  store_same : (sp : Space) (w a v : ℕ) → sound_store base m sp w a v ≡ sound_store base m₀ sp w a v
  unfolding sound_store
  store_same sp w a v = ap (λ b. legal sp w && b && ltb v (256 ^ w)) (there-same sp a w)

  module _ (mode-is : m.dev.chip ≡ m₀.dev.chip) where
    kind-same : (k w a v : ℕ) → sound_kind base m k w a v ≡ sound_kind base m₀ k w a v
    unfolding sound_kind
    kind-same zero w a v = store_same window w a v
    kind-same (suc zero) w a v = store_same table w a v
    kind-same (suc (suc zero)) w a v = ap (λ b. sound_field base b w a v) mode-is
    kind-same (suc (suc (suc k))) w a v = refl

    pub sound-same : (l : List ℕ) → sound base m l ≡ sound base m₀ l
    unfolding sound
    sound-same l = ap (λ b. marked l && b) (kind-same (kind l) (width l) (place l) (value l))

    all_same : (n : ℕ) (l : List ℕ) → all_sound base m n l ≡ all_sound base m₀ n l
    unfolding all_sound
    all_same zero l = refl
    all_same (suc n) l = rw (sound-same (take 16 l), all_same n (drop 16 l))

-- every device has a table of 2048 bytes, these too
pub table-holding : (w : List ℕ) → length (holding w).dev.table ≡ 2048
unfolding holding fresh
table-holding w = length-replicate {A = ℕ} 2048 0

pub table-scanning : (chip : Bool) (w : List ℕ) → length (scanning chip w).dev.table ≡ 2048
unfolding scanning fresh
table-scanning chip w = length-replicate {A = ℕ} 2048 0

pub mode_scanning : (chip : Bool) (w : List ℕ) → (scanning chip w).dev.chip ≡ chip
unfolding scanning fresh
mode_scanning chip w = refl

-- so a store's head judges alike for both
pub store_head : (base : ℕ) (chip : Bool) (w : List ℕ) (sp : Space) (n a : ℕ) {h : Head} → Judges h (sound_store base (holding w) sp n a) → Judges h (sound_store base (scanning chip w) sp n a)
unfolding scanning holding fresh
store_head base chip w sp n a j = record { agrees = λ v. j.agrees v ∙ sym (store_same base (holding w) (scanning chip w) refl refl sp n a v); ranged = j.ranged }

pub any_device : (base : ℕ) (chip : Bool) (w : List ℕ) (d : Device) → d.chip ≡ chip → length d.table ≡ 2048 → (n : ℕ) (l : List ℕ)
    → all_sound base (scanning chip w) n l ≡ all_sound base (record { mem = w; dev = d }) n l
unfolding scanning
any_device base chip w d c e n l =
    sym (all_same base (scanning chip w) (record { mem = w; dev = d }) refl (e ∙ sym (table-scanning chip w)) (c ∙ sym (mode_scanning chip w)) n l)

-- ---- a value's leading bytes

pub wide_ranged : {h : Head} {test : ℕ → Bool} {b : ℕ} → Judges h test → h ≡ Some b → (0 < b) × (b ≤ 64)
wide_ranged judged e = rw e at judged.ranged

first_zero : (j : List ℕ) (p n : ℕ) → get_or j p 0 ≡ 0 → number (part j p (suc n)) ≡ number (part j (suc p) n)
unfolding number part
first_zero j p n e = rw e (omega (arith, zero-mul (256 ^ length (part j (suc p) n))))

first_some : (j : List ℕ) (p n : ℕ) → (get_or j p 0 ≡ 0 → ⊥) → 256 ^ n ≤ number (part j p (suc n))
unfolding number part
first_some j p n e = rw (length_part j (suc p) n) (most (get_or j p 0) (256 ^ n) (number (part j (suc p) n)) e)
  where
    most : (b x y : ℕ) → (b ≡ 0 → ⊥) → x ≤ b * x + y
    most zero x y z = absurd (z refl)
    most (suc b) x y z = omega arith

-- the first of two digits to any base decides
first_digit : (b m r t : ℕ) → r < m → ltb (b * m + r) (t * m) ≡ ltb b t
first_digit b m r t h = by (ltb b t) refl
  where
    by : (x : Bool) → ltb b t ≡ x → ltb (b * m + r) (t * m) ≡ x
    by true e = let k = mul-le-mul_right {m = suc b} {n = t} m (ltb-true b t e) in lt-ltb (b * m + r) (t * m) (omega (arith, suc-mul b m))
    by false e = let k = mul-le-mul_right {m = t} {n = b} m (ltb-false b t e) in le-ltb (b * m + r) (t * m) (omega arith)

first_byte : (j : List ℕ) (p n t : ℕ) → Bytes j → ltb (number (part j p (suc n))) (2 ^ (t + n * 8)) ≡ ltb (get_or j p 0) (2 ^ t)
unfolding number part
first_byte j p n t b =
    let r : number (part j (suc p) n) < 256 ^ n = rw length_part at (value_lt (part j (suc p) n) (bytes-part j (suc p) n b)) in
    rw (length_part j (suc p) n, pow-add 2 t (n * 8), byte_bits n) (first_digit (get_or j p 0) (256 ^ n) (number (part j (suc p) n)) (2 ^ t) r)

-- no bit above the lowest t
pub no_more : (b t : ℕ) → eqb (b / 2 ^ t) 0 ≡ ltb b (2 ^ t)
no_more b t = by (ltb b (2 ^ t)) refl
  where
    by : (x : Bool) → ltb b (2 ^ t) ≡ x → eqb (b / 2 ^ t) 0 ≡ x
    by true e = eq-eqb (b / 2 ^ t) 0 (div-eq_of_lt (ltb-true b (2 ^ t) e))
    by false e = ne_eqb (b / 2 ^ t) 0 (λ z. omega (arith, z, (le-div_iff_mul-le {k = 2 ^ t} {x = 1} {y = b} (pow_pos t)).1 (omega (arith, ltb-false b (2 ^ t) e))))

-- of the 8 from p on the first k are zero
module _ (j : List ℕ) (p k : ℕ) (so_far : number (part j (p + k) (8 - k)) ≡ number (part j p 8)) where
  pub zero_turn : k < 8 → get_or j (p + k) 0 ≡ 0 → number (part j (p + (k + 1)) (8 - (k + 1))) ≡ number (part j p 8)
  zero_turn h e =
      let n : ℕ = 8 - (k + 1) in
      let s : 8 - k ≡ suc n = omega arith in
      let q : p + (k + 1) ≡ suc (p + k) = omega arith in
      ap (λ (i : ℕ). number (part j i n)) q ∙ sym (first_zero j (p + k) n e) ∙ ap (λ (i : ℕ). number (part j (p + k) i)) (sym s) ∙ so_far

  -- the value may have b bits, which are those of the last w bytes or some of them
  module _ (b w : ℕ) where
    pub some_here : b ≤ w * 8 → k + w < 8 → (get_or j (p + k) 0 ≡ 0 → ⊥) → ltb (number (part j p 8)) (2 ^ b) ≡ false
    some_here l h e =
        let n : ℕ = 8 - (k + 1) in
        let s : 8 - k ≡ suc n = omega arith in
        let q : 2 ^ b ≤ 256 ^ n = subst (λ (x : ℕ). 2 ^ b ≤ x) (byte_bits n) (pow_mono (omega arith)) in
        le-ltb (number (part j p 8)) (2 ^ b) (rw (← so_far, s) (le_trans q (first_some j (p + k) n e)))

    pub first-left : Bytes j → k + w ≡ 8 → 0 < b → b ≤ w * 8 → w * 8 < b + 8 → ltb (number (part j p 8)) (2 ^ b) ≡ ltb (get_or j (p + k) 0) (2 ^ (b + 8 - w * 8))
    first-left bs e z l m =
        let n : ℕ = 7 - k in
        let s : 8 - k ≡ suc n = omega arith in
        let o : b ≡ (b + 8 - w * 8) + n * 8 = omega arith in
        rw (← so_far, s) (ap (λ (x : ℕ). ltb (number (part j (p + k) (suc n))) (2 ^ x)) o ∙ first_byte j (p + k) n (b + 8 - w * 8) bs)

-- ---- records in turn

-- of `count` from `from` on `done` are looked at: those that are left are sound
abbrev pub left_sound : ℕ → Machine → List ℕ → ℕ → ℕ → ℕ → Bool
left_sound base m j from count done = all_sound base m (count - done) (drop (from + done * 16) j)

module _ (base : ℕ) (m : Machine) (j : List ℕ) (from count : ℕ) where
  pub none_left : (done : ℕ) → done ≡ count → left_sound base m j from count done ≡ true
  unfolding all_sound
  none_left done e = let z : count - done ≡ 0 = omega arith in rw z

  pub all_left : left_sound base m j from count 0 ≡ all_sound base m count (drop from j)
  all_left = let n : count - 0 ≡ count = omega arith in let i : from + 0 * 16 ≡ from = omega arith in rw (n, i)

  module _ (done : ℕ) (more : done < count) (fits : from + count * 16 ≤ length j) {h : Head} (judged : Judges h (sound_with base m (part j (from + done * 16) 16))) where
    -- this record, and what comes after it
    split : left_sound base m j from count done ≡ sound base m (part j (from + done * 16) 16) && left_sound base m j from count (done + 1)
    unfolding all_sound
    split =
        let n : count - done ≡ suc (count - (done + 1)) = omega arith in
        let l : part j (from + done * 16) 16 ≡ take 16 (drop (from + done * 16) j) = part_cut j (from + done * 16) 16 (omega arith) in
        let i : from + done * 16 + 16 ≡ from + (done + 1) * 16 = omega arith in
        rw (n, l, drop-drop 16 (from + done * 16) j, i)

    value_is : value (part j (from + done * 16) 16) ≡ number (part j (from + done * 16 + 8) 8)
    unfolding value
    value_is = ap number (part-part j (from + done * 16) 16 8 8 (omega arith))

    by_head : sound base m (part j (from + done * 16) 16) ≡ allows h (number (part j (from + done * 16 + 8) 8))
    unfolding sound sound_with
    by_head = sym (judged.agrees (value (part j (from + done * 16) 16))) ∙ ap (allows h) value_is

    -- the head is damaged
    pub head_damaged : h ≡ None → left_sound base m j from count done ≡ false
    head_damaged e = rw (split, by_head, e)

    module _ {b : ℕ} (wide : h ≡ Some b) where
      -- the value is too wide
      pub value_damaged : ltb (number (part j (from + done * 16 + 8) 8)) (2 ^ b) ≡ false → left_sound base m j from count done ≡ false
      value_damaged e = rw (split, by_head, wide, e)

      -- neither
      pub record_sound : ltb (number (part j (from + done * 16 + 8) 8)) (2 ^ b) ≡ true
          → left_sound base m j from count (done + 1) ≡ left_sound base m j from count done
      record_sound e = sym (rw (split, by_head, wide, e))
