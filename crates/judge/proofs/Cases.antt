-- The walk's definitions, by cases. Assumes nothing.
use Rattle.std.proofs.Common.{◌≡◌, ℕ, zero, suc, ◌+◌, ◌-◌, ◌*◌, ◌/◌, ◌%◌, ◌^◌, ◌<◌, ◌≤◌, min, Bool, true, false, ◌&&◌, ◌||◌, eqb, ltb, List, [], ◌∷◌, ◌++◌, length, get_or, sym, refl, ap, ◌∙◌, inl, inr, mod-lt, add-zero, mul-le-mul, arith, lit<, lit≤, le-ltb, lt-ltb, eq-eqb, ne_eqb, Ok, Err}
use Rattle.rules.specs.declared.Tcd.{Tcd}
use Rattle.rules.specs.Bytes.{number, part}
use Rattle.rules.specs.Minor.{ESG, ssize, dsize, minor_bytes}
use Rattle.rules.specs.Words.{has, size_of, unit_of, wholes, signed, count_of}
use Rattle.words.specs.Sizes.{a_size, Sized}
use Rattle.rules.proofs.BytesLaws.{part-part, number_append}
use Rattle.captures.specs.declared.Flaw.TheVariants as Flaw
use Rattle.captures.specs.Capture.{mark_of, kind_in, width_of, address_of, value_of, flaw_of, record_at}
use Rattle.judge.specs.declared.Side.{Side}
use Rattle.judge.specs.declared.Plan.{Plan}
use Rattle.judge.specs.declared.Walk.{Walk}
use Rattle.judge.specs.declared.Course.{Course}
use Rattle.judge.specs.Walks.{Record, a_unit, Parted, Narrow, Fitting, side_of, reads_of, plan_of, moves_from, reads_from, start_of, source_byte, source_bytes, source_number, seen_in, unless_unfit, looked_at, step_of, on_all}

-- ---- a size and its unit

pub parted : (n : ℕ) {m : ℕ} → a_size n → m ≡ min n 4 → Parted n m
unfolding unit_of
parted n (inl e) h = rw (h, e) (record { is_unit = refl; which = inl refl; some_unit = lit< tt; unit_most = lit≤ tt; some_units = lit≤ tt; units_most = lit≤ tt })
parted n (inr (inl e)) h = rw (h, e) (record { is_unit = refl; which = inr (inl refl); some_unit = lit< tt; unit_most = lit≤ tt; some_units = lit≤ tt; units_most = lit≤ tt })
parted n (inr (inr (inl e))) h = rw (h, e) (record { is_unit = refl; which = inr (inr refl); some_unit = lit< tt; unit_most = lit≤ tt; some_units = lit≤ tt; units_most = lit≤ tt })
parted n (inr (inr (inr (inl e)))) h = rw (h, e) (record { is_unit = refl; which = inr (inr refl); some_unit = lit< tt; unit_most = lit≤ tt; some_units = lit≤ tt; units_most = lit≤ tt })
parted n (inr (inr (inr (inr e)))) h = rw (h, e) (record { is_unit = refl; which = inr (inr refl); some_unit = lit< tt; unit_most = lit≤ tt; some_units = lit≤ tt; units_most = lit≤ tt })

-- ---- a side

pub a_side : (code off : ℕ) {size unit by : ℕ} → size ≡ size_of code → Sized size → Parted size unit → by ≡ signed 16 off
    → (◌≡◌ {A = Side} (record { size = size; unit = unit; more = size / unit - 1; offset = by; modulo = code / 8 % 32 }) (side_of code off))
    × Narrow (record { size = size; unit = unit; more = size / unit - 1; offset = by; modulo = code / 8 % 32 })
unfolding side_of
a_side code off s z p o = (
  rw (o, p.is_unit, s),
  record {
    is_unit = sym p.is_unit;
    units = rw (← p.is_unit) (omega (arith, p.some_units));
    which = p.which;
    some_unit = p.some_unit;
    unit_most = p.unit_most;
    some_size = z.positive;
    size_most = z.most;
    more_most = omega (arith, p.units_most, p.some_units);
    modulo_most = omega arith;
  },
)

-- ---- a plan

pub reads_so : (cr : ℕ) (t : Tcd) {n size r : ℕ} → n ≡ minor_bytes cr t → size ≡ size_of (t.attr / 256) → (r ≡ wholes n size) × (r * size < 2 ^ 32)
    → (r ≡ reads_of cr t) × (r * ssize t < 2 ^ 32)
unfolding reads_of ssize
reads_so cr t n s w = rw (← n, ← s) w

pub a_plan : (cr : ℕ) (t : Tcd) {source dest : Side} {reads : ℕ} {on : Bool}
    → source ≡ side_of (t.attr / 256) t.soff → Narrow source → dest ≡ side_of t.attr t.doff → Narrow dest
    → reads ≡ reads_of cr t → on ≡ eqb (count_of t.citer) 1 && has t.csr ESG
    → (◌≡◌ {A = Plan} (record { source = source; dest = dest; writes = reads * source.size / dest.size; gathers = on; next = t.dlast }) (plan_of cr t))
    × Fitting (record { source = source; dest = dest; writes = reads * source.size / dest.size; gathers = on; next = t.dlast })
unfolding plan_of side_of ssize dsize
a_plan cr t s ns d nd r o = (rw (s, d, r, o), record { of_source = ns; of_dest = nd })

pub bytes_fit : (t : Tcd) (reads : ℕ) {source : Side} → source ≡ side_of (t.attr / 256) t.soff → reads * ssize t < 2 ^ 32 → reads * source.size < 2 ^ 32
unfolding side_of ssize
bytes_fit t reads s h = rw s h

-- ---- where a walk begins

source_size : (cr : ℕ) (t : Tcd) {p : Plan} → p ≡ plan_of cr t → p.source.size ≡ ssize t
unfolding plan_of side_of ssize
source_size cr t e = ap (λ (q : Plan). q.source.size) e

dest_size : (cr : ℕ) (t : Tcd) {p : Plan} → p ≡ plan_of cr t → p.dest.size ≡ dsize t
unfolding plan_of side_of dsize
dest_size cr t e = ap (λ (q : Plan). q.dest.size) e

module _ (cr : ℕ) (t : Tcd) {n : ℕ} (counted : n ≡ count_of t.citer) where
  pub idle : n ≡ 0 → Walk.Over ≡ start_of cr t
  unfolding start_of
  idle h = rw (← counted, eq-eqb n 0 h)

  module _ (h : n ≡ 0 → ⊥) {p : Plan} (planned : p ≡ plan_of cr t) {reads : ℕ} (counts : reads ≡ reads_of cr t) where
    pub starts_equal : {w : Walk} → p.source.size ≡ p.dest.size → w ≡ moves_from p reads t.saddr t.daddr → w ≡ start_of cr t
    unfolding start_of
    starts_equal e r = rw (← counted, ne_eqb n 0 h, eq-eqb (ssize t) (dsize t) (sym (source_size cr t planned) ∙ e ∙ dest_size cr t planned), ← planned, ← counts) r

    pub starts_unequal : {w : Walk} → (p.source.size ≡ p.dest.size → ⊥) → w ≡ reads_from p reads 0 t.saddr t.daddr → w ≡ start_of cr t
    unfolding start_of
    starts_unequal e r = rw (← counted, ne_eqb n 0 h, ne_eqb (ssize t) (dsize t) (λ q. e (source_size cr t planned ∙ q ∙ sym (dest_size cr t planned))), ← planned, ← counts) r

-- ---- bytes of what was read

-- two products of small numbers
pub small_product : (k unit : ℕ) → k < 8 → unit ≤ 4 → k * unit ≤ 32
small_product k unit h l = let h' : k ≤ 8 = omega arith in let m : k * unit ≤ 8 * 4 = mul-le-mul h' l in omega arith

pub large_product : (n size : ℕ) → n < 2 ^ 32 → size ≤ 32 → n * size ≤ 2 ^ 37
large_product n size h l = let h' : n ≤ 2 ^ 32 = omega arith in let m : n * size ≤ 2 ^ 32 * 32 = mul-le-mul h' l in omega arith

pub unit_some : (n : ℕ) → a_unit n → 0 < n
unit_some n (inl e) = omega arith
unit_some n (inr (inl e)) = omega arith
unit_some n (inr (inr e)) = omega arith

pub unit_few : (n : ℕ) → a_unit n → n ≤ 4
unit_few n (inl e) = omega arith
unit_few n (inr (inl e)) = omega arith
unit_few n (inr (inr e)) = omega arith

pub in_record : (n j : ℕ) → a_unit n → 16 - n + j % n < 16
in_record n j u = omega (arith, unit_some n u, unit_few n u, mod-lt j (unit_some n u))

pub place_fits : (written size k unit : ℕ) → written < 2 ^ 32 → size ≤ 32 → k < 8 → unit ≤ 4 → written * size + k * unit < 2 ^ 40
place_fits written size k unit w s h l = omega (arith, large_product written size w s, small_product k unit h l)

module _ (sources : List ℕ) (origin unit read j : ℕ) where
  pub past_read : {n : ℕ} → n ≡ j / unit → read ≤ n → 0 ≡ source_byte sources origin unit read j
  unfolding source_byte
  past_read e h = rw (← e, le-ltb _ read h)

  pub before_origin : {n : ℕ} → n ≡ j / unit → n < read → n < origin → 0 ≡ source_byte sources origin unit read j
  unfolding source_byte
  before_origin e h l = rw (← e, lt-ltb _ read h, lt-ltb _ origin l)

  pub at_hand : {n r : ℕ} → n ≡ j / unit → n < read → (n < origin → ⊥) → r ≡ get_or sources (16 * (n - origin) + (16 - unit + j % unit)) 0 → r ≡ source_byte sources origin unit read j
  unfolding source_byte
  at_hand {n} e h l r = rw (← e, lt-ltb n read h, le-ltb n origin (omega (arith, l))) r

module _ (sources : List ℕ) (origin unit read : ℕ) where
  one_byte_more : (n j : ℕ) → source_bytes sources origin unit read j (suc n) ≡ source_bytes sources origin unit read j n ++ (source_byte sources origin unit read (j + n) ∷ [])
  unfolding source_bytes
  one_byte_more zero j = ap (λ (k : ℕ). source_byte sources origin unit read k ∷ []) (sym (add-zero j))
  one_byte_more (suc n) j =
      let place : j + 1 + n ≡ j + suc n = omega arith in
      ap (λ (l : List ℕ). source_byte sources origin unit read j ∷ l)
      (one_byte_more n (j + 1) ∙ ap (λ (k : ℕ). source_bytes sources origin unit read (j + 1) n ++ (source_byte sources origin unit read k ∷ [])) place)

  -- the number that one byte more spells
  pub number_more : (n j : ℕ) {v b : ℕ} → v ≡ source_number sources origin unit read j n → b ≡ source_byte sources origin unit read (j + n) → v * 256 + b ≡ source_number sources origin unit read j (n + 1)
  unfolding source_number number
  number_more n j e f =
      let next : n + 1 ≡ suc n = omega arith in
      rw (next, e, f, one_byte_more n j, number_append (source_bytes sources origin unit read j n) (source_byte sources origin unit read (j + n) ∷ []))
      (ap (λ (b : ℕ). number (source_bytes sources origin unit read j n) * 256 + b) (one_digit (source_byte sources origin unit read (j + n))))
    where
      one_digit : (b : ℕ) → b ≡ number (b ∷ [])
      one_digit b = omega arith

-- four bytes fit 32 bits
pub bytes_fit_one : (n v b : ℕ) → n < 4 → v < 256 ^ n → b < 256 → (v * 256 + b < 2 ^ 32) × (v * 256 + b < 256 ^ (n + 1))
bytes_fit_one zero v b h l m = (omega arith, omega arith)
bytes_fit_one (suc zero) v b h l m = (omega arith, omega arith)
bytes_fit_one (suc (suc zero)) v b h l m = (omega arith, omega arith)
bytes_fit_one (suc (suc (suc zero))) v b h l m = (omega arith, omega arith)
bytes_fit_one (suc (suc (suc (suc n)))) v b h l m = absurd (omega arith)

-- ---- records

module _ (l : List ℕ) (o : ℕ) where
  here : (i n : ℕ) → i + n ≤ 16 → number (part (part l o 16) i n) ≡ number (part l (o + i) n)
  here i n h = ap number (part-part l o 16 i n h)

  mark_here : mark_of (part l o 16) ≡ number (part l o 2)
  unfolding mark_of
  mark_here = here 0 2 (lit≤ tt) ∙ ap (λ (k : ℕ). number (part l k 2)) (omega arith)

  kind-here : kind_in (part l o 16) ≡ number (part l (o + 2) 1)
  unfolding kind_in
  kind-here = here 2 1 (lit≤ tt)

  width-here : width_of (part l o 16) ≡ number (part l (o + 3) 1)
  unfolding width_of
  width-here = here 3 1 (lit≤ tt)

  address_here : address_of (part l o 16) ≡ number (part l (o + 4) 4)
  unfolding address_of
  address_here = here 4 4 (lit≤ tt)

  value-here : value_of (part l o 16) ≡ number (part l (o + 8) 8)
  unfolding value_of
  value-here = here 8 8 (lit≤ tt)

  module _ {m : ℕ} (mark : m ≡ number (part l o 2)) where
    pub no_mark : (m ≡ 0x4A52 → ⊥) → ◌≡◌ {A = Record} (Err Flaw.Mark) (looked_at (part l o 16))
    unfolding looked_at unless_unfit flaw_of
    no_mark h = rw (mark_here, ← mark, ne_eqb m 0x4A52 h)

    module _ (marked : m ≡ 0x4A52) {k : ℕ} (kind : k ≡ number (part l (o + 2) 1)) where
      pub no_kind : (eqb k 4 || eqb k 5) ≡ false → ◌≡◌ {A = Record} (Err Flaw.Kind) (looked_at (part l o 16))
      unfolding looked_at unless_unfit flaw_of
      no_kind e = rw (mark_here, ← mark, eq-eqb m 0x4A52 marked, kind-here, ← kind, e)

      module _ (a-kind : (eqb k 4 || eqb k 5) ≡ true) {w : ℕ} (width : w ≡ number (part l (o + 3) 1)) where
        pub bad_width : (eqb w 1 || eqb w 2 || eqb w 4) ≡ false → ◌≡◌ {A = Record} (Err Flaw.Width) (looked_at (part l o 16))
        unfolding looked_at unless_unfit flaw_of
        bad_width e = rw (mark_here, ← mark, eq-eqb m 0x4A52 marked, kind-here, ← kind, a-kind, width-here, ← width, e)

        module _ (wide : (eqb w 1 || eqb w 2 || eqb w 4) ≡ true) {v : ℕ} (value : v ≡ number (part l (o + 8) 8)) where
          pub too_wide : ltb v (256 ^ w) ≡ false → ◌≡◌ {A = Record} (Err Flaw.Value) (looked_at (part l o 16))
          unfolding looked_at unless_unfit flaw_of
          too_wide e = rw (mark_here, ← mark, eq-eqb m 0x4A52 marked, kind-here, ← kind, a-kind, width-here, ← width, wide, value-here, ← value, e)

          pub no_flaw : ltb v (256 ^ w) ≡ true → {a : ℕ} → a ≡ number (part l (o + 4) 4)
              → ◌≡◌ {A = Record} (Ok (record { read = eqb k 4; address = a; width = w; value = v })) (looked_at (part l o 16))
          unfolding looked_at unless_unfit flaw_of seen_in
          no_flaw e q = rw (mark_here, ← mark, eq-eqb m 0x4A52 marked, kind-here, ← kind, a-kind, width-here, ← width, wide, value-here, ← value, e, address_here, ← q)

-- beyond its end a list has nothing
pub get_or_past : (l : List ℕ) (i : ℕ) → length l ≤ i → 0 ≡ get_or l i 0
get_or_past [] i h = refl
get_or_past (x ∷ l) zero h = absurd (omega arith)
get_or_past (x ∷ l) (suc i) h = get_or_past l i (omega arith)

-- ---- all records

module _ (p : Plan) (sources : List ℕ) (origin number : ℕ) (records : List ℕ) (count k : ℕ) (c : Course) where
  pub all_turn : k < count → {r : Record} → r ≡ looked_at (part records (16 * k) 16) → {e : Course} → e ≡ step_of p sources origin (number + k) c r
      → on_all p sources origin number records (count - (k + 1)) (k + 1) e ≡ on_all p sources origin number records (count - k) k c
  unfolding on_all record_at
  all_turn h looked stepped =
      let left : count - k ≡ suc (count - (k + 1)) = omega arith in
      rw (left, stepped, looked)

  pub all_end : count ≤ k → on_all p sources origin number records (count - k) k c ≡ c
  unfolding on_all
  all_end h =
      let left : count - k ≡ 0 = omega arith in
      rw left
