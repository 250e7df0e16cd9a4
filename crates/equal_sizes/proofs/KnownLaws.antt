-- Units that are known to lie in the window: what a place says, the test's numbers, a turn of the loop without tests, and sizes of 16 and 32
-- bytes as units of 4. Assumes nothing.
use Rattle.std.proofs.Common.{◌≡◌, ℕ, zero, suc, ◌+◌, ◌-◌, ◌*◌, ◌/◌, ◌%◌, ◌^◌, ◌<◌, ◌≤◌, true, leb, List, length, sym, refl, ap, ◌∙◌, inl, inr, add-zero, mod-lt, mod-eq_of_lt, suc-mul, mul-le-mul, suc-add, zero-add, zero-mul, arith, lit<, lit≤, leb-true, Some}
use Rattle.rules.specs.Act.{Act, window, ◌>>=◌, ◌>>◌, fetch, store}
use Rattle.rules.specs.Bytes.{bytes, number, part, splice}
use Rattle.rules.specs.Calls.{world_of}
use Rattle.rules.specs.Carry.{World, Out, go, bytes_of, fetched, there, index_of, legal, line, Lent}
use Rattle.rules.specs.Minor.{move_unit, move_units, move_sizes}
use Rattle.rules.specs.Words.{wrap32, modulo_add}
use Rattle.rules.specs.State.{Device}
use Rattle.rules.proofs.BoolLaws.{and_left, and_right}
use Rattle.rules.proofs.Steps.{fetch-inside, in_window}
use Rattle.words.specs.Sizes.{a_size, Sized}
use Rattle.words.specs.Widths.{MemoryWidth}
use Rattle.words.proofs.Laws.{modulo_none}
use Rattle.act.proofs.Laws.{window-done}
use Rattle.memory.specs.Places.{holding, place_of}
use Rattle.std.specs.Prelude.{Option}
use Rattle.memory.proofs.Laws.{inside}
use Rattle.equal_sizes.specs.Known.{Recorded, Within, Inside, Known, Plain, sizes_of}
use Rattle.equal_sizes.specs.declared.steps.Steps.{Steps}
use Rattle.equal_sizes.specs.declared.Units.{Units}
use Rattle.equal_sizes.proofs.Laws.{single_on, bursts_on}

-- ---- one unit

pub within_fits : {base len a n : ℕ} → Within base len a n → a - base + n ≤ len
within_fits h = omega (arith, h.low, h.high)

module _ (base : ℕ) (w : List ℕ) (a n : ℕ) where
  -- what an answer says
  pub at_within : {r : Option ℕ} {i : ℕ} → r ≡ place_of base w a n → r ≡ Some i → Within base (length w) a n
  unfolding there holding
  at_within asked found =
      let both = inside base w a n asked found in
      record {
        low = leb-true base a (and_left (leb base a) (leb (a + n) (base + length w)) both);
        high = leb-true (a + n) (base + length w) (and_right (leb base a) (leb (a + n) (base + length w)) both);
      }

  pub within-there : Within base (length w) a n → (d : Device) → there base window a n (record { mem = w; dev = d }) ≡ true
  within-there h d = in_window base a n (record { mem = w; dev = d }) h.low h.high

module _ (base : ℕ) (w j : List ℕ) (e u a : ℕ) (here : Within base (length w) a u) where
  pub store-there : (value : ℕ) → MemoryWidth u → e + 16 ≤ length j → {old : ℕ} {w' j' : List ℕ}
      → old ≡ number (part w (a - base) u) → w' ≡ splice w (a - base) (bytes u value) → j' ≡ splice j e (line 0 u a old)
      → Recorded (store window a u value) base e w w' j j'
  unfolding legal index_of
  store-there value h room p q r lent dev =
      window-done base lent dev w j e a u value (within-there base w a u here dev) h.one_of room refl p q r

  pub unit_there : (b : ℕ) {v : ℕ} (w' j' : List ℕ) → v ≡ number (part w (a - base) u) → Recorded (store window b u v) base e w w' j j'
      → Recorded (move_unit u a b) base e w w' j j'
  unfolding move_unit fetch ◌>>=◌ fetched bytes_of index_of
  unit_there b w' j' got did lent dev =
      did lent dev
      ∙ rw got
      (sym (fetch-inside base lent window a u (λ v. store window b u (number v)) (world_of dev w j e) (within-there base w a u here dev)))

-- ---- the test's numbers

pub product_fits : {n off : ℕ} → n < 2 ^ 32 → off < 2 ^ 32 → n * off ≤ (2 ^ 32 - 1) * (2 ^ 32 - 1)
product_fits h k = mul-le-mul {n₂ = 2 ^ 32 - 1} {m₂ = 2 ^ 32 - 1} (omega arith) (omega arith)

pub all_inside : (base len width n off a : ℕ) → base ≤ a → (a - base) + n * off + width ≤ len + off → Inside base len width n off a
all_inside base len width n off a h k = λ _. (h, omega arith)

-- ---- a turn of the loop

-- the first of n steps taken off
apart : (n off : ℕ) → (n ≡ 0 → ⊥) → n * off ≡ (n - 1) * off + off
apart zero off more = absurd (more refl)
apart (suc n) off more = let l : suc n - 1 ≡ n = omega arith in rw l (suc-mul n off)

module _ (base len width n off a : ℕ) (more : n ≡ 0 → ⊥) (all : Inside base len width n off a) where
  inside-here : Within base len a width
  inside-here = record { low = (all more).0; high = omega (arith, apart n off more, (all more).1) }

  inside_on : {a' : ℕ} → 0 < width → base + len ≤ 2 ^ 32 → a' ≡ (a + off) % 2 ^ 32 → Inside base len width (n - 1) off a'
  inside_on {a'} pos top p again =
      let one = apart n off more in
      let two = apart (n - 1) off again in
      let last = (all more).1 in
      let same : a' ≡ a + off = p ∙ mod-eq_of_lt (omega (arith, one, two, last, pos, top)) in
      (omega (arith, same, (all more).0), omega (arith, same, one, two, last))

module _ {base len width n : ℕ} {step : Steps} {s d room e : ℕ} (more : n ≡ 0 → ⊥) (known : Known base len width n step s d room e) where
  pub here_source : Within base len s width
  here_source = inside-here base len width n step.soff s more known.sources

  pub here_target : Within base len d width
  here_target = inside-here base len width n step.doff d more known.targets

  pub here_room : e + 16 ≤ room
  here_room = omega (arith, known.records, more)

  pub known_on : {s' d' rest : ℕ} → n ≡ suc rest → 0 < width → s' ≡ (s + step.soff) % 2 ^ 32 → d' ≡ (d + step.doff) % 2 ^ 32 → Known base len width rest step s' d' room (e + 16)
  known_on {s'} {d'} {rest} next pos p q = record {
    small = known.small;
    sources_plain = known.sources_plain;
    targets_plain = known.targets_plain;
    unwrapped = known.unwrapped;
    sources = rw less at (inside_on base len width n step.soff s more known.sources pos known.unwrapped p);
    targets = rw less at (inside_on base len width n step.doff d more known.targets pos known.unwrapped q);
    records = omega (arith, known.records, more);
  }
    where
      less : n - 1 ≡ rest
      less = omega arith

-- ---- sizes of m units of 4 with no gap between them are n * m units of 4

bind_then : (u a b : ℕ) {A : Type 0} (x : Act (Unit {0})) (y : Act A) → (move_unit u a b >> x) >> y ≡ move_unit u a b >> (x >> y)
unfolding move_unit fetch store ◌>>=◌ ◌>>◌
bind_then u a b x y = refl

-- sums that wrap: one unit further, and the first unit; and no modulo
plus_plain : (s k : ℕ) → modulo_add (wrap32 (s + k * 4)) 4 0 ≡ wrap32 (s + suc k * 4)
unfolding wrap32
plus_plain s k = sym (modulo_none ((s + k * 4) % 2 ^ 32) 4 0 refl) ∙ omega arith

wraps : (n : ℕ) → wrap32 n < 2 ^ 32
unfolding wrap32
wraps n = mod-lt n (lit< tt)

begins : (s : ℕ) → s < 2 ^ 32 → s ≡ wrap32 (s + 0 * 4)
unfolding wrap32
begins s h = rw (add-zero s) (sym (mod-eq_of_lt h))

plain_sum : (a off : ℕ) → wrap32 (a + off) ≡ modulo_add a off 0
unfolding wrap32
plain_sum a off = modulo_none a off 0 refl

abbrev fours : ℕ → ℕ → ℕ → Act (ℕ × ℕ)
fours n s d = move_sizes n 4 0 4 0 4 s d

-- m units from number k on, then r more
joined : (m k r s d : ℕ) → move_units m k 4 s d >> fours r (wrap32 (s + (k + m) * 4)) (wrap32 (d + (k + m) * 4)) ≡ fours (m + r) (wrap32 (s + k * 4)) (wrap32 (d + k * 4))
unfolding move_units ◌>>◌ ◌>>=◌
joined zero k r s d = rw (add-zero k, zero-add r)
joined (suc m) k r s d =
    let A : ℕ = wrap32 (s + k * 4) in
    let B : ℕ = wrap32 (d + k * 4) in
    let e : k + suc m ≡ suc k + m = omega arith in
    rw (e, suc-add m r)
    (bind_then 4 A B (move_units m (suc k) 4 s d) (fours r (wrap32 (s + (suc k + m) * 4)) (wrap32 (d + (suc k + m) * 4)))
    ∙ ap (λ (y : Act (ℕ × ℕ)). move_unit 4 A B >> y) (joined m (suc k) r s d)
    ∙ single_on (suc (m + r)) (m + r) 4 0 4 0 4 A B refl (sym (plus_plain s k)) (sym (plus_plain d k)) (lit< tt) (lit≤ tt) (wraps (s + k * 4)) (wraps (d + k * 4)))

packed : (n m size s d : ℕ) → size ≡ m * 4 → 4 ≤ size → s < 2 ^ 32 → d < 2 ^ 32 → fours (n * m) s d ≡ move_sizes n size 0 size 0 size s d
unfolding move_sizes
packed zero m size s d e h ls ld = rw (zero-mul m)
packed (suc n) m size s d e h ls ld =
    let s' : ℕ = wrap32 (s + (0 + m) * 4) in
    let d' : ℕ = wrap32 (d + (0 + m) * 4) in
    let units : size / 4 ≡ m = omega arith in
    let all : suc n * m ≡ m + n * m = omega (arith, suc-mul n m) in
    rw all
    (ap (λ (x : ℕ). fours (m + n * m) x d) (begins s ls) ∙ ap (λ (x : ℕ). fours (m + n * m) (wrap32 (s + 0 * 4)) x) (begins d ld)
    ∙ sym (joined m 0 (n * m) s d)
    ∙ ap (λ (y : Act (ℕ × ℕ)). move_units m 0 4 s d >> y)
    (packed n m size s' d' e h (wraps (s + (0 + m) * 4)) (wraps (d + (0 + m) * 4)))
    ∙ ap (λ (k : ℕ). move_units k 0 4 s d >> move_sizes n size 0 size 0 size s' d') (sym units)
    ∙ bursts_on (suc n) n size 0 size 0 size s d refl (steps s) (steps d) h)
  where
    steps : (x : ℕ) → wrap32 (x + (0 + m) * 4) ≡ modulo_add x size 0
    steps x = ap (λ (y : ℕ). wrap32 (x + y)) (omega (arith, e)) ∙ plain_sum x size

-- ---- what a transfer comes to

small_width : (n : ℕ) → Sized n → n ≤ 4 → MemoryWidth n
small_width n h l = by h.which
  where
    by : a_size n → MemoryWidth n
    by (inl e) = record { positive = omega arith; most = l; one_of = rw e }
    by (inr (inl e)) = record { positive = omega arith; most = l; one_of = rw e }
    by (inr (inr (inl e))) = record { positive = omega arith; most = l; one_of = rw e }
    by (inr (inr (inr (inl e)))) = absurd (omega arith)
    by (inr (inr (inr (inr e)))) = absurd (omega arith)

-- whole units of 4
whole : (n : ℕ) → Sized n → 4 < n → n ≡ n / 4 * 4
whole n h l = by h.which
  where
    by : a_size n → n ≡ n / 4 * 4
    by (inl e) = omega arith
    by (inr (inl e)) = omega arith
    by (inr (inr (inl e))) = omega arith
    by (inr (inr (inr (inl e)))) = rw e
    by (inr (inr (inr (inr e)))) = rw e

pub fours_fit : {count size : ℕ} → count < 0x10000000 → size ≤ 32 → count * (size / 4) ≤ 0x10000000 * 8
fours_fit h k = mul-le-mul {n₂ = 0x10000000} {m₂ = 8} (omega arith) (omega arith)

module _ (size count : ℕ) (step : Steps) (sized : Sized size) where
  pub plain_itself : Plain size count step (record { width = size; count = count; step = step })
  plain_itself = record { width = small_width size sized; same = λ _ _ _ _ _ _. refl }

  pub plain_fours : 4 < size → step.soff ≡ size → step.doff ≡ size → {fours : Steps} → fours.soff ≡ 4 → fours.doff ≡ 4 → fours.smod ≡ step.smod → fours.dmod ≡ step.dmod
      → Plain size count step (record { width = 4; count = count * (size / 4); step = fours })
  plain_fours h p q {fours} sources targets smod dmod = record {
    width = λ _. record { positive = lit< tt; most = lit≤ tt; one_of = refl };
    same = λ a b s d ls ld.
        rw (a, b, sym smod ∙ a, sym dmod ∙ b, p, q, sources, targets) (packed count (size / 4) size s d (whole size sized h) (omega arith) ls ld);
  }

module _ (base : ℕ) (lent : Lent) (v : World) {size count : ℕ} {step : Steps} {u : Units} (plain : Plain size count step u) where
  pub same_tree : {len s d room e : ℕ} {o : Out (ℕ × ℕ)} → Known base len u.width u.count u.step s d room e → s < 2 ^ 32 → d < 2 ^ 32
      → o ≡ go base lent (sizes_of u.count u.step u.width s d) v → o ≡ go base lent (sizes_of count step size s d) v
  same_tree {s = s} {d = d} known ls ld did =
      did ∙ ap (λ (m : Act (ℕ × ℕ)). go base lent m v) (plain.same known.sources_plain known.targets_plain s d ls ld)
