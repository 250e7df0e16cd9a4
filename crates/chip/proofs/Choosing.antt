-- The choice: that of the tree is the one among the channels of a mask; and how a walk over the mask's bits makes it. Assumes nothing.
use mathlib.Core.Bool.{Bool, true, false, cond, not, ◌&&◌, ◌||◌}
use mathlib.Core.List.{List}
use mathlib.Core.Path.{◌≡◌, refl, sym, ap, ap₂, ◌∙◌}
use Prim.Native.Nat.{ℕ, zero, suc, ◌+◌, ◌-◌, ◌*◌, ◌%◌, ◌^◌, ◌≤◌, ◌<◌}
use native.Mathlib.Nat.{add-zero, zero-add, suc-add, zero-div}
use native.Mathlib.Omega.{arith}
use lib.Dec.{eqb, leb, ltb}
use lib.ListN.{length, get_or}
use borrow.Author.Tests.{eq-eqb, ltb-true, ltb-false, le-leb, lt-leb}
use Rattle.rules.specs.Act.{Act, BUSY, done, fetch, ask, table, ◌>>=◌}
use Rattle.rules.specs.Bytes.{number}
use Rattle.rules.specs.Carry.{World, ok, go, fetched, bytes_of, index_of, Lent}
use Rattle.rules.specs.Minor.{START}
use Rattle.rules.specs.Run.{offered, ready, choose}
use Rattle.rules.specs.View.{view_priorities}
use Rattle.rules.specs.Words.{has, lose, lowest}
use Rattle.rules.proofs.Masks.{bit_lowest, lowest_lt, below_lowest, lose_less, has_lost, has-lose_other}
use Rattle.rules.proofs.Steps.{in_table_lem, fetch-inside, bind_ok}
use Rattle.rules.proofs.ViewLaws.{six_viewed}
use Rattle.channel.proofs.Reading.{offered_at, offered_read}
use Rattle.chip.specs.Chosen.{chosen}
use Rattle.chip.specs.Seen.{start_in, free_in}

-- ---- the tree's

-- whether a channel is ready in a world
unfoldable pub ready_at : ℕ → World → ℕ → Bool
ready_at time u c = (start_in u.now.dev.table c || offered_at c u) && free_in time u.now.dev.busy c

module _ (base : ℕ) (lent : Lent) (time past m : ℕ) (u : World) (long : length u.now.dev.table ≡ 2048)
    (seen : (c : ℕ) → c < 64 → has m c ≡ (ready_at time u c && not (has past c)))
  where
    ready-goes : (ch : ℕ) → ch < 64 → go base lent (ready time ch) u ≡ ok (ready_at time u ch) u
    unfolding ready ready_at start_in go fetch ask ◌>>=◌ fetched bytes_of index_of
    ready-goes ch h =
        let rest : Bool → Bool → Act Bool = λ start asks. ask (BUSY ch) >>= (λ busy. done ((start || asks) && not (ltb time busy))) in
        fetch-inside base lent table (32 * ch + 0x1F) 1 (λ b. offered ch >>= rest (has (number b) START)) u (in_table_lem base (32 * ch + 0x1F) 1 u.now (omega arith))
        ∙ offered_read base lent ch (rest (start_in u.now.dev.table ch)) u

    asked : (left ch best top : ℕ) → ch < 64 → let on = ready_at time u ch && not (has past ch) && leb top (get_or u.now.dev.priorities ch 0) in
        go base lent (choose time past (suc left) ch best top) u
        ≡ go base lent (choose time past left (suc ch) (cond on ch best) (cond on (get_or u.now.dev.priorities ch 0) top)) u
    unfolding choose go ask ◌>>=◌
    asked left ch best top h = bind_ok base lent (ready time ch) _ u (ready-goes ch h)

    pub choose-goes : (left ch best top : ℕ) → ch + left ≡ 64 → go base lent (choose time past left ch best top) u ≡ ok (chosen m u.now.dev.priorities left ch best top) u
    unfolding chosen
    choose-goes zero ch best top h = (unfold choose go in refl)
    choose-goes (suc left) ch best top h =
        asked left ch best top (omega arith)
        ∙ (rw (← seen ch (omega arith)) (choose-goes left (suc ch) _ _ (omega arith)))

-- ---- a walk over the bits of the mask

in_none : (c : ℕ) → has 0 c ≡ false
in_none c = ap (λ (n : ℕ). eqb (n % 2) 1) (zero-div (2 ^ c))

module _ (o : List ℕ) where
  -- one channel, not in it or in it
  left_out : (m left ch best top : ℕ) → has m ch ≡ false → chosen m o (suc left) ch best top ≡ chosen m o left (suc ch) best top
  unfolding chosen
  left_out m left ch best top e = rw e

  looked : (m left ch best top : ℕ) → has m ch ≡ true
      → chosen m o (suc left) ch best top ≡ chosen m o left (suc ch) (cond (leb top (get_or o ch 0)) ch best) (cond (leb top (get_or o ch 0)) (get_or o ch 0) top)
  unfolding chosen
  looked m left ch best top e = rw e

  -- none of n channels is in it
  skipped : (m n left ch best top : ℕ) → ((c : ℕ) → ch ≤ c → c < ch + n → has m c ≡ false) → chosen m o (n + left) ch best top ≡ chosen m o left (ch + n) best top
  skipped m zero left ch best top f = ap₂ (λ (k c : ℕ). chosen m o k c best top) (zero-add left) (sym (add-zero ch))
  skipped m (suc n) left ch best top f =
      ap (λ (k : ℕ). chosen m o k ch best top) (suc-add n left)
      ∙ left_out m (n + left) ch best top (f ch (omega arith) (omega arith))
      ∙ skipped m n left (suc ch) best top (λ c h k. f c (omega arith) (omega arith))
      ∙ ap (λ (c : ℕ). chosen m o left c best top) (shift ch n)
    where
      shift : (ch n : ℕ) → suc ch + n ≡ ch + suc n
      shift ch n = omega arith

  -- two masks have the same channels from ch on
  alike : (m k left ch best top : ℕ) → ((c : ℕ) → ch ≤ c → has m c ≡ has k c) → chosen m o left ch best top ≡ chosen k o left ch best top
  unfolding chosen
  alike m k zero ch best top f = refl
  alike m k (suc left) ch best top f = rw (f ch (omega arith)) (alike m k left (suc ch) _ _ (λ c h. f c (omega arith)))

  -- none is in it
  pub chosen_none : (left ch best top : ℕ) → chosen 0 o left ch best top ≡ best
  unfolding chosen
  chosen_none zero ch best top = refl
  chosen_none (suc left) ch best top = rw (in_none ch) (chosen_none left (suc ch) best top)

  -- the lowest one is looked at, and goes
  module _ (m : ℕ) (h : 0 < m) (g : m < 2 ^ 64) (best top : ℕ) where
    abbrev c : ℕ
    c = lowest m

    abbrev best' : ℕ
    best' = cond (leb top (get_or o c 0)) c best

    abbrev top' : ℕ
    top' = cond (leb top (get_or o c 0)) (get_or o c 0) top

    lowest_in : has m c ≡ true
    lowest_in = eq-eqb _ 1 (bit_lowest m h g)

    from_lowest : chosen m o 64 0 best top ≡ chosen m o (63 - c) (suc c) best' top'
    from_lowest =
        let low = lowest_lt m h g in
        let n : 64 ≡ c + suc (63 - c) = omega (arith, low) in
        ap (λ (k : ℕ). chosen m o k 0 best top) n
        ∙ skipped m c (suc (63 - c)) 0 best top (λ i _ k. below_lowest m i (omega arith))
        ∙ ap (λ (k : ℕ). chosen m o (suc (63 - c)) k best top) (zero-add c)
        ∙ looked m (63 - c) c best top lowest_in

    without-lowest : chosen (lose m c) o 64 0 best' top' ≡ chosen (lose m c) o (63 - c) (suc c) best' top'
    without-lowest =
        let low = lowest_lt m h g in
        let n : 64 ≡ suc c + (63 - c) = omega (arith, low) in
        ap (λ (k : ℕ). chosen (lose m c) o k 0 best' top') n
        ∙ skipped (lose m c) (suc c) (63 - c) 0 best' top' (λ i _ k. gone i (omega arith) (ltb i c) refl)
        ∙ ap (λ (k : ℕ). chosen (lose m c) o (63 - c) k best' top') (zero-add (suc c))
      where
        gone : (i : ℕ) → i ≤ lowest m → (b : Bool) → ltb i (lowest m) ≡ b → has (lose m (lowest m)) i ≡ false
        gone i l true e = let k = ltb-true i (lowest m) e in has-lose_other m (lowest m) i (λ z. omega (arith, z, k)) ∙ below_lowest m i k
        gone i l false e = let z : i ≡ lowest m = omega (arith, ltb-false i (lowest m) e) in rw z (has_lost m (lowest m))

    pub walked : chosen m o 64 0 best top ≡ chosen (lose m c) o 64 0 best' top'
    walked = from_lowest ∙ alike m (lose m c) (63 - c) (suc c) best' top' (λ i k. sym (has-lose_other m c i (λ z. omega (arith, z)))) ∙ sym without-lowest

-- ---- as the code walks, with priorities of any bits

-- where the walk stands: the choice among those left, from the best so far, is the whole
pub record Walks (l : List ℕ) (whole left best top : ℕ) : Type 0 where
  pub so_far : whole ≡ chosen left (view_priorities true l) 64 0 best top

module _ {l : List ℕ} {whole left best top : ℕ} (at : Walks l whole left best top) (more : 0 < left) (fits : left < 2 ^ 64) {c left' : ℕ} (low : c ≡ lowest left) (gone : left' ≡ lose left c)
  where
    pub took : top ≤ get_or l c 0 % 64 → Walks l whole left' c (get_or l c 0 % 64)
    took h = record { so_far = at.so_far ∙ walked (view_priorities true l) left more fits best top ∙ rw (← low, ← gone, ← six_viewed l c, le-leb _ _ h) }

    pub kept : get_or l c 0 % 64 < top → Walks l whole left' best top
    kept h = record { so_far = at.so_far ∙ walked (view_priorities true l) left more fits best top ∙ rw (← low, ← gone, ← six_viewed l c, lt-leb _ _ h) }

pub fewer : (left : ℕ) → 0 < left → left < 2 ^ 64 → {c left' : ℕ} → c ≡ lowest left → left' ≡ lose left c → left' < left
fewer left more fits low gone = rw (gone, low) (lose_less left (lowest left) (bit_lowest left more fits))

pub ended : {l : List ℕ} {whole left best top : ℕ} → Walks l whole left best top → left ≡ 0 → best ≡ whole
ended {l} {whole} {left} {best} {top} at z =
    sym (at.so_far ∙ ap (λ (m : ℕ). chosen m (view_priorities true l) 64 0 best top) z ∙ chosen_none (view_priorities true l) 64 0 best top)
