-- A group's last records as a whole: they fit, all of them with the end record, or the act is not made. Assumes nothing.
use Rattle.std.specs.Prelude.{Some, None}
use mathlib.Core.Bool.{Bool, true, false}
use mathlib.Core.List.{List, [], ◌∷◌, ◌++◌}
use mathlib.Core.Path.{◌≡◌, refl, sym, ap, ◌∙◌, subst}
use Prim.Native.Nat.{ℕ, suc, ◌+◌, ◌-◌, ◌*◌, ◌/◌, ◌≤◌, ◌<◌, min}
use native.Mathlib.Nat.{add-zero}
use native.Mathlib.Omega.{arith}
use borrow.Author.Tests.{le-leb, lt-leb, leb-true, leb-false}
use lib.Dec.{leb}
use lib.ListN.{length, take, drop, length-append, length-drop, drop_of_length-le}
use lib.Seq.{take-set-le, take_all, take_at, drop_at, drop-drop, length-take-le}
use Rattle.rules.specs.Bytes.{splice}
use Rattle.rules.specs.Calls.{world_of}
use Rattle.rules.specs.Carry.{World, Rec, line_of, lines_of, end_line, changed, last_lines, written, After, made, unmade, ok, cleared, leave}
use Rattle.rules.specs.Fields.{fields_of}
use Rattle.rules.specs.State.{Device}
use Rattle.rules.proofs.Back.{length_rec, length_lines, length_end}
use Rattle.rules.proofs.BytesLaws.{length_splice, splice_comm, splice_append}
use Rattle.rules.proofs.Cut.{splice_cut}
use Rattle.closing.specs.Closes.{Noted, Noting, noting, add, add_all, add_end, closed, Closes}
use Rattle.closing.proofs.Laws.{all_full, add-no, add_yes}

-- ---- all of them fit

all_fit : (rs : List Rec) (at : ℕ) (j : List ℕ) → at + 16 * length rs ≤ length j
    → add_all rs (noting (Some at) j) ≡ noting (Some (at + 16 * length rs)) (splice j at (lines_of rs))
unfolding add_all lines_of splice
all_fit [] at j k = rw add-zero
all_fit (r ∷ rs) at j k =
    let l : List ℕ = line_of r in
    let n : length l ≡ 16 = length_rec r in
    let one : add l (noting (Some at) j) ≡ noting (Some (at + 16)) (splice j at l) = sym (add_yes l j at (omega arith) refl) in
    let e : at + 16 + 16 * length rs ≡ at + 16 * suc (length rs) = omega arith in
    let joined : splice (splice j at l) (at + 16) (lines_of rs) ≡ splice j at (l ++ lines_of rs) =
    splice_comm j at l (at + 16) (lines_of rs) (omega arith) ∙ ap (λ (m : ℕ). splice (splice j (at + m) (lines_of rs)) at l) (sym n) ∙ sym (splice_append j at l (lines_of rs)) in
    ap (add_all rs) one ∙ all_fit rs (at + 16) (splice j at l) (omega (arith, length_splice j at l)) ∙ rw (e, joined)

-- ---- one of them does not

place : Noting → Noted
place (noting t j) = t

too_many : (used : ℕ) (rs : List Rec) (at : ℕ) (j : List ℕ) → length j < at + 16 * suc (length rs) → place (add_end used (add_all rs (noting (Some at) j))) ≡ None
unfolding add_all add_end place
too_many used [] at j k = ap place (sym (add-no (end_line ((at - used) / 16)) j at (omega arith)))
too_many used (r ∷ rs) at j k =
    by (leb (at + 16) (length j)) refl (too_many used rs (at + 16) (splice j at (line_of r)) (omega (arith, length_splice j at (line_of r))))
  where
    by : (t : Bool) → leb (at + 16) (length j) ≡ t → place (add_end used (add_all rs (noting (Some (at + 16)) (splice j at (line_of r))))) ≡ None
        → place (add_end used (add_all rs (add (line_of r) (noting (Some at) j)))) ≡ None
    by true q rest = rw (← add_yes (line_of r) j at (leb-true _ _ q) refl) rest
    by false q rest = rw (← add-no (line_of r) j at (leb-false _ _ q), ← all_full rs j) refl

-- ---- what stood in the journal before them stays

abbrev Past : ℕ → Noted → Type 0
Past n (Some at) = n ≤ at
Past n None = Unit {0}

-- a record that was added stands within the journal
abbrev Inside : Noting → Type 0
Inside (noting (Some at) j) = at ≤ length j
Inside (noting None j) = Unit {0}

add-inside : (l : List ℕ) (s : Noting) → Inside (add l s)
unfolding add
add-inside l (noting None j) = tt
add-inside l (noting (Some at) j) = by (leb (at + 16) (length j)) refl
  where
    by : (t : Bool) → leb (at + 16) (length j) ≡ t → Inside (add l (noting (Some at) j))
    by true q = let f : at + 16 ≤ length j = leb-true _ _ q in rw (q, add) (omega (arith, length_splice j at l))
    by false q = rw (q, add) tt

end_inside : (used : ℕ) (s : Noting) → Inside (add_end used s)
unfolding add_end
end_inside used (noting None j) = tt
end_inside used (noting (Some at) j) = add-inside (end_line ((at - used) / 16)) (noting (Some at) j)

record Kept (n : ℕ) (j : List ℕ) (t : Noted) (j' : List ℕ) : Type 0 where
  front : take n j' ≡ take n j
  long : length j' ≡ length j
  past : Past n t

abbrev Keeps : ℕ → List ℕ → Noting → Type 0
Keeps n j (noting t j') = Kept n j t j'

take_splice : (j : List ℕ) (at : ℕ) (l : List ℕ) (n : ℕ) → n ≤ at → take n (splice j at l) ≡ take n j
unfolding splice
take_splice j at [] n h = refl
take_splice j at (x ∷ l) n h = take-set-le n (splice j (suc at) l) at x h ∙ take_splice j (suc at) l n (omega arith)

add-keeps : (n : ℕ) (j : List ℕ) (l : List ℕ) (s : Noting) → Keeps n j s → Keeps n j (add l s)
unfolding add
add-keeps n j l (noting None j') k = k
add-keeps n j l (noting (Some at) j') k = by (leb (at + 16) (length j')) refl
  where
    by : (t : Bool) → leb (at + 16) (length j') ≡ t → Keeps n j (add l (noting (Some at) j'))
    by true q = rw (q, add) record {
      front = take_splice j' at l n k.past ∙ k.front;
      long = length_splice j' at l ∙ k.long;
      past = omega (arith, k.past);
    }
    by false q = rw (q, add) record { front = k.front; long = k.long; past = tt }

all_keep : (n : ℕ) (j : List ℕ) (rs : List Rec) (s : Noting) → Keeps n j s → Keeps n j (add_all rs s)
unfolding add_all
all_keep n j [] s k = k
all_keep n j (r ∷ rs) s k = all_keep n j rs (add (line_of r) s) (add-keeps n j (line_of r) s k)

end_keeps : (n used : ℕ) (j : List ℕ) (s : Noting) → Keeps n j s → Keeps n j (add_end used s)
unfolding add_end
end_keeps n used j (noting None j') k = k
end_keeps n used j (noting (Some at) j') k = add-keeps n j (end_line ((at - used) / 16)) (noting (Some at) j') k

-- ---- as `leave` has it

module _ (used at : ℕ) (rs : List Rec) (j : List ℕ) (h : used ≤ at) (k : at ≤ length j) where
  -- the records and the end record
  last : List ℕ
  last = lines_of rs ++ end_line ((at - used) / 16 + length rs)

  length_last : length last ≡ 16 * suc (length rs)
  unfolding last
  length_last =
      length-append (lines_of rs) (end_line ((at - used) / 16 + length rs))
      ∙ omega (arith, length_lines rs, length_end ((at - used) / 16 + length rs))

  group_fits : at + 16 * suc (length rs) ≤ length j → add_end used (add_all rs (noting (Some at) j)) ≡ noting (Some (at + length last)) (splice j at last)
  unfolding add_end last
  group_fits f =
      let n : ℕ = (at - used) / 16 + length rs in
      let m : ℕ = at + 16 * length rs in
      let count : (m - used) / 16 ≡ n = omega arith in
      let size : length (lines_of rs) ≡ 16 * length rs = omega (arith, length_lines rs) in
      let laid : List ℕ = splice j at (lines_of rs) in
      let ended : add (end_line n) (noting (Some m) laid) ≡ noting (Some (m + 16)) (splice laid m (end_line n)) =
      sym (add_yes (end_line n) laid m (omega (arith, length_splice j at (lines_of rs))) refl) in
      let joined : splice laid m (end_line n) ≡ splice j at (lines_of rs ++ end_line n) =
      splice_comm j at (lines_of rs) m (end_line n) (omega arith) ∙ ap (λ (x : ℕ). splice (splice j (at + x) (end_line n)) at (lines_of rs)) (sym size) ∙ sym (splice_append j at (lines_of rs) (end_line n)) in
      let e : m + 16 ≡ at + length last = omega (arith, length_last) in
      rw (all_fit rs at j (omega arith), count, ended, joined) (ap (λ (x : ℕ). noting (Some x) (splice j at (lines_of rs ++ end_line n))) e)

  -- in a world
  module _ (u : World) (d : Device) (w : List ℕ) (began : length u.used ≡ used) (fields : changed 0 (fields_of u.now.dev) (fields_of d) ≡ rs) where
    v : World
    v = world_of d w j at

    last_is : last_lines u v ≡ last
    unfolding last_lines last v
    last_is = rw (fields, began, length-take-le at j k)

    left_out : length j < at + 16 * suc (length rs) → leave u (ok (tt {0}) v) ≡ unmade 11 (cleared u)
    unfolding leave v
    left_out f = let g : length (drop at j) < length last = omega (arith, length-drop at j, length_last) in rw (last_is, leave, lt-leb _ _ g)

    made_so : at + 16 * suc (length rs) ≤ length j → leave u (ok (tt {0}) v) ≡ made tt (world_of d w (splice j at last) (at + length last))
    unfolding leave v written
    made_so f =
        let g : length last ≤ length (drop at j) = omega (arith, length-drop at j, length_last) in
        let cut : splice j at last ≡ take at j ++ last ++ drop (at + length last) j = splice_cut j at last (omega (arith, length_last)) in
        let front : length (take at j ++ last) ≡ at + length last = omega (arith, length-append (take at j) last, length-take-le at j k) in
        rw (last_is, leave, le-leb _ _ g, last_is, cut, take_at (take at j ++ last) (drop (at + length last) j) (at + length last) front, drop_at (take at j ++ last) (drop (at + length last) j) (at + length last) front, drop-drop (length last) at j)

journal_of : Noting → List ℕ
journal_of (noting t j) = j

-- an end past the journal stands for the journal's end
pub world-within : (d : Device) (w j : List ℕ) (at : ℕ) → length j ≤ at → world_of d w j at ≡ world_of d w j (length j)
world-within d w j at h =
    rw (take_all at j h, take_all (length j) j (omega arith), drop_of_length-le j {i = at} h, drop_of_length-le j {i = length j} (omega arith)) refl

module _ (xs ys : List ℕ) (used at : ℕ) (j : List ℕ) {r : Noted} {j' : List ℕ} (h : used ≤ min at (length j))
    (group : noting r j' ≡ add_end used (add_all (changed 0 xs ys) (noting (Some at) j)))
  where
    rs : List Rec
    rs = changed 0 xs ys

    module _ (u : World) (d : Device) (w : List ℕ) (p : fields_of u.now.dev ≡ xs) (q : fields_of d ≡ ys) (b : length u.used ≡ used) where
      fields : changed 0 (fields_of u.now.dev) (fields_of d) ≡ rs
      unfolding rs
      fields = rw (p, q)

      not_so : length j < at + 16 * suc (length rs) → closed r (tt {0}) u d w j' ≡ unmade 11 (cleared u)
      unfolding closed place rs
      not_so f = rw (ap place group ∙ too_many used rs at j f)

      within_so : at ≤ length j → closed r (tt {0}) u d w j' ≡ leave u (ok tt (world_of d w j at))
      unfolding closed place journal_of v rs
      within_so k = by (leb (at + 16 * suc (length rs)) (length j)) refl
        where
          by : (t : Bool) → leb (at + 16 * suc (length rs)) (length j) ≡ t → closed r (tt {0}) u d w j' ≡ leave u (ok tt (world_of d w j at))
          by true t =
              let f : at + 16 * suc (length rs) ≤ length j = leb-true _ _ t in
              let e : noting r j' ≡ noting (Some (at + length (last used at rs j (omega arith) k))) (splice j at (last used at rs j (omega arith) k)) = group ∙ group_fits used at rs j (omega arith) k f in
              rw (ap place e, ap journal_of e) (sym (made_so used at rs j (omega arith) k u d w b fields f))
          by false t = let f : length j < at + 16 * suc (length rs) = leb-false _ _ t in not_so f ∙ sym (left_out used at rs j (omega arith) k u d w b fields f)

      ends_so : closed r (tt {0}) u d w j' ≡ leave u (ok tt (world_of d w j at))
      unfolding v rs
      ends_so = by (leb at (length j)) refl
        where
          by : (t : Bool) → leb at (length j) ≡ t → closed r (tt {0}) u d w j' ≡ leave u (ok tt (world_of d w j at))
          by true t = within_so (leb-true _ _ t)
          by false t =
              let f : length j < at = leb-false _ _ t in
              not_so (omega arith) ∙ sym (rw (world-within d w j at (omega arith)) (left_out used (length j) rs j (omega arith) (omega arith) u d w b fields (omega arith)))

    kept : Kept at j r j'
    unfolding rs
    kept =
        let began : Kept at j (Some at) j = record { front = refl; long = refl; past = omega arith } in
        rw (← group) at (end_keeps at used j (add_all rs (noting (Some at) j)) (all_keep at j rs (noting (Some at) j) began))

    ends-inside : (e : ℕ) → r ≡ Some e → e ≤ length j'
    ends-inside e q = rw q at (subst Inside (sym group) (end_inside used (add_all (changed 0 xs ys) (noting (Some at) j))))

    pub group_closes : Closes r xs ys used at j j'
    group_closes = record { ends = ends_so; front = kept.front; long = kept.long; inside = ends-inside }

-- where nothing could be added to begin with, nothing was
pub all_full_so : (used : ℕ) (qs : List Rec) (j : List ℕ) {r : Noted} {j' : List ℕ} → noting r j' ≡ add_end used (add_all qs (noting None j)) → j' ≡ j
unfolding add_end journal_of
all_full_so used qs j e = ap journal_of (e ∙ ap (add_end used) (sym (all_full qs j)))

-- ---- whatever the answer is

relabel : {A : Type 0} → A → After (Unit {0}) World → After A World
relabel a (made x v) = made a v
relabel a (unmade n v) = unmade n v

module _ {A : Type 0} (a : A) (u : World) where
  relabel_closed : (r : Noted) (d : Device) (w j : List ℕ) → relabel a (closed r (tt {0}) u d w j) ≡ closed r a u d w j
  unfolding relabel closed
  relabel_closed (Some e) d w j = refl
  relabel_closed None d w j = refl

  relabel_leave : (v : World) → relabel a (leave u (ok (tt {0}) v)) ≡ leave u (ok a v)
  unfolding relabel leave
  relabel_leave v = by (leb (length (last_lines u v)) (length v.free)) refl
    where
      by : (t : Bool) → leb (length (last_lines u v)) (length v.free) ≡ t → relabel a (leave u (ok (tt {0}) v)) ≡ leave u (ok a v)
      by true q = rw (q, leave, relabel)
      by false q = rw (q, leave, relabel)

pub closes : {r : Noted} {xs ys : List ℕ} {used at : ℕ} {j j' : List ℕ} → Closes r xs ys used at j j'
    → {A : Type 0} (a : A) (u : World) (d : Device) (w : List ℕ) → fields_of u.now.dev ≡ xs → fields_of d ≡ ys → length u.used ≡ used
    → closed r a u d w j' ≡ leave u (ok a (world_of d w j at))
closes {r} {at = at} {j = j} {j' = j'} c a u d w p q b =
    sym (relabel_closed a u r d w j') ∙ ap (relabel a) (c.ends u d w p q b) ∙ relabel_leave a u (world_of d w j at)
