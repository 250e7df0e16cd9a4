-- What lasts through every act and every take-back, of whatever bytes: the lengths of window and journal, and that whole records are used.
-- And the numbers with which acts and take-backs are refused. Assumes nothing.
use mathlib.Core.Bool.{Bool, true, false, ◌&&◌}
use mathlib.Core.List.{List, [], ◌∷◌, ◌++◌}
use mathlib.Core.Path.{◌≡◌, refl, ◌∙◌}
use Prim.Native.Nat.{ℕ, ◌+◌, ◌-◌, ◌*◌, ◌%◌, ◌≤◌}
use native.Mathlib.Omega.{arith}
use borrow.Author.Tests.{leb-true}
use lib.Dec.{eqb, leb, lit≤}
use lib.ListN.{length, take, drop, replicate, length-append, length-drop, length-replicate}
use lib.Seq.{length-take-le}
use Rattle.rules.specs.Act.{Act, Done, Endless, Stage, Fetch, Store, Ask, Put, Look, Space, window, table, Field}
use Rattle.rules.specs.Bytes.{bytes, number}
use Rattle.rules.specs.Fields.{holds, setting_of}
use Rattle.rules.specs.Carry.{Machine, World, Rec, stood_at, stood_in, Out, ok, no, bytes_of, with_bytes_of, with_device, there, legal, fetched, stored, line, line_of, end_line, recorded, go, After, made, unmade, last_lines, written, cleared, leave, perform, undo_rec, undo, Lent}
use Rattle.rules.specs.TakeBack.{value, all_sound, ends, decode_all, take_group, take_last, take_end, take_back}
use Rattle.rules.proofs.BytesLaws.{length_splice}
use Rattle.rules.proofs.Steps.{cutting}
use Rattle.rules.proofs.Keeps.{AtEnd, go-keeps}
use Rattle.rules.proofs.Back.{length_rec, length_lines}
use Rattle.rules.proofs.Took.{total}

-- P holds where a call has ended, made or not
abbrev pub Ending : {A W : Type 0} → (W → Type 0) → After A W → Type 0
Ending P (made a w) = P w
Ending P (unmade n w) = P w

-- ---- how a take-back ends

-- the last i records and their end undone, and gone from the used journal
abbrev pub last_undone : ℕ → World → ℕ → World
last_undone base u i =
    let from = length u.used - (i + 1) * 16 in
    let group = drop from u.used in
    record { now = undo base (decode_all i group) u.now; used = take from u.used; free = replicate (length group) 0 ++ u.free }

-- refused with 12 or 13, nothing changed; or made, where the last i records are sound
pub data BackEnds (base : ℕ) (u : World) : After (Unit {0}) World → Type 0 where
  none : BackEnds base u (unmade 12 u)
  damaged : BackEnds base u (unmade 13 u)
  taken : (i : ℕ) → (i + 1) * 16 ≤ length u.used → all_sound base u.now i (drop (length u.used - (i + 1) * 16) u.used) ≡ true
      → BackEnds base u (made tt (last_undone base u i))

pub back_ends : (base : ℕ) (u : World) → BackEnds base u (take_back base u)
unfolding take_back take_end take_last take_group
back_ends base u = used_or (eqb (length u.used) 0)
  where
    end : List ℕ
    end = drop (length u.used - 16) u.used

    sound_or : (i : ℕ) → (i + 1) * 16 ≤ length u.used → (t : Bool) → all_sound base u.now i (drop (length u.used - (i + 1) * 16) u.used) ≡ t
        → BackEnds base u (elim t [ true ↦ made tt (last_undone base u i) | false ↦ unmade 13 u ])
    sound_or i long true e = taken i long e
    sound_or i long false e = damaged

    long_or : (i : ℕ) (t : Bool) → leb ((i + 1) * 16) (length u.used) ≡ t → let from = length u.used - (i + 1) * 16 in
        BackEnds base u (elim t [ true ↦ take_group base u i (take from u.used) (drop from u.used) | false ↦ unmade 13 u ])
    long_or i true t = sound_or i (leb-true _ _ t) (all_sound base u.now i (drop (length u.used - (i + 1) * 16) u.used)) refl
    long_or i false t = damaged

    end_or : (t : Bool) → BackEnds base u (elim t [ true ↦ take_last base u (value end) | false ↦ unmade 13 u ])
    end_or true = long_or (value end) (leb ((value end + 1) * 16) (length u.used)) refl
    end_or false = damaged

    used_or : (t : Bool) → BackEnds base u (elim t [ true ↦ unmade 12 u | false ↦ take_end base u end ])
    used_or true = none
    used_or false = end_or (ends end)

-- ---- lengths

-- a window and a journal of these lengths, and whole records used
pub record Lasts (window journal : ℕ) (u : World) : Type 0 where
  pub window_is : length u.now.mem ≡ window
  pub journal_is : total u ≡ journal
  pub whole : length u.used % 16 ≡ 0

stored_length : (base : ℕ) (sp : Space) (a n v : ℕ) (m : Machine) → length (stored base sp a n v m).mem ≡ length m.mem
unfolding stored with_bytes_of bytes_of
stored_length base window a n v m = length_splice m.mem _ _
stored_length base table a n v m = refl

undo_length : (base : ℕ) (g : List Rec) (m : Machine) → length (undo base g m).mem ≡ length m.mem
unfolding undo undo_rec with_device
undo_length base [] m = refl
undo_length base (stood_at sp a n v ∷ g) m = stored_length base sp a n v (undo base g m) ∙ undo_length base g m
undo_length base (stood_in n v ∷ g) m = undo_length base g m

last_whole : (u v : World) → length (last_lines u v) % 16 ≡ 0
unfolding last_lines end_line line bytes
last_whole u v = simp (length-append, length_lines) (omega arith)

module _ (base : ℕ) {n k : ℕ} where
  store_lasts : (sp : Space) (a w v : ℕ) (u : World) → there base sp a w u.now ≡ true → legal sp w ≡ true → 16 ≤ length u.free → Lasts n k u
      → Lasts n k (recorded base sp a w v u)
  unfolding recorded
  store_lasts sp a w v u t l room h =
      let r = stood_at sp a w (number (fetched base sp a w u.now)) in
      record {
        window_is = stored_length base sp a w v u.now ∙ h.window_is;
        journal_is = omega (arith, length-append u.used (line_of r), length_rec r, length-drop 16 u.free, h.journal_is);
        whole = omega (arith, length-append u.used (line_of r), length_rec r, h.whole);
      }

  put_lasts : (f : Field) (v : ℕ) (u : World) → Lasts n k u → Lasts n k (cutting f v u)
  unfolding with_device
  put_lasts f v u h = record { window_is = h.window_is; journal_is = h.journal_is; whole = h.whole }

  written_lasts : (u v : World) → length (last_lines u v) ≤ length v.free → Lasts n k v → Lasts n k (written (last_lines u v) v)
  unfolding written
  written_lasts u v room h = record {
    window_is = h.window_is;
    journal_is = omega (arith, length-append v.used (last_lines u v), length-drop (length (last_lines u v)) v.free, h.journal_is);
    whole = omega (arith, length-append v.used (last_lines u v), last_whole u v, h.whole);
  }

  cleared_lasts : (u : World) → Lasts n k u → Lasts n k (cleared u)
  unfolding cleared
  cleared_lasts u h = record { window_is = h.window_is; journal_is = omega (arith, length-replicate {A = ℕ} (length u.free) 0, h.journal_is); whole = h.whole }

  pub perform_lasts : (lent : Lent) {A : Type 0} (m : Act A) (u : World) → Lasts n k u → Ending (Lasts n k) (perform base lent m u)
  unfolding perform leave
  perform_lasts lent {A} m u h = left (go base lent m u) (go-keeps base lent (Lasts n k) store_lasts put_lasts m u h)
    where
      left : (o : Out A) → AtEnd (Lasts n k) o → Ending (Lasts n k) (leave u o)
      left (no i v) l = cleared_lasts u h
      left (ok a v) l = room (leb (length (last_lines u v)) (length v.free)) refl
        where
          room : (t : Bool) → leb (length (last_lines u v)) (length v.free) ≡ t
              → Ending {A = A} (Lasts n k) (elim t [ true ↦ made a (written (last_lines u v) v) | false ↦ unmade 11 (cleared u) ])
          room true t = written_lasts u v (leb-true _ _ t) l
          room false t = cleared_lasts u h

  pub back_lasts : (u : World) → Lasts n k u → Ending (Lasts n k) (take_back base u)
  back_lasts u h = by_end (take_back base u) (back_ends base u)
    where
      by_end : (o : After (Unit {0}) World) → BackEnds base u o → Ending (Lasts n k) o
      by_end _ none = h
      by_end _ damaged = h
      by_end _ (taken i long _) =
          let from = length u.used - (i + 1) * 16 in
          let group = drop from u.used in
          let front : length (take from u.used) ≡ from = length-take-le from u.used (omega arith) in
          let zeros : List ℕ = replicate (length group) 0 in
          record {
            window_is = undo_length base (decode_all i group) u.now ∙ h.window_is;
            journal_is = omega (arith, front, length-append zeros u.free, length-replicate {A = ℕ} (length group) 0, length-drop from u.used, h.journal_is);
            whole = omega (arith, front, h.whole);
          }

-- ---- numbers

-- steps are refused with 9, 10 or 11
abbrev Numbered : {A : Type 0} → Out A → Type 0
Numbered (ok a u) = Unit {0}
Numbered (no n u) = (9 ≤ n) × (n ≤ 11)

go-numbered : (base : ℕ) (lent : Lent) {A : Type 0} (m : Act A) (u : World) → Numbered (go base lent m u)
unfolding go
go-numbered base lent (Done a) u = tt
go-numbered base lent Endless u = (lit≤ tt, lit≤ tt)
go-numbered base lent {A} (Stage n k) u =
    elim (leb n lent.staging) as (λ b. Numbered {A = A} (elim b [ true ↦ go base lent k u | false ↦ no 10 u ])) [
      | true ↦ go-numbered base lent k u
      | false ↦ (lit≤ tt, lit≤ tt)
    ]
go-numbered base lent {A} (Fetch sp a n k) u =
    let l = fetched base sp a n u.now in
    elim (there base sp a n u.now) as (λ b. Numbered {A = A} (elim b [ true ↦ go base lent (k l) u | false ↦ no 9 u ])) [
      | true ↦ go-numbered base lent (k l) u
      | false ↦ (lit≤ tt, lit≤ tt)
    ]
go-numbered base lent {A} (Store sp a n v k) u =
    let r = recorded base sp a n v u in
    elim (there base sp a n u.now && legal sp n) as (λ b. Numbered {A = A} (elim b [
      | true ↦ elim (leb 16 (length u.free)) [ true ↦ go base lent k r | false ↦ no 11 u ]
      | false ↦ no 9 u
    ])) [
      | true ↦ elim (leb 16 (length u.free)) as (λ b. Numbered {A = A} (elim b [ true ↦ go base lent k r | false ↦ no 11 u ])) [
        | true ↦ go-numbered base lent k r
        | false ↦ (lit≤ tt, lit≤ tt)
      ]
      | false ↦ (lit≤ tt, lit≤ tt)
    ]
go-numbered base lent (Ask f k) u = go-numbered base lent (k (holds f u.now.dev)) u
go-numbered base lent (Put f v k) u = go-numbered base lent k (cutting f v u)
go-numbered base lent (Look s k) u = go-numbered base lent (k (setting_of s u.now.dev)) u

-- and so an act is
pub act_number : (base : ℕ) (lent : Lent) {A : Type 0} (m : Act A) (u : World) (n : ℕ) (v : World) → perform base lent m u ≡ unmade n v → (9 ≤ n) × (n ≤ 11)
unfolding perform leave
act_number base lent {A} m u n v = left (go base lent m u) (go-numbered base lent m u)
  where
    left : (o : Out A) → Numbered o → leave u o ≡ unmade n v → (9 ≤ n) × (n ≤ 11)
    left (no i w) l e = let p : i ≡ n = cc in rw p at l
    left (ok a w) l e = room (leb (length (last_lines u w)) (length w.free)) e
      where
        room : (t : Bool) → ◌≡◌ {A = After A World} (elim t [ true ↦ made a (written (last_lines u w) w) | false ↦ unmade 11 (cleared u) ]) (unmade n v) → (9 ≤ n) × (n ≤ 11)
        room true e = let z : ◌≡◌ {A = ℕ} 0 1 = cc in absurd (omega arith)
        room false e = let p : 11 ≡ n = cc in omega arith

-- a take-back is refused with 12 or 13, and changes nothing
pub back_refused : (base : ℕ) (u : World) (n : ℕ) (v : World) → take_back base u ≡ unmade n v → (v ≡ u) × (12 ≤ n) × (n ≤ 13)
back_refused base u n v = by_end (take_back base u) (back_ends base u)
  where
    by_end : (o : After (Unit {0}) World) → BackEnds base u o → o ≡ unmade n v → (v ≡ u) × (12 ≤ n) × (n ≤ 13)
    by_end _ none e = let p : 12 ≡ n = cc in (cc, omega arith, omega arith)
    by_end _ damaged e = let p : 13 ≡ n = cc in (cc, omega arith, omega arith)
    by_end _ (taken i long _) e = let z : ◌≡◌ {A = ℕ} 0 1 = cc in absurd (omega arith)
