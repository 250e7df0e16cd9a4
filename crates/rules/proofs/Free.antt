-- Of the room after the used journal only its length matters: to steps, to acts and to take back. Assumes nothing.
use mathlib.Core.Bool.{Bool, true, false, ◌&&◌, true≢false, false≢true}
use mathlib.Core.List.{List, ◌++◌}
use mathlib.Core.Path.{◌≡◌, refl, sym, ap, ◌∙◌, subst}
use Prim.Native.Nat.{ℕ, ◌+◌, ◌-◌, ◌*◌}
use lib.Dec.{eqb, leb}
use lib.ListN.{length, take, drop, replicate, length-append, length-drop, length-replicate}
use Rattle.rules.specs.Act.{Act, Done, Endless, Stage, Fetch, Store, Ask, Put, Look}
use Rattle.rules.specs.Fields.{holds, setting_of}
use Rattle.rules.specs.Carry.{Machine, World, Out, ok, no, there, legal, fetched, recorded, go, After, made, unmade, last_lines, written, cleared, leave, perform, undo, Lent}
use Rattle.rules.specs.TakeBack.{value, all_sound, ends, decode_all, take_group, take_last, take_end, take_back}
use Rattle.rules.proofs.Steps.{cutting}

-- what is compared of a world: window and device, and the used journal
pub record Seen : Type 0 where
  pub now : Machine
  pub used : List ℕ

abbrev pub seen : World → Seen
seen u = record { now = u.now; used = u.used }

-- two worlds with the same to see, and the same length of room
pub record Agree (u v : World) : Type 0 where
  pub seen_is : seen u ≡ seen v
  pub room_is : length u.free ≡ length v.free

-- two ends with the same answer or the same number, and worlds that agree
abbrev pub AgreeOut : {A : Type 0} → Out A → Out A → Type 0
AgreeOut (ok a u) (ok b v) = (a ≡ b) × Agree u v
AgreeOut (ok a u) (no n v) = ⊥
AgreeOut (no n u) (ok a v) = ⊥
AgreeOut (no n u) (no k v) = (n ≡ k) × Agree u v

abbrev pub AgreeAfter : {A : Type 0} → After A World → After A World → Type 0
AgreeAfter (made a u) (made b v) = (a ≡ b) × Agree u v
AgreeAfter (made a u) (unmade n v) = ⊥
AgreeAfter (unmade n u) (made a v) = ⊥
AgreeAfter (unmade n u) (unmade k v) = (n ≡ k) × Agree u v

-- ---- a world with other room

abbrev with_free : List ℕ → World → World
with_free f u = record { now = u.now; used = u.used; free = f }

-- two worlds that agree are one with other room
as_free : (u v : World) → Agree u v → v ≡ with_free v.free u
as_free u v h = ap (λ (s : Seen). record { now = s.now; used = s.used; free = v.free }) (sym h.seen_is)

agree_free : (u : World) (f : List ℕ) → length u.free ≡ length f → Agree u (with_free f u)
agree_free u f e = record { seen_is = refl; room_is = e }

-- ---- steps

module _ (base : ℕ) (lent : Lent) where
  go-free : {A : Type 0} (m : Act A) (u : World) (f : List ℕ) → length u.free ≡ length f → AgreeOut (go base lent m u) (go base lent m (with_free f u))
  unfolding go recorded
  go-free (Done a) u f e = (refl, agree_free u f e)
  go-free Endless u f e = (refl, agree_free u f e)
  go-free {A} (Stage n k) u f e =
      let v = with_free f u in
      elim (leb n lent.staging) as (λ b. AgreeOut {A = A} (elim b [ true ↦ go base lent k u | false ↦ no 10 u ]) (elim b [ true ↦ go base lent k v | false ↦ no 10 v ])) [
        | true ↦ go-free k u f e
        | false ↦ (refl, agree_free u f e)
      ]
  go-free {A} (Fetch sp a n k) u f e =
      let v = with_free f u in
      let l = fetched base sp a n u.now in
      elim (there base sp a n u.now) as (λ b. AgreeOut {A = A} (elim b [ true ↦ go base lent (k l) u | false ↦ no 9 u ]) (elim b [ true ↦ go base lent (k l) v | false ↦ no 9 v ])) [
        | true ↦ go-free (k l) u f e
        | false ↦ (refl, agree_free u f e)
      ]
  go-free {A} (Store sp a n x k) u f e =
      made_or (there base sp a n u.now && legal sp n) (leb 16 (length u.free)) (leb 16 (length f)) (ap (leb 16) e)
      (go-free k (recorded base sp a n x u) (drop 16 f) (length-drop 16 u.free ∙ ap (λ n. n - 16) e ∙ sym (length-drop 16 f)))
    where
      made_or : (b c d : Bool) → c ≡ d
          → AgreeOut {A = A} (go base lent k (recorded base sp a n x u)) (go base lent k (recorded base sp a n x (with_free f u)))
          → AgreeOut {A = A}
          (elim b [ true ↦ elim c [ true ↦ go base lent k (recorded base sp a n x u) | false ↦ no 11 u ] | false ↦ no 9 u ])
          (elim b [ true ↦ elim d [ true ↦ go base lent k (recorded base sp a n x (with_free f u)) | false ↦ no 11 (with_free f u) ] | false ↦ no 9 (with_free f u) ])
      made_or false c d p h = (refl, agree_free u f e)
      made_or true true true p h = h
      made_or true false false p h = (refl, agree_free u f e)
      made_or true true false p h = absurd (true≢false p)
      made_or true false true p h = absurd (false≢true p)
  go-free (Ask n k) u f e = go-free (k (holds n u.now.dev)) u f e
  go-free (Put n x k) u f e = go-free k (cutting n x u) f e
  go-free (Look s k) u f e = go-free (k (setting_of s u.now.dev)) u f e

  pub go-agrees : {A : Type 0} (m : Act A) (u v : World) → Agree u v → AgreeOut (go base lent m u) (go base lent m v)
  go-agrees m u v h = subst (λ w. AgreeOut (go base lent m u) (go base lent m w)) (sym (as_free u v h)) (go-free m u v.free h.room_is)

-- ---- acts

module _ (u : World) (f : List ℕ) (e : length u.free ≡ length f) where
  cleared-free : Agree (cleared u) (cleared (with_free f u))
  unfolding cleared
  cleared-free = record { seen_is = refl; room_is = length-replicate (length u.free) 0 ∙ e ∙ sym (length-replicate (length f) 0) }

  written-free : (lines : List ℕ) → Agree (written lines u) (written lines (with_free f u))
  unfolding written
  written-free lines = record {
    seen_is = refl;
    room_is = length-drop (length lines) u.free ∙ ap (λ n. n - length lines) e ∙ sym (length-drop (length lines) f);
  }

module _ (u : World) (f : List ℕ) (e : length u.free ≡ length f) where
  leave-free : {A : Type 0} (o p : Out A) → AgreeOut o p → AgreeAfter (leave u o) (leave (with_free f u) p)
  unfolding leave last_lines
  leave-free (no n v) (no k w) h = (h.0, cleared-free u f e)
  leave-free (ok a v) (no k w) h = absurd h
  leave-free (no n v) (ok b w) h = absurd h
  leave-free {A} (ok a v) (ok b w) h =
      subst (λ x. AgreeAfter (leave u (ok a v)) (leave (with_free f u) (ok b x))) (sym (as_free v w h.1))
      (room (leb (length (last_lines u v)) (length v.free)) (leb (length (last_lines u v)) (length w.free)) (ap (leb (length (last_lines u v))) h.1.room_is))
    where
      room : (c d : Bool) → c ≡ d
          → AgreeAfter {A = A}
          (elim c [ true ↦ made a (written (last_lines u v) v) | false ↦ unmade 11 (cleared u) ])
          (elim d [ true ↦ made b (written (last_lines u v) (with_free w.free v)) | false ↦ unmade 11 (cleared (with_free f u)) ])
      room true true p = (h.0, written-free v w.free h.1.room_is (last_lines u v))
      room false false p = (refl, cleared-free u f e)
      room true false p = absurd (true≢false p)
      room false true p = absurd (false≢true p)

pub perform-agrees : (base : ℕ) (lent : Lent) {A : Type 0} (m : Act A) (u v : World) → Agree u v → AgreeAfter (perform base lent m u) (perform base lent m v)
unfolding perform
perform-agrees base lent m u v h =
    subst (λ w. AgreeAfter (perform base lent m u) (perform base lent m w)) (sym (as_free u v h))
    (leave-free u v.free h.room_is (go base lent m u) (go base lent m (with_free v.free u)) (go-free base lent m u v.free h.room_is))

-- ---- take back

module _ (base : ℕ) (u : World) (f : List ℕ) (e : length u.free ≡ length f) where
  group_free : (n : ℕ) (before group : List ℕ) → AgreeAfter (take_group base u n before group) (take_group base (with_free f u) n before group)
  unfolding take_group
  group_free n before group = sound_or (all_sound base u.now n group)
    where
      zeros : List ℕ
      zeros = replicate (length group) 0

      back : List ℕ → World
      back room = record { now = undo base (decode_all n group) u.now; used = before; free = zeros ++ room }

      sound_or : (b : Bool) → AgreeAfter {A = Unit {0}}
          (elim b [ true ↦ made tt (back u.free) | false ↦ unmade 13 u ]) (elim b [ true ↦ made tt (back f) | false ↦ unmade 13 (with_free f u) ])
      sound_or true = (
        refl,
        record {
          seen_is = refl;
          room_is = length-append zeros u.free ∙ ap (λ n. length zeros + n) e ∙ sym (length-append zeros f);
        },
      )
      sound_or false = (refl, agree_free u f e)

  last_free : (n : ℕ) → AgreeAfter (take_last base u n) (take_last base (with_free f u) n)
  unfolding take_last
  last_free n =
      let from = length u.used - (n + 1) * 16 in
      let v = with_free f u in
      elim (leb ((n + 1) * 16) (length u.used)) as (λ b. AgreeAfter {A = Unit {0}}
      (elim b [ true ↦ take_group base u n (take from u.used) (drop from u.used) | false ↦ unmade 13 u ])
      (elim b [ true ↦ take_group base v n (take from u.used) (drop from u.used) | false ↦ unmade 13 v ])) [
        | true ↦ group_free n (take from u.used) (drop from u.used)
        | false ↦ (refl, agree_free u f e)
      ]

  end_free : (l : List ℕ) → AgreeAfter (take_end base u l) (take_end base (with_free f u) l)
  unfolding take_end
  end_free l =
      let v = with_free f u in
      elim (ends l) as (λ b. AgreeAfter {A = Unit {0}}
      (elim b [ true ↦ take_last base u (value l) | false ↦ unmade 13 u ])
      (elim b [ true ↦ take_last base v (value l) | false ↦ unmade 13 v ])) [
        | true ↦ last_free (value l)
        | false ↦ (refl, agree_free u f e)
      ]

  back_free : AgreeAfter (take_back base u) (take_back base (with_free f u))
  unfolding take_back
  back_free =
      let l = drop (length u.used - 16) u.used in
      let v = with_free f u in
      elim (eqb (length u.used) 0) as (λ b. AgreeAfter {A = Unit {0}}
      (elim b [ true ↦ unmade 12 u | false ↦ take_end base u l ])
      (elim b [ true ↦ unmade 12 v | false ↦ take_end base v l ])) [
        | true ↦ (refl, agree_free u f e)
        | false ↦ end_free l
      ]

pub back_agrees : (base : ℕ) (u v : World) → Agree u v → AgreeAfter (take_back base u) (take_back base v)
back_agrees base u v h = subst (λ w. AgreeAfter (take_back base u) (take_back base w)) (sym (as_free u v h)) (back_free base u v.free h.room_is)
