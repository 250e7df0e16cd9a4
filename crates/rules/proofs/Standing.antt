-- Demand 3 for this machine: every row of calls, whatever their acts, and take-backs. Assumes nothing.
use mathlib.Core.List.{List, [], ◌∷◌}
use mathlib.Core.Logic.{◌↔◌}
use mathlib.Core.Option.{Option, none, some}
use mathlib.Core.Path.{◌≡◌, refl, sym, ap, ◌∙◌, subst}
use Prim.Native.Nat.{ℕ, ◌≤◌, ◌^◌}
use native.Mathlib.Omega.{arith}
use lib.ListN.{length, replicate, length-append, length-replicate}
use Rattle.rules.specs.Act.{Act}
use Rattle.rules.specs.Carry.{Machine, World, After, made, unmade, cleared, perform, Lent}
use Rattle.rules.specs.TakeBack.{take_back}
use Rattle.rules.proofs.Keeps.{Good}
use Rattle.rules.proofs.Back.{group_bytes, taken_back, take_back_lem, take_none}
use Rattle.rules.proofs.Free.{Seen, seen, Agree, AgreeAfter, perform-agrees}
use Rattle.rules.proofs.Took.{Led, total, Took, accepted, refused}
use Rattle.rules.proofs.History.{Entry, walk, Alone, Laws, history, one_stands, none_iff}

-- a call: what, if anything, keeps it from being made before anything is done (a refusal's number; 0 for a register read), which goes by
-- what is seen and by the length of the room; what it is lent; its act's tree, with an answer of any type
pub record Call (A : Type 0) : Type 0 where
  pub before : World → Option ℕ
  pub before_same : (u v : World) → Agree u v → before u ≡ before v
  pub lent : Lent
  pub act : Act A

-- the call as it is made
unfoldable pub make_call : {A : Type 0} → ℕ → Call A → World → After A World
make_call base c u = elim (c.before u) [ none ↦ perform base c.lent c.act u | some n ↦ unmade n u ]

module _ {A : Type 0} (base : ℕ) (c : Call A) where
  checked_agree : (b : Option ℕ) (u v : World) → Agree u v
      → AgreeAfter {A = A}
      (elim b [ none ↦ perform base c.lent c.act u | some n ↦ unmade n u ])
      (elim b [ none ↦ perform base c.lent c.act v | some n ↦ unmade n v ])
  checked_agree none u v h = perform-agrees base c.lent c.act u v h
  checked_agree (some n) u v h = (refl, h)

  make_agrees : (u v : World) → Agree u v → AgreeAfter (make_call base c u) (make_call base c v)
  unfolding make_call
  make_agrees u v h =
      subst (λ b. AgreeAfter {A = A} (make_call base c u) (elim b [ none ↦ perform base c.lent c.act v | some n ↦ unmade n v ])) (c.before_same u v h)
      (checked_agree (c.before u) u v h)

  -- made from one of two worlds that agree, it is made from the other, with the same answer
  make_alike : (u w w' : World) (a : A) → Agree u w → make_call base c w ≡ made a w' → (u' : World) × (make_call base c u ≡ made a u') × Agree u' w'
  make_alike u w w' a h e = same (make_call base c u) refl (subst (AgreeAfter (make_call base c u)) e (make_agrees u w h))
    where
      same : (o : After A World) → make_call base c u ≡ o → AgreeAfter o (made a w') → (u' : World) × (make_call base c u ≡ made a u') × Agree u' w'
      same (made b u') p k = (u', p ∙ ap (λ x. made x u') k.0, k.1)
      same (unmade n u') p k = absurd k

  -- not made, it changes nothing that is seen, nor the length of the room
  make_unmade : (u : World) (n : ℕ) (v : World) → make_call base c u ≡ unmade n v → Agree v u
  unfolding make_call cleared
  make_unmade u n v = checked (c.before u)
    where
      checked : (b : Option ℕ) → ◌≡◌ {A = After A World} (elim b [ none ↦ perform base c.lent c.act u | some k ↦ unmade k u ]) (unmade n v) → Agree v u
      checked none e =
          subst (λ w. Agree w u) (sym (refused base c.lent c.act u n v e)) (record { seen_is = refl; room_is = length-replicate (length u.free) 0 })
      checked (some k) e = let p : u ≡ v = cc in rw p (record { seen_is = refl; room_is = refl })

  -- made, it adds one group
  make_made : (u : World) → Good base u.now → total u ≤ 2 ^ 28 → (a : A) (v : World) → make_call base c u ≡ made a v → Took base u v
  unfolding make_call
  make_made u g small a v = checked (c.before u)
    where
      checked : (b : Option ℕ) → ◌≡◌ {A = After A World} (elim b [ none ↦ perform base c.lent c.act u | some k ↦ unmade k u ]) (made a v) → Took base u v
      checked none e = accepted base u g small c.lent c.act a v e
      checked (some k) e = let z : ◌≡◌ {A = ℕ} 0 1 = cc in absurd (omega arith)

-- a take-back that is always refused
abbrev pub refuses_with : ℕ → World → After (Unit {0}) World
refuses_with n u = unmade n u

module _ {A C : Type 0} (call_of : C → Call A) (base : ℕ) where
  abbrev pub make : C → World → After A World
  make c u = make_call base (call_of c) u

  -- a window that no call takes (refusal 5): no take-back is ever made, and every call made stands
  pub never_back : (n : ℕ) (start : World) (row : List (Entry C))
      → let s = walk make (refuses_with n) start row in (w : World) × Alone make start s.standing w × (seen s.here ≡ seen w)
  never_back n start row =
      let h = history make (refuses_with n) told (λ os w. Unit {0}) start laws row in
      (h.0, h.1, ap (λ (o : Seen × ℕ). o.0) h.2)
    where
      -- what is seen, and the length of the room
      told : World → Seen × ℕ
      told u = (seen u, length u.free)

      alike : (u v : World) → Agree u v → told u ≡ told v
      alike u v h = λ k. (h.seen_is k, h.room_is k)

      laws : Laws make (refuses_with n) told (λ os w. Unit {0}) start
      laws = record {
        at_start = tt;
        on_made = λ c os w w' a l e. tt;
        on_unmade = λ c os w w' k l e. (alike w' w (make_unmade base (call_of c) w k w' e), tt);
        on_no_back = λ os w w' k l e. let p : w ≡ w' = cc in (ap told (sym p), tt);
        on_back = λ o os w w' b l e. let z : ◌≡◌ {A = ℕ} 0 1 = cc in absurd (omega arith);
        on_none = λ w w' b l e. let z : ◌≡◌ {A = ℕ} 0 1 = cc in omega arith;
        determined = λ c os u w w' a l k p e.
            let r = make_alike base (call_of c) u w w' a (record { seen_is = ap (λ (o : Seen × ℕ). o.0) p; room_is = ap (λ (o : Seen × ℕ). o.1) p }) e in
            (r.0, r.1, alike r.0 w' r.2);
      }

  -- the way back from s leads through os: s is the first of them and one group more, and so on, to an empty journal
  unfoldable Way : List Seen → Seen → Type 0
  Way [] s = s.used ≡ []
  Way (o ∷ os) s = Led base o s × Good base o.now × Way os o

  -- from a good machine and an empty journal, of at most 2^28 bytes in all
  module _ (start : World) (good : Good base start.now) (empty : start.used ≡ []) (small : total start ≤ 2 ^ 28) where
    record Leads (os : List Seen) (w : World) : Type 0 where
      good_now : Good base w.now
      total_is : total w ≡ total start
      way : Way os (seen w)

    -- a take-back leads to the nearest
    back_led : (o : Seen) (os : List Seen) (w : World) → Leads (o ∷ os) w → (w' : World) × (take_back base w ≡ made tt w') × (seen w' ≡ o) × Leads os w'
    unfolding Way
    back_led o os w h =
        let l : Led base o (seen w) = h.way.0 in
        let w' = taken_back base w l.group o.used in
        let p : seen w' ≡ o = ap (λ (m : Machine). record { now = m; used = o.used }) l.undone in (
          w',
          take_back_lem base w h.good_now l.group l.all_sound o.used l.used_is l.few,
          p,
          record {
            good_now = subst (λ (s : Seen). Good base s.now) (sym p) h.way.1;
            total_is = length_back w o l ∙ h.total_is;
            way = subst (Way os) (sym p) h.way.2;
          },
        )
      where
        length_back : (w : World) (o : Seen) (l : Led base o (seen w)) → total (taken_back base w l.group o.used) ≡ total w
        length_back w o l =
            let zeros : List ℕ = replicate (length (group_bytes l.group)) 0 in
            omega (arith, length-append zeros w.free, length-replicate {A = ℕ} (length (group_bytes l.group)) 0, ap length l.used_is, length-append o.used (group_bytes l.group))

    -- and where there is none it is refused
    back_none : (w : World) → Leads [] w → take_back base w ≡ unmade 12 w
    unfolding Way
    back_none w h = take_none base w h.way

    agree : (os : List Seen) (u w : World) → Leads os u → Leads os w → seen u ≡ seen w → Agree u w
    agree os u w h k p = record { seen_is = p; room_is = omega (arith, h.total_is, k.total_is, ap (λ (s : Seen). length s.used) p) }

    on_no_back : (os : List Seen) (w w' : World) (n : ℕ) → Leads os w → take_back base w ≡ unmade n w' → (seen w' ≡ seen w) × Leads os w'
    on_no_back [] w w' n h e = let p : w' ≡ w = cc (back_none w h) in (ap seen p, rw p h)
    on_no_back (o ∷ os) w w' n h e = let r = (back_led o os w h).1 in let z : ◌≡◌ {A = ℕ} 0 1 = cc in absurd (omega arith)

    laws : Laws make (take_back base) seen Leads start
    unfolding Way
    laws = record {
      at_start = record { good_now = good; total_is = refl; way = empty };
      on_made = λ c os w w' a h e.
          let t = make_made base (call_of c) w h.good_now (omega (arith, h.total_is)) a w' e in
          record { good_now = t.1; total_is = t.2 ∙ h.total_is; way = (t.0, h.good_now, h.way) };
      on_unmade = λ c os w w' n h e.
          let k = make_unmade base (call_of c) w n w' e in (
            k.seen_is,
            record {
              good_now = subst (λ (s : Seen). Good base s.now) (sym k.seen_is) h.good_now;
              total_is = omega (arith, k.room_is, ap (λ (s : Seen). length s.used) k.seen_is, h.total_is);
              way = subst (Way os) (sym k.seen_is) h.way;
            },
          );
      on_no_back = on_no_back;
      on_back = λ o os w w' b h e.
          let r = back_led o os w h in
          let f = r.1 in
          let p : w' ≡ r.0 = cc in (ap seen p ∙ r.2, rw p r.3);
      on_none = λ w w' b h e. let z : ◌≡◌ {A = ℕ} 0 1 = cc (back_none w h) in omega arith;
      determined = λ c os u w w' a h k p e.
          let r = make_alike base (call_of c) u w w' a (agree os u w h k p) e in
          (r.0, r.1, r.2.seen_is);
    }

    whole : (o : Seen) (os : List Seen) (w : World) → Leads (o ∷ os) w → (b : Unit {0}) × (w' : World) × (take_back base w ≡ made b w')
    whole o os w h = let r = back_led o os w h in (tt, r.0, r.1)

    -- the standing calls, made alone in order, are made, answer the same, and give window, device and used journal
    pub standing-alone : (row : List (Entry C)) → let s = walk make (take_back base) start row in (w : World) × Alone make start s.standing w × (seen s.here ≡ seen w)
    standing-alone row = history make (take_back base) seen Leads start laws row

    -- where one stands, a take-back undoes the last
    pub undoes_last : (row : List (Entry C)) (c : C × A) (cs : List (C × A)) → let s = walk make (take_back base) start row in s.standing ≡ c ∷ cs
        → (w u : World) × (take_back base s.here ≡ made tt w) × Alone make start cs u × (seen w ≡ seen u)
    undoes_last row c cs e =
        let r = one_stands make (take_back base) seen Leads start laws whole row c cs e in
        (r.1, r.2, r.3, r.4, r.5)

    -- and it is refused as having nothing to take back exactly if none stands
    pub refused_12 : (row : List (Entry C)) → let s = walk make (take_back base) start row in (take_back base s.here ≡ unmade 12 s.here) ↔ (s.standing ≡ [])
    refused_12 row = none_iff make (take_back base) seen Leads start laws back_none whole row
