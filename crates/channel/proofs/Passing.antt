-- The passes of one channel, one after another: what is left to do from where a loop stands is the whole from where it began, and a pass takes
-- the first one off what is left, or ends the whole. Assumes nothing.
use Rattle.std.specs.Prelude.{Option, Some, None, Ok, Err}
use mathlib.Core.Bool.{Bool, true, false, cond, ◌&&◌, ◌||◌}
use mathlib.Core.List.{List}
use mathlib.Core.Path.{◌≡◌, sym, ◌∙◌}
use Prim.Native.Nat.{ℕ, suc, ◌+◌, ◌-◌, ◌*◌, ◌^◌, ◌≤◌, ◌<◌}
use native.Mathlib.Nat.{mod-eq_of_lt}
use native.Mathlib.Omega.{arith}
use borrow.Author.Tests.{eq-eqb, ne_eqb, lt-ltb, le-ltb}
use lib.Dec.{eqb, ltb}
use lib.ListN.{length, get_or, set}
use Rattle.rules.specs.Act.{Act, PENDING, nothing, done, ask, change, ◌>>=◌}
use Rattle.rules.specs.Calls.{refusal_number}
use Rattle.rules.specs.Carry.{World, Out, ok, no, with_device, go, Lent}
use Rattle.rules.specs.Fields.{bits_of}
use Rattle.rules.specs.Bytes.{part}
use Rattle.rules.specs.Minor.{pass, tcd_of, DONE}
use Rattle.rules.specs.Run.{start_loop, line_loop, request_loop}
use Rattle.rules.specs.Words.{has}
use Rattle.rules.specs.With.{with_pending}
use Rattle.rules.specs.State.{Device}
use Rattle.rules.specs.declared.Refusal.TheVariants as Refusal
use Rattle.rules.proofs.Steps.{bind_ok, bind_no, putting}
use Rattle.act.specs.Worlds.{world, came_to}
use Rattle.act.specs.declared.Flow.{Flow}
use Rattle.act.specs.Worlds.{Step}
use Rattle.act.specs.declared.Stopped.{Stopped}
use Rattle.minor.specs.Passes.{passed, Passes}
use Rattle.channel.specs.Goes.{lined}
use Rattle.channel.specs.Offers.{offered_in}
use Rattle.channel.proofs.Reading.{tcd_in, descriptor_read, offered_at, offered_read}

-- ---- a pass, by how it ends

module _ (base : ℕ) (lent : Lent) (ch : ℕ) (d : Device) (c : Flow) (w j t m w' j' t' m' : List ℕ) (r : Option Step)
    (did : passed r c d w' j' t' m' ≡ go base lent (pass ch) (world d c w j t m))
  where
    pass_idle : r ≡ None → go base lent (pass ch) (world d c w j t m) ≡ ok false (world d c w' j' t' m')
    unfolding passed
    pass_idle e = sym (rw e at did)

    pass_on : (s : Step) (f : Flow) → r ≡ Some s → s ≡ Ok f → go base lent (pass ch) (world d c w j t m) ≡ ok true (world d f w' j' t' m')
    unfolding passed
    pass_on s f ran e = sym (rw (ran, e) at did)

    pass-off : (s : Step) (stopped : Stopped Flow) → r ≡ Some s → s ≡ Err stopped
        → go base lent (pass ch) (world d c w j t m) ≡ no (refusal_number stopped.why) (world d stopped.at w' j' t' m')
    unfolding passed
    pass-off s stopped ran e = sym (rw (ran, e) at did)

-- ---- START: one pass of the tree

module _ (base : ℕ) (lent : Lent) (u v : World) (ch before n : ℕ) where
  start_on : (b : Bool) → go base lent (pass ch) u ≡ ok b v
      → go base lent (start_loop (suc n) ch before) u ≡ go base lent (cond (b && eqb (get_or v.now.dev.majors ch 0) before) (start_loop n ch before) nothing) v
  unfolding start_loop go ask ◌>>=◌
  start_on b e = bind_ok base lent (pass ch) _ u e

  start_refused : (k : ℕ) → go base lent (pass ch) u ≡ no k v → go base lent (start_loop (suc n) ch before) u ≡ no k v
  unfolding start_loop
  start_refused k e = bind_no base lent (pass ch) _ u e

-- a turn of the loop, which stands at f, w, j, t, m with `left` passes to go; `whole` is how the whole ends, for each device
module _ (base : ℕ) (lent : Lent) (ch before : ℕ) (whole : Device → Out (Unit {0})) (f : Flow) (w j t m : List ℕ) (left : ℕ)
    (rest : (d : Device) → go base lent (start_loop left ch before) (world d f w j t m) ≡ whole d)
  where
    pub start_out : left ≤ 0 → (d : Device) → came_to (Ok f) d w j t m ≡ whole d
    unfolding came_to start_loop go
    start_out e d = let z : left ≡ 0 = omega arith in rw z at (rest d)

    module _ (after : ℕ) (more : left ≡ suc after) (k : Lent) (same : k ≡ lent) (r : Option Step) (w' j' t' m' : List ℕ) (did : Passes (pass ch) base k f r w w' j j' t t' m m') where
      from : (d : Device) → go base lent (start_loop (suc after) ch before) (world d f w j t m) ≡ whole d
      from d = rw more at (rest d)

      ran_so : (d : Device) → passed r f d w' j' t' m' ≡ go base lent (pass ch) (world d f w j t m)
      ran_so d = rw same at (did d)

      pub start_idle : r ≡ None → (d : Device) → came_to (Ok f) d w' j' t' m' ≡ whole d
      unfolding came_to go
      start_idle e d =
          sym (start_on base lent (world d f w j t m) (world d f w' j' t' m') ch before after false (pass_idle base lent ch d f w j t m w' j' t' m' r (ran_so d) e)) ∙ from d

      module _ (s : Step) (ran : r ≡ Some s) where
        pub start_off : {stopped : Stopped Flow} → s ≡ Err stopped → (d : Device) → came_to (Err stopped) d w' j' t' m' ≡ whole d
        unfolding came_to
        start_off {stopped} e d =
            sym (start_refused base lent (world d f w j t m) (world d stopped.at w' j' t' m') ch before after (refusal_number stopped.why) (pass-off base lent ch d f w j t m w' j' t' m' r (ran_so d) s stopped ran e)) ∙ from d

        module _ (g : Flow) (going : s ≡ Ok g) where
          went : (d : Device) → go base lent (cond (eqb (get_or m' ch 0) before) (start_loop after ch before) nothing) (world d g w' j' t' m') ≡ whole d
          went d = sym (start_on base lent (world d f w j t m) (world d g w' j' t' m') ch before after true (pass_on base lent ch d f w j t m w' j' t' m' r (ran_so d) s g ran going)) ∙ from d

          pub start_stop : (get_or m' ch 0 ≡ before → ⊥) → (d : Device) → came_to (Ok g) d w' j' t' m' ≡ whole d
          unfolding came_to go
          start_stop h d = rw (ne_eqb _ _ h) at (went d)

          pub start_again : get_or m' ch 0 ≡ before → (d : Device) → go base lent (start_loop after ch before) (world d g w' j' t' m') ≡ whole d
          start_again h d = rw (eq-eqb _ _ h) at (went d)

-- ---- the line of channel 35

module _ (base : ℕ) (lent : Lent) (u v : World) (sum n : ℕ) (long : length u.now.dev.table ≡ 2048) where
  line_on : (b : Bool) → go base lent (pass 35) u ≡ ok b v → length v.now.dev.table ≡ 2048
      → go base lent (line_loop (suc n) sum) u
      ≡ go base lent (cond b (cond (has (tcd_in 35 v).csr DONE || ltb (2 ^ 20) (sum + (tcd_in 35 u).nbytes)) (done (sum + (tcd_in 35 u).nbytes)) (line_loop n (sum + (tcd_in 35 u).nbytes))) (done sum)) v
  unfolding line_loop
  line_on b e l = descriptor_read base lent 35 _ u (omega arith) ∙ bind_ok base lent (pass 35) _ u e ∙ descriptor_read base lent 35 _ v (omega arith)

  line_refused : (k : ℕ) → go base lent (pass 35) u ≡ no k v → go base lent (line_loop (suc n) sum) u ≡ no k v
  unfolding line_loop
  line_refused k e = descriptor_read base lent 35 _ u (omega arith) ∙ bind_no base lent (pass 35) _ u e

module _ (base : ℕ) (lent : Lent) (whole : Device → Out ℕ) (f : Flow) (w j t m : List ℕ) (sum left : ℕ)
    (rest : (d : Device) → go base lent (line_loop left sum) (world d f w j t m) ≡ whole d)
  where
    pub line_out : left ≤ 0 → (d : Device) → lined (Err (record { why = Refusal.Room; at = f })) d w j t m ≡ whole d
    unfolding lined line_loop go
    line_out e d = let z : left ≡ 0 = omega arith in rw z at (rest d)

    module _ (after : ℕ) (more : left ≡ suc after) (k : Lent) (same : k ≡ lent) (r : Option Step) (w' j' t' m' : List ℕ) (did : Passes (pass 35) base k f r w w' j j' t t' m m')
        (bytes : ℕ) (first : bytes ≡ (tcd_of (part t (32 * 35) 32)).nbytes) (long : length t ≡ 2048) (long' : length t' ≡ 2048)
      where
        from_line : (d : Device) → go base lent (line_loop (suc after) sum) (world d f w j t m) ≡ whole d
        from_line d = rw more at (rest d)

        ran_line : (d : Device) → passed r f d w' j' t' m' ≡ go base lent (pass 35) (world d f w j t m)
        ran_line d = rw same at (did d)

        pub line_idle : r ≡ None → (d : Device) → lined (Ok (record { sum = sum; flow = f })) d w' j' t' m' ≡ whole d
        unfolding lined go
        line_idle e d =
            sym (line_on base lent (world d f w j t m) (world d f w' j' t' m') sum after long false (pass_idle base lent 35 d f w j t m w' j' t' m' r (ran_line d) e) long') ∙ from_line d

        module _ (s : Step) (ran : r ≡ Some s) where
          pub line-off : {stopped : Stopped Flow} → s ≡ Err stopped → (d : Device) → lined (Err stopped) d w' j' t' m' ≡ whole d
          unfolding lined
          line-off {stopped} e d =
              sym (line_refused base lent (world d f w j t m) (world d stopped.at w' j' t' m') sum after long (refusal_number stopped.why) (pass-off base lent 35 d f w j t m w' j' t' m' r (ran_line d) s stopped ran e)) ∙ from_line d

          module _ (g : Flow) (going : s ≡ Ok g) (csr : ℕ) (last : csr ≡ (tcd_of (part t' (32 * 35) 32)).csr) where
            summed : (d : Device) → go base lent (cond (has csr DONE || ltb (2 ^ 20) (sum + bytes)) (done (sum + bytes)) (line_loop after (sum + bytes))) (world d g w' j' t' m') ≡ whole d
            summed d =
                rw (first, last)
                (sym (line_on base lent (world d f w j t m) (world d g w' j' t' m') sum after long true (pass_on base lent 35 d f w j t m w' j' t' m' r (ran_line d) s g ran going) long') ∙ from_line d)

            pub line-done : has csr DONE ≡ true → (d : Device) → lined (Ok (record { sum = sum + bytes; flow = g })) d w' j' t' m' ≡ whole d
            unfolding lined go
            line-done h d = rw h at (summed d)

            module _ (h : has csr DONE ≡ false) where
              pub line-over : 2 ^ 20 < sum + bytes → (d : Device) → lined (Ok (record { sum = sum + bytes; flow = g })) d w' j' t' m' ≡ whole d
              unfolding lined go
              line-over l d = rw (h, lt-ltb _ _ l) at (summed d)

              pub line_again : sum + bytes ≤ 2 ^ 20 → (d : Device) → go base lent (line_loop after (sum + bytes)) (world d g w' j' t' m') ≡ whole d
              line_again l d = rw (h, le-ltb _ _ l) at (summed d)

-- ---- requests

module _ (base : ℕ) (lent : Lent) (u : World) (ch n : ℕ) where
  -- one pending count is spent, if there is one
  abbrev spent : World
  spent = putting (PENDING ch) (get_or u.now.dev.pending ch 0 - 1) u

  pay : (k : Act (Unit {0})) → get_or u.now.dev.pending ch 0 < 2 ^ 32 → go base lent (change (PENDING ch) (λ count. count - 1) >>= (λ _. k)) u ≡ go base lent k spent
  unfolding go change ◌>>=◌ bits_of
  pay k h = let f : get_or u.now.dev.pending ch 0 - 1 < 2 ^ 32 = omega arith in rw (mod-eq_of_lt f)

  request_none : offered_at ch u ≡ false → go base lent (request_loop (suc n) ch) u ≡ ok tt u
  unfolding request_loop go
  request_none h = offered_read base lent ch _ u ∙ rw h

  module _ (h : offered_at ch u ≡ true) (small : get_or u.now.dev.pending ch 0 < 2 ^ 32) (v : World) where
    request_on : (b : Bool) → go base lent (pass ch) spent ≡ ok b v → go base lent (request_loop (suc n) ch) u ≡ go base lent (cond b (request_loop n ch) nothing) v
    unfolding request_loop
    request_on b e = offered_read base lent ch _ u ∙ rw h (pay _ small ∙ bind_ok base lent (pass ch) _ spent e)

    request_refused : (k : ℕ) → go base lent (pass ch) spent ≡ no k v → go base lent (request_loop (suc n) ch) u ≡ no k v
    unfolding request_loop
    request_refused k e = offered_read base lent ch _ u ∙ rw h (pay _ small ∙ bind_no base lent (pass ch) _ spent e)

module _ (base : ℕ) (lent : Lent) (ch : ℕ) (whole : Device → Out (Unit {0})) (f : Flow) (w j t m p : List ℕ) (left : ℕ)
    (rest : (d : Device) → go base lent (request_loop left ch) (world (with_pending d p) f w j t m) ≡ whole d)
  where
    pub request_out : left ≤ 0 → (d : Device) → came_to (Ok f) (with_pending d p) w j t m ≡ whole d
    unfolding came_to request_loop go
    request_out e d = let z : left ≡ 0 = omega arith in rw z at (rest d)

    module _ (after : ℕ) (more : left ≡ suc after) {o : Bool} (asked : o ≡ offered_in f.scalars.erq f.scalars.standing p ch) where
      from_asked : (d : Device) → go base lent (request_loop (suc after) ch) (world (with_pending d p) f w j t m) ≡ whole d
      from_asked d = rw more at (rest d)

      is_offered : (d : Device) → offered_at ch (world (with_pending d p) f w j t m) ≡ o
      is_offered d = sym asked

      pub request_stop : o ≡ false → (d : Device) → came_to (Ok f) (with_pending d p) w j t m ≡ whole d
      unfolding came_to
      request_stop e d = sym (request_none base lent (world (with_pending d p) f w j t m) ch after (is_offered d ∙ e)) ∙ from_asked d

      module _ (e : o ≡ true) (p' : List ℕ) (paid : p' ≡ set p ch (get_or p ch 0 - 1)) (small : get_or p ch 0 < 2 ^ 32)
          (k : Lent) (same : k ≡ lent) (r : Option Step) (w' j' t' m' : List ℕ) (did : Passes (pass ch) base k f r w w' j j' t t' m m')
        where
          ran_asked : (d : Device) → passed r f (with_pending d p') w' j' t' m' ≡ go base lent (pass ch) (world (with_pending d p') f w j t m)
          ran_asked d = rw same at (did (with_pending d p'))

          after_asked : (d : Device) → (v : World) (b : Bool) → go base lent (pass ch) (world (with_pending d p') f w j t m) ≡ ok b v
              → go base lent (cond b (request_loop after ch) nothing) v ≡ whole d
          unfolding with_device
          after_asked d v b q = sym (request_on base lent (world (with_pending d p) f w j t m) ch after (is_offered d ∙ e) small v b (rw paid at q)) ∙ from_asked d

          refused_asked : (d : Device) → (v : World) (n : ℕ) → go base lent (pass ch) (world (with_pending d p') f w j t m) ≡ no n v → no n v ≡ whole d
          unfolding with_device
          refused_asked d v n q = sym (request_refused base lent (world (with_pending d p) f w j t m) ch after (is_offered d ∙ e) small v n (rw paid at q)) ∙ from_asked d

          pub request_idle : r ≡ None → (d : Device) → came_to (Ok f) (with_pending d p') w' j' t' m' ≡ whole d
          unfolding came_to go
          request_idle i d =
              after_asked d (world (with_pending d p') f w' j' t' m') false (pass_idle base lent ch (with_pending d p') f w j t m w' j' t' m' r (ran_asked d) i)

          module _ (s : Step) (ran : r ≡ Some s) where
            pub request_off : {stopped : Stopped Flow} → s ≡ Err stopped → (d : Device) → came_to (Err stopped) (with_pending d p') w' j' t' m' ≡ whole d
            unfolding came_to
            request_off {stopped} i d =
                refused_asked d (world (with_pending d p') stopped.at w' j' t' m') (refusal_number stopped.why) (pass-off base lent ch (with_pending d p') f w j t m w' j' t' m' r (ran_asked d) s stopped ran i)

            pub request_again : (g : Flow) → s ≡ Ok g → (d : Device)
                → go base lent (request_loop after ch) (world (with_pending d p') g w' j' t' m') ≡ whole d
            request_again g i d =
                after_asked d (world (with_pending d p') g w' j' t' m') true (pass_on base lent ch (with_pending d p') f w j t m w' j' t' m' r (ran_asked d) s g ran i)
