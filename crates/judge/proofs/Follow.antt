-- The walk judges as the rules do: at each access what is due is what the rest of the rules' tree asks for, and where the walk stands after it is the
-- rest of that tree. Assumes nothing.
use Rattle.std.proofs.Common.{◌≡◌, ℕ, zero, suc, ◌+◌, ◌-◌, ◌*◌, ◌/◌, ◌%◌, ◌^◌, ◌<◌, Bool, true, false, cond, not, ◌&&◌, eqb, List, [], ◌∷◌, ◌++◌, length, sym, refl, ap, ◌∙◌, mod-eq_of_lt, suc-mul, zero-mul, add-one, arith, ne_eqb, eqb-true, None, Some}
use Rattle.rules.specs.State.{Device}
use Rattle.rules.specs.declared.Tcd.{Tcd}
use Rattle.rules.specs.Act.{Act, Fetch, Store, window, done, nothing, stage, ◌>>=◌, ◌>>◌, acts}
use Rattle.rules.specs.Bytes.{Bytes, bytes, number, part}
use Rattle.rules.specs.Minor.{ssize, dsize, smod, dmod, minor_bytes, transfer, move_unequal, move_unit, move_units, move_sizes, read_unit, read_units, read_sizes, write_units, write_sizes}
use Rattle.rules.specs.Words.{wrap32}
use Rattle.rules.proofs.BoolLaws.{and_right}
use Rattle.rules.proofs.BytesLaws.{value_of_bytes}
use Rattle.captures.specs.declared.Due.{Due}
use Rattle.captures.specs.Capture.{Judged, departs, Access, reads, writes, rest, read_as, wrote_as, ended, judge, value_of, record_at}
use Rattle.captures.proofs.Tails.{gathered}
use Rattle.judge.specs.declared.Plan.{Plan}
use Rattle.judge.specs.declared.Place.{Place}
use Rattle.judge.specs.declared.Walk.{Walk}
use Rattle.judge.specs.declared.Seen.{Seen}
use Rattle.judge.specs.Walks.{Fitting, side_of, reads_of, plan_of, place_at, next_unit, advanced, fetch_on, ending_of, moves_from, writes_from, reads_from, move_on, read_on, write_on, onward_of, unit_at, source_number, place_of, due_of, meets_due, ended_at}
use Rattle.judge.proofs.Known.{Known, nothing_known, number_known, longer, more_known}

-- ---- one access

unfoldable pub access_in : Seen → Access
access_in x = cond x.read (reads x.address x.width x.value) (writes x.address x.width x.value)

module _ {A : Type 0} (a n : ℕ) (d : Device) (x : Seen) (l : List Access) (i : ℕ) where
  at_fetch : (k : List ℕ → Act A) → judge (Fetch window a n k) d (access_in x ∷ l) i
      ≡ cond (meets_due (Some (Due.Read a n)) x) (judge (k (bytes n x.value)) d l (suc i)) (departs i (Some (Due.Read a n)))
  unfolding judge access_in read_as rest meets_due
  at_fetch k = by x.read (eqb a x.address) (eqb n x.width) refl refl
    where
      by : (r s t : Bool) → eqb a x.address ≡ s → eqb n x.width ≡ t
          → judge (Fetch window a n k) d (cond r (reads x.address x.width x.value) (writes x.address x.width x.value) ∷ l) i
          ≡ cond (r && s && t) (judge (k (bytes n x.value)) d l (suc i)) (departs i (Some (Due.Read a n)))
      by false s t e f = refl
      by true s t e f = both s t (ap (λ (b : Bool). b && eqb n x.width) e ∙ ap (λ (b : Bool). s && b) f)
        where
          told : Bool → Judged
          told b = elim (cond b (Some x.value) None) [ None ↦ departs i (Some (Due.Read a n)) | Some v ↦ judge (k (bytes n v)) d l (suc i) ]

          both : (s t : Bool) → (eqb a x.address && eqb n x.width) ≡ (s && t)
              → told (eqb a x.address && eqb n x.width) ≡ cond (true && s && t) (judge (k (bytes n x.value)) d l (suc i)) (departs i (Some (Due.Read a n)))
          both true true e = ap told e
          both true false e = ap told e
          both false t e = ap told e

  at_store : (v : ℕ) (k : Act A) → judge (Store window a n v k) d (access_in x ∷ l) i
      ≡ cond (meets_due (Some (Due.Write a n (v % 256 ^ n))) x) (judge k d l (suc i)) (departs i (Some (Due.Write a n (v % 256 ^ n))))
  unfolding judge access_in wrote_as rest meets_due
  at_store v k = by x.read (eqb a x.address && eqb n x.width && eqb (v % 256 ^ n) x.value) refl
    where
      told : Bool → Judged
      told b = elim b [ true ↦ judge k d l (suc i) | false ↦ departs i (Some (Due.Write a n (v % 256 ^ n))) ]

      by : (r s : Bool) → (eqb a x.address && eqb n x.width && eqb (v % 256 ^ n) x.value) ≡ s
          → judge (Store window a n v k) d (cond r (reads x.address x.width x.value) (writes x.address x.width x.value) ∷ l) i
          ≡ cond (not r && eqb a x.address && eqb n x.width && eqb (v % 256 ^ n) x.value) (judge k d l (suc i)) (departs i (Some (Due.Write a n (v % 256 ^ n))))
      by true s e = refl
      by false true e = ap told e ∙ ap (λ (b : Bool). cond b (judge k d l (suc i)) (departs i (Some (Due.Write a n (v % 256 ^ n))))) (sym e)
      by false false e = ap told e ∙ ap (λ (b : Bool). cond b (judge k d l (suc i)) (departs i (Some (Due.Write a n (v % 256 ^ n))))) (sym e)

some_left : (n : ℕ) → eqb (suc n) 0 ≡ false
some_left n = ne_eqb (suc n) 0 (omega arith)

-- ---- the rest of the tree

-- after the transfer, k follows: the probe sees the fetches of it, if they are to be made
module _ {A : Type 0} (p : Plan) (f : Fitting p) (d : Device) (k : ℕ × ℕ → Act A)
    (ends : (at : ℕ × ℕ) (l : List Access) (i : ℕ) → judge (k at) d l i ≡ judge (cond p.gathers (gathered 32 p.next) nothing) d l i)
  where
    moving : ℕ → ℕ → ℕ → Act (ℕ × ℕ)
    moving n a b = move_sizes n p.source.offset p.source.modulo p.dest.offset p.dest.modulo p.source.size a b

    reading : ℕ → ℕ → List ℕ → Act (ℕ × List ℕ)
    reading n a got = read_sizes n p.source.offset p.source.modulo p.source.size a got

    writing : ℕ → ℕ → List ℕ → ℕ → Act ℕ
    writing n b got o = write_sizes n p.dest.offset p.dest.modulo p.dest.size b got o

    -- all that was read is written
    written_out : ℕ → (ℕ × List ℕ) → Act (ℕ × ℕ)
    written_out b x = writing p.writes b x.1 0 >>= (λ e. done (x.0, e))

    -- what was read so far is `got`; where the writes have begun, reading ended at `a`
    pub left_of_lem : Walk → List ℕ → ℕ → List Access → ℕ → Judged
    left_of_lem (Walk.Move at) got a l i =
        judge ((move_units (suc at.left) at.unit p.source.unit at.from at.to >>= (λ _. moving at.sizes (advanced p.source at.from) (advanced p.dest at.to))) >>= k) d l i
    left_of_lem (Walk.Lay at v) got a l i =
        judge (Store window (unit_at p.source at.to at.unit) p.source.unit (number (bytes p.source.unit v))
        ((move_units at.left (suc at.unit) p.source.unit at.from at.to >>= (λ _. moving at.sizes (advanced p.source at.from) (advanced p.dest at.to))) >>= k)) d l i
    left_of_lem (Walk.Read at) got a l i =
        judge (((read_units (suc at.left) at.unit p.source.unit at.from got >>= (λ more. reading at.sizes (advanced p.source at.from) more)) >>= written_out at.to) >>= k) d l i
    left_of_lem (Walk.Write at written read) got a l i =
        judge (((write_units (suc at.left) at.unit p.dest.unit at.to got (written * p.dest.size)
        >>= (λ _. writing at.sizes (advanced p.dest at.to) got (written * p.dest.size + p.dest.size))) >>= (λ e. done (a, e))) >>= k) d l i
    left_of_lem (Walk.Fetch left a') got a l i = judge (gathered (suc left) a') d l i
    left_of_lem Walk.Over got a l i = ended l i

    pub nothing_left : (got : List ℕ) (a : ℕ) (l : List Access) (i : ℕ) → left_of_lem Walk.Over got a l i ≡ ended l i
    unfolding left_of_lem
    nothing_left got a l i = refl

    -- ---- where each phase goes on

    to_end : (at : ℕ × ℕ) (got : List ℕ) (a : ℕ) (l : List Access) (i : ℕ) → judge (k at) d l i ≡ left_of_lem (ending_of p) got a l i
    unfolding ending_of left_of_lem judge
    to_end at got a l i = ends at l i ∙ by p.gathers
      where
        by : (g : Bool) → judge (cond g (gathered 32 p.next) nothing) d l i ≡ left_of_lem (cond g (Walk.Fetch 31 p.next) Walk.Over) got a l i
        by true = refl
        by false = refl

    to_moves : (n a b : ℕ) (got : List ℕ) (c : ℕ) (l : List Access) (i : ℕ) → judge (moving n a b >>= k) d l i ≡ left_of_lem (moves_from p n a b) got c l i
    unfolding moving move_sizes moves_from place_at advanced acts left_of_lem
    to_moves zero a b got c l i = to_end (a, b) got c l i
    to_moves (suc n) a b got c l i =
        let one : suc n - 1 ≡ n = omega arith in
        rw (some_left n, one, f.of_source.units, f.of_source.is_unit)

    to_writes : (n written read a b : ℕ) (got : List ℕ) (c : ℕ) (l : List Access) (i : ℕ)
        → judge ((writing n b got (written * p.dest.size) >>= (λ e. done (c, e))) >>= k) d l i ≡ left_of_lem (writes_from p n written read a b) got c l i
    unfolding writing write_sizes writes_from place_at advanced acts left_of_lem
    to_writes zero written read a b got c l i = to_end (c, b) got c l i
    to_writes (suc n) written read a b got c l i =
        let one : suc n - 1 ≡ n = omega arith in
        rw (some_left n, one, f.of_dest.units, f.of_dest.is_unit)

    to_reads : (n read a b : ℕ) (got : List ℕ) (l : List Access) (i : ℕ)
        → judge ((reading n a got >>= written_out b) >>= k) d l i ≡ left_of_lem (reads_from p n read a b) got a l i
    unfolding reading read_sizes written_out reads_from place_at advanced acts left_of_lem
    to_reads zero read a b got l i =
        ap (λ (o : ℕ). judge ((writing p.writes b got o >>= (λ e. done (a, e))) >>= k) d l i) (sym (zero-mul p.dest.size))
        ∙ to_writes p.writes 0 read a b got a l i
    to_reads (suc n) read a b got l i =
        let one : suc n - 1 ≡ n = omega arith in
        rw (some_left n, one, f.of_source.units, f.of_source.is_unit)

    -- ---- after a unit

    moved_on : (at : Place) (got : List ℕ) (c : ℕ) (l : List Access) (i : ℕ)
        → judge ((move_units at.left (suc at.unit) p.source.unit at.from at.to >>= (λ _. moving at.sizes (advanced p.source at.from) (advanced p.dest at.to))) >>= k) d l i
        ≡ left_of_lem (move_on p at) got c l i
    unfolding move_on next_unit move_units acts left_of_lem
    moved_on at got c l i = by at.left
      where
        by : (n : ℕ)
            → judge ((move_units n (suc at.unit) p.source.unit at.from at.to >>= (λ _. moving at.sizes (advanced p.source at.from) (advanced p.dest at.to))) >>= k) d l i
            ≡ left_of_lem (cond (eqb n 0) (moves_from p at.sizes (advanced p.source at.from) (advanced p.dest at.to)) (Walk.Move (record { sizes = at.sizes; left = n - 1; unit = at.unit + 1; from = at.from; to = at.to }))) got c l i
        by zero = to_moves at.sizes (advanced p.source at.from) (advanced p.dest at.to) got c l i
        by (suc n) =
            let one : suc n - 1 ≡ n = omega arith in
            rw (some_left n, one, add-one at.unit)

    read_on_lem : (at : Place) (got : List ℕ) (j : ℕ) (l : List Access) (i : ℕ)
        → judge (((read_units at.left (suc at.unit) p.source.unit at.from got >>= (λ more. reading at.sizes (advanced p.source at.from) more)) >>= written_out at.to) >>= k) d l i
        ≡ left_of_lem (read_on p j at) got (advanced p.source at.from) l i
    unfolding read_on next_unit read_units read_unit acts left_of_lem
    read_on_lem at got j l i = by at.left
      where
        by : (n : ℕ)
            → judge (((read_units n (suc at.unit) p.source.unit at.from got >>= (λ more. reading at.sizes (advanced p.source at.from) more)) >>= written_out at.to) >>= k) d l i
            ≡ left_of_lem (cond (eqb n 0) (reads_from p at.sizes (j + 1) (advanced p.source at.from) at.to) (Walk.Read (record { sizes = at.sizes; left = n - 1; unit = at.unit + 1; from = at.from; to = at.to }))) got (advanced p.source at.from) l i
        by zero = to_reads at.sizes (j + 1) (advanced p.source at.from) at.to got l i
        by (suc n) =
            let one : suc n - 1 ≡ n = omega arith in
            rw (some_left n, one, add-one at.unit)

    wrote_on : (at : Place) (written read : ℕ) (got : List ℕ) (c : ℕ) (l : List Access) (i : ℕ)
        → judge (((write_units at.left (suc at.unit) p.dest.unit at.to got (written * p.dest.size)
        >>= (λ _. writing at.sizes (advanced p.dest at.to) got (written * p.dest.size + p.dest.size))) >>= (λ e. done (c, e))) >>= k) d l i
        ≡ left_of_lem (write_on p at written read) got c l i
    unfolding write_on next_unit write_units acts left_of_lem
    wrote_on at written read got c l i = by at.left
      where
        next : written * p.dest.size + p.dest.size ≡ (written + 1) * p.dest.size
        next = sym (suc-mul written p.dest.size) ∙ ap (λ (n : ℕ). n * p.dest.size) (sym (add-one written))

        by : (n : ℕ)
            → judge (((write_units n (suc at.unit) p.dest.unit at.to got (written * p.dest.size)
            >>= (λ _. writing at.sizes (advanced p.dest at.to) got (written * p.dest.size + p.dest.size))) >>= (λ e. done (c, e))) >>= k) d l i
            ≡ left_of_lem (cond (eqb n 0) (writes_from p at.sizes (written + 1) read at.from (advanced p.dest at.to)) (Walk.Write (record { sizes = at.sizes; left = n - 1; unit = at.unit + 1; from = at.from; to = at.to }) written read)) got c l i
        by zero =
            ap (λ (o : ℕ). judge ((writing at.sizes (advanced p.dest at.to) got o >>= (λ e. done (c, e))) >>= k) d l i) next
            ∙ to_writes at.sizes (written + 1) read at.from (advanced p.dest at.to) got c l i
        by (suc n) =
            let one : suc n - 1 ≡ n = omega arith in
            rw (some_left n, one, add-one at.unit)

    fetched-on : (left a : ℕ) (got : List ℕ) (c : ℕ) (l : List Access) (i : ℕ) → judge (gathered left (a + 1)) d l i ≡ left_of_lem (fetch_on left a) got c l i
    unfolding fetch_on gathered judge left_of_lem
    fetched-on zero a got c l i = refl
    fetched-on (suc n) a got c l i =
        let one : suc n - 1 ≡ n = omega arith in
        rw (some_left n, one)

    -- ---- one access of the walk

    module _ (file : List ℕ) (b : Bytes file) where
      -- what is known at each place of the walk, where i accesses were made
      abbrev pub Ready : ℕ → Walk → List ℕ → Type 0
      Ready i (Walk.Move at) got = Unit {0}
      Ready i (Walk.Lay at v) got = v < 256 ^ p.source.unit
      Ready i (Walk.Read at) got = Known file p.source.unit i got × (length got ≡ i * p.source.unit)
      Ready i (Walk.Write at written read) got = Known file p.source.unit read got
      Ready i (Walk.Fetch left a) got = Unit {0}
      Ready i Walk.Over got = Unit {0}

      laid : (v : ℕ) → v < 256 ^ p.source.unit → number (bytes p.source.unit v) % 256 ^ p.source.unit ≡ v
      laid v h = ap (λ (n : ℕ). n % 256 ^ p.source.unit) (value_of_bytes p.source.unit v ∙ mod-eq_of_lt h) ∙ mod-eq_of_lt h

      -- a list that ends here
      pub at_end : (w : Walk) (got : List ℕ) (c i : ℕ) → Ready i w got → left_of_lem w got c [] i ≡ ended_at i (due_of file 0 p w)
      unfolding left_of_lem judge ended read_as wrote_as ended_at due_of place_of unit_at move_units move_unit read_units read_unit write_units gathered acts
      at_end (Walk.Move at) got c i r = refl
      at_end (Walk.Lay at v) got c i r = ap (λ (n : ℕ). departs i (Some (Due.Write (wrap32 (at.to + at.unit * p.source.unit)) p.source.unit n))) (laid v r)
      at_end (Walk.Read at) got c i r = refl
      at_end (Walk.Write at written read) got c i r =
          ap (λ (n : ℕ). departs i (Some (Due.Write (wrap32 (at.to + at.unit * p.dest.unit)) p.dest.unit n))) (number_known file p.source.unit b read got r (written * p.dest.size + at.unit * p.dest.unit) p.dest.unit)
      at_end (Walk.Fetch left a) got c i r = refl
      at_end Walk.Over got c i r = refl

      -- what was read, and where reading ended, after an access of value v
      pub got_on : Walk → List ℕ → ℕ → List ℕ
      got_on (Walk.Move at) got v = got
      got_on (Walk.Lay at x) got v = got
      got_on (Walk.Read at) got v = got ++ bytes p.source.unit v
      got_on (Walk.Write at written read) got v = got
      got_on (Walk.Fetch left a) got v = got
      got_on Walk.Over got v = got

      pub to_on : Walk → ℕ → ℕ
      to_on (Walk.Move at) c = c
      to_on (Walk.Lay at x) c = c
      to_on (Walk.Read at) c = advanced p.source at.from
      to_on (Walk.Write at written read) c = c
      to_on (Walk.Fetch left a) c = c
      to_on Walk.Over c = c

      -- the next access is what is due, and then the walk goes on; or it departs
      pub stepping : (w : Walk) (got : List ℕ) (c : ℕ) (x : Seen) (l : List Access) (i : ℕ) → Ready i w got
          → left_of_lem w got c (access_in x ∷ l) i
          ≡ cond (meets_due (due_of file 0 p w) x) (left_of_lem (onward_of p i w x.value) (got_on w got x.value) (to_on w c) l (suc i)) (departs i (due_of file 0 p w))
      unfolding left_of_lem got_on to_on due_of place_of onward_of unit_at meets_due ended move_units move_unit read_units read_unit write_units gathered acts
      stepping (Walk.Move at) got c x l i r = at_fetch (wrap32 (at.from + at.unit * p.source.unit)) p.source.unit d x l i _
      stepping (Walk.Lay at v) got c x l i r =
          let a = wrap32 (at.to + at.unit * p.source.unit) in
          let u = p.source.unit in
          let onward = (move_units at.left (suc at.unit) u at.from at.to >>= (λ _. moving at.sizes (advanced p.source at.from) (advanced p.dest at.to))) >>= k in
          at_store a u d x l i (number (bytes u v)) onward
          ∙ ap (λ (n : ℕ). cond (meets_due (Some (Due.Write a u n)) x) (judge onward d l (suc i)) (departs i (Some (Due.Write a u n)))) (laid v r)
          ∙ ap (λ (j : Judged). cond (meets_due (Some (Due.Write a u v)) x) j (departs i (Some (Due.Write a u v)))) (moved_on at got c l (suc i))
      stepping (Walk.Read at) got c x l i r =
          let a = wrap32 (at.from + at.unit * p.source.unit) in
          let u = p.source.unit in
          at_fetch a u d x l i _
          ∙ ap (λ (j : Judged). cond (meets_due (Some (Due.Read a u)) x) j (departs i (Some (Due.Read a u)))) (read_on_lem at (got ++ bytes u x.value) i l (suc i))
      stepping (Walk.Write at written read) got c x l i r =
          let a = wrap32 (at.to + at.unit * p.dest.unit) in
          let u = p.dest.unit in
          let o = written * p.dest.size in
          let onward = ((write_units at.left (suc at.unit) u at.to got o >>= (λ _. writing at.sizes (advanced p.dest at.to) got (o + p.dest.size))) >>= (λ e. done (c, e))) >>= k in
          at_store a u d x l i (number (part got (o + at.unit * u) u)) onward
          ∙ ap (λ (n : ℕ). cond (meets_due (Some (Due.Write a u n)) x) (judge onward d l (suc i)) (departs i (Some (Due.Write a u n)))) (number_known file p.source.unit b read got r (o + at.unit * u) u)
          ∙ ap (λ (j : Judged). cond (meets_due (Some (Due.Write a u (source_number file 0 p.source.unit read (o + at.unit * u) u))) x) j (departs i (Some (Due.Write a u (source_number file 0 p.source.unit read (o + at.unit * u) u))))) (wrote_on at written read got c l (suc i))
      stepping (Walk.Fetch left a) got c x l i r =
          at_fetch (wrap32 a) 1 d x l i _
          ∙ ap (λ (j : Judged). cond (meets_due (Some (Due.Read (wrap32 a) 1)) x) j (departs i (Some (Due.Read (wrap32 a) 1)))) (fetched-on left a got c l (suc i))
      stepping Walk.Over got c x l i r = refl

      -- ---- and what is known after it

      ready_ending : (j : ℕ) (got : List ℕ) → Ready j (ending_of p) got
      unfolding ending_of
      ready_ending j got = by p.gathers
        where
          by : (g : Bool) → Ready j (cond g (Walk.Fetch 31 p.next) Walk.Over) got
          by true = tt
          by false = tt

      ready_moves : (n a c j : ℕ) (got : List ℕ) → Ready j (moves_from p n a c) got
      unfolding moves_from
      ready_moves n a c j got = by (eqb n 0)
        where
          by : (z : Bool) → Ready j (cond z (ending_of p) (Walk.Move (place_at p.source (n - 1) a c))) got
          by true = ready_ending j got
          by false = tt

      ready-writes : (n written read a c j : ℕ) (got : List ℕ) → Known file p.source.unit read got → Ready j (writes_from p n written read a c) got
      unfolding writes_from
      ready-writes n written read a c j got h = by (eqb n 0)
        where
          by : (z : Bool) → Ready j (cond z (ending_of p) (Walk.Write (place_at p.dest (n - 1) a c) written read)) got
          by true = ready_ending j got
          by false = h

      ready-reads : (n a c j : ℕ) (got : List ℕ) → Known file p.source.unit j got → length got ≡ j * p.source.unit → Ready j (reads_from p n j a c) got
      unfolding reads_from
      ready-reads n a c j got h e = by (eqb n 0)
        where
          by : (z : Bool) → Ready j (cond z (writes_from p p.writes 0 j a c) (Walk.Read (place_at p.source (n - 1) a c))) got
          by true = ready-writes p.writes 0 j a c j got h
          by false = (h, e)

      pub ready_on : (w : Walk) (got : List ℕ) (x : Seen) (i : ℕ) → Ready i w got → x.value ≡ value_of (record_at file i) → x.value < 256 ^ x.width
          → meets_due (due_of file 0 p w) x ≡ true → Ready (suc i) (onward_of p i w x.value) (got_on w got x.value)
      unfolding onward_of got_on due_of meets_due move_on read_on write_on fetch_on
      ready_on (Walk.Move at) got x i r v w m =
          let u = p.source.unit in
          let wide : u ≡ x.width = eqb-true u x.width (and_right (x.read && eqb (unit_at p.source at.from at.unit) x.address) (eqb u x.width) m) in
          rw wide w
      ready_on (Walk.Lay at y) got x i r v w m = by (eqb at.left 0)
        where
          by : (z : Bool) → Ready (suc i) (cond z (moves_from p at.sizes (advanced p.source at.from) (advanced p.dest at.to)) (Walk.Move (next_unit at))) got
          by true = ready_moves at.sizes (advanced p.source at.from) (advanced p.dest at.to) (suc i) got
          by false = tt
      ready_on (Walk.Read at) got x i r v w m = by (eqb at.left 0)
        where
          u : ℕ
          u = p.source.unit

          more : List ℕ
          more = got ++ bytes u x.value

          known : Known file u (suc i) more
          known = rw v (more_known file u f.of_source.which b i got r.0 r.1)

          long : length more ≡ suc i * u
          long = rw v (longer file u f.of_source.which b i got r.0 r.1)

          by : (z : Bool) → Ready (suc i) (cond z (reads_from p at.sizes (i + 1) (advanced p.source at.from) at.to) (Walk.Read (next_unit at))) more
          by true = rw (add-one i) (ready-reads at.sizes (advanced p.source at.from) at.to (suc i) more known long)
          by false = (known, long)
      ready_on (Walk.Write at written read) got x i r v w m = by (eqb at.left 0)
        where
          by : (z : Bool) → Ready (suc i) (cond z (writes_from p at.sizes (written + 1) read at.from (advanced p.dest at.to)) (Walk.Write (next_unit at) written read)) got
          by true = ready-writes at.sizes (written + 1) read at.from (advanced p.dest at.to) (suc i) got r
          by false = r
      ready_on (Walk.Fetch left a) got x i r v w m = by (eqb left 0)
        where
          by : (z : Bool) → Ready (suc i) (cond z Walk.Over (Walk.Fetch (left - 1) (a + 1))) got
          by true = tt
          by false = tt
      ready_on Walk.Over got x i r v w m = tt

-- ---- where the walk begins

modulo_so : (attr : ℕ) → attr / 2 ^ 8 / 2 ^ 3 % 2 ^ 5 ≡ attr / 2 ^ 11 % 2 ^ 5
modulo_so attr = omega arith

module _ {A : Type 0} (cr : ℕ) (t : Tcd) (f : Fitting (plan_of cr t)) (d : Device) (k : ℕ × ℕ → Act A)
    (ends : (at : ℕ × ℕ) (l : List Access) (i : ℕ) → judge (k at) d l i ≡ judge (cond (plan_of cr t).gathers (gathered 32 (plan_of cr t).next) nothing) d l i)
  where
    abbrev first_walk : Walk
    first_walk = cond (eqb (ssize t) (dsize t)) (moves_from (plan_of cr t) (reads_of cr t) t.saddr t.daddr) (reads_from (plan_of cr t) (reads_of cr t) 0 t.saddr t.daddr)

    pub starts : (l : List Access) (i : ℕ) → judge (transfer t (minor_bytes cr t) >>= k) d l i ≡ left_of_lem (plan_of cr t) f d k ends first_walk [] t.saddr l i
    unfolding transfer move_unequal reads_of plan_of side_of ssize dsize smod dmod moving reading writing written_out acts judge
    starts l i = rw (← modulo_so t.attr) (by (eqb (ssize t) (dsize t)))
      where
        by : (e : Bool)
            → judge (cond e (moving (plan_of cr t) f d k ends (reads_of cr t) t.saddr t.daddr) (stage (reads_of cr t * ssize t) >> (reading (plan_of cr t) f d k ends (reads_of cr t) t.saddr [] >>= written_out (plan_of cr t) f d k ends t.daddr)) >>= k) d l i
            ≡ left_of_lem (plan_of cr t) f d k ends (cond e (moves_from (plan_of cr t) (reads_of cr t) t.saddr t.daddr) (reads_from (plan_of cr t) (reads_of cr t) 0 t.saddr t.daddr)) [] t.saddr l i
        by true = to_moves (plan_of cr t) f d k ends (reads_of cr t) t.saddr t.daddr [] t.saddr l i
        by false = to_reads (plan_of cr t) f d k ends (reads_of cr t) 0 t.saddr t.daddr [] l i

    pub ready-first : (file : List ℕ) (b : Bytes file) → Ready (plan_of cr t) f d k ends file b 0 first_walk []
    ready-first file b = by (eqb (ssize t) (dsize t))
      where
        by : (e : Bool) → Ready (plan_of cr t) f d k ends file b 0 (cond e (moves_from (plan_of cr t) (reads_of cr t) t.saddr t.daddr) (reads_from (plan_of cr t) (reads_of cr t) 0 t.saddr t.daddr)) []
        by true = ready_moves (plan_of cr t) f d k ends file b (reads_of cr t) t.saddr t.daddr 0 []
        by false = ready-reads (plan_of cr t) f d k ends file b (reads_of cr t) t.saddr t.daddr 0 [] (nothing_known file (plan_of cr t).source.unit) (sym (zero-mul (plan_of cr t).source.unit))
