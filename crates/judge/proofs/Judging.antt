-- The code's judgement is the rules': a course over all the records of a file ends in the verdict of `captured`. Assumes nothing.
use Rattle.std.proofs.Common.{◌≡◌, ℕ, zero, suc, ◌+◌, ◌/◌, ◌%◌, Bool, true, false, cond, not, eqb, List, [], ◌∷◌, length, sym, refl, ap, ◌∙◌, subst, append-nil, add-zero, add-suc, suc-add, zero-add, add-one, Option, None, Some}
use mathlib.Core.Bool.{false≢true}
use borrow.Author.Tests.{eqb-false}
use Rattle.rules.specs.State.{Device}
use Rattle.rules.specs.declared.Tcd.{Tcd}
use Rattle.rules.specs.Act.{Act, done, nothing, ◌>>=◌, ◌>>◌}
use Rattle.rules.specs.Bytes.{Bytes, part}
use Rattle.rules.specs.Minor.{tcd_of, ssize, dsize, source_offset, dest_offset, minor_bytes, offset, transfer, minor_end, pass}
use Rattle.rules.specs.Words.{count_of}
use Rattle.rules.proofs.BytesLaws.{part-first}
use Rattle.captures.specs.declared.Flaw.{Flaw}
use Rattle.captures.specs.declared.Departure.{Departure}
use Rattle.captures.specs.declared.Malformed.{Malformed}
use Rattle.captures.specs.Capture.{Judged, departs, Captured, malformed, Access, ended, judge, board, judged, flaw_of, access_of, records, is_cut, record_at, accesses_of, unless_flawed, captured}
use Rattle.captures.proofs.Tails.{gathered, fetches, pass_seen, end_seen}
use Rattle.captures.proofs.Files.{value_fits_width}
use Rattle.judge.specs.declared.Plan.{Plan}
use Rattle.judge.specs.declared.Walk.{Walk}
use Rattle.judge.specs.declared.Course.{Course}
use Rattle.judge.specs.Walks.{departed_at, Fitting, reads_of, plan_of, moves_from, reads_from, start_of, onward_of, due_of, seen_in, unless_unfit, looked_at, meets_due, walk_on, look_past, step_of, on_all, ended_at, unless_cut, verdict_of}
use Rattle.judge.proofs.Follow.{access_in, left_of_lem, nothing_left, Ready, at_end, got_on, to_on, stepping, ready_on, starts, ready-first}

-- ---- after the walk

module _ (p : Plan) (file : List ℕ) where
  stays_refused : (n k : ℕ) (x : Malformed) → on_all p file 0 0 file n k (Course.Refused x) ≡ Course.Refused x
  unfolding on_all step_of
  stays_refused zero k x = refl
  stays_refused (suc n) k x = stays_refused n (k + 1) x

  -- a malformed record is told, also after an access that departed
  looks_past : (n k m : ℕ) (x : Departure) (c : Bool) → verdict_of p file 0 m c (on_all p file 0 0 file n k (Course.Departed x)) ≡ unless_flawed file n k (unless_cut m c (Some x))
  unfolding on_all step_of look_past looked_at unless_unfit unless_flawed verdict_of
  looks_past zero k m x c = refl
  looks_past (suc n) k m x c = rw (add-one k, zero-add k) (by (flaw_of (record_at file k)) (looks_past n (suc k) m x c))
    where
      by : (o : Option Flaw) → verdict_of p file 0 m c (on_all p file 0 0 file n (suc k) (Course.Departed x)) ≡ unless_flawed file n (suc k) (unless_cut m c (Some x))
          → verdict_of p file 0 m c (on_all p file 0 0 file n (suc k) (look_past k x (unless_unfit o (seen_in (record_at file k)))))
          ≡ elim o [ Some f ↦ malformed k f | None ↦ unless_flawed file n (suc k) (unless_cut m c (Some x)) ]
      by None h = h
      by (Some f) h = ap (verdict_of p file 0 m c) (stays_refused n (suc k) (record { place = k; why = f }))

-- ---- the walk

module _ {A : Type 0} (p : Plan) (f : Fitting p) (d : Device) (k : ℕ × ℕ → Act A)
    (ends : (at : ℕ × ℕ) (l : List Access) (i : ℕ) → judge (k at) d l i ≡ judge (cond p.gathers (gathered 32 p.next) nothing) d l i)
    (file : List ℕ) (b : Bytes file)
  where
    abbrev rest_of : Walk → List ℕ → ℕ → List Access → ℕ → Judged
    rest_of w got c l i = left_of_lem p f d k ends w got c l i

    abbrev Known-so : ℕ → Walk → List ℕ → Type 0
    Known-so i w got = Ready p f d k ends file b i w got

    abbrev Follows : ℕ → ℕ → ℕ → Bool → Walk → List ℕ → ℕ → Type 0
    Follows n i m cut w got c =
        verdict_of p file 0 m cut (on_all p file 0 0 file n i (Course.Going w)) ≡ unless_flawed file n i (unless_cut m cut (rest_of w got c (accesses_of file n i) i))

    -- one record that is not malformed
    goes : (n i m : ℕ) (cut : Bool) (w : Walk) (got : List ℕ) (c : ℕ) → Known-so i w got → flaw_of (record_at file i) ≡ None
        → ((w' : Walk) (got' : List ℕ) (c' : ℕ) → Known-so (suc i) w' got' → Follows n (suc i) m cut w' got' c')
        → verdict_of p file 0 m cut (on_all p file 0 0 file n (suc i) (walk_on p file 0 i w (seen_in (record_at file i))))
        ≡ unless_flawed file n (suc i) (unless_cut m cut (rest_of w got c (access_of (record_at file i) ∷ accesses_of file n (suc i)) i))
    unfolding walk_on access_of access_in seen_in
    goes n i m cut w got c r clean h =
        by (meets_due (due_of file 0 p w) (seen_in (record_at file i))) refl
        ∙ ap (λ (j : Judged). unless_flawed file n (suc i) (unless_cut m cut j)) (sym (stepping p f d k ends file b w got c (seen_in (record_at file i)) (accesses_of file n (suc i)) i r))
      where
        next : Walk
        next = onward_of p i w (seen_in (record_at file i)).value

        more : List ℕ
        more = got_on p f d k ends file b w got (seen_in (record_at file i)).value

        to : ℕ
        to = to_on p f d k ends file b w c

        by : (t : Bool) → meets_due (due_of file 0 p w) (seen_in (record_at file i)) ≡ t
            → verdict_of p file 0 m cut (on_all p file 0 0 file n (suc i) (cond t (Course.Going next) (departed_at i (due_of file 0 p w))))
            ≡ unless_flawed file n (suc i) (unless_cut m cut (cond t (rest_of next more to (accesses_of file n (suc i)) (suc i)) (departs i (due_of file 0 p w))))
        by true q = h next more to (ready_on p f d k ends file b w got (seen_in (record_at file i)) i r refl (value_fits_width (record_at file i) clean) q)
        by false q = looks_past p file n (suc i) m (record { at = i; due = due_of file 0 p w }) cut

    -- of n records from number i on, m in all
    pub follows : (n i m : ℕ) → m ≡ i + n → (cut : Bool) (w : Walk) (got : List ℕ) (c : ℕ) → Known-so i w got → Follows n i m cut w got c
    unfolding on_all step_of looked_at unless_unfit unless_flawed verdict_of accesses_of
    follows zero i m e cut w got c r =
        let here : m ≡ i = e ∙ add-zero i in
        ap (unless_cut m cut) (ap (λ (x : ℕ). ended_at x (due_of file 0 p w)) here ∙ sym (at_end p f d k ends file b w got c i r))
    follows (suc n) i m e cut w got c r =
        rw (add-one i, zero-add i) (by (flaw_of (record_at file i)) refl (follows n (suc i) m (e ∙ add-suc i n ∙ sym (suc-add i n)) cut))
      where
        by : (o : Option Flaw) → flaw_of (record_at file i) ≡ o → ((w' : Walk) (got' : List ℕ) (c' : ℕ) → Known-so (suc i) w' got' → Follows n (suc i) m cut w' got' c')
            → verdict_of p file 0 m cut (on_all p file 0 0 file n (suc i) (step_of p file 0 i (Course.Going w) (unless_unfit o (seen_in (record_at file i)))))
            ≡ elim o [ Some f ↦ malformed i f | None ↦ unless_flawed file n (suc i) (unless_cut m cut (rest_of w got c (access_of (record_at file i) ∷ accesses_of file n (suc i)) i)) ]
        by None q h = goes n i m cut w got c r q h
        by (Some f) q h = ap (verdict_of p file 0 m cut) (stays_refused p file n (suc i) (record { place = i; why = f }))

-- ---- the whole

module _ (file : List ℕ) (b : Bytes file) (descriptor : List ℕ) (h : length descriptor ≡ 32) (cr : ℕ) (f : Fitting (plan_of cr (tcd_of descriptor))) where
  abbrev t : Tcd
  t = tcd_of descriptor

  abbrev p : Plan
  p = plan_of cr t

  -- what the probe sees of the end
  ends_so : (count_of t.citer ≡ 0 → ⊥) → (at : ℕ × ℕ) (l : List Access) (i : ℕ)
      → judge (minor_end 0 t (offset (source_offset cr t) t at.0) (offset (dest_offset cr t) t at.1) >> done true) (board descriptor cr) l i
      ≡ judge (cond p.gathers (gathered 32 p.next) nothing) (board descriptor cr) l i
  unfolding plan_of fetches
  ends_so some_left at l i = end_seen descriptor cr h l i (offset (source_offset cr t) t at.0) (offset (dest_offset cr t) t at.1) some_left

  pub judged_so : verdict_of p file 0 (records file) (is_cut file) (on_all p file 0 0 file (records file) 0 (Course.Going (start_of cr t))) ≡ captured file descriptor cr
  unfolding start_of captured judged judge unless_cut
  judged_so = by (eqb (count_of t.citer) 0) refl
    where
      n : ℕ
      n = records file

      l : List Access
      l = accesses_of file n 0

      d : Device
      d = board descriptor cr

      from_zero : n ≡ 0 + n
      from_zero = sym (zero-add n)

      k : ℕ × ℕ → Act Bool
      k at = minor_end 0 t (offset (source_offset cr t) t at.0) (offset (dest_offset cr t) t at.1) >> done true

      by : (z : Bool) → eqb (count_of t.citer) 0 ≡ z
          → verdict_of p file 0 n (is_cut file) (on_all p file 0 0 file n 0 (Course.Going (cond z Walk.Over (cond (eqb (ssize t) (dsize t)) (moves_from p (reads_of cr t) t.saddr t.daddr) (reads_from p (reads_of cr t) 0 t.saddr t.daddr)))))
          ≡ unless_flawed file n 0 (unless_cut n (is_cut file) (judge (pass 0) d l 0))
      by true q =
          follows p f d (λ at. cond p.gathers (gathered 32 p.next) nothing) (λ at m i. refl) file b n 0 n from_zero (is_cut file) Walk.Over [] 0 tt
          ∙ ap (λ (j : Judged). unless_flawed file n 0 (unless_cut n (is_cut file) j)) (nothing_left p f d (λ at. cond p.gathers (gathered 32 p.next) nothing) (λ at m i. refl) [] 0 l 0 ∙ sym (pass_seen descriptor cr h l 0 ∙ idle (eqb (count_of t.citer) 0) q))
        where
          idle : (z : Bool) → z ≡ true → judge (cond z (done false) (transfer t (minor_bytes cr t) >>= k)) d l 0 ≡ ended l 0
          idle true e = refl
          idle false e = absurd (false≢true e)
      by false q =
          follows p f d k ends file b n 0 n from_zero (is_cut file) (cond (eqb (ssize t) (dsize t)) (moves_from p (reads_of cr t) t.saddr t.daddr) (reads_from p (reads_of cr t) 0 t.saddr t.daddr)) [] t.saddr (ready-first cr t f d k ends file b)
          ∙ ap (λ (j : Judged). unless_flawed file n 0 (unless_cut n (is_cut file) j)) (sym (starts cr t f d k ends l 0) ∙ sym (pass_seen descriptor cr h l 0 ∙ busy (eqb (count_of t.citer) 0) q))
        where
          ends : (at : ℕ × ℕ) (m : List Access) (i : ℕ) → judge (k at) d m i ≡ judge (cond p.gathers (gathered 32 p.next) nothing) d m i
          ends at m i = ends_so (eqb-false (count_of t.citer) 0 q) at m i

          busy : (z : Bool) → z ≡ false → judge (cond z (done false) (transfer t (minor_bytes cr t) >>= k)) d l 0 ≡ judge (transfer t (minor_bytes cr t) >>= k) d l 0
          busy true e = absurd (false≢true (sym e))
          busy false e = refl

-- ---- as the code has it

whole_part : (l : List ℕ) → part l 0 (length l) ≡ l
whole_part l = ap (λ (x : List ℕ). part x 0 (length l)) (sym (append-nil l)) ∙ part-first l []

pub judged-by : (file : List ℕ) → Bytes file → (descriptor : List ℕ) → length descriptor ≡ 32 → (cr : ℕ) {t : Tcd} {p : Plan} {w : Walk} {c : Course} {r : Captured}
    → t ≡ tcd_of (part descriptor 0 32) → (p ≡ plan_of cr t) × Fitting p → w ≡ start_of cr t
    → c ≡ on_all p file 0 0 file (length file / 16) 0 (Course.Going w) → r ≡ verdict_of p file 0 (length file / 16) (not (eqb (length file % 16) 0)) c
    → r ≡ captured file descriptor cr
unfolding records is_cut
judged-by file b descriptor h cr {t} {p} read q begun went told =
    let here : t ≡ tcd_of descriptor = read ∙ ap tcd_of (ap (part descriptor 0) (sym h) ∙ whole_part descriptor) in
    let planned : p ≡ plan_of cr (tcd_of descriptor) = q.0 ∙ ap (plan_of cr) here in
    let fits : Fitting (plan_of cr (tcd_of descriptor)) = subst Fitting planned q.1 in
    told
    ∙ ap (λ (x : Course). verdict_of p file 0 (length file / 16) (not (eqb (length file % 16) 0)) x) (went ∙ ap (λ (x : Walk). on_all p file 0 0 file (length file / 16) 0 (Course.Going x)) (begun ∙ ap (start_of cr) here))
    ∙ ap (λ (x : Plan). verdict_of x file 0 (length file / 16) (not (eqb (length file % 16) 0)) (on_all x file 0 0 file (length file / 16) 0 (Course.Going (start_of cr (tcd_of descriptor))))) planned
    ∙ judged_so file b descriptor h cr fits
