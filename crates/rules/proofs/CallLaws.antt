-- The outcomes of `specs/Calls.antt`: each is fixed in every part; a refusal gives back what was given; and how 9, 10 and 11 roll back. Assumes nothing.
use Rattle.std.specs.Prelude.{None}
use mathlib.Core.Bool.{Bool, true, false, not, ◌||◌}
use mathlib.Core.List.{List, [], ◌∷◌, ◌++◌}
use mathlib.Core.Path.{◌≡◌, refl, sym, ap, ap₂, ◌∙◌, subst}
use Prim.Native.Nat.{ℕ, zero, suc, ◌+◌, ◌-◌, ◌/◌, ◌%◌, ◌^◌, ◌≤◌, ◌<◌}
use native.Mathlib.Nat.{mul-div_cancel}
use native.Mathlib.Omega.{arith}
use borrow.Author.Tests.{lt-ltb, le-ltb, ltb-false, eq-eqb}
use lib.Dec.{eqb, ltb, lit<}
use lib.ListN.{length, take, drop, replicate, length-append, length-drop, length-replicate, take-append-drop}
use lib.Seq.{length-take-le}
use Rattle.rules.specs.Act.{Act, Endless, ◌>>=◌}
use Rattle.rules.specs.With.{with_table}
use Rattle.rules.specs.Carry.{Machine, World, ok, no, lines_of, go, After, made, unmade, last_lines, cleared, leave, perform, undo, lending}
use Rattle.rules.specs.TakeBack.{decode_all, take_back}
use Rattle.rules.specs.Calls.{Asked, write, inputs, pending, run, service, ack, act_of, bad_window, bad_journal, check, wrong, first, barred, stops, wrong_back, Told, told, staging_after, world_of, told_after, unless_stopped, after, heard_nothing, after_back, ToldRead, told_read, after_read}
use Rattle.rules.specs.State.{Device}
use Rattle.rules.specs.Verdicts.{Heard}
use Rattle.rules.proofs.BoolLaws.{neither}
use Rattle.rules.proofs.Steps.{bind_ok, go-endless, leave_full, leave_refused}
use Rattle.rules.proofs.Keeps.{Good}
use Rattle.rules.proofs.Back.{length_lines}
use Rattle.rules.proofs.Took.{rolled_back_lem, refused}
use Rattle.rules.proofs.Lasts.{back_refused}

-- ---- two outcomes that meet one contract are equal, and so in every part

module _ (base : ℕ) (d : Device) (window journal : List ℕ) (used : ℕ) where
  pub act_fixed : (c : Asked) (staging : List ℕ) (x y : Told) → x ≡ after c base d window staging journal used → y ≡ after c base d window staging journal used → x ≡ y
  act_fixed c staging x y p q = p ∙ sym q

  pub back_fixed : (x y : Told) → x ≡ after_back base d window journal used → y ≡ after_back base d window journal used → x ≡ y
  back_fixed x y p q = p ∙ sym q

pub read_fixed : (d : Device) (address size : ℕ) (x y : ToldRead) → x ≡ after_read d address size → y ≡ after_read d address size → x ≡ y
read_fixed d address size x y p q = p ∙ sym q

pub told_parts : {n n' : ℕ} {heard heard' : Heard} {d d' : Device} {window window' staging staging' journal journal' : List ℕ} {used used' : ℕ}
    → told n heard d window staging journal used ≡ told n' heard' d' window' staging' journal' used'
    → (n ≡ n') × (heard ≡ heard') × (d ≡ d') × (window ≡ window') × (staging ≡ staging') × (journal ≡ journal') × (used ≡ used')
told_parts e = (cc, cc, cc, cc, cc, cc, cc)

pub read_parts : {n n' value value' : ℕ} → told_read n value ≡ told_read n' value' → (n ≡ n') × (value ≡ value')
read_parts e = (cc, cc)

-- ---- what stops a call

-- 1 to 8 are looked at before what the device holds
pub wrong_first : (base window journal used n : ℕ) (c : Asked) (d : Device) → wrong base window journal used c ≡ suc n → stops base window journal used c d ≡ suc n
unfolding stops first
wrong_first base window journal used n c d e = rw e

pub barred_next : (base window journal used : ℕ) (c : Asked) (d : Device) → wrong base window journal used c ≡ 0 → stops base window journal used c d ≡ barred c d
unfolding stops first
barred_next base window journal used c d e = rw e

-- where no device bars the call, its arguments decide
first_alone : (m n : ℕ) → n ≡ 0 → first m n ≡ m
unfolding first
first_alone zero n e = e
first_alone (suc m) n e = refl

pub wrong-alone : (base window journal used : ℕ) (c : Asked) (d : Device) → barred c d ≡ 0 → stops base window journal used c d ≡ wrong base window journal used c
unfolding stops
wrong-alone base window journal used c d = first_alone (wrong base window journal used c) (barred c d)

-- a call that is not stopped has nothing wrong with its arguments, nor does the device bar it
first_none : (m n : ℕ) → first m n ≡ 0 → (m ≡ 0) × (n ≡ 0)
unfolding first
first_none zero n e = (refl, e)
first_none (suc m) n e = absurd (omega arith)

pub not_stopped : (base window journal used : ℕ) (c : Asked) (d : Device) → stops base window journal used c d ≡ 0 → (wrong base window journal used c ≡ 0) × (barred c d ≡ 0)
unfolding stops
not_stopped base window journal used c d = first_none (wrong base window journal used c) (barred c d)

-- a fact of what a call tells: it holds of what is there if nothing is done, and of what the act left if nothing stops it
module _ (P : Told → Type 0) (d : Device) (window staging journal : List ℕ) (used : ℕ) where
  pub either_way : (n : ℕ) {acted : Told} → ((k : ℕ) → n ≡ suc k → P (told (suc k) None d window staging journal used)) → (n ≡ 0 → P acted)
      → P (unless_stopped d window staging journal used n acted)
  unfolding unless_stopped
  either_way zero f g = g refl
  either_way (suc k) f g = f k refl

-- ---- a call that is stopped: nothing is done

module _ (base : ℕ) (d : Device) (window journal : List ℕ) (used n : ℕ) where
  pub act_stopped : (c : Asked) (staging : List ℕ) → stops base (length window) (length journal) used c d ≡ suc n
      → after c base d window staging journal used ≡ told (suc n) None d window staging journal used
  unfolding after unless_stopped
  act_stopped c staging e = rw e

  pub act_wrong : (c : Asked) (staging : List ℕ) → wrong base (length window) (length journal) used c ≡ suc n
      → after c base d window staging journal used ≡ told (suc n) None d window staging journal used
  act_wrong c staging e = act_stopped c staging (wrong_first base (length window) (length journal) used n c d e)

  pub back_wrong : wrong_back base (length window) (length journal) used ≡ suc n
      → after_back base d window journal used ≡ told (suc n) None d window [] journal used
  unfolding after_back unless_stopped
  back_wrong e = rw e

-- ---- one that is not: its act decides

pub act_goes : (base : ℕ) (d : Device) (window journal : List ℕ) (used : ℕ) (c : Asked) (staging : List ℕ) → stops base (length window) (length journal) used c d ≡ 0
    → after c base d window staging journal used ≡ told_after (staging_after c staging) used (perform base (lending (length staging)) (act_of c) (world_of d window journal used))
unfolding after unless_stopped
act_goes base d window journal used c staging e = rw e

-- ---- every refusal

-- an outcome that is a refusal has the device, the window, the used length, the used journal and the journal's length as they were given
abbrev pub AsGiven : Device → List ℕ → List ℕ → ℕ → Told → Type 0
AsGiven d window journal used (told zero heard d' window' staging' journal' used') = Unit {0}
AsGiven d window journal used (told (suc n) heard d' window' staging' journal' used') =
    (d' ≡ d) × (window' ≡ window) × (used' ≡ used) × (take used' journal' ≡ take used journal) × (length journal' ≡ length journal)

take_cleared : (used : ℕ) (journal : List ℕ) → take used (take used journal ++ replicate (length (drop used journal)) 0) ≡ take used journal
take_cleared zero journal = refl
take_cleared (suc used) [] = refl
take_cleared (suc used) (b ∷ journal) = ap (λ l. b ∷ l) (take_cleared used journal)

length_cleared : (used : ℕ) (journal : List ℕ) → length (take used journal ++ replicate (length (drop used journal)) 0) ≡ length journal
length_cleared used journal =
    length-append (take used journal) (replicate (length (drop used journal)) 0)
    ∙ ap (λ n. length (take used journal) + n) (length-replicate {A = ℕ} (length (drop used journal)) 0)
    ∙ sym (length-append (take used journal) (drop used journal)) ∙ ap length (take-append-drop used journal)

module _ (base : ℕ) (d : Device) (window journal : List ℕ) (used : ℕ) where
  pub act_as_given : (c : Asked) (staging : List ℕ) → AsGiven d window journal used (after c base d window staging journal used)
  unfolding after
  act_as_given c staging =
      either_way (AsGiven d window journal used) d window staging journal used (stops base (length window) (length journal) used c d) (λ k _. (refl, refl, refl, refl, refl))
      (λ _. by_end (perform base (lending (length staging)) (act_of c) u) refl)
    where
      u : World
      u = world_of d window journal used

      by_end : (o : After Heard World) → perform base (lending (length staging)) (act_of c) u ≡ o → AsGiven d window journal used (told_after (staging_after c staging) used o)
      by_end (made heard v) e = unfold told_after in tt
      by_end (unmade zero v) e = unfold told_after in tt
      by_end (unmade (suc n) v) e =
          unfold told_after cleared in
          subst (λ w. AsGiven d window journal used (told_after (staging_after c staging) used (unmade (suc n) w))) (sym (refused base (lending (length staging)) (act_of c) u (suc n) v e))
          (refl, refl, refl, take_cleared used journal, length_cleared used journal)

  pub back_as_given : AsGiven d window journal used (after_back base d window journal used)
  unfolding after_back
  back_as_given =
      either_way (AsGiven d window journal used) d window [] journal used (wrong_back base (length window) (length journal) used) (λ k _. (refl, refl, refl, refl, refl))
      (λ _. by_end (take_back base u) refl)
    where
      u : World
      u = world_of d window journal used

      by_end : (o : After (Unit {0}) World) → take_back base u ≡ o → AsGiven d window journal used (told_after [] used (heard_nothing o))
      by_end (made heard v) e = unfold told_after heard_nothing in tt
      by_end (unmade zero v) e = unfold told_after heard_nothing in tt
      by_end (unmade (suc n) v) e =
          unfold told_after heard_nothing in
          subst (λ w. AsGiven d window journal used (told_after [] used (heard_nothing {A = Unit {0}} (unmade (suc n) w)))) (sym (back_refused base u (suc n) v e).0)
          (refl, refl, refl, ap (take used) (take-append-drop used journal), ap length (take-append-drop used journal))

-- ---- the tests, passed and not

pub window_fits : (base window : ℕ) → bad_window base window ≡ false → base + window ≤ 2 ^ 32
unfolding bad_window
window_fits base window e = ltb-false _ _ (neither (eqb window 0 || ltb (2 ^ 24) window) _ e).1

pub back_right : (base window journal used : ℕ) → bad_window base window ≡ false → journal ≤ 2 ^ 28 → used % 16 ≡ 0 → used ≤ journal → wrong_back base window journal used ≡ 0
unfolding wrong_back bad_journal check
back_right base window journal used w h k l = rw (w, le-ltb (2 ^ 28) journal h, eq-eqb (used % 16) 0 k, le-ltb journal used l)

pub window_refused : (base window journal used : ℕ) → bad_window base window ≡ true → wrong_back base window journal used ≡ 5
unfolding wrong_back check
window_refused base window journal used w = rw w

pub journal_refused : (base window journal used : ℕ) → bad_window base window ≡ false → 2 ^ 28 < journal → wrong_back base window journal used ≡ 6
unfolding wrong_back bad_journal check
journal_refused base window journal used w h = rw (w, lt-ltb (2 ^ 28) journal h)

pub passed : (b : Bool) (n next : ℕ) → check b (suc n) next ≡ 0 → (b ≡ false) × (next ≡ 0)
unfolding check
passed true n next e = absurd (omega arith)
passed false n next e = (refl, e)

-- a call that is not refused by 1 to 8 was given a used length within the journal
module _ (base window journal used : ℕ) where
  journal-holds : (next : ℕ) → check (bad_journal journal used) 6 next ≡ 0 → used ≤ journal
  unfolding bad_journal
  journal-holds next e = ltb-false _ _ (neither (ltb (2 ^ 28) journal || not (eqb (used % 16) 0)) _ (passed (bad_journal journal used) 5 next e).0).1

  used-within : (c : Asked) → wrong base window journal used c ≡ 0 → used ≤ journal
  unfolding wrong
  used-within (write address size v) e = journal-holds 0 (passed _ 3 _ (passed _ 2 _ (passed _ 1 _ (passed _ 0 _ e).1).1).1).1
  used-within (inputs standing l0 l1 l2) e = journal-holds 0 e
  used-within (pending ch count) e = journal-holds _ e
  used-within (run now pace) e = journal-holds _ (passed _ 4 _ e).1
  used-within (service now pace) e = journal-holds _ (passed _ 4 _ e).1
  used-within (ack ipl) e = journal-holds 0 e

-- ---- refusals 9, 10 and 11: rolled back

-- where a call's steps stand at v: the records in the used journal past the used length that the call was given, undone as a take-back does,
-- on the window and the table of v and all else of the device that it was given
abbrev pub rolled_back : ℕ → Device → ℕ → World → Machine
rolled_back base d used v =
    undo base (decode_all ((length v.used - used) / 16) (drop used v.used)) (record { mem = v.now.mem; dev = with_table d v.now.dev.table })

module _ (c : Asked) (base : ℕ) (d : Device) (window staging journal : List ℕ) (used : ℕ) (good : Good base (record { mem = window; dev = d }))
    (right : stops base (length window) (length journal) used c d ≡ 0)
  where
    records_undone : {A : Type 0} (m : Act A) (n : ℕ) (v : World) → go base (lending (length staging)) m (world_of d window journal used) ≡ no n v
        → rolled_back base d used v ≡ record { mem = window; dev = d }
    records_undone m n v e =
        let r = rolled_back_lem base (world_of d window journal used) good (lending (length staging)) m n v e in
        let log = r.0 in
        let front : length (take used journal) ≡ used = length-take-le used journal (used-within base (length window) (length journal) used c (not_stopped base (length window) (length journal) used c d right).0) in
        let count : (length v.used - used) / 16 ≡ length log =
        ap (λ x. (x - used) / 16) (ap length r.1 ∙ length-append (take used journal) (lines_of log) ∙ ap₂ (λ x y. x + y) front (length_lines log))
        ∙ ap (λ x. x / 16) (omega arith) ∙ mul-div_cancel (length log) (lit< tt) in
        let records : decode_all ((length v.used - used) / 16) (drop used v.used) ≡ log =
        ap₂ (λ k i. decode_all k (drop i v.used)) count (sym front) ∙ r.2 in
        ap (λ g. undo base g (record { mem = v.now.mem; dev = with_table d v.now.dev.table })) records ∙ r.3

    told_refused : (n : ℕ) → perform base (lending (length staging)) (act_of c) (world_of d window journal used) ≡ unmade n (cleared (world_of d window journal used))
        → after c base d window staging journal used ≡ told n None d window (staging_after c staging) (take used journal ++ replicate (length journal - used) 0) used
    unfolding cleared told_after
    told_refused n e = act_goes base d window journal used c staging right ∙ rw (e, told_after, length-drop used journal)

    -- an act refused at a step: undoing its records gives back window and device
    pub rolls_back : (n : ℕ) (v : World) → go base (lending (length staging)) (act_of c) (world_of d window journal used) ≡ no n v
        → (after c base d window staging journal used ≡ told n None d window (staging_after c staging) (take used journal ++ replicate (length journal - used) 0) used)
        × (rolled_back base d used v ≡ record { mem = window; dev = d })
    unfolding perform
    rolls_back n v e = (told_refused n (ap (leave (world_of d window journal used)) e ∙ leave_refused (world_of d window journal used) v n), records_undone (act_of c) n v e)

    -- and one refused at the end, where the records of its fields and the end record do not fit
    pub full_rolls_back : (heard : Heard) (v : World) → go base (lending (length staging)) (act_of c) (world_of d window journal used) ≡ ok heard v
        → length v.free < length (last_lines (world_of d window journal used) v)
        → (after c base d window staging journal used ≡ told 11 None d window (staging_after c staging) (take used journal ++ replicate (length journal - used) 0) used)
        × (rolled_back base d used v ≡ record { mem = window; dev = d })
    unfolding perform
    full_rolls_back heard v e full =
        let u = world_of d window journal used in
        let stop : Heard → Act Heard = λ _. Endless in (
          told_refused 11 (ap (leave u) e ∙ leave_full u v heard full),
          records_undone (act_of c >>= stop) 11 v (bind_ok base (lending (length staging)) (act_of c) stop u e ∙ go-endless base (lending (length staging)) v),
        )
