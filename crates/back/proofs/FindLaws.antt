-- The last group of a used journal, by cases: what it makes of a take-back. Assumes nothing.
use Rattle.std.specs.Prelude.{Some, None}
use mathlib.Core.Bool.{Bool, true, false, ◌&&◌}
use mathlib.Core.List.{List}
use mathlib.Core.Path.{◌≡◌, refl, sym, ap, ◌∙◌}
use Prim.Native.Nat.{ℕ, ◌+◌, ◌-◌, ◌*◌, ◌/◌, ◌≤◌, ◌<◌}
use native.Mathlib.Omega.{arith}
use borrow.Author.Tests.{ne_eqb, le-leb, lt-leb}
use lib.Dec.{eqb}
use lib.ListN.{length, take, drop, length-drop}
use lib.Seq.{take_all}
use Rattle.rules.specs.Bytes.{number, part}
use Rattle.rules.specs.Carry.{Machine, made, unmade}
use Rattle.rules.specs.TakeBack.{kind, width, place, value, marked, ends, all_sound, take_group, take_last, take_end, take_back}
use Rattle.rules.proofs.BytesLaws.{get_or-part, part-part}
use Rattle.rules.proofs.Cut.{part_cut}
use Rattle.scan.specs.Heads.{Scanned, scanning}
use Rattle.scan.proofs.HeadLaws.{number_one}
use Rattle.scan.proofs.Laws.{table-scanning, mode_scanning}
use Rattle.back.specs.Standing.{machine, journalled, taken_back, Finds}

-- ---- an end, as the code reads it

pub end_is : (l : List ℕ) (at : ℕ)
    → ends (part l at 16) ≡ marked (part l at 16) && eqb (number (part l (at + 2) 1)) 3 && eqb (number (part l (at + 3) 1)) 0 && eqb (number (part l (at + 4) 4)) 0
unfolding ends place
end_is l at =
    let K : kind (part l at 16) ≡ number (part l (at + 2) 1) = get_or-part l at 16 2 (omega arith) ∙ sym (number_one l (at + 2)) in
    let W : width (part l at 16) ≡ number (part l (at + 3) 1) = get_or-part l at 16 3 (omega arith) ∙ sym (number_one l (at + 3)) in
    rw (K, W, part-part l at 16 4 4 (omega arith))

-- ---- the last group: its end says that it has n records before it

module _ (chip : Bool) (base : ℕ) (w l : List ℕ) (some : 16 ≤ length l) where
  last_record : drop (length l - 16) l ≡ part l (length l - 16) 16
  last_record =
      sym (part_cut l (length l - 16) 16 (omega arith) ∙ take_all 16 (drop (length l - 16) l) (omega (arith, length-drop (length l - 16) l)))

  -- the used journal l, in any world
  module _ (m : Machine) (free : List ℕ) where
    ends_with : take_back base (journalled m l free) ≡ take_end base (journalled m l free) (part l (length l - 16) 16)
    unfolding take_back
    ends_with = rw (ne_eqb (length l) 0 (λ z. omega arith), take_back) (rw last_record refl)

    no_group : ends (part l (length l - 16) 16) ≡ false → take_back base (journalled m l free) ≡ unmade 13 (journalled m l free)
    unfolding take_end
    no_group e = ends_with ∙ rw (e, take_end)

    module _ (e : ends (part l (length l - 16) 16) ≡ true) (n : ℕ) (said : n ≡ number (part l (length l - 16 + 8) 8)) where
      a_group : take_back base (journalled m l free) ≡ take_last base (journalled m l free) n
      unfolding take_end value
      a_group =
          let v : value (part l (length l - 16) 16) ≡ n = ap number (part-part l (length l - 16) 16 8 8 (omega arith)) ∙ sym said in
          ends_with ∙ rw (e, take_end) (rw v refl)

      longer : (length l - 16) / 16 < n → take_back base (journalled m l free) ≡ unmade 13 (journalled m l free)
      unfolding take_last
      longer h = a_group ∙ rw (lt-leb ((n + 1) * 16) (length l) (omega arith), take_last)

      module _ (h : n ≤ (length l - 16) / 16) where
        its_bytes : take_back base (journalled m l free)
            ≡ take_group base (journalled m l free) n (take (length l - 16 - n * 16) l) (drop (length l - 16 - n * 16) l)
        unfolding take_last
        its_bytes =
            let f : length l - (n + 1) * 16 ≡ length l - 16 - n * 16 = omega arith in
            a_group ∙ rw (le-leb ((n + 1) * 16) (length l) (omega arith), take_last) (rw f refl)

        damaged : all_sound base m n (drop (length l - 16 - n * 16) l) ≡ false → take_back base (journalled m l free) ≡ unmade 13 (journalled m l free)
        unfolding take_group
        damaged s = its_bytes ∙ rw (s, take_group)

        undone : all_sound base m n (drop (length l - 16 - n * 16) l) ≡ true
            → take_back base (journalled m l free) ≡ made tt (taken_back base (journalled m l free) (length l - 16 - n * 16) n)
        unfolding take_group
        undone s = its_bytes ∙ rw (s, take_group) (rw (length-drop (length l - 16 - n * 16) l) refl)

  -- what the code answers
  pub no_end : ends (part l (length l - 16) 16) ≡ false → Finds chip base w l None
  no_end e d free mode long = no_group (machine w d) free e

  module _ (e : ends (part l (length l - 16) 16) ≡ true) {n : ℕ} (said : n ≡ number (part l (length l - 16 + 8) 8)) where
    pub too_long : (length l - 16) / 16 < n → Finds chip base w l None
    too_long h d free mode long = longer (machine w d) free e n said h

    module _ (h : n ≤ (length l - 16) / 16) {r : Bool} (scanned : Scanned r chip base w n (drop (length l - 16 - n * 16) l)) where
      pub some_damaged : r ≡ false → Finds chip base w l None
      some_damaged s d free mode long = damaged (machine w d) free e n said h (sym (scanned d mode long) ∙ s)

      pub all_sound_lem : r ≡ true → Finds chip base w l (Some (record { from = length l - 16 - n * 16; count = n }))
      unfolding scanning
      all_sound_lem s = (
        record { long = omega arith; sound = sym (scanned (scanning chip w).dev (mode_scanning chip w) (table-scanning chip w)) ∙ s },
        λ d free mode long. undone (machine w d) free e n said h (sym (scanned d mode long) ∙ s),
      )
