-- The judge of captures (document 02, [2]): lists that are allowed, that depart, that are malformed or cut; and what is shut out. By computation.
-- Assumes nothing.
use mathlib.Core.List.{List, [], ◌∷◌, ◌++◌}
use mathlib.Core.Path.{◌≡◌, refl, sym, ◌∙◌}
use Prim.Native.Nat.{ℕ}
use native.Mathlib.Omega.{arith}
use lib.ListN.{take}
use Rattle.std.proofs.Common.{Option, None, Some, Ok}
use Rattle.rules.specs.Carry.{line}
use Rattle.captures.specs.declared.Due.{Due}
use Rattle.captures.specs.declared.Flaw.TheVariants as Flaw
use Rattle.captures.specs.Capture.{allowed, departs, Captured, malformed, reads, writes, captured, captures}
use Rattle.walls.specs.Examples.{computed}
use Rattle.walls.specs.Captures.{descriptor, file_of, moved, fetched, addresses, AcceptsAlways, AcceptsNever, AddressesAlone, IgnoresFetches, StopsLooking, capturing}

-- ---- one word

pub word_allowed : captured (file_of (moved 0x11223344 0x11223344)) (descriptor 0x0202 4 1 1) 0 ≡ Ok allowed
unfolding computed captures capturing
word_allowed = refl

-- another value written
pub word_changed : captured (file_of (moved 0x11223344 0x11223345)) (descriptor 0x0202 4 1 1) 0 ≡ Ok (departs 1 (Some (Due.Write 0x80000004 4 0x11223344)))
unfolding computed captures capturing
word_changed = refl

-- a short list, at its length; a long one, at the first access too many
pub word_short : captured (file_of (reads 0x80000000 4 5 ∷ [])) (descriptor 0x0202 4 1 1) 0 ≡ Ok (departs 1 (Some (Due.Write 0x80000004 4 5)))
unfolding computed captures capturing
word_short = refl

pub word_long : captured (file_of (moved 5 5 ++ (reads 0 1 0 ∷ []))) (descriptor 0x0202 4 1 1) 0 ≡ Ok (departs 2 None)
unfolding computed captures capturing
word_long = refl

-- two words: the second read gives another value than the first write stored there
pub word_contradicted : captured (file_of (moved 5 5 ++ (reads 0x80000004 4 6 ∷ writes 0x80000008 4 6 ∷ []))) (descriptor 0x0202 8 1 1) 0 ≡ Ok allowed
unfolding computed captures capturing
word_contradicted = refl

-- count 0: the empty list, and no other
pub none_counted : captured [] (descriptor 0x0202 4 0 1) 0 ∷ captured (file_of (moved 5 5)) (descriptor 0x0202 4 0 1) 0 ∷ []
    ≡ Ok allowed
    ∷ Ok (departs 0 None)
    ∷ []
unfolding computed captures capturing
none_counted = refl

-- ---- unequal sizes

-- a word, then its bytes; and two bytes that are no whole word
pub halves : captured (file_of (reads 0x80000000 4 0x11223344 ∷ writes 0x80000004 2 0x1122 ∷ writes 0x80000008 2 0x3344 ∷ [])) (descriptor 0x0201 4 1 1) 0 ≡ Ok allowed
unfolding computed captures capturing
halves = refl

pub no-whole_word : captured (file_of (reads 0x80000000 1 0x11 ∷ reads 0x80000004 1 0x22 ∷ [])) (descriptor 0x0002 2 1 1) 0 ≡ Ok allowed
unfolding computed captures capturing
no-whole_word = refl

-- ---- a scatter/gather end

pub all_fetched : captured (file_of (moved 5 5 ++ fetched 32 0x90000000)) (descriptor 0x0202 4 1 0x11) 0 ≡ Ok allowed
unfolding computed captures capturing
all_fetched = refl

pub one_missing : captured (file_of (moved 5 5 ++ fetched 31 0x90000000)) (descriptor 0x0202 4 1 0x11) 0 ≡ Ok (departs 33 (Some (Due.Read 0x9000001F 1)))
unfolding computed captures capturing
one_missing = refl

-- not before the last minor loop
pub none_fetched : captured (file_of (moved 5 5)) (descriptor 0x0202 4 2 0x11) 0 ≡ Ok allowed
unfolding computed captures capturing
none_fetched = refl

-- ---- malformed and cut

pub flaws_told : captured (0x4A ∷ 0x53 ∷ [] ++ line 4 4 0 0) (descriptor 0x0202 4 1 1) 0
    ∷ captured (file_of (moved 5 5) ++ line 3 4 0 0) (descriptor 0x0202 4 1 1) 0
    ∷ captured (line 4 3 0 0) (descriptor 0x0202 4 1 1) 0
    ∷ captured (line 5 1 0 0x100) (descriptor 0x0202 4 1 1) 0
    ∷ captured (file_of (moved 5 6) ++ take 15 (line 4 4 0 0)) (descriptor 0x0202 4 1 1) 0
    ∷ []
    ≡ malformed 0 Flaw.Mark
    ∷ malformed 2 Flaw.Kind
    ∷ malformed 0 Flaw.Width
    ∷ malformed 0 Flaw.Value
    ∷ malformed 2 Flaw.Cut
    ∷ []
unfolding computed captures capturing
flaws_told = refl

-- ---- wrong judges

differ : {P : Type 0} (p : ℕ) (due : Option Due) → ◌≡◌ {A = Captured} (Ok (departs p due)) (Ok allowed) → P
differ p due e = let z : ◌≡◌ {A = ℕ} 0 1 = cc in absurd (omega arith)

module _ (program : List ℕ → ℕ → List ℕ → Captured) (meets : (d : List ℕ) (cr : ℕ) (file : List ℕ) → program d cr file ≡ captured file d cr) where
  pub not_accepting_always : AcceptsAlways program → ⊥
  unfolding AcceptsAlways
  not_accepting_always wrong =
      differ 1 (Some (Due.Write 0x80000004 4 0x11223344)) (sym word_changed ∙ sym (meets (descriptor 0x0202 4 1 1) 0 (file_of (moved 0x11223344 0x11223345))) ∙ wrong (descriptor 0x0202 4 1 1) 0 (moved 0x11223344 0x11223345))

  pub not_accepting_never : AcceptsNever program → ⊥
  unfolding AcceptsNever
  not_accepting_never wrong = wrong (descriptor 0x0202 4 1 1) 0 (moved 0x11223344 0x11223344) (meets (descriptor 0x0202 4 1 1) 0 (file_of (moved 0x11223344 0x11223344)) ∙ word_allowed)

  pub not_addresses-alone : AddressesAlone program → ⊥
  unfolding AddressesAlone addresses moved
  not_addresses-alone wrong =
      let d = descriptor 0x0202 4 1 1 in
      differ 1 (Some (Due.Write 0x80000004 4 0x11223344))
      (sym word_changed
      ∙ sym (meets d 0 (file_of (moved 0x11223344 0x11223345)))
      ∙ wrong d 0 (moved 0x11223344 0x11223345) (moved 0x11223344 0x11223344) refl
      ∙ meets d 0 (file_of (moved 0x11223344 0x11223344))
      ∙ word_allowed)

  -- with ESG the list lacks its fetches
  unfetched : captured (file_of (moved 0x11223344 0x11223344)) (descriptor 0x0202 4 1 0x11) 0 ≡ Ok (departs 2 (Some (Due.Read 0x90000000 1)))
  unfolding computed captures capturing
  unfetched = refl

  pub not_ignoring_fetches : IgnoresFetches program → ⊥
  unfolding IgnoresFetches
  not_ignoring_fetches wrong =
      differ 2 (Some (Due.Read 0x90000000 1))
      (sym unfetched
      ∙ sym (meets (descriptor 0x0202 4 1 0x11) 0 (file_of (moved 0x11223344 0x11223344)))
      ∙ wrong 0x0202 4 1 0 (moved 0x11223344 0x11223344)
      ∙ meets (descriptor 0x0202 4 1 1) 0 (file_of (moved 0x11223344 0x11223344))
      ∙ word_allowed)

  -- a malformed record behind an access that departs
  flawed_behind : captured (file_of (moved 0x11223344 0x11223345) ++ line 3 4 0 0) (descriptor 0x0202 4 1 1) 0 ≡ malformed 2 Flaw.Kind
  unfolding computed captures capturing
  flawed_behind = refl

  pub not_stopping : StopsLooking program → ⊥
  unfolding StopsLooking
  not_stopping wrong =
      let d = descriptor 0x0202 4 1 1 in
      let l = moved 0x11223344 0x11223345 in
      let same : malformed 2 Flaw.Kind ≡ Ok (departs 1 (Some (Due.Write 0x80000004 4 0x11223344))) =
      sym flawed_behind
      ∙ sym (meets d 0 (file_of l ++ line 3 4 0 0))
      ∙ wrong d 0 l (line 3 4 0 0) (Ok (departs 1 (Some (Due.Write 0x80000004 4 0x11223344)))) (meets d 0 (file_of l) ∙ word_changed) (differ 1 (Some (Due.Write 0x80000004 4 0x11223344))) in
      let z : ◌≡◌ {A = ℕ} 0 1 = cc in
      omega arith
