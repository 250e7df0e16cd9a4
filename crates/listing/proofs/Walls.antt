-- What no journal printer does that meets its contract: turn a byte's digits round, take upper-case ones, go on past a wrong mark, or print only the
-- first record. By computation. Assumes nothing.
use mathlib.Core.List.{[], ◌∷◌, ◌++◌}
use mathlib.Core.Path.{◌≡◌, refl}
use Rattle.rules.specs.Bytes.{bytes_rules}
use Rattle.rules.specs.Carry.{carry, line, end_line}
use Rattle.rules.specs.TakeBack.{takes}
use Rattle.listing.specs.Lines.{digit_of, digits, line_text, text, marked_first}

-- the high digit first, in lower case: 4a, 0f and f0
pub digits_in_order : digits (0x4A ∷ 0x0F ∷ 0xF0 ∷ []) ≡ 52 ∷ 97 ∷ 48 ∷ 102 ∷ 102 ∷ 48 ∷ []
unfolding digit_of digits
digits_in_order = refl

-- two records, a line each
pub every_record : text 2 (line 0 1 7 5 ++ end_line 1) ≡ line_text (line 0 1 7 5) ++ line_text (end_line 1)
unfolding digit_of digits line_text text bytes_rules carry
every_record = refl

-- both bytes of the mark are looked at, and what stands after a wrong one is not listed
pub marks_looked_at : marked_first 2 (line 0 1 7 5 ++ end_line 1)
    ∷ marked_first 1 (0x4B ∷ 0x52 ∷ [])
    ∷ marked_first 1 (0x4A ∷ 0x53 ∷ [])
    ∷ marked_first 3 (end_line 0 ++ (0x52 ∷ 0x4A ∷ line 0 1 7 5) ++ end_line 0)
    ∷ []
    ≡ 2 ∷ 0 ∷ 0 ∷ 1 ∷ []
unfolding marked_first bytes_rules carry takes
marks_looked_at = refl
