-- `back::last_group` meets its contract: no valid end, a group that is too long, one that is damaged, and one that is sound. Assumes nothing.
use mathlib.Core.Path.{sym, ◌∙◌}
use native.Mathlib.Omega.{arith}
use Rattle.back.proofs.FindLaws.{no_end, too_long, some_damaged, all_sound_lem}
use Rattle.back.proofs.last_group.Goals as goal

pub returns-then-not-is_end : goal.returns-then-not-is_end
returns-then-not-is_end c = no_end _ _ _ _ (omega arith) (sym c.is_end.ensures ∙ c.if-not-is_end.true)

pub returns-then-room-told : goal.returns-then-room-told
returns-then-room-told c = too_long _ _ _ _ (omega arith) (sym c.is_end.ensures ∙ c.if-not-is_end.false) c.get-told.ensures c.if-room-told.true

pub returns-then-not-all_sound : goal.returns-then-not-all_sound
returns-then-not-all_sound c =
    some_damaged _ _ _ _ (omega arith) (sym c.is_end.ensures ∙ c.if-not-is_end.false) c.get-told.ensures c.if-room-told.false c.all_sound.ensures c.if-not-all_sound.true

pub returns : goal.returns
returns c =
    all_sound_lem _ _ _ _ (omega arith) (sym c.is_end.ensures ∙ c.if-not-is_end.false) c.get-told.ensures c.if-room-told.false c.all_sound.ensures c.if-not-all_sound.false
