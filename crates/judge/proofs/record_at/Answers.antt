-- `judge::record_at` meets its contract. Assumes nothing.
use Rattle.judge.proofs.Cases.{no_mark, no_kind, bad_width, too_wide, no_flaw}
use Rattle.std.proofs.Common.{sym, ◌∙◌, rules}
use Rattle.judge.proofs.record_at.Goals as goal

pub returns-then-get-ne19026 : goal.returns-then-get-ne19026
returns-then-get-ne19026 c = no_mark _ _ c.get.ensures c.if-get-ne19026.true

pub returns-then-not-is_kind : goal.returns-then-not-is_kind
returns-then-not-is_kind c = no_kind _ _ c.get.ensures c.if-get-ne19026.false c.get-kind.ensures (sym c.is_kind.ensures ∙ c.if-not-is_kind.true)

pub returns-then-not-is_width : goal.returns-then-not-is_width
returns-then-not-is_width c = bad_width _ _ c.get.ensures c.if-get-ne19026.false c.get-kind.ensures (sym c.is_kind.ensures ∙ c.if-not-is_kind.false) c.get-width.ensures (sym c.is_width.ensures ∙ c.if-not-is_width.true)

pub is_narrow-requires : goal.is_narrow-requires
is_narrow-requires c = sym c.is_width.ensures ∙ c.if-not-is_width.false

pub returns-then-not-is_narrow : goal.returns-then-not-is_narrow
returns-then-not-is_narrow c = too_wide _ _ c.get.ensures c.if-get-ne19026.false c.get-kind.ensures (sym c.is_kind.ensures ∙ c.if-not-is_kind.false) c.get-width.ensures (sym c.is_width.ensures ∙ c.if-not-is_width.false) c.get-value.ensures (sym c.is_narrow.ensures.0 ∙ c.if-not-is_narrow.true)

pub overflow_cast-result-2 : goal.overflow_cast-result-2
overflow_cast-result-2 c = search (rules, c.is_narrow.ensures.1 c.if-not-is_narrow.false)

pub returns : goal.returns
returns c = no_flaw _ _ c.get.ensures c.if-get-ne19026.false c.get-kind.ensures (sym c.is_kind.ensures ∙ c.if-not-is_kind.false) c.get-width.ensures (sym c.is_width.ensures ∙ c.if-not-is_width.false) c.get-value.ensures (sym c.is_narrow.ensures.0 ∙ c.if-not-is_narrow.false) c.get-2.ensures
