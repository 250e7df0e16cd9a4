-- `words::signed16` meets its contract: what 16 bits say below 0, 32 bits say too. Assumes nothing.
use Rattle.std.proofs.Common.{◌∙◌, ap, w16, w32}
use Rattle.std.proofs.lemmas.Int.{of_z-to_z}
use Rattle.std.specs.Int.{cast_unsigned, cast_signed}
use Rattle.words.proofs.Laws.{wide, wide_fits, signed_wide}
use Rattle.words.proofs.signed16.Goals as goal

pub returns : goal.returns
returns c =
    let n = c.args.n in
    let fits = c.ranges.n.fits in
    c.cast_unsigned.ensures
    ∙ ap (λ z. cast_unsigned w32 (cast_signed w32 (wide (cast_unsigned w16 z)))) c.cast_signed.ensures
    ∙ ap (λ k. cast_unsigned w32 (cast_signed w32 (wide k))) (of_z-to_z w16 n fits)
    ∙ of_z-to_z w32 (wide n) (wide_fits n fits)
    ∙ signed_wide n fits
