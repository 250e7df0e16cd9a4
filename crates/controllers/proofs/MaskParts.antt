-- DMA-owned lines, driven by INT or kept, fit 64 bits. Assumes nothing.
use Rattle.std.proofs.Common.{ℕ, zero, suc, ◌^◌, ◌<◌, Bool, true, false, cond, eqb, arith}
use Rattle.rules.specs.Lines.{bits_from, owned_from, driven}
use Rattle.masks.proofs.BitLaws.{bits_lt, replaced_fits}

pub driven_fits : (c int lines : ℕ) → lines < 2 ^ 64 → driven c int lines < 2 ^ 64
unfolding driven
driven_fits zero int lines h = replaced_fits 64 8 16 (bits_from 0 16 int) lines (omega arith) (bits_lt 0 16 int) h
driven_fits (suc zero) int lines h = replaced_fits 64 8 40 (bits_from 16 40 int) lines (omega arith) (bits_lt 16 40 int) h
driven_fits (suc (suc c)) int lines h = replaced_fits 64 0 1 (cond (eqb (bits_from 56 8 int) 0) 0 1) lines (omega arith) (one (eqb (bits_from 56 8 int) 0)) h
  where
    one : (t : Bool) → cond t 0 1 < 2
    one true = omega arith
    one false = omega arith

pub owned_fits : (c other lines : ℕ) → lines < 2 ^ 64 → owned_from c other lines < 2 ^ 64
unfolding owned_from
owned_fits zero other lines h = replaced_fits 64 8 16 (bits_from 8 16 other) lines (omega arith) (bits_lt 8 16 other) h
owned_fits (suc zero) other lines h = replaced_fits 64 8 40 (bits_from 8 40 other) lines (omega arith) (bits_lt 8 40 other) h
owned_fits (suc (suc c)) other lines h = replaced_fits 64 0 1 (bits_from 0 1 other) lines (omega arith) (bits_lt 0 1 other) h
