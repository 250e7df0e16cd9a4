-- `words::clear` meets its contract. The loop's invariant: from `from` up to here all is zero, and the rest is as it was. Assumes nothing.
use Rattle.std.proofs.Common.{◌≡◌, ◌+◌, ◌-◌, ◌++◌, ℕ, List, [], take, drop, set, replicate, sym, ap, subst, ◌∙◌, append_assoc, arith}
use Rattle.std.proofs.lemmas.List.{length-replicate}
use Rattle.std.proofs.lemmas.List.Edits.{paste_none, paste_all, fill_from_more}
use Rattle.std.proofs.Math.Seq.{paste}
use Rattle.words.proofs.clear.Goals as goal

pub loop-i-init : goal.loop-i-init
loop-i-init c =
    let none : c.args.from - c.args.from ≡ 0 = omega arith in
    rw none (paste_none c.args.s.now c.args.from [])

pub loop-i-preserved : goal.loop-i-preserved
loop-i-preserved c =
    let s = c.args.s.now in
    let from = c.args.from in
    let n : ℕ = c.loop-i.i - from in
    let here : from + n ≡ c.loop-i.i = omega arith in
    let next : n + 1 ≡ c.loop-i.i + 1 - from = omega arith in
    ap (λ (l : List ℕ). set l c.loop-i.i 0) c.loop-i.invariant
    ∙ subst (λ (k : ℕ). set (paste s from (replicate n 0) n) k 0 ≡ paste s from (replicate (n + 1) 0) (n + 1)) here (fill_from_more s from n 0 (omega arith))
    ∙ ap (λ (k : ℕ). paste s from (replicate k 0) k) next

pub returns : goal.returns
returns c =
    let s = c.args.s.now in
    let from = c.args.from in
    let n : ℕ = c.args.to - from in
    let all : c.loop-i.i ≡ c.args.to = omega arith in
    let end : from + n ≡ c.args.to = omega arith in
    c.loop-i.invariant
    ∙ ap (λ (i : ℕ). paste s from (replicate (i - from) 0) (i - from)) all
    ∙ paste_all s from (replicate n 0) n (sym (length-replicate n 0))
    ∙ sym (append_assoc (take from s) (replicate n 0) (drop (from + n) s))
    ∙ ap (λ (i : ℕ). take from s ++ replicate n 0 ++ drop i s) end
