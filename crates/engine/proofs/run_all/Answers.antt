-- `engine::run_all` meets its contract. Assumes nothing.
use lib.ListN.{length}
use Rattle.engine.proofs.Starts.{zeros}
use borrow.Author.Rules.{rules}
use Rattle.engine.proofs.run_all.Goals as goal

pub returns : goal.returns
returns c =
    let a = c.args in
    let ran = c.take_turns-s in
    record {
      does = ran.ensures;
      cleared_staging = zeros ran.new.staging (length a.staging.now) c.clear.ensures (search (rules, ran.auto.staging));
    }
