-- What the addresses of a transfer step by after each whole size, and with which modulo. Assumes nothing.
use Rattle.std.specs.Prelude.{◌≡◌}
use Rattle.rules.specs.Minor.{smod, dmod}
use Rattle.rules.specs.Words.{signed}
use Rattle.rules.specs.declared.Tcd.{Tcd}
use Rattle.equal_sizes.specs.declared.steps.Steps.{Steps}

pub record StepsOf (t : Tcd) (s : Steps) : Type 0 where
  pub soff : s.soff ≡ signed 16 t.soff
  pub smod : s.smod ≡ smod t
  pub doff : s.doff ≡ signed 16 t.doff
  pub dmod : s.dmod ≡ dmod t
