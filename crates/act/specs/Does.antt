-- What a function that is given the device by value promises: that it does an act's steps, whatever window and journal are. Assumes nothing.
use Rattle.std.specs.Prelude.{◌≡◌, List, ℕ}
use Rattle.rules.specs.Act.{Act}
use Rattle.rules.specs.Carry.{World, ok, go, Lent}
use Rattle.rules.specs.State.{Device}

-- the device in a world
abbrev pub beside : List ℕ → List ℕ → List ℕ → Device → World
beside mem used free d = record { now = record { mem = mem; dev = d }; used = used; free = free }

-- from d the steps of the act lead to e, with answer a
unfoldable pub Answers : {A : Type 0} → Act A → Device → A → Device → Type 0
Answers act d a e = (base : ℕ) (lent : Lent) (mem used free : List ℕ) → go base lent act (beside mem used free d) ≡ ok a (beside mem used free e)

-- an act that answers nothing
abbrev pub Does : Act (Unit {0}) → Device → Device → Type 0
Does act d e = Answers act d tt e
