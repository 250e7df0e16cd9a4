-- What a register write promises, of one controller and of the device around it. Assumes nothing.
use Rattle.std.specs.Prelude.{Bool, false, not, ◌≡◌, ℕ, ◌+◌, ◌%◌, ◌≤◌, ◌<◌, length, set}
use Rattle.std.proofs.Math.Option.{Option}
use Rattle.rules.specs.State.{Controller, Device}
use Rattle.rules.specs.Act.{Act}
use Rattle.rules.specs.Calls.{is_none, or_nothing}
use Rattle.rules.specs.Fields.{controller}
use Rattle.rules.specs.Registers.{pick, controller_arms, controller_write}
use Rattle.rules.specs.With.{with_controllers}
use Rattle.act.specs.Does.{Does}

-- in 0x08..0x17, offset mod 4 plus size is not above 4: else it is refusal 4
abbrev pub InWord : ℕ → ℕ → Type 0
InWord off size = 0x08 ≤ off → off ≤ 0x17 → off % 4 + size ≤ 4

-- what a write does to controller c, if there is such a register; and of those that are not ranges of offsets
abbrev pub write_to : ℕ → ℕ → ℕ → ℕ → Option (Act (Unit {0}))
write_to off size v c = controller_write c off size v

abbrev pub command_at : ℕ → ℕ → ℕ → ℕ → Option (Act (Unit {0}))
command_at off size v c = pick off size (controller_arms c v)

-- controller k becomes e: that does an act's steps, whatever its number and the device around it are
abbrev pub InController : (ℕ → Act (Unit {0})) → Controller → Controller → Type 0
InController act k e =
    (c : ℕ) (d : Device) → c < length d.controllers → controller d.controllers c ≡ k → Does (act c) d (with_controllers d (set d.controllers c e))

-- a write to controller k: is there such a register, and k after it
pub record WrittenIn (write : ℕ → Option (Act (Unit {0}))) (k : Controller) (known : Bool) (e : Controller) : Type 0 where
  pub tells : (c : ℕ) → known ≡ not (is_none (write c))
  pub does : InController (λ c. or_nothing (write c)) k e
  pub keeps : known ≡ false → e ≡ k

-- the same of a device: where there is no such register, it is unchanged
pub record Written (write : Option (Act (Unit {0}))) (d : Device) (known : Bool) (e : Device) : Type 0 where
  pub tells : known ≡ not (is_none write)
  pub does : Does (or_nothing write) d e
  pub keeps : known ≡ false → e ≡ d
