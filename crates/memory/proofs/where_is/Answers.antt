-- `memory::where_is` meets its contract: below the window, past it, in it. Assumes nothing.
use Rattle.memory.proofs.Laws.{place_below, place-past, place_in}
use native.Mathlib.Omega.{arith}
use Rattle.memory.proofs.where_is.Goals as goal

pub returns-then-address-base : goal.returns-then-address-base
returns-then-address-base c = place_below _ _ _ _ (omega arith)

pub returns-then-window-i : goal.returns-then-window-i
returns-then-window-i c = place-past _ _ _ _ (omega arith)

pub returns : goal.returns
returns c = place_in _ _ _ _ (omega arith) (omega arith)
