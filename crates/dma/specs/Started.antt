-- What a descriptor write leaves. Assumes nothing.
use Rattle.std.specs.Prelude.{Bool, ◌&&◌, List, ℕ, ◌+◌, ◌*◌, ◌/◌, ltb}
use Rattle.rules.specs.Bytes.{number, part}
use Rattle.rules.specs.Minor.{START}
use Rattle.rules.specs.Words.{has}

-- it covers byte 0x1F of the channel it begins in, and leaves START set
unfoldable pub starts_in : List ℕ → ℕ → ℕ → Bool
starts_in t off size = ltb (32 * (off / 32) + 0x1F) (off + size) && has (number (part t (32 * (off / 32) + 0x1F) 1)) START
