-- Words of a width that a store can have. Assumes nothing.
use Rattle.std.proofs.Common.{◌≡◌, ℕ, ◌*◌, ◌/◌, ◌%◌, ◌^◌, List, sym, ap, ◌∙◌, add_comm, div-add-mod'}
use Rattle.rules.specs.Bytes.{bytes, splice}
use Rattle.rules.proofs.BytesLaws.{bytes-add}

-- only the low bytes are stored
bytes_low : (w v : ℕ) → bytes w (v % 256 ^ w) ≡ bytes w v
bytes_low w v =
    sym (bytes-add w (v / 256 ^ w) (v % 256 ^ w)) ∙ ap (bytes w) (add_comm (v % 256 ^ w) (v / 256 ^ w * 256 ^ w) ∙ div-add-mod' v (256 ^ w))

pub put_low : (k : ℕ) (s : List ℕ) (at v : ℕ) {w : ℕ} {s' : List ℕ} → w ≡ k → s' ≡ splice s at (bytes k (v % 256 ^ k)) → s' ≡ splice s at (bytes w v)
put_low k s at v e h = h ∙ rw (e, bytes_low k v)
