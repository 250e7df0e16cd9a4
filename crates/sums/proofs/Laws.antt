-- A descriptor read field by field; byte counts and minor offsets, by cases. Assumes nothing.
use Rattle.std.proofs.Common.{◌≡◌, ℕ, ◌+◌, ◌%◌, ◌^◌, ◌≤◌, Bool, true, false, ◌||◌, List, ap, add-zero, lit≤, eq-eqb, ne_eqb}
use Rattle.rules.specs.Bytes.{number, part}
use Rattle.rules.specs.Minor.{tcd_of, source_offset, dest_offset, capped, minor_bytes, minor_offset, offset}
use Rattle.rules.specs.Words.{wrap32, count_of}
use Rattle.rules.specs.declared.Tcd.{Tcd}
use Rattle.rules.proofs.BytesLaws.{part-part}

-- ---- a descriptor read from a list at o, field by field

module _ (l : List ℕ) (o : ℕ) where
  inner : (i n : ℕ) → i + n ≤ 32 → number (part (part l o 32) i n) ≡ number (part l (o + i) n)
  inner i n h = ap number (part-part l o 32 i n h)

  pub tcd_read : {a b c d e f g h i j k : ℕ}
      → a ≡ number (part l o 4) → b ≡ number (part l (o + 0x04) 2) → c ≡ number (part l (o + 0x06) 2)
      → d ≡ number (part l (o + 0x08) 4) → e ≡ number (part l (o + 0x0C) 4) → f ≡ number (part l (o + 0x10) 4)
      → g ≡ number (part l (o + 0x14) 2) → h ≡ number (part l (o + 0x16) 2) → i ≡ number (part l (o + 0x18) 4)
      → j ≡ number (part l (o + 0x1C) 2) → k ≡ number (part l (o + 0x1E) 2)
      → ◌≡◌ {A = Tcd} (record { saddr = a; attr = b; soff = c; nbytes = d; slast = e; daddr = f; citer = g; doff = h; dlast = i; biter = j; csr = k })
      (tcd_of (part l o 32))
  unfolding tcd_of
  tcd_read a b c d e f g h i j k =
      simp (
        inner 0x00 4 (lit≤ tt),
        inner 0x04 2 (lit≤ tt),
        inner 0x06 2 (lit≤ tt),
        inner 0x08 4 (lit≤ tt),
        inner 0x0C 4 (lit≤ tt),
        inner 0x10 4 (lit≤ tt),
        inner 0x14 2 (lit≤ tt),
        inner 0x16 2 (lit≤ tt),
        inner 0x18 4 (lit≤ tt),
        inner 0x1C 2 (lit≤ tt),
        inner 0x1E 2 (lit≤ tt),
        add-zero,
        a,
        b,
        c,
        d,
        e,
        f,
        g,
        h,
        i,
        j,
        k,
      )

-- ---- byte counts and minor offsets

module _ (cr : ℕ) (t : Tcd) {n : ℕ} where
  pub bytes_offset : source_offset cr t || dest_offset cr t ≡ true → n ≡ capped (t.nbytes % 2 ^ 10) → n ≡ minor_bytes cr t
  unfolding minor_bytes
  bytes_offset e d = rw e d

  pub bytes_plain : source_offset cr t || dest_offset cr t ≡ false → n ≡ capped (t.nbytes % 2 ^ 30) → n ≡ minor_bytes cr t
  unfolding minor_bytes
  bytes_plain e d = rw e d

module _ (t : Tcd) (a : ℕ) {on : Bool} where
  pub offset_none : on ≡ false → a ≡ offset on t a
  unfolding offset
  offset_none e = rw e

  module _ {n : ℕ} (counted : n ≡ count_of t.citer) (takes : on ≡ true) where
    pub offset_last : n ≡ 1 → a ≡ offset on t a
    unfolding offset
    offset_last e = rw (takes, ← counted, eq-eqb n 1 e)

    pub offset_added : (n ≡ 1 → ⊥) → {by : ℕ} → by ≡ minor_offset t → (a + by) % 2 ^ 32 ≡ offset on t a
    unfolding offset wrap32
    offset_added e b = rw (takes, ← counted, ne_eqb n 1 e, ← b)
