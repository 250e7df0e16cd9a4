-- Descriptors as the code stores them, and asks their half way mark. Assumes nothing.
use Rattle.std.proofs.Common.{◌≡◌, ℕ, ◌+◌, ◌*◌, ◌/◌, ◌%◌, ◌^◌, ◌<◌, Bool, true, false, not, eqb, ◌++◌, sym, ap, ◌∙◌, arith, eq-eqb, ne_eqb}
use Rattle.rules.specs.Bytes.{bytes, number, part}
use Rattle.rules.specs.Minor.{tcd_bytes, wound, smod, dmod, store_words, store_whole, halfway}
use Rattle.rules.specs.Words.{has, gain, lose, modulo_add, count_of}
use Rattle.rules.specs.declared.Tcd.{Tcd}
use Rattle.rules.proofs.BytesLaws.{value_fits, word_44, word_422}

-- ---- a word of 8 bytes, from the fields in it

pub from_44 : (a b : ℕ) → a < 2 ^ 32 → b < 2 ^ 32 → a * 0x100000000 + b ≡ number (bytes 4 a ++ bytes 4 b)
from_44 a b h k = sym (value_fits 8 (omega arith)) ∙ ap number (word_44 a b k)

pub from_422 : (a b c : ℕ) → a < 2 ^ 32 → b < 2 ^ 16 → c < 2 ^ 16 → a * 0x100000000 + (b * 0x10000 + c) ≡ number (bytes 4 a ++ (bytes 2 b ++ bytes 2 c))
from_422 a b c h k l = sym (value_fits 8 (omega arith)) ∙ ap number (word_422 a b c k l)

-- a descriptor wound back, as four words
pub wound-words : (ch : ℕ) (t : Tcd) {s d c w0 w1 w2 w3 : ℕ}
    → s ≡ modulo_add t.saddr t.slast (t.attr / 0x800 % 32) → d ≡ modulo_add t.daddr t.dlast (t.attr / 8 % 32) → c ≡ gain (lose (lose t.csr 6) 0) 7
    → w0 ≡ number (bytes 4 s ++ (bytes 2 t.attr ++ bytes 2 t.soff)) → w1 ≡ number (bytes 4 t.nbytes ++ bytes 4 t.slast)
    → w2 ≡ number (bytes 4 d ++ (bytes 2 t.biter ++ bytes 2 t.doff)) → w3 ≡ number (bytes 4 t.dlast ++ (bytes 2 t.biter ++ bytes 2 c))
    → store_words ch w0 w1 w2 w3 ≡ store_whole ch (tcd_bytes (wound t))
unfolding store_whole tcd_bytes wound smod dmod part bytes
wound-words ch t p q r e0 e1 e2 e3 = rw (e0, e1, e2, e3, p, q, r)

-- ---- half way, by cases

module _ (t : Tcd) (n : ℕ) {h : Bool} (bit : h ≡ has t.csr 2) where
  pub half_off : h ≡ false → false ≡ halfway t n
  unfolding halfway
  half_off e = rw (sym bit ∙ e)

  module _ (on : h ≡ true) {k : ℕ} (counted : k ≡ count_of t.biter) where
    pub half_other : (n ≡ k / 2 → ⊥) → false ≡ halfway t n
    unfolding halfway
    half_other g = rw (sym bit ∙ on, ← counted, ne_eqb n (k / 2) g)

    pub half_same : n ≡ k / 2 → not (eqb (k / 2) 0) ≡ halfway t n
    unfolding halfway
    half_same g = rw (sym bit ∙ on, ← counted, eq-eqb n (k / 2) g)
