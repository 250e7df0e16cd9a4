-- What every store and every put keeps, every act keeps; and what they do keep. Assumes nothing.
use mathlib.Core.Bool.{Bool, true, false, ◌&&◌}
use mathlib.Core.Path.{◌≡◌, refl, ap, ◌∙◌}
use Prim.Native.Nat.{ℕ, ◌+◌, ◌%◌, ◌^◌, ◌≤◌}
use native.Mathlib.Nat.{mod-lt}
use borrow.Author.Tests.{leb-true}
use lib.Dec.{leb}
use lib.ListN.{length}
use lib.Pow.{pow_pos}
use Rattle.rules.specs.Act.{Act, Done, Endless, Stage, Fetch, Store, Ask, Put, Look, Space, window, table, Field, IGNORE, CHIP}
use Rattle.rules.specs.Bytes.{Bytes, bytes}
use Rattle.rules.specs.Fields.{bits_in, holds, with_field, setting_of, own_of, parts_of}
use Rattle.rules.specs.Carry.{Machine, World, Out, ok, no, bytes_of, with_bytes_of, with_device, index_of, there, legal, fetched, stored, recorded, go, Lent}
use Rattle.rules.proofs.BytesLaws.{length_splice, bytes-bytes, bytes-splice}
use Rattle.rules.proofs.FieldLaws.{Sound, put_setting, put_law, put-sound}
use Rattle.rules.proofs.Steps.{cutting}

-- P holds where an act's steps end, however they end
abbrev pub AtEnd : (World → Type 0) → {A : Type 0} → Out A → Type 0
AtEnd P (ok a u) = P u
AtEnd P (no n u) = P u

module _ (base : ℕ) (lent : Lent) (P : World → Type 0)
    (on_store : (sp : Space) (a n v : ℕ) (u : World) → there base sp a n u.now ≡ true → legal sp n ≡ true → 16 ≤ length u.free → P u → P (recorded base sp a n v u))
    (on_put : (f : Field) (v : ℕ) (u : World) → P u → P (cutting f v u))
  where
    pub go-keeps : {A : Type 0} (m : Act A) (u : World) → P u → AtEnd P (go base lent m u)
    unfolding go
    go-keeps (Done a) u p = p
    go-keeps Endless u p = p
    go-keeps {A} (Stage n k) u p =
        elim (leb n lent.staging) as (λ b. AtEnd P {A = A} (elim b [ true ↦ go base lent k u | false ↦ no 10 u ])) [
          | true ↦ go-keeps k u p
          | false ↦ p
        ]
    go-keeps {A} (Fetch sp a n k) u p =
        elim (there base sp a n u.now) as (λ b. AtEnd P {A = A} (elim b [ true ↦ go base lent (k (fetched base sp a n u.now)) u | false ↦ no 9 u ])) [
          | true ↦ go-keeps (k (fetched base sp a n u.now)) u p
          | false ↦ p
        ]
    go-keeps {A} (Store sp a n v k) u p =
        made_or (there base sp a n u.now) (legal sp n) (leb 16 (length u.free)) refl refl refl (go-keeps k (recorded base sp a n v u))
      where
        made_or : (b c d : Bool) → there base sp a n u.now ≡ b → legal sp n ≡ c → leb 16 (length u.free) ≡ d
            → (P (recorded base sp a n v u) → AtEnd P {A = A} (go base lent k (recorded base sp a n v u)))
            → AtEnd P {A = A} (elim (b && c) [ true ↦ elim d [ true ↦ go base lent k (recorded base sp a n v u) | false ↦ no 11 u ] | false ↦ no 9 u ])
        made_or false c d e f g h = p
        made_or true false d e f g h = p
        made_or true true false e f g h = p
        made_or true true true e f g h = h (on_store sp a n v u e f (leb-true 16 (length u.free) g) p)
    go-keeps (Ask f k) u p = go-keeps (k (holds f u.now.dev)) u p
    go-keeps (Put f v k) u p = go-keeps k (cutting f v u) (on_put f v u p)
    go-keeps (Look s k) u p = go-keeps (k (setting_of s u.now.dev)) u p

-- ---- as long as it was, and set as it was

pub record Alike (m₀ m : Machine) : Type 0 where
  pub mem_is : length m.mem ≡ length m₀.mem
  pub table_is : length m.dev.table ≡ length m₀.dev.table
  pub ignore_is : m.dev.ignore ≡ m₀.dev.ignore
  pub chip_is : m.dev.chip ≡ m₀.dev.chip

pub alike-store : (base : ℕ) {m₀ : Machine} (sp : Space) (a n v : ℕ) (m : Machine) → Alike m₀ m → Alike m₀ (stored base sp a n v m)
unfolding stored with_bytes_of bytes_of
alike-store base window a n v m h = record { mem_is = length_splice m.mem _ _ ∙ h.mem_is; table_is = h.table_is; ignore_is = h.ignore_is; chip_is = h.chip_is }
alike-store base table a n v m h = record { mem_is = h.mem_is; table_is = length_splice m.dev.table _ _ ∙ h.table_is; ignore_is = h.ignore_is; chip_is = h.chip_is }

pub alike-put : {m₀ : Machine} (f : Field) (v : ℕ) (m : Machine) → Sound m.dev → Alike m₀ m → Alike m₀ (with_device (with_field f v m.dev) m)
unfolding with_device
alike-put f v m s h =
    let p = put_law f v m.dev s.three in
    record { mem_is = h.mem_is; table_is = ap length p.table ∙ h.table_is; ignore_is = put_setting IGNORE f v m.dev ∙ h.ignore_is; chip_is = put_setting CHIP f v m.dev ∙ h.chip_is }

-- ---- what is asked of a machine: a sound device, a window of bytes, and places that a record's 4 bytes can hold

pub record Good (base : ℕ) (m : Machine) : Type 0 where
  pub sound_dev : Sound m.dev
  pub mem_bytes : Bytes m.mem
  pub mem_below : base + length m.mem ≤ 2 ^ 32
  pub table_below : length m.dev.table ≤ 2 ^ 32

pub good_store : (base : ℕ) (sp : Space) (a n v : ℕ) (m : Machine) → Good base m → Good base (stored base sp a n v m)
unfolding stored with_bytes_of bytes_of own_of parts_of
good_store base window a n v m g = record {
  sound_dev = g.sound_dev;
  mem_bytes = bytes-splice m.mem (index_of base window a) (bytes n v) g.mem_bytes (bytes-bytes n v);
  mem_below = rw (length_splice m.mem (index_of base window a) (bytes n v)) g.mem_below;
  table_below = g.table_below;
}
good_store base table a n v m g = record {
  sound_dev = record {
    three = g.sound_dev.three;
    fitting = g.sound_dev.fitting;
    table_bytes = bytes-splice m.dev.table (index_of base table a) (bytes n v) g.sound_dev.table_bytes (bytes-bytes n v);
  };
  mem_bytes = g.mem_bytes;
  mem_below = g.mem_below;
  table_below = rw (length_splice m.dev.table (index_of base table a) (bytes n v)) g.table_below;
}

pub good_put : (base : ℕ) (f : Field) (v : ℕ) (m : Machine) → Good base m → Good base (with_device (with_field f (v % 2 ^ bits_in m.dev.chip f) m.dev) m)
unfolding with_device
good_put base f v m g =
    let x = v % 2 ^ bits_in m.dev.chip f in
    record {
      sound_dev = put-sound f x m.dev g.sound_dev (mod-lt v (pow_pos (bits_in m.dev.chip f)));
      mem_bytes = g.mem_bytes;
      mem_below = g.mem_below;
      table_below = rw (put_law f x m.dev g.sound_dev.three).table g.table_below;
    }
