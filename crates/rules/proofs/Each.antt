-- What each step of an act is like, whatever it is answered: a calculus that follows the definitions of `specs/`. Assumes nothing.
use mathlib.Core.Bool.{Bool, true, false, cond, ◌&&◌}
use mathlib.Core.List.{List}
use mathlib.Core.Path.{◌≡◌, refl, ap, ◌∙◌}
use Prim.Native.Nat.{ℕ, ◌%◌, ◌^◌, ◌<◌}
use native.Mathlib.Nat.{mod-lt}
use lib.Dec.{leb}
use lib.ListN.{length}
use lib.Pow.{pow_pos}
use Rattle.rules.specs.State.{Device}
use Rattle.rules.specs.View.{view}
use Rattle.rules.specs.declared.Device.{Device as HeldDevice}
use Rattle.rules.specs.Act.{Act, Done, Endless, Stage, Fetch, Store, Ask, Put, Look, Space, window, table, Field, Setting, stage, fetch, store, ask, put, change, look, when}
use Rattle.rules.specs.Act as acts
use Rattle.rules.specs.Bytes.{bytes, splice}
use Rattle.rules.specs.Fields.{bits_of, bits_in, holds, with_field, setting_of, own_of, parts_of}
use Rattle.rules.specs.With.{with_table}
use Rattle.rules.specs.Carry.{Machine, World, no, bytes_of, with_bytes_of, with_device, index_of, there, legal, fetched, stored, recorded, go, Lent}
use Rattle.rules.proofs.BytesLaws.{length_part, length_splice, bytes-bytes, bytes-splice}
use Rattle.rules.proofs.FieldLaws.{put_law, put-sound, holds_fits}
use Rattle.rules.proofs.Proper.{Proper}
use Rattle.rules.proofs.Typed.{Typed, sound, table-size}
use Rattle.rules.proofs.Steps.{cutting}
use Rattle.rules.proofs.Keeps.{AtEnd}

infixl 20 ◌>>=◌
infixl 20 ◌>>◌
-- what an act may do: how many bytes of staging it needs, which bytes of which space it fetches and stores to (place, width), and which fields it
-- puts
pub record Rights : Type 1 where
  pub may_stage : ℕ → Type 0
  pub may_fetch : Space → ℕ → ℕ → Type 0
  pub may_store : Space → ℕ → ℕ → Type 0
  pub may_put : Field → Type 0

-- each step is within the rights, whatever is answered: to a fetch, as many bytes as it asks for; to an ask, a number within the field's bits
pub data Each (r : Rights) {A : Type 0} : Act A → Type 0 where
  at_done : {a : A} → Each r (Done a)
  at_endless : Each r Endless
  at_stage : {n : ℕ} {k : Act A} → r.may_stage n → Each r k → Each r (Stage n k)
  at_fetch : {sp : Space} {a n : ℕ} {k : List ℕ → Act A} → r.may_fetch sp a n → ((l : List ℕ) → length l ≡ n → Each r (k l)) → Each r (Fetch sp a n k)
  at_store : {sp : Space} {a n v : ℕ} {k : Act A} → r.may_store sp a n → Each r k → Each r (Store sp a n v k)
  at_ask : {f : Field} {k : ℕ → Act A} → ((v : ℕ) → v < 2 ^ bits_of f → Each r (k v)) → Each r (Ask f k)
  at_put : {f : Field} {v : ℕ} {k : Act A} → r.may_put f → Each r k → Each r (Put f v k)
  at_look : {s : Setting} {k : Bool → Act A} → ((b : Bool) → Each r (k b)) → Each r (Look s k)

pub ◌>>=◌ : {r : Rights} {A B : Type 0} {m : Act A} {f : A → Act B} → Each r m → ((a : A) → Each r (f a)) → Each r (acts.◌>>=◌ m f)
unfolding acts.◌>>=◌
at_done {a} >>= g = g a
at_endless >>= g = at_endless
at_stage h p >>= g = at_stage h (p >>= g)
at_fetch h p >>= g = at_fetch h (λ l e. p l e >>= g)
at_store h p >>= g = at_store h (p >>= g)
at_ask p >>= g = at_ask (λ v h. p v h >>= g)
at_put h p >>= g = at_put h (p >>= g)
at_look p >>= g = at_look (λ b. p b >>= g)

pub ◌>>◌ : {r : Rights} {A B : Type 0} {m : Act A} {k : Act B} → Each r m → Each r k → Each r (acts.◌>>◌ m k)
unfolding acts.◌>>◌
p >> q = p >>= (λ _. q)

-- ---- the single steps

module _ {r : Rights} where
  pub each_stage : (n : ℕ) → r.may_stage n → Each r (stage n)
  unfolding stage
  each_stage n h = at_stage h at_done

  pub each_fetch : (sp : Space) (a n : ℕ) → r.may_fetch sp a n → Each r (fetch sp a n)
  unfolding fetch
  each_fetch sp a n h = at_fetch h (λ l e. at_done)

  pub each_store : (sp : Space) (a n v : ℕ) → r.may_store sp a n → Each r (store sp a n v)
  unfolding store
  each_store sp a n v h = at_store h at_done

  pub each_ask : (f : Field) → Each r (ask f)
  unfolding ask
  each_ask f = at_ask (λ v h. at_done)

  -- where what is done next depends on the answer's bound
  pub each_asked : {A : Type 0} (f : Field) {k : ℕ → Act A} → ((v : ℕ) → v < 2 ^ bits_of f → Each r (k v)) → Each r (acts.◌>>=◌ (ask f) k)
  unfolding ask acts.◌>>=◌
  each_asked f p = at_ask p

  pub each_put : (f : Field) (v : ℕ) → r.may_put f → Each r (put f v)
  unfolding put
  each_put f v h = at_put h at_done

  pub each_change : (f : Field) (g : ℕ → ℕ) → r.may_put f → Each r (change f g)
  unfolding change
  each_change f g h = at_ask (λ v l. at_put h at_done)

  pub each_look : (s : Setting) → Each r (look s)
  unfolding look
  each_look s = at_look (λ b. at_done)

  pub each_when : (b : Bool) {m : Act (Unit {0})} → (b ≡ true → Each r m) → Each r (when b m)
  unfolding when
  each_when true p = p refl
  each_when false p = at_done

  pub each_cond : {A : Type 0} (b : Bool) {m k : Act A} → (b ≡ true → Each r m) → (b ≡ false → Each r k) → Each r (cond b m k)
  each_cond true p q = p refl
  each_cond false p q = q refl

-- ---- a device as the steps find it

-- `Proper` is of Rattle.rules.proofs.Proper: every value of the declared type stands for such a device
pub typed_proper : (d : HeldDevice) → Typed d → Proper (view d)
typed_proper d t = record { sound = sound d t; size = table-size d t }

pub proper-table : (i n v : ℕ) (d : Device) → Proper d → Proper (with_table d (splice d.table i (bytes n v)))
unfolding own_of parts_of
proper-table i n v d p = record {
  sound = record {
    three = p.sound.three;
    fitting = p.sound.fitting;
    table_bytes = bytes-splice d.table i (bytes n v) p.sound.table_bytes (bytes-bytes n v);
  };
  size = length_splice d.table i (bytes n v) ∙ p.size;
}

pub proper_field : (f : Field) (v : ℕ) (d : Device) → v < 2 ^ bits_in d.chip f → Proper d → Proper (with_field f v d)
proper_field f v d l p = record { sound = put-sound f v d p.sound l; size = ap length (put_law f v d p.sound.three).table ∙ p.size }

pub proper-store : (base : ℕ) (u : World) → Proper u.now.dev → (sp : Space) (a n v : ℕ) → Proper (recorded base sp a n v u).now.dev
unfolding recorded stored with_bytes_of bytes_of
proper-store base u p window a n v = p
proper-store base u p table a n v = proper-table (index_of base table a) n v u.now.dev p

pub proper-put : (f : Field) (v : ℕ) (u : World) → Proper u.now.dev → Proper (cutting f v u).now.dev
unfolding with_device
proper-put f v u p =
    let b = bits_in u.now.dev.chip f in
    proper_field f (v % 2 ^ b) u.now.dev (mod-lt v (pow_pos b)) p

pub fetched_length : (base : ℕ) (sp : Space) (a n : ℕ) (m : Machine) → length (fetched base sp a n m) ≡ n
unfolding fetched
fetched_length base sp a n m = length_part (bytes_of sp m) (index_of base sp a) n

-- ---- what each step within the rights keeps, the act keeps

abbrev pub Properly : (World → Type 0) → World → Type 0
Properly P u = Proper u.now.dev × P u

module _ (base : ℕ) (lent : Lent) (r : Rights) (P : World → Type 0)
    (on_store : (sp : Space) (a n v : ℕ) (u : World) → Proper u.now.dev → r.may_store sp a n → there base sp a n u.now ≡ true → P u → P (recorded base sp a n v u))
    (on_put : (f : Field) (v : ℕ) (u : World) → Proper u.now.dev → r.may_put f → P u → P (cutting f v u))
  where
    pub each_keeps : {A : Type 0} {m : Act A} → Each r m → (u : World) → Properly P u → AtEnd (Properly P) (go base lent m u)
    unfolding go
    each_keeps at_done u p = p
    each_keeps at_endless u p = p
    each_keeps {A} (at_stage {n} {k} h q) u p =
        elim (leb n lent.staging) as (λ b. AtEnd (Properly P) {A = A} (elim b [ true ↦ go base lent k u | false ↦ no 10 u ])) [
          | true ↦ each_keeps q u p
          | false ↦ p
        ]
    each_keeps {A} (at_fetch {sp} {a} {n} {k} h q) u p =
        elim (there base sp a n u.now) as (λ b. AtEnd (Properly P) {A = A} (elim b [ true ↦ go base lent (k (fetched base sp a n u.now)) u | false ↦ no 9 u ])) [
          | true ↦ each_keeps (q (fetched base sp a n u.now) (fetched_length base sp a n u.now)) u p
          | false ↦ p
        ]
    each_keeps {A} (at_store {sp} {a} {n} {v} {k} h q) u p =
        made_or (there base sp a n u.now) (legal sp n) (leb 16 (length u.free)) refl (each_keeps q (recorded base sp a n v u))
      where
        made_or : (b c d : Bool) → there base sp a n u.now ≡ b
            → (Properly P (recorded base sp a n v u) → AtEnd (Properly P) {A = A} (go base lent k (recorded base sp a n v u)))
            → AtEnd (Properly P) {A = A} (elim (b && c) [ true ↦ elim d [ true ↦ go base lent k (recorded base sp a n v u) | false ↦ no 11 u ] | false ↦ no 9 u ])
        made_or false c d e g = p
        made_or true false d e g = p
        made_or true true false e g = p
        made_or true true true e g = g (proper-store base u p.0 sp a n v, on_store sp a n v u p.0 h e p.1)
    each_keeps (at_ask {f} q) u p = each_keeps (q (holds f u.now.dev) (holds_fits f u.now.dev p.0.sound)) u p
    each_keeps (at_put {f} {v} h q) u p = each_keeps q (cutting f v u) (proper-put f v u p.0, on_put f v u p.0 h p.1)
    each_keeps (at_look {s} q) u p = each_keeps (q (setting_of s u.now.dev)) u p
