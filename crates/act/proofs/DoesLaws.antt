-- What functions on a device by value do, put together: the single steps, and one act after another. Assumes nothing.
use mathlib.Core.Path.{refl, ◌∙◌}
use Prim.Native.Nat.{ℕ, ◌%◌, ◌^◌, ◌<◌}
use Rattle.rules.specs.Act.{Act, Field, done, ask, put, change, ◌>>=◌, ◌>>◌}
use Rattle.rules.specs.Carry.{go, with_device}
use Rattle.rules.specs.Fields.{bits_in, holds, with_field}
use Rattle.rules.specs.State.{Device}
use Rattle.rules.proofs.Steps.{bind_ok, put-does, change-does}
use Rattle.act.specs.Does.{beside, Answers, Does}

-- ---- one step

module _ (d : Device) where
  pub answers-done : {A : Type 0} (a : A) → Answers (done a) d a d
  unfolding Answers go
  answers-done a base lent mem used free = refl

  pub answers-ask : (f : Field) → Answers (ask f) d (holds f d) d
  unfolding Answers go ask
  answers-ask f base lent mem used free = refl

  -- a field gets a value, cut to its bits in the mode; and one within them
  pub does-cut : (f : Field) (v : ℕ) → Does (put f v) d (with_field f (v % 2 ^ bits_in d.chip f) d)
  unfolding Answers go put with_device
  does-cut f v base lent mem used free = refl

  pub does-put : (f : Field) (v : ℕ) → v < 2 ^ bits_in d.chip f → Does (put f v) d (with_field f v d)
  unfolding Answers with_device
  does-put f v h base lent mem used free = put-does base lent (beside mem used free d) f v h

  pub does-change : (f : Field) (g : ℕ → ℕ) → g (holds f d) < 2 ^ bits_in d.chip f → Does (change f g) d (with_field f (g (holds f d)) d)
  unfolding Answers with_device
  does-change f g h base lent mem used free = change-does base lent (beside mem used free d) f g h

-- ---- one act after another: it goes on where the first one ended, with its answer

pub answers_bind : {A B : Type 0} (m : Act A) (f : A → Act B) (d e r : Device) (a : A) (b : B) → Answers m d a e → Answers (f a) e b r → Answers (m >>= f) d b r
unfolding Answers
answers_bind m f d e r a b h k base lent mem used free =
    bind_ok base lent m f (beside mem used free d) (h base lent mem used free) ∙ k base lent mem used free

pub answers_then : {A B : Type 0} (m : Act A) (k : Act B) (d e r : Device) (a : A) (b : B) → Answers m d a e → Answers k e b r → Answers (m >> k) d b r
unfolding ◌>>◌
answers_then m k d e r a b h g = answers_bind m (λ _. k) d e r a b h g
