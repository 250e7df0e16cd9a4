-- Laws of a list in parts of known sizes, and of numbers within their bits there. Assumes nothing.
use mathlib.Core.Path.{◌≡◌, refl, sym, ap, ◌∙◌, subst}
use mathlib.Core.List.{List, [], ◌∷◌, ◌++◌, map}
use Prim.Native.Nat.{ℕ, zero, suc, ◌+◌, ◌^◌, ◌<◌}
use native.Mathlib.Nat.{zero-add, suc-add, add_assoc, not-suc-le-zero, le_of_suc-le-suc}
use native.Mathlib.Omega.{arith}
use lib.ListN.{length, get_or, set, take, drop, get_or-append}
use lib.Pow.{pow_pos}
use lib.Seq.{set-append_left, get_or-append-add, take_at, drop_at}
use Rattle.rules.specs.Fields.{joined}

-- inside a list the default is not met
pub any_default : (l : List ℕ) (i a b : ℕ) → i < length l → get_or l i a ≡ get_or l i b
any_default [] i a b h = absurd (not-suc-le-zero h)
any_default (x ∷ l) zero a b h = refl
any_default (x ∷ l) (suc i) a b h = any_default l i a b (le_of_suc-le-suc h)

-- where part k starts
unfoldable pub start : List ℕ → ℕ → ℕ
start [] k = 0
start (n ∷ ns) zero = 0
start (n ∷ ns) (suc k) = n + start ns k

-- the parts have these sizes
abbrev pub Sized : List ℕ → List (List ℕ) → Type 0
Sized [] [] = Unit {0}
Sized [] (p ∷ ps) = ⊥
Sized (n ∷ ns) [] = ⊥
Sized (n ∷ ns) (p ∷ ps) = (length p ≡ n) × Sized ns ps

set_after : (p r : List ℕ) (i v : ℕ) → set (p ++ r) (length p + i) v ≡ p ++ set r i v
set_after [] r i v = ap (λ n. set r n v) (zero-add i)
set_after (x ∷ p) r i v = ap (λ n. set (x ∷ (p ++ r)) n v) (suc-add (length p) i) ∙ ap (λ l. x ∷ l) (set_after p r i v)

-- element i of part k stored
pub set_part : (ns : List ℕ) (ps : List (List ℕ)) → Sized ns ps → (k i v : ℕ) → i < get_or ns k 0
    → set (joined ps) (start ns k + i) v ≡ joined (set ps k (set (get_or ps k []) i v))
unfolding joined start
set_part [] [] s zero i v h = absurd (not-suc-le-zero h)
set_part [] [] s (suc k) i v h = absurd (not-suc-le-zero h)
set_part [] (p ∷ ps) s k i v h = absurd s
set_part (n ∷ ns) [] s k i v h = absurd s
set_part (n ∷ ns) (p ∷ ps) s zero i v h = rw zero-add (set-append_left p (joined ps) i v (omega (arith, s.0)))
set_part (n ∷ ns) (p ∷ ps) s (suc k) i v h =
    rw (add_assoc, ← s.0, set_after p (joined ps) (start ns k + i) v) (ap (λ l. p ++ l) (set_part ns ps s.1 k i v h))

-- and read
pub get_part : (ns : List ℕ) (ps : List (List ℕ)) → Sized ns ps → (k i : ℕ) → i < get_or ns k 0 → get_or (joined ps) (start ns k + i) 0 ≡ get_or (get_or ps k []) i 0
unfolding joined start
get_part [] [] s zero i h = absurd (not-suc-le-zero h)
get_part [] [] s (suc k) i h = absurd (not-suc-le-zero h)
get_part [] (p ∷ ps) s k i h = absurd s
get_part (n ∷ ns) [] s k i h = absurd s
get_part (n ∷ ns) (p ∷ ps) s zero i h = rw zero-add (get_or-append p (joined ps) 0 i (omega (arith, s.0)))
get_part (n ∷ ns) (p ∷ ps) s (suc k) i h = rw (add_assoc, ← s.0, get_or-append-add p (joined ps) (start ns k + i) 0) (get_part ns ps s.1 k i h)

-- the whole determines the parts
pub parts_same : (ns : List ℕ) (ps qs : List (List ℕ)) → Sized ns ps → Sized ns qs → joined ps ≡ joined qs → ps ≡ qs
unfolding joined
parts_same [] [] [] s t e = refl
parts_same [] [] (q ∷ qs) s t e = absurd t
parts_same [] (p ∷ ps) qs s t e = absurd s
parts_same (n ∷ ns) [] qs s t e = absurd s
parts_same (n ∷ ns) (p ∷ ps) [] s t e = absurd t
parts_same (n ∷ ns) (p ∷ ps) (q ∷ qs) s t e =
    let a : p ≡ q = sym (take_at p (joined ps) n s.0) ∙ ap (take n) e ∙ take_at q (joined qs) n t.0 in
    let b : ps ≡ qs = parts_same ns ps qs s.1 t.1 (sym (drop_at p (joined ps) n s.0) ∙ ap (drop n) e ∙ drop_at q (joined qs) n t.0) in
    rw (a, b)

-- ---- numbers within their bits, in one list and in parts

abbrev pub Within : List ℕ → List ℕ → Type 0
Within [] [] = Unit {0}
Within [] (x ∷ xs) = ⊥
Within (b ∷ bs) [] = ⊥
Within (b ∷ bs) (x ∷ xs) = (x < 2 ^ b) × Within bs xs

abbrev pub Fitting : List (List ℕ) → List (List ℕ) → Type 0
Fitting [] [] = Unit {0}
Fitting [] (p ∷ ps) = ⊥
Fitting (b ∷ bs) [] = ⊥
Fitting (b ∷ bs) (p ∷ ps) = Within b p × Fitting bs ps

within_length : (bs xs : List ℕ) → Within bs xs → length xs ≡ length bs
within_length [] [] h = refl
within_length [] (x ∷ xs) h = absurd h
within_length (b ∷ bs) [] h = absurd h
within_length (b ∷ bs) (x ∷ xs) h = ap suc (within_length bs xs h.1)

pub within_set : (bs xs : List ℕ) (i v : ℕ) → Within bs xs → (i < length bs → v < 2 ^ get_or bs i 0) → Within bs (set xs i v)
within_set [] [] i v h k = tt
within_set [] (x ∷ xs) i v h k = absurd h
within_set (b ∷ bs) [] i v h k = absurd h
within_set (b ∷ bs) (x ∷ xs) zero v h k = (k (omega arith), h.1)
within_set (b ∷ bs) (x ∷ xs) (suc i) v h k = (h.0, within_set bs xs i v h.1 (λ l. k (omega arith)))

within_append : (bs xs cs ys : List ℕ) → Within bs xs → Within cs ys → Within (bs ++ cs) (xs ++ ys)
within_append [] [] cs ys h k = k
within_append [] (x ∷ xs) cs ys h k = absurd h
within_append (b ∷ bs) [] cs ys h k = absurd h
within_append (b ∷ bs) (x ∷ xs) cs ys h k = (h.0, within_append bs xs cs ys h.1 k)

-- element i of part k
abbrev pub set_in : List (List ℕ) → ℕ × ℕ → ℕ → List (List ℕ)
set_in ps s v = set ps s.0 (set (get_or ps s.0 []) s.1 v)

pub fitting_set : (bs ps : List (List ℕ)) (k i v : ℕ) → Fitting bs ps → (i < length (get_or bs k []) → v < 2 ^ get_or (get_or bs k []) i 0)
    → Fitting bs (set_in ps (k, i) v)
fitting_set [] [] k i v h g = tt
fitting_set [] (p ∷ ps) k i v h g = absurd h
fitting_set (b ∷ bs) [] k i v h g = absurd h
fitting_set (b ∷ bs) (p ∷ ps) zero i v h g = (within_set b p i v h.0 g, h.1)
fitting_set (b ∷ bs) (p ∷ ps) (suc k) i v h g = (h.0, fitting_set bs ps k i v h.1 g)

pub fitting_joined : (bs ps : List (List ℕ)) → Fitting bs ps → Within (joined bs) (joined ps)
unfolding joined
fitting_joined [] [] h = tt
fitting_joined [] (p ∷ ps) h = absurd h
fitting_joined (b ∷ bs) [] h = absurd h
fitting_joined (b ∷ bs) (p ∷ ps) h = within_append b p (joined bs) (joined ps) h.0 (fitting_joined bs ps h.1)

pub fitting_sized : (bs ps : List (List ℕ)) → Fitting bs ps → Sized (map length bs) ps
fitting_sized [] [] h = tt
fitting_sized [] (p ∷ ps) h = absurd h
fitting_sized (b ∷ bs) [] h = absurd h
fitting_sized (b ∷ bs) (p ∷ ps) h = (within_length b p h.0, fitting_sized bs ps h.1)

within_get : (bs xs : List ℕ) (i c : ℕ) → Within bs xs → (i < length bs → get_or bs i 0 ≡ c) → get_or xs i 0 < 2 ^ c
within_get [] [] i c h k = pow_pos c
within_get [] (x ∷ xs) i c h k = absurd h
within_get (b ∷ bs) [] i c h k = absurd h
within_get (b ∷ bs) (x ∷ xs) zero c h k = subst (λ z. x < 2 ^ z) (k (omega arith)) h.0
within_get (b ∷ bs) (x ∷ xs) (suc i) c h k = within_get bs xs i c h.1 (λ l. k (omega arith))

pub fitting_get : (bs ps : List (List ℕ)) (k i c : ℕ) → Fitting bs ps → (i < length (get_or bs k []) → get_or (get_or bs k []) i 0 ≡ c) → get_or (get_or ps k []) i 0 < 2 ^ c
fitting_get [] [] k i c h g = pow_pos c
fitting_get [] (p ∷ ps) k i c h g = absurd h
fitting_get (b ∷ bs) [] k i c h g = absurd h
fitting_get (b ∷ bs) (p ∷ ps) zero i c h g = within_get b p i c h.0 g
fitting_get (b ∷ bs) (p ∷ ps) (suc k) i c h g = fitting_get bs ps k i c h.1 g
