-- What was read so far, and where it stands in the records: byte by byte the two are the same. Assumes nothing.
use Rattle.std.proofs.Common.{◌≡◌, ℕ, zero, suc, ◌+◌, ◌-◌, ◌*◌, ◌/◌, ◌%◌, ◌^◌, ◌<◌, ◌≤◌, Bool, true, false, cond, ltb, List, [], ◌∷◌, ◌++◌, length, get_or, sym, refl, ap, ◌∙◌, inl, inr, mod-eq_of_lt, suc-mul, add_comm, add-one, arith, length-append, get_or-append-add, ltb-false, ltb-true, le-ltb, lt-ltb}
use lib.ListN.{get_or-append}
use Rattle.rules.specs.Bytes.{Bytes, bytes, number, part}
use Rattle.rules.proofs.BytesLaws.{part_append, part-part, get_or-part, length_part, length_bytes, bytes-part, bytes-add, bytes_of_value, number_append, value_lt}
use Rattle.captures.specs.Capture.{value_of, record_at}
use Rattle.judge.specs.Walks.{a_unit, source_byte, source_bytes, source_number}
use Rattle.judge.proofs.Cases.{get_or_past}

-- ---- in which record byte j stands

below : (unit i j : ℕ) → a_unit unit → j < i * unit → j / unit < i
below unit i j (inl e) h = let l : j < i * 1 = rw e at h in rw e (omega arith)
below unit i j (inr (inl e)) h = let l : j < i * 2 = rw e at h in rw e (omega arith)
below unit i j (inr (inr e)) h = let l : j < i * 4 = rw e at h in rw e (omega arith)

within : (unit i k : ℕ) → a_unit unit → k < unit → ((i * unit + k) / unit ≡ i) × ((i * unit + k) % unit ≡ k)
within unit i k (inl e) h = let l : k < 1 = rw e at h in rw e (omega arith, omega arith)
within unit i k (inr (inl e)) h = let l : k < 2 = rw e at h in rw e (omega arith, omega arith)
within unit i k (inr (inr e)) h = let l : k < 4 = rw e at h in rw e (omega arith, omega arith)

above : (unit i k : ℕ) → a_unit unit → unit ≤ k → suc i ≤ (i * unit + k) / unit
above unit i k (inl e) h = let l : 1 ≤ k = rw e at h in rw e (omega arith)
above unit i k (inr (inl e)) h = let l : 2 ≤ k = rw e at h in rw e (omega arith)
above unit i k (inr (inr e)) h = let l : 4 ≤ k = rw e at h in rw e (omega arith)

-- ---- a value's low bytes stand at the end of its record

low-bytes : (xs ys : List ℕ) → Bytes ys → bytes (length ys) (number (xs ++ ys)) ≡ ys
low-bytes xs ys b =
    ap (bytes (length ys)) (number_append xs ys ∙ add_comm (number xs * 256 ^ length ys) (number ys))
    ∙ bytes-add (length ys) (number xs) (number ys)
    ∙ bytes_of_value ys b

low_part : (l : List ℕ) (o unit : ℕ) → unit ≤ 8 → Bytes l → bytes unit (number (part l (o + 8) 8)) ≡ part l (o + (16 - unit)) unit
low_part l o unit h b =
    let eight : 8 ≡ 8 - unit + unit = omega arith in
    let place : o + 8 + (8 - unit) ≡ o + (16 - unit) = omega arith in
    let front = part l (o + 8) (8 - unit) in
    let back = part l (o + 8 + (8 - unit)) unit in
    ap (λ (n : ℕ). bytes unit (number (part l (o + 8) n))) eight
    ∙ ap (λ (x : List ℕ). bytes unit (number x)) (part_append l (o + 8) (8 - unit) unit)
    ∙ ap (λ (n : ℕ). bytes n (number (front ++ back))) (sym (length_part l (o + 8 + (8 - unit)) unit))
    ∙ low-bytes front back (bytes-part l (o + 8 + (8 - unit)) unit b)
    ∙ ap (λ (k : ℕ). part l k unit) place

value-bytes : (file : List ℕ) (i unit : ℕ) → unit ≤ 8 → Bytes file → bytes unit (value_of (record_at file i)) ≡ part file (16 * i + (16 - unit)) unit
unfolding value_of record_at
value-bytes file i unit h b = ap (λ (x : List ℕ). bytes unit (number x)) (part-part file (16 * i) 16 8 8 (omega arith)) ∙ low_part file (16 * i) unit h b

-- ---- what was read

module _ (file : List ℕ) (unit : ℕ) where
  -- byte by byte what the first n records have
  abbrev pub Known : ℕ → List ℕ → Type 0
  Known n got = (j : ℕ) → get_or got j 0 ≡ source_byte file 0 unit n j

  in_file : (n j q : ℕ) → j / unit ≡ q → q < n → source_byte file 0 unit n j ≡ get_or file (16 * q + (16 - unit + j % unit)) 0
  unfolding source_byte
  in_file n j q e h =
      let z : q - 0 ≡ q = omega arith in
      rw (e, lt-ltb q n h, le-ltb q 0 (omega arith), z)

  past_file : (n j : ℕ) → n ≤ j / unit → source_byte file 0 unit n j ≡ 0
  unfolding source_byte
  past_file n j h = rw (le-ltb (j / unit) n h)

  pub nothing_known : Known 0 []
  nothing_known j = sym (past_file 0 j (omega arith))

  -- one more read
  module _ (u : a_unit unit) (b : Bytes file) (i : ℕ) (got : List ℕ) (k : Known i got) (long : length got ≡ i * unit) where
    few : unit ≤ 8
    few = by u
      where
        by : a_unit unit → unit ≤ 8
        by (inl e) = omega arith
        by (inr (inl e)) = omega arith
        by (inr (inr e)) = omega arith

    pub longer : length (got ++ bytes unit (value_of (record_at file i))) ≡ suc i * unit
    longer = length-append got (bytes unit (value_of (record_at file i))) ∙ ap (λ (n : ℕ). length got + n) (length_bytes unit (value_of (record_at file i))) ∙ ap (λ (n : ℕ). n + unit) long ∙ sym (suc-mul i unit)

    early : (j : ℕ) → j < length got → get_or (got ++ bytes unit (value_of (record_at file i))) j 0 ≡ source_byte file 0 unit (suc i) j
    early j h =
        let low : j / unit < i = below unit i j u (rw long at h) in
        get_or-append got (bytes unit (value_of (record_at file i))) 0 j h
        ∙ k j
        ∙ in_file i j (j / unit) refl low
        ∙ sym (in_file (suc i) j (j / unit) refl (omega arith))

    late : (m : ℕ) → get_or (got ++ bytes unit (value_of (record_at file i))) (length got + m) 0 ≡ source_byte file 0 unit (suc i) (length got + m)
    late m =
        get_or-append-add got (bytes unit (value_of (record_at file i))) m 0
        ∙ ap (λ (l : List ℕ). get_or l m 0) (value-bytes file i unit few b)
        ∙ by (ltb m unit) refl
        ∙ ap (λ (n : ℕ). source_byte file 0 unit (suc i) (n + m)) (sym long)
      where
        by : (t : Bool) → ltb m unit ≡ t → get_or (part file (16 * i + (16 - unit)) unit) m 0 ≡ source_byte file 0 unit (suc i) (i * unit + m)
        by true e =
            let h : m < unit = ltb-true m unit e in
            let w = within unit i m u h in
            let place : 16 * i + (16 - unit) + m ≡ 16 * i + (16 - unit + (i * unit + m) % unit) = omega (arith, w.1) in
            get_or-part file (16 * i + (16 - unit)) unit m h
            ∙ ap (λ (n : ℕ). get_or file n 0) place
            ∙ sym (in_file (suc i) (i * unit + m) i w.0 (omega arith))
        by false e =
            let h : unit ≤ m = ltb-false m unit e in
            sym (get_or_past (part file (16 * i + (16 - unit)) unit) m (omega (arith, h, length_part file (16 * i + (16 - unit)) unit)))
            ∙ sym (past_file (suc i) (i * unit + m) (above unit i m u h))

    pub more_known : Known (suc i) (got ++ bytes unit (value_of (record_at file i)))
    more_known j = by (ltb j (length got)) refl
      where
        by : (t : Bool) → ltb j (length got) ≡ t → get_or (got ++ bytes unit (value_of (record_at file i))) j 0 ≡ source_byte file 0 unit (suc i) j
        by true e = early j (ltb-true j (length got) e)
        by false e =
            let h : length got ≤ j = ltb-false j (length got) e in
            let place : length got + (j - length got) ≡ j = omega arith in
            rw place at (late (j - length got))

  -- ---- so is a part of it, and the number that a part spells

  part_known : (n : ℕ) (got : List ℕ) → Known n got → (j w : ℕ) → part got j w ≡ source_bytes file 0 unit n j w
  unfolding part source_bytes
  part_known n got k j zero = refl
  part_known n got k j (suc w) =
      λ z. k j z ∷ (part_known n got k (suc j) w ∙ ap (λ (x : ℕ). source_bytes file 0 unit n x w) (sym (add-one j))) z

  byte_known : Bytes file → (n j : ℕ) → source_byte file 0 unit n j < 256
  unfolding source_byte
  byte_known b n j = by (ltb (j / unit) n) (ltb (j / unit) 0)
    where
      by : (s t : Bool) → cond s (cond t 0 (get_or file (16 * (j / unit - 0) + (16 - unit + j % unit)) 0)) 0 < 256
      by true true = omega arith
      by true false = b (16 * (j / unit - 0) + (16 - unit + j % unit))
      by false t = omega arith

  pub number_known : Bytes file → (n : ℕ) (got : List ℕ) → Known n got → (j w : ℕ) → number (part got j w) % 256 ^ w ≡ source_number file 0 unit n j w
  unfolding source_number
  number_known b n got k j w =
      let whole : Bytes got = λ m. rw (k m) (byte_known b n m) in
      let fits : number (part got j w) < 256 ^ w = rw (length_part got j w) at (value_lt (part got j w) (bytes-part got j w whole)) in
      mod-eq_of_lt fits ∙ ap number (part_known n got k j w)
