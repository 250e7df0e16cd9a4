-- Demand 3 of rows of entries, each on the image, window and journal that the one before it left, with the used length read off its answer: device,
-- window and used journal are what the entries still standing, made alone in order, give; these are accepted and answer the same; and what a
-- take-back answers. Of an image that device is compared that stands in it: of a priority "only the low six bits are [..] compared" (document 02, [10]);
-- and the image, byte by byte, where the row began with no other bits in it. Assumes nothing.
use Rattle.std.specs.Prelude.{None}
use mathlib.Core.Bool.{true, false}
use mathlib.Core.List.{List, [], ◌∷◌}
use mathlib.Core.Logic.{◌↔◌}
use mathlib.Core.Path.{◌≡◌, refl, sym, ap, ◌∙◌, subst}
use Prim.Native.Nat.{ℕ, zero, suc, ◌%◌, ◌^◌, ◌≤◌, ◌<◌}
use native.Mathlib.Omega.{arith}
use lib.ListN.{length}
use Rattle.rules.specs.Bytes.{Bytes}
use Rattle.rules.specs.Calls.{Told, told, number_told, device_told, heard_told, after, after_back, ToldRead, after_read}
use Rattle.rules.specs.Carry.{After, made, unmade}
use Rattle.rules.specs.State.{Device}
use Rattle.rules.specs.Verdicts.{Heard}
use Rattle.rules.proofs.Along.{Along, make_along, back_along}
use Rattle.rules.proofs.Bench.{Held, RowCall, act, read, amiss, amiss_back, read_number, ended, ended_amiss, make_held, back_held}
use Rattle.rules.proofs.CallLaws.{AsGiven, act_as_given, back_as_given}
use Rattle.rules.proofs.Proper.{Proper}
use Rattle.rules.proofs.Hearing.{Audible, act_hears, back_hears}
use Rattle.rules.proofs.History.{Entry, Walk, walk, Alone}
use Rattle.rules.proofs.Lasts.{Ending}
use Rattle.rules.proofs.Stays.{act_keeps-proper, back_keeps-proper}
use Rattle.rules.proofs.Through.{carried, carried_walk, walk_keeps, alone-keeps, walk_through}
use Rattle.image.specs.Image.{image_of, chip_in, device_in, is_image}
use Rattle.image.proofs.Round.{proper_round, proper_in}
use Rattle.image.proofs.Rows.{image_old}
use Rattle.answers.specs.Answers.{Left, left, left_by}
use Rattle.answers.proofs.Reading.{read_status}
use Rattle.answers.specs.Answers.{status_in}
use Rattle.answers.proofs.Rows.{Shelf, compared_shelf, ended_entry, ended_aside, Opens, used_told, used_fits, shelf_of, entry_ended, aside_ended, rows_same_as_alone, rows_last_taken_back, rows_refused_12}
use Rattle.entries.specs.Entry.{image_after, entered, entered_read}
use Rattle.entries.proofs.Lifts.{made_lifts, alone_lifts}

abbrev pub ImageShelf : Type 0
ImageShelf = Shelf (List ℕ)

-- with the device that stands in the image
abbrev pub seen : ImageShelf → Shelf Device
seen s = record { device = device_in s.device; window = s.window; journal = s.journal; used = s.used }

-- an image with no bits in it but those that count: the image of the device that stands in it. In the old mode each is
abbrev pub Plain : List ℕ → Type 0
Plain image = image_of (device_in image) ≡ image

pub old_plain : (image : List ℕ) → is_image image ≡ true → chip_in image ≡ false → Plain image
old_plain image h e = image_old image h e

plain_same : (image image' : List ℕ) → Plain image → Plain image' → device_in image ≡ device_in image' → image ≡ image'
plain_same image image' p q e = sym p ∙ ap image_of e ∙ q

module _ (base : ℕ) where
  -- by the entries' contracts; those of the entries that are not lent a window hold for every base, window and staging
  unfoldable pub make_entry : RowCall → ImageShelf → After Heard ImageShelf
  make_entry (act c staging) s =
      ended_entry (entered s.device s.window staging s.journal s.used (after c base (device_in s.device) s.window staging s.journal s.used))
  make_entry (read address size) s = unmade (status_in (entered_read s.device (after_read (device_in s.device) address size))) s
  make_entry (amiss c b window staging journal used bad) s =
      ended_aside s (entered s.device window staging journal used (after c b (device_in s.device) window staging journal used))
  make_entry (amiss_back b window journal used bad) s = ended_aside s (entered s.device window [] journal used (after_back b (device_in s.device) window journal used))

  unfoldable pub back_entry : ImageShelf → After Heard ImageShelf
  back_entry s = ended_entry (entered s.device s.window [] s.journal s.used (after_back base (device_in s.device) s.window s.journal s.used))

  -- where a row leads, its last entry first
  abbrev pub entered_row : ImageShelf → List (Entry RowCall) → Walk RowCall Heard ImageShelf
  entered_row start row = walk make_entry back_entry start row

  -- entries, the last one first, made alone in order from the start: all are accepted, with these answers, and lead to s
  abbrev pub EnteredAlone : ImageShelf → List (RowCall × Heard) → ImageShelf → Type 0
  EnteredAlone start cs s = Alone make_entry start cs s

-- ---- what is seen of a shelf is a bench's, and the bench's calls are made on it

abbrev held : Shelf Device → Held
held v = record { device = v.device; window = v.window; journal = v.journal; used = v.used }

abbrev itself : Held → Shelf Device
itself = shelf_of (λ d. d)

abbrev make_seen : ℕ → RowCall → Shelf Device → After Heard (Shelf Device)
make_seen base c v = carried (λ a. a) itself (make_held base c (held v))

abbrev back_seen : ℕ → Shelf Device → After Heard (Shelf Device)
back_seen base v = carried (λ a. a) itself (back_held base (held v))

-- a device d laid down behind an image: an image in which it stands, with no other bits where there were none
record Laid (image after : List ℕ) (d : Device) : Type 0 where
  passes : is_image after ≡ true
  stands : device_in after ≡ d
  plain : Plain image → Plain after

-- the end o of an entry on an image is the bench's b, its device laid down; and the image is the same where the call is not made
record SeenAs (image : List ℕ) (o : After Heard ImageShelf) (b : After Heard Held) : Type 0 where
  laid : Device → List ℕ
  is : o ≡ carried (λ a. a) (shelf_of laid) b
  images : Ending (λ (h : Held). Laid image (laid h.device) h.device) b
  leaves : (n : ℕ) (h : Held) → b ≡ unmade n h → laid h.device ≡ image

-- on a row that begins with an image a shelf has an image of a proper device, and window and journal are as long as they were
record Stands (first : List ℕ) (n k : ℕ) (s : ImageShelf) : Type 0 where
  image : is_image s.device ≡ true
  plain : Plain first → Plain s.device
  along : Along n k (held (seen s))

seen_ends : (image : List ℕ) (o : After Heard ImageShelf) (b : After Heard Held) → SeenAs image o b → carried (λ a. a) itself b ≡ carried (λ a. a) seen o
seen_ends image o (made a h) s = sym (ap (carried (λ (a : Heard). a) seen) s.is ∙ ap (λ (d : Device). made a (record { device = d; window = h.window; journal = h.journal; used = h.used })) s.images.stands)
seen_ends image o (unmade i h) s = sym (ap (carried (λ (a : Heard). a) seen) s.is ∙ ap (λ (d : Device). unmade i (record { device = d; window = h.window; journal = h.journal; used = h.used })) s.images.stands)

module _ (first : List ℕ) (n k : ℕ) (s : ImageShelf) (before : Stands first n k s) where
  stands_at : (h : Held) (laid : Device → List ℕ) → Laid s.device (laid h.device) h.device → Along n k h → Stands first n k (shelf_of laid h)
  stands_at h laid l a = record {
    image = l.passes;
    plain = λ p. l.plain (before.plain p);
    along = subst (λ (d : Device). Along n k (record { device = d; window = h.window; journal = h.journal; used = h.used })) (sym l.stands) a;
  }

  stands-ends : (o : After Heard ImageShelf) (b : After Heard Held) → SeenAs s.device o b → Ending (Along n k) b → Ending (Stands first n k) o
  stands-ends o (made a h) v l = subst (Ending (Stands first n k)) (sym v.is) (stands_at h v.laid v.images l)
  stands-ends o (unmade i h) v l = subst (Ending (Stands first n k)) (sym v.is) (stands_at h v.laid v.images l)

-- ---- an entry on an image is the bench's call on the device in it

module _ (image window journal : List ℕ) (used : ℕ) (passes : is_image image ≡ true) where
  -- the image after a call, if the call keeps devices proper and leaves a device where it is refused
  image_stands : (t : Told) → Proper (device_told t) → AsGiven (device_in image) window journal used t
      → Laid image (image_after image (number_told t) (device_told t)) (device_told t)
  image_stands (told zero heard d w s j u) p g = let r = proper_round d p in record { passes = r.0; stands = r.1; plain = λ _. ap image_of r.1 }
  image_stands (told (suc n) heard d w s j u) p g = record { passes = passes; stands = sym g.0; plain = λ q. q }

  entered_is : (staging : List ℕ) (t : Told) → entered image window staging journal used t ≡ left_by (image_after image (number_told t)) t
  unfolding entered
  entered_is staging t = rw passes

ended-stands : (P : Device → Type 0) (t : Told) → P (device_told t) → Ending (λ (h : Held). P h.device) (ended t)
ended-stands P (told zero heard d w s j u) p = p
ended-stands P (told (suc n) heard d w s j u) p = p

amiss_stands : (P : Device → Type 0) (h : Held) (t : Told) → P (device_told t) → Ending (λ (h : Held). P h.device) (ended_amiss h t)
amiss_stands P h (told zero heard d w s j u) p = p
amiss_stands P h (told (suc n) heard d w s j u) p = p

leaves_ended : (image : List ℕ) (t : Told) (n : ℕ) (h : Held) → ended t ≡ unmade n h → image_after image (number_told t) h.device ≡ image
leaves_ended image (told zero heard d w s j u) n h e = absurd (let z : ◌≡◌ {A = ℕ} 0 1 = cc in omega arith)
leaves_ended image (told (suc m) heard d w s j u) n h e = refl

leaves_amiss : (image : List ℕ) (k : Held) (t : Told) (n : ℕ) (h : Held) → ended_amiss k t ≡ unmade n h → image_after image (number_told t) h.device ≡ image
leaves_amiss image k (told zero heard d w s j u) n h e = absurd (let z : ◌≡◌ {A = ℕ} 0 1 = cc in omega arith)
leaves_amiss image k (told (suc m) heard d w s j u) n h e = refl

-- of what stands aside no image counts
beside : (s : ImageShelf) (of : Device → List ℕ) (l : Left (List ℕ)) → ended_aside s l ≡ ended_aside (shelf_of of (held (seen s))) l
beside s of (left r image window staging journal) = refl

module _ (s : ImageShelf) (passes : is_image s.device ≡ true) where
  abbrev h : Held
  h = held (seen s)

  act_as : (staging : List ℕ) (t : Told) → Audible (heard_told t) → used_told t < 2 ^ 32 → Proper (device_told t) → AsGiven h.device h.window h.journal h.used t
      → SeenAs s.device (ended_entry (entered s.device s.window staging s.journal s.used t)) (ended t)
  act_as staging t a l p g =
      let of : Device → List ℕ = image_after s.device (number_told t) in
      record {
        laid = of;
        is = ap ended_entry (entered_is s.device s.window s.journal s.used passes staging t) ∙ entry_ended of t a l;
        images = ended-stands (λ d. Laid s.device (of d) d) t (image_stands s.device s.window s.journal s.used passes t p g);
        leaves = leaves_ended s.device t;
      }

  amiss_as : (window staging journal : List ℕ) (used : ℕ) (t : Told) → Audible (heard_told t) → Proper (device_told t) → AsGiven h.device window journal used t
      → SeenAs s.device (ended_aside s (entered s.device window staging journal used t)) (ended_amiss h t)
  amiss_as window staging journal used t a p g =
      let of : Device → List ℕ = image_after s.device (number_told t) in
      record {
        laid = of;
        is = ap (ended_aside s) (entered_is s.device window journal used passes staging t) ∙ beside s of (left_by of t) ∙ aside_ended of h t a;
        images = amiss_stands (λ d. Laid s.device (of d) d) h t (image_stands s.device window journal used passes t p g);
        leaves = leaves_amiss s.device h t;
      }

read_entered : (image : List ℕ) (t : ToldRead) → is_image image ≡ true → status_in (entered_read image t) ≡ read_number t
unfolding entered_read
read_entered image t e = rw e (read_status t)

module _ (first : List ℕ) (base n k : ℕ) (few : k ≤ 2 ^ 28) where
  make_as : (c : RowCall) (s : ImageShelf) → Stands first n k s → SeenAs s.device (make_entry base c s) (make_held base c (held (seen s)))
  unfolding make_entry make_held
  make_as (act c staging) s a =
      let d = device_in s.device in
      let t = after c base d s.window staging s.journal s.used in
      act_as s a.image staging t (act_hears c base d s.window staging s.journal s.used) (used_fits n k few t (make_along base n k (act c staging) (held (seen s)) a.along))
      (act_keeps-proper base d s.window s.journal s.used c staging a.along.proper) (act_as_given base d s.window s.journal s.used c staging)
  make_as (read address size) s a = record {
    laid = λ _. s.device;
    is = ap (λ (i : ℕ). unmade i s) (read_entered s.device (after_read (device_in s.device) address size) a.image);
    images = record { passes = a.image; stands = refl; plain = λ q. q };
    leaves = λ _ _ _. refl;
  }
  make_as (amiss c b window staging journal used bad) s a =
      let d = device_in s.device in
      amiss_as s a.image window staging journal used (after c b d window staging journal used) (act_hears c b d window staging journal used)
      (act_keeps-proper b d window journal used c staging a.along.proper) (act_as_given b d window journal used c staging)
  make_as (amiss_back b window journal used bad) s a =
      let d = device_in s.device in
      amiss_as s a.image window [] journal used (after_back b d window journal used) (subst Audible (sym (back_hears b d window journal used)) tt)
      (back_keeps-proper b d window journal used a.along.proper) (back_as_given b d window journal used)

  back_as : (s : ImageShelf) → Stands first n k s → SeenAs s.device (back_entry base s) (back_held base (held (seen s)))
  unfolding back_entry back_held
  back_as s a =
      let d = device_in s.device in
      let t = after_back base d s.window s.journal s.used in
      act_as s a.image [] t (subst Audible (sym (back_hears base d s.window s.journal s.used)) tt) (used_fits n k few t (back_along base n k (held (seen s)) a.along))
      (back_keeps-proper base d s.window s.journal s.used a.along.proper) (back_as_given base d s.window s.journal s.used)

  make_keeps : (c : RowCall) (s : ImageShelf) → Stands first n k s → Ending (Stands first n k) (make_entry base c s)
  make_keeps c s a = stands-ends first n k s a _ _ (make_as c s a) (make_along base n k c (held (seen s)) a.along)

  back_keeps : (s : ImageShelf) → Stands first n k s → Ending (Stands first n k) (back_entry base s)
  back_keeps s a = stands-ends first n k s a _ _ (back_as s a) (back_along base n k (held (seen s)) a.along)

  same_make : (c : RowCall) (s : ImageShelf) → Stands first n k s → make_seen base c (seen s) ≡ carried (λ a. a) seen (make_entry base c s)
  same_make c s a = seen_ends s.device (make_entry base c s) (make_held base c (held (seen s))) (make_as c s a)

  same_back : (s : ImageShelf) → Stands first n k s → back_seen base (seen s) ≡ carried (λ a. a) seen (back_entry base s)
  same_back s a = seen_ends s.device (back_entry base s) (back_held base (held (seen s))) (back_as s a)

-- ---- demand 3

-- where a row begins: with an image
pub record Begins (base : ℕ) (s : ImageShelf) : Type 0 where
  pub image_passes : is_image s.device ≡ true
  pub image_bytes : Bytes s.device
  pub opens : Opens base s

module _ (base : ℕ) (start : ImageShelf) (begins : Begins base start) where
  abbrev n : ℕ
  n = length start.window

  abbrev k : ℕ
  k = length start.journal

  -- what is seen of the start
  abbrev own : Held
  own = held (seen start)

  own_proper : Proper own.device
  own_proper = proper_in start.device begins.image_bytes

  own_opens : Opens base (itself own)
  own_opens = record {
    empty = begins.opens.empty;
    room = begins.opens.room;
    window_passes = begins.opens.window_passes;
    window_bytes = begins.opens.window_bytes;
  }

  at_start : Stands start.device n k start
  at_start = record {
    image = begins.image_passes;
    plain = λ p. p;
    along = record {
      long = record { window_is = refl; journal_is = refl; whole = ap (λ (u : ℕ). u % 16) begins.opens.empty; within = omega (arith, begins.opens.empty) };
      proper = own_proper;
    };
  }

  -- the row as it is seen
  row_seen : (row : List (Entry RowCall)) → walk (make_seen base) (back_seen base) (seen start) row ≡ carried_walk seen (entered_row base start row)
  row_seen row =
      walk_through (make_entry base) (make_seen base) seen (Stands start.device n k) (make_keeps start.device base n k begins.opens.room) (same_make start.device base n k begins.opens.room) (back_entry base)
      (back_seen base) (λ (a : Heard). a) (back_keeps start.device base n k begins.opens.room) (same_back start.device base n k begins.opens.room) start at_start row

  row_stands : (row : List (Entry RowCall)) → Stands start.device n k (entered_row base start row).here
  row_stands row =
      walk_keeps (make_entry base) (back_entry base) (Stands start.device n k) (make_keeps start.device base n k begins.opens.room)
      (back_keeps start.device base n k begins.opens.room) start at_start row

  back_seen_lem : (row : List (Entry RowCall)) → let s = (entered_row base start row).here in SeenAs s.device (back_entry base s) (back_held base (held (seen s)))
  back_seen_lem row = back_as start.device base n k begins.opens.room (entered_row base start row).here (row_stands row)

  lifts : {cs : List (RowCall × Heard)} {v : Shelf Device} → Alone (make_seen base) (seen start) cs v → (t : ImageShelf) × EnteredAlone base start cs t × (seen t ≡ v)
  lifts m =
      alone_lifts (make_entry base) (make_seen base) seen (Stands start.device n k) (make_keeps start.device base n k begins.opens.room)
      (same_make start.device base n k begins.opens.room) start at_start m

  alone-stands : {cs : List (RowCall × Heard)} {t : ImageShelf} → EnteredAlone base start cs t → Stands start.device n k t
  alone-stands m =
      alone-keeps (make_entry base) (make_seen base) seen (Stands start.device n k) (make_keeps start.device base n k begins.opens.room)
      (same_make start.device base n k begins.opens.room) start at_start m

  -- what is compared of two shelves on rows from the start
  abbrev pub Alike : ImageShelf → ImageShelf → Type 0
  Alike s t = (compared_shelf (seen s) ≡ compared_shelf (seen t)) × (Plain start.device → s.device ≡ t.device)

  alike : {s t : ImageShelf} → Stands start.device n k s → Stands start.device n k t → compared_shelf (seen s) ≡ compared_shelf (seen t) → Alike s t
  alike a b e = (e, λ p. plain_same _ _ (a.plain p) (b.plain p) (ap (λ (v : Shelf Device). v.device) e))

  -- the entries still standing, made alone in order, are all accepted, answer what they answered in the row, and give device, window and used
  -- journal as they are
  pub entries_same_as_alone : (row : List (Entry RowCall)) → let s = entered_row base start row in
      (t : ImageShelf) × EnteredAlone base start s.standing t × Alike s.here t
  entries_same_as_alone row =
      let r = subst (λ s. (v : Shelf Device) × Alone (make_seen base) (seen start) s.standing v × (compared_shelf s.here ≡ compared_shelf v)) (row_seen row)
      (rows_same_as_alone (λ d. d) base own own_opens own_proper (make_seen base) (back_seen base) (λ c h a. refl) (λ h a. refl) row) in
      let l = lifts r.1 in
      (l.0, l.1, alike (row_stands row) (alone-stands l.1) (r.2 ∙ ap compared_shelf (sym l.2)))

  -- where one stands, a take-back is accepted, and leads to what the others, made alone in order, give
  pub entries_last_taken_back : (row : List (Entry RowCall)) (c : RowCall × Heard) (cs : List (RowCall × Heard)) → let s = entered_row base start row in s.standing ≡ c ∷ cs
      → (t u : ImageShelf) × (back_entry base s.here ≡ made None t) × EnteredAlone base start cs u × Alike t u
  entries_last_taken_back row c cs e =
      let s = entered_row base start row in
      let r = subst (λ s. s.standing ≡ c ∷ cs
      → (v w : Shelf Device) × (back_seen base s.here ≡ made None v) × Alone (make_seen base) (seen start) cs w × (compared_shelf v ≡ compared_shelf w)) (row_seen row)
      (rows_last_taken_back (λ d. d) base own own_opens own_proper (make_seen base) (back_seen base) (λ c h a. refl) (λ h a. refl) row c cs) e in
      let m = made_lifts seen (back_entry base s.here) (sym (seen_ends s.here.device (back_entry base s.here) (back_held base (held (seen s.here))) (back_seen_lem row)) ∙ r.2) in
      let l = lifts r.3 in
      let after = subst (Ending (Stands start.device n k)) m.1 (back_keeps start.device base n k begins.opens.room s.here (row_stands row)) in
      (m.0, l.0, m.1, l.1, alike after (alone-stands l.1) (ap compared_shelf m.2 ∙ r.4 ∙ ap compared_shelf (sym l.2)))

  -- it is refused with 12, and all is as it was, exactly if none stands
  pub entries_refused_12 : (row : List (Entry RowCall)) → let s = entered_row base start row in (back_entry base s.here ≡ unmade 12 s.here) ↔ (s.standing ≡ [])
  entries_refused_12 row =
      let r = subst (λ s. (back_seen base s.here ≡ unmade 12 s.here) ↔ (s.standing ≡ [])) (row_seen row)
      (rows_refused_12 (λ d. d) base own own_opens own_proper (make_seen base) (back_seen base) (λ c h a. refl) (λ h a. refl) row) in (
        λ e. r.0 (seen_ends s.device (back_entry base s) (back_held base (held (seen s))) (back_seen_lem row) ∙ ap (carried (λ (a : Heard). a) seen) e),
        λ e. by_end (back_held base (held (seen s))) refl (r.1 e),
      )
    where
      s : ImageShelf
      s = (entered_row base start row).here

      by_end : (b : After Heard Held) → back_held base (held (seen s)) ≡ b → carried (λ (a : Heard). a) itself b ≡ unmade 12 (seen s) → back_entry base s ≡ unmade 12 s
      by_end (made a h) f g = absurd (let z : ◌≡◌ {A = ℕ} 0 1 = cc in omega arith)
      by_end (unmade i h) f g =
          let v = back_seen_lem row in
          let p : i ≡ 12 = cc in
          let q : itself h ≡ seen s = cc in
          let same = v.leaves i h f in
          v.is ∙ ap (carried (λ (a : Heard). a) (shelf_of v.laid)) f ∙ λ j. unmade (p j) (record { device = same j; window = (q j).window; journal = (q j).journal; used = (q j).used })
