-- The fields of a device: by name, and by the numbers of document 01, "Journal records", with document 02's [10]. Assumes nothing.
use Rattle.std.specs.Prelude.{Bool, true, false, cond, ◌||◌, List, [], ◌∷◌, ◌++◌, ℕ, zero, suc, ◌+◌, ◌-◌, ◌*◌, ◌/◌, ◌%◌, ◌^◌, ltb, length, get_or, set, replicate}
use Rattle.std.proofs.Math.Option.{Option, none, some}
use Rattle.rules.specs.State.{Controller, Device}
use Rattle.rules.specs.Act.{Field, SCALAR, MASKS, FORCED, LINES, CONFIG, BUSY, MAJORS, PENDING, SOURCE, TAKEN, PRIORITY, Setting, IGNORE, CHIP}
use Rattle.rules.specs.Scalars.{scalar_bits}
use Rattle.rules.specs.With.{with_scalars, with_busy, with_majors, with_pending, with_controllers, with_taken, with_priorities}
use Rattle.rules.specs.With.{with_masks, with_forced, with_lines, with_config, with_levels}

-- ---- by name

abbrev pub no_controller : Controller
no_controller = record { masks = 0; forced = 0; lines = 0; levels = []; config = 0 }

abbrev pub controller : List Controller → ℕ → Controller
controller l c = get_or l c no_controller

-- what a device holds in a field
abbrev pub holds : Field → Device → ℕ
holds (SCALAR i) d = get_or d.scalars i 0
holds (MASKS c) d = (controller d.controllers c).masks
holds (FORCED c) d = (controller d.controllers c).forced
holds (LINES c) d = (controller d.controllers c).lines
holds (CONFIG c) d = (controller d.controllers c).config
holds (BUSY ch) d = get_or d.busy ch 0
holds (MAJORS ch) d = get_or d.majors ch 0
holds (PENDING ch) d = get_or d.pending ch 0
holds (SOURCE c s) d = get_or (controller d.controllers c).levels s 0
holds (TAKEN i) d = get_or d.taken i 0
holds (PRIORITY ch) d = get_or d.priorities ch 0

-- controller c of the device, changed
abbrev pub on_controller : Device → ℕ → (Controller → Controller) → Device
on_controller d c g = with_controllers d (set d.controllers c (g (controller d.controllers c)))

-- the device with another value in a field
abbrev pub with_field : Field → ℕ → Device → Device
with_field (SCALAR i) v d = with_scalars d (set d.scalars i v)
with_field (MASKS c) v d = on_controller d c (λ k. with_masks k v)
with_field (FORCED c) v d = on_controller d c (λ k. with_forced k v)
with_field (LINES c) v d = on_controller d c (λ k. with_lines k v)
with_field (CONFIG c) v d = on_controller d c (λ k. with_config k v)
with_field (BUSY ch) v d = with_busy d (set d.busy ch v)
with_field (MAJORS ch) v d = with_majors d (set d.majors ch v)
with_field (PENDING ch) v d = with_pending d (set d.pending ch v)
with_field (SOURCE c s) v d = on_controller d c (λ k. with_levels k (set k.levels s v))
with_field (TAKEN i) v d = with_taken d (set d.taken i v)
with_field (PRIORITY ch) v d = with_priorities d (set d.priorities ch v)

-- CR, pending: 32 bits; ICONFIG 16; levels 8; priorities 6; others 64
unfoldable pub bits_of : Field → ℕ
bits_of (SCALAR i) = get_or scalar_bits i 64
bits_of (MASKS c) = 64
bits_of (FORCED c) = 64
bits_of (LINES c) = 64
bits_of (CONFIG c) = 16
bits_of (BUSY ch) = 64
bits_of (MAJORS ch) = 64
bits_of (PENDING ch) = 32
bits_of (SOURCE c s) = 8
bits_of (TAKEN i) = 64
bits_of (PRIORITY ch) = 6

-- the fields that both modes have; the others are those of the chip's mode alone
abbrev pub in_both : Field → Bool
in_both (SCALAR i) = true
in_both (MASKS c) = true
in_both (FORCED c) = true
in_both (LINES c) = true
in_both (CONFIG c) = true
in_both (BUSY ch) = true
in_both (MAJORS ch) = true
in_both (PENDING ch) = true
in_both (SOURCE c s) = true
in_both (TAKEN i) = true
in_both (PRIORITY ch) = false

-- the bits of a field in a mode: none where the mode has no such field
abbrev pub bits_in : Bool → Field → ℕ
bits_in chip f = cond (in_both f || chip) (bits_of f) 0

abbrev pub setting_of : Setting → Device → Bool
setting_of IGNORE d = d.ignore
setting_of CHIP d = d.chip

-- ---- by number

unfoldable pub number_of : Field → ℕ
number_of (SCALAR i) = i
number_of (MASKS c) = 16 + 4 * c
number_of (FORCED c) = 17 + 4 * c
number_of (LINES c) = 18 + 4 * c
number_of (CONFIG c) = 19 + 4 * c
number_of (BUSY ch) = 64 + ch
number_of (MAJORS ch) = 128 + ch
number_of (PENDING ch) = 192 + ch
number_of (SOURCE c s) = 256 + 64 * c + s
number_of (TAKEN i) = 512 + (64 + i)
number_of (PRIORITY ch) = 768 + ch

-- the field of a number, if the mode has one
unfoldable pub of_controller : ℕ → ℕ → Field
of_controller zero c = MASKS c
of_controller (suc zero) c = FORCED c
of_controller (suc (suc zero)) c = LINES c
of_controller (suc (suc (suc k))) c = CONFIG c

unfoldable pub field_at : Bool → ℕ → Option Field
field_at chip n =
    cond (ltb n (length scalar_bits)) (some (SCALAR n))
    (cond (ltb n 16) none
    (cond (ltb n 28) (some (of_controller ((n - 16) % 4) ((n - 16) / 4)))
    (cond (ltb n 64) none
    (cond (ltb n 128) (some (BUSY (n - 64)))
    (cond (ltb n 192) (some (MAJORS (n - 128)))
    (cond (ltb n 256) (some (PENDING (n - 192)))
    (cond (ltb n 448) (some (SOURCE ((n - 256) / 64) ((n - 256) % 64)))
    (cond (ltb n 576) none
    (cond (ltb n 768) (some (TAKEN (n - 576)))
    (cond (ltb n 832) (cond chip (some (PRIORITY (n - 768))) none) none))))))))))

-- a device with another value in the field of a number; where there is no such field, the device
abbrev pub with_some : Option Field → ℕ → Device → Device
with_some none v d = d
with_some (some f) v d = with_field f v d

abbrev pub with_number : ℕ → ℕ → Device → Device
with_number n v d = with_some (field_at d.chip n) v d

-- there is a field, and in the mode it can hold the value
abbrev pub fits_some : Bool → Option Field → ℕ → Bool
fits_some chip none v = false
fits_some chip (some f) v = ltb v (2 ^ bits_in chip f)

-- ---- all the fields of a device, by number, as a list in parts; 0 where there is no such field

unfoldable pub joined : List (List ℕ) → List ℕ
joined [] = []
joined (p ∷ ps) = p ++ joined ps

abbrev pub masks_of : Controller → List ℕ → List ℕ
masks_of c rest = c.masks ∷ c.forced ∷ c.lines ∷ c.config ∷ rest

-- fields 16 to 63
unfoldable pub own_of : Device → List ℕ
own_of d = masks_of (controller d.controllers 0) (masks_of (controller d.controllers 1) (masks_of (controller d.controllers 2) (replicate 36 0)))

unfoldable pub parts_of : Device → List (List ℕ)
parts_of d =
    d.scalars ∷ replicate (16 - length scalar_bits) 0 ∷ own_of d ∷ d.busy ∷ d.majors ∷ d.pending
    ∷ (controller d.controllers 0).levels ∷ (controller d.controllers 1).levels ∷ (controller d.controllers 2).levels ∷ replicate 128 0 ∷ d.taken ∷ d.priorities ∷ []

unfoldable pub fields_of : Device → List ℕ
fields_of d = joined (parts_of d)

-- on an `unfolding` line: all the definitions of this file
unfoldable pub fields : Unit {0}
unfolding bits_of number_of of_controller field_at joined own_of parts_of fields_of
fields = tt
