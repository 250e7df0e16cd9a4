-- What every value of the declared type `Device` stands for is sound, and its table has 2048 bytes. Assumes nothing.
use mathlib.Core.Bool.{cond}
use mathlib.Core.Path.{◌≡◌, sym, ◌∙◌}
use mathlib.Core.List.{List, [], ◌∷◌, map}
use Prim.Native.Nat.{ℕ, zero, suc, ◌+◌, ◌-◌, ◌%◌, ◌≤◌, ◌<◌, ◌^◌}
use native.Mathlib.Nat.{mod-lt, not-suc-le-zero, le_of_suc-le-suc, le_of_eq, suc_inj}
use native.Mathlib.Omega.{arith}
use lib.Dec.{lit<}
use lib.Pow.{pow_pos}
use lib.ListN.{length, length-map, replicate}
use borrow.Author.Rules.{rules}
use base.Fml.{Fml}
use denote.Laws.{Is}
use denote.Shadow.{shadow}
use denote.Array.{each}
use denote.Struct.Field.{u64-field, u32-field, u8-field}
use mir.Val.{Val}
use denote.Struct.Declared.{row}
use denote.Struct.Laws.{val}
use Rattle.rules.specs.contracts.Device.{the_type}
use Rattle.rules.proofs.Device.TheLaws.{the_laws}
use Rattle.rules.specs.contracts.Controller.{the_row as the-controller}
use Rattle.rules.specs.contracts.Scalars.{the_field as the-scalars, the_type as the-scalars-type}
use Rattle.rules.proofs.Scalars.TheLaws.{the_laws as the-scalars-laws}
use Rattle.rules.specs.State.{Controller}
use Rattle.rules.specs.Scalars.{scalar_bits, view_scalars}
use Rattle.rules.specs.View.{view_controller, view}
use Rattle.rules.specs.declared.Controller.{Controller as HeldController}
use Rattle.rules.specs.declared.Device.{Device as HeldDevice}
use Rattle.rules.specs.declared.Scalars.{Scalars}
use Rattle.rules.specs.Bytes.{Bytes}
use Rattle.rules.specs.Fields.{bits_of, controller, own_of, parts_of}
use Rattle.rules.proofs.PartLaws.{Within}
use Rattle.rules.proofs.FieldLaws.{Sound, bit_parts}
use Rattle.rules.proofs.Keeps.{Good}

-- what `.good` holds of a parameter, and `.ok` of a call's result
abbrev pub Typed : HeldDevice → Type 0
Typed d = Is (row the_type) d (val the_type the_laws d ∷ [])

abbrev pub TypedScalars : Scalars → Type 0
TypedScalars s = Is (row the-scalars-type) s (val the-scalars-type the-scalars-laws s ∷ [])

-- an array of numbers
within_each : (own : ℕ → List Val → Fml) (b : ℕ) → ((x : ℕ) (u : Val) → shadow (own x (u ∷ [])) → x < 2 ^ b)
    → (n : ℕ) (xs : List ℕ) (us : List Val) → length xs ≡ n → shadow (each ℕ own xs us) → Within (replicate n b) xs
within_each own b h zero [] us e s = tt
within_each own b h zero (x ∷ xs) us e s = absurd (not-suc-le-zero (le_of_eq e))
within_each own b h (suc n) [] us e s = absurd (not-suc-le-zero (le_of_eq (sym e)))
within_each own b h (suc n) (x ∷ xs) [] e s = absurd s
within_each own b h (suc n) (x ∷ xs) (u ∷ us) e s = (h x u s.0, within_each own b h n xs us (suc_inj e) s.1)

-- an array of numbers, cut to their low bits
low_bits : (b n : ℕ) (xs : List ℕ) → length xs ≡ n → Within (replicate n b) (map (λ (v : ℕ). v % 2 ^ b) xs)
low_bits b zero [] e = tt
low_bits b zero (x ∷ xs) e = absurd (not-suc-le-zero (le_of_eq e))
low_bits b (suc n) [] e = absurd (not-suc-le-zero (le_of_eq (sym e)))
low_bits b (suc n) (x ∷ xs) e = (mod-lt x (pow_pos b), low_bits b n xs (suc_inj e))

-- an array of bytes
bytes_each : (xs : List ℕ) (us : List Val) → shadow (each ℕ u8-field.row.own_val xs us) → Bytes xs
bytes_each [] us s i = lit< tt
bytes_each (x ∷ xs) [] s i = absurd s
bytes_each (x ∷ xs) (u ∷ us) s zero = search (rules, s.0)
bytes_each (x ∷ xs) (u ∷ us) s (suc i) = bytes_each xs us s.1 i

-- of each of the controllers
record Fits (c : Controller) : Type 0 where
  masks : c.masks < 2 ^ 64
  forced : c.forced < 2 ^ 64
  lines : c.lines < 2 ^ 64
  config : c.config < 2 ^ 16
  levels : Within (replicate 64 8) c.levels

each_fits : (cs : List HeldController) (us : List Val) → shadow (each the-controller.Denot the-controller.own_val cs us)
    → (i : ℕ) → i < length cs → Fits (controller (map view_controller cs) i)
each_fits [] us s i h = absurd (not-suc-le-zero h)
each_fits (c ∷ cs) [] s i h = absurd s
each_fits (c ∷ cs) (u ∷ us) s zero h =
    let l : length c.levels ≡ 64 = search (rules, s.0) in
    let a = s.0.1.1.1.1.1.0 in
    record {
      masks = search (rules, s.0);
      forced = search (rules, s.0);
      lines = search (rules, s.0);
      config = search (rules, s.0);
      levels = within_each u8-field.row.own_val 8 (λ x u t. search (rules, t)) 64 c.levels a.0 l a.1.1;
    }
each_fits (c ∷ cs) (u ∷ us) s (suc i) h = each_fits cs us s.1 i (le_of_suc-le-suc h)

-- the numbers that stand alone
pub scalars_fit_lem : (s : Scalars) (us : List Val) → shadow (the-scalars.row.own_val (the-scalars.into s) us) → Within scalar_bits (view_scalars s)
scalars_fit_lem s us h = (search (rules, h), (search (rules, h), (search (rules, h), (search (rules, h), (search (rules, h), (search (rules, h), (search (rules, h), (search (rules, h), (search (rules, h), (search (rules, h), tt))))))))))

pub scalars-within : (s : Scalars) → TypedScalars s → Within scalar_bits (view_scalars s)
scalars-within s g = scalars_fit_lem s _ g

pub table-size : (d : HeldDevice) → Typed d → length d.table ≡ 2048
table-size d g = search (rules, g.1.1.1.0)

pub sound : (d : HeldDevice) → Typed d → Sound (view d)
unfolding bit_parts bits_of parts_of own_of
sound d g =
    let t = g.1.1.1 in
    let cs = t.1.1.1.1.1.1.0 in
    let three : length d.controllers ≡ 3 = search (rules, cs) in
    let k : (i : ℕ) → i < 3 → Fits (controller (map view_controller d.controllers) i) = λ i l. each_fits d.controllers _ cs.1.1 i (omega arith) in
    let a = k 0 (lit< tt) in
    let b = k 1 (lit< tt) in
    let c = k 2 (lit< tt) in
    let busy-l : length d.busy ≡ 64 = search (rules, t.1.0) in
    let majors-l : length d.majors ≡ 64 = search (rules, t.1.1.0) in
    let taken-l : length d.taken ≡ 192 = search (rules, t.1.1.1.0) in
    let pending-l : length d.pending ≡ 64 = search (rules, t.1.1.1.1.0) in
    let priorities-l : length d.priorities ≡ 64 = search (rules, t.1.1.1.1.1.0) in
    let zs : (n : ℕ) → Within (replicate n 0) (replicate n 0) = zeros in
    record {
      three = length-map d.controllers view_controller ∙ three;
      fitting = (
        scalars_fit_lem d.scalars _ g.1.1.0,
        (
          zs (16 - length scalar_bits),
          (
            (a.masks, (a.forced, (a.lines, (a.config, (b.masks, (b.forced, (b.lines, (b.config, (c.masks, (c.forced, (c.lines, (c.config, zs 36)))))))))))),
            (
              within_each u64-field.row.own_val 64 (λ x u f. search (rules, f)) 64 d.busy t.1.0.0 busy-l t.1.0.1.1,
              (
                within_each u64-field.row.own_val 64 (λ x u f. search (rules, f)) 64 d.majors t.1.1.0.0 majors-l t.1.1.0.1.1,
                (
                  within_each u32-field.row.own_val 32 (λ x u f. search (rules, f)) 64 d.pending t.1.1.1.1.0.0 pending-l t.1.1.1.1.0.1.1,
                  (
                    a.levels,
                    (
                      b.levels,
                      (
                        c.levels,
                        (
                          zs 128,
                          (within_each u64-field.row.own_val 64 (λ x u f. search (rules, f)) 192 d.taken t.1.1.1.0.0 taken-l t.1.1.1.0.1.1, (low_bits (cond d.chip 6 0) 64 d.priorities priorities-l, tt)),
                        ),
                      ),
                    ),
                  ),
                ),
              ),
            ),
          ),
        ),
      );
      table_bytes = bytes_each d.table t.0.0 t.0.1.1;
    }
  where
    zeros : (n : ℕ) → Within (replicate n 0) (replicate n 0)
    zeros zero = tt
    zeros (suc n) = (lit< tt, zeros n)

-- and so a machine of such a device and a window of bytes is good
pub good : (base : ℕ) (mem : List ℕ) (d : HeldDevice) → Typed d → Bytes mem → base + length mem ≤ 2 ^ 32 → Good base (record { mem = mem; dev = view d })
good base mem d t b h = record { sound_dev = sound d t; mem_bytes = b; mem_below = h; table_below = omega (arith, table-size d t) }
