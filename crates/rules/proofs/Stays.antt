-- What every call leaves of a device, accepted or refused, whatever it is given: the settings, and that a proper device is one. Assumes nothing.
use mathlib.Core.Bool.{true, false, false≢true}
use mathlib.Core.List.{List, [], ◌∷◌}
use mathlib.Core.Option.{Option, none, some}
use mathlib.Core.Path.{◌≡◌, refl, sym, ◌∙◌, subst}
use Prim.Native.Nat.{ℕ, zero, suc, ◌^◌, ◌<◌, ◌-◌, ◌+◌, ◌*◌}
use native.Mathlib.Nat.{mod-lt}
use borrow.Author.Tests.{ltb-true}
use lib.Dec.{eqb, leb}
use lib.ListN.{length, take, drop}
use lib.Pow.{pow_pos}
use Rattle.rules.specs.Act.{Act, Space, window, table, Field, Setting, IGNORE, CHIP}
use Rattle.rules.specs.Bytes.{bytes, splice}
use Rattle.rules.specs.Calls.{Asked, act_of, stops, wrong_back, device_told, world_of, told_after, after, heard_nothing, after_back}
use Rattle.rules.specs.Carry.{Machine, World, Rec, stood_at, stood_in, Out, ok, no, bytes_of, with_bytes_of, with_device, index_of, stored, recorded, go, After, made, unmade, last_lines, written, cleared, leave, perform, undo_rec, undo, Lent, lending}
use Rattle.rules.specs.Fields.{bits_in, setting_of, with_field, field_at, with_some, fits_some}
use Rattle.rules.specs.TakeBack.{marked, kind, width, place, value, sound_field, sound_kind, sound, all_sound, rec_of, decode, decode_all, take_back}
use Rattle.rules.specs.With.{with_table}
use Rattle.rules.specs.State.{Device}
use Rattle.rules.specs.Verdicts.{Heard}
use Rattle.rules.proofs.BoolLaws.{and_left, and_right}
use Rattle.rules.proofs.CallLaws.{either_way}
use Rattle.rules.proofs.Each.{proper-table, proper_field}
use Rattle.rules.proofs.Proper.{Proper}
use Rattle.rules.proofs.FieldLaws.{put_setting}
use Rattle.rules.proofs.Keeps.{AtEnd, go-keeps}
use Rattle.rules.proofs.Lasts.{Ending, BackEnds, none, damaged, taken, back_ends}

-- ---- no record undone changes the mode
undone_chip : (base : ℕ) (r : Rec) (m : Machine) → (undo_rec base r m).dev.chip ≡ m.dev.chip
unfolding undo_rec stored with_bytes_of with_device
undone_chip base (stood_at window a w v) m = refl
undone_chip base (stood_at table a w v) m = refl
undone_chip base (stood_in n v) m = by (field_at m.dev.chip n)
  where
    by : (o : Option Field) → (with_some o v m.dev).chip ≡ m.dev.chip
    by none = refl
    by (some f) = put_setting CHIP f v m.dev

undo-chip : (base : ℕ) (rs : List Rec) (m : Machine) → (undo base rs m).dev.chip ≡ m.dev.chip
unfolding undo
undo-chip base [] m = refl
undo-chip base (r ∷ rs) m = undone_chip base r (undo base rs m) ∙ undo-chip base rs m

-- ---- what a store to the table and a field put leave, every call leaves

module _ (P : Device → Type 0) (on_table : (i n v : ℕ) (d : Device) → P d → P (with_table d (splice d.table i (bytes n v))))
    (on_field : (f : Field) (v : ℕ) (d : Device) → v < 2 ^ bits_in d.chip f → P d → P (with_field f v d))
  where
    -- of the device that is there
    abbrev On : World → Type 0
    On v = P v.now.dev

    stored-stays : (base : ℕ) (sp : Space) (a n v : ℕ) (m : Machine) → P m.dev → P (stored base sp a n v m).dev
    unfolding stored with_bytes_of bytes_of
    stored-stays base window a n v m p = p
    stored-stays base table a n v m p = on_table (index_of base table a) n v m.dev p

    perform-stays : (base : ℕ) (lent : Lent) {A : Type 0} (m : Act A) (u : World) → P u.now.dev → Ending On (perform base lent m u)
    unfolding perform leave written cleared recorded with_device
    perform-stays base lent {A} m u p =
        left (go base lent m u)
        (go-keeps base lent On (λ sp a n v w _ _ _ q. stored-stays base sp a n v w.now q)
        (λ f v w q. on_field f _ w.now.dev (mod-lt v (pow_pos (bits_in w.now.dev.chip f))) q) m u p)
      where
        left : (o : Out A) → AtEnd On o → Ending On (leave u o)
        left (no n v) q = p
        left (ok a v) q =
            elim (leb (length (last_lines u v)) (length v.free))
            as (λ b. Ending {A = A} On (elim b [ true ↦ made a (written (last_lines u v) v) | false ↦ unmade 11 (cleared u) ])) [
              | true ↦ q
              | false ↦ p
            ]

    -- a sound record undone
    field_stays : (o : Option Field) (v : ℕ) (d : Device) → fits_some d.chip o v ≡ true → P d → P (with_some o v d)
    field_stays none v d e p = p
    field_stays (some f) v d e p = on_field f v d (ltb-true v (2 ^ bits_in d.chip f) e) p

    record_stays : (base : ℕ) (k w a v : ℕ) (m₀ m : Machine) → m.dev.chip ≡ m₀.dev.chip → sound_kind base m₀ k w a v ≡ true → P m.dev → P (undo_rec base (rec_of k w a v) m).dev
    unfolding sound_kind sound_field rec_of undo_rec with_device
    record_stays base zero w a v m₀ m c e p = stored-stays base window a w v m p
    record_stays base (suc zero) w a v m₀ m c e p = stored-stays base table a w v m p
    record_stays base (suc (suc zero)) w a v m₀ m c e p = field_stays (field_at m.dev.chip a) v m.dev (subst (λ x. fits_some x (field_at x a) v ≡ true) (sym c) (and_right (eqb w 8) _ e)) p
    record_stays base (suc (suc (suc k))) w a v m₀ m c e p = absurd (false≢true e)

    undo-stays : (base i : ℕ) (l : List ℕ) (m₀ m : Machine) → m.dev.chip ≡ m₀.dev.chip → all_sound base m₀ i l ≡ true → P m.dev → P (undo base (decode_all i l) m).dev
    unfolding all_sound decode_all undo sound decode
    undo-stays base zero l m₀ m c e p = p
    undo-stays base (suc i) l m₀ m c e p =
        let r = take 16 l in
        record_stays base (kind r) (width r) (place r) (value r) m₀ (undo base (decode_all i (drop 16 l)) m) (undo-chip base (decode_all i (drop 16 l)) m ∙ c)
        (and_right (marked r) _ (and_left (sound base m₀ r) _ e)) (undo-stays base i (drop 16 l) m₀ m c (and_right (sound base m₀ r) _ e) p)

    take_back_stays : (base : ℕ) (u : World) → P u.now.dev → Ending On (take_back base u)
    take_back_stays base u p = by_end (take_back base u) (back_ends base u)
      where
        by_end : (o : After (Unit {0}) World) → BackEnds base u o → Ending On o
        by_end _ none = p
        by_end _ damaged = p
        by_end _ (taken i long e) = undo-stays base i (drop (length u.used - (i + 1) * 16) u.used) u.now u.now refl e p

    told-stays : (staging : List ℕ) (used : ℕ) (o : After Heard World) → Ending On o → P (device_told (told_after staging used o))
    unfolding told_after
    told-stays staging used (made heard v) p = p
    told-stays staging used (unmade n v) p = p

    module _ (base : ℕ) (d : Device) (window journal : List ℕ) (used : ℕ) (p : P d) where
      act_stays : (c : Asked) (staging : List ℕ) → P (device_told (after c base d window staging journal used))
      unfolding after
      act_stays c staging =
          either_way (λ t. P (device_told t)) d window staging journal used (stops base (length window) (length journal) used c d) (λ k _. p)
          (λ _. told-stays _ used _ (perform-stays base (lending (length staging)) (act_of c) (world_of d window journal used) p))

      back_stays : P (device_told (after_back base d window journal used))
      unfolding after_back
      back_stays =
          either_way (λ t. P (device_told t)) d window [] journal used (wrong_back base (length window) (length journal) used) (λ k _. p)
          (λ _. told-stays [] used _ (as_told_lem _ (take_back_stays base (world_of d window journal used) p)))
        where
          as_told_lem : (o : After (Unit {0}) World) → Ending On o → Ending On (heard_nothing o)
          as_told_lem (made a v) q = unfold heard_nothing in q
          as_told_lem (unmade n v) q = unfold heard_nothing in q

-- ---- of acts and take-backs

-- "Ignoring masks is a setting no call changes", and so is the mode
abbrev AsSet : Setting → Device → Device → Type 0
AsSet s d e = setting_of s e ≡ setting_of s d

table_set : (s : Setting) (d : Device) (i n v : ℕ) (e : Device) → AsSet s d e → AsSet s d (with_table e (splice e.table i (bytes n v)))
table_set IGNORE d i n v e p = p
table_set CHIP d i n v e p = p

module _ (base : ℕ) (d : Device) (window journal : List ℕ) (used : ℕ) where
  pub act_keeps_setting : (s : Setting) (c : Asked) (staging : List ℕ) → setting_of s (device_told (after c base d window staging journal used)) ≡ setting_of s d
  act_keeps_setting s c staging = act_stays (AsSet s d) (table_set s d) (λ f v e _ p. put_setting s f v e ∙ p) base d window journal used refl c staging

  pub back_keeps_setting : (s : Setting) → setting_of s (device_told (after_back base d window journal used)) ≡ setting_of s d
  back_keeps_setting s = back_stays (AsSet s d) (table_set s d) (λ f v e _ p. put_setting s f v e ∙ p) base d window journal used refl

  pub act_keeps-proper : (c : Asked) (staging : List ℕ) → Proper d → Proper (device_told (after c base d window staging journal used))
  act_keeps-proper c staging p = act_stays Proper proper-table proper_field base d window journal used p c staging

  pub back_keeps-proper : Proper d → Proper (device_told (after_back base d window journal used))
  back_keeps-proper p = back_stays Proper proper-table proper_field base d window journal used p
