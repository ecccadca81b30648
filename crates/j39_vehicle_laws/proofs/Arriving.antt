-- Where gateways pass values on, what is read at the origin is read where the way ends.
use Rattle.std.proofs.Common.{◌≡◌, ℕ, [], true, Some, refl, sym, ap, ◌∙◌, subst}
use Rattle.std.specs.Prelude.{ℤ}
use Rattle.std.proofs.lemmas.Option.{none-some, same_Some}
use Rattle.std.specs.List.{slice_get}
use Rattle.std.specs.Option.{option_map_or}
use Rattle.j39_signal.specs.declared.signal_parts.SignalParts.{SignalParts}
use Rattle.j39_signal.specs.declared.state.State.TheVariants.{Value}
use Rattle.j39_vehicle.specs.declared.vehicle.Vehicle.{Vehicle}
use Rattle.j39_vehicle_findings.specs.ForwardEnds.{listed}
use Rattle.j39_vehicle_findings.specs.VehicleFindings.{AreFindings}
use Rattle.j39_vehicle_findings.specs.declared.point.Point.{Point}
use Rattle.j39_vehicle_laws.specs.Carrying.{AreAllExact, is_exact, signal_at}
use Rattle.j39_vehicle_laws.specs.HandedOn.{AreOneValue}
use Rattle.j39_vehicle_laws.specs.Reading.{reading}
use Rattle.j39_vehicle_laws.proofs.Bringing.{divisor_of, each_behind, each_here, goes_by}
use Rattle.j39_vehicle_laws.proofs.Hops.{passed_over}
use Rattle.j39_vehicle_laws.proofs.Values.{one_value_passes}
use Rattle.j39_vehicle_laws.specs.MessagesSentOn.{DoCopiesCarryValues}
use Rattle.j39_vehicle_laws.specs.Seen.{SeenBuses}
use Rattle.j39_vehicle_laws.specs.ValuesArrive.{DoValuesArrive, PassValuesOn}
use Rattle.j39_vehicle_laws.specs.YoungValues.{BringsFrame, IsOnTheWay, at_its_origin, behind_it, by_forward, itself}
use Rattle.j39_vehicle_laws.proofs.Brought.{feeds_it}

arrives_from : (v : Vehicle) → AreFindings v [] → (seen : SeenBuses) (start : Point) → PassValuesOn v seen start → (origin : Point) (first : ℕ)
    {p : Point} {frame : ℕ}
    → BringsFrame v seen origin first p frame → IsOnTheWay v start p → AreAllExact v p → (s t : SignalParts) (a : ℤ) → signal_at v origin ≡ Some s
    → signal_at v p ≡ Some t → reading s ((seen origin.at.bus).bytes first) ≡ Value a
    → (b : ℤ) × (reading t ((seen p.at.bus).bytes frame) ≡ Value b) × AreOneValue s a t b
arrives_from v clean seen start passes origin first (at_its_origin ends) way all s t a s_is t_is reads =
    subst (λ (u : SignalParts). (b : ℤ) × (reading u ((seen origin.at.bus).bytes first) ≡ Value b) × AreOneValue s a u b)
    (same_Some _ _ (sym s_is ∙ t_is)) (a, reads, refl)
arrives_from v clean seen start passes origin first (by_forward p x frame carried place n next its on keeps takes rest) way all s t a s_is t_is reads =
    let behind = goes_by v p x place n its on in
    let exact = each_here v (λ signal n. is_exact n signal ≡ true) p place n next its all in
    let onward = each_behind v (λ signal n. is_exact n signal ≡ true) p x place n next its behind all in
    let (u, u_is, over) = passed_over v clean place n its p x (feeds_it v p place n next its) behind ((seen x.at.bus).bytes carried)
    ((seen p.at.bus).bytes frame) keeps (passes p x place n frame carried way next its on takes) exact t t_is in
    let (b, there, one) = arrives_from v clean seen start passes origin first rest (behind_it p x place way next on) onward s u a s_is u_is reads in
    let (c, here, other) = over b there in
    (c, here, one_value_passes s u t a b c (divisor_of v x u u_is) one other)

pub values_arrive : (v : Vehicle) → AreFindings v [] → DoValuesArrive v
values_arrive v clean seen p frame born brought passes all =
    arrives_from v clean seen p passes brought.origin brought.first brought.brings itself all

-- a copy carries all that it copies
pub copies_carry : (v : Vehicle) → DoCopiesCarryValues v
copies_carry v forward bytes copy =
    let none : listed forward ≡ [] = ap (λ o. option_map_or (λ signals. signals.items) o []) copy in
    record {
      keeps = record {
        copied = λ _. refl;
        taken = λ k f t f_is t_is. absurd (none-some _ (sym (ap (λ l. slice_get l k) none) ∙ f_is));
      };
      passes = λ k f s t a f_is s_is t_is reads value. absurd (none-some _ (sym (ap (λ l. slice_get l k) none) ∙ f_is));
    }
