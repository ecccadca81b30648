-- What a frame brings from its origin: from forward to forward nothing is altered.
use Rattle.std.proofs.Common.{◌≡◌, ℕ, zero, suc, [], Option, Some, None, refl, sym, ap, ◌∙◌, subst, inl, inr}
use Rattle.std.proofs.lemmas.Bool.{false≢true}
use Rattle.std.proofs.lemmas.Option.{none-some, same_Some}
use Rattle.std.specs.List.{slice_get}
use Rattle.std.specs.Option.{option_and_then, option_map_or}
use Rattle.j39_signal.specs.declared.signal_parts.SignalParts.{SignalParts}
use Rattle.j39_vehicle.specs.declared.vehicle.Vehicle.{Vehicle}
use Rattle.j39_vehicle.specs.declared.vehicle.forward.Forward.{Forward}
use Rattle.j39_vehicle_findings.specs.ForwardEnds.{Copies, Feeds}
use Rattle.j39_vehicle_findings.specs.Traces.{goes_on, next_forward, trace_end}
use Rattle.j39_vehicle_findings.specs.VehicleFindings.{AreFindings}
use Rattle.j39_vehicle_findings.specs.declared.point.Point.{Point}
use Rattle.j39_vehicle_laws.specs.Carrying.{AreAllCopies, AreAllExact, is_exact, signal_at}
use Rattle.j39_vehicle_laws.specs.Reading.{reading}
use Rattle.j39_vehicle_laws.specs.Unaltered.{ReadsAsOrigin}
use Rattle.j39_vehicle_laws.proofs.Bringing.{divisor_of, each_behind, each_here, goes_by, no_value_if_exact, reads_on}
use Rattle.j39_vehicle_laws.proofs.Forwarding.{next_feeds}
use Rattle.j39_vehicle_laws.proofs.Hops.{taken_over, value_or_none}
use Rattle.j39_vehicle_laws.specs.Seen.{SeenBuses}
use Rattle.j39_vehicle_laws.specs.YoungValues.{BringsFrame, ReadsAsBrought, at_its_origin, by_forward, message_at}

-- ---- bytes

same_bytes : (v : Vehicle) (seen : SeenBuses) (origin : Point) (first : ℕ) {p : Point} {frame : ℕ} → BringsFrame v seen origin first p frame
    → AreAllCopies v p → (seen p.at.bus).bytes frame ≡ (seen origin.at.bus).bytes first
same_bytes v seen origin first (at_its_origin ends) all = refl
same_bytes v seen origin first (by_forward p x frame carried place n next its on keeps takes rest) all =
    let behind = goes_by v p x place n its on in
    let copy = each_here v (λ signal n. Copies n) p place n next its all in
    let onward = each_behind v (λ signal n. Copies n) p x place n next its behind all in
    keeps.copied copy ∙ same_bytes v seen origin first rest onward

-- ---- values

pub feeds_it : (v : Vehicle) (p : Point) (place : ℕ) (n : Forward) → next_forward v p ≡ Some place
    → slice_get v.forwards.items place ≡ Some n → Feeds v n p.at
feeds_it v p place n next its =
    let (m, there, feeds) = next_feeds v p place next in
    subst (λ (f : Forward). Feeds v f p.at) (same_Some _ _ (sym there ∙ its)) feeds

reads_as_origin : (v : Vehicle) → AreFindings v [] → (seen : SeenBuses) (origin : Point) (first : ℕ) {p : Point} {frame : ℕ}
    → BringsFrame v seen origin first p frame → AreAllExact v p → (t : SignalParts) → signal_at v p ≡ Some t
    → ReadsAsOrigin v (message_at seen p frame) t (Some (message_at seen origin first))
reads_as_origin v clean seen origin first (at_its_origin ends) all t t_is =
    elim (value_or_none (reading t ((seen origin.at.bus).bytes first))) [
      | inl (a, is) ↦ inr (message_at seen origin first, t, a, a, refl, t_is, is, is, refl)
      | inr no_value ↦ inl no_value
    ]
reads_as_origin v clean seen origin first (by_forward p x frame carried place n next its on keeps takes rest) all t t_is =
    let behind = goes_by v p x place n its on in
    let exact = each_here v (λ signal n. is_exact n signal ≡ Rattle.std.proofs.Common.true) p place n next its all in
    let onward = each_behind v (λ signal n. is_exact n signal ≡ Rattle.std.proofs.Common.true) p x place n next its behind all in
    elim (taken_over v clean place n its (message_at seen p frame) (message_at seen x carried) (feeds_it v p place n next its) behind keeps t t_is) [
      | inl unset ↦ inl (no_value_if_exact t (is_exact n p.signal) ((seen p.at.bus).bytes frame) exact unset)
      | inr (s, s_is, (a, b, from, is, inl one)) ↦
          reads_on v (message_at seen p frame) (message_at seen x carried) s t (Some (message_at seen origin first)) a b (divisor_of v x s s_is) from is one
          (reads_as_origin v clean seen origin first rest onward s s_is)
      | inr (s, s_is, (a, b, from, is, inr (near, stands))) ↦ absurd (false≢true (sym near ∙ exact))
    ]

pub reads_as_brought : (v : Vehicle) → AreFindings v [] → (seen : SeenBuses) (p : Point) (frame : ℕ) (origin : Point) (first : ℕ)
    → BringsFrame v seen origin first p frame → ReadsAsBrought v seen p frame origin first
reads_as_brought v clean seen p frame origin first brings = record {
  bytes = same_bytes v seen origin first brings;
  value = reads_as_origin v clean seen origin first brings;
}

-- ---- where it comes from

-- the trace of the point ends where the frame comes from
pub ends_there : (v : Vehicle) (seen : SeenBuses) (origin : Point) (first : ℕ) {p : Point} {frame : ℕ} → BringsFrame v seen origin first p frame
    → (steps : ℕ) (end : Point) → trace_end v steps p ≡ Some end → end ≡ origin
unfolding trace_end
ends_there v seen origin first (at_its_origin ends) zero end is =
    sym (same_Some _ _ (sym (ap (λ (o : Option ℕ). option_map_or (λ n. None) o (Some origin)) ends) ∙ is))
ends_there v seen origin first (at_its_origin ends) (suc steps) end is =
    sym (same_Some _ _ (sym (ap (λ (o : Option ℕ). option_map_or (λ n. option_and_then (trace_end v steps) (goes_on v origin n)) o (Some origin)) ends) ∙ is))
ends_there v seen origin first (by_forward p x frame carried place n next its on keeps takes rest) zero end is =
    absurd (none-some end (sym (ap (λ (o : Option ℕ). option_map_or (λ n. None) o (Some p)) next) ∙ is))
ends_there v seen origin first (by_forward p x frame carried place n next its on keeps takes rest) (suc steps) end is =
    let here = sym (ap (λ (o : Option ℕ). option_map_or (λ n. option_and_then (trace_end v steps) (goes_on v p n)) o (Some p)) next) ∙ is in
    ends_there v seen origin first rest steps end (sym (ap (option_and_then (trace_end v steps)) on) ∙ here)
