-- The example has no findings, and in its run the need's unit reports what the gateway sends on.
use Rattle.std.proofs.Common.{◌≡◌, ◌≢◌, ℕ, zero, suc, ◌<◌, List, [], ◌∷◌, ◌++◌, Bool, true, false, Some, None, Decides, inl, inr, sym, refl, ap, ◌∙◌, subst}
use Rattle.std.proofs.Common.{arith}
use Rattle.std.specs.Prelude.{cond, pos}
use Rattle.std.specs.Global.{Global}
use Rattle.std.specs.List.{slice_get, slice_index_or}
use Rattle.std.proofs.lemmas.Bool.{false≢true}
use Rattle.std.proofs.lemmas.Option.{none-some, same_Some}
use Rattle.j39_signal.specs.Bits.{number_at}
use Rattle.j39_signal.specs.declared.state.State.TheVariants.{Value}
use Rattle.j39_search.specs.ListPlaces.{each, in_each, pairs}
use Rattle.j39_network.specs.Serving.{Meets}
use Rattle.j39_network.specs.declared.plan.need_plan.NeedPlan.{NeedPlan}
use Rattle.j39_network.specs.declared.plan.request_plan.RequestPlan.{RequestPlan}
use Rattle.j39_world.specs.Run.{Run}
use Rattle.j39_world.specs.Transfers.{Begun}
use Rattle.j39_world.specs.World.{all_off}
use Rattle.j39_vehicle.specs.declared.vehicle.bus_plan.BusPlan.{BusPlan}
use Rattle.j39_vehicle.specs.declared.vehicle.forward.Forward.{Forward}
use Rattle.j39_vehicle_findings.specs.FoundPaths.{content_findings, end_findings, loop_findings, need_findings, path_findings, queue_findings, some_at}
use Rattle.j39_vehicle_findings.specs.FoundPaths.{vehicle_findings}
use Rattle.j39_vehicle_findings.specs.ForwardEnds.{ComesAfter, FollowsAt, IsAmong, IsInput, at_once, later, units_of_gateway}
use Rattle.j39_vehicle_findings.specs.Traces.{IsNeedFlow, is_from_origin, point_on, trace_end}
use Rattle.j39_vehicle_findings.specs.VehicleFindings.{AreFindings}
use Rattle.j39_vehicle_findings.proofs.PathLaws.{are_findings}
use Rattle.j39_vehicle_laws.specs.HandedOn.{HasMessage}
use Rattle.j39_vehicle_laws.specs.Carrying.{AreAllExact, more, none}
use Rattle.j39_vehicle_laws.specs.Reading.{reading}
use Rattle.j39_vehicle_laws.specs.Forwarding.{ForwardedMessage, needed_message}
use Rattle.j39_vehicle_laws.specs.BusRuns.{Carries, WasHeard, WasReported, WasSent, VehicleRun}
use Rattle.j39_vehicle_laws.proofs.Example.{bus, buses, flow, forward, group, need, payload, runs, speed, steps, taken, unit_at, vehicle}

-- ---- no findings

only_forward : (k : ℕ) (n : Forward) → slice_get (forward ∷ []) k ≡ Some n → n ≡ forward
only_forward zero n is = same_Some _ _ (sym is)
only_forward (suc k) n is = absurd (none-some _ is)

none_follows : (alloc : Global) (k m : ℕ) → ¬ FollowsAt (vehicle alloc) k m
none_follows alloc k m f =
    let first = only_forward k f.first f.first_is in
    let second = only_forward m f.second f.second_is in
    let buses_are : forward.output.bus ≡ forward.input.bus =
    sym (ap (λ n. n.output.bus) first) ∙ f.followed.bus ∙ ap (λ n. n.input.bus) second in
    absurd (omega (arith, buses_are))

none_comes : (alloc : Global) (n : ℕ) {m : ℕ} → ¬ ComesAfter (vehicle alloc) n m
none_comes alloc n (at_once m f) = none_follows alloc n m f
none_comes alloc n (later k m before f) = none_follows alloc k m f

none_loops : (alloc : Global) (n : ℕ) → n < 1 → Decides (slice_index_or (false ∷ []) n false) (ComesAfter (vehicle alloc) n n)
none_loops alloc zero less = (λ is. absurd (false≢true is), λ h. absurd (none_comes alloc zero h))
none_loops alloc (suc n) less = absurd (omega arith)

no_findings : (alloc : Global) → vehicle_findings (false ∷ []) (vehicle alloc) ≡ []
unfolding vehicle_findings path_findings end_findings content_findings loop_findings need_findings queue_findings each in_each pairs some_at trace_end
no_findings alloc = refl

clean : (alloc : Global) → AreFindings (vehicle alloc) []
clean alloc =
    subst (AreFindings (vehicle alloc)) (no_findings alloc)
    (are_findings (vehicle alloc) (false ∷ []) (record { count = refl; each = λ n less. none_loops alloc n less }))

-- ---- the run

runs_on : (alloc : Global) (b : ℕ) (x : BusPlan) → slice_get (buses alloc) b ≡ Some x → Run x.plan all_off (steps alloc) (taken alloc)
runs_on alloc zero x is = subst (λ (y : BusPlan). Run y.plan all_off (steps alloc) (taken alloc)) (same_Some _ _ is) (runs alloc)
runs_on alloc (suc zero) x is = subst (λ (y : BusPlan). Run y.plan all_off (steps alloc) (taken alloc)) (same_Some _ _ is) (runs alloc)
runs_on alloc (suc (suc b)) x is = absurd (none-some _ is)

among_none : (m : Begun) (before behind : List Begun) → [] ≡ before ++ m ∷ behind → ⊥
among_none m [] behind at = absurd cc
among_none m (e ∷ before) behind at = absurd cc

among_one : (x m : Begun) (before behind : List Begun) → x ∷ [] ≡ before ++ m ∷ behind → m ≡ x
among_one x m [] behind at = cc
among_one x m (e ∷ before) behind at = absurd (among_none m before behind cc)

added_bytes : (here : Bool) (x : Begun) (f : ℕ) (bytes : List ℕ) → HasMessage (cond here ([] ++ x ∷ []) []) f bytes → bytes ≡ x.bytes
added_bytes true x f bytes m = ap (λ y. y.bytes) (among_one x _ m.earlier m.later m.at)
added_bytes false x f bytes m = absurd (among_none _ m.earlier m.later m.at)

sent_bytes : (alloc : Global) (u t f : ℕ) (bytes : List ℕ) → WasSent (taken alloc) u t f bytes → bytes ≡ payload
sent_bytes alloc u t f bytes (inl m) = absurd (among_none _ m.earlier m.later m.at)
sent_bytes alloc u t f bytes (inr m) = added_bytes _ (record { flow = 0; bytes = payload }) f bytes m

is_heard : (alloc : Global) → WasHeard (taken alloc) 0 1 0 payload
is_heard alloc = inr (record { earlier = []; later = []; at = refl })

none_of_gateway : (alloc : Global) → ¬ IsAmong (units_of_gateway (vehicle alloc) 0) (unit_at 0 0)
none_of_gateway alloc (zero, v) =
    let same : 1 ≡ v.value.unit = ap (λ w. w.unit) (same_Some _ _ v.value_is) in
    absurd (omega (arith, same, v.meets.1))
none_of_gateway alloc (suc zero, v) =
    let same : 1 ≡ v.value.bus = ap (λ w. w.bus) (same_Some _ _ v.value_is) in
    absurd (omega (arith, same, v.meets.0))
none_of_gateway alloc (suc (suc i), v) = absurd (none-some _ v.value_is)

-- the flow meets a need for its group of another unit, from whatever unit it is to come
flow_meets : (requests : List RequestPlan) (d : NeedPlan) → flow.group ≡ d.group → flow.sender ≢ d.unit → d.from ≡ None → Meets requests d flow
flow_meets requests d group other from = record {
  group = group;
  other = other;
  from = λ u is. absurd (none-some u (sym from ∙ is));
  reaches = inl refl;
  comes = λ is. absurd (false≢true is);
}

is_input : (alloc : Global) → IsInput (vehicle alloc) forward flow
is_input alloc = record {
  meets = flow_meets _ _ refl (λ same. absurd (omega (arith, same))) refl;
  other = none_of_gateway alloc;
}

forwards : (alloc : Global) (bytes : List ℕ) → bytes ≡ payload → Carries (vehicle alloc) (λ b. taken alloc) forward bytes
forwards alloc bytes are = inl (record {
  place = 0;
  flow = flow;
  flow_is = refl;
  input = is_input alloc;
  before = payload;
  heard = is_heard alloc;
  faithful = record { copied = λ copies. are; taken = λ k f t is there. absurd (none-some _ is) };
})

abbrev run : (alloc : Global) → VehicleRun (vehicle alloc)
run alloc = record {
  worlds = λ b. taken alloc;
  runs = λ b x is. (x.plan, inl refl, (steps alloc, runs_on alloc b x is));
  carries = λ place n m its feeds begun.
      subst (λ k. Carries (vehicle alloc) (λ b. taken alloc) k m.bytes) (sym (only_forward place n its))
      (forwards alloc m.bytes (sent_bytes alloc begun.flow.sender m.hearer m.point.at.flow m.bytes begun.so));
}

-- ---- the need

from_engine : (alloc : Global) → is_from_origin (vehicle alloc) need 0 ≡ true
unfolding trace_end
from_engine alloc = refl

is_needed : (alloc : Global) → IsNeedFlow (vehicle alloc) need 0 flow
is_needed alloc = record {
  meets = flow_meets _ _ refl (λ same. absurd (omega (arith, same))) refl;
  from = from_engine alloc;
}

is_reported : (alloc : Global) → WasReported (vehicle alloc) (λ b. taken alloc) (needed_message need 0 payload)
is_reported alloc = record { flow = flow; flow_is = refl; so = is_heard alloc }

is_exact_all : (alloc : Global) → AreAllExact (vehicle alloc) (point_on 1 0 (Some 0))
is_exact_all alloc =
    more (point_on 1 0 (Some 0)) (point_on 0 0 (Some 0)) 0 forward refl refl refl refl (none (point_on 0 0 (Some 0)) refl)

speed_read : reading speed payload ≡ Value (pos 2560)
unfolding number_at
speed_read = refl

pub a_message : Global → ForwardedMessage
a_message alloc = record {
  vehicle = vehicle alloc;
  clean = clean alloc;
  run = run alloc;
  need_place = 0;
  need = need;
  need_is = refl;
  place = 0;
  flow = flow;
  flow_is = refl;
  needed = is_needed alloc;
  bytes = payload;
  reported = is_reported alloc;
  exact = is_exact_all alloc;
  signal = speed;
  signal_is = refl;
  value = pos 2560;
  reads = speed_read;
  forward = 0;
  forwarded = refl;
}
