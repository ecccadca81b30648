-- The parts of the text of a vehicle, put together.
use Rattle.std.proofs.Common.{◌≡◌, ℕ, ◌+◌, true, List, [], ◌++◌, Result, Ok, Err, IfOk, refl, ap, ◌∙◌, append_assoc}
use Rattle.j39_load.specs.declared.findings.load_finding.LoadFinding.{LoadFinding}
use Rattle.j39_stream.specs.declared.verdict.Verdict.{Verdict}
use Rattle.j39_vehicle.specs.declared.vehicle.Vehicle.{Vehicle}
use Rattle.j39_vehicle_times.specs.BusDelays.{AreDelays}
use Rattle.j39_vehicle_times.specs.declared.bus_delays.Delays.{Delays}
use Rattle.j39_vehicle_text.specs.CertifiedVehicle.{IsCertifiedVehicle}
use Rattle.j39_vehicle_text.specs.ForwardLines.{forward_lines}
use Rattle.j39_vehicle_text.specs.NeedLines.{vehicle_need_lines}
use Rattle.j39_vehicle_text.specs.VehicleBlocks.{AreBlocks, all_are_of_times, count_of_plans}
use Rattle.j39_vehicle_text.specs.VehicleText.{AreAllFound, IsFoundBeyond, IsVehicleReport, beyond_lines, count_beyond, end_line, end_verdict}
use Rattle.j39_vehicle_text.specs.declared.beyond_plans.BeyondPlans.{BeyondPlans}

pub ok_then : {V E : Type 0} {A B : V → Type 0} (r : Result V E) → IfOk r A → ((v : V) → A v → B v) → IfOk r B
ok_then (Ok v) is says = says v is
ok_then (Err e) is says = tt

-- the lines of forwards and needs, and what is found beside them
pub reported_times : (v : Vehicle) (delays : Delays) (old middle new : List ℕ) → AreDelays v delays → middle ≡ old ++ forward_lines v delays
    → new ≡ middle ++ vehicle_need_lines v delays → (found : BeyondPlans) → AreAllFound v delays found
    → (lines : List ℕ) × IsFoundBeyond v true lines found × (new ≡ old ++ lines)
reported_times v delays old middle new are forwards needs found (paths, times, queues) = (
  forward_lines v delays ++ vehicle_need_lines v delays,
  (paths, (delays, are, refl, times, queues)),
  needs ∙ ap (λ (t : List ℕ). t ++ vehicle_need_lines v delays) forwards
      ∙ append_assoc old (forward_lines v delays) (vehicle_need_lines v delays),
)

module _ (v : Vehicle) (others : List (List LoadFinding)) (blocks lines : List ℕ) (beyond : BeyondPlans) (count : ℕ) (verdict : Verdict)
    (are : AreBlocks v.buses.items others blocks) (is : IsFoundBeyond v (all_are_of_times v.buses.items others) lines beyond)
    (counts : count ≡ count_of_plans v.buses.items others + count_beyond beyond) (certified : count ≡ 0 → IsCertifiedVehicle v)
    (states : verdict ≡ end_verdict count) where
  -- the whole text
  pub whole : (first second third last : List ℕ) → first ≡ [] ++ blocks → second ≡ first ++ lines → third ≡ second ++ beyond_lines v beyond
      → last ≡ third ++ end_line v count → IsVehicleReport v last verdict
  whole first second third last one two three four = record {
    others = others;
    blocks = blocks;
    blocks_are = are;
    lines = lines;
    beyond = beyond;
    beyond_is = is;
    count = count;
    count_is = counts;
    certified = certified;
    text_is = four ∙ ap (λ (t : List ℕ). t ++ end_line v count)
        (three ∙ ap (λ (t : List ℕ). t ++ beyond_lines v beyond) (two ∙ ap (λ (t : List ℕ). t ++ lines) one))
        ∙ append_assoc (blocks ++ lines) (beyond_lines v beyond) (end_line v count)
        ∙ append_assoc blocks lines (beyond_lines v beyond ++ end_line v count);
    verdict_is = states;
  }
