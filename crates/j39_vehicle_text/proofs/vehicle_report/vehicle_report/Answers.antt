use Rattle.std.proofs.Common.{◌≡◌, ◌∙◌, ◌+◌, refl, sym}
use Rattle.j39_vehicle_text.proofs.NoFindings.{nothing_found}
use Rattle.j39_vehicle_text.proofs.Reporting.{whole}
use Rattle.j39_vehicle_text.specs.VehicleBlocks.{count_of_plans}
use Rattle.j39_vehicle_text.specs.VehicleText.{count_beyond}
use Rattle.j39_vehicle_text.proofs.vehicle_report.vehicle_report.Goals as goal

pub write_beyond-requires : goal.write_beyond-requires
write_beyond-requires c = c.in_ok-plans.ensures.delays c.args.vehicle.now (sym c.deref.ensures.value)

pub write_end-requires : goal.write_end-requires
write_end-requires c none =
    let v = c.args.vehicle.now in
    let (others, blocks, are, first, counts, times) = rw c.deref.ensures.value at c.in_ok-plans.ensures.stated in
    let (lines, is, second) = c.in_ok-found.ensures in
    let beyond = c.in_ok-found.found in
    let counted : c.in_ok-plans.plans.count + c.count.result ≡ count_of_plans v.buses.items others + count_beyond beyond =
    rw (counts, c.count.ensures.count) refl in
    nothing_found v others blocks lines beyond are (rw times at is) (sym counted ∙ none)

pub returns : goal.returns
returns c =
    let v = c.args.vehicle.now in
    let (others, blocks, are, first, counts, times) = rw c.deref.ensures.value at c.in_ok-plans.ensures.stated in
    let (lines, is, second) = c.in_ok-found.ensures in
    let beyond = c.in_ok-found.found in
    let counted : c.in_ok-plans.plans.count + c.count.result ≡ count_of_plans v.buses.items others + count_beyond beyond =
    rw (counts, c.count.ensures.count) refl in
    whole v others blocks lines beyond (c.in_ok-plans.plans.count + c.count.result) c.in_ok-verdict.verdict are (rw times at is) counted
    c.in_ok-verdict.ensures.certified c.in_ok-verdict.ensures.verdict c.write_blocks.new.text c.write_beyond.new.text c.write.new.text
    c.write_end.new.text (rw c.new-text.ensures at first) second c.in_ok-write.ensures c.in_ok-verdict.ensures.text
