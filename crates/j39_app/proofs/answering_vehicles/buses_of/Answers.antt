use Rattle.std.proofs.Common.{rules, ◌≡◌, None, refl, ◌∙◌}
use Rattle.std.proofs.lemmas.List.{drop_all}
use Rattle.std.proofs.lemmas.Slice.Zip.{AllZip-long}
use Rattle.j39_app.specs.VehicleAnswers.{IsPlanOfBus}
use Rattle.j39_app.proofs.BusesRead.{all_read, next_left, none_read, one_more, plan_read, some_bus}
use Rattle.j39_app.proofs.Ending.{answers_too, continues, fails_too, says_nothing, wants_memory}
use Rattle.j39_app.proofs.answering_vehicles.buses_of.Goals as goal

pub loop-table-init : goal.loop-table-init
loop-table-init g c = record { same = refl; read = rw c.new-buses.ensures.items (none_read _ _) }

pub loop-table-preserved : goal.loop-table-preserved
loop-table-preserved g c =
    let IsOf = IsPlanOfBus (g.F.Folder.bytes_of c.args.files.now) c.args.vehicle.now in
    let table = c.table-item.result in
    let so = next_left IsOf _ _ c.loop-table.table-index table c.table-item.is c.loop-table-test.true c.loop-table.invariant.read in
    let same : c.plan_of_bus.new.sink ≡ c.loop-table.sink = rw c.in-Some.is at c.in_ok-plan.ensures.writes_nothing in
    let (text, is, put) = (rw c.in-Some.is at c.in_ok-plan.ensures.ends).written in
    record {
      same = same ∙ c.loop-table.invariant.same;
      read = rw c.in_ok-add_bus-in-Some.ensures (one_more IsOf table _ _ _ _ so (plan_read _ _ table c.in-Some.plan text is));
    }

pub returns-in_err-plan-clause-ends : goal.returns-in_err-plan-clause-ends
returns-in_err-plan-clause-ends g c =
    let IsOf = IsPlanOfBus (g.F.Folder.bytes_of c.args.files.now) c.args.vehicle.now in
    let table = c.table-item.result in
    let so = next_left IsOf _ _ c.loop-table.table-index table c.table-item.is c.loop-table-test.true c.loop-table.invariant.read in
    continues c.loop-table.invariant.same (fails_too _ c.plan_of_bus.result _ c.in_err-plan.was (search rules) (λ text. some_bus _ _ table _ _ _ so)
    (λ now. now) (some_bus _ _ table _ _ _ so) (some_bus _ _ table _ _ _ so) c.plan_of_bus.ensures.ends)

pub returns-in_err-add_bus-in-Some-clause-ends : goal.returns-in_err-add_bus-in-Some-clause-ends
returns-in_err-add_bus-in-Some-clause-ends g c =
    let same : c.plan_of_bus.new.sink ≡ c.loop-table.sink = rw c.in-Some.is at c.in_ok-plan.ensures.writes_nothing in
    continues (same ∙ c.loop-table.invariant.same) (wants_memory _ (search rules))

pub returns-in-None-clause-ends : goal.returns-in-None-clause-ends
returns-in-None-clause-ends g c =
    let IsOf = IsPlanOfBus (g.F.Folder.bytes_of c.args.files.now) c.args.vehicle.now in
    let table = c.table-item.result in
    let so = next_left IsOf _ _ c.loop-table.table-index table c.table-item.is c.loop-table-test.true c.loop-table.invariant.read in
    continues c.loop-table.invariant.same (answers_too None _ c.plan_of_bus.result (search rules) (λ text. some_bus _ _ table _ _ _ so)
    c.plan_of_bus.ensures.ends)

pub returns-clause-ends : goal.returns-clause-ends
returns-clause-ends g c =
    let done = drop_all c.loop-table.table-index c.args.tables.now c.loop-table-test.false in
    continues c.loop-table.invariant.same (says_nothing _ (all_read _ _ _ (rw done at c.loop-table.invariant.read), refl))

pub returns-clause-count : goal.returns-clause-count
returns-clause-count g c =
    let done = drop_all c.loop-table.table-index c.args.tables.now c.loop-table-test.false in
    AllZip-long _ _ _ (all_read _ _ _ (rw done at c.loop-table.invariant.read))
