use Rattle.std.proofs.Common.{◌≡◌, ◌<◌, length, get_or, take, arith}
use Rattle.std.proofs.lemmas.List.{take_all}
use Rattle.j39_vehicle_findings.proofs.Spreading.{next_of_all}
use Rattle.j39_vehicle_findings.proofs.reaching.reach.Goals as goal

pub reach-preserved : goal.reach-preserved
reach-preserved c =
    let places = c.args.places.now in
    let less : c.reach.place < length places = omega arith in
    let inside : get_or places c.reach.place 0 < length c.reach.reached.items = rw c.reach.invariant.count (c.requires c.reach.place 0 less) in
    next_of_all places c.reach.place 0 c.args.reached.now.items c.reach.reached.items c.reach_one.new.reached.items c.args.waiting.now.items
    c.reach.waiting.items c.reach_one.new.waiting.items c.reach.invariant less inside c.in_ok-reach_one.ensures

pub returns : goal.returns
returns c =
    let whole : take c.reach.place c.args.places.now ≡ c.args.places.now = take_all c.reach.place c.args.places.now (omega arith) in
    rw whole at c.reach.invariant
