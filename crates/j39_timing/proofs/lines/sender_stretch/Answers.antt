use Rattle.std.proofs.Common.{length, map, refl, Some, None, ◌≡◌}
use Rattle.std.proofs.lemmas.Option.{slice_get_past, slice_get_read}
use Rattle.std.specs.List.{slice_get}
use Rattle.j39_timing.specs.Waits.{as_demand}
use Rattle.j39_timing.proofs.LeastShares.{nothing-of, wanted-of}
use Rattle.j39_timing.proofs.lines.sender_stretch.Goals as goal

pub returns-in-Some-clause-below : goal.returns-in-Some-clause-below
returns-in-Some-clause-below c =
    let (_, _, _, (inside, read), _) = c.in-Some.ensures.lookup in
    let found : slice_get (map as_demand c.args.all.now) c.args.place ≡ Some (as_demand c.in-Some.wanted.now) =
    wanted-of c.args.all.now c.args.place c.in-Some.wanted.now
    (slice_get_read c.args.all.now (length c.args.all.now) c.args.place c.in-Some.wanted.now refl inside (read c.in-Some.wanted.now)) in
    rw found c.wanted_stretch.ensures.below

pub returns-in-None-clause-below : goal.returns-in-None-clause-below
returns-in-None-clause-below c =
    let (_, _, _, past, _) = c.in-None.ensures.lookup in
    let none : slice_get (map as_demand c.args.all.now) c.args.place ≡ None =
    nothing-of c.args.all.now c.args.place (slice_get_past c.args.all.now c.args.place past) in
    rw none (c.paced_stretch.ensures.below c.args.span)
