use Rattle.std.proofs.Common.{rules, ◌≡◌, ℕ, List, None, inl, inr, refl}
use Rattle.j39_stream.specs.declared.verdict.Verdict.TheVariants.{Unreadable}
use Rattle.j39_vehicle_text.specs.VehicleText.{IsVehicleText}
use Rattle.j39_app.specs.Answers.{IsOfSome}
use Rattle.j39_app.proofs.Ending.{answers_too, continues, ends_too, fails_too, put_ends}
use Rattle.j39_app.proofs.answering_vehicles.vehicle_with.Goals as goal

pub returns-in_err-buses : goal.returns-in_err-buses
returns-in_err-buses g c =
    fails_too _ c.buses_of.result _ c.in_err-buses.was (search rules) (λ text part. (Unreadable, inl (part, refl))) (λ now. now) (λ long. long)
    (λ broken. broken) (rw c.deref.ensures.value at c.buses_of.ensures.ends)

pub returns-in-Some : goal.returns-in-Some
returns-in-Some g c =
    let same : c.buses_of.new.sink ≡ c.args.sink.now = rw c.in-Some.is at c.in_ok-buses.ensures.writes_nothing in
    let before = rw (c.in-Some.is, c.deref.ensures.value) at c.in_ok-buses.ensures.ends in
    let (text, (read, nothing), put) = before.written in
    let buses = c.in-Some.buses.items in
    continues same (ends_too (λ text verdict is. inr (buses, read, is))
    (λ (text : List ℕ) (is : IsOfSome (IsVehicleText c.args.file.now buses) text). (is.0, inr (buses, read, is.1))) (λ now. now) (λ long. long)
    (λ broken. broken) c.vehicle_by.result (put_ends (λ text verdict is. (verdict, is)) c.vehicle_by.result c.vehicle_by.ensures))

pub returns-in-None : goal.returns-in-None
returns-in-None g c = answers_too None _ c.buses_of.result (search rules) (λ text part. inl (part, refl)) (rw c.deref.ensures.value at c.buses_of.ensures.ends)
