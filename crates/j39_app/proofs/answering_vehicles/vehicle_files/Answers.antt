use Rattle.std.proofs.Common.{rules, ◌≡◌, None, inl, inr, refl}
use Rattle.j39_stream.specs.declared.verdict.Verdict.TheVariants.{Unreadable}
use Rattle.j39_app.proofs.Ending.{answers_too, continues, ends_too, fails_too}
use Rattle.j39_app.proofs.answering_vehicles.vehicle_files.Goals as goal

pub returns-in_err-file : goal.returns-in_err-file
returns-in_err-file g c =
    fails_too _ c.vehicle_of.result _ c.in_err-file.was (search rules) (λ text part. (Unreadable, (part.0, part.1, inl (part.2, refl)))) (λ now. now)
    (λ long. inl long) (λ broken. inl broken) c.vehicle_of.ensures.ends

pub returns-in-Some : goal.returns-in-Some
returns-in-Some g c =
    let same : c.vehicle_of.new.sink ≡ c.args.sink.now = rw c.in-Some.is at c.in_ok-file.ensures.writes_nothing in
    let before = rw c.in-Some.is at c.in_ok-file.ensures.ends in
    let (text, (bytes, of, (says, nothing)), put) = before.written in
    let file = c.in-Some.file in
    continues same (ends_too (λ text verdict is. (bytes, of, inr (file, says, is))) (λ text is. (is.0, (bytes, of, inr (file, says, is.1))))
    (λ now. now) (λ long. inr (bytes, file, of, says, long)) (λ broken. inr (bytes, file, of, says, broken)) c.vehicle_with.result c.vehicle_with.ensures)

pub returns-in-None : goal.returns-in-None
returns-in-None g c =
    answers_too None _ c.vehicle_of.result (search rules) (λ text part. (part.0, part.1, inl (part.2, refl))) c.vehicle_of.ensures.ends
