use Rattle.j39_app.proofs.Ending.{put_ends, whole_ends}
use Rattle.j39_app.proofs.answering.answer.Goals as goal

pub returns-in-Input-clause-ends : goal.returns-in-Input-clause-ends
returns-in-Input-clause-ends g c =
    rw c.in-Input.is
    (whole_ends (g.S.Source.state c.args.input.now).left _ _ (λ all is. is) (λ bytes text of part. (part.0, (bytes, of, part.1))) (λ failed. failed)
    c.input_by.result c.input_by.ensures)

pub returns-in-Frame-clause-ends : goal.returns-in-Frame-clause-ends
returns-in-Frame-clause-ends g c =
    rw c.in-Frame.is (put_ends (λ text verdict is. (verdict, is)) c.frame_text.result (rw c.as_bytes.ensures.value at c.frame_text.ensures.puts))

pub returns-in-Show-clause-ends : goal.returns-in-Show-clause-ends
returns-in-Show-clause-ends g c = rw c.in-Show.is (rw c.deref.ensures at c.of_plan_file.ensures)

pub returns-in-Variant-clause-ends : goal.returns-in-Variant-clause-ends
returns-in-Variant-clause-ends g c =
    rw c.in-Variant.is (rw (c.deref-in-Variant.ensures.value, c.deref-in-Variant-2.ensures) at c.of_plan_file-in-Variant.ensures)

pub returns-in-Check-clause-ends : goal.returns-in-Check-clause-ends
returns-in-Check-clause-ends g c = rw c.in-Check.is (rw c.deref-in-Check.ensures at c.of_plan_file-in-Check.ensures)

pub returns-in-Addresses-clause-ends : goal.returns-in-Addresses-clause-ends
returns-in-Addresses-clause-ends g c = rw c.in-Addresses.is (rw c.deref-in-Addresses.ensures at c.of_plan_file-in-Addresses.ensures)

pub returns-in-Load-clause-ends : goal.returns-in-Load-clause-ends
returns-in-Load-clause-ends g c = rw c.in-Load.is (rw c.deref-in-Load.ensures at c.of_plan_file-in-Load.ensures)

pub returns-in-Run-clause-ends : goal.returns-in-Run-clause-ends
returns-in-Run-clause-ends g c = rw c.in-Run.is (rw (c.deref-in-Run.ensures, c.deref-in-Run-2.ensures) at c.by_two.ensures)

pub returns-in-Read-clause-ends : goal.returns-in-Read-clause-ends
returns-in-Read-clause-ends g c = rw c.in-Read.is (rw (c.deref-in-Read.ensures, c.deref-in-Read-2.ensures) at c.by_two-in-Read.ensures)

pub returns-in-Follow-clause-ends : goal.returns-in-Follow-clause-ends
returns-in-Follow-clause-ends g c = rw c.in-Follow.is (rw (
  c.deref-in-Follow.ensures,
  c.deref-in-Follow-2.ensures,
  c.are_all.ensures,
) at c.by_two-in-Follow.ensures)

pub returns-in-Audit-clause-ends : goal.returns-in-Audit-clause-ends
returns-in-Audit-clause-ends g c = rw c.in-Audit.is (rw (c.deref-in-Audit.ensures, c.deref-in-Audit-2.ensures) at c.by_two-in-Audit.ensures)

pub returns-in-Vehicle-clause-ends : goal.returns-in-Vehicle-clause-ends
returns-in-Vehicle-clause-ends g c = rw c.in-Vehicle.is (rw c.deref-in-Vehicle.ensures at c.vehicle_files.ensures)
