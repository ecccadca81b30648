use Rattle.std.proofs.Common.{rules, List, ℕ, [], Some, Err, refl}
use Rattle.j39_stream.proofs.Answering.{answered, not_read, read_and_put}
use Rattle.j39_stream.proofs.Parts.{none_taken}
use Rattle.j39_toml.specs.FileTrees.{tree_of}
use Rattle.j39_vehicle.specs.Described.{Reads}
use Rattle.j39_vehicle_text.specs.VehicleFileText.{IsRefusedVehicle}
use Rattle.j39_vehicle_text.proofs.file_text.vehicle_file.Goals as goal

pub returns-in_err-input-clause-answers : goal.returns-in_err-input-clause-answers
returns-in_err-input-clause-answers g c =
    not_read _ c.from_residual.ensures.0 (λ e. c.read_whole.ensures.long (search rules)) (λ e. c.read_whole.ensures.device (search rules))

pub returns-in-Ok-clause-answers : goal.returns-in-Ok-clause-answers
returns-in-Ok-clause-answers g c =
    let read = c.in_ok-input.ensures.whole in
    answered c.in_ok-input.input.items [] (Some c.in-Ok.file) read.0 read.1 c.in_ok-input.ensures.limits (search rules) (none_taken _)
    (c.in_ok-input.ensures.calm (λ e. cc e), refl)

pub returns-clause-answers : goal.returns-clause-answers
returns-clause-answers g c =
    let input : List ℕ = c.in_ok-input.input.items in
    let read = c.in_ok-input.ensures.whole in
    let reads : Reads (Err c.in-Err.error) (tree_of input) = rw c.as_slice.ensures.value at c.in-Err.ensures.reads in
    read_and_put input
    (λ text file is. let refused : IsRefusedVehicle input text = (c.in-Err.error, reads, is.0) in (rw is.1 refused, refused))
    c.refuse.result read.0 read.1 c.in_ok-input.ensures.limits (c.in_ok-input.ensures.calm (λ e. cc e)) c.refuse.ensures
