use Rattle.std.proofs.Common.{rules, List, ℕ, [], Some, Ok, Err, inl, inr, refl}
use Rattle.j39_stream.proofs.Answering.{answered, not_read, read_and_put}
use Rattle.j39_stream.proofs.Parts.{none_taken}
use Rattle.j39_variants.specs.DescribedLines.{ReadsProductLine}
use Rattle.j39_toml.specs.FileTrees.{tree_of}
use Rattle.j39_vehicle_text.specs.VehicleFileText.{HasChoices, IsRefusedBus}
use Rattle.j39_vehicle_text.proofs.bus_file.bus_plan.Goals as goal

pub returns-in_err-input-clause-answers : goal.returns-in_err-input-clause-answers
returns-in_err-input-clause-answers g c =
    not_read _ c.from_residual.ensures.0 (λ e. c.read_whole.ensures.long (search rules)) (λ e. c.read_whole.ensures.device (search rules))

pub returns-in-Ok-clause-answers : goal.returns-in-Ok-clause-answers
returns-in-Ok-clause-answers g c =
    let input : List ℕ = c.in_ok-input.input.items in
    let read = c.in_ok-input.ensures.whole in
    let reads : ReadsProductLine (Ok c.in-Ok.line) (tree_of input) = rw c.as_slice.ensures.value at c.in-Ok.ensures.reads in
    answered input [] (Some c.in-Ok.line.plan) read.0 read.1 c.in_ok-input.ensures.limits
    ((c.in-Ok.line, reads, c.has_choices.ensures.none c.if-has_choices.false, refl), refl) (none_taken _) (c.in_ok-input.ensures.calm (λ e. cc e), refl)

pub returns-then-has_choices-clause-answers : goal.returns-then-has_choices-clause-answers
returns-then-has_choices-clause-answers g c =
    let input : List ℕ = c.in_ok-input.input.items in
    let label : List ℕ = c.args.label.now.bytes in
    let read = c.in_ok-input.ensures.whole in
    let reads : ReadsProductLine (Ok c.in-Ok.line) (tree_of input) = rw c.as_slice.ensures.value at c.in-Ok.ensures.reads in
    let has : HasChoices input = (c.in-Ok.line, reads, c.has_choices.ensures.some c.if-has_choices.true) in
    read_and_put input
    (λ text plan is. let refused : IsRefusedBus label input text = inr (has, is.0) in (rw is.1 refused, refused))
    c.refuse_choices.result read.0 read.1 c.in_ok-input.ensures.limits (c.in_ok-input.ensures.calm (λ e. cc e)) c.refuse_choices.ensures

pub returns-clause-answers : goal.returns-clause-answers
returns-clause-answers g c =
    let input : List ℕ = c.in_ok-input.input.items in
    let label : List ℕ = c.args.label.now.bytes in
    let read = c.in_ok-input.ensures.whole in
    let reads : ReadsProductLine (Err c.in-Err.error) (tree_of input) = rw c.as_slice.ensures.value at c.in-Err.ensures.reads in
    read_and_put input
    (λ text plan is.
    let (line, wrong, text_is) = is.0 in
    let refused : IsRefusedBus label input text = inl (line, (c.in-Err.error, reads, wrong), text_is) in (rw is.1 refused, refused))
    c.refuse.result read.0 read.1 c.in_ok-input.ensures.limits (c.in_ok-input.ensures.calm (λ e. cc e)) c.refuse.ensures
