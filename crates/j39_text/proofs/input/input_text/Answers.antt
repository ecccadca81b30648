use Rattle.std.proofs.Common.{rules, ◌≡◌, List, ℕ, ap, ◌∙◌, subst}
use Rattle.std.specs.List.{before_first}
use Rattle.j39_id.specs.Lines.{is_line_feed}
use Rattle.j39_text.specs.FrameText.{IsFrameText}
use Rattle.j39_stream.proofs.Answering.{not_read, read_and_put}
use Rattle.j39_text.proofs.input.input_text.Goals as goal

pub returns-in_err-input : goal.returns-in_err-input
returns-in_err-input g c =
    not_read _ c.from_residual.ensures.0 (λ e. c.read_whole.ensures.long (search rules)) (λ e. c.read_whole.ensures.device (search rules))

pub returns : goal.returns
returns g c =
    let input : List ℕ = c.in_ok-input.input.items in
    let line : c.first_line.result.now ≡ before_first is_line_feed input = c.first_line.ensures ∙ ap (before_first is_line_feed) c.as_slice.ensures.value in
    let read = c.in_ok-input.ensures.whole in
    read_and_put input (λ text verdict is. let here = subst (λ (xs : List ℕ). IsFrameText xs text verdict) line is in (here, (verdict, here)))
    c.frame_text.result read.0 read.1 c.in_ok-input.ensures.limits (c.in_ok-input.ensures.calm (λ e. cc e)) c.frame_text.ensures.puts
