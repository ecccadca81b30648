use Rattle.j39_text.proofs.frame.line_text.Goals as goal

pub returns-in_ok-write_frame-in-Ok : goal.returns-in_ok-write_frame-in-Ok
returns-in_ok-write_frame-in-Ok c = (
  c.in-Ok.frame,
  c.in-Ok.ensures.found,
  rw c.new-text.ensures at c.in_ok-write_frame-in-Ok.ensures,
)
