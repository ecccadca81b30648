use Rattle.j39_line_check.proofs.check.reported_of_full.Goals as goal

pub returns : goal.returns
returns c = rw (c.deref.ensures.value, c.deref-2.ensures.value) at (c.in_ok-add_counted.ensures _ c.in_ok-reported.ensures)
