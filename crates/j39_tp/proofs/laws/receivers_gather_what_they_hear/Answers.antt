use Rattle.j39_tp.proofs.Gathering.{hears_gathers, times_out_gathers, completes_carried}
use Rattle.j39_tp.proofs.laws.receivers_gather_what_they_hear.Goals as goal

pub returns-clause-hears : goal.returns-clause-hears
returns-clause-hears c = hears_gathers

pub returns-clause-times_out : goal.returns-clause-times_out
returns-clause-times_out c = times_out_gathers

pub returns-clause-completes : goal.returns-clause-completes
returns-clause-completes c = completes_carried
