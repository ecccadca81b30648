use Rattle.j39_run_laws.proofs.Addresses.CleanEnds.{clean_ends_alone}
use Rattle.j39_run_laws.proofs.Transfers.LiveEnds.{ends_undisturbed, stays_undisturbed}
use Rattle.j39_run_laws.proofs.laws.transfers.ends_are_undisturbed.Goals as goal

pub returns : goal.returns
returns c = record {
  ends = λ plan steps w clean live run. ends_undisturbed plan clean steps w run (clean_ends_alone plan clean live);
  stay = λ plan steps w clean run u alone on step after other follows. stays_undisturbed plan clean steps w run u alone on step after other follows;
}
