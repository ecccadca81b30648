use Rattle.j39_signal.proofs.Writes.{blank_ones, keeps_writes, value_read, ones_read}
use Rattle.j39_signal.proofs.laws.signals_are_sound.Goals as goal

pub returns-clause-kept : goal.returns-clause-kept
returns-clause-kept c = keeps_writes

pub returns-clause-blank : goal.returns-clause-blank
returns-clause-blank c = blank_ones

pub returns-clause-value : goal.returns-clause-value
returns-clause-value c = value_read

pub returns-clause-given_up : goal.returns-clause-given_up
returns-clause-given_up c = ones_read
