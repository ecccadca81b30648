use Rattle.std.proofs.Common.{codes}
use Rattle.clap.specs.Words.{App, with_subcommand}
use Rattle.j39_command_line.specs.Commands.{audit_command, commands, one_value, program, two_values, two_values_and_flag, value_and_values}
use Rattle.j39_command_line.proofs.CommandLaws.{added, known}
use Rattle.j39_command_line.proofs.commands.commands.Goals as goal

pub returns : goal.returns
unfolding commands
returns c =
    let frames_is = known c.program-no_commands.result c.with_one-frames.result program
    (one_value (codes "frame") (codes "LINE")) c.program-no_commands.ensures c.with_one-frames.ensures in
    let with_frames : App = with_subcommand program (one_value (codes "frame") (codes "LINE")).top in
    let shows_is = known c.with_one-frames.result c.with_one-shows.result with_frames
    (one_value (codes "show") (codes "PLAN")) frames_is c.with_one-shows.ensures in
    let with_shows : App = with_subcommand with_frames (one_value (codes "show") (codes "PLAN")).top in
    let variants : App = value_and_values (codes "variant") (codes "PLAN") (codes "LABEL") in
    let variants_is = known c.with_one-shows.result c.with-variants.result with_shows variants shows_is
    (added c.with_one-shows.result c.with-variants.result c.variant.result variants c.variant.ensures.app c.with-variants.ensures) in
    let with_variants : App = with_subcommand with_shows variants.top in
    let checks_is = known c.with-variants.result c.with_one-checks.result with_variants
    (one_value (codes "check") (codes "PLAN")) variants_is c.with_one-checks.ensures in
    let with_checks : App = with_subcommand with_variants (one_value (codes "check") (codes "PLAN")).top in
    let addresses_is = known c.with_one-checks.result c.with_one-addresses.result with_checks
    (one_value (codes "addresses") (codes "PLAN")) checks_is c.with_one-addresses.ensures in
    let with_addresses : App = with_subcommand with_checks (one_value (codes "addresses") (codes "PLAN")).top in
    let loads_is = known c.with_one-addresses.result c.with_one-loads.result with_addresses
    (one_value (codes "load") (codes "PLAN")) addresses_is c.with_one-loads.ensures in
    let with_loads : App = with_subcommand with_addresses (one_value (codes "load") (codes "PLAN")).top in
    let runs : App = two_values (codes "run") (codes "PLAN") (codes "SCHEDULE") in
    let runs_is = known c.with_one-loads.result c.with-runs.result with_loads runs loads_is
    (added c.with_one-loads.result c.with-runs.result c.two_values.result runs c.two_values.ensures.app c.with-runs.ensures) in
    let with_runs : App = with_subcommand with_loads runs.top in
    let reads : App = two_values (codes "read") (codes "PLAN") (codes "LOG") in
    let reads_is = known c.with-runs.result c.with-reads.result with_runs reads runs_is
    (added c.with-runs.result c.with-reads.result c.two_values-2.result reads c.two_values-2.ensures.app c.with-reads.ensures) in
    let with_reads : App = with_subcommand with_runs reads.top in
    let follows : App = two_values_and_flag (codes "follow") (codes "PLAN") (codes "LOG") (codes "all") in
    let follows_is = known c.with-reads.result c.with-follows.result with_reads follows reads_is
    (added c.with-reads.result c.with-follows.result c.follow.result follows c.follow.ensures.app c.with-follows.ensures) in
    let with_follows : App = with_subcommand with_reads follows.top in
    let audits_is = known c.with-follows.result c.with-audits.result with_follows audit_command follows_is
    (added c.with-follows.result c.with-audits.result c.audit.result audit_command c.audit.ensures.app c.with-audits.ensures) in
    let with_audits : App = with_subcommand with_follows audit_command.top in
    known c.with-audits.result c.with_one.result with_audits (one_value (codes "vehicle") (codes "VEHICLE")) audits_is c.with_one.ensures
