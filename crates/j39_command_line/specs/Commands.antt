-- The command line: a subcommand for each word, with the values that it takes.
use Rattle.std.specs.Prelude.{true, codes, Some}
use Rattle.clap.specs.Simple.{on_top}
use Rattle.clap.specs.declared.builder.action.ArgAction.TheVariants.{Append, SetTrue}
use Rattle.clap.specs.Words.{App, Rule, Text, new_app, new_rule, with_rule, with_subcommand}

-- a value that has to be given
abbrev pub value_rule : Text → Rule
value_rule name = record (new_rule name) { required = true }

-- a flag that may be given, by two hyphens and its name
abbrev pub flag_rule : Text → Rule
flag_rule name = record (new_rule name) { long = Some name; action = Some SetTrue }

-- values of which none has to be given
abbrev pub any_values_rule : Text → Rule
any_values_rule name = record (new_rule name) { action = Some Append }

-- a subcommand that takes one value
abbrev pub one_value : Text → Text → App
one_value name value = with_rule (new_app name) (value_rule value)

-- a subcommand that takes two values
abbrev pub two_values : Text → Text → Text → App
two_values name value other = with_rule (one_value name value) (value_rule other)

-- one that takes a value, and any number of others
abbrev pub value_and_values : Text → Text → Text → App
value_and_values name value others = with_rule (one_value name value) (any_values_rule others)

-- one that takes two values, and may have a flag
abbrev pub two_values_and_flag : Text → Text → Text → Text → App
two_values_and_flag name value other flag = with_rule (two_values name value other) (flag_rule flag)

-- a value that may be given behind a name with two hyphens, and has a name in the help
abbrev pub option_rule : Text → Rule
option_rule name = record (new_rule name) { long = Some name; value_names = 1 }

-- the audit of a log by a plan, of a part of what the bus carried, by a logger of this error, with gaps of so many milliseconds
abbrev pub audit_command : App
audit_command = with_rule (with_rule (two_values_and_flag (codes "audit") (codes "PLAN") (codes "LOG") (codes "part")) (option_rule (codes "stamps")))
    (option_rule (codes "quiet"))

-- the words after the program's name, of which the first is a subcommand
abbrev pub program : App
program = on_top (λ s. record s { no_binary_name = true; subcommand_required = true; has_version = true }) (new_app (codes "j39plan"))

unfoldable pub commands : App
commands =
    with_subcommand
    (with_subcommand
    (with_subcommand
    (with_subcommand
    (with_subcommand
    (with_subcommand
    (with_subcommand
    (with_subcommand
    (with_subcommand
    (with_subcommand
    (with_subcommand program (one_value (codes "frame") (codes "LINE")).top)
    (one_value (codes "show") (codes "PLAN")).top)
    (value_and_values (codes "variant") (codes "PLAN") (codes "LABEL")).top)
    (one_value (codes "check") (codes "PLAN")).top)
    (one_value (codes "addresses") (codes "PLAN")).top)
    (one_value (codes "load") (codes "PLAN")).top)
    (two_values (codes "run") (codes "PLAN") (codes "SCHEDULE")).top)
    (two_values (codes "read") (codes "PLAN") (codes "LOG")).top)
    (two_values_and_flag (codes "follow") (codes "PLAN") (codes "LOG") (codes "all")).top)
    audit_command.top)
    (one_value (codes "vehicle") (codes "VEHICLE")).top
