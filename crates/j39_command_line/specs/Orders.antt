-- What a command line orders.
use Rattle.std.specs.Prelude.{◌≡◌, ◌⊎◌, ℕ, nat_le, nat_lt, ◌&&◌, Bool, true, false, if◌then◌else◌, List, length, None, Option, Some, codes, string_bytes, [], ◌∷◌, map, unwrap_or}
use Rattle.std.specs.Char.{is_ascii_digit}
use Rattle.std.specs.List.{list_all}
use Rattle.std.specs.Str.Parse.{digits_value}
use Rattle.clap.specs.Words.{IsAmong, Kinds, Row, Text, all_of, fault_of, first_of, one_of, subcommand_of}
use Rattle.j39_command_line.specs.Commands.{commands}
use Rattle.clap.specs.declared.error.kind.ErrorKind.{ErrorKind}
use Rattle.clap.specs.declared.error.kind.ErrorKind.TheVariants as kind
use Rattle.j39_command_line.specs.declared.orders.Frames.{Frames}
use Rattle.j39_command_line.specs.declared.orders.Frames.TheVariants.{All, Planned}
use Rattle.j39_command_line.specs.declared.orders.Order.{Order}
use Rattle.j39_command_line.specs.declared.orders.Order.TheVariants.{Input, Frame, Show, Variant, Check, Addresses, Load, Run, Read, Follow, Audit, Vehicle, Help}

-- the subcommand that was met has this name, and the value by this name is the text
abbrev pub HasValue : Option (Text × List Row) → Text → Text → Text → Type 0
HasValue met name value text = (rows : List Row) × (met ≡ Some (name, rows)) × (first_of value rows ≡ Some text)

-- the subcommand that was met has this name, and the values by this name are the texts, of which there may be none
abbrev pub HasValues : Option (Text × List Row) → Text → Text → List Text → Type 0
HasValues met name value texts = (rows : List Row) × (met ≡ Some (name, rows)) × (unwrap_or (all_of value rows) [] ≡ texts)

-- the subcommand that was met has this name, and of the flag by this name it says whether it is given
abbrev pub HasFlag : Option (Text × List Row) → Text → Text → Bool → Type 0
HasFlag met name flag given =
    (rows : List Row) × (met ≡ Some (name, rows)) × (one_of flag rows ≡ Some (codes "true") → given ≡ true)
    × (one_of flag rows ≡ Some (codes "false") → given ≡ false) × (one_of flag rows ≡ None → given ≡ false)

-- these are the digits of a number, which is at most a second in microseconds
abbrev pub are_stamps : Text → Bool
are_stamps text = nat_lt 0 (length text) && (list_all is_ascii_digit text && nat_le (digits_value 10 text) 1000000)

-- these are the digits of a number of milliseconds, which is at least one, and at most a second
abbrev pub are_quiet : Text → Bool
are_quiet text = nat_lt 0 (length text) && (list_all is_ascii_digit text && (nat_lt 0 (digits_value 10 text) && nat_le (digits_value 10 text) 1000))

-- all frames of a log are reported, also those of groups that aren't planned
abbrev pub are_all : Frames → Bool
are_all All = true
are_all Planned = false

-- by how many microseconds times differ: 1000 unless a number is given
abbrev pub stamps_in : Option Text → Option ℕ
stamps_in None = Some 1000
stamps_in (Some text) = if are_stamps text then Some (digits_value 10 text) else None

-- the subcommand that was met has this name, and so many are given or meant
abbrev pub HasStamps : Option (Text × List Row) → Text → ℕ → Type 0
HasStamps met name stamps = (rows : List Row) × (met ≡ Some (name, rows)) × (stamps_in (first_of (codes "stamps") rows) ≡ Some stamps)

-- how many milliseconds without a frame are a gap: by the plan unless a number is given
abbrev pub quiet_in : Option Text → Option (Option ℕ)
quiet_in None = Some None
quiet_in (Some text) = if are_quiet text then Some (Some (digits_value 10 text)) else None

abbrev pub HasQuiet : Option (Text × List Row) → Text → Option ℕ → Type 0
HasQuiet met name quiet = (rows : List Row) × (met ≡ Some (name, rows)) × (quiet_in (first_of (codes "quiet") rows) ≡ Some quiet)

-- the order is the subcommand that was met, with its values, or the words ask for a text of help
abbrev pub Orders : Option (Text × List Row) → Order → Type 0
Orders met (Frame line) = HasValue met (codes "frame") (codes "LINE") (string_bytes line)
Orders met (Show plan) = HasValue met (codes "show") (codes "PLAN") (string_bytes plan)
Orders met (Variant plan labels) =
    HasValue met (codes "variant") (codes "PLAN") (string_bytes plan) × HasValues met (codes "variant") (codes "LABEL") (map string_bytes labels.items)
Orders met (Check plan) = HasValue met (codes "check") (codes "PLAN") (string_bytes plan)
Orders met (Addresses plan) = HasValue met (codes "addresses") (codes "PLAN") (string_bytes plan)
Orders met (Load plan) = HasValue met (codes "load") (codes "PLAN") (string_bytes plan)
Orders met (Run plan schedule) =
    HasValue met (codes "run") (codes "PLAN") (string_bytes plan) × HasValue met (codes "run") (codes "SCHEDULE") (string_bytes schedule)
Orders met (Read plan log) =
    HasValue met (codes "read") (codes "PLAN") (string_bytes plan) × HasValue met (codes "read") (codes "LOG") (string_bytes log)
Orders met (Follow plan log frames) =
    HasValue met (codes "follow") (codes "PLAN") (string_bytes plan) × HasValue met (codes "follow") (codes "LOG") (string_bytes log)
    × HasFlag met (codes "follow") (codes "all") (are_all frames)
Orders met (Audit plan log part stamps quiet) =
    HasValue met (codes "audit") (codes "PLAN") (string_bytes plan) × HasValue met (codes "audit") (codes "LOG") (string_bytes log)
    × HasFlag met (codes "audit") (codes "part") part × HasStamps met (codes "audit") stamps × HasQuiet met (codes "audit") quiet
Orders met (Vehicle vehicle) = HasValue met (codes "vehicle") (codes "VEHICLE") (string_bytes vehicle)
Orders met Input = ⊥
Orders met (Help text) = Unit {0}

abbrev pub IsHelp : Order → Type 0
IsHelp (Help text) = Unit {0}
IsHelp Input = ⊥
IsHelp (Frame line) = ⊥
IsHelp (Show plan) = ⊥
IsHelp (Variant plan labels) = ⊥
IsHelp (Check plan) = ⊥
IsHelp (Addresses plan) = ⊥
IsHelp (Load plan) = ⊥
IsHelp (Run plan schedule) = ⊥
IsHelp (Read plan log) = ⊥
IsHelp (Follow plan log frames) = ⊥
IsHelp (Audit plan log part stamps quiet) = ⊥
IsHelp (Vehicle vehicle) = ⊥

-- what the words order: the input where there are none, and else what they name
abbrev pub IsOrdered : List Text → Order → Type 0
IsOrdered [] order = order ≡ Input
IsOrdered (word ∷ words) order = Orders (subcommand_of commands (word ∷ words)) order

-- nothing is ordered, but a text of help may be asked for
abbrev pub OrdersNothing : Option (Text × List Row) → Type 0
OrdersNothing met = (order : Order) → Orders met order → IsHelp order

-- a call for the help or the version, which clap reports as it reports a fault
abbrev pub asks_for_text : ErrorKind → Bool
asks_for_text kind.DisplayHelp = true
asks_for_text kind.DisplayVersion = true
asks_for_text _ = false

-- the faults of the words, of which one is reported
unfoldable pub faults_of_words : List Text → Kinds
faults_of_words words = fault_of commands words

-- the words ask for a text of help
abbrev pub AsksHelp : List Text → Type 0
AsksHelp words = (k : ErrorKind) × IsAmong k (faults_of_words words) × (asks_for_text k ≡ true)

-- the words are no command with its values: they have a fault, or nothing is ordered by them
abbrev pub AreRefused : List Text → Type 0
AreRefused words = ((k : ErrorKind) × IsAmong k (faults_of_words words) × (asks_for_text k ≡ false)) ⊎ OrdersNothing (subcommand_of commands words)
