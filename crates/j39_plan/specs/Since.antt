-- Since which version of a plan file each key of a table is known.
use Rattle.std.specs.Prelude.{◌≡◌, ℕ, List, [], ◌∷◌, ◌++◌, ◌&&◌, map, Bool, true, false, if◌then◌else◌}
use Rattle.std.specs.List.{filter, list_any}
use Rattle.std.specs.Str.{bytes_eq}
use Rattle.toml.specs.Data.{Members}
use Rattle.j39_plan.specs.PlanErrors.{PlanFault}
use Rattle.j39_plan.specs.declared.reading.key.Key.{Key}
use Rattle.j39_plan.specs.declared.reading.key.Key.TheVariants as key
use Rattle.j39_plan.specs.declared.reading.place.Table.{Table}
use Rattle.j39_plan.specs.declared.reading.version.Version.{Version}
use Rattle.j39_plan.specs.declared.reading.version.Version.TheVariants.{First, Second, Third, Fourth}
use Rattle.j39_plan.specs.Words.{word_of}
use Rattle.j39_plan.specs.Schema.{PlanRule}
use Rattle.j39_toml.specs.TableFaults.{key_faults, unknown_faults}

-- what is known since the first version is known to the second: to itself and to each later one
abbrev pub is_known : Version → Version → Bool
is_known First version = true
is_known Second First = false
is_known Second version = true
is_known Third Third = true
is_known Third Fourth = true
is_known Third version = false
is_known Fourth Fourth = true
is_known Fourth version = false

-- a rule, and since which version its key is known
pub record Since : Type 0 where
  pub rule : PlanRule
  pub version : Version

abbrev pub since : Version → PlanRule → Since
since version rule = record { rule = rule; version = version }

-- the keys of a table, each with the version since which it is known
abbrev pub keys_of : List Since → List (Key × Version)
keys_of [] = []
keys_of (s ∷ rules) = (s.rule.key, s.version) ∷ keys_of rules

-- those that a version knows
abbrev pub known_keys : Version → List (Key × Version) → List Key
known_keys version keys = map (λ k. k.0) (filter (λ k. is_known k.1 version) keys)

-- the rules that a version knows
abbrev pub known : Version → List Since → List Since
known version = filter (λ s. is_known s.version version)

abbrev pub rules_of : List Since → List PlanRule
rules_of = map (λ s. s.rule)

-- an older version knows what it knew: of all that a later one knows, what is known since its own time, in the same order
abbrev pub OlderKnow : Type 0
OlderKnow = (rules : List Since) (old new : Version) → is_known old new ≡ true → known old (known new rules) ≡ known old rules

-- one that the version knows is spelled so
abbrev pub is_known_word : Version → List (Key × Version) → List ℕ → Bool
is_known_word version keys name = list_any (λ k. is_known k.1 version && bytes_eq (word_of k.0) name) keys

-- what is wrong at a key that the version knows
abbrev pub since_faults : Table → Version → Members → Since → List PlanFault
since_faults at version ms s = if is_known s.version version then key_faults at ms s.rule else []

-- and at each such key, in the order of the rules
abbrev pub known_faults : Table → Version → Members → List Since → List PlanFault
known_faults at version ms [] = []
known_faults at version ms (s ∷ rules) = since_faults at version ms s ++ known_faults at version ms rules

-- a key that the version doesn't know, of those of the rules and of some others, and then the faults of each key in the order of the rules
abbrev pub faults_beside : List (Key × Version) → Table → Version → List Since → Members → List PlanFault
faults_beside others at version rules ms =
    unknown_faults word_of at (known_keys version (keys_of rules ++ others)) ms ++ known_faults at version ms rules

-- where no others are known
abbrev pub versioned_faults : Table → Version → List Since → Members → List PlanFault
versioned_faults at version rules ms = unknown_faults word_of at (known_keys version (keys_of rules)) ms ++ known_faults at version ms rules

-- the alternatives with which something is there are looked at behind all else of a file
abbrev pub with_key : List (Key × Version)
with_key = (key.With, Fourth) ∷ []
