-- Which tree some bytes are, and what reading them answers.
use Rattle.std.specs.Prelude.{◌≡◌, ℕ, List, [], if◌then◌else◌, IsTrue, Option, Some, None, Result, Ok, Err}
use Rattle.std.specs.Str.{is_utf8}
use Rattle.toml.specs.Data.{Members}
use Rattle.toml.specs.Errors.{IsBlank}
use Rattle.toml.specs.Parse.{parse_document}
use Rattle.j39_toml.specs.declared.file_error.FileError.{FileError}
use Rattle.j39_toml.specs.declared.file_error.FileError.TheVariants as errors
use Rattle.j39_toml.specs.Outcome.{first}

-- the tree of a text, where the bytes are UTF-8 and TOML
abbrev pub tree_of : List ℕ → Option Members
tree_of bytes = if is_utf8 bytes then parse_document bytes else None

-- reading the bytes may ask for room: they are UTF-8, and not white space and comments alone
abbrev pub MayAskForRoom : List ℕ → Type 0
MayAskForRoom bytes = IsTrue (is_utf8 bytes) × ¬ IsBlank bytes

-- the tree, as a value shows it, or that there is none, or want of memory
abbrev pub FindsTree : {X F : Type 0} → (X → Members) → List ℕ → Result X (FileError F) → Type 0
FindsTree shown bytes (Ok x) = tree_of bytes ≡ Some (shown x)
FindsTree shown bytes (Err errors.Text) = tree_of bytes ≡ None
FindsTree shown bytes (Err (errors.Fault f)) = ⊥
FindsTree shown bytes (Err errors.Memory) = MayAskForRoom bytes

-- what the tree reports, where it has no fault, or its first fault, or that there is no tree, unless memory ran out
abbrev pub ReadsTree : {X F : Type 0} → (Members → List F) → (Members → X → Type 0) → Result X (FileError F) → Option Members → Type 0
ReadsTree faults Describes (Ok x) tree = (t : Members) × (tree ≡ Some t) × ((faults t ≡ []) × Describes t x)
ReadsTree faults Describes (Err errors.Text) tree = tree ≡ None
ReadsTree faults Describes (Err (errors.Fault f)) tree = (t : Members) × (tree ≡ Some t) × (first (faults t) ≡ Some f)
ReadsTree faults Describes (Err errors.Memory) tree = Unit {0}
