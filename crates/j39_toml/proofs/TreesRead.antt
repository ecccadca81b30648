-- From the tree of a text to what reading it answers.
use Rattle.std.proofs.Common.{◌≡◌, ℕ, [], suc, length, sym, ◌∙◌, subst, refl, IsErrOf}
use Rattle.std.proofs.Common.{true, false, List, Option, Some, None, Result, Ok, Err}
use Rattle.std.specs.Prelude.{IsUtf8}
use Rattle.std.specs.Str.{is_utf8}
use Rattle.std.proofs.lemmas.Str.{is_utf8-from_IsUtf8, IsUtf8-from_is_utf8}
use Rattle.std.proofs.lemmas.Option.{same_Some}
use Rattle.toml.specs.Data.{Members, no_members}
use Rattle.toml.specs.Errors.{IsBlank}
use Rattle.toml.specs.Tables.{no_nodes}
use Rattle.toml.specs.Parse.{parse_document, lines, skip_bom}
use Rattle.j39_toml.specs.declared.file_error.FileError.{FileError}
use Rattle.j39_toml.specs.declared.file_error.FileError.TheVariants as errors
use Rattle.j39_toml.specs.Outcome.{GivesGrowing, FailsGrowing}
use Rattle.j39_toml.specs.FileTrees.{tree_of, MayAskForRoom, FindsTree, ReadsTree}

pub tree_of_utf8 : (bytes : List ℕ) → IsUtf8 bytes → tree_of bytes ≡ parse_document bytes
tree_of_utf8 bytes is = rw (is_utf8-from_IsUtf8 bytes is)

pub no_tree : (bytes : List ℕ) → (IsUtf8 bytes → ⊥) → tree_of bytes ≡ None
no_tree bytes not = elim (is_utf8 bytes) as (λ b. is_utf8 bytes ≡ b → tree_of bytes ≡ None) [
  | true ↦ λ e. absurd (not (IsUtf8-from_is_utf8 bytes e))
  | false ↦ λ e. rw e
] refl

pub reads_tree : {X F : Type 0} (faults : Members → List F) (Describes : Members → X → Type 0) (Grows : Type 0) (r : Result X (FileError F)) (t : Members)
    (tree : Option Members) → tree ≡ Some t → GivesGrowing Grows r (faults t) (Describes t) → ReadsTree faults Describes r tree
reads_tree faults Describes Grows (Ok x) t tree found gives = (t, found, gives)
reads_tree faults Describes Grows (Err errors.Text) t tree found gives = absurd gives
reads_tree faults Describes Grows (Err (errors.Fault f)) t tree found gives = (t, found, gives)
reads_tree faults Describes Grows (Err errors.Memory) t tree found gives = tt

-- what finds no tree reads none
pub reads_none : {X Y F : Type 0} (faults : Members → List F) (Describes : Members → X → Type 0) (shown : Y → Members) (bytes : List ℕ) (e : FileError F)
    → FindsTree shown bytes (Err e) → ReadsTree faults Describes (Err e) (tree_of bytes)
reads_none faults Describes shown bytes errors.Text found = found
reads_none faults Describes shown bytes (errors.Fault f) found = absurd found
reads_none faults Describes shown bytes errors.Memory found = tt

-- ---- memory

blank_lines : (n : ℕ) (text : List ℕ) → IsBlank text → lines (suc n) (no_nodes, []) (skip_bom text) ≡ Some (no_nodes, [])
unfolding lines
blank_lines n text blank = rw blank

-- a blank text is the empty table
blank_document : (text : List ℕ) → IsBlank text → parse_document text ≡ Some no_members
unfolding parse_document
blank_document text blank = rw (blank_lines (length text) text blank)

parsed : (bytes : List ℕ) (t : Members) → tree_of bytes ≡ Some t → (is_utf8 bytes ≡ true) × (parse_document bytes ≡ Some t)
parsed bytes t is = elim (is_utf8 bytes) as (λ b. is_utf8 bytes ≡ b → (is_utf8 bytes ≡ true) × (parse_document bytes ≡ Some t)) [
  | true ↦ λ e. (e, rw e at is)
  | false ↦ λ e. let none : None ≡ Some t = rw e at is in absurd (cc none)
] refl

never_blank : (Grows : Members → Type 0) (text : List ℕ) (t : Members) → ¬ Grows no_members → parse_document text ≡ Some t → Grows t → ¬ IsBlank text
never_blank Grows text t never is grows = λ blank.
    let empty : t ≡ no_members = same_Some _ _ (sym is ∙ blank_document text blank) in
    never (subst Grows empty grows)

-- where a tree is read that asks for no room if it is empty, room is asked for of more than a blank text
pub room_asked : {X F : Type 0} (faults : Members → List F) (Describes : Members → X → Type 0) (Grows : Members → Type 0)
    (r : Result X (FileError F)) (bytes : List ℕ) (t : Members)
    → ¬ Grows no_members → tree_of bytes ≡ Some t → GivesGrowing (Grows t) r (faults t) (Describes t) → IsErrOf r errors.Memory
    → MayAskForRoom bytes
room_asked faults Describes Grows (Ok x) bytes t never is gives memory = cc
room_asked {F = F} faults Describes Grows (Err e) bytes t never is gives memory =
    let same : e ≡ errors.Memory = cc in
    let P : FileError F → Type 0 = λ x. FailsGrowing (Grows t) x (faults t) in
    let here = parsed bytes t is in
    (here.0, never_blank Grows bytes t never here.1 (subst P same gives))

-- want of memory for the tree itself
pub room_for_tree : {Y F : Type 0} (shown : Y → Members) (bytes : List ℕ) (e : FileError F) → FindsTree shown bytes (Err e) → e ≡ errors.Memory
    → MayAskForRoom bytes
room_for_tree shown bytes errors.Text found is = cc
room_for_tree shown bytes (errors.Fault f) found is = absurd found
room_for_tree shown bytes errors.Memory found is = found
