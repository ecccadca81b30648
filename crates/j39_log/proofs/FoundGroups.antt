-- The group that is found for a number and a length.
use Rattle.std.proofs.Common.{◌≡◌, ℕ, ◌<◌, ◌≤◌, Bool, true, nat_le, List, [], ◌∷◌, map, length, get_or, All, Option, Some, None, sym, ap, subst, ◌∙◌}
use Rattle.std.proofs.Common.{Vec, Global, arith}
use Rattle.std.specs.List.{HoldsAt, position, slice_get}
use Rattle.std.proofs.lemmas.Bool.{and_parts, leb-true}
use Rattle.std.proofs.lemmas.List.Quantifiers.{position-Some}
use Rattle.std.proofs.lemmas.Option.{get_or_from_slice_get, none-some, slice_get-get_or}
use Rattle.std.proofs.lemmas.List.{get_or-map, length-map}
use Rattle.j39_search.specs.ListPlaces.{ValueAt}
use Rattle.j39_network.specs.declared.plan.Plan.{Plan}
use Rattle.j39_network.specs.declared.plan.group_plan.GroupPlan.{GroupPlan}
use Rattle.j39_network.specs.Lengths.{IsLengthOf}
use Rattle.j39_log.specs.inside.Catalogs.{IsCatalogOf}
use Rattle.j39_log.specs.inside.ValueLines.{items_of, value_lines_of}
use Rattle.j39_log.specs.declared.value_line.ValueLine.{ValueLine}
use Rattle.j39_log.specs.LogFrames.{planned_group, is_planned_as, is_shared_as, planned}
use Rattle.j39_log.specs.NamedReports.{NumberNames, named_reading_lines}
use Rattle.j39_network.specs.declared.plan.meaning.Meaning.{Meaning}
use Rattle.j39_log.specs.declared.name_table.NameTable.{NameTable}
use Rattle.j39_log.specs.declared.names.GroupNames.{GroupNames}
use Rattle.j39_log.specs.declared.names.PlanNames.{PlanNames}
use Rattle.j39_log.specs.inside.NameTables.{AreGroupNames, AreNamesOf, lines_by, names_in, names_of_tables, value_names_of}
use Rattle.j39_log.proofs.NamedLists.{reads_by}
use Rattle.j39_log.proofs.Unnamed.{states_of}
use Rattle.j39_id.specs.Ident.{pgn_of}
use Rattle.j39_id.specs.declared.frame.Frame.{Frame}
use Rattle.j39_log.specs.declared.catalog.Catalog.{Catalog}

-- at a place of a catalog stands what is written around the values of the signals of the group there
pub lined_at : (plan : Plan) (catalog : Catalog) (place : ℕ) (lines : Vec ValueLine Global) → IsCatalogOf plan catalog
    → place < length plan.groups.items → lines ≡ get_or catalog.lines.items place lines
    → HoldsAt (λ (group : GroupPlan). value_lines_of group ≡ items_of lines) plan.groups.items place
lined_at plan catalog place lines of less at group =
    let rows = catalog.lines.items in
    let groups = plan.groups.items in
    let count : length rows ≡ length groups = sym (length-map rows items_of) ∙ ap length of.lines ∙ length-map groups value_lines_of in
    sym (get_or-map value_lines_of groups place group (items_of lines) less)
    ∙ ap (λ (xs : List (List ValueLine)). get_or xs place (items_of lines)) (sym of.lines)
    ∙ get_or-map items_of rows place lines (items_of lines) (omega (arith, less, count)) ∙ ap items_of (sym at)

-- what is known of a group's place is known of the group
pub of_group : {A : Type 0} (f : GroupPlan → A) (groups : List GroupPlan) (place : ℕ) (group : GroupPlan) (value : A)
    → HoldsAt (λ (g : GroupPlan). g ≡ group) groups place → HoldsAt (λ (g : GroupPlan). f g ≡ value) groups place → value ≡ f group
of_group f groups place group value here at = sym (at group) ∙ ap f (here group)

-- the place that is found is within the groups, and its group has messages of this length
planned_there : (plan : Plan) (pgn : ℕ) (bytes : List ℕ) (place : ℕ) (group : GroupPlan) → planned plan pgn bytes ≡ Some place
    → HoldsAt (λ (g : GroupPlan). g ≡ group) plan.groups.items place → (place < length plan.groups.items) × IsLengthOf group (length bytes)
planned_there plan pgn bytes place group found here =
    let at = position-Some (is_planned_as pgn bytes) plan.groups.items place group found in
    let passes : is_planned_as pgn bytes group ≡ true = ap (is_planned_as pgn bytes) (sym (here group)) ∙ at.1 in
    let n : ℕ = length bytes in
    let least = and_parts (nat_le group.length n) _ (and_parts (is_shared_as pgn group) _ passes).1 in
    let most = and_parts (nat_le n group.most) _ least.1 in
    (at.0, (leb-true group.length n least.0, leb-true n group.most most.0))

at_place : (test : GroupPlan → Bool) (groups : List GroupPlan) (place : ℕ) → position test groups ≡ Some place
    → (group : GroupPlan) × (slice_get groups place ≡ Some group)
at_place test [] place found = absurd (none-some place found)
at_place test (g ∷ groups) place found =
    (get_or (g ∷ groups) place g, slice_get-get_or (g ∷ groups) place g (position-Some test (g ∷ groups) place g found).0)

-- so at the place stands a group that has no more bytes than these
pub planned_group_at : (plan : Plan) (pgn : ℕ) (bytes : List ℕ) (place : ℕ) → planned plan pgn bytes ≡ Some place
    → ValueAt (λ (group : GroupPlan). group.length ≤ length bytes) plan.groups.items place
planned_group_at plan pgn bytes place found =
    let groups : List GroupPlan = plan.groups.items in
    let there = at_place (is_planned_as pgn bytes) groups place found in
    record {
      value = there.0;
      value_is = there.1;
      meets = (planned_there plan pgn bytes place there.0 found (λ d. get_or_from_slice_get groups place there.0 d there.1)).1.0;
    }

-- the group that is found for a frame's number and its bytes
pub found_for : (plan : Plan) (f : Frame) (pgn : ℕ) (bytes : List ℕ) (place : Option ℕ) → pgn ≡ pgn_of f.ident → bytes ≡ f.payload.items
    → place ≡ planned plan pgn bytes → place ≡ planned_group plan f
found_for plan f pgn bytes place number payload found =
    found ∙ ap (λ (n : ℕ). planned plan n bytes) number ∙ ap (planned plan (pgn_of f.ident)) payload

-- the names of a group's place are those of the group
pub named_there : (plan : Plan) (place : ℕ) (group : GroupPlan) (names : Option GroupNames) → HoldsAt (λ (g : GroupPlan). g ≡ group) plan.groups.items place
    → HoldsAt (λ (g : GroupPlan). AreGroupNames plan g names) plan.groups.items place → AreGroupNames plan group names
named_there plan place group names here are = subst (λ (g : GroupPlan). AreGroupNames plan g names) (here group) (are group)

-- what the group reads by them is what it reads in the plan
pub lines_there : (plan : Plan) (place : ℕ) (group : GroupPlan) (names : Option GroupNames) (bytes : List ℕ) → place < length plan.groups.items
    → HoldsAt (λ (g : GroupPlan). g ≡ group) plan.groups.items place
    → HoldsAt (λ (g : GroupPlan). AreGroupNames plan g names) plan.groups.items place
    → lines_by names group bytes ≡ named_reading_lines plan group bytes
lines_there plan place group names bytes less here are =
    reads_by plan group names bytes (named_there plan place group names here are)
    (λ none. states_of plan group bytes none
    (subst (λ (g : GroupPlan). All (λ (m : Meaning). (m.spn ≡ None) × (m.values.items ≡ [])) g.meanings.items) (here group) (none place group less)))

-- at a place of a catalog stand the names of the group there
pub names_at : (plan : Plan) (names : PlanNames) (place : ℕ) (values : Vec NameTable Global) → AreNamesOf plan (Some names)
    → place < length plan.groups.items → values ≡ get_or names.values.items place values
    → HoldsAt (λ (group : GroupPlan). map names_in values.items ≡ value_names_of group) plan.groups.items place
names_at plan names place values of less at group =
    let rows = names.values.items in
    let groups = plan.groups.items in
    let count : length rows ≡ length groups = sym (length-map rows names_of_tables) ∙ ap length of.0 ∙ length-map groups value_names_of in
    ap names_of_tables at ∙ sym (get_or-map names_of_tables rows place values (names_of_tables values) (omega (arith, less, count)))
    ∙ ap (λ (xs : List (List NumberNames)). get_or xs place (names_of_tables values)) of.0
    ∙ get_or-map value_names_of groups place group (names_of_tables values) less
