-- Of a line without choices, with which nothing goes with alternatives, the plan of the one variant is the plan of the file.
use Rattle.std.proofs.Common.{◌≡◌, ◌≢◌, ℕ, zero, suc, ◌+◌, ◌<◌, List, [], ◌∷◌, Bool, true, Option, Some, None, All, length, map, refl, sym, ap, ◌∙◌, arith}
use Rattle.std.proofs.Common.{add-zero, add-one}
use Rattle.std.specs.declared.alloc.Global.{Global}
use Rattle.std.specs.Prelude.{Vec}
use Rattle.std.specs.List.{AllZip, cons_option, filter_map}
use Rattle.std.proofs.lemmas.List.{length-map}
use Rattle.toml.specs.Data.{Items, no_items, item, Members}
use Rattle.j39_toml.specs.InOrder.{Each, labels_of}
use Rattle.j39_network.specs.declared.plan.flow_plan.FlowPlan.{FlowPlan}
use Rattle.j39_network.specs.declared.plan.group_plan.GroupPlan.{GroupPlan}
use Rattle.j39_network.specs.declared.plan.meaning.Meaning.{Meaning}
use Rattle.j39_network.specs.declared.plan.need_plan.NeedPlan.{NeedPlan}
use Rattle.j39_network.specs.declared.plan.request_plan.RequestPlan.{RequestPlan}
use Rattle.j39_network.specs.declared.plan.to.To.{To}
use Rattle.j39_network.specs.declared.plan.to.To.TheVariants as to
use Rattle.j39_variants.specs.declared.line.Alternative.{Alternative}
use Rattle.j39_variants.specs.declared.line.Choice.{Choice}
use Rattle.j39_variants.specs.declared.line.ProductLine.{ProductLine}
use Rattle.j39_variants.specs.ChoiceTables.{IsChoiceOf, choice_labels_in}
use Rattle.j39_variants.specs.DescribedLines.{AreLists, DescribesProductLine, labels_of_choices, tables_found}
use Rattle.j39_variants.specs.LineLaws.{IsOnePlan, IsOfOneVariant}
use Rattle.j39_variants.specs.ListTables.{IsWith, NamesAlternative, named_in, label_text_in}
use Rattle.j39_variants.specs.Variants.{IsVariant, is_in}
use Rattle.j39_variants.specs.VariantPlans.{IsCopyOfGroup, IsCopyOfMeaning, IsVariantPlan, flags, group_places, moved_flow, moved_from, moved_need}
use Rattle.j39_variants.specs.VariantPlans.{moved_receivers, moved_request, picked, place_at, places, unit_places}

-- no list names an alternative
abbrev pub AreEmpty : List (Vec Alternative Global) → Type 0
AreEmpty [] = Unit {0}
AreEmpty (list ∷ lists) = (list.items ≡ []) × AreEmpty lists

picked_whole : {X : Type 0} (v : List ℕ) (lists : List (Vec Alternative Global)) (xs : List X) → AreEmpty lists → length lists ≡ length xs
    → picked (flags v lists) xs ≡ xs
picked_whole v [] [] none same = refl
picked_whole v [] (x ∷ xs) none same = absurd (omega (arith, same))
picked_whole v (list ∷ lists) [] none same = absurd (omega (arith, same))
picked_whole v (list ∷ lists) (x ∷ xs) none same = rw (none.0, picked_whole v lists xs none.1 (omega (arith, same)))

place_stays : (v : List ℕ) (lists : List (Vec Alternative Global)) (n i : ℕ) → AreEmpty lists → i < length lists → place_at (places n (flags v lists)) i ≡ Some
    (n + i)
place_stays v [] n i none below = absurd (omega arith)
place_stays v (list ∷ lists) n zero none below = rw none.0 (ap Some (sym (add-zero n)))
place_stays v (list ∷ lists) n (suc i) none below =
    let e : n + 1 + i ≡ n + suc i = omega arith in
    rw none.0 (place_stays v lists (n + 1) i none.1 (omega (arith, below)) ∙ ap Some e)

-- ---- groups

same_meanings : (ms : List Meaning) → AllZip IsCopyOfMeaning ms ms
same_meanings [] = tt
same_meanings (m ∷ ms) = (record { spn = refl; values = refl }, same_meanings ms)

same_groups : (gs : List GroupPlan) → AllZip IsCopyOfGroup gs gs
same_groups [] = tt
same_groups (g ∷ gs) = (
  record {
    label = refl;
    pgn = refl;
    priority = refl;
    length = refl;
    private = refl;
    most = refl;
    every = refl;
    when = refl;
    signals = refl;
    meanings = same_meanings g.meanings.items;
    texts = refl;
  },
  same_groups gs,
)

-- ---- what names units and groups

abbrev pub Stays : List (Option ℕ) → ℕ → Type 0
Stays places n = (i : ℕ) → i < n → place_at places i ≡ Some i

module _ (us gs : List (Option ℕ)) (n m : ℕ) (units : Stays us n) (groups : Stays gs m) where
  receivers_stay : (t : To) → ((r : ℕ) → t ≡ to.One r → r < n) → moved_receivers us t ≡ Some t
  receivers_stay to.All below = refl
  receivers_stay (to.One r) below = rw (units r (below r refl))

  flow_stays : (f : FlowPlan) → f.group < m → f.sender < n → ((r : ℕ) → f.to ≡ to.One r → r < n) → moved_flow us gs f ≡ Some f
  flow_stays f group sender receivers = rw (groups f.group group, units f.sender sender, receivers_stay f.to receivers)

  request_stays : (r : RequestPlan) → r.group < m → r.sender < n → ((u : ℕ) → r.to ≡ to.One u → u < n) → moved_request us gs r ≡ Some r
  request_stays r group sender receivers = rw (groups r.group group, units r.sender sender, receivers_stay r.to receivers)

  from_stays : (s : Option ℕ) → ((u : ℕ) → s ≡ Some u → u < n) → moved_from us s ≡ Some s
  from_stays None below = refl
  from_stays (Some u) below = rw (units u (below u refl))

  need_stays : (d : NeedPlan) → d.unit < n → d.group < m → ((u : ℕ) → d.from ≡ Some u → u < n) → moved_need us gs d ≡ Some d
  need_stays d unit group sender = rw (units d.unit unit, groups d.group group, from_stays d.from sender)

  flows_stay : (fs : List FlowPlan) → All (λ f. f.group < m) fs → All (λ f. f.sender < n) fs → All (λ f. (r : ℕ) → f.to ≡ to.One r → r < n) fs
      → filter_map (moved_flow us gs) fs ≡ fs
  flows_stay [] group sender receivers = refl
  flows_stay (f ∷ fs) group sender receivers =
      rw (
        flow_stays f (group 0 f (omega arith)) (sender 0 f (omega arith)) (receivers 0 f (omega arith)),
        flows_stay fs (λ k d below. group (suc k) d (omega arith)) (λ k d below. sender (suc k) d (omega arith))
            (λ k d below. receivers (suc k) d (omega arith)),
      )

  requests_stay : (rs : List RequestPlan) → All (λ r. r.group < m) rs → All (λ r. r.sender < n) rs → All (λ r. (u : ℕ) → r.to ≡ to.One u → u < n) rs
      → filter_map (moved_request us gs) rs ≡ rs
  requests_stay [] group sender receivers = refl
  requests_stay (r ∷ rs) group sender receivers =
      rw (
        request_stays r (group 0 r (omega arith)) (sender 0 r (omega arith)) (receivers 0 r (omega arith)),
        requests_stay rs (λ k d below. group (suc k) d (omega arith)) (λ k d below. sender (suc k) d (omega arith))
            (λ k d below. receivers (suc k) d (omega arith)),
      )

  needs_stay : (ds : List NeedPlan) → All (λ d. d.unit < n) ds → All (λ d. d.group < m) ds → All (λ d. (u : ℕ) → d.from ≡ Some u → u < n) ds
      → filter_map (moved_need us gs) ds ≡ ds
  needs_stay [] unit group sender = refl
  needs_stay (d ∷ ds) unit group sender =
      rw (
        need_stays d (unit 0 d (omega arith)) (group 0 d (omega arith)) (sender 0 d (omega arith)),
        needs_stay ds (λ k x below. unit (suc k) x (omega arith)) (λ k x below. group (suc k) x (omega arith)) (λ k x below. sender (suc k) x (omega arith)),
      )

-- ---- the plan of the one variant

pub record HasNoLists (line : ProductLine) : Type 0 where
  pub units : AreEmpty line.lists.units.items
  pub groups : AreEmpty line.lists.groups.items
  pub flows : AreEmpty line.lists.flows.items
  pub needs : AreEmpty line.lists.needs.items
  pub requests : AreEmpty line.lists.requests.items

module _ (line : ProductLine) (v : List ℕ) (none : HasNoLists line) where
  units_stay : Stays (unit_places line v) (length line.plan.units.items)
  units_stay i below = let e = line.unit_lists in place_stays v line.lists.units.items 0 i none.units (omega (arith, e, below)) ∙ ap Some (omega arith)

  groups_stay : Stays (group_places line v) (length line.plan.groups.items)
  groups_stay i below = let e = line.group_lists in place_stays v line.lists.groups.items 0 i none.groups (omega (arith, e, below)) ∙ ap Some (omega arith)

  pub whole_plan : IsVariantPlan line v line.plan
  whole_plan = record {
    has_keep_free = refl;
    has_strangers = refl;
    has_live = refl;
    has_timing = refl;
    has_units = sym (picked_whole v line.lists.units.items line.plan.units.items none.units line.unit_lists);
    has_groups = rw (picked_whole v line.lists.groups.items line.plan.groups.items none.groups line.group_lists) (same_groups line.plan.groups.items);
    has_flows =
        rw (picked_whole v line.lists.flows.items line.plan.flows.items none.flows line.flow_lists)
        (sym
        (flows_stay (unit_places line v) (group_places line v) (length line.plan.units.items) (length line.plan.groups.items) units_stay groups_stay
        line.plan.flows.items line.plan.flow_groups line.plan.flow_senders line.plan.flow_receivers));
    has_needs =
        rw (picked_whole v line.lists.needs.items line.plan.needs.items none.needs line.need_lists)
        (sym
        (needs_stay (unit_places line v) (group_places line v) (length line.plan.units.items) (length line.plan.groups.items) units_stay groups_stay
        line.plan.needs.items line.plan.need_units line.plan.need_groups line.plan.need_senders));
    has_requests =
        rw (picked_whole v line.lists.requests.items line.plan.requests.items none.requests line.request_lists)
        (sym
        (requests_stay (unit_places line v) (group_places line v) (length line.plan.units.items) (length line.plan.groups.items) units_stay groups_stay
        line.plan.requests.items line.plan.request_groups line.plan.request_senders line.plan.request_receivers));
  }

-- ---- no choices, no lists

nothing_named : (choices : List (List (List ℕ))) (label : List ℕ) → choices ≡ [] → named_in choices label ≡ None
unfolding named_in
nothing_named [] label none = refl
nothing_named (c ∷ cs) label none = cc

names_nothing : (choices : List (List (List ℕ))) (ds : Items) (list : List Alternative) → choices ≡ [] → Each (NamesAlternative choices) ds list → list ≡ []
unfolding Each
names_nothing choices ds [] none each = refl
names_nothing choices no_items (a ∷ list) none each = absurd each
names_nothing choices (item d ds) (a ∷ list) none each = cc (nothing_named choices (label_text_in d) none, each.0)

empty_lists : (choices : List (List (List ℕ))) (ds : Items) (lists : List (Vec Alternative Global)) → choices ≡ [] → AreLists choices ds lists → AreEmpty lists
unfolding Each
empty_lists choices ds [] none each = tt
empty_lists choices no_items (list ∷ lists) none each = absurd each
empty_lists choices (item d ds) (list ∷ lists) none each = (names_nothing choices _ list.items none each.0, empty_lists choices ds lists none each.1)

no_labels : (ds : Items) (cs : List Choice) → Each IsChoiceOf ds cs → cs ≡ [] → labels_of choice_labels_in ds ≡ []
unfolding Each labels_of
no_labels no_items cs each none = refl
no_labels (item d ds) [] each none = absurd each
no_labels (item d ds) (c ∷ cs) each none = cc

pub no_lists : (tree : Members) (line : ProductLine) → DescribesProductLine tree line → line.choices.items ≡ [] → HasNoLists line
no_lists tree line stated none =
    let labels : labels_of_choices tree ≡ [] = no_labels _ line.choices.items stated.has_choices none in
    record {
      units = empty_lists (labels_of_choices tree) (tables_found tree).units line.lists.units.items labels stated.has_lists.has_units;
      groups = empty_lists (labels_of_choices tree) (tables_found tree).groups line.lists.groups.items labels stated.has_lists.has_groups;
      flows = empty_lists (labels_of_choices tree) (tables_found tree).flows line.lists.flows.items labels stated.has_lists.has_flows;
      needs = empty_lists (labels_of_choices tree) (tables_found tree).needs line.lists.needs.items labels stated.has_lists.has_needs;
      requests = empty_lists (labels_of_choices tree) (tables_found tree).requests line.lists.requests.items labels stated.has_lists.has_requests;
    }

pub one_variant : (choices : List Choice) (v : List ℕ) → choices ≡ [] → IsVariant choices v → v ≡ []
one_variant choices [] none is = refl
one_variant [] (p ∷ v) none is = let e = is.of_each in absurd (omega (arith, e))
one_variant (c ∷ cs) (p ∷ v) none is = cc

pub one_plan : (tree : Members) (line : ProductLine) → IsOnePlan tree line
one_plan tree line stated none = record {
  one = λ v is. one_variant line.choices.items v none is;
  plan = whole_plan line [] (no_lists tree line stated none);
}
