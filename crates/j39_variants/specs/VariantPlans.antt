-- The plan of a variant: what is there, in the order of the file, and of the needs those that are asked for and whose group and sender are there.
use Rattle.std.specs.declared.alloc.Global.{Global}
use Rattle.std.specs.Prelude.{◌≡◌, ℕ, ◌+◌, List, [], ◌∷◌, Bool, true, false, Option, Some, None, map, option_map, unwrap_or, Vec, if◌then◌else◌}
use Rattle.std.specs.List.{AllZip, filter_map, slice_get, zip}
use Rattle.j39_network.specs.declared.plan.Plan.{Plan}
use Rattle.j39_network.specs.declared.plan.flow_plan.FlowPlan.{FlowPlan}
use Rattle.j39_network.specs.declared.plan.group_plan.GroupPlan.{GroupPlan}
use Rattle.j39_network.specs.declared.plan.meaning.Meaning.{Meaning}
use Rattle.j39_network.specs.declared.plan.need_plan.NeedPlan.{NeedPlan}
use Rattle.j39_network.specs.declared.plan.request_plan.RequestPlan.{RequestPlan}
use Rattle.j39_network.specs.declared.plan.to.To.{To}
use Rattle.j39_network.specs.declared.plan.to.To.TheVariants.{All, One}
use Rattle.j39_variants.specs.declared.line.Alternative.{Alternative}
use Rattle.j39_variants.specs.declared.line.ProductLine.{ProductLine}
use Rattle.j39_variants.specs.Variants.{is_in}

-- of each list, whether the variant is in its box
abbrev pub flags : List ℕ → List (Vec Alternative Global) → List Bool
flags variant = map (λ list. is_in variant list.items)

abbrev pub flag_at : List Bool → ℕ → Bool
flag_at bs i = unwrap_or (slice_get bs i) false

-- those of some values whose flag is true
abbrev pub picked : {X : Type 0} → List Bool → List X → List X
picked [] xs = []
picked (b ∷ bs) [] = []
picked (true ∷ bs) (x ∷ xs) = x ∷ picked bs xs
picked (false ∷ bs) (x ∷ xs) = picked bs xs

-- the places of these among those picked, the first of which has the place n; the others have none
abbrev pub places : ℕ → List Bool → List (Option ℕ)
places n [] = []
places n (true ∷ bs) = Some n ∷ places (n + 1) bs
places n (false ∷ bs) = None ∷ places n bs

abbrev pub place_at : List (Option ℕ) → ℕ → Option ℕ
place_at ps i = unwrap_or (slice_get ps i) None

-- receivers that are there
abbrev pub moved_receivers : List (Option ℕ) → To → Option To
moved_receivers units All = Some All
moved_receivers units (One u) = option_map One (place_at units u)

-- what is made of three values that are there: nothing where one isn't
abbrev pub made_of : {A B C X : Type 0} → (A → B → C → X) → Option A → Option B → Option C → Option X
made_of make (Some a) (Some b) (Some c) = Some (make a b c)
made_of make _ _ _ = None

-- the three themselves
abbrev pub where_all_are : {A B C : Type 0} → Option A → Option B → Option C → Option (A × B × C)
where_all_are = made_of (λ a b c. (a, b, c))

-- the flow by the places of what is there: none where its group, its sender or its receiver isn't
abbrev pub flow_between : FlowPlan → Option ℕ → Option ℕ → Option To → Option FlowPlan
flow_between f = made_of (λ g s t. record f { group = g; sender = s; to = t })

abbrev pub moved_flow : List (Option ℕ) → List (Option ℕ) → FlowPlan → Option FlowPlan
moved_flow units groups f = flow_between f (place_at groups f.group) (place_at units f.sender) (moved_receivers units f.to)

-- a need alike, which may name no sender
abbrev pub moved_from : List (Option ℕ) → Option ℕ → Option (Option ℕ)
moved_from units None = Some None
moved_from units (Some u) = option_map Some (place_at units u)

abbrev pub need_between : NeedPlan → Option ℕ → Option ℕ → Option (Option ℕ) → Option NeedPlan
need_between d = made_of (λ u g s. record d { unit = u; group = g; «from» = s })

abbrev pub moved_need : List (Option ℕ) → List (Option ℕ) → NeedPlan → Option NeedPlan
moved_need units groups d = need_between d (place_at units d.unit) (place_at groups d.group) (moved_from units d.from)

-- and a request
abbrev pub request_between : RequestPlan → Option ℕ → Option ℕ → Option To → Option RequestPlan
request_between r = made_of (λ g s t. record r { group = g; sender = s; to = t })

abbrev pub moved_request : List (Option ℕ) → List (Option ℕ) → RequestPlan → Option RequestPlan
moved_request units groups r = request_between r (place_at groups r.group) (place_at units r.sender) (moved_receivers units r.to)

-- what is said of a signal, again
pub record IsCopyOfMeaning (m n : Meaning) : Type 0 where
  pub spn : n.spn ≡ m.spn
  pub values : n.values.items ≡ m.values.items

-- a group, again
pub record IsCopyOfGroup (g h : GroupPlan) : Type 0 where
  pub label : h.label ≡ g.label
  pub pgn : h.pgn ≡ g.pgn
  pub priority : h.priority ≡ g.priority
  pub length : h.length ≡ g.length
  pub private : h.private ≡ g.private
  pub most : h.most ≡ g.most
  pub every : h.every ≡ g.every
  pub when : h.when ≡ g.when
  pub signals : h.signals.items ≡ g.signals.items
  pub meanings : AllZip IsCopyOfMeaning g.meanings.items h.meanings.items
  pub texts : h.texts.items ≡ g.texts.items

abbrev pub unit_places : ProductLine → List ℕ → List (Option ℕ)
unit_places line variant = places 0 (flags variant line.lists.units.items)

abbrev pub group_places : ProductLine → List ℕ → List (Option ℕ)
group_places line variant = places 0 (flags variant line.lists.groups.items)

pub record IsVariantPlan (line : ProductLine) (variant : List ℕ) (p : Plan) : Type 0 where
  pub has_keep_free : p.keep_free ≡ line.plan.keep_free
  pub has_strangers : p.strangers ≡ line.plan.strangers
  pub has_live : p.live ≡ line.plan.live
  pub has_timing : p.timing ≡ line.plan.timing
  pub has_units : p.units.items ≡ picked (flags variant line.lists.units.items) line.plan.units.items
  pub has_groups : AllZip IsCopyOfGroup (picked (flags variant line.lists.groups.items) line.plan.groups.items) p.groups.items
  pub has_flows : p.flows.items ≡ filter_map (moved_flow (unit_places line variant) (group_places line variant))
      (picked (flags variant line.lists.flows.items) line.plan.flows.items)
  pub has_needs : p.needs.items ≡ filter_map (moved_need (unit_places line variant) (group_places line variant))
      (picked (flags variant line.lists.needs.items) line.plan.needs.items)
  pub has_requests : p.requests.items ≡ filter_map (moved_request (unit_places line variant) (group_places line variant))
      (picked (flags variant line.lists.requests.items) line.plan.requests.items)
