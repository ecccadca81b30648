-- Who stands behind an address of a log: a unit of the plan, a NAME that isn't planned, or nobody that is known.
use Rattle.std.specs.Prelude.{◌≡◌, ◌≢◌, ◌⊎◌, ◌<◌, ◌≤◌, ℕ, ◌==◌, ◌&&◌, not, Bool, true, false, if◌then◌else◌, List, [], ◌∷◌, ◌++◌, codes, Option, Some, None}
use Rattle.std.specs.Int.{w64, to_be_bytes}
use Rattle.std.specs.List.{position, slice_get}
use Rattle.std.specs.Option.{option_eq, option_map_or, option_or}
use Rattle.hex.specs.Hex.{encode_upper}
use Rattle.j39_id.specs.declared.frame.Frame.{Frame}
use Rattle.j39_network.specs.declared.plan.Plan.{Plan}
use Rattle.j39_network.specs.declared.plan.unit_plan.UnitPlan.{UnitPlan}
use Rattle.j39_network.specs.Kinds.{kind_of_name}
use Rattle.j39_search.specs.ListPlaces.{ValueAt}
use Rattle.j39_text.specs.Labels.{unit_label}
use Rattle.j39_text.specs.Texts.{field}
use Rattle.j39_follow.specs.Holders.{HoldsByFrames, IsHolder, IsNameHeard}
use Rattle.j39_follow.specs.declared.address.who.Who.{Who}
use Rattle.j39_follow.specs.declared.address.who.Who.TheVariants.{Holder, Stranger, Likely, LikelyStranger, Unknown}

-- the first unit with a number whose NAME this is
abbrev pub numbered_unit : Plan → ℕ → Option ℕ
numbered_unit plan name = position (λ (unit : UnitPlan). not unit.any_identity && unit.name == name) plan.units.items

-- the first unit of any serial number that is of the kind of this NAME
abbrev pub unit_of_kind : Plan → ℕ → Option ℕ
unit_of_kind plan name = position (λ (unit : UnitPlan). unit.any_identity && kind_of_name unit.name == kind_of_name name) plan.units.items

-- the unit of a NAME: one with a number whose NAME it is, else one of any serial number of its kind
abbrev pub unit_of_name : Plan → ℕ → Option ℕ
unit_of_name plan name = option_or (numbered_unit plan name) (unit_of_kind plan name)

-- there is such a unit, and it is of any serial number
abbrev pub is_of_any : Plan → Option ℕ → Bool
is_of_any plan None = false
is_of_any plan (Some u) = option_map_or (λ (unit : UnitPlan). unit.any_identity) (slice_get plan.units.items u) false

-- this is a NAME of the unit at the place: its own, or each whose unit it is where it is of any serial number
abbrev pub is_name_of : Plan → ℕ → UnitPlan → ℕ → Bool
is_name_of plan u unit name = if unit.any_identity then option_eq (λ a b. a == b) (unit_of_name plan name) (Some u) else unit.name == name

-- one of its NAMEs claimed an address or could not
pub record IsUnitHeard (plan : Plan) (frames : List Frame) (u : ℕ) (unit : UnitPlan) : Type 0 where
  pub name : ℕ
  pub name_of : is_name_of plan u unit name ≡ true
  pub heard : IsNameHeard frames name

-- a unit that prefers the address and of which nothing was reported
pub record MayHold (plan : Plan) (frames : List Frame) (address u : ℕ) (unit : UnitPlan) : Type 0 where
  pub prefers : unit.address ≡ address
  pub unheard : ¬ IsUnitHeard plan frames u unit

-- of these the one with the smallest NAME (one of any serial number counts as 0), and of two with one NAME the first
pub record IsLikeliest (plan : Plan) (frames : List Frame) (address u : ℕ) : Type 0 where
  pub unit : UnitPlan
  pub unit_is : slice_get plan.units.items u ≡ Some unit
  pub may : MayHold plan frames address u unit
  pub least : (v : ℕ) (other : UnitPlan) → slice_get plan.units.items v ≡ Some other → MayHold plan frames address v other
      → unit.name ≤ other.name
  pub first : (v : ℕ) (other : UnitPlan) → slice_get plan.units.items v ≡ Some other → MayHold plan frames address v other
      → v < u → unit.name < other.name

-- who stands behind an address after these frames;
-- before anything is reported of it the unit that would claim it first (a log may begin in mid-drive)
abbrev pub IsWho : Plan → List Frame → ℕ → Who → Type 0
IsWho plan frames address (Holder u) = (name : ℕ) × HoldsByFrames frames name address × (unit_of_name plan name ≡ Some u)
IsWho plan frames address (Stranger name) = HoldsByFrames frames name address × (unit_of_name plan name ≡ None)
IsWho plan frames address (Likely u) = IsHolder frames address None × IsLikeliest plan frames address u
IsWho plan frames address (LikelyStranger name) = ⊥
IsWho plan frames address Unknown = IsHolder frames address None × ((u : ℕ) → ¬ ValueAt (MayHold plan frames address u) plan.units.items u)

-- the unit behind it, if it is one of the plan
abbrev pub unit_of : Who → Option ℕ
unit_of (Holder u) = Some u
unit_of (Likely u) = Some u
unit_of _ = None

-- the NAME behind it, if it isn't planned
abbrev pub stranger_of : Who → Option ℕ
stranger_of (Stranger name) = Some name
stranger_of (LikelyStranger name) = Some name
stranger_of _ = None

-- ---- change of hands

-- the two are one unit, one NAME, or both nobody
pub record IsSameParty (a b : Who) : Type 0 where
  pub unit : unit_of a ≡ unit_of b
  pub stranger : stranger_of a ≡ stranger_of b

-- at a frame, after these, another NAME comes to hold the address
pub record IsReplaced (before : List Frame) (f : Frame) (address : ℕ) : Type 0 where
  pub old : ℕ
  pub new : ℕ
  pub old_holds : HoldsByFrames before old address
  pub new_holds : HoldsByFrames (before ++ f ∷ []) new address
  pub another : old ≢ new

-- at a frame, after these, the address changes hands: from one party to another, or from one box of a unit to another one
pub record ChangesHands (plan : Plan) (before : List Frame) (f : Frame) (address : ℕ) : Type 0 where
  pub old : Who
  pub new : Who
  pub old_is : IsWho plan before address old
  pub new_is : IsWho plan (before ++ f ∷ []) address new
  pub another : (¬ IsSameParty old new) ⊎ IsReplaced before f address

-- ---- its text

unfoldable pub name_text : ℕ → List ℕ
name_text name = codes "#" ++ encode_upper (to_be_bytes w64 name)

unfoldable pub party_text : Plan → Who → List ℕ
party_text plan (Holder u) = unit_label plan u
party_text plan (Stranger name) = name_text name
party_text plan (Likely u) = unit_label plan u ++ codes "?"
party_text plan (LikelyStranger name) = name_text name ++ codes "?"
party_text plan Unknown = codes "?"

unfoldable pub who_text : Plan → Who → ℕ → List ℕ
who_text plan who address = field (party_text plan who ++ codes "@") address
