-- What a clean plan keeps, part by part.
use Rattle.std.specs.Prelude.{◌≡◌, ◌≢◌, ℕ, true, false, ◌+◌, ◌*◌, ◌<◌, ◌≤◌, ◌↔◌, ◌⊎◌, unwrap_or, All, AllPairs, Contains}
use Rattle.std.specs.FinSet.{contains}
use Rattle.j39_claim.specs.AddressSets.{free_count}
use Rattle.j39_id.specs.Addresses.{in_pool}
use Rattle.j39_id.specs.Name.{is_arbitrary}
use Rattle.j39_id.specs.Pgn.{IsPgn, extended_page}
use Rattle.j39_id.specs.Services.{service_groups}
use Rattle.j39_signal.specs.Places.{Covers, LaysOutFrom, further}
use Rattle.j39_signal.specs.Selectors.{DifferInValue}
use Rattle.j39_network.specs.Kinds.{MayBeOne}
use Rattle.j39_search.specs.ListPlaces.{ValueAt, SomeMeets}
use Rattle.j39_network.specs.Records.{record_count}
use Rattle.j39_network.specs.TextPlaces.{last_byte}
use Rattle.j39_network.specs.UnitAddresses.{IsFixed}
use Rattle.j39_network.specs.PlannedGroups.{IsSelectorInside}
use Rattle.j39_findings.specs.Findings.{AreNeeded, IsProprietary, AreSentTogether, IsAloneInPlan, AskTheSame}
use Rattle.j39_network.specs.PlannedFlows.{AreOneFlow}
use Rattle.j39_network.specs.PlannedFlows.{IsToOne, IsOneFrameToAll, Sends}
use Rattle.j39_network.specs.Serving.{Meets, IsServed}
use Rattle.j39_network.specs.declared.plan.Plan.{Plan}
use Rattle.j39_network.specs.declared.plan.group_plan.GroupPlan.{GroupPlan}
use Rattle.j39_network.specs.declared.plan.text_plan.TextPlan.{TextPlan}
use Rattle.j39_network.specs.declared.plan.unit_plan.UnitPlan.{UnitPlan}
use Rattle.j39_network.specs.declared.plan.to.To.TheVariants.{One}
use Rattle.j39_network.specs.PlannedRequests.{IsAnsweredWell}

-- two units that claim and never move have two addresses
abbrev pub HoldApart : UnitPlan → UnitPlan → Type 0
HoldApart u v = IsFixed u → IsFixed v → u.claims ≡ true → v.claims ≡ true → u.address ≢ v.address

-- a unit that never claims has an address to itself: no other one is planned there, and none moves there
abbrev pub IsApartFromSilent : UnitPlan → UnitPlan → Type 0
IsApartFromSilent u v = ((u.claims ≡ false) ⊎ (v.claims ≡ false)) → u.address ≢ v.address

pub record IsUnreached (plan : Plan) (u : UnitPlan) : Type 0 where
  pub kept : in_pool u.address ≡ true → contains plan.keep_free u.address ≡ true
  pub known : in_pool u.address ≡ true → plan.strangers ≡ 0

-- a group of one data page that is no service of the network, and a maker's own exactly where it is private
pub record CanBePlanned (g : GroupPlan) : Type 0 where
  pub group : IsPgn g.pgn
  pub page : g.pgn < extended_page
  pub own : (g.private ≡ true) ↔ IsProprietary g.pgn
  pub not_service : ¬ Contains service_groups g.pgn

-- two groups of one number whose selectors don't differ in the value alone are both private, and no unit sends both to receivers that meet
pub record HaveOwnPgn (plan : Plan) (g h : GroupPlan) : Type 0 where
  pub first : g.private ≡ false → g.pgn ≡ h.pgn → DifferInValue g.when h.when
  pub second : h.private ≡ false → g.pgn ≡ h.pgn → DifferInValue g.when h.when
  pub apart : g.pgn ≡ h.pgn → AreSentTogether plan.groups.items plan.flows.items g h → DifferInValue g.when h.when

-- the bit belongs to the signal at this place of the group, in the record so many behind the first, as the longest messages have it; a
-- signal that isn't repeated stands once
abbrev pub HasBit : GroupPlan → ℕ → ℕ → ℕ → Type 0
HasBit g place behind bit =
    ValueAt (λ s. Covers (further (unwrap_or g.every 0 * behind) s) bit
    × (((s.repeated ≡ true) × (behind < record_count g g.most)) ⊎ (behind ≡ 0))) g.signals.items place

-- each bit belongs to one signal at most, and of one that is repeated in one record
abbrev pub HasBitsOnce : GroupPlan → Type 0
HasBitsOnce g = (i j k l bit : ℕ) → HasBit g i k bit → HasBit g j l bit → (i ≡ j) × (k ≡ l)

-- a text begins inside the shortest message or right after it, and ends inside the longest
pub record LiesInside (g : GroupPlan) (t : TextPlan) : Type 0 where
  pub begins : t.byte ≤ g.length + 1
  pub ends : last_byte t ≤ g.most

pub record CleanParts (plan : Plan) : Type 0 where
  pub are_apart : AllPairs (λ u v. ¬ MayBeOne u v) plan.units.items
  pub names : AllPairs (λ u v. u.name ≢ v.name) plan.units.items
  pub fixed_addresses : AllPairs HoldApart plan.units.items
  pub addresses : (n : ℕ) → AreNeeded plan n → n ≤ free_count plan.keep_free
  pub not_kept : All (λ u. is_arbitrary u.name ≡ true → contains plan.keep_free u.address ≡ false) plan.units.items
  pub groups : All CanBePlanned plan.groups.items
  pub pgns : AllPairs (HaveOwnPgn plan) plan.groups.items
  pub layouts : All (λ g. LaysOutFrom g.length g.most g.signals.items) plan.groups.items
  pub to_one : All (λ f. IsToOne f → ¬ ValueAt IsOneFrameToAll plan.groups.items f.group) plan.flows.items
  pub to_self : All (λ f. f.to ≢ One f.sender) plan.flows.items
  pub flows : AllPairs (λ f h. ¬ AreOneFlow f h) plan.flows.items
  pub sent : All (λ g. g.private ≡ true → SomeMeets (Sends plan.groups.items g) plan.flows.items) plan.groups.items
  pub records : All HasBitsOnce plan.groups.items
  pub texts : All (λ g. All (LiesInside g) g.texts.items) plan.groups.items
  pub needs : All (λ d. SomeMeets (Meets plan.requests.items d) plan.flows.items) plan.needs.items
  pub requests : All (IsServed plan.flows.items) plan.requests.items
  pub answers : All (IsAnsweredWell plan) plan.requests.items
  pub selectors : All IsSelectorInside plan.groups.items
  pub asked_once : AllPairs (λ r s. ¬ AskTheSame plan.groups.items r s) plan.requests.items
  pub silent_addresses : AllPairs IsApartFromSilent plan.units.items
  pub unreached : All (λ u. u.claims ≡ false → IsUnreached plan u) plan.units.items
  pub senders_alone : plan.live ≡ true → All (λ f. IsAloneInPlan plan f.sender) plan.flows.items
  pub receivers_alone : plan.live ≡ true → All (λ f. (r : ℕ) → f.to ≡ One r → IsAloneInPlan plan r) plan.flows.items
