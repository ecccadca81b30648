-- What a message of a unit is by the plan: of which group, and of which flows.
use Rattle.std.specs.Prelude.{ℕ, nat_le, ◌==◌, ◌||◌, ◌&&◌, not, Bool, true, false, if◌then◌else◌, List, [], ◌∷◌, length, count_by, Option, Some, None}
use Rattle.std.specs.List.{list_any, position, slice_get}
use Rattle.std.specs.Option.{option_map_or, option_or}
use Rattle.j39_id.specs.Addresses.{global_address}
use Rattle.j39_signal.specs.Selectors.{is_selected}
use Rattle.j39_network.specs.declared.plan.flow_plan.FlowPlan.{FlowPlan}
use Rattle.j39_network.specs.declared.plan.group_plan.GroupPlan.{GroupPlan}
use Rattle.j39_network.specs.declared.plan.request_plan.RequestPlan.{RequestPlan}
use Rattle.j39_network.specs.declared.plan.to.To.{To}
use Rattle.j39_network.specs.declared.plan.to.To.TheVariants.{All as ToAll, One as ToOne}
use Rattle.j39_audit.specs.Below.{each_below, first_below}
use Rattle.j39_audit.specs.Claiming.{Knowledge, is_address_of, is_at, may_be}
use Rattle.j39_audit.specs.Counting.{Noted}
use Rattle.j39_audit.specs.Settings.{Settings}
use Rattle.j39_audit.specs.declared.mark.Mark.{Mark}
use Rattle.j39_audit.specs.declared.mark.Word.{Word}
use Rattle.j39_audit.specs.declared.mark.Word.TheVariants.{Layout, NoFlow, Priority, Seen, Unclear, Asked}
use Rattle.j39_audit.specs.declared.messages.Test.{Test}
use Rattle.j39_audit.specs.declared.messages.Test.TheVariants.{Fitting, Selected, Any}

-- what a unit sent: from where, the number of a group, whereto, whether in a single frame that names no destination, with this priority where it is a
-- single frame, so many bytes, and these, where it is a single frame
pub record SentMessage : Type 0 where
  pub unit : ℕ
  pub source : ℕ
  pub number : ℕ
  pub destination : ℕ
  pub unaddressed : Bool
  pub priority : Option ℕ
  pub size : ℕ
  pub bytes : Option (List ℕ)

-- ---- groups

-- a flow of the group is the unit's
abbrev pub has_flow_of : Settings → ℕ → ℕ → Bool
has_flow_of s u g = list_any (λ (f : FlowPlan). f.group == g && f.sender == u) s.plan.flows.items

-- the group has the number, and isn't private or one of the unit's flows has it
abbrev pub is_own : Settings → SentMessage → ℕ → GroupPlan → Bool
is_own s m g group = group.pgn == m.number && (not group.private || has_flow_of s m.unit g)

-- its messages may have the length, and the bytes, as far as they are known
abbrev pub fits_group : SentMessage → GroupPlan → Bool
fits_group m group =
    (nat_le group.length m.size && nat_le m.size group.most) && option_map_or (λ bytes. is_selected group.when bytes) m.bytes true

-- the bytes have the bits by which the group is distinguished from others
abbrev pub is_reported_by : SentMessage → GroupPlan → Bool
is_reported_by m group = option_map_or (λ _. option_map_or (λ bytes. is_selected group.when bytes) m.bytes false) group.when false

abbrev pub passes : SentMessage → Test → GroupPlan → Bool
passes m Fitting group = fits_group m group
passes m Selected group = is_reported_by m group
passes m Any group = true

-- the group at the place is the unit's, and passes
unfoldable pub is_group : Settings → SentMessage → Test → ℕ → Bool
is_group s m test g = option_map_or (λ (group : GroupPlan). is_own s m g group && passes m test group) (slice_get s.plan.groups.items g) false

unfoldable pub first_group : Settings → SentMessage → Test → Option ℕ
first_group s m test = first_below (is_group s m test) (length s.plan.groups.items)

-- ---- where it goes

-- the destination is an address of the unit, or where it claimed last, which it may have left just now
unfoldable pub may_hear : Settings → Knowledge → ℕ → ℕ → Bool
may_hear s k v a = is_address_of s v a || is_at (k.last v) a

-- it may be meant for these
abbrev pub goes : Settings → Knowledge → SentMessage → To → Bool
goes s k m ToAll = m.unaddressed || m.destination == global_address
goes s k m (ToOne v) = m.unaddressed || (not (m.destination == global_address) && may_hear s k v m.destination)

-- and these may be at its destination
abbrev pub is_near : Settings → Knowledge → SentMessage → To → Bool
is_near s k m ToAll = true
is_near s k m (ToOne v) = m.unaddressed || may_be s k v m.destination

-- ---- flows

-- the group at the place has the number, and its messages may be such
unfoldable pub is_fit_group : Settings → SentMessage → ℕ → Bool
is_fit_group s m g =
    option_map_or (λ (group : GroupPlan). group.pgn == m.number && fits_group m group) (slice_get s.plan.groups.items g) false

-- its messages have the priority, where one is known
unfoldable pub has_priority : Settings → SentMessage → ℕ → Bool
has_priority s m g =
    option_map_or (λ priority. option_map_or (λ (group : GroupPlan). group.priority == priority) (slice_get s.plan.groups.items g) false)
    m.priority true

-- the flow is the unit's, may bring such a message, and goes there
unfoldable pub is_fit : Settings → Knowledge → SentMessage → FlowPlan → Bool
is_fit s k m f = f.sender == m.unit && (is_fit_group s m f.group && goes s k m f.to)

-- and with the priority
unfoldable pub is_of : Settings → Knowledge → SentMessage → FlowPlan → Bool
is_of s k m f = is_fit s k m f && has_priority s m f.group

-- it is the unit's request for the number, and goes there
unfoldable pub asks_by_plan : Settings → Knowledge → SentMessage → RequestPlan → Bool
asks_by_plan s k m r =
    r.sender == m.unit
    && (option_map_or (λ (group : GroupPlan). group.pgn == m.number) (slice_get s.plan.groups.items r.group) false && goes s k m r.to)

-- of those that may be meant the nearest: the ones whose receivers may be there, or all where none may
abbrev pub is_nearest : {X : Type 0} → (X → Bool) → (X → Bool) → List X → X → Bool
is_nearest {X} meant near all x = meant x && (near x || not (list_any (λ (y : X). meant y && near y) all))

abbrev pub is_nearest_flow : Settings → Knowledge → SentMessage → FlowPlan → Bool
is_nearest_flow s k m = is_nearest (is_of s k m) (λ (f : FlowPlan). is_near s k m f.to) s.plan.flows.items

abbrev pub is_nearest_request : Settings → Knowledge → SentMessage → RequestPlan → Bool
is_nearest_request s k m = is_nearest (asks_by_plan s k m) (λ (r : RequestPlan). is_near s k m r.to) s.plan.requests.items

-- ---- what is noted

abbrev pub noted_at : ℕ → Word → ℕ → ℕ → Noted
noted_at line word subject group = record { mark = record { word = word; subject = subject; group = group }; line = line; detail = 0 }

-- a word at each place of a list whose element passes
abbrev pub marked : {X : Type 0} → ℕ → Word → (X → Bool) → List X → ℕ → List Noted
marked {X} line word test all n = if option_map_or test (slice_get all n) false then noted_at line word n 0 ∷ [] else []

unfoldable pub all_marked : {X : Type 0} → ℕ → Word → (X → Bool) → List X → List Noted
all_marked line word test all = each_below (marked line word test all) (length all)

-- a message of one flow is seen of it, and one of several is unclear of each
unfoldable pub flows_noted : Settings → Knowledge → SentMessage → ℕ → List Noted
flows_noted s k m line =
    all_marked line (if count_by (is_nearest_flow s k m) s.plan.flows.items == 1 then Seen else Unclear) (is_nearest_flow s k m) s.plan.flows.items

-- a request is seen of one of the plan's, where it is one
unfoldable pub requests_noted : Settings → Knowledge → SentMessage → ℕ → List Noted
requests_noted s k m line =
    if count_by (is_nearest_request s k m) s.plan.requests.items == 1
    then all_marked line Asked (is_nearest_request s k m) s.plan.requests.items else []

-- ---- what it is not

abbrev pub flow_group : Settings → ℕ → ℕ
flow_group s f = option_map_or (λ (flow : FlowPlan). flow.group) (slice_get s.plan.flows.items f) 0

abbrev pub deviates : ℕ → Word → ℕ → Option Mark
deviates u word g = Some (record { word = word; subject = u; group = g })

-- no flow may bring it: it is of a group all the same, or of none of those of the number
abbrev pub without_flow : Settings → SentMessage → Option ℕ → Option ℕ → Option Mark
without_flow s m (Some g) other = deviates m.unit NoFlow g
without_flow s m None (Some g) = deviates m.unit Layout g
without_flow s m None None = None

-- some flow may bring it, the first of them at this place, or none
abbrev pub with_fit_flow : Settings → Knowledge → SentMessage → Option ℕ → Option Mark
with_fit_flow s k m (Some f) =
    if list_any (is_of s k m) s.plan.flows.items then None else deviates m.unit Priority (flow_group s f)
with_fit_flow s k m None = without_flow s m (first_group s m Fitting) (option_or (first_group s m Selected) (first_group s m Any))

-- how it differs from all that the plan has of the unit
unfoldable pub deviation : Settings → Knowledge → SentMessage → Option Mark
deviation s k m = with_fit_flow s k m (position (is_fit s k m) s.plan.flows.items)
