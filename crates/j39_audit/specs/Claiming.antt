-- Who may be where, by the claims of a log alone: a log may begin in the midst of a drive, and who wins a contest isn't asked.
use Rattle.std.specs.Prelude.{ℕ, min, nat_lt, ◌==◌, ◌||◌, ◌&&◌, not, Bool, false, if◌then◌else◌, List, [], ◌∷◌, Option, Some, None, is_none}
use Rattle.std.specs.FinSet.{contains}
use Rattle.std.specs.List.{list_any, slice_get}
use Rattle.std.specs.Option.{option_map_or}
use Rattle.j39_id.specs.Addresses.{in_pool, is_address, null_address}
use Rattle.j39_id.specs.declared.frame.Frame.{Frame}
use Rattle.j39_network.specs.declared.plan.Plan.{Plan}
use Rattle.j39_network.specs.declared.plan.unit_plan.UnitPlan.{UnitPlan}
use Rattle.j39_audit.specs.Below.{any_below, first_below}
use Rattle.j39_audit.specs.Requests.{GroupRequests, is_requested, nothing_requested, requests_before, requests_behind}
use Rattle.j39_audit.specs.Settings.{Settings, moves, units_planned}
use Rattle.j39_audit.specs.declared.senders.SureSender.{SureSender}
use Rattle.j39_audit.specs.declared.senders.SureSender.TheVariants.{Unit as OfUnit, Nobody, Unknown}

-- ---- claims

-- a claim: the unit of its NAME, if it is one of the plan, its source, 254 where none can be claimed, and its NAME
pub record Heard : Type 0 where
  pub unit : Option ℕ
  pub source : ℕ
  pub name : ℕ

-- the claims before a frame, the newest one first: all of them, and those from the last break on; what was asked for before it; and its time
pub record HeardClaims : Type 0 where
  pub all : List Heard
  pub recent : List Heard
  pub requests : GroupRequests
  pub time : Option ℕ

abbrev pub no_claims : HeardClaims
no_claims = record { all = []; recent = []; requests = nothing_requested; time = None }

-- behind a break
abbrev pub broken_off : Bool → HeardClaims → HeardClaims
broken_off broken claims = if broken then record claims { recent = [] } else claims

abbrev pub with_claim : Heard → HeardClaims → HeardClaims
with_claim h claims = record claims { all = h ∷ claims.all; recent = h ∷ claims.recent }

-- just before a frame of this time, where times begin anew or go on
abbrev pub come_to : Bool → Option ℕ → HeardClaims → HeardClaims
come_to anew time claims = record claims { requests = requests_before anew claims.requests; time = time }

-- with a frame that is seen of this request of the plan, or of none
abbrev pub with_requests : Plan → Option ℕ → Frame → Option ℕ → HeardClaims → HeardClaims
with_requests plan time f seen claims = record claims { requests = requests_behind plan time f seen claims.requests }

abbrev pub is_at : Option ℕ → ℕ → Bool
is_at None a = false
is_at (Some b) a = b == a

-- the source of the newest claim of the unit
unfoldable pub newest_of : ℕ → List Heard → Option ℕ
newest_of u [] = None
newest_of u (h ∷ older) = if is_at h.unit u then Some h.source else newest_of u older

-- the smallest NAME that claimed the address
abbrev pub smaller_name : ℕ → Option ℕ → ℕ
smaller_name name None = name
smaller_name name (Some other) = min name other

unfoldable pub least_name : ℕ → List Heard → Option ℕ
least_name a [] = None
least_name a (h ∷ older) = if h.source == a then Some (smaller_name h.name (least_name a older)) else least_name a older

-- the unit claimed the address
unfoldable pub has_claimed : ℕ → ℕ → List Heard → Bool
has_claimed u a claims = list_any (λ (h : Heard). is_at h.unit u && h.source == a) claims

-- what is known of the units and the addresses: where each unit claimed last, which addresses were claimed by a NAME of no unit, the smallest NAME that
-- claimed each, and which of them each unit claimed; what was asked for, and the time of the frame at hand
pub record Knowledge : Type 0 where
  pub last : ℕ → Option ℕ
  pub taken : ℕ → Bool
  pub least : ℕ → Option ℕ
  pub claimed : ℕ → ℕ → Bool
  pub requests : GroupRequests
  pub time : Option ℕ

-- a unit that may move may have moved unheard before a break, and any in a part of what the bus carried
abbrev pub last_claim_of : Settings → HeardClaims → ℕ → Option ℕ
last_claim_of s claims u = if s.part then None else newest_of u (if moves s u then claims.recent else claims.all)

abbrev pub is_strangers : HeardClaims → ℕ → Bool
is_strangers claims a = is_address a && list_any (λ (h : Heard). is_none h.unit && h.source == a) claims.all

abbrev pub knowledge : Settings → HeardClaims → Knowledge
knowledge s claims = record {
  last = last_claim_of s claims;
  taken = is_strangers claims;
  least = λ a. least_name a claims.all;
  claimed = λ u a. has_claimed u a claims.all;
  requests = claims.requests;
  time = claims.time;
}

-- ---- addresses

-- units that aren't in the plan may come
abbrev pub has_strangers : Settings → Bool
has_strangers s = nat_lt 0 s.plan.strangers

-- a unit that moves goes to one of 128 to 247: not to one that is kept free, unless strangers, which don't know of this, make it
abbrev pub is_free_for : Settings → ℕ → Bool
is_free_for s a = in_pool a && (has_strangers s || not (contains s.plan.keep_free a))

-- the address is one of the unit at this place: its planned one, or one to which it may move
unfoldable pub is_address_of : Settings → ℕ → ℕ → Bool
is_address_of s u a =
    option_map_or (λ (unit : UnitPlan). unit.address == a || (moves s u && is_free_for s a)) (slice_get s.plan.units.items u) false

-- the unit may be there: where it claimed last, or, as long as it is unheard, at each of its addresses
abbrev pub may_stand : Settings → ℕ → ℕ → Option ℕ → Bool
may_stand s u a None = is_address_of s u a
may_stand s u a (Some last) = last == a

unfoldable pub may_be : Settings → Knowledge → ℕ → ℕ → Bool
may_be s k u a = may_stand s u a (k.last u)

-- some unit claimed it last
unfoldable pub is_claimed_last : Settings → Knowledge → ℕ → Bool
is_claimed_last s k a = any_below (λ u. is_at (k.last u) a) (units_planned s)

-- somebody who isn't in the plan may be there
unfoldable pub is_strange : Settings → Knowledge → ℕ → Bool
is_strange s k a =
    k.taken a || (has_strangers s && (in_pool a && not (is_claimed_last s k a)))

-- ---- what was asked for

-- a message of this number, from this source: by any requests, or by those that are none of the plan's
abbrev pub was_asked_for : Settings → Knowledge → Bool → ℕ → ℕ → Bool
was_asked_for s k besides number source = is_requested s k.time k.requests besides number source

-- ---- the sender

-- another unit than this may be there
unfoldable pub is_another_there : Settings → Knowledge → ℕ → ℕ → Bool
is_another_there s k a u = any_below (λ v. may_be s k v a && not (v == u)) (units_planned s)

-- the first unit that may be there
unfoldable pub first_there : Settings → Knowledge → ℕ → Option ℕ
first_there s k a = first_below (λ u. may_be s k u a) (units_planned s)

-- it is the sender where no other may be there; where none may be, nobody is there, unless strangers come
abbrev pub sure_sender : Settings → Knowledge → ℕ → Option ℕ → SureSender
sure_sender s k a None = if has_strangers s then Unknown else Nobody
sure_sender s k a (Some u) = if is_another_there s k a u then Unknown else OfUnit u

-- who sends from an address, where that is sure: the one unit that may be there, or nobody
unfoldable pub sender_at : Settings → Knowledge → ℕ → SureSender
sender_at s k a = if is_strange s k a then Unknown else sure_sender s k a (first_there s k a)

-- ---- who has to give way

-- a NAME below this one claimed the address
abbrev pub is_name_below : Option ℕ → ℕ → Bool
is_name_below None name = false
is_name_below (Some least) name = nat_lt least name

-- and it is an address of the unit, or one that the unit claimed too
abbrev pub is_lost_to_another : Settings → Knowledge → ℕ → ℕ → ℕ → Bool
is_lost_to_another s k u name a = is_name_below (k.least a) name && (is_address_of s u a || k.claimed u a)

-- so by SAE J1939-81 the unit, of this NAME, has to give way there, as often as it is asked
unfoldable pub gives_way : Settings → Knowledge → ℕ → ℕ → Bool
gives_way s k u name = any_below (is_lost_to_another s k u name) null_address
