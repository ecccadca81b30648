-- What is wanted of a unit's broadcasts, by the places of its flows: each flow has a place of its own among what is wanted.
use Rattle.std.proofs.Common.{◌≡◌, ℕ, zero, suc, ◌+◌, ◌<◌, ◌≤◌, Bool, List, [], ◌∷◌, length, get_or, Option, Some, None}
use Rattle.std.proofs.Common.{refl, sym, ap, ◌∙◌, subst, arith}
use Rattle.std.proofs.lemmas.List.{get_or-append-add, get_or_append_left, length-append}
use Rattle.std.proofs.lemmas.List.FromFn.{get_or-map-range_with_len, length-map-range_with_len}
use Rattle.std.proofs.lemmas.Option.{none-some, slice_get-get_or}
use Rattle.std.specs.List.{cons_option, slice_get}
use Rattle.j39_id.specs.Limits.{unit_limit}
use Rattle.j39_network.specs.declared.plan.timing.Timing.{Timing}
use Rattle.j39_network.specs.declared.plan.unit_plan.UnitPlan.{UnitPlan}
use Rattle.j39_load.specs.declared.frames.broadcast.Broadcast.{Broadcast}
use Rattle.j39_load.specs.declared.frames.flow_frames.FlowFrames.{FlowFrames}
use Rattle.j39_load.specs.declared.loads.flow_load.FlowLoad.{FlowLoad}
use Rattle.j39_load.specs.Broadcasts.{announced_packets, broadcast_by, broadcasts_by, known_unit_load, least_announced, least_packets, unit_load}
use Rattle.j39_load.specs.declared.frames.broadcast.BroadcastPart.{BroadcastPart}
use Rattle.j39_load.specs.declared.frames.broadcast.BroadcastPart.TheVariants.{Announcements, Packets}
use Rattle.j39_load.specs.Demands.{announcements_demand, demand_by, demands_by, demands_of, most_packets, packets_demand, wanted_by, wants_of}
use Rattle.j39_timing.specs.Waits.{Demand}

-- ---- among what is wanted

abbrev behind : Option Broadcast → ℕ → ℕ
behind None n = n
behind (Some b) n = suc n

-- where a flow's broadcast stands among those that are wanted of a unit
abbrev pub spot : ℕ → List (Option FlowFrames) → ℕ → ℕ
spot u [] f = 0
spot u (x ∷ xs) zero = 0
spot u (x ∷ xs) (suc f) = behind (wanted_by u x) (spot u xs f)

module _ (u : ℕ) where
  pub at_spot : (all : List (Option FlowFrames)) (f : ℕ) (b d : Broadcast) → wanted_by u (get_or all f None) ≡ Some b
      → (spot u all f < length (wants_of all u)) × (get_or (wants_of all u) (spot u all f) d ≡ b)
  at_spot [] f b d is = absurd (none-some b is)
  at_spot (x ∷ xs) zero b d is =
      subst (λ (o : Option Broadcast). (0 < length (cons_option o (wants_of xs u))) × (get_or (cons_option o (wants_of xs u)) 0 d ≡ b)) (sym is)
      (omega arith, refl)
  at_spot (x ∷ xs) (suc f) b d is = go (wanted_by u x) (at_spot xs f b d is)
    where
      go : (o : Option Broadcast) → (spot u xs f < length (wants_of xs u)) × (get_or (wants_of xs u) (spot u xs f) d ≡ b)
          → (behind o (spot u xs f) < length (cons_option o (wants_of xs u))) × (get_or (cons_option o (wants_of xs u)) (behind o (spot u xs f)) d ≡ b)
      go None (below, at) = (below, at)
      go (Some c) (below, at) = (omega (arith, below), at)

  some_behind : (o : Option Broadcast) (b : Broadcast) (n : ℕ) → o ≡ Some b → 0 ≡ behind o n → ⊥
  some_behind None b n is same = none-some b is
  some_behind (Some c) b n is same = omega (arith, same)

  one_behind : (o : Option Broadcast) (m n : ℕ) → behind o m ≡ behind o n → m ≡ n
  one_behind None m n same = same
  one_behind (Some b) m n same = omega (arith, same)

  -- two flows of which broadcasts are wanted have two
  pub one_spot : (all : List (Option FlowFrames)) (f g : ℕ) (b c : Broadcast) → wanted_by u (get_or all f None) ≡ Some b
      → wanted_by u (get_or all g None) ≡ Some c → spot u all f ≡ spot u all g → f ≡ g
  one_spot [] f g b c first second same = absurd (none-some b first)
  one_spot (x ∷ xs) zero zero b c first second same = refl
  one_spot (x ∷ xs) zero (suc g) b c first second same = absurd (some_behind (wanted_by u x) b (spot u xs g) first same)
  one_spot (x ∷ xs) (suc f) zero b c first second same = absurd (some_behind (wanted_by u x) c (spot u xs f) second (sym same))
  one_spot (x ∷ xs) (suc f) (suc g) b c first second same =
      ap suc (one_spot xs f g b c first second (one_behind (wanted_by u x) (spot u xs f) (spot u xs g) same))

  pub most_at_spot : (bs : List Broadcast) (n : ℕ) (d : Broadcast) → n < length bs → (get_or bs n d).packets ≤ most_packets bs
  unfolding most_packets
  most_at_spot [] n d below = absurd (omega arith)
  most_at_spot (b ∷ bs) zero d below = omega arith
  most_at_spot (b ∷ bs) (suc n) d below = let rest = most_at_spot bs n d (omega (arith, below)) in omega (arith, rest)

  -- ---- among a unit's broadcasts

  pub least_at : (loads : List (Option FlowLoad)) (f : ℕ) (b : Broadcast) → broadcast_by u (get_or loads f None) ≡ Some b
      → (0 < length (broadcasts_by u loads)) × (least_packets (broadcasts_by u loads) ≤ b.least_packets)
  unfolding least_packets
  least_at [] f b is = absurd (none-some b is)
  least_at (x ∷ xs) zero b is =
      subst (λ (o : Option Broadcast). (0 < length (cons_option o (broadcasts_by u xs))) × (least_packets (cons_option o (broadcasts_by u xs))
      ≤ b.least_packets))
      (sym is) (omega arith, omega arith)
  least_at (x ∷ xs) (suc f) b is = go (broadcast_by u x) (least_at xs f b is)
    where
      go : (o : Option Broadcast) → (0 < length (broadcasts_by u xs)) × (least_packets (broadcasts_by u xs) ≤ b.least_packets)
          → (0 < length (cons_option o (broadcasts_by u xs))) × (least_packets (cons_option o (broadcasts_by u xs)) ≤ b.least_packets)
      go None rest = rest
      go (Some c) (some, least) = (omega arith, omega (arith, least))

  pub least_announced_at : (loads : List (Option FlowLoad)) (f : ℕ) (b : Broadcast) → broadcast_by u (get_or loads f None) ≡ Some b
      → least_announced (broadcasts_by u loads) ≤ announced_packets b
  unfolding least_announced
  least_announced_at [] f b is = absurd (none-some b is)
  least_announced_at (x ∷ xs) zero b is =
      subst (λ (o : Option Broadcast). least_announced (cons_option o (broadcasts_by u xs)) ≤ announced_packets b) (sym is) (omega arith)
  least_announced_at (x ∷ xs) (suc f) b is = go (broadcast_by u x) (least_announced_at xs f b is)
    where
      go : (o : Option Broadcast) → least_announced (broadcasts_by u xs) ≤ announced_packets b
          → least_announced (cons_option o (broadcasts_by u xs)) ≤ announced_packets b
      go None rest = rest
      go (Some c) rest = omega (arith, rest)

  pub known_where_some : (timing : Timing) (units : List UnitPlan) (stays : UnitPlan → Bool) (bs : List Broadcast) → 0 < length bs
      → known_unit_load timing units stays u bs ≡ Some (unit_load timing units stays u bs)
  known_where_some timing units stays [] some = absurd (omega (arith, some))
  known_where_some timing units stays (b ∷ bs) some = refl

  -- ---- demands

  module _ (all : List (Option FlowFrames)) (below : u < unit_limit) where
    abbrev none_wanted : Demand
    none_wanted = record { under_way = 0; wants = [] }

    size : (part : BroadcastPart) → length (demands_by part all) ≡ unit_limit
    size part = length-map-range_with_len (λ v. demand_by part (wants_of all v)) 0 unit_limit

    read_demand : (part : BroadcastPart) → get_or (demands_by part all) u none_wanted ≡ demand_by part (wants_of all u)
    read_demand part =
        get_or-map-range_with_len (λ v. demand_by part (wants_of all v)) 0 unit_limit u u none_wanted below (omega arith)

    pub packets_wanted : slice_get (demands_of all) (packets_demand u) ≡ Some (demand_by Packets (wants_of all u))
    packets_wanted =
        let first = size Packets in
        let second = size Announcements in
        let whole = length-append (demands_by Packets all) (demands_by Announcements all) in
        slice_get-get_or (demands_of all) u none_wanted (omega (arith, below, whole, first, second))
        ∙ ap Some (get_or_append_left (demands_by Packets all) (demands_by Announcements all) none_wanted u (omega (arith, below, first)) ∙ read_demand Packets)

    pub announcements_wanted : slice_get (demands_of all) (announcements_demand u) ≡ Some (demand_by Announcements (wants_of all u))
    announcements_wanted =
        let first = size Packets in
        let second = size Announcements in
        let whole = length-append (demands_by Packets all) (demands_by Announcements all) in
        let place : length (demands_by Packets all) + u ≡ announcements_demand u = omega (arith, first) in
        slice_get-get_or (demands_of all) (announcements_demand u) none_wanted (omega (arith, below, whole, first, second))
        ∙ ap Some (ap (λ (k : ℕ). get_or (demands_of all) k none_wanted) (sym place)
        ∙ (get_or-append-add (demands_by Packets all) (demands_by Announcements all) u none_wanted ∙ read_demand Announcements))
