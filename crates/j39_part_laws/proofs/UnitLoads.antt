-- What the broadcasts of a unit and the requests of a part ask of the bus they ask in the whole, where they may ask for more.
use Rattle.std.proofs.Common.{◌≡◌, ℕ, ◌+◌, ◌*◌, ◌<◌, ◌≤◌, Bool, true, if◌then◌else◌, ◌==◌, All}
use Rattle.std.proofs.Common.{List, [], ◌∷◌, length, Option, Some, None, option_map, refl, sym, ◌∙◌, ap, subst, inl, inr, arith}
use Rattle.std.specs.List.{slice_get, sum_by}
use Rattle.std.proofs.Math.Nat.{mul-le-mul_right}
use Rattle.std.proofs.lemmas.Bool.{cases_Bool, eq-eqb, eqb-true}
use Rattle.std.proofs.lemmas.List.Elements.{All-head, All-tail}
use Rattle.std.proofs.lemmas.Option.{none-some, same_Some}
use Rattle.j39_findings.specs.Standing.{DecidesWhoStays}
use Rattle.j39_network.specs.declared.plan.Plan.{Plan}
use Rattle.j39_network.specs.declared.plan.request_plan.RequestPlan.{RequestPlan}
use Rattle.j39_network.specs.declared.plan.timing.Timing.{Timing}
use Rattle.j39_network.specs.declared.plan.to.To.TheVariants.{All as ToAllUnits, One}
use Rattle.j39_network.specs.declared.plan.unit_plan.UnitPlan.{UnitPlan}
use Rattle.j39_search.proofs.Members.{all_at}
use Rattle.j39_load.specs.declared.frames.broadcast.Broadcast.{Broadcast}
use Rattle.j39_load.specs.declared.frames.messages.Messages.{Messages}
use Rattle.j39_load.specs.declared.frames.messages.Messages.TheVariants.{Short, ToAll, ToOne}
use Rattle.j39_load.specs.declared.loads.flow_load.FlowLoad.{FlowLoad}
use Rattle.j39_load.specs.declared.loads.request_load.RequestLoad.{RequestLoad}
use Rattle.j39_load.specs.declared.loads.unit_load.UnitLoad.{UnitLoad}
use Rattle.j39_load.specs.Asked.{announcements_of_unit, frames_of_request, packets_of_unit}
use Rattle.j39_load.specs.Broadcasts.{announced_packets, bits_each, bits_of_announcements, bits_of_firsts, broadcast_by, broadcast_frames, broadcast_from}
use Rattle.j39_load.specs.Broadcasts.{broadcasts_by, known_unit_load, least_announced, least_packets, load_of_announcements, load_of_firsts, load_of_packets}
use Rattle.j39_load.specs.Clocks.{shortest_million}
use Rattle.j39_load.specs.Loads.{any_unit, bits_at_least}
use Rattle.j39_load.proofs.Milliseconds.{some_bits, some_slow}
use Rattle.j39_load.specs.RequestLoads.{load_of_request, request_load}
use Rattle.j39_load.proofs.PositivePeriods.{HasPackets, some_announced}
use Rattle.j39_part_laws.specs.PlanParts.{IsPartAt, IsRequestThere, Places}
use Rattle.j39_part_laws.specs.Sublists.{IsSub}
use Rattle.j39_part_laws.proofs.FlowLoads.{Alike, FramesAlike, LoadsAlike, MessagesAlike}
use Rattle.j39_part_laws.proofs.Frames.{AreBroadcast, AreOfUnit}
use Rattle.j39_part_laws.proofs.PlanFrames.{any_few, any_in, greatest_ident_in, IsAmong, least_ident_in}
use Rattle.j39_part_laws.proofs.Shares.{ceil-mono, sum-no-more}
use Rattle.j39_part_laws.proofs.Sublists.{sub_filter}

pub record UnitAlike (at : Places) (l k : UnitLoad) : Type 0 where
  pub packets : Alike at l.packets k.packets × (l.packets.stream.jitter ≤ k.packets.stream.jitter)
  pub announcements : Alike at l.announcements k.announcements × (l.announcements.stream.jitter ≤ k.announcements.stream.jitter)
  pub flows : l.flows ≤ k.flows
  pub all_packets : l.all_packets ≤ k.all_packets
  pub bits : l.bits_per_second ≤ k.bits_per_second

abbrev pub UnitsAlike : Places → Option UnitLoad → Option UnitLoad → Type 0
UnitsAlike at None k = Unit {0}
UnitsAlike at (Some l) None = ⊥
UnitsAlike at (Some l) (Some k) = UnitAlike at l k

abbrev pub RequestsAlike : Places → Option RequestLoad → Option RequestLoad → Type 0
RequestsAlike at None k = Unit {0}
RequestsAlike at (Some l) None = ⊥
RequestsAlike at (Some l) (Some k) = Alike at l.frames k.frames × (l.frames.stream.jitter ≤ k.frames.stream.jitter) × (l.bits_per_second ≡ k.bits_per_second)

some_least : (bs : List Broadcast) → All HasPackets bs → 1 ≤ least_packets bs
unfolding least_packets
some_least [] all = omega arith
some_least (b ∷ bs) all =
    let first = All-head HasPackets b bs all in
    let rest = some_least bs (All-tail HasPackets b bs all) in
    omega (arith, first, rest)

module _ (unit : ℕ → ℕ) where
  -- the fewer there are the more packets each has at least
  least-mono : (bs cs : List Broadcast) → IsSub (AreBroadcast unit) bs cs → least_packets cs ≤ least_packets bs
  unfolding least_packets
  least-mono [] [] sub = omega arith
  least-mono [] (c ∷ cs) sub = let rest = least-mono [] cs tt in omega (arith, rest)
  least-mono (b ∷ bs) [] sub = absurd sub
  least-mono (b ∷ bs) (c ∷ cs) (inl (stands, left)) =
      let rest = least-mono bs cs left in
      let same = stands.least_packets in
      omega (arith, rest, same)
  least-mono (b ∷ bs) (c ∷ cs) (inr later) = let rest = least-mono (b ∷ bs) cs later in omega (arith, rest)

  announced-mono : (bs cs : List Broadcast) → IsSub (AreBroadcast unit) bs cs → least_announced cs ≤ least_announced bs
  unfolding least_announced
  announced-mono [] [] sub = omega arith
  announced-mono [] (c ∷ cs) sub = let rest = announced-mono [] cs tt in omega (arith, rest)
  announced-mono (b ∷ bs) [] sub = absurd sub
  announced-mono (b ∷ bs) (c ∷ cs) (inl (stands, left)) =
      let rest = announced-mono bs cs left in
      let same : announced_packets c ≡ announced_packets b = rw (stands.has_short, stands.least_packets) refl in
      omega (arith, rest, same)
  announced-mono (b ∷ bs) (c ∷ cs) (inr later) = let rest = announced-mono (b ∷ bs) cs later in omega (arith, rest)

  few-mono : (bs cs : List Broadcast) → IsSub (AreBroadcast unit) bs cs → length bs ≤ length cs
  few-mono [] cs sub = omega arith
  few-mono (b ∷ bs) [] sub = absurd sub
  few-mono (b ∷ bs) (c ∷ cs) (inl (stands, left)) = let rest = few-mono bs cs left in omega (arith, rest)
  few-mono (b ∷ bs) (c ∷ cs) (inr later) = let rest = few-mono (b ∷ bs) cs later in omega (arith, rest)

  load-mono : (timing : Timing) (bs cs : List Broadcast) → IsSub (AreBroadcast unit) bs cs → All HasPackets cs
      → load_of_packets timing bs + (load_of_firsts timing bs + load_of_announcements timing bs)
      ≤ load_of_packets timing cs + (load_of_firsts timing cs + load_of_announcements timing cs)
  load-mono timing bs cs sub each =
      let packets : sum_by (λ b. bits_each timing b.packets b.period) bs ≤ sum_by (λ b. bits_each timing b.packets b.period) cs =
      sum-no-more (AreBroadcast unit) (λ b. bits_each timing b.packets b.period) (λ b. bits_each timing b.packets b.period)
      (λ b c are. rw (are.packets, are.period) (omega arith)) bs cs sub in
      let firsts : sum_by (bits_of_firsts timing) bs ≤ sum_by (bits_of_firsts timing) cs =
      sum-no-more (AreBroadcast unit) (bits_of_firsts timing) (bits_of_firsts timing) (λ b c are. rw (are.has_short, are.period) (omega arith)) bs cs sub in
      let announced : sum_by (bits_of_announcements timing) bs ≤ sum_by (bits_of_announcements timing) cs =
      sum-no-more (AreBroadcast unit) (bits_of_announcements timing) (bits_of_announcements timing)
      (λ b c are. rw (are.has_short, are.period) (omega arith)) bs cs sub in
      let gap = timing.broadcast_gap_least in
      let some = some_announced cs each in
      let fewer : least_announced cs * timing.broadcast_gap ≤ least_announced bs * timing.broadcast_gap =
      mul-le-mul_right timing.broadcast_gap (announced-mono bs cs sub) in
      let one : 1 * timing.broadcast_gap ≤ least_announced cs * timing.broadcast_gap = mul-le-mul_right timing.broadcast_gap some in
      let slow = some_slow timing in
      let some_gap : 1 ≤ least_announced cs * timing.broadcast_gap = omega (arith, gap, one) in
      let often : 1 * shortest_million timing ≤ least_announced cs * timing.broadcast_gap * shortest_million timing =
      mul-le-mul_right (shortest_million timing) some_gap in
      let spaced : bits_each timing 1 (least_announced bs * timing.broadcast_gap) ≤ bits_each timing 1 (least_announced cs * timing.broadcast_gap) =
      ceil-mono _ _ (least_announced bs * timing.broadcast_gap * shortest_million timing) (least_announced cs * timing.broadcast_gap * shortest_million timing)
      (omega arith) (omega (arith, slow, often)) (mul-le-mul_right (shortest_million timing) fewer) in
      omega (arith, packets, firsts, announced, spaced)

module _ (at : Places) (part whole : Plan) (is : IsPartAt at part whole) (stays reported : UnitPlan → Bool)
    (decides : DecidesWhoStays whole stays) (reports_who : DecidesWhoStays part reported) (timing : Timing) where
  abbrev us : List UnitPlan
  us = part.units.items

  abbrev ws : List UnitPlan
  ws = whole.units.items

  -- ---- broadcasts of a unit

  from_there : (u : ℕ) (a b : Messages) → MessagesAlike at a b → (found : Broadcast) → broadcast_from u a ≡ Some found
      → (d : Broadcast) × (broadcast_from (at.unit u) b ≡ Some d) × AreBroadcast at.unit found d
  from_there u (Short x) b alike found its = absurd (none-some found its)
  from_there u (ToOne x) b alike found its = absurd (none-some found its)
  from_there u (ToAll b) (Short y) alike found its = absurd alike
  from_there u (ToAll b) (ToOne y) alike found its = absurd alike
  from_there u (ToAll b) (ToAll c) alike found its = elim (cases_Bool (b.sender == u)) [
    | inl same ↦
        let it : b ≡ found = same_Some b found (subst (λ t. (if t then Some b else None) ≡ Some found) same its) in
        let there : (c.sender == at.unit u) ≡ true = eq-eqb c.sender (at.unit u) (alike.sender ∙ ap at.unit (eqb-true b.sender u same)) in
        (c, ap (λ t. if t then Some c else None) there, subst (λ z. AreBroadcast at.unit z c) it alike)
    | inr other ↦ absurd (none-some found (subst (λ t. (if t then Some b else None) ≡ Some found) other its))
  ]

  by_there : (u : ℕ) (l k : Option FlowLoad) → LoadsAlike at l k → (found : Broadcast) → broadcast_by u l ≡ Some found
      → (d : Broadcast) × (broadcast_by (at.unit u) k ≡ Some d) × AreBroadcast at.unit found d
  by_there u None k alike found its = absurd (none-some found its)
  by_there u (Some l) None alike found its = absurd alike
  by_there u (Some l) (Some k) alike found its = from_there u l.messages k.messages alike.messages found its

  pub broadcasts_there : (u : ℕ) (ls ks : List (Option FlowLoad)) → IsSub (LoadsAlike at) ls ks
      → IsSub (AreBroadcast at.unit) (broadcasts_by u ls) (broadcasts_by (at.unit u) ks)
  broadcasts_there u = sub_filter (LoadsAlike at) (AreBroadcast at.unit) (broadcast_by u) (broadcast_by (at.unit u)) (by_there u)

  -- ---- frames of a unit's broadcasts

  among_all : (u : ℕ) → u < length us → IsAmong (length us) ToAllUnits u
  among_all u within = record { sender_in = within; receiver_in = λ v its. absurd cc }

  frames_there : (pgn u gaps fewer place there : ℕ) → pgn < 131072 → u < length us → fewer ≤ gaps → 1 ≤ fewer → AreOfUnit at.unit place there
      → Alike at (broadcast_frames timing us reported pgn u gaps place) (broadcast_frames timing ws stays pgn (at.unit u) fewer there)
  frames_there pgn u gaps fewer place there page within less some wanted =
      let gap : 0 < bits_at_least timing timing.broadcast_gap =
      some_bits timing timing.broadcast_gap (let least = timing.broadcast_gap_least in omega (arith, least)) in
      let one : 1 * bits_at_least timing timing.broadcast_gap ≤ fewer * bits_at_least timing timing.broadcast_gap = mul-le-mul_right
      (bits_at_least timing timing.broadcast_gap) some in
      let greatest = greatest_ident_in at part whole is stays reported decides reports_who timing.transport_priority pgn u ToAllUnits (among_all u within) in
      record {
        frames = omega arith;
        bits = refl;
        positive = omega (arith, gap, one);
        period = mul-le-mul_right (bits_at_least timing timing.broadcast_gap) less;
        wanted = wanted;
        least = least_ident_in at part whole is stays reported decides reports_who timing.transport_priority pgn u ToAllUnits (among_all u within);
        greatest = greatest;
        last = greatest;
        sender = any_in at part whole is stays reported decides reports_who u within;
        receiver = refl;
        few_sender = any_few at part whole is stays reported decides reports_who u within;
        few_receiver = λ v its. absurd (none-some v its);
        twin = λ m its. absurd (none-some m its);
        want = tt;
      }

  pub unit_there : (u : ℕ) → u < length us → u < 128 → at.unit u < 128 → (bs cs : List Broadcast) → IsSub (AreBroadcast at.unit) bs cs
      → All HasPackets cs
      → UnitsAlike at (known_unit_load timing us reported u bs) (known_unit_load timing ws stays (at.unit u) cs)
  unit_there u within few few_there [] cs sub each = tt
  unit_there u within few few_there (b ∷ bs) [] sub each = absurd sub
  unit_there u within few few_there (b ∷ bs) (c ∷ cs) sub each = record {
    packets = (
      frames_there 60160 u 1 1 u (at.unit u) (omega arith) within (omega arith) (omega arith)
          (record { u = u; few = few; few_there = few_there; either = inl (refl, refl) }),
      omega arith,
    );
    announcements = (
      frames_there 60416 u (least_packets (b ∷ bs)) (least_packets (c ∷ cs)) (128 + u) (128 + at.unit u) (omega arith) within
          (least-mono at.unit (b ∷ bs) (c ∷ cs) sub) (some_least (c ∷ cs) each)
          (record { u = u; few = few; few_there = few_there; either = inr (refl, refl) }),
      omega arith,
    );
    flows = few-mono at.unit (b ∷ bs) (c ∷ cs) sub;
    all_packets = sum-no-more (AreBroadcast at.unit) (λ x. x.packets) (λ x. x.packets) (λ x y are. let same = are.packets in omega (arith, same))
        (b ∷ bs) (c ∷ cs) sub;
    bits = load-mono at.unit timing (b ∷ bs) (c ∷ cs) sub each;
  }

  -- ---- requests

  pub request_there : (i : ℕ) (request there : RequestPlan) → slice_get part.requests.items i ≡ Some request → IsRequestThere at request there
      → RequestsAlike at (load_of_request timing us reported request) (load_of_request timing ws stays there)
  request_there i request there here stands = go request.period refl
    where
      among : IsAmong (length us) request.to request.sender
      among = record {
        sender_in = all_at (λ (d : RequestPlan). d.sender < length us) part.requests.items part.request_senders i request here;
        receiver_in = all_at (λ (d : RequestPlan). (v : ℕ) → d.to ≡ One v → v < length us) part.requests.items part.request_receivers i request here;
      }

      greatest : (request_load timing us reported request 1).frames.greatest_ident ≤ (request_load timing ws stays there 1).frames.greatest_ident
      greatest = rw (stands.to, stands.sender) (greatest_ident_in at part whole is stays reported decides reports_who 6 59904 request.sender request.to among)

      least : (request_load timing ws stays there 1).frames.least_ident ≤ (request_load timing us reported request 1).frames.least_ident
      least = rw (stands.to, stands.sender) (least_ident_in at part whole is stays reported decides reports_who 6 59904 request.sender request.to among)

      go : (period : Option ℕ) → request.period ≡ period
          → RequestsAlike at (load_of_request timing us reported request) (load_of_request timing ws stays there)
      go None none = subst (λ o. RequestsAlike at (option_map (request_load timing us reported request) o) (load_of_request timing ws stays there))
          (sym none) tt
      go (Some period) is_it =
          subst (λ o. RequestsAlike at (option_map (request_load timing us reported request) o) (load_of_request timing ws stays there)) (sym is_it)
          (subst (λ o. RequestsAlike at (Some (request_load timing us reported request period)) (option_map (request_load timing ws stays there) o))
          (sym (stands.period ∙ is_it)) (
            record {
              frames = omega arith;
              bits = refl;
              positive = some_bits timing period (request.period_positive period is_it);
              period = omega arith;
              wanted = tt;
              least = least;
              greatest = greatest;
              last = greatest;
              sender = ap (any_unit ws) stands.sender ∙ any_in at part whole is stays reported decides reports_who request.sender among.sender_in;
              receiver = refl;
              few_sender = any_few at part whole is stays reported decides reports_who request.sender among.sender_in;
              few_receiver = λ v its. absurd (none-some v its);
              twin = λ m its. absurd (none-some m its);
              want = tt;
            },
            omega arith,
            refl,
          ))

  -- ---- their frames

  pub packets_there : (l k : Option UnitLoad) → UnitsAlike at l k → FramesAlike at (packets_of_unit l) (packets_of_unit k)
  packets_there None k alike = tt
  packets_there (Some l) None alike = absurd alike
  packets_there (Some l) (Some k) alike = alike.packets

  pub announcements_there : (l k : Option UnitLoad) → UnitsAlike at l k → FramesAlike at (announcements_of_unit l) (announcements_of_unit k)
  announcements_there None k alike = tt
  announcements_there (Some l) None alike = absurd alike
  announcements_there (Some l) (Some k) alike = alike.announcements

  pub asked_there : (l k : Option RequestLoad) → RequestsAlike at l k → FramesAlike at (frames_of_request l) (frames_of_request k)
  asked_there None k alike = tt
  asked_there (Some l) None alike = absurd alike
  asked_there (Some l) (Some k) alike = (alike.0, alike.1)
