-- By two plans that report alike of the NAMEs of a log, and have the same groups, flows, needs and requests, the same is reported of the whole log.
use Rattle.std.proofs.Common.{◌≡◌, ℕ, suc, ◌+◌, ◌==◌, ◌&&◌, Bool, if◌then◌else◌, List, [], ◌∷◌, ◌++◌, map, codes, Option, Some, None, inl, inr}
use Rattle.std.proofs.Common.{count_by, drop, refl, sym, ap, ◌∙◌, arith, slice_index_or}
use Rattle.std.specs.List.{filter, position, slice_get, zip}
use Rattle.std.specs.Option.{option_eq, option_map_or}
use Rattle.std.proofs.lemmas.Option.{none-some}
use Rattle.j39_id.specs.declared.frame.Frame.{Frame}
use Rattle.j39_signal.specs.declared.signal_parts.SignalParts.{SignalParts}
use Rattle.j39_network.specs.declared.plan.Plan.{Plan}
use Rattle.j39_network.specs.declared.plan.flow_plan.FlowPlan.{FlowPlan}
use Rattle.j39_network.specs.declared.plan.group_plan.GroupPlan.{GroupPlan}
use Rattle.j39_network.specs.declared.plan.need_plan.NeedPlan.{NeedPlan}
use Rattle.j39_network.specs.declared.plan.request_plan.RequestPlan.{RequestPlan}
use Rattle.j39_network.specs.declared.plan.to.To.{To}
use Rattle.j39_network.specs.declared.plan.to.To.TheVariants.{All as ToAll, One as ToOne}
use Rattle.j39_network.specs.declared.plan.unit_plan.UnitPlan.{UnitPlan}
use Rattle.j39_search.specs.ListPlaces.{in_each}
use Rattle.j39_log.specs.ReadText.{refused_plan_line}
use Rattle.j39_text.specs.Labels.{group_label, need_signal_text, need_text, signal_label, signals_of, unit_label}
use Rattle.j39_text.specs.Texts.{field}
use Rattle.j39_follow.specs.FollowText.{AreUnitLines, HoldsForUnit, IsUnitLine, flow_end, flow_ends, flow_sent_line, group_end}
use Rattle.j39_follow.specs.FollowText.{group_ends}
use Rattle.j39_follow.specs.FollowText.{is_other, is_without_flow, need_end, need_ends, need_met_line, request_end}
use Rattle.j39_follow.specs.FollowText.{request_end_line, request_ends, rest_line, route_text, times_met, to_text, unit_end_line}
use Rattle.j39_follow.specs.LoggedRequests.{answers, asks_request, asked_number, concerns, is_for_one_unit, is_of_asked, reaches_asker, refuses, replies_to}
use Rattle.j39_follow.specs.LoggedRequests.{times_answered, times_asked, times_refused, turns}
use Rattle.j39_follow.specs.declared.request.event.Event.{Event}
use Rattle.j39_follow.specs.declared.request.event.Event.TheVariants.{Asked, Brought, Refused}
use Rattle.j39_follow.specs.declared.request.event.Reply.{Reply}
use Rattle.j39_follow.specs.declared.message.Sort.{Sort}
use Rattle.j39_follow.proofs.Vehicles.Parties.{ReportAll, holder_meets, unit_stated, unit_unreported}
use Rattle.j39_follow.proofs.Vehicles.Reports.{same_label}
use Rattle.j39_follow.proofs.Vehicles.Units.{AreAt, ReportAlike, flip, turned}

-- functions that agree are one
same_function : {A B : Type 0} (f g : A → B) → ((x : A) → f x ≡ g x) → f ≡ g
same_function f g same = λ i x. same x i

-- of lists that are one, lines that agree are one text
same_lines : {A : Type 0} (f g : ℕ → A → List ℕ) (xs ys : List A) → ((n : ℕ) (x : A) → f n x ≡ g n x) → xs ≡ ys → in_each f 0 xs ≡ in_each g 0 ys
same_lines {A} f g xs ys same list =
    ap (λ (line : ℕ → A → List ℕ). in_each line 0 xs) (same_function f g (λ n. same_function (f n) (g n) (same n))) ∙ ap (in_each g 0) list

module _ (G : ℕ → Type 0) (p q : Plan) (same : ReportAlike G p q) where
  -- ---- labels

  label : (u : ℕ) → unit_label p u ≡ unit_label q u
  label = same_label G p q same

  same_group_label : (g : ℕ) → group_label p g ≡ group_label q g
  unfolding group_label
  same_group_label g = ap (λ (gs : List GroupPlan). option_map_or (λ (group : GroupPlan). group.label.bytes) (slice_get gs g) []) same.groups

  same_signals : (g : ℕ) → signals_of p g ≡ signals_of q g
  unfolding signals_of
  same_signals g = ap (λ (gs : List GroupPlan). option_map_or (λ (group : GroupPlan). group.signals.items) (slice_get gs g) []) same.groups

  same_signal_label : (g s : ℕ) → signal_label p g s ≡ signal_label q g s
  unfolding signal_label
  same_signal_label g s =
      ap (λ (ss : List SignalParts). option_map_or (λ (signal : SignalParts). signal.label.bytes) (slice_get ss s) []) (same_signals g)

  same_to : (to : To) → to_text p to ≡ to_text q to
  unfolding to_text
  same_to ToAll = refl
  same_to (ToOne u) = label u

  same_route : (group sender : ℕ) (to : To) → route_text p group sender to ≡ route_text q group sender to
  unfolding route_text
  same_route group sender to = rw (same_group_label group, label sender, same_to to) refl

  pub same_refused : (g : ℕ) → refused_plan_line p g ≡ refused_plan_line q g
  unfolding refused_plan_line
  same_refused g = ap (λ (t : List ℕ). codes "refused plan BadGroup " ++ (t ++ 10 ∷ [])) (same_group_label g)

  -- ---- flows

  same_flow_line : (n : ℕ) (flow : FlowPlan) (times : ℕ) → flow_sent_line p n flow times ≡ flow_sent_line q n flow times
  unfolding flow_sent_line
  same_flow_line n flow times = rw (same_route flow.group flow.sender flow.to) refl

  pub same_flow_ends : (sent : List Sort) → flow_ends p sent ≡ flow_ends q sent
  same_flow_ends sent =
      same_lines (flow_end p sent) (flow_end q sent) p.flows.items q.flows.items (λ n flow. same_flow_line n flow _) same.flows

  -- ---- groups

  same_group_end : (sent : List Sort) (g : ℕ) (group : GroupPlan) → group_end p sent g group ≡ group_end q sent g group
  same_group_end sent g group =
      ap (λ (gs : List GroupPlan). rest_line group (count_by (is_without_flow g) sent)
      (if option_eq (λ a b. a == b) (position (λ (h : GroupPlan). h.pgn == group.pgn) gs) (Some g) then count_by (is_other group.pgn) sent else 0))
      same.groups

  pub same_group_ends : (sent : List Sort) → group_ends p sent ≡ group_ends q sent
  same_group_ends sent = same_lines (group_end p sent) (group_end q sent) p.groups.items q.groups.items (same_group_end sent) same.groups

  -- ---- requests

  same_asked_number : (r : RequestPlan) → asked_number p r ≡ asked_number q r
  same_asked_number r = ap (λ (gs : List GroupPlan). slice_index_or (map (λ (g : GroupPlan). g.pgn) gs) r.group 0) same.groups

  same_reply : (r : RequestPlan) (reply : Reply) → replies_to p r reply ≡ replies_to q r reply
  same_reply r reply = ap (λ (n : ℕ). reply.number == n && (is_of_asked r reply.sender && reaches_asker r reply.aim)) (same_asked_number r)

  same_answers : (r : RequestPlan) (e : Event) → answers p r e ≡ answers q r e
  same_answers r (Brought reply) = same_reply r reply
  same_answers r (Asked place) = refl
  same_answers r (Refused reply) = refl

  same_refuses : (r : RequestPlan) (e : Event) → refuses p r e ≡ refuses q r e
  same_refuses r (Refused reply) = ap (λ (b : Bool). is_for_one_unit r.to && b) (same_reply r reply)
  same_refuses r (Asked place) = refl
  same_refuses r (Brought reply) = refl

  same_concerns : (place : ℕ) (r : RequestPlan) (e : Event) → concerns p place r e ≡ concerns q place r e
  same_concerns place r e = rw (same_answers r e, same_refuses r e) refl

  same_turns : (place : ℕ) (r : RequestPlan) (stated : List Event) → turns p place r stated ≡ turns q place r stated
  same_turns place r stated =
      ap (λ (test : Event → Bool). let own = filter test stated in zip own (drop 1 own))
      (same_function (concerns p place r) (concerns q place r) (same_concerns place r))

  same_answered : (place : ℕ) (r : RequestPlan) (stated : List Event) → times_answered p place r stated ≡ times_answered q place r stated
  same_answered place r stated =
      ap (λ (test : Event → Bool). count_by (λ (t : Event × Event). asks_request place t.0 && test t.1) (turns p place r stated))
      (same_function (answers p r) (answers q r) (same_answers r))
      ∙ ap (λ (ts : List (Event × Event)). count_by (λ (t : Event × Event). asks_request place t.0 && answers q r t.1) ts) (same_turns place r stated)

  same_refusals : (place : ℕ) (r : RequestPlan) (stated : List Event) → times_refused p place r stated ≡ times_refused q place r stated
  same_refusals place r stated =
      ap (λ (test : Event → Bool). count_by (λ (t : Event × Event). asks_request place t.0 && test t.1) (turns p place r stated))
      (same_function (refuses p r) (refuses q r) (same_refuses r))
      ∙ ap (λ (ts : List (Event × Event)). count_by (λ (t : Event × Event). asks_request place t.0 && refuses q r t.1) ts) (same_turns place r stated)

  same_request_line : (n : ℕ) (r : RequestPlan) (asked answered refused : ℕ) → request_end_line p n r asked answered refused
      ≡ request_end_line q n r asked answered refused
  unfolding request_end_line
  same_request_line n r asked answered refused = rw (same_route r.group r.sender r.to) refl

  same_request_end : (stated : List Event) (n : ℕ) (r : RequestPlan) → request_end p stated n r ≡ request_end q stated n r
  same_request_end stated n r =
      same_request_line n r (times_asked n stated) (times_answered p n r stated) (times_refused p n r stated)
      ∙ ap (λ (times : ℕ). request_end_line q n r (times_asked n stated) times (times_refused p n r stated)) (same_answered n r stated)
      ∙ ap (λ (times : ℕ). request_end_line q n r (times_asked n stated) (times_answered q n r stated) times) (same_refusals n r stated)

  pub same_request_ends : (stated : List Event) → request_ends p stated ≡ request_ends q stated
  same_request_ends stated =
      same_lines (request_end p stated) (request_end q stated) p.requests.items q.requests.items (same_request_end stated) same.requests

  -- ---- needs

  same_need_signal : (need : NeedPlan) → need_signal_text p need ≡ need_signal_text q need
  unfolding need_signal_text
  same_need_signal need = go need.signal where
    go : (o : Option ℕ) → option_map_or (λ s. codes " " ++ signal_label p need.group s) o []
        ≡ option_map_or (λ s. codes " " ++ signal_label q need.group s) o []
    go None = refl
    go (Some s) = ap (λ (t : List ℕ). codes " " ++ t) (same_signal_label need.group s)

  same_need : (n : ℕ) (need : NeedPlan) → need_text p n need ≡ need_text q n need
  unfolding need_text
  same_need n need = rw (label need.unit, same_group_label need.group, same_need_signal need) refl

  same_need_line : (n : ℕ) (need : NeedPlan) (times : ℕ) → need_met_line p n need times ≡ need_met_line q n need times
  unfolding need_met_line
  same_need_line n need times = rw (same_need n need) refl

  same_need_end : (sent : List Sort) (n : ℕ) (need : NeedPlan) → need_end p sent n need ≡ need_end q sent n need
  same_need_end sent n need =
      same_need_line n need (times_met p.requests.items sent need 0 p.flows.items)
      ∙ ap (λ (rs : List RequestPlan). need_met_line q n need (times_met rs sent need 0 p.flows.items)) same.requests
      ∙ ap (λ (fs : List FlowPlan). need_met_line q n need (times_met q.requests.items sent need 0 fs)) same.flows

  pub same_need_ends : (sent : List Sort) → need_ends p sent ≡ need_ends q sent
  same_need_ends sent = same_lines (need_end p sent) (need_end q sent) p.needs.items q.needs.items (same_need_end sent) same.needs

-- ---- where units stand

abbrev holds_for : (G : ℕ → Type 0) (p q : Plan) → ReportAlike G p q → (frames : List Frame) → ReportAll G frames → (u : ℕ) (a b : UnitPlan)
    → AreAt p q u a b → (address : ℕ) → HoldsForUnit p frames u a address → HoldsForUnit q frames u b address
holds_for G p q same frames all u a b at address h = record {
  name = h.name;
  name_of = sym (same.names u a b at h.name (holder_meets G frames h.name address all h.holds)) ∙ h.name_of;
  holds = h.holds;
}

same_end_line : (a b : UnitPlan) (w : List ℕ) → a.label.bytes ≡ b.label.bytes → unit_end_line a w ≡ unit_end_line b w
unfolding unit_end_line
same_end_line a b w labels = ap (λ (t : List ℕ). codes "unit " ++ (t ++ (w ++ 10 ∷ []))) labels

same_unit_line : (G : ℕ → Type 0) (p q : Plan) → ReportAlike G p q → (frames : List Frame) → ReportAll G frames → (u : ℕ) (a b : UnitPlan)
    → AreAt p q u a b → (text : List ℕ) → IsUnitLine p frames u a text → IsUnitLine q frames u b text
same_unit_line G p q same frames all u a b at text is = go is where
  back : AreAt q p u b a
  back = turned q p u b a at

  words : (w : List ℕ) → unit_end_line a w ≡ unit_end_line b w
  words w = same_end_line a b w (same.label u a b at)

  go : IsUnitLine p frames u a text → IsUnitLine q frames u b text
  go (inl (address, stands, line)) = inl (
    address,
    record {
      there = holds_for G p q same frames all u a b at address stands.there;
      last = λ other h. stands.last other (holds_for G q p (flip G p q same) frames all u b a back other h);
    },
    line ∙ words (field (codes " address ") address),
  )
  go (inr (inl (stated, none, line))) = inr (inl (
    unit_stated G p q same frames all u a b at stated,
    λ address h. none address (holds_for G q p (flip G p q same) frames all u b a back address h),
    line ∙ words (codes " none"),
  ))
  go (inr (inr (unstated, line))) = inr (inr (unit_unreported G p q same frames all u a b at unstated, line ∙ words (codes " unclaimed")))

-- the units at the end of the one list are those of a plan, from a place on
abbrev AreFrom : Plan → ℕ → List UnitPlan → Type 0
AreFrom plan n units = (k : ℕ) → slice_get units k ≡ slice_get plan.units.items (n + k)

rest_from : (plan : Plan) (n : ℕ) (unit : UnitPlan) (units : List UnitPlan) → AreFrom plan n (unit ∷ units) → AreFrom plan (n + 1) units
rest_from plan n unit units from k =
    let moved : n + suc k ≡ (n + 1) + k = omega arith in
    from (suc k) ∙ ap (slice_get plan.units.items) moved

first_from : (plan : Plan) (n : ℕ) (unit : UnitPlan) (units : List UnitPlan) → AreFrom plan n (unit ∷ units) → slice_get plan.units.items n ≡ Some unit
first_from plan n unit units from =
    let here : n ≡ n + 0 = omega arith in
    ap (slice_get plan.units.items) here ∙ sym (from 0)

none_from : (plan : Plan) (n : ℕ) → AreFrom plan n [] → slice_get plan.units.items n ≡ None
none_from plan n from =
    let here : n ≡ n + 0 = omega arith in
    ap (slice_get plan.units.items) here ∙ sym (from 0)

pub same_unit_lines : (G : ℕ → Type 0) (p q : Plan) → ReportAlike G p q → (frames : List Frame) → ReportAll G frames → (n : ℕ) (xs ys : List UnitPlan)
    (text : List ℕ) → AreFrom p n xs → AreFrom q n ys → AreUnitLines p frames n xs text → AreUnitLines q frames n ys text
same_unit_lines G p q same frames all n [] [] text one other is = is
same_unit_lines G p q same frames all n [] (y ∷ ys) text one other is =
    absurd (none-some _ (sym (none_from p n one) ∙ (same.back n y (first_from q n y ys other)).1.first))
same_unit_lines G p q same frames all n (x ∷ xs) [] text one other is =
    absurd (none-some _ (sym (none_from q n other) ∙ (same.there n x (first_from p n x xs one)).1.second))
same_unit_lines G p q same frames all n (x ∷ xs) (y ∷ ys) text one other is =
    let at : AreAt p q n x y = record { first = first_from p n x xs one; second = first_from q n y ys other } in (
      is.0,
      is.1,
      same_unit_line G p q same frames all n x y at is.0 is.2,
      same_unit_lines G p q same frames all (n + 1) xs ys is.1 (rest_from p n x xs one) (rest_from q n y ys other) is.3,
      is.4,
    )
