-- A message of a run that came in one frame is reported with the flow that it was begun by, or with one that looks like it.
use Rattle.std.proofs.Common.{◌≡◌, ◌≢◌, ℕ, zero, suc, ◌<◌, ◌==◌, ◌||◌, nat_le, true, false, Bool, List, [], ◌∷◌, ◌++◌, length, map}
use Rattle.std.proofs.Common.{Option, Some, None, inl, inr, refl, sym, ap, subst, ◌∙◌, arith, eq-eqb, if◌then◌else◌}
use Rattle.std.specs.Bool.{MatchBool}
use Rattle.std.specs.FinSet.{FinSet}
use Rattle.std.specs.List.{All, slice_get}
use Rattle.std.specs.Option.{is_some, option_map_or}
use Rattle.std.specs.Ordering.{nat_cmp}
use Rattle.std.proofs.lemmas.Bool.{and_parts, cases_Bool, cases_order, leb-true, ne_eqb, or_left, true≢false}
use Rattle.std.proofs.lemmas.List.Elements.{All-head, All-tail}
use Rattle.std.proofs.lemmas.Option.{get_or_from_slice_get, slice_get_within, none-some, same_Some}
use Rattle.j39_id.specs.Addresses.{global_address}
use Rattle.j39_id.specs.Ident.{pgn_of}
use Rattle.j39_id.specs.Limits.{frame_bytes}
use Rattle.j39_id.specs.Pgn.{is_pdu2, pdu2_first, pf_of}
use Rattle.j39_id.specs.Services.{is_service}
use Rattle.j39_id.specs.declared.frame.Frame.{Frame}
use Rattle.j39_id.specs.declared.ident.Ident.{Ident}
use Rattle.j39_findings.specs.Findings.{AreSentTogether, Clean, DoReceiversMeet}
use Rattle.j39_network.specs.PlannedFlows.{MayBeOneFrameToAll}
use Rattle.j39_findings.specs.declared.checking.finding.Finding.TheVariants.{SamePgn}
use Rattle.j39_network.specs.declared.plan.Plan.{Plan}
use Rattle.j39_network.specs.declared.plan.flow_plan.FlowPlan.{FlowPlan}
use Rattle.j39_network.specs.declared.plan.group_plan.GroupPlan.{GroupPlan}
use Rattle.j39_network.specs.declared.plan.unit_plan.UnitPlan.{UnitPlan}
use Rattle.j39_network.specs.declared.plan.to.To.{To}
use Rattle.j39_network.specs.declared.plan.to.To.TheVariants.{All as ToAll, One as ToOne}
use Rattle.j39_network.specs.declared.steps.Step.{Step}
use Rattle.j39_network.specs.declared.steps.Step.TheVariants.{Up, Down, Give, Ask, Begin, Send, Emit, Take, Lose, LateSender, LateReceiver, Rest}
use Rattle.j39_findings.proofs.PrivateGroups.{not_both_taken}
use Rattle.j39_signal.specs.Selectors.{is_selected}
use Rattle.j39_world.specs.Flows.{flows_of, has_length, is_short}
use Rattle.j39_world.specs.Opening.{AreNamesDistinct}
use Rattle.j39_network.specs.PlannedUnits.{planned_unit, unit_at, units_of}
use Rattle.j39_world.specs.Run.{StepsTo, refusal}
use Rattle.j39_world.specs.SoundPlan.{Always}
use Rattle.j39_world.specs.World.{World}
use Rattle.j39_world.specs.declared.flow.Flow.{Flow}
use Rattle.j39_world.specs.declared.step_error.StepError.{StepError}
use Rattle.j39_run_laws.proofs.Addresses.CleanUnits.{clean_units}
use Rattle.j39_follow.specs.Contests.{IsTaken, Timed, frames_of}
use Rattle.j39_follow.specs.Fits.{IsSentGroup, MayBeGroup, fits, fitting_flow, may_have_bytes, reaches}
use Rattle.j39_follow.specs.FollowReports.{IsMessageReport, IsSendingOf, aim_at, in_frame, is_to_all}
use Rattle.j39_follow.specs.Who.{IsWho, unit_of}
use Rattle.j39_follow.specs.declared.message.Sort.TheVariants.{Grouped, Other}
use Rattle.j39_follow.specs.declared.flow.sending.Aim.{Aim}
use Rattle.j39_follow.specs.declared.flow.sending.Aim.TheVariants as aims
use Rattle.j39_follow.specs.declared.flow.sending.Sending.{Sending}
use Rattle.j39_follow.specs.declared.address.who.Who.{Who}
use Rattle.j39_follow.specs.declared.address.who.Who.TheVariants.{Holder}
use Rattle.j39_follow.proofs.Addresses.Parties.{one_who}
use Rattle.j39_log_laws.specs.Between.{GoesToHolder, IsKnownAt, IsOfStep, IsSentBehind, IsTransport}
use Rattle.j39_log_laws.specs.HolderReports.{HaveOwnNumbers}
use Rattle.j39_log_laws.specs.ReportedFlows.{AreReportedAsBegun, EachClaims, IsBegunBy, LooksLike, untimed}
use Rattle.j39_log_laws.proofs.Between.{step_goes}
use Rattle.j39_log_laws.proofs.Ends.{HasEnds, all_ends}
use Rattle.j39_log_laws.proofs.HolderReports.{AreReported, all_stated}
use Rattle.j39_log_laws.proofs.FittingFlows.{planned_flow, of_group, some_there, fitting_there, fitting_some, fit_parts, fit_whole, same_receivers}
use Rattle.j39_log_laws.proofs.SentFrames.{not_sent, IsInFrame, begun, sent_alone, planned_number, own_numbers, no_transport, holds_nothing}

-- ---- units that claim

claims_at : (kept : FinSet nat_cmp) (units : List UnitPlan) → All (λ (unit : UnitPlan). unit.claims ≡ true) units → (u : ℕ)
    → (unit_at (map (planned_unit kept) units) u).claims ≡ true
claims_at kept [] all u = refl
claims_at kept (unit ∷ units) all zero = All-head (λ (x : UnitPlan). x.claims ≡ true) unit units all
claims_at kept (unit ∷ units) all (suc u) = claims_at kept units (All-tail (λ (x : UnitPlan). x.claims ≡ true) unit units all) u

-- ---- lines without a time

pub frames_untimed : (frames : List Frame) → frames_of (untimed frames) ≡ frames
frames_untimed [] = refl
frames_untimed (f ∷ frames) = ap (λ (t : List Frame). f ∷ t) (frames_untimed frames)

no_time : (frames : List Frame) (before : List Timed) (x : Timed) (behind : List Timed) → untimed frames ≡ before ++ x ∷ behind → x.time ≡ None
no_time [] [] x behind e = absurd (cc e)
no_time [] (y ∷ before) x behind e = absurd (cc e)
no_time (f ∷ frames) [] x behind e =
    let head : record { frame = f; time = None } ≡ x = cc in
    sym (ap (λ (t : Timed). t.time) head)
no_time (f ∷ frames) (y ∷ before) x behind e =
    let tail : untimed frames ≡ before ++ x ∷ behind = cc in
    no_time frames before x behind tail

-- so nothing is contested, and who is reported to be behind an address stands there
stands : (plan : Plan) (frames : List Frame) (a : ℕ) (who : Who) → IsTaken plan (untimed frames) a who → IsWho plan frames a who
stands plan frames a who (inl (c, contested, is)) =
    let (before, x, row, time) = contested.time_is in
    absurd (none-some contested.runs.now (sym (no_time frames before x [] row) ∙ time ∙ contested.runs.now_is))
stands plan frames a who (inr (calm, is)) = subst (λ (fs : List Frame). IsWho plan fs a who) (frames_untimed frames) is

unit_there : (plan : Plan) (frames : List Frame) (a u : ℕ) (who : Who) → IsWho plan frames a (Holder u) → IsTaken plan (untimed frames) a who
    → unit_of who ≡ Some u
unit_there plan frames a u who holder taken = ap unit_of (one_who plan frames a who (Holder u) (stands plan frames a who taken) holder)

-- ---- what is reported

module _ (plan : Plan) (clean : Clean plan) (claims : EachClaims plan) (w : World) (stated : AreReported plan w) (log : List Frame) (f : Frame) where
  abbrev frames : List Frame
  frames = log ++ f ∷ []

  abbrev number : ℕ
  number = pgn_of f.ident

  abbrev payload : List ℕ
  payload = f.payload.items

  abbrev size : ℕ
  size = length payload

  claims_there : (u : ℕ) → (unit_at (units_of plan) u).claims ≡ true
  claims_there u = claims_at plan.keep_free plan.units.items claims u

  -- whom it went to, where it goes to the receivers of a flow
  reached_by : (sent : Sending) → IsSendingOf plan (untimed frames) (in_frame f) sent → (to : To) → GoesToHolder plan w frames to f.ident
      → reaches to sent.aim sent.unaddressed ≡ true
  reached_by sent sending ToAll goes =
      let aim : sent.aim ≡ aims.All =
      sending.aim_is ∙ ap (λ (b : Bool). if b then aims.All else aim_at (unit_of sending.receiver)) goes in
      ap (λ (x : Aim). reaches ToAll x sent.unaddressed) aim
  reached_by sent sending (ToOne v) (a, at, where_to) =
      elim (cases_Bool (is_pdu2 number)) [
        | inl two ↦
            let all : is_to_all f.ident ≡ true = or_left (is_pdu2 number) (f.ident.ps == global_address) two in
            let aim : sent.aim ≡ aims.All =
            sending.aim_is ∙ ap (λ (b : Bool). if b then aims.All else aim_at (unit_of sending.receiver)) all in
            ap (λ (x : Aim). reaches (ToOne v) x sent.unaddressed) aim ∙ sending.unaddressed_is ∙ two
        | inr one ↦
            let there : f.ident.ps ≡ a = elim where_to [ inl two ↦ absurd (true≢false (sym two ∙ one)) | inr same ↦ same ] in
            let less = stated.standing.1 v a at.holds in
            let other : (f.ident.ps == global_address) ≡ false = ne_eqb f.ident.ps global_address (λ (e : f.ident.ps ≡ 255). omega (arith, e, there, less)) in
            let not_all : is_to_all f.ident ≡ false =
            ap (λ (b : Bool). b || f.ident.ps == global_address) one ∙ other in
            let holder : IsWho plan frames f.ident.ps (Holder v) =
            subst (λ (k : ℕ). IsWho plan frames k (Holder v)) (sym there) (at.stated (claims_there v)) in
            let unit = unit_there plan frames f.ident.ps v sending.receiver holder sending.receiver_is in
            let aim : sent.aim ≡ aims.One v =
            sending.aim_is ∙ ap (λ (b : Bool). if b then aims.All else aim_at (unit_of sending.receiver)) not_all ∙ ap aim_at unit in
            ap (λ (x : Aim). reaches (ToOne v) x sent.unaddressed) aim ∙ eq-eqb v v refl
      ]

  sent_by : (sent : Sending) → IsSendingOf plan (untimed frames) (in_frame f) sent → (u : ℕ) → IsKnownAt plan w frames u f.ident.sa
      → sent.sender ≡ Some u
  sent_by sent sending u source =
      sending.sender_unit
      ∙ unit_there plan frames f.ident.sa u sending.sender (source.stated (claims_there u)) sending.sender_is

  -- a flow whose message it is
  pub record IsFlowOf (k : ℕ) (planned : FlowPlan) (group : GroupPlan) (sent : Sending) : Type 0 where
    pub flow_is : slice_get plan.flows.items k ≡ Some planned
    pub group_is : slice_get plan.groups.items planned.group ≡ Some group
    pub fits_it : fits planned.group sent planned ≡ true
    pub number_is : group.pgn ≡ number
    pub lengths : may_have_bytes group size ≡ true
    pub selected : is_selected group.when payload ≡ true
    pub short : is_short size ≡ true

  may_be : (k : ℕ) (planned : FlowPlan) (group : GroupPlan) (sent : Sending) → IsFlowOf k planned group sent
      → MayBeGroup plan number payload sent planned.group
  may_be k planned group sent of = record {
    value = group;
    value_is = of.group_is;
    meets = record {
      number = of.number_is;
      length = of.lengths;
      selected = of.selected;
      own = inr (λ (none : fitting_flow plan planned.group sent ≡ None).
          let some = fitting_some plan planned.group sent k planned of.flow_is of.fits_it in none-some some.0 (sym none ∙ some.1));
    };
  }

  -- some message of a group of this number is sent in a frame that names no receiver
  to_all_by : (group : GroupPlan) (sent : Sending) → sent.unaddressed ≡ is_pdu2 number → sent.unaddressed ≡ true → group.pgn ≡ number
      → may_have_bytes group size ≡ true → is_short size ≡ true → MayBeOneFrameToAll group
  to_all_by group sent two yet same lengths short =
      let pdu2 : is_pdu2 group.pgn ≡ true = ap is_pdu2 same ∙ sym two ∙ yet in
      let least = leb-true group.length size (and_parts (nat_le group.length size) (nat_le size group.most) lengths).0 in
      let most = leb-true size frame_bytes short in
      (leb-true pdu2_first (pf_of group.pgn) pdu2, omega (arith, least, most))

  -- no earlier group of the plan can be that of the message
  not_earlier : (k : ℕ) (planned : FlowPlan) (group : GroupPlan) (sent : Sending) → IsFlowOf k planned group sent
      → sent.unaddressed ≡ is_pdu2 number → (g : ℕ) → g < planned.group → ¬ MayBeGroup plan number payload sent g
  not_earlier k planned group sent of two g less earlier =
      let first : GroupPlan = earlier.value in
      let same : first.pgn ≡ group.pgn = earlier.meets.number ∙ sym of.number_is in
      clean (SamePgn g planned.group) (record {
        first = first;
        second = group;
        below = less;
        first_is = earlier.value_is;
        second_is = of.group_is;
        related = (
          same,
          not_both_taken first.when group.when payload earlier.meets.selected of.selected,
          elim earlier.meets.own [ inl shared ↦ inl shared | inr fitting ↦ inr (inr (together (fitting_flow plan g sent) refl fitting)) ],
        );
      })
    where
      together : (o : Option ℕ) → fitting_flow plan g sent ≡ o → fitting_flow plan g sent ≢ None
          → AreSentTogether plan.groups.items plan.flows.items earlier.value group
      together None is some = absurd (some is)
      together (Some n) is some =
          let (flow, at, passes) = fitting_there plan g sent n planned is in
          let a = fit_parts g sent flow passes in
          let b = fit_parts planned.group sent planned of.fits_it in
          let meets : DoReceiversMeet earlier.value group flow planned =
          elim (same_receivers flow.to planned.to sent.aim sent.unaddressed a.reached b.reached) [
            | inl to ↦ inr (inr (inl to))
            | inr yet ↦
                inr (inr (inr (
                  to_all_by earlier.value sent two yet earlier.meets.number earlier.meets.length of.short,
                  to_all_by group sent two yet of.number_is of.lengths of.short,
                )))
          ] in (
            n,
            record {
              value = flow;
              value_is = at;
              meets = (
                record { value = earlier.value; value_is = ap (slice_get plan.groups.items) a.group ∙ earlier.value_is; meets = refl },
                (
                  k,
                  record {
                    value = planned;
                    value_is = of.flow_is;
                    meets = (
                      same_Some planned.sender flow.sender (sym b.sender ∙ a.sender),
                      record { value = group; value_is = of.group_is; meets = refl },
                      meets,
                    );
                  },
                ),
              );
            },
          )

  -- so it is reported as of the flow's group, with the flow or one that looks like it
  reported_with : (k : ℕ) (planned : FlowPlan) (group : GroupPlan) (sent : Sending) → IsFlowOf k planned group sent
      → sent.unaddressed ≡ is_pdu2 number → (g : ℕ) → IsSentGroup plan number payload sent (Some g)
      → (other : ℕ) × (fitting_flow plan g sent ≡ Some other) × LooksLike plan g k other
  reported_with k planned group sent of two g is =
      let same : g ≡ planned.group = elim (cases_order g planned.group) [
        | inl same ↦ same
        | inr (inl less) ↦ absurd (not_earlier k planned group sent of two g less is.0)
        | inr (inr more) ↦ absurd (is.1 planned.group more (may_be k planned group sent of))
      ] in
      let (other, found) = fitting_some plan planned.group sent k planned of.flow_is of.fits_it in
      let (twin, at, passes) = fitting_there plan planned.group sent other planned found in
      let a = fit_parts planned.group sent twin passes in
      let b = fit_parts planned.group sent planned of.fits_it in (
        other,
        ap (λ (x : ℕ). fitting_flow plan x sent) same ∙ found,
        record {
          flow = planned;
          twin = twin;
          flow_is = of.flow_is;
          twin_is = at;
          flow_group = sym same;
          twin_group = a.group ∙ sym same;
          sender = same_Some twin.sender planned.sender (sym a.sender ∙ b.sender);
          receivers = elim (same_receivers twin.to planned.to sent.aim sent.unaddressed a.reached b.reached) [
            | inl to ↦ inl to
            | inr yet ↦
                inr (record {
                  value = group;
                  value_is = ap (slice_get plan.groups.items) same ∙ of.group_is;
                  meets = ap is_pdu2 of.number_is ∙ sym two ∙ yet;
                })
          ];
        },
      )

  -- a flow of the world is one of the plan, whose message this is
  flow_there : (k : ℕ) (flow : Flow) (bytes : List ℕ) (sent : Sending) → slice_get (flows_of plan) k ≡ Some flow → pgn_of f.ident ≡ flow.pgn
      → IsInFrame flow bytes f → IsKnownAt plan w frames flow.sender f.ident.sa → GoesToHolder plan w frames flow.to f.ident
      → IsSendingOf plan (untimed frames) (in_frame f) sent
      → (planned : FlowPlan) × (group : GroupPlan) × IsFlowOf k planned group sent
  flow_there k flow bytes sent is same inside source goes sending =
      let groups = plan.groups.items in
      let (planned, at, flow_is) = planned_flow groups plan.flows.items k flow is in
      let within = slice_get_within plan.flows.items k planned at in
      let here = get_or_from_slice_get plan.flows.items k planned planned at in
      let grouped : planned.group < length groups = subst (λ (x : FlowPlan). x.group < length groups) here (plan.flow_groups k planned within) in
      let (group, there) = some_there groups planned.group grouped in
      let parts : flow ≡ of_group group planned = flow_is ∙ ap (λ (o : Option GroupPlan). record {
        pgn = option_map_or (λ (g : GroupPlan). g.pgn) o 0;
        priority = option_map_or (λ (g : GroupPlan). g.priority) o 0;
        length = option_map_or (λ (g : GroupPlan). g.length) o 0;
        most = option_map_or (λ (g : GroupPlan). g.most) o 0;
        when = option_map_or (λ (g : GroupPlan). g.when) o None;
        sender = planned.sender;
        to = planned.to;
      }) there in
      let size_is : length bytes ≡ size = ap length (sym inside.payload) in
      let lengths : may_have_bytes group size ≡ true =
      ap (may_have_bytes group) (sym size_is) ∙ ap (λ (x : Flow). has_length x (length bytes)) (sym parts) ∙ inside.allowed in
      let selected : is_selected group.when payload ≡ true =
      ap (is_selected group.when) inside.payload ∙ ap (λ (x : Flow). is_selected x.when bytes) (sym parts) ∙ inside.selected in
      let from : sent.sender ≡ Some planned.sender =
      sent_by sent sending flow.sender source ∙ ap (λ (x : Flow). Some x.sender) parts in
      let reached : reaches planned.to sent.aim sent.unaddressed ≡ true =
      ap (λ (x : Flow). reaches x.to sent.aim sent.unaddressed) (sym parts) ∙ reached_by sent sending flow.to goes in (
        planned,
        group,
        record {
          flow_is = at;
          group_is = there;
          fits_it = fit_whole planned.group sent planned refl from reached;
          number_is = sym (same ∙ ap (λ (x : Flow). x.pgn) parts);
          lengths = lengths;
          selected = selected;
          short = ap is_short (sym size_is) ∙ inside.short;
        },
      )

grouped_of : (g h : ℕ) (a b : Option ℕ) → Grouped g a ≡ Grouped h b → (g ≡ h) × (a ≡ b)
grouped_of g h a b e = (cc, cc)

not_other : (g n : ℕ) (a : Option ℕ) → Grouped g a ≡ Other n → ⊥
not_other g n a e = cc

module _ (plan : Plan) (clean : Clean plan) (distinct : AreNamesDistinct (units_of plan)) (own : HaveOwnNumbers plan) (claims : EachClaims plan) (w : World)
    (stated : AreReported plan w) (ends : HasEnds plan w) where
  abbrev Stated : Step → World → Type 0
  Stated step after = (log : List Frame) (f : Frame) (front : List ℕ) (group : ℕ) (flow : Option ℕ) (text : List ℕ) → IsSentBehind w after log f
      → IsMessageReport plan (untimed (log ++ f ∷ [])) front (in_frame f) (Grouped group flow) text
      → (k : ℕ) × (other : ℕ) × IsBegunBy step k f.payload.items × (flow ≡ Some other) × LooksLike plan group k other

  -- what was sent is reported
  reported_so : (log : List Frame) (f : Frame) (front : List ℕ) (group : ℕ) (flow : Option ℕ) (text : List ℕ)
      → IsMessageReport plan (untimed (log ++ f ∷ [])) front (in_frame f) (Grouped group flow) text
      → (k : ℕ) (bytes : List ℕ) (sent : Flow) → slice_get (flows_of plan) k ≡ Some sent → pgn_of f.ident ≡ sent.pgn → IsInFrame sent bytes f
      → IsKnownAt plan w (log ++ f ∷ []) sent.sender f.ident.sa → GoesToHolder plan w (log ++ f ∷ []) sent.to f.ident
      → (other : ℕ) × (flow ≡ Some other) × LooksLike plan group k other
  reported_so log f front group flow text (sending, None, is, fits, grouped) k bytes sent flow_is same inside source goes =
      absurd (not_other group _ flow grouped.0)
  reported_so log f front group flow text (sending, Some g, is, fits, grouped) k bytes sent flow_is same inside source goes =
      let parts = grouped_of group g flow (fitting_flow plan g sending) grouped.0 in
      let there = flow_there plan clean claims w stated log f k sent bytes sending flow_is same inside source goes is in
      let (other, found, looks) = reported_with plan clean claims w stated log f k there.0 there.1 sending there.2 is.unaddressed_is g fits in
      (other, parts.1 ∙ found, subst (λ (x : ℕ). LooksLike plan x k other) (sym parts.0) looks)

  -- the number of what is reported is planned
  own_number : (log : List Frame) (f : Frame) (front : List ℕ) (group : ℕ) (flow : Option ℕ) (text : List ℕ)
      → IsMessageReport plan (untimed (log ++ f ∷ [])) front (in_frame f) (Grouped group flow) text → is_service (pgn_of f.ident) ≡ false
  own_number log f front group flow text (sending, None, is, fits, grouped) = absurd (not_other group _ flow grouped.0)
  own_number log f front group flow text (sending, Some g, is, fits, grouped) =
      ap is_service (sym fits.0.meets.number) ∙ planned_number plan own g fits.0.value fits.0.value_is

  some_flow : (a b : Flow) → Some a ≡ Some b → a ≡ b
  some_flow a b e = cc

  -- no other step sends what is reported
  unsent : (step : Step) → ((i : Ident) → IsOfStep plan step i → IsTransport (pgn_of i)) → refusal plan w step ≡ None → (after : World)
      → StepsTo plan w step after → Stated step after
  unsent step transport allowed after leads log f front group flow text sent report =
      let number = own_number log f front group flow text report in
      let (u, to, by, of, source, goes) = step_goes plan distinct own w stated ends step allowed after leads log f sent (holds_nothing f number) in
      absurd (no_transport (pgn_of f.ident) number (transport f.ident of))

  step_reported : (step : Step) → refusal plan w step ≡ None → (after : World) → StepsTo plan w step after → Stated step after
  step_reported (Begin k bytes) allowed after leads = λ log f front group flow text sent report.
      let number = own_number log f front group flow text report in
      let other = no_transport (pgn_of f.ident) number in
      let (u, to, (a, a_is, sender_is, to_is), of, source, goes) =
      step_goes plan distinct own w stated ends (Begin k bytes) allowed after leads log f sent (holds_nothing f number) in
      let (b, b_is, inside) = begun plan w stated k bytes.items (slice_get (flows_of plan) k) allowed after leads log f sent other in
      let same : b ≡ a = some_flow b a (sym b_is ∙ a_is) in
      let its : pgn_of f.ident ≡ a.pgn = elim of [
        | inl (c, c_is, pgn) ↦ pgn ∙ ap (λ (x : Flow). x.pgn) (some_flow c a (sym c_is ∙ a_is))
        | inr transport ↦ absurd (other transport)
      ] in
      let (twin, found, looks) = reported_so log f front group flow text report k bytes.items a a_is its
      (subst (λ (x : Flow). IsInFrame x bytes.items f) same inside)
      (subst (λ (x : ℕ). IsKnownAt plan w (log ++ f ∷ []) x f.ident.sa) (sym sender_is) source)
      (subst (λ (x : To). GoesToHolder plan w (log ++ f ∷ []) x f.ident) (sym to_is) goes) in
      (k, twin, (refl, sym inside.payload), found, looks)
  step_reported (Send k bytes) allowed after leads = λ log f front group flow text sent report.
      let number = own_number log f front group flow text report in
      let (u, to, (a, a_is, sender_is, to_is), (c, c_is, pgn), source, goes) =
      step_goes plan distinct own w stated ends (Send k bytes) allowed after leads log f sent (holds_nothing f number) in
      let (b, b_is, inside) = sent_alone plan w stated k bytes.items (slice_get (flows_of plan) k) allowed after leads log f sent in
      let same : b ≡ a = some_flow b a (sym b_is ∙ a_is) in
      let its : pgn_of f.ident ≡ a.pgn = pgn ∙ ap (λ (x : Flow). x.pgn) (some_flow c a (sym c_is ∙ a_is)) in
      let (twin, found, looks) = reported_so log f front group flow text report k bytes.items a a_is its
      (subst (λ (x : Flow). IsInFrame x bytes.items f) same inside)
      (subst (λ (x : ℕ). IsKnownAt plan w (log ++ f ∷ []) x f.ident.sa) (sym sender_is) source)
      (subst (λ (x : To). GoesToHolder plan w (log ++ f ∷ []) x f.ident) (sym to_is) goes) in
      (k, twin, (refl, sym inside.payload), found, looks)
  step_reported (Up u) allowed after leads = unsent (Up u) (λ i of. of) allowed after leads
  step_reported (Down u) allowed after leads = unsent (Down u) (λ i of. of) allowed after leads
  step_reported (Give u v) allowed after leads = unsent (Give u v) (λ i of. of) allowed after leads
  step_reported (Ask u) allowed after leads = unsent (Ask u) (λ i of. of) allowed after leads
  step_reported (Emit u) allowed after leads = unsent (Emit u) (λ i of. of) allowed after leads
  step_reported (Take u v) allowed after leads = unsent (Take u v) (λ i of. of) allowed after leads
  step_reported (Lose u v) allowed after leads = unsent (Lose u v) (λ i of. of) allowed after leads
  step_reported (LateSender u) allowed after leads = unsent (LateSender u) (λ i of. of) allowed after leads
  step_reported (LateReceiver u v) allowed after leads = unsent (LateReceiver u v) (λ i of. of) allowed after leads
  step_reported (Rest u) allowed after leads = unsent (Rest u) (λ i of. of) allowed after leads

  are_reported : AreReportedAsBegun plan w
  are_reported step after log f front group flow text follows =
      elim (refusal plan w step)
      as (λ (o : Option StepError). refusal plan w step ≡ o → MatchBool (is_some o) (after ≡ w) (StepsTo plan w step after)
      → IsSentBehind w after log f → IsMessageReport plan (untimed (log ++ f ∷ [])) front (in_frame f) (Grouped group flow) text
      → (k : ℕ) × (other : ℕ) × IsBegunBy step k f.payload.items × (flow ≡ Some other) × LooksLike plan group k other) [
        | Some e ↦ λ _ same sent report. absurd (not_sent w after log f sent same)
        | None ↦ λ allowed leads. step_reported step allowed after leads log f front group flow text
      ] refl follows

pub reported_as_begun : (plan : Plan) → Clean plan → EachClaims plan → Always plan (AreReportedAsBegun plan)
reported_as_begun plan clean claims steps w run =
    let distinct = (clean_units plan clean).names in
    let own = own_numbers plan clean in
    are_reported plan clean distinct own claims w (all_stated plan distinct own steps w run) (all_ends plan (inr clean) steps w run)
