-- In each world of each run of a plan without findings, each frame that was sent is sound behind those before it.
use Rattle.std.proofs.Common.{◌≡◌, ◌≢◌, ◌⊎◌, ℕ, ◌<◌, ◌==◌, ◌&&◌, ◌||◌, ◌++◌, ◌∷◌, [], List, Bool, true, false, cond, length, map}
use Rattle.std.proofs.Common.{inl, inr, refl, sym, ap, ◌∙◌, subst, arith, eqb-true, Option, Some, None}
use Rattle.std.specs.List.{AllByRecursion, slice_get}
use Rattle.std.proofs.lemmas.Bool.{and_parts, cases_eq, eq-eqb, false_from_ne_true, ne_eqb, or_cases, or_left, true≢false}
use Rattle.std.proofs.lemmas.Option.{same_Some}
use Rattle.j39_id.specs.Addresses.{in_pool, is_address, null_address}
use Rattle.j39_id.specs.FrameMeaning.{cannot_claim, carries_name, claims_address, name_in, requests_group}
use Rattle.j39_id.specs.Ident.{pgn_of}
use Rattle.j39_id.specs.Name.{is_arbitrary}
use Rattle.j39_id.specs.Services.{is_service, request}
use Rattle.j39_id.specs.declared.frame.Frame.{Frame}
use Rattle.j39_claim.specs.declared.item.Item.TheVariants.{AddressClaimed}
use Rattle.j39_claim.specs.declared.item.Say.TheVariants.{Claim}
use Rattle.j39_claim.specs.ClaimRule.{ClaimState, PlannedUnit, claim_of}
use Rattle.j39_findings.proofs.WhoStays.{placed}
use Rattle.j39_findings.specs.Findings.{Clean}
use Rattle.j39_network.specs.PlannedUnits.{unit_at, units_of}
use Rattle.j39_network.specs.Staying.{Stays}
use Rattle.j39_network.specs.declared.plan.Plan.{Plan}
use Rattle.j39_network.specs.declared.plan.flow_plan.FlowPlan.{FlowPlan}
use Rattle.j39_network.specs.declared.plan.group_plan.GroupPlan.{GroupPlan}
use Rattle.j39_network.specs.declared.steps.Step.{Step}
use Rattle.j39_tp.specs.Sender as sender
use Rattle.j39_tp.specs.declared.packet.Packet.{Packet}
use Rattle.j39_world.specs.declared.flow.Flow.{Flow}
use Rattle.j39_world.specs.Flows.{dest_of, flow_of, flows_of}
use Rattle.j39_world.specs.Opening.{AreNamesDistinct}
use Rattle.j39_world.specs.Run.{StepsTo, refusal}
use Rattle.j39_world.specs.Sent.{Sent, frame_of, sent_of, source_of}
use Rattle.j39_world.specs.SentTransfers.{group_of, packet_frame}
use Rattle.j39_world.specs.Sound.{AreAddressesSound, AreKeptFree}
use Rattle.j39_world.specs.SoundPlan.{Always}
use Rattle.j39_world.specs.World.{World, all_off}
use Rattle.j39_run_laws.proofs.Addresses.CleanUnits.{clean_units, names_in_range}
use Rattle.j39_run_laws.proofs.Addresses.SoundAddresses.{addresses_sound, kept_free}
use Rattle.j39_run_laws.proofs.Addresses.Staying.{stand}
use Rattle.j39_run_laws.proofs.Runs.Always.{leads_to_follows, one_more}
use Rattle.j39_run_laws.proofs.Runs.Conditions.{is_unit}
use Rattle.j39_run_laws.proofs.Runs.Units.{in_units}
use Rattle.j39_follow.specs.Holders.{Claims}
use Rattle.j39_follow.specs.Who.{unit_of_name}
use Rattle.j39_log_laws.specs.Between.{MessagesGoBetweenHolders, reports_of_addresses}
use Rattle.j39_log_laws.specs.HolderReports.{HaveOwnNumbers}
use Rattle.j39_log_laws.proofs.Between.{messages_go, transports}
use Rattle.j39_log_laws.proofs.Identifiers.{IsOther, carries_none, sent_as}
use Rattle.j39_log_laws.proofs.Logs.{claims_it, split}
use Rattle.j39_log_laws.proofs.SentFrames.{own_numbers, planned_number}
use Rattle.j39_log_laws.proofs.FittingFlows.{of_group, planned_flow, some_there}
use Rattle.j39_run_laws.proofs.Addresses.CleanEnds.{flow_at}
use Rattle.j39_log_laws.proofs.Standing.{source_below}
use Rattle.j39_log_laws.proofs.HolderReports.{AreReported, all_stated, flow_other, packet_group}
use Rattle.j39_log_laws.proofs.UnitNames.{named}
use Rattle.j39_audit.specs.Claiming.{Heard, is_at, newest_of}
use Rattle.j39_audit.specs.Looking.{is_claim}
use Rattle.j39_audit_laws.specs.OwnPart.{ClaimsAddresses, IsItsAddress}
use Rattle.j39_audit_laws.proofs.RunFrames.{IsNewest, claims_behind_those, claims_of, heard_of, newest_here, newest_past, no_claims}
use Rattle.j39_audit_laws.proofs.RunSteps.{IsOfMessages, IsOneStep, IsSending, IsReporting, claim_frame, claims_at, name_at, request_frame}

-- ---- what is known of a world

pub record IsKnown (plan : Plan) (w : World) : Type 0 where
  pub stated : AreReported plan w
  pub sound : AreAddressesSound plan w
  pub kept : AreKeptFree plan w
  pub stand : (u a : ℕ) → (w.stations u).on ≡ true → (w.stations u).address ≡ Some a
      → (a ≡ (unit_at (units_of plan) u).preferred)
      ⊎ ((in_pool a ≡ true) × (is_arbitrary (unit_at (units_of plan) u).name ≡ true) × ¬ Stays (units_of plan) u)
  pub go : MessagesGoBetweenHolders plan w

module _ (plan : Plan) (clean : Clean plan) where
  distinct : AreNamesDistinct (units_of plan)
  distinct = (clean_units plan clean).names

  pub own : HaveOwnNumbers plan
  own = own_numbers plan clean

  all_known : Always plan (IsKnown plan)
  all_known steps w run = record {
    stated = all_stated plan distinct own steps w run;
    sound = addresses_sound plan (clean_units plan clean) steps w run;
    kept = kept_free plan (clean_units plan clean) steps w run;
    stand = stand plan steps w run;
    go = messages_go plan (inr clean) distinct own steps w run;
  }

  -- and of each that follows it by one step
  abbrev pub IsKnownOn : World → Type 0
  IsKnownOn w = IsKnown plan w × ((step : Step) → refusal plan w step ≡ None → (new : World) → StepsTo plan w step new → IsKnown plan new)

  pub all_known_on : Always plan IsKnownOn
  all_known_on steps w run = (
    all_known steps w run,
    λ step allowed new leads. all_known (steps ++ step ∷ []) new
        (one_more plan all_off w new steps step run (leads_to_follows plan w step allowed new leads)),
  )

  -- ---- units

  pub its_own : (w : World) → IsKnown plan w → (u a : ℕ) → (w.stations u).on ≡ true → (w.stations u).address ≡ Some a → IsItsAddress plan u a
  its_own w known u a on address =
      let unit = in_units plan u (known.stated.standing.0 u on) in
      let (p, is, at) = placed plan.keep_free plan.units.items u unit in
      let name : (unit_at (units_of plan) u).name ≡ p.name = ap (λ (x : PlannedUnit). x.name) at in
      record {
        unit = p;
        unit_is = is;
        planned_or_free = elim (known.stand u a on address) [
          | inl planned ↦ inl (sym (planned ∙ ap (λ (x : PlannedUnit). x.preferred) at))
          | inr (pool, arbitrary, leaves) ↦
              inr (sym (ap is_arbitrary name) ∙ arbitrary, λ stays. leaves stays.0, pool, inr (known.kept u a on arbitrary address))
        ];
      }

  pub claims_so : (u : ℕ) → is_unit plan u ≡ true → claims_at plan u ≡ true → ClaimsAddresses plan u
  claims_so u unit claims =
      let (p, is, at) = placed plan.keep_free plan.units.items u (in_units plan u unit) in
      record { unit = p; unit_is = is; claims = sym (ap (λ (x : PlannedUnit). x.claims) at) ∙ claims }

  -- ---- frames

  pub record IsClaimAt (u a : ℕ) (f : Frame) : Type 0 where
    pub claim : is_claim f ≡ true
    pub unit_is : unit_of_name plan (name_in f) ≡ Some u
    pub source : f.ident.sa ≡ a

  no_claim : (f : Frame) → carries_name f ≡ false → is_claim f ≡ false
  no_claim f none = ap (λ (b : Bool). (b && is_address f.ident.sa) || (b && f.ident.sa == null_address)) none

  pub claim_reported : (w : World) → IsKnown plan w → (u a : ℕ) → (w.stations u).on ≡ true → (w.stations u).address ≡ Some a → (f : Frame)
      → sent_of f ≡ claim_frame plan w u → IsClaimAt u a f
  claim_reported w known u a on address f e =
      let unit = known.stated.standing.0 u on in
      let range = names_in_range plan u (in_units plan u unit) in
      let held : Option ℕ = (w.stations u).address in
      let source : source_of held < 256 = source_below (w.stations u) (known.stated.standing.1 u) in
      let less = known.stated.standing.1 u a address in
      let stated : sent_of f ≡ frame_of (name_at plan u) held (AddressClaimed (Claim a)) =
      e ∙ ap (λ (o : Option ℕ). frame_of (name_at plan u) held (AddressClaimed (claim_of o))) address in
      let c : Claims f (name_at plan u) a = claims_it (name_at plan u) range held source f a less stated in
      record {
        claim = or_left (claims_address f) (cannot_claim f) c.claim;
        unit_is = ap (unit_of_name plan) c.name_is ∙ named plan distinct u unit;
        source = c.source_is;
      }

  -- the number of requests
  requests : IsOther 59904
  requests = record { range = omega arith; low = λ _. refl; unlike = λ (e : 59904 ≡ 60928). absurd (omega (arith, e)) }

  pub request_reported : (w : World) → IsKnown plan w → (u : ℕ) → (f : Frame) → sent_of f ≡ request_frame plan w u
      → (is_claim f ≡ false) × (f.ident.sa ≡ source_of (w.stations u).address) × (pgn_of f.ident ≡ request)
  request_reported w known u f e =
      let source = source_below (w.stations u) (known.stated.standing.1 u) in
      let number = ap (λ (x : Sent). x.identifier) e in
      let ident = sent_as f.ident 6 59904 255 (source_of (w.stations u).address) requests (omega arith) source number in (
        no_claim f (carries_none f 6 59904 255 (source_of (w.stations u).address) requests (omega arith) source number),
        ident.source_is,
        ident.group_is,
      )

  -- a frame with the number of a group other than those of claims and requests reports of no address
  unstated : (f : Frame) (n : ℕ) → carries_name f ≡ false → pgn_of f.ident ≡ n → n ≢ request → reports_of_addresses f ≡ false
  unstated f n none number other =
      false_from_ne_true (reports_of_addresses f) (λ states. elim (or_cases (carries_name f) (requests_group f) states) [
        | inl carries ↦ true≢false (sym carries ∙ none)
        | inr asks ↦
            let rest = (and_parts (f.ident.edp == 0) (pgn_of f.ident == request && length f.payload.items == 3) asks).1 in
            other (sym number ∙ eqb-true (pgn_of f.ident) request (and_parts (pgn_of f.ident == request) (length f.payload.items == 3) rest).0)
      ])

  unlike_request : (p : Packet) → group_of p ≢ request
  unlike_request p e = elim (transports p) [
    | inl same ↦ (let never : 60416 ≡ 59904 = sym same ∙ e in absurd (omega (arith, never)))
    | inr same ↦ (let never : 60160 ≡ 59904 = sym same ∙ e in absurd (omega (arith, never)))
  ]

  -- a flow with its group
  pub record IsPlannedFlow (k : ℕ) (flow : Flow) : Type 0 where
    pub planned : FlowPlan
    pub planned_is : slice_get plan.flows.items k ≡ Some planned
    pub group : GroupPlan
    pub group_is : slice_get plan.groups.items planned.group ≡ Some group
    pub flow_is : flow ≡ of_group group planned

  pub flow_planned : (k : ℕ) (flow : Flow) → slice_get (flows_of plan) k ≡ Some flow → IsPlannedFlow k flow
  flow_planned k flow at =
      let (planned, there, is) = planned_flow plan.groups.items plan.flows.items k flow at in
      let (group, of) = some_there plan.groups.items planned.group
      (flow_at (λ (f : FlowPlan). f.group < length plan.groups.items) plan plan.flow_groups k planned there) in
      record { planned = planned; planned_is = there; group = group; group_is = of; flow_is = is ∙ with_group planned group of }
    where
      with_group : (planned : FlowPlan) (group : GroupPlan) → slice_get plan.groups.items planned.group ≡ Some group
          → flow_of plan.groups.items planned ≡ of_group group planned
      with_group planned group of = rw of refl

  flow_unlike : (k : ℕ) (flow : Flow) → slice_get (flows_of plan) k ≡ Some flow → flow.pgn ≢ request
  flow_unlike k flow at e =
      let p = flow_planned k flow at in
      let number : p.group.pgn ≡ request = sym (ap (λ (x : Flow). x.pgn) p.flow_is) ∙ e in
      true≢false (sym (ap is_service number) ∙ planned_number plan own p.planned.group p.group p.group_is)

  packet_reported : (f : Frame) (d s : ℕ) (p : Packet) → d < 256 → s < 256 → sent_of f ≡ packet_frame d s p
      → (is_claim f ≡ false) × (reports_of_addresses f ≡ false)
  packet_reported f d s p less_d less_s e =
      let number = ap (λ (x : Sent). x.identifier) e in
      let none = carries_none f 7 (group_of p) d s (packet_group p) less_d less_s number in
      let group = (sent_as f.ident 7 (group_of p) d s (packet_group p) less_d less_s number).group_is in
      (no_claim f none, unstated f (group_of p) none group (unlike_request p))

  pub message_reported : (w : World) (f : Frame) → IsOfMessages plan w (sent_of f) → (is_claim f ≡ false) × (reports_of_addresses f ≡ false)
  message_reported w f (d, s, less_d, less_s, inl (p, plain, e)) = packet_reported f d s p less_d less_s e
  message_reported w f (d, s, less_d, less_s, inr (k, flow, bytes, of, inr e)) =
      packet_reported f d s (sender.announcement (dest_of flow.to) flow.pgn (length bytes)) less_d less_s e
  message_reported w f (d, s, less_d, less_s, inr (k, flow, bytes, of, inl e)) =
      let at = of.flow_is in
      let number = ap (λ (x : Sent). x.identifier) e in
      let other = flow_other plan own k flow at in
      let none = carries_none f flow.priority flow.pgn d s other less_d less_s number in
      let group = (sent_as f.ident flow.priority flow.pgn d s other less_d less_s number).group_is in
      (no_claim f none, unstated f flow.pgn none group (flow_unlike k flow at))

  pub none_claim : (w : World) (frames : List Frame) → AllByRecursion (IsOfMessages plan w) (map sent_of frames)
      → AllByRecursion (λ (f : Frame). is_claim f ≡ false) frames
  none_claim w [] all = tt
  none_claim w (f ∷ frames) all = ((message_reported w f all.0).0, none_claim w frames all.1)

  -- ---- where units claimed last

  pub record IsHeardRight (w : World) : Type 0 where
    pub silent : (log : List Frame) → map sent_of log ≡ w.frames → (u : ℕ) → claims_at plan u ≡ false → newest_of u (claims_of plan [] log) ≡ None
    pub held : (log : List Frame) → map sent_of log ≡ w.frames → (u a : ℕ) → (w.stations u).on ≡ true → (w.stations u).address ≡ Some a
        → IsNewest u (claims_of plan [] log) a

  no_frames : (frames : List Frame) → map sent_of frames ≡ [] → frames ≡ []
  no_frames [] e = refl
  no_frames (f ∷ frames) e = absurd (cc e)

  one_frame : (frames : List Frame) (x : Sent) → map sent_of frames ≡ x ∷ [] → (f : Frame) × (frames ≡ f ∷ []) × (sent_of f ≡ x)
  one_frame [] x e = absurd (cc e)
  one_frame (f ∷ []) x e = (f, refl, cc)
  one_frame (f ∷ g ∷ frames) x e = absurd (cc e)

  two_frames : (frames : List Frame) (x y : Sent) → map sent_of frames ≡ x ∷ y ∷ []
      → (f : Frame) × (g : Frame) × (frames ≡ f ∷ g ∷ []) × (sent_of f ≡ x) × (sent_of g ≡ y)
  two_frames [] x y e = absurd (cc e)
  two_frames (f ∷ []) x y e = absurd (cc e)
  two_frames (f ∷ g ∷ []) x y e = (f, g, refl, cc, cc)
  two_frames (f ∷ g ∷ h ∷ frames) x y e = absurd (cc e)

  module _ (w new : World) (known : IsKnown plan w) (next : IsKnown plan new) (heard : IsHeardRight w) where
    -- behind those of the world there are these claims more
    behind : (log more : List Frame) (l : List Frame) → l ≡ log ++ more → claims_of plan [] l ≡ claims_of plan (claims_of plan [] log) more
    behind log more l row = ap (claims_of plan []) row ∙ claims_behind_those plan [] log more

    -- a unit's claim is the newest of it, and none of another's
    module _ (t : ℕ) (on : (new.stations t).on ≡ true) (f : Frame) (sent : sent_of f ≡ claim_frame plan new t) (old : List Heard) where
      its : (a : ℕ) × ((new.stations t).address ≡ Some a) × IsClaimAt t a f
      its = (let (a, address, fixed) = next.sound.holds t on in (a, address, claim_reported new next t a on address f sent))

      claims_then : claims_of plan old (f ∷ []) ≡ heard_of plan f ∷ old
      claims_then = ap (λ (b : Bool). cond b (heard_of plan f ∷ old) old) its.2.claim

      of_it : (a : ℕ) → (new.stations t).address ≡ Some a → IsNewest t (claims_of plan old (f ∷ [])) a
      of_it a address =
          let (b, there, is) = its in
          let same : f.ident.sa ≡ a = is.source ∙ same_Some b a (sym there ∙ address) in
          let at : is_at (heard_of plan f).unit t ≡ true = ap (λ (o : Option ℕ). is_at o t) is.unit_is ∙ eq-eqb t t refl in
          inr (ap (newest_of t) claims_then ∙ newest_here t (heard_of plan f) old at ∙ ap Some same)

      of_others : (x : ℕ) → x ≢ t → newest_of x (claims_of plan old (f ∷ [])) ≡ newest_of x old
      of_others x other =
          let (b, there, is) = its in
          let past : is_at (heard_of plan f).unit x ≡ false = ap (λ (o : Option ℕ). is_at o x) is.unit_is ∙ ne_eqb t x (λ e. other (sym e)) in
          ap (newest_of x) claims_then ∙ newest_past x (heard_of plan f) old past

    -- a step that sends messages
    sending_heard : (added : List Sent) → new.frames ≡ w.frames ++ added → IsSending plan w new added → IsHeardRight new
    sending_heard added is sends = record {
      silent = λ log e u never. (let (l, old, claims) = parts log e in ap (newest_of u) claims ∙ heard.silent l old u never);
      held = λ log e u a on address.
          let (l, old, claims) = parts log e in
          let same = sends.stations u on in
          subst (λ (c : List Heard). IsNewest u c a) (sym claims)
          (heard.held l old u a (sym (ap (λ (s : ClaimState). s.on) same) ∙ on) (sym (ap (λ (s : ClaimState). s.address) same) ∙ address));
    }
      where
        parts : (log : List Frame) → map sent_of log ≡ new.frames → (l : List Frame) × (map sent_of l ≡ w.frames)
            × (claims_of plan [] log ≡ claims_of plan [] l)
        parts log e =
            let s = split sent_of log w.frames added (e ∙ is) in (
              s.0,
              s.3,
              behind s.0 s.1 log s.2 ∙ no_claims plan (claims_of plan [] s.0) s.1
                  (none_claim w s.1 (subst (AllByRecursion (IsOfMessages plan w)) (sym s.4) sends.frames)),
            )

    -- one by which a unit reports of its address: of this it is enough what these claims are
    module _ (added : List Sent) (is : new.frames ≡ w.frames ++ added) (states : IsReporting plan w new added) where
      abbrev t : ℕ
      t = states.unit

      -- the claims of the frames more, behind the old ones
      abbrev IsRight : List Frame → List Heard → Type 0
      IsRight l claims = ((u : ℕ) → claims_at plan u ≡ false → newest_of u claims ≡ None)
          × ((u a : ℕ) → (new.stations u).on ≡ true → (new.stations u).address ≡ Some a → IsNewest u claims a)

      was : (x a : ℕ) → x ≢ t → (new.stations x).on ≡ true → (new.stations x).address ≡ Some a
          → ((w.stations x).on ≡ true) × ((w.stations x).address ≡ Some a)
      was x a other on address =
          let same = states.others x other in
          (sym (ap (λ (s : ClaimState). s.on) same) ∙ on, sym (ap (λ (s : ClaimState). s.address) same) ∙ address)

      with_claim_so : (l : List Frame) → map sent_of l ≡ w.frames → claims_at plan t ≡ true → (f : Frame) → sent_of f ≡ claim_frame plan new t
          → IsRight l (claims_of plan (claims_of plan [] l) (f ∷ []))
      with_claim_so l old claims f sent = (
        λ u never. elim (cases_eq u t) [
          | inl same ↦ absurd (true≢false (sym claims ∙ ap (claims_at plan) (sym same) ∙ never))
          | inr other ↦ of_others t states.on f sent (claims_of plan [] l) u other ∙ heard.silent l old u never
        ],
        λ u a on address. elim (cases_eq u t) [
          | inl same ↦
              let there : (new.stations t).address ≡ Some a = ap (λ (x : ℕ). (new.stations x).address) (sym same) ∙ address in
              subst (λ (x : ℕ). IsNewest x (claims_of plan (claims_of plan [] l) (f ∷ [])) a) (sym same)
              (of_it t states.on f sent (claims_of plan [] l) a there)
          | inr other ↦
              let before = was u a other on address in
              let past = of_others t states.on f sent (claims_of plan [] l) u other in
              elim (heard.held l old u a before.0 before.1) [
                | inl none ↦ inl (past ∙ none)
                | inr some ↦ inr (past ∙ some)
              ]
        ],
      )

      right : (l more : List Frame) → map sent_of l ≡ w.frames → map sent_of more ≡ added → IsRight l (claims_of plan (claims_of plan [] l) more)
      right l more old e = elim states.said [
        | inl (none, why) ↦
            let empty : more ≡ [] = no_frames more (e ∙ none) in
            subst (λ (m : List Frame). IsRight l (claims_of plan (claims_of plan [] l) m)) (sym empty) (
              λ u never. heard.silent l old u never,
              λ u a on address. elim (cases_eq u t) [
                | inr other ↦ (let before = was u a other on address in heard.held l old u a before.0 before.1)
                | inl same ↦ elim why [
                  | inl never ↦ inl (heard.silent l old u (ap (claims_at plan) same ∙ never))
                  | inr (was_on, kept) ↦
                      let there : (new.stations t).address ≡ Some a = ap (λ (x : ℕ). (new.stations x).address) (sym same) ∙ address in
                      subst (λ (x : ℕ). IsNewest x (claims_of plan [] l) a) (sym same) (heard.held l old t a was_on (sym kept ∙ there))
                ]
              ],
            )
        | inr (claims, inl one) ↦
            let (f, row, sent) = one_frame more (claim_frame plan new t) (e ∙ one) in
            subst (λ (m : List Frame). IsRight l (claims_of plan (claims_of plan [] l) m)) (sym row) (with_claim_so l old claims f sent)
        | inr (claims, inr (two, still)) ↦
            let (g, f, row, asks, sent) = two_frames more (request_frame plan new t) (claim_frame plan new t) (e ∙ two) in
            let other = (request_reported new next t g asks).0 in
            let past : claims_of plan (claims_of plan [] l) (g ∷ f ∷ []) ≡ claims_of plan (claims_of plan [] l) (f ∷ []) =
            ap (λ (b : Bool). claims_of plan (cond b (heard_of plan g ∷ claims_of plan [] l) (claims_of plan [] l)) (f ∷ [])) other in
            subst (λ (m : List Frame). IsRight l (claims_of plan (claims_of plan [] l) m)) (sym row)
            (subst (IsRight l) (sym past) (with_claim_so l old claims f sent))
      ]

      reporting_heard : IsHeardRight new
      reporting_heard = record {
        silent = λ log e u never.
            let s = split sent_of log w.frames added (e ∙ is) in
            ap (newest_of u) (behind s.0 s.1 log s.2) ∙ (right s.0 s.1 s.3 s.4).0 u never;
        held = λ log e u a on address.
            let s = split sent_of log w.frames added (e ∙ is) in
            subst (λ (c : List Heard). IsNewest u c a) (sym (behind s.0 s.1 log s.2)) ((right s.0 s.1 s.3 s.4).1 u a on address);
      }

    pub heard_next : IsOneStep plan w new → IsHeardRight new
    heard_next (added, is, inl states) = reporting_heard added is states
    heard_next (added, is, inr sends) = sending_heard added is sends
