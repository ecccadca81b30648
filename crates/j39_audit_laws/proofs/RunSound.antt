-- In each world of each run of a plan without findings, each frame that was sent is sound behind those before it.
use Rattle.std.proofs.Common.{◌≡◌, ◌≢◌, ◌⊎◌, ℕ, ◌<◌, ◌++◌, ◌∷◌, [], List, true, false, length, map}
use Rattle.std.proofs.Common.{inl, inr, refl, sym, ap, ◌∙◌, subst, arith, Option, Some, None}
use Rattle.std.specs.List.{AllByRecursion}
use Rattle.std.proofs.lemmas.Bool.{ltb-true}
use Rattle.std.proofs.lemmas.List.{append-nil}
use Rattle.j39_id.specs.Services.{connection_management, request}
use Rattle.j39_id.specs.declared.frame.Frame.{Frame}
use Rattle.j39_findings.specs.Findings.{Clean}
use Rattle.j39_network.specs.declared.plan.Plan.{Plan}
use Rattle.j39_network.specs.declared.steps.Step.{Step}
use Rattle.j39_world.specs.Run.{StepsTo, count_of, refusal}
use Rattle.j39_world.specs.Sent.{Sent, sent_of, source_of}
use Rattle.j39_world.specs.SoundPlan.{Always}
use Rattle.j39_world.specs.World.{Stations, World, all_off}
use Rattle.j39_claim.specs.ClaimRule.{ClaimState}
use Rattle.j39_run_laws.proofs.Runs.Always.{always_with, leads_to_follows}
use Rattle.j39_run_laws.proofs.Runs.Conditions.{is_unit}
use Rattle.j39_log_laws.specs.Between.{IsSentBehind, reports_of_addresses}
use Rattle.j39_log_laws.proofs.Identifiers.{sent_as}
use Rattle.j39_log_laws.proofs.HolderReports.{flow_other, packet_group}
use Rattle.j39_tp.specs.Sender as sender
use Rattle.j39_tp.specs.declared.packet.Packet.{Packet}
use Rattle.j39_world.specs.Flows.{dest_of}
use Rattle.j39_world.specs.SentTransfers.{group_of}
use Rattle.j39_audit_laws.proofs.RunMessages.{announced_planned, other_none, plain_none, short_planned}
use Rattle.j39_log_laws.proofs.Logged.{place}
use Rattle.j39_log_laws.proofs.Logs.{split}
use Rattle.j39_log_laws.proofs.SentFrames.{no_row, single}
use Rattle.j39_audit.specs.Claiming.{Heard, Knowledge, newest_of}
use Rattle.j39_audit.specs.Looking.{IsPacketOf, is_single, message_sent}
use Rattle.j39_audit.specs.SentMessages.{SentMessage}
use Rattle.j39_audit_laws.specs.OwnPart.{IsItsAddress, IsOfFlowPlanned}
use Rattle.j39_audit_laws.proofs.RunFrames.{IsNewest, IsSoundFrame, claims_behind_those, claims_of, no_claims, none_newest}
use Rattle.j39_audit_laws.proofs.RunKept.{IsHeardRight, IsKnown, IsKnownOn, all_known_on, claim_reported, claims_so, heard_next, its_own, message_reported}
use Rattle.j39_audit_laws.proofs.RunKept.{none_claim, own, request_reported}
use Rattle.j39_audit_laws.proofs.RunSteps.{IsOfMessages, IsOneStep, IsSending, IsReporting, claim_frame, claims_at, one_step, request_frame}

-- ---- where a frame stands

all_parts : (P : Sent → Type 0) (xs : List Sent) (y : Sent) (ys : List Sent) → AllByRecursion P (xs ++ y ∷ ys) → AllByRecursion P xs × P y
all_parts P [] y ys all = (tt, all.0)
all_parts P (x ∷ xs) y ys all = let more = all_parts P xs y ys all.1 in ((all.0, more.0), more.1)

of_two : (earlier later : List Sent) (z x y : Sent) → earlier ++ z ∷ later ≡ x ∷ y ∷ [] → ((earlier ≡ []) × (z ≡ x)) ⊎ (z ≡ y)
of_two [] later z x y e = inl (refl, cc)
of_two (u ∷ earlier) later z x y e =
    let tail : earlier ++ z ∷ later ≡ y ∷ [] = cc in
    inr (single earlier later z y tail)

module _ (plan : Plan) (clean : Clean plan) where
  -- each frame that was sent so far
  abbrev pub AreSoundFrames : World → Type 0
  AreSoundFrames w = (before : List Frame) (f : Frame) (behind : List Frame) → map sent_of (before ++ f ∷ behind) ≡ w.frames → IsSoundFrame plan before f

  module _ (w new : World) (known : IsKnown plan w) (next : IsKnown plan new) (heard : IsHeardRight plan clean w) (step : Step)
      (allowed : refusal plan w step ≡ None) (leads : StepsTo plan w step new) where
    -- each message of the frame, as one of the unit, is of a flow
    abbrev IsPlannedBy : ℕ → Frame → Type 0
    IsPlannedBy u f = (packet : Option Packet) (m : SentMessage) → IsPacketOf f packet → message_sent u f packet ≡ Some m → (k : Knowledge)
        → IsOfFlowPlanned plan k m

    inside : (u : ℕ) → is_unit plan u ≡ true → u < length plan.units.items
    inside u unit = ltb-true u (count_of plan) unit

    -- a message's
    message_sound : (added : List Sent) → new.frames ≡ w.frames ++ added → IsSending plan w new added → (before : List Frame) (f : Frame)
        (earlier later : List Sent) → map sent_of before ≡ w.frames ++ earlier → added ≡ earlier ++ sent_of f ∷ later → IsSoundFrame plan before f
    message_sound added is sends before f earlier later log_is at =
        let parts = all_parts (IsOfMessages plan w) earlier (sent_of f) later (subst (AllByRecursion (IsOfMessages plan w)) at sends.frames) in
        let unstated = message_reported plan clean w f parts.1 in
        let sent : IsSentBehind w new before f =
        record { earlier = earlier; later = later; log_is = log_is; sent = is ∙ ap (λ (x : List Sent). w.frames ++ x) at } in
        let s = split sent_of before w.frames earlier log_is in
        let claims : claims_of plan [] before ≡ claims_of plan [] s.0 =
        ap (claims_of plan []) s.2 ∙ claims_behind_those plan [] s.0 s.1
        ∙ no_claims plan (claims_of plan [] s.0) s.1 (none_claim plan clean w s.1 (subst (AllByRecursion (IsOfMessages plan w)) (sym s.4) parts.0)) in
        let from : (u : ℕ) → (w.stations u).on ≡ true → (w.stations u).address ≡ Some f.ident.sa → IsPlannedBy u f → IsSoundFrame plan before f =
        λ u on address planned. inr (
          unstated.0,
          λ _. record {
            unit = u;
            inside = inside u (known.stated.standing.0 u on);
            own = its_own plan clean w known u f.ident.sa on address;
            newest = subst (λ (c : List Heard). IsNewest u c f.ident.sa) (sym claims) (heard.held s.0 s.3 u f.ident.sa on address);
            planned = planned;
          },
        ) in
        by_kind before f sent unstated.1 parts.1 from
      where
        by_kind : (before : List Frame) (f : Frame) → IsSentBehind w new before f → reports_of_addresses f ≡ false → IsOfMessages plan w (sent_of f)
            → ((u : ℕ) → (w.stations u).on ≡ true → (w.stations u).address ≡ Some f.ident.sa → IsPlannedBy u f → IsSoundFrame plan before f)
            → IsSoundFrame plan before f
        by_kind before f sent unstated (d, s, less_d, less_s, inl (p, plain, e)) from =
            let (u, to, by, group, source, goes) = known.go step new before f (leads_to_follows plan w step allowed new leads) sent unstated in
            from u source.on source.holds (λ packet m is sends l. absurd (plain_none f d s p plain less_d less_s e u packet m is sends))
        by_kind before f sent unstated (d, s, less_d, less_s, inr (k, flow, bytes, of, inl e)) from =
            let ident = sent_as f.ident flow.priority flow.pgn d s (flow_other plan (own plan clean) k flow of.flow_is) less_d less_s
            (ap (λ (x : Sent). x.identifier) e) in
            from flow.sender of.on (of.held ∙ ap Some (sym ident.source_is)) (short_planned plan clean w known d s k flow bytes of less_d less_s f e)
        by_kind before f sent unstated (d, s, less_d, less_s, inr (k, flow, bytes, of, inr e)) from =
            let p : Packet = sender.announcement (dest_of flow.to) flow.pgn (length bytes) in
            let ident = sent_as f.ident 7 (group_of p) d s (packet_group p) less_d less_s (ap (λ (x : Sent). x.identifier) e) in
            from flow.sender of.on (of.held ∙ ap Some (sym ident.source_is)) (announced_planned plan clean w known d s k flow bytes of less_d less_s f e)

    -- a claim
    claim_sound : (t : ℕ) → is_unit plan t ≡ true → (new.stations t).on ≡ true → claims_at plan t ≡ true
        → (before : List Frame) (f : Frame) → sent_of f ≡ claim_frame plan new t → IsSoundFrame plan before f
    claim_sound t unit on claims before f sent =
        let (a, address, fixed) = next.sound.holds t on in
        let is = claim_reported plan clean new next t a on address f sent in
        let less = next.stated.standing.1 t a address in
        let source = is.source in
        inl (
          is.claim,
          record {
            unit = t;
            unit_is = is.unit_is;
            some = λ null. absurd (omega (arith, null, source, less));
            claims = claims_so plan clean t unit claims;
            own = subst (IsItsAddress plan t) (sym is.source) (its_own plan clean new next t a on address);
          },
        )

    unlike_management : request ≢ connection_management
    unlike_management e = (let never : 59904 ≡ 60416 = e in absurd (omega (arith, never)))

    -- a request for claims
    request_sound : (t : ℕ) → is_unit plan t ≡ true → (new.stations t).on ≡ true → new.stations ≡ w.stations → (before : List Frame) (f : Frame)
        → map sent_of before ≡ w.frames → sent_of f ≡ request_frame plan new t → IsSoundFrame plan before f
    request_sound t unit on still before f log_is sent =
        let (a, address, fixed) = next.sound.holds t on in
        let is = request_reported plan clean new next t f sent in
        let at : a ≡ f.ident.sa = sym (is.1 ∙ ap source_of address) in
        let was : w.stations t ≡ new.stations t = ap (λ (x : Stations). x t) (sym still) in
        inr (
          is.0,
          λ _. record {
            unit = t;
            inside = inside t unit;
            own = subst (IsItsAddress plan t) at (its_own plan clean new next t a on address);
            newest = subst (IsNewest t (claims_of plan [] before)) at
                (heard.held before log_is t a (ap (λ (s : ClaimState). s.on) was ∙ on) (ap (λ (s : ClaimState). s.address) was ∙ address));
            planned = λ packet m packet_is sends k.
                absurd (other_none f (ap is_single is.2) (λ e. unlike_management (sym is.2 ∙ e)) t packet m packet_is sends);
          },
        )

    reporting_sound : (added : List Sent) → IsReporting plan w new added → (before : List Frame) (f : Frame) (earlier later : List Sent)
        → map sent_of before ≡ w.frames ++ earlier → added ≡ earlier ++ sent_of f ∷ later → IsSoundFrame plan before f
    reporting_sound added states before f earlier later log_is at = elim states.said [
      | inl (none, why) ↦ absurd (no_row earlier (sent_of f) later (sym at ∙ none))
      | inr (claims, inl one) ↦
          claim_sound states.unit states.known states.on claims before f (single earlier later (sent_of f) (claim_frame plan new states.unit) (sym at ∙ one))
      | inr (claims, inr (two, still)) ↦
          elim (of_two earlier later (sent_of f) (request_frame plan new states.unit) (claim_frame plan new states.unit) (sym at ∙ two)) [
            | inl (first, asks) ↦
                let log : map sent_of before ≡ w.frames = log_is ∙ ap (λ (x : List Sent). w.frames ++ x) first ∙ append-nil w.frames in
                request_sound states.unit states.known states.on still before f log asks
            | inr claim ↦ claim_sound states.unit states.known states.on claims before f claim
          ]
    ]

    next_sound : AreSoundFrames w → IsOneStep plan w new → AreSoundFrames new
    next_sound sound (added, is, kind) before f behind e = elim (place w.frames added before f behind (e ∙ is)) [
      | inl (front, here) ↦ sound before f front here
      | inr (earlier, later, log_is, at) ↦ elim kind [
        | inl states ↦ reporting_sound added states before f earlier later log_is at
        | inr sends ↦ message_sound added is sends before f earlier later log_is at
      ]
    ]

  -- ---- in each world

  abbrev IsGood : World → Type 0
  IsGood w = IsHeardRight plan clean w × AreSoundFrames w

  good_next : (w : World) → IsKnownOn plan clean w → IsGood w → (step : Step) → refusal plan w step ≡ None → (new : World) → StepsTo plan w step new
      → IsGood new
  good_next w known good step allowed new leads =
      let next = known.1 step allowed new leads in
      let one = one_step plan w known.0.stated.standing step allowed new leads in (
        heard_next plan clean w new known.0 next good.0 one,
        next_sound w new known.0 next good.0 step allowed leads good.1 one,
      )

  good_at_first : IsGood all_off
  good_at_first = (
    record {
      silent = λ log e u never. ap (λ (l : List Frame). newest_of u (claims_of plan [] l)) (none_sent log e) ∙ none_newest u;
      held = λ log e u a on address. inl (ap (λ (l : List Frame). newest_of u (claims_of plan [] l)) (none_sent log e) ∙ none_newest u);
    },
    λ before f behind e. absurd (none_there before f behind e),
  )
    where
      none_sent : (log : List Frame) → map sent_of log ≡ [] → log ≡ []
      none_sent [] e = refl
      none_sent (f ∷ log) e = absurd (cc e)

      none_there : (before : List Frame) (f : Frame) (behind : List Frame) → map sent_of (before ++ f ∷ behind) ≡ [] → ⊥
      none_there [] f behind e = cc e
      none_there (g ∷ before) f behind e = cc e

  pub all_sound : Always plan AreSoundFrames
  all_sound steps w run = (always_with plan (IsKnownOn plan clean) IsGood (all_known_on plan clean) good_next good_at_first steps w run).1
