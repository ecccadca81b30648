-- The frame that a step sends of a message in one frame, and its number.
use Rattle.std.proofs.Common.{◌≡◌, ℕ, suc, ◌<◌, ◌==◌, ◌&&◌, true, false, Bool, List, [], ◌∷◌, ◌++◌, length}
use Rattle.std.proofs.Common.{Option, Some, None, inl, inr, refl, sym, ap, subst, ◌∙◌, arith, get_or, eqb-true, if◌then◌else◌}
use Rattle.std.specs.List.{Contains, list_any, slice_get}
use Rattle.std.proofs.lemmas.Bool.{and_parts, cases_Bool, false_from_ne_true, not-false, or_cases, true≢false}
use Rattle.std.proofs.lemmas.Bool.Decides.{not_from_Decides}
use Rattle.std.proofs.lemmas.List.{append-nil, append_cancel_left}
use Rattle.std.proofs.lemmas.Option.{get_or_from_slice_get, slice_get-get_or, slice_get_within}
use Rattle.j39_id.specs.Ident.{pgn_of}
use Rattle.j39_id.specs.Pgn.{is_pgn}
use Rattle.j39_id.specs.Services.{address_claimed, is_service, request, service_groups}
use Rattle.j39_id.specs.declared.frame.Frame.{Frame}
use Rattle.j39_findings.proofs.Deciding.{Decides-is_pgn}
use Rattle.j39_findings.specs.Findings.{Clean, IsForNoPlan}
use Rattle.j39_findings.specs.declared.checking.finding.Finding.TheVariants.{BadPgn}
use Rattle.j39_network.specs.declared.plan.Plan.{Plan}
use Rattle.j39_network.specs.declared.plan.group_plan.GroupPlan.{GroupPlan}
use Rattle.j39_network.specs.declared.plan.to.To.{To}
use Rattle.j39_network.specs.declared.plan.to.To.TheVariants.{All as ToAll, One as ToOne}
use Rattle.j39_id.specs.FrameMeaning.{carries_name, requests_group}
use Rattle.j39_tp.specs.Sender as sender
use Rattle.j39_world.proofs.Refusals.{none_hold}
use Rattle.j39_signal.specs.Selectors.{is_selected}
use Rattle.j39_world.specs.Flows.{dest_of, has_length, is_short}
use Rattle.j39_world.specs.Run.{begin_refusal, begin_refusals, send_refusal, send_refusals, count_of}
use Rattle.j39_world.specs.Sent.{Sent, sent_of}
use Rattle.j39_world.specs.SentTransfers.{address_of, destination_of, group_of, packet_frame, short_frame}
use Rattle.j39_world.specs.TransferSteps.{BeginsAt, SendsAt, first_frame}
use Rattle.j39_world.specs.World.{World}
use Rattle.j39_world.specs.declared.flow.Flow.{Flow}
use Rattle.j39_log_laws.specs.Between.{IsSentBehind, IsTransport, reports_of_addresses}
use Rattle.j39_log_laws.specs.HolderReports.{HaveOwnNumbers}
use Rattle.j39_log_laws.proofs.Between.{transports}
use Rattle.j39_log_laws.proofs.Identifiers.{sent_as}
use Rattle.j39_log_laws.proofs.Standing.{source_below}
use Rattle.j39_log_laws.proofs.HolderReports.{AreReported, packet_group}

-- ---- the frame that a step sends

pub no_row : {A : Type 0} (front : List A) (x : A) (back : List A) → front ++ x ∷ back ≡ [] → ⊥
no_row [] x back e = cc
no_row (y ∷ front) x back e = cc

pub single : (earlier later : List Sent) (y x : Sent) → earlier ++ y ∷ later ≡ x ∷ [] → y ≡ x
single [] later y x e = cc
single (z ∷ earlier) later y x e =
    let tail : earlier ++ y ∷ later ≡ [] = cc in
    absurd (no_row earlier y later tail)

pub the_frame : (w after : World) (log : List Frame) (f : Frame) → IsSentBehind w after log f → (x : Sent) → after.frames ≡ w.frames ++ x ∷ []
    → sent_of f ≡ x
the_frame w after log f sent x is =
    single sent.earlier sent.later (sent_of f) x
    (append_cancel_left w.frames (sent.earlier ++ sent_of f ∷ sent.later) (x ∷ []) (sym sent.sent ∙ is))

pub not_sent : (w after : World) (log : List Frame) (f : Frame) → IsSentBehind w after log f → after ≡ w → ⊥
not_sent w after log f sent same =
    no_row sent.earlier (sent_of f) sent.later
    (append_cancel_left w.frames (sent.earlier ++ sent_of f ∷ sent.later) []
    (sym sent.sent ∙ ap (λ (x : World). x.frames) same ∙ sym (append-nil w.frames)))

-- the bytes of a message that a flow may have, and that its group's selector takes, in one frame
pub record IsInFrame (flow : Flow) (bytes : List ℕ) (f : Frame) : Type 0 where
  pub payload : f.payload.items ≡ bytes
  pub allowed : has_length flow (length bytes) ≡ true
  pub selected : is_selected flow.when bytes ≡ true
  pub short : is_short (length bytes) ≡ true

module _ (plan : Plan) (w : World) (stated : AreReported plan w) where
  pub below : (u : ℕ) → address_of w.stations u < 256
  below u = source_below (w.stations u) (stated.standing.1 u)

  pub destination_below : (to : To) → destination_of w.stations to < 256
  destination_below ToAll = omega arith
  destination_below (ToOne v) = below v

  -- one that is no transport frame is the whole message
  pub whole_message : (flow : Flow) (bytes : List ℕ) (f : Frame) → sent_of f ≡ first_frame w.stations flow bytes → ¬ IsTransport (pgn_of f.ident)
      → (f.payload.items ≡ bytes) × (is_short (length bytes) ≡ true)
  whole_message flow bytes f is other =
      let d : ℕ = destination_of w.stations flow.to in
      let s : ℕ = address_of w.stations flow.sender in
      let p = sender.announcement (dest_of flow.to) flow.pgn (length bytes) in
      let either : Bool → Sent = λ b. if b then short_frame d s flow bytes else packet_frame d s p in
      elim (cases_Bool (is_short (length bytes))) [
        | inl short ↦
            let e : sent_of f ≡ short_frame d s flow bytes = is ∙ ap either short in
            (ap (λ (x : Sent). x.payload) e, short)
        | inr long ↦
            let e : sent_of f ≡ packet_frame d s p = is ∙ ap either long in
            let i = sent_as f.ident 7 (group_of p) d s (packet_group p) (destination_below flow.to) (below flow.sender) (ap (λ (x : Sent). x.identifier) e) in
            absurd (other (subst IsTransport (sym i.group_is) (transports p)))
      ]

  pub begun : (k : ℕ) (bytes : List ℕ) (o : Option Flow) → begin_refusal plan.live (count_of plan) w o bytes ≡ None → (after : World)
      → BeginsAt (count_of plan) w k o bytes after → (log : List Frame) (f : Frame) → IsSentBehind w after log f → ¬ IsTransport (pgn_of f.ident)
      → (flow : Flow) × (o ≡ Some flow) × IsInFrame flow bytes f
  begun k bytes None allowed after never log f sent other = absurd never
  begun k bytes (Some flow) allowed after e log f sent other =
      let (sendable, (on, (heard, (address, (free, (long, (taken, rest))))))) = none_hold
      (begin_refusals plan.live (count_of plan) w (Some flow) bytes) allowed in
      let frame = the_frame w after log f sent (first_frame w.stations flow bytes) (ap (λ (x : World). x.frames) e) in
      let whole = whole_message flow bytes f frame other in
      (flow, refl, record { payload = whole.0; allowed = not-false _ long; selected = not-false _ taken; short = whole.1 })

  pub sent_alone : (k : ℕ) (bytes : List ℕ) (o : Option Flow) → send_refusal plan.live (count_of plan) w o bytes ≡ None → (after : World)
      → SendsAt (count_of plan) w k o bytes after → (log : List Frame) (f : Frame) → IsSentBehind w after log f
      → (flow : Flow) × (o ≡ Some flow) × IsInFrame flow bytes f
  sent_alone k bytes None allowed after never log f sent = absurd never
  sent_alone k bytes (Some flow) allowed after e log f sent =
      let (sendable, (on, (heard, (address, (free, (long, (taken, rest))))))) = none_hold
      (send_refusals plan.live (count_of plan) w (Some flow) bytes) allowed in
      let d : ℕ = destination_of w.stations flow.to in
      let s : ℕ = address_of w.stations flow.sender in
      let frame = the_frame w after log f sent (short_frame d s flow bytes) (ap (λ (x : World). x.frames) e) in
      let parts = and_parts (has_length flow (length bytes)) (is_short (length bytes)) (not-false _ long) in (
        flow,
        refl,
        record {
          payload = ap (λ (x : Sent). x.payload) frame;
          allowed = parts.0;
          selected = not-false _ taken;
          short = parts.1;
        },
      )

-- ---- numbers that are planned

pub planned_number : (plan : Plan) → HaveOwnNumbers plan → (g : ℕ) (group : GroupPlan) → slice_get plan.groups.items g ≡ Some group
    → is_service group.pgn ≡ false
planned_number plan own g group at =
    let valid = own g group (slice_get_within plan.groups.items g group at) in
    let is : get_or plan.groups.items g group ≡ group = get_or_from_slice_get plan.groups.items g group group at in
    (subst (λ (x : GroupPlan). (is_pgn x.pgn ≡ true) × (is_service x.pgn ≡ false)) is valid).1

pub contained : (n : ℕ) (xs : List ℕ) → list_any (λ (x : ℕ). x == n) xs ≡ true → Contains xs n
contained n [] e = absurd (true≢false (sym e))
contained n (x ∷ xs) e = elim (or_cases (x == n) (list_any (λ (y : ℕ). y == n) xs) e) [
  | inl same ↦ (0, omega arith, eqb-true x n same)
  | inr more ↦ (let (k, less, is) = contained n xs more in (suc k, omega (arith, less), is))
]

-- a plan without findings plans none of the network's own numbers
pub own_numbers : (plan : Plan) → Clean plan → HaveOwnNumbers plan
own_numbers plan clean k d less =
    let number : ℕ = (get_or plan.groups.items k d).pgn in
    let fine : ¬ IsForNoPlan number =
    λ bad. clean (BadPgn k) (record { value = get_or plan.groups.items k d; value_is = slice_get-get_or plan.groups.items k d less; meets = inl bad }) in (
      elim (cases_Bool (is_pgn number)) [
        | inl is ↦ is
        | inr e ↦ absurd (fine (inl (not_from_Decides (is_pgn number) (Decides-is_pgn number) e)))
      ],
      false_from_ne_true (is_service number) (λ e. fine (inr (inr (contained number service_groups e)))),
    )

pub no_transport : (n : ℕ) → is_service n ≡ false → ¬ IsTransport n
no_transport n own (inl e) = true≢false (sym (ap is_service e) ∙ own)
no_transport n own (inr e) = true≢false (sym (ap is_service e) ∙ own)

pub holds_nothing : (f : Frame) → is_service (pgn_of f.ident) ≡ false → reports_of_addresses f ≡ false
holds_nothing f own =
    false_from_ne_true (reports_of_addresses f) (λ are_reported.
    elim (or_cases (carries_name f) (requests_group f) are_reported) [
      | inl name ↦
          let number = (and_parts (pgn_of f.ident == address_claimed) (length f.payload.items == 8)
          (and_parts (f.ident.edp == 0) (pgn_of f.ident == address_claimed && length f.payload.items == 8) name).1).0 in
          true≢false (sym (ap is_service (eqb-true (pgn_of f.ident) address_claimed number)) ∙ own)
      | inr asks ↦
          let number = (and_parts (pgn_of f.ident == request) (length f.payload.items == 3)
          (and_parts (f.ident.edp == 0) (pgn_of f.ident == request && length f.payload.items == 3) asks).1).0 in
          true≢false (sym (ap is_service (eqb-true (pgn_of f.ident) request number)) ∙ own)
    ])
