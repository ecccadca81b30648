-- What the messages of a run are by the plan: of flows of their senders, that go where the flows go.
use Rattle.std.proofs.Common.{◌≡◌, ◌≢◌, ◌⊎◌, ℕ, ◌+◌, ◌*◌, ◌/◌, ◌%◌, ◌^◌, ◌<◌, ◌≤◌, nat_le, List, Bool, true, false, length, if◌then◌else◌}
use Rattle.std.proofs.Common.{cond, inl, inr, refl, sym, ap, ◌∙◌, subst, arith, Option, Some, None}
use Rattle.std.specs.Prelude.{slice_index}
use Rattle.std.proofs.lemmas.Bool.{and_parts, cases_Bool, leb-true, true≢false}
use Rattle.std.proofs.lemmas.Option.{none-some, same_Some}
use Rattle.j39_id.specs.Ident.{bits, identifier_of, pgn_of}
use Rattle.j39_id.specs.Pgn.{is_pdu2}
use Rattle.j39_id.specs.Services.{connection_management, is_service}
use Rattle.j39_id.specs.declared.frame.Frame.{Frame}
use Rattle.j39_id.specs.declared.ident.Ident.{Ident}
use Rattle.j39_signal.specs.Selectors.{is_selected}
use Rattle.j39_network.specs.declared.plan.Plan.{Plan}
use Rattle.j39_network.specs.declared.plan.to.To.{To}
use Rattle.j39_network.specs.declared.plan.to.To.TheVariants.{All as ToAll, One as ToOne}
use Rattle.j39_tp.proofs.Answering.{IsNoAnnouncement}
use Rattle.j39_tp.specs.Packets.{data_of, pgn_in, size_in}
use Rattle.j39_tp.specs.Sender as sender
use Rattle.j39_tp.specs.declared.packet.Packet.{Packet}
use Rattle.j39_tp.specs.declared.packet.Packet.TheVariants.{Rts, Cts, EndAck, Bam, Abort, Dt}
use Rattle.j39_tp.specs.declared.sending.dest.Dest.{Dest}
use Rattle.j39_tp.specs.declared.sending.dest.Dest.TheVariants as dests
use Rattle.j39_findings.specs.Findings.{Clean}
use Rattle.j39_world.specs.Flows.{dest_of}
use Rattle.j39_world.specs.Sent.{Sent, sent_of}
use Rattle.j39_world.specs.SentTransfers.{group_of, packet_frame, short_frame}
use Rattle.j39_world.specs.World.{World}
use Rattle.j39_world.specs.declared.flow.Flow.{Flow}
use Rattle.j39_log_laws.proofs.Identifiers.{IsOther, IsSentAs, sent_as}
use Rattle.j39_log_laws.proofs.SentFrames.{no_transport, planned_number}
use Rattle.j39_log_laws.proofs.HolderReports.{flow_other, packet_group}
use Rattle.j39_audit.specs.Claiming.{Knowledge}
use Rattle.j39_audit.specs.Looking.{IsPacketOf, announced_by, announced_message, goes_to_another, is_single, message_sent, single}
use Rattle.j39_audit.specs.SentMessages.{SentMessage}
use Rattle.j39_audit_laws.specs.OwnPart.{GoesAsPlanned, IsItsAddress, IsOfFlowPlanned}
use Rattle.j39_audit_laws.proofs.RunKept.{IsKnown, flow_planned, its_own, own}
use Rattle.j39_audit_laws.proofs.RunSteps.{IsHeldBy, IsMessageOf}

-- ---- identifiers

pub priority_as : (i : Ident) (priority pgn destination source : ℕ) → IsOther pgn → destination < 256 → source < 256
    → bits i ≡ identifier_of priority pgn destination source → i.priority ≡ priority
priority_as i priority pgn destination source other d s number =
    let a = i.priority_range in let b = i.edp_range in let c = i.dp_range in let e = i.pf_range in let f = i.ps_range in let g = i.sa_range in
    let range = other.range in
    elim (cases_Bool (is_pdu2 pgn)) [
      | inl two ↦
          let sum : bits i ≡ priority * 2 ^ 26 + pgn * 2 ^ 8 + 0 + source =
          number ∙ ap (λ (x : Bool). priority * 2 ^ 26 + pgn * 2 ^ 8 + (if x then 0 else destination * 2 ^ 8) + source) two in
          omega (arith, sum, s)
      | inr one ↦
          let sum : bits i ≡ priority * 2 ^ 26 + pgn * 2 ^ 8 + destination * 2 ^ 8 + source =
          number ∙ ap (λ (x : Bool). priority * 2 ^ 26 + pgn * 2 ^ 8 + (if x then 0 else destination * 2 ^ 8) + source) one in
          let low = other.low one in
          omega (arith, sum, low, s, d)
    ]

-- ---- announcements

-- the bytes are those of an announcement of a message of this size and number
pub record Announces (bytes : List ℕ) (size number : ℕ) : Type 0 where
  pub control : (slice_index bytes 0 ≡ 16) ⊎ (slice_index bytes 0 ≡ 32)
  pub size_is : size_in bytes ≡ size
  pub number_is : pgn_in bytes ≡ number

-- the frame announces the message
pub record IsAnnouncement (u : ℕ) (f : Frame) (m : SentMessage) : Type 0 where
  pub size : ℕ
  pub number : ℕ
  pub management : pgn_of f.ident ≡ connection_management
  pub announces : Announces f.payload.items size number
  pub message_is : announced_message u f size number ≡ m

if_some : (b : Bool) (x m : SentMessage) → cond b (Some x) None ≡ Some m → x ≡ m
if_some true x m e = same_Some x m e
if_some false x m e = absurd (none-some m e)

pub announced : (u : ℕ) (f : Frame) (packet : Option Packet) (m : SentMessage) → IsPacketOf f packet → announced_by u f packet ≡ Some m
    → IsAnnouncement u f m
announced u f (Some (Rts size limit n)) m (inl (management, reads, to)) e =
    let (control, gives, limit_is, number) = reads.fields in
    record {
      size = size;
      number = n;
      management = management;
      announces = record { control = inl control; size_is = gives.size_is; number_is = number };
      message_is = if_some (goes_to_another f) (announced_message u f size n) m e;
    }
announced u f (Some (Bam size n)) m (inl (management, reads, to)) e =
    let (control, gives, number) = reads.fields in
    record {
      size = size;
      number = n;
      management = management;
      announces = record { control = inr control; size_is = gives.size_is; number_is = number };
      message_is = same_Some (announced_message u f size n) m e;
    }
announced u f (Some (Rts size limit n)) m (inr (data_is, reads)) e = absurd reads.fields
announced u f (Some (Bam size n)) m (inr (data_is, reads)) e = absurd reads.fields
announced u f (Some (Cts count first n)) m is e = absurd (none-some m e)
announced u f (Some (EndAck size n)) m is e = absurd (none-some m e)
announced u f (Some (Abort reason n)) m is e = absurd (none-some m e)
announced u f (Some (Dt number chunk)) m is e = absurd (none-some m e)
announced u f None m is e = absurd (none-some m e)

-- the message that is sent is the frame, or announced by it
pub sent_message : (u : ℕ) (f : Frame) (packet : Option Packet) (m : SentMessage) → IsPacketOf f packet → message_sent u f packet ≡ Some m
    → ((is_single (pgn_of f.ident) ≡ true) × (single u f ≡ m)) ⊎ IsAnnouncement u f m
sent_message u f packet m is e =
    elim (is_single (pgn_of f.ident)) as (λ b. is_single (pgn_of f.ident) ≡ b → (if b then Some (single u f) else announced_by u f packet) ≡ Some m
    → ((is_single (pgn_of f.ident) ≡ true) × (single u f ≡ m)) ⊎ IsAnnouncement u f m) [
      | true ↦ λ one same. inl (one, same_Some (single u f) m same)
      | false ↦ λ _ same. inr (announced u f packet m is same)
    ] refl e

-- ---- packets that announce nothing

plain_bytes : (p : Packet) → IsNoAnnouncement p → group_of p ≡ connection_management → (size number : ℕ) → ¬ Announces (data_of p) size number
plain_bytes (Rts size limit n) plain group s number is = plain
plain_bytes (Bam size n) plain group s number is = plain
plain_bytes (Cts count first n) plain group s number is = elim is.control [ inl e ↦ absurd (omega (arith, e)) | inr e ↦ absurd (omega (arith, e)) ]
plain_bytes (EndAck size n) plain group s number is = elim is.control [ inl e ↦ absurd (omega (arith, e)) | inr e ↦ absurd (omega (arith, e)) ]
plain_bytes (Abort reason n) plain group s number is = elim is.control [ inl e ↦ absurd (omega (arith, e)) | inr e ↦ absurd (omega (arith, e)) ]
plain_bytes (Dt n chunk) plain group s number is = (let never : 60160 ≡ 60416 = group in absurd (omega (arith, never)))

not_single : (p : Packet) → is_single (group_of p) ≡ false
not_single (Rts size limit n) = refl
not_single (Cts count first n) = refl
not_single (EndAck size n) = refl
not_single (Bam size n) = refl
not_single (Abort reason n) = refl
not_single (Dt n chunk) = refl

pub plain_none : (f : Frame) (d s : ℕ) (p : Packet) → IsNoAnnouncement p → d < 256 → s < 256 → sent_of f ≡ packet_frame d s p
    → (u : ℕ) (packet : Option Packet) (m : SentMessage) → IsPacketOf f packet → message_sent u f packet ≢ Some m
plain_none f d s p plain less_d less_s e u packet m is sent =
    let group = (sent_as f.ident 7 (group_of p) d s (packet_group p) less_d less_s (ap (λ (x : Sent). x.identifier) e)).group_is in
    elim (sent_message u f packet m is sent) [
      | inl one ↦ true≢false (sym one.0 ∙ ap is_single group ∙ not_single p)
      | inr it ↦
          plain_bytes p plain (sym group ∙ it.management) it.size it.number
          (subst (λ (bytes : List ℕ). Announces bytes it.size it.number) (ap (λ (x : Sent). x.payload) e) it.announces)
    ]

-- nor does one of another number
pub other_none : (f : Frame) → is_single (pgn_of f.ident) ≡ false → pgn_of f.ident ≢ connection_management
    → (u : ℕ) (packet : Option Packet) (m : SentMessage) → IsPacketOf f packet → message_sent u f packet ≢ Some m
other_none f several other u packet m is sent = elim (sent_message u f packet m is sent) [
  | inl one ↦ true≢false (sym one.0 ∙ several)
  | inr it ↦ other it.management
]

-- ---- messages of flows

announcement_bytes : (to : Dest) (n size s number : ℕ) → n < 262144 → Announces (data_of (sender.announcement to n size)) s number
    → (s ≡ size) × (number ≡ n)
announcement_bytes dests.All n size s number range is =
    let size_is : size % 256 + 256 * (size / 256) ≡ s = is.size_is in
    let number_is : n % 256 + 256 * (n / 256 % 256) + 65536 * (n / 65536) ≡ number = is.number_is in
    (omega (arith, size_is), omega (arith, number_is, range))
announcement_bytes dests.One n size s number range is =
    let size_is : size % 256 + 256 * (size / 256) ≡ s = is.size_is in
    let number_is : n % 256 + 256 * (n / 256 % 256) + 65536 * (n / 65536) ≡ number = is.number_is in
    (omega (arith, size_is), omega (arith, number_is, range))

announcement_group : (to : Dest) (n size : ℕ) → group_of (sender.announcement to n size) ≡ connection_management
announcement_group dests.All n size = refl
announcement_group dests.One n size = refl

module _ (plan : Plan) (clean : Clean plan) (w : World) (known : IsKnown plan w) (d s k : ℕ) (flow : Flow) (bytes : List ℕ)
    (of : IsMessageOf plan w d s k flow bytes) (less_d : d < 256) (less_s : s < 256) (f : Frame) where
  other : IsOther flow.pgn
  other = flow_other plan (own plan clean) k flow of.flow_is

  -- it goes to those of the flow
  goes : (m : SentMessage) → m.destination ≡ f.ident.ps → (pgn : ℕ) → IsSentAs f.ident pgn d s → (is_pdu2 pgn ≡ true → m.unaddressed ≡ true)
      → (l : Knowledge) → GoesAsPlanned plan l m flow.to
  goes m there pgn ident open_one l = elim (cases_Bool (is_pdu2 pgn)) [
    | inl two ↦ unaddressed flow.to (open_one two)
    | inr one ↦ directed flow.to of.goes (there ∙ ident.directed one)
  ]
    where
      unaddressed : (to : To) → m.unaddressed ≡ true → GoesAsPlanned plan l m to
      unaddressed ToAll is = inl is
      unaddressed (ToOne v) is = inl is

      directed : (to : To) → IsHeldBy w to d → m.destination ≡ d → GoesAsPlanned plan l m to
      directed ToAll held at = inr (at ∙ held)
      directed (ToOne v) (on, address) at =
          let less = known.stated.standing.1 v d address in
          inr (
            λ (e : m.destination ≡ 255). absurd (omega (arith, e, at, less)),
            inl (subst (IsItsAddress plan v) (sym at) (its_own plan clean w known v d on address)),
          )

  lengths : (flow.length ≤ length bytes) × (length bytes ≤ flow.most)
  lengths =
      let parts = and_parts (nat_le flow.length (length bytes)) (nat_le (length bytes) flow.most) of.allowed in
      (leb-true flow.length (length bytes) parts.0, leb-true (length bytes) flow.most parts.1)

  -- a message of the flow's group, of these bytes or of as many as they are
  planned_so : (l : Knowledge) (m : SentMessage) → m.unit ≡ flow.sender → m.number ≡ flow.pgn → m.size ≡ length bytes
      → ((b : List ℕ) → m.bytes ≡ Some b → bytes ≡ b) → ((p : ℕ) → m.priority ≡ Some p → flow.priority ≡ p) → GoesAsPlanned plan l m flow.to
      → IsOfFlowPlanned plan l m
  planned_so l m unit number size same priority to =
      let p = flow_planned plan clean k flow of.flow_is in
      let is = p.flow_is in
      let long = lengths in
      record {
        place = k;
        flow = p.planned;
        flow_is = p.planned_is;
        sender = sym (ap (λ (x : Flow). x.sender) is) ∙ sym unit;
        group = p.group;
        group_is = p.group_is;
        number = sym (ap (λ (x : Flow). x.pgn) is) ∙ sym number;
        at_least = subst (λ (n : ℕ). n ≤ m.size) (ap (λ (x : Flow). x.length) is) (subst (λ (n : ℕ). flow.length ≤ n) (sym size) long.0);
        at_most = subst (λ (n : ℕ). m.size ≤ n) (ap (λ (x : Flow). x.most) is) (subst (λ (n : ℕ). n ≤ flow.most) (sym size) long.1);
        selected = λ b e. subst (λ (x : Flow). is_selected x.when b ≡ true) is (subst (λ (y : List ℕ). is_selected flow.when y ≡ true) (same b e) of.selected);
        priority = λ n e. sym (ap (λ (x : Flow). x.priority) is) ∙ priority n e;
        goes = subst (λ (x : Flow). GoesAsPlanned plan l m x.to) is to;
      }

  own_number : is_service flow.pgn ≡ false
  own_number =
      let p = flow_planned plan clean k flow of.flow_is in
      ap is_service (ap (λ (x : Flow). x.pgn) p.flow_is) ∙ planned_number plan (own plan clean) p.planned.group p.group p.group_is

  -- sent in one frame
  pub short_planned : sent_of f ≡ short_frame d s flow bytes → (packet : Option Packet) (m : SentMessage) → IsPacketOf f packet
      → message_sent flow.sender f packet ≡ Some m → (l : Knowledge) → IsOfFlowPlanned plan l m
  short_planned e packet m is sent l =
      let number = ap (λ (x : Sent). x.identifier) e in
      let ident = sent_as f.ident flow.priority flow.pgn d s other less_d less_s number in
      let payload : f.payload.items ≡ bytes = ap (λ (x : Sent). x.payload) e in
      elim (sent_message flow.sender f packet m is sent) [
        | inr it ↦ absurd (no_transport flow.pgn own_number (inl (sym ident.group_is ∙ it.management)))
        | inl one ↦ subst (IsOfFlowPlanned plan l) one.1 (planned_so l (single flow.sender f) refl ident.group_is (ap length payload)
            (λ b same. sym payload ∙ same_Some f.payload.items b same)
            (λ p same. sym (priority_as f.ident flow.priority flow.pgn d s other less_d less_s number) ∙ same_Some f.ident.priority p same)
            (goes (single flow.sender f) refl flow.pgn ident ident.undirected l))
      ]

  -- or announced
  pub announced_planned : sent_of f ≡ packet_frame d s (sender.announcement (dest_of flow.to) flow.pgn (length bytes)) → (packet : Option Packet)
      (m : SentMessage) → IsPacketOf f packet → message_sent flow.sender f packet ≡ Some m → (l : Knowledge) → IsOfFlowPlanned plan l m
  announced_planned e packet m is sent l =
      let p : Packet = sender.announcement (dest_of flow.to) flow.pgn (length bytes) in
      let ident = sent_as f.ident 7 (group_of p) d s (packet_group p) less_d less_s (ap (λ (x : Sent). x.identifier) e) in
      let payload : f.payload.items ≡ data_of p = ap (λ (x : Sent). x.payload) e in
      let group : group_of p ≡ connection_management = announcement_group (dest_of flow.to) flow.pgn (length bytes) in
      elim (sent_message flow.sender f packet m is sent) [
        | inl one ↦ absurd (true≢false (sym one.0 ∙ ap is_single ident.group_is ∙ not_single p))
        | inr it ↦
            let stated = announcement_bytes (dest_of flow.to) flow.pgn (length bytes) it.size it.number other.range
            (subst (λ (b : List ℕ). Announces b it.size it.number) payload it.announces) in
            let n : SentMessage = announced_message flow.sender f it.size it.number in
            subst (IsOfFlowPlanned plan l) it.message_is (planned_so l n refl stated.1 stated.0
            (λ b same. absurd (none-some b same)) (λ q same. absurd (none-some q same))
            (goes n refl (group_of p) ident (λ two. absurd (true≢false (sym two ∙ ap is_pdu2 group))) l))
      ]
