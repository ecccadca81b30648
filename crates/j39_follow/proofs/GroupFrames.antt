-- What `follow` and `read` write of a group at one frame of a log.
use Rattle.std.proofs.Common.{◌≡◌, ◌⊎◌, ◌+◌, ◌-◌, ◌<◌, ◌≤◌, ◌==◌, ◌&&◌, ℕ, zero, suc, Bool, true, false, not, List, [], ◌∷◌, ◌++◌, length}
use Rattle.std.proofs.Common.{Option, Some, None, inl, inr, refl, sym, ap, subst, ◌∙◌, arith, append_assoc, eq-eqb, eqb-true, get_or, nat_le}
use Rattle.std.specs.List.{slice_get}
use Rattle.std.proofs.lemmas.Bool.{cases_Bool, and_from, and_parts}
use Rattle.std.proofs.lemmas.List.{append-nil, length-append, map-append}
use Rattle.std.proofs.lemmas.Option.{get_or_from_slice_get, slice_get-get_or, slice_get_within, none-some, same_Some}
use Rattle.j39_id.specs.Ident.{pgn_of}
use Rattle.j39_id.specs.declared.frame.Frame.{Frame}
use Rattle.j39_network.specs.PrivateGroups.{HasNoPrivate}
use Rattle.j39_network.specs.declared.plan.Plan.{Plan}
use Rattle.j39_network.specs.declared.plan.group_plan.GroupPlan.{GroupPlan}
use Rattle.j39_log.proofs.Indexes.{first_place, no_place}
use Rattle.j39_log.proofs.OneText.{one_packet}
use Rattle.j39_log.specs.LogFrames.{IsHeardAs, is_planned_as, is_shared_as, planned, planned_group}
use Rattle.j39_log.specs.LogPairs.{Seen, heard, heard_of}
use Rattle.j39_log.specs.NamedReports.{named_report}
use Rattle.j39_log.specs.ReadText.{IsFrameReport, IsGroupReport}
use Rattle.j39_signal.specs.Selectors.{is_selected}
use Rattle.j39_tp.proofs.Tracking.{one_message, one_pgn}
use Rattle.j39_tp.specs.Carried.{Carried}
use Rattle.j39_tp.specs.Chunks.{packets_of}
use Rattle.j39_tp.specs.declared.packet.Packet.{Packet}
use Rattle.j39_tp.specs.declared.packet.Packet.TheVariants.{Rts, Cts, EndAck, Bam, Abort, Dt}
use Rattle.j39_follow.specs.Received.{IsReceived, turned, way_packets}
use Rattle.j39_follow.specs.Contests.{Timed}
use Rattle.j39_follow.specs.Fits.{IsPlannedAs, IsSentGroup, MayBeGroup, fitting_flow}
use Rattle.j39_follow.specs.FollowReports.{IsGroupOfMessage, IsGrouped, IsMessageReport, Message, in_frame}
use Rattle.j39_follow.specs.FollowText.{HeardSince, IsFollowedAs, IsInOrderReport, IsPacketReport}
use Rattle.j39_follow.specs.FollowText.{frames_seen}
use Rattle.j39_follow.specs.GroupLines.{StayInHands, ReportOneMessage}
use Rattle.j39_follow.specs.GroupLines.{ReportsReceived}
use Rattle.j39_follow.specs.declared.message.Sort.{Sort}
use Rattle.j39_follow.specs.declared.flow.sending.Sending.{Sending}
use Rattle.j39_tp.proofs.Gathering.{last_stands}

-- ---- groups

-- of a group that isn't private, to be planned so asks no more than its number, its lengths and its selector
planned_so : (plan : Plan) (pgn : ℕ) (bytes : List ℕ) (sent : Sending) (place : ℕ) (group : GroupPlan) → group.private ≡ false
    → IsPlannedAs plan pgn bytes sent place group → is_planned_as pgn bytes group ≡ true
planned_so plan pgn bytes sent place group shared is =
    let n : ℕ = length bytes in
    let lengths = and_parts (nat_le group.length n) (nat_le n group.most) is.length in
    let own : is_shared_as pgn group ≡ true =
    ap (λ (b : Bool). not b && group.pgn == pgn) shared ∙ eq-eqb group.pgn pgn is.number in
    and_from (is_shared_as pgn group) _ own (and_from (nat_le group.length n) _ lengths.0
    (and_from (nat_le n group.most) (is_selected group.when bytes) lengths.1 is.selected))

may_be_planned : (plan : Plan) (pgn : ℕ) (bytes : List ℕ) (sent : Sending) (place : ℕ) (group : GroupPlan) → group.private ≡ false
    → is_planned_as pgn bytes group ≡ true → IsPlannedAs plan pgn bytes sent place group
may_be_planned plan pgn bytes sent place group shared is =
    let n : ℕ = length bytes in
    let parts = and_parts (is_shared_as pgn group) _ is in
    let number = and_parts (not group.private) (group.pgn == pgn) parts.0 in
    let least = and_parts (nat_le group.length n) _ parts.1 in
    let most = and_parts (nat_le n group.most) (is_selected group.when bytes) least.1 in
    record {
      number = eqb-true group.pgn pgn number.1;
      length = and_from (nat_le group.length n) (nat_le n group.most) least.0 most.0;
      selected = most.1;
      own = inl shared;
    }

not_planned : (plan : Plan) → HasNoPrivate plan → (pgn : ℕ) (bytes : List ℕ) (sent : Sending) (k : ℕ) (d : GroupPlan) → k < length plan.groups.items
    → ¬ MayBeGroup plan pgn bytes sent k → is_planned_as pgn bytes (get_or plan.groups.items k d) ≡ false
not_planned plan shared pgn bytes sent k d inside none =
    let group = get_or plan.groups.items k d in
    elim (cases_Bool (is_planned_as pgn bytes group)) [
      | inl found ↦ absurd (none (record {
        value = group;
        value_is = slice_get-get_or plan.groups.items k d inside;
        meets = may_be_planned plan pgn bytes sent k group (shared k d inside) found;
      }))
      | inr other ↦ other
    ]

-- so the group that a message is reported as is the one that is planned by its number and its bytes
same_group : (plan : Plan) → HasNoPrivate plan → (pgn : ℕ) (bytes : List ℕ) (sent : Sending) (place : Option ℕ) → IsSentGroup plan pgn bytes sent place
    → planned plan pgn bytes ≡ place
same_group plan shared pgn bytes sent (Some place) is =
    let groups = plan.groups.items in
    let there = is.0 in
    let group : GroupPlan = there.value in
    let inside : place < length groups = slice_get_within groups place group there.value_is in
    let here : get_or groups place group ≡ group = get_or_from_slice_get groups place group group there.value_is in
    let own : group.private ≡ false = subst (λ (g : GroupPlan). g.private ≡ false) here (shared place group inside) in
    first_place (is_planned_as pgn bytes) place groups group inside
    (ap (is_planned_as pgn bytes) here ∙ planned_so plan pgn bytes sent place group own there.meets)
    (λ k d below. not_planned plan shared pgn bytes sent k d (omega (arith, below, inside)) (is.1 k below))
same_group plan shared pgn bytes sent None is =
    no_place (is_planned_as pgn bytes) plan.groups.items (λ k d inside. not_planned plan shared pgn bytes sent k d inside (is k))

-- ---- packets

slice_get_back : (a h : List Packet) (j : ℕ) → length a ≤ j → slice_get (a ++ h) j ≡ slice_get h (j - length a)
slice_get_back [] h j less =
    let same : j ≡ j - 0 = omega arith in
    ap (slice_get h) same
slice_get_back (p ∷ a) h zero less = absurd (omega (arith, less))
slice_get_back (p ∷ a) h (suc j) less =
    let same : j - length a ≡ suc j - suc (length a) = omega arith in
    slice_get_back a h j (omega (arith, less)) ∙ ap (slice_get h) same

slice_get_moved : (a h : List Packet) (j : ℕ) → slice_get (a ++ h) (length a + j) ≡ slice_get h j
slice_get_moved a h j =
    let same : length a + j - length a ≡ j = omega arith in
    slice_get_back a h (length a + j) (omega arith) ∙ ap (slice_get h) same

-- a message is carried behind other packets too
carried_behind : (a h : List Packet) (place pgn : ℕ) (message : List ℕ) → Carried h place pgn message → Carried (a ++ h) (length a + place) pgn message
carried_behind a h place pgn message c = record {
  kind = c.kind;
  size = c.size;
  announcement = c.announcement;
  at = λ k. length a + c.at k;
  chunk = c.chunk;
  announced = slice_get_moved a h (c.at 0) ∙ c.announced;
  announces = c.announces;
  fits = c.fits;
  carries = λ k less.
      let next = c.carries k less in record {
        later = let l = next.later in omega (arith, l);
        stands = slice_get_moved a h (c.at (suc k)) ∙ next.stands;
        first = λ j number chunk from to stands.
            next.first (j - length a) number chunk (omega (arith, from, to)) (omega (arith, from, to))
            (sym (slice_get_back a h j (omega (arith, from))) ∙ stands);
      };
  last = ap (λ (n : ℕ). length a + n) c.last;
  undisturbed = λ j p from to stands.
      c.undisturbed (j - length a) p (omega (arith, from, to)) (omega (arith, from, to))
      (sym (slice_get_back a h j (omega (arith, from))) ∙ stands);
  bytes = c.bytes;
}

heard_both : (s d : ℕ) (a b : List Seen) → heard s d (a ++ b) ≡ heard s d a ++ heard s d b
unfolding heard
heard_both s d [] b = refl
heard_both s d (x ∷ a) b =
    ap (λ (t : List Packet). heard_of s d x.frame.ident x.packet ++ t) (heard_both s d a b)
    ∙ sym (append_assoc (heard_of s d x.frame.ident x.packet) (heard s d a) (heard s d b))

-- what was carried since an address last changed hands is carried in all that was heard
carried_in_all : (plan : Plan) (seen : List Seen) (s d : ℕ) (h : List Packet) (p : Packet) (pgn : ℕ) (message : List ℕ) → HeardSince plan seen s d h
    → Carried (h ++ p ∷ []) (length h) pgn message → Carried (heard s d seen ++ p ∷ []) (length (heard s d seen)) pgn message
carried_in_all plan seen s d h p pgn message since c =
    let front = heard s d since.before in
    let all : heard s d seen ≡ front ++ h =
    ap (heard s d) since.row ∙ heard_both s d since.before since.since ∙ ap (λ (t : List Packet). front ++ t) (sym since.packets_are) in
    let moved : Carried (front ++ (h ++ p ∷ [])) (length front + length h) pgn message = carried_behind front (h ++ p ∷ []) (length h) pgn message c in
    let joined : Carried ((front ++ h) ++ p ∷ []) (length (front ++ h)) pgn message =
    subst (λ (n : ℕ). Carried ((front ++ h) ++ p ∷ []) n pgn message) (sym (length-append front h))
    (subst (λ (t : List Packet). Carried t (length front + length h) pgn message) (sym (append_assoc front h (p ∷ []))) moved) in
    subst (λ (t : List Packet). Carried (t ++ p ∷ []) (length t) pgn message) (sym all) joined

-- ---- hands

pub frames_both : (a b : List Seen) → frames_seen (a ++ b) ≡ frames_seen a ++ frames_seen b
frames_both a b = map-append (λ (s : Seen). s.frame) a b

pub stay_front : (plan : Plan) (a b : List Frame) → StayInHands plan (a ++ b) → StayInHands plan a
stay_front plan a b stay before f behind is =
    stay before f (behind ++ b) (ap (λ (t : List Frame). t ++ b) is ∙ append_assoc before (f ∷ behind) b)

-- where none changes hands, all that was heard counts
all_since : (plan : Plan) (seen : List Seen) (s d : ℕ) (h : List Packet) → HeardSince plan seen s d h → StayInHands plan (frames_seen seen)
    → h ≡ heard s d seen
all_since plan seen s d h since stay = elim since.anew [
  | inl all ↦
      since.packets_are ∙ ap (λ (t : List Seen). heard s d (t ++ since.since)) (sym all) ∙ ap (heard s d) (sym since.row)
  | inr parted ↦
      let x : Seen = parted.1 in
      let row : seen ≡ parted.0 ++ x ∷ since.since =
      since.row ∙ ap (λ (t : List Seen). t ++ since.since) parted.2 ∙ append_assoc parted.0 (x ∷ []) since.since in
      let frames = ap frames_seen row ∙ frames_both parted.0 (x ∷ since.since) in
      absurd (elim parted.3 [
        | inl source ↦ stay (frames_seen parted.0) x.frame (frames_seen since.since) frames s source
        | inr destination ↦ stay (frames_seen parted.0) x.frame (frames_seen since.since) frames d destination
      ])
]

-- ---- a frame

planned_there : (plan : Plan) → HasNoPrivate plan → (log : List Timed) (f : Frame) (group : Option ℕ) → IsGroupOfMessage plan log (in_frame f) group
    → planned_group plan f ≡ group
planned_there plan shared log f group is = same_group plan shared (pgn_of f.ident) f.payload.items is.0 group is.2

pub same_packet : (plan : Plan) → HasNoPrivate plan → (log : List Timed) (f : Frame) (p q : Option Packet) → IsFollowedAs plan log f p
    → IsHeardAs plan f q → p ≡ q
same_packet plan shared log f (Some p) (Some q) a b = ap Some (one_packet f p q a.1 b.1)
same_packet plan shared log f (Some p) None a (inl b) = absurd (b (planned_there plan shared log f None a.0))
same_packet plan shared log f (Some p) None a (inr b) = absurd (b p a.1)
same_packet plan shared log f None (Some q) (inl a) b = absurd (a q b.1)
same_packet plan shared log f None (Some q) (inr a) b =
    absurd (none-some a.0 (sym b.0 ∙ planned_there plan shared log f (Some a.0) a.1))
same_packet plan shared log f None None a b = refl

-- what both write of one message
abbrev OneOrNone : Plan → List ℕ → List ℕ → Type 0
OneOrNone plan t u = ((t ≡ []) × (u ≡ [])) ⊎ ReportOneMessage plan t u

grouped_alike : (plan : Plan) (log : List Timed) (front : List ℕ) (m : Message) (sent : Sending) (group : Option ℕ) (sort : Sort) (t u : List ℕ)
    → IsGrouped plan log front m sent group sort t → IsGroupReport plan group m.ident m.bytes u → OneOrNone plan t u
grouped_alike plan log front m sent None sort t u a b = inl (a.1, b)
grouped_alike plan log front m sent (Some g) sort t u a b =
    let there = a.3 in
    let same : b.value ≡ there.value = same_Some b.value there.value (sym b.value_is ∙ there.value_is) in
    inr (record {
      place = g;
      group = there.value;
      front = front;
      way = a.1;
      flow = fitting_flow plan g sent;
      message = m;
      group_is = there.value_is;
      followed_is = there.meets;
      read_is = b.meets ∙ ap (λ (group : GroupPlan). named_report plan group m.ident m.bytes) same;
    })

message_alike : (plan : Plan) → HasNoPrivate plan → (log : List Timed) (front : List ℕ) (m : Message) (sort : Sort) (t u : List ℕ)
    → IsMessageReport plan log front m sort t → IsGroupReport plan (planned plan m.pgn m.bytes) m.ident m.bytes u → OneOrNone plan t u
message_alike plan shared log front m sort t u a b =
    let same = same_group plan shared m.pgn m.bytes a.0 a.1 a.3 in
    grouped_alike plan log front m a.0 a.1 sort t u a.4 (subst (λ (g : Option ℕ). IsGroupReport plan g m.ident m.bytes u) same b)

-- what `follow` writes of a group at a frame is nothing, or of the message that `read` reports, or of one received out of order; and where no address changed hands before,
-- both report it
pub record BodyAlike (plan : Plan) (before : List Seen) (t u : List ℕ) : Type 0 where
  pub thinned : (t ≡ []) ⊎ ReportOneMessage plan t u ⊎ ReportsReceived plan t u
  pub whole : StayInHands plan (frames_seen before) → ((t ≡ []) × (u ≡ [])) ⊎ ReportOneMessage plan t u ⊎ ReportsReceived plan t u

one_or_none : (plan : Plan) (before : List Seen) (t u : List ℕ) → OneOrNone plan t u → BodyAlike plan before t u
one_or_none plan before t u (inl none) = record { thinned = inl none.0; whole = λ _. inl none }
one_or_none plan before t u (inr one) = record { thinned = inr (inl one); whole = λ _. inr (inl one) }

in_order_alike : (plan : Plan) → HasNoPrivate plan → (before : List Seen) (log : List Timed) (front : List ℕ) (f : Frame) (p : Packet) (sorts : List Sort)
    (t u : List ℕ) → IsInOrderReport plan before log front f p sorts t → IsFrameReport plan before f (Some p) u → BodyAlike plan before t u
in_order_alike plan shared before log front f p sorts t u (h, since, inl (pgn, bytes, sort, carried, report, is)) b =
    let s = f.ident.sa in
    let d = f.ident.ps in
    let all = heard s d before in
    let there : Carried (all ++ p ∷ []) (length all) pgn bytes = carried_in_all plan before s d h p pgn bytes since carried in
    elim b [
      | inl (other, words, also, text) ↦
          let number : other ≡ pgn = one_pgn (all ++ p ∷ []) (length all) other pgn words bytes also there in
          let same : words ≡ bytes = one_message (all ++ p ∷ []) (length all) other pgn words bytes also there in
          let at_number : IsGroupReport plan (planned plan pgn words) f.ident words u =
          subst (λ (n : ℕ). IsGroupReport plan (planned plan n words) f.ident words u) number text in
          let at_bytes : IsGroupReport plan (planned plan pgn bytes) f.ident bytes u =
          subst (λ (w : List ℕ). IsGroupReport plan (planned plan pgn w) f.ident w u) same at_number in
          one_or_none plan before t u
          (message_alike plan shared log front (record { pgn = pgn; bytes = bytes; ident = f.ident; framed = None }) sort t u report at_bytes)
      | inr (none, empty) ↦ absurd (none pgn bytes there)
    ]
in_order_alike plan shared before log front f p sorts t u (h, since, inr (none, is, empty)) b = record {
  thinned = inl empty;
  whole = λ stay.
      let same : h ≡ heard f.ident.sa f.ident.ps before = all_since plan before f.ident.sa f.ident.ps h since stay in
      elim b [
        | inl (other, words, also, text) ↦
            absurd (none other words (subst (λ (x : List Packet). Carried (x ++ p ∷ []) (length x) other words) (sym same) also))
        | inr (nothing, blank) ↦ inl (empty, blank)
      ];
}

-- a packet that ends a message is data
ends_in_data : (h : List Packet) (p : Packet) (pgn : ℕ) (message : List ℕ) → Carried (h ++ p ∷ []) (length h) pgn message
    → (k : ℕ) × (chunk : List ℕ) × (p ≡ Dt k chunk)
ends_in_data h p pgn message c =
    let n : ℕ = packets_of c.size in
    let above = c.fits.above in
    let some : 0 < packets_of c.size = omega (arith, above) in
    let same : suc (n - 1) ≡ n = omega (arith, some) in
    let next = c.carries (n - 1) (omega (arith, some)) in
    let there : c.at (suc (n - 1)) ≡ length h = ap c.at same ∙ c.last in (
      suc (n - 1),
      c.chunk (suc (n - 1)),
      same_Some p (Dt (suc (n - 1)) (c.chunk (suc (n - 1))))
          (sym (last_stands h p) ∙ sym (ap (slice_get (h ++ p ∷ [])) there) ∙ next.stands),
    )

receipt_is_no_data : (size pgn k : ℕ) (chunk : List ℕ) → EndAck size pgn ≡ Dt k chunk → ⊥
receipt_is_no_data size pgn k chunk e = cc

-- `read` writes nothing where a receiver says that it has a message whole
nothing_read : (plan : Plan) (before : List Seen) (f : Frame) (size pgn : ℕ) (u : List ℕ) → IsFrameReport plan before f (Some (EndAck size pgn)) u → u ≡ []
nothing_read plan before f size pgn u (inl (number, message, carried, report)) =
    let last = ends_in_data (heard f.ident.sa f.ident.ps before) (EndAck size pgn) number message carried in
    absurd (receipt_is_no_data size pgn last.0 last.1 last.2)
nothing_read plan before f size pgn u (inr (none, blank)) = blank

received_alone : (plan : Plan) (log : List Timed) (front : List ℕ) (m : Message) (sent : Sending) (group : Option ℕ) (sort : Sort) (t u : List ℕ)
    (h : List Packet) (size : ℕ) → IsReceived h size m.pgn m.bytes → u ≡ [] → IsGrouped plan log front m sent group sort t
    → ((t ≡ []) × (u ≡ [])) ⊎ ReportsReceived plan t u
received_alone plan log front m sent None sort t u h size received blank a = inl (a.1, blank)
received_alone plan log front m sent (Some g) sort t u h size received blank a = inr (record {
  place = g;
  group = a.3.value;
  front = front;
  way = a.1;
  flow = fitting_flow plan g sent;
  message = m;
  packets = h;
  size = size;
  received = received;
  group_is = a.3.value_is;
  followed_is = a.3.meets;
  read_is = blank;
})

one_alone : (plan : Plan) (before : List Seen) (t u : List ℕ) → ((t ≡ []) × (u ≡ [])) ⊎ ReportsReceived plan t u → BodyAlike plan before t u
one_alone plan before t u (inl none) = record { thinned = inl none.0; whole = λ _. inl none }
one_alone plan before t u (inr one) = record { thinned = inr (inr one); whole = λ _. inr (inr one) }

receipt_alike : (plan : Plan) (before : List Seen) (log : List Timed) (front : List ℕ) (f : Frame) (size pgn : ℕ) (sorts : List Sort) (t u : List ℕ)
    → IsPacketReport plan before log front f (Some (EndAck size pgn)) sorts t → IsFrameReport plan before f (Some (EndAck size pgn)) u
    → BodyAlike plan before t u
receipt_alike plan before log front f size pgn sorts t u (h, since, inl (bytes, sort, received, report, is)) b =
    one_alone plan before t u
    (received_alone plan log front (record { pgn = pgn; bytes = bytes; ident = turned f.ident; framed = None }) report.0 report.1 sort t u
    (way_packets f.ident.ps f.ident.sa since.since) size received (nothing_read plan before f size pgn u b) report.4)
receipt_alike plan before log front f size pgn sorts t u (h, since, inr (none, is, empty)) b =
    one_alone plan before t u (inl (empty, nothing_read plan before f size pgn u b))

carried_alike : (plan : Plan) → HasNoPrivate plan → (before : List Seen) (log : List Timed) (front : List ℕ) (f : Frame) (p : Packet) (sorts : List Sort)
    (t u : List ℕ) → IsPacketReport plan before log front f (Some p) sorts t → IsFrameReport plan before f (Some p) u → BodyAlike plan before t u
carried_alike plan shared before log front f (EndAck size pgn) sorts t u a b = receipt_alike plan before log front f size pgn sorts t u a b
carried_alike plan shared before log front f (Rts size limit pgn) sorts t u a b =
    in_order_alike plan shared before log front f (Rts size limit pgn) sorts t u a b
carried_alike plan shared before log front f (Cts count first pgn) sorts t u a b =
    in_order_alike plan shared before log front f (Cts count first pgn) sorts t u a b
carried_alike plan shared before log front f (Bam size pgn) sorts t u a b = in_order_alike plan shared before log front f (Bam size pgn) sorts t u a b
carried_alike plan shared before log front f (Abort reason pgn) sorts t u a b =
    in_order_alike plan shared before log front f (Abort reason pgn) sorts t u a b
carried_alike plan shared before log front f (Dt number chunk) sorts t u a b =
    in_order_alike plan shared before log front f (Dt number chunk) sorts t u a b

no_report : (plan : Plan) → HasNoPrivate plan → (log : List Timed) (front : List ℕ) (f : Frame) (sort : Sort) (t : List ℕ)
    → IsGroupOfMessage plan log (in_frame f) None → IsMessageReport plan log front (in_frame f) sort t → t ≡ []
no_report plan shared log front f sort t none (sent, Some g, sending, is, report) =
    absurd (none-some g (sym (planned_there plan shared log f None none) ∙ planned_there plan shared log f (Some g) (sent, sending, is)))
no_report plan shared log front f sort t none (sent, None, sending, is, report) = report.1

pub body_alike : (plan : Plan) → HasNoPrivate plan → (before : List Seen) (log : List Timed) (front : List ℕ) (f : Frame) (p : Option Packet) (sort : Sort)
    (sorts : List Sort) (report carried u : List ℕ) → IsFollowedAs plan log f p → IsMessageReport plan log front (in_frame f) sort report
    → IsPacketReport plan before log front f p sorts carried → IsFrameReport plan before f p u → BodyAlike plan before (report ++ carried) u
body_alike plan shared before log front f None sort sorts report carried u heard_as is also b =
    let text : report ++ carried ≡ report = ap (λ (t : List ℕ). report ++ t) also.1 ∙ append-nil report in
    subst (λ (t : List ℕ). BodyAlike plan before t u) (sym text)
    (one_or_none plan before report u (message_alike plan shared log front (in_frame f) sort report u is b))
body_alike plan shared before log front f (Some p) sort sorts report carried u heard_as is also b =
    let text : report ++ carried ≡ carried = ap (λ (t : List ℕ). t ++ carried) (no_report plan shared log front f sort report heard_as.0 is) in
    subst (λ (t : List ℕ). BodyAlike plan before t u) (sym text) (carried_alike plan shared before log front f p sorts carried u also b)
