-- Two plans that report alike of the NAMEs of a log, and have the same groups, flows, needs and requests, report the same of a frame, but for
-- the serial numbers of boxes.
use Rattle.std.proofs.Common.{◌≡◌, ℕ, ◌==◌, ◌&&◌, ◌||◌, nat_lt, Bool, true, false, if◌then◌else◌, List, [], ◌∷◌, ◌++◌, length, map, option_map, codes, Option}
use Rattle.std.proofs.Common.{Some, None, inl, inr}
use Rattle.std.proofs.Common.{refl, sym, ap, subst, arith, ◌∙◌, slice_index_or}
use Rattle.std.specs.List.{position, slice_get}
use Rattle.std.specs.Option.{option_map_or, option_or, option_to_list}
use Rattle.std.proofs.lemmas.Bool.{ne_eqb}
use Rattle.std.proofs.lemmas.List.{length-append}
use Rattle.std.proofs.lemmas.Option.{none-some}
use Rattle.j39_id.specs.Addresses.{global_address}
use Rattle.j39_id.specs.FrameMeaning.{cannot_claim, claims_address, name_in, requested_group, requests_group}
use Rattle.j39_id.specs.declared.frame.Frame.{Frame}
use Rattle.j39_id.specs.declared.ident.Ident.{Ident}
use Rattle.j39_network.specs.declared.plan.Plan.{Plan}
use Rattle.j39_network.specs.declared.plan.flow_plan.FlowPlan.{FlowPlan}
use Rattle.j39_network.specs.declared.plan.group_plan.GroupPlan.{GroupPlan}
use Rattle.j39_network.specs.declared.plan.request_plan.RequestPlan.{RequestPlan}
use Rattle.j39_network.specs.declared.plan.unit_plan.UnitPlan.{UnitPlan}
use Rattle.j39_log.specs.NamedReports.{all_numbered, first_names, named_lines, named_reading_lines, named_signals}
use Rattle.j39_text.specs.Labels.{unit_label}
use Rattle.j39_text.specs.Texts.{field}
use Rattle.j39_follow.specs.Contests.{IsTaken, Timed, frames_of}
use Rattle.j39_follow.specs.Fits.{IsSentGroup, MayBeGroup, fits, fits_all, fitting_flow, is_unit}
use Rattle.j39_follow.specs.FollowReports.{AreEventsOf, IsAnswerWay, IsAsked, IsBareText, IsGroupOfMessage, IsGrouped, IsMessageReport, IsNotice, IsSendingOf}
use Rattle.j39_follow.specs.FollowReports.{IsWay, Message, brought_by, ended_message, message_events}
use Rattle.j39_follow.specs.FollowReports.{answer_aim, frame_line, answer_line, answer_way_text, asked_line, cannot_line, cannot_text, claim_line, claim_text}
use Rattle.j39_follow.specs.FollowReports.{identity_text, in_frame, is_to_all, message_line, named_text, notice_events, notice_text, refusal_events, reply_of}
use Rattle.j39_follow.specs.Holders.{ClaimsOrCannot}
use Rattle.j39_follow.specs.LoggedRequests.{acknowledged_group, acknowledges, asked_request, asker_address, counted_number, is_acknowledgement, is_aimed_so}
use Rattle.j39_follow.specs.LoggedRequests.{is_asked_by, is_refusal, asker_or_source}
use Rattle.j39_follow.specs.VehicleLogs.{cannot_alone, claim_alone, notice_alone}
use Rattle.j39_follow.specs.Who.{name_text, party_text, unit_of_name, who_text}
use Rattle.j39_follow.specs.declared.request.event.Event.{Event}
use Rattle.j39_follow.specs.declared.request.event.Event.TheVariants.{Asked, Brought, Refused}
use Rattle.j39_follow.specs.declared.message.Sort.{Sort}
use Rattle.j39_follow.specs.declared.message.Sort.TheVariants.{Grouped, Other}
use Rattle.j39_follow.specs.declared.flow.sending.Sending.{Sending}
use Rattle.j39_follow.specs.declared.address.who.Who.{Who}
use Rattle.j39_follow.specs.declared.address.who.Who.TheVariants.{Holder, Likely, LikelyStranger, Stranger, Unknown}
use Rattle.j39_follow.proofs.Vehicles.Parties.{ReportAll, same_taken}
use Rattle.j39_follow.proofs.Vehicles.Units.{ReportAlike, flip}

-- ---- choices and lists

pub choose_same : {A : Type 0} (b : Bool) (x y v w : A) → (b ≡ true → x ≡ v) → (b ≡ false → y ≡ w) → (if b then x else y) ≡ (if b then v else w)
choose_same true x y v w one other = one refl
choose_same false x y v w one other = other refl

pub map_same : {A B : Type 0} (f g : A → B) → ((x : A) → f x ≡ g x) → (xs : List A) → map f xs ≡ map g xs
map_same f g same [] = refl
map_same f g same (x ∷ xs) = ap (λ (y : _). y ∷ map f xs) (same x) ∙ ap (λ (ys : List _). g x ∷ ys) (map_same f g same xs)

-- what is written at a frame that reports nothing of addresses
abbrev asks : Plan → Frame → List ℕ → List ℕ → Option ℕ → List ℕ → List ℕ
asks plan f front way asked back =
    if requests_group f then asked_line front f way asked else if acknowledges plan f then answer_line front f back else []

-- what is written of a claim or a Cannot isn't empty
some_text : (front : List ℕ) (x : ℕ) (rest report : List ℕ) → (length ((front ++ x ∷ rest) ++ report) == 0) ≡ false
some_text front x rest report = ne_eqb (length ((front ++ x ∷ rest) ++ report)) 0 (λ e.
    let one = length-append (front ++ x ∷ rest) report in
    let two = length-append front (x ∷ rest) in
    absurd (omega (arith, e, one, two)))

choose_alike : {A B : Type 0} (read : A → B) (b : Bool) (x y v w : A) → (b ≡ true → read x ≡ read v) → (b ≡ false → read y ≡ read w)
    → read (if b then x else y) ≡ read (if b then v else w)
choose_alike read true x y v w one other = one refl
choose_alike read false x y v w one other = other refl

-- without its serial number no notice is empty that isn't empty with it
same_emptiness : (p : Plan) (front : List ℕ) (f : Frame) (way : List ℕ) (asked : Option ℕ) (back report : List ℕ)
    → (length (notice_alone p front f way asked back ++ report) == 0) ≡ (length (notice_text p front f way asked back ++ report) == 0)
unfolding claim_text claim_alone cannot_text cannot_alone
same_emptiness p front f way asked back report =
    choose_alike empty (claims_address f) _ _ _ _
    (λ claims. some_text front _ _ report ∙ sym (some_text front _ _ report))
    (λ no. choose_alike empty (cannot_claim f) _ _ _ _
    (λ cannot. some_text front _ _ report ∙ sym (some_text front _ _ report))
    (λ neither.
    ap (λ (b : Bool). empty (if b then claim_line p front f else if cannot_claim f then cannot_line p front f else asks p f front way asked back)) no
    ∙ ap (λ (b : Bool). empty (if b then cannot_line p front f else asks p f front way asked back)) neither))
  where
    empty : List ℕ → Bool
    empty t = length (t ++ report) == 0

module _ (G : ℕ → Type 0) (p q : Plan) (same : ReportAlike G p q) where
  -- ---- labels

  pub same_label : (u : ℕ) → unit_label p u ≡ unit_label q u
  unfolding unit_label
  same_label u = go (slice_get p.units.items u) (slice_get q.units.items u) refl refl where
    read : Option UnitPlan → List ℕ
    read o = option_map_or (λ (unit : UnitPlan). unit.label.bytes) o []

    go : (o r : Option UnitPlan) → slice_get p.units.items u ≡ o → slice_get q.units.items u ≡ r
        → option_map_or (λ (unit : UnitPlan). unit.label.bytes) (slice_get p.units.items u) []
        ≡ option_map_or (λ (unit : UnitPlan). unit.label.bytes) (slice_get q.units.items u) []
    go (Some a) r here there =
        let found = same.there u a here in
        ap (λ (o : Option UnitPlan). option_map_or (λ (unit : UnitPlan). unit.label.bytes) o []) here
        ∙ same.label u a found.0 found.1
        ∙ sym (ap (λ (o : Option UnitPlan). option_map_or (λ (unit : UnitPlan). unit.label.bytes) o []) found.1.second)
    go None (Some b) here there = absurd (none-some _ (sym here ∙ (same.back u b there).1.first))
    go None None here there =
        ap (λ (o : Option UnitPlan). option_map_or (λ (unit : UnitPlan). unit.label.bytes) o []) here
        ∙ sym (ap (λ (o : Option UnitPlan). option_map_or (λ (unit : UnitPlan). unit.label.bytes) o []) there)

  same_party_text : (w : Who) → party_text p w ≡ party_text q w
  unfolding party_text
  same_party_text (Holder u) = same_label u
  same_party_text (Stranger name) = refl
  same_party_text (Likely u) = ap (λ (t : List ℕ). t ++ codes "?") (same_label u)
  same_party_text (LikelyStranger name) = refl
  same_party_text Unknown = refl

  same_who_text : (w : Who) (address : ℕ) → who_text p w address ≡ who_text q w address
  unfolding who_text
  same_who_text w address = ap (λ (t : List ℕ). field (t ++ codes "@") address) (same_party_text w)

  same_named_text : (name : ℕ) → G name → named_text p name ≡ named_text q name
  unfolding named_text
  same_named_text name g =
      go (unit_of_name p name) ∙ ap (λ (o : Option ℕ). option_map_or (unit_label q) o (name_text name)) (same.unit name g)
    where
      go : (o : Option ℕ) → option_map_or (unit_label p) o (name_text name) ≡ option_map_or (unit_label q) o (name_text name)
      go None = refl
      go (Some u) = same_label u

  -- ---- requests

  same_requested : (number : ℕ) (sent : Sending) → asked_request p number sent ≡ asked_request q number sent
  same_requested number sent =
      ap (λ (rs : List RequestPlan). position (is_asked_by p number sent) rs) same.requests
      ∙ ap (λ (gs : List GroupPlan). position (λ (r : RequestPlan). slice_index_or (map (λ (g : GroupPlan). g.pgn) gs) r.group 0 == number
      && (is_unit sent.sender r.sender && is_aimed_so r.to sent.aim)) q.requests.items) same.groups

  pub same_acknowledges : (f : Frame) → acknowledges p f ≡ acknowledges q f
  same_acknowledges f = ap (λ (rs : List RequestPlan). nat_lt 0 (length rs) && is_acknowledgement f) same.requests

  pub same_asker_or_source : (f : Frame) → asker_or_source p f ≡ asker_or_source q f
  same_asker_or_source f = ap (λ (b : Bool). if b then asker_address f else f.ident.sa) (same_acknowledges f)

  same_number : (sort : Sort) → counted_number p sort ≡ counted_number q sort
  same_number (Grouped g flow) = ap (λ (gs : List GroupPlan). slice_index_or (map (λ (x : GroupPlan). x.pgn) gs) g 0) same.groups
  same_number (Other pgn) = refl

  -- ---- groups

  same_fitting : (group : ℕ) (sent : Sending) → fitting_flow p group sent ≡ fitting_flow q group sent
  same_fitting group sent =
      ap (λ (fs : List FlowPlan). option_or (position (fits_all group sent) fs) (position (fits group sent) fs)) same.flows

  may_be : (pgn : ℕ) (bytes : List ℕ) (sent : Sending) (place : ℕ) → MayBeGroup p pgn bytes sent place → MayBeGroup q pgn bytes sent place
  may_be pgn bytes sent place v = record {
    value = v.value;
    value_is = sym (ap (λ (gs : List GroupPlan). slice_get gs place) same.groups) ∙ v.value_is;
    meets = record {
      number = v.meets.number;
      length = v.meets.length;
      selected = v.meets.selected;
      own = elim v.meets.own [ inl shared ↦ inl shared | inr fitting ↦ inr (λ none. fitting (same_fitting place sent ∙ none)) ];
    };
  }

  same_reading : (group : GroupPlan) (bytes : List ℕ) → named_reading_lines p group bytes ≡ named_reading_lines q group bytes
  same_reading group bytes =
      ap (λ (gs : List GroupPlan). named_lines (first_names (all_numbered gs)) (named_signals group) group bytes) same.groups

same_group : (G : ℕ → Type 0) (p q : Plan) → ReportAlike G p q → (pgn : ℕ) (bytes : List ℕ) (sent : Sending) (group : Option ℕ)
    → IsSentGroup p pgn bytes sent group → IsSentGroup q pgn bytes sent group
same_group G p q same pgn bytes sent (Some place) is = (
  may_be G p q same pgn bytes sent place is.0,
  λ earlier below may. is.1 earlier below (may_be G q p (flip G p q same) pgn bytes sent earlier may),
)
same_group G p q same pgn bytes sent None is = λ place may. is place (may_be G q p (flip G p q same) pgn bytes sent place may)

-- ---- at a line of the log

module _ (G : ℕ → Type 0) (p q : Plan) (same : ReportAlike G p q) (log : List Timed) (all : ReportAll G (frames_of log)) where
  taken : (address : ℕ) (w : Who) → IsTaken p log address w → IsTaken q log address w
  taken = same_taken G p q same log all

  same_way : (i : Ident) (text : List ℕ) → IsWay p log i text → IsWay q log i text
  same_way i text w = record {
    sender = w.sender;
    receiver = w.receiver;
    sender_is = taken i.sa w.sender w.sender_is;
    receiver_is = taken i.ps w.receiver w.receiver_is;
    text_is =
        w.text_is
        ∙ ap (λ (t : List ℕ). codes " from " ++ (t ++ (codes " to " ++ (if is_to_all i then codes "all" else who_text p w.receiver i.ps))))
        (same_who_text G p q same w.sender i.sa)
        ∙ ap (λ (t : List ℕ). codes " from " ++ (who_text q w.sender i.sa ++ (codes " to " ++ (if is_to_all i then codes "all" else t))))
        (same_who_text G p q same w.receiver i.ps);
  }

  same_sending : (m : Message) (sent : Sending) → IsSendingOf p log m sent → IsSendingOf q log m sent
  same_sending m sent s = record {
    sender = s.sender;
    receiver = s.receiver;
    sender_is = taken m.ident.sa s.sender s.sender_is;
    receiver_is = taken m.ident.ps s.receiver s.receiver_is;
    sender_unit = s.sender_unit;
    aim_is = s.aim_is;
    unaddressed_is = s.unaddressed_is;
  }

  same_asked : (f : Frame) (asked : Option ℕ) → IsAsked p log f asked → IsAsked q log f asked
  same_asked f asked a = (a.0, same_sending (in_frame f) a.0 a.1, a.2 ∙ same_requested G p q same (requested_group f) a.0)

  same_answer_way : (f : Frame) (text : List ℕ) → IsAnswerWay p log f text → IsAnswerWay q log f text
  unfolding answer_way_text
  same_answer_way f text a =
      let stated = same_asker_or_source G p q same f in
      record {
        sender = a.sender;
        asker = a.asker;
        sender_is = taken f.ident.sa a.sender a.sender_is;
        asker_is = subst (λ (address : ℕ). IsTaken q log address a.asker) stated (taken (asker_or_source p f) a.asker a.asker_is);
        text_is =
            a.text_is
            ∙ ap (λ (t : List ℕ). codes " from " ++ (t ++ (codes " to " ++ (if asker_or_source p f == global_address then codes "all"
            else who_text p a.asker (asker_or_source p f))))) (same_who_text G p q same a.sender f.ident.sa)
            ∙ ap (λ (t : List ℕ). codes " from "
            ++ (who_text q a.sender f.ident.sa ++ (codes " to " ++ (if asker_or_source p f == global_address then codes "all"
            else t)))) (same_who_text G p q same a.asker (asker_or_source p f))
            ∙ ap (λ (address : ℕ). answer_way_text q a.sender f.ident.sa a.asker address) stated;
      }

  same_notice_events : (f : Frame) (sent : Sending) (asker : Who) → notice_events p f sent asker ≡ notice_events q f sent asker
  same_notice_events f sent asker =
      choose_same (requests_group f) _ _ _ _
      (λ asks. ap (λ (o : Option ℕ). option_to_list (option_map Asked o)) (same_requested G p q same (requested_group f) sent))
      (λ other. ap (λ (b : Bool). if b then refusal_events p f sent asker else []) (same_acknowledges G p q same f)
      ∙ ap (λ (address : ℕ). if acknowledges q f then (if is_refusal f then Refused (reply_of (acknowledged_group f) sent.sender
      (answer_aim address asker)) ∷ [] else []) else []) (same_asker_or_source G p q same f))

  same_brought : (sent : Sending) (sort : Sort) → brought_by p sent sort ≡ brought_by q sent sort
  same_brought sent sort = ap (λ (n : ℕ). Brought (reply_of n sent.sender sent.aim)) (same_number G p q same sort)

  same_messages : (sent ended : Sending) (sorts : List Sort) → message_events p sent ended sorts ≡ message_events q sent ended sorts
  same_messages sent ended [] = refl
  same_messages sent ended (sort ∷ sorts) =
      ap (λ (e : Event). e ∷ map (brought_by p ended) sorts) (same_brought sent sort)
      ∙ ap (λ (e : List Event). brought_by q sent sort ∷ e) (map_same (brought_by p ended) (brought_by q ended) (same_brought ended) sorts)

  same_stated : (f : Frame) (sorts : List Sort) (events : List Event) → AreEventsOf p log f sorts events → AreEventsOf q log f sorts events
  same_stated f sorts events t =
      let stated = same_asker_or_source G p q same f in
      let brought = same_messages t.sent t.ended sorts in
      let notice = same_notice_events f t.sent t.asker in
      record {
        sent = t.sent;
        ended = t.ended;
        asker = t.asker;
        ended_is = same_sending (ended_message f) t.ended t.ended_is;
        sent_is = same_sending (in_frame f) t.sent t.sent_is;
        asker_is = subst (λ (address : ℕ). IsTaken q log address t.asker) stated (taken (asker_or_source p f) t.asker t.asker_is);
        events_are =
            t.events_are
            ∙ ap (λ (e : List Event). e ++ message_events p t.sent t.ended sorts) notice
            ∙ ap (λ (e : List Event). notice_events q f t.sent t.asker ++ e) brought;
      }

  same_grouped : (front : List ℕ) (m : Message) (sent : Sending) (group : Option ℕ) (sort : Sort) (text : List ℕ)
      → IsGrouped p log front m sent group sort text → IsGrouped q log front m sent group sort text
  same_grouped front m sent None sort text is = is
  same_grouped front m sent (Some g) sort text is =
      let flow = same_fitting G p q same g sent in (
        is.0 ∙ ap (λ (o : Option ℕ). Grouped g o) flow,
        is.1,
        same_way m.ident is.1 is.2,
        record {
          value = is.3.value;
          value_is = sym (ap (λ (gs : List GroupPlan). slice_get gs g) same.groups) ∙ is.3.value_is;
          meets =
              is.3.meets
              ∙ ap (λ (o : Option ℕ). message_line is.3.value front is.1 o m ++ named_reading_lines p is.3.value m.bytes) flow
              ∙ ap (λ (t : List ℕ). message_line is.3.value front is.1 (fitting_flow q g sent) m ++ t) (same_reading G p q same is.3.value m.bytes);
        },
      )

  pub same_report : (front : List ℕ) (m : Message) (sort : Sort) (text : List ℕ) → IsMessageReport p log front m sort text
      → IsMessageReport q log front m sort text
  same_report front m sort text r = (
    r.0,
    r.1,
    same_sending m r.0 r.2,
    same_group G p q same m.pgn m.bytes r.0 r.1 r.3,
    same_grouped front m r.0 r.1 sort text r.4,
  )

  pub same_group_of : (m : Message) (group : Option ℕ) → IsGroupOfMessage p log m group → IsGroupOfMessage q log m group
  same_group_of m group is = (is.0, same_sending m is.0 is.1, same_group G p q same m.pgn m.bytes is.0 group is.2)

  pub same_events : (f : Frame) (sorts : List Sort) (events : List Event) → AreEventsOf p log f sorts events → AreEventsOf q log f sorts events
  same_events = same_stated

  -- the line of a frame of which nothing else is written
  pub bare_alike : (all_frames : Bool) (front : List ℕ) (f : Frame) (notice report bare : List ℕ) (n : IsNotice p log front f notice)
      → IsBareText p all_frames log front f (notice ++ report) bare
      → IsBareText q all_frames log front f (notice_alone p front f n.way n.asked n.back ++ report) bare
  bare_alike all_frames front f notice report bare n b =
      let none : (length (notice ++ report) == 0) ≡ (length (notice_alone p front f n.way n.asked n.back ++ report) == 0) =
      ap (λ (t : List ℕ). length (t ++ report) == 0) n.text_is ∙ sym (same_emptiness p front f n.way n.asked n.back report) in
      (b.0, same_way f.ident b.0 b.1, b.2 ∙ ap (λ (t : Bool). if all_frames && t then frame_line front b.0 f else []) none)

  -- ---- what is reported first

  module _ (silent : (name : ℕ) → identity_text q name ≡ []) (f : Frame) (states : (name : ℕ) → ClaimsOrCannot f name → G name) where
    claim_same : (front : List ℕ) (name address : ℕ) → G name → claim_text q front name address ≡ claim_alone p front name address
    unfolding claim_text claim_alone
    claim_same front name address g =
        ap (λ (t : List ℕ). front ++ (codes "claim " ++ (named_text q name ++ (field (codes "@") address ++ (t ++ 10 ∷ []))))) (silent name)
        ∙ ap (λ (t : List ℕ). front ++ (codes "claim " ++ (t ++ (field (codes "@") address ++ 10 ∷ [])))) (sym (same_named_text G p q same name g))

    cannot_same : (front : List ℕ) (name : ℕ) → G name → cannot_text q front name ≡ cannot_alone p front name
    unfolding cannot_text cannot_alone
    cannot_same front name g =
        ap (λ (t : List ℕ). front ++ (codes "cannot " ++ (named_text q name ++ (t ++ 10 ∷ [])))) (silent name)
        ∙ ap (λ (t : List ℕ). front ++ (codes "cannot " ++ (t ++ 10 ∷ []))) (sym (same_named_text G p q same name g))

    notice_same : (front way : List ℕ) (asked : Option ℕ) (back : List ℕ) → notice_text q front f way asked back ≡ notice_alone p front f way asked back
    notice_same front way asked back =
        choose_same (claims_address f) _ _ _ _
        (λ claims. claim_same front (name_in f) f.ident.sa
        (states (name_in f) (record { either = ap (λ (b : Bool). b || cannot_claim f) claims; name_is = refl })))
        (λ no. choose_same (cannot_claim f) _ _ _ _
        (λ cannot. cannot_same front (name_in f)
        (states (name_in f) (record { either = ap (λ (b : Bool). b || cannot_claim f) no ∙ cannot; name_is = refl })))
        (λ neither. sym (
        ap (λ (b : Bool). if b then claim_line p front f else if cannot_claim f then cannot_line p front f else asks p f front way asked back) no
        ∙ ap (λ (b : Bool). if b then cannot_line p front f else asks p f front way asked back) neither
        ∙ ap (λ (b : Bool). if requests_group f then asked_line front f way asked else if b then answer_line front f back else [])
        (same_acknowledges G p q same f)
        )))

    pub notice_alike : (front text : List ℕ) (n : IsNotice p log front f text)
        → IsNotice q log front f (notice_alone p front f n.way n.asked n.back)
    notice_alike front text n = record {
      way = n.way;
      back = n.back;
      asked = n.asked;
      way_is = same_way f.ident n.way n.way_is;
      back_is = same_answer_way f n.back n.back_is;
      asked_is = same_asked f n.asked n.asked_is;
      text_is = sym (notice_same front n.way n.asked n.back);
    }
