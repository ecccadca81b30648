-- By two plans that report alike of the NAMEs of a log its lines lead to the same, and the same is written at them, but for the serial numbers of
-- boxes.
use Rattle.std.proofs.Common.{◌≡◌, Bool, ℕ, suc, List, [], ◌∷◌, ◌++◌, length, Option, Some, None, inl, inr}
use Rattle.std.proofs.Common.{refl, sym, ap, subst, ◌∙◌, append_assoc}
use Rattle.std.specs.List.{All}
use Rattle.std.proofs.lemmas.List.{append-nil, map-append}
use Rattle.std.proofs.lemmas.List.Elements.{All-cons, All-nil}
use Rattle.j39_id.specs.Lines.{Line, Short, Long}
use Rattle.j39_id.specs.declared.frame.Frame.{Frame}
use Rattle.j39_id.specs.declared.line_error.LineError.{LineError}
use Rattle.j39_id.specs.declared.line_error.LineError.TheVariants.{Empty, NoHash, ShortIdent, BadIdent, TooLong, BadData}
use Rattle.j39_network.specs.declared.plan.Plan.{Plan}
use Rattle.j39_log.specs.LogPairs.{Seen}
use Rattle.j39_tp.specs.declared.packet.Packet.{Packet}
use Rattle.j39_tp.specs.declared.packet.Packet.TheVariants.{Rts, Cts, EndAck, Bam, Abort, Dt}
use Rattle.j39_follow.specs.Contests.{Timed, frames_of}
use Rattle.j39_follow.specs.FollowReports.{identity_text, in_frame, stamp}
use Rattle.j39_follow.specs.FollowText.{FollowedPast, FollowsFrame, FollowsLine, FollowsLines, FollowsPart, HeardSince, IsCarriedReport, IsFollowedAs}
use Rattle.j39_follow.specs.FollowText.{IsInOrderReport, IsPacketReport, IsReceivedReport, OneChangesHands}
use Rattle.j39_follow.specs.Received.{turned, way_packets}
use Rattle.j39_follow.specs.FollowText.{frames_seen, line_passed_over, lines_with, one_line_more}
use Rattle.j39_follow.specs.Holders.{ClaimsOrCannot}
use Rattle.j39_follow.specs.VehicleLogs.{IsButForNumber, NumberedLine, notice_alone, with_numbers, without_numbers}
use Rattle.j39_follow.specs.declared.message.Sort.{Sort}
use Rattle.j39_follow.proofs.Vehicles.Parties.{ReportAll, same_hands, report_front}
use Rattle.j39_follow.proofs.Vehicles.Reports.{bare_alike, notice_alike, same_events, same_group_of, same_report}
use Rattle.j39_follow.proofs.Vehicles.Units.{ReportAlike, flip}
use Rattle.j39_follow.proofs.GroupFrames.{frames_both}

-- ---- what a pair heard

report_at : (G : ℕ → Type 0) (front : List Seen) (x : Seen) (back : List Seen) → ReportAll G (frames_seen (front ++ x ∷ back))
    → ReportAll G (frames_seen front ++ x.frame ∷ [])
report_at G front x back all =
    let parted : frames_seen (front ++ x ∷ back) ≡ (frames_seen front ++ x.frame ∷ []) ++ frames_seen back =
    frames_both front (x ∷ back) ∙ sym (append_assoc (frames_seen front) (x.frame ∷ []) (frames_seen back)) in
    report_front G (frames_seen front ++ x.frame ∷ []) (frames_seen back) (subst (ReportAll G) parted all)

one_changes : (G : ℕ → Type 0) (p q : Plan) → ReportAlike G p q → (front : List Seen) (x : Seen) (back : List Seen)
    → ReportAll G (frames_seen (front ++ x ∷ back)) → (s d : ℕ) → OneChangesHands p front x s d → OneChangesHands q front x s d
one_changes G p q same front x back all s d (inl c) =
    inl (same_hands G p q same (frames_seen front) x.frame (report_at G front x back all) s c)
one_changes G p q same front x back all s d (inr c) =
    inr (same_hands G p q same (frames_seen front) x.frame (report_at G front x back all) d c)

heard_since : (G : ℕ → Type 0) (p q : Plan) → ReportAlike G p q → (seen : List Seen) → ReportAll G (frames_seen seen) → (s d : ℕ) (h : List Packet)
    (is : HeardSince p seen s d h) → (there : HeardSince q seen s d h) × (there.since ≡ is.since)
heard_since G p q same seen all s d h is = (
  record {
    before = is.before;
    since = is.since;
    row = is.row;
    anew = elim is.anew [
      | inl none ↦ inl none
      | inr c ↦
          let parted : seen ≡ c.0 ++ c.1 ∷ is.since =
          is.row ∙ ap (λ (t : List Seen). t ++ is.since) c.2 ∙ append_assoc c.0 (c.1 ∷ []) is.since in
          let known : ReportAll G (frames_seen (c.0 ++ c.1 ∷ is.since)) = subst (λ (t : List Seen). ReportAll G (frames_seen t)) parted all in
          inr (c.0, c.1, c.2, one_changes G p q same c.0 c.1 is.since known s d c.3)
    ];
    steady = λ front x back row c.
        let parted : seen ≡ (is.before ++ front) ++ x ∷ back =
        is.row ∙ ap (λ (t : List Seen). is.before ++ t) row ∙ sym (append_assoc is.before front (x ∷ back)) in
        let known : ReportAll G (frames_seen ((is.before ++ front) ++ x ∷ back)) = subst (λ (t : List Seen). ReportAll G (frames_seen t)) parted all in
        is.steady front x back row (one_changes G q p (flip G p q same) (is.before ++ front) x back known s d c);
    packets_are = is.packets_are;
  },
  refl,
)

-- ---- a frame

module _ (G : ℕ → Type 0) (p q : Plan) (same : ReportAlike G p q) (log : List Timed) (all : ReportAll G (frames_of log)) where
  followed_as : (f : Frame) (packet : Option Packet) → IsFollowedAs p log f packet → IsFollowedAs q log f packet
  followed_as f (Some packet) is = (same_group_of G p q same log all (in_frame f) None is.0, is.1)
  followed_as f None (inl none) = inl none
  followed_as f None (inr grouped) = inr (grouped.0, same_group_of G p q same log all (in_frame f) (Some grouped.0) grouped.1)

  carried_report : (front : List ℕ) (h : List Packet) (place : ℕ) (f : Frame) (sorts : List Sort) (text : List ℕ)
      → IsCarriedReport p log front h place f sorts text → IsCarriedReport q log front h place f sorts text
  carried_report front h place f sorts text (inl c) =
      inl (
        c.0,
        c.1,
        c.2,
        c.3,
        same_report G p q same log all front (record { pgn = c.0; bytes = c.1; ident = f.ident; framed = None }) c.2 text c.4,
        c.5,
      )
  carried_report front h place f sorts text (inr none) = inr none

  received_report : (front : List ℕ) (h : List Packet) (size pgn : ℕ) (f : Frame) (sorts : List Sort) (text : List ℕ)
      → IsReceivedReport p log front h size pgn f sorts text → IsReceivedReport q log front h size pgn f sorts text
  received_report front h size pgn f sorts text (inl r) =
      inl (
        r.0,
        r.1,
        r.2,
        same_report G p q same log all front (record { pgn = pgn; bytes = r.0; ident = turned f.ident; framed = None }) r.1 text r.3,
        r.4,
      )
  received_report front h size pgn f sorts text (inr none) = inr none

  in_order_report : (before : List Seen) → ReportAll G (frames_seen before) → (front : List ℕ) (f : Frame) (packet : Packet) (sorts : List Sort)
      (text : List ℕ) → IsInOrderReport p before log front f packet sorts text → IsInOrderReport q before log front f packet sorts text
  in_order_report before seen front f packet sorts text is = (
    is.0,
    (heard_since G p q same before seen f.ident.sa f.ident.ps is.0 is.1).0,
    carried_report front (is.0 ++ packet ∷ []) (length is.0) f sorts text is.2,
  )

  packet_report : (before : List Seen) → ReportAll G (frames_seen before) → (front : List ℕ) (f : Frame) (packet : Option Packet) (sorts : List Sort)
      (text : List ℕ) → IsPacketReport p before log front f packet sorts text → IsPacketReport q before log front f packet sorts text
  packet_report before seen front f None sorts text is = is
  packet_report before seen front f (Some (EndAck size pgn)) sorts text is =
      let since = heard_since G p q same before seen f.ident.ps f.ident.sa is.0 is.1 in (
        is.0,
        since.0,
        subst (λ (t : List Seen). IsReceivedReport q log front (way_packets f.ident.ps f.ident.sa t) size pgn f sorts text) (sym since.1)
            (received_report front (way_packets f.ident.ps f.ident.sa is.1.since) size pgn f sorts text is.2),
      )
  packet_report before seen front f (Some (Rts size limit pgn)) sorts text is = in_order_report before seen front f (Rts size limit pgn) sorts text is
  packet_report before seen front f (Some (Cts count first pgn)) sorts text is = in_order_report before seen front f (Cts count first pgn) sorts text is
  packet_report before seen front f (Some (Bam size pgn)) sorts text is = in_order_report before seen front f (Bam size pgn) sorts text is
  packet_report before seen front f (Some (Abort reason pgn)) sorts text is = in_order_report before seen front f (Abort reason pgn) sorts text is
  packet_report before seen front f (Some (Dt number chunk)) sorts text is = in_order_report before seen front f (Dt number chunk) sorts text is

-- what is written at a line by the one plan, and by the other one, which leads to the same
pub record SameStep (p q : Plan) (text : List ℕ) (Leads : List ℕ → Type 0) : Type 0 where
  pub row : NumberedLine
  pub text_is : text ≡ row.notice ++ row.rest
  pub leads : Leads (row.alone ++ row.rest)
  pub but_for_number : IsButForNumber p row

abbrev blank : NumberedLine
blank = record { notice = []; alone = []; rest = [] }

-- the frames with times are those that were seen, and each NAME of which they report meets G
pub record Remembers (G : ℕ → Type 0) (past : FollowedPast) : Type 0 where
  pub frames : frames_of past.timed ≡ frames_seen past.seen
  pub states : ReportAll G (frames_seen past.seen)

module _ (G : ℕ → Type 0) (p q : Plan) (same : ReportAlike G p q) (silent : (name : ℕ) → identity_text q name ≡ []) (all_frames : Bool) where
  frame_alike : (past : FollowedPast) (time : List ℕ) (named : Option (List ℕ)) (f : Frame) (next : FollowedPast) (text : List ℕ)
      → Remembers G past → Remembers G next → FollowsFrame p all_frames past time named f next text
      → SameStep p q text (FollowsFrame q all_frames past time named f next)
  frame_alike past time named f next text before behind a = record {
    row = record { notice = a.notice; alone = alone; rest = a.report ++ (a.bare ++ a.carried) };
    text_is = a.text_is;
    leads = record {
      packet = a.packet;
      sort = a.sort;
      sorts = a.sorts;
      events = a.events;
      notice = alone;
      report = a.report;
      bare = a.bare;
      carried = a.carried;
      heard_as = followed_as G p q same log all f a.packet a.heard_as;
      notice_is = notice_alike G p q same log all silent f states front a.notice a.notice_is;
      report_is = same_report G p q same log all front (in_frame f) a.sort a.report a.report_is;
      bare_is = bare_alike G p q same log all all_frames front f a.notice a.report a.bare a.notice_is a.bare_is;
      carried_is = packet_report G p q same log all past.seen before.states front f a.packet a.sorts a.carried a.carried_is;
      events_are = same_events G p q same log all f (a.sort ∷ a.sorts) a.events a.events_are;
      text_is = refl;
      next_is = a.next_is;
    };
    but_for_number = inr (record { log = log; front = front; frame = f; notice = a.notice_is; alone = refl });
  } where
    log : List Timed
    log = lines_with past f time

    front : List ℕ
    front = stamp past.number time

    all : ReportAll G (frames_of log)
    all = subst (ReportAll G) (sym (ap (λ (r : FollowedPast). frames_of r.timed) (sym a.next_is) ∙ behind.frames)) behind.states

    last : frames_of log ≡ frames_of past.timed ++ f ∷ []
    last = map-append (λ (t : Timed). t.frame) past.timed _

    states : (name : ℕ) → ClaimsOrCannot f name → G name
    states name t = all (frames_of past.timed) f [] last name t

    alone : List ℕ
    alone = notice_alone p front f a.notice_is.way a.notice_is.asked a.notice_is.back

-- ---- how the past grows

pub record Grown (past next : FollowedPast) : Type 0 where
  pub more : List Seen
  pub seen : next.seen ≡ past.seen ++ more
  pub timed : frames_of next.timed ≡ frames_of past.timed ++ frames_seen more

kept : (past : FollowedPast) → Grown past past
kept past = record { more = []; seen = sym (append-nil past.seen); timed = sym (append-nil (frames_of past.timed)) }

joined : (a b c : FollowedPast) → Grown a b → Grown b c → Grown a c
joined a b c one other = record {
  more = one.more ++ other.more;
  seen = other.seen ∙ ap (λ (t : List Seen). t ++ other.more) one.seen ∙ append_assoc a.seen one.more other.more;
  timed =
      other.timed ∙ ap (λ (t : List Frame). t ++ frames_seen other.more) one.timed
      ∙ append_assoc (frames_of a.timed) (frames_seen one.more) (frames_seen other.more)
      ∙ ap (λ (t : List Frame). frames_of a.timed ++ t) (sym (frames_both one.more other.more));
}

passed_grown : (e : LineError) (past : FollowedPast) → Grown past (line_passed_over e past)
passed_grown Empty past = kept past
passed_grown NoHash past = record { more = []; seen = sym (append-nil past.seen); timed = sym (append-nil (frames_of past.timed)) }
passed_grown ShortIdent past = record { more = []; seen = sym (append-nil past.seen); timed = sym (append-nil (frames_of past.timed)) }
passed_grown BadIdent past = record { more = []; seen = sym (append-nil past.seen); timed = sym (append-nil (frames_of past.timed)) }
passed_grown TooLong past = record { more = []; seen = sym (append-nil past.seen); timed = sym (append-nil (frames_of past.timed)) }
passed_grown BadData past = record { more = []; seen = sym (append-nil past.seen); timed = sym (append-nil (frames_of past.timed)) }

part_grown : (p : Plan) (all_frames : Bool) (past : FollowedPast) (line part : List ℕ) (named : Option (List ℕ)) (next : FollowedPast) (text : List ℕ)
    → FollowsPart p all_frames past line part named next text → Grown past next
part_grown p all_frames past line part named next text (inl a) = record {
  more = record { frame = a.0; packet = a.4.packet } ∷ [];
  seen = ap (λ (r : FollowedPast). r.seen) a.4.next_is;
  timed = ap (λ (r : FollowedPast). frames_of r.timed) a.4.next_is ∙ map-append (λ (t : Timed). t.frame) past.timed _;
}
part_grown p all_frames past line part named next text (inr fault) =
    subst (λ (r : FollowedPast). Grown past r) (sym fault.2) (passed_grown fault.0 past)

line_grown : (p : Plan) (all_frames : Bool) (past : FollowedPast) (line : Line) (next : FollowedPast) (text : List ℕ)
    → FollowsLine p all_frames past line next text
    → Grown past next
line_grown p all_frames past (Short line) next text follows = elim follows.4 [
  | inl away ↦ record {
    more = [];
    seen = ap (λ (r : FollowedPast). r.seen) away.1 ∙ sym (append-nil past.seen);
    timed = ap (λ (r : FollowedPast). frames_of r.timed) away.1 ∙ sym (append-nil (frames_of past.timed));
  }
  | inr here ↦
      let grown = part_grown p all_frames (one_line_more past) line follows.0 follows.1 next text here.1 in
      record { more = grown.more; seen = grown.seen; timed = grown.timed }
]
line_grown p all_frames past Long next text follows = record {
  more = [];
  seen = ap (λ (r : FollowedPast). r.seen) follows.0 ∙ sym (append-nil past.seen);
  timed = ap (λ (r : FollowedPast). frames_of r.timed) follows.0 ∙ sym (append-nil (frames_of past.timed));
}

lines_grown : (p : Plan) (all_frames : Bool) (past : FollowedPast) (all : List Line) (end : FollowedPast) (text : List ℕ)
    → FollowsLines p all_frames past all end text
    → Grown past end
lines_grown p all_frames past [] end text follows = subst (λ (r : FollowedPast). Grown past r) (sym follows.0) (kept past)
lines_grown p all_frames past (line ∷ all) end text follows =
    joined past follows.0 end (line_grown p all_frames past line follows.0 follows.1 follows.3) (lines_grown p all_frames follows.0 all end follows.2 follows.4)

remembered : (G : ℕ → Type 0) (past end : FollowedPast) → Grown past end → frames_of past.timed ≡ frames_seen past.seen
    → ReportAll G (frames_seen end.seen) → Remembers G past
remembered G past end grown frames all =
    let parted : frames_seen end.seen ≡ frames_seen past.seen ++ frames_seen grown.more =
    ap frames_seen grown.seen ∙ frames_both past.seen grown.more in
    record { frames = frames; states = report_front G (frames_seen past.seen) (frames_seen grown.more) (subst (ReportAll G) parted all) }

frames_grown : (past next : FollowedPast) → Grown past next → frames_of past.timed ≡ frames_seen past.seen → frames_of next.timed ≡ frames_seen next.seen
frames_grown past next grown frames =
    grown.timed ∙ ap (λ (t : List Frame). t ++ frames_seen grown.more) frames ∙ sym (ap frames_seen grown.seen ∙ frames_both past.seen grown.more)

-- ---- a line

module _ (G : ℕ → Type 0) (p q : Plan) (same : ReportAlike G p q) (silent : (name : ℕ) → identity_text q name ≡ []) (all_frames : Bool) where
  part_alike : (past : FollowedPast) (line part : List ℕ) (named : Option (List ℕ)) (next : FollowedPast) (text : List ℕ)
      → Remembers G past → Remembers G next → FollowsPart p all_frames past line part named next text
      → SameStep p q text (FollowsPart q all_frames past line part named next)
  part_alike past line part named next text before behind (inl a) =
      let step = frame_alike G p q same silent all_frames past a.1 named a.0 next text before behind a.4 in
      record {
        row = step.row;
        text_is = step.text_is;
        leads = inl (a.0, a.1, a.2, a.3, step.leads);
        but_for_number = step.but_for_number;
      }
  part_alike past line part named next text before behind (inr fault) = record {
    row = blank;
    text_is = fault.3;
    leads = inr (fault.0, fault.1, fault.2, refl);
    but_for_number = inl (refl, refl);
  }

  line_alike : (past : FollowedPast) (line : Line) (next : FollowedPast) (text : List ℕ) → Remembers G past → Remembers G next
      → FollowsLine p all_frames past line next text → SameStep p q text (FollowsLine q all_frames past line next)
  line_alike past (Short line) next text before behind follows = elim follows.4 [
    | inl away ↦ record {
      row = blank;
      text_is = away.2;
      leads = (follows.0, follows.1, follows.2, follows.3, inl (away.0, away.1, refl));
      but_for_number = inl (refl, refl);
    }
    | inr here ↦
        let step = part_alike (one_line_more past) line follows.0 follows.1 next text (record { frames = before.frames; states = before.states }) behind
        here.1 in
        record {
          row = step.row;
          text_is = step.text_is;
          leads = (follows.0, follows.1, follows.2, follows.3, inr (here.0, step.leads));
          but_for_number = step.but_for_number;
        }
  ]
  line_alike past Long next text before behind follows = record {
    row = blank;
    text_is = follows.1;
    leads = (follows.0, refl);
    but_for_number = inl (refl, refl);
  }

-- all lines, one after another
pub record SameLines (p q : Plan) (all_frames : Bool) (past : FollowedPast) (all : List Line) (end : FollowedPast) (text : List ℕ) : Type 0 where
  pub rows : List NumberedLine
  pub text_is : text ≡ with_numbers rows
  pub leads : FollowsLines q all_frames past all end (without_numbers rows)
  pub each : length rows ≡ length all
  pub but_for_numbers : All (IsButForNumber p) rows

pub lines_alike : (G : ℕ → Type 0) (p q : Plan) → ReportAlike G p q → ((name : ℕ) → identity_text q name ≡ []) → (all_frames : Bool) (all : List Line)
    (past : FollowedPast) (end : FollowedPast) (text : List ℕ) → frames_of past.timed ≡ frames_seen past.seen → ReportAll G (frames_seen end.seen)
    → FollowsLines p all_frames past all end text → SameLines p q all_frames past all end text
unfolding with_numbers without_numbers
lines_alike G p q same silent all_frames [] past end text frames states follows = record {
  rows = [];
  text_is = follows.1;
  leads = (follows.0, refl);
  each = refl;
  but_for_numbers = All-nil (IsButForNumber p);
}
lines_alike G p q same silent all_frames (line ∷ all) past end text frames states follows =
    let first = line_grown p all_frames past line follows.0 follows.1 follows.3 in
    let rest = lines_grown p all_frames follows.0 all end follows.2 follows.4 in
    let known = frames_grown past follows.0 first frames in
    let before = remembered G past end (joined past follows.0 end first rest) frames states in
    let behind = remembered G follows.0 end rest known states in
    let step = line_alike G p q same silent all_frames past line follows.0 follows.1 before behind follows.3 in
    let further = lines_alike G p q same silent all_frames all follows.0 end follows.2 known states follows.4 in
    record {
      rows = step.row ∷ further.rows;
      text_is =
          follows.5 ∙ ap (λ (t : List ℕ). t ++ follows.2) step.text_is
          ∙ ap (λ (t : List ℕ). (step.row.notice ++ step.row.rest) ++ t) further.text_is;
      leads = (follows.0, step.row.alone ++ step.row.rest, without_numbers further.rows, step.leads, further.leads, refl);
      each = ap suc further.each;
      but_for_numbers = All-cons (IsButForNumber p) step.row further.rows step.but_for_number further.but_for_numbers;
    }
