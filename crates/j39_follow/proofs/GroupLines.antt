-- What `follow` and `read` write of the groups of one log, line after line.
use Rattle.std.proofs.Common.{◌≡◌, ◌+◌, ◌-◌, ◌==◌, ◌&&◌, ℕ, Bool, List, [], ◌∷◌, ◌++◌, length}
use Rattle.std.proofs.Common.{Option, inl, inr, refl, sym, ap, subst, ◌∙◌, arith, append_assoc, eqb-true, if◌then◌else◌}
use Rattle.std.specs.List.{All}
use Rattle.std.proofs.lemmas.Bool.{cases_Bool, and_parts}
use Rattle.std.proofs.lemmas.List.{append-nil, nil_from_length}
use Rattle.std.proofs.lemmas.List.Elements.{All-cons, All-head, All-nil, All-tail}
use Rattle.j39_id.proofs.LineLaws.{not_both, one_spelled}
use Rattle.j39_id.specs.FrameLine.{HasLineFault, Spells}
use Rattle.j39_id.specs.Lines.{Line, Short, Long, lines}
use Rattle.j39_id.specs.declared.frame.Frame.{Frame}
use Rattle.j39_id.specs.declared.line_error.LineError.{LineError}
use Rattle.j39_id.specs.declared.line_error.LineError.TheVariants.{Empty, NoHash, ShortIdent, BadIdent, TooLong, BadData}
use Rattle.j39_network.specs.PrivateGroups.{HasNoPrivate}
use Rattle.j39_network.specs.declared.plan.Plan.{Plan}
use Rattle.j39_log.specs.LogPairs.{Seen}
use Rattle.j39_log.specs.ReadText.{IsFrameReport, Past, ReadsFrame, ReadsLine, ReadsLines, nothing_yet, passed_over}
use Rattle.j39_tp.specs.declared.packet.Packet.{Packet}
use Rattle.j39_follow.specs.Alike.{IsUndirected}
use Rattle.j39_follow.specs.Contests.{Timed}
use Rattle.j39_follow.specs.FollowReports.{IsBareText, IsNotice, frame_line, stamp}
use Rattle.j39_follow.specs.FollowText.{FollowedPast, FollowsFrame, FollowsLine, FollowsLines, FollowsPart}
use Rattle.j39_follow.specs.FollowText.{frames_seen, line_passed_over, lines_with, nothing_followed, one_line_more}
use Rattle.j39_follow.specs.GroupLines.{ReportAlike, GroupsAreReportedAlike, IsNoticed, IsThinned, IsWhole, LineTexts, StayInHands, all_followed}
use Rattle.j39_follow.specs.GroupLines.{all_read}
use Rattle.j39_follow.proofs.Alike.{line_grows, lines_grow, whole_part}
use Rattle.j39_follow.proofs.GroupFrames.{body_alike, frames_both, same_packet, stay_front}

left_empty : (a b : List ℕ) → a ++ b ≡ [] → a ≡ []
left_empty [] b none = refl
left_empty (x ∷ a) b none = cc

-- ---- a line

-- the texts of one line, and what came before the next one is the same for both
pub record LineAlike (plan : Plan) (before : List Seen) (t u : List ℕ) (followed read : List Seen) : Type 0 where
  pub row : LineTexts
  pub text_is : t ≡ row.notice ++ row.followed
  pub read_is : u ≡ row.read
  pub noticed : IsNoticed plan row
  pub thinned : IsThinned plan row
  pub whole : StayInHands plan (frames_seen before) → IsWhole plan row
  pub seen : followed ≡ read
  pub grown : (more : List Seen) × (followed ≡ before ++ more)

abbrev blank_row : LineTexts
blank_row = record { notice = []; followed = []; read = [] }

nothing_alike : (plan : Plan) (before : List Seen) (t u : List ℕ) (followed read : List Seen) → t ≡ [] → u ≡ [] → followed ≡ before → followed ≡ read
    → LineAlike plan before t u followed read
nothing_alike plan before t u followed read empty blank same seen = record {
  row = blank_row;
  text_is = empty;
  read_is = blank;
  noticed = inl refl;
  thinned = inl refl;
  whole = λ _. inl (refl, refl);
  seen = seen;
  grown = ([], same ∙ sym (append-nil before));
}

-- what stands before what is written of groups is a notice, or a frame itself, of which nothing else is written then
before_groups : (plan : Plan) (all_frames : Bool) (log : List Timed) (front : List ℕ) (f : Frame) (notice report bare carried read : List ℕ)
    → IsNotice plan log front f notice → IsBareText plan all_frames log front f (notice ++ report) bare
    → (stated : List ℕ) × IsNoticed plan (record { notice = stated; followed = report ++ carried; read = read })
    × (notice ++ (report ++ (bare ++ carried)) ≡ stated ++ (report ++ carried))
before_groups plan all_frames log front f notice report bare carried read is (way, way_is, text) =
    elim (cases_Bool (all_frames && length (notice ++ report) == 0)) [
      | inl itself ↦
          let whole : bare ≡ frame_line front way f = text ∙ ap (λ (b : Bool). if b then frame_line front way f else []) itself in
          let none : notice ++ report ≡ [] = nil_from_length _ (eqb-true _ 0 (and_parts all_frames _ itself).1) in
          let first : notice ≡ [] = left_empty notice report none in
          let second : report ≡ [] = sym (ap (λ (t : List ℕ). t ++ report) first) ∙ none in (
            bare,
            inr (inr (front, way, f, whole)),
            ap (λ (t : List ℕ). t ++ (report ++ (bare ++ carried))) first ∙ ap (λ (t : List ℕ). t ++ (bare ++ carried)) second
                ∙ sym (ap (λ (t : List ℕ). bare ++ (t ++ carried)) second),
          )
      | inr stated ↦
          let none : bare ≡ [] = text ∙ ap (λ (b : Bool). if b then frame_line front way f else []) stated in (
            notice,
            inr (inl (log, front, f, is)),
            ap (λ (t : List ℕ). notice ++ (report ++ (t ++ carried))) none,
          )
    ]

frame_alike : (plan : Plan) (all_frames : Bool) → HasNoPrivate plan → (past : FollowedPast) (read : Past) (time : List ℕ) (named : Option (List ℕ)) (f : Frame)
    (next : FollowedPast) (other : Past) (t u : List ℕ) → past.seen ≡ read.seen → FollowsFrame plan all_frames past time named f next t
    → ReadsFrame plan read f other u → LineAlike plan past.seen t u next.seen other.seen
frame_alike plan all_frames shared past read time named f next other t u seen a b =
    let packet : a.packet ≡ b.0 = same_packet plan shared (lines_with past f time) f a.packet b.0 a.heard_as b.1 in
    let at_packet : IsFrameReport plan read.seen f a.packet u = subst (λ (p : Option Packet). IsFrameReport plan read.seen f p u) (sym packet) b.2 in
    let at_seen : IsFrameReport plan past.seen f a.packet u = subst (λ (s : List Seen). IsFrameReport plan s f a.packet u) (sym seen) at_packet in
    let body = body_alike plan shared past.seen (lines_with past f time) (stamp past.number time) f a.packet a.sort a.sorts a.report a.carried u
    a.heard_as a.report_is a.carried_is at_seen in
    let before = before_groups plan all_frames (lines_with past f time) (stamp past.number time) f a.notice a.report a.bare a.carried u a.notice_is a.bare_is in
    let step : next.seen ≡ past.seen ++ record { frame = f; packet = a.packet } ∷ [] = ap (λ (p : FollowedPast). p.seen) a.next_is in
    record {
      row = record { notice = before.0; followed = a.report ++ a.carried; read = u };
      text_is = a.text_is ∙ before.2;
      read_is = refl;
      noticed = before.1;
      thinned = body.thinned;
      whole = body.whole;
      seen =
          step ∙ ap (λ (s : List Seen). s ++ record { frame = f; packet = a.packet } ∷ []) seen
          ∙ ap (λ (p : Option Packet). read.seen ++ record { frame = f; packet = p } ∷ []) packet ∙ sym (ap (λ (p : Past). p.seen) b.3);
      grown = (record { frame = f; packet = a.packet } ∷ [], step);
    }

passed_seen : (e : LineError) (past : FollowedPast) → (line_passed_over e past).seen ≡ past.seen
passed_seen Empty past = refl
passed_seen NoHash past = refl
passed_seen ShortIdent past = refl
passed_seen BadIdent past = refl
passed_seen TooLong past = refl
passed_seen BadData past = refl

over_seen : (e : LineError) (past : Past) → (passed_over e past).seen ≡ past.seen
over_seen Empty past = refl
over_seen NoHash past = refl
over_seen ShortIdent past = refl
over_seen BadIdent past = refl
over_seen TooLong past = refl
over_seen BadData past = refl

part_alike : (plan : Plan) (all_frames : Bool) → HasNoPrivate plan
    → (past : FollowedPast) (read : Past) (line part : List ℕ) (named : Option (List ℕ)) (next : FollowedPast)
    (other : Past) (t u : List ℕ) → part ≡ line → past.seen ≡ read.seen → FollowsPart plan all_frames past line part named next t
    → ReadsLine plan read (Short line) other u → LineAlike plan past.seen t u next.seen other.seen
part_alike plan all_frames shared past read line part named next other t u whole seen (inl f) (inl g) =
    let same : f.0 ≡ g.0 = one_spelled line f.0 g.0 (subst (λ (p : List ℕ). Spells p f.0) whole f.2) g.1 in
    frame_alike plan all_frames shared past read f.1 named g.0 next other t u seen
    (subst (λ (x : Frame). FollowsFrame plan all_frames past f.1 named x next t) same f.4) g.2
part_alike plan all_frames shared past read line part named next other t u whole seen (inl f) (inr g) =
    absurd (not_both line f.0 g.0 (subst (λ (p : List ℕ). Spells p f.0) whole f.2) g.1)
part_alike plan all_frames shared past read line part named next other t u whole seen (inr f) (inl g) =
    absurd (not_both line g.0 f.0 g.1 (subst (λ (p : List ℕ). HasLineFault p f.0) whole f.1))
part_alike plan all_frames shared past read line part named next other t u whole seen (inr f) (inr g) =
    let here : next.seen ≡ past.seen = ap (λ (p : FollowedPast). p.seen) f.2 ∙ passed_seen f.0 past in
    let there : other.seen ≡ read.seen = ap (λ (p : Past). p.seen) g.2 ∙ over_seen g.0 read in
    nothing_alike plan past.seen t u next.seen other.seen f.3 g.3 here (here ∙ seen ∙ sym there)

line_alike : (plan : Plan) (all_frames : Bool) → HasNoPrivate plan
    → (past : FollowedPast) (read : Past) (line : Line) (next : FollowedPast) (other : Past) (t u : List ℕ)
    → past.seen ≡ read.seen → IsUndirected line → FollowsLine plan all_frames past line next t → next.elsewhere ≡ past.elsewhere
    → ReadsLine plan read line other u → LineAlike plan past.seen t u next.seen other.seen
line_alike plan all_frames shared past read (Short line) next other t u seen undirected follows stays reads = elim follows.4 [
  | inl away ↦ (let e = ap (λ (p : FollowedPast). p.elsewhere) away.1 in absurd (omega (arith, e, stays)))
  | inr here ↦
      part_alike plan all_frames shared (one_line_more past) read line follows.0 follows.1 next other t u (whole_part line follows.0 undirected follows.2)
      seen here.1 reads
]
line_alike plan all_frames shared past read Long next other t u seen undirected follows stays reads =
    let here : next.seen ≡ past.seen = ap (λ (p : FollowedPast). p.seen) follows.0 in
    let there : other.seen ≡ read.seen = ap (λ (p : Past). p.seen) reads.0 in
    nothing_alike plan past.seen t u next.seen other.seen follows.1 reads.1 here (here ∙ seen ∙ sym there)

-- ---- all lines

lines_alike : (plan : Plan) (all_frames : Bool) → HasNoPrivate plan
    → (log : List Line) (past : FollowedPast) (read : Past) (end : FollowedPast) (other : Past) (t u : List ℕ)
    → past.seen ≡ read.seen → All IsUndirected log → FollowsLines plan all_frames past log end t → end.elsewhere ≡ past.elsewhere
    → ReadsLines plan read log other u → ReportAlike plan (frames_seen end.seen) t u × ((more : List Seen) × (end.seen ≡ past.seen ++ more))
unfolding all_followed all_read
lines_alike plan all_frames shared [] past read end other t u seen undirected follows stays reads = (
  record {
    rows = [];
    reports_are = follows.1;
    texts_are = reads.1;
    noticed = All-nil (IsNoticed plan);
    thinned = All-nil (IsThinned plan);
    whole = λ _. All-nil (IsWhole plan);
  },
  ([], ap (λ (p : FollowedPast). p.seen) follows.0 ∙ sym (append-nil past.seen)),
)
lines_alike plan all_frames shared (line ∷ log) past read end other t u seen undirected follows stays reads =
    let first = line_grows plan all_frames past line follows.0 follows.1 follows.3 in
    let rest = lines_grow plan all_frames follows.0 log end follows.2 follows.4 in
    let here : follows.0.elsewhere ≡ past.elsewhere = omega (arith, first, rest, stays) in
    let behind : end.elsewhere ≡ follows.0.elsewhere = omega (arith, first, rest, stays) in
    let now = line_alike plan all_frames shared past read line follows.0 reads.0 follows.1 reads.1 seen
    (All-head IsUndirected line log undirected) follows.3 here
    reads.3 in
    let later = lines_alike plan all_frames shared log follows.0 reads.0 end other follows.2 reads.2 now.seen
    (All-tail IsUndirected line log undirected) follows.4
    behind reads.4 in
    let stated = later.0 in
    let more = now.grown.0 ++ later.1.0 in
    let grown : end.seen ≡ past.seen ++ more =
    later.1.1 ∙ ap (λ (s : List Seen). s ++ later.1.0) now.grown.1 ∙ append_assoc past.seen now.grown.0 later.1.0 in (
      record {
        rows = now.row ∷ stated.rows;
        reports_are =
            follows.5 ∙ ap (λ (x : List ℕ). x ++ follows.2) now.text_is ∙ ap (λ (x : List ℕ). (now.row.notice ++ now.row.followed) ++ x) stated.reports_are;
        texts_are = reads.5 ∙ ap (λ (x : List ℕ). x ++ reads.2) now.read_is ∙ ap (λ (x : List ℕ). now.row.read ++ x) stated.texts_are;
        noticed = All-cons (IsNoticed plan) now.row stated.rows now.noticed stated.noticed;
        thinned = All-cons (IsThinned plan) now.row stated.rows now.thinned stated.thinned;
        whole = λ stay.
            let before : StayInHands plan (frames_seen past.seen) =
            stay_front plan (frames_seen past.seen) (frames_seen more)
            (subst (StayInHands plan) (ap frames_seen grown ∙ frames_both past.seen more) stay) in
            All-cons (IsWhole plan) now.row stated.rows (now.whole before) (stated.whole stay);
      },
      (more, grown),
    )

pub reported_alike : GroupsAreReportedAlike
reported_alike plan all_frames log followed read reports texts shared undirected follows none reads =
    (lines_alike plan all_frames shared (lines log) nothing_followed nothing_yet followed read reports texts refl undirected follows none reads).0
