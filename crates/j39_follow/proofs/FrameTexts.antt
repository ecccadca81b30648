-- What a frame is, and what is written at it.
use Rattle.std.proofs.Common.{◌≡◌, ◌++◌, ◌==◌, ◌&&◌, ℕ, Bool, true, false, if◌then◌else◌, List, [], length, Option, Some, None, inl, inr, refl, sym, ap, subst}
use Rattle.std.proofs.Common.{◌∙◌}
use Rattle.std.proofs.Common.{append_assoc, arith, eq-eqb, eqb-true}
use Rattle.std.proofs.lemmas.Bool.{cases_Bool, eqb-false, ne_eqb, false≢true}
use Rattle.std.proofs.lemmas.List.{length-append}
use Rattle.j39_id.specs.declared.frame.Frame.{Frame}
use Rattle.j39_network.specs.declared.plan.Plan.{Plan}
use Rattle.j39_follow.specs.Contests.{Timed}
use Rattle.j39_follow.specs.Fits.{IsSentGroup}
use Rattle.j39_follow.specs.FollowReports.{IsBareText, IsGroupOfMessage, IsGrouped, IsMessageReport, IsNotice, IsSendingOf, Message, bare_text, in_frame}
use Rattle.j39_follow.specs.declared.message.Sort.{Sort}
use Rattle.j39_follow.specs.declared.pair.heard_pairs.HeardPairs.{HeardPairs}
use Rattle.j39_follow.specs.declared.request.exchanges.Exchanges.{Exchanges}
use Rattle.j39_follow.specs.declared.flow.sending.Sending.{Sending}
use Rattle.j39_follow.specs.declared.address.known_parties.Parties.{Parties}
use Rattle.j39_follow.specs.inside.Contesting.{ShowsParties}
use Rattle.j39_follow.specs.inside.FrameWriting.{IsItselfWritten, WritesFrame}
use Rattle.j39_follow.specs.inside.Reporting.{is_grouped}

-- what counts as of a group is one
pub is_a_group : (plan : Plan) (log : List Timed) (front : List ℕ) (m : Message) (sort : Sort) (text : List ℕ) (sent : Sending) (group : Option ℕ)
    → IsSendingOf plan log m sent → IsSentGroup plan m.pgn m.bytes sent group → IsGrouped plan log front m sent group sort text
    → is_grouped sort ≡ true → (g : ℕ) × IsGroupOfMessage plan log m (Some g)
is_a_group plan log front m sort text sent (Some g) sending of grouped e = (g, (sent, sending, of))
is_a_group plan log front m sort text sent None sending of grouped e = absurd (false≢true (sym (ap is_grouped grouped.0) ∙ e))

-- and what doesn't is none
pub is_no_group : (plan : Plan) (log : List Timed) (front : List ℕ) (m : Message) (sort : Sort) (text : List ℕ) (sent : Sending) (group : Option ℕ)
    → IsSendingOf plan log m sent → IsSentGroup plan m.pgn m.bytes sent group → IsGrouped plan log front m sent group sort text
    → is_grouped sort ≡ false → IsGroupOfMessage plan log m None
is_no_group plan log front m sort text sent (Some g) sending of grouped e = absurd (false≢true (sym e ∙ ap is_grouped grouped.0))
is_no_group plan log front m sort text sent None sending of grouped e = (sent, sending, of)

-- three texts after one another
pub three_texts : (old a b c first second third : List ℕ) → first ≡ old ++ a → second ≡ first ++ b → third ≡ second ++ c
    → third ≡ old ++ (a ++ (b ++ c))
three_texts old a b c first second third x y z =
    z ∙ ap (λ (t : List ℕ). t ++ c) (y ∙ ap (λ (t : List ℕ). t ++ b) x)
    ∙ append_assoc (old ++ a) b c ∙ append_assoc old a (b ++ c)

-- four texts after one another, of which three are one piece
pub last_text : (old a b c d first second : List ℕ) → first ≡ old ++ (a ++ (b ++ c)) → second ≡ first ++ d → second ≡ old ++ (a ++ (b ++ (c ++ d)))
last_text old a b c d first second x y =
    let whole : (old ++ (a ++ (b ++ c))) ++ d ≡ old ++ (a ++ (b ++ (c ++ d))) = simp append_assoc refl in
    y ∙ ap (λ (t : List ℕ). t ++ d) x ∙ whole

-- a text that got no longer got nothing
pub same_length : (old more : List ℕ) → (length (old ++ more) == length old) ≡ (length more == 0)
same_length old more = elim (cases_Bool (length more == 0)) [
  | inl none ↦
      let empty = eqb-true (length more) 0 none in
      let sum = length-append old more in
      let same : length (old ++ more) ≡ length old = omega (arith, sum, empty) in
      eq-eqb _ _ same ∙ sym none
  | inr some ↦
      let full = eqb-false (length more) 0 some in
      let sum = length-append old more in
      ne_eqb _ _ (λ same. full (omega (arith, sum, same))) ∙ sym some
]

-- what was written is nothing exactly where the text is as long as before
as_long : (old new written : List ℕ) (n m : ℕ) → new ≡ old ++ written → n ≡ length new → m ≡ length old → (n == m) ≡ (length written == 0)
as_long old new written n m is now before =
    ap (λ (x : ℕ). x == m) (now ∙ ap length is) ∙ ap (λ (y : ℕ). length (old ++ written) == y) before ∙ same_length old written

-- so a frame has a line of its own
pub has_line : (all_frames : Bool) (old new written line : List ℕ) (n m : ℕ) → new ≡ old ++ written → n ≡ length new → m ≡ length old
    → all_frames ≡ true → n ≡ m → line ≡ bare_text all_frames written line
has_line all_frames old new written line n m is now before asked same =
    let empty = sym (as_long old new written n m is now before) ∙ eq-eqb n m same in
    sym (ap (λ (b : Bool). if b && length written == 0 then line else []) asked ∙ ap (λ (b : Bool). if b then line else []) empty)

-- or none, since there is another one
pub has_another : (all_frames : Bool) (old new written line : List ℕ) (n m : ℕ) → new ≡ old ++ written → n ≡ length new → m ≡ length old
    → all_frames ≡ true → (n ≡ m → ⊥) → [] ≡ bare_text all_frames written line
has_another all_frames old new written line n m is now before asked other =
    let full = sym (as_long old new written n m is now before) ∙ ne_eqb n m other in
    sym (ap (λ (b : Bool). if b && length written == 0 then line else []) asked ∙ ap (λ (b : Bool). if b then line else []) full)

-- or none, since none is asked for
pub has_none : (all_frames : Bool) (written line : List ℕ) → all_frames ≡ false → [] ≡ bare_text all_frames written line
has_none all_frames written line unasked = sym (ap (λ (b : Bool). if b && length written == 0 then line else []) unasked)

-- ---- what is written at a frame

-- what a frame reports, what it is and a line of its own, one after another
pub itself_written : (plan : Plan) (all_frames : Bool) (log : List Timed) (front : List ℕ) (f : Frame) (sort : Sort)
    (old first second new notice report bare : List ℕ) → IsNotice plan log front f notice → first ≡ old ++ notice
    → IsMessageReport plan log front (in_frame f) sort report → second ≡ first ++ report
    → IsBareText plan all_frames log front f (notice ++ report) bare → new ≡ second ++ bare
    → IsItselfWritten plan all_frames log front f sort old new
itself_written plan all_frames log front f sort old first second new notice report bare is stated reports second_is itself last = record {
  notice = notice;
  report = report;
  bare = bare;
  notice_is = is;
  report_is = reports;
  bare_is = itself;
  text_is = three_texts old notice report bare first second new stated second_is last;
}

-- what is written of the message in a frame
pub framed_report : (plan : Plan) (parties : Parties) (log : List Timed) (front : List ℕ) (f : Frame) (m : Message) (sort : Sort) (old new : List ℕ)
    → m ≡ in_frame f → ((l : List Timed) → ShowsParties plan parties l m.ident → (piece : List ℕ) × IsMessageReport plan l front m sort piece
    × (new ≡ old ++ piece))
    → ShowsParties plan parties log f.ident → (piece : List ℕ) × IsMessageReport plan log front (in_frame f) sort piece × (new ≡ old ++ piece)
framed_report plan parties log front f m sort old new same stated shows =
    subst (λ (x : Message). ShowsParties plan parties log x.ident → (piece : List ℕ) × IsMessageReport plan log front x sort piece × (new ≡ old ++ piece))
    same (stated log) shows

-- by logs that are so in other words
pub written_so : {IsSo IsOther : List Timed → Type 0} {plan : Plan} {all_frames : Bool} {front : List ℕ} {f : Frame} {sorts : Sort × Option Sort}
    {heard pairs : HeardPairs} {kept exchanges : Exchanges} {old new : List ℕ} → ((log : List Timed) → IsOther log → IsSo log)
    → WritesFrame IsSo plan all_frames front f sorts heard pairs kept exchanges old new
    → WritesFrame IsOther plan all_frames front f sorts heard pairs kept exchanges old new
written_so so writes = record {
  written = λ seen log is. writes.written seen log (so log is);
  noted = λ log events is. writes.noted log events (so log is);
}
