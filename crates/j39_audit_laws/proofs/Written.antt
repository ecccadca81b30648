-- What is reported of a mark has its line in the text.
use Rattle.std.proofs.Common.{◌≡◌, ◌≢◌, ℕ, zero, suc, ◌<◌, ◌≤◌, ◌==◌, ◌++◌, [], List}
use Rattle.std.proofs.Common.{inl, inr, refl, sym, ap, ◌∙◌, subst, arith, append_assoc}
use Rattle.std.proofs.lemmas.Bool.{cases_lt, cond-false, ne_eqb}
use Rattle.std.proofs.lemmas.List.{append-nil}
use Rattle.j39_id.specs.Lines.{Line, lines}
use Rattle.j39_stream.specs.declared.verdict.Verdict.{Verdict}
use Rattle.j39_stream.specs.declared.verdict.Verdict.TheVariants.{Done, Findings}
use Rattle.j39_audit.specs.AuditPasts.{AuditPast}
use Rattle.j39_audit.specs.AuditText.{IsAuditedLog, Look, accusation_count, accusations, accusing_at, accusing_line, counts_of, groups_named}
use Rattle.j39_audit.specs.AuditPasts.{log_ended}
use Rattle.j39_audit.specs.AuditText.{line_of_mark, line_reported, lines_reported, look_at, subject_count, subject_lines, subjects, text_by}
use Rattle.j39_audit.specs.AuditText.{reported_mark, word_count, word_lines}
use Rattle.j39_audit.specs.Below.{each_below, sum_below}
use Rattle.j39_audit.specs.Settings.{Settings}
use Rattle.j39_audit.specs.declared.mark.Mark.{Mark}
use Rattle.j39_audit.specs.declared.mark.Word.{Word}
use Rattle.j39_audit.specs.declared.mark.Word.TheVariants.{Short, Stranger, Nobody as NobodyThere, Address, Cannot, Layout, NoFlow, Priority, Urgent, Seen}
use Rattle.j39_audit.specs.declared.mark.Word.TheVariants.{Unclear, Asked, Counted, Unsure, Break, NearFlow, NearRequest, SilentFlow, Deaf, NearPackets}
use Rattle.j39_audit.specs.declared.mark.Word.TheVariants.{SilentPackets, NearOrLate, SilentOrLate, Answered, Answers, Besides}
use Rattle.j39_audit.specs.declared.mark.Word.TheVariants.{WrongAnnouncement, WrongGrant, WrongPacket, WrongReceipt}
use Rattle.j39_audit.specs.declared.tally.Occurrences.{Occurrences}
use Rattle.j39_audit_laws.specs.FoundForSure.{FoundAreWritten, IsWrittenIn}
use Rattle.j39_audit_laws.specs.FoundLines.{IsAccusing, IsFoundAt, IsReportedAt}
use Rattle.j39_audit_laws.proofs.Listed.{found_listed}
use Rattle.j39_audit_laws.proofs.Own.{stated_itself}
use Rattle.j39_audit_laws.proofs.Occurrences.{lines_are_of_log, looked}

-- ---- parts of lists, and of sums

pub record IsIn (part whole : List ℕ) : Type 0 where
  pub front : List ℕ
  pub behind : List ℕ
  pub row : whole ≡ front ++ (part ++ behind)

in_itself : (part whole : List ℕ) → whole ≡ part → IsIn part whole
in_itself part whole same = record { front = []; behind = []; row = same ∙ sym (append-nil part) }

in_more : (part whole more : List ℕ) → IsIn part whole → IsIn part (whole ++ more)
in_more part whole more is = record {
  front = is.front;
  behind = is.behind ++ more;
  row = ap (λ (l : List ℕ). l ++ more) is.row ∙ append_assoc is.front (part ++ is.behind) more
      ∙ ap (λ (l : List ℕ). is.front ++ l) (append_assoc part is.behind more);
}

in_behind : (part whole more : List ℕ) → IsIn part whole → IsIn part (more ++ whole)
in_behind part whole more is = record {
  front = more ++ is.front;
  behind = is.behind;
  row = ap (λ (l : List ℕ). more ++ l) is.row ∙ sym (append_assoc more is.front (part ++ is.behind));
}

in_below : (part : List ℕ) (list : ℕ → List ℕ) (k n : ℕ) → k < n → IsIn part (list k) → IsIn part (each_below list n)
unfolding each_below
in_below part list k zero less is = absurd (omega (arith, less))
in_below part list k (suc n) less is = elim (cases_lt k n) [
  | inl below ↦ in_more part (each_below list n) (list n) (in_below part list k n below is)
  | inr above ↦
      let same : k ≡ n = omega (arith, less, above) in
      in_behind part (list n) (each_below list n) (subst (λ (i : ℕ). IsIn part (list i)) same is)
]

some_below : (number : ℕ → ℕ) (k n : ℕ) → k < n → number k ≤ sum_below number n
unfolding sum_below
some_below number k zero less = absurd (omega (arith, less))
some_below number k (suc n) less = elim (cases_lt k n) [
  | inl below ↦ (let least = some_below number k n below in omega (arith, least))
  | inr above ↦
      let same : number k ≡ number n = ap number (omega (arith, less, above)) in
      omega (arith, same)
]

-- ---- a line

-- what the text says of a mark that was reported
pub record Says (s : Settings) (look : Look) (m : Mark) : Type 0 where
  pub line : IsIn (accusing_line s.plan m (look m)) (accusations s look)
  pub counted : 1 ≤ accusation_count s look

pub says : (s : Settings) (look : Look) (w : Word) (u g n : ℕ) (m : Mark) → n < 19 → accusing_at n ≡ w → u < subjects s w → g < groups_named s w
    → reported_mark look w u g ≡ m → (look m).times ≢ 0 → Says s look m
unfolding accusations word_lines subject_lines line_reported line_of_mark accusation_count word_count subject_count lines_reported
says s look w u g n m place word subject group stated some =
    let part : List ℕ = accusing_line s.plan m (look m) in
    let test = ne_eqb (look m).times 0 some in
    let line : line_reported s.plan look (reported_mark look w u g) ≡ part =
    ap (line_reported s.plan look) stated ∙ cond-false ((look m).times == 0) [] part test in
    let of_word : IsIn part (word_lines s look w) =
    in_below part (subject_lines s look w) u (subjects s w) subject
    (in_below part (λ i. line_reported s.plan look (reported_mark look w u i)) g (groups_named s w) group (in_itself part _ line)) in
    let one : lines_reported (look (reported_mark look w u g)) ≡ 1 =
    ap (λ (x : Mark). lines_reported (look x)) stated ∙ cond-false ((look m).times == 0) 0 1 test in
    let by_group = some_below (λ i. lines_reported (look (reported_mark look w u i))) g (groups_named s w) group in
    let by_subject = some_below (subject_count s look w) u (subjects s w) subject in
    let by_word = some_below (λ i. word_count s look (accusing_at i)) n 19 place in
    let same : word_count s look (accusing_at n) ≡ word_count s look w = ap (word_count s look) word in
    record {
      line = in_below part (λ i. word_lines s look (accusing_at i)) n 19 place
          (subst (λ (x : Word). IsIn part (word_lines s look x)) (sym word) of_word);
      counted = omega (arith, one, by_group, by_subject, by_word, same);
    }

-- and so does that of a whole log
pub record SaysOf (s : Settings) (text : List ℕ) (verdict : Verdict) (look : Look) (m : Mark) : Type 0 where
  pub findings : verdict ≡ Findings
  pub written : IsWrittenIn s.plan text m (look m)

pub said : (s : Settings) (log text : List ℕ) (verdict : Verdict) (a : IsAuditedLog s log text verdict) (m : Mark)
    → Says s (look_at (log_ended s a.past)) m → SaysOf s text verdict (look_at (log_ended s a.past)) m
unfolding text_by
said s log text verdict a m is =
    let end : AuditPast = log_ended s a.past in
    let look : Look = look_at end in
    let counted = is.counted in
    let some : accusation_count s look ≢ 0 = λ none. absurd (omega (arith, none, counted)) in
    let whole : IsIn (accusing_line s.plan m (look m)) (text_by s (counts_of end) end.again look) =
    in_more (accusing_line s.plan m (look m)) (accusations s look) _ is.line in
    record {
      findings = a.verdict_is ∙ cond-false (accusation_count s look == 0) Done Findings (ne_eqb (accusation_count s look) 0 some);
      written = record { front = whole.front; behind = whole.behind; row = a.text_is ∙ whole.row };
    }

-- ---- what is found

-- where the word of a line stands among those that accuse
record HasPlace (w : Word) : Type 0 where
  place : ℕ
  inside : place < 19
  is : accusing_at place ≡ w

place_of : (w : Word) → IsAccusing w → HasPlace w
place_of Short is = record { place = 0; inside = omega arith; is = refl }
place_of Stranger is = record { place = 1; inside = omega arith; is = refl }
place_of NobodyThere is = record { place = 2; inside = omega arith; is = refl }
place_of Address is = record { place = 3; inside = omega arith; is = refl }
place_of Cannot is = record { place = 4; inside = omega arith; is = refl }
place_of Layout is = record { place = 6; inside = omega arith; is = refl }
place_of NoFlow is = record { place = 7; inside = omega arith; is = refl }
place_of Priority is = record { place = 8; inside = omega arith; is = refl }
place_of Urgent is = record { place = 9; inside = omega arith; is = refl }
place_of Seen is = absurd is
place_of Unclear is = absurd is
place_of Asked is = absurd is
place_of Counted is = absurd is
place_of Unsure is = absurd is
place_of Break is = absurd is
place_of NearFlow is = absurd is
place_of NearRequest is = absurd is
place_of SilentFlow is = absurd is
place_of Deaf is = absurd is
place_of NearPackets is = absurd is
place_of SilentPackets is = absurd is
place_of NearOrLate is = absurd is
place_of SilentOrLate is = absurd is
place_of Answered is = absurd is
place_of Answers is = absurd is
place_of Besides is = absurd is
place_of WrongAnnouncement is = absurd is
place_of WrongGrant is = absurd is
place_of WrongPacket is = absurd is
place_of WrongReceipt is = absurd is

-- what is reported at some line is reported at least once
stated_once : (s : Settings) (log : List Line) (m : Mark) (t : Occurrences) (number : ℕ) → IsReportedAt s log m t → IsFoundAt s log number m → t.times ≢ 0
stated_once s log m t number states found none =
    let (k, inside, is) = (states.exact number).1 found in
    let times = states.times in
    absurd (omega (arith, inside, times, none))

pub found_are_written : FoundAreWritten
found_are_written s log text verdict a number m accuses found =
    let end : AuditPast = log_ended s a.past in
    let look : Look = look_at end in
    let states : IsReportedAt s (lines log) m (look m) =
    subst (IsReportedAt s (lines log) m) (sym (looked a.past m accuses) ∙ looked end m accuses) (lines_are_of_log s (lines log) a.past a.read m accuses) in
    let listed = found_listed s (lines log) number m found in
    let at = place_of m.word accuses in
    let is = said s log text verdict a m
    (says s look m.word m.subject m.group at.place m at.inside at.is listed.0 listed.1 (stated_itself look m.word m.subject m.group accuses)
    (stated_once s (lines log) m (look m) number states found)) in
    (is.findings, (look m, states, is.written))
