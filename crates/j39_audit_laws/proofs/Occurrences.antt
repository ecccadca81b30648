-- What is reported of a mark at the end of a log are the lines at which it is found.
use Rattle.std.proofs.Common.{◌≡◌, ◌⊎◌, ℕ, ◌+◌, ◌<◌, ◌≤◌, ◌++◌, ◌∷◌, [], List, Bool, false, cond, length, map, min, get_or}
use Rattle.std.proofs.Common.{inl, inr, refl, sym, ap, ◌∙◌, subst, arith, append_assoc}
use Rattle.std.specs.Prelude.{Contains}
use Rattle.std.specs.List.{AllPairs}
use Rattle.std.proofs.lemmas.List.{append_cancel_left, append-nil, length-append, length-map, map-append}
use Rattle.std.proofs.lemmas.List.Elements.{Contains-append_left, Contains-get_or, Contains-push, Contains-push_cases}
use Rattle.std.proofs.lemmas.List.Quantifiers.{all_pairs_push}
use Rattle.j39_id.specs.Lines.{Line}
use Rattle.j39_audit.specs.AuditPasts.{AuditPast, AuditsLine, AuditsLines, nothing_read}
use Rattle.j39_audit.specs.AuditText.{is_of_asking, is_of_broadcasts, is_of_sessions, is_of_moments, look_at, is_of_load}
use Rattle.j39_audit.specs.AuditText.{mark_by_bus}
use Rattle.j39_audit.specs.Counting.{Noted, most_times, reported_at, reported_in, occurrences_of}
use Rattle.j39_audit.specs.Settings.{Settings}
use Rattle.j39_audit.specs.declared.mark.Mark.{Mark}
use Rattle.j39_audit.specs.declared.mark.Word.{Word}
use Rattle.j39_audit.specs.declared.mark.Word.TheVariants.{Short, Stranger, Nobody as NobodyThere, Address, Cannot, Layout, NoFlow, Priority, Urgent, Seen}
use Rattle.j39_audit.specs.declared.mark.Word.TheVariants.{Unclear, Asked, Counted, Unsure, Break, NearFlow, NearRequest, SilentFlow, Deaf, NearPackets}
use Rattle.j39_audit.specs.declared.mark.Word.TheVariants.{SilentPackets, NearOrLate, SilentOrLate, Answered, Answers, Besides}
use Rattle.j39_audit.specs.declared.mark.Word.TheVariants.{WrongAnnouncement, WrongGrant, WrongPacket, WrongReceipt}
use Rattle.j39_audit.specs.declared.tally.Occurrences.{Occurrences}
use Rattle.j39_audit.proofs.Hearing.{line_more}
use Rattle.j39_audit_laws.specs.FoundLines.{IsAccusing, IsFoundAt, IsLineOf, LinesAreOfLog, IsReportedAt}
use Rattle.j39_audit_laws.proofs.Hits.{hits}
use Rattle.j39_audit_laws.proofs.Lines.{adds, counts_on, found_grows}

-- ---- what was reported before a line

cases_le : (m n : ℕ) → (m ≤ n) ⊎ (n < m)
cases_le m n = grind arith

nothing_in : (n : ℕ) → Contains [] n → ⊥
nothing_in n (k, inside, is) = absurd (omega (arith, inside))

no_more : (old : List Noted) (n : Noted) (more : List Noted) → old ≡ old ++ n ∷ more → ⊥
no_more old n more e =
    let none : n ∷ more ≡ [] = append_cancel_left old (n ∷ more) [] (sym e ∙ sym (append-nil old)) in
    cc none

module _ (s : Settings) (log : List Line) (m : Mark) (accuses : IsAccusing m.word) where
  abbrev lines_of : AuditPast → List ℕ
  lines_of past = map (λ (n : Noted). n.line) (hits m past.noted)

  record ReportedSoFar (before : List Line) (past : AuditPast) : Type 0 where
    count : past.number ≡ length before
    rising : AllPairs (λ (a b : ℕ). a < b) (lines_of past)
    below : (n : ℕ) → Contains (lines_of past) n → n ≤ length before
    sound : (n : ℕ) → Contains (lines_of past) n → IsFoundAt s log n m
    complete : (n : ℕ) → IsFoundAt s log n m → n ≤ length before → Contains (lines_of past) n

  -- a line is found at its number, counted from 1, inside of the log
  number_of : (n : ℕ) → IsFoundAt s log n m → (1 ≤ n) × (n ≤ length log)
  number_of n (inl (at, is)) = number_in at.line_is
    where
      number_in : {p : AuditPast} {l : Line} → IsLineOf s log n p l → (1 ≤ n) × (n ≤ length log)
      number_in {l = l} is =
          let e = is.number_is in
          let long = ap length is.row ∙ length-append is.before (l ∷ is.behind) in
          (omega (arith, e), omega (arith, e, long))
  number_of n (inr (claims, f, packet, at, marked)) = number_in at.line_is
    where
      number_in : {p : AuditPast} {l : Line} → IsLineOf s log n p l → (1 ≤ n) × (n ≤ length log)
      number_in {l = l} is =
          let e = is.number_is in
          let long = ap length is.row ∙ length-append is.before (l ∷ is.behind) in
          (omega (arith, e), omega (arith, e, long))

  none_read : ReportedSoFar [] nothing_read
  none_read = record {
    count = refl;
    rising = λ i j d less inside. absurd (omega (arith, inside));
    below = λ n is. absurd (nothing_in n is);
    sound = λ n is. absurd (nothing_in n is);
    complete = λ n found less. (let some = (number_of n found).0 in absurd (omega (arith, some, less)));
  }

  module _ (before : List Line) (past : AuditPast) (line : Line) (behind : List Line) (next : AuditPast) (row : log ≡ before ++ line ∷ behind)
      (read : AuditsLines s nothing_read before past) (takes : AuditsLine s past line next) (stated : ReportedSoFar before past) where
    long : length (before ++ line ∷ []) ≡ length before + 1
    long = length-append before (line ∷ [])

    next_reported : ReportedSoFar (before ++ line ∷ []) next
    next_reported = elim (adds s log m accuses before past line behind next row read takes stated.count) [
      | inl same ↦
          let lines : lines_of next ≡ lines_of past = ap (map (λ (n : Noted). n.line)) same in
          record {
            count = counts_on s log m accuses before past line behind next row read takes stated.count;
            rising = subst (AllPairs (λ (a b : ℕ). a < b)) (sym lines) stated.rising;
            below = λ n is. (let least = stated.below n (subst (λ (l : List ℕ). Contains l n) lines is) in omega (arith, long, least));
            sound = λ n is. stated.sound n (subst (λ (l : List ℕ). Contains l n) lines is);
            complete = λ n found less. subst (λ (l : List ℕ). Contains l n) (sym lines) (elim (cases_le n (length before)) [
              | inl inside ↦ stated.complete n found inside
              | inr above ↦
                  let is : n ≡ length before + 1 = omega (arith, long, less, above) in
                  let grows = found_grows s log m accuses before past line behind next row read takes stated.count
                  (subst (λ (k : ℕ). IsFoundAt s log k m) is found) in
                  absurd (no_more (hits m past.noted) grows.0 grows.1 (sym same ∙ grows.2))
            ]);
          }
      | inr (x, more, number, found) ↦
          let lines : lines_of next ≡ lines_of past ++ (length before + 1) ∷ [] =
          ap (map (λ (n : Noted). n.line)) more ∙ map-append (λ (n : Noted). n.line) (hits m past.noted) (x ∷ [])
          ∙ ap (λ (k : ℕ). lines_of past ++ k ∷ []) number in
          record {
            count = counts_on s log m accuses before past line behind next row read takes stated.count;
            rising = subst (AllPairs (λ (a b : ℕ). a < b)) (sym lines) (all_pairs_push (λ (a b : ℕ). a < b) (lines_of past) (length before + 1) stated.rising
                (λ k d inside. (let least = stated.below (get_or (lines_of past) k d) (Contains-get_or (lines_of past) k d inside) in omega (arith, least))));
            below = λ n is. elim (Contains-push_cases (lines_of past) (length before + 1) n (subst (λ (l : List ℕ). Contains l n) lines is)) [
              | inl old ↦ (let least = stated.below n old in omega (arith, long, least))
              | inr new ↦ omega (arith, long, new)
            ];
            sound = λ n is. elim (Contains-push_cases (lines_of past) (length before + 1) n (subst (λ (l : List ℕ). Contains l n) lines is)) [
              | inl old ↦ stated.sound n old
              | inr new ↦ subst (λ (k : ℕ). IsFoundAt s log k m) new found
            ];
            complete = λ n is less. subst (λ (l : List ℕ). Contains l n) (sym lines) (elim (cases_le n (length before)) [
              | inl inside ↦ Contains-append_left (lines_of past) ((length before + 1) ∷ []) n (stated.complete n is inside)
              | inr above ↦
                  let same : length before + 1 ≡ n = omega (arith, long, less, above) in
                  subst (λ (k : ℕ). Contains (lines_of past ++ (length before + 1) ∷ []) k) same (Contains-push (lines_of past) (length before + 1))
            ]);
          }
    ]

  all_stated : (before rest : List Line) (past end : AuditPast) → log ≡ before ++ rest → AuditsLines s nothing_read before past → ReportedSoFar before past
      → AuditsLines s past rest end → ReportedSoFar log end
  all_stated before [] past end row read stated e =
      subst (λ (p : AuditPast). ReportedSoFar log p) (sym e) (subst (λ (l : List Line). ReportedSoFar l past) (sym (row ∙ append-nil before)) stated)
  all_stated before (line ∷ rest) past end row read stated (next, takes, more) =
      all_stated (before ++ line ∷ []) rest next end (row ∙ sym (append_assoc before (line ∷ []) rest))
      (line_more s before line nothing_read past next read takes) (next_reported before past line rest next row read takes stated) more

  states : (end : AuditPast) → ReportedSoFar log end → IsReportedAt s log m (reported_in end.noted m)
  unfolding reported_at
  states end stated =
      elim (hits m end.noted) as (λ xs. hits m end.noted ≡ xs → IsReportedAt s log m (occurrences_of xs)) [
        | [] ↦ λ is. record {
          lines = [];
          rising = λ i j d less inside. absurd (omega (arith, inside));
          exact = λ n. (
            λ never. absurd (nothing_in n never),
            λ found.
                subst (λ (l : List Noted). Contains (map (λ (x : Noted). x.line) l) n) is (stated.complete n found (number_of n found).1),
          );
          times = refl;
          first = λ n rest e. absurd (cc e);
        }
        | x ∷ more ↦ λ is.
            let lines : List ℕ = map (λ (y : Noted). y.line) (x ∷ more) in
            let same : lines_of end ≡ lines = ap (map (λ (y : Noted). y.line)) is in
            let size : length lines ≡ length more + 1 = (let size = length-map more (λ (y : Noted). y.line) in omega (arith, size)) in
            record {
              lines = lines;
              rising = subst (AllPairs (λ (a b : ℕ). a < b)) same stated.rising;
              exact = λ n. (
                λ inside. stated.sound n (subst (λ (l : List ℕ). Contains l n) (sym same) inside),
                λ found. subst (λ (l : List ℕ). Contains l n) same (stated.complete n found (number_of n found).1),
              );
              times = ap (λ (k : ℕ). min k most_times) (sym size);
              first = λ n rest e. cc e;
            }
      ] refl

-- what accuses so is reported by the frames
record IsByFrames (w : Word) : Type 0 where
  moments : is_of_moments w ≡ false
  load : is_of_load w ≡ false
  asking : is_of_asking w ≡ false
  broadcasts : is_of_broadcasts w ≡ false
  sessions : is_of_sessions w ≡ false

by_frames : (w : Word) → IsAccusing w → IsByFrames w
by_frames Short is = record { moments = refl; load = refl; asking = refl; broadcasts = refl; sessions = refl }
by_frames Stranger is = record { moments = refl; load = refl; asking = refl; broadcasts = refl; sessions = refl }
by_frames NobodyThere is = record { moments = refl; load = refl; asking = refl; broadcasts = refl; sessions = refl }
by_frames Address is = record { moments = refl; load = refl; asking = refl; broadcasts = refl; sessions = refl }
by_frames Cannot is = record { moments = refl; load = refl; asking = refl; broadcasts = refl; sessions = refl }
by_frames Layout is = record { moments = refl; load = refl; asking = refl; broadcasts = refl; sessions = refl }
by_frames NoFlow is = record { moments = refl; load = refl; asking = refl; broadcasts = refl; sessions = refl }
by_frames Priority is = record { moments = refl; load = refl; asking = refl; broadcasts = refl; sessions = refl }
by_frames Urgent is = record { moments = refl; load = refl; asking = refl; broadcasts = refl; sessions = refl }
by_frames Seen is = absurd is
by_frames Unclear is = absurd is
by_frames Asked is = absurd is
by_frames Counted is = absurd is
by_frames Unsure is = absurd is
by_frames Break is = absurd is
by_frames NearFlow is = absurd is
by_frames NearRequest is = absurd is
by_frames SilentFlow is = absurd is
by_frames Deaf is = absurd is
by_frames NearPackets is = absurd is
by_frames SilentPackets is = absurd is
by_frames NearOrLate is = absurd is
by_frames SilentOrLate is = absurd is
by_frames Answered is = absurd is
by_frames Answers is = absurd is
by_frames Besides is = absurd is
by_frames WrongAnnouncement is = absurd is
by_frames WrongGrant is = absurd is
by_frames WrongPacket is = absurd is
by_frames WrongReceipt is = absurd is

pub looked : (end : AuditPast) (m : Mark) → IsAccusing m.word → reported_in end.noted m ≡ look_at end m
looked end m is =
    let by = by_frames m.word is in
    let late = reported_in end.by_load.untimely (mark_by_bus m) in
    let by_sessions : Bool → Occurrences = λ b. cond b (reported_in end.sessions.told m) (reported_in end.noted m) in
    let by_packets : Bool → Occurrences = λ b. cond b (reported_in end.broadcasts.late m) (by_sessions (is_of_sessions m.word)) in
    let by_asking : Bool → Occurrences = λ b. cond b (reported_in end.asking.deaf m) (by_packets (is_of_broadcasts m.word)) in
    let by_load : Bool → Occurrences = λ b. cond b late (by_asking (is_of_asking m.word)) in
    sym (ap (λ (b : Bool). cond b (reported_in end.moments.untimely m) (by_load (is_of_load m.word))) by.moments
    ∙ ap by_load by.load ∙ ap by_asking by.asking ∙ ap by_packets by.broadcasts ∙ ap by_sessions by.sessions)

pub lines_are_of_log : LinesAreOfLog
lines_are_of_log s log end read m accuses =
    subst (IsReportedAt s log m) (looked end m accuses) (states s log m accuses end
    (all_stated s log m accuses [] log nothing_read end refl refl (none_read s log m accuses) read))
