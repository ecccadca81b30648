-- Where each sender is sure, no frame is noted as unsure.
use Rattle.std.proofs.Common.{◌≡◌, ℕ, ◌+◌, ◌==◌, ◌++◌, ◌∷◌, [], List, Bool, true, false, if◌then◌else◌, length, Option, Some, None, refl, sym, ap, ◌∙◌, subst}
use Rattle.std.proofs.Common.{inl, inr}
use Rattle.std.specs.Prelude.{count_by, nat_lt}
use Rattle.std.specs.List.{slice_get}
use Rattle.std.specs.Option.{option_map_or}
use Rattle.std.proofs.lemmas.Bool.{cond_both}
use Rattle.j39_id.specs.Addresses.{is_address, null_address}
use Rattle.j39_id.specs.FrameMeaning.{name_in, requests_group}
use Rattle.j39_id.specs.Lines.{Line}
use Rattle.j39_id.specs.declared.frame.Frame.{Frame}
use Rattle.j39_follow.specs.Who.{unit_of_name}
use Rattle.j39_tp.specs.declared.packet.Packet.{Packet}
use Rattle.j39_audit.specs.AuditPasts.{AuditPast, AuditsLines, claims_before, noted_newly, nothing_read, past_with_frame}
use Rattle.j39_audit.specs.AuditText.{look_at, mark_at}
use Rattle.j39_audit.specs.Breaks.{breaks, line_time}
use Rattle.j39_audit.specs.Claiming.{HeardClaims, Knowledge, knowledge, sender_at, was_asked_for}
use Rattle.j39_audit.specs.Counting.{Noted, reported_at, occurrences_of}
use Rattle.j39_audit.specs.Looking.{break_noted, claim_noted, claim_place, counted, frame_noted, is_above_unplanned, is_claim, is_urgent, mark_noted}
use Rattle.j39_audit.specs.Looking.{message_noted, message_sent, noted_if, noted_with, request_noted, requested, sent_noted, told, answers_request}
use Rattle.j39_audit.specs.Looking.{answer_noted, answer_of, asked_noted, besides_noted}
use Rattle.j39_audit.specs.SentMessages.{SentMessage, all_marked, deviation, flows_noted, is_nearest_flow, is_nearest_request, marked, noted_at, requests_noted}
use Rattle.j39_audit.specs.Settings.{AreMoving, Settings}
use Rattle.j39_audit.specs.declared.mark.Mark.{Mark}
use Rattle.j39_audit.specs.declared.mark.Word.{Word}
use Rattle.j39_audit.specs.declared.mark.Word.TheVariants.{Short, Stranger, Address, Cannot, Urgent, Seen, Unclear, Asked, Counted, Unsure, Break, Answered}
use Rattle.j39_audit.specs.declared.mark.Word.TheVariants.{Answers, Besides}
use Rattle.j39_audit.specs.declared.senders.SureSender.{SureSender}
use Rattle.j39_audit.specs.declared.senders.SureSender.TheVariants.{Unit as OfUnit, Nobody, Unknown}
use Rattle.j39_audit_laws.specs.FoundForSure.{ClaimsArePlanned, HasFixedUnits, UnsureIsNone}
use Rattle.j39_audit_laws.proofs.FixedUnits.{is_sure, own_there}
use Rattle.j39_audit_laws.proofs.Hits.{HaveWords, no_hits, words_below, words_both, words_if}
use Rattle.j39_audit_laws.proofs.Marking.{IsDeviation, by_words, differs_so, is_of_message, told_so}
use Rattle.j39_audit_laws.proofs.Walk.{IsNext, at_end}

abbrev is_sure_word : Word → Bool
is_sure_word Unsure = false
is_sure_word _ = true

sure_message : (w : Word) → is_of_message w ≡ true → is_sure_word w ≡ true
sure_message = by_words is_of_message is_sure_word refl

abbrev AreSure : List Noted → Type 0
AreSure xs = HaveWords is_sure_word xs

all_sure : {X : Type 0} (line : ℕ) (word : Word) (test : X → Bool) (all : List X) → is_sure_word word ≡ true → AreSure (all_marked line word test all)
unfolding all_marked
all_sure {X} line word test all is =
    words_below is_sure_word (marked line word test all)
    (λ n. cond_both (option_map_or test (slice_get all n) false) (noted_at line word n 0 ∷ []) [] AreSure (λ _. (is, tt)) (λ _. tt)) (length all)

module _ (s : Settings) (k : Knowledge) (f : Frame) (packet : Option Packet) (line : ℕ) where
  flows_sure : (m : SentMessage) → AreSure (flows_noted s k m line)
  unfolding flows_noted
  flows_sure m =
      all_sure line _ (is_nearest_flow s k m) s.plan.flows.items
      (cond_both (count_by (is_nearest_flow s k m) s.plan.flows.items == 1) Seen Unclear (λ w. is_sure_word w ≡ true) (λ _. refl) (λ _. refl))

  asked_sure : (m : SentMessage) → AreSure (asked_noted s k m line)
  asked_sure m =
      words_both is_sure_word (answer_noted line (answers_request s k m) (deviation s k m)) (besides_noted s k m line)
      (cond_both (answers_request s k m) (answer_of line (deviation s k m)) [] AreSure (λ _. of_mark (deviation s k m)) (λ _. tt))
      (words_if is_sure_word (noted_at line Besides 0 0) (was_asked_for s k true m.number m.source) refl)
    where
      of_mark : (o : Option Mark) → AreSure (answer_of line o)
      of_mark None = tt
      of_mark (Some d) = (refl, (refl, tt))

  mark_sure : (m : SentMessage) (o : Option Mark) → IsDeviation m o → AreSure (mark_noted line o)
  mark_sure m None so = tt
  mark_sure m (Some d) so = (sure_message d.word so.0, tt)

  message_sure : (o : Option SentMessage) → AreSure (message_noted s k line o)
  message_sure None = tt
  message_sure (Some m) =
      words_both is_sure_word (mark_noted line (told s k m)) (flows_noted s k m line ++ asked_noted s k m line) (mark_sure m (told s k m) (told_so s k m))
      (words_both is_sure_word (flows_noted s k m line) (asked_noted s k m line) (flows_sure m) (asked_sure m))

  requests_sure : (m : SentMessage) → AreSure (requests_noted s k m line)
  unfolding requests_noted
  requests_sure m =
      cond_both (count_by (is_nearest_request s k m) s.plan.requests.items == 1)
      (all_marked line Asked (is_nearest_request s k m) s.plan.requests.items) [] AreSure
      (λ _. all_sure line Asked (is_nearest_request s k m) s.plan.requests.items refl) (λ _. tt)

  request_sure : (u : ℕ) → AreSure (request_noted s k u f line)
  request_sure u = cond_both (requests_group f) (requests_noted s k (requested u f) line) [] AreSure (λ _. requests_sure (requested u f)) (λ _. tt)

  counted_sure : (u : ℕ) → AreSure (counted s k f packet line u)
  unfolding counted
  counted_sure u =
      let first : List Noted = noted_at line Counted u 0 ∷ [] ++ message_noted s k line (message_sent u f packet) in
      words_both is_sure_word (first ++ request_noted s k u f line) (noted_if (is_urgent s u f) (noted_at line Urgent u 0))
      (words_both is_sure_word first (request_noted s k u f line) (refl, message_sure (message_sent u f packet)) (request_sure u))
      (words_if is_sure_word (noted_at line Urgent u 0) (is_urgent s u f) refl)

  claim_sure : (o : Option ℕ) → AreSure (claim_noted s k f line o)
  claim_sure None = words_if is_sure_word (noted_with line Stranger f.ident.sa (name_in f)) _ refl
  claim_sure (Some u) =
      words_both is_sure_word (claim_place s k f line u) (noted_if (is_above_unplanned s f) (noted_at line Urgent u 0))
      (cond_both (f.ident.sa == null_address) (noted_if _ (noted_at line Cannot u 0)) (noted_if _ (noted_with line Address u f.ident.sa)) AreSure
      (λ _. words_if is_sure_word (noted_at line Cannot u 0) _ refl) (λ _. words_if is_sure_word (noted_with line Address u f.ident.sa) _ refl))
      (words_if is_sure_word (noted_at line Urgent u 0) (is_above_unplanned s f) refl)

  sent_sure : (sure : SureSender) → (sure ≡ Unknown → ⊥) → AreSure (sent_noted s k f packet line sure)
  sent_sure (OfUnit u) known = counted_sure u
  sent_sure Nobody known = (refl, tt)
  sent_sure Unknown known = absurd (known refl)

frame_sure : (s : Settings) (claims : HeardClaims) (f : Frame) (packet : Option Packet) (line : ℕ)
    → (sender_at s (knowledge s claims) f.ident.sa ≡ Unknown → ⊥) → AreSure (frame_noted s claims f packet line)
frame_sure s claims f packet line known =
    let k : Knowledge = knowledge s claims in
    let sender : SureSender = sender_at s k f.ident.sa in
    cond_both (is_claim f) (claim_noted s k f line (unit_of_name s.plan (name_in f)))
    (if is_address f.ident.sa then sent_noted s k f packet line sender else []) AreSure
    (λ _. claim_sure s k f packet line (unit_of_name s.plan (name_in f)))
    (λ _. cond_both (is_address f.ident.sa) (sent_noted s k f packet line sender) [] AreSure
    (λ _. sent_sure s k f packet line sender known) (λ _. tt))

module _ (s : Settings) (log : List Line) (moving : AreMoving s.plan s.moving) (fixed : HasFixedUnits s.plan) (planned : ClaimsArePlanned s log) where
  abbrev Holds : ℕ → AuditPast → Type 0
  Holds number past = AreSure past.noted

  frame_notes : (past : AuditPast) (time : Option ℕ) (named : Option (List ℕ)) (f : Frame) (packet : Option Packet)
      → (past_with_frame s past time named f packet).noted ≡ past.noted ++ noted_newly s past time f packet
  unfolding past_with_frame
  frame_notes past time named f packet = refl

  more : (number : ℕ) (past next : AuditPast) → Holds number past → IsNext s log (number + 1) past next → Holds (number + 1) next
  more number past next sure (count, inl passed) = subst AreSure (sym passed.noted_is) sure
  more number past next sure (count, inr (inl gap)) =
      subst AreSure (sym gap.noted_is)
      (words_both is_sure_word past.noted (noted_if (nat_lt 0 past.frames) (noted_at (past.number + 1) Short 0 0)) sure
      (words_if is_sure_word (noted_at (past.number + 1) Short 0 0) (nat_lt 0 past.frames) refl))
  more number past next sure (count, inr (inr (inl bad))) = subst AreSure (sym (ap (λ (p : AuditPast). p.noted) bad.next_is)) sure
  more number past next sure (count, inr (inr (inr (inr again)))) = subst AreSure (sym again.noted_is) sure
  more number past next sure (count, inr (inr (inr (inl one)))) =
      let q : AuditPast = one.at.past in
      let t : Option ℕ = line_time s.plan one.at.time in
      let own = own_there s log moving fixed planned (number + 1) one.claims one.f one.packet one.at in
      let known : (sender_at s (knowledge s (claims_before s q t)) one.f.ident.sa ≡ Unknown) → ⊥ =
      subst (λ (c : HeardClaims). (sender_at s (knowledge s c) one.f.ident.sa ≡ Unknown) → ⊥) one.at.claims_are
      (λ unknown. elim (is_sure s log moving fixed one.claims own one.f.ident.sa) [
        | inl (u, here, sender) ↦ absurd (cc (sym unknown ∙ sender))
        | inr (none, sender) ↦ absurd (cc (sym unknown ∙ sender))
      ]) in
      let fresh : AreSure (noted_newly s q t one.f one.packet) =
      words_both is_sure_word (break_noted q.number (breaks s.stamps q.newest t)) (frame_noted s (claims_before s q t) one.f one.packet q.number)
      (words_if is_sure_word (noted_at q.number Break 0 0) (breaks s.stamps q.newest t) refl)
      (frame_sure s (claims_before s q t) one.f one.packet q.number known) in
      subst AreSure (sym (ap (λ (p : AuditPast). p.noted) one.next_is ∙ frame_notes q t one.at.named one.f one.packet))
      (words_both is_sure_word q.noted (noted_newly s q t one.f one.packet) (subst (λ (p : AuditPast). AreSure p.noted) (sym one.past_is) sure) fresh)

  pub none_stated : (end : AuditPast) → AuditsLines s nothing_read log end → (look_at end (mark_at Unsure 0 0)).times ≡ 0
  unfolding reported_at
  none_stated end read =
      ap (λ (l : List Noted). (occurrences_of l).times) (no_hits (mark_at Unsure 0 0) is_sure_word refl end.noted (at_end s log Holds more end tt read))

pub unsure_is_none : UnsureIsNone
unsure_is_none s log end moving fixed planned read = none_stated s log moving fixed planned end read
