-- What is noted at a frame is what the frame is marked with, and each mark that accuses is noted once at most.
use Rattle.std.proofs.Common.{◌≡◌, ℕ, zero, suc, ◌==◌, ◌||◌, ◌++◌, ◌∷◌, [], List, Bool, true, false, not, if◌then◌else◌}
use Rattle.std.proofs.Common.{inl, inr, refl, sym, ap, ◌∙◌, subst, length, Option, Some, None}
use Rattle.std.specs.Prelude.{count_by}
use Rattle.std.specs.List.{list_all, list_any, position, slice_get}
use Rattle.std.specs.Option.{option_map_or, option_or}
use Rattle.std.proofs.lemmas.Bool.{and_parts, cond_both, true≢false}
use Rattle.std.proofs.lemmas.Option.{none-some, same_Some}
use Rattle.j39_id.specs.declared.frame.Frame.{Frame}
use Rattle.j39_tp.specs.declared.packet.Packet.{Packet}
use Rattle.j39_audit.specs.Claiming.{Knowledge, was_asked_for}
use Rattle.j39_audit.specs.Counting.{Noted}
use Rattle.j39_audit.specs.Looking.{message_sent, request_noted, requested, told, answers_request, answer_noted, answer_of, asked_noted, besides_noted}
use Rattle.j39_audit.specs.Looking.{announced_by, announced_message, goes_to_another, is_single, single}
use Rattle.j39_audit.specs.SentMessages.{SentMessage, all_marked, deviation, flow_group, flows_noted, is_nearest_flow, is_nearest_request, is_of, marked}
use Rattle.j39_audit.specs.SentMessages.{noted_at, requests_noted, with_fit_flow, without_flow, is_fit, first_group}
use Rattle.j39_audit.specs.declared.messages.Test.TheVariants.{Fitting, Selected, Any}
use Rattle.j39_id.specs.Ident.{pgn_of}
use Rattle.j39_id.specs.FrameMeaning.{requests_group}
use Rattle.j39_tp.specs.declared.packet.Packet.TheVariants.{Rts, Cts, EndAck, Bam, Abort, Dt}
use Rattle.j39_audit.specs.Settings.{Settings}
use Rattle.j39_audit.specs.declared.mark.Mark.{Mark}
use Rattle.j39_audit.specs.declared.mark.Word.{Word}
use Rattle.j39_audit.specs.declared.mark.Word.TheVariants.{Short, Stranger, Nobody as NobodyThere, Address, Cannot, Layout, NoFlow, Priority, Urgent, Seen}
use Rattle.j39_audit.specs.declared.mark.Word.TheVariants.{Unclear, Asked, Counted, Unsure, Break, NearFlow, NearRequest, SilentFlow, Deaf, NearPackets}
use Rattle.j39_audit.specs.declared.mark.Word.TheVariants.{SilentPackets, NearOrLate, SilentOrLate, Answered, Answers, Besides}
use Rattle.j39_audit.specs.declared.mark.Word.TheVariants.{WrongAnnouncement, WrongGrant, WrongPacket, WrongReceipt}
use Rattle.j39_audit_laws.specs.FoundLines.{IsAccusing}
use Rattle.j39_audit_laws.proofs.Hits.{HaveWords, In, words_below, words_both, words_if}

-- ---- words

-- the words of flows and requests, of what was asked for, and of what is only counted
abbrev pub is_seen : Word → Bool
is_seen Seen = true
is_seen Unclear = true
is_seen Asked = true
is_seen Counted = true
is_seen Unsure = true
is_seen Break = true
is_seen Answered = true
is_seen Answers = true
is_seen Besides = true
is_seen _ = false

abbrev pub is_urgent_word : Word → Bool
is_urgent_word Urgent = true
is_urgent_word _ = false

-- all but that
abbrev pub is_another : Word → Bool
is_another w = not (is_urgent_word w)

pub unseen : (w : Word) → IsAccusing w → is_seen w ≡ false
unseen Short is = refl
unseen Stranger is = refl
unseen NobodyThere is = refl
unseen Address is = refl
unseen Cannot is = refl
unseen Layout is = refl
unseen NoFlow is = refl
unseen Priority is = refl
unseen Urgent is = refl
unseen Seen is = absurd is
unseen Unclear is = absurd is
unseen Asked is = absurd is
unseen Counted is = absurd is
unseen Unsure is = absurd is
unseen Break is = absurd is
unseen NearFlow is = absurd is
unseen NearRequest is = absurd is
unseen SilentFlow is = absurd is
unseen Deaf is = absurd is
unseen NearPackets is = absurd is
unseen SilentPackets is = absurd is
unseen NearOrLate is = absurd is
unseen SilentOrLate is = absurd is
unseen Answered is = absurd is
unseen Answers is = absurd is
unseen Besides is = absurd is
unseen WrongAnnouncement is = absurd is
unseen WrongGrant is = absurd is
unseen WrongPacket is = absurd is
unseen WrongReceipt is = absurd is

abbrev every_word : List Word
every_word = Short ∷ Stranger ∷ NobodyThere ∷ Address ∷ Cannot ∷ Layout ∷ NoFlow ∷ Priority ∷ Urgent ∷ Seen ∷ Unclear ∷ Asked
    ∷ Counted ∷ Unsure ∷ Break ∷ NearFlow ∷ NearRequest ∷ SilentFlow ∷ Deaf ∷ NearPackets ∷ SilentPackets ∷ NearOrLate ∷ SilentOrLate ∷ Answered ∷ Answers
    ∷ Besides ∷ WrongAnnouncement ∷ WrongGrant ∷ WrongPacket ∷ WrongReceipt ∷ []

among_them : (w : Word) → (n : ℕ) × (slice_get every_word n ≡ Some w)
among_them Short = (0, refl)
among_them Stranger = (1, refl)
among_them NobodyThere = (2, refl)
among_them Address = (3, refl)
among_them Cannot = (4, refl)
among_them Layout = (5, refl)
among_them NoFlow = (6, refl)
among_them Priority = (7, refl)
among_them Urgent = (8, refl)
among_them Seen = (9, refl)
among_them Unclear = (10, refl)
among_them Asked = (11, refl)
among_them Counted = (12, refl)
among_them Unsure = (13, refl)
among_them Break = (14, refl)
among_them NearFlow = (15, refl)
among_them NearRequest = (16, refl)
among_them SilentFlow = (17, refl)
among_them Deaf = (18, refl)
among_them NearPackets = (19, refl)
among_them SilentPackets = (20, refl)
among_them NearOrLate = (21, refl)
among_them SilentOrLate = (22, refl)
among_them Answered = (23, refl)
among_them Answers = (24, refl)
among_them Besides = (25, refl)
among_them WrongAnnouncement = (26, refl)
among_them WrongGrant = (27, refl)
among_them WrongPacket = (28, refl)
among_them WrongReceipt = (29, refl)

all_at : {X : Type 0} (p : X → Bool) (xs : List X) (n : ℕ) (x : X) → list_all p xs ≡ true → slice_get xs n ≡ Some x → p x ≡ true
all_at p [] n x all at = absurd (none-some x at)
all_at p (y ∷ xs) zero x all at = subst (λ z. p z ≡ true) (same_Some y x at) (and_parts (p y) (list_all p xs) all).0
all_at p (y ∷ xs) (suc n) x all at = all_at p xs n x (and_parts (p y) (list_all p xs) all).1 at

if_so : (a b : Bool) → (not a || b) ≡ true → a ≡ true → b ≡ true
if_so true b so is = so
if_so false b so is = absurd (true≢false (sym is))

-- what is so of each of them is so of a word
pub by_words : (p q : Word → Bool) → list_all (λ w. not (p w) || q w) every_word ≡ true → (w : Word) → p w ≡ true → q w ≡ true
by_words p q all w is =
    let (n, at) = among_them w in
    if_so (p w) (q w) (all_at (λ v. not (p v) || q v) every_word n w all at) is

seen_another : (w : Word) → is_seen w ≡ true → is_another w ≡ true
seen_another = by_words is_seen is_another refl

-- ---- how a message differs

abbrev pub is_of_message : Word → Bool
is_of_message Layout = true
is_of_message NoFlow = true
is_of_message Priority = true
is_of_message _ = false

-- the mark of a message that differs is of one of three words, and of its unit
abbrev pub IsDeviation : SentMessage → Option Mark → Type 0
IsDeviation m None = Unit {0}
IsDeviation m (Some k) = (is_of_message k.word ≡ true) × (k.subject ≡ m.unit)

differs_without : (s : Settings) (m : SentMessage) (a b : Option ℕ) → IsDeviation m (without_flow s m a b)
differs_without s m (Some g) b = (refl, refl)
differs_without s m None (Some g) = (refl, refl)
differs_without s m None None = tt

differs_with : (s : Settings) (k : Knowledge) (m : SentMessage) (o : Option ℕ) → IsDeviation m (with_fit_flow s k m o)
differs_with s k m None = differs_without s m (first_group s m Fitting) (option_or (first_group s m Selected) (first_group s m Any))
differs_with s k m (Some f) =
    cond_both (list_any (is_of s k m) s.plan.flows.items) None (Some (record { word = Priority; subject = m.unit; group = flow_group s f }))
    (IsDeviation m) (λ _. tt) (λ _. (refl, refl))

pub differs_so : (s : Settings) (k : Knowledge) (m : SentMessage) → IsDeviation m (deviation s k m)
unfolding deviation
differs_so s k m = differs_with s k m (position (is_fit s k m) s.plan.flows.items)

-- so is one that is told
pub told_so : (s : Settings) (k : Knowledge) (m : SentMessage) → IsDeviation m (told s k m)
told_so s k m = cond_both (answers_request s k m) None (deviation s k m) (IsDeviation m) (λ _. tt) (λ _. differs_so s k m)

-- what is told is how it differs
pub told_is : (s : Settings) (k : Knowledge) (m : SentMessage) (d : Mark) → told s k m ≡ Some d → deviation s k m ≡ Some d
told_is s k m d =
    cond_both (answers_request s k m) None (deviation s k m) (λ o. o ≡ Some d → deviation s k m ≡ Some d) (λ _ never. absurd (none-some d never)) (λ _ is. is)

pub of_message_another : (w : Word) → is_of_message w ≡ true → is_another w ≡ true
of_message_another = by_words is_of_message is_another refl

-- the unit of a message is its sender
pub sender_of : (u : ℕ) (f : Frame) (packet : Option Packet) (m : SentMessage) → message_sent u f packet ≡ Some m → m.unit ≡ u
sender_of u f packet m e =
    cond_both (is_single (pgn_of f.ident)) (Some (single u f)) (announced_by u f packet) (λ o. o ≡ Some m → m.unit ≡ u)
    (λ _ is. sym (ap (λ (x : SentMessage). x.unit) (same_Some (single u f) m is)))
    (λ _ is. announced packet is) e
  where
    announced : (packet : Option Packet) → announced_by u f packet ≡ Some m → m.unit ≡ u
    announced None is = absurd (none-some m is)
    announced (Some (Rts size limit pgn)) is =
        cond_both (goes_to_another f) (Some (announced_message u f size pgn)) None (λ o. o ≡ Some m → m.unit ≡ u)
        (λ _ e. sym (ap (λ (x : SentMessage). x.unit) (same_Some (announced_message u f size pgn) m e))) (λ _ e. absurd (none-some m e)) is
    announced (Some (Bam size pgn)) is = sym (ap (λ (x : SentMessage). x.unit) (same_Some (announced_message u f size pgn) m is))
    announced (Some (Cts count first pgn)) is = absurd (none-some m is)
    announced (Some (EndAck size pgn)) is = absurd (none-some m is)
    announced (Some (Abort reason pgn)) is = absurd (none-some m is)
    announced (Some (Dt number chunk)) is = absurd (none-some m is)

-- ---- what is noted of flows and requests

seen_at : {X : Type 0} (line : ℕ) (word : Word) (test : X → Bool) (all : List X) → is_seen word ≡ true
    → (n : ℕ) → HaveWords is_seen (marked line word test all n)
seen_at {X} line word test all is n =
    cond_both (option_map_or test (slice_get all n) false) (noted_at line word n 0 ∷ []) [] (HaveWords is_seen) (λ _. (is, tt)) (λ _. tt)

all_seen : {X : Type 0} (line : ℕ) (word : Word) (test : X → Bool) (all : List X) → is_seen word ≡ true
    → HaveWords is_seen (all_marked line word test all)
unfolding all_marked
all_seen {X} line word test all is = words_below is_seen (marked line word test all) (seen_at line word test all is) (length all)

pub flows_seen : (s : Settings) (k : Knowledge) (m : SentMessage) (line : ℕ) → HaveWords is_seen (flows_noted s k m line)
unfolding flows_noted
flows_seen s k m line =
    all_seen line (if count_by (is_nearest_flow s k m) s.plan.flows.items == 1 then Seen else Unclear) (is_nearest_flow s k m) s.plan.flows.items
    (cond_both (count_by (is_nearest_flow s k m) s.plan.flows.items == 1) Seen Unclear (λ w. is_seen w ≡ true) (λ _. refl) (λ _. refl))

-- and of what was asked for
asked_seen : (s : Settings) (k : Knowledge) (m : SentMessage) (line : ℕ) → HaveWords is_seen (asked_noted s k m line)
asked_seen s k m line =
    words_both is_seen (answer_noted line (answers_request s k m) (deviation s k m)) (besides_noted s k m line)
    (cond_both (answers_request s k m) (answer_of line (deviation s k m)) [] (HaveWords is_seen) (λ _. of_mark (deviation s k m)) (λ _. tt))
    (words_if is_seen (noted_at line Besides 0 0) (was_asked_for s k true m.number m.source) refl)
  where
    of_mark : (o : Option Mark) → HaveWords is_seen (answer_of line o)
    of_mark None = tt
    of_mark (Some d) = (refl, (refl, tt))

pub all_seen_of : (s : Settings) (k : Knowledge) (m : SentMessage) (line : ℕ) → HaveWords is_seen (flows_noted s k m line ++ asked_noted s k m line)
all_seen_of s k m line = words_both is_seen (flows_noted s k m line) (asked_noted s k m line) (flows_seen s k m line) (asked_seen s k m line)

requests_seen : (s : Settings) (k : Knowledge) (m : SentMessage) (line : ℕ) → HaveWords is_seen (requests_noted s k m line)
unfolding requests_noted
requests_seen s k m line =
    cond_both (count_by (is_nearest_request s k m) s.plan.requests.items == 1)
    (all_marked line Asked (is_nearest_request s k m) s.plan.requests.items) [] (HaveWords is_seen)
    (λ _. all_seen line Asked (is_nearest_request s k m) s.plan.requests.items refl) (λ _. tt)

pub request_seen : (s : Settings) (k : Knowledge) (u : ℕ) (f : Frame) (line : ℕ) → HaveWords is_seen (request_noted s k u f line)
request_seen s k u f line =
    cond_both (requests_group f) (requests_noted s k (requested u f) line) [] (HaveWords is_seen)
    (λ _. requests_seen s k (requested u f) line) (λ _. tt)

-- one of these doesn't accuse
pub seen_word : (xs : List Noted) → HaveWords is_seen xs → (n : Noted) → In n xs → IsAccusing n.mark.word → ⊥
seen_word [] all n is accuses = is
seen_word (x ∷ xs) all n (inl e) accuses =
    true≢false (sym (subst (λ (y : Noted). is_seen y.mark.word ≡ true) e all.0) ∙ unseen n.mark.word accuses)
seen_word (x ∷ xs) all n (inr is) accuses = seen_word xs all.1 n is accuses

pub more_words : (xs : List Noted) → HaveWords is_seen xs → HaveWords is_another xs
more_words [] all = tt
more_words (x ∷ xs) all = (seen_another x.mark.word all.0, more_words xs all.1)
