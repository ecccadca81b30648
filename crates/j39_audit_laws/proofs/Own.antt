-- Who keeps its own part isn't accused.
use Rattle.std.proofs.Common.{◌≡◌, ◌≢◌, ◌⊎◌, ℕ, zero, suc, ◌<◌, ◌==◌, ◌&&◌, ◌||◌, ◌++◌, ◌∷◌, [], List, true, not, length}
use Rattle.std.proofs.Common.{inl, inr, refl, sym, ap, ◌∙◌, subst, arith, eqb-true, Option, Some}
use Rattle.std.specs.Prelude.{Contains, nat_lt, nat_le, false, Bool, None}
use Rattle.std.specs.Option.{is_some}
use Rattle.std.proofs.lemmas.Bool.{and_from, and_parts, cond-true, eq-eqb, le-leb, ltb-true, not-true, or_cases, or_left, or_right, true≢false}
use Rattle.std.proofs.lemmas.Option.{none-some}
use Rattle.j39_id.specs.Addresses.{is_address, null_address}
use Rattle.j39_id.specs.FrameMeaning.{cannot_claim, carries_name, claims_address}
use Rattle.j39_id.specs.Ident.{pgn_of}
use Rattle.j39_id.specs.Lines.{Line}
use Rattle.j39_id.specs.Services.{address_claimed, connection_management, data_transfer}
use Rattle.j39_id.specs.declared.frame.Frame.{Frame}
use Rattle.j39_network.specs.declared.plan.Plan.{Plan}
use Rattle.j39_network.specs.declared.plan.timing.Timing.{Timing}
use Rattle.j39_tp.specs.declared.packet.Packet.{Packet}
use Rattle.j39_audit.specs.AuditText.{Look, groups_named, line_of_mark, line_reported, look_at, mark_at, subject_lines, reported_mark}
use Rattle.j39_audit.specs.Below.{each_below}
use Rattle.j39_audit.specs.Claiming.{HeardClaims, Knowledge, knowledge, was_asked_for}
use Rattle.j39_audit.specs.Looking.{is_above_unplanned, is_claim, is_of_own_group, is_of_transport, is_single, is_urgent, may_be_transport, single, told}
use Rattle.j39_audit.specs.Looking.{answers_request, is_answer, message_sent}
use Rattle.j39_audit.specs.SentMessages.{SentMessage, deviation, first_group}
use Rattle.j39_audit.specs.Settings.{AreMoving, Settings}
use Rattle.j39_audit.specs.declared.mark.Mark.{Mark}
use Rattle.j39_audit.specs.declared.mark.Word.{Word}
use Rattle.j39_audit.specs.declared.mark.Word.TheVariants.{Short, Stranger, Nobody as NobodyThere, Address, Cannot, Layout, NoFlow, Priority, Urgent, Seen}
use Rattle.j39_audit.specs.declared.mark.Word.TheVariants.{Unclear, Asked, Counted, Unsure, Break, NearFlow, NearRequest, SilentFlow, Deaf, NearPackets}
use Rattle.j39_audit.specs.declared.mark.Word.TheVariants.{SilentPackets, NearOrLate, SilentOrLate, Answered, Answers, Besides}
use Rattle.j39_audit.specs.declared.mark.Word.TheVariants.{WrongAnnouncement, WrongGrant, WrongPacket, WrongReceipt}
use Rattle.j39_audit.specs.declared.messages.Test.TheVariants.{Any}
use Rattle.j39_audit.specs.declared.tally.Occurrences.{Occurrences}
use Rattle.j39_audit_laws.specs.FoundLines.{Differs, IsAccusing, IsFoundAt, IsFrameAt, IsAccusedAs, IsReportedAt}
use Rattle.j39_audit_laws.specs.OwnPart.{AlwaysCan, AreItsOwn, ClaimsItsOwn, ClaimsWhereItMay, IsByThePlan, IsItsNumber, IsNotNamed, LooksAsPlanned}
use Rattle.j39_audit_laws.specs.OwnPart.{SaysCannotWhereItHasTo, SentBy, WaitsForPlanned, LooksPlannedOrAsked, OfItsFrames, IsOfFlowPlanned}
use Rattle.j39_audit_laws.proofs.Planned.{at_place, claims_so, differing_number, its_address, place_at, planned_alike, some_group}
use Rattle.j39_audit_laws.proofs.Marking.{sender_of, told_is}
use Rattle.j39_audit_laws.proofs.Occurrences.{lines_are_of_log}

-- ---- what is never found isn't written

first_there : (n : ℕ) (rest : List ℕ) → Contains (n ∷ rest) n
first_there n rest = (0, omega arith, refl)

reported_never : (s : Settings) (log : List Line) (m : Mark) (t : Occurrences) → IsReportedAt s log m t → ((n : ℕ) → ¬ IsFoundAt s log n m) → t.times ≡ 0
reported_never s log m t states none =
    elim (states.lines) as (λ xs. states.lines ≡ xs → t.times ≡ 0) [
      | [] ↦ λ is. (let times = states.times in let size : length states.lines ≡ 0 = ap length is in omega (arith, times, size))
      | n ∷ rest ↦ λ is. absurd (none n ((states.exact n).0 (subst (λ (l : List ℕ). Contains l n) (sym is) (first_there n rest))))
    ] refl

no_line : (plan : Plan) (m : Mark) (t : Occurrences) → t.times ≡ 0 → line_of_mark plan m t ≡ []
unfolding line_of_mark
no_line plan m t none = cond-true (t.times == 0) [] _ (eq-eqb t.times 0 none)

pub none_below : {X : Type 0} (list : ℕ → List X) → ((i : ℕ) → list i ≡ []) → (n : ℕ) → each_below list n ≡ []
unfolding each_below
none_below {X} list none zero = refl
none_below {X} list none (suc n) = ap (λ (l : List X). l ++ list n) (none_below list none n) ∙ none n

-- what accuses so is reported itself
pub stated_itself : (look : Look) (w : Word) (u g : ℕ) → IsAccusing w → reported_mark look w u g ≡ mark_at w u g
stated_itself look Short u g is = refl
stated_itself look Stranger u g is = refl
stated_itself look NobodyThere u g is = refl
stated_itself look Address u g is = refl
stated_itself look Cannot u g is = refl
stated_itself look Layout u g is = refl
stated_itself look NoFlow u g is = refl
stated_itself look Priority u g is = refl
stated_itself look Urgent u g is = refl
stated_itself look Seen u g is = absurd is
stated_itself look Unclear u g is = absurd is
stated_itself look Asked u g is = absurd is
stated_itself look Counted u g is = absurd is
stated_itself look Unsure u g is = absurd is
stated_itself look Break u g is = absurd is
stated_itself look NearFlow u g is = absurd is
stated_itself look NearRequest u g is = absurd is
stated_itself look SilentFlow u g is = absurd is
stated_itself look Deaf u g is = absurd is
stated_itself look NearPackets u g is = absurd is
stated_itself look SilentPackets u g is = absurd is
stated_itself look NearOrLate u g is = absurd is
stated_itself look SilentOrLate u g is = absurd is
stated_itself look Answered u g is = absurd is
stated_itself look Answers u g is = absurd is
stated_itself look Besides u g is = absurd is
stated_itself look WrongAnnouncement u g is = absurd is
stated_itself look WrongGrant u g is = absurd is
stated_itself look WrongPacket u g is = absurd is
stated_itself look WrongReceipt u g is = absurd is

pub none_of_subject : (s : Settings) (log : List Line) (word : Word) (u : ℕ) → IsAccusing word → ((g n : ℕ) → ¬ IsFoundAt s log n (mark_at word u g))
    → IsNotNamed s log word u
unfolding subject_lines line_reported
none_of_subject s log word u accuses none end read =
    let look : Look = look_at end in
    none_below (λ (g : ℕ). line_reported s.plan look (reported_mark look word u g))
    (λ g. ap (λ (m : Mark). line_of_mark s.plan m (look m)) (stated_itself look word u g accuses)
    ∙ no_line s.plan (mark_at word u g) (look (mark_at word u g))
    (reported_never s log (mark_at word u g) (look (mark_at word u g)) (lines_are_of_log s log end read (mark_at word u g) accuses) (none g)))
    (groups_named s word)

-- only frames are found of another word than that of short lines
pub of_frames : (s : Settings) (log : List Line) (word : Word) (u : ℕ) → IsAccusing word → word ≢ Short
    → ((g n : ℕ) (claims : HeardClaims) (f : Frame) (packet : Option Packet) → IsFrameAt s log n claims f packet → ¬ IsAccusedAs s claims f packet word u g)
    → IsNotNamed s log word u
of_frames s log word u accuses other none = none_of_subject s log word u accuses found
  where
    found : (g n : ℕ) → ¬ IsFoundAt s log n (mark_at word u g)
    found g n (inl (at, is)) = other (ap (λ (m : Mark). m.word) is)
    found g n (inr (claims, f, packet, at, marked)) = none g n claims f packet at marked

-- ---- claims

pub can_claim : (s : Settings) (log : List Line) (sent : SentBy) (u : ℕ) → AreMoving s.plan s.moving → AreItsOwn s log sent u
    → SaysCannotWhereItHasTo s log sent u → IsNotNamed s log Cannot u
can_claim s log sent u moving own keeps =
    of_frames s log Cannot u tt (λ e. cc e) (λ g n claims f packet at marked.
    let (of, null, needless, grouped) = marked in
    needless (keeps n claims f packet at (own.claims n claims f packet at of.claim of.unit_is) of.claim null))

-- who never says that it can't, and who claims its own addresses alone
pub who_always_can : (s : Settings) (log : List Line) (sent : SentBy) (u : ℕ) → AlwaysCan s log sent u → SaysCannotWhereItHasTo s log sent u
who_always_can s log sent u can n claims f packet at its claim null = absurd (can n claims f packet at its claim null)

pub who_claims_its_own : (s : Settings) (log : List Line) (sent : SentBy) (u : ℕ) → ClaimsItsOwn s log sent u → ClaimsWhereItMay s log sent u
who_claims_its_own s log sent u keeps n claims f packet at its claim some = inl (keeps n claims f packet at its claim some)

pub claims_its_own : (s : Settings) (log : List Line) (sent : SentBy) (u : ℕ) → AreMoving s.plan s.moving → AreItsOwn s log sent u
    → ClaimsWhereItMay s log sent u → IsNotNamed s log Address u
claims_its_own s log sent u moving own keeps =
    of_frames s log Address u tt (λ e. cc e) (λ g n claims f packet at marked.
    let (of, some, wrong, stays, grouped) = marked in
    elim (keeps n claims f packet at (own.claims n claims f packet at of.claim of.unit_is) of.claim some) [
      | inl right ↦ wrong (record { claims = claims_so s u right.0; own = its_address s moving u f.ident.sa right.1 })
      | inr moves ↦ stays moves
    ])

-- ---- messages

module _ (s : Settings) (log : List Line) (sent : SentBy) (u : ℕ) (moving : AreMoving s.plan s.moving) (own : AreItsOwn s log sent u) where
  -- each message that may differ is of a flow, or not told
  module _ (word : Word) (g : ℕ) (keeps : OfItsFrames s log sent u (λ claims f packet. (m : SentMessage) → message_sent u f packet ≡ Some m
      → IsItsNumber s.plan u m.number → IsOfFlowPlanned s.plan (knowledge s claims) m
      ⊎ (told s (knowledge s claims) m ≢ Some (record { word = word; subject = u; group = g })))) where
    told_never : (n : ℕ) (claims : HeardClaims) (f : Frame) (packet : Option Packet) → IsFrameAt s log n claims f packet
        → ¬ Differs s claims f packet (record { word = word; subject = u; group = g })
    told_never n claims f packet at d =
        let its = own.frames n claims f packet at d.sent.other d.sent.address d.sent.sender_is in
        let k : Knowledge = knowledge s claims in
        let same : d.message.unit ≡ u = sender_of u f packet d.message d.message_is in
        let differs = told_is s k d.message _ d.differs in
        let number : IsItsNumber s.plan u d.message.number =
        subst (λ (v : ℕ). IsItsNumber s.plan v d.message.number) same (differing_number s k d.message _ differs) in
        elim (keeps n claims f packet at its d.message d.message_is number) [
          | inl planned ↦ none-some _ (sym (planned_alike s moving k d.message planned) ∙ differs)
          | inr not ↦ not d.differs
        ]

  differs_never : LooksAsPlanned s log sent u → (word : Word) (g n : ℕ) (claims : HeardClaims) (f : Frame) (packet : Option Packet)
      → IsFrameAt s log n claims f packet → ¬ Differs s claims f packet (record { word = word; subject = u; group = g })
  differs_never keeps word g = told_never word g (λ n claims f packet at its m is number. inl (keeps n claims f packet at its m is number))

  -- what answers isn't told as a message without a flow
  answers_never : (k : Knowledge) (m : SentMessage) (g : ℕ) → was_asked_for s k false m.number m.source ≡ true
      → told s k m ≢ Some (record { word = NoFlow; subject = u; group = g })
  unfolding answers_request
  answers_never k m g asked is =
      let differs = told_is s k m _ is in
      let answers : answers_request s k m ≡ true = ap (is_answer (was_asked_for s k false m.number m.source)) differs
      ∙ ap (λ (b : Bool). b && true) asked in
      none-some _ (sym (cond-true (answers_request s k m) None (deviation s k m) answers) ∙ is)

  flows_never : LooksPlannedOrAsked s log sent u → (g n : ℕ) (claims : HeardClaims) (f : Frame) (packet : Option Packet)
      → IsFrameAt s log n claims f packet → ¬ Differs s claims f packet (record { word = NoFlow; subject = u; group = g })
  flows_never keeps g = told_never NoFlow g (λ n claims f packet at its m is number. elim (keeps n claims f packet at its m is number) [
    | inl planned ↦ inl planned
    | inr asked ↦ inr (answers_never (knowledge s claims) m g asked)
  ])

pub layouts_are_planned : (s : Settings) (log : List Line) (sent : SentBy) (u : ℕ) → AreMoving s.plan s.moving → AreItsOwn s log sent u
    → LooksAsPlanned s log sent u → IsNotNamed s log Layout u
layouts_are_planned s log sent u moving own keeps =
    of_frames s log Layout u tt (λ e. cc e) (differs_never s log sent u moving own keeps Layout)

pub flows_are_planned : (s : Settings) (log : List Line) (sent : SentBy) (u : ℕ) → AreMoving s.plan s.moving → AreItsOwn s log sent u
    → LooksPlannedOrAsked s log sent u → IsNotNamed s log NoFlow u
flows_are_planned s log sent u moving own keeps =
    of_frames s log NoFlow u tt (λ e. cc e) (flows_never s log sent u moving own keeps)

pub priorities_are_planned : (s : Settings) (log : List Line) (sent : SentBy) (u : ℕ) → AreMoving s.plan s.moving → AreItsOwn s log sent u
    → LooksAsPlanned s log sent u → IsNotNamed s log Priority u
priorities_are_planned s log sent u moving own keeps =
    of_frames s log Priority u tt (λ e. cc e) (differs_never s log sent u moving own keeps Priority)

-- ---- urgent frames

-- the priority is below the number of all that isn't planned
above_so : (s : Settings) (f : Frame) → is_above_unplanned s f ≡ true → (t : Timing) × (s.plan.timing ≡ Some t) × (f.ident.priority < t.unplanned_priority)
above_so s f is =
    let (t, at, less) = at_place (λ (t : Timing). nat_lt f.ident.priority t.unplanned_priority) s.plan.timing is in
    (t, at, ltb-true f.ident.priority t.unplanned_priority less)

-- the number of a claim
pub claim_number : (f : Frame) → is_claim f ≡ true → pgn_of f.ident ≡ address_claimed
claim_number f claim = elim (or_cases (claims_address f) (cannot_claim f) claim) [
  | inl claims ↦ number (and_parts (carries_name f) (is_address f.ident.sa) claims).0
  | inr cannot ↦ number (and_parts (carries_name f) (f.ident.sa == null_address) cannot).0
]
  where
    number : carries_name f ≡ true → pgn_of f.ident ≡ address_claimed
    number carries =
        eqb-true (pgn_of f.ident) address_claimed (and_parts (pgn_of f.ident == address_claimed) (length f.payload.items == 8)
        (and_parts (f.ident.edp == 0) (pgn_of f.ident == address_claimed && length f.payload.items == 8) carries).1).0

-- a claim isn't planned so
claim_unplanned : (s : Settings) (t : Timing) (u : ℕ) (f : Frame) → is_claim f ≡ true → ¬ IsByThePlan s t u f
claim_unplanned s t u f claim (inl (single_one, number)) =
    true≢false (sym single_one ∙ ap is_single (claim_number f claim))
claim_unplanned s t u f claim (inr (inl management, low)) =
    let number = claim_number f claim in
    let same : 60416 ≡ 60928 = sym management ∙ number in
    absurd (omega (arith, same))
claim_unplanned s t u f claim (inr (inr packet, low)) =
    let number = claim_number f claim in
    let same : 60160 ≡ 60928 = sym packet ∙ number in
    absurd (omega (arith, same))

-- nor is what is urgent
urgent_unplanned : (s : Settings) (t : Timing) (u : ℕ) (f : Frame) → s.plan.timing ≡ Some t → is_urgent s u f ≡ true → ¬ IsByThePlan s t u f
urgent_unplanned s t u f timed urgent planned =
    let rest = (and_parts (is_above_unplanned s f) (not (is_of_transport s f) && not (is_of_own_group s u f)) urgent).1 in
    let none = and_parts (not (is_of_transport s f)) (not (is_of_own_group s u f)) rest in
    elim planned [
      | inl (single_one, number) ↦
          let own : is_of_own_group s u f ≡ true =
          and_from (is_single (pgn_of f.ident)) (is_some (first_group s (single u f) Any)) single_one (some_group s (single u f) number) in
          true≢false (sym own ∙ not-true (is_of_own_group s u f) none.1)
      | inr (group, low) ↦
          let may : may_be_transport s f ≡ true =
          place_at (λ (x : Timing). nat_le x.transport_priority f.ident.priority) s.plan.timing t timed (le-leb t.transport_priority f.ident.priority low) in
          let transports : (pgn_of f.ident == connection_management || pgn_of f.ident == data_transfer) ≡ true = elim group [
            | inl management ↦
                or_left (pgn_of f.ident == connection_management) (pgn_of f.ident == data_transfer) (eq-eqb (pgn_of f.ident) connection_management management)
            | inr packet ↦
                or_right (pgn_of f.ident == connection_management) (pgn_of f.ident == data_transfer) (eq-eqb (pgn_of f.ident) data_transfer packet)
          ] in
          let of : is_of_transport s f ≡ true =
          and_from (pgn_of f.ident == connection_management || pgn_of f.ident == data_transfer) (may_be_transport s f) transports may in
          true≢false (sym of ∙ not-true (is_of_transport s f) none.0)
    ]

pub waits_for_planned : (s : Settings) (log : List Line) (sent : SentBy) (u : ℕ) → AreMoving s.plan s.moving → AreItsOwn s log sent u
    → WaitsForPlanned s log sent u → IsNotNamed s log Urgent u
waits_for_planned s log sent u moving own keeps =
    of_frames s log Urgent u tt (λ e. cc e) (λ g n claims f packet at marked. elim marked.0 [
      | inl (of, above) ↦
          let (t, timed, less) = above_so s f above in
          claim_unplanned s t u f of.claim (keeps n claims f packet at (own.claims n claims f packet at of.claim of.unit_is) t timed less)
      | inr (from, urgent) ↦
          let above = (and_parts (is_above_unplanned s f) (not (is_of_transport s f) && not (is_of_own_group s u f)) urgent).0 in
          let (t, timed, less) = above_so s f above in
          urgent_unplanned s t u f timed urgent (keeps n claims f packet at
          (own.frames n claims f packet at from.other from.address from.sender_is) t timed less)
    ])
