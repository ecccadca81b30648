use Rattle.std.proofs.Common.{◌≡◌, ◌++◌, if◌then◌else◌, false, [], ℕ, List, Option, refl, sym, ap, ◌∙◌}
use Rattle.std.proofs.lemmas.List.{append-nil}
use Rattle.std.proofs.lemmas.Result.{IfOk-weaker}
use Rattle.j39_id.specs.FrameMeaning.{cannot_claim, claims_address, requests_group}
use Rattle.j39_id.specs.declared.frame.Frame.{Frame}
use Rattle.j39_network.specs.declared.plan.Plan.{Plan}
use Rattle.j39_follow.specs.Contests.{Timed}
use Rattle.j39_follow.specs.FollowReports.{IsAnswerWay, IsAsked, IsNotice, IsWay, answer_line, asked_line, cannot_line, cannot_text, claim_line, claim_text}
use Rattle.j39_follow.specs.FollowReports.{notice_text}
use Rattle.j39_follow.specs.LoggedRequests.{acknowledges}
use Rattle.j39_follow.specs.declared.address.known_parties.Parties.{Parties}
use Rattle.j39_follow.specs.inside.Contesting.{ShowsAsker, ShowsParties}
use Rattle.j39_follow.specs.inside.Reporting.{front_of}
use Rattle.j39_follow.proofs.Requests.Noted.{an_answer_way, an_asked}
use Rattle.j39_follow.proofs.Addresses.Ways.{a_way, if_not, if_so}
use Rattle.j39_follow.proofs.notice.write_notice.Goals as goal

-- by the ways of the frame and what it asks this is written
noticed : (plan : Plan) (log : List Timed) (front : List ℕ) (f : Frame) (old new text : List ℕ) → (way : (t : List ℕ) × IsWay plan log f.ident t)
    → (back : (t : List ℕ) × IsAnswerWay plan log f t) → (asked : (place : Option ℕ) × IsAsked plan log f place)
    → text ≡ notice_text plan front f way.0 asked.0 back.0 → new ≡ old ++ text
    → (piece : List ℕ) × IsNotice plan log front f piece × (new ≡ old ++ piece)
noticed plan log front f old new text way back asked is written = (
  text,
  record { way = way.0; back = back.0; asked = asked.0; way_is = way.1; back_is = back.1; asked_is = asked.1; text_is = is },
  written,
)

-- whichever these are
whichever_way : (plan : Plan) (parties : Parties) (log : List Timed) (front : List ℕ) (f : Frame) (old new text : List ℕ)
    → ShowsParties plan parties log f.ident → ShowsAsker plan parties log f
    → ((way back : List ℕ) (asked : Option ℕ) → text ≡ notice_text plan front f way asked back) → new ≡ old ++ text
    → (piece : List ℕ) × IsNotice plan log front f piece × (new ≡ old ++ piece)
whichever_way plan parties log front f old new text shows asks is =
    let way = a_way plan parties log f.ident shows in
    let back = an_answer_way plan parties log f shows asks in
    let asked = an_asked plan parties log f shows in
    noticed plan log front f old new text way back asked (is way.0 back.0 asked.0)

-- a frame that reports of no address asks, answers or is nothing of both
no_address : (plan : Plan) (front : List ℕ) (f : Frame) (text way back : List ℕ) (asked : Option ℕ) → claims_address f ≡ false → cannot_claim f ≡ false
    → text ≡ (if requests_group f then asked_line front f way asked else if acknowledges plan f then answer_line front f back else [])
    → text ≡ notice_text plan front f way asked back
no_address plan front f text way back asked claims cannot is = if_not (claims_address f) _ _ _ claims (if_not (cannot_claim f) _ _ _ cannot is)

pub returns-then-claims_address : goal.returns-then-claims_address
returns-then-claims_address c =
    let plan = c.args.plan.now in
    let f = c.args.frame.now in
    IfOk-weaker c.write_claim.result _ _
    (λ _ written. λ log shows asks.
    whichever_way plan c.args.parties.now log (front_of c.args.stamp) f _ _ (claim_line plan (front_of c.args.stamp) f) shows asks
    (λ way back asked. if_so (claims_address f) _ _ (sym c.claims_address.ensures ∙ c.if-claims_address.true))
    (written ∙ ap (λ (name : ℕ). c.args.text.now ++ claim_text plan (front_of c.args.stamp) name f.ident.sa)
    (c.to_bits.ensures.value ∙ c.carried_name.ensures)))
    c.write_claim.ensures

pub returns-then-cannot_claim : goal.returns-then-cannot_claim
returns-then-cannot_claim c =
    let plan = c.args.plan.now in
    let front = front_of c.args.stamp in
    let f = c.args.frame.now in
    let name = c.to_bits-then-cannot_claim.ensures.value ∙ c.carried_name-then-cannot_claim.ensures in
    IfOk-weaker c.write_cannot.result _ _
    (λ _ written. λ log shows asks.
    whichever_way plan c.args.parties.now log front f _ _ (cannot_line plan front f) shows asks
    (λ way back asked. if_not (claims_address f) _ _ _ (sym c.claims_address.ensures ∙ c.if-claims_address.false)
    (if_so (cannot_claim f) _ _ (sym c.cannot_claim.ensures ∙ c.if-cannot_claim.true)))
    (written ∙ ap (λ (n : ℕ). c.args.text.now ++ cannot_text plan front n) name))
    c.write_cannot.ensures

pub returns-then-requests_group : goal.returns-then-requests_group
returns-then-requests_group c =
    let plan = c.args.plan.now in
    let f = c.args.frame.now in
    let front = front_of c.args.stamp in
    IfOk-weaker c.write_request.result _ _
    (λ _ written. λ log shows asks.
    let one = written log shows in
    let back = an_answer_way plan c.args.parties.now log f shows asks in
    noticed plan log front f _ _ _ (one.0, one.2) back (one.1, one.3)
    (no_address plan front f _ one.0 back.0 one.1 (sym c.claims_address.ensures ∙ c.if-claims_address.false)
    (sym c.cannot_claim.ensures ∙ c.if-cannot_claim.false) (if_so (requests_group f) _ _ (sym c.requests_group.ensures ∙ c.if-requests_group.true)))
    one.4)
    c.write_request.ensures

pub returns-then-acknowledges : goal.returns-then-acknowledges
returns-then-acknowledges c =
    let f = c.args.frame.now in
    let plan = c.args.plan.now in
    IfOk-weaker c.write_acknowledgement.result _ _
    (λ _ written. λ log shows asks.
    let way = a_way plan c.args.parties.now log f.ident shows in
    let one = written log shows asks in
    let asked = an_asked plan c.args.parties.now log f shows in
    noticed plan log (front_of c.args.stamp) f _ _ _ way (one.0, one.1) asked
    (no_address plan (front_of c.args.stamp) f _ way.0 one.0 asked.0 (sym c.claims_address.ensures ∙ c.if-claims_address.false)
    (sym c.cannot_claim.ensures ∙ c.if-cannot_claim.false)
    (if_not (requests_group f) _ _ _ (sym c.requests_group.ensures ∙ c.if-requests_group.false)
    (if_so (acknowledges plan f) _ _ (sym c.acknowledges.ensures.same ∙ c.if-acknowledges.true))))
    one.2)
    c.write_acknowledgement.ensures

pub returns-else-acknowledges : goal.returns-else-acknowledges
returns-else-acknowledges c = λ log shows asks.
    let plan = c.args.plan.now in
    let f = c.args.frame.now in
    let front = front_of c.args.stamp in
    whichever_way plan c.args.parties.now log front f _ _ [] shows asks
    (λ way back asked. no_address plan front f [] way back asked (sym c.claims_address.ensures ∙ c.if-claims_address.false)
    (sym c.cannot_claim.ensures ∙ c.if-cannot_claim.false)
    (if_not (requests_group f) _ _ _ (sym c.requests_group.ensures ∙ c.if-requests_group.false)
    (if_not (acknowledges plan f) _ _ _ (sym c.acknowledges.ensures.same ∙ c.if-acknowledges.false) refl)))
    (sym (append-nil c.args.text.now))
