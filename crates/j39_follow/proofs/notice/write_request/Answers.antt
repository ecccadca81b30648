use Rattle.std.proofs.Common.{◌≡◌, ◌++◌, ◌∷◌, [], ℕ, List, codes, refl, sym, ap, subst, ◌∙◌, append_assoc}
use Rattle.std.proofs.lemmas.Result.{IfOk-weaker}
use Rattle.j39_id.specs.FrameMeaning.{requested_group}
use Rattle.j39_text.specs.Texts.{field}
use Rattle.j39_follow.specs.FollowReports.{IsSendingOf, Message, asked_line as request_line}
use Rattle.j39_follow.specs.LoggedRequests.{asked_request, asked_text}
use Rattle.j39_follow.specs.inside.Contesting.{ShowsParties}
use Rattle.j39_follow.specs.inside.Reporting.{front_of}
use Rattle.j39_follow.proofs.notice.write_request.Goals as goal

joined : (old front asked way which end : List ℕ)
    → ((((old ++ front) ++ asked) ++ way) ++ which) ++ end ≡ old ++ (front ++ (asked ++ (way ++ (which ++ end))))
joined old front asked way which end = simp append_assoc refl

pub returns : goal.returns
unfolding request_line
returns c =
    let old : List ℕ = c.args.text.now in
    let front : List ℕ = front_of c.args.stamp in
    let plan = c.args.plan.now in
    let f = c.args.frame.now in
    let number = c.requested_group-number.ensures in
    IfOk-weaker c.end_line.result _ _
    (λ _ ended. λ log shows.
    let way = c.in_ok-write_way.ensures log shows in
    let there = subst (ShowsParties plan c.args.parties.now log) (sym (ap (λ (m : Message). m.ident) c.in_frame.ensures)) shows in
    let sent = subst (λ (m : Message). IsSendingOf plan log m c.sending_of.result) c.in_frame.ensures (c.sending_of.ensures plan log there) in (
      way.0,
      c.asked_request.result,
      way.1,
      (
        c.sending_of.result,
        sent,
        c.asked_request.ensures ∙ ap (λ (n : ℕ). asked_request plan n c.sending_of.result) number,
      ),
      ended
          ∙ ap (λ (t : List ℕ). t ++ 10 ∷ []) (c.in_ok-write_asked.ensures ∙ ap (λ (t : List ℕ). t ++ asked_text c.asked_request.result) (way.2
          ∙ ap (λ (t : List ℕ). t ++ way.0) (c.in_ok-field.ensures
          ∙ ap (λ (t : List ℕ). t ++ field (codes "request ") c.requested_group-number.result) c.in_ok-write_stamp.ensures
          ∙ ap (λ (n : ℕ). (old ++ front) ++ field (codes "request ") n) number)))
          ∙ joined old front (field (codes "request ") (requested_group f)) way.0 (asked_text c.asked_request.result) (10 ∷ []),
    ))
    c.end_line.ensures
