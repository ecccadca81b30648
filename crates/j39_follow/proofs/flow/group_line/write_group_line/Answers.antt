use Rattle.std.proofs.Common.{◌≡◌, ◌++◌, ℕ, List, codes, refl, ap, ◌∙◌, append_assoc}
use Rattle.std.proofs.lemmas.Result.{IfOk-weaker}
use Rattle.j39_follow.specs.FollowReports.{message_line, sent_text}
use Rattle.j39_follow.specs.inside.Reporting.{arrived_message, front_of}
use Rattle.j39_follow.proofs.flow.group_line.write_group_line.Goals as goal

joined : (old front label parties sent : List ℕ)
    → (((old ++ front) ++ (codes "group " ++ (label ++ codes " from "))) ++ parties) ++ sent
    ≡ old ++ (front ++ (codes "group " ++ (label ++ ((codes " from " ++ parties) ++ sent))))
joined old front label parties sent = simp append_assoc refl

pub returns : goal.returns
unfolding message_line
returns c =
    let old : List ℕ = c.args.text.now in
    let front : List ℕ = front_of c.args.stamp in
    let group = c.args.group.now in
    let sent : List ℕ = sent_text group c.args.flow (arrived_message c.args.message) in
    IfOk-weaker c.write_sent.result _ _
    (λ _ written. λ log shows.
    let parties = c.in_ok-write_parties.ensures log shows in (
      codes " from " ++ parties.0,
      parties.1,
      written
          ∙ ap (λ (t : List ℕ). t ++ sent) (parties.2
          ∙ ap (λ (t : List ℕ). t ++ parties.0) (c.in_ok-bytes.ensures
          ∙ ap (λ (t : List ℕ). t ++ c.args.head.now) c.in_ok-write_stamp.ensures
          ∙ ap (λ (head : List ℕ). (old ++ front) ++ head) c.requires))
          ∙ joined old front group.label.bytes parties.0 sent,
    ))
    c.write_sent.ensures
