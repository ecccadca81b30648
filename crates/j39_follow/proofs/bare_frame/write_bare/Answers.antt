use Rattle.std.proofs.Common.{◌≡◌, ◌++◌, ℕ, List, codes, refl, ap, ◌∙◌, append_assoc}
use Rattle.std.proofs.lemmas.Result.{IfOk-weaker}
use Rattle.j39_id.specs.Ident.{pgn_of}
use Rattle.j39_text.specs.Texts.{field}
use Rattle.j39_follow.specs.FollowReports.{priority_and_bytes, frame_line}
use Rattle.j39_follow.specs.inside.Reporting.{front_of}
use Rattle.j39_follow.proofs.bare_frame.write_bare.Goals as goal

joined : (old front word way end : List ℕ) → (((old ++ front) ++ word) ++ way) ++ end ≡ old ++ (front ++ (word ++ (way ++ end)))
joined old front word way end = simp append_assoc refl

pub returns : goal.returns
unfolding frame_line
returns c =
    let old : List ℕ = c.args.text.now in
    let front : List ℕ = front_of c.args.stamp in
    let f = c.args.frame.now in
    let number : c.number-pgn.result ≡ pgn_of f.ident = c.number-pgn.ensures.value ∙ c.pgn.ensures in
    IfOk-weaker c.write_end.result _ _
    (λ _ ended. λ log shows.
    let way = c.in_ok-write_way.ensures log shows in (
      way.0,
      way.1,
      ended
          ∙ ap (λ (t : List ℕ). t ++ priority_and_bytes f) (way.2
          ∙ ap (λ (t : List ℕ). t ++ way.0) (c.in_ok-field.ensures
          ∙ ap (λ (t : List ℕ). t ++ field (codes "frame ") c.number-pgn.result) c.in_ok-write_stamp.ensures
          ∙ ap (λ (n : ℕ). (old ++ front) ++ field (codes "frame ") n) number))
          ∙ joined old front (field (codes "frame ") (pgn_of f.ident)) way.0 (priority_and_bytes f),
    ))
    c.write_end.ensures
