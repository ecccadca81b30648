use Rattle.std.proofs.Common.{◌≡◌, ◌++◌, List, ℕ, length, refl, sym, ap, subst, ◌∙◌, append_assoc}
use Rattle.std.proofs.lemmas.Result.{IfOk-weaker}
use Rattle.j39_follow.specs.FollowText.{follow_counts_line, flow_ends, frames_seen, group_ends, need_ends, request_ends}
use Rattle.j39_network.specs.declared.plan.Plan.{Plan}
use Rattle.j39_follow.specs.declared.address.holders.Holders.{Holders}
use Rattle.j39_follow.specs.declared.flow.tally.Tally.{Tally}
use Rattle.j39_follow.specs.declared.message.Sort.{Sort}
use Rattle.j39_follow.specs.inside.Recounting.{Recounts}
use Rattle.j39_follow.specs.inside.Tallies.{IsTally}
use Rattle.j39_follow.proofs.unit_report.UnitReport.finish.Goals as goal

grouped : (old a b units requests needs counts : List ℕ)
    → (((old ++ (a ++ (b ++ units))) ++ requests) ++ needs) ++ counts ≡ old ++ (a ++ (b ++ (units ++ (requests ++ (needs ++ counts)))))
grouped old a b units requests needs counts = simp append_assoc refl

-- a tally that was read is the same tally
tally_read : (plan : Plan) (sent : List Sort) (read kept : Tally) → read ≡ kept → IsTally plan kept sent → IsTally plan read sent
tally_read plan sent read kept same of = subst (λ (t : Tally). IsTally plan t sent) (sym same) of

pub returns : goal.returns
returns c =
    let self = c.args.self.now in
    let plan = c.args.plan.now in
    let kept = c.args.counts.now in
    let text = c.args.text.now in
    IfOk-weaker c.write_counts.result _ _
    (λ _ written. λ past recalls.
    let m = recalls.remembers in
    let recounts = subst (λ (h : Holders). Recounts plan h (frames_seen past.seen)) (sym c.holders.ensures) m.knows.recounts in
    let ends = c.in_ok-write_endings.ensures past.sent (frames_seen past.seen) (tally_read plan past.sent _ _ c.deref.ensures m.tally) recounts in
    let a : List ℕ = flow_ends plan past.sent in
    let b : List ℕ = group_ends plan past.sent in
    let needs : List ℕ = need_ends plan past.sent in
    let requests : List ℕ = request_ends plan past.events in
    let asked = c.in_ok-write_requests.ensures past.events m.exchanges in
    let met = c.in_ok-write_needs.ensures past.sent (tally_read plan past.sent _ _ c.deref-2.ensures m.tally) in
    let counts : follow_counts_line kept.frames kept.skipped kept.bad kept.elsewhere
    ≡ follow_counts_line (length past.seen) past.skipped past.bad past.elsewhere =
    ap (λ (n : ℕ). follow_counts_line n kept.skipped kept.bad kept.elsewhere) recalls.frames_are
    ∙ ap (λ (n : ℕ). follow_counts_line (length past.seen) n kept.bad kept.elsewhere) recalls.skipped_are
    ∙ ap (λ (n : ℕ). follow_counts_line (length past.seen) past.skipped n kept.elsewhere) recalls.bad_are
    ∙ ap (λ (n : ℕ). follow_counts_line (length past.seen) past.skipped past.bad n) recalls.elsewhere_are in (
      ends.0,
      ends.1,
      written
          ∙ ap (λ (t : List ℕ). t ++ follow_counts_line kept.frames kept.skipped kept.bad kept.elsewhere)
          (met ∙ ap (λ (t : List ℕ). t ++ needs) (asked ∙ ap (λ (t : List ℕ). t ++ requests) ends.2))
          ∙ ap (λ (t : List ℕ). (((text ++ (a ++ (b ++ ends.0))) ++ requests) ++ needs) ++ t) counts
          ∙ grouped text a b ends.0 requests needs (follow_counts_line (length past.seen) past.skipped past.bad past.elsewhere),
    ))
    c.write_counts.ensures
