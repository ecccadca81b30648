use Rattle.std.proofs.Common.{◌≡◌, ◌<◌, ◌++◌, ℕ, Option, Some, ap, subst, ◌∙◌, arith}
use Rattle.j39_audit.specs.Moments.{newest_moment, silent_noted}
use Rattle.j39_audit.specs.Silence.{lag, latest_next}
use Rattle.j39_audit.specs.declared.pauses.Newest.{Newest}
use Rattle.j39_audit.specs.inside.Recalling.{AreCounted, far_ahead}
use Rattle.j39_audit.proofs.Keeping.{kept_more, kept_open, placed_is}
use Rattle.j39_audit.proofs.Pausing.{near_with, recalls_with}
use Rattle.j39_audit.proofs.moments.Moments.take_paused.Goals as goal

pub keep_at-requires : goal.keep_at-requires
keep_at-requires c = omega (arith, c.requires.near.pauses.newest_size, c.requires.place)

pub returns-clause-near : goal.returns-clause-near
returns-clause-near c =
    let near = c.requires.near in
    let kept = c.keep_at.ensures in
    let most = c.latest_next-moment.ensures.most in
    let upper = c.requires.upper in
    near_with near (record {
      newest = placed_is (λ x. x.moment < far_ahead) c.args.place _ _ _ kept.others kept.here (omega (arith, most, upper)) near.pauses.newest;
      last = near.pauses.last;
      newest_size = kept.size ∙ near.pauses.newest_size;
      last_size = near.pauses.last_size;
    })

pub returns-clause-moments : goal.returns-clause-moments
returns-clause-moments c = λ m recalls.
    let place = c.args.place in
    let pause = c.args.pause in
    let window = c.args.window in
    let found : Option Newest = m.newest place in
    let newest : c.newest-newest.result ≡ found = c.newest-newest.ensures ∙ recalls.pauses.newest.places place in
    let latest : c.newest_moment-latest.result ≡ newest_moment found = c.newest_moment-latest.ensures ∙ ap (λ (x : Option Newest). newest_moment x) newest in
    let by : c.lag-by.result ≡ lag pause (newest_moment found) window.lower = c.lag-by.ensures ∙ ap (λ (l : Option ℕ). lag pause l window.lower) latest in
    let moment : c.latest_next-moment.result ≡ latest_next pause (newest_moment found) window =
    c.latest_next-moment.ensures.value ∙ ap (λ (l : Option ℕ). latest_next pause l window) latest in
    let kept = c.keep_at.ensures in
    let make : ℕ → Option Newest = λ k. Some (record { moment = k; line = c.args.line }) in
    recalls_with recalls
    (subst (λ (x : Option Newest). AreCounted c.note_silent.new.untimely
    (m.untimely ++ silent_noted place x (lag pause (newest_moment found) window.lower))) newest
    (subst (λ (b : Option ℕ). AreCounted c.note_silent.new.untimely (m.untimely ++ silent_noted place c.newest-newest.result b)) by
    (c.in_ok-note_silent.ensures.counts m.untimely recalls.counted)))
    (kept_more place kept.others _ (kept.here ∙ ap make moment) recalls.pauses.newest)
    (kept_open recalls.pauses.last)
