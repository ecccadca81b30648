use Rattle.std.proofs.Common.{◌≡◌, ◌<◌, ◌++◌, ℕ, Option, None, length, ap, subst, ◌∙◌}
use Rattle.j39_audit.specs.Moments.{silence_behind, silent_noted}
use Rattle.j39_audit.specs.declared.pauses.LastFrame.{LastFrame}
use Rattle.j39_audit.specs.declared.pauses.Newest.{Newest}
use Rattle.j39_audit.specs.inside.Recalling.{AreCounted, far_ahead, last_in_pauses, settings_of}
use Rattle.j39_audit.proofs.Keeping.{forgotten, kept_less, placed_is}
use Rattle.j39_audit.proofs.Pausing.{near_with, recalls_with}
use Rattle.j39_audit.proofs.moments.Moments.end_pause.Goals as goal

pub returns-clause-near : goal.returns-clause-near
returns-clause-near c =
    let near = c.requires.near in
    let forgot = c.forget_at.ensures in
    let place = c.args.place in
    let none = forgotten place c.forget_at.new.kept.items (length c.args.self.now.pauses.newest.items) forgot.size forgot.here in
    near_with near (record {
      newest = placed_is (λ x. x.moment < far_ahead) place None _ _ forgot.others none tt near.pauses.newest;
      last = near.pauses.last;
      newest_size = forgot.size ∙ near.pauses.newest_size;
      last_size = near.pauses.last_size;
    })

pub returns-clause-moments : goal.returns-clause-moments
returns-clause-moments c = λ m recalls.
    let s = settings_of c.args.basis.now in
    let t = c.args.timing in
    let place = c.args.place in
    let old = c.args.self.now.pauses in
    let found : Option Newest = m.newest place in
    let newest : c.newest-newest.result ≡ found = c.newest-newest.ensures ∙ recalls.pauses.newest.places place in
    let frames : last_in_pauses old ≡ m.last = λ i u. recalls.pauses.last.places u i in
    let by : c.silence_behind-by.result ≡ silence_behind s t place found m.last = c.silence_behind-by.ensures
    ∙ ap (λ (x : Option Newest). silence_behind s t place x (last_in_pauses old)) newest
    ∙ ap (λ (f : ℕ → Option LastFrame). silence_behind s t place found f) frames in
    let forgot = c.forget_at.ensures in
    recalls_with recalls
    (subst (λ (x : Option Newest). AreCounted c.note_silent.new.untimely (m.untimely ++ silent_noted place x (silence_behind s t place found m.last))) newest
    (subst (λ (b : Option ℕ). AreCounted c.note_silent.new.untimely (m.untimely ++ silent_noted place c.newest-newest.result b)) by
    (c.in_ok-note_silent.ensures.counts m.untimely recalls.counted)))
    (kept_less place forgot.others forgot.size forgot.here recalls.pauses.newest)
    recalls.pauses.last
