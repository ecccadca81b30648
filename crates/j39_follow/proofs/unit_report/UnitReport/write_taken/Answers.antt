use Rattle.std.proofs.Common.{◌≡◌, ◌<◌, ◌∙◌, ℕ, List, None, Option, inl, inr, refl, sym, ap, subst}
use Rattle.std.proofs.lemmas.Result.{IfOk-weaker}
use Rattle.j39_id.specs.declared.frame.Frame.{Frame}
use Rattle.j39_network.specs.declared.plan.Plan.{Plan}
use Rattle.j39_follow.specs.Contests.{IsNow, IsTaken, Timed, frames_of}
use Rattle.j39_follow.specs.LoggedRequests.{asker_or_source}
use Rattle.j39_follow.specs.declared.address.contests.Contests.{Contests}
use Rattle.j39_follow.specs.declared.address.directory.Directory.{Directory}
use Rattle.j39_follow.specs.declared.address.known_parties.Parties.{Parties}
use Rattle.j39_follow.specs.declared.address.who.Who.{Who}
use Rattle.j39_follow.specs.inside.Contesting.{AreContests, ShowsAsker, ShowsParties, contention_at, defender_at, taken_party}
use Rattle.j39_follow.specs.inside.Recounting.{HasNames, Knows, party_at}
use Rattle.j39_follow.proofs.Addresses.Contested.{defends, taken_so}
use Rattle.j39_follow.proofs.FrameTexts.{written_so}
use Rattle.j39_follow.proofs.unit_report.UnitReport.write_taken.Goals as goal

-- who is taken to be behind an address, as its contest reports
taken_there : (plan : Plan) (directory : Directory) (contests : Contests) (log : List Timed) (time : Option ℕ) (a : ℕ) (who : Who) → a < 256
    → Knows plan directory (frames_of log) → AreContests plan contests log → IsNow log time
    → who ≡ taken_party (party_at directory.parties.all a) (defender_at contests a time) → IsTaken plan log a who
taken_there plan directory contests log time a who range knows are timed is =
    subst (IsTaken plan log a) (sym is) (taken_so plan log a (party_at directory.parties.all a) _ (knows.parties a range)
    (defends plan log a (contention_at contests.table.value a) time (are.contentions a range) timed))

abbrev IsTakenFrom : Plan → Directory → Contests → Option ℕ → Parties → ℕ → Type 0
IsTakenFrom plan directory contests time taken a =
    party_at taken.all a ≡ taken_party (party_at directory.parties.all a) (defender_at contests a time)

shown : (plan : Plan) (directory : Directory) (contests : Contests) (log : List Timed) (time : Option ℕ) (f : Frame) (taken : Parties)
    → IsTakenFrom plan directory contests time taken f.ident.sa → IsTakenFrom plan directory contests time taken f.ident.ps → taken.names ≡ None
    → Knows plan directory (frames_of log) → AreContests plan contests log → IsNow log time → ShowsParties plan taken log f.ident
shown plan directory contests log time f taken source receiver names knows are timed = record {
  source = taken_there plan directory contests log time f.ident.sa _ f.ident.sa_range knows are timed source;
  receiver = taken_there plan directory contests log time f.ident.ps _ f.ident.ps_range knows are timed receiver;
  names = subst (HasNames plan taken.all) (sym names) tt;
}

asks : (plan : Plan) (directory : Directory) (contests : Contests) (log : List Timed) (time : Option ℕ) (f : Frame) (taken : Parties) (a : ℕ) → a < 256
    → a ≡ asker_or_source plan f → IsTakenFrom plan directory contests time taken a
    → Knows plan directory (frames_of log) → AreContests plan contests log → IsNow log time → ShowsAsker plan taken log f
asks plan directory contests log time f taken a range is asker knows are timed =
    subst (λ (x : ℕ). IsTaken plan log x (party_at taken.all x)) is (taken_there plan directory contests log time a _ range knows are timed asker)

pub returns-clause-written : goal.returns-clause-written
returns-clause-written c =
    let plan = c.args.groups.now in
    let self = c.args.self.now in
    let f = c.args.frame.now in
    let time : Option ℕ = c.moment.result in
    let taken : Parties = c.taken-parties.result in
    let a = c.asker_or_source.result in
    let source : IsTakenFrom plan self.directory self.contests time taken f.ident.sa = rw c.parties.ensures at
    (c.taken-parties.ensures.taken f.ident.sa (inl refl)) in
    let receiver : IsTakenFrom plan self.directory self.contests time taken f.ident.ps =
    rw c.parties.ensures at (c.taken-parties.ensures.taken f.ident.ps (inr (inl refl))) in
    let asker : IsTakenFrom plan self.directory self.contests time taken a = rw c.parties.ensures at (c.taken-parties.ensures.taken a (inr (inr refl))) in
    let there : a ≡ asker_or_source plan f = c.asker_or_source.ensures ∙ ap (λ (p : Plan). asker_or_source p f) c.plan.ensures in
    IfOk-weaker c.report_frame.result _ _
    (λ _ written. written_so
    (λ log so.
    let (knows, contests, timed) = so in
    let now : IsNow log time = subst (IsNow log) (sym c.moment.ensures) timed in (
      shown plan self.directory self.contests log time f taken source receiver c.taken-parties.ensures.names knows contests now,
      asks plan self.directory self.contests log time f taken a c.asker_or_source.type_inv there asker knows contests now,
    ))
    written)
    c.report_frame.ensures
