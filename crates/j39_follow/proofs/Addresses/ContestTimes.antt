-- Within 250 ms of its beginning a contest says who is behind an address.
use Rattle.std.proofs.Common.{◌≡◌, ℕ, List, Some, inl, inr, refl, sym, ap, subst, ◌∙◌}
use Rattle.std.proofs.lemmas.Option.{same_Some}
use Rattle.j39_network.specs.declared.plan.Plan.{Plan}
use Rattle.j39_follow.specs.Contests.{IsContention, IsContested, IsNow, IsTaken, Timed}
use Rattle.j39_follow.specs.declared.address.contest.Contention.{Contention}
use Rattle.j39_follow.specs.declared.address.contest.Contest.{Contest}
use Rattle.j39_follow.specs.declared.address.who.Who.{Who}
use Rattle.j39_follow.proofs.Addresses.Contending.{one_contention}
use Rattle.j39_follow.specs.ContestTimes.{ContestsLastAWait, IsReportedWithin, MaySendInContest}
use Rattle.j39_follow.proofs.Addresses.Contested.{one_now}

module _ (plan : Plan) (log : List Timed) (address : ℕ) (g : Contention) (c : Contest) (now : ℕ) (of : IsContention plan log address g)
    (kept : g.contest ≡ Some c) (timed : IsNow log (Some now)) where
  -- a contest that goes on there is this one, at this time
  this_one : (d : Contest) → IsContested plan log address d → d ≡ c
  this_one d is =
      same_Some d c (sym is.runs.kept_is ∙ ap (λ (h : Contention). h.contest) (one_contention plan log address is.contention g is.contention_is of) ∙ kept)

  this_time : (d : Contest) (is : IsContested plan log address d) → is.runs.now ≡ now
  this_time d is = same_Some is.runs.now now (sym is.runs.now_is ∙ one_now log is.time (Some now) is.time_is timed)

  goes_on : MaySendInContest c now → IsContested plan log address c
  goes_on may = record {
    contention = g;
    contention_is = of;
    time = Some now;
    time_is = timed;
    runs = record { kept_is = kept; now = now; now_is = refl; begun = may.begun; lasts = may.lasts };
    heard = may.waited;
  }

  may_at : (d : Contest) (is : IsContested plan log address d) → MaySendInContest d is.runs.now
  may_at d is = record { begun = is.runs.begun; lasts = is.runs.lasts; waited = is.heard }

  may_send : (d : Contest) → IsContested plan log address d → MaySendInContest c now
  may_send d is =
      subst (λ e. MaySendInContest e now) (this_one d is) (subst (λ t. MaySendInContest d t) (this_time d is) (may_at d is))

  reported_within : (who : Who) → IsTaken plan log address who → IsReportedWithin plan log address c now who
  reported_within who (inl (d, is, stated)) = record {
    within = λ may. stated ∙ ap (λ (e : Contest). e.defender) (this_one d is);
    else_stands = λ not. absurd (not (may_send d is));
  }
  reported_within who (inr (none, stands)) = record {
    within = λ may. absurd (none c (goes_on may));
    else_stands = λ not. stands;
  }

pub contests_last : ContestsLastAWait
contests_last plan log address g c now who of kept timed taken = reported_within plan log address g c now of kept timed who taken
