-- In each world of a run a frame that a unit sends alone is reported by each receiver that doesn't lose it; and each such frame can be.
use Rattle.std.proofs.Common.{◌≡◌, ◌≢◌, ℕ, ◌+◌, true, ◌&&◌, eqb, List, [], ◌∷◌, ◌++◌, length, inl, inr, ◌⊎◌, refl, sym, ap, ◌∙◌, subst, append-nil, arith}
use Rattle.std.proofs.Common.{Option, Some, None}
use Rattle.std.specs.Bool.{MatchBool}
use Rattle.std.specs.Option.{is_some}
use Rattle.std.proofs.lemmas.Bool.{and_from, cond-true, eq-eqb}
use Rattle.std.proofs.lemmas.List.{append_assoc, length-append}
use Rattle.j39_network.specs.declared.plan.Plan.{Plan}
use Rattle.j39_network.specs.declared.steps.Step.{Step}
use Rattle.j39_network.specs.declared.steps.Step.TheVariants.{Up, Down, Give, Ask, Begin, Send, Emit, Take, Lose, LateSender, LateReceiver, Rest}
use Rattle.j39_world.specs.declared.step_error.StepError.{StepError}
use Rattle.j39_world.specs.declared.wired.Wired.{Wired}
use Rattle.j39_world.specs.declared.wired.Wired.TheVariants as wired
use Rattle.j39_world.specs.Ending.{IsOfTransfers}
use Rattle.j39_world.specs.Passage.{Passage}
use Rattle.j39_world.specs.Run.{Follows, StepsTo, count_of, refusal}
use Rattle.j39_world.specs.SentArriving.{HasArrivedAlone, IsNextAlone, RunSparingAlone, SentAlone, SentFramesArrive, SentFramesCanArrive, SparesAlone}
use Rattle.j39_world.specs.SentArriving.{is_oldest_alone, lying_alone}
use Rattle.j39_world.specs.Sound.{IsSubsequence, reported_alone}
use Rattle.j39_world.specs.SoundPlan.{Always}
use Rattle.j39_world.specs.Transfers.{Begun, is_among}
use Rattle.j39_world.specs.TransferSteps.{sends_alone, targets_of}
use Rattle.j39_world.specs.World.{World}
use Rattle.j39_run_laws.proofs.Reports.SentFrames.{AreDropped, AreParts, lying_more, step_parts}
use Rattle.j39_run_laws.proofs.Reports.Subsequences.{subsequence_both, subsequence_front, subsequence_same, subsequence_without}
use Rattle.j39_run_laws.proofs.Runs.Conditions.{none_refuses, not_refused}
use Rattle.j39_run_laws.proofs.Transfers.AccountedSteps.{IsKept, all_kept, keeps, send_kept, untaken}
use Rattle.j39_run_laws.proofs.Transfers.ByLowering.{passage_of, reaches}
use Rattle.j39_run_laws.proofs.Transfers.Ending.{item_ready}
use Rattle.j39_run_laws.proofs.Transfers.FitSteps.{IsWorldFit, send_fits, worlds_fit}
use Rattle.j39_run_laws.proofs.Transfers.Lowering.{left_of}

-- ---- where one frame is

-- what was reported, what lay there and what was sent before this frame was sent
module _ (stated lay passed : List Begun) (one : Begun) where
  -- it lies behind some of those that lay there, and before all that were sent since
  record Lies (reports lying sent : List Begun) : Type 0 where
    pub earlier : List Begun
    pub ahead : List Begun
    pub since : List Begun
    pub sent_so : sent ≡ passed ++ one ∷ since
    pub reported_so : reports ≡ stated ++ earlier
    pub lies_so : lying ≡ ahead ++ one ∷ since
    pub before_it : IsSubsequence (earlier ++ ahead) lay

  -- it was reported behind some of those that lay there, and before some of those that were sent since
  record IsStated (reports lying sent : List Begun) : Type 0 where
    pub earlier : List Begun
    pub later : List Begun
    pub since : List Begun
    pub sent_so : sent ≡ passed ++ one ∷ since
    pub reported_so : reports ≡ (stated ++ earlier) ++ one ∷ later
    pub before_it : IsSubsequence earlier lay
    pub behind_it : IsSubsequence (later ++ lying) since

  abbrev IsThere : List Begun → List Begun → List Begun → Type 0
  IsThere reports lying sent = Lies reports lying sent ⊎ IsStated reports lying sent

  more_sent : (sent since : List Begun) (x : Begun) → sent ≡ passed ++ one ∷ since → sent ++ x ∷ [] ≡ passed ++ one ∷ (since ++ x ∷ [])
  more_sent sent since x is = ap (λ (ys : List Begun). ys ++ x ∷ []) is ∙ append_assoc passed (one ∷ since) (x ∷ [])

  there_sent : (reports lying sent : List Begun) (x : Begun) → IsThere reports lying sent → IsThere reports (lying ++ x ∷ []) (sent ++ x ∷ [])
  there_sent reports lying sent x (inl l) = inl (record {
    earlier = l.earlier;
    ahead = l.ahead;
    since = l.since ++ x ∷ [];
    sent_so = more_sent sent l.since x l.sent_so;
    reported_so = l.reported_so;
    lies_so = ap (λ (ys : List Begun). ys ++ x ∷ []) l.lies_so ∙ append_assoc l.ahead (one ∷ l.since) (x ∷ []);
    before_it = l.before_it;
  })
  there_sent reports lying sent x (inr t) = inr (record {
    earlier = t.earlier;
    later = t.later;
    since = t.since ++ x ∷ [];
    sent_so = more_sent sent t.since x t.sent_so;
    reported_so = t.reported_so;
    before_it = t.before_it;
    behind_it = subst (λ (ys : List Begun). IsSubsequence ys (t.since ++ x ∷ [])) (append_assoc t.later lying (x ∷ []))
        (subsequence_both (t.later ++ lying) t.since x t.behind_it);
  })

  -- the oldest that lies is reported
  oldest_reported : (reports lying sent : List Begun) (x : Begun) (l : Lies reports (x ∷ lying) sent) (ahead : List Begun) → l.ahead ≡ ahead
      → IsThere (reports ++ x ∷ []) lying sent
  oldest_reported reports lying sent x l [] is =
      let front : x ∷ lying ≡ one ∷ l.since = l.lies_so ∙ ap (λ (ys : List Begun). ys ++ one ∷ l.since) is in
      let first : x ≡ one = cc front in
      let rest : lying ≡ l.since = cc front in
      inr (record {
        earlier = l.earlier;
        later = [];
        since = l.since;
        sent_so = l.sent_so;
        reported_so = ap (λ (ys : List Begun). ys ++ x ∷ []) l.reported_so ∙ ap (λ (y : Begun). (stated ++ l.earlier) ++ y ∷ []) first;
        before_it = subsequence_front l.earlier l.ahead lay l.before_it;
        behind_it = subst (λ (ys : List Begun). IsSubsequence ys l.since) (sym rest) (subsequence_same l.since);
      })
  oldest_reported reports lying sent x l (y ∷ ahead) is =
      let front : x ∷ lying ≡ y ∷ (ahead ++ one ∷ l.since) = l.lies_so ∙ ap (λ (ys : List Begun). ys ++ one ∷ l.since) is in
      let first : x ≡ y = cc front in
      let rest : lying ≡ ahead ++ one ∷ l.since = cc front in
      inl (record {
        earlier = l.earlier ++ x ∷ [];
        ahead = ahead;
        since = l.since;
        sent_so = l.sent_so;
        reported_so = ap (λ (ys : List Begun). ys ++ x ∷ []) l.reported_so ∙ append_assoc stated l.earlier (x ∷ []);
        lies_so = rest;
        before_it = subst (λ (ys : List Begun). IsSubsequence ys lay)
            (ap (λ (ys : List Begun). l.earlier ++ ys) (is ∙ ap (λ (z : Begun). z ∷ ahead) (sym first))
            ∙ sym (append_assoc l.earlier (x ∷ []) ahead)) l.before_it;
      })

  there_reported : (reports lying sent : List Begun) (x : Begun) → IsThere reports (x ∷ lying) sent → IsThere (reports ++ x ∷ []) lying sent
  there_reported reports lying sent x (inl l) = oldest_reported reports lying sent x l l.ahead refl
  there_reported reports lying sent x (inr t) = inr (record {
    earlier = t.earlier;
    later = t.later ++ x ∷ [];
    since = t.since;
    sent_so = t.sent_so;
    reported_so = ap (λ (ys : List Begun). ys ++ x ∷ []) t.reported_so ∙ append_assoc (stated ++ t.earlier) (one ∷ t.later) (x ∷ []);
    before_it = t.before_it;
    behind_it = subst (λ (ys : List Begun). IsSubsequence ys t.since) (sym (append_assoc t.later (x ∷ []) lying)) t.behind_it;
  })

  -- the oldest that lies is lost: by its place it isn't this one
  oldest_lost : (reports lying sent : List Begun) (x : Begun) → length sent ≢ length passed + length (x ∷ lying)
      → (l : Lies reports (x ∷ lying) sent) (ahead : List Begun) → l.ahead ≡ ahead → IsThere reports lying sent
  oldest_lost reports lying sent x other l [] is =
      let lies : length (x ∷ lying) ≡ length (one ∷ l.since) = ap length (l.lies_so ∙ ap (λ (ys : List Begun). ys ++ one ∷ l.since) is) in
      let all : length sent ≡ length passed + length (one ∷ l.since) = ap length l.sent_so ∙ length-append passed (one ∷ l.since) in
      absurd (other (all ∙ ap (λ (n : ℕ). length passed + n) (sym lies)))
  oldest_lost reports lying sent x other l (y ∷ ahead) is =
      let front : x ∷ lying ≡ y ∷ (ahead ++ one ∷ l.since) = l.lies_so ∙ ap (λ (ys : List Begun). ys ++ one ∷ l.since) is in
      let rest : lying ≡ ahead ++ one ∷ l.since = cc front in
      inl (record {
        earlier = l.earlier;
        ahead = ahead;
        since = l.since;
        sent_so = l.sent_so;
        reported_so = l.reported_so;
        lies_so = rest;
        before_it = subsequence_without l.earlier ahead lay y (subst (λ (ys : List Begun). IsSubsequence (l.earlier ++ ys) lay) is l.before_it);
      })

  there_lost : (reports lying sent : List Begun) (x : Begun) → length sent ≢ length passed + length (x ∷ lying)
      → IsThere reports (x ∷ lying) sent → IsThere reports lying sent
  there_lost reports lying sent x other (inl l) = oldest_lost reports lying sent x other l l.ahead refl
  there_lost reports lying sent x other (inr t) = inr (record {
    earlier = t.earlier;
    later = t.later;
    since = t.since;
    sent_so = t.sent_so;
    reported_so = t.reported_so;
    before_it = t.before_it;
    behind_it = subsequence_without t.later lying t.since x t.behind_it;
  })

  -- where none lies it was reported
  none_there : (reports sent : List Begun) → IsThere reports [] sent → IsStated reports [] sent
  none_there reports sent (inr t) = t
  none_there reports sent (inl l) =
      let e : 0 ≡ length l.ahead + length (one ∷ l.since) = ap length l.lies_so ∙ length-append l.ahead (one ∷ l.since) in
      absurd (omega (arith, e))

-- ---- a run

module _ (plan : Plan) (u v : ℕ) (stated lay passed : List Begun) (one : Begun) where
  -- it is so of what v has of u
  abbrev IsFollowed : ℕ → ℕ → List Begun → List Begun → List Begun → Type 0
  IsFollowed s t reports lying sent = s ≡ u → t ≡ v → IsThere stated lay passed one reports lying sent

  followed_sent : (s t : ℕ) (reports lying sent : List Begun) (x : Begun) → IsFollowed s t reports lying sent
      → IsFollowed s t reports (lying ++ x ∷ []) (sent ++ x ∷ [])
  followed_sent s t reports lying sent x part is_u is_v = there_sent stated lay passed one reports lying sent x (part is_u is_v)

  followed_reported : (s t : ℕ) (reports lying sent : List Begun) (x : Begun) → IsFollowed s t reports (x ∷ lying) sent
      → IsFollowed s t (reports ++ x ∷ []) lying sent
  followed_reported s t reports lying sent x part is_u is_v = there_reported stated lay passed one reports lying sent x (part is_u is_v)

  abbrev AllFollowed : World → Type 0
  AllFollowed = AreParts IsFollowed followed_sent followed_reported

  -- an item is lost that isn't the frame
  followed_lost : (w : World) → ¬ IsNextAlone w u v (length passed) → (item : Wired) (rest : List Wired) → w.wire u v ≡ item ∷ rest → (reports : List Begun)
      → IsThere stated lay passed one reports (lying_alone (item ∷ rest)) (w.sent_alone u v)
      → IsThere stated lay passed one reports (lying_alone rest) (w.sent_alone u v)
  followed_lost w other (wired.Alone f bytes) rest is reports part =
      there_lost stated lay passed one reports (lying_alone rest) (w.sent_alone u v) (record { flow = f; bytes = bytes })
      (λ (all : length (w.sent_alone u v) ≡ length passed + length (lying_alone (wired.Alone f bytes ∷ rest))). other (record {
        alone = ap is_oldest_alone is;
        behind = all ∙ ap (λ (list : List Wired). length passed + length (lying_alone list)) (sym is);
      })) part
  followed_lost w other (wired.Short bytes) rest is reports part = part
  followed_lost w other (wired.Packet p) rest is reports part = part

  module _ (w : World) (kept : IsKept plan w) where
    -- where nothing lies nothing is dropped
    none_dropped : (s x : ℕ) → w.wire s x ≡ [] → IsFollowed s x (reported_alone w.reports x s) (lying_alone (w.wire s x)) (w.sent_alone s x)
        → IsFollowed s x (reported_alone w.reports x s) [] (w.sent_alone s x)
    none_dropped s x none part = subst (λ (list : List Wired). IsFollowed s x (reported_alone w.reports x s) (lying_alone list) (w.sent_alone s x)) none part

    dropped : (step : Step) → SparesAlone plan w u v (length passed) step → refusal plan w step ≡ None
        → AreDropped IsFollowed followed_sent followed_reported w step
    dropped (Up x) spares allowed =
        let (known, (off_is, more)) = none_refuses plan w (Up x) allowed in
        λ s part. none_dropped s x (untaken plan w kept.transfers kept.accounted s x off_is) part
    dropped (Down x) spares allowed =
        let apart = spares allowed in (
          λ s part is_u is_v. absurd (apart.1 is_v),
          λ t part is_u is_v. absurd (apart.0 is_u),
        )
    dropped (Lose x y) spares allowed = λ item rest is part is_u is_v.
        let same : w.wire u v ≡ item ∷ rest = sym (ap (λ (k : ℕ). w.wire k y) is_u ∙ ap (w.wire u) is_v) ∙ is in
        let sent_same : w.sent_alone x y ≡ w.sent_alone u v = ap (λ (k : ℕ). w.sent_alone k y) is_u ∙ ap (w.sent_alone u) is_v in
        let reports : List Begun = reported_alone w.reports y x in
        subst (λ (sent : List Begun). IsThere stated lay passed one reports (lying_alone rest) sent) (sym sent_same)
        (followed_lost w (spares is_u is_v) item rest same reports
        (subst (λ (sent : List Begun). IsThere stated lay passed one reports (lying_alone (item ∷ rest)) sent) sent_same (part is_u is_v)))
    dropped (Give x y) spares allowed = tt
    dropped (Ask x) spares allowed = tt
    dropped (Begin f bytes) spares allowed = tt
    dropped (Send f bytes) spares allowed = tt
    dropped (Emit x) spares allowed = tt
    dropped (Take x y) spares allowed = tt
    dropped (LateSender x) spares allowed = tt
    dropped (LateReceiver x y) spares allowed = tt
    dropped (Rest x) spares allowed = tt

    -- a world that follows, by a step that is refused or not
    next_followed : AllFollowed w → (step : Step) → SparesAlone plan w u v (length passed) step → (new : World) → Follows plan w step new
        → IsKept plan new × AllFollowed new
    next_followed old step spares new =
        elim (refusal plan w step)
        as (λ (x : Option StepError). refusal plan w step ≡ x → MatchBool (is_some x) (new ≡ w) (StepsTo plan w step new) → IsKept plan new × AllFollowed new) [
          | Some e ↦ λ _ same. (subst (IsKept plan) (sym same) kept, subst AllFollowed (sym same) old)
          | None ↦ λ allowed leads. (
            keeps plan w kept step allowed new leads,
            step_parts IsFollowed followed_sent followed_reported plan w old step (dropped step spares allowed) new leads,
          )
        ] refl

  run_followed : (steps : List Step) (w new : World) → IsKept plan w → AllFollowed w → RunSparingAlone plan u v (length passed) w steps new
      → IsKept plan new × AllFollowed new
  run_followed [] w new kept old same = (subst (IsKept plan) (sym same) kept, subst AllFollowed (sym same) old)
  run_followed (step ∷ steps) w new kept old (spares, (mid, follows, more)) =
      let next = next_followed w kept old step spares mid follows in
      run_followed steps mid new next.0 next.1 more

-- where v can take no more of u nothing lies
nothing_lies : (plan : Plan) (u v : ℕ) (w : World) → IsKept plan w → refusal plan w (Take u v) ≢ None → (list : List Wired) → w.wire u v ≡ list
    → lying_alone list ≡ []
nothing_lies plan u v w kept taken [] is = refl
nothing_lies plan u v w kept taken (item ∷ rest) is =
    absurd (taken (not_refused plan w (Take u v) (item_ready plan w kept u v (record { item = item; rest = rest; is = is }))))

-- ---- it is sent

module _ (plan : Plan) (w : World) (kept : IsKept plan w) (s : SentAlone plan w) where
  abbrev p : Passage plan
  p = s.passage

  abbrev one : Begun
  one = record { flow = p.place; bytes = p.bytes }

  abbrev begun : World
  begun = sends_alone (count_of plan) w p.place p.flow p.bytes

  abbrev stated : List Begun
  stated = reported_alone w.reports p.receiver p.flow.sender

  abbrev lay : List Begun
  lay = lying_alone (w.wire p.flow.sender p.receiver)

  abbrev passed : List Begun
  passed = w.sent_alone p.flow.sender p.receiver

  here : (eqb p.flow.sender p.flow.sender && is_among (targets_of (count_of plan) w.stations p.flow.sender p.flow.to) p.receiver) ≡ true
  here = and_from (eqb p.flow.sender p.flow.sender) (is_among (targets_of (count_of plan) w.stations p.flow.sender p.flow.to) p.receiver)
      (eq-eqb p.flow.sender p.flow.sender refl) s.among

  wire_now : begun.wire p.flow.sender p.receiver ≡ w.wire p.flow.sender p.receiver ++ wired.Alone p.place p.bytes ∷ []
  wire_now = cond-true (eqb p.flow.sender p.flow.sender && is_among (targets_of (count_of plan) w.stations p.flow.sender p.flow.to) p.receiver)
      (w.wire p.flow.sender p.receiver ++ wired.Alone p.place p.bytes ∷ []) (w.wire p.flow.sender p.receiver) here

  sent_now : begun.sent_alone p.flow.sender p.receiver ≡ passed ++ one ∷ []
  sent_now = cond-true (eqb p.flow.sender p.flow.sender && is_among (targets_of (count_of plan) w.stations p.flow.sender p.flow.to) p.receiver)
      (passed ++ one ∷ []) passed here

  -- it lies behind what lay there
  at_first : IsThere stated lay passed one (reported_alone begun.reports p.receiver p.flow.sender) (lying_alone (begun.wire p.flow.sender p.receiver))
      (begun.sent_alone p.flow.sender p.receiver)
  at_first = inl (record {
    earlier = [];
    ahead = lay;
    since = [];
    sent_so = sent_now;
    reported_so = sym (append-nil stated);
    lies_so = ap lying_alone wire_now ∙ lying_more (w.wire p.flow.sender p.receiver) (wired.Alone p.place p.bytes ∷ []);
    before_it = subsequence_same lay;
  })

  all_first : AllFollowed plan p.flow.sender p.receiver stated lay passed one begun
  all_first x y is_u is_v =
      subst (λ (k : ℕ). IsThere stated lay passed one (reported_alone begun.reports y k) (lying_alone (begun.wire k y)) (begun.sent_alone k y)) (sym is_u)
      (subst (λ (k : ℕ). IsThere stated lay passed one (reported_alone begun.reports k p.flow.sender) (lying_alone (begun.wire p.flow.sender k))
      (begun.sent_alone p.flow.sender k)) (sym is_v) at_first)

  has_arrived : HasArrivedAlone w p.after p.flow.sender p.receiver one
  has_arrived =
      let (there, all) = run_followed plan p.flow.sender p.receiver stated lay passed one p.steps begun p.after
      (send_kept plan w kept p.place p.flow p.bytes s.allowed) all_first s.runs in
      let none = nothing_lies plan p.flow.sender p.receiver p.after there s.taken (p.after.wire p.flow.sender p.receiver) refl in
      let now : IsStated stated lay passed one (reported_alone p.after.reports p.receiver p.flow.sender) [] (p.after.sent_alone p.flow.sender p.receiver) =
      none_there stated lay passed one (reported_alone p.after.reports p.receiver p.flow.sender) (p.after.sent_alone p.flow.sender p.receiver)
      (subst (λ (list : List Begun). IsThere stated lay passed one (reported_alone p.after.reports p.receiver p.flow.sender) list
      (p.after.sent_alone p.flow.sender p.receiver)) none (all p.flow.sender p.receiver refl refl)) in
      record {
        earlier = now.earlier;
        later = now.later;
        since = now.since;
        sent = now.sent_so;
        reports = now.reported_so;
        before_it = now.before_it;
        behind_it = subst (λ (ys : List Begun). IsSubsequence ys now.since) (append-nil now.later) now.behind_it;
      }

pub arrives_alone : (plan : Plan) → Always plan (SentFramesArrive plan)
arrives_alone plan before w run s = has_arrived plan w (all_kept plan before w run) s

-- ---- it can arrive

module _ (plan : Plan) (u v place : ℕ) where
  -- a run from here by which all is taken
  record IsTaken (w : World) : Type 0 where
    steps : List Step
    after : World
    runs : RunSparingAlone plan u v place w steps after
    taken : refusal plan after (Take u v) ≢ None

  -- v can take something, or all was taken
  by_take : (w : World) → ((step : Step) → IsOfTransfers step → SparesAlone plan w u v place step → refusal plan w step ≡ None → IsTaken w) → IsTaken w
  by_take w goes =
      elim (refusal plan w (Take u v)) as (λ (x : Option StepError). refusal plan w (Take u v) ≡ x → IsTaken w) [
        | None ↦ λ none. goes (Take u v) tt tt none
        | Some e ↦ λ some. record { steps = []; after = w; runs = refl; taken = λ none. cc (some, none) }
      ] refl

  further : (w : World) (step : Step) → SparesAlone plan w u v place step → (mid : World) → Follows plan w step mid → IsTaken mid → IsTaken w
  further w step spares mid follows more = record {
    steps = step ∷ more.steps;
    after = more.after;
    runs = (spares, (mid, follows, more.runs));
    taken = more.taken;
  }

  all_taken : (w : World) → IsWorldFit w → IsTaken w
  all_taken w fit = reaches plan IsTaken (λ x step. SparesAlone plan x u v place step) by_take further (left_of (count_of plan) w) w fit (omega arith)

pub can_arrive_alone : (plan : Plan) → Always plan (SentFramesCanArrive plan)
can_arrive_alone plan before w run f flow bytes v planned allowed among =
    let begun : World = sends_alone (count_of plan) w f flow bytes in
    let fit : IsWorldFit begun = send_fits plan w (worlds_fit plan before w run) f bytes (Some flow) begun refl in
    let run_on : IsTaken plan flow.sender v (length (w.sent_alone flow.sender v)) begun =
    all_taken plan flow.sender v (length (w.sent_alone flow.sender v)) begun fit in (
      record {
        passage = passage_of plan f flow bytes v run_on.steps run_on.after planned;
        allowed = allowed;
        among = among;
        runs = run_on.runs;
        taken = run_on.taken;
      },
      refl,
      refl,
      refl,
    )
