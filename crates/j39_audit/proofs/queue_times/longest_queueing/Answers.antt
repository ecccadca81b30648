use Rattle.std.proofs.Common.{◌≡◌, ◌≢◌, ◌||◌, ℕ, Bool, true, false, cond, Option, Some, None, sym, ap, arith, ◌∙◌}
use Rattle.std.specs.Prelude.{nat_lt}
use Rattle.std.specs.List.{list_any}
use Rattle.std.proofs.lemmas.Bool.{le-ltb, lt-ltb}
use Rattle.j39_load.specs.AnswerStreams.{answered_within, askers_of}
use Rattle.j39_load.specs.AskedFlows.{asked_every}
use Rattle.j39_network.specs.declared.plan.request_plan.RequestPlan.{RequestPlan}
use Rattle.j39_audit.specs.inside.AskedWithin.{is_each_within}
use Rattle.j39_audit.proofs.QueueTimes.{queued_asked, queued_unasked}
use Rattle.j39_audit.proofs.queue_times.longest_queueing.Goals as goal
use Rattle.j39_audit.proofs.queue_times.longest_queueing.Goals.{then-askers-gt1, else-askers-gt1}

pub returns-then-askers-eq0 : goal.returns-then-askers-eq0
returns-then-askers-eq0 c =
    sym (queued_unasked c.args.requests.now c.args.flow.now c.args.pace c.requires.paced (sym c.askers_of-askers.ensures.askers ∙ c.if-askers-eq0.true))

pub returns-then-is_asked_within : goal.returns-then-is_asked_within
returns-then-is_asked_within c =
    let requests = c.args.requests.now in
    let flow = c.args.flow.now in
    let askers : ℕ = askers_of requests flow in
    let within : Bool = list_any (λ (r : RequestPlan). is_each_within c.args.pace.period (asked_every flow r)) requests in
    let same = c.askers_of-askers.ensures.askers in
    let some : askers ≢ 0 = λ none. c.if-askers-eq0.false (same ∙ none) in
    let several : (nat_lt 1 askers || within) ≡ c.if-askers-gt1.value =
    elim c.if-askers-gt1.branch [
      | then-askers-gt1 w ↦
          (let more = w.if-askers-gt1.true in ap (λ (b : Bool). b || within) (lt-ltb 1 askers (omega (arith, more, same)))
          ∙ (sym (lt-ltb 1 c.askers_of-askers.result (omega (arith, more))) ∙ sym w.value-is))
      | else-askers-gt1 w ↦
          (let less = w.if-askers-gt1.false in ap (λ (b : Bool). b || within) (le-ltb 1 askers (omega (arith, less, same)))
          ∙ sym (w.value-is ∙ w.is_asked_within.ensures))
    ] in
    sym (queued_asked requests flow c.args.pace c.requires.paced some c.if-askers-gt1.value several
    ∙ ap (λ (b : Bool). cond b None (Some (answered_within c.args.pace))) c.if-is_asked_within.true)

pub returns-else-is_asked_within : goal.returns-else-is_asked_within
returns-else-is_asked_within c =
    let requests = c.args.requests.now in
    let flow = c.args.flow.now in
    let askers : ℕ = askers_of requests flow in
    let within : Bool = list_any (λ (r : RequestPlan). is_each_within c.args.pace.period (asked_every flow r)) requests in
    let same = c.askers_of-askers.ensures.askers in
    let some : askers ≢ 0 = λ none. c.if-askers-eq0.false (same ∙ none) in
    let several : (nat_lt 1 askers || within) ≡ c.if-askers-gt1.value =
    elim c.if-askers-gt1.branch [
      | then-askers-gt1 w ↦
          (let more = w.if-askers-gt1.true in ap (λ (b : Bool). b || within) (lt-ltb 1 askers (omega (arith, more, same)))
          ∙ (sym (lt-ltb 1 c.askers_of-askers.result (omega (arith, more))) ∙ sym w.value-is))
      | else-askers-gt1 w ↦
          (let less = w.if-askers-gt1.false in ap (λ (b : Bool). b || within) (le-ltb 1 askers (omega (arith, less, same)))
          ∙ sym (w.value-is ∙ w.is_asked_within.ensures))
    ] in
    ap Some c.answered_within.ensures
    ∙ sym (queued_asked requests flow c.args.pace c.requires.paced some c.if-askers-gt1.value several
    ∙ ap (λ (b : Bool). cond b None (Some (answered_within c.args.pace))) c.if-is_asked_within.false)
