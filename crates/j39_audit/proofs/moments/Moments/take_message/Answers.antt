use Rattle.std.proofs.Common.{◌≡◌, ◌<◌, ◌++◌, ℕ, Bool, true, false, cond, Option, sym, ap, subst, ◌∙◌}
use Rattle.std.specs.Prelude.{IfSome}
use Rattle.j39_audit.specs.Counting.{Key, is_same_key, key_of}
use Rattle.j39_audit.specs.Moments.{near_noted, with_earliest}
use Rattle.j39_audit.specs.Near.{candidate, earliest_next, excess, is_later_than}
use Rattle.j39_audit.specs.inside.Recalling.{AreCounted, earliest_in, far_ahead}
use Rattle.j39_audit.proofs.moments.Moments.take_message.Goals as goal

one_of : (P : ℕ → Type 0) (same : Bool) (new old : Option ℕ) → IfSome new P → IfSome old P → IfSome (cond same new old) P
one_of P true new old is other = is
one_of P false new old is other = other

pub returns-clause-near : goal.returns-clause-near
returns-clause-near c =
    let stream = c.args.stream in
    record {
      earliest = λ key. subst (λ (e : Option ℕ). IfSome e (λ k. k < far_ahead)) (sym (c.in_ok-set.ensures key))
          (one_of (λ k. k < far_ahead) (is_same_key (key_of stream.mark) key) c.kept_behind.result (earliest_in c.args.self.now.earliest key)
          c.kept_behind.ensures.near (c.requires.near.earliest key));
      since = c.requires.near.since;
      pauses = c.requires.near.pauses;
    }

pub returns-clause-moments : goal.returns-clause-moments
returns-clause-moments c = λ m recalls.
    let stream = c.args.stream in
    let window = c.args.window in
    let at : Key = key_of stream.mark in
    let old : earliest_in c.args.self.now.earliest ≡ m.earliest = λ i key. recalls.earliest key i in
    let newest : c.of.result ≡ m.earliest at = c.of.ensures ∙ recalls.earliest at in
    let moment : c.candidate-moment.result ≡ candidate stream.step (m.earliest at) window =
    c.candidate-moment.ensures ∙ ap (λ (e : Option ℕ). candidate stream.step e window) newest in
    let kept : c.kept_behind.result ≡ earliest_next stream.step (m.earliest at) window =
    c.kept_behind.ensures.value ∙ ap (λ (d : Option ℕ). cond (is_later_than d window.upper) window.lower d) moment in
    let by : c.excess-by.result ≡ excess (candidate stream.step (m.earliest at) window) window.upper =
    c.excess-by.ensures ∙ ap (λ (d : Option ℕ). excess d window.upper) moment in
    record {
      before = recalls.before;
      since = recalls.since;
      earliest = λ key. c.in_ok-set.ensures key
          ∙ ap (λ (e : Option ℕ). with_earliest at e (earliest_in c.args.self.now.earliest) key) kept
          ∙ ap (λ (f : Key → Option ℕ). with_earliest at (earliest_next stream.step (m.earliest at) window) f key) old;
      counted = subst (λ (b : Option ℕ). AreCounted c.note_by.new.self (m.untimely ++ near_noted stream c.args.line b)) by
          (c.in_ok-note_by.ensures.counts m.untimely recalls.counted);
      pauses = record { newest = recalls.pauses.newest; last = recalls.pauses.last };
    }
