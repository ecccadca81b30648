use Rattle.std.proofs.Common.{Option, Some, None, if◌then◌else◌, sym, ap, subst, ◌∙◌, arith, inl, inr}
use Rattle.std.specs.Option.{option_or}
use Rattle.std.proofs.lemmas.Bool.{cases_lt, true≢false}
use Rattle.j39_audit.specs.Asking.{is_asked_to_claim}
use Rattle.j39_audit.specs.declared.asking.ClaimRequest.{ClaimRequest}
use Rattle.j39_audit.specs.declared.tally.MarkTally.{MarkTally}
use Rattle.j39_audit.specs.inside.Recalling.{AreCounted, known_by, settings_of}
use Rattle.j39_audit.proofs.Asked.{as_before, never_asked}
use Rattle.j39_audit.proofs.asking.Asking.ask_all.Goals as goal

pub returns : goal.returns
returns c = λ a recalls.
    let s = settings_of c.args.basis.now in
    let k = known_by c.args.known.now in
    let f = c.args.frame.now in
    let r = c.args.request in
    let before = c.loop-unit.invariant in
    let done = c.loop-unit-test.false in
    let count = c.len-unit-end.ensures in
    let size = before.size in
    let units = recalls.size in
    record {
      size = before.size ∙ recalls.size;
      asked = record {
        places = λ u. elim (cases_lt u c.loop-unit.unit) [
          | inl less ↦ before.before u less ∙ ap (λ (o : Option ClaimRequest). option_or o (if is_asked_to_claim s k f u then Some r else None))
              (recalls.asked.places u)
          | inr past ↦ before.behind u past ∙ recalls.asked.places u
              ∙ as_before (a.asked u) (is_asked_to_claim s k f u) r (never_asked s k f u (omega (arith, past, done, count, size, units)))
        ];
        closed = λ e. absurd (true≢false (sym before.opened ∙ e));
      };
      counted = subst (λ (t : MarkTally). AreCounted t a.deaf) (sym before.deaf) recalls.counted;
    }
