use Rattle.std.proofs.Common.{◌≡◌, ℕ, false, sym, ◌∙◌}
use Rattle.j39_audit.specs.Asking.{asks_for_claims, is_asked_to_claim}
use Rattle.j39_audit.specs.inside.Recalling.{known_by, settings_of}
use Rattle.j39_audit.proofs.Asked.{as_before, not_asking}
use Rattle.j39_audit.proofs.asking.Asking.take_request.Goals as goal

pub returns-else-asks_for_claims : goal.returns-else-asks_for_claims
returns-else-asks_for_claims c = λ a recalls.
    let s = settings_of c.args.basis.now in
    let k = known_by c.args.known.now in
    let f = c.args.frame.now in
    let none : asks_for_claims f ≡ false = sym c.asks_for_claims.ensures ∙ c.if-asks_for_claims.false in
    let before = λ (u : ℕ). as_before (a.asked u) (is_asked_to_claim s k f u) c.args.request (not_asking s k f u none) in
    record {
      size = recalls.size;
      asked = record { places = λ u. recalls.asked.places u ∙ before u; closed = λ e u. sym (before u) ∙ recalls.asked.closed e u };
      counted = recalls.counted;
    }
