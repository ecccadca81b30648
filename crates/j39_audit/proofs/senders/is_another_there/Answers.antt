use Rattle.std.proofs.Common.{◌≡◌, ◌==◌, ◌&&◌, not, Bool, false, length, sym, ap, ◌∙◌, arith}
use Rattle.std.proofs.lemmas.Bool.{ne_eqb}
use Rattle.j39_audit.specs.Below.{any_below}
use Rattle.j39_audit.specs.Claiming.{first_there, is_another_there, may_be}
use Rattle.j39_audit.specs.inside.Recalling.{known_by, settings_of}
use Rattle.j39_audit.proofs.Below.{any_here, any_more, no_other_yet}
use Rattle.j39_audit.proofs.senders.is_another_there.Goals as goal

pub loop-other-init : goal.loop-other-init
unfolding first_there
loop-other-init c =
    let s = settings_of c.args.basis.now in
    let k = known_by c.args.known.now in
    record {
      none = no_other_yet (λ u. may_be s k u c.args.address) c.args.unit (length c.args.basis.now.plan.now.units.items) c.requires.first;
      behind = omega arith;
    }

pub loop-other-preserved : goal.loop-other-preserved
loop-other-preserved c =
    let before = c.loop-other.invariant in
    let behind = before.behind in
    record {
      none = any_more _ _ before.none (ap (λ (b : Bool). b && not (c.loop-other.other == c.args.unit)) (sym c.may_be.ensures ∙ c.if-may_be.false));
      behind = omega (arith, behind);
    }

pub returns-then-may_be : goal.returns-then-may_be
unfolding is_another_there
returns-then-may_be c =
    let count = c.len-other-end.ensures in
    let test = c.loop-other-test.true in
    let behind = c.loop-other.invariant.behind in
    let other : (c.loop-other.other == c.args.unit) ≡ false = ne_eqb _ _ (λ e. absurd (omega (arith, behind, e))) in
    let passes = ap (λ (b : Bool). b && not (c.loop-other.other == c.args.unit)) (sym c.may_be.ensures ∙ c.if-may_be.true) ∙ ap not other in
    sym (any_here _ c.loop-other.other _ passes (omega (arith, count, test)))

pub returns : goal.returns
unfolding is_another_there
returns c =
    let count = c.len-other-end.ensures in
    let test = c.loop-other-test.false in
    let auto = c.loop-other.auto in
    let inside = c.requires.inside in
    let end : c.loop-other.other ≡ length c.args.basis.now.plan.now.units.items = omega (arith, count, test, auto, inside) in
    sym
    (ap (any_below (λ v. may_be (settings_of c.args.basis.now) (known_by c.args.known.now) v c.args.address && not (v == c.args.unit))) (sym end)
    ∙ c.loop-other.invariant.none)
