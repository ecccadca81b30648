use Rattle.std.proofs.Common.{◌≡◌, ◌+◌, None, if◌then◌else◌, sym, subst, ◌∙◌}
use Rattle.j39_tp.specs.Receiver.{fresh}
use Rattle.j39_tp.specs.declared.receiving.manner.Manner.TheVariants.{Listening}
use Rattle.j39_follow.specs.declared.pair.heard_pairs.HeardPairs.{HeardPairs}
use Rattle.j39_follow.specs.inside.Hearing.{kept_between, listener_between}
use Rattle.j39_follow.proofs.Addresses.ChangedHands.{is_changed_below, changed_all, changed_here, changed_not}
use Rattle.j39_follow.proofs.address.changed_hands.begin_anew.Goals as goal
use Rattle.j39_follow.proofs.address.changed_hands.begin_anew.Goals.{then-differs, else-differs}

pub loop-address-preserved : goal.loop-address-preserved
loop-address-preserved c = λ s d first second.
    let old = c.args.old.now in
    let new = c.args.new.now in
    let k = c.loop-address.address in
    let before = c.loop-address.invariant s d first second in
    let was = listener_between c.args.pairs.now s d in
    let had = kept_between c.args.pairs.now s d in
    elim c.if-differs.branch [
      | then-differs w ↦
          let apart = sym c.differs.ensures ∙ w.if-differs.true in
          subst
          (λ (l : HeardPairs). (listener_between l s d ≡ (if is_changed_below old new c.args.replaced (k + 1) s d then fresh Listening else was))
          × (kept_between l s d ≡ (if is_changed_below old new c.args.replaced (k + 1) s d then None else had)))
          (sym w.pairs-is) (
            changed_here old new c.args.replaced k s d (fresh Listening) was _ _ apart (w.forget.ensures.listeners s d first second) before.0,
            changed_here old new c.args.replaced k s d None had _ _ apart (w.forget.ensures.collections s d first second) before.1,
          )
      | else-differs w ↦
          let same = sym c.differs.ensures ∙ w.if-differs.false in
          subst
          (λ (l : HeardPairs). (listener_between l s d ≡ (if is_changed_below old new c.args.replaced (k + 1) s d then fresh Listening else was))
          × (kept_between l s d ≡ (if is_changed_below old new c.args.replaced (k + 1) s d then None else had)))
          (sym w.pairs-is) (
            changed_not old new c.args.replaced k s d (fresh Listening) was _ same before.0,
            changed_not old new c.args.replaced k s d None had _ same before.1,
          )
    ]

pub returns-clause-listeners : goal.returns-clause-listeners
returns-clause-listeners c = λ s d first second.
    changed_all c.args.old.now c.args.new.now c.args.replaced c.loop-address.address s d _ _ _ first second c.loop-address-test.false
    (c.loop-address.invariant s d first second).0

pub returns-clause-collections : goal.returns-clause-collections
returns-clause-collections c = λ s d first second.
    changed_all c.args.old.now c.args.new.now c.args.replaced c.loop-address.address s d _ _ _ first second c.loop-address-test.false
    (c.loop-address.invariant s d first second).1
