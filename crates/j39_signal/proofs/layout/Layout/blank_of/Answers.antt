use Rattle.std.proofs.Common.{◌≡◌, ℕ, None, Some, Vec, Global, sym, subst, ap, ◌∙◌}
use Rattle.std.proofs.lemmas.List.{with_items_is}
use Rattle.j39_signal.specs.Laid.{IsBlank, blank}
use Rattle.j39_signal.proofs.Blanks.{blank_by, ones_blank}
use Rattle.j39_signal.proofs.layout.Layout.blank_of.Goals as goal
use Rattle.j39_signal.proofs.layout.Layout.blank_of.Goals.{in-Some, in_default}

pub returns-clause-blank : goal.returns-clause-blank
returns-clause-blank c =
    let when = c.args.self.now.when in
    let ones : c.in_ok-payload.payload.items ≡ blank c.args.bytes = c.in_ok-payload.ensures in
    elim c.match-self.branch [
      | in-Some w ↦
          let is : when ≡ Some w.in-Some.selector = search in
          let selected = w.select.new.payload in
          let same = with_items_is c.in_ok-payload.payload selected (w.select.auto.payload ∙ w.deref_mut.ensures.len) in
          subst (IsBlank when) (sym (ap (λ (v : Vec ℕ Global). v.items) w.payload-is ∙ same))
          (blank_by when w.in-Some.selector selected is (w.select.ensures c.args.bytes (w.deref_mut.ensures.value ∙ ones)))
      | in_default w ↦
          let none : when ≡ None = search in
          subst (IsBlank when) (sym (ap (λ (v : Vec ℕ Global). v.items) w.payload-is ∙ ones)) (ones_blank when c.args.bytes none)
    ]
