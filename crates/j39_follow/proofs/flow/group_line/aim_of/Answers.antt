use Rattle.std.proofs.Common.{◌≡◌, Bool, Some, None, if◌then◌else◌, sym, ap, ◌∙◌}
use Rattle.j39_follow.specs.FollowReports.{aim_at}
use Rattle.j39_follow.specs.Who.{unit_of}
use Rattle.j39_follow.specs.declared.flow.sending.Aim.TheVariants as aims
use Rattle.j39_follow.specs.inside.Recounting.{party_at}
use Rattle.j39_follow.proofs.flow.group_line.aim_of.Goals as goal

pub returns-then-is_to_all : goal.returns-then-is_to_all
returns-then-is_to_all c = λ plan log shows.
    let i = c.args.message.ident in
    let receiver = party_at c.args.parties.now.all i.ps in (
      receiver,
      shows.receiver,
      ap (λ (b : Bool). if b then aims.All else aim_at (unit_of receiver)) (sym c.if-is_to_all.true ∙ c.is_to_all.ensures),
    )

pub returns-in-Some : goal.returns-in-Some
returns-in-Some c = λ plan log shows.
    let one : unit_of c.receiver.result ≡ Some c.in-Some.unit = sym c.unit.ensures ∙ c.in-Some.is in (
      c.receiver.result,
      c.receiver.ensures plan log shows,
      sym (ap (λ (b : Bool). if b then aims.All else aim_at (unit_of c.receiver.result)) (sym c.is_to_all.ensures ∙ c.if-is_to_all.false) ∙ ap aim_at one),
    )

pub returns-in-None : goal.returns-in-None
returns-in-None c = λ plan log shows.
    let none : unit_of c.receiver.result ≡ None = sym c.unit.ensures ∙ c.in-None.is in (
      c.receiver.result,
      c.receiver.ensures plan log shows,
      sym (ap (λ (b : Bool). if b then aims.All else aim_at (unit_of c.receiver.result)) (sym c.is_to_all.ensures ∙ c.if-is_to_all.false) ∙ ap aim_at none),
    )
