-- From whom to whom a frame went, and what is written first at it.
use Rattle.std.proofs.Common.{◌≡◌, ◌++◌, ℕ, Bool, true, false, if◌then◌else◌, List, codes, refl}
use Rattle.j39_id.specs.declared.ident.Ident.{Ident}
use Rattle.j39_network.specs.declared.plan.Plan.{Plan}
use Rattle.j39_follow.specs.Contests.{Timed}
use Rattle.j39_follow.specs.FollowReports.{IsWay, is_to_all}
use Rattle.j39_follow.specs.Who.{who_text}
use Rattle.j39_follow.specs.declared.address.known_parties.Parties.{Parties}
use Rattle.j39_follow.specs.inside.Contesting.{ShowsParties}
use Rattle.j39_follow.specs.inside.Recounting.{party_at}

-- a frame has a way
pub a_way : (plan : Plan) (parties : Parties) (log : List Timed) (i : Ident) → ShowsParties plan parties log i
    → (way : List ℕ) × IsWay plan log i way
a_way plan parties log i shows =
    let sender = party_at parties.all i.sa in
    let receiver = party_at parties.all i.ps in (
      codes " from " ++ (who_text plan sender i.sa ++ (codes " to " ++ (if is_to_all i then codes "all" else who_text plan receiver i.ps))),
      record {
        sender = sender;
        receiver = receiver;
        sender_is = shows.source;
        receiver_is = shows.receiver;
        text_is = refl;
      },
    )

-- what is chosen by a test
pub if_so : {A : Type 0} (b : Bool) (x y : A) → b ≡ true → x ≡ (if b then x else y)
if_so true x y e = refl
if_so false x y e = cc

pub if_not : {A : Type 0} (b : Bool) (x y z : A) → b ≡ false → z ≡ y → z ≡ (if b then x else y)
if_not true x y z e same = cc
if_not false x y z e same = same
