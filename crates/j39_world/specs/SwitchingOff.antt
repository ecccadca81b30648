-- A unit is switched off, also in the midst of messages. It stays off for longer than others still do anything for it (a rule of our
-- own, as that of resting): what they would send because it is gone isn't shown. Where no message is sent and nothing of one lies on
-- the wire, it only stops: what was undelivered to it is gone.
use Rattle.std.specs.Prelude.{ℕ, Bool, not, cond, ◌||◌, nat_eq, List, [], Option, Some, None}
use Rattle.std.specs.List.{filter}
use Rattle.j39_claim.specs.ClaimRule.{off}
use Rattle.j39_tp.specs.Sender.{ended}
use Rattle.j39_tp.specs.declared.receiving.progress.Progress.TheVariants.{Closed}
use Rattle.j39_tp.specs.declared.sending.outcome.Outcome.TheVariants.{GaveUp}
use Rattle.j39_tp.specs.declared.sending.stage.Stage.{Stage}
use Rattle.j39_network.specs.declared.plan.to.To.{To}
use Rattle.j39_network.specs.declared.plan.to.To.TheVariants.{All, One}
use Rattle.j39_world.specs.ClaimSteps.{without_lists_to}
use Rattle.j39_world.specs.Transfers.{Outgoing, Receivers, Sessions}
use Rattle.j39_world.specs.World.{World, changed}

-- u is one of these two
abbrev pub is_either : ℕ → ℕ → ℕ → Bool
is_either u s t = nat_eq s u || nat_eq t u

-- nothing lies on the wire to u, and nothing from u
abbrev pub without_lists_of : {X : Type 0} → ℕ → (ℕ → ℕ → List X) → ℕ → ℕ → List X
without_lists_of u lists s t = cond (is_either u s t) [] (lists s t)

-- the receivers of u are closed, and those of others for what u sends
abbrev pub without_receivers_of : ℕ → Receivers → Receivers
without_receivers_of u receivers v s = cond (is_either u v s) Closed (receivers v s)

-- a message to u alone is given up, unless it has ended
abbrev pub stage_without : ℕ → To → Stage → Stage
stage_without u All stage = stage
stage_without u (One v) stage = cond (nat_eq v u) (ended GaveUp stage).0 stage

-- a message goes to u no more
abbrev pub without_target : ℕ → Outgoing → Outgoing
without_target u s =
    record s {
      targets = filter (λ v. not (nat_eq v u)) s.targets;
      stage = stage_without u s.to s.stage;
    }

abbrev pub session_without : ℕ → Option Outgoing → Option Outgoing
session_without u None = None
session_without u (Some s) = Some (without_target u s)

-- the message of u is gone, and each other goes to u no more
abbrev pub sessions_without : ℕ → Sessions → Sessions
sessions_without u sessions = changed (λ s. session_without u (sessions s)) u None

-- u is off. What it sent of addresses is heard later, and what was received whole stays
abbrev pub switched_off : World → ℕ → World
switched_off w u =
    record w {
      stations = changed w.stations u off;
      claims = without_lists_to u w.claims;
      sessions = sessions_without u w.sessions;
      wire = without_lists_of u w.wire;
      receivers = without_receivers_of u w.receivers;
    }

-- u only stops: what was undelivered to it is gone
abbrev pub stopped : World → ℕ → World
stopped w u =
    record w {
      stations = changed w.stations u off;
      claims = without_lists_to u w.claims;
      wire = without_lists_to u w.wire;
    }
