-- The worlds of a bus. Units are named by place from 0.
use Rattle.std.specs.Prelude.{ℕ, Bool, cond, not, ◌&&◌, nat_eq, List, [], None}
use Rattle.j39_claim.specs.declared.item.Item.{Item}
use Rattle.j39_claim.specs.ClaimRule.{ClaimState, off}
use Rattle.j39_tp.specs.declared.packet.Packet.{Packet}
use Rattle.j39_tp.specs.declared.receiving.progress.Progress.TheVariants.{Closed}
use Rattle.j39_world.specs.Sent.{Sent}
use Rattle.j39_world.specs.Transfers.{Sessions, Wire, Receivers, Begun, Reported}

-- what each unit is
abbrev pub Stations : Type 0
Stations = ℕ → ClaimState

-- what the first unit sent and the second has not heard yet, the oldest first
abbrev pub Undelivered : Type 0
Undelivered = ℕ → ℕ → List Item

pub record World : Type 0 where
  pub stations : Stations
  pub claims : Undelivered
  -- the message that each unit sends
  pub sessions : Sessions
  pub wire : Wire
  pub receivers : Receivers
  -- all transport packets that the first unit took from the second, in order
  pub taken : ℕ → ℕ → List Packet
  -- all messages that the first unit began and that had the second among their receivers, in order
  pub begun : ℕ → ℕ → List Begun
  -- all frames that the first unit sent alone and that had the second among their receivers, in order
  pub sent_alone : ℕ → ℕ → List Begun
  -- all messages that were received whole, in order
  pub reports : List Reported
  -- all frames that were sent, in order
  pub frames : List Sent

-- at first all are off, and nothing was sent
abbrev pub all_off : World
all_off = record {
  stations = λ u. off;
  claims = λ u v. [];
  sessions = λ u. None;
  wire = λ u v. [];
  receivers = λ v u. Closed;
  taken = λ v u. [];
  begun = λ u v. [];
  sent_alone = λ u v. [];
  reports = [];
  frames = [];
}

-- one place of a function changed
abbrev pub changed : {X : Type 0} → (ℕ → X) → ℕ → X → ℕ → X
changed f u x v = cond (nat_eq v u) x (f v)

-- one pair of a function of pairs changed
abbrev pub changed_pair : {X : Type 0} → (ℕ → ℕ → X) → ℕ → ℕ → X → ℕ → ℕ → X
changed_pair f u v x s t = cond (nat_eq s u && nat_eq t v) x (f s t)

-- v is on, and another than u: it hears what u sends to all
abbrev pub is_other_on : Stations → ℕ → ℕ → Bool
is_other_on stations u v = (stations v).on && not (nat_eq v u)
