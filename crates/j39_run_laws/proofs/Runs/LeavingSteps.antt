-- A part of a world that stays what it is where something is sent by a flow, or is lost.
use Rattle.std.proofs.Common.{◌≡◌, ℕ, List, [], ◌∷◌, ap, ◌∙◌, Option, Some, None}
use Rattle.j39_world.specs.declared.flow.Flow.{Flow}
use Rattle.j39_world.specs.declared.wired.Wired.{Wired}
use Rattle.j39_world.specs.TransferSteps.{BeginsAt, LostFrom, SendsAt, begins, sends_alone}
use Rattle.j39_world.specs.World.{World, changed_pair}

module _ {X : Type 0} (part : World → X) (w new : World) where
  pub begin_leaves : (count f : ℕ) (o : Option Flow) (bytes : List ℕ) → ((flow : Flow) → part (begins count w f flow bytes) ≡ part w)
      → BeginsAt count w f o bytes new → part new ≡ part w
  begin_leaves count f None bytes leaves never = absurd never
  begin_leaves count f (Some flow) bytes leaves e = ap part e ∙ leaves flow

  pub send_leaves : (count f : ℕ) (o : Option Flow) (bytes : List ℕ) → ((flow : Flow) → part (sends_alone count w f flow bytes) ≡ part w)
      → SendsAt count w f o bytes new → part new ≡ part w
  send_leaves count f None bytes leaves never = absurd never
  send_leaves count f (Some flow) bytes leaves e = ap part e ∙ leaves flow

  pub lose_leaves : (u v : ℕ) (list : List Wired) → ((rest : List Wired) → part (record w { wire = changed_pair w.wire u v rest }) ≡ part w)
      → LostFrom w u v list new → part new ≡ part w
  lose_leaves u v [] leaves never = absurd never
  lose_leaves u v (item ∷ rest) leaves e = ap part e ∙ leaves rest
