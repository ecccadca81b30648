-- What is sent and reported in a world, as one more is reported or a stage changes.
use Rattle.std.proofs.Common.{◌≡◌, ℕ, Bool, true, false, cond, not, ◌&&◌, eqb, List, [], ◌∷◌, ◌++◌, refl, sym, ap, ◌∙◌, append-nil, Option, Some, None, eq-eqb}
use Rattle.std.specs.Prelude.{map}
use Rattle.std.specs.List.{filter}
use Rattle.j39_tp.specs.declared.sending.outcome.Outcome.TheVariants.{Acked}
use Rattle.j39_tp.specs.declared.packet.Packet.{Packet}
use Rattle.j39_tp.specs.declared.sending.stage.Stage.TheVariants.{Resting}
use Rattle.j39_network.specs.declared.plan.to.To.{To}
use Rattle.j39_network.specs.declared.plan.to.To.TheVariants.{One}
use Rattle.j39_world.specs.Transfers.{Outgoing, Begun, Reported, Sessions, is_among}
use Rattle.j39_world.specs.TransferSteps.{alone_report, flow_in, session_after}
use Rattle.j39_world.specs.World.{changed}
use Rattle.j39_world.specs.Sound.{reports_of, reported, reported_alone}
use Rattle.j39_run_laws.proofs.Runs.Changed.{IsElsewhere, not_here, changed_each}
use Rattle.j39_run_laws.proofs.Reports.Exchanges.{Message, message_for, message_to, begun_of, EndsWith}

-- ---- one more report

abbrev pub reported_as : Reported → Begun
reported_as r = record { flow = r.flow; bytes = r.bytes }

more_of : (are : Reported → Bool) (rs : List Reported) (r : Reported) (v u : ℕ)
    → reports_of are (rs ++ r ∷ []) v u ≡ reports_of are rs v u ++ cond (are r && (eqb r.receiver v && eqb r.sender u)) (reported_as r ∷ []) []
more_of are [] r v u =
    elim (are r && (eqb r.receiver v && eqb r.sender u)) as (λ b. map reported_as (cond b (r ∷ []) []) ≡ cond b (reported_as r ∷ []) [])
    [ true ↦ refl | false ↦ refl ]
more_of are (x ∷ rs) r v u =
    let more : List Begun = cond (are r && (eqb r.receiver v && eqb r.sender u)) (reported_as r ∷ []) [] in
    let test : Reported → Bool = λ (y : Reported). are y && (eqb y.receiver v && eqb y.sender u) in
    elim (are x && (eqb x.receiver v && eqb x.sender u)) as (λ b. map reported_as (cond b (x ∷ filter test (rs ++ r ∷ [])) (filter test (rs ++ r ∷ [])))
    ≡ map reported_as (cond b (x ∷ filter test rs) (filter test rs)) ++ more) [
      | true ↦ ap (λ (ys : List Begun). reported_as x ∷ ys) (more_of are rs r v u)
      | false ↦ more_of are rs r v u
    ]

reported_more : (rs : List Reported) (r : Reported) (v u : ℕ)
    → reported (rs ++ r ∷ []) v u ≡ reported rs v u ++ cond (not r.alone && (eqb r.receiver v && eqb r.sender u)) (reported_as r ∷ []) []
reported_more = more_of (λ (r : Reported). not r.alone)

pub reported_none : (rs : List Reported) (v u : ℕ) → reported (rs ++ []) v u ≡ reported rs v u
reported_none rs v u = ap (λ (xs : List Reported). reported xs v u) (append-nil rs)

pub reported_here : (rs : List Reported) (u v flow : ℕ) (bytes : List ℕ)
    → reported (rs ++ record { receiver = v; sender = u; flow = flow; bytes = bytes; alone = false } ∷ []) v u ≡ reported rs v u
    ++ record { flow = flow; bytes = bytes } ∷ []
reported_here rs u v flow bytes =
    let e : eqb v v ≡ true = eq-eqb v v refl in
    let g : eqb u u ≡ true = eq-eqb u u refl in
    reported_more rs (record { receiver = v; sender = u; flow = flow; bytes = bytes; alone = false }) v u ∙ rw (e, g) refl

pub reported_elsewhere : (rs : List Reported) (u v flow : ℕ) (bytes : List ℕ) (s t : ℕ) → IsElsewhere u v s t
    → reported (rs ++ record { receiver = v; sender = u; flow = flow; bytes = bytes; alone = false } ∷ []) t s ≡ reported rs t s
reported_elsewhere rs u v flow bytes s t apart =
    let e : (eqb v t && eqb u s) ≡ false = not_here t s v u (λ a b. apart (sym b) (sym a)) in
    reported_more rs (record { receiver = v; sender = u; flow = flow; bytes = bytes; alone = false }) t s ∙ rw e (append-nil (reported rs t s))

-- a frame that was sent alone counts among its own
pub reported_beside : (rs : List Reported) (u v f : ℕ) (bytes : List ℕ) (t s : ℕ) → reported (rs ++ alone_report u v f bytes ∷ []) t s ≡ reported rs t s
reported_beside rs u v f bytes t s = reported_more rs (alone_report u v f bytes) t s ∙ append-nil (reported rs t s)

pub alone_none : (rs : List Reported) (v u : ℕ) → reported_alone (rs ++ []) v u ≡ reported_alone rs v u
alone_none rs v u = ap (λ (xs : List Reported). reported_alone xs v u) (append-nil rs)

pub alone_beside : (rs : List Reported) (u v flow : ℕ) (bytes : List ℕ) (t s : ℕ)
    → reported_alone (rs ++ record { receiver = v; sender = u; flow = flow; bytes = bytes; alone = false } ∷ []) t s ≡ reported_alone rs t s
alone_beside rs u v flow bytes t s =
    more_of (λ (r : Reported). r.alone) rs (record { receiver = v; sender = u; flow = flow; bytes = bytes; alone = false }) t s
    ∙ append-nil (reported_alone rs t s)

pub alone_here : (rs : List Reported) (u v f : ℕ) (bytes : List ℕ)
    → reported_alone (rs ++ alone_report u v f bytes ∷ []) v u ≡ reported_alone rs v u ++ record { flow = f; bytes = bytes } ∷ []
alone_here rs u v f bytes =
    let e : eqb v v ≡ true = eq-eqb v v refl in
    let g : eqb u u ≡ true = eq-eqb u u refl in
    more_of (λ (r : Reported). r.alone) rs (alone_report u v f bytes) v u ∙ rw (e, g) refl

pub alone_elsewhere : (rs : List Reported) (u v f : ℕ) (bytes : List ℕ) (s t : ℕ) → IsElsewhere u v s t
    → reported_alone (rs ++ alone_report u v f bytes ∷ []) t s ≡ reported_alone rs t s
alone_elsewhere rs u v f bytes s t apart =
    let e : (eqb v t && eqb u s) ≡ false = not_here t s v u (λ a b. apart (sym b) (sym a)) in
    more_of (λ (r : Reported). r.alone) rs (alone_report u v f bytes) t s ∙ rw e (append-nil (reported_alone rs t s))

-- ---- what is sent

message_flow : (b : Bool) (s : Outgoing) (m : Message) → message_for b s ≡ Some m → begun_of s ≡ m.begun
message_flow true s m e = cc e
message_flow false s m e = absurd (cc e)

-- a report of what is sent is the message
pub reported_message : (o : Option Outgoing) (v : ℕ) (m : Message) → message_to o v ≡ Some m → record { flow = flow_in o; bytes = m.begun.bytes } ≡ m.begun
reported_message None v m e = absurd (cc e)
reported_message (Some s) v m e =
    let same : begun_of s ≡ m.begun = message_flow (is_among s.targets v) s m e in
    λ i. record { flow = (same i).flow; bytes = m.begun.bytes }

-- a session that sends the same changes no message
pub same_messages : (sessions : Sessions) (u : ℕ) (new : Option Outgoing) → ((t : ℕ) → message_to new t ≡ message_to (sessions u) t) → (s t : ℕ)
    → message_to (changed sessions u new s) t ≡ message_to (sessions s) t
same_messages sessions u new same =
    changed_each (λ x (o : Option Outgoing). (t : ℕ) → message_to o t ≡ message_to (sessions x) t) sessions u new same (λ x t. refl)

pub message_after : (o : Option Outgoing) (u : ℕ) (p : Packet) (t : ℕ) → message_to (session_after o u p) t ≡ message_to o t
message_after None u p t = refl
message_after (Some s) u p t = refl

-- ---- acknowledged messages

-- one that is acknowledged is to one unit, and ends what that one reported
pub record IsReportedAt (to : To) (v : ℕ) (begun : Begun) (reports : List Begun) : Type 0 where
  pub one : (x : ℕ) × (to ≡ One x)
  pub ends : to ≡ One v → EndsWith reports begun

abbrev pub AckedAt : Option Outgoing → ℕ → List Begun → Type 0
AckedAt None v reports = Unit {0}
AckedAt (Some s) v reports = s.stage ≡ Resting Acked → IsReportedAt s.to v (begun_of s) reports

-- what is reported now may be acknowledged
pub acked_now : (o : Option Outgoing) (v : ℕ) (m : Message) (reports : List Begun) → message_to o v ≡ Some m → AckedAt o v reports
    → AckedAt o v (reports ++ m.begun ∷ [])
acked_now None v m reports e before = tt
acked_now (Some s) v m reports e before = λ stage. record {
  one = (before stage).one;
  ends = λ _. (reports, ap (λ (x : Begun). reports ++ x ∷ []) (sym (message_flow (is_among s.targets v) s m e)));
}
