-- A message of several frames to one unit is on its way: what each step keeps of it that spares it.
use Rattle.std.proofs.Common.{◌≡◌, ◌≢◌, ℕ, inl, inr, true, false, ◌&&◌, eqb, List, [], ◌∷◌, ◌++◌, refl, sym, ap, ◌∙◌, subst, append-nil, Option, Some, None}
use Rattle.std.specs.Prelude.{map}
use Rattle.std.specs.List.{AllByRecursion}
use Rattle.std.proofs.lemmas.Bool.{and_from, and_parts, cases_eq, cond_both, cond-true, cond-false, eq-eqb, eqb-true, ne_eqb, or_from}
use Rattle.j39_tp.specs.Receiver as receiver
use Rattle.j39_tp.specs.Sender as sender
use Rattle.j39_tp.specs.declared.packet.Packet.{Packet}
use Rattle.j39_tp.specs.declared.packet.Packet.TheVariants.{Rts, Cts, EndAck, Bam, Abort, Dt}
use Rattle.j39_tp.specs.declared.receiving.manner.Manner.TheVariants.{Answering}
use Rattle.j39_tp.specs.declared.receiving.progress.Progress.{Progress}
use Rattle.j39_tp.specs.declared.receiving.progress.Progress.TheVariants.{Closed}
use Rattle.j39_tp.specs.declared.sending.dest.Dest.{Dest}
use Rattle.j39_tp.specs.declared.sending.dest.Dest.TheVariants as dests
use Rattle.j39_tp.specs.declared.sending.stage.Stage.{Stage}
use Rattle.j39_network.specs.declared.plan.Plan.{Plan}
use Rattle.j39_network.specs.declared.steps.Step.TheVariants.{Lose}
use Rattle.j39_network.specs.declared.plan.to.To.TheVariants as tos
use Rattle.j39_world.proofs.Refusals.{none_hold}
use Rattle.j39_world.specs.declared.flow.Flow.{Flow}
use Rattle.j39_world.specs.declared.wired.Wired.{Wired}
use Rattle.j39_world.specs.declared.wired.Wired.TheVariants as wired
use Rattle.j39_world.specs.Arriving.{oldest_passes, SparesBetween, SendsOther}
use Rattle.j39_world.specs.Flows.{dest_of, window_at}
use Rattle.j39_world.specs.Resting.{is_of_sender, is_of_receiver}
use Rattle.j39_world.specs.Run.{count_of, begin_refusal, begin_refusals}
use Rattle.j39_world.specs.Sound.{reported}
use Rattle.j39_world.specs.Transfers.{Outgoing, Begun, Reported, Sessions, Wire, is_among, added, closed_if_complete}
use Rattle.j39_world.specs.TransferSteps.{outgoing, first_item, targets_of, begins, BeginsAt, SendsAt, sends_alone, sent_to_receivers, session_after}
use Rattle.j39_world.specs.TransferSteps.{LostFrom}
use Rattle.j39_world.specs.TransferSteps.{packets_in, receiver_timed_out, Emits, SenderTimesOut, rested}
use Rattle.j39_world.specs.SwitchingOff.{is_either, session_without, switched_off, without_target}
use Rattle.j39_world.specs.World.{World, changed, changed_pair}
use Rattle.j39_run_laws.proofs.Runs.SwitchedOff.{stage_stays, targets_stay}
use Rattle.j39_run_laws.proofs.Reports.Orderly.{IsPlanned, PlannedAt}
use Rattle.j39_run_laws.proofs.Reports.SenderSteps.{no_session, begin_keeps}
use Rattle.j39_run_laws.proofs.Reports.TransferInvariant.{TransferInvariant}
use Rattle.j39_run_laws.proofs.Runs.Changed.{IsElsewhere, changed_here, changed_elsewhere, changed_each, pair_here, pair_elsewhere, pair_each}
use Rattle.j39_run_laws.proofs.Runs.Changed.{pair_here_or_elsewhere}
use Rattle.j39_run_laws.proofs.Runs.Elements.{all_map}
use Rattle.j39_run_laws.proofs.Transfers.Beside.{IsBesideForth, IsBesideBack, Holds, holds_beside, holds_less, holds_own}
use Rattle.j39_run_laws.proofs.Transfers.Between.{IsAt, emitted, coming_sent, answering_received}
use Rattle.j39_run_laws.proofs.Transfers.Coming.{added_elsewhere}
use Rattle.j39_run_laws.proofs.Transfers.Named.{IsKeptNamed}
use Rattle.j39_run_laws.proofs.Transfers.Naming.{IsOpenFor, AnswersAt, late_answers, IsTo, SaysTo, WaitsForOne, says_first, says_data, says_late}

-- ---- what is beside it

pub to_other : (o : Option Outgoing) (t own pgn : ℕ) → SendsOther o t own → IsTo o t pgn → pgn ≢ own
to_other None t own pgn other is = absurd is
to_other (Some s) t own pgn other is = λ e. other is.0 (is.1 ∙ e)

pub says_beside : (o : Option Outgoing) (t own : ℕ) → SendsOther o t own → (item : Wired) → SaysTo o t item → IsBesideBack own item
says_beside o t own other (wired.Short bytes) is = tt
says_beside o t own other (wired.Packet (Rts size limit pgn)) is = to_other o t own pgn other is
says_beside o t own other (wired.Packet (Cts count start pgn)) is = absurd is
says_beside o t own other (wired.Packet (EndAck size pgn)) is = absurd is
says_beside o t own other (wired.Packet (Bam size pgn)) is = tt
says_beside o t own other (wired.Packet (Abort reason pgn)) is = to_other o t own pgn other is
says_beside o t own other (wired.Packet (Dt number seven)) is = tt
says_beside o t own other (wired.Alone f bytes) is = tt

pub answers_beside : (pr : Progress) (own : ℕ) → ((pgn : ℕ) → IsOpenFor pr pgn → pgn ≢ own) → (p : Packet) → AnswersAt pr p
    → IsBesideForth own (wired.Packet p)
answers_beside pr own other (Rts size limit pgn) is = is
answers_beside pr own other (Cts count start pgn) is = tt
answers_beside pr own other (EndAck size pgn) is = tt
answers_beside pr own other (Bam size pgn) is = is
answers_beside pr own other (Abort reason pgn) is = other pgn is
answers_beside pr own other (Dt number seven) is = is

pub after_other : (o : Option Outgoing) (x : ℕ) (p : Packet) (t own : ℕ) → SendsOther o t own → SendsOther (session_after o x p) t own
after_other None x p t own other = tt
after_other (Some s) x p t own other = other

one_same : (x y : ℕ) → tos.One x ≡ tos.One y → y ≡ x
one_same x y e = cc e

-- a list that is longer by such items
abbrev pub GrownBy : (Wired → Type 0) → List Wired → List Wired → Type 0
GrownBy Beside xs ys = (more : List Wired) × AllByRecursion Beside more × (ys ≡ xs ++ more)

pub not_grown : (Beside : Wired → Type 0) (xs ys : List Wired) → ys ≡ xs → GrownBy Beside xs ys
not_grown Beside xs ys same = ([], tt, same ∙ sym (append-nil xs))

-- ---- the message of u to v, with what v had reported of u before it

module _ (plan : Plan) (u v : ℕ) (o : Outgoing) (before : List Begun) (apart : u ≢ v) (one : o.to ≡ tos.One v) (alone : o.targets ≡ v ∷ []) where
  abbrev pub at_stage : Stage → Outgoing
  at_stage stage = record o { stage = stage }

  -- what of it is on the wire, between what is beside it, and how far it is
  pub record IsOnItsWay (stage : Stage) (forth back : List Wired) (pr : Progress) (reports : List Begun) : Type 0 where
    pub coming : List Wired
    pub answering : List Wired
    pub wire : Holds (IsBesideForth o.pgn) forth coming
    pub answers : Holds (IsBesideBack o.pgn) back answering
    pub at : IsAt o before stage coming answering pr reports

  pub record IsAnswering (w : World) : Type 0 where
    pub stage : Stage
    pub session : w.sessions u ≡ Some (at_stage stage)
    pub other : SendsOther (w.sessions v) u o.pgn
    pub way : IsOnItsWay stage (w.wire u v) (w.wire v u) (w.receivers v u) (reported w.reports v u)

  -- of reports it speaks of those of messages that were begun
  pub reports_beside : (w : World) (rs : List Reported) → ((t s : ℕ) → reported rs t s ≡ reported w.reports t s) → IsAnswering w
      → IsAnswering (record w { reports = rs })
  reports_beside w rs same now = record {
    stage = now.stage;
    session = now.session;
    other = now.other;
    way = subst (λ (xs : List Begun). IsOnItsWay now.stage (w.wire u v) (w.wire v u) (w.receivers v u) xs) (sym (same v u)) now.way;
  }

  pub among_here : is_among o.targets v ≡ true
  among_here = ap (λ (targets : List ℕ). is_among targets v) alone ∙ (let e : eqb v v ≡ true = eq-eqb v v refl in rw e refl)

  pub among_elsewhere : (x : ℕ) → x ≢ v → is_among o.targets x ≡ false
  among_elsewhere x other = ap (λ (targets : List ℕ). is_among targets x) alone ∙ (let e : eqb x v ≡ false = ne_eqb x v other in rw e refl)

  pub directed : dest_of o.to ≡ dests.One
  directed = ap dest_of one

  -- what is beside it grows
  pub grown : (stage : Stage) (forth more_forth back more_back : List Wired) (pr : Progress) (reports : List Begun)
      → GrownBy (IsBesideForth o.pgn) forth more_forth → GrownBy (IsBesideBack o.pgn) back more_back
      → IsOnItsWay stage forth back pr reports → IsOnItsWay stage more_forth more_back pr reports
  grown stage forth more_forth back more_back pr reports (xs, all, is) (ys, all_back, is_back) way = record {
    coming = way.coming;
    answering = way.answering;
    wire = subst (λ (list : List Wired). Holds (IsBesideForth o.pgn) list way.coming) (sym is)
        (holds_beside (IsBesideForth o.pgn) forth xs way.coming all way.wire);
    answers = subst (λ (list : List Wired). Holds (IsBesideBack o.pgn) list way.answering) (sym is_back)
        (holds_beside (IsBesideBack o.pgn) back ys way.answering all_back way.answers);
    at = way.at;
  }

  module _ (w : World) (kept : IsKeptNamed plan w) (now : IsAnswering w) where
    abbrev WayIn : Stage → World → Type 0
    WayIn stage new = IsOnItsWay stage (new.wire u v) (new.wire v u) (new.receivers v u) (reported new.reports v u)

    -- lists that grow by what is beside it, and nothing else of the pair changes
    pub grown_in : (new : World) → GrownBy (IsBesideForth o.pgn) (w.wire u v) (new.wire u v) → GrownBy (IsBesideBack o.pgn) (w.wire v u) (new.wire v u)
        → new.receivers v u ≡ w.receivers v u → reported new.reports v u ≡ reported w.reports v u → WayIn now.stage new
    grown_in new forth back receivers reports =
        subst (λ (pr : Progress). IsOnItsWay now.stage (new.wire u v) (new.wire v u) pr (reported new.reports v u)) (sym receivers)
        (subst (λ (rs : List Begun). IsOnItsWay now.stage (new.wire u v) (new.wire v u) (w.receivers v u) rs) (sym reports)
        (grown now.stage (w.wire u v) (new.wire u v) (w.wire v u) (new.wire v u) (w.receivers v u) (reported w.reports v u) forth back now.way))

    -- u's receiver for v is open for another group alone
    pub hearer_other : (pgn : ℕ) → IsOpenFor (w.receivers u v) pgn → pgn ≢ o.pgn
    hearer_other pgn opened = to_other (w.sessions v) u o.pgn pgn now.other (kept.named.receivers u v pgn opened)

    pub planned_v : PlannedAt plan v (w.sessions v)
    planned_v = kept.kept.transfers.order.planned v

    -- ---- nothing of messages is changed, or another unit goes off

    pub stated_keeps : (new : World) → new.sessions ≡ w.sessions → new.wire ≡ w.wire → new.receivers ≡ w.receivers → new.reports ≡ w.reports
        → IsAnswering new
    stated_keeps new sessions wire receivers reports = record {
      stage = now.stage;
      session = ap (λ (f : Sessions). f u) sessions ∙ now.session;
      other = subst (λ (f : Sessions). SendsOther (f v) u o.pgn) (sym sessions) now.other;
      way = grown_in new (not_grown (IsBesideForth o.pgn) (w.wire u v) (new.wire u v) (ap (λ (f : Wire). f u v) wire))
          (not_grown (IsBesideBack o.pgn) (w.wire v u) (new.wire v u) (ap (λ (f : Wire). f v u) wire))
          (ap (λ (f : ℕ → ℕ → Progress). f v u) receivers) (ap (λ (rs : List Reported). reported rs v u) reports);
    }

    other_left : (x : ℕ) (z : Option Outgoing) → SendsOther z u o.pgn → SendsOther (session_without x z) u o.pgn
    other_left x None other = tt
    other_left x (Some s) other = other

    pub off_keeps : (x : ℕ) → x ≢ u → x ≢ v → IsAnswering (switched_off w x)
    off_keeps x other_u other_v =
        let then : World = switched_off w x in
        let e : eqb u x ≡ false = ne_eqb u x (λ same. other_u (sym same)) in
        let f : eqb v x ≡ false = ne_eqb v x (λ same. other_v (sym same)) in
        let same : without_target x (at_stage now.stage) ≡ at_stage now.stage =
        λ i. record o { targets = targets_stay x o.targets (among_elsewhere x other_v) i; stage = stage_stays x o.to now.stage goes i } in
        record {
          stage = now.stage;
          session = changed_elsewhere (λ y. session_without x (w.sessions y)) x None u (λ is. other_u (sym is))
              ∙ ap (session_without x) now.session ∙ ap (λ (s : Outgoing). Some s) same;
          other = subst (λ (z : Option Outgoing). SendsOther z u o.pgn)
              (sym (changed_elsewhere (λ y. session_without x (w.sessions y)) x None v (λ is. other_v (sym is)))) (other_left x (w.sessions v) now.other);
          way = grown_in then
              (not_grown (IsBesideForth o.pgn) (w.wire u v) (then.wire u v) (cond-false (is_either x u v) [] (w.wire u v) (or_from (eqb u x) (eqb v x) e f)))
              (not_grown (IsBesideBack o.pgn) (w.wire v u) (then.wire v u) (cond-false (is_either x v u) [] (w.wire v u) (or_from (eqb v x) (eqb u x) f e)))
              (cond-false (is_either x v u) Closed (w.receivers v u) (or_from (eqb v x) (eqb u x) f e)) refl;
        }
      where
        goes : (y : ℕ) → o.to ≡ tos.One y → y ≢ x
        goes y to same = other_v (sym (one_same y v (sym to ∙ one) ∙ same))

    -- ---- others send, or rest

    others_send : (s : ℕ) (x : Option Outgoing) (targets : List ℕ) (item : Wired) → s ≢ u → (s ≡ v → SendsOther x u o.pgn)
        → (s ≡ v → is_among targets u ≡ true → IsBesideBack o.pgn item) → (new : World) → new.sessions ≡ changed w.sessions s x
        → new.wire ≡ added w.wire s targets item → new.receivers ≡ w.receivers → new.reports ≡ w.reports → IsAnswering new
    others_send s x targets item other sends beside new sessions wire receivers reports =
        let forth : new.wire u v ≡ w.wire u v = ap (λ (f : Wire). f u v) wire ∙ added_elsewhere w.wire s targets item u v (λ e. other (sym e)) in
        let back : GrownBy (IsBesideBack o.pgn) (w.wire v u) (added w.wire s targets item v u) =
        cond_both (eqb v s && is_among targets u) (w.wire v u ++ item ∷ []) (w.wire v u) (λ (list : List Wired). GrownBy (IsBesideBack o.pgn) (w.wire v u) list)
        (λ both. let parts = and_parts (eqb v s) (is_among targets u) both in
        (item ∷ [], (beside (sym (eqb-true v s parts.0)) parts.1, tt), refl))
        (λ _. not_grown (IsBesideBack o.pgn) (w.wire v u) (w.wire v u) refl) in
        record {
          stage = now.stage;
          session = ap (λ (f : Sessions). f u) sessions ∙ (changed_elsewhere w.sessions s x u (λ e. other (sym e)) ∙ now.session);
          other = subst (λ (f : Sessions). SendsOther (f v) u o.pgn) (sym sessions)
              (changed_each (λ t (z : Option Outgoing). t ≡ v → SendsOther z u o.pgn) w.sessions s x sends
              (λ t same. subst (λ k. SendsOther (w.sessions k) u o.pgn) (sym same) now.other) v refl);
          way = grown_in new (not_grown (IsBesideForth o.pgn) (w.wire u v) (new.wire u v) forth)
              (subst (λ (f : Wire). GrownBy (IsBesideBack o.pgn) (w.wire v u) (f v u)) (sym wire) back)
              (ap (λ (f : ℕ → ℕ → Progress). f v u) receivers) (ap (λ (rs : List Reported). reported rs v u) reports);
        }

    pub rest_keeps : (s : ℕ) → s ≢ u → IsAnswering (rested w s)
    rest_keeps s other = record {
      stage = now.stage;
      session = changed_elsewhere w.sessions s None u (λ e. other (sym e)) ∙ now.session;
      other = changed_each (λ t (z : Option Outgoing). t ≡ v → SendsOther z u o.pgn) w.sessions s None (λ _. tt)
          (λ t same. subst (λ k. SendsOther (w.sessions k) u o.pgn) (sym same) now.other) v refl;
      way = now.way;
    }

    pub begin_keeps_on : (f : ℕ) (flow : Option Flow) (bytes : List ℕ) → begin_refusal plan.live (count_of plan) w flow bytes ≡ None
        → ((g : Flow) → flow ≡ Some g → g.sender ≡ v → g.to ≡ tos.One u → g.pgn ≢ o.pgn) → (new : World)
        → BeginsAt (count_of plan) w f flow bytes new → IsAnswering new
    begin_keeps_on f None bytes allowed spares new never = absurd never
    begin_keeps_on f (Some flow) bytes allowed spares new e =
        let (sendable, (on, (stated, (addressed, (free, rest))))) = none_hold (begin_refusals plan.live (count_of plan) w (Some flow) bytes) allowed in
        let idle : w.sessions flow.sender ≡ None = no_session (w.sessions flow.sender) free in
        let other : flow.sender ≢ u =
        λ same. (let session = now.session in let at_u : w.sessions u ≡ None = ap w.sessions (sym same) ∙ idle in cc (session, at_u)) in
        let begun : Outgoing = outgoing (count_of plan) w.stations f flow bytes in
        let then : TransferInvariant plan new = begin_keeps plan w kept.kept.transfers f (Some flow) bytes allowed new e in
        let session : new.sessions flow.sender ≡ Some begun = ap (λ (x : World). x.sessions flow.sender) e ∙ changed_here w.sessions flow.sender (Some begun) in
        let planned : IsPlanned plan flow.sender begun.to begun.targets = subst (PlannedAt plan flow.sender) session (then.order.planned flow.sender) in
        let sends : flow.sender ≡ v → SendsOther (Some begun) u o.pgn = spares flow refl in
        subst IsAnswering (sym e)
        (others_send flow.sender (Some begun) begun.targets (first_item flow bytes) other sends
        (λ same among. says_beside (Some begun) u o.pgn (sends same) (first_item flow bytes)
        (says_first plan flow.sender begun planned u among flow bytes refl refl))
        (begins (count_of plan) w f flow bytes) refl refl refl refl)

    -- a frame is sent alone, by whomever
    pub send_keeps : (f : ℕ) (flow : Option Flow) (bytes : List ℕ) (new : World) → SendsAt (count_of plan) w f flow bytes new → IsAnswering new
    send_keeps f None bytes new never = absurd never
    send_keeps f (Some flow) bytes new e =
        let item : Wired = wired.Alone f bytes in
        let targets : List ℕ = targets_of (count_of plan) w.stations flow.sender flow.to in
        let more : (Beside : Wired → Type 0) → Beside item → (s t : ℕ) → GrownBy Beside (w.wire s t) (added w.wire flow.sender targets item s t) =
        λ Beside beside s t. cond_both (eqb s flow.sender && is_among targets t) (w.wire s t ++ item ∷ []) (w.wire s t)
        (λ (list : List Wired). GrownBy Beside (w.wire s t) list) (λ _. (item ∷ [], (beside, tt), refl))
        (λ _. not_grown Beside (w.wire s t) (w.wire s t) refl) in
        subst IsAnswering (sym e) (record {
          stage = now.stage;
          session = now.session;
          other = now.other;
          way = grown_in (sends_alone (count_of plan) w f flow bytes) (more (IsBesideForth o.pgn) tt u v) (more (IsBesideBack o.pgn) tt v u) refl refl;
        })

    -- another unit's session, where it is v's
    other_at : (s : ℕ) (sending : Outgoing) → w.sessions s ≡ Some sending → s ≡ v → SendsOther (Some sending) u o.pgn
    other_at s sending is same = subst (λ (x : Option Outgoing). SendsOther x u o.pgn) (ap w.sessions (sym same) ∙ is) now.other

    planned_at : (s : ℕ) (sending : Outgoing) → w.sessions s ≡ Some sending → IsPlanned plan s sending.to sending.targets
    planned_at s sending is = subst (PlannedAt plan s) is (kept.kept.transfers.order.planned s)

    -- ---- it is sent on

    abbrev sends_next : Outgoing → Packet → Stage → World
    sends_next s p stage = record (sent_to_receivers w u s p) { sessions = changed w.sessions u (Some (record s { stage = stage })) }

    emit_here : (p : Packet) → sender.data_next o.bytes now.stage ≡ Some p
        → IsAnswering (sends_next (at_stage now.stage) p (sender.after_packet (dest_of o.to) now.stage))
    emit_here p next =
        let way = now.way in
        let item : Wired = wired.Packet p in
        let then : Stage = sender.after_packet dests.One now.stage in
        let stage_is : sender.after_packet (dest_of o.to) now.stage ≡ then = ap (λ (d : Dest). sender.after_packet d now.stage) directed in
        let forth : added w.wire u o.targets item u v ≡ w.wire u v ++ item ∷ [] =
        cond-true (eqb u u && is_among o.targets v) (w.wire u v ++ item ∷ []) (w.wire u v)
        (and_from (eqb u u) (is_among o.targets v) (eq-eqb u u refl) among_here) in
        let back : added w.wire u o.targets item v u ≡ w.wire v u = added_elsewhere w.wire u o.targets item v u (λ e. apart (sym e)) in
        subst (λ (st : Stage). IsAnswering (sends_next (at_stage now.stage) p st)) (sym stage_is) (record {
          stage = then;
          session = changed_here w.sessions u (Some (at_stage then));
          other =
              subst (λ (x : Option Outgoing). SendsOther x u o.pgn)
              (sym (changed_elsewhere w.sessions u (Some (at_stage then)) v (λ e. apart (sym e)))) now.other;
          way = record {
            coming = way.coming ++ item ∷ [];
            answering = way.answering;
            wire = subst (λ (list : List Wired). Holds (IsBesideForth o.pgn) list (way.coming ++ item ∷ [])) (sym forth)
                (holds_own (IsBesideForth o.pgn) (w.wire u v) way.coming (item ∷ []) way.wire);
            answers = subst (λ (list : List Wired). Holds (IsBesideBack o.pgn) list way.answering) (sym back) way.answers;
            at = emitted o before now.stage way.coming way.answering (w.receivers v u) (reported w.reports v u) p next way.at;
          };
        })

    pub emit_keeps : (s : ℕ) (new : World) → Emits w s new → IsAnswering new
    emit_keeps s new (sending, p, is, next, e) = subst IsAnswering (sym e) (elim (cases_eq s u) [
      | inl same ↦
          let at_u : w.sessions u ≡ Some sending = ap w.sessions (sym same) ∙ is in
          let here : at_stage now.stage ≡ sending = (let session = now.session in cc (session, at_u)) in
          subst (λ k. IsAnswering (record (sent_to_receivers w k sending p) {
            sessions = changed w.sessions k (Some (record sending { stage = sender.after_packet (dest_of sending.to) sending.stage }));
          })) (sym same)
          (subst (λ (x : Outgoing). sender.data_next x.bytes x.stage ≡ Some p → IsAnswering (sends_next x p (sender.after_packet (dest_of x.to) x.stage))) here
          (emit_here p) next)
      | inr other ↦ others_send s _ sending.targets (wired.Packet p) other (other_at s sending is)
          (λ same among. says_beside (Some sending) u o.pgn (other_at s sending is same) (wired.Packet p)
          (says_data plan s sending (planned_at s sending is) u among p next)) _ refl refl refl refl
    ])

    pub late_keeps : (s : ℕ) (new : World) → s ≢ u → SenderTimesOut w s new → IsAnswering new
    late_keeps s new other (sending, p, is, late, e) = subst IsAnswering (sym e)
        (others_send s _ sending.targets (wired.Packet p) other (other_at s sending is)
        (λ same among. says_beside (Some sending) u o.pgn (other_at s sending is same) (wired.Packet p)
        (says_late plan s sending (planned_at s sending is) u among
        (subst (λ (x : Option Outgoing). WaitsForOne x) is (kept.named.waits s)) p late)) _ refl refl refl refl)

    -- ---- something beside it is lost

    module _ (x y : ℕ) (item : Wired) (rest : List Wired) (is : w.wire x y ≡ item ∷ rest) where
      abbrev lost : World
      lost = record w { wire = changed_pair w.wire x y rest }

      -- what comes of the message stays what it was
      lost_beside : Holds (IsBesideForth o.pgn) (lost.wire u v) now.way.coming → Holds (IsBesideBack o.pgn) (lost.wire v u) now.way.answering
          → IsAnswering lost
      lost_beside forth back = record {
        stage = now.stage;
        session = now.session;
        other = now.other;
        way = record { coming = now.way.coming; answering = now.way.answering; wire = forth; answers = back; at = now.way.at };
      }

      lost_elsewhere : IsElsewhere u v x y → IsElsewhere v u x y → IsAnswering lost
      lost_elsewhere elsewhere elsewhere_back = record {
        stage = now.stage;
        session = now.session;
        other = now.other;
        way = grown_in lost
            (not_grown (IsBesideForth o.pgn) (w.wire u v) (lost.wire u v) (pair_elsewhere w.wire x y rest u v (λ a b. elsewhere (sym a) (sym b))))
            (not_grown (IsBesideBack o.pgn) (w.wire v u) (lost.wire v u) (pair_elsewhere w.wire x y rest v u (λ a b. elsewhere_back (sym a) (sym b))))
            refl refl;
      }

    lost_forth : (item : Wired) (rest : List Wired) (is : w.wire u v ≡ item ∷ rest) → oldest_passes is_of_receiver (w.wire u v) ≡ true
        → IsAnswering (lost u v item rest is)
    lost_forth item rest is passes =
        let way = now.way in
        let holds = holds_less (IsBesideForth o.pgn) is_of_receiver (w.wire u v) rest way.coming item is passes
        (λ later own. coming_sent o before item now.stage later way.answering (w.receivers v u) (reported w.reports v u)
        (subst (λ (zs : List Wired). IsAt o before now.stage zs way.answering (w.receivers v u) (reported w.reports v u)) own way.at)) way.wire in
        lost_beside u v item rest is (subst (λ (zs : List Wired). Holds (IsBesideForth o.pgn) zs way.coming) (sym (pair_here w.wire u v rest)) holds)
        (subst (λ (zs : List Wired). Holds (IsBesideBack o.pgn) zs way.answering) (sym (pair_elsewhere w.wire u v rest v u (λ a b. apart b))) way.answers)

    lost_back : (item : Wired) (rest : List Wired) (is : w.wire v u ≡ item ∷ rest) → oldest_passes is_of_sender (w.wire v u) ≡ true
        → IsAnswering (lost v u item rest is)
    lost_back item rest is passes =
        let way = now.way in
        let holds = holds_less (IsBesideBack o.pgn) is_of_sender (w.wire v u) rest way.answering item is passes
        (λ later own. answering_received o before item now.stage way.coming later (w.receivers v u) (reported w.reports v u)
        (subst (λ (zs : List Wired). IsAt o before now.stage way.coming zs (w.receivers v u) (reported w.reports v u)) own way.at)) way.answers in
        lost_beside v u item rest is
        (subst (λ (zs : List Wired). Holds (IsBesideForth o.pgn) zs way.coming) (sym (pair_elsewhere w.wire v u rest u v (λ a b. apart a))) way.wire)
        (subst (λ (zs : List Wired). Holds (IsBesideBack o.pgn) zs way.answering) (sym (pair_here w.wire v u rest)) holds)

    abbrev KeepsLost : ℕ → ℕ → Type 0
    KeepsLost x y = (item : Wired) (rest : List Wired) (is : w.wire x y ≡ item ∷ rest) → SparesBetween plan w u v (Lose x y)
        → IsAnswering (lost x y item rest is)

    lost_keeps : (x y : ℕ) → KeepsLost x y
    lost_keeps =
        pair_here_or_elsewhere KeepsLost u v (λ item rest is spares. lost_forth item rest is (spares.0 refl refl))
        (λ x y elsewhere. pair_here_or_elsewhere (λ s t. IsElsewhere u v s t → KeepsLost s t) v u
        (λ _ item rest is spares. lost_back item rest is (spares.1 refl refl))
        (λ s t elsewhere_back away item rest is spares. lost_elsewhere s t item rest is away elsewhere_back) x y elsewhere)

    pub lose_keeps : (x y : ℕ) → SparesBetween plan w u v (Lose x y) → (list : List Wired) → w.wire x y ≡ list → (new : World) → LostFrom w x y list new
        → IsAnswering new
    lose_keeps x y spares [] is new never = absurd never
    lose_keeps x y spares (item ∷ rest) is new e = subst IsAnswering (sym e) (lost_keeps x y item rest is spares)

    -- ---- a receiver hears nothing in time, elsewhere

    pub late_receiver_keeps : (windows : List ℕ) (x y : ℕ) → IsElsewhere u v x y → IsAnswering (receiver_timed_out windows w x y)
    late_receiver_keeps windows x y elsewhere =
        let late : Progress × Option Packet = receiver.timed_out (Answering (window_at windows y)) (w.receivers y x) in
        let items : List Wired = map wired.Packet (packets_in late.1) in
        let then : World = receiver_timed_out windows w x y in
        let beside : (s t : ℕ) → IsElsewhere y x s t → GrownBy (IsBesideForth o.pgn) (w.wire s t) (then.wire s t) =
        λ s t other. not_grown (IsBesideForth o.pgn) (w.wire s t) (then.wire s t) (pair_elsewhere w.wire y x (w.wire y x ++ items) s t other) in
        let own : y ≡ u → x ≡ v → AllByRecursion (IsBesideForth o.pgn) items =
        λ is_u is_v. all_map wired.Packet (AnswersAt (w.receivers y x)) (IsBesideForth o.pgn)
        (answers_beside (w.receivers y x) o.pgn (λ pgn opened. hearer_other pgn
        (subst (λ k. IsOpenFor (w.receivers k v) pgn) is_u (subst (λ k. IsOpenFor (w.receivers y k) pgn) is_v opened))))
        (packets_in late.1) (late_answers (window_at windows y) (w.receivers y x)) in
        let forth : GrownBy (IsBesideForth o.pgn) (w.wire u v) (then.wire u v) =
        pair_each (λ s t (list : List Wired). s ≡ u → t ≡ v → GrownBy (IsBesideForth o.pgn) (w.wire s t) list) w.wire y x (w.wire y x ++ items)
        (λ is_u is_v. (items, own is_u is_v, refl))
        (λ s t _ _. not_grown (IsBesideForth o.pgn) (w.wire s t) (w.wire s t) refl) u v refl refl in
        let away : IsElsewhere y x v u = λ a b. elsewhere (sym b) (sym a) in
        record {
          stage = now.stage;
          session = now.session;
          other = now.other;
          way = grown_in then forth (not_grown (IsBesideBack o.pgn) (w.wire v u) (then.wire v u) (pair_elsewhere w.wire y x (w.wire y x ++ items) v u away))
              (pair_elsewhere w.receivers y x (closed_if_complete late.0) v u away) refl;
        }
