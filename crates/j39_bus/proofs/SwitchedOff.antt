-- A unit that is switched off.
use Rattle.std.proofs.Common.{◌≡◌, ℕ, ◌<◌, Bool, true, false, cond, eqb, List, [], ◌∷◌, length, get_or, set, refl, sym, ap, ◌∙◌, subst, inl, inr, Option, Some}
use Rattle.std.proofs.Common.{None}
use Rattle.std.proofs.lemmas.Bool.{cases_Bool, cases_eq, cond-false, cond-true, eq-eqb, ne_eqb, or_parts}
use Rattle.std.specs.List.{filter}
use Rattle.j39_claim.specs.ClaimRule.{off}
use Rattle.j39_claim.specs.ClaimerValue.{ClaimerValue}
use Rattle.j39_tp.specs.Gathered.{Gathers}
use Rattle.j39_tp.specs.declared.packet.Packet.{Packet}
use Rattle.j39_tp.specs.declared.receiving.progress.Progress.TheVariants.{Closed}
use Rattle.j39_world.specs.ClaimSteps.{without_lists_to}
use Rattle.j39_world.specs.Sent.{Sent}
use Rattle.j39_world.specs.SwitchingOff.{is_either, session_without, sessions_without, switched_off, without_lists_of, without_receivers_of, without_target}
use Rattle.j39_world.specs.Transfers.{Outgoing, Receivers, Sessions, Wire, is_among}
use Rattle.j39_world.specs.World.{World, Undelivered, changed}
use Rattle.j39_bus.specs.BusState.{Holding, ReceiverTable, closed, holding_at, session_at}
use Rattle.j39_bus.specs.Stands.{HoldTaken}
use Rattle.j39_bus.specs.Stations.{absent_unit, station_at}
use Rattle.j39_bus.specs.inside.KeptMessages.{AreSessions, AreUnits, IsSession}
use Rattle.j39_bus.specs.inside.Network.{planned_units}
use Rattle.j39_bus.specs.inside.Receivers.{without_holdings_of}
use Rattle.j39_bus.proofs.ChangedSessions.{none_some}
use Rattle.j39_bus.proofs.Worlds.{any_default, planned_units-set, world, world_set}

-- ---- what each unit is

module _ (cs : List ClaimerValue) (u : ℕ) (inside : u < length cs) (old new : ClaimerValue) (at : old ≡ get_or cs u old)
    (stops : new ≡ record old { state = off }) where
  pub off_planned_unit : new.planned ≡ (get_or cs u absent_unit).planned
  off_planned_unit = ap (λ (c : ClaimerValue). c.planned) stops ∙ ap (λ (c : ClaimerValue). c.planned) (at ∙ any_default cs u old absent_unit inside)

  pub planned_units_off : planned_units (set cs u new) ≡ planned_units cs
  planned_units_off = planned_units-set cs u new off_planned_unit

  pub switched_off_world : (b : World) (claims left : Undelivered) (fs : List Sent) → left ≡ without_lists_to u claims
      → (sessions : Sessions) → sessions ≡ sessions_without u b.sessions → (wire : Wire) → wire ≡ without_lists_of u b.wire
      → (receivers : Receivers) → receivers ≡ without_receivers_of u b.receivers
      → record (world b (set cs u new) left fs) { sessions = sessions; wire = wire; receivers = receivers } ≡ switched_off (world b cs claims fs) u
  switched_off_world b claims left fs left_is sessions sessions_are wire wire_is receivers receivers_are =
      let before : world b (set cs u new) left fs ≡ record b { stations = changed (station_at cs) u off; claims = without_lists_to u claims; frames = fs } =
      (λ i. world b (set cs u new) (left_is i) fs) ∙ world_set b cs (without_lists_to u claims) fs u new inside
      ∙ (λ i. record b { stations = changed (station_at cs) u (stops i).state; claims = without_lists_to u claims; frames = fs }) in
      λ i. record (before i) { sessions = sessions_are i; wire = wire_is i; receivers = receivers_are i }

-- ---- the messages of others

among_filtered : (test : ℕ → Bool) (vs : List ℕ) (v : ℕ) → is_among vs v ≡ false → is_among (filter test vs) v ≡ false
among_filtered test [] v is = refl
among_filtered test (w ∷ vs) v is =
    let (other, rest) = or_parts (eqb v w) (is_among vs v) is in
    elim (cases_Bool (test w)) [
      | inl kept ↦ rw (kept, other) (among_filtered test vs v rest)
      | inr struck ↦ rw struck (among_filtered test vs v rest)
    ]

units_filtered : (n : ℕ) (test : ℕ → Bool) (vs : List ℕ) → AreUnits n vs → AreUnits n (filter test vs)
units_filtered n test [] units = tt
units_filtered n test (v ∷ vs) units = elim (cases_Bool (test v)) [
  | inl kept ↦ rw kept (units.0, among_filtered test vs v units.1, units_filtered n test vs units.2)
  | inr struck ↦ rw struck (units_filtered n test vs units.2)
]

left_out : (n u : ℕ) (o : Option Outgoing) → ((s : Outgoing) → o ≡ Some s → IsSession n s) → (s : Outgoing) → session_without u o ≡ Some s → IsSession n s
left_out n u None form s is = absurd (none_some s is)
left_out n u (Some t) form s is =
    let e : without_target u t ≡ s = cc in
    let was : IsSession n t = form t refl in
    subst (IsSession n) e (record { to = was.to; targets = units_filtered n _ t.targets was.targets })

pub sessions_left_out : (n u : ℕ) (old new : List (Option Outgoing)) → session_at new ≡ sessions_without u (session_at old) → length new ≡ length old
    → AreSessions n old → AreSessions n new
sessions_left_out n u old new is count are = record {
  count = count ∙ are.count;
  each = λ k s at. elim (cases_eq k u) [
    | inl same ↦ absurd (none_some s (sym (cond-true (eqb k u) None (session_without u (session_at old k)) (eq-eqb k u same)) ∙ (λ i. sym is i k) ∙ at))
    | inr other ↦
        left_out n u (session_at old k) (are.each k) s
        (sym (cond-false (eqb k u) None (session_without u (session_at old k)) (ne_eqb k u other)) ∙ (λ i. sym is i k) ∙ at)
  ];
}

-- ---- receivers

gone_progress : (b : Bool) (x : Holding) → (cond b closed x).progress ≡ cond b Closed x.progress
gone_progress true x = refl
gone_progress false x = refl

module _ (u : ℕ) (old new : ReceiverTable) (is : holding_at new.holdings ≡ without_holdings_of u (holding_at old.holdings)) where
  pub receivers_gone : (λ v s. (holding_at new.holdings v s).progress) ≡ without_receivers_of u (λ v s. (holding_at old.holdings v s).progress)
  receivers_gone = (λ i v s. (is i v s).progress) ∙ (λ i v s. gone_progress (is_either u v s) (holding_at old.holdings v s) i)

  pub held_gone : (taken : ℕ → ℕ → List Packet) → HoldTaken taken old → HoldTaken taken new
  held_gone taken held v s =
      subst (λ (h : Holding). Gathers (taken v s) h.progress h.bytes) (λ i. sym is i v s)
      (elim (cases_Bool (is_either u v s)) [
        | inl gone ↦ rw gone tt
        | inr stays ↦ rw stays (held v s)
      ])
