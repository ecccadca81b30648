-- What each step keeps of messages.
use Rattle.std.proofs.Common.{◌≡◌, ℕ, List, ◌∷◌, ◌++◌, sym, subst, Option}
use Rattle.std.specs.List.{AllByRecursion}
use Rattle.j39_network.specs.declared.plan.Plan.{Plan}
use Rattle.j39_world.specs.declared.wired.Wired.{Wired}
use Rattle.j39_world.specs.Transfers.{Begun, Reported, Wire}
use Rattle.j39_world.specs.World.{World, changed_pair}
use Rattle.j39_world.specs.Sound.{reported}
use Rattle.j39_run_laws.proofs.Reports.Orderly.{IsOrderly}
use Rattle.j39_run_laws.proofs.Runs.Changed.{pair_each}
use Rattle.j39_run_laws.proofs.Reports.Exchanges.{Pair, pair_of, Message, message_to, IsAnswering, IsUnacknowledging, Exchange}
use Rattle.j39_run_laws.proofs.Reports.ExchangeSteps.{answers_keep, back_keeps, back_taken_keeps}
use Rattle.j39_run_laws.proofs.Reports.Reporting.{AckedAt}

abbrev pub AreExchanges : World → Type 0
AreExchanges w = (s t : ℕ) → Exchange (message_to (w.sessions s) t) (pair_of w s t)

abbrev pub AreAcknowledged : World → Type 0
AreAcknowledged w = (s t : ℕ) → AckedAt (w.sessions s) t (reported w.reports t s)

pub record TransferInvariant (plan : Plan) (w : World) : Type 0 where
  pub order : IsOrderly plan w.stations w.claims w.sessions
  pub exchanges : AreExchanges w
  pub acknowledged : AreAcknowledged w

-- it speaks of reports of messages that were begun alone
pub reports_beside : (plan : Plan) (w : World) (rs : List Reported) → ((t s : ℕ) → reported rs t s ≡ reported w.reports t s) → TransferInvariant plan w
    → TransferInvariant plan (record w { reports = rs })
reports_beside plan w rs same inv = record {
  order = inv.order;
  exchanges = λ s t. subst (λ (xs : List Begun). Exchange (message_to (w.sessions s) t) (record (pair_of w s t) { reports = xs })) (sym (same t s))
      (inv.exchanges s t);
  acknowledged = λ s t. subst (λ (xs : List Begun). AckedAt (w.sessions s) t xs) (sym (same t s)) (inv.acknowledged s t);
}

-- ---- both lists of a pair

-- some pairs have what holds of an exchange, with the first wire to the receiver and the second back
abbrev pub ExchangesBy : (ℕ → ℕ → Option Message) → (ℕ → ℕ → Pair) → (ℕ → ℕ → Type 0) → Wire → Wire → Type 0
ExchangesBy message base Domain wire back = (s t : ℕ) → Domain s t → Exchange (message s t) (record (base s t) { wire = wire s t; back = back t s })

module _ (message : ℕ → ℕ → Option Message) (base : ℕ → ℕ → Pair) (Domain : ℕ → ℕ → Type 0) (wire : Wire) (u v : ℕ) where
  -- what u sent v is taken or lost, as u's receiver sees it
  pub back_taken : (item : Wired) (rest : List Wired) → wire u v ≡ item ∷ rest → (front : Wire) → ExchangesBy message base Domain front wire
      → ExchangesBy message base Domain front (changed_pair wire u v rest)
  back_taken item rest is front old s t =
      pair_each (λ t' s' (list : List Wired). Domain s' t' → Exchange (message s' t') (record (base s' t') { wire = front s' t'; back = list })) wire u v rest
      (λ d. back_taken_keeps (message v u) (record (base v u) { wire = front v u; back = wire u v }) item rest is (old v u d))
      (λ t' s' d. old s' t' d) t s

  -- v sends u answers
  pub answered : (items : List Wired) → AllByRecursion IsAnswering items → (Domain u v → AllByRecursion IsUnacknowledging items)
      → ExchangesBy message base Domain wire wire
      → ExchangesBy message base Domain (changed_pair wire v u (wire v u ++ items)) (changed_pair wire v u (wire v u ++ items))
  answered items answering unacknowledging old s t =
      let sent : Wire = changed_pair wire v u (wire v u ++ items) in
      let forth : ExchangesBy message base Domain sent wire =
      pair_each (λ s' t' (list : List Wired). Domain s' t' → Exchange (message s' t') (record (base s' t') { wire = list; back = wire t' s' })) wire v u
      (wire v u ++ items)
      (λ d. answers_keep (message v u) (record (base v u) { wire = wire v u; back = wire u v }) items answering (old v u d))
      old in
      pair_each (λ t' s' (list : List Wired). Domain s' t' → Exchange (message s' t') (record (base s' t') { wire = sent s' t'; back = list })) wire v u
      (wire v u ++ items)
      (λ d. back_keeps (message u v) (record (base u v) { wire = sent u v; back = wire v u }) items (unacknowledging d) (forth u v d))
      (λ t' s' d. forth s' t' d) t s
