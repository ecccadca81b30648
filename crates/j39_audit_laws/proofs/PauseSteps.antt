-- What a frame does to a flow of which a message came, and none since: it stays so, or the flow is reported as silent.
use Rattle.std.proofs.Common.{◌≡◌, ◌≢◌, ◌⊎◌, ℕ, zero, suc, ◌+◌, ◌-◌, ◌<◌, ◌≤◌, ◌==◌, ◌||◌, ◌++◌, ◌∷◌, [], List, Bool, true, false, cond, length}
use Rattle.std.proofs.Common.{inl, inr, refl, sym, ap, ◌∙◌, subst, arith, Option, Some, None}
use Rattle.std.specs.Prelude.{nat_le, nat_lt, slice_index_or}
use Rattle.std.specs.List.{slice_get}
use Rattle.std.specs.Option.{option_and_then, option_map_or}
use Rattle.std.proofs.lemmas.Bool.{cases_Bool, cases_eq, cases_lt, cond-false, cond-true, eq-eqb, lt-ltb, ne_eqb, or_parts, true≢false}
use Rattle.std.proofs.lemmas.Option.{slice_get_within}
use Rattle.j39_network.specs.declared.plan.flow_plan.FlowPlan.{FlowPlan}
use Rattle.j39_network.specs.declared.plan.timing.Timing.{Timing}
use Rattle.j39_network.specs.declared.plan.to.To.{To}
use Rattle.j39_network.specs.declared.plan.to.To.TheVariants.{All as ToAll, One as ToOne}
use Rattle.j39_audit.specs.Counting.{Noted}
use Rattle.j39_audit.specs.MessageStreams.{flow_pause, stream_mark}
use Rattle.j39_audit.specs.Moments.{Moments, all_pauses_ended, ends_with, last_of_flow, listed_pauses_ended, lower_bound, pause_ended, pauses_dropped}
use Rattle.j39_audit.specs.Moments.{pauses_ended, silence_behind, silent_by, silent_noted, with_ending}
use Rattle.j39_audit.specs.Pauses.{earlier_of, goes_to_it, is_with_unit, last_of_ends}
use Rattle.j39_audit.specs.Settings.{Settings}
use Rattle.j39_audit.specs.Silence.{lag}
use Rattle.j39_audit.specs.declared.mark.Word.TheVariants.{SilentFlow}
use Rattle.j39_audit.specs.declared.pauses.Ending.{Ending}
use Rattle.j39_audit.specs.declared.pauses.Ending.TheVariants.{Nothing, OfUnit, OfAll}
use Rattle.j39_audit.specs.declared.pauses.LastFrame.{LastFrame}
use Rattle.j39_audit.specs.declared.pauses.Newest.{Newest}
use Rattle.j39_audit.specs.declared.streams.FlowPause.{FlowPause}
use Rattle.j39_audit_laws.specs.SilentFlows.{IsEndOfFlow}
use Rattle.j39_audit_laws.proofs.Hits.{In, in_left, in_right}

-- ---- what was noted stays noted

abbrev pub Keeps : Moments → Moments → Type 0
Keeps a b = (x : Noted) → In x a.untimely → In x b.untimely

ended_keeps : (s : Settings) (t : Timing) (k : ℕ) (m : Moments) → Keeps m (pause_ended s t k m)
ended_keeps s t k m x is = in_left x m.untimely (silent_noted k (m.newest k) (silence_behind s t k (m.newest k) m.last)) is

pauses_keep : (s : Settings) (t : Timing) (unit : Option ℕ) (c : ℕ) (m : Moments) → Keeps m (pauses_ended s t unit c m)
unfolding pauses_ended
pauses_keep s t unit zero m x is = is
pauses_keep s t unit (suc c) m x is =
    let inner : Moments = pauses_ended s t unit c m in
    let before = pauses_keep s t unit c m x is in
    elim (ends_with s unit c) as (λ b. In x (cond b (pause_ended s t c inner) inner).untimely) [
      | true ↦ ended_keeps s t c inner x before
      | false ↦ before
    ]

pub listed_keep : (s : Settings) (t : Timing) (ns : List ℕ) (c : ℕ) (m : Moments) → Keeps m (listed_pauses_ended s t ns c m)
unfolding listed_pauses_ended
listed_keep s t ns zero m x is = is
listed_keep s t ns (suc c) m x is = ended_keeps s t (slice_index_or ns c 0) (listed_pauses_ended s t ns c m) x (listed_keep s t ns c m x is)

pub all_keep : (s : Settings) (m : Moments) → Keeps m (all_pauses_ended s m)
unfolding all_pauses_ended
all_keep s m x is =
    elim (s.plan.timing) as (λ o. In x (option_map_or (λ (t : Timing).
    pauses_dropped (pauses_ended s t None (length s.plan.flows.items) m)) o m).untimely) [
      | None ↦ is
      | Some t ↦ pauses_keep s t None (length s.plan.flows.items) m x is
    ]

pub ending_keeps : (s : Settings) (t : Timing) (e : Ending) (m : Moments) → Keeps m (with_ending s t e m)
ending_keeps s t Nothing m x is = is
ending_keeps s t (OfUnit u) m x is = pauses_keep s t (Some u) (length s.plan.flows.items) m x is
ending_keeps s t OfAll m x is = all_keep s m x is

-- ---- a flow, and a message of it at a line

-- the pause of a flow, and by when at the latest the newest message had its moment, at its line
pub record Watched (s : Settings) : Type 0 where
  pub timing : Timing
  pub timed : s.plan.timing ≡ Some timing
  pub place : ℕ
  pub flow : FlowPlan
  pub flow_is : slice_get s.plan.flows.items place ≡ Some flow
  pub pause : FlowPause
  pub pause_is : flow_pause s timing place ≡ Some pause
  pub slack : ℕ
  pub slack_is : pause.slack ≡ Some slack
  pub upper : ℕ
  pub first : ℕ

module _ (s : Settings) (w : Watched s) where
  abbrev t : Timing
  t = w.timing

  abbrev n : ℕ
  n = w.place

  abbrev flow : FlowPlan
  flow = w.flow

  abbrev p : FlowPause
  p = w.pause

  abbrev pub bound : ℕ
  bound = w.upper + p.pause + w.slack

  -- a frame of a unit that came so late that another message of the flow should have come
  pub record IsLate (o : Option LastFrame) : Type 0 where
    pub frame : LastFrame
    pub frame_is : o ≡ Some frame
    pub behind : w.first < frame.line
    pub since : ℕ
    pub since_is : frame.since ≡ Some since
    pub late : bound < since

  -- that message is the newest one
  pub record IsOpen (m : Moments) : Type 0 where
    pub newest : Newest
    pub newest_is : m.newest n ≡ Some newest
    pub moment : newest.moment ≤ w.upper
    pub line : newest.line ≡ w.first

  abbrev pub AreShown : Moments → Type 0
  AreShown m = (u : ℕ) → IsEndOfFlow flow u → IsLate (m.last u)

  -- the flow was reported as silent
  pub record IsStated (m : Moments) : Type 0 where
    pub note : Noted
    pub noted : In note m.untimely
    pub mark_is : note.mark ≡ stream_mark SilentFlow n

  pub reported_on : (a b : Moments) → Keeps a b → IsStated a → IsStated b
  reported_on a b keeps stated = record { note = stated.note; noted = keeps stated.note stated.noted; mark_is = stated.mark_is }

  -- nothing of it changed
  pub record IsSame (a b : Moments) : Type 0 where
    pub newest : b.newest n ≡ a.newest n
    pub last : (u : ℕ) → IsEndOfFlow flow u → b.last u ≡ a.last u
    pub since : b.since ≡ a.since

  pub same_open : (a b : Moments) → IsSame a b → IsOpen a → IsOpen b
  same_open a b same is = record { newest = is.newest; newest_is = same.newest ∙ is.newest_is; moment = is.moment; line = is.line }

  pub same_shown : (a b : Moments) → IsSame a b → AreShown a → AreShown b
  same_shown a b same shown u end = subst IsLate (sym (same.last u end)) (shown u end)

  pub same_more : (a b c : Moments) → IsSame a b → IsSame b c → IsSame a c
  same_more a b c one other = record {
    newest = other.newest ∙ one.newest;
    last = λ u end. other.last u end ∙ one.last u end;
    since = other.since ∙ one.since;
  }

  same_itself : (m : Moments) → IsSame m m
  same_itself m = record { newest = refl; last = λ u end. refl; since = refl }

  -- ---- a look

  earlier_late : (a b : Option LastFrame) → IsLate a → IsLate b → IsLate (earlier_of a b)
  earlier_late a b one other =
      let x : LastFrame = one.frame in
      let y : LastFrame = other.frame in
      let both : earlier_of a b ≡ Some (cond (nat_le x.line y.line) x y) =
      ap (λ (o : Option LastFrame). earlier_of o b) one.frame_is ∙ ap (λ (o : Option LastFrame). earlier_of (Some x) o) other.frame_is in
      subst IsLate (sym both) (elim (nat_le x.line y.line) as (λ c. IsLate (Some (cond c x y))) [
        | true ↦ record { frame = x; frame_is = refl; behind = one.behind; since = one.since; since_is = one.since_is; late = one.late }
        | false ↦ record { frame = y; frame_is = refl; behind = other.behind; since = other.since; since_is = other.since_is; late = other.late }
      ])

  late_ends : (last : ℕ → Option LastFrame) (to : To) → IsLate (last flow.sender) → ((v : ℕ) → to ≡ ToOne v → IsLate (last v))
      → IsLate (last_of_ends last flow.sender to)
  late_ends last ToAll sender receiver = sender
  late_ends last (ToOne v) sender receiver = earlier_late (last flow.sender) (last v) sender (receiver v refl)

  -- a bound that is so late shows that it is silent
  lags : (moment since : ℕ) → moment ≤ w.upper → bound < since
      → (by : ℕ) × (lag p.pause (Some moment) (lower_bound p.slack (Some since)) ≡ Some by)
  unfolding lag
  lags moment since least late =
      let lower : lower_bound p.slack (Some since) ≡ Some (since - w.slack) = ap (λ (o : Option ℕ). lower_bound o (Some since)) w.slack_is in (
        since - w.slack - (moment + p.pause),
        ap (lag p.pause (Some moment)) lower
            ∙ cond-true (nat_lt (moment + p.pause) (since - w.slack)) (Some (since - w.slack - (moment + p.pause))) None
            (lt-ltb (moment + p.pause) (since - w.slack) (omega (arith, least, late))),
      )

  abbrev Lags : ℕ → Option ℕ → Type 0
  Lags moment since = (by : ℕ) × (lag p.pause (Some moment) (lower_bound p.slack since) ≡ Some by)

  pub lags_since : (moment : ℕ) (since : Option ℕ) (x : ℕ) → since ≡ Some x → moment ≤ w.upper → bound < x → Lags moment since
  lags_since moment since x is least late = subst (Lags moment) (sym is) (lags moment x least late)

  pub stated_by : (m end : Moments) (one : Newest) (by : Option ℕ) (x : ℕ) → end.untimely ≡ m.untimely ++ silent_noted n (Some one) by → by ≡ Some x
      → IsStated end
  stated_by m end one by x untimely is =
      let note : Noted = record { mark = stream_mark SilentFlow n; line = one.line; detail = x } in
      record {
        note = note;
        noted = subst (In note) (sym (untimely ∙ ap (λ (o : Option ℕ). m.untimely ++ silent_noted n (Some one) o) is))
            (in_right note m.untimely (note ∷ []) (inl refl));
        mark_is = refl;
      }

  looked : (m : Moments) → IsOpen m → AreShown m → IsStated (pause_ended s t n m)
  looked m is shown =
      let of_ends : last_of_flow s m.last n ≡ last_of_ends m.last flow.sender flow.to =
      ap (λ (o : Option FlowPlan). option_and_then (λ (f : FlowPlan). last_of_ends m.last f.sender f.to) o) w.flow_is in
      let late : IsLate (last_of_flow s m.last n) =
      subst IsLate (sym of_ends) (late_ends m.last flow.to (shown flow.sender (inl refl)) (λ v to. shown v (inr to))) in
      let lagging = lags_since is.newest.moment late.frame.since late.since late.since_is is.moment late.late in
      let line = is.line in
      let less = late.behind in
      let behind : is.newest.line < late.frame.line = omega (arith, line, less) in
      let by : silence_behind s t n (m.newest n) m.last ≡ Some lagging.0 =
      ap (λ (o : Option Newest). silence_behind s t n o m.last) is.newest_is
      ∙ ap (λ (o : Option FlowPause). option_and_then (λ (x : FlowPause). silent_by x is.newest (last_of_flow s m.last n)) o) w.pause_is
      ∙ ap (silent_by p is.newest) late.frame_is
      ∙ cond-true (nat_lt is.newest.line late.frame.line) (lag p.pause (Some is.newest.moment) (lower_bound p.slack late.frame.since)) None
      (lt-ltb is.newest.line late.frame.line behind) ∙ lagging.1 in
      stated_by m (pause_ended s t n m) is.newest (silence_behind s t n (m.newest n) m.last) lagging.0
      (ap (λ (o : Option Newest). m.untimely ++ silent_noted n o (silence_behind s t n (m.newest n) m.last)) is.newest_is) by

  -- ---- pauses that end

  other_ended : (k : ℕ) (m : Moments) → k ≢ n → IsSame m (pause_ended s t k m)
  other_ended k m other = record {
    newest = cond-false (k == n) None (m.newest n) (ne_eqb k n other);
    last = λ u end. refl;
    since = refl;
  }

  module _ (unit : Option ℕ) (m : Moments) where
    others_ended : (c : ℕ) → (n < c → ends_with s unit n ≡ true → ⊥) → IsSame m (pauses_ended s t unit c m)
    unfolding pauses_ended
    others_ended zero none = same_itself m
    others_ended (suc c) none =
        let inner : Moments = pauses_ended s t unit c m in
        let before : IsSame m inner = others_ended c (λ less. none (omega (arith, less))) in
        elim (cases_Bool (ends_with s unit c)) [
          | inl ends ↦ subst (IsSame m) (sym (cond-true (ends_with s unit c) (pause_ended s t c inner) inner ends))
              (same_more m inner (pause_ended s t c inner) before (other_ended c inner
              (λ same. none (omega (arith, same)) (subst (λ (k : ℕ). ends_with s unit k ≡ true) same ends))))
          | inr not ↦ subst (IsSame m) (sym (cond-false (ends_with s unit c) (pause_ended s t c inner) inner not)) before
        ]

    it_ended : (c : ℕ) → IsOpen m → AreShown m → n < c → ends_with s unit n ≡ true → IsStated (pauses_ended s t unit c m)
    unfolding pauses_ended
    it_ended zero is shown less ends = absurd (omega (arith, less))
    it_ended (suc c) is shown less ends =
        let inner : Moments = pauses_ended s t unit c m in
        elim (cases_lt n c) [
          | inl below ↦
              reported_on inner (pauses_ended s t unit (suc c) m) (one_keeps c) (it_ended c is shown below ends)
          | inr above ↦
              let same : c ≡ n = omega (arith, less, above) in
              let before : IsSame m inner = others_ended c (λ inside. absurd (omega (arith, inside, above))) in
              let stated : IsStated (pause_ended s t n inner) = looked inner (same_open m inner before is) (same_shown m inner before shown) in
              subst IsStated (sym (cond-true (ends_with s unit c) (pause_ended s t c inner) inner (ap (ends_with s unit) same ∙ ends)))
              (subst (λ (k : ℕ). IsStated (pause_ended s t k inner)) (sym same) stated)
        ]
      where
        one_keeps : (c : ℕ) → Keeps (pauses_ended s t unit c m) (cond (ends_with s unit c) (pause_ended s t c (pauses_ended s t unit c m))
            (pauses_ended s t unit c m))
        one_keeps c x is = elim (ends_with s unit c) as (λ b. In x
            (cond b (pause_ended s t c (pauses_ended s t unit c m)) (pauses_ended s t unit c m)).untimely) [
              | true ↦ ended_keeps s t c (pauses_ended s t unit c m) x is
              | false ↦ is
            ]

  inside : n < length s.plan.flows.items
  inside = slice_get_within s.plan.flows.items n flow w.flow_is

  pub all_stated : (m : Moments) → IsOpen m → AreShown m → IsStated (all_pauses_ended s m)
  unfolding all_pauses_ended
  all_stated m is shown =
      let c : ℕ = length s.plan.flows.items in
      let stated = it_ended None m c is shown inside refl in
      subst (λ (o : Option Timing). IsStated (option_map_or (λ (x : Timing). pauses_dropped (pauses_ended s x None c m)) o m)) (sym w.timed)
      (record { note = stated.note; noted = stated.noted; mark_is = stated.mark_is })

  -- ---- of a list of flows

  abbrev pub AreOthers : List ℕ → ℕ → Type 0
  AreOthers ns c = (i : ℕ) → i < c → slice_index_or ns i 0 ≢ n

  module _ (ns : List ℕ) (m : Moments) (is : IsOpen m) (shown : (i : ℕ) → i < length ns → slice_index_or ns i 0 ≡ n → AreShown m) where
    one_more : (c : ℕ) → AreOthers ns c → slice_index_or ns c 0 ≢ n → AreOthers ns (suc c)
    one_more c others other i less same = elim (cases_lt i c) [
      | inl below ↦ others i below same
      | inr above ↦
          let at : i ≡ c = omega (arith, less, above) in
          other (subst (λ (k : ℕ). slice_index_or ns k 0 ≡ n) at same)
    ]

    pub listed : (c : ℕ) → c ≤ length ns → (IsSame m (listed_pauses_ended s t ns c m) × AreOthers ns c) ⊎ IsStated (listed_pauses_ended s t ns c m)
    unfolding listed_pauses_ended
    listed zero least = inl (same_itself m, λ i less. absurd (omega (arith, less)))
    listed (suc c) least =
        let inner : Moments = listed_pauses_ended s t ns c m in
        let k : ℕ = slice_index_or ns c 0 in
        elim (listed c (omega (arith, least))) [
          | inr stated ↦ inr (reported_on inner (pause_ended s t k inner) (ended_keeps s t k inner) stated)
          | inl before ↦ elim (cases_eq k n) [
            | inl same ↦
                let stated : IsStated (pause_ended s t n inner) =
                looked inner (same_open m inner before.0 is) (same_shown m inner before.0 (shown c (omega (arith, least)) same)) in
                inr (subst (λ (x : ℕ). IsStated (pause_ended s t x inner)) (sym same) stated)
            | inr other ↦
                inl (same_more m inner (pause_ended s t k inner) before.0 (other_ended k inner other), one_more c before.1 other)
          ]
        ]

  -- ---- at a claim

  -- it ends the pause
  abbrev pub EndsIt : Ending → Type 0
  EndsIt e = (e ≡ OfAll) ⊎ ((u : ℕ) × (e ≡ OfUnit u) × (is_with_unit s u n ≡ true))

  not_with : (u v : ℕ) → is_with_unit s u n ≡ false → IsEndOfFlow flow v → u ≢ v
  unfolding is_with_unit
  not_with u v none end same =
      let test : Bool = flow.sender == u || goes_to_it u flow.to in
      let is : test ≡ false =
      sym (ap (λ (o : Option FlowPlan). option_map_or (λ (f : FlowPlan). f.sender == u || goes_to_it u f.to) o false) w.flow_is) ∙ none in
      let parts = or_parts (flow.sender == u) (goes_to_it u flow.to) is in
      elim end [
        | inl sender ↦ true≢false (sym (eq-eqb flow.sender u (sender ∙ sym same)) ∙ parts.0)
        | inr to ↦ true≢false (sym (ap (goes_to_it u) to ∙ eq-eqb v u (sym same)) ∙ parts.1)
      ]

  pub claimed : (e : Ending) (m : Moments) → IsOpen m → (EndsIt e → AreShown m) → (IsSame m (with_ending s t e m) × (¬ EndsIt e))
      ⊎ IsStated (with_ending s t e m)
  claimed Nothing m is shown = inl (same_itself m, λ ends. elim ends [ inl e ↦ cc e | inr (u, e, with_it) ↦ cc e ])
  claimed OfAll m is shown = inr (all_stated m is (shown (inl refl)))
  claimed (OfUnit u) m is shown =
      let c : ℕ = length s.plan.flows.items in
      elim (cases_Bool (is_with_unit s u n)) [
        | inl with_it ↦
            let stated = it_ended (Some u) m c is (shown (inr (u, refl, with_it))) inside with_it in
            inr (record { note = stated.note; noted = stated.noted; mark_is = stated.mark_is })
        | inr other ↦
            let same = others_ended (Some u) m c (λ less with_it. true≢false (sym with_it ∙ other)) in
            let ended : Moments = pauses_ended s t (Some u) c m in
            inl (
              record {
                newest = same.newest;
                last = λ v end. cond-false (u == v) None (ended.last v) (ne_eqb u v (not_with u v other end)) ∙ same.last v end;
                since = same.since;
              },
              λ ends. elim ends [
                | inl e ↦ cc e
                | inr (v, e, with_it) ↦
                    let at : u ≡ v = cc e in
                    true≢false (sym (subst (λ (x : ℕ). is_with_unit s x n ≡ true) (sym at) with_it) ∙ other)
              ],
            )
      ]
