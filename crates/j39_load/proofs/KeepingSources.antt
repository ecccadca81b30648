-- Of which source two planned frames are that stand at one place among all that a plan asks for.
use Rattle.std.proofs.Common.{◌≡◌, ℕ, ◌+◌, ◌*◌, ◌<◌, Bool, List, length, Some}
use Rattle.std.proofs.Common.{refl, sym, ap, ◌∙◌, subst, arith}
use Rattle.std.proofs.lemmas.Option.{same_Some, slice_get_within}
use Rattle.std.specs.List.{slice_get}
use Rattle.j39_network.specs.declared.plan.Plan.{Plan}
use Rattle.j39_network.specs.declared.plan.flow_plan.FlowPlan.{FlowPlan}
use Rattle.j39_network.specs.declared.plan.group_plan.GroupPlan.{GroupPlan}
use Rattle.j39_network.specs.declared.plan.timing.Timing.{Timing}
use Rattle.j39_network.specs.declared.plan.unit_plan.UnitPlan.{UnitPlan}
use Rattle.j39_load.specs.KeepsPlan.{packets_at, source_place, source_turn, turn_of_part, units_stated}
use Rattle.j39_load.specs.SentFrames.{Held, IsFrameOf, IsPart, IsSessionFrame, IsSingleFrame, Part}
use Rattle.j39_load.specs.SentFrames.{IsFirstFrame, Source}
use Rattle.j39_load.specs.SentFrames.{Single, First, InSession, Asking}
use Rattle.j39_load.proofs.PlacedFrames.{unit_stated}
use Rattle.j39_load.specs.KeepsBroadcasts.{IsMessageToAll}
use Rattle.j39_load.specs.SentFrames.{Announcing, Broadcasts, Carrying}
use Rattle.j39_load.proofs.SessionParts.{one_part}
use Rattle.j39_timing.specs.TimedFrames.{Schedule}
use Rattle.j39_tp.specs.Chunks.{packets_of}

module _ (plan : Plan) (timing : Timing) (stays : UnitPlan → Bool) where
  abbrev units : List UnitPlan
  units = plan.units.items

  -- what isn't a long message to all comes by its own pace
  abbrev pub HasPace : Source → Type 0
  HasPace (Single f) = Unit {0}
  HasPace (First f) = Unit {0}
  HasPace (InSession f part) = Unit {0}
  HasPace (Asking r) = Unit {0}
  HasPace (Announcing u m) = ⊥
  HasPace (Carrying u m k) = ⊥

  module _ (s : Schedule) (held : Held) (b : Broadcasts) (messages : (u m : ℕ) → m < b.count u → IsMessageToAll plan timing b u m) where
    -- a flow has short messages alone or long ones
    short_or_long : (f release other p q : ℕ) (part : Part) → IsSingleFrame plan timing s held f release p → IsSessionFrame plan timing s held f part other q
        → ⊥
    short_or_long f release other p q part one two =
        let flow : one.flow ≡ two.flow = same_Some _ _ (sym one.its ∙ two.its) in
        let group : one.group ≡ two.group =
        same_Some _ _ (sym one.of ∙ (ap (λ (g : FlowPlan). slice_get plan.groups.items g.group) flow ∙ two.of)) in
        let most : one.group.most ≡ two.group.most = ap (λ (g : GroupPlan). g.most) group in
        let short = one.short in
        let long = two.long in
        omega (arith, most, short, long)

    -- flows stand before requests
    flow_first : (f : ℕ) (flow : FlowPlan) (r n : ℕ) → slice_get plan.flows.items f ≡ Some flow → f ≡ 2 * length plan.flows.items + (n + r) → ⊥
    flow_first f flow r n its same = let below = slice_get_within plan.flows.items f flow its in omega (arith, same, below)

    single_first : (f r release p : ℕ) → IsSingleFrame plan timing s held f release p → f ≡ source_place plan (Asking r) → ⊥
    single_first f r release p one same = flow_first f one.flow r (2 * units_stated plan.flows.items units) one.its same

    session_first : (f r : ℕ) (part : Part) (release p : ℕ) → IsSessionFrame plan timing s held f part release p → f ≡ source_place plan (Asking r) → ⊥
    session_first f r part release p one same = flow_first f one.flow r (2 * units_stated plan.flows.items units) one.its same

    -- between the two stand single frames of flows with long messages
    not_behind : (g f : ℕ) (flow : FlowPlan) → slice_get plan.flows.items g ≡ Some flow → g ≡ source_place plan (First f) → ⊥
    not_behind g f flow its same = let below = slice_get_within plan.flows.items g flow its in omega (arith, same, below)

    first_before : (f m release p : ℕ) → IsFirstFrame plan timing s held f release p → source_place plan (First f) ≡ 2 * length plan.flows.items + m → ⊥
    first_before f m release p one same = let below = slice_get_within plan.flows.items f one.flow one.its in omega (arith, same, below)

    parts_alike : (f g : ℕ) (a b : Part) (release other p q : ℕ) → f ≡ g → IsSessionFrame plan timing s held f a release p
        → IsSessionFrame plan timing s held g b other q → source_turn plan (InSession f a) ≡ source_turn plan (InSession g b) → a ≡ b
    parts_alike f g a b release other p q place one two turn =
        let flow : one.flow ≡ two.flow = same_Some _ _ (sym one.its ∙ (ap (slice_get plan.flows.items) place ∙ two.its)) in
        let group : one.group ≡ two.group =
        same_Some _ _ (sym one.of ∙ (ap (λ (h : FlowPlan). slice_get plan.groups.items h.group) flow ∙ two.of)) in
        let most : two.group.most ≡ one.group.most = sym (ap (λ (h : GroupPlan). h.most) group) in
        let first : packets_at plan f ≡ packets_of one.group.most = rw (one.its, one.of) refl in
        let second : packets_at plan g ≡ packets_of one.group.most = ap (packets_at plan) (sym place) ∙ first in
        one_part one.group.most one.unit.window two.unit.window a b one.is_part (subst (λ (n : ℕ). IsPart n two.unit.window b) most two.is_part)
        (ap (λ (n : ℕ). turn_of_part n a) (sym first) ∙ (turn ∙ ap (λ (n : ℕ). turn_of_part n b) second))

    -- packets stand behind flows
    pub of_packets : (a : Source) (u m k release p : ℕ) → IsFrameOf plan timing s held b a release p → m < b.count u → source_place plan a ≡ source_place plan
        (Carrying u m k)
        → (n : ℕ) × (j : ℕ) × (a ≡ Carrying u n j)
    of_packets (Single f) u m k release p one below place = absurd (flow_first f one.flow 0 u one.its (place ∙ omega arith))
    of_packets (First f) u m k release p one below place = absurd (first_before f u release p one place)
    of_packets (InSession f part) u m k release p one below place = absurd (flow_first f one.flow 0 u one.its (place ∙ omega arith))
    of_packets (Asking r) u m k release p one below place = absurd
        (let stated = unit_stated plan timing stays b u m (messages u m below) in omega (arith, place, stated))
    of_packets (Announcing v n) u m k release p one below place = absurd
        (let stated = unit_stated plan timing stays b u m (messages u m below) in omega (arith, place, stated))
    of_packets (Carrying v n j) u m k release p one below place = (n, j, ap (λ (x : ℕ). Carrying x n j) (omega (arith, place)))

    -- and announcements behind them
    pub of_announcements : (a : Source) (u m release p : ℕ) → IsFrameOf plan timing s held b a release p → m < b.count u
        → source_place plan a ≡ source_place plan (Announcing u m) → (n : ℕ) × (a ≡ Announcing u n)
    of_announcements (Single f) u m release p one below place =
        absurd (flow_first f one.flow (units_stated plan.flows.items units) u one.its (place ∙ omega arith))
    of_announcements (First f) u m release p one below place = absurd (first_before f (units_stated plan.flows.items units + u) release p one place)
    of_announcements (InSession f part) u m release p one below place =
        absurd (flow_first f one.flow (units_stated plan.flows.items units) u one.its (place ∙ omega arith))
    of_announcements (Asking r) u m release p one below place = absurd
        (let stated = unit_stated plan timing stays b u m (messages u m below) in omega (arith, place, stated))
    of_announcements (Announcing v n) u m release p one below place = (n, ap (λ (x : ℕ). Announcing x n) (omega (arith, place)))
    of_announcements (Carrying v n j) u m release p one below place =
        absurd (let stated = unit_stated plan timing stays b v n (messages v n one.0.known) in omega (arith, place, stated))

    never_announced : (a : Source) (u m release p : ℕ) → ((n : ℕ) → a ≡ Announcing u n → ⊥) → IsFrameOf plan timing s held b a release p → m < b.count u
        → source_place plan a ≡ source_place plan (Announcing u m) → ⊥
    never_announced a u m release p never one below place = let (n, is) = of_announcements a u m release p one below place in never n is

    never_packet : (a : Source) (u m k release p : ℕ) → ((n j : ℕ) → a ≡ Carrying u n j → ⊥) → IsFrameOf plan timing s held b a release p → m < b.count u
        → source_place plan a ≡ source_place plan (Carrying u m k) → ⊥
    never_packet a u m k release p never one below place = let (n, j, is) = of_packets a u m k release p one below place in never n j is

    -- two frames at one place with one turn are of one source, but those of long messages to all
    pub one_source : (x y : Source) (release other p q : ℕ) → HasPace x → IsFrameOf plan timing s held b x release p → IsFrameOf plan timing s held b y other q
        → source_place plan x ≡ source_place plan y → source_turn plan x ≡ source_turn plan y → x ≡ y
    one_source (Single f) (Single g) release other p q paced one two place turn = ap Single place
    one_source (Single f) (InSession g part) release other p q paced one two place turn =
        absurd (short_or_long f release other p q part one (subst (λ (h : ℕ). IsSessionFrame plan timing s held h part other q) (sym place) two))
    one_source (Single f) (First g) release other p q paced one two place turn = absurd (not_behind f g one.flow one.its place)
    one_source (First f) (Single g) release other p q paced one two place turn = absurd (not_behind g f two.flow two.its (sym place))
    one_source (First f) (First g) release other p q paced one two place turn = ap First (omega (arith, place))
    one_source (First f) (InSession g part) release other p q paced one two place turn = absurd (not_behind g f two.flow two.its (sym place))
    one_source (First f) (Asking r) release other p q paced one two place turn = absurd
        (first_before f (2 * units_stated plan.flows.items units + r) release p one place)
    one_source (First f) (Announcing u m) release other p q paced one two place turn = absurd
        (never_announced (First f) u m release p (λ n is. cc) one two.known place)
    one_source (First f) (Carrying u m k) release other p q paced one two place turn = absurd
        (never_packet (First f) u m k release p (λ n j is. cc) one two.0.known place)
    one_source (InSession f part) (First g) release other p q paced one two place turn = absurd (not_behind f g one.flow one.its place)
    one_source (Asking r) (First g) release other p q paced one two place turn = absurd
        (first_before g (2 * units_stated plan.flows.items units + r) other q two (sym place))
    one_source (Single f) (Asking r) release other p q paced one two place turn = absurd (single_first f r release p one place)
    one_source (InSession f part) (Single g) release other p q paced one two place turn =
        absurd (short_or_long g other release q p part two (subst (λ (h : ℕ). IsSessionFrame plan timing s held h part release p) place one))
    one_source (InSession f a) (InSession g b) release other p q paced one two place turn =
        ap (λ (h : ℕ). InSession h a) place ∙ ap (InSession g) (parts_alike f g a b release other p q place one two turn)
    one_source (InSession f part) (Asking r) release other p q paced one two place turn = absurd (session_first f r part release p one place)
    one_source (Asking r) (Single g) release other p q paced one two place turn = absurd (single_first g r other q two (sym place))
    one_source (Asking r) (InSession g part) release other p q paced one two place turn = absurd (session_first g r part other q two (sym place))
    one_source (Asking r) (Asking k) release other p q paced one two place turn = ap Asking (omega (arith, place))
    one_source (Announcing u m) y release other p q paced one two place turn = absurd paced
    one_source (Carrying u m k) y release other p q paced one two place turn = absurd paced
    one_source (Single f) (Announcing u m) release other p q paced one two place turn = absurd
        (never_announced (Single f) u m release p (λ n is. cc) one two.known place)
    one_source (Single f) (Carrying u m k) release other p q paced one two place turn = absurd
        (never_packet (Single f) u m k release p (λ n j is. cc) one two.0.known place)
    one_source (InSession f part) (Announcing u m) release other p q paced one two place turn =
        absurd (never_announced (InSession f part) u m release p (λ n is. cc) one two.known place)
    one_source (InSession f part) (Carrying u m k) release other p q paced one two place turn =
        absurd (never_packet (InSession f part) u m k release p (λ n j is. cc) one two.0.known place)
    one_source (Asking r) (Announcing u m) release other p q paced one two place turn = absurd
        (never_announced (Asking r) u m release p (λ n is. cc) one two.known place)
    one_source (Asking r) (Carrying u m k) release other p q paced one two place turn = absurd
        (never_packet (Asking r) u m k release p (λ n j is. cc) one two.0.known place)
