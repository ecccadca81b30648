-- What is found has its line among those that are written.
use Rattle.std.proofs.Common.{◌≡◌, ℕ, zero, suc, ◌<◌, [], ◌∷◌, List, Bool, length, if◌then◌else◌}
use Rattle.std.proofs.Common.{inl, inr, refl, sym, ap, ◌∙◌, subst, arith, Option, Some, None}
use Rattle.std.specs.List.{list_any, position}
use Rattle.std.specs.Option.{option_map_or, option_or}
use Rattle.std.proofs.lemmas.Bool.{cases_Bool, cond-false, cond-true, cond_both}
use Rattle.std.proofs.lemmas.List.Quantifiers.{position-Some}
use Rattle.std.proofs.lemmas.Option.{none-some, same_Some}
use Rattle.j39_id.specs.FrameMeaning.{name_in}
use Rattle.j39_id.specs.declared.frame.Frame.{Frame}
use Rattle.j39_network.specs.declared.plan.Plan.{Plan}
use Rattle.j39_network.specs.declared.plan.flow_plan.FlowPlan.{FlowPlan}
use Rattle.j39_run_laws.proofs.Addresses.CleanEnds.{flow_at}
use Rattle.j39_follow.specs.Who.{numbered_unit, unit_of_kind, unit_of_name}
use Rattle.j39_tp.specs.declared.packet.Packet.{Packet}
use Rattle.j39_audit.specs.AuditText.{groups_named, subjects}
use Rattle.j39_audit.specs.Below.{first_below}
use Rattle.j39_audit.specs.Claiming.{HeardClaims, Knowledge, first_there, has_strangers, is_another_there, is_strange, knowledge, may_be, sender_at}
use Rattle.j39_audit.specs.Claiming.{sure_sender}
use Rattle.j39_audit.specs.SentMessages.{SentMessage, deviates, deviation, first_group, flow_group, is_fit, is_group, is_of, with_fit_flow, without_flow}
use Rattle.j39_audit.specs.Settings.{Settings, units_planned}
use Rattle.j39_audit.specs.declared.mark.Mark.{Mark}
use Rattle.j39_audit.specs.declared.mark.Word.{Word}
use Rattle.j39_audit.specs.declared.mark.Word.TheVariants.{Short, Stranger, Nobody as NobodyThere, Address, Cannot, Layout, NoFlow, Priority, Urgent, Seen}
use Rattle.j39_audit.specs.declared.mark.Word.TheVariants.{Unclear, Asked, Counted, Unsure, Break, NearFlow, NearRequest, SilentFlow, Deaf, NearPackets}
use Rattle.j39_audit.specs.declared.mark.Word.TheVariants.{SilentPackets, NearOrLate, SilentOrLate, Answered, Answers, Besides}
use Rattle.j39_audit.specs.declared.mark.Word.TheVariants.{WrongAnnouncement, WrongGrant, WrongPacket, WrongReceipt}
use Rattle.j39_audit.specs.declared.messages.Test.{Test}
use Rattle.j39_audit.specs.declared.messages.Test.TheVariants.{Fitting, Selected, Any}
use Rattle.j39_audit.specs.declared.senders.SureSender.TheVariants.{Unit as OfUnit, Nobody, Unknown}
use Rattle.j39_audit_laws.specs.FoundLines.{Differs, FoundAreListed, IsAccusedAs, IsListed}
use Rattle.j39_audit_laws.proofs.Planned.{position_passes}
use Rattle.j39_audit_laws.proofs.Marking.{told_is}

-- ---- places

first_inside : (test : ℕ → Bool) (n g : ℕ) → first_below test n ≡ Some g → g < n
unfolding first_below
first_inside test zero g e = absurd (none-some g e)
first_inside test (suc n) g e =
    elim (first_below test n) as (λ o. first_below test n ≡ o → option_or o (if test n then Some n else None) ≡ Some g → g < suc n) [
      | Some k ↦ λ before is. (let less = first_inside test n g (before ∙ is) in omega (arith, less))
      | None ↦ λ _ is. elim (cases_Bool (test n)) [
        | inl here ↦
            let same : n ≡ g = same_Some n g (sym (cond-true (test n) (Some n) None here) ∙ is) in
            omega (arith, same)
        | inr other ↦ absurd (none-some g (sym (cond-false (test n) (Some n) None other) ∙ is))
      ]
    ] refl e

position_inside : {X : Type 0} (test : X → Bool) (xs : List X) (n : ℕ) → position test xs ≡ Some n → n < length xs
position_inside {X} test [] n e = absurd (none-some n e)
position_inside {X} test (x ∷ xs) n e = (position-Some test (x ∷ xs) n x e).0

either_inside : (a b : Option ℕ) (n u : ℕ) → ((k : ℕ) → a ≡ Some k → k < n) → ((k : ℕ) → b ≡ Some k → k < n) → option_or a b ≡ Some u → u < n
either_inside (Some k) b n u first second e = first u e
either_inside None b n u first second e = second u e

-- ---- units

named_inside : (plan : Plan) (name u : ℕ) → unit_of_name plan name ≡ Some u → u < length plan.units.items
named_inside plan name u e =
    either_inside (numbered_unit plan name) (unit_of_kind plan name) (length plan.units.items) u
    (λ k at. position_inside _ plan.units.items k at) (λ k at. position_inside _ plan.units.items k at) e

sure_inside : (s : Settings) (k : Knowledge) (a u : ℕ) (o : Option ℕ) → first_there s k a ≡ o → sure_sender s k a o ≡ OfUnit u → u < units_planned s
unfolding first_there
sure_inside s k a u None at e =
    cond_both (has_strangers s) Unknown Nobody (λ x. x ≡ OfUnit u → u < units_planned s) (λ _ is. absurd (cc is)) (λ _ is. absurd (cc is)) e
sure_inside s k a u (Some v) at e =
    cond_both (is_another_there s k a v) Unknown (OfUnit v) (λ x. x ≡ OfUnit u → u < units_planned s) (λ _ is. absurd (cc is))
    (λ _ is. (let same : v ≡ u = cc is in
    let less = first_inside (λ x. may_be s k x a) (units_planned s) v at in
    omega (arith, same, less))) e

sender_inside : (s : Settings) (k : Knowledge) (a u : ℕ) → sender_at s k a ≡ OfUnit u → u < units_planned s
unfolding sender_at
sender_inside s k a u e =
    cond_both (is_strange s k a) Unknown (sure_sender s k a (first_there s k a)) (λ x. x ≡ OfUnit u → u < units_planned s)
    (λ _ is. absurd (cc is)) (λ _ is. sure_inside s k a u (first_there s k a) refl is) e

-- ---- groups

module _ (s : Settings) (k : Knowledge) (m : SentMessage) where
  abbrev groups : ℕ
  groups = length s.plan.groups.items

  group_inside : (test : Test) (g : ℕ) → first_group s m test ≡ Some g → g < groups
  unfolding first_group
  group_inside test g e = first_inside (is_group s m test) groups g e

  flow_inside : (n : ℕ) → position (is_fit s k m) s.plan.flows.items ≡ Some n → flow_group s n < groups
  flow_inside n e =
      let (flow, at, fits) = position_passes (is_fit s k m) s.plan.flows.items n e in
      let is : flow_group s n ≡ flow.group = ap (λ (o : Option FlowPlan). option_map_or (λ (f : FlowPlan). f.group) o 0) at in
      let less = flow_at (λ (f : FlowPlan). f.group < length s.plan.groups.items) s.plan s.plan.flow_groups n flow at in
      omega (arith, is, less)

  marked_inside : (u g : ℕ) (w : Word) (d : Mark) → g < groups → deviates u w g ≡ Some d → d.group < groups
  marked_inside u g w d less e = subst (λ (x : Mark). x.group < groups) (same_Some _ d e) less

  without_inside : (a b : Option ℕ) (d : Mark) → ((g : ℕ) → a ≡ Some g → g < groups) → ((g : ℕ) → b ≡ Some g → g < groups)
      → without_flow s m a b ≡ Some d → d.group < groups
  without_inside (Some g) b d first second e = marked_inside m.unit g NoFlow d (first g refl) e
  without_inside None (Some g) d first second e = marked_inside m.unit g Layout d (second g refl) e
  without_inside None None d first second e = absurd (none-some d e)

  with_inside : (o : Option ℕ) (d : Mark) → position (is_fit s k m) s.plan.flows.items ≡ o → with_fit_flow s k m o ≡ Some d → d.group < groups
  with_inside (Some n) d at e =
      cond_both (list_any (is_of s k m) s.plan.flows.items) None (deviates m.unit Priority (flow_group s n)) (λ x. x ≡ Some d → d.group < groups)
      (λ _ is. absurd (none-some d is)) (λ _ is. marked_inside m.unit (flow_group s n) Priority d (flow_inside n at) is) e
  with_inside None d at e =
      without_inside (first_group s m Fitting) (option_or (first_group s m Selected) (first_group s m Any)) d (group_inside Fitting)
      (λ g is. either_inside (first_group s m Selected) (first_group s m Any) groups g (group_inside Selected) (group_inside Any) is) e

  deviation_inside : (d : Mark) → deviation s k m ≡ Some d → d.group < groups
  unfolding deviation
  deviation_inside d e = with_inside (position (is_fit s k m) s.plan.flows.items) d refl e

-- ---- marks

module _ (s : Settings) (claims : HeardClaims) (f : Frame) (packet : Option Packet) where
  differs_inside : (w : Word) (u g : ℕ) → Differs s claims f packet (record { word = w; subject = u; group = g })
      → (u < units_planned s) × (g < length s.plan.groups.items)
  differs_inside w u g d = (
    sender_inside s (knowledge s claims) f.ident.sa u d.sent.sender_is,
    deviation_inside s (knowledge s claims) d.message _
        (told_is s (knowledge s claims) d.message _ d.differs),
  )

  first_of_one : (g : ℕ) → g ≡ 0 → g < 1
  first_of_one g e = omega (arith, e)

  source_inside : (a : ℕ) → f.ident.sa ≡ a → a < 256
  source_inside a e = (let range = f.ident.sa_range in omega (arith, e, range))

  pub accused_listed : (w : Word) (u g : ℕ) → IsAccusedAs s claims f packet w u g → (u < subjects s w) × (g < groups_named s w)
  accused_listed Stranger u g (of, none, at, grouped) = (source_inside u at, first_of_one g grouped)
  accused_listed NobodyThere u g (sent, at, grouped) = (source_inside u at, first_of_one g grouped)
  accused_listed Address u g (of, some, wrong, stays, grouped) = (named_inside s.plan (name_in f) u of.unit_is, first_of_one g grouped)
  accused_listed Cannot u g (of, null, needless, grouped) = (named_inside s.plan (name_in f) u of.unit_is, first_of_one g grouped)
  accused_listed Layout u g differs = differs_inside Layout u g differs
  accused_listed NoFlow u g differs = differs_inside NoFlow u g differs
  accused_listed Priority u g differs = differs_inside Priority u g differs
  accused_listed Urgent u g (inl (of, above), grouped) = (named_inside s.plan (name_in f) u of.unit_is, first_of_one g grouped)
  accused_listed Urgent u g (inr (sent, urgent), grouped) =
      (sender_inside s (knowledge s claims) f.ident.sa u sent.sender_is, first_of_one g grouped)
  accused_listed Short u g never = absurd never
  accused_listed Seen u g never = absurd never
  accused_listed Unclear u g never = absurd never
  accused_listed Asked u g never = absurd never
  accused_listed Counted u g never = absurd never
  accused_listed Unsure u g never = absurd never
  accused_listed Break u g never = absurd never
  accused_listed NearFlow u g never = absurd never
  accused_listed NearRequest u g never = absurd never
  accused_listed SilentFlow u g never = absurd never
  accused_listed Deaf u g never = absurd never
  accused_listed NearPackets u g never = absurd never
  accused_listed SilentPackets u g never = absurd never
  accused_listed NearOrLate u g never = absurd never
  accused_listed SilentOrLate u g never = absurd never
  accused_listed Answered u g never = absurd never
  accused_listed Answers u g never = absurd never
  accused_listed Besides u g never = absurd never
  accused_listed WrongAnnouncement u g never = absurd never
  accused_listed WrongGrant u g never = absurd never
  accused_listed WrongPacket u g never = absurd never
  accused_listed WrongReceipt u g never = absurd never

pub found_listed : FoundAreListed
found_listed s log n m (inl (at, is)) = subst (IsListed s) (sym is) (omega arith, omega arith)
found_listed s log n m (inr (claims, f, packet, at, accused)) = accused_listed s claims f packet m.word m.subject m.group accused
