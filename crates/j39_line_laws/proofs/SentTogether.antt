-- Two private groups that one unit sends to receivers that meet.
use Rattle.std.proofs.Common.{◌≡◌, ℕ, Bool, List, Option, Some, None, Decides, refl, sym, ◌∙◌, subst}
use Rattle.std.specs.List.{slice_get}
use Rattle.std.proofs.lemmas.Bool.{false≢true}
use Rattle.std.proofs.lemmas.Bool.Decides.{Decides-and, Decides-eqb, Decides-like, Decides-or}
use Rattle.std.proofs.lemmas.Option.{none-some, same_Some}
use Rattle.std.proofs.lemmas.Slice.Eq.{bytes_eq-Decides}
use Rattle.j39_id.specs.Limits.{frame_bytes}
use Rattle.j39_id.specs.Pgn.{pdu2_first, pf_of}
use Rattle.j39_search.proofs.Deciding.{Decides-leb}
use Rattle.j39_search.specs.ListPlaces.{ValueAt}
use Rattle.j39_findings.specs.Findings.{DoReceiversMeet}
use Rattle.j39_findings.specs.Found.{do_receivers_meet, is_group_of, may_be_one_frame_to_all, sends, sends_beside}
use Rattle.j39_network.proofs.Served.{Decides-have_same_receiver, to_all_decides}
use Rattle.j39_network.specs.PlannedFlows.{MayBeOneFrameToAll, Sends}
use Rattle.j39_network.specs.declared.plan.flow_plan.FlowPlan.{FlowPlan}
use Rattle.j39_network.specs.declared.plan.group_plan.GroupPlan.{GroupPlan}

-- ---- the tests decide

group_of : {test : GroupPlan → Bool} (P : GroupPlan → Type 0) → ((g : GroupPlan) → Decides (test g) (P g))
    → (gs : List GroupPlan) (i : ℕ) (o : Option GroupPlan)
    → slice_get gs i ≡ o → Decides (is_group_of test o) (ValueAt P gs i)
group_of P by gs i None is = (λ e. absurd (false≢true e), λ v. absurd (none-some _ (sym is ∙ v.value_is)))
group_of P by gs i (Some g) is =
    Decides-like _ (λ h. record { value = g; value_is = is; meets = h }) (λ v. subst P (same_Some _ _ (sym v.value_is ∙ is)) v.meets) (by g)

pub sending : (gs : List GroupPlan) (g : GroupPlan) (f : FlowPlan) → Decides (sends gs g f) (Sends gs g f)
sending gs g f =
    group_of (λ sent. sent.label.bytes ≡ g.label.bytes) (λ sent. bytes_eq-Decides sent.label.bytes g.label.bytes) gs f.group (slice_get gs f.group) refl

in_one_frame : (g : GroupPlan) → Decides (may_be_one_frame_to_all g) (MayBeOneFrameToAll g)
in_one_frame g = Decides-and _ _ (Decides-leb pdu2_first (pf_of g.pgn)) (Decides-leb g.length frame_bytes)

meeting : (g h : GroupPlan) (f k : FlowPlan) → Decides (do_receivers_meet g h f k) (DoReceiversMeet g h f k)
meeting g h f k =
    Decides-or _ _ (to_all_decides f.to) (Decides-or _ _ (to_all_decides k.to)
    (Decides-or _ _ (Decides-have_same_receiver f.to k.to) (Decides-and _ _ (in_one_frame g) (in_one_frame h))))

pub sending_beside : (gs : List GroupPlan) (g h : GroupPlan) (f k : FlowPlan)
    → Decides (sends_beside gs g h f k) ((k.sender ≡ f.sender) × Sends gs h k × DoReceiversMeet g h f k)
sending_beside gs g h f k =
    Decides-like _ (λ p. (p.0, p.1.0, p.1.1)) (λ p. (p.0, (p.1, p.2)))
    (Decides-and _ _ (Decides-eqb k.sender f.sender) (Decides-and _ _ (sending gs h k) (meeting g h f k)))
