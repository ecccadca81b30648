-- What the laws say together of one plan.
use Rattle.std.proofs.Common.{◌≡◌, ℕ, ◌<◌, false, true, List, [], length, arith, subst, inl, inr}
use Rattle.std.specs.List.{Contains}
use Rattle.j39_claim.specs.declared.item.Say.TheVariants.{Claim, Cannot}
use Rattle.j39_claim.specs.declared.item.Item.{Item}
use Rattle.j39_claim.specs.declared.item.Item.TheVariants.{AddressClaimed}
use Rattle.j39_findings.specs.Findings.{Clean}
use Rattle.j39_network.specs.Needs.{AreNeedsMet}
use Rattle.j39_network.specs.PlannedRequests.{AreAnsweredWell, AreRequestsServed}
use Rattle.j39_network.specs.SoundSignals.{SoundSignals}
use Rattle.j39_network.specs.declared.plan.Plan.{Plan}
use Rattle.j39_network.specs.declared.steps.Step.{Step}
use Rattle.j39_world.specs.World.{World, Undelivered, all_off}
use Rattle.j39_world.specs.Run.{Run}
use Rattle.j39_network.specs.PlannedUnits.{unit_at, units_of}
use Rattle.j39_world.specs.Opening.{AreNamesDistinct}
use Rattle.j39_world.specs.Settling.{Settles}
use Rattle.j39_world.specs.Ending.{TransfersEnd}
use Rattle.j39_world.specs.LiveEnds.{AreEndsUndisturbed}
use Rattle.j39_world.specs.Arriving.{ArrivesUnanswered, ArrivesAnswered}
use Rattle.j39_world.specs.Needed.{Delivered, ReportsNeeded, LastWrite, ReadsAsWritten, bytes_of}
use Rattle.j39_world.specs.SentArriving.{HasArrivedAlone, NeededAlone, SentFramesArrive}
use Rattle.j39_world.specs.Sound.{AreAddressesSound, AreAddressesDifferent, AreAllDelivered, AreNotesRight, AreKeptFree, DoesOneLie, IsQuiet}
use Rattle.j39_world.specs.Sound.{AreReportsSound, AreSentFramesSound, IsAcknowledgedReported}
use Rattle.j39_world.specs.SoundPlan.{AlwaysBeside, IsSending, IsSound}
use Rattle.j39_network.specs.Staying.{IsAloneThere}
use Rattle.j39_world.specs.HeldAddresses.{ArePlannedApart, HoldsAlone, HoldsPlanned}
use Rattle.j39_run_laws.proofs.Addresses.CleanUnits.{clean_units}

none_in : (x : Item) → ¬ Contains [] x
none_in x (k, inside, is) = absurd (omega arith)

-- where nothing is undelivered no claim is
pub quiet_where_empty : (claims : Undelivered) → ((s t : ℕ) → claims s t ≡ []) → IsQuiet claims
quiet_where_empty claims empty u v = (
  λ a there. none_in (AddressClaimed (Claim a)) (subst (λ xs. Contains xs (AddressClaimed (Claim a))) (empty u v) there),
  λ there. none_in (AddressClaimed Cannot) (subst (λ xs. Contains xs (AddressClaimed Cannot)) (empty u v) there),
)

pub sound_by_laws : (plan : Plan) → Clean plan
    → ((p : Plan) (steps : List Step) (w : World) → Clean p → Run p all_off steps w → AreAddressesSound p w)
    → ((p : Plan) (steps : List Step) (w : World) → Clean p → Run p all_off steps w → IsQuiet w.claims → AreAddressesDifferent w)
    → ((p : Plan) (steps : List Step) (w : World) → ArePlannedApart (units_of p) → Run p all_off steps w → (u : ℕ) → HoldsPlanned (units_of p) w u)
    → ((p : Plan) (steps : List Step) (w : World) → Clean p → Run p all_off steps w
    → (u : ℕ) → IsAloneThere p.keep_free (units_of p) u → HoldsAlone (units_of p) w u)
    → ((p : Plan) (steps : List Step) (w : World) → Clean p → Run p all_off steps w
    → (u : ℕ) → u < length (units_of p) → (unit_at (units_of p) u).claims ≡ false → HoldsAlone (units_of p) w u)
    → ((p : Plan) → Clean p → AlwaysBeside p AreAddressesSound)
    → ((p : Plan) → Clean p → AlwaysBeside p (λ joined w. IsQuiet w.claims → AreAddressesDifferent w))
    → ((p : Plan) (steps : List Step) (w : World) → AreNamesDistinct (units_of p) → Run p all_off steps w → IsQuiet w.claims → AreNotesRight p w)
    → ((p : Plan) (steps : List Step) (w : World) → Clean p → Run p all_off steps w → AreKeptFree p w)
    → ((p : Plan) (steps : List Step) (w : World) → AreNamesDistinct (units_of p) → Run p all_off steps w → Settles p w)
    → ((p : Plan) → Clean p → SoundSignals p)
    → ((p : Plan) (steps : List Step) (w : World) → Run p all_off steps w → AreReportsSound w)
    → ((p : Plan) (steps : List Step) (w : World) → p.live ≡ false → Run p all_off steps w → IsSending w → AreAllDelivered w.claims)
    → ((p : Plan) (steps : List Step) (w : World) → Run p all_off steps w → AreSentFramesSound w)
    → ((p : Plan) (steps : List Step) (w : World) → p.live ≡ false → Run p all_off steps w → DoesOneLie w → AreAllDelivered w.claims)
    → ((p : Plan) (steps : List Step) (w : World) → Run p all_off steps w → IsAcknowledgedReported w)
    → ((p : Plan) (steps : List Step) (w : World) → Clean p → p.live ≡ true → Run p all_off steps w → AreEndsUndisturbed p w)
    → ((p : Plan) (steps : List Step) (w : World) → Run p all_off steps w → TransfersEnd p w)
    → ((p : Plan) (steps : List Step) (w : World) → Run p all_off steps w → ArrivesUnanswered p w)
    → ((p : Plan) (steps : List Step) (w : World) → Run p all_off steps w → ArrivesAnswered p w)
    → ((p : Plan) (steps : List Step) (w : World) → Run p all_off steps w → SentFramesArrive p w)
    → ((p : Plan) → Clean p → AreRequestsServed p)
    → ((p : Plan) → Clean p → AreAnsweredWell p)
    → ((p : Plan) → Clean p → AreNeedsMet p)
    → ((p : Plan) (steps : List Step) (w : World) → Clean p → Run p all_off steps w → (d : Delivered p w) → ReportsNeeded p w d)
    → ((p : Plan) (steps : List Step) (w : World) → Clean p → Run p all_off steps w
    → (d : Delivered p w) (x : LastWrite d.message) → ReadsAsWritten d.message x x.write.place)
    → ((p : Plan) (steps : List Step) (w : World) → Run p all_off steps w → (n : NeededAlone p w)
    → HasArrivedAlone w n.frame.passage.after n.message.flow.sender n.message.need.unit (record { flow = n.message.place; bytes = bytes_of n.message }))
    → ((p : Plan) (steps : List Step) (w : World) → Clean p → Run p all_off steps w
    → (n : NeededAlone p w) (x : LastWrite n.message) → ReadsAsWritten n.message x x.write.place)
    → IsSound plan
sound_by_laws plan clean addresses different planned alone silent strangers strangers_quiet notes kept settles signals reports delivered sent_frames beside
    acknowledged undisturbed ends arrives arrives_answered sent_arrive served answered needs needed read needed_sent read_sent = record {
      addresses = λ steps w run. addresses plan steps w clean run;
      quiet = λ steps w run. different plan steps w clean run;
      sending = λ quiet steps w run sends. different plan steps w clean run (quiet_where_empty w.claims (delivered plan steps w quiet run sends));
      planned = λ apart steps w run. planned plan steps w apart run;
      alone = λ steps w run. alone plan steps w clean run;
      silent = λ steps w run. silent plan steps w clean run;
      strangers = strangers plan clean;
      strangers_quiet = strangers_quiet plan clean;
      notes = λ steps w run. notes plan steps w (clean_units plan clean).names run;
      kept = λ steps w run. kept plan steps w clean run;
      settles = λ steps w run. settles plan steps w (clean_units plan clean).names run;
      signals = signals plan clean;
      reports = λ steps w run. reports plan steps w run;
      sent_frames = λ steps w run. sent_frames plan steps w run;
      delivered = λ quiet steps w run which. elim which [
        | inl sends ↦ delivered plan steps w quiet run sends
        | inr lies ↦ beside plan steps w quiet run lies
      ];
      acknowledged = λ steps w run. acknowledged plan steps w run;
      undisturbed = λ live steps w run. undisturbed plan steps w clean live run;
      ends = λ steps w run. ends plan steps w run;
      arrives = λ steps w run. arrives plan steps w run;
      arrives_answered = λ steps w run. arrives_answered plan steps w run;
      sent_arrive = λ steps w run. sent_arrive plan steps w run;
      served = served plan clean;
      answered = answered plan clean;
      needs = needs plan clean;
      needed = λ steps w run d. (needed plan steps w clean run d, read plan steps w clean run d);
      needed_sent = λ steps w run n. (needed_sent plan steps w run n, read_sent plan steps w clean run n);
    }
