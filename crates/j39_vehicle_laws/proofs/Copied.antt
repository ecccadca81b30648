-- Messages of copies, and what signals read in messages.
use Rattle.std.proofs.Common.{◌≡◌, ℕ, ◌+◌, ◌*◌, ◌≤◌, ◌<◌, ◌==◌, ◌&&◌, ◌||◌, List, [], length, Bool, true, not, nat_le, if◌then◌else◌}
use Rattle.std.proofs.Common.{Option, Some, None, inl, inr, sym, refl, ap, ◌∙◌, arith}
use Rattle.std.proofs.lemmas.Bool.{cases_Bool, false≢true}
use Rattle.j39_signal.specs.Bits.{number_at, raw_of}
use Rattle.j39_signal.specs.Places.{end_of}
use Rattle.j39_signal.specs.Selectors.{has_selector, is_selected}
use Rattle.j39_signal.specs.State.{state_of}
use Rattle.j39_signal.specs.declared.selector.Selector.{Selector}
use Rattle.j39_signal.specs.declared.state.State.TheVariants.{Absent}
use Rattle.j39_network.specs.declared.plan.group_plan.GroupPlan.{GroupPlan}
use Rattle.j39_vehicle.specs.declared.vehicle.Vehicle.{Vehicle}
use Rattle.j39_vehicle_findings.specs.VehicleFindings.{AreFindings, HaveOtherLayouts, IsSelector}
use Rattle.j39_vehicle_findings.specs.declared.finding.VehicleFinding.TheVariants.{LayoutDiffers}
use Rattle.j39_vehicle_laws.specs.Copied.{CopiesCanBeSent, ReadingsAreStates}
use Rattle.j39_vehicle_laws.proofs.Forwarding.{nothing_holds}
use Rattle.j39_vehicle_laws.proofs.Values.{within}

-- ---- copies

-- the bits at this place have this number
abbrev has_number : List ℕ → ℕ → ℕ → ℕ → Bool
has_number bytes start bits value = nat_le (start + bits) (8 * length bytes) && number_at bytes start bits == value

selects : (w : Selector) (o : Option Selector) (bytes : List ℕ) → IsSelector w o → is_selected o bytes ≡ true → has_selector w bytes ≡ true
selects w None bytes same taken = absurd same
selects w (Some u) bytes (start, bits, value) taken =
    ap (λ x. has_number bytes x w.bits w.value) start ∙ ap (λ x. has_number bytes u.start x w.value) bits
    ∙ ap (λ x. has_number bytes u.start u.bits x) value ∙ taken

-- the selector of the second group, if it has one, takes what the first one's takes
also_selected : (g h : GroupPlan) (bytes : List ℕ) (o : Option Selector) → h.when ≡ o → ¬ HaveOtherLayouts g h → is_selected g.when bytes ≡ true
    → is_selected o bytes ≡ true
also_selected g h bytes None is alike taken = refl
also_selected g h bytes (Some w) is alike taken =
    elim (cases_Bool (has_selector w bytes)) [
      | inl has ↦ has
      | inr hasnt ↦ absurd (alike (inr (inr (inl (w, is, λ same. false≢true (sym hasnt ∙ selects w g.when bytes same taken))))))
    ]

pub copies_can_be : (v : Vehicle) → AreFindings v [] → CopiesCanBeSent v
copies_can_be v clean place n g h bytes its copies g_is h_is can =
    let alike : ¬ HaveOtherLayouts g h =
    λ other. nothing_holds v clean (LayoutDiffers place) (record {
      value = n;
      value_is = its;
      meets = (copies, record { g = g; g_is = g_is; h = h; h_is = h_is; related = other });
    }) in
    let no_longer : ¬ (g.length < h.length) = λ longer. alike (inl longer) in
    let no_shorter : ¬ (h.most < g.most) = λ shorter. alike (inr (inl shorter)) in
    let least = can.length.0 in
    let most = can.length.1 in
    record {
      length = (omega (arith, no_longer, least), omega (arith, no_shorter, most));
      selected = also_selected g h bytes h.when refl alike can.selected;
    }

-- ---- what is read

pub readings_are : ReadingsAreStates
readings_are s least bytes always long =
    let state = state_of s (raw_of bytes s) in
    let inside = nat_le (end_of s) (8 * length bytes) in
    elim (cases_Bool s.optional) [
      | inl optional ↦ sym (ap (λ b. if not b || inside then state else Absent) optional)
      | inr needed ↦
          let ends : end_of s ≤ 8 * least = always needed in
          let there : inside ≡ true = within (end_of s) (8 * length bytes) (omega (arith, ends, long)) in
          ap (λ b. if b then state else Absent) there ∙ sym (ap (λ b. if not b || inside then state else Absent) needed)
    ]
