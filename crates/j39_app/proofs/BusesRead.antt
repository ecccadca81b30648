-- The loop over the buses of a vehicle: those whose plans were read stand before those that are left.
use Rattle.std.proofs.Common.{◌≡◌, ℕ, ◌+◌, ◌<◌, List, [], ◌∷◌, ◌++◌, Some, length, drop, get_or, refl, sym, ap, ◌∙◌, subst, append_assoc}
use Rattle.std.proofs.lemmas.List.{append-nil, drop_more}
use Rattle.std.specs.List.{AllZip}
use Rattle.j39_app.specs.Known.{Names}
use Rattle.j39_app.specs.VehicleAnswers.{IsOfBus, IsOfSomeBus, IsPlanOfBus, IsTextOfBusFile}
use Rattle.j39_network.specs.declared.plan.Plan.{Plan}
use Rattle.j39_vehicle.specs.declared.file.bus_table.BusTable.{BusTable}
use Rattle.j39_vehicle.specs.declared.vehicle.bus_plan.BusPlan.{BusPlan}

pub record AreRead {S T : Type 0} (IsOf : S → T → Type 0) (left all : List S) (found : List T) : Type 0 where
  pub before : List S
  pub all_are : all ≡ before ++ left
  pub read : AllZip IsOf before found

push : {S T : Type 0} (IsOf : S → T → Type 0) (xs : List S) (ys : List T) (x : S) (y : T) → AllZip IsOf xs ys → IsOf x y
    → AllZip IsOf (xs ++ x ∷ []) (ys ++ y ∷ [])
push IsOf [] [] x y each is = (is, tt)
push IsOf [] (b ∷ ys) x y each is = absurd each
push IsOf (a ∷ xs) [] x y each is = absurd each
push IsOf (a ∷ xs) (b ∷ ys) x y each is = (each.0, push IsOf xs ys x y each.1 is)

pub none_read : {S T : Type 0} (IsOf : S → T → Type 0) (all : List S) → AreRead IsOf all all []
none_read IsOf all = record { before = []; all_are = refl; read = tt }

-- an element stands next
pub next_left : {S T : Type 0} (IsOf : S → T → Type 0) (all : List S) (found : List T) (i : ℕ) (x : S) → x ≡ get_or all i x → i < length all
    → AreRead IsOf (drop i all) all found → AreRead IsOf (x ∷ drop (i + 1) all) all found
next_left IsOf all found i x is more so =
    subst (λ left. AreRead IsOf left all found) (drop_more all i x more ∙ ap (λ y. y ∷ drop (i + 1) all) (sym is)) so

pub one_more : {S T : Type 0} (IsOf : S → T → Type 0) (x : S) (left all : List S) (found : List T) (y : T) → AreRead IsOf (x ∷ left) all found → IsOf x y
    → AreRead IsOf left all (found ++ y ∷ [])
one_more IsOf x left all found y so is = record {
  before = so.before ++ x ∷ [];
  all_are = so.all_are ∙ sym (append_assoc so.before (x ∷ []) left);
  read = push IsOf so.before found x y so.read is;
}

pub all_read : {S T : Type 0} (IsOf : S → T → Type 0) (all : List S) (found : List T) → AreRead IsOf [] all found → AllZip IsOf all found
all_read IsOf all found so = subst (λ xs. AllZip IsOf xs found) (sym (so.all_are ∙ append-nil so.before)) so.read

module _ (files : Names) (vehicle : List ℕ) where
  -- so it is with the next bus
  pub some_bus : {IsOf : BusTable → List ℕ → Type 0} (table : BusTable) (left all : List BusTable) (buses : List BusPlan)
      → AreRead (IsPlanOfBus files vehicle) (table ∷ left) all buses → IsOfBus (IsOf table) vehicle table → IsOfSomeBus files vehicle IsOf all
  some_bus table left all buses so is = record {
    before = so.before;
    table = table;
    rest = left;
    tables_are = so.all_are;
    buses = buses;
    read = so.read;
    is_of = is;
  }

  -- the bus whose plan was read
  pub plan_read : (table : BusTable) (plan : Plan) (text : List ℕ) → IsTextOfBusFile files vehicle table text (Some plan)
      → IsPlanOfBus files vehicle table (record { label = table.label; plan = plan })
  plan_read table plan text (name, named, (bytes, of, (described, nothing))) = record {
    label = refl;
    described = (name, named, (bytes, of, described));
  }
