-- NAMEs are of one kind exactly where all fields but the identity number are the same.
use Rattle.std.proofs.Common.{◌≡◌, ◌≢◌, ℕ, ◌+◌, ◌*◌, ◌/◌, ◌%◌, ◌^◌, ◌<◌, ◌≤◌, refl, sym, ap, ◌∙◌, arith}
use Rattle.j39_id.specs.Name.{field_in}
use Rattle.j39_id.specs.declared.name_fields.NameField.{NameField}
use Rattle.j39_id.specs.declared.name_fields.NameField.TheVariants.{Identity, Manufacturer, Ecu, FunctionInstance, Function, Reserved, System, SystemInstance}
use Rattle.j39_id.specs.declared.name_fields.NameField.TheVariants.{Industry, Arbitrary}
use Rattle.j39_network.specs.Kinds.{kind_of_name}
use Rattle.j39_log_laws.specs.Makes.{HaveOneMake, KindsAreOfFields}

-- each field but the identity number is of the kind
same_fields : (a b : ℕ) → kind_of_name a ≡ kind_of_name b → HaveOneMake a b
same_fields a b same Identity other = absurd (other refl)
same_fields a b same Manufacturer other = omega (arith, same)
same_fields a b same Ecu other = omega (arith, same)
same_fields a b same FunctionInstance other = omega (arith, same)
same_fields a b same Function other = omega (arith, same)
same_fields a b same Reserved other = omega (arith, same)
same_fields a b same System other = omega (arith, same)
same_fields a b same SystemInstance other = omega (arith, same)
same_fields a b same Industry other = omega (arith, same)
same_fields a b same Arbitrary other = omega (arith, same)

-- and they are all of it, from the highest bit down
same_kind : (a b : ℕ) → a < 2 ^ 64 → b < 2 ^ 64 → HaveOneMake a b → kind_of_name a ≡ kind_of_name b
same_kind a b a_less b_less same =
    let arbitrary = same Arbitrary (λ e. cc) in
    let from_63 : a / 2 ^ 63 ≡ b / 2 ^ 63 = omega (arith, a_less, b_less, arbitrary) in
    let industry = same Industry (λ e. cc) in
    let from_60 : a / 2 ^ 60 ≡ b / 2 ^ 60 = omega (arith, from_63, industry) in
    let system_instance = same SystemInstance (λ e. cc) in
    let from_56 : a / 2 ^ 56 ≡ b / 2 ^ 56 = omega (arith, from_60, system_instance) in
    let system = same System (λ e. cc) in
    let from_49 : a / 2 ^ 49 ≡ b / 2 ^ 49 = omega (arith, from_56, system) in
    let reserved = same Reserved (λ e. cc) in
    let from_48 : a / 2 ^ 48 ≡ b / 2 ^ 48 = omega (arith, from_49, reserved) in
    let function = same Function (λ e. cc) in
    let from_40 : a / 2 ^ 40 ≡ b / 2 ^ 40 = omega (arith, from_48, function) in
    let instance = same FunctionInstance (λ e. cc) in
    let from_35 : a / 2 ^ 35 ≡ b / 2 ^ 35 = omega (arith, from_40, instance) in
    let ecu = same Ecu (λ e. cc) in
    let from_32 : a / 2 ^ 32 ≡ b / 2 ^ 32 = omega (arith, from_35, ecu) in
    let manufacturer = same Manufacturer (λ e. cc) in
    omega (arith, from_32, manufacturer)

pub kinds_are_of_fields : KindsAreOfFields
kinds_are_of_fields a b a_less b_less = (same_fields a b, same_kind a b a_less b_less)
