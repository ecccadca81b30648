-- The 64-bit NAME (SAE J1939-81, NAME fields).
use Rattle.std.specs.Prelude.{◌≡◌, ℕ, ◌*◌, ◌/◌, ◌%◌, ◌^◌, ◌<◌, nat_eq, nat_le, Bool, List, length, [], ◌∷◌, map, sum_by, Option}
use Rattle.std.specs.Int.{w64, to_le_bytes, from_le_bytes}
use Rattle.hex.specs.Hex.{IsBytes}
use Rattle.j39_id.specs.FirstFault.{first_fault}
use Rattle.j39_id.specs.declared.name_fields.NameFields.{NameFields}
use Rattle.j39_id.specs.declared.name_fields.NameField.{NameField}
use Rattle.j39_id.specs.declared.name_fields.NameField.TheVariants.{Identity, Manufacturer, Ecu, FunctionInstance, Function, Reserved, System, SystemInstance}
use Rattle.j39_id.specs.declared.name_fields.NameField.TheVariants.{Industry, Arbitrary}

-- the fields, from the lowest bit up
abbrev pub all_fields : List NameField
all_fields =
    Identity ∷ Manufacturer ∷ Ecu ∷ FunctionInstance ∷ Function ∷ Reserved ∷ System ∷ SystemInstance ∷ Industry ∷ Arbitrary ∷ []

-- the layout of a NAME: the first bit of each field, and how many it has
abbrev pub layout : NameField → ℕ × ℕ
layout Identity = (0, 21)
layout Manufacturer = (21, 11)
layout Ecu = (32, 3)
layout FunctionInstance = (35, 5)
layout Function = (40, 8)
layout Reserved = (48, 1)
layout System = (49, 7)
layout SystemInstance = (56, 4)
layout Industry = (60, 3)
layout Arbitrary = (63, 1)

abbrev pub field_value : NameFields → NameField → ℕ
field_value f Identity = f.identity
field_value f Manufacturer = f.manufacturer
field_value f Ecu = f.ecu
field_value f FunctionInstance = f.function_instance
field_value f Function = f.function
field_value f Reserved = f.reserved
field_value f System = f.system
field_value f SystemInstance = f.system_instance
field_value f Industry = f.industry
field_value f Arbitrary = f.arbitrary

-- the number of the fields: the sum of each times 2 to its first bit
abbrev pub name_number : NameFields → ℕ
name_number f = sum_by (λ field. field_value f field * 2 ^ (layout field).0) all_fields

-- the fields, each with whether its value does not fit its bits
abbrev pub range_faults : NameFields → List (NameField × Bool)
range_faults f = map (λ field. (field, nat_le (2 ^ (layout field).1) (field_value f field))) all_fields

-- the first field whose value does not fit its bits
abbrev pub first_out : NameFields → Option NameField
first_out f = first_fault (range_faults f)

-- the bits of a number that a field has
abbrev pub field_in : ℕ → NameField → ℕ
field_in n field = n / 2 ^ (layout field).0 % 2 ^ (layout field).1

-- the fields of a number
abbrev pub fields_of : ℕ → NameFields
fields_of n = record {
  identity = field_in n Identity;
  manufacturer = field_in n Manufacturer;
  ecu = field_in n Ecu;
  function_instance = field_in n FunctionInstance;
  function = field_in n Function;
  reserved = field_in n Reserved;
  system = field_in n System;
  system_instance = field_in n SystemInstance;
  industry = field_in n Industry;
  arbitrary = field_in n Arbitrary;
}

-- the unit is arbitrary address capable: it may choose another address
abbrev pub is_arbitrary : ℕ → Bool
is_arbitrary name = nat_eq (field_in name Arbitrary) 1

-- the eight bytes in which a NAME is sent, the least significant first
abbrev pub name_bytes : ℕ → List ℕ
name_bytes name = to_le_bytes w64 name

-- the NAME that eight bytes are
abbrev pub name_of_bytes : List ℕ → ℕ
name_of_bytes bytes = from_le_bytes w64 bytes

-- ---- laws

-- the NAME of the bytes of a NAME is that NAME
abbrev pub NamesReadBack : Type 0
NamesReadBack = (name : ℕ) → name < 2 ^ 64 → name_of_bytes (name_bytes name) ≡ name

-- the bytes of the NAME of eight bytes are those bytes
abbrev pub NameBytesReadBack : Type 0
NameBytesReadBack = (bytes : List ℕ) → length bytes ≡ 8 → IsBytes bytes → name_bytes (name_of_bytes bytes) ≡ bytes
