-- What older versions know of a table.
use Rattle.std.proofs.Common.{◌≡◌, true, [], ◌∷◌, refl, inl, inr}
use Rattle.std.proofs.lemmas.Bool.{cases_Bool}
use Rattle.j39_plan.specs.declared.reading.version.Version.{Version}
use Rattle.j39_plan.specs.declared.reading.version.Version.TheVariants.{First, Second, Third, Fourth}
use Rattle.j39_plan.specs.Since.{is_known, OlderKnow}

-- what is known to an older version is known to a later one
pub known_on : (since old new : Version) → is_known old new ≡ true → is_known since old ≡ true → is_known since new ≡ true
known_on First old new later knows = refl
known_on Second First new later knows = cc
known_on Second Second First later knows = cc
known_on Second Second Second later knows = refl
known_on Second Second Third later knows = refl
known_on Second Second Fourth later knows = refl
known_on Second Third First later knows = cc
known_on Second Third Second later knows = cc
known_on Second Third Third later knows = refl
known_on Second Third Fourth later knows = refl
known_on Second Fourth First later knows = cc
known_on Second Fourth Second later knows = cc
known_on Second Fourth Third later knows = cc
known_on Second Fourth Fourth later knows = refl
known_on Third First new later knows = cc
known_on Third Second new later knows = cc
known_on Third Third First later knows = cc
known_on Third Third Second later knows = cc
known_on Third Third Third later knows = refl
known_on Third Third Fourth later knows = refl
known_on Third Fourth First later knows = cc
known_on Third Fourth Second later knows = cc
known_on Third Fourth Third later knows = cc
known_on Third Fourth Fourth later knows = refl
known_on Fourth First new later knows = cc
known_on Fourth Second new later knows = cc
known_on Fourth Third new later knows = cc
known_on Fourth Fourth First later knows = cc
known_on Fourth Fourth Second later knows = cc
known_on Fourth Fourth Third later knows = cc
known_on Fourth Fourth Fourth later knows = refl

pub older_know : OlderKnow
older_know [] old new later = refl
older_know (s ∷ rules) old new later = elim (cases_Bool (is_known s.version old)) [
  | inl knows ↦ rw (knows, known_on s.version old new later knows, knows, older_know rules old new later) refl
  | inr not ↦ elim (cases_Bool (is_known s.version new)) [
    | inl also ↦ rw (not, also, not, older_know rules old new later) refl
    | inr none ↦ rw (not, none, older_know rules old new later) refl
  ]
]
