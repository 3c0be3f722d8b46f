use Rattle.std.proofs.Common.{refl, sym, ◌∙◌}
use Rattle.phi_algebra.specs.Composition.{composed}
use Rattle.phi_algebra.proofs.Composing.{across_add, across_bits, across_clamp, across_clampu, meaning_by, none_exactly}
use Rattle.phi_algebra.proofs.composition.compose.Goals.{in_default-via-in-Add+in_default}
use Rattle.phi_algebra.proofs.composition.compose.Goals.{in_default-via-in-Bits+in_default}
use Rattle.phi_algebra.proofs.composition.compose.Goals.{in_default-via-in-Clamp+in_default}
use Rattle.phi_algebra.proofs.composition.compose.Goals.{in_default-via-in-ClampU+in_default}
use Rattle.phi_algebra.proofs.composition.compose.Goals as goal

pub returns-in-Add-Add-clause-exact : goal.returns-in-Add-Add-clause-exact
unfolding composed
returns-in-Add-Add-clause-exact c = rw (c.in-Add-Add.is-0, c.in-Add-Add.is-1) refl

pub returns-in-Add-Add-clause-meaning : goal.returns-in-Add-Add-clause-meaning
returns-in-Add-Add-clause-meaning c = meaning_by _ _ _ (returns-in-Add-Add-clause-exact c) c.keeps_its_range.ensures.fields c.keeps_its_range-2.ensures.fields

pub returns-in-Bits-Bits-clause-exact : goal.returns-in-Bits-Bits-clause-exact
unfolding composed
returns-in-Bits-Bits-clause-exact c = rw (c.in-Bits-Bits.is-0, c.in-Bits-Bits.is-1) refl

pub returns-in-Bits-Bits-clause-meaning : goal.returns-in-Bits-Bits-clause-meaning
returns-in-Bits-Bits-clause-meaning c =
    meaning_by _ _ _ (returns-in-Bits-Bits-clause-exact c) c.keeps_its_range.ensures.fields c.keeps_its_range-2.ensures.fields

pub returns-in-Clamp-Clamp-clause-exact : goal.returns-in-Clamp-Clamp-clause-exact
unfolding composed
returns-in-Clamp-Clamp-clause-exact c = rw (c.brought_into.ensures, c.in-Clamp-Clamp.is-0, c.in-Clamp-Clamp.is-1) refl

pub returns-in-Clamp-Clamp-clause-meaning : goal.returns-in-Clamp-Clamp-clause-meaning
returns-in-Clamp-Clamp-clause-meaning c =
    meaning_by _ _ _ (returns-in-Clamp-Clamp-clause-exact c) c.keeps_its_range.ensures.fields c.keeps_its_range-2.ensures.fields

pub returns-in-ClampU-ClampU-clause-exact : goal.returns-in-ClampU-ClampU-clause-exact
unfolding composed
returns-in-ClampU-ClampU-clause-exact c = rw (c.brought_into-in-ClampU-ClampU.ensures, c.in-ClampU-ClampU.is-0, c.in-ClampU-ClampU.is-1) refl

pub returns-in-ClampU-ClampU-clause-meaning : goal.returns-in-ClampU-ClampU-clause-meaning
returns-in-ClampU-ClampU-clause-meaning c =
    meaning_by _ _ _ (returns-in-ClampU-ClampU-clause-exact c) c.keeps_its_range.ensures.fields c.keeps_its_range-2.ensures.fields

pub returns-in_default-clause-exact : goal.returns-in_default-clause-exact
returns-in_default-clause-exact c = c.compose_across.ensures ∙ sym (elim c.in_default.branch [
  | in_default-via-in-Add+in_default w ↦ rw w.in_default.is-0 (across_add w.in_default.field-0-0 _ w.in_default.not-Add-1)
  | in_default-via-in-Bits+in_default w ↦ rw w.in_default.is-0 (across_bits w.in_default.field-0-0 w.in_default.field-1-0 _ w.in_default.not-Bits-1)
  | in_default-via-in-Clamp+in_default w ↦ rw w.in_default.is-0 (across_clamp w.in_default.field-0-0 _ w.in_default.not-Clamp-1)
  | in_default-via-in-ClampU+in_default w ↦ rw w.in_default.is-0 (across_clampu w.in_default.field-0-0 _ w.in_default.not-ClampU-1)
])

pub returns-in_default-clause-meaning : goal.returns-in_default-clause-meaning
returns-in_default-clause-meaning c = meaning_by _ _ _ (returns-in_default-clause-exact c) c.keeps_its_range.ensures.fields c.keeps_its_range-2.ensures.fields

pub returns-in_default-clause-none : goal.returns-in_default-clause-none
returns-in_default-clause-none c = none_exactly _ _ _ (returns-in_default-clause-exact c) c.keeps_its_range.ensures.fields c.keeps_its_range-2.ensures.fields
