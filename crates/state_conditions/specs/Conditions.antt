-- What conditions mean, and which states break a property. A state is seen as its processors and its shared words.
use Rattle.std.specs.Prelude.{ℕ, ◌==◌, ◌&&◌, nat_le, nat_lt, not, Bool, true, false, List, count_by, slice_index}
use Rattle.std.specs.List.{list_all, list_any}
use Rattle.flat_machine.specs.State.{is_running}
use Rattle.flat_machine.specs.declared.event.Status.{Status}
use Rattle.flat_machine.specs.declared.event.Status.TheVariants.{Running, Halted, Faulted}
use Rattle.state_conditions.specs.declared.condition.Comparison.{Comparison}
use Rattle.state_conditions.specs.declared.condition.Group.{Group}
use Rattle.state_conditions.specs.declared.condition.Group.TheVariants as group
use Rattle.state_conditions.specs.declared.condition.ProcessorState.{ProcessorState}
use Rattle.state_conditions.specs.declared.condition.Relation.{Relation}
use Rattle.state_conditions.specs.declared.condition.Relation.TheVariants as relation
use Rattle.state_conditions.specs.declared.condition.Subject.{Subject}
use Rattle.state_conditions.specs.declared.condition.Subject.TheVariants as subject
use Rattle.state_conditions.specs.declared.property.Kind.{Kind}
use Rattle.state_conditions.specs.declared.property.Kind.TheVariants as kind

-- ---- the numbers of a state

abbrev pub has_halted : Status → Bool
has_halted Running = false
has_halted (Halted byte) = true
has_halted (Faulted fault) = false

abbrev pub has_faulted : Status → Bool
has_faulted Running = false
has_faulted (Halted byte) = false
has_faulted (Faulted fault) = true

-- whether a processor is of a group; a processor that does not run is at no place
abbrev pub is_of : Group → ProcessorState → Bool
is_of (group.At first last) p = is_running p.status && nat_le first p.pc && nat_le p.pc last
is_of group.Running p = is_running p.status
is_of group.Halted p = has_halted p.status
is_of group.Faulted p = has_faulted p.status

-- the value of a word, or how many processors are of a group
abbrev pub number_of : Subject → List ProcessorState → (words : List ℕ) → ℕ
number_of (subject.Word word) processors words = slice_index words word
number_of (subject.Count g) processors words = count_by (is_of g) processors

-- ---- conditions

abbrev pub compares : Relation → (number value : ℕ) → Bool
compares relation.Equal number value = number == value
compares relation.NotEqual number value = not (number == value)
compares relation.Less number value = nat_lt number value
compares relation.AtMost number value = nat_le number value
compares relation.Greater number value = nat_lt value number
compares relation.AtLeast number value = nat_le value number

-- whether a part, parts together, or a condition holds in the state
abbrev pub holds_part : Comparison → List ProcessorState → (words : List ℕ) → Bool
holds_part c processors words = compares c.relation (number_of c.subject processors words) c.value

abbrev pub all_hold : List Comparison → List ProcessorState → (words : List ℕ) → Bool
all_hold parts processors words = list_all (λ c. holds_part c processors words) parts

abbrev pub holds : (condition : List (List Comparison)) → List ProcessorState → (words : List ℕ) → Bool
holds condition processors words = list_any (λ parts. all_hold parts processors words) condition

-- ---- properties

-- whether the state breaks the property: the condition holds though it never should; it does not, though it always
-- should; or it does not, and no processor runs, though it should in the end
abbrev pub breaks : Kind → (condition : List (List Comparison)) → List ProcessorState → (words : List ℕ) → Bool
breaks kind.Never condition processors words = holds condition processors words
breaks kind.Always condition processors words = not (holds condition processors words)
breaks kind.Finally condition processors words =
    not (holds condition processors words) && count_by (is_of group.Running) processors == 0
