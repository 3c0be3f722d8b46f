use Rattle.std.proofs.Common.{◌≡◌, ◌++◌, ◌≤◌, drop}
use Rattle.std.specs.List.{slice_range}
use Rattle.course_text.specs.Constants.{constant_values, replaced, replaced_after}
use Rattle.course_text.proofs.constants.replaced.Given as goal

-- The bytes so far, followed by those of the word that begins at `begin` and of what is left.
abbrev pub invariant-loop-at : goal.invariant-loop-at
invariant-loop-at l = record {
  begun : l.begin ≤ l.at;
  so_far :
      l.out.items ++ replaced_after (constant_values l.constants) (slice_range l.text l.begin l.at) (drop l.at l.text)
      ≡ replaced (constant_values l.constants) l.text;
}
