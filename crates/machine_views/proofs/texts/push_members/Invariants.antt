use Rattle.std.proofs.Common.{◌≡◌, ◌++◌, take}
use Rattle.std.specs.Prelude.{string_bytes}
use Rattle.machine_views.specs.Texts.{members_text}
use Rattle.machine_views.proofs.texts.push_members.Given as goal

abbrev pub invariant-loop-member : goal.invariant-loop-member
invariant-loop-member l =
    string_bytes l.text ≡ string_bytes l.initial.text ++ members_text (take l.member-index l.members)
