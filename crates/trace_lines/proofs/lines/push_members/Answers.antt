use Rattle.std.proofs.Common.{◌≡◌, List, ◌+◌, ◌++◌, take, slice_index_or, sym, ap, ◌∙◌, subst, arith}
use Rattle.std.specs.Prelude.{string_bytes}
use Rattle.std.proofs.lemmas.List.{take_more}
use Rattle.trace_lines.specs.StoryTexts.{members_text}
use Rattle.trace_lines.proofs.StoryGoing.{members_more}
use Rattle.trace_lines.proofs.lines.push_members.Goals as goal

pub loop-member-preserved : goal.loop-member-preserved
loop-member-preserved c =
    let group = c.args.group.now in
    let l = c.loop-member in
    members_more (string_bytes c.args.text.now) (take l.member-index group) (slice_index_or group l.member-index 0) (take (l.member-index + 1) group)
    (string_bytes l.text) (string_bytes c.write.new.self) (take_more group l.member-index 0 c.loop-member-test.true) l.invariant
    c.in_ok-write.ensures.bytes
