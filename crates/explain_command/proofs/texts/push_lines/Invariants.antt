use Rattle.std.proofs.Common.{◌≡◌, ◌++◌, drop}
use Rattle.std.specs.Prelude.{string_bytes}
use Rattle.explain_command.specs.Topics.{lines_of}
use Rattle.explain_command.proofs.texts.push_lines.Given as goal

abbrev pub invariant-loop-topic : goal.invariant-loop-topic
invariant-loop-topic l =
    string_bytes l.initial.text ++ lines_of l.topics ≡ string_bytes l.text ++ lines_of (drop l.topic-index l.topics)
