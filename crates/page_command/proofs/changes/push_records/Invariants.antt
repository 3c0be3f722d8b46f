use Rattle.std.proofs.Common.{◌≡◌, ◌++◌, take, flat_map}
use Rattle.std.specs.Prelude.{string_bytes}
use Rattle.page_command.specs.Changes.{record_item}
use Rattle.page_command.proofs.changes.push_records.Given as goal

abbrev pub invariant-loop-kept : goal.invariant-loop-kept
invariant-loop-kept l =
    string_bytes l.text ≡ string_bytes l.initial.text ++ flat_map record_item (take l.kept-index l.records)
