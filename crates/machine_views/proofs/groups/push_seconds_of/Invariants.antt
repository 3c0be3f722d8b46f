use Rattle.std.proofs.Common.{◌≡◌, ◌++◌, take}
use Rattle.machine_views.specs.Groups.{seconds_in}
use Rattle.machine_views.proofs.groups.push_seconds_of.Given as goal

abbrev pub invariant-loop-record : goal.invariant-loop-record
invariant-loop-record l = l.all.items ≡ l.initial.all.items ++ seconds_in l.leader (take l.record-index l.records)
