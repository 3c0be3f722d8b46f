use Rattle.std.proofs.Common.{◌≡◌, ◌++◌, drop, map}
use Rattle.asm_commands.specs.Courses.{view_of, course_faults}
use Rattle.asm_commands.specs.CourseViews.{lines_view}
use Rattle.asm_commands.proofs.course_faults.course_faults.Given as goal

abbrev pub invariant-loop-fault : goal.invariant-loop-fault
invariant-loop-fault l =
    map view_of l.listed.items ++ course_faults (lines_view l.lines) l.last (drop l.fault-index l.faults) ≡ course_faults (lines_view l.lines) 0 l.faults
