-- The lines of a course text, as the code keeps them.
use Rattle.assembler.specs.Passes.{nows}
use Rattle.asm_commands.specs.declared.course_faults.CourseLines.{CourseLines}
use Rattle.asm_commands.specs.Courses.{Lines}

abbrev pub lines_view : CourseLines → Lines
lines_view ls = record { course = nows ls.course.now; plain = nows ls.plain.now; origins = ls.origins.now }
