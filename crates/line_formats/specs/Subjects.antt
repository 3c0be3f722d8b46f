-- What the code knows of what a row is about.
use Rattle.std.specs.Prelude.{ℕ, List}
use Rattle.line_formats.specs.declared.csv.Subject.{Subject}

-- what a row is about
abbrev pub about : Subject → List ℕ × List ℕ
about subject = (subject.name.now, subject.number.now)
