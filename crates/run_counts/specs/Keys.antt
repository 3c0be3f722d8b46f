-- Which count each step increases.
use Rattle.std.specs.Prelude.{ℕ, ◌+◌, ◌*◌, Option, Some, None, nat_lt, if◌then◌else◌}
use Rattle.steps.specs.declared.step.Step.{Step}
use Rattle.steps.specs.declared.step.Step.TheVariants as step
use Rattle.steps.specs.declared.step.Outcome.{Outcome}
use Rattle.steps.specs.declared.step.Outcome.TheVariants.{Retired, Issued, Moved, Combined, Served, Answered}

-- the kind of a step: a turn, a move of a request, a service, a move of a reply, or a write from outside
abbrev pub kind : Step → Option ℕ
kind (step.Turn p) = Some 0
kind (step.Up s w) = Some 1
kind (step.Serve m) = Some 2
kind (step.Down s w) = Some 3
kind (step.Poke q) = Some 4

-- the processor of a turn
abbrev pub turn : Step → Option ℕ
turn (step.Turn p) = Some p
turn _ = None

-- the stage of a request's move
abbrev pub rise : Step → Option ℕ
rise (step.Up s w) = Some s
rise _ = None

-- the module of a service
abbrev pub service : Step → Option ℕ
service (step.Serve m) = Some m
service _ = None

-- the stage of a reply's move
abbrev pub return : Step → Option ℕ
return (step.Down s w) = Some s
return _ = None

-- the processor whose instruction retired
abbrev pub retired : Step → Outcome → Option ℕ
retired s (Retired r) = turn s
retired s _ = None

-- the processor whose request was sent
abbrev pub issued : Step → Outcome → Option ℕ
issued s Issued = turn s
issued s _ = None

-- the stage through which a request moved without being combined
abbrev pub moved : Step → Outcome → Option ℕ
moved s Moved = rise s
moved s _ = None

-- the stage at which a request was combined into another
abbrev pub combined : Step → Outcome → Option ℕ
combined s (Combined first second) = rise s
combined s _ = None

-- the stage through which a reply moved without being split
abbrev pub returned : Step → Outcome → Option ℕ
returned s Moved = return s
returned s _ = None

-- the stage at which a reply was split
abbrev pub split : Step → Outcome → Option ℕ
split s (Answered to) = return s
split s _ = None

-- the place of a group of this size at a module, in the table of all modules and sizes
abbrev pub place_of : (size : ℕ) → Option ℕ → Option ℕ
place_of size None = None
place_of size (Some m) = if nat_lt size 65 then Some (m * 65 + size) else None

-- the place of the module that served and the size of its group, in that table
abbrev pub group : Step → Outcome → (size : ℕ) → Option ℕ
group s (Served leader) size = place_of size (service s)
group s _ size = None
