-- The command that `clap` parses: its subcommands, each with its files and its options.
use Rattle.std.specs.Prelude.{ℕ, pos, List, [], ◌∷◌, ◌++◌, codes, Some, true}
use Rattle.clap.specs.Words.{App, Rule, Text, new_app, new_rule, with_rule, with_subcommand}
use Rattle.clap.specs.Simple.{Shape, on_top}
use Rattle.clap.specs.declared.builder.action.ArgAction.TheVariants.{SetTrue}
use Rattle.clap.specs.declared.builder.value_parser.ValueParser.TheVariants as vp

-- ---- the options with a number

-- the name of an option, and the least and the greatest number that it takes
pub record Bounds : Type 0 where
  pub name : Text
  pub low : ℕ
  pub high : ℕ

-- an option with the number that it has if it is not given
pub record Ranged : Type 0 where
  pub bounds : Bounds
  pub default : ℕ

-- the number of stages of switches
abbrev pub stages : Ranged
stages = record { bounds = record { name = codes "k"; low = 0; high = 6 }; default = 2 }

-- the number of messages that a queue of a switch holds
abbrev pub queue : Ranged
queue = record { bounds = record { name = codes "c"; low = 2; high = 16 }; default = 4 }

-- the number of records that a wait buffer of a switch holds
abbrev pub records : Ranged
records = record { bounds = record { name = codes "b"; low = 0; high = 16 }; default = 4 }

-- how often an entry of a queue may be combined
abbrev pub combinations : Ranged
combinations = record { bounds = record { name = codes "r"; low = 1; high = 3 }; default = 1 }

-- the number of shared words
abbrev pub shared_words : Ranged
shared_words = record { bounds = record { name = codes "words"; low = 1; high = 262144 }; default = 1024 }

-- the most rounds of each thread, or steps of the sweep, in a run
abbrev pub budget : Ranged
budget = record { bounds = record { name = codes "budget"; low = 1; high = 4294967295 }; default = 10000000 }

-- the most steps of one command of a debugger, or of one run of a hunt
abbrev pub steps : Ranged
steps = record { bounds = record { name = codes "budget"; low = 1; high = 4000000 }; default = 100000 }

-- the most steps of each run of a study
abbrev pub sweep_steps : Ranged
sweep_steps = record { bounds = record { name = codes "budget"; low = 1; high = 4000000 }; default = 4000000 }

-- the port at which the program waits for a debugger
abbrev pub port : Ranged
port = record { bounds = record { name = codes "port"; low = 0; high = 65535 }; default = 3333 }

-- the number of states at which an exploration gives up
abbrev pub states : Ranged
states = record { bounds = record { name = codes "states"; low = 1; high = 4294967295 }; default = 1000000 }

-- the number of runs of a hunt
abbrev pub runs : Ranged
runs = record { bounds = record { name = codes "runs"; low = 1; high = 1000000 }; default = 1000 }

-- the start of the choices of a run's schedule
abbrev pub start : Ranged
start = record { bounds = record { name = codes "start"; low = 0; high = 4294967295 }; default = 1 }

-- the processor whose lines are printed
abbrev pub processor : Bounds
processor = record { name = codes "processor"; low = 0; high = 63 }

-- the shared word about which lines are printed
abbrev pub shared_word : Bounds
shared_word = record { name = codes "word"; low = 0; high = 262143 }

-- the number of the first line that is printed
abbrev pub first_line : Bounds
first_line = record { name = codes "from"; low = 0; high = 4294967295 }

-- the number of the last
abbrev pub last_line : Bounds
last_line = record { name = codes "to"; low = 0; high = 4294967295 }

-- the number of threads that take the runs of a hunt
abbrev pub jobs : Bounds
jobs = record { name = codes "jobs"; low = 1; high = 64 }

-- the depth of the bugs that a hunt by priorities looks for
abbrev pub depth : Bounds
depth = record { name = codes "depth"; low = 1; high = 16 }

-- the seconds after which an exploration gives up
abbrev pub seconds : Bounds
seconds = record { name = codes "seconds"; low = 1; high = 4294967295 }

-- the result with which a witness ends
abbrev pub witness : Bounds
witness = record { name = codes "witness"; low = 0; high = 4294967295 }

-- the number of steps after which the machine is drawn
abbrev pub step : Bounds
step = record { name = codes "step"; low = 0; high = 4294967295 }

-- the number of the first step of a page, and how many steps it has at most
abbrev pub first_step : Bounds
first_step = record { name = codes "from"; low = 0; high = 4294967295 }

abbrev pub step_count : Bounds
step_count = record { name = codes "steps"; low = 1; high = 500000 }

-- ---- the arguments

-- a file, which is required
abbrev pub path : Text → Rule
path id = record (new_rule id) { required = true }

-- up to four words
abbrev pub words : Text → Rule
words id = record (new_rule id) { range = Some (record { start_inclusive = 0; end_inclusive = 4 }) }

-- `--NAME TEXT`
abbrev pub option : Text → Rule
option name = record (new_rule name) { long = Some name; value_names = 1 }

-- `--NAME NUMBER`, within bounds
abbrev pub number : Bounds → Rule
number o = record (option o.name) { parser = Some (vp.Signed (pos o.low) (pos o.high)) }

-- `--NAME`
abbrev pub flag : Text → Rule
flag name = record (new_rule name) { long = Some name; action = Some SetTrue }

-- the image or the text that a command reads
abbrev pub file : Rule
file = path (codes "FILE")

-- the file with the names for addresses that a command prints or draws, or that `asm` writes for that
abbrev pub symbols : Rule
symbols = option (codes "symbols")

-- whether values are printed in decimal
abbrev pub decimal : Rule
decimal = flag (codes "decimal")

-- whether lines are printed as JSON
abbrev pub json : Rule
json = flag (codes "json")

-- whether a text is a course text
abbrev pub course : Rule
course = flag (codes "course")

-- the sizes of a machine
abbrev pub sizes : List Rule
sizes = number stages.bounds ∷ number queue.bounds ∷ number records.bounds ∷ number combinations.bounds
    ∷ number shared_words.bounds ∷ []

-- a trace, the image of its run, and the number of shared words
abbrev pub replay : List Rule
replay = path (codes "TRACE") ∷ file ∷ number shared_words.bounds ∷ []

-- the same, which of its numbered lines are printed, and the names in them
abbrev pub lines : List Rule
lines = replay ++ (number processor ∷ number shared_word ∷ number first_line ∷ number last_line ∷ symbols ∷ [])

-- ---- the commands

abbrev pub with_rules : List Rule → App → App
with_rules [] a = a
with_rules (r ∷ rs) a = with_rules rs (with_rule a r)

-- a command, with its arguments in their order
abbrev pub command : Text → List Rule → App
command name rules = with_rules rules (new_app name)

unfoldable pub words_command : App
words_command = command (codes "words") (file ∷ [])

unfoldable pub check_command : App
check_command = command (codes "check") (file ∷ course ∷ json ∷ [])

unfoldable pub asm_command : App
asm_command = command (codes "asm") (file ∷ path (codes "OUT") ∷ course ∷ symbols ∷ [])

unfoldable pub dis_command : App
dis_command = command (codes "dis")
    (file ∷ flag (codes "comments") ∷ symbols ∷ flag (codes "abi") ∷ number shared_words.bounds ∷ [])

unfoldable pub run_command : App
run_command = command (codes "run")
    (file ∷ option (codes "trace") ∷ flag (codes "sweep") ∷ flag (codes "no-log") ∷ flag (codes "unfinished")
    ∷ flag (codes "quiet") ∷ symbols ∷ decimal ∷ json ∷ (sizes ++ (number budget.bounds ∷ number start.bounds ∷ [])))

unfoldable pub hunt_command : App
hunt_command = command (codes "hunt")
    (file ∷ option (codes "trace") ∷ option (codes "page") ∷ option (codes "observe") ∷ option (codes "schedule")
    ∷ flag (codes "overwrite") ∷ flag (codes "expect-one") ∷ flag (codes "quiet") ∷ symbols ∷ decimal ∷ json
    ∷ (sizes
    ++ (number steps.bounds ∷ number runs.bounds ∷ number start.bounds ∷ number jobs ∷ number depth ∷ [])))

unfoldable pub explore_command : App
explore_command = command (codes "explore")
    (file ∷ option (codes "trace") ∷ option (codes "page") ∷ option (codes "observe") ∷ option (codes "filter")
    ∷ option (codes "against") ∷ option (codes "never") ∷ option (codes "always") ∷ option (codes "finally")
    ∷ flag (codes "each") ∷ flag (codes "fair") ∷ flag (codes "every") ∷ flag (codes "quiet") ∷ symbols ∷ decimal ∷ json
    ∷ (sizes ++ (number states.bounds ∷ number seconds ∷ number witness ∷ [])))

unfoldable pub replay_command : App
replay_command = command (codes "replay") (replay ++ (symbols ∷ decimal ∷ json ∷ []))

unfoldable pub order_command : App
order_command = command (codes "order") (lines ++ (flag (codes "abi") ∷ decimal ∷ json ∷ []))

unfoldable pub story_command : App
story_command = command (codes "story")
    (lines ++ (flag (codes "network") ∷ flag (codes "rounds") ∷ decimal ∷ json ∷ []))

unfoldable pub stats_command : App
stats_command = command (codes "stats") (replay
    ++ (flag (codes "latency") ∷ flag (codes "queues") ∷ flag (codes "csv") ∷ json ∷ []))

unfoldable pub picture_command : App
picture_command = command (codes "picture") (replay ++ (number step ∷ symbols ∷ []))

unfoldable pub page_command : App
page_command = command (codes "page") (replay ++ (number first_step ∷ number step_count ∷ symbols ∷ []))

unfoldable pub study_command : App
study_command = command (codes "study")
    (file ∷ option (codes "k") ∷ option (codes "b") ∷ option (codes "r") ∷ option (codes "plot") ∷ flag (codes "csv")
    ∷ json ∷ number queue.bounds ∷ number shared_words.bounds ∷ number sweep_steps.bounds ∷ [])

unfoldable pub trace_command : App
trace_command = command (codes "trace") (path (codes "TRACE") ∷ [])

unfoldable pub steps_command : App
steps_command = command (codes "steps") (file ∷ path (codes "OUT") ∷ [])

unfoldable pub debug_command : App
debug_command = command (codes "debug")
    (file ∷ option (codes "trace") ∷ flag (codes "stdio") ∷ (sizes ++ (number steps.bounds ∷ number port.bounds ∷ [])))

unfoldable pub explain_command : App
explain_command = command (codes "explain") (words (codes "CODE") ∷ [])

-- the program, which has a version and requires a subcommand
abbrev pub program : App
program = on_top (λ s. record s { has_version = true; subcommand_required = true }) (new_app (codes "ultra"))

abbrev pub with_subcommands : List Shape → App → App
with_subcommands [] a = a
with_subcommands (s ∷ ss) a = with_subcommands ss (with_subcommand a s)

-- the program with all its subcommands, none of which has subcommands of its own
unfoldable pub ultra_command : App
ultra_command = with_subcommands (
    words_command.top
    ∷ check_command.top
    ∷ asm_command.top
    ∷ dis_command.top
    ∷ run_command.top
    ∷ hunt_command.top
    ∷ explore_command.top
    ∷ replay_command.top
    ∷ order_command.top
    ∷ story_command.top
    ∷ stats_command.top
    ∷ picture_command.top
    ∷ page_command.top
    ∷ study_command.top
    ∷ trace_command.top
    ∷ steps_command.top
    ∷ debug_command.top
    ∷ explain_command.top
    ∷ []) program
