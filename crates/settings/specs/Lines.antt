-- The settings for the words of a command line.
use Rattle.std.specs.Prelude.{◌≡◌, ◌≤◌, ◌↔◌, ℕ, pos, Bool, true, List, [], codes, Option, Some, None, option_map}
use Rattle.std.specs.Prelude.{unwrap_or, IsSomeAnd, MatchOption}
use Rattle.std.specs.Borrow.{Bor}
use Rattle.std.specs.Str.Parse.{signed_digits_value}
use Rattle.clap.specs.Words.{Row, Text, all_of, first_of, subcommand_of}
use Rattle.settings.specs.Plain.{texts_of}
use Rattle.settings.specs.declared.choice.Settings.{Settings}
use Rattle.settings.specs.declared.choice.Settings.TheVariants as asked
use Rattle.settings.specs.declared.choice.Words.{Words}
use Rattle.settings.specs.declared.choice.Check.{Check}
use Rattle.settings.specs.declared.choice.Asm.{Asm}
use Rattle.settings.specs.declared.choice.Dis.{Dis}
use Rattle.settings.specs.declared.choice.Run.{Run}
use Rattle.settings.specs.declared.choice.Hunt.{Hunt}
use Rattle.settings.specs.declared.choice.Explore.{Explore}
use Rattle.settings.specs.declared.choice.Replay.{Replay}
use Rattle.settings.specs.declared.choice.Report.{Report}
use Rattle.settings.specs.declared.choice.LineStyle.{LineStyle}
use Rattle.settings.specs.declared.choice.Lines.{Lines}
use Rattle.settings.specs.declared.choice.Order.{Order}
use Rattle.settings.specs.declared.choice.Story.{Story}
use Rattle.settings.specs.declared.choice.Counts.{Counts}
use Rattle.settings.specs.declared.choice.Page.{Page}
use Rattle.settings.specs.declared.choice.Picture.{Picture}
use Rattle.settings.specs.declared.choice.Study.{Study}
use Rattle.settings.specs.declared.choice.Trace.{Trace}
use Rattle.settings.specs.declared.choice.Schedule.{Schedule}
use Rattle.settings.specs.declared.choice.Session.{Session}
use Rattle.settings.specs.declared.choice.Explain.{Explain}
use Rattle.settings.specs.declared.choice.Sizes.{Sizes}
use Rattle.command_forms.specs.Commands.{Bounds, Ranged, stages, queue, records, combinations, shared_words}
use Rattle.command_forms.specs.Commands.{budget, steps, port, seconds, states, runs, start, processor, shared_word}
use Rattle.command_forms.specs.Commands.{depth, jobs, witness, step, first_step, step_count, first_line, last_line}
use Rattle.command_forms.specs.Commands.{sweep_steps, ultra_command}

abbrev pub IsPath : Text → List Row → Text → Type 0
IsPath id rows file = first_of id rows ≡ Some file

-- The text is that of an optional argument.
abbrev pub IsOption : Text → List Row → Option (Bor Text) → Type 0
IsOption id rows text = first_of id rows ≡ option_map (λ t. t.now) text

-- The flag is set exactly if its entry is `true`. The entry of a flag that is not given is `false`.
abbrev pub IsFlag : Text → List Row → Bool → Type 0
IsFlag id rows is_set = (is_set ≡ true) ↔ (first_of id rows ≡ Some (codes "true"))

-- The number is the one that the option's text spells, or the default if there is no text, and it is in the range.
abbrev pub IsNumber : Ranged → List Row → ℕ → Type 0
IsNumber o rows n = MatchOption (first_of o.bounds.name rows) (n ≡ o.default)
    (λ text. pos n ≡ signed_digits_value 10 text) × (o.bounds.low ≤ n)
    × (n ≤ o.bounds.high)

-- The number is the one that the option's text spells, and it is in the range. There is none if there is no text.
abbrev pub IsChoice : Bounds → List Row → Option ℕ → Type 0
IsChoice o rows n = MatchOption (first_of o.name rows) (n ≡ None)
    (λ text. IsSomeAnd n (λ m. (pos m ≡ signed_digits_value 10 text) × (o.low ≤ m) × (m ≤ o.high)))

-- The sizes are those that the options give.
abbrev pub AreSizes : List Row → Sizes → Type 0
AreSizes rows s = IsNumber stages rows s.k × IsNumber queue rows s.c × IsNumber records rows s.b
    × IsNumber combinations rows s.r
    × IsNumber shared_words rows s.words

-- How lines are printed is what the options say.
abbrev pub GivesStyle : List Row → LineStyle → Type 0
GivesStyle rows y = IsOption (codes "symbols") rows y.symbols × IsFlag (codes "decimal") rows y.decimal
    × IsFlag (codes "json") rows y.json

abbrev pub GivesWords : List Row → Words → Type 0
GivesWords rows w = IsPath (codes "FILE") rows w.file.now

abbrev pub GivesCheck : List Row → Check → Type 0
GivesCheck rows c = IsPath (codes "FILE") rows c.file.now × IsFlag (codes "course") rows c.course
    × IsFlag (codes "json") rows c.json

abbrev pub GivesAsm : List Row → Asm → Type 0
GivesAsm rows a = IsPath (codes "FILE") rows a.file.now × IsPath (codes "OUT") rows a.out.now
    × IsFlag (codes "course") rows a.course × IsOption (codes "symbols") rows a.symbols

abbrev pub GivesDis : List Row → Dis → Type 0
GivesDis rows d = IsPath (codes "FILE") rows d.file.now × IsFlag (codes "comments") rows d.comments
    × IsOption (codes "symbols") rows d.symbols × IsFlag (codes "abi") rows d.abi × IsNumber shared_words rows d.words

abbrev pub GivesRun : List Row → Run → Type 0
GivesRun rows r = IsPath (codes "FILE") rows r.file.now
    × IsOption (codes "trace") rows r.trace × IsFlag (codes "sweep") rows r.sweep
    × IsFlag (codes "no-log") rows r.no_log × IsFlag (codes "unfinished") rows r.unfinished
    × IsFlag (codes "quiet") rows r.quiet × GivesStyle rows r.style × AreSizes rows r.sizes
    × IsNumber budget rows r.budget × IsNumber start rows r.start

abbrev pub GivesHunt : List Row → Hunt → Type 0
GivesHunt rows h = IsPath (codes "FILE") rows h.file.now
    × IsOption (codes "trace") rows h.trace × IsOption (codes "page") rows h.page
    × IsOption (codes "observe") rows h.observe × IsOption (codes "schedule") rows h.schedule
    × IsFlag (codes "overwrite") rows h.overwrite × IsFlag (codes "expect-one") rows h.expect_one
    × IsFlag (codes "quiet") rows h.quiet × GivesStyle rows h.style × AreSizes rows h.sizes
    × IsNumber steps rows h.budget × IsNumber runs rows h.runs × IsNumber start rows h.start
    × IsChoice jobs rows h.jobs × IsChoice depth rows h.depth

abbrev pub GivesExplore : List Row → Explore → Type 0
GivesExplore rows x = IsPath (codes "FILE") rows x.file.now
    × IsOption (codes "trace") rows x.trace × IsOption (codes "page") rows x.page
    × IsOption (codes "observe") rows x.observe × IsOption (codes "against") rows x.against
    × IsFlag (codes "each") rows x.each × IsFlag (codes "fair") rows x.fair × IsFlag (codes "every") rows x.every
    × IsFlag (codes "quiet") rows x.quiet × GivesStyle rows x.style × AreSizes rows x.sizes
    × IsNumber states rows x.states × IsChoice seconds rows x.seconds × IsChoice witness rows x.witness
    × IsOption (codes "never") rows x.never × IsOption (codes "always") rows x.always
    × IsOption (codes "finally") rows x.finally × IsOption (codes "filter") rows x.filter

abbrev pub GivesReplay : List Row → Replay → Type 0
GivesReplay rows r = IsPath (codes "TRACE") rows r.trace.now × IsPath (codes "FILE") rows r.file.now
    × IsNumber shared_words rows r.words

abbrev pub GivesReport : List Row → Report → Type 0
GivesReport rows r = GivesReplay rows r.replay × GivesStyle rows r.style

abbrev pub GivesLines : List Row → Lines → Type 0
GivesLines rows l = GivesReplay rows l.replay × IsChoice processor rows l.processor × IsChoice shared_word rows l.word
    × IsChoice first_line rows l.from × IsChoice last_line rows l.to × GivesStyle rows l.style

abbrev pub GivesOrder : List Row → Order → Type 0
GivesOrder rows o = GivesLines rows o.lines × IsFlag (codes "abi") rows o.abi

abbrev pub GivesStory : List Row → Story → Type 0
GivesStory rows s = GivesLines rows s.lines × IsFlag (codes "network") rows s.network
    × IsFlag (codes "rounds") rows s.rounds

abbrev pub GivesCounts : List Row → Counts → Type 0
GivesCounts rows c = GivesReplay rows c.replay × IsFlag (codes "latency") rows c.latency
    × IsFlag (codes "queues") rows c.queues × IsFlag (codes "csv") rows c.csv × IsFlag (codes "json") rows c.json

abbrev pub GivesPicture : List Row → Picture → Type 0
GivesPicture rows p = GivesReplay rows p.replay × IsChoice step rows p.step × IsOption (codes "symbols") rows p.symbols

abbrev pub GivesPage : List Row → Page → Type 0
GivesPage rows p = GivesReplay rows p.replay × IsChoice first_step rows p.from × IsChoice step_count rows p.steps
    × IsOption (codes "symbols") rows p.symbols

abbrev pub GivesStudy : List Row → Study → Type 0
GivesStudy rows s = IsPath (codes "FILE") rows s.file.now
    × IsOption (codes "k") rows s.ks × IsOption (codes "b") rows s.bs × IsOption (codes "r") rows s.rs
    × IsOption (codes "plot") rows s.plot × IsFlag (codes "csv") rows s.csv × IsFlag (codes "json") rows s.json
    × IsNumber queue rows s.c × IsNumber shared_words rows s.words × IsNumber sweep_steps rows s.budget

abbrev pub GivesTrace : List Row → Trace → Type 0
GivesTrace rows t = IsPath (codes "TRACE") rows t.trace.now

abbrev pub GivesSchedule : List Row → Schedule → Type 0
GivesSchedule rows s = IsPath (codes "FILE") rows s.file.now × IsPath (codes "OUT") rows s.out.now

abbrev pub GivesSession : List Row → Session → Type 0
GivesSession rows d = IsPath (codes "FILE") rows d.file.now
    × IsOption (codes "trace") rows d.trace × IsFlag (codes "stdio") rows d.stdio
    × AreSizes rows d.sizes × IsNumber steps rows d.budget × IsNumber port rows d.port

abbrev pub GivesExplain : List Row → Explain → Type 0
GivesExplain rows e = texts_of e.words.items ≡ unwrap_or (all_of (codes "CODE") rows) []

-- the name of the command that the settings are of
abbrev pub name_of : Settings → Text
name_of (asked.Words w) = codes "words"
name_of (asked.Check c) = codes "check"
name_of (asked.Asm a) = codes "asm"
name_of (asked.Dis d) = codes "dis"
name_of (asked.Run r) = codes "run"
name_of (asked.Hunt h) = codes "hunt"
name_of (asked.Explore x) = codes "explore"
name_of (asked.Replay r) = codes "replay"
name_of (asked.Order o) = codes "order"
name_of (asked.Story s) = codes "story"
name_of (asked.Stats c) = codes "stats"
name_of (asked.Picture p) = codes "picture"
name_of (asked.Page p) = codes "page"
name_of (asked.Study s) = codes "study"
name_of (asked.Trace t) = codes "trace"
name_of (asked.Steps s) = codes "steps"
name_of (asked.Debug d) = codes "debug"
name_of (asked.Explain e) = codes "explain"

-- The settings are those that the rows give.
abbrev pub Gives : List Row → Settings → Type 0
Gives rows (asked.Words w) = GivesWords rows w
Gives rows (asked.Check c) = GivesCheck rows c
Gives rows (asked.Asm a) = GivesAsm rows a
Gives rows (asked.Dis d) = GivesDis rows d
Gives rows (asked.Run r) = GivesRun rows r
Gives rows (asked.Hunt h) = GivesHunt rows h
Gives rows (asked.Explore x) = GivesExplore rows x
Gives rows (asked.Replay r) = GivesReport rows r
Gives rows (asked.Order o) = GivesOrder rows o
Gives rows (asked.Story s) = GivesStory rows s
Gives rows (asked.Stats c) = GivesCounts rows c
Gives rows (asked.Picture p) = GivesPicture rows p
Gives rows (asked.Page p) = GivesPage rows p
Gives rows (asked.Study s) = GivesStudy rows s
Gives rows (asked.Trace t) = GivesTrace rows t
Gives rows (asked.Steps s) = GivesSchedule rows s
Gives rows (asked.Debug d) = GivesSession rows d
Gives rows (asked.Explain e) = GivesExplain rows e

-- The settings are those of the subcommand and its rows.
abbrev pub IsChosen : Option (Text × List Row) → Settings → Type 0
IsChosen stop s = (rows : List Row) × (stop ≡ Some (name_of s, rows)) × Gives rows s

-- The settings are those of the words.
abbrev pub IsAsked : List Text → Settings → Type 0
IsAsked words = IsChosen (subcommand_of ultra_command words)
