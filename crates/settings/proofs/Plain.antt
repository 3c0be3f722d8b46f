-- The command lines without options.
use Rattle.std.proofs.Common.{◌≡◌, ◌∙◌, ◌==◌, ◌↔◌, Bool, true, false, true≢false, refl, sym, ap, subst, inl, inr, arith}
use Rattle.std.proofs.Common.{List, [], ◌∷◌, map, Option, None, Some, Result, Ok, Err, IfOk, MatchResult, codes}
use Rattle.std.proofs.Common.{option_map}
use Rattle.std.specs.Borrow.{Bor}
use Rattle.std.specs.Str.{bytes_eq}
use Rattle.std.proofs.lemmas.Bool.Decides.{nat_tests}
use Rattle.std.proofs.lemmas.Slice.Eq.{bytes_eq-Decides}
use Rattle.clap.specs.Lexer.{strip_byte}
use Rattle.clap.specs.Kinds.{FailsBy, HasKind}
use Rattle.clap.specs.Words.{Row, Text, fault_of, kind_of, subcommand_of}
use Rattle.clap.specs.declared.builder.value_parser.Reading.TheVariants.{AsWritten}
use Rattle.clap.specs.declared.parser.matches.ValueSource.{ValueSource}
use Rattle.clap.specs.declared.parser.matches.ValueSource.TheVariants.{CommandLine, DefaultValue}
use Rattle.clap.specs.declared.error.Error.{Error}
use Rattle.clap.specs.declared.error.kind.ErrorKind.TheVariants.{OutOfMemory}
use Rattle.settings.specs.declared.choice.Settings.{Settings}
use Rattle.settings.specs.declared.choice.Settings.TheVariants as asked
use Rattle.clap.proofs.OnLiterals.{clap_on_literals}
use Rattle.settings.specs.declared.choice.Explain.{Explain}
use Rattle.settings.specs.declared.choice.LineStyle.{LineStyle}
use Rattle.settings.specs.declared.choice.Replay.{Replay}
use Rattle.settings.specs.Lines.{Gives, IsAsked, IsChosen, GivesExplain, name_of}
use Rattle.command_forms.specs.Commands.{ultra_command}
use Rattle.settings.specs.Plain.{HasFile, HasFiles, HasOthers, HasTrace, IsAsItIs, IsNoOption, IsPlain, texts_of}
use Rattle.command_forms.proofs.Lemmas.{commands}

no_hyphen : (file : Text) → IsNoOption file → strip_byte 45 file ≡ None
no_hyphen [] h = refl
no_hyphen (x ∷ xs) h =
    let e : (x == 45) ≡ false = grind (arith, nat_tests) in
    rw e refl

no_hyphens : (file : Text) → IsNoOption file → bytes_eq file (45 ∷ 45 ∷ []) ≡ false
no_hyphens file h = go (bytes_eq file (45 ∷ 45 ∷ [])) refl
  where
    begins : (text : Text) → text ≡ 45 ∷ 45 ∷ [] → IsNoOption text → ⊥
    begins text e h = rw e at h refl

    go : (b : Bool) → bytes_eq file (45 ∷ 45 ∷ []) ≡ b → b ≡ false
    go false is = refl
    go true is = absurd (begins file ((bytes_eq-Decides file (45 ∷ 45 ∷ [])).0 is) h)

-- ---- the subcommand and its rows

same_pair : (x y : Text × List Row) → Some x ≡ Some y → x ≡ y
same_pair x y e = cc

-- If the subcommand and its rows are known, the settings are those of that subcommand and its rows.
chosen_as : (stop : Option (Text × List Row)) (name : Text) (rows : List Row) (s : Settings) → stop ≡ Some (name, rows) → IsChosen stop s →
    (name_of s ≡ name) × Gives rows s
chosen_as stop name rows s is chosen =
    let pair = same_pair (name_of s, chosen.0) (name, rows) (sym chosen.1 ∙ is) in
    (ap (λ (p : Text × List Row). p.0) pair, subst (λ them. Gives them s) (ap (λ (p : Text × List Row). p.1) pair) chosen.2)

-- Texts with different bytes are different.
apart : {P : Type 0} (x y : Text) → bytes_eq x y ≡ false → x ≡ y → P
apart x y not e = absurd (true≢false (sym ((bytes_eq-Decides x y).1 e) ∙ not))

-- ---- from the words to the settings

-- The words have no fault, and give these rows to this subcommand.
abbrev Meets : List Text → Text → List Row → Type 0
Meets words name rows = (fault_of ultra_command words ≡ []) × (subcommand_of ultra_command words ≡ Some (name, rows))

-- The words give settings with the property Q, unless out of memory.
abbrev Give : List Text → (Settings → Type 0) → Type 0
Give words Q = (r : Result Settings Error) → IfOk r (IsAsked words) → FailsBy (fault_of ultra_command words) r → MatchResult r Q (λ e. kind_of e ≡ OutOfMemory)

give : (Q : Settings → Type 0) (words : List Text) (name : Text) (rows : List Row) → Meets words name rows
    → ((s : Settings) → (name_of s ≡ name) × Gives rows s → Q s) → Give words Q
give Q words name rows met are (Ok s) chosen kinds = are s (chosen_as (subcommand_of ultra_command words) name rows s met.1 chosen)
give Q words name rows met are (Err e) chosen kinds = go (rw met.0 at kinds)
  where
    go : HasKind [] e → kind_of e ≡ OutOfMemory
    go (inl memory) = memory
    go (inr among) = absurd among

-- The words give settings that they say plainly.
abbrev GivePlain : List Text → Type 0
GivePlain words = Give words (λ given. IsPlain given words)

-- an argument with its one value
row : Text → Text → ValueSource → Row
row id value source = record { id = id; values = value ∷ []; count = None; source = Some source; reading = AsWritten }

-- flags that are not given
unset_flags : List Text → List Row
unset_flags = map (λ name. row name (codes "false") DefaultValue)

-- Two texts that are both present and equal are the same.
same_text : (x y : Text) → Some x ≡ Some y → x ≡ y
same_text x y e = cc

-- Words that name a file name the file that is read.
file_read : {command : Text} (file read : Text) (words : List Text) → HasFile command file words → Some file ≡ Some read → HasFile command read words
file_read {command} file read words named e = subst (λ f. HasFile command f words) (same_text file read e) named

-- Words that name two files name both files that are read.
files_read : {command : Text} (one read other second : Text) (words : List Text) → HasFiles command one other words → Some one ≡ Some read →
    Some other ≡ Some second → HasFiles command read second words
files_read {command} one read other second words named e f =
    subst (λ g. HasFiles command g second words) (same_text one read e) (subst (λ g. HasFiles command one g words) (same_text other second f) named)

no_text : (o : Option (Bor Text)) → None ≡ option_map (λ t. t.now) o → o ≡ None
no_text None e = refl
no_text (Some t) e = cc

unset : (b : Bool) → (b ≡ true → Some (codes "false") ≡ Some (codes "true")) → b ≡ false
unset false f = refl
unset true f = let bad : Some (codes "false") ≡ Some (codes "true") = f refl in cc

-- No names, no decimal values and no JSON are asked for.
as_it_is : (y : LineStyle)
    → (None ≡ option_map (λ t. t.now) y.symbols) × ((y.decimal ≡ true) ↔ (Some (codes "false") ≡ Some (codes "true")))
    × ((y.json ≡ true) ↔ (Some (codes "false") ≡ Some (codes "true")))
    → IsAsItIs y
as_it_is y said = (no_text y.symbols said.0, unset y.decimal said.1.0, unset y.json said.2.0)

-- ---- the commands with one file

data OnFile : Type 0 where
  OfWords : OnFile
  OfCheck : OnFile
  OfDis : OnFile
  OfRun : OnFile
  OfHunt : OnFile
  OfExplore : OnFile
  OfStudy : OnFile
  OfTrace : OnFile
  OfDebug : OnFile

abbrev name_on_file : OnFile → Text
name_on_file OfWords = codes "words"
name_on_file OfCheck = codes "check"
name_on_file OfDis = codes "dis"
name_on_file OfRun = codes "run"
name_on_file OfHunt = codes "hunt"
name_on_file OfExplore = codes "explore"
name_on_file OfStudy = codes "study"
name_on_file OfTrace = codes "trace"
name_on_file OfDebug = codes "debug"

abbrev flags_on_file : OnFile → List Text
flags_on_file OfWords = []
flags_on_file OfCheck = codes "course" ∷ codes "json" ∷ []
flags_on_file OfDis = codes "comments" ∷ codes "abi" ∷ []
flags_on_file OfRun = codes "sweep" ∷ codes "no-log" ∷ codes "unfinished" ∷ codes "quiet" ∷ codes "decimal" ∷ codes "json" ∷ []
flags_on_file OfHunt = codes "overwrite" ∷ codes "expect-one" ∷ codes "quiet" ∷ codes "decimal" ∷ codes "json" ∷ []
flags_on_file OfExplore = codes "each" ∷ codes "fair" ∷ codes "every" ∷ codes "quiet" ∷ codes "decimal" ∷ codes "json" ∷ []
flags_on_file OfStudy = codes "csv" ∷ codes "json" ∷ []
flags_on_file OfTrace = []
flags_on_file OfDebug = codes "stdio" ∷ []

-- what the help calls the file
abbrev id_on_file : OnFile → Text
id_on_file OfTrace = codes "TRACE"
id_on_file c = codes "FILE"

-- the file, and no flag
file_rows : OnFile → (file : Text) → List Row
file_rows c file = row (id_on_file c) file CommandLine ∷ unset_flags (flags_on_file c)

file_met : (c : OnFile) (program file : Text) → IsNoOption file → Meets (program ∷ name_on_file c ∷ file ∷ []) (name_on_file c) (file_rows c file)
unfolding row unset_flags file_rows clap_on_literals commands
file_met OfWords program file h = rw (no_hyphens file h, no_hyphen file h, no_hyphen file h) (refl, refl)
file_met OfCheck program file h = rw (no_hyphens file h, no_hyphen file h, no_hyphen file h) (refl, refl)
file_met OfDis program file h = rw (no_hyphens file h, no_hyphen file h, no_hyphen file h) (refl, refl)
file_met OfRun program file h = rw (no_hyphens file h, no_hyphen file h, no_hyphen file h) (refl, refl)
file_met OfHunt program file h = rw (no_hyphens file h, no_hyphen file h, no_hyphen file h) (refl, refl)
file_met OfExplore program file h = rw (no_hyphens file h, no_hyphen file h, no_hyphen file h) (refl, refl)
file_met OfStudy program file h = rw (no_hyphens file h, no_hyphen file h, no_hyphen file h) (refl, refl)
file_met OfTrace program file h = rw (no_hyphens file h, no_hyphen file h, no_hyphen file h) (refl, refl)
file_met OfDebug program file h = rw (no_hyphens file h, no_hyphen file h, no_hyphen file h) (refl, refl)

file_are : (c : OnFile) (file : Text) (words : List Text) → HasFile (name_on_file c) file words → (s : Settings)
    → (name_of s ≡ name_on_file c) × Gives (file_rows c file) s → IsPlain s words
unfolding row unset_flags file_rows
file_are OfWords file words named (asked.Words w) said = file_read file w.file.now words named said.1
file_are OfCheck file words named (asked.Check c) said = (file_read file c.file.now words named said.1.0, unset c.course said.1.1.0, unset c.json said.1.2.0)
file_are OfDis file words named (asked.Dis d) said =
    let shared = said.1.4 in
    (file_read file d.file.now words named said.1.0, unset d.comments said.1.1.0, no_text d.symbols said.1.2, unset d.abi said.1.3.0, shared.0)
file_are OfRun file words named (asked.Run r) said =
    let sizes = said.1.7 in
    let budget = said.1.8 in
    let start = said.1.9 in (
      file_read file r.file.now words named said.1.0,
      no_text r.trace said.1.1,
      unset r.sweep said.1.2.0,
      unset r.no_log said.1.3.0,
      unset r.unfinished said.1.4.0,
      unset r.quiet said.1.5.0,
      as_it_is r.style said.1.6,
      (sizes.0.0, sizes.1.0, sizes.2.0, sizes.3.0, sizes.4.0),
      budget.0,
      start.0,
    )
file_are OfHunt file words named (asked.Hunt h) said =
    let sizes = said.1.9 in
    let budget = said.1.10 in
    let runs = said.1.11 in
    let start = said.1.12 in (
      file_read file h.file.now words named said.1.0,
      no_text h.trace said.1.1,
      no_text h.page said.1.2,
      no_text h.observe said.1.3,
      no_text h.schedule said.1.4,
      unset h.overwrite said.1.5.0,
      unset h.expect_one said.1.6.0,
      unset h.quiet said.1.7.0,
      as_it_is h.style said.1.8,
      (sizes.0.0, sizes.1.0, sizes.2.0, sizes.3.0, sizes.4.0),
      budget.0,
      runs.0,
      start.0,
      said.1.13,
      said.1.14,
    )
file_are OfExplore file words named (asked.Explore x) said =
    let sizes = said.1.10 in
    let states = said.1.11 in (
      file_read file x.file.now words named said.1.0,
      no_text x.trace said.1.1,
      no_text x.page said.1.2,
      no_text x.observe said.1.3,
      no_text x.against said.1.4,
      unset x.each said.1.5.0,
      unset x.fair said.1.6.0,
      unset x.every said.1.7.0,
      unset x.quiet said.1.8.0,
      as_it_is x.style said.1.9,
      (sizes.0.0, sizes.1.0, sizes.2.0, sizes.3.0, sizes.4.0),
      states.0,
      said.1.12,
      said.1.13,
      no_text x.never said.1.14,
      no_text x.always said.1.15,
      no_text x.finally said.1.16,
      no_text x.filter said.1.17,
    )
file_are OfStudy file words named (asked.Study s) said =
    let queue = said.1.7 in
    let shared = said.1.8 in
    let budget = said.1.9 in (
      file_read file s.file.now words named said.1.0,
      no_text s.ks said.1.1,
      no_text s.bs said.1.2,
      no_text s.rs said.1.3,
      no_text s.plot said.1.4,
      unset s.csv said.1.5.0,
      unset s.json said.1.6.0,
      queue.0,
      shared.0,
      budget.0,
    )
file_are OfTrace file words named (asked.Trace t) said = file_read file t.trace.now words named said.1
file_are OfDebug file words named (asked.Debug d) said =
    let sizes = said.1.3 in
    let budget = said.1.4 in
    let port = said.1.5 in (
      file_read file d.file.now words named said.1.0,
      no_text d.trace said.1.1,
      unset d.stdio said.1.2.0,
      (sizes.0.0, sizes.1.0, sizes.2.0, sizes.3.0, sizes.4.0),
      budget.0,
      port.0,
    )
file_are c file words named other said = apart (name_of other) (name_on_file c) refl said.0

-- The words give the command's file, no other file and no list, no flag, no witness, and the default of each number.
file_given : (c : OnFile) (file : Text) (words : List Text) → HasFile (name_on_file c) file words → GivePlain words
file_given c file words named =
    give _ words (name_on_file c) (file_rows c file) (rw named.1 (file_met c named.0 file named.2)) (file_are c file words named)

-- ---- the commands with two files: `asm FILE OUT`, `steps FILE OUT`, and those with a trace and an image

data OnFiles : Type 0 where
  OfAsm : OnFiles
  OfSteps : OnFiles
  OfReplay : OnFiles
  OfOrder : OnFiles
  OfStory : OnFiles
  OfStats : OnFiles
  OfPicture : OnFiles
  OfPage : OnFiles

abbrev name_on_files : OnFiles → Text
name_on_files OfAsm = codes "asm"
name_on_files OfSteps = codes "steps"
name_on_files OfReplay = codes "replay"
name_on_files OfOrder = codes "order"
name_on_files OfStory = codes "story"
name_on_files OfStats = codes "stats"
name_on_files OfPicture = codes "picture"
name_on_files OfPage = codes "page"

abbrev flags_on_files : OnFiles → List Text
flags_on_files OfAsm = codes "course" ∷ []
flags_on_files OfReplay = codes "decimal" ∷ codes "json" ∷ []
flags_on_files OfOrder = codes "abi" ∷ codes "decimal" ∷ codes "json" ∷ []
flags_on_files OfStory = codes "network" ∷ codes "rounds" ∷ codes "decimal" ∷ codes "json" ∷ []
flags_on_files OfStats = codes "latency" ∷ codes "queues" ∷ codes "csv" ∷ codes "json" ∷ []
flags_on_files OfPicture = []
flags_on_files OfPage = []
flags_on_files OfSteps = []

-- both files, and no flag
files_rows : OnFiles → (one other : Text) → List Row
files_rows OfAsm one other = row (codes "FILE") one CommandLine ∷ row (codes "OUT") other CommandLine ∷ unset_flags (flags_on_files OfAsm)
files_rows OfSteps one other = row (codes "FILE") one CommandLine ∷ row (codes "OUT") other CommandLine ∷ []
files_rows c one other = row (codes "TRACE") one CommandLine ∷ row (codes "FILE") other CommandLine ∷ unset_flags (flags_on_files c)

files_met : (c : OnFiles) (program one other : Text) → IsNoOption one → IsNoOption other
    → Meets (program ∷ name_on_files c ∷ one ∷ other ∷ []) (name_on_files c) (files_rows c one other)
unfolding row unset_flags files_rows clap_on_literals commands
files_met OfAsm program one other h k =
    rw (no_hyphens one h, no_hyphen one h, no_hyphen one h, no_hyphens other k, no_hyphen other k, no_hyphen other k) (refl, refl)
files_met OfSteps program one other h k =
    rw (no_hyphens one h, no_hyphen one h, no_hyphen one h, no_hyphens other k, no_hyphen other k, no_hyphen other k) (refl, refl)
files_met OfReplay program one other h k =
    rw (no_hyphens one h, no_hyphen one h, no_hyphen one h, no_hyphens other k, no_hyphen other k, no_hyphen other k) (refl, refl)
files_met OfOrder program one other h k =
    rw (no_hyphens one h, no_hyphen one h, no_hyphen one h, no_hyphens other k, no_hyphen other k, no_hyphen other k) (refl, refl)
files_met OfStory program one other h k =
    rw (no_hyphens one h, no_hyphen one h, no_hyphen one h, no_hyphens other k, no_hyphen other k, no_hyphen other k) (refl, refl)
files_met OfStats program one other h k =
    rw (no_hyphens one h, no_hyphen one h, no_hyphen one h, no_hyphens other k, no_hyphen other k, no_hyphen other k) (refl, refl)
files_met OfPicture program one other h k =
    rw (no_hyphens one h, no_hyphen one h, no_hyphen one h, no_hyphens other k, no_hyphen other k, no_hyphen other k) (refl, refl)
files_met OfPage program one other h k =
    rw (no_hyphens one h, no_hyphen one h, no_hyphen one h, no_hyphens other k, no_hyphen other k, no_hyphen other k) (refl, refl)

-- A trace and an image that are those read give both files, and 1,024 shared words if no other number is given.
trace_read : {command : Text} (one other : Text) (r : Replay) (words : List Text) → HasFiles command one other words → Some one ≡ Some r.trace.now →
    Some other ≡ Some r.file.now → r.words ≡ 1024 → HasTrace command r words
trace_read one other r words named e f shared = (files_read one r.trace.now other r.file.now words named e f, shared)

files_are : (c : OnFiles) (one other : Text) (words : List Text) → HasFiles (name_on_files c) one other words → (s : Settings)
    → (name_of s ≡ name_on_files c) × Gives (files_rows c one other) s → IsPlain s words
unfolding row unset_flags files_rows
files_are OfAsm one other words named (asked.Asm a) said =
    (files_read one a.file.now other a.out.now words named said.1.0 said.1.1, unset a.course said.1.2.0, no_text a.symbols said.1.3)
files_are OfSteps one other words named (asked.Steps s) said = files_read one s.file.now other s.out.now words named said.1.0 said.1.1
files_are OfReplay one other words named (asked.Replay r) said =
    let files = said.1.0 in
    let shared = files.2 in
    (trace_read one other r.replay words named files.0 files.1 shared.0, as_it_is r.style said.1.1)
files_are OfOrder one other words named (asked.Order o) said =
    let lines = said.1.0 in
    let files = lines.0 in
    let shared = files.2 in (
      trace_read one other o.lines.replay words named files.0 files.1 shared.0,
      (lines.1, lines.2, lines.3, lines.4, as_it_is o.lines.style lines.5),
      unset o.abi said.1.1.0,
    )
files_are OfStory one other words named (asked.Story s) said =
    let lines = said.1.0 in
    let files = lines.0 in
    let shared = files.2 in (
      trace_read one other s.lines.replay words named files.0 files.1 shared.0,
      (lines.1, lines.2, lines.3, lines.4, as_it_is s.lines.style lines.5),
      unset s.network said.1.1.0,
      unset s.rounds said.1.2.0,
    )
files_are OfStats one other words named (asked.Stats n) said =
    let files = said.1.0 in
    let shared = files.2 in (
      trace_read one other n.replay words named files.0 files.1 shared.0,
      unset n.latency said.1.1.0,
      unset n.queues said.1.2.0,
      unset n.csv
          said.1.3.0,
      unset n.json said.1.4.0,
    )
files_are OfPicture one other words named (asked.Picture p) said =
    let files = said.1.0 in
    let shared = files.2 in
    (trace_read one other p.replay words named files.0 files.1 shared.0, said.1.1, no_text p.symbols said.1.2)
files_are OfPage one other words named (asked.Page p) said =
    let files = said.1.0 in
    let shared = files.2 in
    (trace_read one other p.replay words named files.0 files.1 shared.0, said.1.1, said.1.2, no_text p.symbols said.1.3)
files_are c one other words named chosen said = apart (name_of chosen) (name_on_files c) refl said.0

-- The words give both files of the command, 1,024 shared words, no names, no choice, and no flag.
files_given : (c : OnFiles) (one other : Text) (words : List Text) → HasFiles (name_on_files c) one other words → GivePlain words
files_given c one other words named =
    give _ words (name_on_files c) (files_rows c one other) (rw named.1 (files_met c named.0 one other named.2 named.3))
    (files_are c one other words named)

-- ---- `explain [CODE]..`

explain_rows : List Text → List Row
explain_rows [] = []
explain_rows (word ∷ others) =
    record { id = codes "CODE"; values = word ∷ others; count = None; source = Some CommandLine; reading = AsWritten } ∷ []

explain_met : (others words : List Text) → HasOthers (codes "explain") others words → Meets words (codes "explain") (explain_rows others)
unfolding explain_rows clap_on_literals commands
explain_met [] words named = rw named.1 (refl, refl)
explain_met (a ∷ []) words named =
    let h : IsNoOption a = named.2 0 a (omega arith) in
    rw (named.1, no_hyphens a h, no_hyphen a h, no_hyphen a h) (refl, refl)
explain_met (a ∷ b ∷ []) words named =
    let h : IsNoOption a = named.2 0 a (omega arith) in
    let k : IsNoOption b = named.2 1 a (omega arith) in
    rw (named.1, no_hyphens a h, no_hyphen a h, no_hyphen a h, no_hyphens b k, no_hyphen b k, no_hyphen b k) (refl, refl)
explain_met (a ∷ b ∷ c ∷ []) words named =
    let h : IsNoOption a = named.2 0 a (omega arith) in
    let k : IsNoOption b = named.2 1 a (omega arith) in
    let l : IsNoOption c = named.2 2 a (omega arith) in
    rw (named.1, no_hyphens a h, no_hyphen a h, no_hyphen a h) (rw (no_hyphens b k, no_hyphen b k, no_hyphen b k)
    (rw (no_hyphens c l, no_hyphen c l, no_hyphen c l) (refl, refl)))
explain_met (a ∷ b ∷ c ∷ d ∷ []) words named =
    let h : IsNoOption a = named.2 0 a (omega arith) in
    let k : IsNoOption b = named.2 1 a (omega arith) in
    let l : IsNoOption c = named.2 2 a (omega arith) in
    let m : IsNoOption d = named.2 3 a (omega arith) in
    rw (named.1, no_hyphens a h, no_hyphen a h, no_hyphen a h) (rw (no_hyphens b k, no_hyphen b k, no_hyphen b k)
    (rw (no_hyphens c l, no_hyphen c l, no_hyphen c l) (rw (no_hyphens d m, no_hyphen d m, no_hyphen d m) (refl, refl))))
explain_met (a ∷ b ∷ c ∷ d ∷ e ∷ others) words named = absurd (omega (arith, named.3))

explain_words : (others : List Text) (x : Explain) → GivesExplain (explain_rows others) x → others ≡ texts_of x.words.items
unfolding explain_rows
explain_words [] x said = sym said
explain_words (word ∷ others) x said = sym said

explain_are : (others words : List Text) → HasOthers (codes "explain") others words → (s : Settings)
    → (name_of s ≡ codes "explain") × Gives (explain_rows others) s → IsPlain s words
explain_are others words named (asked.Explain x) said = subst (λ them. HasOthers (codes "explain") them words) (explain_words others x said.1) named
explain_are others words named other said = apart (name_of other) (codes "explain") refl said.0

-- `explain` gives the words after it, of which there are at most four.
explain_given : (others words : List Text) → HasOthers (codes "explain") others words → GivePlain words
explain_given others words named = give _ words (codes "explain") (explain_rows others) (explain_met others words named) (explain_are others words named)

-- ---- all commands

-- Words that say some settings plainly give settings that they say plainly.
pub plain_given : (s : Settings) (words : List Text) → IsPlain s words → GivePlain words
plain_given (asked.Words w) words said = file_given OfWords w.file.now words said
plain_given (asked.Check c) words said = file_given OfCheck c.file.now words said.0
plain_given (asked.Asm a) words said = files_given OfAsm a.file.now a.out.now words said.0
plain_given (asked.Dis d) words said = file_given OfDis d.file.now words said.0
plain_given (asked.Run r) words said = file_given OfRun r.file.now words said.0
plain_given (asked.Hunt h) words said = file_given OfHunt h.file.now words said.0
plain_given (asked.Explore x) words said = file_given OfExplore x.file.now words said.0
plain_given (asked.Replay r) words said = files_given OfReplay r.replay.trace.now r.replay.file.now words said.0.0
plain_given (asked.Order o) words said = files_given OfOrder o.lines.replay.trace.now o.lines.replay.file.now words said.0.0
plain_given (asked.Story s) words said = files_given OfStory s.lines.replay.trace.now s.lines.replay.file.now words said.0.0
plain_given (asked.Stats c) words said = files_given OfStats c.replay.trace.now c.replay.file.now words said.0.0
plain_given (asked.Picture p) words said = files_given OfPicture p.replay.trace.now p.replay.file.now words said.0.0
plain_given (asked.Page p) words said = files_given OfPage p.replay.trace.now p.replay.file.now words said.0.0
plain_given (asked.Study s) words said = file_given OfStudy s.file.now words said.0
plain_given (asked.Trace t) words said = file_given OfTrace t.trace.now words said
plain_given (asked.Steps s) words said = files_given OfSteps s.file.now s.out.now words said
plain_given (asked.Debug d) words said = file_given OfDebug d.file.now words said.0
plain_given (asked.Explain e) words said = explain_given (texts_of e.words.items) words said
