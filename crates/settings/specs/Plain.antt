-- Command lines without options, word by word.
use Rattle.std.specs.Prelude.{◌≡◌, ◌≢◌, ◌≤◌, false, List, [], ◌∷◌, codes, length, map, None, slice_get, IfSome}
use Rattle.std.specs.List.{All}
use Rattle.std.specs.Borrow.{Bor}
use Rattle.clap.specs.Words.{Text}
use Rattle.settings.specs.declared.choice.Settings.{Settings}
use Rattle.settings.specs.declared.choice.Settings.TheVariants as asked
use Rattle.settings.specs.declared.choice.LineStyle.{LineStyle}
use Rattle.settings.specs.declared.choice.Lines.{Lines}
use Rattle.settings.specs.declared.choice.Replay.{Replay}
use Rattle.settings.specs.declared.choice.Sizes.{Sizes}

-- the texts that words borrow
abbrev pub texts_of : List (Bor Text) → List Text
texts_of words = map (λ word. word.now) words

-- The word does not begin with a hyphen (45), so it is not an option.
abbrev pub IsNoOption : Text → Type 0
IsNoOption word = IfSome (slice_get word 0) (λ b. b ≢ 45)

-- The words are the program's name, a command and a file.
abbrev pub HasFile : (command file : Text) → List Text → Type 0
HasFile command file words = (program : Text) × (words ≡ program ∷ command ∷ file ∷ []) × IsNoOption file

-- The words are the program's name, a command and two files.
abbrev pub HasFiles : (command one other : Text) → List Text → Type 0
HasFiles command one other words = (program : Text) × (words ≡ program ∷ command ∷ one ∷ other ∷ [])
    × IsNoOption one × IsNoOption other

-- The words are the program's name, a command, a trace and an image. The machine has 1,024 shared words.
abbrev pub HasTrace : (command : Text) → Replay → List Text → Type 0
HasTrace command r words = HasFiles command r.trace.now r.file.now words × (r.words ≡ 1024)

-- The words are the program's name, a command and others, of which there are at most four.
abbrev pub HasOthers : (command : Text) → (others : List Text) → List Text → Type 0
HasOthers command others words = (program : Text) × (words ≡ program ∷ command ∷ others) × All IsNoOption others
    × (length others ≤ 4)

-- The sizes are the defaults.
abbrev pub AreUsual : Sizes → Type 0
AreUsual s = (s.k ≡ 2) × (s.c ≡ 4) × (s.b ≡ 4) × (s.r ≡ 1) × (s.words ≡ 1024)

-- Lines are printed as they are.
abbrev pub IsAsItIs : LineStyle → Type 0
IsAsItIs y = (y.symbols ≡ None) × (y.decimal ≡ false) × (y.json ≡ false)

-- No line is left out, and lines are printed as they are.
abbrev pub TakesAll : Lines → Type 0
TakesAll l = (l.processor ≡ None) × (l.word ≡ None) × (l.from ≡ None) × (l.to ≡ None) × IsAsItIs l.style

-- The words are just the command of these settings with its files, or `explain` with at most four words. So no flag is
-- set, no trace is written, no names are printed, no choice is made, and each number is its default.
abbrev pub IsPlain : Settings → List Text → Type 0
IsPlain (asked.Words w) words = HasFile (codes "words") w.file.now words
IsPlain (asked.Check c) words = HasFile (codes "check") c.file.now words × (c.course ≡ false) × (c.json ≡ false)
IsPlain (asked.Asm a) words = HasFiles (codes "asm") a.file.now a.out.now words × (a.course ≡ false)
    × (a.symbols ≡ None)
IsPlain (asked.Dis d) words = HasFile (codes "dis") d.file.now words × (d.comments ≡ false) × (d.symbols ≡ None)
    × (d.abi ≡ false) × (d.words ≡ 1024)
IsPlain (asked.Run r) words = HasFile (codes "run") r.file.now words
    × (r.trace ≡ None) × (r.sweep ≡ false) × (r.no_log ≡ false) × (r.unfinished ≡ false) × (r.quiet ≡ false)
    × IsAsItIs r.style × AreUsual r.sizes × (r.budget ≡ 10000000) × (r.start ≡ 1)
IsPlain (asked.Hunt h) words = HasFile (codes "hunt") h.file.now words
    × (h.trace ≡ None) × (h.page ≡ None) × (h.observe ≡ None) × (h.schedule ≡ None) × (h.overwrite ≡ false)
    × (h.expect_one ≡ false) × (h.quiet ≡ false) × IsAsItIs h.style × AreUsual h.sizes × (h.budget ≡ 100000)
    × (h.runs ≡ 1000) × (h.start ≡ 1) × (h.jobs ≡ None) × (h.depth ≡ None)
IsPlain (asked.Explore x) words = HasFile (codes "explore") x.file.now words
    × (x.trace ≡ None) × (x.page ≡ None) × (x.observe ≡ None) × (x.against ≡ None) × (x.each ≡ false)
    × (x.fair ≡ false) × (x.every ≡ false) × (x.quiet ≡ false)
    × IsAsItIs x.style × AreUsual x.sizes × (x.states ≡ 1000000) × (x.seconds ≡ None) × (x.witness ≡ None)
    × (x.never ≡ None) × (x.always ≡ None) × (x.finally ≡ None) × (x.filter ≡ None)
IsPlain (asked.Replay r) words = HasTrace (codes "replay") r.replay words × IsAsItIs r.style
IsPlain (asked.Order o) words = HasTrace (codes "order") o.lines.replay words × TakesAll o.lines × (o.abi ≡ false)
IsPlain (asked.Story s) words = HasTrace (codes "story") s.lines.replay words × TakesAll s.lines
    × (s.network ≡ false) × (s.rounds ≡ false)
IsPlain (asked.Stats c) words = HasTrace (codes "stats") c.replay words × (c.latency ≡ false)
    × (c.queues ≡ false) × (c.csv ≡ false) × (c.json ≡ false)
IsPlain (asked.Picture p) words = HasTrace (codes "picture") p.replay words × (p.step ≡ None) × (p.symbols ≡ None)
IsPlain (asked.Page p) words = HasTrace (codes "page") p.replay words × (p.from ≡ None) × (p.steps ≡ None)
    × (p.symbols ≡ None)
IsPlain (asked.Study s) words = HasFile (codes "study") s.file.now words
    × (s.ks ≡ None) × (s.bs ≡ None) × (s.rs ≡ None) × (s.plot ≡ None) × (s.csv ≡ false) × (s.json ≡ false)
    × (s.c ≡ 4) × (s.words ≡ 1024) × (s.budget ≡ 4000000)
IsPlain (asked.Trace t) words = HasFile (codes "trace") t.trace.now words
IsPlain (asked.Steps s) words = HasFiles (codes "steps") s.file.now s.out.now words
IsPlain (asked.Debug d) words = HasFile (codes "debug") d.file.now words
    × (d.trace ≡ None) × (d.stdio ≡ false) × AreUsual d.sizes × (d.budget ≡ 100000) × (d.port ≡ 3333)
IsPlain (asked.Explain e) words = HasOthers (codes "explain") (texts_of e.words.items) words
