-- A walk without a fault does not stop at `help`.
use Rattle.std.proofs.Common.{◌≡◌, ◌&&◌, ℕ, Bool, cond, true, false, not, refl, true≢false, List, [], ◌∷◌, Option, Some, None, is_some, codes}
use Rattle.std.specs.Prelude.{⊤, IfSome}
use Rattle.std.specs.List.{fold}
use Rattle.std.specs.Str.{bytes_eq}
use Rattle.clap.specs.Lexer.{long_of, short_of}
use Rattle.clap.specs.Kinds.{or_else}
use Rattle.clap.specs.Faults.{other_fault, step_fault, turn_fault, walk_fault, word_fault}
use Rattle.clap.specs.Simple.{Shape}
use Rattle.clap.specs.Walk.{Held, Names, Outcome, Rule, Step, Text, Waiting, Walk, after_flag, after_step}
use Rattle.clap.specs.Walk.{arg_by_index, done, idle, long_or_other, next, option, plain, plain_word, positional}
use Rattle.clap.specs.Walk.{refused, short_or_plain, subcommand, subcommand_met, subcommand_or_other, to_positional}
use Rattle.clap.specs.Walk.{trailing, value, waits, walked, walked_from, word_met}
use Rattle.clap.specs.declared.error.kind.ErrorKind.TheVariants as kind
use Rattle.settings.proofs.Walks.{neither}

abbrev pub IsNoHelp : Text → Type 0
IsNoHelp name = bytes_eq name (codes "help") ≡ false

abbrev pub StopsAtNoHelp : Option (Text × List Text) → Type 0
StopsAtNoHelp stop = IfSome stop (λ p. IsNoHelp p.0)

abbrev StepsToNoHelp : Step → Type 0
StepsToNoHelp (subcommand name) = IsNoHelp name
StepsToNoHelp _ = ⊤

-- A word that is not a flag, or a flag, does not lead to `help`.
plain_steps : (c : List Rule) (waiting : Waiting) (word : Text) (h : Held) → StepsToNoHelp (plain_word c waiting word h).1
plain_steps c idle word h = tt
plain_steps c positional word h = tt
plain_steps c (option id) word h = tt

flag_steps : (c : List Rule) (waiting : Waiting) (word : Text) (h : Held) (o : Outcome) → StepsToNoHelp (after_flag c waiting word h o).1
flag_steps c waiting word h done = tt
flag_steps c waiting word h (waits id) = tt
flag_steps c waiting word h plain = plain_steps c waiting word h
flag_steps c waiting word h refused = plain_steps c waiting word h

other_steps : (c : List Rule) (waiting : Waiting) (word : Text) (long : Option (Text × Option Text)) (h : Held) →
    StepsToNoHelp (long_or_other c waiting word long h).1
other_steps c waiting word (Some p) h = flag_steps c waiting word _ _
other_steps c waiting word None h = go (short_of word)
  where
    go : (short : Option Text) → StepsToNoHelp (short_or_plain c waiting word short h).1
    go None = plain_steps c waiting word h
    go (Some flags) = flag_steps c waiting word _ _

-- If `help` is a fault, no word leads to it.
module _ (s : Shape) (names : Names) (enabled : s.disable_help_subcommand ≡ false) where
  met_steps : (waiting : Waiting) (position : ℕ) (word : Text) (met : Option Text) (h : Held) → other_fault s met word h ≡ []
      → StepsToNoHelp (subcommand_or_other s.rules met waiting position word h).1
  met_steps waiting position word (Some name) h e = go (bytes_eq name (codes "help")) s.disable_help_subcommand enabled e
    where
      go : (b disabled : Bool) → disabled ≡ false → cond (b && not disabled) (kind.DisplayHelp ∷ kind.InvalidSubcommand ∷ []) [] ≡ [] → b ≡ false
      go false disabled is e = refl
      go true true is e = absurd (true≢false is)
      go true false is e = cc
  met_steps waiting position word None h e = go (bytes_eq word (45 ∷ 45 ∷ []))
    where
      go : (b : Bool) → StepsToNoHelp (cond b (h, trailing position) (long_or_other s.rules waiting word (long_of word) h)).1
      go true = tt
      go false = other_steps s.rules waiting word (long_of word) h

  word_steps : (is_trailing : Bool) (waiting : Waiting) (position : ℕ) (word : Text) (h : Held) → word_fault s names is_trailing waiting word h ≡ []
      → StepsToNoHelp (word_met s.rules names is_trailing waiting position word h).1
  word_steps true waiting position word h e = tt
  word_steps false waiting position word h e = met_steps waiting position word (subcommand_met names waiting word) h e

  step_stops : (word : Text) (w : Walk) (h : Held) (step : Step) → StepsToNoHelp step → StopsAtNoHelp w.stopped →
      StopsAtNoHelp (after_step s.rules word w h step).stopped
  step_stops word w h (next waiting) other stops = stops
  step_stops word w h (trailing position) other stops = stops
  step_stops word w h (subcommand name) other stops = other
  step_stops word w h value other stops = go (arg_by_index s.rules w.position)
    where
      go : (found : Option Rule) → StopsAtNoHelp (to_positional s.rules found word w h).stopped
      go None = stops
      go (Some a) = tt

  turn_stops : (w : Walk) (word : Text) → turn_fault s names w word ≡ [] → StopsAtNoHelp w.stopped → StopsAtNoHelp (walked s.rules names w word).stopped
  unfolding walked
  turn_stops w word e stops = go w.stopped stops e
    where
      met : Held × Step
      met = word_met s.rules names w.is_trailing w.waiting w.position word w.held

      go : (stopped : Option (Text × List Text)) → StopsAtNoHelp stopped
          → cond (is_some stopped) [] (or_else (word_fault s names w.is_trailing w.waiting word w.held) (step_fault s w.position met.0 met.1)) ≡ []
          → StopsAtNoHelp (walked_from s.rules names stopped w word).stopped
      go (Some p) other e = other
      go None other e =
          let p = neither (word_fault s names w.is_trailing w.waiting word w.held) (step_fault s w.position met.0 met.1) e in
          step_stops word w met.0 met.1 (word_steps w.is_trailing w.waiting w.position word w.held p.0) stops

  -- If words have no fault, a walk that has not stopped at `help` has not stopped at it after them.
  pub walk_stops : (words : List Text) (w : Walk) → walk_fault s names w words ≡ [] → StopsAtNoHelp w.stopped →
      StopsAtNoHelp (fold (walked s.rules names) w words).stopped
  unfolding walk_fault
  walk_stops [] w e stops = stops
  walk_stops (word ∷ rest) w e stops =
      let p = neither (turn_fault s names w word) (walk_fault s names (walked s.rules names w word) rest) e in
      walk_stops rest (walked s.rules names w word) p.1 (turn_stops w word p.0 stops)
