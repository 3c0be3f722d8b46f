-- What is advised at a fault.
use Rattle.std.specs.Prelude.{ℕ, List}
use Rattle.asm_lines.specs.declared.statement.Section.{Section}
use Rattle.word_faults.specs.declared.hint.Hint.{Hint}
use Rattle.word_faults.specs.declared.hint.Hint.TheVariants as hints
use Rattle.word_faults.specs.declared.shape.Wanted.{Wanted}

pub data Advice : Type 0 where
  -- for an unknown first word
  not_a_label : Advice
  in_place : List ℕ → Advice
  not_needed : List ℕ → Advice
  near : List ℕ → Advice
  colon : Advice
  nothing_like_it : Advice
  -- for operands
  takes : (form : List ℕ) → Advice
  comma : (form : List ℕ) → Advice
  no_operand : Advice
  stands_here : Wanted → Advice
  bracket : Advice
  out_of_range : Wanted → Advice
  upper_bits : ℕ → Advice
  -- for a statement's place and a target's distance
  outside_code : Advice
  unaligned : (address : ℕ) → Advice
  odd : Advice
  far : (distance : ℕ) → Wanted → Advice
  full : Section → (room taken : ℕ) → Advice
  -- for a label
  stands_on : (line : ℕ) → Advice
  no_label : Advice
  near_label : List ℕ → Advice

-- what a hint advises
abbrev pub advice_of : Hint → Advice
advice_of hints.LabelName = not_a_label
advice_of (hints.Instead same) = in_place same.now
advice_of (hints.NotNeeded why) = not_needed why.now
advice_of (hints.NearWord name) = near name.now
advice_of hints.Colon = colon
advice_of hints.NoWord = nothing_like_it
advice_of (hints.Operands form) = takes form.now
advice_of (hints.Comma form) = comma form.now
advice_of hints.NoOperand = no_operand
advice_of (hints.Wants wanted) = stands_here wanted
advice_of hints.Bracket = bracket
advice_of (hints.OutOfRange wanted) = out_of_range wanted
advice_of (hints.UpperBits upper) = upper_bits upper
advice_of hints.OutsideCode = outside_code
advice_of (hints.Unaligned address) = unaligned address
advice_of hints.Odd = odd
advice_of (hints.Far distance wanted) = far distance wanted
advice_of (hints.Full section room taken) = full section room taken
advice_of (hints.StandsOn line) = stands_on line
advice_of hints.NoLabel = no_label
advice_of (hints.NearLabel name) = near_label name.now
