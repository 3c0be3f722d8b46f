-- Which lines spell a command: its word and operands, with exactly one space between any two, and nothing else.
use Rattle.std.specs.Prelude.{◌≡◌, ◌≤◌, ◌^◌, ◌+◌, ◌*◌, ℕ, List, [], ◌∷◌, ◌++◌, length, Some, codes}
use Rattle.hex.specs.Hex.{hex_digit_value}
use Rattle.debug_lines.specs.declared.command.Command.{Command}
use Rattle.debug_lines.specs.declared.command.Command.TheVariants.{State, Registers, Register, Set, Memory, Write}
use Rattle.debug_lines.specs.declared.command.Command.TheVariants.{Break, Clear, Step, Continue, Quit, Malformed}

-- Hex digits of either case stand for a number, the highest first.
abbrev pub AreDigitsOf : List ℕ → ℕ → Type 0
AreDigitsOf [] n = n ≡ 0
AreDigitsOf (b ∷ digits) n =
    (d : ℕ) × (low : ℕ) × (hex_digit_value b ≡ Some d) × AreDigitsOf digits low × (n ≡ d * 16 ^ length digits + low)

-- One to eight digits stand for a number.
pub record IsNumber (digits : List ℕ) (n : ℕ) : Type 0 where
  pub some : 1 ≤ length digits
  pub few : length digits ≤ 8
  pub value : AreDigitsOf digits n

-- Digits stand for bytes, two for each.
abbrev pub AreBytes : List ℕ → List ℕ → Type 0
AreBytes digits [] = digits ≡ []
AreBytes digits (byte ∷ bytes) =
    (high : ℕ) × (low : ℕ) × (rest : List ℕ) × (digits ≡ high ∷ low ∷ rest) × AreDigitsOf (high ∷ low ∷ []) byte
    × AreBytes rest bytes

-- two parts with exactly one space between them
abbrev pub spaced : List ℕ → List ℕ → List ℕ
spaced a b = a ++ 32 ∷ b

-- A line spells a command.
abbrev pub IsSpelling : List ℕ → Command → Type 0
IsSpelling line (State p) = (a : List ℕ) × IsNumber a p × (line ≡ codes "state " ++ a)
IsSpelling line (Registers p) = (a : List ℕ) × IsNumber a p × (line ≡ codes "regs " ++ a)
IsSpelling line (Register p r) = (a : List ℕ) × (b : List ℕ) × IsNumber a p × IsNumber b r
    × (line ≡ codes "reg " ++ spaced a b)
IsSpelling line (Set p r v) =
    (a : List ℕ) × (b : List ℕ) × (c : List ℕ) × IsNumber a p × IsNumber b r × IsNumber c v
    × (line ≡ codes "set " ++ spaced a (spaced b c))
IsSpelling line (Memory p address n) =
    (a : List ℕ) × (b : List ℕ) × (c : List ℕ) × IsNumber a p × IsNumber b address × IsNumber c n
    × (line ≡ codes "mem " ++ spaced a (spaced b c)) × (1 ≤ n) × (n ≤ 512)
IsSpelling line (Write p address bytes) =
    (a : List ℕ) × (b : List ℕ) × (c : List ℕ) × IsNumber a p × IsNumber b address × AreBytes c bytes
    × (line ≡ codes "write " ++ spaced a (spaced b c)) × (1 ≤ length bytes)
IsSpelling line (Break address) = (a : List ℕ) × IsNumber a address × (line ≡ codes "break " ++ a)
IsSpelling line (Clear address) = (a : List ℕ) × IsNumber a address × (line ≡ codes "clear " ++ a)
IsSpelling line (Step p) = (a : List ℕ) × IsNumber a p × (line ≡ codes "step " ++ a)
IsSpelling line Continue = line ≡ codes "cont"
IsSpelling line Quit = line ≡ codes "quit"
IsSpelling line Malformed = ⊥

-- A line of at most 1,024 bytes spells a command.
pub record Spells (line : List ℕ) (command : Command) : Type 0 where
  pub short : length line ≤ 1024
  pub spelling : IsSpelling line command
