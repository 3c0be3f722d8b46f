-- A line spells a command exactly if it is read as that command.
use Rattle.std.proofs.Common.{◌≡◌, ◌≢◌, ℕ, List, [], ◌∷◌, ◌++◌, length, refl, sym, ap, ◌∙◌, Bool, true, false, subst}
use Rattle.std.proofs.lemmas.Bool.{leb-true, le-leb}
use Rattle.std.proofs.lemmas.Option.{option_and_then_some, none-some, same_Some}
use Rattle.std.proofs.lemmas.Slice.Eq.{bytes_eq-Decides}
use Rattle.std.specs.Prelude.{Option, Some, None, unwrap_or, nat_le, if◌then◌else◌, codes, find}
use Rattle.std.specs.Option.{option_map}
use Rattle.std.specs.Str.{bytes_eq}
use Rattle.debug_lines.specs.declared.word.Word.{Word}
use Rattle.debug_lines.specs.declared.word.Word.TheVariants as word
use Rattle.debug_lines.specs.declared.command.Command.{Command}
use Rattle.debug_lines.specs.declared.command.Command.TheVariants.{State, Registers, Register, Set, Memory, Write}
use Rattle.debug_lines.specs.declared.command.Command.TheVariants.{Break, Clear, Step, Continue, Quit, Malformed}
use Rattle.debug_lines.specs.Numbers.{number_of, cut_at_space}
use Rattle.debug_lines.specs.Words.{word_of, words, name_of}
use Rattle.debug_lines.specs.Commands.{of_parts, listed_of, command_of}
use Rattle.debug_lines.specs.Spelling.{IsNumber, IsSpelling, Spells}
use Rattle.debug_lines.proofs.Digits.{number-read, number-written}
use Rattle.debug_lines.proofs.Operands.{whole, cut-read, map-read, register-read, register-written, set-read}
use Rattle.debug_lines.proofs.Operands.{set-written, memory-read, memory-written, write-read, write-written}

-- ---- what is spelled is read

listed-written : (line : List ℕ) (c : Command) → IsSpelling line c → listed_of line ≡ Some c
unfolding listed_of word_of
listed-written line (State p) s = ap listed_of s.2 ∙ ap (option_map State) (number-written s.0 p s.1)
listed-written line (Registers p) s = ap listed_of s.2 ∙ ap (option_map Registers) (number-written s.0 p s.1)
listed-written line (Register p r) s = ap listed_of s.4 ∙ register-written s.0 s.1 p r s.2 s.3
listed-written line (Set p r v) s = ap listed_of s.6 ∙ set-written s.0 s.1 s.2 p r v s.3 s.4 s.5
listed-written line (Memory p address n) s = ap listed_of s.6 ∙ memory-written s.0 s.1 s.2 p address n s.3 s.4 s.5 s.7 s.8
listed-written line (Write p address bytes) s = ap listed_of s.6 ∙ write-written s.0 s.1 s.2 p address bytes s.3 s.4 s.5 s.7
listed-written line (Break address) s = ap listed_of s.2 ∙ ap (option_map Break) (number-written s.0 address s.1)
listed-written line (Clear address) s = ap listed_of s.2 ∙ ap (option_map Clear) (number-written s.0 address s.1)
listed-written line (Step p) s = ap listed_of s.2 ∙ ap (option_map Step) (number-written s.0 p s.1)
listed-written line Continue s = ap listed_of s
listed-written line Quit s = ap listed_of s
listed-written line Malformed s = absurd s

pub spelled-read : (line : List ℕ) (c : Command) → Spells line c → command_of line ≡ c
unfolding command_of
spelled-read line c s =
    rw (le-leb (length line) 1024 s.short) (ap (λ o. unwrap_or o Malformed) (listed-written line c s.spelling))

-- ---- what is read is spelled

found : (p : Word → Bool) (x w : Word) (more : Option Word) (b : Bool) → p x ≡ b → (if b then Some x else more) ≡ Some w
    → (more ≡ Some w → p w ≡ true) → p w ≡ true
found p x w more true is e later = ap p (sym (same_Some x w e)) ∙ is
found p x w more false is e later = later e

find-passes : (p : Word → Bool) (ws : List Word) (w : Word) → find p ws ≡ Some w → p w ≡ true
find-passes p [] w e = absurd (none-some w e)
find-passes p (x ∷ ws) w e = found p x w (find p ws) (p x) refl e (find-passes p ws w)

word-read : (bytes : List ℕ) (w : Word) → word_of bytes ≡ Some w → name_of w ≡ bytes
unfolding word_of
word-read bytes w e = (bytes_eq-Decides (name_of w) bytes).0 (find-passes (λ x. bytes_eq (name_of x) bytes) words w e)

with_one : (make : ℕ → Command) (before rest : List ℕ) (c : Command) → option_map make (number_of rest) ≡ Some c
    → ((p : ℕ) → IsNumber rest p → IsSpelling (before ++ rest) (make p)) → IsSpelling (before ++ rest) c
with_one make before rest c e spelled =
    let m = map-read make (number_of rest) c e in subst (λ x. IsSpelling (before ++ rest) x) m.2 (spelled m.0 (number-read rest m.0 m.1))

parts-read : (w : Word) (o : Option (List ℕ)) (c : Command) → of_parts w o ≡ Some c → IsSpelling (whole (name_of w) o) c
parts-read word.State (Some rest) c e = with_one State (codes "state ") rest c e (λ p i. (rest, i, refl))
parts-read word.Regs (Some rest) c e = with_one Registers (codes "regs ") rest c e (λ p i. (rest, i, refl))
parts-read word.Reg (Some rest) c e = register-read rest c e
parts-read word.Set (Some rest) c e = set-read rest c e
parts-read word.Mem (Some rest) c e = memory-read rest c e
parts-read word.Write (Some rest) c e = write-read rest c e
parts-read word.Break (Some rest) c e = with_one Break (codes "break ") rest c e (λ p i. (rest, i, refl))
parts-read word.Clear (Some rest) c e = with_one Clear (codes "clear ") rest c e (λ p i. (rest, i, refl))
parts-read word.Step (Some rest) c e = with_one Step (codes "step ") rest c e (λ p i. (rest, i, refl))
parts-read word.Cont (Some rest) c e = absurd (none-some c e)
parts-read word.Quit (Some rest) c e = absurd (none-some c e)
parts-read word.Cont None c e = subst (λ x. IsSpelling (codes "cont") x) (same_Some Continue c e) refl
parts-read word.Quit None c e = subst (λ x. IsSpelling (codes "quit") x) (same_Some Quit c e) refl
parts-read word.State None c e = absurd (none-some c e)
parts-read word.Regs None c e = absurd (none-some c e)
parts-read word.Reg None c e = absurd (none-some c e)
parts-read word.Set None c e = absurd (none-some c e)
parts-read word.Mem None c e = absurd (none-some c e)
parts-read word.Write None c e = absurd (none-some c e)
parts-read word.Break None c e = absurd (none-some c e)
parts-read word.Clear None c e = absurd (none-some c e)
parts-read word.Step None c e = absurd (none-some c e)

listed-read : (line : List ℕ) (c : Command) → listed_of line ≡ Some c → IsSpelling line c
unfolding listed_of
listed-read line c e =
    option_and_then_some (λ w. of_parts w (cut_at_space line).1) (word_of (cut_at_space line).0) c e
    (λ w is more.
    let name = ap (λ n. whole n (cut_at_space line).1) (word-read (cut_at_space line).0 w is) in
    subst (λ l. IsSpelling l c) (name ∙ sym (cut-read line)) (parts-read w (cut_at_space line).1 c more))

abbrev kept : Bool → Option Command → Command
kept short o = if short then unwrap_or o Malformed else Malformed

kept-read : (line : List ℕ) (short : Bool) (o : Option Command) → nat_le (length line) 1024 ≡ short → listed_of line ≡ o
    → kept short o ≢ Malformed → Spells line (kept short o)
kept-read line true (Some c) h e ne = record { short = leb-true (length line) 1024 h; spelling = listed-read line c e }
kept-read line true None h e ne = absurd (ne refl)
kept-read line false o h e ne = absurd (ne refl)

pub read-spelled : (line : List ℕ) → command_of line ≢ Malformed → Spells line (command_of line)
unfolding command_of
read-spelled line ne = kept-read line (nat_le (length line) 1024) (listed_of line) refl refl ne

kept-none : (line : List ℕ) (short : Bool) (o : Option Command) → nat_le (length line) 1024 ≡ short → listed_of line ≡ o
    → ((c : Command) → Spells line c → ⊥) → kept short o ≡ Malformed
kept-none line true (Some c) h e none = absurd (none c (record { short = leb-true (length line) 1024 h; spelling = listed-read line c e }))
kept-none line true None h e none = refl
kept-none line false o h e none = refl

pub none-malformed : (line : List ℕ) → ((c : Command) → Spells line c → ⊥) → command_of line ≡ Malformed
unfolding command_of
none-malformed line none = kept-none line (nat_le (length line) 1024) (listed_of line) refl refl none
