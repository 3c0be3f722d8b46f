-- The text of a trace says the trace.
use Rattle.std.proofs.Common.{◌≡◌, ℕ, ◌+◌, ◌^◌, ◌<◌, ◌≤◌, true, List, [], ◌∷◌, ◌++◌, length, Some, None, Ok}
use Rattle.std.proofs.Common.{refl, sym, ap, ◌∙◌, append_assoc, append-nil, arith}
use Rattle.std.specs.Prelude.{◌&&◌, nat_lt, nat_le, codes, Option}
use Rattle.std.specs.Fmt.{decimal}
use Rattle.std.specs.Int.{is_in_range}
use Rattle.std.specs.List.{flat_map, list_all}
use Rattle.std.proofs.lemmas.Bool.{agree_below_at, and_parts, leb-true, le-leb, lt-ltb, ltb-true}
use Rattle.std.proofs.lemmas.List.{length-append}
use Rattle.std.proofs.lemmas.List.Elements.{All-head, All-tail}
use Rattle.flat_machine.specs.declared.config.Config.{Config}
use Rattle.flat_machine.specs.declared.poke.Poke.{Poke}
use Rattle.flat_machine.specs.declared.poke.Poke.TheVariants as poke
use Rattle.steps.specs.declared.step.Step.{Step}
use Rattle.steps.specs.declared.step.Step.TheVariants as step
use Rattle.command_io.specs.Digits.{hex_of_byte, hex_of_word}
use Rattle.trace_file.specs.Records.{HasRecord, has_poke_record}
use Rattle.trace_file.specs.Traces.{TraceContents, IsHeader, IsTrace, HaveRecords, config_of, header_of, trace_of}
use Rattle.trace_lines.specs.OrderTexts.{register_text}
use Rattle.trace_lines.specs.StoryTexts.{step_text}
use Rattle.trace_commands.specs.SizeLines.{size_line}
use Rattle.asm_lines.specs.Text.{parts_at}
use Rattle.trace_text.specs.Texts.{step_line, text_of}
use Rattle.trace_text.specs.Words.{words_of}
use Rattle.trace_text.specs.Steps.{are_sizes, config_in, move_of, poke_of, said_after, said_from, size_in, sizes_in, sizes_of}
use Rattle.trace_text.specs.Steps.{step_of, trace_in, turn_or_service_of, with_step}
use Rattle.trace_text.proofs.Splitting.{is_plain, Word, Words, none, more, spaced, ended_spaced, first_line, words_again}
use Rattle.trace_text.proofs.Numerals.{AreRead, decimal_word, not_minus, number_again, hex_word, hex_byte, hex_word_again, hex_byte_again}
use Rattle.trace_text.proofs.Numerals.{register_again, no_address, register_word}

-- ---- the words of a step

abbrev pub name_of : Step → List ℕ
name_of (step.Turn p) = codes "turn"
name_of (step.Up s w) = codes "up"
name_of (step.Serve m) = codes "serve"
name_of (step.Down s w) = codes "down"
name_of (step.Poke q) = codes "poke"

abbrev poke_words : Poke → List (List ℕ)
poke_words (poke.Register p r value) = decimal p ∷ register_text r ∷ hex_of_word value ∷ []
poke_words (poke.Local p address value) = decimal p ∷ hex_of_word address ∷ hex_of_byte value ∷ []
poke_words (poke.Shared address value) = codes "-" ∷ hex_of_word address ∷ hex_of_byte value ∷ []

abbrev other_words : Step → List (List ℕ)
other_words (step.Turn p) = decimal p ∷ []
other_words (step.Up s w) = decimal s ∷ decimal w ∷ []
other_words (step.Serve m) = decimal m ∷ []
other_words (step.Down s w) = decimal s ∷ decimal w ∷ []
other_words (step.Poke q) = poke_words q

-- A word after a text, and what follows it after a space.
after_space : (front word rest : List ℕ) → ((front ++ word) ++ codes " ") ++ rest ≡ front ++ (word ++ 32 ∷ rest)
after_space front word rest = append_assoc (front ++ word) (32 ∷ []) rest ∙ append_assoc front word (32 ∷ rest)

-- The text of a step is its words.
text_is_words : (s : Step) → step_text s ≡ spaced (name_of s) (other_words s)
text_is_words (step.Turn p) = refl
text_is_words (step.Up s w) = after_space (codes "up ") (decimal s) (decimal w)
text_is_words (step.Serve m) = refl
text_is_words (step.Down s w) = after_space (codes "down ") (decimal s) (decimal w)
text_is_words (step.Poke (poke.Register p r value)) =
    after_space (codes "poke ") (decimal p) _ ∙ ap (λ l. codes "poke " ++ (decimal p ++ 32 ∷ l)) (append_assoc (register_text r) (32 ∷ []) (hex_of_word value))
text_is_words (step.Poke (poke.Local p address value)) =
    after_space (codes "poke ") (decimal p) _
    ∙ ap (λ l. codes "poke " ++ (decimal p ++ 32 ∷ l)) (append_assoc (hex_of_word address) (32 ∷ []) (hex_of_byte value))
text_is_words (step.Poke (poke.Shared address value)) =
    ap (λ l. codes "poke - " ++ l) (append_assoc (hex_of_word address) (32 ∷ []) (hex_of_byte value))

pub name_is_word : (s : Step) → Word (name_of s)
name_is_word (step.Turn p) = record { plain = refl; nonempty = omega arith }
name_is_word (step.Up s w) = record { plain = refl; nonempty = omega arith }
name_is_word (step.Serve m) = record { plain = refl; nonempty = omega arith }
name_is_word (step.Down s w) = record { plain = refl; nonempty = omega arith }
name_is_word (step.Poke q) = record { plain = refl; nonempty = omega arith }

-- ---- steps that have records

-- A machine has at most 64 processors.
few : (k p : ℕ) → k ≤ 6 → nat_lt p (2 ^ k) ≡ true → p < 256
few k p small h =
    let most : 2 ^ k ≤ 64 = leb-true (2 ^ k) 64 (agree_below_at (λ k. nat_le (2 ^ k) 64) (λ _. true) 7 k refl (omega arith)) in
    omega (arith, ltb-true p (2 ^ k) h, most)

small_stage : (k s : ℕ) → k ≤ 6 → nat_lt s k ≡ true → s < 256
small_stage k s small h = omega (arith, ltb-true s k h)

-- The words of a step that has a record are words, and say the step.
record AreWordsOf (s : Step) : Type 0 where
  pub words : Words (other_words s)
  pub said : step_of (name_of s ∷ other_words s) ≡ Ok s

turn_words : AreRead → (p : ℕ) → p < 256 → AreWordsOf (step.Turn p)
unfolding turn_or_service_of
turn_words read p small = record { words = more (decimal_word p small) none; said = rw (number_again read p small) refl }

serve_words : AreRead → (m : ℕ) → m < 256 → AreWordsOf (step.Serve m)
unfolding turn_or_service_of
serve_words read m small = record { words = more (decimal_word m small) none; said = rw (number_again read m small) refl }

up_words : AreRead → (s w : ℕ) → s < 256 → w < 256 → AreWordsOf (step.Up s w)
unfolding move_of
up_words read s w small small' = record {
  words = more (decimal_word s small) (more (decimal_word w small') none);
  said = rw (number_again read s small, number_again read w small') refl;
}

down_words : AreRead → (s w : ℕ) → s < 256 → w < 256 → AreWordsOf (step.Down s w)
unfolding move_of
down_words read s w small small' = record {
  words = more (decimal_word s small) (more (decimal_word w small') none);
  said = rw (number_again read s small, number_again read w small') refl;
}

register_words : AreRead → (p r value : ℕ) → p < 256 → r < 33 → value < 2 ^ 32 → AreWordsOf (step.Poke (poke.Register p r value))
unfolding poke_of
register_words read p r value small named fits = record {
  words = more (decimal_word p small) (more (register_word r named) (more (hex_word value) none));
  said = rw (not_minus p small, number_again read p small, no_address r named, register_again r named, hex_word_again value fits) refl;
}

local_words : AreRead → (p address value : ℕ) → p < 256 → address < 2 ^ 32 → value < 256 → AreWordsOf (step.Poke (poke.Local p address value))
unfolding poke_of
local_words read p address value small fits byte = record {
  words = more (decimal_word p small) (more (hex_word address) (more (hex_byte value) none));
  said = rw (not_minus p small, number_again read p small, hex_word_again address fits, hex_byte_again value byte) refl;
}

shared_words : (address value : ℕ) → address < 2 ^ 32 → value < 256 → AreWordsOf (step.Poke (poke.Shared address value))
unfolding poke_of
shared_words address value fits byte = record {
  words = more (record { plain = refl; nonempty = omega arith }) (more (hex_word address) (more (hex_byte value) none));
  said = rw (hex_word_again address fits, hex_byte_again value byte) refl;
}

-- A number in a range is at most its end.
at_most : (least most n : ℕ) → is_in_range least most n ≡ true → n ≤ most
at_most least most n h = leb-true n most (and_parts (nat_le least n) (nat_le n most) h).1

words_of_poke : AreRead → (k : ℕ) → k ≤ 6 → (q : Poke) → has_poke_record (2 ^ k) q ≡ true → AreWordsOf (step.Poke q)
words_of_poke read k small (poke.Register p r value) h =
    let a = and_parts _ (nat_lt value (2 ^ 32)) h in
    let b = and_parts (nat_lt p (2 ^ k) && is_in_range 1 32 r) _ a.0 in
    let c = and_parts (nat_lt p (2 ^ k)) (is_in_range 1 32 r) b.0 in
    register_words read p r value (few k p small c.0) (omega (arith, at_most 1 32 r c.1)) (ltb-true value (2 ^ 32) a.1)
words_of_poke read k small (poke.Local p address value) h =
    let a = and_parts _ (is_in_range 0 255 value) h in
    let b = and_parts (nat_lt p (2 ^ k)) (is_in_range 0x00020000 0x0002FFFF address) a.0 in
    local_words read p address value (few k p small b.0) (omega (arith, at_most 0x00020000 0x0002FFFF address b.1)) (omega (arith, at_most 0 255 value a.1))
words_of_poke read k small (poke.Shared address value) h =
    let b = and_parts (is_in_range 0x80000000 0x800FFFFF address) _ h in
    shared_words address value (omega (arith, at_most 0x80000000 0x800FFFFF address b.0)) (omega (arith, at_most 0 255 value b.1))

words_of_step : AreRead → (k : ℕ) → k ≤ 6 → (s : Step) → HasRecord k s → AreWordsOf s
words_of_step read k small (step.Turn p) h = turn_words read p (few k p small h)
words_of_step read k small (step.Up s w) h =
    let a = and_parts (nat_lt s k) _ h in up_words read s w (small_stage k s small a.0) (few k w small a.1)
words_of_step read k small (step.Serve m) h = serve_words read m (few k m small h)
words_of_step read k small (step.Down s w) h =
    let a = and_parts (nat_lt s k) _ h in down_words read s w (small_stage k s small a.0) (few k w small a.1)
words_of_step read k small (step.Poke q) h = words_of_poke read k small q h

-- ---- lines

-- A line of words that are said is read, and then the lines after it.
line_said : (count : ℕ) (said next : Option TraceContents) (w : List ℕ) (ws : List (List ℕ)) (rest : List ℕ) → Word w → Words ws
    → said_after said (w ∷ ws) ≡ Ok next
    → said_from count said (parts_at 10 ((spaced w ws ++ 10 ∷ []) ++ rest)) ≡ said_from (count + 1) next (parts_at 10 rest)
line_said count said next w ws rest is is' e =
    ap (said_from count said) (first_line w ws rest is is') ∙ rw (words_again w ws is is', e) refl

-- a trace with more steps
abbrev with_steps : TraceContents → List Step → TraceContents
with_steps t steps = record { k = t.k; c = t.c; b = t.b; r = t.r; steps = t.steps ++ steps }

-- The line of a step with a record is read as this step, if there is room for it.
step_added : AreRead → (t : TraceContents) (s : Step) → t.k ≤ 6 → HasRecord t.k s → length t.steps < 4194304
    → said_after (Some t) (name_of s ∷ other_words s) ≡ Ok (Some (with_step t s))
step_added read t s small has room = rw ((words_of_step read t.k small s has).said, has, lt-ltb (length t.steps) 4194304 room) refl

-- The lines of steps are read as these steps.
steps_said : AreRead → (steps : List Step) (t : TraceContents) (count : ℕ) → t.k ≤ 6 → HaveRecords t.k steps
    → length t.steps + length steps ≤ 4194304
    → said_from count (Some t) (parts_at 10 (flat_map step_line steps)) ≡ Ok (with_steps t steps)
unfolding words_of
steps_said read [] t count small have room =
    ap (λ (l : List Step). Ok (record { k = t.k; c = t.c; b = t.b; r = t.r; steps = l })) (sym (append-nil t.steps))
steps_said read (s ∷ steps) t count small have room =
    let has = All-head (HasRecord t.k) s steps have in
    let words = (words_of_step read t.k small s has).words in
    let line : step_line s ≡ spaced (name_of s) (other_words s) ++ 10 ∷ [] = ap (λ l. l ++ 10 ∷ []) (text_is_words s) in
    ap (λ l. said_from count (Some t) (parts_at 10 (l ++ flat_map step_line steps))) line
    ∙ line_said count (Some t) (Some (with_step t s)) (name_of s) (other_words s) (flat_map step_line steps) (name_is_word s) words
    (step_added read t s small has (omega arith))
    ∙ steps_said read steps (with_step t s) (count + 1) small (All-tail (HasRecord t.k) s steps have) (rw length-append (omega arith))
    ∙ ap (λ (l : List Step). Ok (record { k = t.k; c = t.c; b = t.b; r = t.r; steps = l })) (append_assoc t.steps (s ∷ []) steps)

-- ---- the sizes

abbrev size_words : Config → List (List ℕ)
size_words c =
    codes "k" ∷ decimal c.k ∷ codes "c" ∷ decimal c.c ∷ codes "b" ∷ decimal c.b ∷ codes "r" ∷ decimal c.r ∷ []

letter : (w : List ℕ) → list_all is_plain w ≡ true → 0 < length w → Word w
letter w plain some = record { plain = plain; nonempty = some }

size_words_are : (c : Config) → c.k < 256 → c.c < 256 → c.b < 256 → c.r < 256 → Words (size_words c)
size_words_are c k cc b r =
    more (letter (codes "k") refl (omega arith)) (more (decimal_word c.k k)
    (more (letter (codes "c") refl (omega arith)) (more (decimal_word c.c cc)
    (more (letter (codes "b") refl (omega arith)) (more (decimal_word c.b b)
    (more (letter (codes "r") refl (omega arith)) (more (decimal_word c.r r) none)))))))

-- The line of the sizes is its words.
size_line_is : (c : Config) → size_line c ≡ spaced (codes "machine") (size_words c) ++ 10 ∷ []
unfolding size_line
size_line_is c =
    let before_c : List ℕ = codes "machine k " ++ decimal c.k in
    let before_b : List ℕ = before_c ++ codes " c " ++ decimal c.c in
    let before_r : List ℕ = before_b ++ codes " b " ++ decimal c.b in
    let r : List ℕ = decimal c.r ++ 10 ∷ [] in
    let from_r : List ℕ = codes " r " ++ r in
    let b : List ℕ = decimal c.b ++ from_r in
    let from_b : List ℕ = codes " b " ++ b in
    let cc : List ℕ = decimal c.c ++ from_b in
    append_assoc (before_r ++ codes " r ") (decimal c.r) (10 ∷ [])
    ∙ append_assoc before_r (codes " r ") r
    ∙ append_assoc (before_b ++ codes " b ") (decimal c.b) from_r
    ∙ append_assoc before_b (codes " b ") b
    ∙ append_assoc (before_c ++ codes " c ") (decimal c.c) from_b
    ∙ append_assoc before_c (codes " c ") cc
    ∙ append_assoc (codes "machine k ") (decimal c.k) (codes " c " ++ cc)
    ∙ ended_spaced (codes "machine") (size_words c) []

module _ (t : TraceContents) (h : IsHeader (header_of t)) where
  in_limits : are_sizes t.k t.c t.b t.r ≡ true
  in_limits = rw (
    le-leb t.k 6 h.stages,
    le-leb 2 t.c h.some_capacity,
    le-leb t.c 16 h.capacity,
    le-leb t.b 16 h.records,
    le-leb 1 t.r h.some_combinations,
    le-leb t.r 3 h.combinations,
    lt-ltb t.r t.c h.answers,
  ) refl

  small_sizes : (t.k < 256) × (t.c < 256) × (t.b < 256) × (t.r < 256)
  small_sizes = let a = h.stages in let b = h.capacity in let c = h.records in let d = h.combinations in (omega arith, omega arith, omega arith, omega arith)

  -- The words of the sizes say them.
  sizes_said : AreRead → sizes_of (codes "machine" ∷ size_words (config_of t 1)) ≡ Ok (config_of t 1)
  unfolding sizes_in size_in config_in
  sizes_said read =
      let s = small_sizes in
      rw (number_again read t.k s.0, number_again read t.c s.1, number_again read t.b s.2, number_again read t.r s.3, in_limits) refl

-- The text of a trace that a file can spell says this trace.
pub read_back : AreRead → (t : TraceContents) → IsTrace t → trace_in (text_of t) ≡ Ok t
unfolding trace_in text_of
read_back read t is =
    let c = config_of t 1 in
    let s = small_sizes t is.header in
    let empty = trace_of c [] in
    let said : said_after None (codes "machine" ∷ size_words c) ≡ Ok (Some empty) = rw (sizes_said t is.header read) refl in
    ap (λ l. said_from 0 None (parts_at 10 (l ++ flat_map step_line t.steps))) (size_line_is c)
    ∙ line_said 0 None (Some empty) (codes "machine") (size_words c) (flat_map step_line t.steps) (letter (codes "machine") refl (omega arith))
    (size_words_are c s.0 s.1 s.2 s.3) said
    ∙ steps_said read t.steps empty 1 is.header.stages is.records (omega (arith, is.header.count))
