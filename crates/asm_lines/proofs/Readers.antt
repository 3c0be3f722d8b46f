-- Statements whose operands are read alike are read alike.
use Rattle.std.proofs.Common.{◌≡◌, ℕ, List, [], ◌∷◌, length, Option, Some, None, Result, Ok, Err, refl, sym, ◌∙◌}
use Rattle.std.specs.Prelude.{◌==◌, ok_or, if◌then◌else◌}
use Rattle.asm_lines.specs.declared.fault.LineFault.{LineFault}
use Rattle.asm_lines.specs.declared.fault.LineFault.TheVariants.{Form}
use Rattle.asm_lines.specs.declared.directive.Directive.{Directive}
use Rattle.asm_lines.specs.declared.directive.Directive.TheVariants as directives
use Rattle.asm_lines.specs.declared.instruction.Addressed.TheVariants as kinds
use Rattle.asm_lines.specs.declared.mnemonic.Mnemonic.{Mnemonic}
use Rattle.asm_lines.specs.declared.mnemonic.Mnemonic.TheVariants.{Op, OpImm, Shift, Load, Store, Branch, Upper, Jal, Jalr, Fence, Ecall, Ebreak, Amo}
use Rattle.asm_lines.specs.declared.mnemonic.Order.{Order}
use Rattle.asm_lines.specs.Steps.{◌>>=◌}
use Rattle.asm_lines.specs.Statements.{Val, register_in, lower_in, bracket_parts, base_in, nothing_in, op_in, op_imm_in}
use Rattle.asm_lines.specs.Statements.{shift_in, addressed_in, branch_in, upper_insn_in, jal_in, fence_in, amo_in}
use Rattle.asm_lines.specs.Statements.{instruction_in, each, word_in, byte_in, count_in, directive_in, chosen}
use Rattle.asm_lines.specs.Alike.{AreBracketedAlike, AreReadAlike, Pairwise, none, more}

bind_same : {A B : Type 0} (r : Result A LineFault) (f g : A → Result B LineFault) → ((x : A) → f x ≡ g x) → (r >>= f) ≡ (r >>= g)
bind_same (Ok x) f g h = h x
bind_same (Err e) f g h = refl

-- ---- what is read of an address

address_alike : {A : Type 0} (k : Val → ℕ → Result A LineFault) (o o' : Option (List ℕ × List ℕ)) → AreBracketedAlike o o'
    → (ok_or o Form >>= λ address. lower_in address.0 >>= λ i. register_in address.1 >>= λ r. k i r)
    ≡ (ok_or o' Form >>= λ address. lower_in address.0 >>= λ i. register_in address.1 >>= λ r. k i r)
address_alike k None None h = refl
address_alike k (Some p) (Some q) h = rw (h.0, h.1) refl
address_alike k None (Some q) h = absurd h
address_alike k (Some p) None h = absurd h

base_alike : (one other : List ℕ) → AreReadAlike one other → base_in one ≡ base_in other
unfolding base_in
base_alike one other h = go (bracket_parts one) (bracket_parts other) h.brackets
  where
    go : (o o' : Option (List ℕ × List ℕ)) → AreBracketedAlike o o'
        → (ok_or o Form >>= λ parts. if length parts.0 == 0 then register_in parts.1 else Err Form)
        ≡ (ok_or o' Form >>= λ parts. if length parts.0 == 0 then register_in parts.1 else Err Form)
    go None None h = refl
    go (Some p) (Some q) h = rw (h.1, h.2) refl
    go None (Some q) h = absurd h
    go (Some p) None h = absurd h

-- ---- readers of two and of three operands

module _ {A : Type 0} (read : List (List ℕ) → Result A LineFault)
    (one_operand : (a : List ℕ) → read (a ∷ []) ≡ Err Form) where
  by_two : ((a b c : List ℕ) (ds : List (List ℕ)) → read (a ∷ b ∷ c ∷ ds) ≡ Err Form)
      → ((a b a' b' : List ℕ) → AreReadAlike a a' → AreReadAlike b b' → read (a ∷ b ∷ []) ≡ read (a' ∷ b' ∷ []))
      → {xs ys : List (List ℕ)} → Pairwise AreReadAlike xs ys → read xs ≡ read ys
  by_two past same none = refl
  by_two past same (more {one = a} {other = a'} h none) = one_operand a ∙ sym (one_operand a')
  by_two past same (more {one = a} {other = a'} h (more {one = b} {other = b'} i none)) = same a b a' b' h i
  by_two past same (more {one = a} {other = a'} h (more {one = b} {other = b'} i (more {one = c} {other = c'} {ones = ds} {others = ds'} j rest))) =
      past a b c ds ∙ sym (past a' b' c' ds')

  by_three : ((a b : List ℕ) → read (a ∷ b ∷ []) ≡ Err Form) → ((a b c d : List ℕ) (ds : List (List ℕ)) → read (a ∷ b ∷ c ∷ d ∷ ds) ≡ Err Form)
      → ((a b c a' b' c' : List ℕ) → AreReadAlike a a' → AreReadAlike b b' → AreReadAlike c c' → read (a ∷ b ∷ c ∷ []) ≡ read (a' ∷ b' ∷ c' ∷ []))
      → {xs ys : List (List ℕ)} → Pairwise AreReadAlike xs ys → read xs ≡ read ys
  by_three two past same none = refl
  by_three two past same (more {one = a} {other = a'} h none) = one_operand a ∙ sym (one_operand a')
  by_three two past same (more {one = a} {other = a'} h (more {one = b} {other = b'} i none)) = two a b ∙ sym (two a' b')
  by_three two past same (more {one = a} {other = a'} h (more {one = b} {other = b'} i (more {one = c} {other = c'} j none))) = same a b c a' b' c' h i j
  by_three two past same (more {one = a} {other = a'} h
      (more {one = b} {other = b'} i (more {one = c} {other = c'} j (more {one = d} {other = d'} {ones = ds} {others = ds'} k rest)))) =
      past a b c d ds ∙ sym (past a' b' c' d' ds')

-- ---- instructions

nothing_alike : {xs ys : List (List ℕ)} → Pairwise AreReadAlike xs ys → nothing_in xs ≡ nothing_in ys
unfolding nothing_in
nothing_alike none = refl
nothing_alike (more h none) = h.nothing
nothing_alike (more {one = a} {other = a'} h (more {one = b} {other = b'} {ones = ds} {others = ds'} i rest)) = two a b ds ∙ sym (two a' b' ds')
  where
    two : (a b : List ℕ) (ds : List (List ℕ)) → nothing_in (a ∷ b ∷ ds) ≡ Err Form
    two [] b ds = refl
    two (x ∷ xs) b ds = refl

instruction_alike : (m : Mnemonic) (order : Order) {xs ys : List (List ℕ)} → Pairwise AreReadAlike xs ys → instruction_in m order xs ≡ instruction_in m order ys
unfolding op_in op_imm_in shift_in addressed_in branch_in upper_insn_in jal_in fence_in amo_in
instruction_alike (Op op) order all = by_three (op_in op) (λ a. refl) (λ a b. refl) (λ a b c d ds. refl)
    (λ a b c a' b' c' h i j. rw (h.register, i.register, j.register) refl) all
instruction_alike (OpImm op) order all = by_three (op_imm_in op) (λ a. refl) (λ a b. refl) (λ a b c d ds. refl)
    (λ a b c a' b' c' h i j. rw (h.register, i.register, j.lower) refl) all
instruction_alike (Shift op) order all = by_three (shift_in op) (λ a. refl) (λ a b. refl) (λ a b c d ds. refl)
    (λ a b c a' b' c' h i j. rw (h.register, i.register, j.natural 31) refl) all
instruction_alike (Load op) order all = by_two (addressed_in (kinds.Load op)) (λ a. refl) (λ a b c ds. refl)
    (λ a b a' b' h i. rw h.register (bind_same _ _ _ (λ rd. address_alike _ _ _ i.brackets))) all
instruction_alike (Store op) order all = by_two (addressed_in (kinds.Store op)) (λ a. refl) (λ a b c ds. refl)
    (λ a b a' b' h i. rw h.register (bind_same _ _ _ (λ rs2. address_alike _ _ _ i.brackets))) all
instruction_alike (Branch op) order all = by_three (branch_in op) (λ a. refl) (λ a b. refl) (λ a b c d ds. refl)
    (λ a b c a' b' c' h i j. rw (h.register, i.register, j.value _ _) refl) all
instruction_alike (Upper op) order all = by_two (upper_insn_in op) (λ a. refl) (λ a b c ds. refl) (λ a b a' b' h i. rw (h.register, i.upper) refl) all
instruction_alike Jal order all = by_two jal_in (λ a. refl) (λ a b c ds. refl) (λ a b a' b' h i. rw (h.register, i.value _ _) refl) all
instruction_alike Jalr order all = by_two (addressed_in kinds.Jalr) (λ a. refl) (λ a b c ds. refl)
    (λ a b a' b' h i. rw h.register (bind_same _ _ _ (λ rd. address_alike _ _ _ i.brackets))) all
instruction_alike Fence order all = by_three fence_in (λ a. refl) (λ a b. refl) (λ a b c d ds. refl)
    (λ a b c a' b' c' h i j. rw (h.register, i.register, j.natural 4095) refl) all
instruction_alike Ecall order all = rw (nothing_alike all) refl
instruction_alike Ebreak order all = rw (nothing_alike all) refl
instruction_alike (Amo op) order all = by_three (amo_in op order) (λ a. refl) (λ a b. refl) (λ a b c d ds. refl)
    (λ a b c a' b' c' h i j. rw (h.register, i.register, base_alike _ _ j) refl) all

-- ---- directives

each_alike : {A : Type 0} (read : List ℕ → Result A LineFault) → ((a b : List ℕ) → AreReadAlike a b → read a ≡ read b) → {xs ys : List (List ℕ)}
    → Pairwise AreReadAlike xs ys → each read xs ≡ each read ys
each_alike read same none = refl
each_alike read same (more {one} {other} h rest) = rw (same one other h, each_alike read same rest) refl

count_alike : {xs ys : List (List ℕ)} → Pairwise AreReadAlike xs ys → count_in xs ≡ count_in ys
count_alike none = refl
count_alike (more h none) = h.natural 1048576
count_alike (more h (more i rest)) = refl

directive_alike : (d : Directive) {xs ys : List (List ℕ)} → Pairwise AreReadAlike xs ys → directive_in d xs ≡ directive_in d ys
unfolding directive_in
directive_alike (directives.Section s) all = rw (nothing_alike all) refl
directive_alike directives.Word all = rw (each_alike word_in (λ a b h. h.value _ _) all) refl
directive_alike directives.Byte all = rw (each_alike byte_in (λ a b h. h.byte) all) refl
directive_alike directives.Zero all = rw (count_alike all) refl

-- The statement of a first word is the same for operands that are read alike in pairs.
pub chosen_alike : (d : Option Directive) (m : Option (Mnemonic × Order)) {xs ys : List (List ℕ)} → Pairwise AreReadAlike xs ys → chosen d m xs ≡ chosen d m ys
chosen_alike (Some d) m all = directive_alike d all
chosen_alike None (Some m) all = rw (instruction_alike m.0 m.1 all) refl
chosen_alike None None all = refl
