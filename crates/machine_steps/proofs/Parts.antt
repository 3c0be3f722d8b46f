-- The parts with which a machine opens are the opening of its image.
use Rattle.std.proofs.Common.{◌≡◌, ℕ, zero, suc, ◌+◌, ◌*◌, ◌/◌, ◌%◌, ◌^◌, ◌<◌, ◌≤◌, List, [], ◌∷◌, ◌++◌, length, ◌⊎◌, inl, inr, refl, sym, ap, ap₂, ◌∙◌, arith}
use Rattle.std.proofs.Math.Nat.{mul-le-mul_right}
use Rattle.std.proofs.lemmas.Bool.{cases_lt}
use Rattle.std.specs.Prelude.{map, replicate, slice_index, slice_index_or}
use Rattle.std.specs.List.{range_with_len}
use Rattle.std.proofs.lemmas.Nat.{div-add-mod', mod_below, pow_pos}
use Rattle.std.proofs.lemmas.List.FromFn.{length-range_with_len, get_or-map-range_with_len, map-range_with_len_more}
use Rattle.flat_machine.specs.declared.config.Config.{Config}
use Rattle.flat_machine.specs.Memory.{number_at}
use Rattle.flat_machine.specs.State.{Processor}
use Rattle.elf_image.specs.declared.layout.Layout.{Layout}
use Rattle.elf_image.specs.Openings.{opening, opening_processor, words_of}
use Rattle.machine_ports.specs.Ports.{PortState}
use Rattle.machine_theory.specs.Processors.{word_at, setting_of}
use Rattle.machine_steps.specs.Parts.{opening_port, opening_ports, opening_word, opening_module, opening_modules, places_of, AreTheOpening}

-- The processors of the opening's ports are all the same.
states_are : (c : Config) (layout : Layout) (xs : List ℕ) →
    map (λ (p : PortState). p.core.state) (map (opening_port c layout) xs) ≡ replicate (length xs) (opening_processor layout)
states_are c layout [] = refl
states_are c layout (x ∷ xs) = ap (λ ps. opening_processor layout ∷ ps) (states_are c layout xs)

-- The quotient of a smaller number is not greater.
pub quotient_small : (i n d : ℕ) → 0 < d → i < n → i / d < n / d + 1
quotient_small i n d some less = by (cases_lt (i / d) (n / d + 1))
  where
    by : (i / d < n / d + 1) ⊎ (n / d + 1 ≤ i / d) → i / d < n / d + 1
    by (inl small) = small
    by (inr great) =
        let a = div-add-mod' i d in
        let b = div-add-mod' n d in
        let r = mod_below n d some in
        let m : (n / d + 1) * d ≤ i / d * d = mul-le-mul_right d great in
        let s : (n / d + 1) * d ≡ n / d * d + d = omega arith in
        absurd (omega arith)

module _ (c : Config) (shared : List ℕ) where
  word_is : (i : ℕ) → i < c.shared_words → word_at c.k (opening_modules c shared (2 ^ c.k)) i ≡ number_at shared (4 * i) 4
  word_is i within =
      let count : ℕ = 2 ^ c.k in
      let number : ℕ = i % count in
      let place : ℕ = i / count in
      let there : number < count = mod_below i count (pow_pos c.k) in
      let inside : place < places_of c = quotient_small i c.shared_words count (pow_pos c.k) within in
      ap (λ xs. slice_index xs place) (get_or-map-range_with_len (opening_module c shared (places_of c)) 0 count number number [] there (omega arith))
      ∙ get_or-map-range_with_len (opening_word c shared number) 0 (places_of c) place place 0 inside (omega arith)
      ∙ ap (λ n. number_at shared (4 * n) 4) (div-add-mod' i count)

  words_are : (start count : ℕ) → start + count ≤ c.shared_words →
      map (word_at c.k (opening_modules c shared (2 ^ c.k))) (range_with_len start count) ≡ map (λ i. number_at shared (4 * i) 4) (range_with_len start count)
  words_are start zero l = refl
  words_are start (suc count) l = ap₂ (λ w ws. w ∷ ws) (word_is start (omega arith)) (words_are (start + 1) count (omega arith))

-- The processors and words that a machine opens with are those of the flat machine that opens on the layout.
pub the_opening : (c : Config) (layout : Layout) → AreTheOpening c layout
the_opening c layout = record {
  processors = states_are c layout (range_with_len 0 (2 ^ c.k)) ∙ ap (λ n. replicate n (opening_processor layout)) (length-range_with_len 0 (2 ^ c.k));
  shared = words_are c layout.shared 0 c.shared_words (omega arith);
}

-- ---- loops

-- The opening's ports for one more processor have its port at their end.
pub one_port_more : (c : Config) (layout : Layout) (n : ℕ) → opening_ports c layout (n + 1) ≡ opening_ports c layout n ++ opening_port c layout n ∷ []
one_port_more c layout n = map-range_with_len_more (opening_port c layout) 0 n n (omega arith)

-- The opening's modules for one more number have its module at their end.
pub one_module_more : (c : Config) (shared : List ℕ) (n : ℕ) →
    opening_modules c shared (n + 1) ≡ opening_modules c shared n ++ opening_module c shared (places_of c) n ∷ []
one_module_more c shared n = map-range_with_len_more (opening_module c shared (places_of c)) 0 n n (omega arith)

-- A module of the opening with one more place has the word of that place at its end.
pub one_word_more : (c : Config) (shared : List ℕ) (number n : ℕ) →
    opening_module c shared (n + 1) number ≡ opening_module c shared n number ++ opening_word c shared number n ∷ []
one_word_more c shared number n = map-range_with_len_more (opening_word c shared number) 0 n n (omega arith)
