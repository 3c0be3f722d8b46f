-- The flat machine that the processors, words and code of a machine make.
use Rattle.std.proofs.Common.{◌≡◌, ℕ, zero, suc, ◌^◌, ◌<◌, ◌≤◌, false, List, [], ◌∷◌, length, ◌⊎◌, inl, inr, refl, sym, ap, ap₂, ◌∙◌, subst, arith}
use Rattle.std.specs.Prelude.{All, None, map, slice_get, slice_index, slice_index_or}
use Rattle.std.proofs.Math.ListN.{get_or-map}
use Rattle.std.proofs.lemmas.Bool.{cases_lt}
use Rattle.std.proofs.lemmas.List.{length-map, get_or-map as get_or-map-inside}
use Rattle.std.proofs.lemmas.List.FromFn.{length-map-range_with_len, get_or-map-range_with_len}
use Rattle.flat_machine.specs.State.{Processor, FlatState}
use Rattle.flat_machine.specs.Laws.{HasWords}
use Rattle.machine_ports.specs.Ports.{PortState}
use Rattle.machine_theory.specs.Processors.{no_port, no_processor, port_at, open_at, word_at}
use Rattle.machine_theory.specs.FlatSizes.{HasSize, IsSoundFlat}
use Rattle.machine_steps.specs.Machines.{MachineLists, IsIdle, IsMachine}
use Rattle.machine_steps.specs.Openings.{flat_state}
use Rattle.machine_steps.proofs.Keeping.{count_small}

-- Past its end, a list is read as the default.
pub past_end : {X : Type 0} (xs : List X) (i : ℕ) (d : X) → length xs ≤ i → slice_index_or xs i d ≡ d
past_end [] i d l = refl
past_end (x ∷ xs) zero d l = absurd (omega arith)
past_end (x ∷ xs) (suc i) d l = past_end xs i d (omega arith)

-- A list has no element past its end.
pub none_past : {X : Type 0} (xs : List X) (i : ℕ) → length xs ≤ i → slice_get xs i ≡ None
none_past [] i l = refl
none_past (x ∷ xs) zero l = absurd (omega arith)
none_past (x ∷ xs) (suc i) l = none_past xs i (omega arith)

-- Lists of the same length with the same elements are the same.
pub same_list : {X : Type 0} (xs ys : List X) (d : X) → length xs ≡ length ys → ((i : ℕ) → slice_index_or xs i d ≡ slice_index_or ys i d) → xs ≡ ys
same_list [] [] d n e = refl
same_list [] (y ∷ ys) d n e = absurd (omega arith)
same_list (x ∷ xs) [] d n e = absurd (omega arith)
same_list (x ∷ xs) (y ∷ ys) d n e = ap₂ (λ z zs. z ∷ zs) (e 0) (same_list xs ys d (omega arith) (λ i. e (suc i)))

module _ (m : MachineLists) (is : IsMachine m) where
  abbrev state : PortState → Processor
  state port = port.core.state

  -- ---- processors

  -- Each processor of the flat machine is the one at the port of its number.
  pub state_at : (p : ℕ) → slice_index_or (flat_state m).processors p no_processor ≡ (port_at m.ports p).core.state
  state_at p = get_or-map state m.ports p no_port

  -- The flat machine has 2^k processors.
  pub count_is : length (flat_state m).processors ≡ 2 ^ m.config.k
  count_is = length-map m.ports state ∙ is.ports.all

  all_states : (ports : List PortState) → ((p : ℕ) → HasWords (port_at ports p).core.state) → All HasWords (map state ports)
  all_states ports h = λ p d inside. subst HasWords (sym (get_or-map-inside state ports p no_port d (subst (λ n. p < n) (length-map ports state) inside))) (h p)

  -- ---- words

  -- Each shared word of the flat machine is the one in the modules.
  pub word_is : (i : ℕ) → slice_index (flat_state m).shared i ≡ word_at m.config.k m.modules i
  word_is i = at (cases_lt i m.config.shared_words)
    where
      at : (i < m.config.shared_words) ⊎ (m.config.shared_words ≤ i) → slice_index (flat_state m).shared i ≡ word_at m.config.k m.modules i
      at (inl within) = get_or-map-range_with_len (word_at m.config.k m.modules) 0 m.config.shared_words i i 0 within (omega arith)
      at (inr past) =
          let n : length (flat_state m).shared ≡ m.config.shared_words = length-map-range_with_len (word_at m.config.k m.modules) 0 m.config.shared_words in
          past_end (flat_state m).shared i 0 (subst (λ l. l ≤ i) (sym n) past) ∙ sym (is.modules.end i past)

  -- ---- all of it

  -- The flat machine that a machine's parts make has the machine's size, and its values are in range.
  pub sound : IsSoundFlat m.config m.code (flat_state m)
  sound =
      let small = count_small m.config.k is.limits.stages in
      let count = count_is in
      record {
        size = record { processors = count_is; shared = length-map-range_with_len (word_at m.config.k m.modules) 0 m.config.shared_words; code_is = refl };
        ranges = record {
          processors = all_states m.ports is.ports.words;
          count = omega arith;
          shared = λ i. subst (λ n. n < 2 ^ 32) (sym (word_is i)) (is.modules.words i);
          code = is.code;
        };
      }

  -- In an idle machine no processor is open, also none past the last.
  pub all_shut : IsIdle m → (p : ℕ) → open_at m.ports p ≡ false
  all_shut idle p = at (cases_lt p (2 ^ m.config.k))
    where
      at : (p < 2 ^ m.config.k) ⊎ (2 ^ m.config.k ≤ p) → open_at m.ports p ≡ false
      at (inl within) = idle p within
      at (inr past) = ap (λ (port : PortState). port.is_open) (past_end m.ports p no_port (subst (λ n. n ≤ p) (sym is.ports.all) past))

  -- A flat machine of this size with these processors, words and code is the one that they make.
  pub flat_is : (F : FlatState) → HasSize m.config m.code F → ((p : ℕ) → (port_at m.ports p).core.state ≡ slice_index_or F.processors p no_processor)
      → ((i : ℕ) → word_at m.config.k m.modules i ≡ slice_index F.shared i) → flat_state m ≡ F
  flat_is F size states words =
      let processors : (flat_state m).processors ≡ F.processors =
      same_list (flat_state m).processors F.processors no_processor (count_is ∙ sym size.processors) (λ p. state_at p ∙ states p) in
      let shared : (flat_state m).shared ≡ F.shared =
      same_list (flat_state m).shared F.shared 0 (sound.size.shared ∙ sym size.shared) (λ i. word_is i ∙ words i) in
      λ i. record { processors = processors i; shared = shared i; code = sym size.code_is i }
