-- Services are steps of the machine.
use Rattle.std.proofs.Common.{◌≡◌, ℕ, ◌+◌, ◌*◌, ◌/◌, ◌%◌, ◌^◌, ◌<◌, ◌≤◌, List, [], ◌∷◌, length, get_or-set_same}
use Rattle.std.proofs.Common.{get_or-set_other, ◌⊎◌, inl, inr, refl, sym, ap, ap₂, ◌∙◌, lt-ltb, le-ltb, mod-eq_of_lt}
use Rattle.std.specs.Prelude.{slice_index, slice_index_or, slice_set, if◌then◌else◌}
use Rattle.std.proofs.lemmas.Bool.{cases_eq}
use Rattle.std.proofs.lemmas.Nat.{div-add-mod'}
use mathlib.Core.Path.{fun_ext}
use Rattle.machine_ports.specs.flat_machine.declared.config.Config.{Config}
use Rattle.machine_ports.specs.flat_machine.declared.event.Event.{Event}
use Rattle.serialization.specs.phi_algebra.declared.phi.Phi.{Phi}
use Rattle.serialization.specs.phi_algebra.Functions.{apply}
use Rattle.machine_ports.specs.Ports.{PortState}
use Rattle.serialization.specs.messages.declared.message.Request.{Request}
use Rattle.serialization.specs.messages.declared.message.Reply.{Reply}
use Rattle.serialization.specs.messages.Places.{put}
use Rattle.serialization.proofs.Lemmas.messages.{put_other, put_same}
use Rattle.serialization.specs.messages.Queues.{applied}
use Rattle.serialization.specs.messages.Network.{Net}
use Rattle.serialization.specs.messages.Moves.{module_taken, module_replied}
use Rattle.serialization.specs.Machine.{Machine}
use Rattle.steps.specs.declared.step.Step.TheVariants as step
use Rattle.steps.specs.declared.step.Outcome.TheVariants.{Served, Stalled}
use Rattle.machine_theory.specs.Theory.{stalled, serve_from}
use Rattle.machine_theory.specs.Processors.{ObservedCore, sizes_of, word_at, observed_at, open_at}
use Rattle.machine_theory.specs.Steps.{taken, machine_of_parts, IsStepOf}
use Rattle.machine_theory.proofs.TurnSteps.{stalls, step_of}

-- On a word, `applied` is `apply`.
pub applied_word : (phi : Phi) (x : ℕ) → x < 2 ^ 32 → applied phi x ≡ apply phi x
unfolding applied
applied_word phi x small = ap (apply phi) (mod-eq_of_lt small)

-- If a module's word is replaced, that word of the interleaved memory is replaced.
pub words_set : (k : ℕ) (modules : List (List ℕ)) (number word v : ℕ) → word % 2 ^ k ≡ number → number < length modules →
    word / 2 ^ k < length (slice_index_or modules number []) →
    word_at k (slice_set modules number (slice_set (slice_index_or modules number []) (word / 2 ^ k) v)) ≡ put (word_at k modules) word v
words_set k modules number word v is there place = fun_ext (λ a. at a (cases_eq a word))
  where
    words : List ℕ
    words = slice_index_or modules number []

    abbrevs : ℕ → ℕ
    abbrevs = word_at k (slice_set modules number (slice_set (slice_index_or modules number []) (word / 2 ^ k) v))

    same_module : (a : ℕ) → a % 2 ^ k ≡ number → word_at k (slice_set modules number (slice_set (slice_index_or modules number []) (word / 2 ^ k) v)) a
        ≡ slice_index (slice_set (slice_index_or modules number []) (word / 2 ^ k) v) (a / 2 ^ k)
    same_module a e =
        ap (λ m. slice_index (slice_index_or (slice_set modules number (slice_set (slice_index_or modules number []) (word / 2 ^ k) v)) m []) (a / 2 ^ k)) e
        ∙ ap (λ xs. slice_index xs (a / 2 ^ k)) (get_or-set_same modules number (slice_set (slice_index_or modules number []) (word / 2 ^ k) v) [] there)

    other_place : (a : ℕ) → (a ≡ word → ⊥) → a % 2 ^ k ≡ number → a / 2 ^ k ≡ word / 2 ^ k → ⊥
    other_place a n e f = n (sym (div-add-mod' a (2 ^ k)) ∙ ap₂ (λ q r. q * 2 ^ k + r) f (e ∙ sym is) ∙ div-add-mod' word (2 ^ k))

    elsewhere : (a : ℕ) → (a ≡ word → ⊥) → (a % 2 ^ k ≡ number) ⊎ (a % 2 ^ k ≡ number → ⊥) →
        word_at k (slice_set modules number (slice_set (slice_index_or modules number []) (word / 2 ^ k) v)) a ≡ word_at k modules a
    elsewhere a n (inl e) =
        same_module a e ∙ get_or-set_other (slice_index_or modules number []) (word / 2 ^ k) (a / 2 ^ k) v 0 (other_place a n e)
        ∙ ap (λ m. slice_index (slice_index_or modules m []) (a / 2 ^ k)) (sym e)
    elsewhere a n (inr d) = ap (λ xs. slice_index xs (a / 2 ^ k))
        (get_or-set_other modules number (a % 2 ^ k) (slice_set (slice_index_or modules number []) (word / 2 ^ k) v) [] d)

    at : (a : ℕ) → (a ≡ word) ⊎ (a ≡ word → ⊥) → word_at k (slice_set modules number (slice_set (slice_index_or modules number []) (word / 2 ^ k) v)) a
        ≡ put (word_at k modules) word v a
    at a (inl e) =
        ap (word_at k (slice_set modules number (slice_set (slice_index_or modules number []) (word / 2 ^ k) v))) e
        ∙ same_module word is ∙ get_or-set_same (slice_index_or modules number []) (word / 2 ^ k) v 0 place
        ∙ sym (put_same (word_at k modules) word v) ∙ ap (put (word_at k modules) word v) (sym e)
    at a (inr n) = elsewhere a n (cases_eq (a % 2 ^ k) number) ∙ sym (put_other (word_at k modules) word v a n)

module _ (c : Config) (code : List ℕ) (net : Net) (ports : List PortState) (modules : List (List ℕ)) where
  abbrev M : (ℕ → List Event) → Machine ObservedCore
  M shown = machine_of_parts c net ports modules shown

  -- A serve step stalls if there is no such module.
  pub no_module : (m : ℕ) → 2 ^ c.k ≤ m → IsStepOf c code net ports modules (step.Serve m) Stalled net ports modules
  unfolding machine_of_parts
  no_module m past = stalls c code net ports modules (step.Serve m) (λ shown.
      ap (λ b. if b then serve_from (sizes_of c) (M shown) m (net.requests c.k m) (net.replies c.k m) else stalled (M shown)) (le-ltb m (2 ^ c.k) past))

  served_is : (m : ℕ) → m < 2 ^ c.k → (shown : ℕ → List Event) →
      taken c code (M shown) (step.Serve m) ≡ serve_from (sizes_of c) (M shown) m (net.requests c.k m) (net.replies c.k m)
  unfolding machine_of_parts
  served_is m within shown =
      ap (λ b. if b then serve_from (sizes_of c) (M shown) m (net.requests c.k m) (net.replies c.k m) else stalled (M shown)) (lt-ltb m (2 ^ c.k) within)

  -- A serve step stalls if its module has no request.
  pub no_request : (m : ℕ) → m < 2 ^ c.k → net.requests c.k m ≡ [] → IsStepOf c code net ports modules (step.Serve m) Stalled net ports modules
  unfolding machine_of_parts
  no_request m within none = stalls c code net ports modules (step.Serve m) (λ shown.
      served_is m within shown ∙ ap (λ xs. serve_from (sizes_of c) (M shown) m xs (net.replies c.k m)) none)

  -- A serve step stalls if there is still a reply at its module.
  pub no_place : (m : ℕ) → m < 2 ^ c.k → (net.replies c.k m ≡ [] → ⊥) → IsStepOf c code net ports modules (step.Serve m) Stalled net ports modules
  unfolding machine_of_parts
  no_place m within full = stalls c code net ports modules (step.Serve m) (λ shown.
      served_is m within shown ∙ by (net.requests c.k m) (net.replies c.k m) full shown)
    where
      by : (xs : List Request) (ys : List Reply) → (ys ≡ [] → ⊥) → (shown : ℕ → List Event) → serve_from (sizes_of c) (M shown) m xs ys ≡ stalled (M shown)
      by [] ys some shown = refl
      by (x ∷ xs) [] some shown = absurd (some refl)
      by (x ∷ xs) (y ∷ ys) some shown = refl

  -- A serve step executes the first request at its module, if there is no reply.
  pub serves : (m : ℕ) (x : Request) (rest : List Request) (memory' : List ℕ) (net' : Net) → m < 2 ^ c.k → net.requests c.k m ≡ x ∷ rest →
      net.replies c.k m ≡ [] →
      x.word % 2 ^ c.k ≡ m → m < length modules → x.word / 2 ^ c.k < length (slice_index_or modules m []) → ((i : ℕ) → word_at c.k modules i < 2 ^ 32) →
      memory' ≡ slice_set (slice_index_or modules m []) (x.word / 2 ^ c.k) (apply x.phi (slice_index (slice_index_or modules m []) (x.word / 2 ^ c.k))) →
      net' ≡ module_replied (sizes_of c) (module_taken (sizes_of c) net m) m
      (record { leader = x.leader; value = slice_index (slice_index_or modules m []) (x.word / 2 ^ c.k) }) →
      IsStepOf c code net ports modules (step.Serve m) (Served x.leader) net' ports (slice_set modules m memory')
  unfolding machine_of_parts
  serves m x rest memory' net' within asks free is there place words memory sent =
      let old : ℕ = slice_index (slice_index_or modules m []) (x.word / 2 ^ c.k) in
      let found : word_at c.k modules x.word ≡ old = ap (λ i. slice_index (slice_index_or modules i []) (x.word / 2 ^ c.k)) is in
      let value : applied x.phi (word_at c.k modules x.word) ≡ apply x.phi old =
      applied_word x.phi (word_at c.k modules x.word) (words x.word) ∙ ap (apply x.phi) found in
      let written : word_at c.k (slice_set modules m memory') ≡ put (word_at c.k modules) x.word (applied x.phi (word_at c.k modules x.word))
      = ap (λ xs. word_at c.k (slice_set modules m xs)) memory ∙ words_set c.k modules m x.word (apply x.phi old) is there place
      ∙ ap (put (word_at c.k modules) x.word) (sym value) in
      let reply : net' ≡ module_replied (sizes_of c) (module_taken (sizes_of c) net m) m (record { leader = x.leader; value = word_at c.k modules x.word })
      = sent ∙ ap (λ v. module_replied (sizes_of c) (module_taken (sizes_of c) net m) m (record { leader = x.leader; value = v })) (sym found) in
      step_of c code net net' ports ports modules (slice_set modules m memory') (step.Serve m) (Served x.leader) (record {
        result = λ shown. serve_from (sizes_of c) (M shown) m (x ∷ rest) [];
        is = λ shown. served_is m within shown ∙ ap₂ (λ xs ys. serve_from (sizes_of c) (M shown) m xs ys) asks free;
        answers = refl;
        leaves = λ shown. ap₂ (λ n f. record { net = n; mem = f; core = observed_at ports shown; is_open = open_at ports }) reply written;
      })
