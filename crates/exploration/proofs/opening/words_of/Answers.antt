use Rattle.std.proofs.Common.{◌≡◌, ℕ, ◌∷◌, [], ◌++◌, length, nat_lt, map, sym, ap, ◌∙◌, arith}
use Rattle.std.specs.List.{range_with_len}
use Rattle.std.proofs.lemmas.List.FromFn.{length-map-range_with_len, map-range_with_len_more}
use Rattle.machine_steps.specs.machine_theory.Processors.{word_at}
use Rattle.exploration.proofs.Exploring.{picked}
use Rattle.exploration.proofs.opening.words_of.Goals as goal

pub push-requires : goal.push-requires
push-requires c =
    let long : length c.loop-number.words ≡ c.loop-number.number =
    ap length c.loop-number.invariant
    ∙ length-map-range_with_len (word_at c.args.machine.now.config.k c.args.machine.now.modules) 0 c.loop-number.number in
    omega (arith, long)

pub loop-number-preserved : goal.loop-number-preserved
loop-number-preserved c =
    let word : ℕ → ℕ = word_at c.args.machine.now.config.k c.args.machine.now.modules in
    let is : c.in-Some.word ≡ word c.loop-number.number =
    picked (nat_lt c.loop-number.number c.args.machine.now.config.shared_words) c.in-Some.word (word c.loop-number.number) c.in-Some.ensures in
    c.in_ok-push-in-Some.ensures.pushed
    ∙ (ap (λ xs. xs ++ c.in-Some.word ∷ []) c.loop-number.invariant
    ∙ (ap (λ x. map word (range_with_len 0 c.loop-number.number) ++ x ∷ []) is
    ∙ sym (map-range_with_len_more word 0 c.loop-number.number c.loop-number.number (omega arith))))
