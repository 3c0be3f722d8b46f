-- One more processor, and one more change of priority.
use Rattle.std.proofs.Common.{◌≡◌, ℕ, suc, ◌+◌, ap, ap₂, ◌∙◌, arith}
use Rattle.std.specs.Prelude.{◌%◌, insert}
use Rattle.schedules.specs.Choices.{next_state}
use Rattle.random_schedules.specs.Epochs.{EpochModel, lowered, segment, shuffled, with_changes}

-- After the next processor is inserted, the epoch is one of that many processors.
pub shuffled_more : (turns x p y : ℕ) (e f : EpochModel) → e ≡ shuffled turns x p → y ≡ next_state e.state →
    f.segments ≡ insert e.segments (y % (p + 1)) (segment p turns) → f.state ≡ y → f ≡ shuffled turns x (p + 1)
unfolding shuffled
shuffled_more turns x p y e f before next segments state =
    ap₂ (λ xs z. record { segments = xs; state = z }) segments state
    ∙ ap (λ z. record { segments = insert e.segments (z % (p + 1)) (segment p turns); state = z }) next
    ∙ ap (λ (g : EpochModel). record { segments = insert g.segments (next_state g.state % (p + 1)) (segment p turns); state = next_state g.state }) before
    ∙ ap (shuffled turns x) (let same : suc p ≡ p + 1 = omega arith in same)

-- After the next change, the epoch has that many changes.
pub changed_more : (turns n y : ℕ) (first e f g : EpochModel) → e ≡ with_changes turns n first → y ≡ next_state e.state →
    f ≡ record { segments = e.segments; state = y } → g ≡ record { segments = lowered (y % turns) f.segments; state = f.state } →
    g ≡ with_changes turns (n + 1) first
unfolding with_changes
changed_more turns n y first e f g before next middle last =
    last
    ∙ ap (λ (h : EpochModel). record { segments = lowered (y % turns) h.segments; state = h.state }) middle
    ∙ ap (λ z. record { segments = lowered (z % turns) e.segments; state = z }) next
    ∙ ap (λ (h : EpochModel). record { segments = lowered (next_state h.state % turns) h.segments; state = next_state h.state }) before
    ∙ ap (λ m. with_changes turns m first) (let same : suc n ≡ n + 1 = omega arith in same)
