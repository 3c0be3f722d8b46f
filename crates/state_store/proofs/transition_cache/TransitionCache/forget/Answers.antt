use Rattle.std.proofs.Common.{subst}
use Rattle.state_store.specs.TransitionCache.{IsForgotten}
use Rattle.state_store.proofs.Remembering.{removed_forgotten}
use Rattle.state_store.proofs.transition_cache.TransitionCache.forget.Goals as goal

pub returns : goal.returns
returns c =
    subst (λ m. IsForgotten m (record { entries = c.swap_remove_index.new.self.entries })) c.self.view_is
    (removed_forgotten c.self.inside.answers.entries c.swap_remove_index.new.self.entries c.swap_remove_index.result _ (λ p u. u.0)
    c.swap_remove_index.ensures.updates c.swap_remove_index.ensures.unchanged)
