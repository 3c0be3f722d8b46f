use Rattle.std.proofs.Common.{subst}
use Rattle.state_store.specs.TransitionCache.{IsNoted}
use Rattle.state_store.proofs.Remembering.{inserted_noted, either}
use Rattle.state_store.proofs.transition_cache.TransitionCache.keep.Goals as goal

pub returns : goal.returns
returns c =
    subst (λ m. IsNoted m c.args.question c.args.answer (record { entries = c.insert.new.self.entries })) c.self.view_is
    (inserted_noted c.self.inside.answers.entries c.insert.new.self.entries c.args.question c.args.answer
    (either c.insert.result c.insert.ensures.updates c.insert.ensures.err))
