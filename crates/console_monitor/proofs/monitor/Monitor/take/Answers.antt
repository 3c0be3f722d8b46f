use Rattle.std.proofs.Common.{◌≡◌, ◌∙◌, ℕ, ◌<◌, List, ◌++◌, ◌∷◌, [], ap, map, length, Option, Some, None, subst, sym}
use Rattle.std.specs.Prelude.{MatchOption, slice_set, slice_index_or}
use Rattle.std.proofs.lemmas.List.{length-map}
use Rattle.console_monitor.specs.Ends.{inlet_queue, taken_of, at}
use Rattle.console_monitor.specs.declared.queue.Inlet.{Inlet}
use Rattle.console_monitor.proofs.Joins.{map_kept, map_put}
use Rattle.console_monitor.proofs.monitor.Monitor.take.Goals as goal

takes : (o : Option ℕ) (xs : List Inlet) (p : ℕ) (y d : Inlet) → p < length xs → d ≡ slice_index_or xs p d
    → MatchOption o (taken_of y ≡ taken_of d) (λ x. taken_of y ≡ taken_of d ++ x ∷ [])
    → MatchOption o (map taken_of (slice_set xs p y) ≡ map taken_of xs)
    (λ x. map taken_of (slice_set xs p y) ≡ slice_set (map taken_of xs) p (at (map taken_of xs) p ++ x ∷ []))
takes None xs p y d lt is h = map_kept taken_of xs p y d (h ∙ ap taken_of is)
takes (Some x) xs p y d lt is h = map_put taken_of xs p y d (x ∷ []) lt (h ∙ ap (λ v. taken_of v ++ x ∷ []) is)

-- The same holds if the inlet's place is given as another number.
takes_at : (o : Option ℕ) (xs : List Inlet) (place p : ℕ) (y d : Inlet) → place ≡ p → p < length xs → d ≡ slice_index_or xs place d
    → MatchOption o (taken_of y ≡ taken_of d) (λ x. taken_of y ≡ taken_of d ++ x ∷ [])
    → MatchOption o (map taken_of (slice_set xs place y) ≡ map taken_of xs)
    (λ x. map taken_of (slice_set xs place y) ≡ slice_set (map taken_of xs) p (at (map taken_of xs) p ++ x ∷ []))
takes_at o xs place p y d same lt is h =
    subst (λ q. MatchOption o (map taken_of (slice_set xs q y) ≡ map taken_of xs)
    (λ x. map taken_of (slice_set xs q y) ≡ slice_set (map taken_of xs) p (at (map taken_of xs) p ++ x ∷ [])))
    (sym same) (takes o xs p y d lt (is ∙ ap (λ q. slice_index_or xs q d) same) h)

pub returns-clause-queues : goal.returns-clause-queues
returns-clause-queues c =
    map_kept inlet_queue c.args.self.now.inlets.items c.from.result c.take.new.self c.index_mut.result.now
    (c.take.ensures.queue ∙ ap inlet_queue c.index_mut.ensures.value)

pub returns-clause-taken : goal.returns-clause-taken
returns-clause-taken c =
    let lt : c.args.p < length c.args.self.now.inlets.items = rw (length-map c.args.self.now.inlets.items) at c.requires in
    takes_at c.take.result c.args.self.now.inlets.items c.from.result c.args.p c.take.new.self c.index_mut.result.now
    c.from.ensures lt c.index_mut.ensures.value c.take.ensures.taken
