-- What a kind of step is, and lists of steps none of which writes from outside.
use Rattle.std.proofs.Common.{◌≡◌, ℕ, zero, suc, ◌<◌, Bool, true, false, not, List, [], ◌∷◌, ◌++◌, take, map, Some, refl, sym, ap, ◌∙◌, arith}
use Rattle.std.proofs.Common.{eq-eqb, lt-ltb}
use Rattle.std.specs.Prelude.{slice_get}
use Rattle.std.proofs.lemmas.Bool.{and_from, and_parts}
use Rattle.steps.specs.declared.step.Step.{Step}
use Rattle.steps.specs.declared.step.Step.TheVariants as step
use Rattle.steps.specs.Kinds.{is_network, is_poke, is_turn, is_turn_below, is_turn_of, no_poke, turn_processor}

-- ---- kinds

-- A step that is a turn of a processor is the turn of this processor.
pub turn_is : (p : ℕ) (s : Step) → turn_processor s ≡ Some p → s ≡ step.Turn p
turn_is p (step.Turn q) e = ap step.Turn (cc e)
turn_is p (step.Up s w) e = absurd (cc)
turn_is p (step.Serve m) e = absurd (cc)
turn_is p (step.Down s w) e = absurd (cc)
turn_is p (step.Poke q) e = absurd (cc)

-- A turn of a processor is a turn.
pub turn_of_is_turn : (p : ℕ) (s : Step) → is_turn_of p s ≡ true → is_turn s ≡ true
turn_of_is_turn p (step.Turn q) e = refl
turn_of_is_turn p (step.Up s w) e = absurd (cc)
turn_of_is_turn p (step.Serve m) e = absurd (cc)
turn_of_is_turn p (step.Down s w) e = absurd (cc)
turn_of_is_turn p (step.Poke q) e = absurd (cc)

-- A step of the network is no turn.
pub network_no_turn : (p : ℕ) (s : Step) → is_network s ≡ true → is_turn_of p s ≡ false
network_no_turn p (step.Turn q) e = absurd (cc)
network_no_turn p (step.Up s w) e = refl
network_no_turn p (step.Serve m) e = refl
network_no_turn p (step.Down s w) e = refl
network_no_turn p (step.Poke q) e = absurd (cc)

-- A step of the network writes nothing from outside.
pub network_no_poke : (s : Step) → is_network s ≡ true → is_poke s ≡ false
network_no_poke (step.Turn q) e = absurd (cc)
network_no_poke (step.Up s w) e = refl
network_no_poke (step.Serve m) e = refl
network_no_poke (step.Down s w) e = refl
network_no_poke (step.Poke q) e = absurd (cc)

-- A step that is a turn of no other processor than p, which is one of `count`, is a turn of one of them, or no turn.
pub turns_of_one : (s : Step) (p count : ℕ) → p < count → ((q : ℕ) → is_turn_of q s ≡ true → q ≡ p) → is_turn_below count s ≡ true
turns_of_one (step.Turn q) p count less own = let same : q ≡ p = own q (eq-eqb q q refl) in lt-ltb q count (omega arith)
turns_of_one (step.Up s w) p count less own = refl
turns_of_one (step.Serve m) p count less own = refl
turns_of_one (step.Down s w) p count less own = refl
turns_of_one (step.Poke q) p count less own = refl

-- ---- lists

is_on : (b : Bool) → not b ≡ true → b ≡ false
is_on true e = absurd (cc)
is_on false e = refl

-- If no step of a list writes from outside, the first does not, and no later one does.
pub no_poke_parts : (s : Step) (ss : List Step) → no_poke (s ∷ ss) ≡ true → (is_poke s ≡ false) × (no_poke ss ≡ true)
no_poke_parts s ss own = let parts = and_parts (not (is_poke s)) (no_poke ss) own in (is_on (is_poke s) parts.0, parts.1)

-- A step in front of a list writes nothing from outside, nor does the list: then the longer list does not.
pub no_poke_more : (s : Step) (ss : List Step) → is_poke s ≡ false → no_poke ss ≡ true → no_poke (s ∷ ss) ≡ true
no_poke_more s ss own rest = and_from (not (is_poke s)) (no_poke ss) (ap not own) rest

-- If no step of two lists writes from outside, none of the two joined does.
pub no_poke_both : (xs ys : List Step) → no_poke xs ≡ true → no_poke ys ≡ true → no_poke (xs ++ ys) ≡ true
no_poke_both [] ys a b = b
no_poke_both (x ∷ xs) ys a b = let parts = no_poke_parts x xs a in no_poke_more x (xs ++ ys) parts.0 (no_poke_both xs ys parts.1 b)

-- If no step of two lists joined writes from outside, none of the first does.
pub no_poke_front : (xs ys : List Step) → no_poke (xs ++ ys) ≡ true → no_poke xs ≡ true
no_poke_front [] ys a = refl
no_poke_front (x ∷ xs) ys a = let parts = no_poke_parts x (xs ++ ys) a in no_poke_more x xs parts.0 (no_poke_front xs ys parts.1)

-- Nor does any of the second.
pub no_poke_rest : (xs ys : List Step) → no_poke (xs ++ ys) ≡ true → no_poke ys ≡ true
no_poke_rest [] ys a = a
no_poke_rest (x ∷ xs) ys a = no_poke_rest xs ys (no_poke_parts x (xs ++ ys) a).1

-- Nor does any of the first n steps of a list in which none does.
pub no_poke_take : (n : ℕ) (xs : List Step) → no_poke xs ≡ true → no_poke (take n xs) ≡ true
no_poke_take zero xs a = refl
no_poke_take (suc n) [] a = refl
no_poke_take (suc n) (x ∷ xs) a = let parts = no_poke_parts x xs a in no_poke_more x (take n xs) parts.0 (no_poke_take n xs parts.1)

-- Nor does the step at a place of such a list.
pub no_poke_at : (xs : List Step) (i : ℕ) (s : Step) → no_poke xs ≡ true → slice_get xs i ≡ Some s → is_poke s ≡ false
no_poke_at [] i s own there = absurd (cc)
no_poke_at (x ∷ xs) zero s own there = (let same : x ≡ s = cc in ap is_poke (sym same) ∙ (no_poke_parts x xs own).0)
no_poke_at (x ∷ xs) (suc i) s own there = no_poke_at xs i s (no_poke_parts x xs own).1 there

-- If f gives for each number a step that writes nothing from outside, no step for a list of numbers does.
pub no_poke_each : (f : ℕ → Step) → ((w : ℕ) → is_poke (f w) ≡ false) → (ws : List ℕ) → no_poke (map f ws) ≡ true
no_poke_each f own [] = refl
no_poke_each f own (w ∷ ws) = no_poke_more (f w) (map f ws) (own w) (no_poke_each f own ws)
