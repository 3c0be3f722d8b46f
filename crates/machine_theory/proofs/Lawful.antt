-- All pokes in the order are lawful.
use Rattle.std.proofs.Common.{◌≡◌, ℕ, Bool, true, false, ◌&&◌, List, [], ◌∷◌, ◌++◌, map, nat_lt, refl, sym, ap, ◌∙◌}
use Rattle.std.specs.Prelude.{if◌then◌else◌}
use Rattle.std.proofs.lemmas.Bool.{and_parts}
use Rattle.machine_ports.specs.flat_machine.declared.config.Config.{Config}
use Rattle.machine_ports.specs.flat_machine.declared.poke.Poke as pokes
use Rattle.machine_ports.specs.flat_machine.declared.poke.Entry.{Entry}
use Rattle.machine_ports.specs.flat_machine.declared.poke.Entry.TheVariants as entry
use Rattle.serialization.specs.messages.declared.message.Request.{Request}
use Rattle.serialization.specs.messages.declared.message.Reply.{Reply}
use Rattle.serialization.specs.messages.declared.moves.UpMove.{UpMove}
use Rattle.serialization.specs.messages.declared.moves.UpMove.TheVariants as up
use Rattle.serialization.specs.messages.declared.moves.DownMove.{DownMove}
use Rattle.serialization.specs.messages.declared.moves.DownMove.TheVariants as down
use Rattle.serialization.specs.messages.Network.{Net, wires}
use Rattle.serialization.specs.messages.Moves.{moved_up, moved_down}
use Rattle.serialization.specs.Program.{Kind, Rests, Alone, Refers}
use Rattle.serialization.specs.Machine.{Machine, Turn, Up, Serve, Down, Poke, Issued, Advanced}
use Rattle.serialization.specs.Machine.{Retired, Moved, Combined, Served, Answered, Poked, Stalled}
use Rattle.serialization.specs.Machine.{retire_from, begin, turned, all_shut, poked, step}
use Rattle.serialization.specs.Order.{pass, passes}
use Rattle.machine_theory.specs.Theory.{Result, Step, Outcome, stalled, went_up, went_down, serve_from}
use Rattle.machine_theory.specs.Order.{Passed, segment}
use Rattle.machine_theory.specs.Processors.{ObservedCore, sizes_of, program, is_lawful_poke, may_poke}
use Rattle.machine_theory.proofs.FlatPokes.{may_is_lawful}
use Rattle.machine_theory.specs.Flatness.{AreLawful}

module _ (c : Config) (code : List ℕ) where
  Lawful : Outcome → Type 0
  Lawful o = (q : pokes.Poke) → o ≡ Poked q → is_lawful_poke c q ≡ true

  up_lawful : (M : Machine ObservedCore) (r : UpMove × Net) → Lawful (went_up M r).outcome
  unfolding Lawful
  up_lawful M (up.Stalled, net) q e = absurd (cc)
  up_lawful M (up.Moved, net) q e = absurd (cc)
  up_lawful M (up.Combined a b, net) q e = absurd (cc)

  down_lawful : (M : Machine ObservedCore) (r : DownMove × Net) → Lawful (went_down M r).outcome
  unfolding Lawful
  down_lawful M (down.Stalled, net) q e = absurd (cc)
  down_lawful M (down.Moved, net) q e = absurd (cc)
  down_lawful M (down.Answered a, net) q e = absurd (cc)

  serve_lawful : (M : Machine ObservedCore) (m : ℕ) (xs : List Request) (ys : List Reply) → Lawful (serve_from (sizes_of c) M m xs ys).outcome
  unfolding Lawful
  serve_lawful M m [] ys q e = absurd (cc)
  serve_lawful M m (x ∷ xs) [] q e = absurd (cc)
  serve_lawful M m (x ∷ xs) (y ∷ ys) q e = absurd (cc)

  retire_lawful : (M : Machine ObservedCore) (p : ℕ) (xs : List Reply) → Lawful (retire_from (program c code) M p xs).outcome
  unfolding Lawful
  retire_lawful M p [] q e = absurd (cc)
  retire_lawful M p (y ∷ ys) q e = absurd (cc)

  begin_lawful : (M : Machine ObservedCore) (p : ℕ) (k : Kind) → Lawful (begin (program c code) M p k).outcome
  unfolding Lawful
  begin_lawful M p Rests q e = absurd (cc)
  begin_lawful M p Alone q e = absurd (cc)
  begin_lawful M p Refers q e = absurd (cc)

  turn_lawful : (M : Machine ObservedCore) (p : ℕ) (o : Bool) → Lawful (turned (program c code) M p o).outcome
  turn_lawful M p true = retire_lawful M p (M.net.replies 0 p)
  turn_lawful M p false = begin_lawful M p ((program c code).kind p (M.core p))

  stalled_lawful : (M : Machine ObservedCore) → Lawful (stalled M).outcome
  unfolding Lawful
  stalled_lawful M q e = absurd (cc)

  poke_lawful : (M : Machine ObservedCore) (r : pokes.Poke) (b : Bool) → (all_shut (wires (sizes_of c)) M.is_open && may_poke c M.core r) ≡ b →
      Lawful (if b then poked (program c code) M r else stalled M).outcome
  unfolding Lawful
  poke_lawful M r true e q f = let same : r ≡ q =
      cc in ap (is_lawful_poke c) (sym same) ∙ may_is_lawful c M.core r (and_parts (all_shut (wires (sizes_of c)) M.is_open) (may_poke c M.core r) e).1
  poke_lawful M r false e q f = absurd (cc)

  step_lawful : (M : Machine ObservedCore) (st : Step) → Lawful (step (sizes_of c) (program c code) M st).outcome
  step_lawful M (Turn p) = at (nat_lt p (wires (sizes_of c)))
    where
      at : (b : Bool) → Lawful (if b then turned (program c code) M p (M.is_open p) else stalled M).outcome
      at true = turn_lawful M p (M.is_open p)
      at false = stalled_lawful M
  step_lawful M (Up s w) = at (nat_lt w (wires (sizes_of c)))
    where
      at : (b : Bool) → Lawful (if b then went_up M (moved_up (sizes_of c) M.net s w) else stalled M).outcome
      at true = up_lawful M (moved_up (sizes_of c) M.net s w)
      at false = stalled_lawful M
  step_lawful M (Serve m) = at (nat_lt m (wires (sizes_of c)))
    where
      at : (b : Bool) → Lawful (if b then serve_from (sizes_of c) M m (M.net.requests c.k m) (M.net.replies c.k m) else stalled M).outcome
      at true = serve_lawful M m (M.net.requests c.k m) (M.net.replies c.k m)
      at false = stalled_lawful M
  step_lawful M (Down s w) = at (nat_lt w (wires (sizes_of c)))
    where
      at : (b : Bool) → Lawful (if b then went_down M (moved_down (sizes_of c) M.net s w) else stalled M).outcome
      at true = down_lawful M (moved_down (sizes_of c) M.net s w)
      at false = stalled_lawful M
  step_lawful M (Poke q) = poke_lawful M q (all_shut (wires (sizes_of c)) M.is_open && may_poke c M.core q) refl

  lawful_append : (xs ys : List Entry) → AreLawful c xs → AreLawful c ys → AreLawful c (xs ++ ys)
  lawful_append [] ys a b = b
  lawful_append (x ∷ xs) ys a b = (a.0, lawful_append xs ys a.1 b)

  served_lawful : (js : List ℕ) → AreLawful c (map entry.Processor js)
  served_lawful [] = tt
  served_lawful (j ∷ js) = (tt, served_lawful js)

  segment_lawful : (group : ℕ → List ℕ) (o : Outcome) → Lawful o → AreLawful c (segment group o)
  unfolding Lawful
  segment_lawful group (Issued p) h = tt
  segment_lawful group (Advanced p) h = (tt, tt)
  segment_lawful group (Retired p v) h = tt
  segment_lawful group Moved h = tt
  segment_lawful group (Combined a b) h = tt
  segment_lawful group (Served p) h = served_lawful (group p)
  segment_lawful group (Answered a) h = tt
  segment_lawful group (Poked q) h = (h q refl, tt)
  segment_lawful group Stalled h = tt

  -- If all pokes of an order are lawful, so are those of the order after any steps.
  pub order_lawful : (steps : List Step) (h : Passed ObservedCore) → AreLawful c h.order → AreLawful c (passes (sizes_of c) (program c code) steps h).order
  unfolding passes
  order_lawful [] h a = a
  order_lawful (st ∷ steps) h a = order_lawful steps (pass (sizes_of c) (program c code) h st)
      (lawful_append h.order (segment h.group (step (sizes_of c) (program c code) h.machine st).outcome) a
      (segment_lawful h.group (step (sizes_of c) (program c code) h.machine st).outcome (step_lawful h.machine st)))
