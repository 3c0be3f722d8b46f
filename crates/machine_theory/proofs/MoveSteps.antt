-- Moves of messages are steps of the machine.
use Rattle.std.proofs.Common.{◌≡◌, ℕ, suc, ◌%◌, ◌^◌, ◌<◌, ◌≤◌, Bool, true, false, List, [], ◌∷◌, ◌++◌}
use Rattle.std.proofs.Common.{length, nat_lt, Option, Some, None, refl, sym, ap, ◌∙◌, lt-ltb, le-ltb}
use Rattle.std.specs.Prelude.{if◌then◌else◌}
use Rattle.machine_ports.specs.flat_machine.declared.config.Config.{Config}
use Rattle.machine_ports.specs.flat_machine.declared.event.Event.{Event}
use Rattle.machine_ports.specs.Ports.{PortState}
use Rattle.serialization.specs.omega_wires.Wires.{wire_after, wire_before}
use Rattle.serialization.specs.messages.declared.message.Request.{Request}
use Rattle.serialization.specs.messages.declared.message.Reply.{Reply}
use Rattle.serialization.specs.messages.declared.message.Record.{Record}
use Rattle.serialization.specs.messages.declared.moves.UpMove.{UpMove}
use Rattle.serialization.specs.messages.declared.moves.UpMove.TheVariants as up
use Rattle.serialization.specs.messages.declared.moves.DownMove.{DownMove}
use Rattle.serialization.specs.messages.declared.moves.DownMove.TheVariants as down
use Rattle.serialization.specs.messages.Network.{Sizes, Net, wires, put_requests, put_replies, put_records}
use Rattle.serialization.specs.messages.Queues.{Combination, combination, unmarked, answers, records_of, records_but}
use Rattle.serialization.specs.messages.Moves.{queued, accepted, up_from, moved_up, push_all, has_room, answered, answer, down_from, moved_down}
use Rattle.serialization.specs.Machine.{Machine}
use Rattle.steps.specs.declared.step.Step.{Step}
use Rattle.steps.specs.declared.step.Step.TheVariants as step
use Rattle.steps.specs.declared.step.Outcome.{Outcome}
use Rattle.steps.specs.declared.step.Outcome.TheVariants.{Moved, Combined, Answered, Stalled}
use Rattle.machine_theory.specs.Theory.{Result, stalled, went_up, went_down}
use Rattle.machine_theory.specs.Processors.{ObservedCore, next, port_at, sizes_of}
use Rattle.machine_theory.specs.Steps.{IsStepOf, answer_of, machine_of_parts, taken, with_shown}
use Rattle.machine_theory.specs.Turning.{outcome_of_up, outcome_of_down}
use Rattle.machine_theory.proofs.TurnSteps.{stalls, step_of}

-- ---- a move that stalls changes nothing

-- A move that is made only if b holds, and stalls otherwise, changes nothing if it stalls, given that the move itself
-- does so.
either_stays : {Kind : Type 0} (b : Bool) (x : Kind × Net) (stall : Kind) (net : Net) → (x.0 ≡ stall → x.1 ≡ net) →
    (if b then x else (stall, net)).0 ≡ stall → (if b then x else (stall, net)).1 ≡ net
either_stays true x stall net first e = first e
either_stays false x stall net first e = refl

queue_stalls : (z : Sizes) (net before : Net) (s w : ℕ) (x : Request) → (queued z net before s w x).0 ≡ up.Stalled → (queued z net before s w x).1 ≡ net
queue_stalls z net before s w x = either_stays (nat_lt (length (before.requests (suc s) w)) z.c)
    (up.Moved, put_requests before (suc s) w (before.requests (suc s) w ++ unmarked x ∷ [])) up.Stalled net (λ e. absurd (cc))

accept_stalls : (z : Sizes) (net before : Net) (s w : ℕ) (x : Request) (o : Option Combination) → (accepted z net before s w x o).0 ≡ up.Stalled →
    (accepted z net before s w x o).1 ≡ net
accept_stalls z net before s w x None e = queue_stalls z net before s w x e
accept_stalls z net before s w x (Some j) e = absurd (cc)

up_from_stalls : (z : Sizes) (net : Net) (s w : ℕ) (xs : List Request) → (up_from z net s w xs).0 ≡ up.Stalled → (up_from z net s w xs).1 ≡ net
up_from_stalls z net s w [] e = refl
up_from_stalls z net s w (x ∷ rest) e =
    let before : Net = put_requests net s w rest in
    let v : ℕ = wire_after z.k s w (x.word % wires z) in
    accept_stalls z net before s v x (combination z.b z.r x (before.requests (suc s) v) (before.records s v)) e

up_stalls : (z : Sizes) (net : Net) (s w : ℕ) → (moved_up z net s w).0 ≡ up.Stalled → (moved_up z net s w).1 ≡ net
unfolding moved_up
up_stalls z net s w = either_stays (nat_lt s z.k) (up_from z net s w (net.requests s w)) up.Stalled net (up_from_stalls z net s w (net.requests s w))

answered_moves : (records : List Record) → answered records ≡ down.Stalled → ⊥
answered_moves [] e = cc
answered_moves (r ∷ rs) e = cc

answer_stalls : (z : Sizes) (net before : Net) (s w : ℕ) (x : Reply) (records : List Record) → (answer z net before s w x records).0 ≡ down.Stalled →
    (answer z net before s w x records).1 ≡ net
answer_stalls z net before s w x records =
    let ys : List Reply = answers records x in
    let all : Net = push_all (wire_before z.k s w) s ys (put_records before s w (records_but x.leader (before.records s w))) in
    either_stays (has_room z.c (wire_before z.k s w) s all ys) (answered records, all) down.Stalled net (λ e. absurd (answered_moves records e))

down_from_stalls : (z : Sizes) (net : Net) (s w : ℕ) (xs : List Reply) → (down_from z net s w xs).0 ≡ down.Stalled → (down_from z net s w xs).1 ≡ net
down_from_stalls z net s w [] e = refl
down_from_stalls z net s w (x ∷ rest) e = answer_stalls z net (put_replies net (suc s) w rest) s w x (records_of x.leader (net.records s w)) e

down_stalls : (z : Sizes) (net : Net) (s w : ℕ) → (moved_down z net s w).0 ≡ down.Stalled → (moved_down z net s w).1 ≡ net
unfolding moved_down
down_stalls z net s w =
    either_stays (nat_lt s z.k) (down_from z net s w (net.replies (suc s) w)) down.Stalled net (down_from_stalls z net s w (net.replies (suc s) w))

-- ---- steps

module _ (c : Config) (code : List ℕ) (net : Net) (ports : List PortState) (modules : List (List ℕ)) where
  abbrev M : (ℕ → List Event) → Machine ObservedCore
  M shown = machine_of_parts c net ports modules shown

  -- A step that makes a move has the outcome of the move, and leaves the network that the move leaves.
  module _ {Kind : Type 0} (st : Step) (w : ℕ) (went : Machine ObservedCore → Kind × Net → Result ObservedCore) (moved : Kind × Net)
      (takes : (shown : ℕ → List Event) → taken c code (M shown) st ≡ (if nat_lt w (2 ^ c.k) then went (M shown) moved else stalled (M shown))) where
    goes : (r : Kind) (n : Net) (o : Outcome) → w < 2 ^ c.k → r ≡ moved.0 → n ≡ moved.1 →
        o ≡ answer_of (λ p. next c code p (port_at ports p).core.state) (went (M (λ p. [])) (r, n)).outcome →
        ((shown : ℕ → List Event) → machine_of_parts c n ports modules (with_shown shown st o) ≡ (went (M shown) (r, n)).machine) →
        IsStepOf c code net ports modules st o n ports modules
    goes r n o within outcome after answers leaves = step_of c code net n ports ports modules modules st o (record {
      result = λ shown. went (M shown) (r, n);
      is = λ shown. takes shown ∙ ap (λ b. if b then went (M shown) moved else stalled (M shown)) (lt-ltb w (2 ^ c.k) within)
          ∙ ap (went (M shown)) (λ i. (sym outcome i, sym after i));
      answers = answers;
      leaves = leaves;
    })

    no_wire : 2 ^ c.k ≤ w → IsStepOf c code net ports modules st Stalled net ports modules
    no_wire past = stalls c code net ports modules st
        (λ shown. takes shown ∙ ap (λ b. if b then went (M shown) moved else stalled (M shown)) (le-ltb w (2 ^ c.k) past))

    no_stage : ((shown : ℕ → List Event) → went (M shown) moved ≡ stalled (M shown)) → IsStepOf c code net ports modules st Stalled net ports modules
    no_stage past = stalls c code net ports modules st
        (λ shown. takes shown ∙ ap (λ (r : Result ObservedCore). if nat_lt w (2 ^ c.k) then r else stalled (M shown)) (past shown)
        ∙ one_of (nat_lt w (2 ^ c.k)) (stalled (M shown)))
      where
        one_of : {X : Type 0} (b : Bool) (x : X) → (if b then x else x) ≡ x
        one_of true x = refl
        one_of false x = refl

  module _ (s w : ℕ) where
    abbrev up_move : UpMove × Net
    up_move = moved_up (sizes_of c) net s w

    takes_up : (shown : ℕ → List Event) → taken c code (M shown) (step.Up s w) ≡ (if nat_lt w (2 ^ c.k) then went_up (M shown) up_move else stalled (M shown))
    unfolding machine_of_parts
    takes_up shown = refl

    -- On a wire of the network, a step up does what the move up does.
    pub goes_up : (r : UpMove) (net' : Net) → w < 2 ^ c.k → r ≡ up_move.0 → net' ≡ up_move.1 →
        IsStepOf c code net ports modules (step.Up s w) (outcome_of_up r) net' ports modules
    unfolding machine_of_parts
    goes_up up.Stalled n within outcome after = goes (step.Up s w) w went_up up_move takes_up up.Stalled n Stalled within outcome after refl
        (λ shown. ap (λ n. machine_of_parts c n ports modules shown) (after ∙ up_stalls (sizes_of c) net s w (sym outcome)))
    goes_up up.Moved n within outcome after =
        goes (step.Up s w) w went_up up_move takes_up up.Moved n Moved within outcome after refl (λ shown. refl)
    goes_up (up.Combined first second) n within outcome after =
        goes (step.Up s w) w went_up up_move takes_up (up.Combined first second) n (Combined first second) within outcome after refl (λ shown. refl)

    -- A step up stalls if there is no such stage.
    pub no_stage_up : c.k ≤ s → IsStepOf c code net ports modules (step.Up s w) Stalled net ports modules
    unfolding moved_up
    no_stage_up past = no_stage (step.Up s w) w went_up up_move takes_up
        (λ shown. ap (λ b. went_up (M shown) (if b then up_from (sizes_of c) net s w (net.requests s w) else (up.Stalled, net))) (le-ltb s c.k past))

    -- A step up stalls if there is no such wire.
    pub no_wire_up : 2 ^ c.k ≤ w → IsStepOf c code net ports modules (step.Up s w) Stalled net ports modules
    no_wire_up = no_wire (step.Up s w) w went_up up_move takes_up

    abbrev down_move : DownMove × Net
    down_move = moved_down (sizes_of c) net s w

    takes_down : (shown : ℕ → List Event) →
        taken c code (M shown) (step.Down s w) ≡ (if nat_lt w (2 ^ c.k) then went_down (M shown) down_move else stalled (M shown))
    unfolding machine_of_parts
    takes_down shown = refl

    -- On a wire of the network, a step down does what the move down does.
    pub goes_down : (r : DownMove) (net' : Net) → w < 2 ^ c.k → r ≡ down_move.0 → net' ≡ down_move.1 →
        IsStepOf c code net ports modules (step.Down s w) (outcome_of_down r) net' ports modules
    unfolding machine_of_parts
    goes_down down.Stalled n within outcome after = goes (step.Down s w) w went_down down_move takes_down down.Stalled n Stalled within outcome after refl
        (λ shown. ap (λ n. machine_of_parts c n ports modules shown) (after ∙ down_stalls (sizes_of c) net s w (sym outcome)))
    goes_down down.Moved n within outcome after =
        goes (step.Down s w) w went_down down_move takes_down down.Moved n Moved within outcome after refl (λ shown. refl)
    goes_down (down.Answered to) n within outcome after =
        goes (step.Down s w) w went_down down_move takes_down (down.Answered to) n (Answered to) within outcome after refl (λ shown. refl)

    -- A step down stalls if there is no such stage.
    pub no_stage_down : c.k ≤ s → IsStepOf c code net ports modules (step.Down s w) Stalled net ports modules
    unfolding moved_down
    no_stage_down past = no_stage (step.Down s w) w went_down down_move takes_down
        (λ shown. ap (λ b. went_down (M shown) (if b then down_from (sizes_of c) net s w (net.replies (suc s) w) else (down.Stalled, net)))
        (le-ltb s c.k past))

    -- A step down stalls if there is no such wire.
    pub no_wire_down : 2 ^ c.k ≤ w → IsStepOf c code net ports modules (step.Down s w) Stalled net ports modules
    no_wire_down = no_wire (step.Down s w) w went_down down_move takes_down
