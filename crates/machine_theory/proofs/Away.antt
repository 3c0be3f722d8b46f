-- A step leaves each core where it is, at home or away.
use Rattle.std.proofs.Common.{◌≡◌, ℕ, ◌^◌, Bool, true, false, nat_lt, List, [], ◌∷◌, ◌⊎◌, inl, inr, refl, sym, ap, ◌∙◌}
use Rattle.std.specs.Prelude.{◌&&◌, if◌then◌else◌}
use Rattle.std.proofs.lemmas.Bool.{cases_eq}
use Rattle.machine_ports.specs.flat_machine.declared.config.Config.{Config}
use Rattle.machine_ports.specs.flat_machine.declared.poke.Poke.{Poke}
use Rattle.machine_ports.specs.flat_machine.declared.poke.Poke.TheVariants as poke
use Rattle.machine_ports.specs.flat_machine.Turns.{Turn, Retires, Reaches, Stops}
use Rattle.machine_ports.specs.flat_machine.Flat.{with_poked_register}
use Rattle.machine_ports.specs.hart.Deciding.{after_reply}
use Rattle.machine_ports.specs.Ports.{PortState, is_away}
use Rattle.machine_ports.proofs.Lemmas.{reaches_stays, register_stays, retires_stays}
use Rattle.serialization.specs.messages.declared.message.Request.{Request}
use Rattle.serialization.specs.messages.declared.message.Reply.{Reply}
use Rattle.serialization.specs.messages.declared.moves.UpMove.{UpMove}
use Rattle.serialization.specs.messages.declared.moves.UpMove.TheVariants as up
use Rattle.serialization.specs.messages.declared.moves.DownMove.{DownMove}
use Rattle.serialization.specs.messages.declared.moves.DownMove.TheVariants as down
use Rattle.serialization.specs.messages.Network.{Net, wires}
use Rattle.serialization.specs.messages.Moves.{moved_up, moved_down}
use Rattle.serialization.specs.messages.Places.{put}
use Rattle.serialization.proofs.Lemmas.messages.{put_other, put_same}
use Rattle.serialization.specs.Program.{Kind, Rests, Alone, Refers}
use Rattle.serialization.specs.Machine.{Machine, all_shut, begin, poked, retire_from, turned}
use Rattle.steps.specs.declared.step.Step.{Step}
use Rattle.steps.specs.declared.step.Step.TheVariants as step
use Rattle.machine_theory.specs.Theory.{Result, stalled, went_up, went_down, serve_from}
use Rattle.machine_theory.specs.Processors.{ObservedCore, sizes_of, setting_of, alone_by, retired_by, changed, may_poke}
use Rattle.machine_theory.specs.Processors.{next, poked_processors, port_at, program}
use Rattle.steps.specs.declared.step.Outcome.{Outcome}
use Rattle.machine_theory.specs.Steps.{after, machine_of_parts, IsStepOf}

-- whether the core of processor p is away
abbrev pub away_in : Machine ObservedCore → (p : ℕ) → Bool
away_in M p = is_away (M.core p).state

-- Each core is away after as before.
abbrev Stay : (old new : ℕ → ObservedCore) → Type 0
Stay old new = (p : ℕ) → is_away (new p).state ≡ is_away (old p).state

-- Each core is still away as before if one of them is replaced by one that is away if it was.
put_stay : (core : ℕ → ObservedCore) (q : ℕ) (g : ObservedCore) → is_away g.state ≡ is_away (core q).state → Stay core (put core q g)
put_stay core q g same p = at (cases_eq p q)
  where
    at : (p ≡ q) ⊎ (p ≡ q → ⊥) → is_away (put core q g p).state ≡ is_away (core p).state
    at (inl e) =
        ap (λ i. is_away (put core q g i).state) e ∙ ap (λ (h : ObservedCore). is_away h.state) (put_same core q g) ∙ same
        ∙ ap (λ i. is_away (core i).state) (sym e)
    at (inr other) = ap (λ (h : ObservedCore). is_away h.state) (put_other core q g p other)

module _ (c : Config) (code : List ℕ) (M : Machine ObservedCore) where
  abbrev StayBy : Result ObservedCore → Type 0
  StayBy r = Stay M.core r.machine.core

  alone_stays : (p : ℕ) (g : ObservedCore) (t : Turn) → next c code p g.state ≡ t → is_away (alone_by g t).state ≡ is_away g.state
  alone_stays p g (Retires later retired) e = retires_stays (setting_of c p) code g.state later retired e
  alone_stays p g (Reaches word change later) e = refl
  alone_stays p g (Stops cause) e = refl

  retired_stays : (p : ℕ) (g : ObservedCore) (found : ℕ) (t : Turn) → next c code p g.state ≡ t →
      is_away (retired_by g (after_reply t found)).state ≡ is_away g.state
  retired_stays p g found (Retires later retired) e = refl
  retired_stays p g found (Reaches word change later) e = reaches_stays (setting_of c p) code g.state word change later found e
  retired_stays p g found (Stops cause) e = refl

  begin_stays : (p : ℕ) (k : Kind) → StayBy (begin (program c code) M p k)
  begin_stays p Rests q = refl
  begin_stays p Alone q = put_stay M.core p (alone_by (M.core p) (next c code p (M.core p).state))
      (alone_stays p (M.core p) (next c code p (M.core p).state) refl) q
  begin_stays p Refers q = refl

  retire_stays : (p : ℕ) (replies : List Reply) → StayBy (retire_from (program c code) M p replies)
  retire_stays p [] q = refl
  retire_stays p (y ∷ ys) q =
      put_stay M.core p (retired_by (M.core p) (after_reply (next c code p (M.core p).state) y.value))
      (retired_stays p (M.core p) y.value (next c code p (M.core p).state) refl) q

  turn_stays : (p : ℕ) (opened : Bool) → StayBy (turned (program c code) M p opened)
  turn_stays p true = retire_stays p (M.net.replies 0 p)
  turn_stays p false = begin_stays p ((program c code).kind p (M.core p))

  up_stays : (r : UpMove × Net) → StayBy (went_up M r)
  up_stays (up.Stalled, net) q = refl
  up_stays (up.Moved, net) q = refl
  up_stays (up.Combined first second, net) q = refl

  down_stays : (r : DownMove × Net) → StayBy (went_down M r)
  down_stays (down.Stalled, net) q = refl
  down_stays (down.Moved, net) q = refl
  down_stays (down.Answered to, net) q = refl

  serve_stays : (m : ℕ) (requests : List Request) (replies : List Reply) → StayBy (serve_from (sizes_of c) M m requests replies)
  serve_stays m [] replies q = refl
  serve_stays m (x ∷ rest) [] q = refl
  serve_stays m (x ∷ rest) (y ∷ ys) q = refl

  poke_stays : (q : Poke) → Stay M.core (poked_processors q M.core)
  poke_stays (poke.Register p register value) =
      put_stay M.core p (changed (with_poked_register register value) (M.core p)) (register_stays register value (M.core p).state)
  poke_stays (poke.Local p address value) = put_stay M.core p _ refl
  poke_stays (poke.Shared address value) = λ p. refl

  -- A result that keeps cores where they are does so, and so does a stall.
  either : (b : Bool) (r : Result ObservedCore) → StayBy r → StayBy (if b then r else stalled M)
  either true r stays = stays
  either false r stays = λ p. refl

  -- After a step each core is away if it was, and at home if it was.
  pub cores_stay : (s : Step) (p : ℕ) → away_in (after c code M s) p ≡ away_in M p
  unfolding after
  cores_stay (step.Turn p) = either (nat_lt p (wires (sizes_of c))) (turned (program c code) M p (M.is_open p)) (turn_stays p (M.is_open p))
  cores_stay (step.Up s w) = either (nat_lt w (wires (sizes_of c))) (went_up M (moved_up (sizes_of c) M.net s w)) (up_stays (moved_up (sizes_of c) M.net s w))
  cores_stay (step.Serve m) = either (nat_lt m (wires (sizes_of c))) (serve_from (sizes_of c) M m (M.net.requests c.k m) (M.net.replies c.k m))
      (serve_stays m (M.net.requests c.k m) (M.net.replies c.k m))
  cores_stay (step.Down s w) =
      either (nat_lt w (wires (sizes_of c))) (went_down M (moved_down (sizes_of c) M.net s w)) (down_stays (moved_down (sizes_of c) M.net s w))
  cores_stay (step.Poke q) = either (all_shut (2 ^ c.k) M.is_open && may_poke c M.core q) (poked (program c code) M q) (poke_stays q)

-- After a step of the machine's parts, each port's core is away as before.
pub ports_stay : (c : Config) (code : List ℕ) (net net' : Net) (ports ports' : List PortState) (modules modules' : List (List ℕ)) (s : Step) (o : Outcome) →
    IsStepOf c code net ports modules s o net' ports' modules' → (p : ℕ) → is_away (port_at ports' p).core.state ≡ is_away (port_at ports p).core.state
unfolding machine_of_parts
ports_stay c code net net' ports ports' modules modules' s o is p =
    ap (λ (M : Machine ObservedCore). away_in M p) (is.after (λ q. [])) ∙ cores_stay c code (machine_of_parts c net ports modules (λ q. [])) s p
