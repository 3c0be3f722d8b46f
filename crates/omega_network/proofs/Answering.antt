-- What a call returns for a reply that was answered at a switch.
use Rattle.std.proofs.Common.{◌≡◌, ℕ, ◌%◌, ◌/◌, Bool, set, refl, sym, ap, ◌∙◌, subst}
use Rattle.std.specs.Prelude.{IsTrue, ◌↔◌}
use Rattle.messages.specs.declared.message.Reply.{Reply}
use Rattle.messages.specs.declared.moves.DownMove.{DownMove}
use Rattle.messages.specs.declared.moves.DownMove.TheVariants as down
use Rattle.messages.specs.Queues.{answers, records_of}
use Rattle.messages.specs.Moves as moves
use Rattle.combining_switch.specs.Pools.{PoolLists}
use Rattle.combining_switch.specs.declared.answers.Answered.{Answered}
use Rattle.combining_switch.specs.declared.answers.Answered.TheVariants.{NoRoom}
use Rattle.combining_switch.specs.Switches.{CanBeQueued, SwitchState, answered, records_at}
use Rattle.omega_network.specs.Answers.{down_of}
use Rattle.omega_network.specs.Networks.{IsNetwork, MayLead, NetworkLists, net_of, records_after, sizes_of, switch_at}
use Rattle.omega_network.proofs.Offering.{Found, left_by}
use Rattle.omega_network.proofs.Replies.{Answers, answered_keeps, answered_there, can_be_queued, down_stalls}
use Rattle.omega_network.proofs.Switches.{with_pool, with_switch}

pub record Replied (m : NetworkLists) (s w : ℕ) (x : Reply) (answer : DownMove) (l : NetworkLists) : Type 0 where
  -- The lists that the call leaves are those of a network.
  pub is : IsNetwork l
  -- The call's answer is the outcome of answering the reply in the network of places.
  pub answer_is : answer ≡ (moves.answer (sizes_of m) (net_of m) (net_of m) s w x (records_of x.leader (records_after m s w))).0
  -- The network that the call leaves is the one after the reply is answered.
  pub net_is : net_of l ≡ (moves.answer (sizes_of m) (net_of m) (net_of m) s w x (records_of x.leader (records_after m s w))).1

module _ {n m : NetworkLists} {s w number : ℕ} {u : SwitchState} (found : Found n m s w number u) (x : Reply) where
  abbrev t : SwitchState
  t = switch_at n s (w / 2)

  is_fact : Answers n s (w / 2) (answered t n.pool (w % 2) x)
      (moves.answer (sizes_of n) (net_of n) (net_of n) s w x (records_of x.leader (records_after n s w)))
  is_fact = answered_there n found.is s w found.stage found.wire x

  same : answered u n.pool (w % 2) x ≡ answered t n.pool (w % 2) x
  same = ap (λ (y : SwitchState). answered y n.pool (w % 2) x) found.found

  -- If a leader may lead its reply, this reply and those for the seconds at the found switch can be queued.
  pub queued_there : MayLead m x.leader → CanBeQueued n.pool (answers (records_of x.leader (records_at u (w % 2))) x)
  queued_there may =
      subst (λ (y : SwitchState). CanBeQueued n.pool (answers (records_of x.leader (records_at y (w % 2))) x)) (sym found.found)
      (can_be_queued n found.is s w found.stage found.wire x (subst (λ (l : NetworkLists). MayLead l x.leader) (sym found.view) may))

  -- If the reply's leader may lead it, the call's answer and its network are those of the move's definition.
  pub answer_ends : {pool : PoolLists} {v : SwitchState} {a : Answered} {answer : DownMove} → MayLead m x.leader → answer ≡ down_of a →
      a ≡ (answered u n.pool (w % 2) x).0 → v ≡ (answered u n.pool (w % 2) x).1 → pool ≡ (answered u n.pool (w % 2) x).2
      → Replied m s w x answer (left_by n number pool v)
  answer_ends {pool} {v} {a} {answer} may fact a_is v_is pool_is =
      subst (λ (l : NetworkLists). Replied l s w x answer (left_by n number pool v)) found.view (record {
        is = subst IsNetwork (sym left)
            (answered_keeps n found.is s w found.stage found.wire x may' (answered t n.pool (w % 2) x) refl);
        answer_is = fact ∙ ap down_of (a_is ∙ ap (λ (r : Answered × SwitchState × PoolLists). r.0) same) ∙ is_fact.answer;
        net_is = ap net_of left ∙ is_fact.net_is;
      })
    where
      may' : MayLead n x.leader
      may' = subst (λ (l : NetworkLists). MayLead l x.leader) (sym found.view) may

      left : left_by n number pool v ≡ with_pool (with_switch n s (w / 2) (answered t n.pool (w % 2) x).1) (answered t n.pool (w % 2) x).2
      left = λ j. record {
        k = n.k;
        c = n.c;
        b = n.b;
        r = n.r;
        pool = (pool_is ∙ ap (λ (r : Answered × SwitchState × PoolLists). r.2) same) j;
        switches = set n.switches (found.number_is j) ((v_is ∙ ap (λ (r : Answered × SwitchState × PoolLists). r.1) same) j);
      }

  -- The switch has room for the replies exactly if the move does not stall.
  pub would_answer_end : (b : Bool) → IsTrue b ↔ ((answered u n.pool (w % 2) x).0 ≡ NoRoom → ⊥)
      → IsTrue b ↔ ((moves.answer (sizes_of m) (net_of m) (net_of m) s w x (records_of x.leader (records_after m s w))).0 ≡ down.Stalled → ⊥)
  would_answer_end b would =
      subst (λ (l : NetworkLists). IsTrue b
      ↔ ((moves.answer (sizes_of l) (net_of l) (net_of l) s w x (records_of x.leader (records_after l s w))).0 ≡ down.Stalled → ⊥)) found.view (
        (λ yes stalled. would.0 yes (first ∙ (down_stalls (answered t n.pool (w % 2) x).0).0 (is_fact.answer ∙ stalled))),
        (λ goes. would.1 (λ none. goes (sym is_fact.answer ∙ (down_stalls (answered t n.pool (w % 2) x).0).1 (sym first ∙ none)))),
      )
    where
      first : (answered u n.pool (w % 2) x).0 ≡ (answered t n.pool (w % 2) x).0
      first = ap (λ (r : Answered × SwitchState × PoolLists). r.0) same
