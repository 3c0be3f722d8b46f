-- A reply moves down.
use Rattle.network_theory.proofs.Lemmas.{answering_meaning, answering_places, answers_led, means_pop_reply, pop_reply, pop_reply_unnamed, replying_other}
use Rattle.std.proofs.Common.{◌≡◌, ℕ, suc, ◌%◌, ◌<◌, Bool, true, false, List, [], ◌∷◌, inl, inr, Option, refl, sym, ap, ◌∙◌}
use Rattle.std.specs.Prelude.{if◌then◌else◌}
use Rattle.network_theory.specs.messages.declared.message.Reply.{Reply}
use Rattle.network_theory.specs.messages.declared.message.Record.{Record}
use Rattle.network_theory.specs.messages.Places.{In}
use Rattle.network_theory.specs.messages.Queues.{records_of, records_but, answers}
use Rattle.network_theory.specs.messages.Network.{Sizes, wires, Net, put_records, put_replies}
use Rattle.network_theory.specs.messages.declared.moves.DownMove.TheVariants as down
use Rattle.network_theory.specs.messages.Naming.{Unnamed}
use Rattle.network_theory.specs.messages.Moves.{push_all, has_room, answered, down_from}
use Rattle.network_theory.specs.omega_wires.Wires.{wire_before}
use Rattle.network_theory.proofs.Lemmas.omega_wires.{before_path}
use Rattle.network_theory.specs.Roles.{Idle, replying_all}
use Rattle.serialization.specs.Program.{Program, own_of, word_of, path_of}
use Rattle.serialization.specs.Machine.{Machine, with_net, went_down}
use Rattle.serialization.specs.Order.{FlatMachine, flat_run}
use Rattle.serialization.specs.Simulation.{Simulates, Kept}
use Rattle.serialization.proofs.Simulating.{kept_stalled, kept_plain}

kept_answer : {Core Pokes Entry : Type 0}
    → (z : Sizes) (P : Program Core Pokes Entry) (good : ℕ → Core → Type 0) (M : Machine Core) (group : ℕ → List ℕ) (owed : ℕ → Option ℕ)
    (F : FlatMachine Core) (s w : ℕ) (x : Reply) (rest : List Reply) → Simulates z P good M group owed F → s < z.k → M.net.replies (suc s) w ≡ x ∷ rest
    → Simulates z P good (with_net M
    (push_all (wire_before z.k s w) s (answers (records_of x.leader (M.net.records s w)) x)
    (put_records (put_replies M.net (suc s) w rest) s w (records_but x.leader (M.net.records s w))))) group owed F
kept_answer z P good M group owed F s w x rest ok l e =
    let path = path_of z P M.core in
    let own = own_of P M.core in
    let word = word_of P M.core in
    let p : ℕ = x.leader in
    let here : In x (M.net.replies (suc s) w) = rw e (inl refl) in
    let at = ok.placed.replies (suc s) w x here in
    let net1 : Net = put_replies M.net (suc s) w rest in
    let ys : List Reply = answers (records_of p (M.net.records s w)) x in
    let placed1 = pop_reply z.k path ok.role M.net (suc s) w x rest ok.placed e in
    let free : Unnamed net1 p = pop_reply_unnamed z.k path ok.role M.net (suc s) w x rest ok.placed e in
    let means1 = means_pop_reply own word path group owed M.net (suc s) w x rest ok.means e in
    let back : (q : ℕ) → (ok.role q ≡ Idle → ⊥) → path q (suc s) ≡ w → path q s ≡ wire_before z.k s w q
    = (λ q n on. elim (ok.small q) [
      | inl i ↦ absurd (n i)
      | inr lq ↦ sym (before_path z.k q (word q % wires z) s l lq) ∙ ap (λ v. wire_before z.k s v q) on
    ]) in
    kept_plain z P good M group owed F (push_all (wire_before z.k s w) s ys (put_records net1 s w (records_but p (M.net.records s w))))
    (replying_all s ys ok.role) ok
    (answering_places z.k path (wire_before z.k s w) ok.role net1 s w x placed1 l free at.replying at.wire back)
    (answering_meaning own word path group owed (wire_before z.k s w) net1 s w x means1 free (ok.means.replies (suc s) w x here) at.wire)
    (λ q i. replying_other s ys ok.role q (λ y m g. answers_led z.k path ok.role net1 s w x placed1 at.replying y m (ap ok.role g ∙ i)) ∙ i)

-- After the first reply on a wire moves down, the machine simulates the flat machine.
pub kept_down : {Core Pokes Entry : Type 0}
    → (z : Sizes) (P : Program Core Pokes Entry) (good : ℕ → Core → Type 0) (M : Machine Core) (group : ℕ → List ℕ) (owed : ℕ → Option ℕ)
    (F : FlatMachine Core) (s w : ℕ) (xs : List Reply) → Simulates z P good M group owed F → s < z.k → M.net.replies (suc s) w ≡ xs
    → Kept z P good M.core group owed F (went_down M (down_from z M.net s w xs))
unfolding flat_run
kept_down z P good M group owed F s w [] ok l e = kept_stalled z P good M group owed F ok
kept_down z P good M group owed F s w (x ∷ rest) ok l e =
    let rs : List Record = records_of x.leader (M.net.records s w) in
    let net3 : Net = push_all (wire_before z.k s w) s (answers rs x)
    (put_records (put_replies M.net (suc s) w rest) s w (records_but x.leader (M.net.records s w))) in
    go (has_room z.c (wire_before z.k s w) s net3 (answers rs x)) rs net3 (kept_answer z P good M group owed F s w x rest ok l e)
  where
    named : (rs : List Record) (net : Net) → Simulates z P good (with_net M net) group owed F
        → Kept z P good M.core group owed F (went_down M (answered rs, net))
    named [] net h = h
    named (r ∷ rs) net h = h

    go : (b : Bool) (rs : List Record) (net : Net) → Simulates z P good (with_net M net) group owed F
        → Kept z P good M.core group owed F (went_down M (if b then (answered rs, net) else (down.Stalled, M.net)))
    go true rs net h = named rs net h
    go false rs net h = kept_stalled z P good M group owed F ok
