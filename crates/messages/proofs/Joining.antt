-- What a combination consists of.
use Rattle.std.proofs.Common.{◌≡◌, ℕ, ◌<◌, Bool, true, false, ◌&&◌, List, [], ◌∷◌, ◌++◌, length, ◌==◌}
use Rattle.std.proofs.Common.{nat_lt, Option, Some, None, refl, sym, ap, ◌∙◌, ltb-true, eqb-true}
use Rattle.std.specs.Prelude.{if◌then◌else◌}
use Rattle.std.proofs.lemmas.Bool.{and_parts}
use Rattle.phi_algebra.specs.declared.phi.Phi.{Phi}
use Rattle.phi_algebra.specs.Composition.{composed}
use Rattle.messages.specs.declared.message.Request.{Request}
use Rattle.messages.specs.declared.message.Record.{Record}
use Rattle.messages.specs.Queues as queues
use Rattle.messages.specs.Queues.{Combination, joint, merged, combined_in, combination}

pub record Joins (r : ℕ) (x : Request) (q : List Request) (j : Combination) : Type 0 where
  pub front : List Request
  pub entry : Request
  pub behind : List Request
  pub function : Phi
  pub was : q ≡ front ++ entry ∷ behind
  pub is : j ≡ record { queue = front ++ merged entry function ∷ behind; made = record { leader = entry.leader; phi = entry.phi; second = x.leader } }
  pub law : composed entry.phi x.phi ≡ Some function
  pub same_word : entry.word ≡ x.word
  pub fewer : entry.marks < r

joint_is : (r : ℕ) (x e : Request) (h : Phi) → joint r x e ≡ Some h → (composed e.phi x.phi ≡ Some h) × (e.word ≡ x.word) × (e.marks < r)
unfolding joint
joint_is r x e h s = go (nat_lt e.marks r && (e.word == x.word)) refl s
  where
    go : (b : Bool) → (nat_lt e.marks r && (e.word == x.word)) ≡ b → (if b then composed e.phi x.phi else None) ≡ Some h
        → (composed e.phi x.phi ≡ Some h) × (e.word ≡ x.word) × (e.marks < r)
    go true t f = let a = and_parts (nat_lt e.marks r) (e.word == x.word) t in (f, eqb-true e.word x.word a.1, ltb-true e.marks r a.0)
    go false t f = cc

combine_joins : (r : ℕ) (x : Request) (q : List Request) (j : Combination) → combined_in r x q ≡ Some j → Joins r x q j
unfolding combined_in
combine_joins r x [] j s = cc
combine_joins r x (e ∷ es) j s = go (combine_joins r x es) (joint r x e) refl s
  where
    deeper : (o : Option Combination) → ((i : Combination) → o ≡ Some i → Joins r x es i) → queues.with_front e o ≡ Some j → Joins r x (e ∷ es) j
    deeper None rec f = cc
    deeper (Some i) rec f =
        let g = rec i refl in
        let eq : record { queue = e ∷ i.queue; made = i.made } ≡ j = cc in
        record {
          front = e ∷ g.front;
          entry = g.entry;
          behind = g.behind;
          function = g.function;
          was = ap (λ l. e ∷ l) g.was;
          is = sym eq ∙ ap (λ (u : Combination). record { queue = e ∷ u.queue; made = u.made }) g.is;
          law = g.law;
          same_word = g.same_word;
          fewer = g.fewer;
        }

    go : ((i : Combination) → combined_in r x es ≡ Some i → Joins r x es i) → (o : Option Phi) → joint r x e ≡ o
        → elim o [
          | Some h ↦ Some (record {
            queue = merged e h ∷ es;
            made = record {
              leader = e.leader;
              phi = e.phi;
              second = x.leader;
            };
          })
          | None ↦ queues.with_front e (combined_in r x es)
        ] ≡ Some j → Joins r x (e ∷ es) j
    go rec None t f = deeper (combined_in r x es) rec f
    go rec (Some h) t f =
        let a = joint_is r x e h t in
        record { front = []; entry = e; behind = es; function = h; was = refl; is = cc; law = a.0; same_word = a.1; fewer = a.2 }

-- A combination at an output joins the request with an entry of the queue.
pub combination_joins : (b r : ℕ) (x : Request) (q : List Request) (records : List Record) (j : Combination) → combination b r x q records ≡ Some j
    → Joins r x q j
combination_joins b r x q records j f = go (nat_lt (length records) b) f
  where
    go : (free : Bool) → (if free then combined_in r x q else None) ≡ Some j → Joins r x q j
    go true g = combine_joins r x q j g
    go false g = cc
