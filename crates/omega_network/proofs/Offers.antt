-- A request offered to a switch, in a network of places.
use Rattle.std.proofs.Common.{◌≡◌, ℕ, suc, Bool, true, false, List, [], ◌∷◌, ◌++◌, length, map, nat_lt, Option, Some, None, ◌⊎◌, inl, inr, refl, sym, ap, subst}
use Rattle.std.specs.Prelude.{if◌then◌else◌}
use Rattle.std.proofs.lemmas.List.{map-append}
use Rattle.phi_algebra.specs.declared.phi.Phi.{Phi}
use Rattle.messages.specs.declared.message.Request.{Request}
use Rattle.messages.specs.declared.message.Record.{Record}
use Rattle.messages.specs.declared.moves.UpMove.{UpMove}
use Rattle.messages.specs.declared.moves.UpMove.TheVariants as up
use Rattle.messages.specs.Places.{In, put2}
use Rattle.messages.specs.Queues.{Combination, with_front, combination, combined_in, joint, unmarked}
use Rattle.messages.specs.Network.{Net, Sizes, put_records, put_requests}
use Rattle.messages.specs.Moves as moves
use Rattle.messages.proofs.Lemmas.{In-append, put2_id}
use Rattle.combining_switch.specs.Pools.{leader_of_request}
use Rattle.combining_switch.specs.declared.answers.Accepted.{Accepted}
use Rattle.combining_switch.specs.declared.answers.Accepted.TheVariants.{Queued, Combined, Full}
use Rattle.combining_switch.specs.Outputs.{OutputLists, accepted, accepted_as}
use Rattle.omega_network.specs.Answers.{up_of}

-- ---- what a combination leaves

record Made (x : Request) (queue : List Request) (j : Combination) : Type 0 where
  second : j.made.second ≡ x.leader
  leaders : map leader_of_request j.queue ≡ map leader_of_request queue

made_of : (r : ℕ) (x : Request) (queue : List Request) (j : Combination) → combined_in r x queue ≡ Some j → Made x queue j
unfolding combined_in
made_of r x [] j e = cc
made_of r x (d ∷ ds) j e = go (made_of r x ds) (joint r x d) e
  where
    later : (o : Option Combination) → ((i : Combination) → o ≡ Some i → Made x ds i) → with_front d o ≡ Some j → Made x (d ∷ ds) j
    later None rest f = cc
    later (Some i) rest f =
        let had : Made x ds i = rest i refl in
        let same : record { queue = d ∷ i.queue; made = i.made } ≡ j = cc in
        subst (Made x (d ∷ ds)) same (record { second = had.second; leaders = ap (λ (ls : List ℕ). d.leader ∷ ls) had.leaders })

    go : ((i : Combination) → combined_in r x ds ≡ Some i → Made x ds i) → (o : Option Phi)
        → elim o [
          | Some phi ↦ Some (record {
            queue = record { leader = d.leader; word = d.word; phi = phi; marks = suc d.marks } ∷ ds;
            made = record { leader = d.leader; phi = d.phi; second = x.leader };
          })
          | None ↦ with_front d (combined_in r x ds)
        ] ≡ Some j
        → Made x (d ∷ ds) j
    go rest None f = later (combined_in r x ds) rest f
    go rest (Some phi) f =
        let same : record {
          queue = record { leader = d.leader; word = d.word; phi = phi; marks = suc d.marks } ∷ ds;
          made = record { leader = d.leader; phi = d.phi; second = x.leader };
        } ≡ j = cc in
        subst (Made x (d ∷ ds)) same (record { second = refl; leaders = refl })

combination_made : (b r : ℕ) (x : Request) (queue : List Request) (records : List Record) (j : Combination) → combination b r x queue records ≡ Some j →
    Made x queue j
combination_made b r x queue records j e = go (nat_lt (length records) b) e
  where
    go : (c : Bool) → (if c then combined_in r x queue else None) ≡ Some j → Made x queue j
    go true f = made_of r x queue j f
    go false f = cc

-- ---- at the place

-- the network after an output has become this one
abbrev pub after : Net → (s w : ℕ) → OutputLists → Net
after net s w o = put_records (put_requests net (suc s) w o.requests) s w o.records

-- The records of an output are as before, or have one more.
pub data Became (x : Request) (o r : OutputLists) : Type 0 where
  same_records : r.records ≡ o.records → Became x o r
  one_more : (e : Record) → r.records ≡ o.records ++ e ∷ [] → e.second ≡ x.leader → map leader_of_request r.requests ≡ map leader_of_request o.requests →
      Became x o r

-- the output of a place, with its requests and records
abbrev pub output_at : Sizes → Net → (s w : ℕ) → OutputLists
output_at z net s w = record { c = z.c; b = z.b; r = z.r; requests = net.requests (suc s) w; records = net.records s w }

pub record Offered (z : Sizes) (net : Net) (s w : ℕ) (x : Request) (r : Accepted × OutputLists) (fact : UpMove × Net) : Type 0 where
  -- The output's answer is the outcome of the move.
  pub answer : up_of r.0 x.leader ≡ fact.0
  -- The network with the output's lists is the network after the move.
  pub net_is : after net s w r.1 ≡ fact.1
  -- Each leader in the queue then led a request in it before, or leads the request that is offered.
  pub leaders : (p : ℕ) → In p (map leader_of_request r.1.requests) → In p (map leader_of_request (net.requests (suc s) w)) ⊎ (p ≡ x.leader)
  -- The output's records are as before, or there is one more.
  pub became : Became x (output_at z net s w) r.1

module _ (z : Sizes) (net : Net) (s w : ℕ) (x : Request) where
  abbrev o : OutputLists
  o = output_at z net s w

  abbrev with_request : OutputLists
  with_request = record { c = z.c; b = z.b; r = z.r; requests = net.requests (suc s) w ++ unmarked x ∷ []; records = net.records s w }

  unchanged : after net s w o ≡ net
  unchanged = λ j. record {
    requests = put2_id net.requests (suc s) w j;
    records = put2_id net.records s w j;
    replies = net.replies;
  }

  records_unchanged : (q : List Request) → put_records (put_requests net (suc s) w q) s w (net.records s w) ≡ put_requests net (suc s) w q
  records_unchanged q = λ j. record { requests = put2 net.requests (suc s) w q; records = put2_id net.records s w j; replies = net.replies }

  by_test : (b : Bool) → Offered z net s w x (if b then (Queued, with_request) else (Full, o))
      (if b then (up.Moved, put_requests net (suc s) w (net.requests (suc s) w ++ unmarked x ∷ [])) else (up.Stalled, net))
  by_test true = record {
    answer = refl;
    net_is = records_unchanged (net.requests (suc s) w ++ unmarked x ∷ []);
    leaders = λ p m. last p (In-append p (map leader_of_request (net.requests (suc s) w)) (x.leader ∷ [])
        (subst (In p) (map-append leader_of_request (net.requests (suc s) w) (unmarked x ∷ [])) m));
    became = same_records refl;
  }
    where
      last : (p : ℕ) → In p (map leader_of_request (net.requests (suc s) w)) ⊎ In p (x.leader ∷ []) →
          In p (map leader_of_request (net.requests (suc s) w)) ⊎ (p ≡ x.leader)
      last p (inl m) = inl m
      last p (inr (inl e)) = inr e
      last p (inr (inr m)) = absurd m
  by_test false = record { answer = refl; net_is = unchanged; leaders = λ p m. inl m; became = same_records refl }

  by_combination : (j : Option Combination) → ((i : Combination) → j ≡ Some i → Made x (net.requests (suc s) w) i) →
      Offered z net s w x (accepted_as o x j) (moves.accepted z net net s w x j)
  by_combination None made = by_test (nat_lt (length (net.requests (suc s) w)) z.c)
  by_combination (Some i) made =
      let is : Made x (net.requests (suc s) w) i = made i refl in
      record {
        answer = ap (up.Combined i.made.leader) (sym is.second);
        net_is = refl;
        leaders = λ p m. inl (subst (In p) is.leaders m);
        became = one_more i.made refl is.second is.leaders;
      }

  -- What an output does with a request is what offering the request does in a network of places.
  pub offered_there : Offered z net s w x (accepted o x) (moves.offered z net net s w x)
  unfolding accepted
  offered_there =
      by_combination (combination z.b z.r x (net.requests (suc s) w) (net.records s w))
      (λ i e. combination_made z.b z.r x (net.requests (suc s) w) (net.records s w) i e)

-- A move stalls exactly if the answer is that the queue is full.
pub stalls : (a : Accepted) (p : ℕ) → (up_of a p ≡ up.Stalled → a ≡ Full) × (a ≡ Full → up_of a p ≡ up.Stalled)
stalls Queued p = ((λ e. absurd (let no : up.Moved ≡ up.Stalled = e in cc)), (λ e. absurd (let no : Queued ≡ Full = e in cc)))
stalls (Combined first) p = ((λ e. absurd (let no : up.Combined first p ≡ up.Stalled = e in cc)), (λ e. absurd (let no : Combined first ≡ Full = e in cc)))
stalls Full p = ((λ e. refl), (λ e. refl))
