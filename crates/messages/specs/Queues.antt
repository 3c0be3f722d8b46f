-- What an output of a switch does with a request, and with a reply that comes back.
use Rattle.std.specs.Prelude.{ℕ, suc, ◌^◌, ◌%◌, ◌==◌, ◌&&◌, not, List, [], ◌∷◌, filter, map, length, nat_lt, Option}
use Rattle.std.specs.Prelude.{Some, None, if◌then◌else◌}
use Rattle.phi_algebra.specs.declared.phi.Phi.{Phi}
use Rattle.phi_algebra.specs.Functions.{apply}
use Rattle.phi_algebra.specs.Composition.{composed}
use Rattle.messages.specs.declared.message.Request.{Request}
use Rattle.messages.specs.declared.message.Reply.{Reply}
use Rattle.messages.specs.declared.message.Record.{Record}

-- The function's value at a word. A number counts as the word that it is modulo 2^32, so that statements on values need
-- no premise.
unfoldable pub applied : Phi → ℕ → ℕ
applied phi y = apply phi (y % 2 ^ 32)

-- ---- a request comes to a queue

-- a combination: the queue after it, and the record that later splits the reply
pub record Combination : Type 0 where
  pub queue : List Request
  pub made : Record

-- the function of the entry and the request together, if the two combine: the entry was combined fewer than r times in
-- this queue, has the same word, and its function composes with the request's
unfoldable pub joint : (r : ℕ) → (request entry : Request) → Option Phi
joint r x e = if nat_lt e.marks r && (e.word == x.word) then composed e.phi x.phi else None

-- the entry for both requests: it keeps its leader, and has one more mark
abbrev pub merged : (entry : Request) → Phi → Request
merged e phi = record { leader = e.leader; word = e.word; phi = phi; marks = suc e.marks }

-- the record of a combination: the entry's function before it, and the request as the second
abbrev pub record_of : (request entry : Request) → Record
record_of x e = record { leader = e.leader; phi = e.phi; second = x.leader }

abbrev pub with_front : Request → Option Combination → Option Combination
with_front e None = None
with_front e (Some j) = Some (record { queue = e ∷ j.queue; made = j.made })

-- the combination of the request with the first entry, from the front, with which it combines
unfoldable pub combined_in : (r : ℕ) → Request → List Request → Option Combination
combined_in r x [] = None
combined_in r x (e ∷ es) = elim (joint r x e) [
  | Some phi ↦ Some (record { queue = merged e phi ∷ es; made = record_of x e })
  | None ↦ with_front e (combined_in r x es)
]

-- the combination at an output, if it has fewer than b records
abbrev pub combination : (b r : ℕ) → Request → List Request → List Record → Option Combination
combination b r x queue records = if nat_lt (length records) b then combined_in r x queue else None

-- a request when it is queued: not yet combined in this queue
abbrev pub unmarked : Request → Request
unmarked x = record { leader = x.leader; word = x.word; phi = x.phi; marks = 0 }

-- ---- a reply comes back

-- the records of a leader, in the order of their combinations, and those of others
abbrev pub records_of : (leader : ℕ) → List Record → List Record
records_of leader records = filter (λ (e : Record). e.leader == leader) records

abbrev pub records_but : (leader : ℕ) → List Record → List Record
records_but leader records = filter (λ (e : Record). not (e.leader == leader)) records

-- the reply for the second of a record, if the leader gets y: the word that the leader's function leaves
abbrev pub reply_of : ℕ → Record → Reply
reply_of y e = record { leader = e.second; value = applied e.phi y }

-- the replies that one reply gives: the leader's own, then its seconds' in the order of their combinations
abbrev pub answers : List Record → Reply → List Reply
answers records x = x ∷ map (reply_of x.value) records
