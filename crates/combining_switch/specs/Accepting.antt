-- What an output does with a request, case by case.
use Rattle.std.specs.Prelude.{◌≡◌, ◌↔◌, ◌<◌, ◌≤◌, ℕ, suc, List, [], ◌∷◌, ◌++◌, length, slice_get, slice_set, Some}
use Rattle.phi_algebra.specs.declared.phi.Phi.{Phi}
use Rattle.phi_algebra.specs.Composition.{composed}
use Rattle.messages.specs.declared.message.Request.{Request}
use Rattle.combining_switch.specs.Outputs.{OutputLists, accepted}
use Rattle.combining_switch.specs.declared.answers.Accepted.TheVariants.{Queued, Combined, Full}

-- A request combines with this entry of a queue: the entry was combined fewer than r times in it, has the request's
-- word, and its function, followed by the request's, is phi.
pub record CombinesAt (r : ℕ) (queue : List Request) (x : Request) (place : ℕ) (entry : Request)
    (phi : Phi) : Type 0 where
  pub there : slice_get queue place ≡ Some entry
  pub fewer : entry.marks < r
  pub same_word : entry.word ≡ x.word
  pub composes : composed entry.phi x.phi ≡ Some phi

-- A record is free, and some entry combines with the request.
pub record CanCombine (o : OutputLists) (x : Request) : Type 0 where
  pub free : length o.records < o.b
  pub place : ℕ
  pub entry : Request
  pub phi : Phi
  pub combines : CombinesAt o.r o.requests x place entry phi

-- No entry before this place combines with the request.
abbrev pub NoneInFront : (r : ℕ) → List Request → Request → ℕ → Type 0
NoneInFront r queue x place = (i : ℕ) (e : Request) (phi : Phi) → i < place → CombinesAt r queue x i e phi → ⊥

-- A request is combined exactly if a record is free and some entry combines with it.
abbrev pub CombinesWhereItCan : Type 0
CombinesWhereItCan = (o : OutputLists) (x : Request) →
    ((leader : ℕ) × ((accepted o x).0 ≡ Combined leader)) ↔ CanCombine o x

-- It is combined with the first such entry, which leads both, has the function of both, and has one more mark. The
-- record has the function that the entry had, and the leader of the request as the second.
abbrev pub CombinesWithTheFirst : Type 0
CombinesWithTheFirst = (o : OutputLists) (x : Request) (i : ℕ) (e : Request) (phi : Phi) →
    length o.records < o.b → CombinesAt o.r o.requests x i e phi → NoneInFront o.r o.requests x i →
    accepted o x ≡ (
      Combined e.leader,
      record {
        c = o.c;
        b = o.b;
        r = o.r;
        requests = slice_set o.requests i (record { leader = e.leader; word = e.word; phi = phi; marks = suc e.marks });
        records = o.records ++ record { leader = e.leader; phi = e.phi; second = x.leader } ∷ [];
      },
    )

-- A request that cannot combine goes after the others of the queue, not marked, exactly if there is room.
abbrev pub QueuesWhereThereIsRoom : Type 0
QueuesWhereThereIsRoom = (o : OutputLists) (x : Request) →
    (accepted o x ≡ (
      Queued,
      record {
        c = o.c;
        b = o.b;
        r = o.r;
        requests = o.requests ++ record { leader = x.leader; word = x.word; phi = x.phi; marks = 0 } ∷ [];
        records = o.records;
      },
    )) ↔ ((CanCombine o x → ⊥) × (length o.requests < o.c))

-- A request that cannot combine is refused, and nothing changes, exactly if there is no room.
abbrev pub RefusesWhereThereIsNone : Type 0
RefusesWhereThereIsNone = (o : OutputLists) (x : Request) →
    (accepted o x ≡ (Full, o)) ↔ ((CanCombine o x → ⊥) × (o.c ≤ length o.requests))
