-- What a module does with the first request at it.
use Rattle.std.specs.Prelude.{◌≡◌, ℕ, ◌/◌, ◌^◌, ◌<◌, List, [], length, Option, Some, None, slice_get, slice_index}
use Rattle.std.specs.Prelude.{slice_set}
use Rattle.hart.specs.phi_algebra.Functions.{apply}
use Rattle.messages.specs.declared.message.Request.{Request}
use Rattle.messages.specs.declared.message.Reply.{Reply}
use Rattle.messages.specs.Network.{Sizes, Net}
use Rattle.messages.specs.Naming.{Unnamed}
use Rattle.messages.specs.Moves.{module_taken, module_replied}
use Rattle.omega_network.specs.Networks.{NetworkLists, net_of, sizes_of}
use Rattle.steps.specs.declared.step.Outcome.{Outcome}
use Rattle.steps.specs.declared.step.Outcome.TheVariants.{Served, Stalled}

-- Nothing is done.
abbrev pub DoesNothing : Net → List ℕ → Outcome → Net → List ℕ → Type 0
DoesNothing net memory o net' memory' = (o ≡ Stalled) × (net' ≡ net) × (memory' ≡ memory)

-- The first request, if there is one, is executed at its place: a word is put there, and the word from before goes into
-- the reply slot.
abbrev pub IsExecuted : Sizes → ℕ → Net → List ℕ → Option Request → Outcome → Net → List ℕ → Type 0
IsExecuted z m net memory None o net' memory' = DoesNothing net memory o net' memory'
IsExecuted z m net memory (Some x) o net' memory' =
    let place = x.word / 2 ^ z.k in
    (o ≡ Served x.leader)
    × (net' ≡ module_replied z (module_taken z net m) m (record {
      leader = x.leader;
      value = slice_index memory place;
    }))
    × (memory' ≡ slice_set memory place (apply x.phi (slice_index memory place)))
    × (apply x.phi (slice_index memory place) < 2 ^ 32)

-- ---- in a network

-- the first request at a module
abbrev pub request_at : NetworkLists → (m : ℕ) → Option Request
request_at n m = slice_get ((net_of n).requests n.k m) 0

-- the first reply on a processor's wire
abbrev pub reply_at : NetworkLists → (p : ℕ) → Option Reply
reply_at n p = slice_get ((net_of n).replies 0 p) 0

-- The module's reply slot is free.
abbrev pub IsFree : NetworkLists → (m : ℕ) → Type 0
IsFree n m = (net_of n).replies n.k m ≡ []

-- The module has the word that the first request at it refers to.
abbrev pub HasItsWord : NetworkLists → (m : ℕ) → (memory : List ℕ) → Type 0
HasItsWord n m memory = (x : Request) → request_at n m ≡ Some x → x.word / 2 ^ n.k < length memory

-- After the module takes its request, nothing in the network names this processor: no message is led by it, and no
-- record has it as its second.
pub record MayBeAnswered (n : NetworkLists) (m leader : ℕ) : Type 0 where
  pub within : leader < 2 ^ n.k
  pub unnamed : Unnamed (module_taken (sizes_of n) (net_of n) m) leader

-- The leader of the first request at the module may be answered.
abbrev pub MayReply : NetworkLists → (m : ℕ) → Type 0
MayReply n m = (x : Request) → request_at n m ≡ Some x → MayBeAnswered n m x.leader

-- The first request at the module is executed, if there is one.
abbrev pub IsServed : (m : ℕ) → NetworkLists → List ℕ → Outcome → NetworkLists → List ℕ → Type 0
IsServed m n memory o n' memory' = IsExecuted (sizes_of n) m (net_of n) memory (request_at n m) o (net_of n') memory'
