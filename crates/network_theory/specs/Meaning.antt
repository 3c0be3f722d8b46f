-- What the messages stand for.
--
-- `own p` and `word p` are the function and the word of p's open reference. `group p` is the processors for which p's
-- request stands. `owed p` is what p's reference found, from its service until it retires.
use Rattle.std.specs.Prelude.{◌≡◌, ℕ, List, [], ◌∷◌, ◌++◌, Option, Some, None, Bool, true}
use Rattle.messages.specs.phi_algebra.declared.phi.Phi.{Phi}
use Rattle.messages.specs.phi_algebra.Functions.{IsInRange}
use Rattle.messages.specs.declared.message.Request.{Request}
use Rattle.messages.specs.declared.message.Reply.{Reply}
use Rattle.messages.specs.declared.message.Record.{Record}
use Rattle.messages.specs.Places.{In, Distinct, put}
use Rattle.messages.specs.Queues.{applied}
use Rattle.messages.specs.Network.{Net, records_on}
use Rattle.network_theory.specs.Giving.{gives, finds, leaves}

-- A request at depth d stands for its leader's group, one processor after another: its function is the composition of
-- theirs, and a reply to it gives each of them what it finds.
pub record RequestMeans (own : ℕ → Phi) (word : ℕ → ℕ) (group : ℕ → List ℕ) (R : ℕ → ℕ →
    List Record) (d : ℕ) (x : Request) : Type 0 where
  pub word_is : x.word ≡ word x.leader
  pub in_range : IsInRange x.phi
  pub function : (y : ℕ) → applied x.phi y ≡ leaves own (group x.leader) y
  pub answers : (y : ℕ) → gives R x.leader d y ≡ finds own (group x.leader) y

-- A reply at depth d gives each processor what it is owed.
abbrev pub ReplyMeans : (owed : ℕ → Option ℕ) → (R : ℕ → ℕ → List Record) → ℕ → Reply → Type 0
ReplyMeans owed R d x = (m : ℕ × ℕ) → In m (gives R x.leader d x.value) → owed m.0 ≡ Some m.1

pub record Means (own : ℕ → Phi) (word : ℕ → ℕ) (path : ℕ → ℕ → ℕ) (group : ℕ → List ℕ) (owed : ℕ →
    Option ℕ) (net : Net) : Type 0 where
  pub requests : (d w : ℕ) (x : Request) → In x (net.requests d w) →
      RequestMeans own word group (records_on path net.records) d x
  pub replies : (d w : ℕ) (x : Reply) → In x (net.replies d w) → ReplyMeans owed (records_on path net.records) d x

-- The references of the groups are open and not served, those of one group are to one word, and each processor is in at
-- most one group, once.
pub record Groups (word : ℕ → ℕ) (open_now : ℕ → Bool) (group : ℕ → List ℕ) (owed : ℕ → Option ℕ) : Type 0 where
  pub opened : (p j : ℕ) → In j (group p) → open_now j ≡ true
  pub unserved : (p j : ℕ) → In j (group p) → owed j ≡ None
  pub one_word : (p i j : ℕ) → In i (group p) → In j (group p) → word i ≡ word j
  pub home : (p q j : ℕ) → In j (group p) → In j (group q) → p ≡ q
  pub distinct : (p : ℕ) → Distinct (group p)

-- The flat side, as far as the network is concerned: the shared words, and what each reference found that is executed
-- and not yet retired.
pub record Executed : Type 0 where
  pub mem : ℕ → ℕ
  pub owed : ℕ → Option ℕ

-- the flat side after j's reference is executed
abbrev pub execute : (ℕ → Phi) → (ℕ → ℕ) → Executed → ℕ → Executed
execute own word f j = record {
  mem = put f.mem (word j) (applied (own j) (f.mem (word j)));
  owed = put f.owed j (Some (f.mem (word j)));
}

unfoldable pub execute_all : (ℕ → Phi) → (ℕ → ℕ) → Executed → List ℕ → Executed
execute_all own word f [] = f
execute_all own word f (j ∷ js) = execute_all own word (execute own word f j) js

-- the groups after q's joins p's
unfoldable pub joined : (ℕ → List ℕ) → ℕ → ℕ → ℕ → List ℕ
joined group p q = put (put group p (group p ++ group q)) q []
