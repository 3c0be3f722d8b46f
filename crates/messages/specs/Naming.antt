-- The processors that the network names.
use Rattle.std.specs.Prelude.{◌≡◌, ◌⊎◌, ℕ}
use Rattle.messages.specs.declared.message.Request.{Request}
use Rattle.messages.specs.declared.message.Reply.{Reply}
use Rattle.messages.specs.declared.message.Record.{Record}
use Rattle.messages.specs.Places.{In}
use Rattle.messages.specs.Network.{Net}

-- The processor p leads a message or a record, or is the second of a record.
abbrev pub Names : Net → (p : ℕ) → Type 0
Names net p =
    ((d w : ℕ) × (x : Request) × In x (net.requests d w) × (x.leader ≡ p))
    ⊎ (((s w : ℕ) × (x : Record) × In x (net.records s w) × ((x.leader ≡ p) ⊎ (x.second ≡ p)))
    ⊎ ((d w : ℕ) × (x : Reply) × In x (net.replies d w) × (x.leader ≡ p)))

-- No message is led by p, and no record has p as its second.
pub record Unnamed (net : Net) (p : ℕ) : Type 0 where
  pub requests : (d w : ℕ) (x : Request) → In x (net.requests d w) → x.leader ≡ p → ⊥
  pub records : (s w : ℕ) (x : Record) → In x (net.records s w) → x.second ≡ p → ⊥
  pub replies : (d w : ℕ) (x : Reply) → In x (net.replies d w) → x.leader ≡ p → ⊥
