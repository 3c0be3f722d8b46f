-- Places whose changes are appended one after another, if something stands there.
use Rattle.std.proofs.Common.{◌≡◌, ℕ, suc, ◌+◌, List, [], ◌++◌, arith, subst}
use Rattle.std.specs.Prelude.{if◌then◌else◌}
use Rattle.messages.specs.Network.{Net}
use Rattle.page_command.specs.Changes.{change_text, change_to}
use Rattle.page_command.specs.Openings.{is_clear, places_at, places_set}
use Rattle.page_command.specs.Views.{Place, View}
use Rattle.page_command.proofs.Lists.{joined, no_text, text_to}
use Rattle.page_command.proofs.Registers.{by_test}

-- Before the first place of a depth nothing is appended.
pub no_place_yet : (V : View) (net : Net) (d : ℕ) (old : List ℕ) → old ≡ old ++ text_to V (places_at net d 0)
unfolding places_at
no_place_yet V net d old = no_text V old

-- The places of a depth below the next wire at which something stands are those below this one, and that on it.
pub place_next : (V : View) (net : Net) (d w : ℕ) (old mid new : List ℕ) → mid ≡ old ++ text_to V (places_at net d w) →
    new ≡ mid ++ (if is_clear net d w then [] else change_text (change_to V (Place d w))) →
    new ≡ old ++ text_to V (places_at net d (w + 1))
unfolding places_at
place_next V net d w old mid new first next =
    subst (λ n. new ≡ old ++ text_to V (places_at net d n)) more
    (by_test V (places_at net d w) (Place d w) (is_clear net d w) old mid new first next)
  where
    more : suc w ≡ w + 1
    more = omega arith

-- Before the first depth nothing is appended.
pub no_depth_yet : (V : View) (net : Net) (wires : ℕ) (old : List ℕ) → old ≡ old ++ text_to V (places_set net wires 0)
unfolding places_set
no_depth_yet V net wires old = no_text V old

-- The places of the depths below the next one are those of the depths below this one, and its own.
pub depth_next : (V : View) (net : Net) (wires d : ℕ) (old mid new : List ℕ) → mid ≡ old ++ text_to V (places_set net wires d) →
    new ≡ mid ++ text_to V (places_at net d wires) → new ≡ old ++ text_to V (places_set net wires (d + 1))
unfolding places_set
depth_next V net wires d old mid new first next =
    subst (λ n. new ≡ old ++ text_to V (places_set net wires n)) more
    (joined V (places_set net wires d) (places_at net d wires) old mid new first next)
  where
    more : suc d ≡ d + 1
    more = omega arith
