-- What each part holds depends on little of a machine.
use Rattle.std.proofs.Common.{◌≡◌, ℕ, List, ap, ap₂}
use Rattle.std.specs.Prelude.{slice_index}
use Rattle.flat_machine.specs.declared.config.Config.{Config}
use Rattle.messages.specs.Network.{Net}
use Rattle.machine_steps.specs.machine_theory.Processors.{ObservedCore}
use Rattle.machine_steps.specs.machine_theory.Theory as theory
use Rattle.machine_views.specs.Places.{records_before}
use Rattle.page_command.specs.Views.{Core, Messages, Place, Register, Stands, Value, Word, view_by, view_on, word_open}

-- The machines hold the same messages at a place, and the same records before it.
pub record IsSamePlace (M N : Net) (d w : ℕ) : Type 0 where
  pub requests : M.requests d w ≡ N.requests d w
  pub records : records_before M d w ≡ records_before N d w
  pub replies : M.replies d w ≡ N.replies d w

module _ (c : Config) (code : List ℕ) (M N : theory.Machine ObservedCore) where
  -- A processor that is the same, with the same reference open, shows the same.
  pub core_kept : (p : ℕ) → M.core p ≡ N.core p → M.is_open p ≡ N.is_open p → view_on c code M (Core p) ≡ view_on c code N (Core p)
  unfolding view_by
  core_kept p core same =
      ap₂ (λ (g : ObservedCore) o. Stands g.state.pc g.state.status (word_open c code o p g.state)) core same

  -- So does each of its registers.
  pub register_kept : (p r : ℕ) → M.core p ≡ N.core p → view_on c code M (Register p r) ≡ view_on c code N (Register p r)
  unfolding view_by
  register_kept p r core = ap (λ (g : ObservedCore). Value (slice_index g.state.registers r)) core

  -- A register with the same value shows the same.
  pub value_kept : (p r : ℕ) → slice_index (M.core p).state.registers r ≡ slice_index (N.core p).state.registers r →
      view_on c code M (Register p r) ≡ view_on c code N (Register p r)
  unfolding view_by
  value_kept p r same = ap Value same

  -- A place with the same messages shows the same.
  pub place_kept : (d w : ℕ) → IsSamePlace M.net N.net d w → view_on c code M (Place d w) ≡ view_on c code N (Place d w)
  unfolding view_by
  place_kept d w same i = Messages (same.requests i) (same.records i) (same.replies i)

  -- A word with the same value shows the same.
  pub word_kept : (i : ℕ) → M.mem i ≡ N.mem i → view_on c code M (Word i) ≡ view_on c code N (Word i)
  unfolding view_by
  word_kept i same = ap Value same
