-- What a turn changes.
use Rattle.std.proofs.Common.{◌≡◌, ℕ, ◌⊎◌, inl, inr, Bool, true, false, List, [], ◌∷◌, ◌++◌, refl, sym, ap, ◌∙◌, subst}
use Rattle.std.specs.Prelude.{slice_index}
use Rattle.std.proofs.lemmas.Bool.{cases_eq}
use Rattle.flat_machine.specs.declared.config.Config.{Config}
use Rattle.messages.specs.declared.message.Reply.{Reply}
use Rattle.messages.specs.Network.{Net}
use Rattle.messages.specs.Moves.{injected, port_taken}
use Rattle.messages.specs.Places.{In}
use Rattle.machine_views.specs.Places.{records_before}
use Rattle.messages.proofs.Lemmas.{In-append_left, In-append_right, put2_other, put_other, put_same}
use Rattle.machine_steps.specs.machine_theory.Processors.{ObservedCore, program}
use Rattle.machine_steps.specs.machine_theory.Theory as theory
use Rattle.machine_steps.specs.serialization.Program.{Kind, Rests, Alone, Refers}
use Rattle.page_command.specs.Steps.{parts_of_turn, registers_changed, slot_of}
use Rattle.page_command.specs.Views.{Core, IsPart, Part, Place, Register, Word, view_on}
use Rattle.page_command.proofs.Frames.{IsSamePlace, core_kept, place_kept, register_kept, value_kept, word_kept}
use Rattle.page_command.proofs.Lists.{register_found}

true_is_not_false : true ≡ false → ⊥
true_is_not_false e = cc

-- Only processor p has changed, and the messages of its slot, unless no reference of it was opened or closed.
pub record IsTurned (M N : theory.Machine ObservedCore) (p : ℕ) : Type 0 where
  pub cores : (q : ℕ) → (q ≡ p → ⊥) → M.core q ≡ N.core q
  pub opened : (q : ℕ) → (q ≡ p → ⊥) → M.is_open q ≡ N.is_open q
  pub mem : M.mem ≡ N.mem
  pub away : (d w : ℕ) → (d ≡ 0 → w ≡ p → ⊥) → IsSamePlace M.net N.net d w
  pub slot : M.is_open p ≡ false → N.is_open p ≡ false → M.net ≡ N.net

-- A machine that has not changed has not changed but for processor p.
not_turned : (M : theory.Machine ObservedCore) (p : ℕ) → IsTurned M M p
not_turned M p = record {
  cores = λ q away. refl;
  opened = λ q away. refl;
  mem = refl;
  away = λ d w away. record { requests = refl; records = refl; replies = refl };
  slot = λ was is. refl;
}

module _ (c : Config) (code : List ℕ) (M : theory.Machine ObservedCore) (p : ℕ) where
  retired_is : M.is_open p ≡ true → (replies : List Reply) →
      IsTurned M (theory.retire_from (program c code) M p replies).machine p
  unfolding port_taken
  retired_is was [] = not_turned M p
  retired_is was (y ∷ ys) = record {
    cores = λ q away. sym (put_other M.core p _ q away);
    opened = λ q away. sym (put_other M.is_open p false q away);
    mem = refl;
    away = λ d w away. record {
      requests = refl;
      records = refl;
      replies = sym (put2_other M.net.replies 0 p _ d w away);
    };
    slot = λ shut is. absurd (true_is_not_false (sym was ∙ shut));
  }

  begun_is : (kind : Kind) → IsTurned M (theory.begin (program c code) M p kind).machine p
  unfolding injected
  begun_is Rests = not_turned M p
  begun_is Alone = record {
    cores = λ q away. sym (put_other M.core p _ q away);
    opened = λ q away. refl;
    mem = refl;
    away = λ d w away. record { requests = refl; records = refl; replies = refl };
    slot = λ was is. refl;
  }
  begun_is Refers = record {
    cores = λ q away. refl;
    opened = λ q away. sym (put_other M.is_open p true q away);
    mem = refl;
    away = λ d w away. record {
      requests = sym (put2_other M.net.requests 0 p _ d w away);
      records = refl;
      replies = refl;
    };
    slot = λ was shut. absurd (true_is_not_false (sym (put_same M.is_open p true) ∙ shut));
  }

  -- A turn changes no more than its processor.
  pub turned_is : (o : Bool) → M.is_open p ≡ o → IsTurned M (theory.turned (program c code) M p o).machine p
  turned_is true was = retired_is was (M.net.replies 0 p)
  turned_is false was = begun_is ((program c code).kind p (M.core p))

  -- After a turn each part shows the same, or is one of those that the turn may change.
  pub turn_shows : (N : theory.Machine ObservedCore) → IsTurned M N p → (x : Part) → IsPart c.k x →
      (view_on c code M x ≡ view_on c code N x)
      ⊎ In x (parts_of_turn p (M.core p).state.registers (N.core p).state.registers (M.is_open p) (N.is_open p))
  turn_shows N is (Core q) within = by (cases_eq q p)
    where
      by : (q ≡ p) ⊎ (q ≡ p → ⊥) → (view_on c code M (Core q) ≡ view_on c code N (Core q))
          ⊎ In (Core q) (parts_of_turn p (M.core p).state.registers (N.core p).state.registers (M.is_open p) (N.is_open p))
      by (inl same) = inr (inl (ap Core same))
      by (inr other) = inl (core_kept c code M N q (is.cores q other) (is.opened q other))
  turn_shows N is (Register q r) within = by (cases_eq q p)
    where
      changed : List Part
      changed = registers_changed p (M.core p).state.registers (N.core p).state.registers 32

      at : q ≡ p → (slice_index (M.core p).state.registers r ≡ slice_index (N.core p).state.registers r) ⊎ In (Register p r) changed →
          (view_on c code M (Register q r) ≡ view_on c code N (Register q r))
          ⊎ In (Register q r) (parts_of_turn p (M.core p).state.registers (N.core p).state.registers (M.is_open p) (N.is_open p))
      at same (inl e) = inl (ap (λ n. view_on c code M (Register n r)) same ∙ value_kept c code M N p r e
          ∙ ap (λ n. view_on c code N (Register n r)) (sym same))
      at same (inr there) = inr (inr (subst (λ n. In (Register n r) (changed ++ slot_of p (M.is_open p) (N.is_open p))) (sym same)
          (In-append_left (Register p r) changed _ there)))

      by : (q ≡ p) ⊎ (q ≡ p → ⊥) → (view_on c code M (Register q r) ≡ view_on c code N (Register q r))
          ⊎ In (Register q r) (parts_of_turn p (M.core p).state.registers (N.core p).state.registers (M.is_open p) (N.is_open p))
      by (inl same) = at same (register_found p _ _ 32 r within.1)
      by (inr other) = inl (register_kept c code M N q r (is.cores q other))
  turn_shows N is (Place d w) within = by (cases_eq d 0) (cases_eq w p)
    where
      changed : List Part
      changed = registers_changed p (M.core p).state.registers (N.core p).state.registers 32

      at : (was shut : Bool) → M.is_open p ≡ was → N.is_open p ≡ shut → d ≡ 0 → w ≡ p →
          (view_on c code M (Place d w) ≡ view_on c code N (Place d w)) ⊎ In (Place d w) (slot_of p was shut)
      at true shut e f depth wire = inr (inl (λ i. Place (depth i) (wire i)))
      at false true e f depth wire = inr (inl (λ i. Place (depth i) (wire i)))
      at false false e f depth wire = inl (place_kept c code M N d w (
          let same = is.slot e f in record {
            requests = ap (λ (net : Net). net.requests d w) same;
            records = ap (λ (net : Net). records_before net d w) same;
            replies = ap (λ (net : Net). net.replies d w) same;
          }))

      in_list : (view_on c code M (Place d w) ≡ view_on c code N (Place d w)) ⊎ In (Place d w) (slot_of p (M.is_open p) (N.is_open p)) →
          (view_on c code M (Place d w) ≡ view_on c code N (Place d w))
          ⊎ In (Place d w) (parts_of_turn p (M.core p).state.registers (N.core p).state.registers (M.is_open p) (N.is_open p))
      in_list (inl e) = inl e
      in_list (inr there) = inr (inr (In-append_right (Place d w) changed _ there))

      by : (d ≡ 0) ⊎ (d ≡ 0 → ⊥) → (w ≡ p) ⊎ (w ≡ p → ⊥) → (view_on c code M (Place d w) ≡ view_on c code N (Place d w))
          ⊎ In (Place d w) (parts_of_turn p (M.core p).state.registers (N.core p).state.registers (M.is_open p) (N.is_open p))
      by (inl depth) (inl wire) = in_list (at (M.is_open p) (N.is_open p) refl refl depth wire)
      by (inl depth) (inr other) = inl (place_kept c code M N d w (is.away d w (λ e f. other f)))
      by (inr other) wire = inl (place_kept c code M N d w (is.away d w (λ e f. other e)))
  turn_shows N is (Word i) within = inl (word_kept c code M N i (ap (λ (mem : ℕ → ℕ). mem i) is.mem))
