use Rattle.std.proofs.Common.{◌≡◌, ◌<◌, false, sym, ap, subst, ◌∙◌, length, arith, rules}
use Rattle.std.specs.Prelude.{slice_index, slice_set}
use Rattle.flat_machine.specs.State.{is_running}
use Rattle.flat_machine.specs.Turns.{turn_of}
use Rattle.hart.specs.declared.decision.Decision.TheVariants.{Refer}
use Rattle.hart.specs.Deciding.{Decides}
use Rattle.state_store.specs.Placed.{Placed}
use Rattle.state_store.specs.StateTables.{placed_at, setting_at, words_at, IsAfterReference}
use Rattle.state_store.proofs.Growing.{kept_all}
use Rattle.state_store.proofs.Moving.{IsReferred, looked, referred, undecided, stopped_has_none, local_has_none}
use Rattle.state_store.proofs.Remembering.{local_states_kept, lists_kept}
use Rattle.state_store.proofs.state_tables.StateTables.next.Goals as goal

pub returns-then-not-is_running-clause-next : goal.returns-then-not-is_running-clause-next
returns-then-not-is_running-clause-next g c =
    let is : c.local_state-local_state.result.now ≡ placed_at c.args.self.now (slice_index c.args.row c.args.p) =
    c.local_state-local_state.ensures ∙ ap (λ i. placed_at c.args.self.now (slice_index c.args.row i)) c.from-place.ensures in
    let stopped : is_running (placed_at c.args.self.now (slice_index c.args.row c.args.p)).local_state.processor.status ≡ false =
    ap (λ (a : Placed). is_running a.local_state.processor.status) (sym is) ∙ (sym c.is_running.ensures ∙ c.if-not-is_running.true) in
    stopped_has_none c.args.extent c.args.code.now c.args.self.now c.args.row c.args.p c.requires.row c.requires.there stopped

pub returns-in_default : goal.returns-in_default
returns-in_default g c =
    let is : c.local_state-local_state.result.now ≡ placed_at c.args.self.now (slice_index c.args.row c.args.p) =
    c.local_state-local_state.ensures ∙ ap (λ i. placed_at c.args.self.now (slice_index c.args.row i)) c.from-place.ensures in
    record {
      kept = kept_all _;
      local_states = c.requires.local_states;
      lists = c.requires.lists;
      next = local_has_none c.args.extent c.args.code.now c.args.self.now c.args.row c.args.p c.requires.row c.requires.there
          (c.dead_registers_can_be_forgotten.ensures.forgotten (setting_at c.args.extent) c.args.code.now c.args.self.now.live c.requires.live)
          (undecided c.decide.result _
          (subst (λ (a : Placed). Decides c.decide.result (turn_of a.setting c.args.code.now a.local_state.processor)) is c.decide.ensures.turn)
          c.in_default.not-Refer);
    }

pub returns-clause-next : goal.returns-clause-next
returns-clause-next g c =
    let is : c.local_state-local_state.result.now ≡ placed_at c.args.self.now (slice_index c.args.row c.args.p) =
    c.local_state-local_state.ensures ∙ ap (λ i. placed_at c.args.self.now (slice_index c.args.row i)) c.from-place.ensures in
    let refers = referred c.in-Refer.word c.get-before.result c.in-Refer.phi c.in-Refer.shape
    (turn_of (placed_at c.args.self.now (slice_index c.args.row c.args.p)).setting c.args.code.now
    (placed_at c.args.self.now (slice_index c.args.row c.args.p)).local_state.processor) c.get-before.ensures.small
    (subst (λ (a : Placed). Decides (Refer c.in-Refer.word c.in-Refer.phi c.in-Refer.shape) (turn_of a.setting c.args.code.now a.local_state.processor)) is
    c.in-Refer.ensures.turn) in
    looked c.args.extent c.args.code.now c.args.classes.now c.args.self.now c.state_after_reference.new.self c.list_after_write.new.self c.args.row
    (slice_set (slice_set c.args.row c.from-place.result c.in_ok-after.after) c.from-words_place.result c.in_ok-written.written)
    c.args.p c.in-Refer.word c.get-before.result
    c.apply.result c.in_ok-after.after c.in_ok-written.written
    (record {
      classes_are = c.requires.classes;
      row_is = c.requires.row;
      few = c.requires.there;
      room = (let long : length c.args.row ≡ g.row.N = search rules in omega (arith, long, c.requires.room));
      first_kept = c.in_ok-after.ensures.kept;
      then_kept = c.in_ok-written.ensures.kept;
      runs = ap (λ (a : Placed). is_running a.local_state.processor.status) (sym is) ∙ (sym c.is_running.ensures ∙ c.if-not-is_running.false);
      refers = subst (λ v. IsReferred c.in-Refer.word c.get-before.result v
          (turn_of (placed_at c.args.self.now (slice_index c.args.row c.args.p)).setting c.args.code.now
          (placed_at c.args.self.now (slice_index c.args.row c.args.p)).local_state.processor)) (sym c.apply.ensures) refers;
      named = subst (λ (a : Placed). c.in-Refer.word < a.setting.shared_words) is c.in-Refer.ensures.word;
      before_is = ap (λ i. slice_index (words_at c.args.self.now (slice_index c.args.row i)) c.in-Refer.word) (sym c.from-words_place.ensures)
          ∙ (ap (λ xs. slice_index xs c.in-Refer.word) (sym c.words.ensures) ∙ sym c.get-before.ensures.word);
      behind = subst (λ i. IsAfterReference c.args.extent.exchanged c.args.code.now c.get-before.result
          (placed_at c.args.self.now (slice_index c.args.row i)) c.state_after_reference.new.self
          c.in_ok-after.after) c.from-place.ensures c.in_ok-after.ensures.after;
      written_there = c.in_ok-written.ensures.there;
      written_is = c.in_ok-written.ensures.written
          ∙ ap (λ i. slice_set (words_at c.state_after_reference.new.self (slice_index c.args.row i)) c.in-Refer.word c.apply.result)
          c.from-words_place.ensures;
      next_is = λ i. slice_set (slice_set c.args.row (c.from-place.ensures i) c.in_ok-after.after) (c.from-words_place.ensures i) c.in_ok-written.written;
    })
    c.moves_are_of_any.ensures.any c.moves_are_of_what_is_kept.ensures.made c.dead_registers_can_be_forgotten.ensures.forgotten c.requires.live

pub list_after_write-requires-clause-known : goal.list_after_write-requires-clause-known
list_after_write-requires-clause-known g c =
    lists_kept c.args.self.now c.state_after_reference.new.self c.args.transition_caches.now.lists c.in_ok-after.ensures.kept c.requires.lists

pub returns-clause-local_states : goal.returns-clause-local_states
returns-clause-local_states g c =
    local_states_kept c.args.extent.exchanged c.args.code.now c.state_after_reference.new.self c.list_after_write.new.self
    c.state_after_reference.new.transition_cache
    c.in_ok-written.ensures.kept c.in_ok-after.ensures.known
