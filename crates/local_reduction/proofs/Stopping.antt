-- The registers and the local memory of a stopped processor can be forgotten.
use Rattle.std.proofs.Common.{◌≡◌, ℕ, Bool, true, false, cond, List, [], refl, sym, ap, subst, ◌∙◌}
use Rattle.flat_machine.specs.declared.setting.Setting.{Setting}
use Rattle.flat_machine.specs.declared.event.Cause.{Cause}
use Rattle.flat_machine.specs.declared.event.Cause.TheVariants as cause
use Rattle.flat_machine.specs.State.{is_running}
use Rattle.flat_machine.specs.Turns.{Turn, Retires, Reaches, Stops, turn_of}
use Rattle.local_reduction.specs.LocalStates.{LocalState, stopped_by}
use Rattle.local_reduction.specs.Closing.{IsAlike, IsForgetful, if_running}

alike_itself : (kept : LocalState → LocalState) (a : LocalState) (t : Turn) → IsAlike kept a a t t
alike_itself kept a (Retires p r) = refl
alike_itself kept a (Reaches w c f) = (refl, refl, λ x. refl)
alike_itself kept a (Stops c) = refl

emptied : Bool → LocalState → LocalState
emptied b a = cond b a (record a { processor = record a.processor { registers = []; local = [] } })

running_kept : (b : Bool) (a : LocalState) → is_running (emptied b a).processor.status ≡ is_running a.processor.status
unfolding emptied
running_kept true a = refl
running_kept false a = refl

stopped_kept : (b : Bool) (a : LocalState) (c : Cause) → if_running (stopped_by (emptied b a) c) ≡ if_running (stopped_by a c)
unfolding emptied
stopped_kept true a c = refl
stopped_kept false a (cause.Halt byte) = refl
stopped_kept false a (cause.Fault fault) = refl

once_kept : (b : Bool) (a : LocalState) → is_running a.processor.status ≡ b → if_running (emptied b a) ≡ if_running a
unfolding emptied
once_kept true a e = refl
once_kept false a e =
    let empty = record a { processor = record a.processor { registers = []; local = [] } } in
    ap (λ r. cond r empty empty) e ∙ sym (ap (λ r. cond r a empty) e)

-- Nothing ever asks again for the registers and the local memory of a processor that has stopped.
pub forgetful : (at : ℕ → Setting) (code : List ℕ) → IsForgetful at code if_running
unfolding emptied
forgetful at code = record {
  running = λ a. running_kept (is_running a.processor.status) a;
  turn = λ k a runs.
      let same : if_running a ≡ a = ap (λ r. cond r a (record a { processor = record a.processor { registers = []; local = [] } })) runs in
      subst (λ b. IsAlike if_running b a (turn_of (at k) code b.processor) (turn_of (at k) code a.processor)) (sym same)
      (alike_itself if_running a (turn_of (at k) code a.processor));
  stopped = λ a c. stopped_kept (is_running a.processor.status) a c;
  once = λ a. once_kept (is_running a.processor.status) a refl;
}
