-- A network stays one through a change of its pool or of the records of a switch.
use Rattle.std.proofs.Common.{◌≡◌, ℕ, zero, suc, ◌+◌, ◌*◌, ◌/◌, ◌%◌, ◌^◌, ◌<◌, List, length, ◌⊎◌, inl, inr, refl, sym, ◌∙◌, subst, arith, length-set}
use Rattle.std.proofs.lemmas.Bool.{cases_eq}
use Rattle.messages.specs.declared.message.Record.{Record}
use Rattle.messages.specs.Places.{put2}
use Rattle.combining_switch.specs.Pools.{PoolLists}
use Rattle.combining_switch.specs.Switches.{SwitchState, records_at, with_records}
use Rattle.omega_network.specs.Networks.{AreSeconds, IsNetwork, NetworkLists, half, records_after, switch_at, the_switch}
use Rattle.omega_network.proofs.Changes.{records_put}
use Rattle.omega_network.proofs.Switches.{half_of_wire, switch_kept, switch_put, with_pool, with_switch}

-- The second pool has as many cells and queues as the first.
pub record IsLike (pool pool' : PoolLists) : Type 0 where
  -- It has as many cells.
  pub cells : pool'.cells ≡ pool.cells
  -- It has as many queues of requests.
  pub requests : length pool'.requests ≡ length pool.requests
  -- It has as many queues of replies.
  pub replies : length pool'.replies ≡ length pool.replies

-- A network with another pool of the same sizes is again one, if the seconds of its records have free cells there.
pub pool_kept : (n : NetworkLists) (pool : PoolLists) → IsNetwork n → IsLike n.pool pool → AreSeconds pool (records_after n) → IsNetwork (with_pool n pool)
unfolding records_after
pool_kept n pool is like seconds = record {
  few = is.few;
  all_cells = like.cells ∙ is.all_cells;
  all_requests = like.requests ∙ is.all_requests;
  all_replies = like.replies ∙ is.all_replies;
  all_switches = is.all_switches;
  each_switch = is.each_switch;
  seconds = seconds;
}

-- The switch has the form of its stage and number.
abbrev HasForm : (k c b r s i : ℕ) → SwitchState → Type 0
HasForm k c b r s i t = t ≡ the_switch k c b r s i (records_at t 0) (records_at t 1)

form_kept : (k c b r s i : ℕ) (t : SwitchState) (out : ℕ) (es : List Record) → out < 2 → t ≡ the_switch k c b r s i (records_at t 0) (records_at t 1)
    → HasForm k c b r s i (with_records t out es)
form_kept k c b r s i t out es l form = subst (λ u. HasForm k c b r s i (with_records u out es)) (sym form) (go out l)
  where
    go : (out : ℕ) → out < 2 → HasForm k c b r s i (with_records (the_switch k c b r s i (records_at t 0) (records_at t 1)) out es)
    go zero m = refl
    go (suc zero) m = refl
    go (suc (suc v)) m = absurd (omega arith)

-- A network with other records at an output is again one, if each second has a free cell and is that of one record.
pub records_kept : (n : NetworkLists) (is : IsNetwork n) (s w : ℕ) (stage : s < n.k) (wire : w < 2 ^ n.k) (es : List Record)
    → AreSeconds n.pool (put2 (records_after n) s w es)
    → IsNetwork (with_switch n s (w / 2) (with_records (switch_at n s (w / 2)) (w % 2) es))
records_kept n is s w stage wire es seconds = record {
  few = is.few;
  all_cells = is.all_cells;
  all_requests = is.all_requests;
  all_replies = is.all_replies;
  all_switches = length-set n.switches (s * half n.k + w / 2) (with_records (switch_at n s (w / 2)) (w % 2) es) ∙ is.all_switches;
  each_switch = λ s' i' l m. each s' i' l m (cases_eq s' s) (cases_eq i' (w / 2));
  seconds = subst (AreSeconds n.pool) (sym (records_put n is s w stage wire es)) seconds;
}
  where
    number : w / 2 < half n.k
    number = half_of_wire n.k s w stage wire

    rest : w % 2 < 2
    rest = omega arith

    each : (s' i' : ℕ) → s' < n.k → i' < half n.k → (s' ≡ s) ⊎ (s' ≡ s → ⊥) → (i' ≡ w / 2) ⊎ (i' ≡ w / 2 → ⊥)
        → HasForm n.k n.c n.b n.r s' i' (switch_at (with_switch n s (w / 2) (with_records (switch_at n s (w / 2)) (w % 2) es)) s' i')
    each s' i' l m (inl a) (inl e) =
        subst (λ v. HasForm n.k n.c n.b n.r v i' (switch_at (with_switch n s (w / 2) (with_records (switch_at n s (w / 2)) (w % 2) es)) v i')) (sym a)
        (subst (λ v. HasForm n.k n.c n.b n.r s v (switch_at (with_switch n s (w / 2) (with_records (switch_at n s (w / 2)) (w % 2) es)) s v)) (sym e)
        (subst (HasForm n.k n.c n.b n.r s (w / 2)) (sym (switch_put n s (w / 2) (with_records (switch_at n s (w / 2)) (w % 2) es) stage number is.all_switches))
        (form_kept n.k n.c n.b n.r s (w / 2) (switch_at n s (w / 2)) (w % 2) es rest (is.each_switch s (w / 2) stage number))))
    each s' i' l m (inl a) (inr e) = subst (HasForm n.k n.c n.b n.r s' i')
        (sym (switch_kept n s (w / 2) (with_records (switch_at n s (w / 2)) (w % 2) es) stage number is.all_switches s' i' m (λ _ q. e q)))
        (is.each_switch s' i' l m)
    each s' i' l m (inr a) e = subst (HasForm n.k n.c n.b n.r s' i')
        (sym (switch_kept n s (w / 2) (with_records (switch_at n s (w / 2)) (w % 2) es) stage number is.all_switches s' i' m (λ p _. a p)))
        (is.each_switch s' i' l m)
