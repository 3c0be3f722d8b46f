-- A trace has a record of each step that does something. So each log has a trace.
use Rattle.std.proofs.Common.{◌≡◌, ℕ, suc, ◌+◌, ◌*◌, ◌/◌, ◌^◌, ◌<◌, ◌≤◌, ◌&&◌, Bool, true, false, nat_lt, List, [], ◌∷◌, refl, sym, ap₂, subst, arith}
use Rattle.std.specs.Prelude.{nat_le, if◌then◌else◌}
use Rattle.std.proofs.lemmas.Bool.{and_parts, eqb-true, leb-true, lt-ltb, ltb-true}
use Rattle.std.proofs.lemmas.Bool.Decides.{nat_tests}
use Rattle.std.proofs.lemmas.List.Elements.{All-cons, All-nil}
use Rattle.flat_machine.specs.declared.config.Config.{Config}
use Rattle.flat_machine.specs.declared.poke.Poke.{Poke}
use Rattle.flat_machine.specs.declared.poke.Poke.TheVariants as poke
use Rattle.flat_machine.specs.Flat.{is_lawful_register}
use Rattle.flat_machine.specs.Limits.{IsWithinLimits}
use Rattle.flat_machine.specs.Memory.{in_local, in_shared}
use Rattle.flat_machine.specs.Turns.{Turn}
use Rattle.machine_steps.specs.messages.declared.moves.UpMove.TheVariants as up
use Rattle.machine_steps.specs.messages.declared.moves.DownMove.TheVariants as down
use Rattle.machine_steps.specs.messages.Moves.{moved_up, moved_down, up_from, down_from}
use Rattle.machine_steps.specs.machine_theory.Theory as theory
use Rattle.machine_steps.specs.machine_theory.Theory.{stalled, went_up, went_down, serve_from}
use Rattle.machine_steps.specs.machine_theory.Processors.{ObservedCore, sizes_of, next, program, is_lawful_poke, may_poke, are_home}
use Rattle.machine_steps.specs.machine_theory.Steps.{after, answer_of, outcome_of}
use Rattle.machine_steps.specs.serialization.Machine.{all_shut, poked, turned}
use Rattle.machine_steps.specs.Machines.{machine_of}
use Rattle.machine_steps.specs.Runs.{NoneStalls}
use Rattle.machine_log.specs.Logs.{IsWellFormed, Log}
use Rattle.steps.specs.declared.step.Step.{Step}
use Rattle.steps.specs.declared.step.Step.TheVariants as step
use Rattle.steps.specs.declared.step.Outcome.{Outcome}
use Rattle.steps.specs.declared.step.Outcome.TheVariants.{Stalled}
use Rattle.trace_file.specs.Records.{HasRecord, has_poke_record}
use Rattle.trace_file.specs.Traces.{HaveRecords, IsTrace, trace_of}
use Rattle.run_reports.proofs.Lemmas.{is_spelled}

both : (a b n m : ℕ) → a < n → b < m → (nat_lt a n && nat_lt b m) ≡ true
both a b n m first second = ap₂ (λ x y. x && y) (lt-ltb a n first) (lt-ltb b m second)

register_has_record : (n p register value : ℕ) → p < n → is_lawful_register register value ≡ true → value < 2 ^ 32 →
    has_poke_record n (poke.Register p register value) ≡ true
register_has_record n p register value there lawful word = grind (arith, nat_tests)

local_has_record : (n p address value : ℕ) → p < n → 0x00020000 ≤ address → address ≤ 0x0002FFFF → value < 256 →
    has_poke_record n (poke.Local p address value) ≡ true
local_has_record n p address value there least most byte = grind (arith, nat_tests)

shared_has_record : (n address value : ℕ) → 0x80000000 ≤ address → address ≤ 0x800FFFFF → value < 256 →
    has_poke_record n (poke.Shared address value) ≡ true
shared_has_record n address value least most byte = grind (arith, nat_tests)

-- A poke that is lawful for a machine of this size has a record.
poke_has_record : (c : Config) → c.shared_words ≤ 262144 → (q : Poke) → is_lawful_poke c q ≡ true → has_poke_record (2 ^ c.k) q ≡ true
poke_has_record c few (poke.Register p register value) lawful =
    let word = and_parts (nat_lt value (2 ^ 32)) (nat_lt p (2 ^ c.k) && is_lawful_register register value) lawful in
    let there = and_parts (nat_lt p (2 ^ c.k)) (is_lawful_register register value) word.1 in
    register_has_record (2 ^ c.k) p register value (ltb-true p (2 ^ c.k) there.0) there.1 (ltb-true value (2 ^ 32) word.0)
poke_has_record c few (poke.Local p address value) lawful =
    let byte = and_parts (nat_lt value 256) (nat_lt p (2 ^ c.k) && in_local address) lawful in
    let there = and_parts (nat_lt p (2 ^ c.k)) (in_local address) byte.1 in
    let block : address / 65536 ≡ 2 = eqb-true (address / 65536) 2 there.1 in
    local_has_record (2 ^ c.k) p address value (ltb-true p (2 ^ c.k) there.0) (omega (arith, block)) (omega (arith, block)) (ltb-true value 256 byte.0)
poke_has_record c few (poke.Shared address value) lawful =
    let byte = and_parts (nat_lt value 256) (in_shared c.shared_words address) lawful in
    let there = and_parts (nat_le (2 ^ 31) address) (nat_lt address (2 ^ 31 + 4 * c.shared_words)) byte.1 in
    let least = leb-true (2 ^ 31) address there.0 in
    let most = ltb-true address (2 ^ 31 + 4 * c.shared_words) there.1 in
    shared_has_record (2 ^ c.k) address value (omega (arith, least)) (omega (arith, most, few)) (ltb-true value 256 byte.0)

module _ (c : Config) (code : List ℕ) (M : theory.Machine ObservedCore) where
  abbrev answers : theory.Outcome → Outcome
  answers = answer_of (λ p. next c code p (M.core p).state)

  inside : (a n : ℕ) (r : theory.Result ObservedCore) (b : Bool) → nat_lt a n ≡ b → (answers (if b then r else stalled M).outcome ≡ Stalled → ⊥) → a < n
  inside a n r true e moves = ltb-true a n e
  inside a n r false e moves = absurd (moves refl)

  stage_up : (s w : ℕ) (on_wire there : Bool) → nat_lt s c.k ≡ there →
      (answers (if on_wire then went_up M (if there then up_from (sizes_of c) M.net s w (M.net.requests s w) else (up.Stalled, M.net)) else stalled M).outcome
      ≡ Stalled → ⊥) → s < c.k
  stage_up s w b true e moves = ltb-true s c.k e
  stage_up s w true false e moves = absurd (moves refl)
  stage_up s w false false e moves = absurd (moves refl)

  stage_down : (s w : ℕ) (on_wire there : Bool) → nat_lt s c.k ≡ there →
      (answers (if on_wire then went_down M (if there then down_from (sizes_of c) M.net s w (M.net.replies (suc s) w) else (down.Stalled, M.net))
      else stalled M).outcome ≡ Stalled → ⊥) → s < c.k
  stage_down s w b true e moves = ltb-true s c.k e
  stage_down s w true false e moves = absurd (moves refl)
  stage_down s w false false e moves = absurd (moves refl)

  lawful : (q : Poke) (shut may : Bool) → may ≡ may_poke c M.core q →
      (answers (if shut && may then poked (program c code) M q else stalled M).outcome ≡ Stalled → ⊥) →
      is_lawful_poke c q ≡ true
  lawful q true true may moves = (and_parts (are_home (2 ^ c.k) (λ p. (M.core p).state)) (is_lawful_poke c q) (sym may)).1
  lawful q true false may moves = absurd (moves refl)
  lawful q false may is moves = absurd (moves refl)

  has_record : IsWithinLimits c → (s : Step) → (outcome_of c code M s ≡ Stalled → ⊥) → HasRecord c.k s
  unfolding outcome_of moved_up moved_down
  has_record limits (step.Turn p) moves =
      lt-ltb p (2 ^ c.k) (inside p (2 ^ c.k) (turned (program c code) M p (M.is_open p)) (nat_lt p (2 ^ c.k)) refl moves)
  has_record limits (step.Up s w) moves =
      both s w c.k (2 ^ c.k) (stage_up s w (nat_lt w (2 ^ c.k)) (nat_lt s c.k) refl moves)
      (inside w (2 ^ c.k) (went_up M (moved_up (sizes_of c) M.net s w)) (nat_lt w (2 ^ c.k)) refl moves)
  has_record limits (step.Serve m) moves =
      lt-ltb m (2 ^ c.k)
      (inside m (2 ^ c.k) (serve_from (sizes_of c) M m (M.net.requests c.k m) (M.net.replies c.k m)) (nat_lt m (2 ^ c.k)) refl moves)
  has_record limits (step.Down s w) moves =
      both s w c.k (2 ^ c.k) (stage_down s w (nat_lt w (2 ^ c.k)) (nat_lt s c.k) refl moves)
      (inside w (2 ^ c.k) (went_down M (moved_down (sizes_of c) M.net s w)) (nat_lt w (2 ^ c.k)) refl moves)
  has_record limits (step.Poke q) moves =
      poke_has_record c limits.words q (lawful q (all_shut (2 ^ c.k) M.is_open) (may_poke c M.core q) refl moves)

have_records : (c : Config) (code : List ℕ) → IsWithinLimits c → (M : theory.Machine ObservedCore) (steps : List Step) → NoneStalls c code M steps →
    HaveRecords c.k steps
have_records c code limits M [] moves = All-nil (HasRecord c.k)
have_records c code limits M (s ∷ ss) moves =
    All-cons (HasRecord c.k) s ss (has_record c code M limits s moves.0) (have_records c code limits (after c code M s) ss moves.1)

-- A trace file can spell the steps of a log.
pub has_trace : (log : Log) → IsWellFormed log → IsTrace (trace_of log.machine.config log.steps)
has_trace log kept =
    let opening = log.opening in
    let records = have_records opening.config opening.code kept.opens.limits (machine_of opening (λ p. [])) log.steps kept.replay.moved in
    is_spelled log.machine.config log.steps kept.sound.limits kept.room
    (subst (λ (d : Config). HaveRecords d.k log.steps) (sym kept.replay.run.config) records)
