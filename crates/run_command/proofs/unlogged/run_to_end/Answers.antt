use Rattle.std.proofs.Common.{◌≡◌, ◌≤◌, ◌∙◌, rules, arith, subst, sym}
use Rattle.schedules.specs.Sweeps.{opened}
use Rattle.run_command.specs.SweepRuns.{IsSweptTo, most_unlogged}
use Rattle.run_command.proofs.Budgets.{not_reported}
use Rattle.run_command.proofs.WithoutLog.{counted_run, is_swept}
use Rattle.run_command.proofs.unlogged.run_to_end.Goals as goal

pub follow-end-requires-clause-log : goal.follow-end-requires-clause-log
follow-end-requires-clause-log c = (opened c.args.machine, c.new-counted.ensures.log)

pub drained-machine-requires : goal.drained-machine-requires
drained-machine-requires c =
    let f = c.follow-end.ensures.followed (opened c.args.machine) c.new-counted.ensures.log in
    let few = f.2.few in
    let count = f.1.count in
    let most : c.min-most.result ≤ 4000000000 = search rules in omega (arith, few, count, most)

pub returns-then-not-is_reported-clause-refused : goal.returns-then-not-is_reported-clause-refused
returns-then-not-is_reported-clause-refused c =
    let same : c.min-most.result ≡ most_unlogged c.args.budget = search rules in
    let not = not_reported c.args.unfinished c.follow-end.result (sym c.is_reported.ensures ∙ c.if-not-is_reported.true) in
    let swept = is_swept (most_unlogged c.args.budget) c.min-most.result c.args.machine c.follow-end.result c.follow-end.new.taker c.drained-machine.result.0
    c.drained-machine.result.1 same (c.follow-end.ensures.followed (opened c.args.machine) c.new-counted.ensures.log) c.drained-machine.ensures in
    (not.1, subst (IsSweptTo (most_unlogged c.args.budget) c.args.machine) not.0 swept)

pub returns-in-Some-clause-counted : goal.returns-in-Some-clause-counted
returns-in-Some-clause-counted c =
    let same : c.min-most.result ≡ most_unlogged c.args.budget = search rules in
    counted_run (most_unlogged c.args.budget) c.min-most.result c.args.machine c.follow-end.result c.follow-end.new.taker c.drained-machine.result.0
    c.drained-machine.result.1 same (c.follow-end.ensures.followed (opened c.args.machine) c.new-counted.ensures.log) c.drained-machine.ensures
    c.in-Some.tally c.in-Some.is

pub returns-in-None-clause-refused : goal.returns-in-None-clause-refused
returns-in-None-clause-refused c =
    let same : c.min-most.result ≡ most_unlogged c.args.budget = search rules in (
      c.follow-end.result,
      sym c.is_reported.ensures ∙ c.if-not-is_reported.false,
      is_swept (most_unlogged c.args.budget) c.min-most.result c.args.machine c.follow-end.result c.follow-end.new.taker c.drained-machine.result.0
          c.drained-machine.result.1 same (c.follow-end.ensures.followed (opened c.args.machine) c.new-counted.ensures.log) c.drained-machine.ensures,
    )
