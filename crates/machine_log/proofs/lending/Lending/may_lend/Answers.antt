use Rattle.std.proofs.Common.{◌∙◌, sym, ap}
use Rattle.machine_log.specs.Lendings.{LendingLog, may_lend}
use Rattle.machine_log.proofs.Changing.{free_is}
use Rattle.machine_log.proofs.lending.Lending.may_lend.Goals as goal

pub returns : goal.returns
returns c = c.is_free.ensures ∙ sym (free_is c.self.invariant.0 c.args.p)
    ∙ ap (λ (x : LendingLog). may_lend x c.args.p) c.self.view_is
