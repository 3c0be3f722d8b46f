use Rattle.machine_log.proofs.Taking.{kept_new}
use Rattle.machine_log.proofs.reserved.ReservedLog.new.Goals as goal

pub invariant_of-result : goal.invariant_of-result
invariant_of-result c =
    kept_new c.of-opening.result.value c.args.machine c.new.result.items c.machine_is_well_formed.ensures c.requires.idle c.requires.home
    c.of-opening.ensures c.new.ensures.items
