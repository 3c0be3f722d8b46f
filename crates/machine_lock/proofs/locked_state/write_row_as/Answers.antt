use Rattle.std.proofs.Common.{◌∙◌, ap, [], ◌∷◌, slice_set}
use Rattle.machine_lock.proofs.locked_state.write_row_as.Goals as goal

pub returns : goal.returns
returns g c who r is =
    let w = c.write.ensures who r is in
    record {
      agreed = w.agreed;
      authority = w.authority ∙ ap (slice_set c.args.authority.now who) c.requires;
      fragment = w.fragment ∙ ap (λ n. (who, n) ∷ []) c.requires;
    }
