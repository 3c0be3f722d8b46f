-- The limits of a machine's size.
use Rattle.std.specs.Prelude.{◌≤◌, ◌<◌}
use Rattle.flat_machine.specs.declared.config.Config.{Config}

pub record IsWithinLimits (config : Config) : Type 0 where
  pub stages : config.k ≤ 6
  pub some_capacity : 2 ≤ config.c
  pub capacity : config.c ≤ 16
  pub records : config.b ≤ 16
  pub some_combinations : 1 ≤ config.r
  pub combinations : config.r ≤ 3
  -- a queue has room for all replies of an entry that was combined r times
  pub answers : config.r < config.c
  pub some_words : 1 ≤ config.shared_words
  pub words : config.shared_words ≤ 262144
