-- The line of a machine's size.
use Rattle.std.specs.Prelude.{ℕ, List, ◌++◌, codes}
use Rattle.std.specs.Fmt.{decimal}
use Rattle.flat_machine.specs.declared.config.Config.{Config}

-- `machine k K c C b B r R`
unfoldable pub size_line : Config → List ℕ
size_line config = codes "machine k " ++ decimal config.k ++ codes " c " ++ decimal config.c ++ codes " b "
    ++ decimal config.b ++ codes " r " ++ decimal config.r ++ codes "\n"
