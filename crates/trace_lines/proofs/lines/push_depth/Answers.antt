use Rattle.std.proofs.Common.{◌≡◌, ◌++◌, subst}
use Rattle.std.specs.Prelude.{codes, OnOk, string_bytes}
use Rattle.std.specs.Fmt.{decimal}
use Rattle.trace_lines.proofs.lines.push_depth.Goals as goal

pub returns : goal.returns
returns c =
    subst (λ depth. OnOk c.write.result (string_bytes c.write.new.self ≡ string_bytes c.args.text.now ++ (codes "moves to depth " ++ decimal depth)))
    c.depth_after-depth.ensures c.write.ensures.bytes
