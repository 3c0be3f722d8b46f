use Rattle.std.proofs.Common.{false}
use Rattle.std.specs.Prelude.{IsTrue}
use Rattle.machine_steps.proofs.Handling.{poke_away, poke_busy}
use Rattle.machine_steps.proofs.machine.Machine.poke.Goals as goal

pub returns-then-not-is_idle : goal.returns-then-not-is_idle
returns-then-not-is_idle c =
    poke_busy c.args.self.now c.if-not-is_idle.ensures.sound c.args.poke (λ idle. let fact : IsTrue false = c.if-not-is_idle.ensures.idle.1 idle in absurd (cc))

pub returns-then-not-are_home : goal.returns-then-not-are_home
returns-then-not-are_home c =
    poke_away c.args.self.now c.if-not-is_idle.ensures.sound c.args.poke (λ home. let fact : IsTrue false = c.if-not-are_home.ensures.1 home in absurd (cc))
