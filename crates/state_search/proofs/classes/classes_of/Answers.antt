use Rattle.std.proofs.Common.{◌≡◌, subst, arith}
use Rattle.state_search.proofs.Classing.{AreNamed, named_on, are_classes, alike_rows}
use Rattle.state_search.proofs.classes.classes_of.Goals as goal

pub loop-p-preserved : goal.loop-p-preserved
loop-p-preserved g c =
    named_on c.args.extent c.args.first.now c.loop-p.classes.items c.push.new.self.items c.loop-p.p c.class_of-class.result c.loop-p.invariant
    c.in_ok-push.ensures.items c.class_of-class.ensures.alike c.class_of-class.ensures.own

pub returns-clause-classes : goal.returns-clause-classes
returns-clause-classes g c =
    let all : c.loop-p.p ≡ c.args.extent.processors = omega arith in
    are_classes c.args.extent c.args.first.now c.loop-p.classes.items
    (subst (AreNamed c.args.extent c.args.first.now c.loop-p.classes.items) all c.loop-p.invariant)

pub returns-clause-alike : goal.returns-clause-alike
returns-clause-alike g c =
    let all : c.loop-p.p ≡ c.args.extent.processors = omega arith in
    alike_rows c.args.extent c.args.first.now c.loop-p.classes.items
    (subst (AreNamed c.args.extent c.args.first.now c.loop-p.classes.items) all c.loop-p.invariant)
