use Rattle.std.proofs.Common.{◌≡◌, ◌++◌, [], cond, nat_lt, true, sym, subst, length, arith}
use Rattle.std.specs.Prelude.{string_bytes, OnOk}
use Rattle.std.proofs.lemmas.Bool.{lt-ltb}
use Rattle.observed_results.specs.Lines.{class_text, members_of}
use Rattle.observed_results.proofs.classes.push_class.Goals as goal

pub returns : goal.returns
returns c =
    let classes = c.args.classes.now in
    let class = c.args.class in
    let is : nat_lt 1 (members_of classes class (length classes)) ≡ true =
    lt-ltb 1 (members_of classes class (length classes)) (omega (arith, c.if-members_of-lt2.false, c.members_of.ensures)) in
    subst (λ b. OnOk c.push_class_text.result (string_bytes c.push_class_text.new.text ≡ string_bytes c.args.text.now ++ cond b (class_text classes class) []))
    (sym is) c.push_class_text.ensures
