use Rattle.std.proofs.Common.{◌≡◌, rules}
use Rattle.json.specs.Print.{print}
use Rattle.json.specs.Tree.{json_tokens}
use Rattle.line_shapes.specs.Shapes.{object_of}
use Rattle.line_shapes.proofs.Reading.{is_shallow, read_back}
use Rattle.line_shapes.proofs.objects.object_text.Goals as goal

pub returns-clause-reads_back : goal.returns-clause-reads_back
returns-clause-reads_back c =
    let writer = c.write_object.new.writer in
    let j = object_of c.args.shapes.now c.args.line.now in
    let printed : c.into_inner.result.items ≡ print writer.tokens = search rules in
    let is : writer.tokens ≡ json_tokens j = search rules in
    read_back j writer.tokens c.into_inner.result.items printed c.into_inner.ensures.reads_back is (is_shallow c.args.shapes.now c.args.line.now)
