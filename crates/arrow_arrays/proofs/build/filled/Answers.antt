use Rattle.std.specs.Prelude.{map, string_bytes}
use Rattle.std.proofs.lemmas.Result.{err_from_is_err_and}
use Rattle.arrow_arrays.proofs.Stacks.{made-good, made-step, shape-good, taken-length, few-refused, made-refused, none-refused}
use Rattle.arrow_arrays.proofs.build.filled.Goals as goal

pub fill-requires-clause-shape : goal.fill-requires-clause-shape
fill-requires-clause-shape c = shape-good c.args.shapes.now.items c.take_shape.new.shapes.items c.in_ok-shape.shape c.in_ok-shape.ensures.taken c.requires.shapes

pub returns-clause-made : goal.returns-clause-made
returns-clause-made c = made-step c.args.count c.args.shapes.now.items c.take_shape.new.shapes.items c.in_ok-shape.shape c.in_ok-inside.inside.fields.items c.in_ok-inside.inside.columns.items c.args.stack.now.items c.take_inside.new.stack.items (map string_bytes c.args.names.now.items) (map string_bytes c.take_inside.new.names.items) c.in_ok-array.array c.in_ok-shape.ensures.taken c.in_ok-inside.ensures.taken c.in_ok-inside.ensures.named c.in_ok-array.ensures.made

pub returns-clause-good : goal.returns-clause-good
returns-clause-good c = made-good c.args.count c.args.shapes.now.items c.take_shape.new.shapes.items c.in_ok-shape.shape c.in_ok-inside.inside.columns.items c.args.stack.now.items c.take_inside.new.stack.items c.in_ok-shape.ensures.taken c.in_ok-inside.ensures.taken c.in_ok-array.ensures.can

pub returns-clause-taken : goal.returns-clause-taken
returns-clause-taken c = taken-length c.args.count c.in_ok-inside.inside.columns.items c.args.stack.now.items c.take_inside.new.stack.items c.in_ok-inside.ensures.taken

pub returns-in_err-inside-clause-refused : goal.returns-in_err-inside-clause-refused
returns-in_err-inside-clause-refused c =
    let p = err_from_is_err_and c.from_residual.result c.from_residual.ensures.1 in
    rw (p.1, p.2) (few-refused c.args.count c.args.shapes.now.items c.args.stack.now.items _ c.in_err-inside.ensures.refused)

pub returns-in_err-shape-clause-refused : goal.returns-in_err-shape-clause-refused
returns-in_err-shape-clause-refused c =
    let p = err_from_is_err_and c.from_residual-in_err-shape.result c.from_residual-in_err-shape.ensures.1 in
    rw (p.1, p.2) (none-refused c.args.count c.args.shapes.now.items c.args.stack.now.items _ c.in_err-shape.ensures.none)

pub returns-in_err-array-clause-refused : goal.returns-in_err-array-clause-refused
returns-in_err-array-clause-refused c =
    let p = err_from_is_err_and c.from_residual-in_err-array.result c.from_residual-in_err-array.ensures.1 in
    rw (p.1, p.2) (made-refused c.args.count c.args.shapes.now.items c.take_shape.new.shapes.items c.in_ok-shape.shape c.in_ok-inside.inside.columns.items c.args.stack.now.items c.take_inside.new.stack.items _ c.in_ok-shape.ensures.taken c.in_ok-inside.ensures.taken c.in_err-array.ensures.refused)
