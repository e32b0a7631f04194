use Rattle.std.proofs.Common.{◌≡◌, ◌≤◌, ◌-◌, [], length, map, take, drop, refl, subst, sym, ap, arith}
use Rattle.std.specs.Prelude.{string_bytes}
use Rattle.std.proofs.lemmas.Result.{err_from_is_err_and}
use Rattle.arrow_arrays.proofs.Stacks.{AreStacked, all-parts-good, all-stacked, name-refused, none-stacked, one-array-refused, one-stacked, shapes-refused, step-refused}
use Rattle.arrow_arrays.specs.Columns.{columns_of}
use Rattle.arrow_arrays.proofs.build.build.Goals as goal

pub loop-i-init : goal.loop-i-init
loop-i-init c = (
  subst (λ names. AreStacked c.args.parts.now 0 c.in_ok-shapes.shapes.items c.new-stack.result.items (map string_bytes names)) (sym c.new-names.ensures.items) (subst (λ stack. AreStacked c.args.parts.now 0 c.in_ok-shapes.shapes.items stack []) (sym c.new-stack.ensures.items) (none-stacked c.args.parts.now c.in_ok-shapes.shapes.items c.in_ok-shapes.ensures.fit)),
  omega (arith, ap length c.new-stack.ensures.items),
)

pub step-requires-clause-shapes : goal.step-requires-clause-shapes
step-requires-clause-shapes c = (take (length c.args.parts.now - c.loop-i.i) c.args.parts.now, c.loop-i.invariant.0.fit)

pub step-requires-clause-stack : goal.step-requires-clause-stack
step-requires-clause-stack c = (columns_of (drop (length c.args.parts.now - c.loop-i.i) c.args.parts.now), c.loop-i.invariant.0.stand)

pub loop-i-preserved : goal.loop-i-preserved
loop-i-preserved c = (
  one-stacked c.args.parts.now c.loop-i.i _ _ c.loop-i.shapes.items c.step.new.shapes.items c.loop-i.stack.items c.step.new.stack.items (map string_bytes c.loop-i.names.items) (map string_bytes c.step.new.names.items) (map string_bytes c.put_name.new.names.items) c.loop-i-test.true refl c.loop-i.invariant.0 c.in_ok-step.ensures.made c.in_ok-step.ensures.good c.in_ok-put_name.ensures.text c.in_ok-put_name.ensures.put,
  omega (arith, c.loop-i.invariant.1, c.in_ok-step.ensures.left, c.in_ok-step.ensures.taken, c.in_ok-put_name.ensures.longer),
)

pub returns-clause-stands : goal.returns-clause-stands
returns-clause-stands c = all-stacked c.args.parts.now c.loop-i.i c.loop-i.shapes.items c.loop-i.stack.items (map string_bytes c.loop-i.names.items) c.in_ok-array.array (omega (arith, c.loop-i-test.false, c.loop-i.auto.i-end)) c.in_ok-array.ensures.one c.loop-i.invariant.0

pub returns-clause-good : goal.returns-clause-good
returns-clause-good c = all-parts-good c.args.parts.now c.loop-i.i c.loop-i.shapes.items c.loop-i.stack.items (map string_bytes c.loop-i.names.items) c.in_ok-array.array (omega (arith, c.loop-i-test.false, c.loop-i.auto.i-end)) c.in_ok-array.ensures.one c.loop-i.invariant.0

pub returns-in_err-step-clause-refused : goal.returns-in_err-step-clause-refused
returns-in_err-step-clause-refused c =
    let p = err_from_is_err_and c.from_residual-in_err-step.result c.from_residual-in_err-step.ensures.1 in
    rw (p.1, p.2) (step-refused c.args.parts.now c.loop-i.i _ _ c.loop-i.shapes.items c.loop-i.stack.items (map string_bytes c.loop-i.names.items) _ c.loop-i-test.true refl c.loop-i.invariant.0 c.in_err-step.ensures.refused)

pub returns-in_err-put_name-clause-refused : goal.returns-in_err-put_name-clause-refused
returns-in_err-put_name-clause-refused c =
    let p = err_from_is_err_and c.from_residual-in_err-put_name.result c.from_residual-in_err-put_name.ensures.1 in
    rw (p.1, p.2) (name-refused c.args.parts.now (length c.args.parts.now - 1 - c.loop-i.i) _ _ (omega (arith, c.loop-i-test.true)) c.in_err-put_name.ensures.refused)

pub returns-in_err-array-clause-refused : goal.returns-in_err-array-clause-refused
returns-in_err-array-clause-refused c =
    let p = err_from_is_err_and c.from_residual-in_err-array.result c.from_residual-in_err-array.ensures.1 in
    rw (p.1, p.2) (one-array-refused c.args.parts.now c.loop-i.i c.loop-i.shapes.items c.loop-i.stack.items (map string_bytes c.loop-i.names.items) _ (omega (arith, c.loop-i-test.false, c.loop-i.auto.i-end)) c.loop-i.invariant.0 c.in_err-array.ensures.refused)

pub returns-in_err-shapes-clause-refused : goal.returns-in_err-shapes-clause-refused
returns-in_err-shapes-clause-refused c =
    let p = err_from_is_err_and c.from_residual.result c.from_residual.ensures.1 in
    rw (p.1, p.2) (shapes-refused c.args.parts.now _ c.in_err-shapes.ensures.refused)
