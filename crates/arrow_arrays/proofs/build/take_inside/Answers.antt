use Rattle.std.proofs.Common.{◌≤◌, length, map, ap, subst, ◌∙◌, arith}
use Rattle.std.specs.Prelude.{string_bytes}
use Rattle.std.proofs.lemmas.Result.{err_from_is_err_and}
use Rattle.arrow_arrays.proofs.Stacks.{taken-length}
use Rattle.arrow_arrays.specs.Stacks.{AreTaken}
use Rattle.arrow_arrays.specs.Stands.{AreTyped, field_names}
use Rattle.arrow_arrays.proofs.build.take_inside.Goals as goal

pub take_fields-requires : goal.take_fields-requires
take_fields-requires c =
    omega (arith, c.requires, taken-length c.args.count c.in_ok-columns.columns.items c.args.stack.now.items c.take_columns.new.stack.items c.in_ok-columns.ensures.taken, c.in_ok-columns.ensures.taken.count_is, ap length c.deref.ensures.value)

pub returns-clause-typed : goal.returns-clause-typed
returns-clause-typed c =
    subst (AreTyped c.in_ok-fields.fields.items) c.deref.ensures.value c.in_ok-fields.ensures.typed

pub returns-clause-named : goal.returns-clause-named
returns-clause-named c =
    subst (λ n. AreTaken n (field_names c.in_ok-fields.fields.items) (map string_bytes c.args.names.now.items) (map string_bytes c.take_fields.new.names.items)) (ap length c.deref.ensures.value ∙ c.in_ok-columns.ensures.taken.count_is) c.in_ok-fields.ensures.named

pub returns-clause-left : goal.returns-clause-left
returns-clause-left c =
    omega (arith, c.in_ok-fields.ensures.left, c.in_ok-columns.ensures.taken.count_is, ap length c.deref.ensures.value)

pub returns-in_err-columns-clause-refused : goal.returns-in_err-columns-clause-refused
returns-in_err-columns-clause-refused c =
    let p = err_from_is_err_and c.from_residual.result c.from_residual.ensures.1 in
    rw (p.1, p.2) c.in_err-columns.ensures.refused

pub returns-in_err-fields-clause-refused : goal.returns-in_err-fields-clause-refused
returns-in_err-fields-clause-refused c =
    let p = err_from_is_err_and c.from_residual-in_err-fields.result c.from_residual-in_err-fields.ensures.1 in
    rw (p.1, p.2, c.in_err-fields.ensures.refused) tt
