use Rattle.std.proofs.Common.{◌≡◌, ◌+◌, ◌++◌, ◌∷◌, [], length, map, sym, ap, subst, ◌∙◌, arith, rules}
use Rattle.std.specs.Prelude.{string_bytes}
use Rattle.std.proofs.lemmas.List.{map-append}
use Rattle.polars_arrays_flat.specs.declared.data_type.Field.{Field}
use Rattle.polars_arrays_nested.specs.Types.{type_of}
use Rattle.arrow_arrays.proofs.Stacks.{named-more, typed-all, typed-more}
use Rattle.arrow_arrays.specs.Stacks.{AreTaken}
use Rattle.arrow_arrays.specs.Stands.{field_names}
use Rattle.arrow_arrays.proofs.build.take_fields.Goals as goal

pub loop-i-preserved : goal.loop-i-preserved
loop-i-preserved c =
    let field : Field = record { name = c.in-Some.name; dtype = c.in_ok-dtype.dtype } in
    let popped : c.loop-i.names.items ≡ c.pop.new.self.items ++ c.in-Some.name ∷ [] = search rules in (
      typed-more c.loop-i.fields.items c.push.new.self.items c.args.columns.now c.loop-i.i c.index-columns-i.result field c.loop-i-test.true c.loop-i.invariant.0 (sym (c.in_ok-dtype.ensures ∙ ap type_of c.index-columns-i.is)) c.in_ok-push.ensures.items,
      omega (arith, c.loop-i.invariant.1, c.in-Some.ensures.cases),
      c.loop-i.invariant.2,
      named-more c.loop-i.i c.loop-i.fields.items c.push.new.self.items field (map string_bytes c.args.names.now.items) (map string_bytes c.loop-i.names.items) (map string_bytes c.pop.new.self.items) c.loop-i.invariant.3 (ap (map string_bytes) popped ∙ map-append string_bytes c.pop.new.self.items (c.in-Some.name ∷ [])) c.in_ok-push.ensures.items,
    )

pub returns-clause-typed : goal.returns-clause-typed
returns-clause-typed c = typed-all c.loop-i.fields.items c.args.columns.now c.loop-i.i c.loop-i-test.false c.loop-i.invariant.0

pub returns-clause-named : goal.returns-clause-named
returns-clause-named c =
    subst (λ n. AreTaken n (field_names c.loop-i.fields.items) (map string_bytes c.args.names.now.items) (map string_bytes c.loop-i.names.items)) (omega (arith, c.loop-i-test.false, c.loop-i.auto.i-end)) c.loop-i.invariant.3
