use Rattle.std.proofs.Common.{sym, ap, ◌∙◌}
use Rattle.std.proofs.lemmas.Bool.{false≢true}
use Rattle.std.proofs.lemmas.List.FromFn.{length-map-range_with_len}
use Rattle.std.proofs.lemmas.Result.{MatchResult-weaker}
use Rattle.polars_arrays_flat.specs.DataType.{kinds_of}
use Rattle.polars_arrays_flat.specs.Kind.{StructKind}
use Rattle.polars_arrays_nested.specs.ColumnLaws.{row-struct}
use Rattle.polars_arrays_nested.specs.StoredRows.{stored_struct}
use Rattle.polars_arrays_nested.specs.declared.any_array.AnyArray.{Struct}
use Rattle.polars_compare_equality.proofs.Listed.{apart, equal-bits, fields-equal}
use Rattle.polars_compare_equality.proofs.structs.StructArrayTotalEqKernel.tot_eq_kernel.Goals as goal

pub returns-then-not-same_fields : goal.returns-then-not-same_fields
returns-then-not-same_fields c =
    MatchResult-weaker c.new_zeroed.result c.new_zeroed.ensures
    (λ bits e. rw e (apart _ _ _ _ _ _ (λ e. false≢true (sym c.if-not-same_fields.true ∙ c.same_fields.ensures.1 (ap kinds_of c.fields.ensures ∙ fields-equal _ _ e ∙ sym (ap kinds_of c.fields-2.ensures)))) (c.len-rows.ensures ∙ sym (length-map-range_with_len (stored_struct c.args.self.now) 0 _))))
    (λ error m. m)

pub returns : goal.returns
returns c =
    let fields = sym (ap kinds_of c.fields.ensures) ∙ c.same_fields.ensures.0 c.if-not-same_fields.false ∙ ap kinds_of c.fields-2.ensures in
    MatchResult-weaker c.eq_structs.result c.eq_structs.ensures.told
    (λ bits raw. equal-bits (Struct c.args.self.now) (Struct c.args.other.now) (stored_struct c.args.self.now) (stored_struct c.args.other.now) _ _ _ bits (λ i low. row-struct c.args.self.now i) (λ i low. row-struct c.args.other.now i) c.len-rows.ensures c.requires.comparable (ap StructKind fields) raw)
    (λ error m. m)
