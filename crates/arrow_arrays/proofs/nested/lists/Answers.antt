use Rattle.std.proofs.Common.{◌≡◌, ◌+◌, ◌-◌, refl, ap, subst, ◌∙◌, rules}
use Rattle.std.specs.Prelude.{IfErr}
use Rattle.polars_arrays_flat.specs.Row.{Rows}
use Rattle.polars_arrays_flat.specs.StoredRows.{kept}
use Rattle.polars_arrays_flat.specs.Validity.{is_present}
use Rattle.polars_arrays_nested.specs.AnyRows.{row, rows_from}
use Rattle.polars_arrays_nested.specs.GoodParts.{AreLists}
use Rattle.polars_arrays_nested.specs.Leaves.{leaves}
use Rattle.polars_arrays_nested.specs.Lengths.{len_of}
use Rattle.polars_arrays_nested.specs.ListOffsets.{offset_at, span}
use Rattle.polars_arrays_nested.specs.Types.{kind_of_lists, type_of}
use Rattle.polars_arrays_nested.specs.declared.any_array.AnyArray as of
use Rattle.arrow_parts.specs.declared.refused.Refused.TheVariants.{Parts}
use Rattle.arrow_arrays.proofs.Standing.{list-rows, other-length, parts-one, this-length}
use Rattle.arrow_arrays.specs.declared.shapes.Shape.TheVariants.{Lists}
use Rattle.arrow_arrays.proofs.nested.lists.Goals as goal

pub returns-clause-made : goal.returns-clause-made
returns-clause-made c =
    list-rows (of.List c.in_ok-array.array) c.args.items c.args.offsets c.args.validity c.in_ok-array.ensures.good (ap (λ a. type_of (of.List a)) c.in_ok-array.ensures.made.1 ∙ ap (λ x. kind_of_lists c.args.offsets (type_of x)) c.in_ok-items.ensures.ok) (ap (λ a. len_of (of.List a)) c.in_ok-array.ensures.made.1)
    (λ i. c.in_ok-array.ensures.rows i ∙ ap (λ x. kept (is_present c.args.validity i) (Rows (rows_from (row x) (offset_at c.args.offsets i) (span c.args.offsets i)))) c.in_ok-items.ensures.ok)
    (λ from n. ap (λ a. leaves (of.List a) from n) c.in_ok-array.ensures.made.1 ∙ ap (λ x. leaves x (offset_at c.args.offsets from) (offset_at c.args.offsets (from + n) - offset_at c.args.offsets from)) c.in_ok-items.ensures.ok)

pub returns-in_err-array-clause-refused : goal.returns-in_err-array-clause-refused
returns-in_err-array-clause-refused c =
    let none : ¬ (AreLists (len_of c.args.items) c.args.offsets c.args.validity) = subst (λ x. ¬ (AreLists (len_of x) c.args.offsets c.args.validity)) c.in_ok-items.ensures.ok c.in_err-array.ensures.made in
    let parts : IfErr c.from_residual-in_err-array.result (λ r. r ≡ Parts) = search rules in
    parts-one (Lists c.args.offsets c.args.validity) c.args.items c.from_residual-in_err-array.result parts (other-length (Lists c.args.offsets c.args.validity) (λ n. AreLists n c.args.offsets c.args.validity) c.args.items (λ x can. can) none)

pub returns-clause-can : goal.returns-clause-can
returns-clause-can c =
    this-length (Lists c.args.offsets c.args.validity) (λ n. AreLists n c.args.offsets c.args.validity) c.args.items (λ x can. can) (subst (λ x. AreLists (len_of x) c.args.offsets c.args.validity) c.in_ok-items.ensures.ok c.in_ok-array.ensures.made.0)
