use Rattle.std.proofs.Common.{◌≡◌, ap, ◌∙◌, rules}
use Rattle.std.specs.Prelude.{IfErr}
use Rattle.polars_arrays_nested.specs.ColumnLaws.{leaves-struct}
use Rattle.polars_arrays_nested.specs.Columns.{columns_leaves}
use Rattle.polars_arrays_nested.specs.Lengths.{len_of}
use Rattle.polars_arrays_nested.specs.Parts.{columns}
use Rattle.polars_arrays_nested.specs.Types.{type_of}
use Rattle.polars_arrays_nested.specs.declared.any_array.AnyArray as of
use Rattle.arrow_parts.specs.declared.refused.Refused.TheVariants.{Parts}
use Rattle.arrow_arrays.proofs.Standing.{parts-fill, struct-rows, structs-can, structs-filled}
use Rattle.arrow_arrays.specs.declared.shapes.Shape.TheVariants.{Structs}
use Rattle.arrow_arrays.proofs.nested.structs.Goals as goal

pub returns-clause-made : goal.returns-clause-made
returns-clause-made c =
    struct-rows (of.Struct c.in_ok-array.array) c.args.inside.fields.items c.args.inside.columns.items c.args.rows c.args.validity c.in_ok-array.ensures.good c.requires.typed (ap (λ a. type_of (of.Struct a)) c.in_ok-array.ensures.made.1) (ap (λ a. len_of (of.Struct a)) c.in_ok-array.ensures.made.1) c.in_ok-array.ensures.rows
    (λ from n. leaves-struct c.in_ok-array.array from n ∙ ap (λ s. columns_leaves (columns s) from n) c.in_ok-array.ensures.made.1)

pub returns-in_err-array-clause-refused : goal.returns-in_err-array-clause-refused
returns-in_err-array-clause-refused c =
    let parts : IfErr c.from_residual.result (λ r. r ≡ Parts) = search rules in
    parts-fill (Structs c.args.rows c.args.validity) c.args.inside.columns.items c.from_residual.result parts (structs-can c.args.inside.fields.items c.args.inside.columns.items c.args.rows c.args.validity c.requires.typed c.in_err-array.ensures.made)

pub returns-clause-can : goal.returns-clause-can
returns-clause-can c =
    structs-filled c.args.inside.fields.items c.args.inside.columns.items c.args.rows c.args.validity c.in_ok-array.ensures.made.0
