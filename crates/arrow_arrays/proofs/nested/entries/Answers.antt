use Rattle.std.proofs.Common.{◌≡◌, refl, ap, subst, ◌∙◌, rules}
use Rattle.std.specs.Prelude.{IfErr, cond}
use Rattle.polars_arrays_flat.specs.Kind.{DictionaryKind}
use Rattle.polars_arrays_flat.specs.StoredRows.{kept}
use Rattle.polars_arrays_flat.specs.Validity.{is_present}
use Rattle.polars_arrays_nested.specs.AnyRows.{entry_row, row}
use Rattle.polars_arrays_nested.specs.DictKeys.{key_at, key_validity, kind_of_keys}
use Rattle.polars_arrays_nested.specs.GoodParts.{AreKeys}
use Rattle.polars_arrays_nested.specs.Leaves.{leaves, total}
use Rattle.polars_arrays_nested.specs.Lengths.{len_of}
use Rattle.polars_arrays_nested.specs.Types.{type_of}
use Rattle.polars_arrays_nested.specs.declared.any_array.AnyArray as of
use Rattle.arrow_parts.specs.declared.refused.Refused.TheVariants.{Parts}
use Rattle.arrow_arrays.proofs.Standing.{entry-rows, other-length, parts-one, this-length}
use Rattle.arrow_arrays.specs.declared.shapes.Shape.TheVariants.{Entries}
use Rattle.arrow_arrays.proofs.nested.entries.Goals as goal

pub returns-clause-made : goal.returns-clause-made
returns-clause-made c =
    entry-rows (of.Dictionary c.in_ok-array.array) c.args.items c.args.keys c.in_ok-array.ensures.good (ap (λ a. type_of (of.Dictionary a)) c.in_ok-array.ensures.made.1 ∙ ap (λ x. DictionaryKind (kind_of_keys c.args.keys) (type_of x)) c.in_ok-items.ensures.ok) (ap (λ a. len_of (of.Dictionary a)) c.in_ok-array.ensures.made.1)
    (λ i. c.in_ok-array.ensures.rows i ∙ ap (λ x. kept (is_present (key_validity c.args.keys) i) (entry_row (row x (key_at c.args.keys i)))) c.in_ok-items.ensures.ok)
    (λ from n. ap (λ a. leaves (of.Dictionary a) from n) c.in_ok-array.ensures.made.1 ∙ ap (λ x. total (λ k. cond (is_present (key_validity c.args.keys) k) (leaves x (key_at c.args.keys k) 1) 0) from n) c.in_ok-items.ensures.ok)

pub returns-in_err-array-clause-refused : goal.returns-in_err-array-clause-refused
returns-in_err-array-clause-refused c =
    let none : ¬ (AreKeys (len_of c.args.items) c.args.keys) = subst (λ x. ¬ (AreKeys (len_of x) c.args.keys)) c.in_ok-items.ensures.ok c.in_err-array.ensures.made in
    let parts : IfErr c.from_residual-in_err-array.result (λ r. r ≡ Parts) = search rules in
    parts-one (Entries c.args.keys) c.args.items c.from_residual-in_err-array.result parts (other-length (Entries c.args.keys) (λ n. AreKeys n c.args.keys) c.args.items (λ x can. can) none)

pub returns-clause-can : goal.returns-clause-can
returns-clause-can c =
    this-length (Entries c.args.keys) (λ n. AreKeys n c.args.keys) c.args.items (λ x can. can) (subst (λ x. AreKeys (len_of x) c.args.keys) c.in_ok-items.ensures.ok c.in_ok-array.ensures.made.0)
