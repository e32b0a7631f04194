use Rattle.std.proofs.Common.{◌∙◌, refl, ap, sym, subst}
use Rattle.polars_arrays_flat.specs.DataType.{kinds_of}
use Rattle.polars_arrays_nested.specs.Clones.{AreClones, IsClone}
use Rattle.polars_arrays_nested.specs.Parts.{columns}
use Rattle.polars_arrays_nested.specs.declared.any_array.AnyArray.{List, FixedSizeList, Struct, Dictionary}
use Rattle.polars_arrays_nested.proofs.Clones.{clone-dictionary, clone-fixed, clone-list, clone-made_of, clone-struct, copies-more}
use Rattle.polars_arrays_nested.proofs.Flat.{flat_case}
use Rattle.polars_arrays_nested.proofs.+clones.Goals as goal

pub dictionary::DictionaryArray::clone_array-returns :
    goal.dictionary::DictionaryArray::clone_array-returns
dictionary::DictionaryArray::clone_array-returns t c =
    let item : IsClone c.in_ok-values.values c.args.self.now.values.value = rw c.deref.ensures at c.in_ok-values.ensures in
    clone-dictionary _ c.args.self.now c.in_ok-keys.ensures (subst (λ v. IsClone v c.args.self.now.values.value) (sym c.in_ok-values-2.ensures.ok) item)

pub fixed_size_list::FixedSizeListArray::clone_array-returns :
    goal.fixed_size_list::FixedSizeListArray::clone_array-returns
fixed_size_list::FixedSizeListArray::clone_array-returns t c =
    let item : IsClone c.in_ok-values.values c.args.self.now.values.value = rw c.deref.ensures at c.in_ok-values.ensures in
    clone-fixed _ c.args.self.now refl refl (subst (λ v. IsClone v c.args.self.now.values.value) (sym c.in_ok-values-2.ensures.ok) item) c.in_ok-validity.ensures

pub list::ListArray::clone_array-returns : goal.list::ListArray::clone_array-returns
list::ListArray::clone_array-returns t c =
    let item : IsClone c.in_ok-values.values c.args.self.now.values.value = rw c.deref.ensures at c.in_ok-values.ensures in
    clone-list _ c.args.self.now c.in_ok-offsets.ensures (subst (λ v. IsClone v c.args.self.now.values.value) (sym c.in_ok-values-2.ensures.ok) item) c.in_ok-validity.ensures

pub struct_array::StructArray::clone_array-returns :
    goal.struct_array::StructArray::clone_array-returns
struct_array::StructArray::clone_array-returns t c =
    let each : AreClones c.in_ok-values.values.items (columns c.args.self.now) = rw c.deref-2.ensures.value at c.in_ok-values.ensures in
    clone-struct _ c.args.self.now (c.in_ok-fields.ensures ∙ ap kinds_of c.deref.ensures.value) refl each.as_many each.each c.in_ok-validity.ensures

pub struct_array::clone_columns-loop-column-preserved :
    goal.struct_array::clone_columns-loop-column-preserved
struct_array::clone_columns-loop-column-preserved t c =
    copies-more IsClone _ c.loop-column.copies.items c.args.columns.now c.in_ok-copy.copy c.column-item.result c.loop-column.column-index c.in_ok-push.ensures.items c.loop-column.invariant.0 c.loop-column-test.true c.column-item.is c.in_ok-copy.ensures c.loop-column.invariant.1

pub any_array::AnyArray::clone_array-returns-in-List : goal.any_array::AnyArray::clone_array-returns-in-List
any_array::AnyArray::clone_array-returns-in-List t c =
    clone-made_of List c.in-List.array c.args.self.now c.clone_array.result c.map.result c.in-List.is c.clone_array.ensures c.map.ensures.cases

pub any_array::AnyArray::clone_array-returns-in-FixedSizeList : goal.any_array::AnyArray::clone_array-returns-in-FixedSizeList
any_array::AnyArray::clone_array-returns-in-FixedSizeList t c =
    clone-made_of FixedSizeList c.in-FixedSizeList.array c.args.self.now c.clone_array-in-FixedSizeList.result c.map-in-FixedSizeList.result c.in-FixedSizeList.is c.clone_array-in-FixedSizeList.ensures c.map-in-FixedSizeList.ensures.cases

pub any_array::AnyArray::clone_array-returns-in-Struct : goal.any_array::AnyArray::clone_array-returns-in-Struct
any_array::AnyArray::clone_array-returns-in-Struct t c =
    clone-made_of Struct c.in-Struct.array c.args.self.now c.clone_array-in-Struct.result c.map-in-Struct.result c.in-Struct.is c.clone_array-in-Struct.ensures c.map-in-Struct.ensures.cases

pub any_array::AnyArray::clone_array-returns-in-Dictionary : goal.any_array::AnyArray::clone_array-returns-in-Dictionary
any_array::AnyArray::clone_array-returns-in-Dictionary t c =
    clone-made_of Dictionary c.in-Dictionary.array c.args.self.now c.clone_array-in-Dictionary.result c.map-in-Dictionary.result c.in-Dictionary.is c.clone_array-in-Dictionary.ensures c.map-in-Dictionary.ensures.cases

pub any_array::AnyArray::clone_array-clone_flat-requires : goal.any_array::AnyArray::clone_array-clone_flat-requires
any_array::AnyArray::clone_array-clone_flat-requires t c =
    flat_case c.args.self.now c.in_default.not-List c.in_default.not-FixedSizeList c.in_default.not-Struct c.in_default.not-Dictionary
