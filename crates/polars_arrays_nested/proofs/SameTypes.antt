-- When two arrays are of one type.
use Rattle.std.proofs.Common.{◌≡◌, ◌↔◌, ℕ, false, true, IsTrue, refl, ap, sym, ◌∙◌}
use Rattle.std.proofs.lemmas.Bool.{false≢true}
use Rattle.polars_arrays_flat.specs.Kind.{Kind, NamedKinds, FixedSizeListKind, StructKind, DictionaryKind}
use Rattle.polars_arrays_nested.specs.Types.{kind_of_lists, type_of}
use Rattle.polars_arrays_nested.specs.declared.any_array.AnyArray.{AnyArray, FixedSizeList, Struct, Dictionary, List', FixedSizeList', Struct', Dictionary', roll-AnyArray, roll-out-AnyArray}
use Rattle.polars_arrays_nested.specs.declared.any_array.AnyArray.{List as Lists}
use Rattle.polars_arrays_nested.specs.declared.any_array.AnyArray.TheVariants.{outs-Struct', rolls-Struct}
use Rattle.polars_arrays_nested.specs.declared.any_array.AnyArray.TheBlock.{shown-the_row-AnyArray-0}
use Rattle.polars_arrays_nested.specs.declared.dictionary.DictionaryArray.{DictionaryArray}
use Rattle.polars_arrays_nested.specs.declared.fixed_size_list.FixedSizeListArray.{FixedSizeListArray}
use Rattle.polars_arrays_nested.specs.declared.list.ListArray.{ListArray}
use Rattle.polars_arrays_nested.specs.declared.list_offsets.ListOffsets.{ListOffsets}
use Rattle.polars_arrays_nested.specs.declared.list_offsets.ListOffsets.TheVariants.{Small, Large}
use Rattle.polars_arrays_nested.specs.declared.struct_array.StructArray.{StructArray}

-- the result `false` is right if the proposition cannot hold
pub never : (P : Type 0) → (P → ⊥) → IsTrue false ↔ P
never P h = (λ f. absurd (false≢true f), λ p. absurd (h p))

-- and `true` is right where both are of one type
pub always : (own kind type : Kind) → own ≡ type → kind ≡ type → IsTrue true ↔ (own ≡ kind)
always own kind type is is' = (λ p. is ∙ sym is', λ same. refl)

-- whether another array is of an array's own type, where the other is asked
pub asked_of_other : (P : Type 0) (own other type : Kind) → own ≡ type → P ↔ (other ≡ type) → P ↔ (own ≡ other)
asked_of_other P own other type is asked = (λ p. is ∙ sym (asked.0 p), λ same. asked.1 (sym same ∙ is))

-- and where the part that the array holds is asked
pub asked_of_part : (P : Type 0) (own other type : Kind) → own ≡ type → P ↔ (type ≡ other) → P ↔ (own ≡ other)
asked_of_part P own other type is asked = (λ p. is ∙ asked.0 p, λ same. asked.1 (sym is ∙ same))

-- only a struct is of a struct's type
pub struct_only : (b : AnyArray) (ks : NamedKinds) → StructKind ks ≡ type_of b → ((x : StructArray) → b ≡ Struct x → ⊥) → ⊥
struct_only (Struct' fields len p all m) ks e other =
    let s : StructArray = record { fields = fields; len = len; values = shown-the_row-AnyArray-0 p all; validity = m } in
    other s (sym (roll-out-AnyArray (Struct' fields len p all m)) ∙ ap roll-AnyArray (outs-Struct' fields len p all m) ∙ rolls-Struct s)
struct_only (List' (Small offsets) p v m) ks e other = cc
struct_only (List' (Large offsets) p v m) ks e other = cc
struct_only _ ks e other = cc

-- only lists between offsets are of the type of such lists
pub list_only : (b : AnyArray) (o : ListOffsets) (item : Kind) → kind_of_lists o item ≡ type_of b → ((x : ListArray) → b ≡ Lists x → ⊥) → ⊥
list_only (List' offsets p v m) o item e other = other (record { offsets = offsets; values = record { ptr = p.ptr; alloc = p.alloc; value = v }; validity = m }) refl
list_only _ (Small o) item e other = cc
list_only _ (Large o) item e other = cc

-- only lists of one width are of a type of such lists
pub fixed_only : (b : AnyArray) (item : Kind) (width : ℕ) → FixedSizeListKind item width ≡ type_of b → ((x : FixedSizeListArray) → b ≡ FixedSizeList x → ⊥) → ⊥
fixed_only (FixedSizeList' w n p v m) item width e other = other (record { width = w; len = n; values = record { ptr = p.ptr; alloc = p.alloc; value = v }; validity = m }) refl
fixed_only (List' (Small offsets) p v m) item width e other = cc
fixed_only (List' (Large offsets) p v m) item width e other = cc
fixed_only _ item width e other = cc

-- only a dictionary is of a dictionary's type
pub dictionary_only : (b : AnyArray) (key entry : Kind) → DictionaryKind key entry ≡ type_of b → ((x : DictionaryArray) → b ≡ Dictionary x → ⊥) → ⊥
dictionary_only (Dictionary' keys p v) key entry e other = other (record { keys = keys; values = record { ptr = p.ptr; alloc = p.alloc; value = v } }) refl
dictionary_only (List' (Small offsets) p v m) key entry e other = cc
dictionary_only (List' (Large offsets) p v m) key entry e other = cc
dictionary_only _ key entry e other = cc
