-- The kinds of fields that were copied.
use Rattle.std.proofs.Common.{◌≡◌, ◌<◌, ℕ, suc, List, [], ◌∷◌, length, get_or, refl, ap, ◌∙◌, arith}
use Rattle.std.specs.declared.vec.Vec.{Vec}
use Rattle.std.specs.declared.alloc.Global.{Global}
use Rattle.polars_arrays_flat.specs.DataType.{IsSameField, kind_of, kinds_of}
use Rattle.polars_arrays_flat.specs.DataTypeLaws.{kind_of-struct}
use Rattle.polars_arrays_flat.specs.Kind.{StructKind}
use Rattle.polars_arrays_flat.specs.declared.data_type.ArrowDataType as types
use Rattle.polars_arrays_flat.specs.declared.data_type.Field.{Field}

-- lists of fields that agree place by place
pub kinds_agree : (fs gs : List Field) → length fs ≡ length gs → ((i : ℕ) (d : Field) → i < length fs → IsSameField (get_or fs i d) (get_or gs i d)) → kinds_of fs ≡ kinds_of gs
kinds_agree [] [] e h = refl
kinds_agree [] (g ∷ gs) e h = absurd (omega arith)
kinds_agree (f ∷ fs) [] e h = absurd (omega arith)
kinds_agree (f ∷ fs) (g ∷ gs) e h =
    let first : IsSameField f g = h 0 f (omega arith) in
    let one = first.name in
    let two = first.kind in
    let rest = kinds_agree fs gs (omega arith) (λ i d low. h (suc i) d (omega arith)) in
    cc

-- a struct's type by its fields
pub struct_kind : (copies : Vec Field Global) (fields : List Field) → kinds_of copies.items ≡ kinds_of fields → kind_of (types.Struct copies) ≡ StructKind (kinds_of fields)
struct_kind copies fields same = kind_of-struct copies ∙ ap StructKind same

pub ruleset struct_types = (struct_kind)
