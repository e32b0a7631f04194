-- Where two types are the same.
use Rattle.std.proofs.Common.{◌≡◌, ℕ, zero, suc, ◌<◌, ◌↔◌, Bool, false, IsTrue, List, [], ◌∷◌, length, get_or, refl, ap, sym, ◌∙◌, arith, string_bytes}
use Rattle.std.proofs.lemmas.Bool.{false≢true}
use Rattle.std.specs.declared.vec.Vec.{Vec}
use Rattle.std.specs.declared.alloc.Global.{Global}
use Rattle.polars_arrays_flat.specs.DataType.{kind_of, kinds_of, IsSameField}
use Rattle.polars_arrays_flat.specs.DataTypeLaws.{kind_of-struct}
use Rattle.polars_arrays_flat.specs.Kind.{NamedKinds, StructKind}
use Rattle.polars_arrays_flat.specs.declared.data_type.Field.{Field}
use Rattle.polars_arrays_flat.specs.declared.data_type.ArrowDataType as types

-- the result `false` is right if the proposition cannot hold
pub never : (P : Type 0) → (P → ⊥) → IsTrue false ↔ P
never P h = (λ f. absurd (false≢true f), λ p. absurd (h p))

-- a struct is of a kind where its fields are
pub struct_agrees : (same : Bool) (ks : NamedKinds) (fields : Vec Field Global) → IsTrue same ↔ (ks ≡ kinds_of fields.items) → IsTrue same ↔ (StructKind ks ≡ kind_of (types.Struct fields))
struct_agrees same ks fields h = (
  λ t. ap StructKind (h.0 t) ∙ sym (kind_of-struct fields),
  λ e. h.1 (let both : StructKind ks ≡ StructKind (kinds_of fields.items) = e ∙ kind_of-struct fields in cc),
)

-- lists of fields that agree place by place
pub kinds_agree : (fs gs : List Field) → length fs ≡ length gs → ((i : ℕ) (d : Field) → i < length fs → IsSameField (get_or fs i d) (get_or gs i d)) → kinds_of fs ≡ kinds_of gs
kinds_agree [] [] e h = refl
kinds_agree [] (g ∷ gs) e h = absurd (omega arith)
kinds_agree (f ∷ fs) [] e h = absurd (omega arith)
kinds_agree (f ∷ fs) (g ∷ gs) e h =
    let first : IsSameField f g = h 0 f (omega arith) in
    let one = first.name in
    let two = first.kind in
    let rest = kinds_agree fs gs (omega arith) (λ i d low. h (suc i) d (omega arith)) in
    cc

-- lists of equal kinds have equal lengths
pub kinds_count : (fs gs : List Field) → kinds_of fs ≡ kinds_of gs → length fs ≡ length gs
kinds_count [] [] e = refl
kinds_count [] (g ∷ gs) e = cc
kinds_count (f ∷ fs) [] e = cc
kinds_count (f ∷ fs) (g ∷ gs) e =
    let rest : kinds_of fs ≡ kinds_of gs = cc in
    ap suc (kinds_count fs gs rest)

-- and the same at each place
kinds_each : (fs gs : List Field) → kinds_of fs ≡ kinds_of gs → (i : ℕ) (d d' : Field) → i < length fs → IsSameField (get_or fs i d) (get_or gs i d')
kinds_each [] gs e i d d' low = absurd (omega arith)
kinds_each (f ∷ fs) [] e i d d' low = cc
kinds_each (f ∷ fs) (g ∷ gs) e zero d d' low = record { name = cc; kind = cc }
kinds_each (f ∷ fs) (g ∷ gs) e (suc i) d d' low =
    let rest : kinds_of fs ≡ kinds_of gs = cc in
    kinds_each fs gs rest i d d' (omega arith)

-- so two fields that stand at one place have one name and one kind
pub fields_at : (fs gs : List Field) (i : ℕ) (f g : Field) → kinds_of fs ≡ kinds_of gs → i < length fs → f ≡ get_or fs i f → g ≡ get_or gs i g → IsSameField f g
fields_at fs gs i f g e low ef eg =
    let one = kinds_each fs gs e i f g low in
    record {
      name = ap (λ x. string_bytes x.name) ef ∙ one.name ∙ sym (ap (λ x. string_bytes x.name) eg);
      kind = ap (λ x. kind_of x.dtype) ef ∙ one.kind ∙ sym (ap (λ x. kind_of x.dtype) eg);
    }
