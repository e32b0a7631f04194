-- The test of two kinds is equality, so `==` of types and of fields keeps the laws of its trait.
use Rattle.std.specs.Prelude.{◌≡◌, ◌↔◌, ℕ, List, Bool, true, false, ◌&&◌, IsTrue, nat_eq}
use Rattle.std.specs.Prelude.{string_bytes, refl}
use Rattle.std.proofs.Common.{ap, sym}
use Rattle.std.proofs.lemmas.Bool.{and_from, and_parts, eqb-true, eq-eqb}
use Rattle.std.specs.Cmp.{IsEquivalence, IsPartialEquivalence, partial_equiv_from_equiv}
use Rattle.std.specs.Str.{bytes_eq}
use Rattle.std.proofs.lemmas.Cmp.{nat_list_eq_equiv, on_equiv, and_equiv}
use Rattle.std.proofs.lemmas.Slice.Eq.{bytes_eq-Decides}
use Rattle.polars_arrays_flat.specs.Kind.{Kind, NullKind, BooleanKind, Int8Kind, Int16Kind}
use Rattle.polars_arrays_flat.specs.Kind.{Int32Kind, Int64Kind, Int128Kind, UInt8Kind, UInt16Kind}
use Rattle.polars_arrays_flat.specs.Kind.{UInt32Kind, UInt64Kind, UInt128Kind, BinaryKind}
use Rattle.polars_arrays_flat.specs.Kind.{LargeBinaryKind, Utf8Kind, LargeUtf8Kind, BinaryViewKind}
use Rattle.polars_arrays_flat.specs.Kind.{Utf8ViewKind, FixedSizeBinaryKind, ListKind}
use Rattle.polars_arrays_flat.specs.Kind.{LargeListKind, FixedSizeListKind, StructKind}
use Rattle.polars_arrays_flat.specs.Kind.{DictionaryKind, NamedKinds, no_kinds, more_kinds}
use Rattle.polars_arrays_flat.specs.KindEquality.{kind_eq, named_eq, dtype_eq, field_eq}
use Rattle.polars_arrays_flat.specs.DataType.{kind_of, IsSameField}
use Rattle.polars_arrays_flat.specs.declared.data_type.ArrowDataType.{ArrowDataType}
use Rattle.polars_arrays_flat.specs.declared.data_type.Field.{Field}

bytes_eq-refl : (a : List ℕ) → bytes_eq a a ≡ true
bytes_eq-refl a = (bytes_eq-Decides a a).1 refl

bytes_eq-same : (a b : List ℕ) → bytes_eq a b ≡ true → a ≡ b
bytes_eq-same a b h = (bytes_eq-Decides a b).0 h

-- the test is true of a kind and itself
mutual
  kind_eq-refl : (k : Kind) → kind_eq k k ≡ true
  kind_eq-refl NullKind = refl
  kind_eq-refl BooleanKind = refl
  kind_eq-refl Int8Kind = refl
  kind_eq-refl Int16Kind = refl
  kind_eq-refl Int32Kind = refl
  kind_eq-refl Int64Kind = refl
  kind_eq-refl Int128Kind = refl
  kind_eq-refl UInt8Kind = refl
  kind_eq-refl UInt16Kind = refl
  kind_eq-refl UInt32Kind = refl
  kind_eq-refl UInt64Kind = refl
  kind_eq-refl UInt128Kind = refl
  kind_eq-refl BinaryKind = refl
  kind_eq-refl LargeBinaryKind = refl
  kind_eq-refl Utf8Kind = refl
  kind_eq-refl LargeUtf8Kind = refl
  kind_eq-refl BinaryViewKind = refl
  kind_eq-refl Utf8ViewKind = refl
  kind_eq-refl (FixedSizeBinaryKind n) = eq-eqb n n refl
  kind_eq-refl (ListKind k) = kind_eq-refl k
  kind_eq-refl (LargeListKind k) = kind_eq-refl k
  kind_eq-refl (FixedSizeListKind k n) = and_from _ _ (eq-eqb n n refl) (kind_eq-refl k)
  kind_eq-refl (StructKind ks) = named_eq-refl ks
  kind_eq-refl (DictionaryKind j k) = and_from _ _ (kind_eq-refl j) (kind_eq-refl k)

  named_eq-refl : (ks : NamedKinds) → named_eq ks ks ≡ true
  named_eq-refl no_kinds = refl
  named_eq-refl (more_kinds a k ks) =
      and_from _ _ (bytes_eq-refl a) (and_from _ _ (kind_eq-refl k) (named_eq-refl ks))

-- kinds for which the test is true are equal
mutual
  kind_eq-same : (j k : Kind) → kind_eq j k ≡ true → j ≡ k
  kind_eq-same NullKind NullKind h = refl
  kind_eq-same BooleanKind BooleanKind h = refl
  kind_eq-same Int8Kind Int8Kind h = refl
  kind_eq-same Int16Kind Int16Kind h = refl
  kind_eq-same Int32Kind Int32Kind h = refl
  kind_eq-same Int64Kind Int64Kind h = refl
  kind_eq-same Int128Kind Int128Kind h = refl
  kind_eq-same UInt8Kind UInt8Kind h = refl
  kind_eq-same UInt16Kind UInt16Kind h = refl
  kind_eq-same UInt32Kind UInt32Kind h = refl
  kind_eq-same UInt64Kind UInt64Kind h = refl
  kind_eq-same UInt128Kind UInt128Kind h = refl
  kind_eq-same BinaryKind BinaryKind h = refl
  kind_eq-same LargeBinaryKind LargeBinaryKind h = refl
  kind_eq-same Utf8Kind Utf8Kind h = refl
  kind_eq-same LargeUtf8Kind LargeUtf8Kind h = refl
  kind_eq-same BinaryViewKind BinaryViewKind h = refl
  kind_eq-same Utf8ViewKind Utf8ViewKind h = refl
  kind_eq-same (FixedSizeBinaryKind m) (FixedSizeBinaryKind n) h =
      ap FixedSizeBinaryKind (eqb-true m n h)
  kind_eq-same (ListKind j) (ListKind k) h = ap ListKind (kind_eq-same j k h)
  kind_eq-same (LargeListKind j) (LargeListKind k) h = ap LargeListKind (kind_eq-same j k h)
  kind_eq-same (FixedSizeListKind j m) (FixedSizeListKind k n) h =
      let both = and_parts (nat_eq m n) (kind_eq j k) h in
      let widths : m ≡ n = eqb-true m n both.0 in
      let items : j ≡ k = kind_eq-same j k both.1 in
      cc
  kind_eq-same (StructKind js) (StructKind ks) h = ap StructKind (named_eq-same js ks h)
  kind_eq-same (DictionaryKind i j) (DictionaryKind k l) h =
      let both = and_parts (kind_eq i k) (kind_eq j l) h in
      let keys : i ≡ k = kind_eq-same i k both.0 in
      let entries : j ≡ l = kind_eq-same j l both.1 in
      cc
  kind_eq-same j k h = cc

  named_eq-same : (js ks : NamedKinds) → named_eq js ks ≡ true → js ≡ ks
  named_eq-same no_kinds no_kinds h = refl
  named_eq-same (more_kinds a j js) (more_kinds b k ks) h =
      let parts = and_parts (bytes_eq a b) (kind_eq j k && named_eq js ks) h in
      let others = and_parts (kind_eq j k) (named_eq js ks) parts.1 in
      let name : a ≡ b = bytes_eq-same a b parts.0 in
      let kind : j ≡ k = kind_eq-same j k others.0 in
      let rest : js ≡ ks = named_eq-same js ks others.1 in
      cc
  named_eq-same js ks h = cc

-- the test is true exactly of equal kinds
kind_eq-is : (j k : Kind) → IsTrue (kind_eq j k) ↔ (j ≡ k)
kind_eq-is j k = (kind_eq-same j k, λ e. rw e (kind_eq-refl k))

-- two tests of one proposition agree
tests_agree : (b c : Bool) (P : Type 0) → IsTrue b ↔ P → IsTrue c ↔ P → b ≡ c
tests_agree true true P h i = refl
tests_agree true false P h i = sym (i.1 (h.0 refl))
tests_agree false true P h i = h.1 (i.0 refl)
tests_agree false false P h i = refl

kind_eq-equiv : IsEquivalence kind_eq
kind_eq-equiv = record {
  refl = kind_eq-refl;
  symm = λ j k. tests_agree (kind_eq j k) (kind_eq k j) (j ≡ k) (kind_eq-is j k)
      (λ h. sym (kind_eq-same k j h), λ e. (kind_eq-is k j).1 (sym e));
  congr = λ i j k h. ap (λ first. kind_eq first k) (kind_eq-same i j h);
}

bytes_eq-equiv : IsEquivalence bytes_eq
bytes_eq-equiv = nat_list_eq_equiv

-- the laws that its trait requires of `==` of types
pub dtype_eq-laws : IsPartialEquivalence dtype_eq
dtype_eq-laws = partial_equiv_from_equiv (on_equiv kind_of kind_eq-equiv)

-- the laws that its trait requires of `==` of fields
pub field_eq-laws : IsPartialEquivalence field_eq
field_eq-laws =
    partial_equiv_from_equiv
    (and_equiv (on_equiv (λ f. string_bytes f.name) bytes_eq-equiv)
    (on_equiv (λ f. kind_of f.dtype) kind_eq-equiv))

-- `==` of types is true exactly of types of equal kinds
pub dtype_eq-is : (d e : ArrowDataType) → IsTrue (dtype_eq d e) ↔ (kind_of d ≡ kind_of e)
dtype_eq-is d e = kind_eq-is (kind_of d) (kind_of e)

-- `==` of fields is true exactly of fields with equal names and kinds
pub field_eq-is : (f g : Field) → IsTrue (field_eq f g) ↔ IsSameField f g
field_eq-is f g = (
  λ t.
      let both = and_parts (bytes_eq (string_bytes f.name) (string_bytes g.name))
      (kind_eq (kind_of f.dtype) (kind_of g.dtype)) t in
      record { name = bytes_eq-same _ _ both.0; kind = kind_eq-same _ _ both.1 },
  λ same. and_from _ _ ((bytes_eq-Decides _ _).1 same.name) ((kind_eq-is _ _).1 same.kind),
)

-- a test of whether two types are of equal kinds returns what `==` does
pub dtype_eq-tells : (b : Bool) (d e : ArrowDataType) → IsTrue b ↔ (kind_of d ≡ kind_of e) → b
    ≡ dtype_eq d e
dtype_eq-tells b d e h = tests_agree b (dtype_eq d e) _ h (dtype_eq-is d e)

-- a test of whether two fields have equal names and kinds returns what `==` does
pub field_eq-tells : (b : Bool) (f g : Field) → IsTrue b ↔ IsSameField f g → b ≡ field_eq f g
field_eq-tells b f g h = tests_agree b (field_eq f g) _ h (field_eq-is f g)
