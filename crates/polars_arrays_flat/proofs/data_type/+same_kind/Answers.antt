use Rattle.std.proofs.Common.{arith, refl, sym, ◌∙◌}
use Rattle.std.proofs.lemmas.Bool.{false≢true}
use Rattle.polars_arrays_flat.specs.DataTypeLaws.{kind_of-struct}
use Rattle.polars_arrays_flat.proofs.SameKinds.{never, struct_agrees, kinds_agree, kinds_count, fields_at}
use Rattle.polars_arrays_flat.proofs.data_type.+same_kind.Goals as goal

pub ArrowDataType::same_kind-returns-in-Struct-default :
    goal.ArrowDataType::same_kind-returns-in-Struct-default
ArrowDataType::same_kind-returns-in-Struct-default t c =
    rw (c.in-Struct-default.is-0, kind_of-struct) (rw c.deref-in-Struct-default.ensures.value at c.is_struct_of.ensures)

pub is_struct_of-returns-in-Struct : goal.is_struct_of-returns-in-Struct
is_struct_of-returns-in-Struct t c =
    rw c.in-Struct.is (struct_agrees _ _ _ (rw c.deref.ensures.value at c.same_fields.ensures))

pub same_fields-returns-then-left-right : goal.same_fields-returns-then-left-right
same_fields-returns-then-left-right t c =
    never _ (λ e. c.if-left-right.true (kinds_count _ _ e))

pub same_fields-returns-then-not-same_field : goal.same_fields-returns-then-not-same_field
same_fields-returns-then-not-same_field t c =
    never _ (λ e. false≢true (sym c.if-not-same_field.true ∙ c.same_field.ensures.1 (fields_at c.args.left.now c.args.right.now c.loop-i.i _ _ e (omega arith) c.index-left-i.is c.index-right-i.is)))

pub same_fields-returns : goal.same_fields-returns
same_fields-returns t c = (
  λ _. kinds_agree c.args.left.now c.args.right.now c.if-left-right.false (λ k d low. c.loop-i.invariant k d (omega arith)),
  λ _. refl,
)
