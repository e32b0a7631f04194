use Rattle.std.proofs.Common.{◌≡◌, ◌∙◌, ℕ, ℤ, ap, pos}
use Rattle.std.specs.Prelude.{Some}
use Rattle.polars_arrays_flat.specs.Kind.{Int8Kind, Int16Kind, Int32Kind, Int64Kind, UInt8Kind, UInt16Kind, UInt32Kind, UInt64Kind}
use Rattle.polars_arrays_nested.specs.declared.any_array.AnyArray as of
use Rattle.arrow_parts.specs.Kinds.{kind_number}
use Rattle.arrow_parts.specs.declared.part.PartKind.{PartKind}
use Rattle.arrow_parts.specs.declared.part.PartKind.TheVariants as kind
use Rattle.arrow_equality.proofs.NumberColumns.{compared-numbers, good-numbers, refused-numbers, number-Int8, number-Int16, number-Int32, number-Int64, number-UInt8, number-UInt16, number-UInt32, number-UInt64}
use Rattle.arrow_equality.proofs.numbers.compare_numbers_in_place.Goals as goal

pub returns-in-Int8-clause-compared : goal.returns-in-Int8-clause-compared
returns-in-Int8-clause-compared c =
    let left : kind_number c.args.left.now.kind ≡ Some kind.Int8 = c.requires.left ∙ ap (λ (k : PartKind). Some k) c.in-Int8.is in
    let right : kind_number c.args.right.now.kind ≡ Some kind.Int8 = c.requires.right ∙ ap (λ (k : PartKind). Some k) c.in-Int8.is in
    compared-numbers ℤ kind.Int8 Int8Kind (λ x. x) (λ p. p.i8s.now) (λ a. of.Int8 a) number-Int8 c.args.left.now c.args.right.now c.compare_numbers.result left right c.compare_numbers.ensures.compared

pub returns-in-Int8-clause-good : goal.returns-in-Int8-clause-good
returns-in-Int8-clause-good c =
    let left : kind_number c.args.left.now.kind ≡ Some kind.Int8 = c.requires.left ∙ ap (λ (k : PartKind). Some k) c.in-Int8.is in
    let right : kind_number c.args.right.now.kind ≡ Some kind.Int8 = c.requires.right ∙ ap (λ (k : PartKind). Some k) c.in-Int8.is in
    good-numbers ℤ kind.Int8 Int8Kind (λ x. x) (λ p. p.i8s.now) (λ a. of.Int8 a) number-Int8 c.args.left.now c.args.right.now c.compare_numbers.result left right c.compare_numbers.ensures.compared

pub returns-in-Int8-clause-refused : goal.returns-in-Int8-clause-refused
returns-in-Int8-clause-refused c =
    let left : kind_number c.args.left.now.kind ≡ Some kind.Int8 = c.requires.left ∙ ap (λ (k : PartKind). Some k) c.in-Int8.is in
    let right : kind_number c.args.right.now.kind ≡ Some kind.Int8 = c.requires.right ∙ ap (λ (k : PartKind). Some k) c.in-Int8.is in
    refused-numbers ℤ kind.Int8 Int8Kind (λ x. x) (λ p. p.i8s.now) (λ a. of.Int8 a) number-Int8 c.args.left.now c.args.right.now c.compare_numbers.result left right c.compare_numbers.ensures.refused

pub returns-in-Int16-clause-compared : goal.returns-in-Int16-clause-compared
returns-in-Int16-clause-compared c =
    let left : kind_number c.args.left.now.kind ≡ Some kind.Int16 = c.requires.left ∙ ap (λ (k : PartKind). Some k) c.in-Int16.is in
    let right : kind_number c.args.right.now.kind ≡ Some kind.Int16 = c.requires.right ∙ ap (λ (k : PartKind). Some k) c.in-Int16.is in
    compared-numbers ℤ kind.Int16 Int16Kind (λ x. x) (λ p. p.i16s.now) (λ a. of.Int16 a) number-Int16 c.args.left.now c.args.right.now c.compare_numbers-in-Int16.result left right c.compare_numbers-in-Int16.ensures.compared

pub returns-in-Int16-clause-good : goal.returns-in-Int16-clause-good
returns-in-Int16-clause-good c =
    let left : kind_number c.args.left.now.kind ≡ Some kind.Int16 = c.requires.left ∙ ap (λ (k : PartKind). Some k) c.in-Int16.is in
    let right : kind_number c.args.right.now.kind ≡ Some kind.Int16 = c.requires.right ∙ ap (λ (k : PartKind). Some k) c.in-Int16.is in
    good-numbers ℤ kind.Int16 Int16Kind (λ x. x) (λ p. p.i16s.now) (λ a. of.Int16 a) number-Int16 c.args.left.now c.args.right.now c.compare_numbers-in-Int16.result left right c.compare_numbers-in-Int16.ensures.compared

pub returns-in-Int16-clause-refused : goal.returns-in-Int16-clause-refused
returns-in-Int16-clause-refused c =
    let left : kind_number c.args.left.now.kind ≡ Some kind.Int16 = c.requires.left ∙ ap (λ (k : PartKind). Some k) c.in-Int16.is in
    let right : kind_number c.args.right.now.kind ≡ Some kind.Int16 = c.requires.right ∙ ap (λ (k : PartKind). Some k) c.in-Int16.is in
    refused-numbers ℤ kind.Int16 Int16Kind (λ x. x) (λ p. p.i16s.now) (λ a. of.Int16 a) number-Int16 c.args.left.now c.args.right.now c.compare_numbers-in-Int16.result left right c.compare_numbers-in-Int16.ensures.refused

pub returns-in-Int32-clause-compared : goal.returns-in-Int32-clause-compared
returns-in-Int32-clause-compared c =
    let left : kind_number c.args.left.now.kind ≡ Some kind.Int32 = c.requires.left ∙ ap (λ (k : PartKind). Some k) c.in-Int32.is in
    let right : kind_number c.args.right.now.kind ≡ Some kind.Int32 = c.requires.right ∙ ap (λ (k : PartKind). Some k) c.in-Int32.is in
    compared-numbers ℤ kind.Int32 Int32Kind (λ x. x) (λ p. p.i32s.now) (λ a. of.Int32 a) number-Int32 c.args.left.now c.args.right.now c.compare_numbers-in-Int32.result left right c.compare_numbers-in-Int32.ensures.compared

pub returns-in-Int32-clause-good : goal.returns-in-Int32-clause-good
returns-in-Int32-clause-good c =
    let left : kind_number c.args.left.now.kind ≡ Some kind.Int32 = c.requires.left ∙ ap (λ (k : PartKind). Some k) c.in-Int32.is in
    let right : kind_number c.args.right.now.kind ≡ Some kind.Int32 = c.requires.right ∙ ap (λ (k : PartKind). Some k) c.in-Int32.is in
    good-numbers ℤ kind.Int32 Int32Kind (λ x. x) (λ p. p.i32s.now) (λ a. of.Int32 a) number-Int32 c.args.left.now c.args.right.now c.compare_numbers-in-Int32.result left right c.compare_numbers-in-Int32.ensures.compared

pub returns-in-Int32-clause-refused : goal.returns-in-Int32-clause-refused
returns-in-Int32-clause-refused c =
    let left : kind_number c.args.left.now.kind ≡ Some kind.Int32 = c.requires.left ∙ ap (λ (k : PartKind). Some k) c.in-Int32.is in
    let right : kind_number c.args.right.now.kind ≡ Some kind.Int32 = c.requires.right ∙ ap (λ (k : PartKind). Some k) c.in-Int32.is in
    refused-numbers ℤ kind.Int32 Int32Kind (λ x. x) (λ p. p.i32s.now) (λ a. of.Int32 a) number-Int32 c.args.left.now c.args.right.now c.compare_numbers-in-Int32.result left right c.compare_numbers-in-Int32.ensures.refused

pub returns-in-Int64-clause-compared : goal.returns-in-Int64-clause-compared
returns-in-Int64-clause-compared c =
    let left : kind_number c.args.left.now.kind ≡ Some kind.Int64 = c.requires.left ∙ ap (λ (k : PartKind). Some k) c.in-Int64.is in
    let right : kind_number c.args.right.now.kind ≡ Some kind.Int64 = c.requires.right ∙ ap (λ (k : PartKind). Some k) c.in-Int64.is in
    compared-numbers ℤ kind.Int64 Int64Kind (λ x. x) (λ p. p.i64s.now) (λ a. of.Int64 a) number-Int64 c.args.left.now c.args.right.now c.compare_numbers-in-Int64.result left right c.compare_numbers-in-Int64.ensures.compared

pub returns-in-Int64-clause-good : goal.returns-in-Int64-clause-good
returns-in-Int64-clause-good c =
    let left : kind_number c.args.left.now.kind ≡ Some kind.Int64 = c.requires.left ∙ ap (λ (k : PartKind). Some k) c.in-Int64.is in
    let right : kind_number c.args.right.now.kind ≡ Some kind.Int64 = c.requires.right ∙ ap (λ (k : PartKind). Some k) c.in-Int64.is in
    good-numbers ℤ kind.Int64 Int64Kind (λ x. x) (λ p. p.i64s.now) (λ a. of.Int64 a) number-Int64 c.args.left.now c.args.right.now c.compare_numbers-in-Int64.result left right c.compare_numbers-in-Int64.ensures.compared

pub returns-in-Int64-clause-refused : goal.returns-in-Int64-clause-refused
returns-in-Int64-clause-refused c =
    let left : kind_number c.args.left.now.kind ≡ Some kind.Int64 = c.requires.left ∙ ap (λ (k : PartKind). Some k) c.in-Int64.is in
    let right : kind_number c.args.right.now.kind ≡ Some kind.Int64 = c.requires.right ∙ ap (λ (k : PartKind). Some k) c.in-Int64.is in
    refused-numbers ℤ kind.Int64 Int64Kind (λ x. x) (λ p. p.i64s.now) (λ a. of.Int64 a) number-Int64 c.args.left.now c.args.right.now c.compare_numbers-in-Int64.result left right c.compare_numbers-in-Int64.ensures.refused

pub returns-in-UInt8-clause-compared : goal.returns-in-UInt8-clause-compared
returns-in-UInt8-clause-compared c =
    let left : kind_number c.args.left.now.kind ≡ Some kind.UInt8 = c.requires.left ∙ ap (λ (k : PartKind). Some k) c.in-UInt8.is in
    let right : kind_number c.args.right.now.kind ≡ Some kind.UInt8 = c.requires.right ∙ ap (λ (k : PartKind). Some k) c.in-UInt8.is in
    compared-numbers ℕ kind.UInt8 UInt8Kind (λ x. pos x) (λ p. p.u8s.now) (λ a. of.UInt8 a) number-UInt8 c.args.left.now c.args.right.now c.compare_numbers-in-UInt8.result left right c.compare_numbers-in-UInt8.ensures.compared

pub returns-in-UInt8-clause-good : goal.returns-in-UInt8-clause-good
returns-in-UInt8-clause-good c =
    let left : kind_number c.args.left.now.kind ≡ Some kind.UInt8 = c.requires.left ∙ ap (λ (k : PartKind). Some k) c.in-UInt8.is in
    let right : kind_number c.args.right.now.kind ≡ Some kind.UInt8 = c.requires.right ∙ ap (λ (k : PartKind). Some k) c.in-UInt8.is in
    good-numbers ℕ kind.UInt8 UInt8Kind (λ x. pos x) (λ p. p.u8s.now) (λ a. of.UInt8 a) number-UInt8 c.args.left.now c.args.right.now c.compare_numbers-in-UInt8.result left right c.compare_numbers-in-UInt8.ensures.compared

pub returns-in-UInt8-clause-refused : goal.returns-in-UInt8-clause-refused
returns-in-UInt8-clause-refused c =
    let left : kind_number c.args.left.now.kind ≡ Some kind.UInt8 = c.requires.left ∙ ap (λ (k : PartKind). Some k) c.in-UInt8.is in
    let right : kind_number c.args.right.now.kind ≡ Some kind.UInt8 = c.requires.right ∙ ap (λ (k : PartKind). Some k) c.in-UInt8.is in
    refused-numbers ℕ kind.UInt8 UInt8Kind (λ x. pos x) (λ p. p.u8s.now) (λ a. of.UInt8 a) number-UInt8 c.args.left.now c.args.right.now c.compare_numbers-in-UInt8.result left right c.compare_numbers-in-UInt8.ensures.refused

pub returns-in-UInt16-clause-compared : goal.returns-in-UInt16-clause-compared
returns-in-UInt16-clause-compared c =
    let left : kind_number c.args.left.now.kind ≡ Some kind.UInt16 = c.requires.left ∙ ap (λ (k : PartKind). Some k) c.in-UInt16.is in
    let right : kind_number c.args.right.now.kind ≡ Some kind.UInt16 = c.requires.right ∙ ap (λ (k : PartKind). Some k) c.in-UInt16.is in
    compared-numbers ℕ kind.UInt16 UInt16Kind (λ x. pos x) (λ p. p.u16s.now) (λ a. of.UInt16 a) number-UInt16 c.args.left.now c.args.right.now c.compare_numbers-in-UInt16.result left right c.compare_numbers-in-UInt16.ensures.compared

pub returns-in-UInt16-clause-good : goal.returns-in-UInt16-clause-good
returns-in-UInt16-clause-good c =
    let left : kind_number c.args.left.now.kind ≡ Some kind.UInt16 = c.requires.left ∙ ap (λ (k : PartKind). Some k) c.in-UInt16.is in
    let right : kind_number c.args.right.now.kind ≡ Some kind.UInt16 = c.requires.right ∙ ap (λ (k : PartKind). Some k) c.in-UInt16.is in
    good-numbers ℕ kind.UInt16 UInt16Kind (λ x. pos x) (λ p. p.u16s.now) (λ a. of.UInt16 a) number-UInt16 c.args.left.now c.args.right.now c.compare_numbers-in-UInt16.result left right c.compare_numbers-in-UInt16.ensures.compared

pub returns-in-UInt16-clause-refused : goal.returns-in-UInt16-clause-refused
returns-in-UInt16-clause-refused c =
    let left : kind_number c.args.left.now.kind ≡ Some kind.UInt16 = c.requires.left ∙ ap (λ (k : PartKind). Some k) c.in-UInt16.is in
    let right : kind_number c.args.right.now.kind ≡ Some kind.UInt16 = c.requires.right ∙ ap (λ (k : PartKind). Some k) c.in-UInt16.is in
    refused-numbers ℕ kind.UInt16 UInt16Kind (λ x. pos x) (λ p. p.u16s.now) (λ a. of.UInt16 a) number-UInt16 c.args.left.now c.args.right.now c.compare_numbers-in-UInt16.result left right c.compare_numbers-in-UInt16.ensures.refused

pub returns-in-UInt32-clause-compared : goal.returns-in-UInt32-clause-compared
returns-in-UInt32-clause-compared c =
    let left : kind_number c.args.left.now.kind ≡ Some kind.UInt32 = c.requires.left ∙ ap (λ (k : PartKind). Some k) c.in-UInt32.is in
    let right : kind_number c.args.right.now.kind ≡ Some kind.UInt32 = c.requires.right ∙ ap (λ (k : PartKind). Some k) c.in-UInt32.is in
    compared-numbers ℕ kind.UInt32 UInt32Kind (λ x. pos x) (λ p. p.u32s.now) (λ a. of.UInt32 a) number-UInt32 c.args.left.now c.args.right.now c.compare_numbers-in-UInt32.result left right c.compare_numbers-in-UInt32.ensures.compared

pub returns-in-UInt32-clause-good : goal.returns-in-UInt32-clause-good
returns-in-UInt32-clause-good c =
    let left : kind_number c.args.left.now.kind ≡ Some kind.UInt32 = c.requires.left ∙ ap (λ (k : PartKind). Some k) c.in-UInt32.is in
    let right : kind_number c.args.right.now.kind ≡ Some kind.UInt32 = c.requires.right ∙ ap (λ (k : PartKind). Some k) c.in-UInt32.is in
    good-numbers ℕ kind.UInt32 UInt32Kind (λ x. pos x) (λ p. p.u32s.now) (λ a. of.UInt32 a) number-UInt32 c.args.left.now c.args.right.now c.compare_numbers-in-UInt32.result left right c.compare_numbers-in-UInt32.ensures.compared

pub returns-in-UInt32-clause-refused : goal.returns-in-UInt32-clause-refused
returns-in-UInt32-clause-refused c =
    let left : kind_number c.args.left.now.kind ≡ Some kind.UInt32 = c.requires.left ∙ ap (λ (k : PartKind). Some k) c.in-UInt32.is in
    let right : kind_number c.args.right.now.kind ≡ Some kind.UInt32 = c.requires.right ∙ ap (λ (k : PartKind). Some k) c.in-UInt32.is in
    refused-numbers ℕ kind.UInt32 UInt32Kind (λ x. pos x) (λ p. p.u32s.now) (λ a. of.UInt32 a) number-UInt32 c.args.left.now c.args.right.now c.compare_numbers-in-UInt32.result left right c.compare_numbers-in-UInt32.ensures.refused

pub returns-in-UInt64-clause-compared : goal.returns-in-UInt64-clause-compared
returns-in-UInt64-clause-compared c =
    let left : kind_number c.args.left.now.kind ≡ Some kind.UInt64 = c.requires.left ∙ ap (λ (k : PartKind). Some k) c.in-UInt64.is in
    let right : kind_number c.args.right.now.kind ≡ Some kind.UInt64 = c.requires.right ∙ ap (λ (k : PartKind). Some k) c.in-UInt64.is in
    compared-numbers ℕ kind.UInt64 UInt64Kind (λ x. pos x) (λ p. p.u64s.now) (λ a. of.UInt64 a) number-UInt64 c.args.left.now c.args.right.now c.compare_numbers-in-UInt64.result left right c.compare_numbers-in-UInt64.ensures.compared

pub returns-in-UInt64-clause-good : goal.returns-in-UInt64-clause-good
returns-in-UInt64-clause-good c =
    let left : kind_number c.args.left.now.kind ≡ Some kind.UInt64 = c.requires.left ∙ ap (λ (k : PartKind). Some k) c.in-UInt64.is in
    let right : kind_number c.args.right.now.kind ≡ Some kind.UInt64 = c.requires.right ∙ ap (λ (k : PartKind). Some k) c.in-UInt64.is in
    good-numbers ℕ kind.UInt64 UInt64Kind (λ x. pos x) (λ p. p.u64s.now) (λ a. of.UInt64 a) number-UInt64 c.args.left.now c.args.right.now c.compare_numbers-in-UInt64.result left right c.compare_numbers-in-UInt64.ensures.compared

pub returns-in-UInt64-clause-refused : goal.returns-in-UInt64-clause-refused
returns-in-UInt64-clause-refused c =
    let left : kind_number c.args.left.now.kind ≡ Some kind.UInt64 = c.requires.left ∙ ap (λ (k : PartKind). Some k) c.in-UInt64.is in
    let right : kind_number c.args.right.now.kind ≡ Some kind.UInt64 = c.requires.right ∙ ap (λ (k : PartKind). Some k) c.in-UInt64.is in
    refused-numbers ℕ kind.UInt64 UInt64Kind (λ x. pos x) (λ p. p.u64s.now) (λ a. of.UInt64 a) number-UInt64 c.args.left.now c.args.right.now c.compare_numbers-in-UInt64.result left right c.compare_numbers-in-UInt64.ensures.refused
