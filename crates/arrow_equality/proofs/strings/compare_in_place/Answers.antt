use Rattle.std.proofs.Common.{◌≡◌, ◌∙◌, true, false, ap, sym}
use Rattle.std.specs.Prelude.{Some}
use Rattle.polars_arrays_flat.specs.Kind.{LargeBinaryKind, LargeUtf8Kind}
use Rattle.polars_arrays_nested.specs.declared.any_array.AnyArray as of
use Rattle.arrow_arrays.specs.Columns.{far_ends, near_ends}
use Rattle.arrow_parts.specs.Kinds.{kind_number}
use Rattle.arrow_parts.specs.declared.part.PartKind.{PartKind}
use Rattle.arrow_parts.specs.declared.part.PartKind.TheVariants as kind
use Rattle.arrow_equality.proofs.StringColumns.{found-compared, found-good, found-refused, string-Binary, string-LargeBinary, string-LargeUtf8, string-Utf8}
use Rattle.arrow_equality.proofs.ViewColumns.{compared-views, good-views, refused-views, view-Binary, view-Utf8}
use Rattle.arrow_equality.proofs.strings.compare_in_place.Goals as goal

pub returns-in-Some-Binary-clause-compared : goal.returns-in-Some-Binary-clause-compared
returns-in-Some-Binary-clause-compared c =
    let left : kind_number c.args.left.now.kind ≡ Some kind.Binary = sym c.of.ensures ∙ c.in-Some-Binary.is ∙ ap (λ (k : PartKind). Some k) c.in-Some-Binary.field-0-is in
    let right : kind_number c.args.right.now.kind ≡ Some kind.Binary = ap kind_number (sym c.if-left-right.false) ∙ left in
    found-compared kind.Binary LargeBinaryKind near_ends false (λ a. of.LargeBinary a) string-Binary c.args.left.now c.args.right.now c.compare_strings.result left right c.compare_strings.ensures.compared

pub returns-in-Some-Binary-clause-good : goal.returns-in-Some-Binary-clause-good
returns-in-Some-Binary-clause-good c =
    let left : kind_number c.args.left.now.kind ≡ Some kind.Binary = sym c.of.ensures ∙ c.in-Some-Binary.is ∙ ap (λ (k : PartKind). Some k) c.in-Some-Binary.field-0-is in
    let right : kind_number c.args.right.now.kind ≡ Some kind.Binary = ap kind_number (sym c.if-left-right.false) ∙ left in
    found-good kind.Binary LargeBinaryKind near_ends false (λ a. of.LargeBinary a) string-Binary c.args.left.now c.args.right.now c.compare_strings.result left right c.compare_strings.ensures.compared

pub returns-in-Some-Binary-clause-refused : goal.returns-in-Some-Binary-clause-refused
returns-in-Some-Binary-clause-refused c =
    let left : kind_number c.args.left.now.kind ≡ Some kind.Binary = sym c.of.ensures ∙ c.in-Some-Binary.is ∙ ap (λ (k : PartKind). Some k) c.in-Some-Binary.field-0-is in
    let right : kind_number c.args.right.now.kind ≡ Some kind.Binary = ap kind_number (sym c.if-left-right.false) ∙ left in
    found-refused kind.Binary LargeBinaryKind near_ends false (λ a. of.LargeBinary a) string-Binary c.args.left.now c.args.right.now c.compare_strings.result left right c.compare_strings.ensures.refused

pub returns-in-Some-LargeBinary-clause-compared : goal.returns-in-Some-LargeBinary-clause-compared
returns-in-Some-LargeBinary-clause-compared c =
    let left : kind_number c.args.left.now.kind ≡ Some kind.LargeBinary = sym c.of.ensures ∙ c.in-Some-LargeBinary.is ∙ ap (λ (k : PartKind). Some k) c.in-Some-LargeBinary.field-0-is in
    let right : kind_number c.args.right.now.kind ≡ Some kind.LargeBinary = ap kind_number (sym c.if-left-right.false) ∙ left in
    found-compared kind.LargeBinary LargeBinaryKind far_ends false (λ a. of.LargeBinary a) string-LargeBinary c.args.left.now c.args.right.now c.compare_strings-in-Some-LargeBinary.result left right c.compare_strings-in-Some-LargeBinary.ensures.compared

pub returns-in-Some-LargeBinary-clause-good : goal.returns-in-Some-LargeBinary-clause-good
returns-in-Some-LargeBinary-clause-good c =
    let left : kind_number c.args.left.now.kind ≡ Some kind.LargeBinary = sym c.of.ensures ∙ c.in-Some-LargeBinary.is ∙ ap (λ (k : PartKind). Some k) c.in-Some-LargeBinary.field-0-is in
    let right : kind_number c.args.right.now.kind ≡ Some kind.LargeBinary = ap kind_number (sym c.if-left-right.false) ∙ left in
    found-good kind.LargeBinary LargeBinaryKind far_ends false (λ a. of.LargeBinary a) string-LargeBinary c.args.left.now c.args.right.now c.compare_strings-in-Some-LargeBinary.result left right c.compare_strings-in-Some-LargeBinary.ensures.compared

pub returns-in-Some-LargeBinary-clause-refused : goal.returns-in-Some-LargeBinary-clause-refused
returns-in-Some-LargeBinary-clause-refused c =
    let left : kind_number c.args.left.now.kind ≡ Some kind.LargeBinary = sym c.of.ensures ∙ c.in-Some-LargeBinary.is ∙ ap (λ (k : PartKind). Some k) c.in-Some-LargeBinary.field-0-is in
    let right : kind_number c.args.right.now.kind ≡ Some kind.LargeBinary = ap kind_number (sym c.if-left-right.false) ∙ left in
    found-refused kind.LargeBinary LargeBinaryKind far_ends false (λ a. of.LargeBinary a) string-LargeBinary c.args.left.now c.args.right.now c.compare_strings-in-Some-LargeBinary.result left right c.compare_strings-in-Some-LargeBinary.ensures.refused

pub returns-in-Some-Utf8-clause-compared : goal.returns-in-Some-Utf8-clause-compared
returns-in-Some-Utf8-clause-compared c =
    let left : kind_number c.args.left.now.kind ≡ Some kind.Utf8 = sym c.of.ensures ∙ c.in-Some-Utf8.is ∙ ap (λ (k : PartKind). Some k) c.in-Some-Utf8.field-0-is in
    let right : kind_number c.args.right.now.kind ≡ Some kind.Utf8 = ap kind_number (sym c.if-left-right.false) ∙ left in
    found-compared kind.Utf8 LargeUtf8Kind near_ends true (λ a. of.LargeUtf8 a) string-Utf8 c.args.left.now c.args.right.now c.compare_strings-in-Some-Utf8.result left right c.compare_strings-in-Some-Utf8.ensures.compared

pub returns-in-Some-Utf8-clause-good : goal.returns-in-Some-Utf8-clause-good
returns-in-Some-Utf8-clause-good c =
    let left : kind_number c.args.left.now.kind ≡ Some kind.Utf8 = sym c.of.ensures ∙ c.in-Some-Utf8.is ∙ ap (λ (k : PartKind). Some k) c.in-Some-Utf8.field-0-is in
    let right : kind_number c.args.right.now.kind ≡ Some kind.Utf8 = ap kind_number (sym c.if-left-right.false) ∙ left in
    found-good kind.Utf8 LargeUtf8Kind near_ends true (λ a. of.LargeUtf8 a) string-Utf8 c.args.left.now c.args.right.now c.compare_strings-in-Some-Utf8.result left right c.compare_strings-in-Some-Utf8.ensures.compared

pub returns-in-Some-Utf8-clause-refused : goal.returns-in-Some-Utf8-clause-refused
returns-in-Some-Utf8-clause-refused c =
    let left : kind_number c.args.left.now.kind ≡ Some kind.Utf8 = sym c.of.ensures ∙ c.in-Some-Utf8.is ∙ ap (λ (k : PartKind). Some k) c.in-Some-Utf8.field-0-is in
    let right : kind_number c.args.right.now.kind ≡ Some kind.Utf8 = ap kind_number (sym c.if-left-right.false) ∙ left in
    found-refused kind.Utf8 LargeUtf8Kind near_ends true (λ a. of.LargeUtf8 a) string-Utf8 c.args.left.now c.args.right.now c.compare_strings-in-Some-Utf8.result left right c.compare_strings-in-Some-Utf8.ensures.refused

pub returns-in-Some-LargeUtf8-clause-compared : goal.returns-in-Some-LargeUtf8-clause-compared
returns-in-Some-LargeUtf8-clause-compared c =
    let left : kind_number c.args.left.now.kind ≡ Some kind.LargeUtf8 = sym c.of.ensures ∙ c.in-Some-LargeUtf8.is ∙ ap (λ (k : PartKind). Some k) c.in-Some-LargeUtf8.field-0-is in
    let right : kind_number c.args.right.now.kind ≡ Some kind.LargeUtf8 = ap kind_number (sym c.if-left-right.false) ∙ left in
    found-compared kind.LargeUtf8 LargeUtf8Kind far_ends true (λ a. of.LargeUtf8 a) string-LargeUtf8 c.args.left.now c.args.right.now c.compare_strings-in-Some-LargeUtf8.result left right c.compare_strings-in-Some-LargeUtf8.ensures.compared

pub returns-in-Some-LargeUtf8-clause-good : goal.returns-in-Some-LargeUtf8-clause-good
returns-in-Some-LargeUtf8-clause-good c =
    let left : kind_number c.args.left.now.kind ≡ Some kind.LargeUtf8 = sym c.of.ensures ∙ c.in-Some-LargeUtf8.is ∙ ap (λ (k : PartKind). Some k) c.in-Some-LargeUtf8.field-0-is in
    let right : kind_number c.args.right.now.kind ≡ Some kind.LargeUtf8 = ap kind_number (sym c.if-left-right.false) ∙ left in
    found-good kind.LargeUtf8 LargeUtf8Kind far_ends true (λ a. of.LargeUtf8 a) string-LargeUtf8 c.args.left.now c.args.right.now c.compare_strings-in-Some-LargeUtf8.result left right c.compare_strings-in-Some-LargeUtf8.ensures.compared

pub returns-in-Some-LargeUtf8-clause-refused : goal.returns-in-Some-LargeUtf8-clause-refused
returns-in-Some-LargeUtf8-clause-refused c =
    let left : kind_number c.args.left.now.kind ≡ Some kind.LargeUtf8 = sym c.of.ensures ∙ c.in-Some-LargeUtf8.is ∙ ap (λ (k : PartKind). Some k) c.in-Some-LargeUtf8.field-0-is in
    let right : kind_number c.args.right.now.kind ≡ Some kind.LargeUtf8 = ap kind_number (sym c.if-left-right.false) ∙ left in
    found-refused kind.LargeUtf8 LargeUtf8Kind far_ends true (λ a. of.LargeUtf8 a) string-LargeUtf8 c.args.left.now c.args.right.now c.compare_strings-in-Some-LargeUtf8.result left right c.compare_strings-in-Some-LargeUtf8.ensures.refused

pub returns-in-Some-BinaryView-clause-compared : goal.returns-in-Some-BinaryView-clause-compared
returns-in-Some-BinaryView-clause-compared c =
    let left : kind_number c.args.left.now.kind ≡ Some kind.BinaryView = sym c.of.ensures ∙ c.in-Some-BinaryView.is ∙ ap (λ (k : PartKind). Some k) c.in-Some-BinaryView.field-0-is in
    let right : kind_number c.args.right.now.kind ≡ Some kind.BinaryView = ap kind_number (sym c.if-left-right.false) ∙ left in
    compared-views kind.BinaryView kind.LargeBinary LargeBinaryKind false false (λ a. of.LargeBinary a) view-Binary string-LargeBinary c.args.left.now c.args.right.now c.compare_views.result left right c.compare_views.ensures.compared

pub returns-in-Some-BinaryView-clause-good : goal.returns-in-Some-BinaryView-clause-good
returns-in-Some-BinaryView-clause-good c =
    let left : kind_number c.args.left.now.kind ≡ Some kind.BinaryView = sym c.of.ensures ∙ c.in-Some-BinaryView.is ∙ ap (λ (k : PartKind). Some k) c.in-Some-BinaryView.field-0-is in
    let right : kind_number c.args.right.now.kind ≡ Some kind.BinaryView = ap kind_number (sym c.if-left-right.false) ∙ left in
    good-views kind.BinaryView kind.LargeBinary LargeBinaryKind false false (λ a. of.LargeBinary a) view-Binary string-LargeBinary c.args.left.now c.args.right.now c.compare_views.result left right c.compare_views.ensures.compared

pub returns-in-Some-BinaryView-clause-refused : goal.returns-in-Some-BinaryView-clause-refused
returns-in-Some-BinaryView-clause-refused c =
    let left : kind_number c.args.left.now.kind ≡ Some kind.BinaryView = sym c.of.ensures ∙ c.in-Some-BinaryView.is ∙ ap (λ (k : PartKind). Some k) c.in-Some-BinaryView.field-0-is in
    let right : kind_number c.args.right.now.kind ≡ Some kind.BinaryView = ap kind_number (sym c.if-left-right.false) ∙ left in
    refused-views kind.BinaryView kind.LargeBinary LargeBinaryKind false false (λ a. of.LargeBinary a) view-Binary string-LargeBinary c.args.left.now c.args.right.now c.compare_views.result left right c.compare_views.ensures.refused

pub returns-in-Some-Utf8View-clause-compared : goal.returns-in-Some-Utf8View-clause-compared
returns-in-Some-Utf8View-clause-compared c =
    let left : kind_number c.args.left.now.kind ≡ Some kind.Utf8View = sym c.of.ensures ∙ c.in-Some-Utf8View.is ∙ ap (λ (k : PartKind). Some k) c.in-Some-Utf8View.field-0-is in
    let right : kind_number c.args.right.now.kind ≡ Some kind.Utf8View = ap kind_number (sym c.if-left-right.false) ∙ left in
    compared-views kind.Utf8View kind.LargeUtf8 LargeUtf8Kind true true (λ a. of.LargeUtf8 a) view-Utf8 string-LargeUtf8 c.args.left.now c.args.right.now c.compare_views-in-Some-Utf8View.result left right c.compare_views-in-Some-Utf8View.ensures.compared

pub returns-in-Some-Utf8View-clause-good : goal.returns-in-Some-Utf8View-clause-good
returns-in-Some-Utf8View-clause-good c =
    let left : kind_number c.args.left.now.kind ≡ Some kind.Utf8View = sym c.of.ensures ∙ c.in-Some-Utf8View.is ∙ ap (λ (k : PartKind). Some k) c.in-Some-Utf8View.field-0-is in
    let right : kind_number c.args.right.now.kind ≡ Some kind.Utf8View = ap kind_number (sym c.if-left-right.false) ∙ left in
    good-views kind.Utf8View kind.LargeUtf8 LargeUtf8Kind true true (λ a. of.LargeUtf8 a) view-Utf8 string-LargeUtf8 c.args.left.now c.args.right.now c.compare_views-in-Some-Utf8View.result left right c.compare_views-in-Some-Utf8View.ensures.compared

pub returns-in-Some-Utf8View-clause-refused : goal.returns-in-Some-Utf8View-clause-refused
returns-in-Some-Utf8View-clause-refused c =
    let left : kind_number c.args.left.now.kind ≡ Some kind.Utf8View = sym c.of.ensures ∙ c.in-Some-Utf8View.is ∙ ap (λ (k : PartKind). Some k) c.in-Some-Utf8View.field-0-is in
    let right : kind_number c.args.right.now.kind ≡ Some kind.Utf8View = ap kind_number (sym c.if-left-right.false) ∙ left in
    refused-views kind.Utf8View kind.LargeUtf8 LargeUtf8Kind true true (λ a. of.LargeUtf8 a) view-Utf8 string-LargeUtf8 c.args.left.now c.args.right.now c.compare_views-in-Some-Utf8View.result left right c.compare_views-in-Some-Utf8View.ensures.refused
