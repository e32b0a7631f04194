-- Kinds of cells.
use Rattle.std.proofs.Common.{◌≡◌, ◌<◌, ℕ, List, [], arith}
use Rattle.std.specs.List.{All}
use Rattle.schema_columns.specs.declared.kind.Kind.{Kind}
use Rattle.schema_columns.specs.declared.kind.Kind.TheVariants.{Empty, Truth, Whole, Number, Text}
use Rattle.schema_columns.specs.Kinds.{AreOf, IsNarrowest, IsTruth, IsWhole, width}
use Rattle.schema_values.specs.Numbers.{IsNumber}

pub empty_narrowest : (cells : List (List ℕ)) → cells ≡ [] → IsNarrowest cells Empty
empty_narrowest cells none = record { all = none; none_narrower = λ other low. absurd (omega (arith, low)) }

pub truth_narrowest : (cells : List (List ℕ)) → ¬ (cells ≡ []) → All IsTruth cells → IsNarrowest cells Truth
truth_narrowest cells some all = record { all = all; none_narrower = below }
  where
    below : (other : Kind) → width other < 1 → ¬ AreOf other cells
    below Empty low = some
    below Truth low = absurd (omega (arith, low))
    below Whole low = absurd (omega (arith, low))
    below Number low = absurd (omega (arith, low))
    below Text low = absurd (omega (arith, low))

pub whole_narrowest : (cells : List (List ℕ)) → ¬ (cells ≡ []) → ¬ All IsTruth cells → All IsWhole cells → IsNarrowest cells Whole
whole_narrowest cells some truth all = record { all = all; none_narrower = below }
  where
    below : (other : Kind) → width other < 2 → ¬ AreOf other cells
    below Empty low = some
    below Truth low = truth
    below Whole low = absurd (omega (arith, low))
    below Number low = absurd (omega (arith, low))
    below Text low = absurd (omega (arith, low))

pub number_narrowest : (cells : List (List ℕ)) → ¬ (cells ≡ []) → ¬ All IsTruth cells → ¬ All IsWhole cells → All IsNumber cells → IsNarrowest cells Number
number_narrowest cells some truth whole all = record { all = all; none_narrower = below }
  where
    below : (other : Kind) → width other < 3 → ¬ AreOf other cells
    below Empty low = some
    below Truth low = truth
    below Whole low = whole
    below Number low = absurd (omega (arith, low))
    below Text low = absurd (omega (arith, low))

pub text_narrowest : (cells : List (List ℕ)) → ¬ (cells ≡ []) → ¬ All IsTruth cells → ¬ All IsWhole cells → ¬ All IsNumber cells → IsNarrowest cells Text
text_narrowest cells some truth whole number = record { all = record {}; none_narrower = below }
  where
    below : (other : Kind) → width other < 4 → ¬ AreOf other cells
    below Empty low = some
    below Truth low = truth
    below Whole low = whole
    below Number low = number
    below Text low = absurd (omega (arith, low))
