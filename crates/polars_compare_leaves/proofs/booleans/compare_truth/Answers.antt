use Rattle.std.proofs.Common.{◌≡◌, ◌∙◌, Bool, true, false, not, length, map, replicate, ap}
use Rattle.std.proofs.lemmas.Result.{MatchResult-weaker}
use Rattle.std.proofs.lemmas.List.{length-map}
use Rattle.polars_arrays_flat.specs.Row.{Row, Truth}
use Rattle.polars_compare_leaves.proofs.Truths.{all-pass, true-passes, false-passes, none-passes}
use Rattle.polars_compare_leaves.proofs.booleans.compare_truth.Goals as goal

pub returns-in-true-true : goal.returns-in-true-true
returns-in-true-true g c =
    let test : Row → Bool = λ row. g.E.TruthComparison.rows row (Truth c.args.right) in
    let long : c.len.result ≡ length c.args.left.now.values = c.len.ensures ∙ length-map c.args.left.now.values Truth in
    MatchResult-weaker c.new_with_value.result c.new_with_value.ensures
    (λ bits e. e ∙ ap (λ n. replicate n true) long ∙ all-pass test c.in-true-true.ensures c.in-true-true.ensures' c.args.left.now.values)
    (λ error m. m)

pub returns-in-true-false : goal.returns-in-true-false
returns-in-true-false g c =
    let test : Row → Bool = λ row. g.E.TruthComparison.rows row (Truth c.args.right) in
    MatchResult-weaker c.clone_bitmap.result c.clone_bitmap.ensures
    (λ bits e. e ∙ c.values.ensures ∙ true-passes test c.in-true-false.ensures c.in-true-false.ensures' c.args.left.now.values)
    (λ error m. m)

pub returns-in-false-true : goal.returns-in-false-true
returns-in-false-true g c =
    let test : Row → Bool = λ row. g.E.TruthComparison.rows row (Truth c.args.right) in
    MatchResult-weaker c.not.result c.not.ensures
    (λ bits e. e ∙ ap (map not) c.values-in-false-true.ensures ∙ false-passes test c.in-false-true.ensures c.in-false-true.ensures' c.args.left.now.values)
    (λ error m. m)

pub returns-in-false-false : goal.returns-in-false-false
returns-in-false-false g c =
    let test : Row → Bool = λ row. g.E.TruthComparison.rows row (Truth c.args.right) in
    let long : c.len-in-false-false.result ≡ length c.args.left.now.values = c.len-in-false-false.ensures ∙ length-map c.args.left.now.values Truth in
    MatchResult-weaker c.new_zeroed.result c.new_zeroed.ensures
    (λ bits e. e ∙ ap (λ n. replicate n false) long ∙ none-passes test c.in-false-false.ensures c.in-false-false.ensures' c.args.left.now.values)
    (λ error m. m)
