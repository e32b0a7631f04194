use Rattle.polars_compare_nested.proofs.Trees.{equality-trees, steps-equality}
use Rattle.polars_compare_nested.proofs.laws.law_steps.Goals as goal

pub returns : goal.returns
returns c = record {
  equality = steps-equality;
  trees = equality-trees;
}
