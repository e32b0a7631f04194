use Rattle.polars_compare.proofs.Arrays.{arrays-by_rows}
use Rattle.polars_compare.proofs.Stores.{missing-by_rows, raw_equality-by_rows, raw_order-by_rows}
use Rattle.polars_compare.proofs.laws.law_rows_alone.Goals as goal

pub returns : goal.returns
returns c = record {
  missing = missing-by_rows;
  arrays = arrays-by_rows;
  raw_equality = raw_equality-by_rows;
  raw_order = raw_order-by_rows;
}
