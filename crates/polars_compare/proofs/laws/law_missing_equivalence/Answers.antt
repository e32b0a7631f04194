use Rattle.polars_compare.proofs.Missing.{missing-reflexive, missing-symmetric, missing-transitive, missing-complement}
use Rattle.polars_compare.proofs.Arrays.{arrays-complement, arrays-reflexive, arrays-symmetric, arrays-transitive}
use Rattle.polars_compare.proofs.laws.law_missing_equivalence.Goals as goal

pub returns : goal.returns
returns c = record {
  reflexive = missing-reflexive;
  symmetric = missing-symmetric;
  transitive = missing-transitive;
  complement = missing-complement;
  arrays_reflexive = arrays-reflexive;
  arrays_symmetric = arrays-symmetric;
  arrays_transitive = arrays-transitive;
  arrays_complement = arrays-complement;
}
