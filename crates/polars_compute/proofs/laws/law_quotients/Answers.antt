use Rattle.polars_compute.proofs.QuotientLaws.{floor-is_greatest, floor-leaves_modulus, modulus-is_rest, truncated-is_nearest}
use Rattle.polars_compute.proofs.laws.law_quotients.Goals as goal

pub returns : goal.returns
returns c = record {
  floor = floor-is_greatest;
  truncated = truncated-is_nearest;
  modulus = modulus-is_rest;
  divided = floor-leaves_modulus;
}
