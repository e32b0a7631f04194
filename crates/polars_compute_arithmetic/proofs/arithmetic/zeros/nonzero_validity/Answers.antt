use Rattle.std.proofs.Common.{◌≡◌, ◌∙◌, length, refl, ap}
use Rattle.std.specs.Prelude.{pos, Some}
use Rattle.polars_arrays_flat.specs.Validity.{HasBits}
use Rattle.polars_compute_arithmetic.specs.Maps.{joined_validity}
use Rattle.polars_compute_arithmetic.proofs.Nonzero.{nonzero-bits, nonzero-present}
use Rattle.polars_compute_arithmetic.proofs.arithmetic.zeros.nonzero_validity.Goals as goal

pub returns-clause-masked : goal.returns-clause-masked
returns-clause-masked g c =
    let exact = g.met.T.Integral.exact_law in
    let zero : g.T.Number.value c.zero.result ≡ pos 0 = ap g.T.Number.value c.zero.ensures ∙ g.met.T.Zero.zero_law exact in
    let bits : HasBits (length c.args.divisors.now.values) c.args.divisors.now.validity = rw (← c.take_validity.ensures.taken) c.take_validity.ensures.bits in
    let joined : c.in_ok-validity.validity ≡ joined_validity c.args.divisors.now.validity (Some c.in_ok-nonzero.nonzero) = rw c.take_validity.ensures.taken at c.in_ok-validity.ensures in
    let told = c.in_ok-nonzero.ensures.1 in
    record {
      values = refl;
      present = λ i x h e. rw joined (nonzero-present g.T.Number.value c.args.divisors.now.values _ zero c.args.divisors.now.validity c.in_ok-nonzero.nonzero told bits i x h e);
      bits_before = bits;
      bits_after = rw joined (nonzero-bits g.T.Number.value c.args.divisors.now.values _ zero c.args.divisors.now.validity c.in_ok-nonzero.nonzero told bits);
    }
