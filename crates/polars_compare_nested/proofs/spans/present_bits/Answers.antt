use Rattle.polars_compare_nested.proofs.MatchBits.{window_bit}
use Rattle.polars_compare_nested.proofs.spans.present_bits.Goals as goal

pub returns-in-Some : goal.returns-in-Some
returns-in-Some c =
    rw c.in-Some.is (window_bit c.few_bits.result c.args.at c.args.n c.in-Some.bits.now (rw c.from_bitmap.ensures at c.few_bits.ensures.bits))
