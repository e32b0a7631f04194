use Rattle.std.proofs.Common.{◌≡◌, ℕ, Bool, List, Option, length, subst, sym, arith}
use Rattle.arrow_calls.proofs.Lent.{presence_bits}
use Rattle.arrow_calls.proofs.columns.column.Goals as goal
use Rattle.arrow_parts.specs.ByteBits.{presence}
use Rattle.polars_arrays_flat.specs.Validity.{HasBits}

pub unreachable-requires : goal.unreachable-requires
unreachable-requires g c =
    let p = c.args.part.now in
    let rows : length c.args.values.now ≡ p.rows = omega (arith, c.if-values-part.false) in
    c.in-Err.ensures.made
    (subst (λ (v : Option (List Bool)). HasBits (length c.args.values.now) v) (sym c.in_ok-present.ensures.bits)
    (subst (λ (n : ℕ). HasBits n (presence p.first_bit p.rows p.present.now)) (sym rows) (presence_bits p.first_bit p.rows p.present.now)))
