use Rattle.std.proofs.Common.{◌≤◌, ◌+◌, ap, sym, subst, ◌∙◌}
use Rattle.polars_arrays_bits.specs.Buffer.{Elements}
use Rattle.polars_arrays_flat.specs.Validity.{window}
use Rattle.polars_arrays_bytes.specs.OffsetStrings.{OffsetStrings, offset_rows, row_count}
use Rattle.polars_arrays_bytes.proofs.OffsetWindows.{kept-bounded, kept-rows}
use Rattle.polars_arrays_bytes.proofs.binary.BinaryArray.slice.Goals as goal

pub invariant_of-self : goal.invariant_of-self
invariant_of-self g c =
    let within = subst (λ (a : OffsetStrings _). c.args.at + c.args.n ≤ row_count a.offsets) (sym c.self.view_is) c.requires in
    kept-bounded g.O.Number.value _ c.args.at c.args.n _ _ c.self.invariant within (ap (λ (b : Elements _). b.items) c.keep_rows.ensures) c.slice_validity.ensures.bits

pub returns-clause-rows : goal.returns-clause-rows
returns-clause-rows g c =
    let within = subst (λ (a : OffsetStrings _). c.args.at + c.args.n ≤ row_count a.offsets) (sym c.self.view_is) c.requires in
    kept-rows g.O.Number.value _ c.args.at c.args.n _ _ c.self.invariant within (ap (λ (b : Elements _). b.items) c.keep_rows.ensures) c.slice_validity.ensures.rows ∙ ap (λ (a : OffsetStrings _). window c.args.at c.args.n (offset_rows g.O.Number.value a)) c.self.view_is
