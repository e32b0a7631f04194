use Rattle.std.proofs.Common.{◌∙◌, sym}
use Rattle.std.proofs.lemmas.List.{length-map}
use Rattle.polars_arrays_flat.specs.Row.{Truth}
use Rattle.polars_compute_reductions.proofs.TruthRows.{present-none, present-some}
use Rattle.polars_compute_reductions.proofs.truths.present_rows.Goals as goal

pub returns-in-Some : goal.returns-in-Some
returns-in-Some c =
    c.set_bits.ensures ∙ present-some c.args.array.now.validity c.args.array.now.values c.in-Some.validity.now c.in-Some.ensures.validity c.in-Some.ensures.bits

pub returns-in-None : goal.returns-in-None
returns-in-None c =
    c.len.ensures ∙ length-map c.args.array.now.values Truth ∙ sym (present-none c.args.array.now.validity c.args.array.now.values c.in-None.ensures.validity)
