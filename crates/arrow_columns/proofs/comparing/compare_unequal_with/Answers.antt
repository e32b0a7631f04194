use Rattle.std.proofs.Common.{◌∙◌, length, map, not, ap}
use Rattle.std.proofs.lemmas.List.{length-map}
use Rattle.polars_arrays_flat.specs.ArrayRows.{number_rows}
use Rattle.arrow_columns.proofs.Compared.{unequal-rows}
use Rattle.arrow_columns.proofs.comparing.compare_unequal_with.Goals as goal

pub returns-clause-bits : goal.returns-clause-bits
returns-clause-bits g c =
    c.in_ok-other.ensures
    ∙ ap (map not) (c.from_bitmap.ensures ∙ c.in_ok-same.ensures.bits)
    ∙ unequal-rows (g.T.Number.value c.args.right) (number_rows g.T.Number.value c.args.left.now)

pub returns-clause-count : goal.returns-clause-count
returns-clause-count g c =
    ap length (c.in_ok-other.ensures ∙ ap (map not) c.from_bitmap.ensures)
    ∙ length-map c.in_ok-same.same not
    ∙ c.in_ok-same.ensures.count
