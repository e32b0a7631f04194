use Rattle.std.proofs.Common.{arith}
use Rattle.std.specs.Option.{option_copied}
use Rattle.polars_arrays_views.specs.Parts.{view_strings}
use Rattle.polars_compare_extremes.proofs.ByteRows.{no_string, string-found}
use Rattle.polars_compare_extremes.proofs.view_places.best_view_place.Goals as goal

pub returns-in-Some : goal.returns-in-Some
returns-in-Some g c =
    let mask = option_copied c.args.present in
    let strings = view_strings c.args.array.now in
    record {
      found = string-found mask strings c.requires g.P.ByteComparison.rows c.best_view_from.result c.best_view_from.ensures;
      within = c.best_view_from.ensures.within;
    }

pub returns-in-None-clause-found : goal.returns-in-None-clause-found
returns-in-None-clause-found g c =
    no_string (option_copied c.args.present) (view_strings c.args.array.now) c.requires (λ k h. c.in-None.ensures k (omega (arith, h, c.count.ensures)))
