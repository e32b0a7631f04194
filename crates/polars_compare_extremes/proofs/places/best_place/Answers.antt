use Rattle.std.proofs.Common.{arith}
use Rattle.std.specs.Option.{option_copied}
use Rattle.polars_compare_extremes.proofs.ByteRows.{best-string, no_string, string-found}
use Rattle.polars_compare_extremes.proofs.places.best_place.Goals as goal

pub returns-in-Some : goal.returns-in-Some
returns-in-Some g c =
    let mask = option_copied c.args.present in
    let strings = g.R.ByteRows.strings c.args.rows.now in
    record {
      best = best-string mask strings c.requires g.P.ByteComparison.rows c.best_from.result c.best_from.ensures;
      within = c.best_from.ensures.within;
      found = string-found mask strings c.requires g.P.ByteComparison.rows c.best_from.result c.best_from.ensures;
    }

pub returns-in-None-clause-best : goal.returns-in-None-clause-best
returns-in-None-clause-best g c =
    no_string (option_copied c.args.present) (g.R.ByteRows.strings c.args.rows.now) c.requires (λ k h. c.in-None.ensures k (omega (arith, h, c.count.ensures)))
