use Rattle.std.proofs.Common.{[], ap, sym, ◌∙◌, arith, rules}
use Rattle.polars_arrays_views.specs.Views.{padded, view_prefix}
use Rattle.polars_arrays_views.proofs.GoodViews.{prefix_is}
use Rattle.polars_arrays_views.proofs.Padding.{padded_four}
use Rattle.polars_arrays_views.proofs.scalar.scalar_view.Goals as goal

pub returns-then-bytes-le12 : goal.returns-then-bytes-le12
returns-then-bytes-le12 c =
    let v = c.of_short.ensures in
    record {
      bytes = search rules;
      prefix = prefix_is [] c.of_short.result (v.good []) ∙ ap (padded 4) (v.row []);
      good = λ short. v.good [];
      row = λ short. v.row [];
    }

pub returns : goal.returns
returns c =
    record {
      bytes = search rules;
      prefix = ap view_prefix c.new.ensures ∙ sym (padded_four c.args.bytes.now);
      good = λ short. absurd (omega arith);
      row = λ short. absurd (omega arith);
    }
