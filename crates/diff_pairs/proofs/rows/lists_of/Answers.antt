use Rattle.std.proofs.Common.{◌≡◌, ◌∙◌, refl}
use Rattle.polars_arrays_nested.specs.AnyRows.{row}
use Rattle.diff_pairs.proofs.HeldLemmas.{list_is}
use Rattle.diff_pairs.proofs.rows.lists_of.Goals as goal

pub unreachable-requires : goal.unreachable-requires
unreachable-requires c =
    let (far, strings, held, size) = c.requires in
    let values : c.in_ok-values.values.value ≡ c.args.cells = c.in_ok-values.ensures.ok in
    c.in-Err.ensures.made (record { bits = _; items = rw values (held.len ∙ size) })

pub returns : goal.returns
returns c = λ far strings held size.
    let values : c.in_ok-values.values.value ≡ c.args.cells = c.in_ok-values.ensures.ok in
    record {
      good = c.in-Ok.ensures.good;
      kind = rw (c.in-Ok.ensures.made.1, values, held.kind) refl;
      len = rw c.in-Ok.ensures.made.1 refl;
      held = λ i within.
          c.in-Ok.ensures.rows i
          ∙ list_is (row c.in_ok-values.values.value) c.args.width c.args.count i strings
          (λ k inside. rw values (held.held k inside)) size within;
    }
