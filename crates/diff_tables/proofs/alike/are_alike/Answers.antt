use Rattle.std.proofs.Common.{◌≡◌, ◌∙◌, rules, sym}
use Rattle.std.proofs.lemmas.Slice.Eq.{bytes_eq-Decides}
use Rattle.polars_arrays_bytes.specs.OffsetStrings.{offset_strings}
use Rattle.diff_tables.proofs.AlikeLemmas.{same_windows}
use Rattle.diff_tables.proofs.alike.are_alike.Goals as goal

pub returns : goal.returns
returns g c =
    λ alike.
    let same : c.bytes_from.result.now ≡ c.bytes_from-2.result.now = (bytes_eq-Decides c.bytes_from.result.now c.bytes_from-2.result.now).0 (search (alike, rules)) in
    same_windows c.args.n c.args.at c.args.from (offset_strings g.L.Number.value c.args.left.now) (offset_strings g.R.Number.value c.args.right.now)
    c.requires.left c.requires.right (sym c.bytes_from.ensures ∙ (same ∙ c.bytes_from-2.ensures)) (c.requires.as_long (search rules))
