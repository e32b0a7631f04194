use Rattle.std.proofs.Common.{◌≡◌, ◌∙◌, ap, arith, take}
use Rattle.std.proofs.lemmas.List.{take_all}
use Rattle.std.specs.List.{count_by}
use Rattle.std.specs.Option.{option_copied}
use Rattle.schema_columns.specs.Present.{cells_of, is_missing, is_null, present}
use Rattle.schema_columns.proofs.present.present_cells.Goals as goal

pub returns : goal.returns
returns c =
    let null = option_copied c.args.null in
    let all : take c.loop-i.i c.args.table.now.rows ≡ c.args.table.now.rows = take_all c.loop-i.i c.args.table.now.rows (omega arith) in
    record {
      cells = c.in_ok-cells.ensures.1 (present null (cells_of c.args.column (take c.loop-i.i c.args.table.now.rows))) c.loop-i.invariant.strings ∙ ap (λ rows. present null (cells_of c.args.column rows)) all;
      plain = c.in_ok-cells.ensures.0;
      nulls = c.loop-i.invariant.nulls ∙ ap (λ rows. count_by (is_null null) (cells_of c.args.column rows)) all;
      missing = c.loop-i.invariant.missing ∙ ap (λ rows. count_by (is_missing null) (cells_of c.args.column rows)) all;
    }
