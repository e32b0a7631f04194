use Rattle.std.proofs.Common.{◌≡◌, ◌<◌, ◌∙◌, ◌+◌, ◌++◌, ◌∷◌, [], not, length, get_or, take, ap, sym, arith}
use Rattle.std.proofs.lemmas.List.{map_more, take_all}
use Rattle.polars_arrays_bytes.specs.OffsetStrings.{offset_strings}
use Rattle.diff_columns.specs.Names.{names_of}
use Rattle.diff_numbers.specs.Columns.{is_named, number_columns}
use Rattle.diff_numbers.proofs.columns.number_columns.Goals as goal

pub loop-column-preserved : goal.loop-column-preserved
loop-column-preserved c =
    let names = offset_strings (λ x. x) c.args.names.now in
    let texts = names_of c.args.texts.now in
    let within : c.loop-column.column < length names = omega arith in
    let one : c.is_named.result ≡ is_named texts (get_or names c.loop-column.column []) = c.is_named.ensures ∙ ap (is_named texts) c.bytes.ensures in
    c.in_ok-push.ensures.items
    ∙ (ap (λ l. l ++ not c.is_named.result ∷ []) c.loop-column.invariant
    ∙ (ap (λ b. number_columns texts (take c.loop-column.column names) ++ not b ∷ []) one
    ∙ sym (map_more (λ name. not (is_named texts name)) names c.loop-column.column [] within)))

pub returns : goal.returns
returns c =
    let names = offset_strings (λ x. x) c.args.names.now in
    let end : take c.loop-column.column names ≡ names = take_all c.loop-column.column names (omega arith) in
    c.loop-column.invariant ∙ ap (number_columns (names_of c.args.texts.now)) end
