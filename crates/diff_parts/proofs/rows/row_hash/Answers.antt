use Rattle.std.proofs.Common.{◌≡◌, ◌∙◌, ap, arith, fold, take, refl}
use Rattle.std.proofs.lemmas.List.{take_all}
use Rattle.diff_keys.specs.Hashes.{hash_step, key_hash}
use Rattle.diff_tables.specs.Keys.{row_key}
use Rattle.diff_parts.proofs.HashLemmas.{cell_more}
use Rattle.diff_parts.proofs.rows.row_hash.Goals as goal

pub loop-column-init : goal.loop-column-init
unfolding row_key
loop-column-init g c = refl

pub loop-column-preserved : goal.loop-column-preserved
loop-column-preserved g c =
    cell_more 0xcbf29ce484222325 c.loop-column.hash c.after_cell-hash.result c.args.keys.now (g.S.StringList.strings c.args.cells.now) c.cell_at.result.now c.loop-column.column-index (omega arith)
    c.loop-column.invariant c.cell_at.ensures c.after_cell-hash.ensures

pub returns : goal.returns
unfolding key_hash
returns g c =
    let all : take c.loop-column.column-index c.args.keys.now ≡ c.args.keys.now = take_all c.loop-column.column-index c.args.keys.now (omega arith) in
    c.loop-column.invariant ∙ ap (λ l. fold hash_step 0xcbf29ce484222325 (row_key l (g.S.StringList.strings c.args.cells.now))) all
