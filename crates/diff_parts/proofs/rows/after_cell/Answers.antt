use Rattle.std.proofs.Common.{◌≡◌, ◌∙◌, ◌+◌, ap, arith, fold, get_or, take, refl}
use Rattle.std.proofs.lemmas.List.{take_all}
use Rattle.diff_keys.specs.Hashes.{hash_step}
use Rattle.diff_tables.specs.Keys.{marked}
use Rattle.diff_tables.proofs.KeyLemmas.{part}
use Rattle.diff_parts.proofs.HashLemmas.{byte_more, cell_end}
use Rattle.diff_parts.proofs.rows.after_cell.Goals as goal

pub loop-byte-preserved : goal.loop-byte-preserved
loop-byte-preserved c =
    let step : c.after_marked-after.result ≡ fold hash_step c.loop-byte.after (marked (get_or c.args.cell.now c.loop-byte.byte-index 0)) = c.after_marked-after.ensures in
    step ∙ (ap (λ h. fold hash_step h (marked (get_or c.args.cell.now c.loop-byte.byte-index 0))) c.loop-byte.invariant
    ∙ byte_more c.args.hash c.args.cell.now c.loop-byte.byte-index (c.loop-byte.byte-index + 1) (omega arith) refl)

pub returns : goal.returns
returns c =
    let all : take c.loop-byte.byte-index c.args.cell.now ≡ c.args.cell.now = take_all c.loop-byte.byte-index c.args.cell.now (omega arith) in
    c.after_byte-2.ensures ∙ (ap (λ h. hash_step h 0) (c.after_byte.ensures ∙ ap (λ h. hash_step h 0) (c.loop-byte.invariant ∙ ap (λ l. fold hash_step c.args.hash (part l)) all))
    ∙ cell_end c.args.hash c.args.cell.now)
