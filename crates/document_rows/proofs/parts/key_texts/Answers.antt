use Rattle.std.proofs.Common.{◌≡◌, ◌<◌, ◌≤◌, ◌∙◌, ◌++◌, ◌∷◌, [], ap, arith, length, map, refl, subst, take}
use Rattle.std.proofs.lemmas.List.{map-append}
use Rattle.json.specs.Value.{value_view}
use Rattle.json_paths.specs.Paths.{part_at}
use Rattle.json_paths.specs.Views.{path_view, paths_view}
use Rattle.document_rows.specs.Documents.{cell_of, key_cells}
use Rattle.document_rows.proofs.RowLemmas.{all_cells_kept, one_cell}
use Rattle.document_rows.proofs.parts.key_texts.Goals as goal

pub loop-key-preserved : goal.loop-key-preserved
loop-key-preserved c =
    let ks = c.args.keys.now in
    let j = value_view c.args.value.now in
    let k = c.loop-key.key in
    let p = c.index-keys-key.result in
    let within : k < length ks = omega arith in
    let before = c.loop-key.texts.items in
    let one = c.in_ok-from_slice.field-0 in
    let cell : one.items ≡ cell_of (part_at (path_view p) j) = c.in_ok-from_slice.ensures.items ∙ (c.deref.ensures.value ∙ c.in_ok-write_part.ensures) in
    ap (λ l. map (λ v. v.items) l) c.in_ok-push.ensures.items
    ∙ (map-append (λ v. v.items) before (one ∷ [])
    ∙ (ap (λ l. l ++ one.items ∷ []) c.loop-key.invariant
    ∙ (ap (λ t. key_cells (paths_view (take k ks)) j ++ t ∷ []) cell ∙ one_cell ks j k p (cell_of (part_at (path_view p) j)) within c.index-keys-key.is refl [])))

pub returns : goal.returns
returns c =
    let end : length c.args.keys.now ≤ c.loop-key.key = omega arith in
    subst (λ ks. map (λ v. v.items) c.loop-key.texts.items ≡ key_cells (paths_view ks) (value_view c.args.value.now)) (all_cells_kept c.args.keys.now c.loop-key.key end) c.loop-key.invariant
