use Rattle.std.proofs.Common.{drop, arith}
use Rattle.std.proofs.lemmas.List.{length-drop}
use Rattle.polars_arrays_flat.specs.ByteOrderLaws.{bytes_drop}
use Rattle.polars_arrays_views.proofs.Words.{same_word}
use Rattle.polars_arrays_views.proofs.view.View.same_tail.Goals as goal

pub returns : goal.returns
returns c =
    let v = c.args.self.now in
    let w = c.args.other.now in
    let p = c.tail.ensures.view in
    let q = c.tail-2.ensures.view in
    same_word (drop 8 v) (drop 8 w) _ _ (simp length-drop (omega (arith, p.size))) (simp length-drop (omega (arith, q.size)))
    (bytes_drop 8 v p.bytes) (bytes_drop 8 w q.bytes) c.tail.ensures.value c.tail-2.ensures.value
