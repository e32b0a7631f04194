use Rattle.std.proofs.Common.{take, arith}
use Rattle.std.proofs.lemmas.List.{length-take}
use Rattle.polars_arrays_flat.specs.ByteOrderLaws.{bytes_take}
use Rattle.polars_arrays_views.proofs.Words.{same_word}
use Rattle.polars_arrays_views.proofs.view.View.same_head.Goals as goal

pub returns : goal.returns
returns c =
    let v = c.args.self.now in
    let w = c.args.other.now in
    let p = c.head.ensures.view in
    let q = c.head-2.ensures.view in
    same_word (take 8 v) (take 8 w) _ _ (simp length-take (omega (arith, p.size))) (simp length-take (omega (arith, q.size)))
    (bytes_take 8 v p.bytes) (bytes_take 8 w q.bytes) c.head.ensures.value c.head-2.ensures.value
