use Rattle.std.proofs.Common.{◌≡◌, ◌≤◌, ◌+◌, ◌++◌, ◌∷◌, [], length, sym, ap, subst, ◌∙◌, rules}
use Rattle.std.specs.Prelude.{pos}
use Rattle.std.proofs.lemmas.List.{length_push}
use Rattle.arrow_arrays.proofs.ViewRows.{lead-more, one-gathered}
use Rattle.arrow_arrays.proofs.views.gathered.Goals as goal

pub loop-i-preserved : goal.loop-i-preserved
loop-i-preserved c =
    let more : c.push_reserved-in-Ok.new.self.items ≡ c.loop-i.ends.items ++ c.in-Ok.end ∷ [] = search rules in
    let end : c.in-Ok.end ≡ pos (length c.append_row.new.bytes.items) = search rules in (
      one-gathered c.args.part.now c.loop-i.i c.loop-i.ends.items c.push_reserved-in-Ok.new.self.items c.loop-i.bytes.items c.append_row.new.bytes.items c.in-Ok.end c.in_ok-append_row.ensures.appended end more c.loop-i.invariant.0,
      ap length more ∙ length_push c.loop-i.ends.items c.in-Ok.end ∙ ap (λ n. n + 1) c.loop-i.invariant.1,
      subst (λ n. c.args.part.now.rows + 1 ≤ n) (sym c.push_reserved-in-Ok.ensures.capacity) c.loop-i.invariant.2,
      lead-more c.args.part.now c.loop-i.i c.loop-i.invariant.3 c.in_ok-append_row.ensures.good,
    )
