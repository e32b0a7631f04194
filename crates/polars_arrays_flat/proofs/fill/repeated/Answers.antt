use Rattle.std.proofs.Common.{◌≡◌, ◌∙◌, ◌≤◌, ◌++◌, ◌∷◌, [], ℕ, List, replicate, ap, arith, subst, sym}
use Rattle.std.proofs.lemmas.List.{replicate_more}
use Rattle.std.proofs.lemmas.Result.{err_from_is_err_and}
use Rattle.polars_arrays_flat.proofs.fill.repeated.Goals as goal

pub returns-in_err-elements : goal.returns-in_err-elements
returns-in_err-elements g c =
    let error = err_from_is_err_and c.from_residual.result c.from_residual.ensures.1 in rw error.1 error.2

pub loop-preserved : goal.loop-preserved
loop-preserved g c = record {
  items =
      c.push_reserved.ensures.items
      ∙ ap (λ (xs : List _). xs ++ c.args.value ∷ []) c.loop.invariant.items
      ∙ replicate_more c.loop.counter c.args.value;
  room = subst (λ (n : ℕ). c.args.len ≤ n) (sym c.push_reserved.ensures.capacity) c.loop.invariant.room;
}

pub returns : goal.returns
returns g c =
    let end : c.loop.counter ≡ c.args.len = omega arith in
    let all = c.loop.invariant.items ∙ ap (λ (n : ℕ). replicate n c.args.value) end in
    rw (← all) c.from_vec.ensures
