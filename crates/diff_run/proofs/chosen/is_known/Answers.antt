use Rattle.std.proofs.Common.{◌≡◌, [], ◌∷◌, true, false, arith, refl}
use Rattle.std.proofs.lemmas.List.Elements.{All-get_or}
use Rattle.polars_arrays_bytes.specs.OffsetStrings.{offset_strings}
use Rattle.diff_columns.specs.Names.{IsKnown}
use Rattle.diff_run.proofs.ChosenLemmas.{unknown_alone}
use Rattle.diff_run.proofs.chosen.is_known.Goals as goal

pub returns-in-None : goal.returns-in-None
returns-in-None c = (λ _. All-get_or (IsKnown (offset_strings (λ x. x) c.args.left.now) (offset_strings (λ x. x) c.args.right.now)) (c.args.name.now ∷ []) 0 [] (omega arith) c.in-None.ensures, λ _. refl)

pub returns-in-Some : goal.returns-in-Some
returns-in-Some c = (
  λ t. absurd (let clash : false ≡ true = t in cc),
  λ known. absurd (unknown_alone (offset_strings (λ x. x) c.args.left.now) (offset_strings (λ x. x) c.args.right.now) c.args.name.now _ c.in-Some.ensures known),
)
