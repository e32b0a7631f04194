-- Worked examples of the definitions.
use Rattle.std.proofs.Common.{refl}
use Rattle.std.specs.Prelude.{◌≡◌, [], ◌∷◌}
use Rattle.diff_joins.specs.Laws.{with_later}

-- left row 0, and after two left rows row 0 of the others
left-rows : with_later 2 (0 ∷ []) (0 ∷ []) ≡ 0 ∷ 2 ∷ []
left-rows = refl

-- their partners, right row 0, and after one right row row 1 of the others
right-rows : with_later 1 (0 ∷ []) (1 ∷ []) ≡ 0 ∷ 2 ∷ []
right-rows = refl
