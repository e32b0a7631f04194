-- Worked examples of the definitions.
use Rattle.std.proofs.Common.{refl}
use Rattle.std.specs.Prelude.{◌≡◌, [], ◌∷◌, true, codes}
use Rattle.std.specs.declared.cmp.Ordering.TheVariants.{Less}
use Rattle.diff_merge.specs.Order.{cells_cmp, key_less}
use Rattle.diff_tables.specs.Keys.{escaped, row_key}

-- the first column decides, and where it is the same the second one does
first-column : cells_cmp (0 ∷ 1 ∷ []) (codes "a" ∷ codes "c" ∷ []) (codes "ab" ∷ codes "b" ∷ []) ≡ Less
first-column = refl

second-column : cells_cmp (0 ∷ 1 ∷ []) (codes "a" ∷ codes "b" ∷ []) (codes "a" ∷ codes "c" ∷ []) ≡ Less
second-column = refl

-- so it is of their keys
first-key : key_less (row_key (0 ∷ 1 ∷ []) (codes "a" ∷ codes "c" ∷ [])) (row_key (0 ∷ 1 ∷ []) (codes "ab" ∷ codes "b" ∷ [])) ≡ true
unfolding row_key escaped
first-key = refl
