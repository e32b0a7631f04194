-- Refusals that are true.
use Rattle.std.proofs.Common.{◌≡◌, sym, subst}
use Rattle.std.specs.Prelude.{Result, Ok, Err, IfErr}
use Rattle.arrow_parts.specs.Refusals.{IsHonest}
use Rattle.arrow_parts.specs.declared.refused.Refused.{Refused}
use Rattle.arrow_parts.specs.declared.refused.Refused.TheVariants.{Parts, Types, Room, Memory}

-- what is refused truly is refused truly as a part of more
pub honest-more : (A B : Type 0) (r : Refused) → IsHonest A r → (B → A) → IsHonest B r
honest-more A B Parts honest part = λ more. honest (part more)
honest-more A B Types honest part = honest
honest-more A B Room honest part = honest
honest-more A B Memory honest part = tt

honest-parts : (A : Type 0) (r : Refused) → r ≡ Parts → ¬ A → IsHonest A r
honest-parts A r is none = subst (IsHonest A) (sym is) none

-- an error that is `Parts`
pub refused-parts : {T : Type 0} (A : Type 0) (result : Result T Refused) → IfErr result (λ r. r ≡ Parts) → ¬ A → IfErr result (IsHonest A)
refused-parts A (Ok x) is none = tt
refused-parts A (Err r) is none = honest-parts A r is none
