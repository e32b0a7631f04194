-- Faults of trees that are true.
use Rattle.std.specs.Prelude.{ℕ, List}
use Rattle.arrow_calls.specs.Statuses.{fault_of}
use Rattle.arrow_equality.specs.Equal.{IsTrueRefusal}
use Rattle.arrow_equality.specs.Nulls.{IsTrueNullRefusal}
use Rattle.arrow_parts.specs.declared.part.Part.{Part}
use Rattle.arrow_parts.specs.declared.refused.Refused.{Refused}
use Rattle.arrow_parts.specs.declared.refused.Refused.TheVariants as refused
use Rattle.dunkelva_c.specs.Trees.{IsTrueNullRowsFault, IsTrueTreeFault}

-- the fault of a refusal that is true
pub tree-fault : (left right : List Part) (words counts : List ℕ) (r : Refused) → IsTrueRefusal left right words counts r → IsTrueTreeFault left right words counts (fault_of r)
tree-fault left right words counts refused.Parts told = told
tree-fault left right words counts refused.Types told = told
tree-fault left right words counts refused.Room told = told
tree-fault left right words counts refused.Memory told = tt

pub null-fault : (words : ℕ) (parts : List Part) (r : Refused) → IsTrueNullRefusal words parts r → IsTrueNullRowsFault words parts (fault_of r)
null-fault words parts refused.Parts told = told
null-fault words parts refused.Types told = told
null-fault words parts refused.Room told = told
null-fault words parts refused.Memory told = tt

pub ruleset trees = (tree-fault)

pub ruleset nulls = (null-fault)
