-- The schemas of paths, one after another.
use Rattle.std.proofs.Common.{◌≡◌, ◌-◌, ◌∙◌, ◌++◌, ◌∷◌, ℕ, Bool, List, [], length, map, refl, sym, ap, arith}
use Rattle.std.proofs.lemmas.List.{map-append}
use Rattle.std.proofs.lemmas.List.Elements.{All-push}
use Rattle.std.proofs.lemmas.List.Filters.{length-filter_both}
use Rattle.std.proofs.lemmas.List.Sums.{length-filter}
use Rattle.std.specs.List.{count_by}
use Rattle.std.specs.Prelude.{All, not}
use Rattle.json_groups.specs.Groups.{group_paths}
use Rattle.json_groups.specs.declared.group.Group.{Group}
use Rattle.json_parts.specs.Parts.{Part}
use Rattle.schema_paths.specs.Paths.{IsSchemaOf}
use Rattle.schema_paths.specs.declared.kinds.Kinds.{Kinds}
use Rattle.schema_paths.specs.declared.paths.PathSchema.{PathSchema}

-- the elements that do not pass a test
pub others_counted : {A : Type 0} (p : A → Bool) (xs : List A) (n : ℕ) → n ≡ count_by p xs → length xs - n ≡ count_by (λ x. not (p x)) xs
others_counted p xs n e =
    let both = length-filter_both p (λ x. not (p x)) (λ x. refl) xs in
    let these = length-filter p xs in
    let those = length-filter (λ x. not (p x)) xs in
    omega (arith, e, both, these, those)

-- the schemas of the first groups
pub record AreFirst (parts : List (List Part)) (groups : List (Group Kinds)) (schemas : List PathSchema) : Type 0 where
  pub paths : map (λ s. s.path.items) schemas ≡ group_paths groups
  pub each : All (IsSchemaOf parts) schemas

pub one_more : (parts : List (List Part)) (groups : List (Group Kinds)) (schemas : List PathSchema) (g : Group Kinds) (s : PathSchema) → AreFirst parts groups schemas → s.path.items ≡ g.path.items
    → IsSchemaOf parts s → AreFirst parts (groups ++ g ∷ []) (schemas ++ s ∷ [])
one_more parts groups schemas g s h path own = record {
  paths = map-append (λ (x : PathSchema). x.path.items) schemas (s ∷ []) ∙ ap (λ ps. ps ++ s.path.items ∷ []) h.paths ∙ ap (λ p. group_paths groups ++ p ∷ []) path
      ∙ sym (map-append (λ (x : Group Kinds). x.path.items) groups (g ∷ []));
  each = All-push (IsSchemaOf parts) schemas s h.each own;
}
