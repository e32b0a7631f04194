-- The parts of documents, gathered by their paths.
--
-- In {"a": 7} and {"b": 1, "a": [8, 9]} the path a comes first, and has 7 and the array, in two
-- documents. The path b has 1, and a[] has 8 and 9, each in one document.
use Rattle.std.specs.List.{count_by, filter, flat_map, fold, list_any}
use Rattle.std.specs.Global.{Vec}
use Rattle.std.specs.HashMap.{HashMap, get_by}
use Rattle.std.specs.Prelude.{◌≡◌, ◌<◌, ◌≤◌, ◌+◌, ◌==◌, ℕ, suc, Bool, if◌then◌else◌, All, List, []}
use Rattle.std.specs.Prelude.{◌∷◌, ◌++◌, length, map, get_or, Option, None, Some}
use Rattle.std.specs.Str.{bytes_eq}
use Rattle.json.specs.Json.{Json}
use Rattle.json_parts.specs.Parts.{Part}
use Rattle.json_groups.specs.declared.group.Group.{Group}
use Rattle.json_groups.specs.declared.groups.Groups.{Groups}

-- the part lies at a path
abbrev pub is_at : List ℕ → Part → Bool
is_at path p = bytes_eq path p.path

-- a part lies at a path
abbrev pub has : List ℕ → List Part → Bool
has path parts = list_any (is_at path) parts

-- the values at a path, in their order
abbrev pub values_at : List ℕ → List Part → List Json
values_at path parts = map (λ p. p.value) (filter (is_at path) parts)

-- paths, and the path of one more part, if it is not among them
abbrev pub with_path : List (List ℕ) → Part → List (List ℕ)
with_path paths p = if list_any (bytes_eq p.path) paths then paths else paths ++ p.path ∷ []

-- the paths of parts, each once, in the order in which they first come
abbrev pub paths_of : List Part → List (List ℕ)
paths_of parts = fold with_path [] parts

-- the paths of groups
abbrev pub group_paths : {T : Type 0} → List (Group T) → List (List ℕ)
group_paths groups = map (λ g. g.path.items) groups

-- the parts of all documents, one document after another
abbrev pub all_parts : List (List Part) → List Part
all_parts documents = flat_map (λ parts. parts) documents

module _ {T : Type 0} (Gathers : List Json → T → Type 0) where
  -- a group has the tally of the values at its path in all documents, and the number of documents
  -- that have such a value
  pub record IsGroupOf (documents : List (List Part)) (g : Group T) : Type 0 where
    pub documents_is : g.documents ≡ count_by (has g.path.items) documents
    pub tally : Gathers (values_at g.path.items (all_parts documents)) g.tally

  -- there is a group for each path of documents, in the order in which the paths first come
  pub record AreGroupsOf (documents : List (List Part)) (groups : List (Group T)) : Type 0 where
    pub paths : group_paths groups ≡ paths_of (all_parts documents)
    pub each : All (IsGroupOf documents) groups

-- the place of a path's group, where there is one
abbrev pub place_of : {S : Type 0} → List ℕ → HashMap (Vec ℕ) ℕ S → Option ℕ
place_of path places = get_by (λ key. bytes_eq path key.items) places

-- each path is found at its place, and no other path is found
pub record AreFound {S : Type 0} (places : HashMap (Vec ℕ) ℕ S) (paths : List (List ℕ)) :
    Type 0 where
  pub within : (path : List ℕ) (i : ℕ) → place_of path places ≡ Some i → i < length paths
  pub same : (path : List ℕ) (i : ℕ) → place_of path places ≡ Some i → get_or paths i [] ≡ path
  pub each : (i : ℕ) → i < length paths → place_of (get_or paths i []) places ≡ Some i

-- the counts of a group, made from some documents and from the first parts of one more
pub record AreCounted (done : List (List Part)) (parts : List Part) (path : List ℕ)
    (documents last : ℕ) : Type 0 where
  pub documents_are : documents ≡ count_by (has path) done + (if has path parts then 1 else 0)
  pub last_is : has path parts ≡ (last == suc (length done))
  pub within : last ≤ suc (length done)

module _ {T : Type 0} (Gathers : List Json → T → Type 0) where
  -- a group is made from the values at its path in some documents, and in the first parts of one
  -- more
  pub record IsGroup (done : List (List Part)) (parts : List Part) (g : Group T) : Type 0 where
    pub counted : AreCounted done parts g.path.items g.documents g.last
    pub tally : Gathers (values_at g.path.items (all_parts done ++ parts)) g.tally

  -- the groups of some documents, and of the first parts of one more
  pub record HoldsParts (done : List (List Part)) (parts : List Part) (s : Groups T) : Type 0 where
    pub number : s.documents ≡ suc (length done)
    pub found : AreFound s.places (group_paths s.groups.items)
    pub paths : group_paths s.groups.items ≡ paths_of (all_parts done ++ parts)
    pub each : All (IsGroup done parts) s.groups.items

  -- the groups of documents
  pub record HoldsDocuments (documents : List (List Part)) (s : Groups T) : Type 0 where
    pub number : s.documents ≡ length documents
    pub found : AreFound s.places (group_paths s.groups.items)
    pub groups : AreGroupsOf Gathers documents s.groups.items
    pub last : All (λ g. g.last ≤ length documents) s.groups.items
