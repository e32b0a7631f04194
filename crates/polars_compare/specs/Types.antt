-- Equality of the types of two arrays.
use Rattle.std.specs.Prelude.{◌≡◌, ⊤}
use Rattle.polars_arrays_flat.specs.Kind.{Kind}

-- the types of two arrays: always equal, or given by the two kinds
pub data Types : Type 0 where
  Always : Types
  Kinds : Kind → Kind → Types

-- the two arrays are of one type
abbrev pub OneType : Types → Type 0
OneType Always = ⊤
OneType (Kinds left right) = left ≡ right
