-- Columns that fit their fields.
use Rattle.std.proofs.Common.{◌<◌, ◌≤◌, ℕ, suc, List, [], ◌∷◌, length, inl, inr, arith}
use Rattle.std.specs.List.{All}
use Rattle.std.proofs.lemmas.Bool.{cases_lt}
use Rattle.std.proofs.lemmas.Option.{slice_get_past}
use Rattle.polars_arrays_flat.specs.Validity.{HasBits}
use Rattle.polars_arrays_flat.specs.declared.data_type.Field.{Field}
use Rattle.polars_arrays_nested.specs.Columns.{AreColumns}
use Rattle.polars_arrays_nested.specs.ColumnLaws.{row-struct, struct-good}
use Rattle.polars_arrays_nested.specs.Faults.{FitsAt, IsFirstMisfit}
use Rattle.polars_arrays_nested.specs.GoodParts.{IsGood}
use Rattle.polars_arrays_nested.specs.Parts.{columns, struct_fields, struct_validity}
use Rattle.polars_arrays_nested.specs.declared.any_array.AnyArray.{AnyArray, Struct}
use Rattle.polars_arrays_nested.specs.declared.struct_array.StructArray.{StructArray}

-- past the end of both lists there is nothing to fit
fits-past : (fields : List Field) (len : ℕ) (values : List AnyArray) (k : ℕ) → length fields ≤ k → length values ≤ k → FitsAt fields len values k
fits-past fields len values k many as_many =
    rw (slice_get_past fields k many, slice_get_past values k as_many) tt

-- what fits before the ends of both lists fits everywhere
pub fits-everywhere : (fields : List Field) (len : ℕ) (values : List AnyArray) (n : ℕ) → length fields ≤ n → length values ≤ n → ((k : ℕ) → k < n → FitsAt fields len values k) → (k : ℕ) → FitsAt fields len values k
fits-everywhere fields len values n many as_many before k = elim (cases_lt k n) [
  | inl below ↦ before k below
  | inr past ↦ fits-past fields len values k (omega arith) (omega arith)
]

-- columns that fit are those that a good struct has
pub fits-columns : (fields : List Field) (len : ℕ) (values : List AnyArray) → ((k : ℕ) → FitsAt fields len values k) → All IsGood values → AreColumns fields len values
fits-columns [] len [] fits good = tt
fits-columns [] len (first ∷ rest) fits good = fits 0
fits-columns (field ∷ fields) len [] fits good = fits 0
fits-columns (field ∷ fields) len (first ∷ rest) fits good =
    let here = fits 0 in
    (here.0, here.1, good 0 first (omega arith), fits-columns fields len rest (λ k. fits (suc k)) (λ k d low. good (suc k) d (omega arith)))

-- a misfit is none of the parts of structs
pub misfit_not_structs : (fields : List Field) (len : ℕ) (values : List AnyArray) (at : ℕ) → IsFirstMisfit fields len values at → ((k : ℕ) → FitsAt fields len values k) → ⊥
misfit_not_structs fields len values at first fits = first.misfit (fits at)

-- a struct of parts that fit is good
pub structs-good : (s : StructArray) → HasBits s.len (struct_validity s) → ((k : ℕ) → FitsAt (struct_fields s) s.len (columns s) k) → All IsGood (columns s) → IsGood (Struct s)
structs-good s bits fits good = struct-good s bits (fits-columns (struct_fields s) s.len (columns s) fits good)

pub ruleset made = (misfit_not_structs, structs-good, row-struct)

pub ruleset fits = (fits-everywhere)
