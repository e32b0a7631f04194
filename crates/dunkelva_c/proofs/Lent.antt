-- Columns that are lent, and their validity.
use Rattle.std.proofs.Common.{◌≡◌, ◌∙◌, ℕ, List, Option, Some, None, Bool, not, length, map, refl, sym, ap₂, subst}
use Rattle.std.specs.Prelude.{ℤ, option_map}
use Rattle.std.proofs.lemmas.List.{length-map}
use Rattle.arrow_calls.proofs.Lent.{presence_bits}
use Rattle.arrow_calls.specs.Columns.{Lends, rows_lent}
use Rattle.arrow_parts.specs.ByteBits.{presence}
use Rattle.arrow_parts.specs.declared.part.Part.{Part}
use Rattle.polars_arrays_flat.specs.ArrayRows.{number_rows}
use Rattle.polars_arrays_flat.specs.Numbers.{Numbers}
use Rattle.polars_arrays_flat.specs.Row.{Row, Int}
use Rattle.polars_arrays_flat.specs.StoredRows.{number_slots, rows_under}
use Rattle.polars_arrays_flat.specs.Validity.{HasBits}

-- the complement of a validity has a bit for each row
pub nulls_long : (at n : ℕ) (bytes : List ℕ) (bits : List Bool) → Some bits ≡ presence at n bytes → length (map not bits) ≡ n
nulls_long at n bytes bits e =
    length-map bits not ∙ subst (λ (v : Option (List Bool)). HasBits n v) (sym e) (presence_bits at n bytes)

pub option_map-fused : {A B C : Type 0} (f : B → C) (g : A → B) (x : Option A) → option_map f (option_map g x) ≡ option_map (λ a. f (g a)) x
option_map-fused f g None = refl
option_map-fused f g (Some a) = refl

-- bits that compare rows with a number do so for equal rows and an equal number
pub compared_bits : {A : Type 0} (value : A → ℤ) (test : Row → Row → Bool) (bits : List Bool) (m n : ℤ) (v w : Option (List Bool)) (xs ys : List A) → bits ≡ map (λ row. test row (Int m)) (rows_under v (number_slots value xs)) → m ≡ n → v ≡ w → xs ≡ ys → bits ≡ map (λ row. test row (Int n)) (rows_under w (number_slots value ys))
compared_bits value test bits m n v w xs ys e f g h =
    e
    ∙ ap₂ (λ (k : ℤ) (rows : List Row). map (λ row. test row (Int k)) rows) f
    (ap₂ (λ (u : Option (List Bool)) (zs : List _). rows_under u (number_slots value zs)) g h)

-- the rows of a column that is lent are those of the part
pub lent-rows : {A : Type 0} (value : A → ℤ) (p : Part) (xs : List A) (column : Numbers A) → Lends p xs column → number_rows value column ≡ rows_lent value p xs
lent-rows value p xs column lends =
    ap₂ (λ (v : Option (List Bool)) (ys : List _). rows_under v (number_slots value ys)) lends.validity lends.values
