-- Arrays with equally many stored values have equally many stored rows.
use Rattle.std.specs.Prelude.{◌≡◌, ℕ, ℤ, Bool, List, length, replicate}
use Rattle.std.proofs.Common.{ap, sym, ◌∙◌}
use Rattle.std.proofs.lemmas.List.{length-map}
use Rattle.std.proofs.lemmas.List.FromFn.{length-map-range_with_len}
use Rattle.polars_arrays_flat.specs.Row.{Row, Null, Int, Truth, Bytes}
use Rattle.polars_arrays_flat.specs.StoredRows.{number_slots, truth_slots, byte_slots}
use Rattle.polars_arrays_nested.specs.StoredRows.{listed}

pub number_slots-as_long : {A : Type 0} (value : A → ℤ) (xs ys : List A) → length xs ≡ length ys
    → length (number_slots value xs) ≡ length (number_slots value ys)
number_slots-as_long value xs ys e =
    length-map xs (λ x. Int (value x)) ∙ e ∙ sym (length-map ys (λ x. Int (value x)))

pub truth_slots-as_long : (xs ys : List Bool) → length xs ≡ length ys → length (truth_slots xs)
    ≡ length (truth_slots ys)
truth_slots-as_long xs ys e = length-map xs Truth ∙ e ∙ sym (length-map ys Truth)

pub byte_slots-as_long : (xs ys : List (List ℕ)) → length xs ≡ length ys → length (byte_slots xs)
    ≡ length (byte_slots ys)
byte_slots-as_long xs ys e = length-map xs Bytes ∙ e ∙ sym (length-map ys Bytes)

pub null_slots-as_long : (m n : ℕ) → m ≡ n → length (replicate m Null) ≡ length (replicate n Null)
null_slots-as_long m n e = ap (λ (k : ℕ). length (replicate k Null)) e

pub listed-as_long : (f g : ℕ → Row) (m n : ℕ) → m ≡ n → length (listed f m) ≡ length (listed g n)
listed-as_long f g m n e =
    length-map-range_with_len f 0 m ∙ e ∙ sym (length-map-range_with_len g 0 n)
