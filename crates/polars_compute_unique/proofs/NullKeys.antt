-- Which keys name null entries.
use Rattle.std.proofs.Common.{◌≡◌, ◌<◌, ◌≤◌, ◌&&◌, ℕ, Bool, true, false, ltb, pos, negsuc, refl, sym}
use Rattle.std.specs.Prelude.{ℤ}
use Rattle.std.proofs.lemmas.Bool.{le-ltb, ltb-true}
use Rattle.polars_arrays_flat.specs.ArrayRows.{is_null}
use Rattle.polars_arrays_nested.specs.AnyRows.{row}
use Rattle.polars_arrays_nested.specs.Lengths.{len_of}
use Rattle.polars_arrays_nested.specs.declared.any_array.AnyArray.{AnyArray}
use Rattle.polars_compute_unique.specs.Dictionaries.{names_null}

and-none : (b c : Bool) → (b ≡ true → c ≡ false) → b && c ≡ false
and-none true c other = other refl
and-none false c other = refl

-- where no entry is null, no key names one that is
pub none-named : (x : AnyArray) → ((i : ℕ) → i < len_of x → is_null (row x i) ≡ false) → (v : ℤ) → names_null x v ≡ false
none-named x never (pos key) = and-none (ltb key (len_of x)) (is_null (row x key)) (λ less. never key (ltb-true key (len_of x) less))
none-named x never (negsuc n) = refl

-- nor does one past the entries
pub past-named : (x : AnyArray) (key : ℕ) → len_of x ≤ key → names_null x (pos key) ≡ false
past-named x key past = rw (le-ltb key (len_of x) past) refl

pub ruleset null_keys = (none-named, past-named)
