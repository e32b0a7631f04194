-- The comparisons of adjacent windows add up.
use Rattle.std.proofs.Common.{◌≡◌, ◌+◌, ◌*◌, ℕ, zero, suc, List, [], ◌∷◌, refl, arith, add-zero}
use Rattle.std.proofs.Math.Nat.{mul-add}
use Rattle.polars_arrays_nested.specs.declared.any_array.AnyArray.{AnyArray, Null, List', FixedSizeList', Struct', Dictionary', Row_of-AnyArray, end_of-AnyArray, more_of-AnyArray, items-the_row-AnyArray}
use Rattle.polars_compare_nested.specs.Tally.{tally, tally_across, total_pairs, pair_tally, entry_tally}
use Rattle.polars_compare_nested.specs.TallyLaws.{TallyAddsUp}

-- comparisons of adjacent windows add up
abbrev pub AddsUp : (ℕ → ℕ → ℕ → ℕ) → Type 0
AddsUp child = (a b m n : ℕ) → child a b (m + n) ≡ child a b m + child (a + m) (b + m) n

pub total_pairs-add : (f : ℕ → ℕ → ℕ) → AddsUp (total_pairs f)
total_pairs-add f a b m zero = rw (add-zero m) (omega arith)
total_pairs-add f a b m (suc n) =
    let same : m + suc n ≡ suc (m + n) = omega arith in
    let at : a + (m + n) ≡ a + m + n = omega arith in
    let at' : b + (m + n) ≡ b + m + n = omega arith in
    rw (same, at, at') (omega (arith, total_pairs-add f a b m n))

fixed_adds : (child : ℕ → ℕ → ℕ → ℕ) (width : ℕ) → AddsUp child → AddsUp (λ a b n. child (width * a) (width * b) (width * n))
fixed_adds child width add a b m n =
    rw (mul-add width m n, mul-add width a m, mul-add width b m) (add (width * a) (width * b) (width * m) (width * n))

mutual
  pub tally-adds : TallyAddsUp
  tally-adds (Null x) y a b m n = refl
  tally-adds (List' o p values v) (List' o' p' values' v') a b m n =
      total_pairs-add (pair_tally (λ i j k. tally values values' i j k) o v o' v') a b m n
  tally-adds (FixedSizeList' width len p values v) (FixedSizeList' width' len' p' values' v') a b m n =
      fixed_adds (λ i j k. tally values values' i j k) width (λ a b m n. tally-adds values values' a b m n) a b m n
  tally-adds (Struct' fields len p values v) (Struct' fields' len' p' values' v') a b m n =
      across-add values (items-the_row-AnyArray _ values') a b m n
  tally-adds (Dictionary' keys p values) (Dictionary' keys' p' values') a b m n =
      total_pairs-add (entry_tally (λ i j k. tally values values' i j k) keys keys') a b m n
  tally-adds (List' o p values v) _ a b m n = refl
  tally-adds (FixedSizeList' width len p values v) _ a b m n = refl
  tally-adds (Struct' fields len p values v) _ a b m n = refl
  tally-adds (Dictionary' keys p values) _ a b m n = refl
  tally-adds _ y a b m n = refl

  across-add : {c : _} (all : Row_of-AnyArray c) (others : List AnyArray) → AddsUp (tally_across all others)
  across-add end_of-AnyArray others a b m n = refl
  across-add (more_of-AnyArray first rest) [] a b m n = refl
  across-add (more_of-AnyArray first rest) (other ∷ others) a b m n =
      omega (arith, tally-adds first other a b m n, across-add rest others a b m n)
