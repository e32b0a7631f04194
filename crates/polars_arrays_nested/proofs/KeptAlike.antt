-- Each window of an array is kept alike with itself.
use Rattle.std.proofs.Common.{◌+◌, ◌*◌, ℕ, refl}
use Rattle.polars_arrays_nested.specs.DictKeys.{key_at}
use Rattle.polars_arrays_nested.specs.KeptAlike.{AcrossAlike, KeptAlike}
use Rattle.polars_arrays_nested.specs.ListOffsets.{offset_at, span}
use Rattle.polars_arrays_nested.specs.declared.any_array.AnyArray.{AnyArray, List', FixedSizeList', Struct', Dictionary', Row_of-AnyArray, end_of-AnyArray, more_of-AnyArray}

mutual
  pub alike-same : (a : AnyArray) (i n : ℕ) → KeptAlike a a i i n
  alike-same (List' offsets p values validity) i n = λ k low. record {
    masks = refl;
    spans = refl;
    items = alike-same values (offset_at offsets (i + k)) (span offsets (i + k));
  }
  alike-same (FixedSizeList' width len p values validity) i n =
      (refl, alike-same values (width * i) (width * n))
  alike-same (Struct' fields len p values validity) i n = across-same values i n
  alike-same (Dictionary' keys p values) i n = λ k low. record {
    masks = refl;
    entries = λ here. alike-same values (key_at keys (i + k)) 1;
  }
  alike-same _ i n = tt

  across-same : {m : _} (all : Row_of-AnyArray m) (i n : ℕ) → AcrossAlike all all i i n
  across-same end_of-AnyArray i n = tt
  across-same (more_of-AnyArray first rest) i n = (alike-same first i n, across-same rest i n)
