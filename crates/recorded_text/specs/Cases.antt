-- The arrays of a case.
use Rattle.std.specs.List.{All}
use Rattle.polars_arrays_nested.specs.GoodParts.{IsGood}
use Rattle.recorded_text.specs.declared.store.Store.{Store}

-- all named arrays are made of good parts
abbrev pub HasGoodArrays : Store → Type 0
HasGoodArrays store = All (λ named. IsGood named.array) store.arrays.items
