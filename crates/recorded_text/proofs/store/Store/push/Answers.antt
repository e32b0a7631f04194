use Rattle.std.proofs.lemmas.List.Elements.{All-push, All-same}
use Rattle.polars_arrays_nested.specs.GoodParts.{IsGood}
use Rattle.recorded_text.proofs.store.Store.push.Goals as goal

pub returns : goal.returns
returns c =
    All-same (λ named. IsGood named.array) _ _ c.in_ok-push.ensures.items
    (All-push (λ named. IsGood named.array) _ _ c.requires.arrays c.requires.array)
