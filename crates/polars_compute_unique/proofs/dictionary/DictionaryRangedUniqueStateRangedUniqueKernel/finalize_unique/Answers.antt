use Rattle.std.proofs.Common.{◌≡◌, ◌∙◌, ap, subst}
use Rattle.std.specs.Prelude.{Some, MatchResult}
use Rattle.std.proofs.lemmas.Result.{MatchResult-weaker}
use Rattle.polars_arrays_flat.specs.Row.{Int}
use Rattle.polars_arrays_nested.specs.Parts.{dictionary_keys}
use Rattle.polars_compute_slots.specs.State.{finalised, read_by}
use Rattle.polars_compute_unique.proofs.Keys.{keys-named, memory-final, read-named}
use Rattle.polars_compute_unique.specs.Dictionaries.{IsFinalFault, key_rows, names_null}
use Rattle.polars_compute_unique.specs.KeyState.{KeyState}
use Rattle.polars_compute_unique.proofs.dictionary.DictionaryRangedUniqueStateRangedUniqueKernel.finalize_unique.Goals as goal

pub keyed_array-requires-clause-named : goal.keyed_array-requires-clause-named
keyed_array-requires-clause-named c =
    let fed = c.self.inside.keys in
    let null = names_null c.self.inside.entries in
    record {
      named = keys-named c.in-Ok.keys.values c.in-Ok.keys.validity (read_by null fed) _ c.in-Ok.ensures.rows (read-named _ null fed c.in-Ok.ensures.entries);
    }

pub returns-in-Ok-clause-rows : goal.returns-in-Ok-clause-rows
returns-in-Ok-clause-rows c =
    subst
    (λ (s : KeyState). MatchResult c.keyed_array.result (λ array. key_rows (dictionary_keys array) ≡ finalised (λ v. Int v) (read_by (names_null s.entries) s.keys)) (IsFinalFault (Some s.entries) s.keys))
    c.self.view_is
    (MatchResult-weaker c.keyed_array.result c.keyed_array.ensures.keys
    (λ array is. ap key_rows is ∙ c.in-Ok.ensures.rows)
    (λ error memory. memory-final c.self.inside.entries c.self.inside.keys c.in-Ok.ensures.entries error memory))
