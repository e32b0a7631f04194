-- Values whose numbers can be brought into their normal form.
--
-- 1e99 is narrow. 1e with 31 ones after it is not.
use Rattle.std.specs.Prelude.{◌≡◌, Ok, Err, Result, ⊤}
use Rattle.json.specs.Json.{Json, null, boolean, number, string, array, object, Items, no_items}
use Rattle.json.specs.Json.{item, Members, no_members, member}
use Rattle.json_decimals.specs.Texts.{HasWideExponent}
use Rattle.json_decimals.specs.declared.error.NumberError.{NumberError}
use Rattle.json_decimals.specs.declared.error.NumberError.TheVariants.{WideExponent}

abbrev mutual
  -- no number of a value has a wide exponent
  pub HasNarrowNumbers : Json → Type 0
  HasNarrowNumbers null = ⊤
  HasNarrowNumbers (boolean b) = ⊤
  HasNarrowNumbers (number s) = ¬ HasWideExponent s
  HasNarrowNumbers (string s) = ⊤
  HasNarrowNumbers (array js) = ItemsHaveNarrowNumbers js
  HasNarrowNumbers (object ms) = MembersHaveNarrowNumbers ms

  -- no number of an array's items has a wide exponent
  pub ItemsHaveNarrowNumbers : Items → Type 0
  ItemsHaveNarrowNumbers no_items = ⊤
  ItemsHaveNarrowNumbers (item j js) = HasNarrowNumbers j × ItemsHaveNarrowNumbers js

  -- no number of an object's members has a wide exponent
  pub MembersHaveNarrowNumbers : Members → Type 0
  MembersHaveNarrowNumbers no_members = ⊤
  MembersHaveNarrowNumbers (member k j ms) = HasNarrowNumbers j × MembersHaveNarrowNumbers ms

-- the numbers are narrow if a call succeeds, and are not narrow if it fails with `WideExponent`
abbrev pub TellsNarrow : {T : Type 0} → Result T NumberError → Type 0 → Type 0
TellsNarrow (Ok x) AreNarrow = AreNarrow
TellsNarrow (Err e) AreNarrow = e ≡ WideExponent → ¬ AreNarrow
