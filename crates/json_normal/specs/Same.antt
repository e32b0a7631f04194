-- The rules by which two JSON values are the same: numbers are compared by their values, and
-- members may stand in any order.
--
-- {"a": 1.0, "b": 2} and {"b": 2, "a": 1} are the same.
-- {"a": 1} and {"a": 1, "b": 2} are not, and neither are [1, 2] and [2, 1].
use Rattle.std.specs.Prelude.{◌≡◌, ℕ, ◌⊎◌, List, ⊤}
use Rattle.json.specs.Json.{Json, null, boolean, number, string, array, object, Items, no_items}
use Rattle.json.specs.Json.{item, Members, no_members, member}
use Rattle.json_decimals.specs.Decimals.{AreEqual, decimal_of}

-- a member has this name, and its value has this property
abbrev pub HasMember : List ℕ → (Json → Type 0) → Members → Type 0
HasMember name Such no_members = ⊥
HasMember name Such (member k j ms) = ((name ≡ k) × Such j) ⊎ HasMember name Such ms

-- each name of the first members is one of the second
abbrev pub HaveNamesIn : Members → Members → Type 0
HaveNamesIn no_members ns = ⊤
HaveNamesIn (member k j ms) ns = HasMember k (λ _. ⊤) ns × HaveNamesIn ms ns

abbrev mutual
  -- two values are the same
  pub AreSame : Json → Json → Type 0
  AreSame null null = ⊤
  AreSame (boolean a) (boolean b) = a ≡ b
  AreSame (number s) (number t) = AreEqual (decimal_of s) (decimal_of t)
  AreSame (string s) (string t) = s ≡ t
  AreSame (array js) (array ks) = ItemsAreSame js ks
  AreSame (object ms) (object ns) = EachIsIn ms ns × HaveNamesIn ns ms
  AreSame j k = ⊥

  -- there is the same number of items on both sides, and each is the same as the one at its place
  pub ItemsAreSame : Items → Items → Type 0
  ItemsAreSame no_items no_items = ⊤
  ItemsAreSame (item j js) (item k ks) = AreSame j k × ItemsAreSame js ks
  ItemsAreSame js ks = ⊥

  -- each of the first members has the same value among the second, under its name
  pub EachIsIn : Members → Members → Type 0
  EachIsIn no_members ns = ⊤
  EachIsIn (member k j ms) ns = HasMember k (λ i. AreSame j i) ns × EachIsIn ms ns
