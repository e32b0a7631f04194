-- Worked examples of texts.
use Rattle.std.proofs.Common.{inl, inr, arith}
use Rattle.std.specs.Prelude.{◌≡◌, ◌≢◌, ◌<◌, ◌^◌, [], ◌∷◌, map, codes, refl}
use Rattle.json.specs.Json.{value}
use Rattle.json.specs.Lex.{lex, punctuate}
use Rattle.json.specs.Text.{content}
use Rattle.json_paths.specs.Paths.{Path, name, place}
use Rattle.json_paths.specs.Patterns.{Pattern, PatternStep, exactly, any_item}
use Rattle.json_paths.specs.Texts.{IsPathText, IsPatternText, IsNoPath, IsNoPattern}
use Rattle.json_paths.proofs.OneLemmas.{one_pattern}
use Rattle.json_paths.proofs.StepLemmas.{no_plain}

some : (s : PatternStep) (steps : Pattern) → s ∷ steps ≢ []
some s steps e = absurd (cc)

one : 0 < 1
one = omega arith

five : 0 < 5
five = omega arith

small : 0 < 10
small = omega arith

fits : 0 < 2 ^ 64
fits = omega arith

-- a.b[0]
two-names : IsPathText (codes "a.b[0]") (name (codes "a") ∷ name (codes "b") ∷ place 0 ∷ [])
two-names = (
  some _ _,
  (
    codes ".a",
    codes ".b[0]",
    refl,
    (codes "a", refl, inl (refl, (one, (refl, tt)))),
    (
      codes ".b",
      codes "[0]",
      refl,
      (codes "b", refl, inl (refl, (one, (refl, tt)))),
      (codes "[0]", [], refl, (codes "0", refl, ((one, (small, tt)), refl, fits)), refl),
    ),
  ),
)

-- the same with its first dot
dotted : IsPathText (codes ".a.b[0]") (name (codes "a") ∷ name (codes "b") ∷ place 0 ∷ [])
dotted = two-names

-- ."a.b"
quoted-name : IsPathText (codes ".\"a.b\"") (name (codes "a.b") ∷ [])
unfolding value punctuate lex content
quoted-name = (some _ _, (codes ".\"a.b\"", [], refl, (codes "\"a.b\"", refl, inr (codes "a.b", refl, refl)), refl))

-- items[].price
any-price : IsPatternText (codes "items[].price") (exactly (name (codes "items")) ∷ any_item ∷ exactly (name (codes "price")) ∷ [])
any-price = (
  some _ _,
  (
    codes ".items",
    codes "[].price",
    refl,
    (codes "items", refl, inl (refl, (five, (refl, (refl, (refl, (refl, (refl, tt)))))))),
    (
      codes "[]",
      codes ".price",
      refl,
      refl,
      (codes ".price", [], refl, (codes "price", refl, inl (refl, (five, (refl, (refl, (refl, (refl, (refl, tt)))))))), refl),
    ),
  ),
)

-- [] is the step to any item, and so no path
no-place : IsNoPath (codes "[]")
no-place path h = none path (one_pattern (codes "[]") _ _ h (some _ _, (codes "[]", [], refl, refl, refl)))
  where
    none : (path : Path) → map exactly path ≡ any_item ∷ [] → ⊥
    none [] e = absurd (cc)
    none (s ∷ path) e = absurd (cc)

-- a name has a byte at least
lone-dot : IsNoPattern (codes ".")
lone-dot pattern h = no_plain [] refl (λ e. omega arith) pattern h.1
