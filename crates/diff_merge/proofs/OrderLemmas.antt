-- The order of keys.
use Rattle.std.proofs.Common.{◌≡◌, ◌∙◌, ◌⊎◌, ℕ, true, false, List, sym, ap, refl, inl, inr}
use Rattle.std.proofs.lemmas.Cmp.{nat_list_cmp_total}
use Rattle.std.proofs.lemmas.Map.Lookups.{exact_bytes}
use Rattle.std.specs.Cmp.Lexicographic.{slice_cmp}
use Rattle.std.specs.Ordering.{is_lt, nat_cmp, ordering_reverse}
use Rattle.std.specs.declared.cmp.Ordering.{Ordering}
use Rattle.std.specs.declared.cmp.Ordering.TheVariants.{Less, Equal, Greater}
use Rattle.diff_joins.specs.Merge.{IsOrder}
use Rattle.diff_merge.specs.Order.{TellsKeys, key_less}

-- an answer that is its own reverse is not `Less`
own_reverse : (o : Ordering) → o ≡ ordering_reverse o → is_lt o ≡ false
own_reverse Less e = cc e
own_reverse Equal e = refl
own_reverse Greater e = refl

is_less : (o : Ordering) → is_lt o ≡ true → o ≡ Less
is_less Less h = refl
is_less Equal h = cc h
is_less Greater h = cc h

pub key_order : IsOrder key_less
key_order = record {
  irreflexive = λ a. own_reverse (slice_cmp nat_cmp a a) (nat_list_cmp_total.antisymm a a);
  transitive = λ a b c ab bc. ap is_lt (nat_list_cmp_total.trans a b c (is_less _ ab) (is_less _ bc));
}

-- what a comparison of two keys says
pub less_key : (a b : List ℕ) (o : Ordering) → o ≡ slice_cmp nat_cmp a b → o ≡ Less → key_less a b ≡ true
less_key a b o is h = ap is_lt (sym is ∙ h)

pub equal_key : (a b : List ℕ) (o : Ordering) → o ≡ slice_cmp nat_cmp a b → o ≡ Equal → a ≡ b
equal_key a b o is h = exact_bytes a b (sym is ∙ h)

pub greater_key : (a b : List ℕ) (o : Ordering) → o ≡ slice_cmp nat_cmp a b → o ≡ Greater → key_less b a ≡ true
greater_key a b o is h = ap is_lt (nat_list_cmp_total.antisymm b a ∙ ap ordering_reverse (sym is ∙ h))

-- of two keys one is less, or they are the same
pub tells_keys : TellsKeys
tells_keys a b = by (slice_cmp nat_cmp a b) refl
  where
    by : (o : Ordering) → o ≡ slice_cmp nat_cmp a b → (key_less a b ≡ true) ⊎ ((a ≡ b) ⊎ (key_less b a ≡ true))
    by Less is = inl (less_key a b Less is refl)
    by Equal is = inr (inl (equal_key a b Equal is refl))
    by Greater is = inr (inr (greater_key a b Greater is refl))
