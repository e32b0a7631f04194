-- The words of a text, from its first part on.
use Rattle.std.proofs.Common.{◌≡◌, ◌∙◌, ◌==◌, ℕ, Bool, false, not, cond, List, [], ◌∷◌, Some, None, Bor, length, filter, ap, arith, lit<}
use Rattle.std.specs.List.{slice_split}
use Rattle.std.proofs.lemmas.List.Splits.{slice_split_first, slice_split_none}
use Rattle.std.proofs.lemmas.List.Sums.{fails_before_first}
use Rattle.std.proofs.lemmas.Str.Pattern.{IsSplitOnceResult, split_once_first}
use Rattle.polars_tables_rows.specs.Word.{words_of}

abbrev is_space : ℕ → Bool
is_space c = c == 32

abbrev kept : List (List ℕ) → List (List ℕ)
kept parts = filter (λ part. not (length part == 0)) parts

some-word : (part : List ℕ) (parts : List (List ℕ)) → (length part == 0) ≡ false → kept (part ∷ parts) ≡ part ∷ kept parts
some-word part parts e = ap (λ (b : Bool). cond (not b) (part ∷ kept parts) (kept parts)) e

module _ (text : List ℕ) (part more : Bor (List ℕ)) (split : IsSplitOnceResult 32 text (Some (part, more))) where
  cut : slice_split is_space text ≡ part.now ∷ slice_split is_space more.now
  cut =
      let first = split_once_first 32 text (Some (part, more)) split (lit< tt) in
      rw (first.1, first.2) (slice_split_first is_space text 0 first.0)

  -- the first part is a word
  pub words-first : (length part.now == 0) ≡ false → words_of text ≡ part.now ∷ words_of more.now
  words-first e = ap kept cut ∙ some-word part.now (slice_split is_space more.now) e

whole : (text : List ℕ) → IsSplitOnceResult 32 text None → slice_split is_space text ≡ text ∷ []
whole text split =
    let past = split_once_first 32 text None split (lit< tt) in
    slice_split_none is_space text (λ k d below. fails_before_first is_space text k d (omega (arith, past, below)))

-- the whole text is a word
pub words-last : (text : List ℕ) → IsSplitOnceResult 32 text None → (length text == 0) ≡ false → words_of text ≡ text ∷ []
words-last text split e = ap kept (whole text split) ∙ some-word text [] e
