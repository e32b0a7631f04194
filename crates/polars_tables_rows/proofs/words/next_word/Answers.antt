use Rattle.std.proofs.Common.{◌∙◌, sym}
use Rattle.polars_tables_rows.proofs.FirstWords.{words-first, words-last}
use Rattle.polars_tables_rows.proofs.words.next_word.Goals as goal

pub returns-then-not-is_empty-clause-word : goal.returns-then-not-is_empty-clause-word
returns-then-not-is_empty-clause-word c =
    c.parts.invariant.words ∙ words-first c.parts.rest.now c.in-Some.part c.in-Some.more c.in-Some.ensures.cases (sym c.is_empty.ensures ∙ c.if-not-is_empty.true)

pub returns-clause-word : goal.returns-clause-word
returns-clause-word c = c.parts.invariant.words ∙ words-last c.parts.rest.now c.in_default.ensures.cases (sym c.is_empty-2.ensures ∙ c.if-is_empty.false)
