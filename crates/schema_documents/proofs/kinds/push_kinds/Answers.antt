use Rattle.schema_documents.specs.Changes.{kind_words}
use Rattle.schema_documents.proofs.KindLemmas.{no_words}
use Rattle.schema_documents.proofs.kinds.push_kinds.Goals as goal

pub returns : goal.returns
unfolding kind_words
returns c =
    let old = c.args.out.now.items in
    let none = no_words c.args.between.now old in
    let three = c.in_ok-numbers.ensures old _ (c.in_ok-truths.ensures old _ (c.in_ok-nulls.ensures old _ none)) in
    let all = c.in_ok-push_kind.ensures old _ (c.in_ok-objects.ensures old _ (c.in_ok-texts.ensures old _ three)) in
    all.text_is
