use Rattle.std.proofs.Common.{◌∙◌, sym}
use Rattle.std.proofs.lemmas.Result.{MatchResult-weaker}
use Rattle.diff_tables.proofs.CompareLemmas.{named_lent, rows_differ}
use Rattle.diff_tables.proofs.compare.changed_rows.Goals as goal

pub changed_rows-requires : goal.changed_rows-requires
changed_rows-requires c = record {
  left = c.lent.ensures.whole;
  right = c.lent-2.ensures.whole;
  width = c.lent.ensures.width ∙ (c.requires.width ∙ sym c.lent-2.ensures.width);
  one_length = c.requires.pairs.one_length;
  left_within = named_lent _ _ c.args.left_rows.items c.lent.ensures c.requires.pairs.left_within;
  right_within = named_lent _ _ c.args.right_rows.items c.lent-2.ensures c.requires.pairs.right_within;
}

pub returns : goal.returns
returns c =
    MatchResult-weaker c.changed_rows.result c.changed_rows.ensures
    (λ changed listed. rows_differ _ _ _ _ _ _ _ c.lent.ensures c.lent-2.ensures (c.lent.ensures.width ∙ (c.requires.width ∙ sym c.lent-2.ensures.width)) c.requires.pairs listed) (λ error memory. memory)
