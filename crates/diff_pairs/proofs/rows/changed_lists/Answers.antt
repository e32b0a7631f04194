use Rattle.std.proofs.Common.{◌∙◌, sym}
use Rattle.std.proofs.lemmas.Result.{MatchResult-weaker}
use Rattle.diff_pairs.specs.Cells.{strings_of}
use Rattle.diff_pairs.proofs.HeldLemmas.{named, rows_differ}
use Rattle.diff_pairs.proofs.rows.changed_lists.Goals as goal

pub changed_pairs-requires : goal.changed_pairs-requires
changed_pairs-requires c =
    let (count, strings, left, within) = c.requires.left in
    let right = c.in-Ok.ensures in
    record {
      left_good = left.good;
      right_good = right.good;
      one_type = left.kind ∙ sym right.kind;
      one_length = c.requires.one_length;
      left_within = named _ c.args.left_rows.items left within;
      right_within = named _ c.args.right_rows.items right c.requires.right_within;
    }

pub returns-in-Ok : goal.returns-in-Ok
returns-in-Ok c =
    MatchResult-weaker c.changed_pairs.result c.changed_pairs.ensures
    (λ changed listed count strings left within. rows_differ strings (strings_of c.args.right.cells) _ _ _ _ _ left c.in-Ok.ensures c.requires.one_length within c.requires.right_within listed) (λ error memory. memory)
