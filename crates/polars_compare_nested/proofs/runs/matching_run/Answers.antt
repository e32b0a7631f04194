use Rattle.std.proofs.Common.{arith}
use Rattle.polars_compare_nested.proofs.KnownLists.{known_behind, none_known}
use Rattle.polars_compare_nested.proofs.ListRuns.{match_none}
use Rattle.polars_compare_nested.proofs.MatchBits.{end_apart, leading_match, match_append}
use Rattle.polars_compare_nested.proofs.runs.matching_run.Goals as goal

pub returns-then-rows-matches-clause-apart : goal.returns-then-rows-matches-clause-apart
returns-then-rows-matches-clause-apart c none =
    let known = c.learn.ensures.known in
    let rows = c.leading_bits-rows.result in (
      omega (arith, none, c.skip.ensures.len, c.if-rows-matches.true),
      match_none c.args.left.now c.args.right.now c.args.a c.args.b rows none
          (end_apart c.args.left.now c.args.right.now c.args.a c.args.b c.learn.new.self.len c.learn.new.self.word rows known.tell c.if-rows-matches.true (c.leading_bits-rows.ensures.end c.if-rows-matches.true)),
    )

pub returns-then-rows-matches-clause-known : goal.returns-then-rows-matches-clause-known
returns-then-rows-matches-clause-known c =
    known_behind c.args.left.now c.args.a c.args.right.now c.args.b c.args.n c.leading_bits-rows.result c.learn.new.self c.skip.new.self c.learn.ensures.known c.leading_bits-rows.ensures.within c.skip.ensures.len c.skip.ensures.bits

pub returns-clause-matching : goal.returns-clause-matching
returns-clause-matching c =
    match_append c.args.left.now c.args.right.now c.args.a c.args.b c.leading_bits-rows.result c.run_length.result
    (leading_match c.args.left.now c.args.right.now c.args.a c.args.b c.learn.new.self.len c.learn.new.self.word c.leading_bits-rows.result c.learn.ensures.known.tell c.leading_bits-rows.ensures.within c.leading_bits-rows.ensures.ones)
    c.run_length.ensures.matching

pub learn-requires : goal.learn-requires
learn-requires c = record {
  left_good = c.requires.left_good;
  right_good = c.requires.right_good;
  some = c.requires.some;
  left_in = c.requires.left_in;
  right_in = c.requires.right_in;
  known = c.requires.known;
}

pub returns-then-rows-matches-clause-matching : goal.returns-then-rows-matches-clause-matching
returns-then-rows-matches-clause-matching c =
    leading_match c.args.left.now c.args.right.now c.args.a c.args.b c.learn.new.self.len c.learn.new.self.word c.leading_bits-rows.result c.learn.ensures.known.tell c.leading_bits-rows.ensures.within c.leading_bits-rows.ensures.ones

pub returns-clause-apart : goal.returns-clause-apart
returns-clause-apart c none = absurd (omega (arith, none, c.learn.ensures.some, c.if-rows-matches.false))

pub returns-clause-known : goal.returns-clause-known
returns-clause-known c = none_known _ _ _ _ _ _ c.none.ensures
