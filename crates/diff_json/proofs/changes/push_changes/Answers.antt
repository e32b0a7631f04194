use Rattle.std.proofs.Common.{◌∙◌, ◌+◌, cond, ap, sym, refl, arith}
use Rattle.std.proofs.lemmas.List.{append-nil}
use Rattle.std.specs.Prelude.{codes}
use Rattle.diff_words.specs.Lists.{listed}
use Rattle.diff_words.proofs.ListLemmas.{kept_count, kept_within, kept_written}
use Rattle.diff_report.specs.Pairs.{is_apart}
use Rattle.diff_report.specs.Sides.{naming_of, row_of}
use Rattle.diff_json.specs.Changes.{change_member}
use Rattle.diff_json.proofs.changes.push_changes.Goals as goal

pub loop-column-init : goal.loop-column-init
unfolding listed
loop-column-init c = record { text = sym (append-nil c.args.out.now.items); count = refl }

pub push_if_changed-requires : goal.push_if_changed-requires
push_if_changed-requires c = record {
  sides = c.requires.sides;
  left = c.requires.left;
  right = c.requires.right;
  column = omega (arith, c.requires.sides.left.width);
  room = omega (arith, kept_within (is_apart c.args.sides.now c.args.i c.args.j) c.loop-column.column, c.loop-column.invariant.count);
}

pub loop-column-preserved : goal.loop-column-preserved
loop-column-preserved c =
    let left = row_of c.args.sides.now.left c.args.i in
    let right = row_of c.args.sides.now.right c.args.j in
    record {
      text = kept_written (codes ",") (change_member (naming_of c.args.sides.now) left right) (is_apart c.args.sides.now c.args.i c.args.j) c.args.out.now.items _ _ c.loop-column.column _
          c.loop-column.invariant.count c.loop-column.invariant.text c.in_ok-written.ensures.text;
      count = c.in_ok-written.ensures.count
          ∙ (ap (λ n. n + cond (is_apart c.args.sides.now c.args.i c.args.j c.loop-column.column) 1 0) c.loop-column.invariant.count ∙ sym (kept_count (is_apart c.args.sides.now c.args.i c.args.j) c.loop-column.column));
    }
