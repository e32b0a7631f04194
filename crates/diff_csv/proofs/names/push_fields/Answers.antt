use Rattle.std.proofs.Common.{◌∙◌, ◌++◌, take, ap, subst}
use Rattle.std.proofs.lemmas.List.{append-nil, take_all}
use Rattle.csv.specs.Records.{fields_of}
use Rattle.diff_tables.specs.Strings.{AreStrings}
use Rattle.diff_csv.proofs.NameLemmas.{no_field, one_field}
use Rattle.diff_csv.proofs.names.push_fields.Goals as goal

pub loop-field-init : goal.loop-field-init
loop-field-init c =
    let start = c.into_iter-field-iterator.ensures.into_iter_gives in
    record {
      row = rw start c.iter-field-items.ensures.row;
      pushed = λ all old. rw (start, c.iter-field-items.ensures.at, append-nil) old;
    }

pub loop-field-preserved : goal.loop-field-preserved
loop-field-preserved c =
    let step = c.in-Some.ensures.steps in
    let before = c.loop-field.invariant in
    record {
      row = ap (λ r. r.now) step.0 ∙ before.row;
      pushed = λ all old.
          let one = one_field all (fields_of c.args.row.now) c.loop-field.field-iterator.at c.next.new.self.at c.in-Some.field.now (rw before.row at step.1) step.2 in
          subst (λ s. AreStrings c.push.new.self s) one (c.in_ok-push.ensures (all ++ take c.loop-field.field-iterator.at (fields_of c.args.row.now)) (before.pushed all old));
    }

pub returns : goal.returns
returns c = λ all old.
    let before = c.loop-field.invariant in
    let past = no_field (fields_of c.args.row.now) c.loop-field.field-iterator.at (rw before.row at c.in-None.ensures.steps.1) in
    subst (λ s. AreStrings c.loop-field.strings (all ++ s)) (take_all c.loop-field.field-iterator.at (fields_of c.args.row.now) past) (before.pushed all old)
