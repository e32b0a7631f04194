use Rattle.std.proofs.Common.{◌++◌, ◌∷◌, [], arith}
use Rattle.std.proofs.lemmas.List.{length_push}
use Rattle.std.proofs.lemmas.Result.{err_from_is_err_and}
use Rattle.csv.specs.Records.{fields_of}
use Rattle.diff_csv.proofs.source.read_rows.Goals as goal

pub loop-number-init : goal.loop-number-init
loop-number-init g c = record {
  given = [];
  held = c.in_ok-rows.ensures c.args.wanted.now.columns.now c.args.wanted.now.keys.now c.args.wanted.now.part;
  count = omega arith;
  reading = λ options text h. h;
}

pub returns-in_err-line : goal.returns-in_err-line
returns-in_err-line g c =
    let before = c.loop-number.invariant in
    let p = err_from_is_err_and c.from_residual-in_err-line.result c.from_residual-in_err-line.ensures.1 in
    rw (p.1, p.2) (λ options text h. c.in_err-line.ensures.told options text before.given (before.reading options text h))

pub returns-in_default : goal.returns-in_default
returns-in_default g c =
    let before = c.loop-number.invariant in
    record {
      rows = before.given;
      held = before.held;
      all = λ options text h. rw c.in_default.is at (c.in_ok-line.ensures.told options text before.given (before.reading options text h));
    }

pub returns-in_err-push : goal.returns-in_err-push
returns-in_err-push g c =
    let p = err_from_is_err_and c.from_residual-in_err-push.result c.from_residual-in_err-push.ensures.1 in
    rw (p.1, p.2) (λ options text h. tt)

pub loop-number-preserved : goal.loop-number-preserved
loop-number-preserved g c =
    let before = c.loop-number.invariant in
    let next = fields_of c.read.new.row.value in
    record {
      given = before.given ++ next ∷ [];
      held = rw c.deref.ensures at (c.in_ok-push.ensures before.given before.count before.held);
      count = omega (arith, before.count, length_push before.given next);
      reading = λ options text h. rw c.in-Some.is at (c.in_ok-line.ensures.told options text before.given (before.reading options text h));
    }
