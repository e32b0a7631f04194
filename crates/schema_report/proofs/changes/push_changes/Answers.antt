use Rattle.std.proofs.Common.{◌++◌, []}
use Rattle.schema_report.specs.Changes.{change_text, lone_text, texts_of}
use Rattle.schema_report.proofs.ChangeLemmas.{text_appended}
use Rattle.schema_report.proofs.changes.push_changes.Goals as goal

pub loop-i-preserved : goal.loop-i-preserved
loop-i-preserved g c =
    text_appended
    (change_text g.S.SchemaPart.name_of g.S.SchemaPart.same_kinds (g.F.ChangeForm.alone c.args.form.now) (g.F.ChangeForm.changed c.args.form.now) c.args.right.now)
    c.args.left.now c.loop-i.i c.index-left-i.result c.args.out.now.items c.loop-i.out.items c.push_change.new.out.items
    c.loop-i-test.true c.index-left-i.is c.loop-i.invariant c.in_ok-push_change.ensures

pub loop-i-2-preserved : goal.loop-i-2-preserved
loop-i-2-preserved g c =
    text_appended
    (lone_text g.S.SchemaPart.name_of (g.F.ChangeForm.alone c.args.form.now) c.args.left.now)
    c.args.right.now c.loop-i-2.i c.index-right-i.result
    (c.args.out.now.items ++ texts_of (change_text g.S.SchemaPart.name_of g.S.SchemaPart.same_kinds (g.F.ChangeForm.alone c.args.form.now) (g.F.ChangeForm.changed c.args.form.now) c.args.right.now) [] c.args.left.now)
    c.loop-i-2.out.items c.push_lone.new.out.items
    c.loop-i-2-test.true c.index-right-i.is c.loop-i-2.invariant c.in_ok-push_lone.ensures
