use Rattle.std.proofs.Common.{◌≡◌, ◌++◌, [], take}
use Rattle.schema_report.specs.Changes.{change_text, lone_text, texts_of}
use Rattle.schema_report.proofs.changes.push_changes.Given as goal

abbrev pub invariant-loop-i : goal.invariant-loop-i
invariant-loop-i g l = l.out.items ≡ l.fn.out.items ++ texts_of (change_text g.S.SchemaPart.name_of g.S.SchemaPart.same_kinds (g.F.ChangeForm.alone l.form) (g.F.ChangeForm.changed l.form) l.right) [] (take l.i l.left)

abbrev pub invariant-loop-i-2 : goal.invariant-loop-i-2
invariant-loop-i-2 g l =
    l.out.items ≡ (l.fn.out.items ++ texts_of (change_text g.S.SchemaPart.name_of g.S.SchemaPart.same_kinds (g.F.ChangeForm.alone l.form) (g.F.ChangeForm.changed l.form) l.right) [] l.left)
    ++ texts_of (lone_text g.S.SchemaPart.name_of (g.F.ChangeForm.alone l.form) l.left) [] (take l.i l.right)
