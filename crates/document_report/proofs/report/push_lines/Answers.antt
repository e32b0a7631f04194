use Rattle.std.proofs.Common.{arith}
use Rattle.diff_report.proofs.LineLemmas.{lines_written}
use Rattle.diff_report.specs.declared.lines.Alone.TheVariants.{Removed, Added}
use Rattle.document_words.specs.Lines.{document_alone}
use Rattle.document_report.specs.Pairs.{pair_at}
use Rattle.document_report.proofs.report.push_lines.Goals as goal

pub returns : goal.returns
returns c =
    let s = c.args.sides.now in
    let m = c.args.matching.now in
    let format = c.args.format in
    lines_written (pair_at format s m) (document_alone format Removed s s.left) (document_alone format Added s s.right) c.args.out.now.items _ _ _ c.args.limit _ _ c.args.changed.now m.removed.items _ m.added.items _
    c.in_ok-push_pairs.ensures c.in_ok-push_documents_alone.ensures c.in_ok-push_documents_alone-2.ensures c.deref.ensures.value c.deref-2.ensures.value (omega arith) (omega arith)
