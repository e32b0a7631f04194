use Rattle.std.proofs.Common.{ap}
use Rattle.std.specs.Prelude.{option_copied}
use Rattle.document_rows.proofs.KnownLemmas.{some_documents}
use Rattle.document_rows.proofs.known.Known.guesses_for.Goals as goal

pub likely_rows-requires : goal.likely_rows-requires
likely_rows-requires c =
    let (reading, keys, knows) = c.requires in
    some_documents reading keys c.in-Some.table.now (knows c.in-Some.table.now (ap option_copied c.in-Some.is))
