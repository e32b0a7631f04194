use Rattle.document_words.proofs.ReadLemmas.{key_reads, keys_tell}
use Rattle.document_words.proofs.laws.key_laws.Goals as goal

pub returns-clause-reads_back : goal.returns-clause-reads_back
returns-clause-reads_back c = key_reads

pub returns-clause-tell : goal.returns-clause-tell
returns-clause-tell c = keys_tell
