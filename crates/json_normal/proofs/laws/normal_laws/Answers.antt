use Rattle.json_normal.proofs.DepthLemmas.{text_is_document}
use Rattle.json_normal.proofs.LawLemmas.{reordered}
use Rattle.json_normal.proofs.SameLemmas.{forms_tell}
use Rattle.json_normal.proofs.TextLemmas.{texts_tell}
use Rattle.json_normal.proofs.WholeLemmas.{read_whole}
use Rattle.json_normal.proofs.laws.normal_laws.Goals as goal

pub returns-clause-members_in_any_order : goal.returns-clause-members_in_any_order
returns-clause-members_in_any_order c = reordered

pub returns-clause-normal_forms_tell : goal.returns-clause-normal_forms_tell
returns-clause-normal_forms_tell c = forms_tell

pub returns-clause-normal_texts_tell : goal.returns-clause-normal_texts_tell
returns-clause-normal_texts_tell c = texts_tell

pub returns-clause-text_reads_back : goal.returns-clause-text_reads_back
returns-clause-text_reads_back c = text_is_document

pub returns-clause-numbers_are_read_whole : goal.returns-clause-numbers_are_read_whole
returns-clause-numbers_are_read_whole c = read_whole
