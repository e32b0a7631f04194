use Rattle.json_decimals.proofs.EqualLemmas.{one_form, passes}
use Rattle.json_decimals.proofs.NormalLemmas.{has_form, forms_tell}
use Rattle.json_decimals.proofs.TextLemmas.{reads_back, texts_tell}
use Rattle.json_decimals.proofs.laws.decimal_laws.Goals as goal

pub returns-clause-passes_on : goal.returns-clause-passes_on
returns-clause-passes_on c = passes

pub returns-clause-normal_is_equal : goal.returns-clause-normal_is_equal
returns-clause-normal_is_equal c = has_form

pub returns-clause-one_normal_form : goal.returns-clause-one_normal_form
returns-clause-one_normal_form c = one_form

pub returns-clause-normal_forms_tell : goal.returns-clause-normal_forms_tell
returns-clause-normal_forms_tell c = forms_tell

pub returns-clause-text_reads_back : goal.returns-clause-text_reads_back
returns-clause-text_reads_back c = reads_back

pub returns-clause-normal_texts_tell : goal.returns-clause-normal_texts_tell
returns-clause-normal_texts_tell c = texts_tell
