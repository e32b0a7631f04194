use Rattle.json_paths.proofs.OneLemmas.{one_path, one_pattern}
use Rattle.json_paths.proofs.WrittenLemmas.{each_has_a_text}
use Rattle.json_paths.proofs.laws.path_laws.Goals as goal

pub returns-clause-one_path : goal.returns-clause-one_path
returns-clause-one_path c = one_path

pub returns-clause-one_pattern : goal.returns-clause-one_pattern
returns-clause-one_pattern c = one_pattern

pub returns-clause-each_has_a_text : goal.returns-clause-each_has_a_text
returns-clause-each_has_a_text c = each_has_a_text
