use Rattle.schema_report.proofs.SameLemmas.{all_the_same, nothing_written}
use Rattle.schema_report.proofs.laws.own_schema_law.Goals as goal

pub returns-clause-counts : goal.returns-clause-counts
returns-clause-counts g c = all_the_same g.S.SchemaPart.name_of g.S.SchemaPart.same_kinds c.requires.own_kinds

pub returns-clause-text : goal.returns-clause-text
returns-clause-text g c = nothing_written g.S.SchemaPart.name_of g.S.SchemaPart.same_kinds c.requires.own_kinds
