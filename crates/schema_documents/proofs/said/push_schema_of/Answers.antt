use Rattle.std.specs.Prelude.{refl}
use Rattle.schema_documents.specs.Said.{form_text}
use Rattle.schema_documents.proofs.said.push_schema_of.Goals as goal

pub returns-clause-said : goal.returns-clause-said
returns-clause-said g c = λ text rest.
    (form_text c.args.form c.args.file.now c.in_ok-schema.schema, c.in_ok-push_form.ensures.ok, record { schema = c.in_ok-schema.schema; of_text = c.in_ok-schema.ensures text rest; is = refl })
