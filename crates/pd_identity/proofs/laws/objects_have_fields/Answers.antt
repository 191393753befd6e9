use Rattle.pd_identity.proofs.Answers.{header_fields, id_header_fields, cable_fields}
use Rattle.pd_identity.proofs.laws.objects_have_fields.Goals as goal

pub returns : goal.returns
returns c = record { headers = header_fields; id_headers = id_header_fields; cables = cable_fields }
