use Rattle.law_records.proofs.fold.Created.{path_of_form, form_of_path}
use Rattle.law_records.proofs.fold.laws.form_law.Goals as goal

pub returns : goal.returns
returns c = record { path = path_of_form; form = form_of_path }
