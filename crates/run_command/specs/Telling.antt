-- What `run` prints of its client behind the last event.
use Rattle.std.specs.Prelude.{◌≡◌, ℕ, Bool, true, false, List, length, map}
use Rattle.std.specs.List.{list_any}
use Rattle.spec_exchange.specs.Operations.{Outcome, Unsettled, Unknown}
use Rattle.client_values.specs.outcomes.Meaning.{dialog_of, outcome_of}
use Rattle.client_values.specs.declared.operations.values.OpKind.{OpKind}
use Rattle.client_values.specs.declared.outcomes.outcome.Outcome.{Outcome as Settled}
use Rattle.client_values.specs.declared.outcomes.outcome.RefusedDialog.{RefusedDialog as Refused}
use Rattle.script_words.specs.outcome_lines.Text.{run_text}
use Rattle.store_files.specs.declared.file_tree.files.StoredFile.{StoredFile}
use Rattle.run_command.specs.Listing.{receipt_orders}
use Rattle.run_command.specs.MadeFiles.{AreByPath, made_files}

-- the text of refused dialogs, of operations and how each settled, and of the order in which responses settled them
pub record IsReceipt (dialogs : List Refused) (ops : List OpKind) (outcomes : List Settled) (order text : List ℕ) : Type 0 where
  pub files : List StoredFile
  pub by_path : AreByPath (made_files ops outcomes order (length ops)) files
  pub is : text ≡ run_text (map dialog_of dialogs) (map outcome_of outcomes) (receipt_orders ops outcomes order (length ops)) files

-- it is printed as `unknown`
abbrev pub is_told_unknown : Outcome → Bool
is_told_unknown Unsettled = true
is_told_unknown (Unknown why) = true
is_told_unknown _ = false

-- one of them at least
abbrev pub leaves_unknown : List Settled → Bool
leaves_unknown outcomes = list_any (λ outcome. is_told_unknown (outcome_of outcome)) outcomes
