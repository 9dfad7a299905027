use Rattle.std.proofs.Common.{◌≡◌, drop}
use Rattle.law_records.specs.leaving_opens.Since.{all_gone}
use Rattle.server_effects.specs.leaving_opens.Left.{went_with}
use Rattle.server_effects.proofs.leaving_opens.leaving.Leaving.have_gone.Given as goal

abbrev pub invariant-loop-file : goal.invariant-loop-file
invariant-loop-file l = all_gone (went_with l.self) (drop l.file-index l.files) ≡ all_gone (went_with l.self) l.files
