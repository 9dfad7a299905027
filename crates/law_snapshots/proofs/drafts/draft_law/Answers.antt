use Rattle.law_snapshots.proofs.drafts.Whole.{done, given_up, goes_on, settles, whole}
use Rattle.law_snapshots.proofs.drafts.draft_law.Goals as goal

pub returns : goal.returns
returns c = record { whole = whole; done = done; given_up = given_up; goes_on = goes_on; settles = settles }
