use Rattle.server_plan.proofs.owed_records.create.final_attributes.Goals as goal

pub returns-in-Some : goal.returns-in-Some
returns-in-Some c = λ s t i. rw c.in-Some.is (c.kept_attributes.ensures s t (i c.in-Some.file c.in-Some.is))

pub returns-in-None : goal.returns-in-None
returns-in-None c = λ s t i. rw c.in-None.is c.made_attributes.ensures
