use Rattle.law_wire.proofs.messages.Faults.{no_part_fault, part_stands, no_count_fault, list_stands}
use Rattle.law_wire.proofs.messages.table.part_law.Goals as goal

pub returns-clause-part : goal.returns-clause-part
returns-clause-part c = no_part_fault

pub returns-clause-given_part : goal.returns-clause-given_part
returns-clause-given_part c = part_stands

pub returns-clause-list : goal.returns-clause-list
returns-clause-list c = no_count_fault

pub returns-clause-given_list : goal.returns-clause-given_list
returns-clause-given_list c = list_stands
