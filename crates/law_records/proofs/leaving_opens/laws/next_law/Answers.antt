use Rattle.law_records.proofs.leaving_opens.All.{next_stands, one_more, one_more_records, plain_in_order}
use Rattle.law_records.proofs.leaving_opens.laws.next_law.Goals as goal

pub returns : goal.returns
returns c = record {
  ascending = plain_in_order;
  next = λ u os o more origin a h. (next_stands u os o more a h, one_more u os o, one_more_records u origin os o);
}
