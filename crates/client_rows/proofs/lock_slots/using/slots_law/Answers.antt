use Rattle.client_rows.proofs.lock_slots.Showing.{begins, filled_other, taken_other, tried_other}
use Rattle.client_rows.proofs.lock_slots.Staying.{answers, attaches, binds, cuts, ends, fresh, keeps, settles, slotless}
use Rattle.client_rows.proofs.lock_slots.Staying.{starts, submits, unfilled}
use Rattle.client_rows.proofs.lock_slots.using.slots_law.Goals as goal

pub returns : goal.returns
returns c = record {
  taken = taken_other;
  tried = tried_other;
  filled = filled_other;
  begins = begins;
  starts = starts;
  fresh = fresh;
  keeps = keeps;
  submits = submits;
  slotless = slotless;
  cuts = cuts;
  binds = binds;
  settles = settles;
  unfilled = unfilled;
  answers = answers;
  attaches = attaches;
  ends = ends;
}
