-- Columns of dialogs are none of those that a table keeps.
use Rattle.std.proofs.Common.{ℕ}
use Rattle.spec_exchange.specs.State.{Reply}
use Rattle.spec_exchange.specs.Client.{Client, Stage, leave_dialog}
use Rattle.spec_exchange.specs.Dialogs.{accepted, open_channel, went_on}
use Rattle.law_client.specs.table.Kept.{TableKept}

pub begun : (c : Client) (k : ℕ) → TableKept c → TableKept (open_channel c k)
begun c k i = record { ordered = i.ordered; stands = i.stands; ready = i.ready }

pub gone_on : (c : Client) (k : ℕ) (stage : Stage) (r : Reply) → TableKept c → TableKept (went_on c k stage r)
gone_on c k stage r i = record { ordered = i.ordered; stands = i.stands; ready = i.ready }

pub taken : (c : Client) (k : ℕ) → TableKept c → TableKept (accepted c k)
taken c k i = record { ordered = i.ordered; stands = i.stands; ready = i.ready }

pub left : (c : Client) (k : ℕ) → TableKept c → TableKept (leave_dialog c k)
left c k i = record { ordered = i.ordered; stands = i.stands; ready = i.ready }
