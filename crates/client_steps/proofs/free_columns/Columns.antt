-- The columns of dialogs, and the places of the messages that settled, are free.
use Rattle.std.proofs.Common.{◌+◌, ℕ, if◌then◌else◌, List, Option, Some}
use Rattle.base_lists.specs.declared.watch_lists.Link.{Link as Watch}
use Rattle.spec_exchange.specs.State.{Reply}
use Rattle.spec_exchange.specs.Table.{put}
use Rattle.spec_exchange.specs.Client.{AskedTree, Client, SaidNegotiate, Stage, leave_dialog, unmade, Apart}
use Rattle.spec_exchange.specs.Dialogs.{accepted, open_channel, told_session, went_on}
use Rattle.client_rows.specs.declared.operation_rows.row.Row.{Row}
use Rattle.client_tables.specs.declared.choice.finding.Attached.{Attached}
use Rattle.client_tables.specs.declared.opens.opening.Open.{Open}
use Rattle.client_rows.specs.Shown.{ShowsRows}
use Rattle.client_rows.specs.declared.session_state.session.Session.{Session}
use Rattle.client_rows.specs.session_state.Shown.{ClientShowsSession}
use Rattle.client_tables.specs.declared.whole_table.parts.Table.{Table}
use Rattle.client_tables.specs.whole_table.Shown.{TableBounds, ShowsTable}
use Rattle.client_tables.specs.declared.attached_opens.opened.Opened.{Opened}
use Rattle.client_steps.specs.submitting.Whole.{ShowsWhole}

-- with other columns of dialogs, and other places
abbrev other_client : Client → (ℕ → Stage) → Option ℕ → ℕ → ℕ → ℕ → (ℕ → ℕ) → (ℕ → Option ℕ) → Client
other_client c stage making pending last count rank places = record c {
  settled_by = places;
  stage = stage;
  making = making;
  pending = pending;
  accepted = last;
  accepted_count = count;
  rank = rank;
}

rows_stay : (rows : List Row) (holders prices : List ℕ) (watchers : List Watch) (c : Client) (stage : ℕ → Stage) (making : Option ℕ)
    (pending last count : ℕ) (rank : ℕ → ℕ) (places : ℕ → Option ℕ) → ShowsRows rows holders prices watchers c
    → ShowsRows rows holders prices watchers (other_client c stage making pending last count rank places)
rows_stay rows holders prices watchers c stage making pending last count rank places s =
    record { places = s.places; sends = s.sends; stand = s.stand }

session_stays : (z : Session) (c : Client) (stage : ℕ → Stage) (making : Option ℕ) (pending last count : ℕ) (rank : ℕ → ℕ)
    (places : ℕ → Option ℕ) → ClientShowsSession z c → ClientShowsSession z (other_client c stage making pending last count rank places)
session_stays z c stage making pending last count rank places s = record {
  live = s.live;
  session = s.session;
  number = s.number;
  tree = s.tree;
  sequence = s.sequence;
  channels = s.channels;
  ready = s.ready;
  counted = s.counted;
  apart = s.apart;
  sized = s.sized;
  within = s.within;
}

bounds_stay : (c : Client) (stage : ℕ → Stage) (making : Option ℕ) (pending last count : ℕ) (rank : ℕ → ℕ) (places : ℕ → Option ℕ)
    → TableBounds c → TableBounds (other_client c stage making pending last count rank places)
bounds_stay c stage making pending last count rank places s = record {
  attached = s.attached;
  counted = s.counted;
  limits = s.limits;
  slotted = s.slotted;
  users = s.users;
}

table_stays : (t : Table) (c : Client) (stage : ℕ → Stage) (making : Option ℕ) (pending last count : ℕ) (rank : ℕ → ℕ)
    (places : ℕ → Option ℕ) → ShowsTable t c → ShowsTable t (other_client c stage making pending last count rank places)
table_stays t c stage making pending last count rank places s = record {
  rows = rows_stay t.rows.items t.holders.items t.prices t.watchers c stage making pending last count rank places s.rows;
  session = session_stays t.session c stage making pending last count rank places s.session;
  values = s.values;
  order = s.order;
  refusals = s.refusals;
  bounds = bounds_stay c stage making pending last count rank places s.bounds;
}

pub whole_stays : (t : Table) (opens : List Attached) (known : List Opened) (marks : List Open) (c : Client) (stage : ℕ → Stage)
    (making : Option ℕ) (pending last count : ℕ) (rank : ℕ → ℕ) (places : ℕ → Option ℕ) → ShowsWhole t opens known marks c
    → ShowsWhole t opens known marks (other_client c stage making pending last count rank places)
whole_stays t opens known marks c stage making pending last count rank places s = record {
  table = table_stays t c stage making pending last count rank places s.table;
  attached = s.attached;
  opened = s.opened;
  marked = s.marked;
}

pub any_places : (t : Table) (opens : List Attached) (known : List Opened) (marks : List Open) (c : Client) (places : ℕ → Option ℕ)
    → ShowsWhole t opens known marks c → ShowsWhole t opens known marks (record c { settled_by = places })
any_places t opens known marks c places s =
    whole_stays t opens known marks c c.stage c.making c.pending c.accepted c.accepted_count c.rank places s

pub begun : (t : Table) (opens : List Attached) (known : List Opened) (marks : List Open) (c : Client) (k : ℕ)
    → ShowsWhole t opens known marks c → ShowsWhole t opens known marks (open_channel c k)
begun t opens known marks c k s =
    whole_stays t opens known marks c (put c.stage k (SaidNegotiate c.live)) (if c.live then c.making else Some k) c.pending
    c.accepted c.accepted_count c.rank c.settled_by s

pub gone_on : (t : Table) (opens : List Attached) (known : List Opened) (marks : List Open) (c : Client) (k : ℕ) (stage : Stage) (r : Reply)
    → ShowsWhole t opens known marks c → ShowsWhole t opens known marks (went_on c k stage r)
gone_on t opens known marks c k stage r s =
    whole_stays t opens known marks c (put c.stage k stage) c.making (told_session c stage r) c.accepted c.accepted_count c.rank
    c.settled_by s

pub taken : (t : Table) (opens : List Attached) (known : List Opened) (marks : List Open) (c : Client) (k : ℕ)
    → ShowsWhole t opens known marks c → ShowsWhole t opens known marks (accepted c k)
taken t opens known marks c k s =
    whole_stays t opens known marks c (put c.stage k AskedTree) c.making c.pending c.pending (c.accepted_count + 1)
    (put c.rank c.pending (c.accepted_count + 1)) c.settled_by s

pub left : (t : Table) (opens : List Attached) (known : List Opened) (marks : List Open) (c : Client) (k : ℕ)
    → ShowsWhole t opens known marks c → ShowsWhole t opens known marks (leave_dialog c k)
left t opens known marks c k s =
    whole_stays t opens known marks c (put c.stage k Apart) (unmade k c.making) c.pending c.accepted c.accepted_count c.rank
    c.settled_by s
