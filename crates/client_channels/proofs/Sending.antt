-- The client may be sent to threads: part by part, since one search over all of it stops at its limits. What stands in a struct's field has
-- another row than what stands in a list.
use denote.Param.Send.{IsSend, sendable}
use Rattle.std.proofs.Crossing.{crosses}
use Rattle.std.proofs.MapsCrossing.{crosses as map_crosses}
use Rattle.base_lists.specs.contracts.number_set.Members as members
use Rattle.base_lists.specs.contracts.price_table.Prices as prices
use Rattle.base_lists.specs.contracts.range_index.RangeIndex as ranges
use Rattle.base_lists.specs.contracts.watch_lists.Watchers as watchers
use Rattle.client_book.specs.contracts.book.ClientBook as book
use Rattle.client_channels.specs.contracts.channel_turns.shared_client.ClientTurns as client
use Rattle.client_events.specs.contracts.played_client.played.Played as played
use Rattle.client_rows.specs.contracts.open_marks.marks.Marks as marks
use Rattle.client_rows.specs.contracts.operation_rows.row.Row as row
use Rattle.client_rows.specs.contracts.session_state.session.Session as session
use Rattle.client_steps.specs.contracts.whole_client.client.Client as core
use Rattle.client_tables.specs.contracts.attached_opens.opened.Opened as opened
use Rattle.client_tables.specs.contracts.choice.finding.Attached as attached
use Rattle.client_tables.specs.contracts.opens.opening.Open as marked
use Rattle.client_tables.specs.contracts.whole_table.parts.Table as table
use Rattle.client_values.specs.contracts.operations.values.OpKind as kind
use Rattle.client_values.specs.contracts.outcomes.outcome.Outcome as outcome
use Rattle.client_values.specs.contracts.outcomes.outcome.RefusedDialog as refused

kind_send : IsSend kind.the_row
kind_send = search (sendable, crosses) depth 40 fits 20000

outcome_send : IsSend outcome.the_row
outcome_send = search (sendable, crosses) depth 40 fits 20000

refused_send : IsSend refused.the_row
refused_send = search (sendable, crosses) depth 40 fits 20000

row_send : IsSend row.the_row
row_send = search (sendable, crosses) depth 40 fits 20000

session_send : IsSend (session.the_field).row
session_send = search (sendable, crosses) depth 40 fits 20000

members_send : IsSend (members.the_field).row
members_send = search (sendable, crosses) depth 40 fits 20000

prices_send : IsSend (prices.the_field).row
prices_send = search (sendable, crosses) depth 40 fits 20000

watchers_send : IsSend (watchers.the_field).row
watchers_send = search (sendable, crosses) depth 40 fits 20000

ruleset of_tables = (session_send, row_send, prices_send, watchers_send, kind_send, outcome_send, refused_send, members_send)

table_send : IsSend (table.the_field).row
table_send = search (of_tables, sendable, crosses) depth 40 fits 20000

ranges_send : IsSend (ranges.the_field).row
ranges_send = search (sendable, crosses, map_crosses) depth 40 fits 20000

marks_send : IsSend (marks.the_field).row
marks_send = search (sendable, crosses) depth 40 fits 20000

marked_send : IsSend marked.the_row
marked_send = search (marks_send, ranges_send, sendable, crosses) depth 40 fits 20000

attached_send : IsSend attached.the_row
attached_send = search (sendable, crosses) depth 40 fits 20000

opened_send : IsSend opened.the_row
opened_send = search (sendable, crosses) depth 40 fits 20000

core_send : IsSend (core.the_field).row
core_send = search (table_send, attached_send, opened_send, marked_send, sendable, crosses) depth 40 fits 20000

played_send : IsSend (played.the_field).row
played_send = search (core_send, sendable, crosses) depth 40 fits 20000

book_send : IsSend (book.the_field).row
book_send = search (played_send, sendable, crosses) depth 40 fits 20000

pub client_send : IsSend client.the_row
client_send = search (book_send, sendable, crosses) depth 40 fits 20000
