use Rattle.std.proofs.Common.{ℕ, true, nat_lt, ◌≡◌, ◌&&◌, sym, ap, ◌∙◌}
use Rattle.spec_exchange.specs.State.{Server}
use Rattle.server_core.specs.durable_state.Durable.{DurableShown}
use Rattle.spec_exchange.specs.Fold.{shut_recorded}
use Rattle.spec_exchange.specs.Step.{add_expired_guid, max_expired_guids}
use Rattle.law_server.proofs.tables.Logic.{both}
use Rattle.server_core.proofs.durable_state.Choice.{on, off, first_off, second_off}
use Rattle.server_core.proofs.durable_state.Leaving.{row_file, row_options, row_client, row_guid, same_count, expired_shown}
use Rattle.server_core.proofs.durable_state.durable.Durable.expire_recorded.Goals as goal

pub returns-then-not-has_guid_room : goal.returns-then-not-has_guid_room
returns-then-not-has_guid_room c = λ s origin i h. off (λ (u : Server). DurableShown c.args.self.now u)
    (s.standing c.args.id && nat_lt s.expired_count max_expired_guids)
    (add_expired_guid (shut_recorded s c.args.id) (s.opened c.args.id).client_guid (s.opened c.args.id).create_guid) s
    (second_off (s.standing c.args.id) (nat_lt s.expired_count max_expired_guids) (sym (c.has_guid_room.ensures s h)
    ∙ c.if-not-has_guid_room.true)) h

pub returns-in_default : goal.returns-in_default
returns-in_default c = λ s origin i h. off (λ (u : Server). DurableShown c.args.self.now u) (s.standing c.args.id
    && nat_lt s.expired_count max_expired_guids)
    (add_expired_guid (shut_recorded s c.args.id) (s.opened c.args.id).client_guid (s.opened c.args.id).create_guid) s
    (first_off (s.standing c.args.id) (nat_lt s.expired_count max_expired_guids) (c.in_default.ensures s h.opens)) h

pub returns-in-Ok : goal.returns-in-Ok
returns-in-Ok c = λ s origin i h.
    let o = c.args.id in
    let r = c.in-Some.row.now in
    let k = c.in-Some.ensures s h.opens in
    let room : nat_lt s.expired_count max_expired_guids ≡ true = sym (c.has_guid_room.ensures s h) ∙ c.if-not-has_guid_room.false in
    let left = c.in_ok-shut.ensures s i h k.0 (row_file r s o k) (row_options r s o k) in
    on (λ (u : Server). DurableShown c.keep_guid.new.self u) (s.standing o && nat_lt s.expired_count max_expired_guids)
    (add_expired_guid (shut_recorded s o) (s.opened o).client_guid (s.opened o).create_guid) s
    (both (s.standing o) (nat_lt s.expired_count max_expired_guids) k.0 room)
    (expired_shown c.keep_guid.new.self s o r.client r.guid (row_client r s o k) (row_guid r s o k)
    (c.in-Ok.ensures (shut_recorded s o) left (ap (λ (n : ℕ). nat_lt n max_expired_guids) (same_count s o) ∙ room)))
