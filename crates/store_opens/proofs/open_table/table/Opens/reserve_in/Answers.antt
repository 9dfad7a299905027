use Rattle.std.proofs.Common.{◌≡◌, true, refl, nat_eq}
use Rattle.std.specs.HashMap.{get}
use Rattle.store_opens.specs.open_index.Keep.{keep_lists, lists_plain, HasKeepPlace}
use Rattle.store_opens.proofs.open_index.SessionLemmas.{grows_then}
use Rattle.store_opens.specs.open_table.Shown.{HasPlainPlace}
use Rattle.store_opens.proofs.open_table.Same.{same_sessions, on_ok, plain_place}
use Rattle.store_opens.proofs.open_table.table.Opens.reserve_in.Goals as goal

pub returns-in_err-reserve_guid-clause-same : goal.returns-in_err-reserve_guid-clause-same
returns-in_err-reserve_guid-clause-same c = λ s h. same_sessions c.args.self.now (record c.args.self.now {
  sessions = c.reserve_guid.new.sessions;
}) refl c.reserve_guid.ensures.grows s h

pub returns-clause-same : goal.returns-clause-same
returns-clause-same c = λ s h. same_sessions c.args.self.now (record c.args.self.now {
  sessions = c.list_in.new.sessions;
}) refl (grows_then _ _ _ c.reserve_guid.ensures.grows c.list_in.ensures.grows) s
    h

pub returns-clause-room : goal.returns-clause-room
returns-clause-room c =
    let row = get nat_eq c.list_in.new.sessions c.args.session in
    let old = get nat_eq c.args.self.now.rows c.args.id in
    on_ok (HasKeepPlace row × (keep_lists row c.args.id ≡ true) × (c.is_plain-is_plain.result ≡ true → lists_plain row c.args.id
    ≡ true)) (HasKeepPlace row × (keep_lists row c.args.id ≡ true) × HasPlainPlace old (lists_plain row c.args.id)) _
    (λ k. (
      k.0,
      k.1,
      plain_place old c.is_plain-is_plain.result (lists_plain row c.args.id) c.is_plain-is_plain.ensures
          k.2,
    )) (c.list_in.ensures.listed c.in_ok-reserve_guid.ensures.room)
