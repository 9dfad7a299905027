-- A dialog ends.
use Rattle.std.proofs.Common.{◌≡◌, ℕ, ◌+◌, ◌<◌, ◌≤◌, Bool, true, false, if◌then◌else◌, List, [], ◌∷◌, ◌++◌, map, refl, ap, sym, ◌∙◌, arith}
use Rattle.std.proofs.Common.{Result, Ok, Err, OnErr}
use Rattle.base_lists.specs.declared.watch_lists.Link.{Link as Watch}
use Rattle.wire_bytes.specs.declared.session_messages.refusal.Refusal.{Refusal}
use Rattle.spec_exchange.specs.Client.{Client, begin_session, bind_channel, leave_dialog, note_refusal}
use Rattle.spec_exchange.specs.ClientStep.{becomes_ready, ready_after}
use Rattle.client_values.specs.declared.outcomes.outcome.RefusedDialog.{RefusedDialog as Refused}
use Rattle.client_values.specs.outcomes.Meaning.{dialog_of, refusal_of}
use Rattle.client_rows.specs.declared.session_state.session.Session.{Session}
use Rattle.client_rows.specs.session_state.Shown.{ClientShowsSession}
use Rattle.client_values.specs.declared.operations.values.OpKind.{OpKind}
use Rattle.client_rows.specs.declared.operation_rows.row.Row.{Row}
use Rattle.client_values.specs.declared.outcomes.outcome.Outcome.{Outcome as Settled}
use Rattle.client_tables.specs.whole_table.Shown.{ShowsParts}
use Rattle.client_tables.proofs.whole_table.Begun.{rows_begun}

more : (a n : ℕ) → a ≤ n → a ≤ n + 1
more a n l = omega arith

some : (n : ℕ) → 0 < n + 1
some n = omega arith

module _ (was z : Session) (rows : List Row) (holders prices : List ℕ) (watchers : List Watch) (ops : List OpKind)
    (settled : List Settled) (order : List ℕ) (dialogs : List Refused) (c : Client)
    (s : ShowsParts was rows holders prices watchers ops settled order dialogs c) where
  -- the session alone may differ
  abbrev Behind : Client → Type 0
  Behind d = ShowsParts z rows holders prices watchers ops settled order dialogs d

  bound_shown : (k : ℕ) → ClientShowsSession z (bind_channel c k) → Behind (bind_channel c k)
  bound_shown k h =
      record {
        rows = record { places = s.rows.places; sends = s.rows.sends; stand = s.rows.stand };
        session = h;
        values = s.values;
        order = s.order;
        refusals = s.refusals;
        bounds = record {
          attached = s.bounds.attached;
          counted = s.bounds.counted;
          limits = s.bounds.limits;
          slotted = s.bounds.slotted;
          users = s.bounds.users;
        };
      }

  left_shown : (k : ℕ) → ClientShowsSession z (leave_dialog c k) → Behind (leave_dialog c k)
  left_shown k h =
      record {
        rows = record { places = s.rows.places; sends = s.rows.sends; stand = s.rows.stand };
        session = h;
        values = s.values;
        order = s.order;
        refusals = s.refusals;
        bounds = record {
          attached = s.bounds.attached;
          counted = s.bounds.counted;
          limits = s.bounds.limits;
          slotted = s.bounds.slotted;
          users = s.bounds.users;
        };
      }

  begun_shown : (k session tree : ℕ) → c.live ≡ false → ClientShowsSession z (begin_session c k session tree)
      → Behind (begin_session c k session tree)
  begun_shown k session tree e h =
      record {
        rows = rows_begun rows holders prices watchers c k session tree e s.bounds.attached s.rows;
        session = h;
        values = s.values;
        order = s.order;
        refusals = s.refusals;
        bounds = record {
          attached = λ x. more (c.attached x) c.session_number (s.bounds.attached x);
          counted = λ q. some c.session_number;
          limits = s.bounds.limits;
          slotted = s.bounds.slotted;
          users = s.bounds.users;
        };
      }

  abbrev after : (k session tree : ℕ) → Bool → Bool → Client
  after k session tree b v = if b then (if v then bind_channel c k else begin_session c k session tree) else leave_dialog c k

  by_tests : (k session tree : ℕ) (b v : Bool) → v ≡ c.live → ClientShowsSession z (after k session tree b v)
      → Behind (after k session tree b v)
  by_tests k session tree true true e h = bound_shown k h
  by_tests k session tree true false e h = begun_shown k session tree (sym e) h
  by_tests k session tree false v e h = left_shown k h

  pub ready_shown : (k session tree : ℕ) → ClientShowsSession z (ready_after c k session tree) → Behind (ready_after c k session tree)
  ready_shown k session tree h = by_tests k session tree (becomes_ready c session) c.live refl h

-- ---- a refusal is noted

map_more : (xs : List Refused) (x : Refused) → map dialog_of (xs ++ x ∷ []) ≡ map dialog_of xs ++ dialog_of x ∷ []
map_more [] x = refl
map_more (y ∷ ys) x = ap (λ z. dialog_of y ∷ z) (map_more ys x)

refused_list : (old new : List Refused) (c : Client) (d : Refused) → new ≡ old ++ d ∷ [] → c.refusals ≡ map dialog_of old
    → (note_refusal c d.connection (refusal_of d.refusal)).refusals ≡ map dialog_of new
refused_list old new c d e s =
    ap (λ z. z ++ dialog_of d ∷ []) s ∙ sym (map_more old d) ∙ sym (ap (λ z. map dialog_of z) e)

module _ (z : Session) (rows : List Row) (holders prices : List ℕ) (watchers : List Watch) (ops : List OpKind) (settled : List Settled)
    (order : List ℕ) (old new : List Refused) (c : Client) (s : ShowsParts z rows holders prices watchers ops settled order old c) where
  pub refused_shown : (k : ℕ) (why : Refusal) → new ≡ old ++ (record { connection = k; refusal = why }) ∷ []
      → ShowsParts z rows holders prices watchers ops settled order new (note_refusal c k (refusal_of why))
  refused_shown k why e =
      record {
        rows = record { places = s.rows.places; sends = s.rows.sends; stand = s.rows.stand };
        session = record {
          live = s.session.live;
          session = s.session.session;
          number = s.session.number;
          tree = s.session.tree;
          sequence = s.session.sequence;
          channels = s.session.channels;
          ready = s.session.ready;
          counted = s.session.counted;
          apart = s.session.apart;
          sized = s.session.sized;
          within = s.session.within;
        };
        values = s.values;
        order = s.order;
        refusals = refused_list old new c (record { connection = k; refusal = why }) e s.refusals;
        bounds = record {
          attached = s.bounds.attached;
          counted = s.bounds.counted;
          limits = s.bounds.limits;
          slotted = s.bounds.slotted;
          users = s.bounds.users;
        };
      }

-- where memory ran out
pub on_err : {T E P : Type 0} (r : Result T E) → P → OnErr r P
on_err (Ok x) p = tt
on_err (Err e) p = p
