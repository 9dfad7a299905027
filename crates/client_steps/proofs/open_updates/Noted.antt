-- What a success tells, in the model, and what a client's table doesn't look at.
use Rattle.std.proofs.Common.{◌≡◌, ℕ, ◌<◌, Bool, true, false, if◌then◌else◌, List, length, refl, ap, ◌∙◌}
use Rattle.base_lists.specs.declared.watch_lists.Link.{Link as Watch}
use Rattle.spec_exchange.specs.Table.{put}
use Rattle.spec_exchange.specs.State.{Body}
use Rattle.spec_exchange.specs.Operations.{Op, OpCreate, OpWrite, OpRead, OpEnd, OpTime, OpRename, OpRemove, OpLock, OpUnlock, OpFlush}
use Rattle.spec_exchange.specs.Operations.{OpStat, OpList, OpClose, id_in, is_close, is_create}
use Rattle.spec_exchange.specs.Client.{Client, create_for}
use Rattle.spec_exchange.specs.Settling.{noted_ok}
use Rattle.client_values.specs.declared.operations.shapes.Kind.{Kind}
use Rattle.client_values.specs.declared.operations.values.OpKind.{OpKind}
use Rattle.client_values.specs.operations.Waiting.{is_close_kind, kind_of}
use Rattle.client_rows.specs.declared.operation_rows.row.Row.{Row}
use Rattle.client_rows.specs.operation_rows.Rows.{kind}
use Rattle.client_rows.specs.open_marks.Marks.{is_create_kind}
use Rattle.client_values.specs.declared.outcomes.outcome.Outcome.{Outcome as Settled}
use Rattle.client_values.specs.declared.outcomes.outcome.RefusedDialog.{RefusedDialog as Refused}
use Rattle.client_tables.proofs.pushes.Picked.{create_kind}
use Rattle.client_rows.specs.Shown.{ShowsRows}
use Rattle.client_rows.specs.declared.session_state.session.Session.{Session}
use Rattle.client_tables.specs.whole_table.Shown.{ShowsParts}

close_kind : (op : Op) → is_close op ≡ is_close_kind (kind_of op)
close_kind (OpCreate path access share disposition persist directory) = refl
close_kind (OpWrite create at bytes) = refl
close_kind (OpRead create at size) = refl
close_kind (OpEnd create size) = refl
close_kind (OpTime create time) = refl
close_kind (OpRename create path) = refl
close_kind (OpRemove create) = refl
close_kind (OpLock create at n exclusive) = refl
close_kind (OpUnlock create at n) = refl
close_kind (OpFlush create) = refl
close_kind (OpStat create) = refl
close_kind (OpList create) = refl
close_kind (OpClose create) = refl

-- a row tells of its operation whether it is a create, or a close
module _ (rows : List Row) (holders prices : List ℕ) (watchers : List Watch) (c : Client) (g : ℕ) (p : 0 < g) (l : g < length rows)
    (s : ShowsRows rows holders prices watchers c) where
  pub create_at : is_create (c.op g) ≡ is_create_kind (kind rows g)
  create_at = create_kind (c.op g) ∙ ap (λ (z : Kind). is_create_kind z) (s.places.kinds g p (s.places.is_taken g p l))

  pub close_at : is_close (c.op g) ≡ is_close_kind (kind rows g)
  close_at = close_kind (c.op g) ∙ ap (λ (z : Kind). is_close_kind z) (s.places.kinds g p (s.places.is_taken g p l))

-- ---- the model's note

module _ (c : Client) (g : ℕ) (body : Body) where
  abbrev pub opened_now : Client
  opened_now = record c { file = put c.file g (id_in body); attached = put c.attached g c.session_number }

  abbrev pub shut_now : Client
  shut_now = record c { closed_ok = put c.closed_ok (create_for c g) true }

  pub notes_open : is_create (c.op g) ≡ true → noted_ok c g body ≡ opened_now
  notes_open e = ap (λ b. if b then opened_now else (if is_close (c.op g) then shut_now else c)) e

  pub notes_shut : is_create (c.op g) ≡ false → is_close (c.op g) ≡ true → noted_ok c g body ≡ shut_now
  notes_shut e f =
      ap (λ b. if b then opened_now else (if is_close (c.op g) then shut_now else c)) e ∙ ap (λ b. if b then shut_now else c) f

  pub notes_none : is_create (c.op g) ≡ false → is_close (c.op g) ≡ false → noted_ok c g body ≡ c
  notes_none e f =
      ap (λ b. if b then opened_now else (if is_close (c.op g) then shut_now else c)) e ∙ ap (λ b. if b then shut_now else c) f

-- ---- the table, where columns change at which it doesn't look

pub table_beside : (z : Session) (rows : List Row) (holders prices : List ℕ) (watchers : List Watch) (ops : List OpKind)
    (settled : List Settled) (order : List ℕ) (dialogs : List Refused) (c : Client) (file : ℕ → ℕ) (closed : ℕ → Bool)
    (full : ℕ → ℕ → Bool) → ShowsParts z rows holders prices watchers ops settled order dialogs c
    → ShowsParts z rows holders prices watchers ops settled order dialogs (record c { file = file; closed_ok = closed; full = full })
table_beside z rows holders prices watchers ops settled order dialogs c file closed full s =
    record {
      rows = record { places = s.rows.places; sends = s.rows.sends; stand = s.rows.stand };
      session = record {
        live = s.session.live;
        session = s.session.session;
        number = s.session.number;
        tree = s.session.tree;
        sequence = s.session.sequence;
        channels = s.session.channels;
        ready = s.session.ready;
        counted = s.session.counted;
        apart = s.session.apart;
        sized = s.session.sized;
        within = s.session.within;
      };
      values = s.values;
      order = s.order;
      refusals = s.refusals;
      bounds = record {
        attached = s.bounds.attached;
        counted = s.bounds.counted;
        limits = s.bounds.limits;
        slotted = s.bounds.slotted;
        users = s.bounds.users;
      };
    }
