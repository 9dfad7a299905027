-- The tables behind an expiry that stands alone.
use Rattle.std.proofs.Common.{◌≡◌, ℕ, Bool, true, false, if◌then◌else◌, Option, Some, None, arith, refl, sym, subst, ◌∙◌}
use Rattle.spec_exchange.specs.Files.{remove_file, set_delete_pending}
use Rattle.spec_exchange.specs.Opens.{drop_open, goes, is_kept_back, leave_open, pending_behind}
use Rattle.spec_exchange.specs.State.{Server}
use Rattle.spec_exchange.specs.Step.{add_expired_guid, expire, with_deadlines}
use Rattle.spec_exchange.specs.Table.{put}
use Rattle.store_opens.specs.open_table.Shown.{ShowsOpens}
use Rattle.store_opens.specs.declared.open_table.table.Opens.{Opens}
use Rattle.server_checks.specs.Shown.{TablesShown}
use Rattle.server_checks.specs.declared.tables.Tables.{Tables}
use Rattle.server_core.specs.journaled_tables.Counted.{counting}

put_here : (f : ℕ → Option ℕ) (k : ℕ) (v : Option ℕ) → put f k v k ≡ v
put_here f k v = grind arith

-- an open that expired has no deadline
pub no_deadline : (s : Server) (o : ℕ) → (expire s o).deadline o ≡ None
no_deadline s o =
    let w = pending_behind s o in let v = drop_open w o in let f = (s.opened o).file in
    guids (s.opened o).create_guid ∙ (settled (is_kept_back v f) (goes v f) v ∙ put_here w.deadline o None)
  where
    guids : (g : Option ℕ) → (add_expired_guid (leave_open s o) (s.opened o).client_guid g).deadline o ≡ (leave_open s o).deadline o
    guids None = refl
    guids (Some g) = refl

    gone : (b : Bool) (v : Server) → (if b then remove_file v (s.opened o).file else v).deadline o ≡ v.deadline o
    gone true v = refl
    gone false v = refl

    settled : (q b : Bool) (v : Server) → (if q then set_delete_pending v (s.opened o).file false
        else (if b then remove_file v (s.opened o).file else v)).deadline o ≡ v.deadline o
    settled true b v = refl
    settled false b v = gone b v

-- The tables with another table of opens and another count, which show the state behind the expiry with the first deadlines.
pub lone_shown : (t : Tables) (u : Opens) (s : Server) (now o n used : ℕ) → TablesShown t (expire s o)
    → ShowsOpens u (with_deadlines (expire s o) now) → expire (with_deadlines s now) o ≡ with_deadlines (expire s o) now → n ≡ used
    → TablesShown (record t { opens = u; journal = used }) (counting (expire (with_deadlines s now) o) n)
lone_shown t u s now o n used h k e is = subst (λ (y : Server). TablesShown (record t { opens = u; journal = used })
    (counting y n)) (sym e) (record {
      opens = k;
      files = h.files;
      sessions = h.sessions;
      share_is = h.share_is;
      room_is = h.room_is;
      encrypts_is = h.encrypts_is;
      address_is = h.address_is;
      version_is = h.version_is;
      journal_is = is;
    })
