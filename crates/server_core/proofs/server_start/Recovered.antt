-- A server that begins, from what a restart answers.
use Rattle.std.proofs.Common.{◌≡◌, ℕ, Bool, true, false, List, ◌++◌, ◌∷◌, [], Option, Some, None, nat_eq, refl, sym, ◌∙◌}
use Rattle.std.specs.HashMap.{get}
use Rattle.spec_exchange.specs.State as model
use Rattle.journal.specs.disk_journal.Journal.{JournalState}
use Rattle.law_snapshots.proofs.restarts.Sessionless.{bare_found}
use Rattle.server_checks.specs.declared.tables.Config.{Config}
use Rattle.server_checks.specs.declared.tables.Tables.{Tables}
use Rattle.server_core.specs.Over.{begun_over, opened_over}
use Rattle.server_core.specs.server_start.Begun.{ServerBegins}
use Rattle.server_core.specs.restart_tables.Restart.{ServerRestarts, configuration_of}
use Rattle.server_checks.specs.session_table.Logons.{KeysShown, LinkPending, LogonsShown, PendingShown}
use Rattle.server_checks.specs.session_table.Shown.{LinkShown, SessionRowShown, ShowsSessions, making_for, making_of}
use Rattle.server_checks.specs.declared.session_table.row.InMaking.{InMaking}
use Rattle.server_checks.specs.declared.session_table.row.Link.{Link}
use Rattle.server_checks.specs.declared.session_table.row.SessionRow.{SessionRow}
use Rattle.server_checks.specs.declared.session_table.table.Sessions.{Sessions}
use Rattle.spec_crypto.specs.declared.sessions.material.Keys.{Keys}
use Rattle.spec_crypto.specs.tokens.Tokens.{Pending}
use Rattle.spec_world.specs.Ends.{Logons}

-- ---- without sessions, and with nothing in the making, any keys and any pending logons are shown

keys_free : (r : Option SessionRow) (present : Bool) (user : List ℕ) (client cipher signing drawn : ℕ) (trees : List model.Tree)
    (next : ℕ) (keys : Keys) → present ≡ false → SessionRowShown r present user client cipher signing drawn trees next → KeysShown r keys
keys_free None present user client cipher signing drawn trees next keys absent h = tt
keys_free (Some r) present user client cipher signing drawn trees next keys absent h =
    absurd (let e : true ≡ false = sym h.0 ∙ absent in cc)

not_making : (m : Option InMaking) (pending : Option Pending) → making_of m ≡ None → PendingShown m pending
not_making None pending e = tt
not_making (Some m) pending e = absurd (let h : Some (making_for m.purpose) ≡ None = e in cc)

pending_free : (l : Option Link) (on : Option ℕ) (making : Option model.Making) (pending : Option Pending) → making ≡ None
    → LinkShown l on making → LinkPending l pending
pending_free None on making pending unmade h = tt
pending_free (Some l) on making pending unmade h = not_making l.making pending (sym h.1 ∙ unmade)

free_logons : (t : Sessions) (s : model.Server) → ShowsSessions t s → ((x : ℕ) → s.present x ≡ false)
    → ((k : ℕ) → s.making k ≡ None) → (L : Logons) → LogonsShown t L.keys L.pending
free_logons t s h absent unmade L = record {
  keys_are = λ x. keys_free (get nat_eq t.rows x) (s.present x) (s.user x) (s.client x) (s.cipher x) (s.signing x)
      (s.channel_numbers_drawn x) (s.trees x) (s.next_tree x) (L.keys x) (absent x) (h.rows_are x);
  pending_are = λ k. pending_free (get nat_eq t.links k) (s.session_on k) (s.making k) (L.pending k) (unmade k) (h.links_are k);
}

pub begun : {D : Type 0} (told : Type 0) (seen : D → List ℕ) (may_leave : D → List ℕ → Type 0) (faults : D → ℕ) (z : Config) (disk : D)
    (j : JournalState D) (t : Tables) → ServerRestarts told seen may_leave faults z disk j t
    → ServerBegins told seen may_leave faults z disk (record { journal = j; tables = t; stopped = None })
begun told seen may_leave faults z disk j t r =
    let s = r.5 in
    let bare = bare_found r.4 (λ f. []) (opened_over r.4 r.3) in (
      refl,
      r.1,
      r.2,
      r.3,
      r.4,
      λ L. record {
        shown = record {
          tables = s.shown;
          logons = free_logons t.sessions (begun_over (configuration_of z) r.2 r.4 r.3) s.shown.sessions bare.absent bare.unmade L;
        };
        fits = s.fits;
        version = s.version;
        sound = s.sound;
        stopped_is = sym r.0;
        used = λ none. r.6;
        stands = λ none tells. let b = r.7 tells in (
          b.bodies ++ b.body ∷ [],
          record { settled = b.settled; spelled = b.more; for_state = s.for_state; plain = s.plain; used = r.6 },
        );
      },
      λ tells. let b = r.7 tells in (b.bodies, b.stood, b.spelled, b.bytes_are),
      r.8,
    )
