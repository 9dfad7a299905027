-- A session that begins is the one of its row.
use Rattle.std.proofs.Common.{◌≡◌, ℕ, List, subst, refl}
use Rattle.spec_exchange.specs.Commands.{SetupRequest}
use Rattle.spec_exchange.specs.Effects.{add_session}
use Rattle.spec_exchange.specs.State.{Message, Server}
use Rattle.server_checks.specs.session_table.Changes.{session_added}
use Rattle.server_checks.specs.session_table.Shown.{ShowsSessions}
use Rattle.server_checks.specs.declared.session_table.row.SessionRow.{SessionRow}
use Rattle.server_checks.specs.declared.session_table.table.Sessions.{Sessions}
use Rattle.server_checks.specs.Shown.{TablesShown}
use Rattle.server_checks.specs.declared.tables.Tables.{Tables}
use Rattle.server_effects.proofs.Steps.{session_pieces}
use Rattle.server_effects.specs.Ready.{IsRowFor}

added_is : (s : Server) (m : Message) (user : List ℕ) (r : SetupRequest) (session : ℕ) (row : SessionRow) → session ≡ m.session_id
    → IsRowFor row m user r
    → session_added s m.connection session row.user row.client row.cipher row.signing ≡ add_session s m user r
added_is s m user r session row e i = rw (e, i.user_is, i.client_is, i.cipher_is, i.signing_is) refl

pub begun_tables : (t : Tables) (w : Sessions) (s : Server) (m : Message) (user : List ℕ) (r : SetupRequest) (session : ℕ)
    (row : SessionRow) → TablesShown t s → session ≡ m.session_id → IsRowFor row m user r
    → ShowsSessions w (session_added s m.connection session row.user row.client row.cipher row.signing)
    → TablesShown (record t { sessions = w }) (add_session s m user r)
begun_tables t w s m user r session row h e i k = session_pieces t w (add_session s m user r) h.opens h.files
    (subst (λ (v : Server). ShowsSessions w v) (added_is s m user r session row e i) k)
    h.share_is h.room_is h.encrypts_is h.address_is h.version_is h.journal_is
