-- The tables behind a ruling that was carried out, with the journal's bytes counted.
use Rattle.std.proofs.Common.{◌≡◌, ℕ, ◌∙◌}
use Rattle.spec_exchange.specs.State.{Accept, End, Heard, Server, ServerEvent, Stop}
use Rattle.server_checks.specs.Shown.{TablesShown}
use Rattle.server_checks.specs.declared.tables.Tables.{Tables}
use Rattle.server_core.specs.journaled_tables.Counted.{counting}
use Rattle.server_effects.specs.prepared_event.Prepared.{IsPrepared}
use Rattle.server_effects.specs.declared.prepared_event.prepared.Prepared.{Prepared}
use Rattle.server_effects.specs.declared.prepared_event.prepared.Prepared.TheVariants as prepared

pub counted_shown : (t : Tables) (s : Server) (n used : ℕ) → TablesShown t s → n ≡ used
    → TablesShown (record t { journal = used }) (counting s n)
counted_shown t s n used h e = record {
  opens = h.opens;
  files = h.files;
  sessions = h.sessions;
  share_is = h.share_is;
  room_is = h.room_is;
  encrypts_is = h.encrypts_is;
  address_is = h.address_is;
  version_is = h.version_is;
  journal_is = e;
}

pub prepared_count : (t : Tables) (s : Server) (now : ℕ) (e : ServerEvent) (p : Prepared) → IsPrepared t s now e p → s.journal ≡ t.journal
prepared_count t s now (Heard m) (prepared.Says ready) h = h.others.journal_is
prepared_count t s now (Accept c) (prepared.Says ready) h = h.journal_is
prepared_count t s now (End c) (prepared.Says ready) h = h.journal_is
prepared_count t s now Stop (prepared.Says ready) h = h.journal_is
prepared_count t s now e (prepared.TakesIn connection) h = h.journal_is
prepared_count t s now e prepared.TurnsAway h = h.journal_is
prepared_count t s now e (prepared.TakesOut connection quiet) h = h.journal_is
prepared_count t s now e (prepared.TakesAllOut quiet) h = h.journal_is

-- the same where nothing is counted
pub uncounted_shown : (t : Tables) (s : Server) (n : ℕ) → TablesShown t s → n ≡ s.journal → TablesShown t (counting s n)
uncounted_shown t s n h e = record {
  opens = h.opens;
  files = h.files;
  sessions = h.sessions;
  share_is = h.share_is;
  room_is = h.room_is;
  encrypts_is = h.encrypts_is;
  address_is = h.address_is;
  version_is = h.version_is;
  journal_is = e ∙ h.journal_is;
}
