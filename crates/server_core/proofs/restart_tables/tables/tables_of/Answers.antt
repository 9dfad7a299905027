use Rattle.std.proofs.Common.{ℕ, refl, subst}
use Rattle.store_files.specs.file_tree.Shown.{ShowsFiles}
use Rattle.server_core.proofs.restart_tables.tables.tables_of.Goals as goal

pub returns : goal.returns
returns c = record {
  shown = λ s h b. record {
    opens = h.opens;
    files = subst (λ (room : ℕ). ShowsFiles c.set_room.new.self (record s { room = room })) c.room_of.ensures
        (c.set_room.ensures.shown s h.files);
    sessions = c.sessions_of-sessions.ensures.shown s h.epoch_is b;
    share_is = refl;
    room_is = refl;
    encrypts_is = refl;
    address_is = refl;
    version_is = h.version_is;
    journal_is = refl;
  };
  logons = c.sessions_of-sessions.ensures.logons;
  config = refl;
}
