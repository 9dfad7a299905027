-- Tables of which one part is another that shows the same.
use Rattle.std.proofs.Common.{◌≡◌, Result, Ok, Err, IfOk, refl, sym, subst, ◌∙◌}
use Rattle.spec_exchange.specs.State.{Server}
use Rattle.store_files.specs.file_tree.Shown.{ShowsFiles}
use Rattle.store_files.specs.declared.file_tree.tree.Tree.{Tree}
use Rattle.store_opens.specs.open_table.Shown.{HasOpensRoom, ShowsOpens}
use Rattle.store_opens.specs.declared.open_table.table.Opens.{Opens}
use Rattle.server_checks.specs.session_table.Logons.{LogonsStay}
use Rattle.server_checks.specs.session_table.Shown.{ShowsSessions}
use Rattle.server_checks.specs.declared.session_table.table.Sessions.{Sessions}
use Rattle.server_checks.specs.Shown.{TablesShown}
use Rattle.server_checks.specs.declared.tables.Tables.{Tables}
use Rattle.server_effects.specs.Ready.{OthersShown}
use Rattle.server_plan.specs.reserving.Readies.{TablesKeep}

-- where memory may run out
pub if_ok_by : {X Y : Type 0} {P Q : X → Type 0} (r : Result X Y) → IfOk r P → ((x : X) → P x → Q x) → IfOk r Q
if_ok_by (Ok x) p f = f x p
if_ok_by (Err y) p f = tt

-- ---- what is shown

pub others : (t : Tables) (s : Server) → TablesShown t s → OthersShown t s
others t s h = record {
  opens = h.opens;
  sessions = h.sessions;
  share_is = h.share_is;
  room_is = h.room_is;
  encrypts_is = h.encrypts_is;
  address_is = h.address_is;
  version_is = h.version_is;
  journal_is = h.journal_is;
}

pub others_beside : (t : Tables) (w : Tree) (s : Server) → TablesShown t s → OthersShown (record t { tree = w }) s
others_beside t w s h = record {
  opens = h.opens;
  sessions = h.sessions;
  share_is = h.share_is;
  room_is = h.room_is;
  encrypts_is = h.encrypts_is;
  address_is = h.address_is;
  version_is = h.version_is;
  journal_is = h.journal_is;
}

pub with_opens : (t : Tables) (u : Opens) (s : Server) → TablesShown t s → ShowsOpens u s → TablesShown (record t { opens = u }) s
with_opens t u s h k = record {
  opens = k;
  files = h.files;
  sessions = h.sessions;
  share_is = h.share_is;
  room_is = h.room_is;
  encrypts_is = h.encrypts_is;
  address_is = h.address_is;
  version_is = h.version_is;
  journal_is = h.journal_is;
}

pub with_tree : (t : Tables) (w : Tree) (s : Server) → TablesShown t s → ShowsFiles w s → TablesShown (record t { tree = w }) s
with_tree t w s h k = record {
  opens = h.opens;
  files = k;
  sessions = h.sessions;
  share_is = h.share_is;
  room_is = h.room_is;
  encrypts_is = h.encrypts_is;
  address_is = h.address_is;
  version_is = h.version_is;
  journal_is = h.journal_is;
}

pub with_sessions : (t : Tables) (v : Sessions) (s : Server) → TablesShown t s → ShowsSessions v s
    → TablesShown (record t { sessions = v }) s
with_sessions t v s h k = record {
  opens = h.opens;
  files = h.files;
  sessions = k;
  share_is = h.share_is;
  room_is = h.room_is;
  encrypts_is = h.encrypts_is;
  address_is = h.address_is;
  version_is = h.version_is;
  journal_is = h.journal_is;
}

-- the same of tables of which it is known that the files alone may differ
pub tree_shown : (old new : Tables) (s : Server) → new ≡ record old { tree = new.tree } → TablesShown old s → ShowsFiles new.tree s
    → TablesShown new s
tree_shown old new s e h k = subst (λ (t : Tables). TablesShown t s) (sym e) (with_tree old new.tree s h k)

pub tree_others : (old new : Tables) (s : Server) → new ≡ record old { tree = new.tree } → TablesShown old s → OthersShown new s
tree_others old new s e h = subst (λ (t : Tables). OthersShown t s) (sym e) (others_beside old new.tree s h)

-- ---- what is kept

pub all_kept : (t : Tables) → TablesKeep t t
all_kept t = record { config = refl; logons = λ keys pending k. k; room = λ r. r; undated = refl; journal = refl; version = refl }

pub opens_kept : (t : Tables) (u : Opens) → (HasOpensRoom t.opens → HasOpensRoom u) → u.undated.items ≡ t.opens.undated.items
    → TablesKeep t (record t { opens = u })
opens_kept t u r e = record { config = refl; logons = λ keys pending k. k; room = r; undated = e; journal = refl; version = refl }

pub sessions_kept : (t : Tables) (v : Sessions) → LogonsStay t.sessions v → TablesKeep t (record t { sessions = v })
sessions_kept t v l = record { config = refl; logons = l; room = λ r. r; undated = refl; journal = refl; version = refl }

pub tree_kept : (old new : Tables) → new ≡ record old { tree = new.tree } → TablesKeep old new
tree_kept old new e = subst (λ (t : Tables). TablesKeep old t) (sym e)
    (record { config = refl; logons = λ keys pending k. k; room = λ r. r; undated = refl; journal = refl; version = refl })

pub kept_twice : (a b c : Tables) → TablesKeep a b → TablesKeep b c → TablesKeep a c
kept_twice a b c h k = record {
  config = k.config ∙ h.config;
  logons = λ keys pending l. k.logons keys pending (h.logons keys pending l);
  room = λ r. k.room (h.room r);
  undated = k.undated ∙ h.undated;
  journal = k.journal ∙ h.journal;
  version = k.version ∙ h.version;
}
