-- Tables of which one or two are others.
use Rattle.std.proofs.Common.{◌≡◌, ℕ, Bool, true, false, if◌then◌else◌, sym, ap, subst, ◌∙◌}
use Rattle.spec_exchange.specs.Files.{exists, set_delete_pending}
use Rattle.spec_exchange.specs.Opens.{drop_open, leave_open, left_file}
use Rattle.spec_exchange.specs.State.{Server}
use Rattle.store_files.specs.declared.file_tree.tree.Tree.{Tree}
use Rattle.store_opens.specs.open_table.Shown.{ShowsOpens}
use Rattle.store_opens.specs.declared.open_table.table.Opens.{Opens}
use Rattle.server_checks.specs.session_table.Logons.{LogonsShown, LogonsStay}
use Rattle.server_checks.specs.session_table.Shown.{HasLink, HasSessionRoom}
use Rattle.server_checks.specs.declared.session_table.table.Sessions.{Sessions}
use Rattle.server_checks.specs.Shown.{TablesShown}
use Rattle.server_checks.specs.declared.tables.Tables.{Tables}
use Rattle.server_effects.specs.session_ends.Ended.{SessionsKeep, left_behind}

pub dropped_tables : (t : Tables) (u : Opens) (s : Server) (o : ℕ) → TablesShown t s → ShowsOpens u (drop_open s o)
    → TablesShown (record t { opens = u }) (drop_open s o)
dropped_tables t u s o h k = record {
  opens = k;
  files = h.files;
  sessions = h.sessions;
  share_is = h.share_is;
  room_is = h.room_is;
  encrypts_is = h.encrypts_is;
  address_is = h.address_is;
  version_is = h.version_is;
  journal_is = h.journal_is;
}

-- what stays of the tables
pub of_two : (t0 t : Tables) (u : Opens) (w : Tree) → t ≡ record t0 { opens = u; tree = w }
    → t ≡ record t0 { opens = t.opens; tree = t.tree }
of_two t0 t u w e = e ∙ ap (λ (z : Tables). record t0 { opens = z.opens; tree = z.tree }) (sym e)

pub of_three : (t0 t1 t2 t : Tables) (w1 w2 : Tree) (u : Opens) → t1 ≡ record t0 { tree = w1 } → t2 ≡ record t1 { opens = u }
    → t ≡ record t2 { tree = w2 } → t ≡ record t0 { opens = t.opens; tree = t.tree }
of_three t0 t1 t2 t w1 w2 u a b c = of_two t0 t u w2
    (c ∙ ap (λ (z : Tables). record z { tree = w2 }) (b ∙ ap (λ (z : Tables). record z { opens = u }) a))

pub of_turns : (t0 t1 t : Tables) → t1 ≡ record t0 { opens = t1.opens; tree = t1.tree }
    → t ≡ record t1 { opens = t.opens; tree = t.tree } → t ≡ record t0 { opens = t.opens; tree = t.tree }
of_turns t0 t1 t a b = b ∙ ap (λ (z : Tables). record z { opens = t.opens; tree = t.tree }) a

pub sessions_kept : (t0 t1 : Tables) (u : Opens) (q : Sessions) → t1 ≡ record t0 { opens = t1.opens; tree = t1.tree }
    → LogonsStay t1.sessions q → (HasSessionRoom t1.sessions → HasSessionRoom q) → ((k : ℕ) → HasLink t1.sessions k → HasLink q k)
    → SessionsKeep t0 (record t1 { opens = u; sessions = q })
sessions_kept t0 t1 u q e logons room links = record {
  config = ap (λ (z : Tables). z.config) e;
  logons = λ keys pending k. logons keys pending (subst (λ (z : Tables). LogonsShown z.sessions keys pending) (sym e) k);
  room = λ r. room (subst (λ (z : Tables). HasSessionRoom z.sessions) (sym e) r);
  links = λ k r. links k (subst (λ (z : Tables). HasLink z.sessions k) (sym e) r);
}

-- ---- a file whose open leaves

exists_dropped : (u : Server) (o f : ℕ) → exists u f ≡ true → exists (drop_open u o) f ≡ true
unfolding exists
exists_dropped u o f e = e

pub exists_marked : (s : Server) (f q : ℕ) → exists s q ≡ true → exists (set_delete_pending s f true) q ≡ true
unfolding exists
exists_marked s f q e = e

pub parting : (t2 t3 : Tables) (u : Server) (o f z : ℕ) → z ≡ f → exists u f ≡ true → TablesShown t2 (drop_open u o)
    → ((v : Server) → TablesShown t2 v → exists v z ≡ true → TablesShown t3 (left_file v z))
    → TablesShown t3 (left_file (drop_open u o) f)
parting t2 t3 u o f z e ex h drop =
    subst (λ (q : ℕ). TablesShown t3 (left_file (drop_open u o) q)) e
    (drop (drop_open u o) h (subst (λ (q : ℕ). exists (drop_open u o) q ≡ true) (sym e) (exists_dropped u o f ex)))

pub quietly : (t : Tables) (s : Server) (o : ℕ) (q : Bool) → q ≡ true → TablesShown t (drop_open s o) → TablesShown t (left_behind s o q)
quietly t s o q e h = subst (λ (b : Bool). TablesShown t (if b then drop_open s o else leave_open s o)) (sym e) h

pub loudly : (t : Tables) (s : Server) (o : ℕ) (q : Bool) → q ≡ false → TablesShown t (leave_open s o) → TablesShown t (left_behind s o q)
loudly t s o q e h = subst (λ (b : Bool). TablesShown t (if b then drop_open s o else leave_open s o)) (sym e) h
