-- The tables behind the end of a session.
use Rattle.std.proofs.Common.{◌≡◌, ℕ, Bool, true, false, not, ◌&&◌, if◌then◌else◌, List, [], ◌∷◌, length, Option, None, nat_eq}
use Rattle.std.proofs.Common.{sym, ap, subst, ◌∙◌}
use Rattle.std.specs.HashMap.{get}
use Rattle.spec_exchange.specs.Effects.{cleared, dated, end_session, files_behind, leaves, plain_of, ranges_staying, staying_in}
use Rattle.spec_exchange.specs.State.{Entry, Range, Server}
use Rattle.spec_exchange.specs.Table.{has, is_at}
use Rattle.store_files.specs.file_tree.Shown.{FilesShown, ShowsFiles}
use Rattle.store_files.specs.declared.file_tree.tree.Tree.{Tree}
use Rattle.law_records.proofs.leaving_opens.All.{plain_in_order}
use Rattle.law_records.proofs.leaving_opens.Opens.{rest}
use Rattle.store_opens.specs.open_index.Held.{HeldShown, sharing_in}
use Rattle.store_opens.specs.open_table.Changes.{HasNoPlain, detached}
use Rattle.store_opens.specs.open_table.Rows.{OpenRowShown}
use Rattle.store_opens.specs.open_table.Shown.{ShowsOpens}
use Rattle.store_opens.specs.declared.open_table.table.Opens.{Opens}
use Rattle.law_server.proofs.tables.Logic.{back_of, front_of, not_true}
use Rattle.law_server.specs.tables.Fits.{Fits, is_ascending}
use Rattle.server_checks.specs.session_table.Changes.{session_gone}
use Rattle.server_checks.specs.session_table.Shown.{ShowsSessions}
use Rattle.server_checks.specs.declared.session_table.table.Sessions.{Sessions}
use Rattle.server_checks.specs.Shown.{TablesShown}
use Rattle.server_checks.specs.declared.tables.Tables.{Tables}
use Rattle.server_effects.proofs.session_ends.Columns.{dropped, entries_of, left_standing, pending_of, shape, with_files, with_opens}
use Rattle.server_effects.proofs.session_ends.Left.{here, left_keeps, plain_stands}
use Rattle.server_effects.proofs.session_ends.Opens.{AllStand, deadline_left, dropped_session, guid_left, opens_left}
use Rattle.server_effects.proofs.session_ends.Opens.{plain_has, ranges_left, rest_stand}
use Rattle.server_effects.proofs.session_ends.Opens.{session_left, standing_left}
use Rattle.server_effects.specs.session_ends.Ended.{all_left, left_behind}

-- ---- behind those that left

all_keeps : (s : Server) (os : List ℕ) (q : Bool) → is_ascending os ≡ true → AllStand s os → Fits s → Fits (all_left s os q)
all_keeps s [] q a h f = f
all_keeps s (o ∷ os) q a h f = all_keeps (left_behind s o q) os q (rest o os a)
    (subst (λ (standing : ℕ → Bool). (p : ℕ) → has p os ≡ true → standing p ≡ true) (sym (left_standing s o q)) (rest_stand s o os a h))
    (left_keeps s o q (h o (here o os)) f)

pub fits_left : (s : Server) (x : ℕ) (q : Bool) → Fits s → Fits (all_left s (plain_of s x) q)
fits_left s x q f = all_keeps s (plain_of s x) q (plain_in_order s x f) (λ p i. plain_stands s x p f i) f

none_plain : (s : Server) (x : ℕ) → Fits s → HasNoPlain (with_opens s (dropped s (plain_of s x))) x
none_plain s x f o st =
    let b : (s.standing o && not (leaves s x o)) ≡ true = sym (standing_left s x o f) ∙ st in
    let l : leaves s x o ≡ false = not_true (leaves s x o) (back_of (s.standing o) (not (leaves s x o)) b) in
    let h : has o (plain_of s x) ≡ false = plain_has s x o f (front_of (s.standing o) (not (leaves s x o)) b) ∙ l in
    let k : (dropped s (plain_of s x)).session_of_open o ≡ s.session_of_open o = dropped_session s (plain_of s x) o
    ∙ ap (λ (c : Bool). if c then None else s.session_of_open o) h in
    ap (λ (z : Option ℕ). is_at x z && not (s.opened o).persistent) k ∙ l

pub has_no_plain : (s : Server) (x : ℕ) (q : Bool) → Fits s → HasNoPlain (all_left s (plain_of s x) q) x
has_no_plain s x q f = subst (λ (v : Server). HasNoPlain v x) (sym (shape s (plain_of s x) q)) (none_plain s x f)

pub present_left : (s : Server) (x : ℕ) (q : Bool) → s.present x ≡ true → (all_left s (plain_of s x) q).present x ≡ true
present_left s x q p = subst (λ (v : Server). v.present x ≡ true) (sym (shape s (plain_of s x) q)) p

-- ---- opens

row_ended : (u : Opens) (s : Server) (x now p : ℕ) → Fits s
    → OpenRowShown (get nat_eq u.rows p) ((dropped s (plain_of s x)).standing p) (s.opened p)
    (cleared x ((dropped s (plain_of s x)).session_of_open p)) (s.sequence p)
    (dated x now (s.opened p) ((dropped s (plain_of s x)).session_of_open p) ((dropped s (plain_of s x)).deadline p))
    (s.enumeration_location p, s.current_byte_offset p) (s.lock_sequences p)
    → OpenRowShown (get nat_eq u.rows p) (s.standing p && not (leaves s x p)) (s.opened p) (cleared x (s.session_of_open p)) (s.sequence p)
    (dated x now (s.opened p) (s.session_of_open p) (s.deadline p)) (s.enumeration_location p, s.current_byte_offset p) (s.lock_sequences p)
row_ended u s x now p f h =
    subst (λ (d : Option ℕ). OpenRowShown (get nat_eq u.rows p) (s.standing p && not (leaves s x p)) (s.opened p)
    (cleared x (s.session_of_open p)) (s.sequence p) d (s.enumeration_location p, s.current_byte_offset p) (s.lock_sequences p)) (deadline_left s x now p)
    (subst (λ (z : Option ℕ). OpenRowShown (get nat_eq u.rows p) (s.standing p && not (leaves s x p)) (s.opened p) z (s.sequence p)
    (dated x now (s.opened p) ((dropped s (plain_of s x)).session_of_open p) ((dropped s (plain_of s x)).deadline p))
    (s.enumeration_location p, s.current_byte_offset p) (s.lock_sequences p)) (session_left s x p)
    (subst (λ (b : Bool). OpenRowShown (get nat_eq u.rows p) b (s.opened p) (cleared x ((dropped s (plain_of s x)).session_of_open p))
    (s.sequence p) (dated x now (s.opened p) ((dropped s (plain_of s x)).session_of_open p) ((dropped s (plain_of s x)).deadline p))
    (s.enumeration_location p, s.current_byte_offset p) (s.lock_sequences p)) (standing_left s x p f) h))

file_ended : (u : Opens) (s : Server) (x f : ℕ) → Fits s
    → HeldShown (get nat_eq u.files f) (sharing_in s.opened (dropped s (plain_of s x)).opens f) ((dropped s (plain_of s x)).ranges f)
    → HeldShown (get nat_eq u.files f) (sharing_in s.opened (staying_in s x s.opens) f) (ranges_staying s x (s.ranges f))
file_ended u s x f i h =
    subst (λ (rs : List Range). HeldShown (get nat_eq u.files f) (sharing_in s.opened (staying_in s x s.opens) f) rs) (ranges_left s x f i)
    (subst (λ (os : List ℕ). HeldShown (get nat_eq u.files f) (sharing_in s.opened os f) ((dropped s (plain_of s x)).ranges f))
    (opens_left s x i) h)

opens_ended : (u : Opens) (s : Server) (x now : ℕ) (q : Bool) → Fits s
    → ShowsOpens u (detached (with_opens s (dropped s (plain_of s x))) x now) → ShowsOpens u (end_session s x now q)
opens_ended u s x now q f h = record {
  epoch_is = h.epoch_is;
  given_is = h.given_is;
  count_is = ap (λ (os : List ℕ). length os) (sym (opens_left s x f)) ∙ h.count_is;
  rows_are = λ p. row_ended u s x now p f (h.rows_are p);
  trees_are = h.trees_are;
  guids_are = λ c g. sym (guid_left s x c g f) ∙ h.guids_are c g;
  files_are = λ g. file_ended u s x g f (h.files_are g);
  sessions_are = h.sessions_are;
  listed = λ o y e. h.listed o y (session_left s x o ∙ e);
  plain_listed = λ o y e z. h.plain_listed o y (session_left s x o ∙ e) z;
  named = λ o y g e z. h.named o y g (session_left s x o ∙ e) z;
  expired_are = h.expired_are;
  expired_count_is = h.expired_count_is;
  indexed = λ w o d e. h.indexed w o d (deadline_left s x now o ∙ e);
  undated = λ o st se de. h.undated o (standing_left s x o f ∙ st) (session_left s x o ∙ se) (deadline_left s x now o ∙ de);
}

-- ---- files

files_ended : (w : Tree) (s : Server) (x now : ℕ) (q : Bool)
    → ShowsFiles w (with_files (with_opens s (dropped s (plain_of s x))) (all_left s (plain_of s x) q))
    → ShowsFiles w (end_session s x now q)
files_ended w s x now q h =
    subst (λ (es : List Entry). FilesShown w es s.next_file s.directory (files_behind s x q).delete_pending s.basic s.content s.room)
    (entries_of s x q)
    (subst (λ (d : ℕ → Bool). FilesShown w (all_left s (plain_of s x) q).entries s.next_file s.directory d s.basic s.content s.room)
    (pending_of s x q) h)

-- ---- all tables

pub ended_tables : (t : Tables) (u : Opens) (c : Sessions) (s : Server) (x now : ℕ) (q : Bool) → Fits s
    → TablesShown t (all_left s (plain_of s x) q) → ShowsOpens u (detached (all_left s (plain_of s x) q) x now)
    → ShowsSessions c (session_gone (all_left s (plain_of s x) q) x)
    → TablesShown (record t { opens = u; sessions = c }) (end_session s x now q)
ended_tables t u c s x now q f h opens sessions =
    let k : all_left s (plain_of s x) q ≡ with_files (with_opens s (dropped s (plain_of s x))) (all_left s (plain_of s x) q)
    = shape s (plain_of s x) q in
    let m = subst (λ (v : Server). TablesShown t v) k h in
    record {
      opens = opens_ended u s x now q f (subst (λ (v : Server). ShowsOpens u (detached v x now)) k opens);
      files = files_ended t.tree s x now q m.files;
      sessions = subst (λ (v : Server). ShowsSessions c (session_gone v x)) k sessions;
      share_is = m.share_is;
      room_is = m.room_is;
      encrypts_is = m.encrypts_is;
      address_is = m.address_is;
      version_is = m.version_is;
      journal_is = m.journal_is;
    }
