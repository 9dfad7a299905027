-- Opens that leave: of their deadlines nothing that stays depends.
use Rattle.std.proofs.Common.{◌≡◌, ℕ, Bool, true, false, if◌then◌else◌, List, [], ◌∷◌, ◌++◌, Option, Some, None, refl, ap, ◌∙◌}
use Rattle.spec_exchange.specs.Commands.{deletes_on_close}
use Rattle.spec_exchange.specs.Effects.{dated, end_session, files_behind, guid_staying, leave_all, leave_all_records}
use Rattle.spec_exchange.specs.Effects.{leaves, opens_of_tree, plain_in, plain_of, tree_opens_in}
use Rattle.spec_exchange.specs.Effects.{end_if_named, end_records, ranges_staying, records_if_named, staying_in}
use Rattle.spec_exchange.specs.Files.{exists, is_directory, is_full_directory, path_of, remove_file, set_delete_pending}
use Rattle.spec_exchange.specs.Opens.{drop_open, file_has_open, goes, gone_records, is_of_tree, leave_open, leave_records, pending_behind}
use Rattle.spec_exchange.specs.Opens.{pending_records, shut_records, without_gone}
use Rattle.spec_exchange.specs.Opens.{is_kept_back, left_file, left_file_records}
use Rattle.spec_exchange.specs.Records.{origin_at}
use Rattle.spec_exchange.specs.State.{DeleteRecord, Origin, Range, Record, Server}
use Rattle.spec_exchange.specs.Step.{ends_with, forget_connection, last_session, take_all_records, take_out}
use Rattle.spec_exchange.specs.Table.{put}
use Rattle.law_records.proofs.deadlines.Checks.{with}

-- ---- one open

pend : (s : Server) (f : ℕ → Option ℕ) (o : ℕ) → pending_behind (with s f) o ≡ with (pending_behind s o) f
pend s f o = by (deletes_on_close (s.opened o).options)
  where
    by : (b : Bool) → (if b then set_delete_pending (with s f) (s.opened o).file true else with s f)
        ≡ with (if b then set_delete_pending s (s.opened o).file true else s) f
    by true = refl
    by false = refl

gone : (u : Server) (f : ℕ → Option ℕ) (x : ℕ) → without_gone (with u f) x ≡ with (without_gone u x) f
unfolding goes exists file_has_open is_full_directory is_directory path_of
gone u f x = by (goes u x)
  where
    by : (b : Bool) → (if b then remove_file (with u f) x else with u f) ≡ with (if b then remove_file u x else u) f
    by true = refl
    by false = refl

settled : (u : Server) (f : ℕ → Option ℕ) (x : ℕ) → left_file (with u f) x ≡ with (left_file u x) f
unfolding is_kept_back exists file_has_open is_full_directory is_directory path_of
settled u f x = by (is_kept_back u x)
  where
    by : (b : Bool) → (if b then set_delete_pending (with u f) x false else without_gone (with u f) x)
        ≡ with (if b then set_delete_pending u x false else without_gone u x) f
    by true = refl
    by false = gone u f x

pub left : (s : Server) (f : ℕ → Option ℕ) (o : ℕ) → leave_open (with s f) o ≡ with (leave_open s o) (put f o None)
left s f o =
    ap (λ (u : Server). left_file (drop_open u o) (s.opened o).file) (pend s f o)
    ∙ settled (drop_open (pending_behind s o) o) (put f o None) (s.opened o).file

gone_same : (u : Server) (f : ℕ → Option ℕ) (g : Origin) (x : ℕ) → gone_records (with u f) g x ≡ gone_records u g x
unfolding gone_records goes exists file_has_open is_full_directory is_directory path_of
gone_same u f g x = refl

settled_same : (u : Server) (f : ℕ → Option ℕ) (g : Origin) (x : ℕ) → left_file_records (with u f) g x ≡ left_file_records u g x
unfolding left_file_records is_kept_back exists file_has_open is_full_directory is_directory path_of
settled_same u f g x = ap (λ (rs : List Record). if is_kept_back u x then DeleteRecord g x false ∷ [] else rs) (gone_same u f g x)

pub left_file_records_same : (s : Server) (f : ℕ → Option ℕ) (g : Origin) (o : ℕ)
    → left_file_records (drop_open (pending_behind (with s f) o) o) g (s.opened o).file
    ≡ left_file_records (drop_open (pending_behind s o) o) g (s.opened o).file
left_file_records_same s f g o = ap (λ (u : Server). left_file_records (drop_open u o) g (s.opened o).file) (pend s f o)
    ∙ settled_same (drop_open (pending_behind s o) o) (put f o None) g (s.opened o).file

pub left_records : (s : Server) (f : ℕ → Option ℕ) (g : Origin) (o : ℕ) → leave_records (with s f) g o ≡ leave_records s g o
unfolding leave_records pending_records shut_records
left_records s f g o =
    ap (λ (rs : List Record). pending_records s g o ++ (shut_records s g o ++ rs)) (left_file_records_same s f g o)

-- ---- several

-- the deadlines behind them
unfoldable cleared_of : (ℕ → Option ℕ) → List ℕ → ℕ → Option ℕ
cleared_of f [] = f
cleared_of f (o ∷ os) = cleared_of (put f o None) os

all_left : (os : List ℕ) (s : Server) (f : ℕ → Option ℕ) → leave_all (with s f) os ≡ with (leave_all s os) (cleared_of f os)
unfolding leave_all cleared_of
all_left [] s f = refl
all_left (o ∷ os) s f = ap (λ (u : Server). leave_all u os) (left s f o) ∙ all_left os (leave_open s o) (put f o None)

all_left_records : (os : List ℕ) (s : Server) (f : ℕ → Option ℕ) (g : Origin) → leave_all_records (with s f) g os ≡ leave_all_records s g os
unfolding leave_all_records
all_left_records [] s f g = refl
all_left_records (o ∷ os) s f g =
    ap (λ (rs : List Record). rs ++ leave_all_records (leave_open (with s f) o) g os) (left_records s f g o)
    ∙ (ap (λ (u : Server). leave_records s g o ++ leave_all_records u g os) (left s f o)
    ∙ ap (λ (rs : List Record). leave_records s g o ++ rs) (all_left_records os (leave_open s o) (put f o None) g))

-- ---- a session's

pub plain : (s : Server) (f : ℕ → Option ℕ) (x : ℕ) (os : List ℕ) → plain_in (with s f) x os ≡ plain_in s x os
unfolding plain_in
plain s f x [] = refl
plain s f x (o ∷ os) = ap (λ (ps : List ℕ). if leaves s x o then o ∷ ps else ps) (plain s f x os)

pub of_tree : (s : Server) (f : ℕ → Option ℕ) (x t : ℕ) (os : List ℕ) → tree_opens_in (with s f) x t os ≡ tree_opens_in s x t os
unfolding tree_opens_in
of_tree s f x t [] = refl
of_tree s f x t (o ∷ os) = ap (λ (ps : List ℕ). if is_of_tree s o x t then o ∷ ps else ps) (of_tree s f x t os)

pub tree_records : (s : Server) (f : ℕ → Option ℕ) (g : Origin) (x t : ℕ) → leave_all_records (with s f) g
    (opens_of_tree (with s f) x t) ≡ leave_all_records s g (opens_of_tree s x t)
tree_records s f g x t = ap (leave_all_records (with s f) g) (of_tree s f x t s.opens) ∙ all_left_records (opens_of_tree s x t) s f g

staying : (s : Server) (f : ℕ → Option ℕ) (x : ℕ) (os : List ℕ) → staying_in (with s f) x os ≡ staying_in s x os
unfolding staying_in
staying s f x [] = refl
staying s f x (o ∷ os) = ap (λ (ps : List ℕ). if leaves s x o then ps else o ∷ ps) (staying s f x os)

ranges : (s : Server) (f : ℕ → Option ℕ) (x : ℕ) (rs : List Range) → ranges_staying (with s f) x rs ≡ ranges_staying s x rs
unfolding ranges_staying
ranges s f x [] = refl
ranges s f x (r ∷ rs) = ap (λ (ps : List Range). if leaves s x r.owner then ps else r ∷ ps) (ranges s f x rs)

guids : (s : Server) (f : ℕ → Option ℕ) (x : ℕ) (o : Option ℕ) → guid_staying (with s f) x o ≡ guid_staying s x o
guids s f x None = refl
guids s f x (Some o) = refl

pub ended_records : (s : Server) (f : ℕ → Option ℕ) (g : Origin) (x : ℕ) (q : Bool) → end_records (with s f) g x q ≡ end_records s g x q
unfolding end_records
ended_records s f g x true = refl
ended_records s f g x false = ap (leave_all_records (with s f) g) (plain s f x s.opens) ∙ all_left_records (plain_of s x) s f g

behind : (s : Server) (f : ℕ → Option ℕ) (x : ℕ) → leave_all (with s f) (plain_of (with s f) x)
    ≡ with (leave_all s (plain_of s x)) (cleared_of f (plain_of s x))
behind s f x = ap (leave_all (with s f)) (plain s f x s.opens) ∙ all_left (plain_of s x) s f

entries : (s : Server) (f : ℕ → Option ℕ) (x : ℕ) (q : Bool) → (files_behind (with s f) x q).entries ≡ (files_behind s x q).entries
entries s f x true = refl
entries s f x false = ap (λ (u : Server). u.entries) (behind s f x)

marks : (s : Server) (f : ℕ → Option ℕ) (x : ℕ) (q : Bool)
    → (files_behind (with s f) x q).delete_pending ≡ (files_behind s x q).delete_pending
marks s f x true = refl
marks s f x false = ap (λ (u : Server). u.delete_pending) (behind s f x)

ended : (s : Server) (f : ℕ → Option ℕ) (x now : ℕ) (q : Bool) → end_session (with s f) x now q
    ≡ with (end_session s x now q) (λ o. dated x now (s.opened o) (s.session_of_open o) (f o))
ended s f x now q = λ t. record (end_session s x now q) {
  entries = entries s f x q t;
  delete_pending = marks s f x q t;
  ranges = λ y. ranges s f x (s.ranges y) t;
  opens = staying s f x s.opens t;
  by_guid = λ c g. guids s f x (s.by_guid c g) t;
  deadline = λ o. dated x now (s.opened o) (s.session_of_open o) (f o);
}

-- ---- connections

pub ends : (s : Server) (f : ℕ → Option ℕ) (k : ℕ) → ends_with (with s f) k ≡ ends_with s k
ends s f k = by (s.session_on k)
  where
    by : (o : Option ℕ) → last_session (with s f) k o ≡ last_session s k o
    by None = refl
    by (Some x) = refl

pub records_if : (s : Server) (f : ℕ → Option ℕ) (g : Origin) (o : Option ℕ) (q : Bool) → records_if_named (with s f) g o q
    ≡ records_if_named s g o q
records_if s f g None q = refl
records_if s f g (Some x) q = ended_records s f g x q

pub lost_records : (s : Server) (f : ℕ → Option ℕ) (g : Origin) (k : ℕ) (q : Bool) → records_if_named (with s f) g
    (ends_with (with s f) k) q
    ≡ records_if_named s g (ends_with s k) q
lost_records s f g k q = ap (λ (o : Option ℕ). records_if_named (with s f) g o q) (ends s f k) ∙ records_if s f g (ends_with s k) q

abbrev pub dates_if : Server → (ℕ → Option ℕ) → ℕ → Option ℕ → ℕ → Option ℕ
dates_if s f now None = f
dates_if s f now (Some x) = λ o. dated x now (s.opened o) (s.session_of_open o) (f o)

ended_if : (s : Server) (f : ℕ → Option ℕ) (now : ℕ) (o : Option ℕ) (q : Bool) → end_if_named (with s f) now o q
    ≡ with (end_if_named s now o q) (dates_if s f now o)
ended_if s f now None q = refl
ended_if s f now (Some x) q = ended s f x now q

pub taken_out : (s : Server) (f : ℕ → Option ℕ) (k now : ℕ) (q : Bool) → take_out (with s f) k now q
    ≡ with (take_out s k now q) (dates_if s f now (ends_with s k))
taken_out s f k now q =
    ap (λ (o : Option ℕ). forget_connection (end_if_named (with s f) now o q) k) (ends s f k)
    ∙ ap (λ (u : Server). forget_connection u k) (ended_if s f now (ends_with s k) q)

pub all_lost_records : (ks : List ℕ) (s : Server) (f : ℕ → Option ℕ) (now : ℕ) (q : Bool) → take_all_records (with s f) ks now q
    ≡ take_all_records s ks now q
unfolding take_all_records
all_lost_records [] s f now q = refl
all_lost_records (k ∷ ks) s f now q =
    ap (λ (rs : List Record). rs ++ take_all_records (take_out (with s f) k now q) ks now q) (lost_records s f (origin_at 0) k q)
    ∙ (ap (λ (u : Server). records_if_named s (origin_at 0) (ends_with s k) q ++ take_all_records u ks now q) (taken_out s f k now q)
    ∙ ap (λ (rs : List Record). records_if_named s (origin_at 0) (ends_with s k) q ++ rs)
    (all_lost_records ks (take_out s k now q) (dates_if s f now (ends_with s k)) now q))
