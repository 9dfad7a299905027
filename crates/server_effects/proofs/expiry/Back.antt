-- A file that comes back, or isn't delete pending any more.
use Rattle.std.proofs.Common.{◌≡◌, ℕ, ◌==◌, Bool, true, false, if◌then◌else◌, List, [], ◌∷◌, Option, Some, None, nat_eq}
use Rattle.std.proofs.Common.{refl, sym, ap, subst, ◌∙◌, eqb-true, arith}
use Rattle.std.specs.HashMap.{get}
use Rattle.spec_exchange.specs.Table.{put}
use Rattle.spec_exchange.specs.Commands.{Basic, deletes_on_close}
use Rattle.spec_exchange.specs.State.{Server, Entry}
use Rattle.spec_exchange.specs.Files.{root, remove_file, set_delete_pending, without_file}
use Rattle.store_files.specs.file_tree.Shown.{FileRowShown, FileRowIs, ShowsFiles, path_at}
use Rattle.store_files.specs.declared.file_tree.row.Row.{Row}
use Rattle.store_files.specs.file_tree.Gone.{GoneOf}
use Rattle.store_files.specs.declared.file_tree.gone.Gone.{Gone}
use Rattle.store_files.specs.declared.file_tree.tree.Tree.{Tree}
use Rattle.spec_exchange.specs.Step.{expire}
use Rattle.law_server.specs.tables.Fits.{Fits}
use Rattle.spec_exchange.specs.Opens.{drop_open, pending_behind}
use Rattle.server_effects.specs.expiry.Expired.{GoneWith, goes_behind, kept_behind}
use Rattle.server_effects.proofs.Parted.{kept_apart}
use Rattle.server_effects.proofs.expiry.Goes.{not_root}
use Rattle.server_effects.proofs.expiry.Behind.{files_before}

-- of a file that isn't there the mark is no column
row_free : (r : Option Row) (p : Option (List ℕ)) (d m n : Bool) (basic : Basic) (content : List ℕ) → p ≡ None
    → FileRowShown r p d m basic content → FileRowShown r p d n basic content
row_free None p d m n basic content e h = h
row_free (Some r) p d m n basic content e h = absurd (let f = sym e ∙ h.0 in cc)

gone_path : (f : ℕ) (es : List Entry) → path_at (without_file f es) f ≡ None
unfolding path_at without_file
gone_path f [] = refl
gone_path f (e ∷ es) = by (e.file == f) refl (gone_path f es)
  where
    by : (b : Bool) → (e.file == f) ≡ b → path_at (without_file f es) f ≡ None
        → path_at (if b then without_file f es else e ∷ without_file f es) f ≡ None
    by true i old = old
    by false i old = ap (λ (b : Bool). if b then Some e.path else path_at (without_file f es) f) i ∙ old

-- the state with another mark at one file
abbrev pub re_marked : Server → (ℕ → Bool) → Server
re_marked w marks = record w { delete_pending = marks }

unmarked_at : (t : Tree) (w : Server) (f : ℕ) (b : Bool) → path_at w.entries f ≡ None → (0 == f) ≡ false
    → ShowsFiles t (set_delete_pending w f b) → ShowsFiles t w
unmarked_at t w f b none above h = record {
  rows = record {
    apart = h.rows.apart;
    fresh = h.rows.fresh;
    above = h.rows.above;
    no_root = h.rows.no_root;
    no_empty = h.rows.no_empty;
    housed = h.rows.housed;
    plain = h.rows.plain;
    root_path = h.rows.root_path;
    root_below = h.rows.root_below;
    root_is = subst (λ (m : Bool). FileRowIs t.root true m (w.basic 0) (w.content 0))
        (ap (λ (d : Bool). if d then b else w.delete_pending 0) above)
        h.rows.root_is;
    rows_are = λ q. at q (q == f) refl (h.rows.rows_are q);
    count_is = h.rows.count_is;
    next_is = h.rows.next_is;
    used_is = h.rows.used_is;
    room_is = h.rows.room_is;
  };
  keys_are = h.keys_are;
}
  where
    at : (q : ℕ) (d : Bool) → (q == f) ≡ d
        → FileRowShown (get nat_eq t.rows q) (path_at w.entries q) (w.directory q) (if d then b else w.delete_pending q)
        (w.basic q) (w.content q)
        → FileRowShown (get nat_eq t.rows q) (path_at w.entries q) (w.directory q) (w.delete_pending q) (w.basic q) (w.content q)
    at q true e k = row_free (get nat_eq t.rows q) (path_at w.entries q) (w.directory q) b (w.delete_pending q) (w.basic q) (w.content q)
        (subst (λ (z : ℕ). path_at w.entries z ≡ None) (sym (eqb-true q f e)) none) k
    at q false e k = k

-- its file went: the mark doesn't count
pub gone_unmarked : (t : Tree) (s : Server) (f : ℕ) (d : Bool) → (f == root) ≡ false
    → ShowsFiles t (if d then set_delete_pending (remove_file s f) f true else remove_file s f) → ShowsFiles t (remove_file s f)
gone_unmarked t s f false below h = h
gone_unmarked t s f true below h =
    let above : (0 == f) ≡ false = grind arith in unmarked_at t (remove_file s f) f true (gone_path f s.entries) above h

-- it is there yet: the mark is as it was
abbrev marks : Server → ℕ → Bool → ℕ → Bool
marks s f d = if d then put s.delete_pending f true else s.delete_pending

pub mark_back : (t : Tree) (s : Server) (f : ℕ) (d k was : Bool) → was ≡ s.delete_pending f
    → ShowsFiles t (set_delete_pending (if k then set_delete_pending (if d then set_delete_pending s f true else s) f false
    else (if d then set_delete_pending s f true else s)) f was) → ShowsFiles t s
mark_back t s f d k was e h = subst (λ (marks : ℕ → Bool). ShowsFiles t (re_marked s marks)) (same d k) (by d k h)
  where
    by : (d k : Bool) → ShowsFiles t (set_delete_pending (if k then set_delete_pending (if d then set_delete_pending s f true else s) f false
        else (if d then set_delete_pending s f true else s)) f was)
        → ShowsFiles t (re_marked s (put (if k then put (marks s f d) f false else marks s f d) f was))
    by true true x = x
    by true false x = x
    by false true x = x
    by false false x = x

    at : (d k : Bool) (q : ℕ) (b : Bool) → (q == f) ≡ b
        → (if b then was else ((if k then put (marks s f d) f false else marks s f d) q)) ≡ s.delete_pending q
    at d k q true i = e ∙ ap (λ (z : ℕ). s.delete_pending z) (sym (eqb-true q f i))
    at true true q false i = ap (λ (b : Bool). if b then false else (if b then true else s.delete_pending q)) i
    at true false q false i = ap (λ (b : Bool). if b then true else s.delete_pending q) i
    at false true q false i = ap (λ (b : Bool). if b then false else s.delete_pending q) i
    at false false q false i = refl

    same : (d k : Bool) → put (if k then put (marks s f d) f false else marks s f d) f was ≡ s.delete_pending
    same d k = λ t q. at d k q (q == f) refl t

-- ---- the file of an open that was taken out

-- where none goes, none went
pub stayed : (b : Bool) (gone : Option Gone) (s : Server) (f : ℕ) → b ≡ false → GoneWith b gone s f → gone ≡ None
stayed true gone s f e h = absurd (cc)
stayed false gone s f e h = h

-- it went, and comes back
pub back_gone : (old new : Tree) (s : Server) (o : ℕ) (gone : Gone) (r : Bool) → Fits s → s.standing o ≡ true
    → GoneWith (goes_behind s o) (Some gone) s (s.opened o).file → ShowsFiles old (expire s o)
    → ((s : Server) → r ≡ true → ShowsFiles old (remove_file s gone.file) → GoneOf (Some gone) s gone.file → ShowsFiles new s)
    → r ≡ true → ShowsFiles new s
back_gone old new s o gone r i st g h back done = by (kept_behind s o) (goes_behind s o) refl refl g (files_before old s o h)
  where
    f : ℕ
    f = (s.opened o).file

    by : (kept b : Bool) → kept_behind s o ≡ kept → goes_behind s o ≡ b → GoneWith b (Some gone) s f
        → ShowsFiles old (if kept then set_delete_pending (if deletes_on_close (s.opened o).options
        then set_delete_pending (if b then remove_file s f else s) f true else (if b then remove_file s f else s)) f false
        else (if deletes_on_close (s.opened o).options then set_delete_pending (if b then remove_file s f else s) f true
        else (if b then remove_file s f else s))) → ShowsFiles new s
    by kept false a e k t = absurd (cc)
    by true true a e k t = absurd (let n = kept_apart (drop_open (pending_behind s o) o) f a in cc)
    by false true a e k t =
        back s done (subst (λ (z : ℕ). ShowsFiles old (remove_file s z)) (sym k.file_is)
        (gone_unmarked old s f (deletes_on_close (s.opened o).options) (not_root s o i st e) t))
        (subst (λ (z : ℕ). GoneOf (Some gone) s z) (sym k.file_is) k)

-- it didn't go, and is as delete pending as it was
pub back_there : (old new : Tree) (s : Server) (o file : ℕ) (was : Bool) → file ≡ (s.opened o).file
    → GoneWith (goes_behind s o) None s (s.opened o).file → was ≡ s.delete_pending (s.opened o).file → ShowsFiles old (expire s o)
    → ((s : Server) → ShowsFiles old s → ShowsFiles new (set_delete_pending s file was)) → ShowsFiles new s
back_there old new s o file was e g w h mark = by (goes_behind s o) g (files_before old s o h)
  where
    f : ℕ
    f = (s.opened o).file

    by : (b : Bool) → GoneWith b None s f
        → ShowsFiles old (if kept_behind s o then set_delete_pending (if deletes_on_close (s.opened o).options
        then set_delete_pending (if b then remove_file s f else s) f true else (if b then remove_file s f else s)) f false
        else (if deletes_on_close (s.opened o).options then set_delete_pending (if b then remove_file s f else s) f true
        else (if b then remove_file s f else s))) → ShowsFiles new s
    by true k t = absurd k
    by false k t =
        let left = if kept_behind s o then set_delete_pending (if deletes_on_close (s.opened o).options then set_delete_pending s f true
        else s) f false else (if deletes_on_close (s.opened o).options then set_delete_pending s f true else s) in
        mark_back new s f (deletes_on_close (s.opened o).options) (kept_behind s o) was w
        (subst (λ (z : ℕ). ShowsFiles new (set_delete_pending left z was)) e (mark left t))
