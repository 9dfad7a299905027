-- Rows after one was made, or went.
use Rattle.std.proofs.Common.{◌≡◌, ℕ, ◌==◌, ◌<◌, nat_eq, Bool, true, false, if◌then◌else◌, List, Option, Some, None}
use Rattle.std.proofs.Common.{refl, sym, ap, ◌∙◌, arith}
use Rattle.std.specs.HashMap.{get, hash_map_len}
use Rattle.spec_exchange.specs.State.{Server}
use Rattle.spec_exchange.specs.Commands.{Basic}
use Rattle.store_files.specs.declared.file_tree.row.Row.{Row}
use Rattle.store_files.specs.declared.file_tree.tree.Tree.{Tree}
use Rattle.store_files.specs.file_tree.Shown.{FileRowIs, FileRowShown, FileShowsRows}

row_put : (b : Bool) (old : Option Row) (w : Row) (p : List ℕ) (path : Option (List ℕ)) (d m nd nm : Bool)
    (t nt : Basic) (c nc : List ℕ) → w.path ≡ p → FileRowIs w nd nm nt nc → FileRowShown old path d m t c
    → FileRowShown (if b then Some w else old) (if b then Some p else path) (if b then nd else d) (if b then nm else m)
    (if b then nt else t) (if b then nc else c)
row_put true old w p path d m nd nm t nt c nc e is h = (ap Some (sym e), is)
row_put false old w p path d m nd nm t nt c nc e is h = h

pub row_made : (f n k : ℕ) (old new : Option Row) (w : Row) (p : List ℕ) (path there : Option (List ℕ))
    (d m nd nm : Bool) (t nt : Basic) (c nc : List ℕ) → n ≡ k → new ≡ (if f == k then Some w else old)
    → there ≡ (if f == n then Some p else path) → w.path ≡ p → FileRowIs w nd nm nt nc → FileRowShown old path d m t c
    → FileRowShown new there (if f == n then nd else d) (if f == n then nm else m) (if f == n then nt else t) (if f == n then nc else c)
row_made f n k old new w p path there d m nd nm t nt c nc e en ep wp is h =
    rw (en, ep, e) (row_put (f == k) old w p path d m nd nm t nt c nc wp is h)

pub root_stays : (n : ℕ) (r : Row) (m nm : Bool) (t nt : Basic) (c nc : List ℕ) → 0 < n → FileRowIs r true m t c
    → FileRowIs r true (if 0 == n then nm else m) (if 0 == n then nt else t) (if 0 == n then nc else c)
root_stays n r m nm t nt c nc l h = by (0 == n) (grind arith)
  where
    by : (b : Bool) → b ≡ false → FileRowIs r true (if b then nm else m) (if b then nt else t) (if b then nc else c)
    by true e = absurd (cc)
    by false e = h

some_none : (p : List ℕ) (o : Option (List ℕ)) → o ≡ Some p → o ≡ None → false ≡ true
some_none p None a b = absurd (cc)
some_none p (Some x) a b = absurd (cc)

pub no_row : (o : Option Row) (path : Option (List ℕ)) (d m : Bool) (t : Basic) (c : List ℕ) → FileRowShown o path d m t c
    → path ≡ None → o ≡ None
no_row None path d m t c h e = refl
no_row (Some r) path d m t c h e = absurd (let x = some_none r.path path h.0 e in cc)

pub row_there : (o : Option Row) (r : Row) (path : Option (List ℕ)) (d m : Bool) (t : Basic) (c : List ℕ) → o ≡ Some r
    → FileRowShown o path d m t c → (path ≡ Some r.path) × FileRowIs r d m t c
row_there o r path d m t c e h = (rw e at h)

pub row_gone : (b : Bool) (old : Option Row) (path : Option (List ℕ)) (d m : Bool) (t : Basic) (c : List ℕ)
    → FileRowShown old path d m t c → FileRowShown (if b then None else old) (if b then None else path) d m t c
row_gone true old path d m t c h = refl
row_gone false old path d m t c h = h

pub same_rows : (t u : Tree) (s : Server) → ((q : ℕ) → get nat_eq u.rows q ≡ get nat_eq t.rows q) → hash_map_len u.rows
    ≡ hash_map_len t.rows → u.root ≡ t.root → u.next ≡ t.next → u.used ≡ t.used → u.room ≡ t.room → FileShowsRows t s
    → FileShowsRows u s
same_rows t u s rs ls ro ne us rm h = record {
  apart = h.apart;
  fresh = h.fresh;
  above = h.above;
  no_root = h.no_root;
  no_empty = h.no_empty;
  housed = h.housed;
  plain = h.plain;
  root_path = rw ro h.root_path;
  root_below = rw ro h.root_below;
  root_is = rw ro h.root_is;
  rows_are = λ f. rw (rs f) (h.rows_are f);
  count_is = h.count_is ∙ sym ls;
  next_is = h.next_is ∙ sym ne;
  used_is = h.used_is ∙ sym us;
  room_is = h.room_is ∙ sym rm;
}

pub gone_row : (o : Option Row) (path : Option (List ℕ)) (d m : Bool) (t : Basic) (c : List ℕ) → o ≡ None
    → FileRowShown o path d m t c → path ≡ None
gone_row o path d m t c e h = (rw e at h)
