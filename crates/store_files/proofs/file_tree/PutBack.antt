-- The files when one that was taken out comes back.
use Rattle.std.proofs.Common.{◌≡◌, ℕ, ◌==◌, nat_eq, Bool, true, false, if◌then◌else◌, List, [], Option, Some, None, unwrap_or}
use Rattle.std.proofs.Common.{refl, sym, ap, subst, ◌∙◌, arith}
use Rattle.std.proofs.lemmas.Bool.Decides.{nat_tests}
use Rattle.std.specs.HashMap.{get}
use Rattle.std.specs.Str.{bytes_eq}
use Rattle.spec_exchange.specs.State.{Server, Entry}
use Rattle.spec_exchange.specs.Files.{path_in, without_file}
use Rattle.store_files.specs.declared.file_tree.row.Row.{Row}
use Rattle.store_files.specs.declared.file_tree.tree.Tree.{Tree}
use Rattle.store_files.specs.file_tree.Shown.{folded, at_key, path_at, FileApart, FileRowIs, FileRowShown, ShowsFiles}
use Rattle.store_files.proofs.file_tree.Keys.{path_is}
use Rattle.store_files.proofs.file_tree.Entries.{bytes_same, key_of_path, key_gone, path_gone}
use Rattle.store_files.proofs.file_tree.RowsMade.{row_there}

pub gone_at : (es : List Entry) (f : ℕ) → path_at (without_file f es) f ≡ None
gone_at es f =
    let e : (f == f) ≡ true = grind (arith, nat_tests) in
    path_gone es f f ∙ ap (λ (b : Bool). if b then None else path_at es f) e

-- its key names it again
pub key_back : (es : List Entry) (f : ℕ) (p q : List ℕ) → FileApart es → path_at es f ≡ Some p
    → (if bytes_eq (folded p) q then Some f else at_key (without_file f es) q) ≡ at_key es q
key_back es f p q a e = by (bytes_eq (folded p) q) refl
  where
    by : (b : Bool) → bytes_eq (folded p) q ≡ b → (if b then Some f else at_key (without_file f es) q) ≡ at_key es q
    by true i = sym (key_of_path es f p a e) ∙ ap (at_key es) (bytes_same (folded p) q i)
    by false i = key_gone es f p q a e ∙ ap (λ (b : Bool). if b then None else at_key es q) i

-- its row stands at its number again
pub row_back : (s : Server) (f g : ℕ) (old new : Option Row) (w : Row) → new ≡ (if g == f then Some w else old)
    → FileRowShown old (path_at (without_file f s.entries) g) (s.directory g) (s.delete_pending g) (s.basic g) (s.content g)
    → path_at s.entries f ≡ Some w.path → FileRowIs w (s.directory f) (s.delete_pending f) (s.basic f) (s.content f)
    → FileRowShown new (path_at s.entries g) (s.directory g) (s.delete_pending g) (s.basic g) (s.content g)
row_back s f g old new w e h p i = by (g == f) refl
  where
    itself : f ≡ g → new ≡ Some w
        → FileRowShown new (path_at s.entries g) (s.directory g) (s.delete_pending g) (s.basic g) (s.content g)
    itself same is =
        subst (λ (k : ℕ). FileRowShown new (path_at s.entries k) (s.directory k) (s.delete_pending k) (s.basic k) (s.content k)) same
        (subst (λ (o : Option Row). FileRowShown o (path_at s.entries f) (s.directory f) (s.delete_pending f) (s.basic f)
        (s.content f)) (sym is) (p, i))

    another : (f == g) ≡ false → new ≡ old
        → FileRowShown new (path_at s.entries g) (s.directory g) (s.delete_pending g) (s.basic g) (s.content g)
    another n is =
        let there : path_at (without_file f s.entries) g ≡ path_at s.entries g =
        path_gone s.entries f g ∙ ap (λ (b : Bool). if b then None else path_at s.entries g) n in
        subst (λ (o : Option Row). FileRowShown o (path_at s.entries g) (s.directory g) (s.delete_pending g) (s.basic g)
        (s.content g)) (sym is)
        (subst (λ (q : Option (List ℕ)). FileRowShown old q (s.directory g) (s.delete_pending g) (s.basic g) (s.content g)) there h)

    by : (b : Bool) → (g == f) ≡ b
        → FileRowShown new (path_at s.entries g) (s.directory g) (s.delete_pending g) (s.basic g) (s.content g)
    by true t = itself (grind (arith, nat_tests)) (e ∙ ap (λ (b : Bool). if b then Some w else old) t)
    by false t = another (grind (arith, nat_tests)) (e ∙ ap (λ (b : Bool). if b then Some w else old) t)

-- the path of a file is that of its row, and its key the row's
pub row_path : (t : Tree) (s : Server) (f : ℕ) (r : Row) → ShowsFiles t s → get nat_eq t.rows f ≡ Some r → path_in s.entries f ≡ r.path
row_path t s f r h e =
    let x = row_there (get nat_eq t.rows f) r (path_at s.entries f) (s.directory f) (s.delete_pending f) (s.basic f)
    (s.content f) e (h.rows.rows_are f) in
    path_is s.entries f ∙ ap (λ (o : Option (List ℕ)). unwrap_or o []) x.0
