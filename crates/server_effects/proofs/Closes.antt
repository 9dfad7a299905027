-- An open that leaves, and its file with it.
use Rattle.std.proofs.Common.{◌≡◌, ℕ, ◌==◌, Bool, true, false, not, ◌&&◌, if◌then◌else◌, Option, Some, None, refl, sym, subst}
use Rattle.spec_exchange.specs.Commands.{deletes_on_close}
use Rattle.spec_exchange.specs.Effects.{keep_closed}
use Rattle.spec_exchange.specs.Files.{exists, is_directory, is_full_directory, path_of, remove_file, root, set_delete_pending}
use Rattle.spec_exchange.specs.Opens.{drop_open, file_has_open, goes, is_kept_back, left_file, pending_behind, without_gone}
use Rattle.spec_exchange.specs.State.{Server}
use Rattle.spec_exchange.specs.Table.{put2}
use Rattle.store_files.specs.file_tree.Refusals.{StoreRefuses, remove_refusal}
use Rattle.store_files.specs.declared.file_tree.error.StoreError.{StoreError}
use Rattle.store_files.specs.declared.file_tree.error.StoreError.TheVariants.{Memory, Status}
use Rattle.store_files.specs.file_tree.Shown.{ShowsFiles}
use Rattle.store_files.specs.declared.file_tree.tree.Tree.{Tree}
use Rattle.store_opens.specs.open_table.Shown.{ShowsOpens}
use Rattle.store_opens.specs.declared.open_table.table.Opens.{Opens}
use Rattle.law_server.proofs.tables.Logic.{back_of, front_of, not_true}
use Rattle.server_checks.specs.Shown.{TablesShown}
use Rattle.server_checks.specs.declared.tables.Tables.{Tables}
use Rattle.server_effects.proofs.Steps.{file_pieces, pieces}

-- ---- delete pending

pub pending_tables : (t : Tables) (w : Tree) (s : Server) (o : ℕ) → deletes_on_close (s.opened o).options ≡ true → TablesShown t s
    → ShowsFiles w (set_delete_pending s (s.opened o).file true) → TablesShown (record t { tree = w }) (pending_behind s o)
pending_tables t w s o d h x = subst (λ (b : Bool). TablesShown (record t { tree = w }) (if b then set_delete_pending s
    (s.opened o).file true else s))
    (sym d) (file_pieces t w (set_delete_pending s (s.opened o).file true) h.opens x h.sessions h.share_is
    h.room_is h.encrypts_is h.address_is h.version_is h.journal_is)

pub never_pending : (t : Tables) (s : Server) (o : ℕ) → deletes_on_close (s.opened o).options ≡ false → TablesShown t s
    → TablesShown t (pending_behind s o)
never_pending t s o d h = subst (λ (b : Bool). TablesShown t (if b then set_delete_pending s (s.opened o).file true else s)) (sym d) h

-- ---- the open

pub closed_tables : (t : Tables) (u : Opens) (s : Server) (o x : ℕ) (g : Option ℕ) → TablesShown t s
    → ShowsOpens u (keep_closed (drop_open s o) x g) → TablesShown (record t { opens = u }) (keep_closed (drop_open s o) x g)
closed_tables t u s o x None h k = pieces t u
    (drop_open s o) k h.files h.sessions h.share_is h.room_is h.encrypts_is h.address_is h.version_is h.journal_is
closed_tables t u s o x (Some g) h k = pieces t u (keep_closed (drop_open s o) x (Some g)) k h.files
    h.sessions h.share_is h.room_is h.encrypts_is h.address_is h.version_is h.journal_is

-- ---- the file

going_not_root : (s : Server) (f : ℕ) → goes s f ≡ true → (f == root) ≡ false
unfolding goes
going_not_root s f e =
    let a = back_of (s.delete_pending f) (not (f == root) && (exists s f && (not (file_has_open s f) && not
    (is_full_directory s f)))) e in
    not_true (f == root) (front_of (not (f == root)) (exists s f && (not (file_has_open s f) && not (is_full_directory s f))) a)

going_empty : (s : Server) (f : ℕ) → goes s f ≡ true → is_full_directory s f ≡ false
unfolding goes
going_empty s f e =
    let a = back_of (s.delete_pending f) (not (f == root) && (exists s f && (not (file_has_open s f) && not
    (is_full_directory s f)))) e in
    let b = back_of (not (f == root)) (exists s f && (not (file_has_open s f) && not (is_full_directory s f))) a in
    let c = back_of (exists s f) (not (file_has_open s f) && not (is_full_directory s f)) b in
    not_true (is_full_directory s f) (back_of (not (file_has_open s f)) (not (is_full_directory s f)) c)

not_refused : (s : Server) (f : ℕ) → goes s f ≡ true → remove_refusal s f ≡ None
not_refused s f e = rw (going_not_root s f e, going_empty s f e) refl

pub never_refused : (s : Server) (f : ℕ) (e : StoreError) → goes s f ≡ true → StoreRefuses e (remove_refusal s f) → ⊥
never_refused s f Memory g r = r
never_refused s f (Status status) g r = let k = not_refused s f g in absurd (cc)

-- in the words of what becomes of it
by_both : (t : Tables) (s : Server) (f : ℕ) (k g : Bool) → is_kept_back s f ≡ k → goes s f ≡ g
    → TablesShown t (if k then set_delete_pending s f false else (if g then remove_file s f else s)) → TablesShown t (left_file s f)
by_both t s f k g a b h =
    subst (λ (x : Bool). TablesShown t (if x then set_delete_pending s f false else without_gone s f)) (sym a)
    (subst (λ (y : Bool). TablesShown t (if k then set_delete_pending s f false else (if y then remove_file s f else s))) (sym b) h)

pub kept_tables : (t : Tables) (w : Tree) (s : Server) (f : ℕ) → is_kept_back s f ≡ true → TablesShown t s
    → ShowsFiles w (set_delete_pending s f false) → TablesShown (record t { tree = w }) (left_file s f)
kept_tables t w s f k h x = by_both (record t { tree = w }) s f true (goes s f) k refl
    (file_pieces t w (set_delete_pending s f false) h.opens x h.sessions h.share_is
    h.room_is h.encrypts_is h.address_is h.version_is h.journal_is)

pub gone_tables : (t : Tables) (s : Server) (f : ℕ) → is_kept_back s f ≡ false → goes s f ≡ true → TablesShown t (remove_file s f)
    → TablesShown t (left_file s f)
gone_tables t s f k g h = by_both t s f false true k g h

pub left_tables : (t : Tables) (s : Server) (f : ℕ) → is_kept_back s f ≡ false → goes s f ≡ false → TablesShown t s
    → TablesShown t (left_file s f)
left_tables t s f k g h = by_both t s f false false k g h

-- ---- both

kept_file : (v : Server) (x g f : ℕ) (k b : Bool)
    → (if k then set_delete_pending (record v { closed = put2 v.closed x g true }) f false else
    (if b then remove_file (record v { closed = put2 v.closed x g true }) f else record v { closed = put2 v.closed x g true }))
    ≡ keep_closed (if k then set_delete_pending v f false else (if b then remove_file v f else v)) x (Some g)
kept_file v x g f true b = refl
kept_file v x g f false true = refl
kept_file v x g f false false = refl

pub gone_after : (v : Server) (x : ℕ) (g : Option ℕ) (f : ℕ) → left_file (keep_closed v x g) f ≡ keep_closed (left_file v f) x g
unfolding goes is_kept_back exists file_has_open is_full_directory is_directory path_of
gone_after v x None f = refl
gone_after v x (Some g) f = kept_file v x g f (is_kept_back v f) (goes v f)

exists_shut : (u : Server) (o x : ℕ) (g : Option ℕ) (f : ℕ) → exists u f ≡ true → exists (keep_closed (drop_open u o) x g) f ≡ true
unfolding exists
exists_shut u o x None f e = e
exists_shut u o x (Some g) f e = e

pub exists_marked : (s : Server) (f q : ℕ) → exists s q ≡ true → exists (set_delete_pending s f true) q ≡ true
unfolding exists
exists_marked s f q e = e

pub closing : (t2 t3 : Tables) (u : Server) (o x f z : ℕ) (g : Option ℕ) → z ≡ f → exists u f ≡ true
    → TablesShown t2 (keep_closed (drop_open u o) x g)
    → ((v : Server) → TablesShown t2 v → exists v z ≡ true → TablesShown t3 (left_file v z))
    → TablesShown t3 (keep_closed (left_file (drop_open u o) f) x g)
closing t2 t3 u o x f z g e ex h drop =
    let there : exists (keep_closed (drop_open u o) x g) f ≡ true = exists_shut u o x g f ex in
    subst (λ (v : Server). TablesShown t3 v) (gone_after (drop_open u o) x g f)
    (subst (λ (q : ℕ). TablesShown t3 (left_file (keep_closed (drop_open u o) x g) q)) e
    (drop (keep_closed (drop_open u o) x g) h
    (subst (λ (q : ℕ). exists (keep_closed (drop_open u o) x g) q ≡ true) (sym e) there)))
