-- A new open, and its file.
use Rattle.std.proofs.Common.{◌≡◌, ℕ, ◌+◌, ◌==◌, Bool, true, false, if◌then◌else◌, List, [], ◌∷◌, Option, Some, None, slice_get}
use Rattle.std.proofs.Common.{refl, sym, ap, subst, arith, ◌∙◌}
use Rattle.std.proofs.lemmas.Bool.Decides.{nat_tests}
use Rattle.spec_exchange.specs.CheckCreate.{empties}
use Rattle.spec_exchange.specs.Commands.{CreateRequest, Durable, asks_directory}
use Rattle.spec_exchange.specs.Effects.{file_made, guid_of, guids_after, make_open, new_file, next_open, open_row}
use Rattle.spec_exchange.specs.Effects.{made_attributes}
use Rattle.spec_exchange.specs.Files.{empty_file, exists, make_file}
use Rattle.spec_exchange.specs.Files.{file_attributes}
use Rattle.spec_exchange.specs.Opens.{add_open}
use Rattle.spec_exchange.specs.State as model
use Rattle.spec_exchange.specs.State.{Message, Server, Range}
use Rattle.spec_exchange.specs.Table.{put}
use Rattle.store_files.specs.file_tree.Shown.{ShowsFiles}
use Rattle.store_files.specs.declared.file_tree.tree.Tree.{Tree}
use Rattle.store_opens.specs.open_index.Keep.{guids_with}
use Rattle.store_opens.specs.open_table.Changes.{created}
use Rattle.store_opens.specs.open_table.Rows.{parts_of}
use Rattle.store_opens.specs.open_table.Shown.{ShowsOpens}
use Rattle.store_opens.specs.declared.open_table.row.Row.{Row}
use Rattle.store_opens.specs.declared.open_table.table.Opens.{Opens}
use Rattle.law_server.proofs.tables.Lists.{exists-pushed}
use Rattle.law_server.proofs.tables.Logic.{either}
use Rattle.law_server.specs.tables.Fits.{Fits}
use Rattle.server_checks.specs.Shown.{TablesShown}
use Rattle.server_checks.specs.declared.tables.Tables.{Tables}
use Rattle.server_effects.specs.Able.{AbleToMake, FoundIsFile}
use Rattle.server_effects.specs.Making.{RowFor}
use Rattle.server_effects.specs.Ready.{OthersShown}

-- ---- the file

pub found_is_file : (s : Server) (r : CreateRequest) (found : Option ℕ) (action : ℕ) → AbleToMake s r found action → FoundIsFile s r found
found_is_file s r None action a = tt
found_is_file s r (Some f) action a = a

pub file_new : (s : Server) (r : CreateRequest) (found : Option ℕ) (now : ℕ) (w : Tree) → found ≡ None
    → ShowsFiles w (make_file s r.path (asks_directory r) (made_attributes r) now) → ShowsFiles w (file_made s r found now)
file_new s r found now w e h = subst (λ (o : Option ℕ). ShowsFiles w (file_made s r o now)) (sym e) h

pub file_emptied : (s : Server) (r : CreateRequest) (found : Option ℕ) (f attributes now : ℕ) (w : Tree) → found ≡ Some f
    → attributes ≡ file_attributes r.attributes → empties r.disposition ≡ true → ShowsFiles w (empty_file s f attributes now)
    → ShowsFiles w (file_made s r found now)
file_emptied s r found f attributes now w e a b h = subst (λ (o : Option ℕ). ShowsFiles w (file_made s r o now)) (sym e)
    (subst (λ (x : Bool). ShowsFiles w (if x then empty_file s f (file_attributes r.attributes) now else s)) (sym b)
    (subst (λ (z : ℕ). ShowsFiles w (empty_file s f z now)) a h))

pub file_left : (s : Server) (r : CreateRequest) (found : Option ℕ) (f now : ℕ) (w : Tree) → found ≡ Some f
    → empties r.disposition ≡ false → ShowsFiles w s → ShowsFiles w (file_made s r found now)
file_left s r found f now w e b h = subst (λ (o : Option ℕ). ShowsFiles w (file_made s r o now)) (sym e)
    (subst (λ (x : Bool). ShowsFiles w (if x then empty_file s f (file_attributes r.attributes) now else s)) (sym b) h)

pub file_there : (s : Server) (r : CreateRequest) (f : ℕ) (found : Option ℕ) → found ≡ Some f
    → FoundIsFile s r found → FoundIsFile s r (Some f)
file_there s r f found e h = subst (λ (o : Option ℕ). FoundIsFile s r o) e h

-- ---- the state behind it: any of these files, and the open

abbrev pub with_open : Server → Server → Message → CreateRequest → Option ℕ → ℕ → Server
with_open s v m r found action = record (add_open v (next_open s) (open_row s m r (new_file s found) action) (Some m.session_id)
    m.channel_sequence) {
      open_ids_given = s.open_ids_given + 1;
      tree_of_open = put s.tree_of_open (next_open s) m.tree_id;
      guids = guids_after s m.session_id r.durable;
    }

-- no range stands of a file that isn't there yet
number_is_new : (s : Server) → Fits s → exists s s.next_file ≡ false
unfolding exists
number_is_new s f = let a = f.file_numbers s.next_file in let b = f.next_file in grind (arith, nat_tests)

owned : (s : Server) (rs : List Range) → Fits s → s.ranges s.next_file ≡ rs → rs ≡ []
owned s [] f e = refl
owned s (r ∷ rs) f e =
    let k = f.range_owners s.next_file 0 r (ap (λ (l : List Range). slice_get l 0) e) in
    let x : exists s s.next_file ≡ true = subst (λ (z : ℕ). exists s z ≡ true) k.1 (f.open_files r.owner k.0) in
    let n : exists s s.next_file ≡ false = number_is_new s f in
    absurd (cc)

no_ranges : (s : Server) → Fits s → s.ranges s.next_file ≡ []
no_ranges s f = owned s (s.ranges s.next_file) f refl

same_ranges : (s : Server) (f : ℕ) → Fits s → put s.ranges s.next_file [] f ≡ s.ranges f
same_ranges s f fits = by (f == s.next_file) refl
  where
    by : (b : Bool) → (f == s.next_file) ≡ b → (if b then [] else s.ranges f) ≡ s.ranges f
    by true k = let e : f ≡ s.next_file = grind arith in sym (ap s.ranges e ∙ no_ranges s fits)
    by false k = refl

other_ranges : (u : Opens) (v : Server) (ranges : ℕ → List Range) → ((f : ℕ) → ranges f ≡ v.ranges f) → ShowsOpens u v
    → ShowsOpens u (record v { ranges = ranges })
other_ranges u v ranges e h = record {
  epoch_is = h.epoch_is;
  given_is = h.given_is;
  count_is = h.count_is;
  rows_are = h.rows_are;
  trees_are = h.trees_are;
  guids_are = h.guids_are;
  files_are = λ f. rw (e f) (h.files_are f);
  sessions_are = h.sessions_are;
  listed = h.listed;
  plain_listed = h.plain_listed;
  named = h.named;
  expired_are = h.expired_are;
  expired_count_is = h.expired_count_is;
  indexed = h.indexed;
  undated = h.undated;
}

opens_made : (u : Opens) (s : Server) (m : Message) (r : CreateRequest) (found : Option ℕ) (action now : ℕ) → Fits s
    → ShowsOpens u (with_open s s m r found action) → ShowsOpens u (make_open s m r found action now)
opens_made u s m r None action now f h = other_ranges u (with_open s s m r None action) (put s.ranges s.next_file [])
    (λ g. same_ranges s g f) h
opens_made u s m r (Some g) action now f h = either (λ v. ShowsOpens u (with_open s v m r (Some g) action)) (empties r.disposition)
    (empty_file s g (file_attributes r.attributes) now) s (λ _. h) (λ _. h)

guids_same : (s : Server) (x : ℕ) (d : Option Durable) → guids_with (Some x) (guid_of d) s.guids ≡ guids_after s x d
guids_same s x None = refl
guids_same s x (Some d) = refl

-- the open of a row
abbrev of_row : Server → model.Open → Option ℕ → ℕ → ℕ → Server
of_row s o session tree sequence = record (add_open s (next_open s) o session sequence) {
  open_ids_given = s.open_ids_given + 1;
  tree_of_open = put s.tree_of_open (next_open s) tree;
  guids = guids_with session o.create_guid s.guids;
}

row_opens : (u : Opens) (s : Server) (m : Message) (r : CreateRequest) (found : Option ℕ) (action : ℕ) (row : Row)
    → RowFor s m r found action row → ShowsOpens u (created s (parts_of row) row.user) → ShowsOpens u (with_open s s m r found action)
row_opens u s m r found action row i h =
    let o = open_row s m r (new_file s found) action in
    subst (λ (g : ℕ → ℕ). ShowsOpens u (record (add_open s (next_open s) o (Some m.session_id) m.channel_sequence) {
      open_ids_given = s.open_ids_given + 1;
      tree_of_open = put s.tree_of_open (next_open s) m.tree_id;
      guids = g;
    })) (guids_same s m.session_id r.durable)
    (subst (λ (n : ℕ). ShowsOpens u (of_row s o (Some m.session_id) m.tree_id n)) i.sequence_is
    (subst (λ (n : ℕ). ShowsOpens u (of_row s o (Some m.session_id) n row.sequence)) i.tree_is
    (subst (λ (x : Option ℕ). ShowsOpens u (of_row s o x row.tree row.sequence)) i.session_is
    (subst (λ (p : model.Open). ShowsOpens u (of_row s p row.session row.tree row.sequence)) i.opened_is h))))

pub made_tables : (t : Tables) (w : Tree) (u : Opens) (s : Server) (m : Message) (r : CreateRequest) (found : Option ℕ) (action now : ℕ)
    (row : Row) → Fits s → OthersShown t s → RowFor s m r found action row → ShowsFiles w (file_made s r found now)
    → ShowsOpens u (created s (parts_of row) row.user) → TablesShown (record t { tree = w; opens = u }) (make_open s m r found action now)
made_tables t w u s m r None action now row f h i files opens =
    let k : ShowsOpens u (make_open s m r None action now)
    = opens_made u s m r None action now f (row_opens u s m r None action row i opens) in
    record {
      opens = k;
      files = files;
      sessions = h.sessions;
      share_is = h.share_is;
      room_is = h.room_is;
      encrypts_is = h.encrypts_is;
      address_is = h.address_is;
      version_is = h.version_is;
      journal_is = h.journal_is;
    }
made_tables t w u s m r (Some g) action now row f h i files opens =
    let k = row_opens u s m r (Some g) action row i opens in
    either (λ v. ShowsFiles w v → TablesShown (record t { tree = w; opens = u }) (with_open s v m r (Some g) action))
    (empties r.disposition) (empty_file s g (file_attributes r.attributes) now) s
    (λ _ x. record {
      opens = k;
      files = x;
      sessions = h.sessions;
      share_is = h.share_is;
      room_is = h.room_is;
      encrypts_is = h.encrypts_is;
      address_is = h.address_is;
      version_is = h.version_is;
      journal_is = h.journal_is;
    })
    (λ _ x. record {
      opens = k;
      files = x;
      sessions = h.sessions;
      share_is = h.share_is;
      room_is = h.room_is;
      encrypts_is = h.encrypts_is;
      address_is = h.address_is;
      version_is = h.version_is;
      journal_is = h.journal_is;
    }) files

-- ---- the new open stands, of a file that is there

at_itself : {X : Type 0} (n : ℕ) (x y : X) → (if n == n then x else y) ≡ x
at_itself n x y = let e : (n == n) ≡ true = grind arith in rw e refl

pub made_standing : (s : Server) (m : Message) (r : CreateRequest) (found : Option ℕ) (action now id : ℕ) → id ≡ next_open s
    → (make_open s m r found action now).standing id ≡ true
made_standing s m r found action now id e = subst (λ (z : ℕ). (make_open s m r found action now).standing z ≡ true) (sym e)
    (at_itself (next_open s) true ((file_made s r found now).standing (next_open s)))

made_opened : (s : Server) (m : Message) (r : CreateRequest) (found : Option ℕ) (action now : ℕ)
    → (make_open s m r found action now).opened (next_open s) ≡ open_row s m r (new_file s found) action
made_opened s m r found action now = at_itself (next_open s) (open_row s m r (new_file s found) action)
    ((file_made s r found now).opened (next_open s))

new_there : (s : Server) (m : Message) (r : CreateRequest) (found : Option ℕ) (action now : ℕ) → AbleToMake s r found action
    → exists (make_open s m r found action now) (new_file s found) ≡ true
unfolding exists
new_there s m r None action now a = let e = exists-pushed s.entries (record { file = s.next_file; path = r.path }) s.next_file in
    grind (arith, nat_tests)
new_there s m r (Some f) action now a = either (λ v. exists (with_open s v m r (Some f) action) f ≡ true) (empties r.disposition)
    (empty_file s f (file_attributes r.attributes) now) s (λ _. a.0) (λ _. a.0)

pub made_there : (s : Server) (m : Message) (r : CreateRequest) (found : Option ℕ) (action now id : ℕ) → AbleToMake s r found action
    → id ≡ next_open s → exists (make_open s m r found action now) ((make_open s m r found action now).opened id).file ≡ true
made_there s m r found action now id a e =
    subst (λ (z : ℕ). exists (make_open s m r found action now) ((make_open s m r found action now).opened z).file ≡ true) (sym e)
    (subst (λ (o : model.Open). exists (make_open s m r found action now) o.file ≡ true) (sym (made_opened s m r found action now))
    (new_there s m r found action now a))
