-- What is shown behind a change of one part.
use Rattle.std.proofs.Common.{◌≡◌, ℕ, ◌+◌, ◌-◌, ◌<◌, ◌==◌, nat_eq, Bool, true, false, ◌&&◌, ◌||◌, if◌then◌else◌, List, [], ◌∷◌, ◌++◌}
use Rattle.std.proofs.Common.{refl, sym, ap, subst, ◌∙◌, arith, eqb-true}
use Rattle.std.specs.BTreeSet.{BTreeSet, contains}
use Rattle.std.specs.HashMap.{get}
use Rattle.std.specs.BTreeMap.{is_at}
use Rattle.std.specs.List.{filter, list_any}
use Rattle.std.specs.Ordering.{nat_cmp}
use Rattle.spec_exchange.specs.Commands.{Basic}
use Rattle.spec_exchange.specs.Table.{put}
use Rattle.spec_exchange.specs.State.{Server, Entry, Range}
use Rattle.spec_exchange.specs.Files.{root, exists, exists_in, make_file, set_delete_pending, times_at}
use Rattle.spec_exchange.specs.Fold.{nothing_yet}
use Rattle.spec_exchange.specs.State as model
use Rattle.spec_exchange.specs.Files.{info_of}
use Rattle.store_files.specs.file_tree.Shown.{ShowsFiles, FileBegins, model_info}
use Rattle.store_files.specs.declared.file_tree.row.Info.{Info}
use Rattle.store_files.specs.declared.file_tree.tree.Tree.{Tree}
use Rattle.store_opens.specs.open_index.Held.{HeldShown, sharing_in}
use Rattle.store_opens.specs.open_table.Shown.{ShowsOpens}
use Rattle.store_opens.specs.declared.open_table.table.Opens.{Opens}
use Rattle.law_server.specs.tables.Fits.{Fits, is_ascending}
use Rattle.law_server.proofs.tables.Logic.{both}
use Rattle.law_server.proofs.tables.Lists.{exists-pushed}
use Rattle.law_records.specs.fold.Order.{numbers}
use Rattle.law_records.proofs.fold.Numbers.{made_ascend}
use Rattle.law_records.proofs.fold.Created.{unlocked}
use Rattle.server_core.specs.durable_state.Durable.{DurableShown}
use Rattle.server_core.specs.declared.durable_state.durable.Durable.{Durable}
use Rattle.server_core.proofs.durable_state.Choice.{clash, first_off, and_on, eq_on, eq_off, eq_flip}
use Rattle.server_core.proofs.durable_state.Keys.{key_stays}

-- ---- what no records stand for

pub begins : FileBegins nothing_yet
unfolding times_at
begins = record { entries = refl; next_file = refl; delete_pending = refl; basic = refl; content = refl }

pub nothing_shown : (d : Durable) → ShowsFiles d.tree nothing_yet → ShowsOpens d.opens nothing_yet → d.version ≡ 1
    → d.epoch ≡ 0 → DurableShown d nothing_yet
unfolding exists_in numbers is_ascending
nothing_shown d files opens v e =
    record { files = files; opens = opens; version_is = sym v; epoch_is = sym e; pending = λ f h m. absurd (cc); ascend = refl }

-- ---- times, attributes and bytes

pub content_behind : (d : Durable) (t : Tree) (s : Server) (content : ℕ → List ℕ) (basic : ℕ → Basic) → DurableShown d s
    → ShowsFiles t (record s { content = content; basic = basic })
    → DurableShown (record d { tree = t }) (record s { content = content; basic = basic })
content_behind d t s content basic h files =
    record {
      files = files;
      opens = h.opens;
      version_is = h.version_is;
      epoch_is = h.epoch_is;
      pending = h.pending;
      ascend = h.ascend;
    }

-- another tree of the same files
pub same_files : (d : Durable) (t : Tree) (s : Server) → DurableShown d s → ShowsFiles t s → DurableShown (record d { tree = t }) s
same_files d t s h files =
    record {
      files = files;
      opens = h.opens;
      version_is = h.version_is;
      epoch_is = h.epoch_is;
      pending = h.pending;
      ascend = h.ascend;
    }

-- ---- entries: none is new

pub entries_behind : (d : Durable) (t : Tree) (s : Server) (entries : List Entry) → DurableShown d s
    → ShowsFiles t (record s { entries = entries }) → is_ascending (numbers entries) ≡ true
    → ((f : ℕ) → exists_in entries f ≡ true → exists_in s.entries f ≡ true)
    → DurableShown (record d { tree = t }) (record s { entries = entries })
entries_behind d t s entries h files ascend before =
    record {
      files = files;
      opens = h.opens;
      version_is = h.version_is;
      epoch_is = h.epoch_is;
      pending = λ f e m. h.pending f (before f e) m;
      ascend = ascend;
    }

-- ---- a new file

opens_behind : (t : Opens) (s : Server) (ranges : ℕ → List Range) → ((f : ℕ) → s.ranges f ≡ ranges f) → ShowsOpens t s
    → ShowsOpens t (record s { ranges = ranges })
opens_behind t s ranges same h =
    record {
      epoch_is = h.epoch_is;
      given_is = h.given_is;
      count_is = h.count_is;
      rows_are = h.rows_are;
      trees_are = h.trees_are;
      guids_are = h.guids_are;
      files_are = λ f. subst (λ (v : List Range). HeldShown (get nat_eq t.files f) (sharing_in s.opened s.opens f) v)
          (same f) (h.files_are f);
      sessions_are = h.sessions_are;
      listed = h.listed;
      plain_listed = h.plain_listed;
      named = h.named;
      expired_are = h.expired_are;
      expired_count_is = h.expired_count_is;
      indexed = h.indexed;
      undated = h.undated;
    }

put_same : (g : ℕ → List Range) (k : ℕ) (v : List Range) → g k ≡ v → (f : ℕ) → g f ≡ put g k v f
put_same g k v e f = by (f == k) refl
  where
    by : (b : Bool) → (f == k) ≡ b → g f ≡ (if b then v else g f)
    by true h = ap g (eqb-true f k h) ∙ e
    by false h = refl

-- the ranges of a file stay as they were
pub ranges_same : (t : Opens) (s : Server) (k : ℕ) (v : List Range) → s.ranges k ≡ v → ShowsOpens t s
    → ShowsOpens t (record s { ranges = put s.ranges k v })
ranges_same t s k v e h = opens_behind t s (put s.ranges k v) (put_same s.ranges k v e) h

-- a file that is new isn't delete pending
made_before : (es : List Entry) (next : ℕ) (path : List ℕ) (marked : ℕ → Bool) (f : ℕ)
    → exists_in (es ++ record { file = next; path = path } ∷ []) f ≡ true → put marked next false f ≡ true
    → exists_in es f ≡ true × marked f ≡ true
made_before es next path marked f e m = by (f == next) (next == f) (eq_flip f next)
    (sym (exists-pushed es (record { file = next; path = path }) f) ∙ e) m
  where
    front : (a b : Bool) → (a || b) ≡ true → b ≡ false → a ≡ true
    front true b i h = refl
    front false b i h = absurd (clash b h i)

    by : (b c : Bool) → b ≡ c → (exists_in es f || c) ≡ true → (if b then false else marked f) ≡ true
        → exists_in es f ≡ true × marked f ≡ true
    by true c h i k = absurd (cc)
    by false c h i k = (front (exists_in es f) c i (sym h), k)

pub made_behind : (d : Durable) (t : Tree) (s : Server) (path : List ℕ) (is_dir : Bool) (attributes time : ℕ) → Fits s
    → DurableShown d s → ShowsFiles t (make_file s path is_dir attributes time)
    → DurableShown (record d { tree = t }) (make_file s path is_dir attributes time)
made_behind d t s path is_dir attributes time i h files =
    record {
      files = files;
      opens = ranges_same d.opens s s.next_file [] (unlocked s i) h.opens;
      version_is = h.version_is;
      epoch_is = h.epoch_is;
      pending = λ f e m. let was = made_before s.entries s.next_file path s.delete_pending f e m in h.pending f was.0 was.1;
      ascend = made_ascend s path is_dir attributes time i h.ascend;
    }

-- ---- files that are delete pending

mark_pending : (d : Durable) (p : BTreeSet ℕ) (s : Server) (f : ℕ) (flag : Bool)
    → ((g : ℕ) → exists_in s.entries g ≡ true → s.delete_pending g ≡ true → contains nat_cmp d.pending g ≡ true)
    → ((g : ℕ) → contains nat_cmp d.pending g ≡ true → contains nat_cmp p g ≡ true)
    → (flag ≡ true → contains nat_cmp p f ≡ true) → (g : ℕ) → exists_in s.entries g ≡ true
    → put s.delete_pending f flag g ≡ true → contains nat_cmp p g ≡ true
mark_pending d p s f flag h before noted g e m = by (g == f) refl m
  where
    by : (b : Bool) → (g == f) ≡ b → (if b then flag else s.delete_pending g) ≡ true → contains nat_cmp p g ≡ true
    by true k i = subst (λ (z : ℕ). contains nat_cmp p z ≡ true) (sym (eqb-true g f k)) (noted i)
    by false k i = before g (h g e i)

pub marked_shown : (d n : Durable) (t : Tree) (s : Server) (f : ℕ) (flag : Bool) → n ≡ record d { pending = n.pending }
    → ((g : ℕ) → contains nat_cmp d.pending g ≡ true → contains nat_cmp n.pending g ≡ true)
    → (flag ≡ true → contains nat_cmp n.pending f ≡ true)
    → (ShowsFiles n.tree s → ShowsFiles t (set_delete_pending s f flag)) → DurableShown d s
    → DurableShown (record n { tree = t }) (set_delete_pending s f flag)
marked_shown d n t s f flag rest before noted step h =
    let files = step (subst (λ (m : Durable). ShowsFiles m.tree s) (sym rest) h.files) in
    subst (λ (m : Durable). DurableShown (record m { tree = t }) (set_delete_pending s f flag)) (sym rest)
    (record {
      files = files;
      opens = h.opens;
      version_is = h.version_is;
      epoch_is = h.epoch_is;
      pending = mark_pending d n.pending s f flag h.pending before noted;
      ascend = h.ascend;
    })

there : (r e : Bool) → e ≡ true → (r || e) ≡ true
there true e h = refl
there false e h = h

exists_on : (s : Server) (f : ℕ) → exists_in s.entries f ≡ true → exists s f ≡ true
unfolding exists
exists_on s f e = there (f == root) (exists_in s.entries f) e

pub forgotten : (d : Durable) (p : BTreeSet ℕ) (s : Server) → DurableShown d s
    → p.keys ≡ filter (λ (f : ℕ). exists s f && s.delete_pending f) d.pending.keys → DurableShown (record d { pending = p }) s
forgotten d p s h keys =
    record {
      files = h.files;
      opens = h.opens;
      version_is = h.version_is;
      epoch_is = h.epoch_is;
      pending = λ f e m. subst (λ (ks : List ℕ). list_any (is_at (nat_cmp f)) ks ≡ true) (sym keys)
          (key_stays (λ (g : ℕ). exists s g && s.delete_pending g) f d.pending.keys
          (both (exists s f) (s.delete_pending f) (exists_on s f e) m) (h.pending f e m));
      ascend = h.ascend;
    }

-- ---- epochs

pub next_is : (n e x : ℕ) → 0 < n → x ≡ e → (n - 1 == e) ≡ (n == x + 1)
next_is n e x above k = by (n == x + 1) refl
  where
    by : (b : Bool) → (n == x + 1) ≡ b → (n - 1 == e) ≡ b
    by true h = let m : n ≡ x + 1 = eqb-true n (x + 1) h in eq_on (n - 1) e (omega (arith, m, k))
    by false h = eq_off (n - 1) e (λ m. clash (n == x + 1) h (eq_on n (x + 1) (omega (arith, m, k, above))))

pub never_next : (n x : ℕ) → n ≡ 0 → false ≡ (n == x + 1)
never_next n x e = sym (eq_off n (x + 1) (λ m. omega (arith, m, e)))

pub newer_on : (n v w : ℕ) → n ≡ 2 → w ≡ v → (v == 1) ≡ ((n == 2) && (w == 1))
newer_on n v w e k = ap (λ (z : ℕ). z == 1) (sym k) ∙ and_on (n == 2) (w == 1) (eq_on n 2 e)

pub newer_off : (n w : ℕ) → (n ≡ 2 → ⊥) → false ≡ ((n == 2) && (w == 1))
newer_off n w e = sym (first_off (n == 2) (w == 1) (eq_off n 2 e))

pub epoch_behind : (d : Durable) (t : Opens) (s : Server) (epoch : ℕ) → DurableShown d s
    → ShowsOpens t (record s { epoch = epoch; open_ids_given = 0 })
    → DurableShown (record d { epoch = epoch; opens = t }) (record s { epoch = epoch; open_ids_given = 0; session_ids_given = 0 })
epoch_behind d t s epoch h k =
    record { files = h.files; opens = k; version_is = h.version_is; epoch_is = refl; pending = h.pending; ascend = h.ascend }

pub version_behind : (d : Durable) (s : Server) (version : ℕ) → DurableShown d s
    → DurableShown (record d { version = version }) (record s { version = version })
version_behind d s version h =
    record { files = h.files; opens = h.opens; version_is = refl; epoch_is = h.epoch_is; pending = h.pending; ascend = h.ascend }

-- ---- what a tree tells of a file

pub marked_is : (i : Info) (s : Server) (f : ℕ) → model_info i ≡ info_of s f → i.marked ≡ s.delete_pending f
unfolding info_of
marked_is i s f e = ap (λ (x : model.Info). x.is_delete_pending) e
