-- A sweep by numbers.
use Rattle.std.proofs.Common.{◌≡◌, ℕ, ◌==◌, Bool, true, false, not, ◌&&◌, if◌then◌else◌, List, [], ◌∷◌, Some, None, refl, sym}
use Rattle.std.proofs.Common.{subst, ◌∙◌}
use Rattle.std.specs.Prelude.{Result, Ok, Err, MatchResult}
use Rattle.std.specs.BTreeSet.{IsOrdered}
use Rattle.std.specs.Ordering.{nat_cmp}
use Rattle.spec_exchange.specs.Status.{access_denied, directory_not_empty}
use Rattle.spec_exchange.specs.State.{Server}
use Rattle.spec_exchange.specs.Files.{root, exists, is_full_directory, remove_file}
use Rattle.spec_exchange.specs.Fold.{sweep}
use Rattle.spec_exchange.specs.Opens.{file_has_open, goes, without_gone}
use Rattle.store_files.specs.file_tree.Shown.{ShowsFiles}
use Rattle.store_files.specs.file_tree.Refusals.{remove_refusal, StoreRefuses}
use Rattle.store_files.specs.declared.file_tree.error.StoreError.{StoreError}
use Rattle.store_files.specs.declared.file_tree.error.StoreError.TheVariants.{Memory, Status}
use Rattle.store_files.specs.declared.file_tree.tree.Tree.{Tree}
use Rattle.store_opens.specs.open_table.Shown.{ShowsOpens}
use Rattle.store_opens.specs.declared.open_table.table.Opens.{Opens}
use Rattle.law_server.proofs.tables.Logic.{either, front_of, back_of, both, not_true}
use Rattle.law_records.specs.fold.Order.{swept_of}
use Rattle.law_records.proofs.fold.Swept.{swept_entries, swept_whole, swept_ascend, swept_before}
use Rattle.server_core.specs.durable_state.Durable.{DurableShown}
use Rattle.server_core.specs.declared.durable_state.durable.Durable.{Durable}
use Rattle.server_core.proofs.durable_state.Choice.{on, off, second_off, not_on, not_off}
use Rattle.server_core.proofs.durable_state.Keys.{ascending_keys, has_key}
use Rattle.server_core.proofs.durable_state.Shown.{entries_behind}

-- ---- one file

-- whether a removal goes through, where the file is there
removed_by : (s : Server) (f : ℕ) → remove_refusal s f ≡ None → is_full_directory s f ≡ false
removed_by s f e = by (f == root) (is_full_directory s f) e
  where
    by : (r u : Bool) → (if r then Some access_denied else if u then Some directory_not_empty else None) ≡ None → u ≡ false
    by true u e = absurd (cc)
    by false true e = absurd (cc)
    by false false e = refl

kept_by : (s : Server) (f status : ℕ) → (f == root) ≡ false → remove_refusal s f ≡ Some status → is_full_directory s f ≡ true
kept_by s f status off e = by (f == root) (is_full_directory s f) off e
  where
    by : (r u : Bool) → r ≡ false → (if r then Some access_denied else if u then Some directory_not_empty else None)
        ≡ Some status → u ≡ true
    by true u h e = absurd (cc)
    by false true h e = refl
    by false false h e = absurd (cc)

all_go : (d r e o u : Bool) → (not r && ((e && d) && not o)) ≡ true → u ≡ false
    → (d && (not r && (e && (not o && not u)))) ≡ true
all_go d r e o u h i =
    let a = front_of (not r) ((e && d) && not o) h in
    let b = back_of (not r) ((e && d) && not o) h in
    let c = front_of (e && d) (not o) b in
    both d (not r && (e && (not o && not u))) (back_of e d c)
    (both (not r) (e && (not o && not u)) a
    (both e (not o && not u) (front_of e d c) (both (not o) (not u) (back_of (e && d) (not o) b) (not_on u i))))

full_stays : (d r e o u : Bool) → u ≡ true → (d && (not r && (e && (not o && not u)))) ≡ false
full_stays d r e o u i =
    second_off d (not r && (e && (not o && not u)))
    (second_off (not r) (e && (not o && not u))
    (second_off e (not o && not u) (second_off (not o) (not u) (not_off u i))))

none_go : (d r e o u : Bool) → (not r && ((e && d) && not o)) ≡ false → (d && (not r && (e && (not o && not u)))) ≡ false
none_go false r e o u h = refl
none_go true true e o u h = refl
none_go true false false o u h = refl
none_go true false true true u h = refl
none_go true false true false u h = absurd (cc)

abbrev pub May : Server → ℕ → Bool
May s f = not (f == 0) && ((exists s f && s.delete_pending f) && not (file_has_open s f))

goes_so : (s : Server) (f : ℕ) → May s f ≡ true → is_full_directory s f ≡ false → goes s f ≡ true
unfolding goes
goes_so s f h u = all_go (s.delete_pending f) (f == root) (exists s f) (file_has_open s f) (is_full_directory s f) h u

goes_not_full : (s : Server) (f : ℕ) → is_full_directory s f ≡ true → goes s f ≡ false
unfolding goes
goes_not_full s f u = full_stays (s.delete_pending f) (f == root) (exists s f) (file_has_open s f) (is_full_directory s f) u

goes_not : (s : Server) (f : ℕ) → May s f ≡ false → goes s f ≡ false
unfolding goes
goes_not s f h = none_go (s.delete_pending f) (f == root) (exists s f) (file_has_open s f) (is_full_directory s f) h

may_there : (s : Server) (f : ℕ) → May s f ≡ true → exists s f ≡ true
may_there s f m = front_of (exists s f) (s.delete_pending f) (front_of (exists s f && s.delete_pending f) (not (file_has_open s f))
    (back_of (not (f == 0)) ((exists s f && s.delete_pending f) && not (file_has_open s f)) m))

pub gone_shown : (r : Result Unit StoreError) (t u : Tree) (s : Server) (f : ℕ) → MatchResult r
    (λ _. (s : Server) → ShowsFiles t s → exists s f ≡ true → (remove_refusal s f ≡ None) × ShowsFiles u (remove_file s f))
    (λ e. (s : Server) → ShowsFiles t s → exists s f ≡ true → StoreRefuses e (remove_refusal s f) × ShowsFiles u s)
    → ShowsFiles t s → May s f ≡ true → ShowsFiles u (without_gone s f)
gone_shown (Ok x) t u s f done h may =
    let k = done s h (may_there s f may) in
    on (λ (w : Server). ShowsFiles u w) (goes s f) (remove_file s f) s (goes_so s f may (removed_by s f k.0)) k.1
gone_shown (Err Memory) t u s f done h may = absurd ((done s h (may_there s f may)).0)
gone_shown (Err (Status status)) t u s f done h may =
    let k = done s h (may_there s f may) in
    let r = not_true (f == root) (front_of (not (f == 0)) ((exists s f && s.delete_pending f) && not (file_has_open s f)) may) in
    off (λ (w : Server). ShowsFiles u w) (goes s f) (remove_file s f) s (goes_not_full s f (kept_by s f status r k.0)) k.1

pub stays_shown : (t : Tree) (s : Server) (f : ℕ) → May s f ≡ false → ShowsFiles t s → ShowsFiles t (without_gone s f)
stays_shown t s f h files = off (λ (w : Server). ShowsFiles t w) (goes s f) (remove_file s f) s (goes_not s f h) files

-- ---- several

pub gone_opens : (o : Opens) (s : Server) (f : ℕ) → ShowsOpens o s → ShowsOpens o (without_gone s f)
gone_opens o s f h = either (λ (w : Server). ShowsOpens o w) (goes s f) (remove_file s f) s (λ _. h) (λ _. h)

pub swept_front : (u : Server) (f : ℕ) (fs : List ℕ) → swept_of u (f ∷ fs) ≡ swept_of (without_gone u f) fs
unfolding swept_of
swept_front u f fs = refl

pub swept_end : (u : Server) → swept_of u [] ≡ u
unfolding swept_of
swept_end u = refl

pub swept_shown : (d : Durable) (t : Tree) (s : Server) → DurableShown d s → ShowsFiles t (swept_of s d.pending.keys)
    → IsOrdered nat_cmp d.pending → DurableShown (record d { tree = t }) (sweep s s.entries)
swept_shown d t s h files ordered =
    let ks = d.pending.keys in
    let whole = swept_whole s ks h.ascend (ascending_keys ks ordered) (λ f e m. has_key ks f (h.pending f e m)) in
    let only = swept_entries s ks in
    subst (λ (u : Server). DurableShown (record d { tree = t }) u) (sym (whole ∙ only))
    (entries_behind d t s (swept_of s ks).entries h (subst (λ (u : Server). ShowsFiles t u) only files)
    (swept_ascend s ks h.ascend) (swept_before s ks))
