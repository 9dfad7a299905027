-- What a snapshot that was written says of its order, its guids and the bytes of its files, as the laws on snapshots ask it.
use Rattle.std.proofs.Common.{◌≡◌, ℕ, ◌==◌, nat_eq, Bool, true, false, not, ◌&&◌, ◌||◌, if◌then◌else◌, List, [], ◌∷◌}
use Rattle.std.proofs.Common.{length, take, refl, sym, ap, subst, ◌∙◌, arith}
use Rattle.std.proofs.lemmas.Bool.Decides.{nat_tests}
use Rattle.std.specs.List.{list_any, AllByRecursion, IsDistinct}
use Rattle.spec_exchange.specs.Table.{has}
use Rattle.spec_exchange.specs.Content.{ended}
use Rattle.spec_exchange.specs.State.{Server}
use Rattle.law_server.proofs.tables.Logic.{both}
use Rattle.law_snapshots.specs.snapshots.Kept.{ListsGuids, TellsBytes, are_distinct, has_pair}
use Rattle.law_snapshots.specs.snapshots.Pieces.{FileBytes, patched, shown}
use Rattle.law_snapshots.specs.snapshots.Taken.{AreParentsFirst, IsTakable, are_pairs_distinct, are_parents_first, numbered_entries}
use Rattle.store_files.specs.file_tree.Placed.{IsPathOrder, Once}
use Rattle.store_opens.specs.open_table.Shown.{pair_eq}
use Rattle.store_opens.specs.open_table.Stood.{AreExpired}
use Rattle.server_core.specs.snapshot_writing.Files.{TellsFiles}
use Rattle.server_core.specs.snapshot_writing.Whole.{IsSnapshotOf}

-- ---- numbers, each once

once_distinct : (fs : List ℕ) → Once fs → are_distinct fs ≡ true
unfolding are_distinct
once_distinct [] h = refl
once_distinct (f ∷ fs) h = both (not (has f fs)) (are_distinct fs) (ap not h.0) (once_distinct fs h.1)

pub parents_first : (s : Server) (fs : List ℕ) → IsPathOrder fs s → AreParentsFirst s fs
parents_first s fs h = record {
  each = h.each;
  once = once_distinct fs h.once;
  behind = h.behind_parent;
  named = h.named;
  placeable = h.placeable;
  housed = h.housed;
}

-- ---- guids, each once

same_pair : (c g x y : ℕ) (b : Bool) → (((nat_eq c x) && (nat_eq g y)) || b) ≡ (if x == c then (if y == g then true else b) else b)
same_pair c g x y b = grind (arith, nat_tests)

pairs_so : (c g : ℕ) (ps : List (ℕ × ℕ)) → list_any (pair_eq (c, g)) ps ≡ has_pair c g ps
unfolding has_pair
pairs_so c g [] = refl
pairs_so c g (p ∷ ps) = ap (λ (b : Bool). ((nat_eq c p.0) && (nat_eq g p.1)) || b) (pairs_so c g ps)
    ∙ same_pair c g p.0 p.1 (has_pair c g ps)

off_both : (a b : Bool) → a ≡ false → b ≡ false → (a || b) ≡ false
off_both true b h k = absurd (cc)
off_both false b h k = k

none_among : (p : ℕ × ℕ) (ps : List (ℕ × ℕ)) → AllByRecursion (λ y. pair_eq p y ≡ false) ps → list_any (pair_eq p) ps ≡ false
none_among p [] h = refl
none_among p (q ∷ qs) h = off_both (pair_eq p q) (list_any (pair_eq p) qs) h.0 (none_among p qs h.1)

pub pairs_distinct : (ps : List (ℕ × ℕ)) → IsDistinct pair_eq ps → are_pairs_distinct ps ≡ true
unfolding are_pairs_distinct IsDistinct
pairs_distinct [] h = refl
pairs_distinct (p ∷ ps) h = both (not (has_pair p.0 p.1 ps)) (are_pairs_distinct ps)
    (ap not (sym (pairs_so p.0 p.1 ps) ∙ none_among p ps h.0)) (pairs_distinct ps h.1)

pub lists_guids : (s : Server) (guids : List (ℕ × ℕ)) → AreExpired guids s → ListsGuids s guids
lists_guids s guids h = record { each = λ c g. sym (h.each c g) ∙ pairs_so c g guids; count = h.count }

-- ---- the bytes of files, of which none are stored

shown_so : (h : FileBytes) (c : List ℕ) → h.stored ≡ 0 → patched h.patches (ended (length c) []) ≡ c → shown h (length c) [] ≡ c
shown_so h c none whole =
    subst (λ n. patched h.patches (ended (length c) (take n [])) ≡ c) (sym none) whole

pub tells_bytes : (s : Server) (held : ℕ → FileBytes) (order : List ℕ) → IsPathOrder order s → TellsFiles s held order
    → TellsBytes (record s { stored = λ f. [] }) held
tells_bytes s held order o h f there =
    let among : has f order ≡ true = o.each f ∙ there in
    shown_so (held f) (s.content f) (h.stored f among) (h.patches f among).whole

-- ---- what a reader takes

pub takable : (s : Server) (bodies : List (List ℕ)) → s.version ≡ 2 → (h : IsSnapshotOf s bodies)
    → are_parents_first s [] (numbered_entries s h.order) ≡ true → IsTakable s h.held h.guids (numbered_entries s h.order)
takable s bodies version h parents = record {
  version = version;
  epoch = h.begun;
  parents = parents;
  stored = λ f there. h.tells.stored f (h.ordered.each f ∙ there);
  filled = λ f there. (h.tells.patches f (h.ordered.each f ∙ there)).filled;
  bytes = h.ordered.small;
  expired = h.few;
  expired_once = pairs_distinct h.guids h.expired.once;
}
