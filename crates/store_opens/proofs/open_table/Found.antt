-- What a look at a row or at a count says of the state.
use Rattle.spec_exchange.specs.Table.{is_at}
use Rattle.std.proofs.Common.{ap, ◌==◌, ◌&&◌, ◌≡◌, ◌<◌, ◌≤◌, ℕ, nat_eq, nat_le, Bool, true, false}
use Rattle.std.proofs.Common.{Option, Some, None, refl, sym, subst, arith}
use Rattle.std.proofs.lemmas.Bool.Decides.{nat_tests}
use Rattle.std.specs.HashMap.{get}
use Rattle.spec_exchange.specs.State as model
use Rattle.spec_exchange.specs.Opens.{is_of_tree, max_ids}
use Rattle.store_opens.specs.declared.open_index.keep.SessionOpens.{SessionOpens}
use Rattle.store_opens.specs.declared.open_index.keep.KeptResult.{KeptResult}
use Rattle.store_opens.specs.declared.open_index.keep.KeptResult.TheVariants.{Standing, Closed, Refused}
use Rattle.store_opens.specs.open_index.Keep.{SessionShown, ResultShown, kept_of, keep_capped}
use Rattle.store_opens.specs.declared.open_table.row.Row.{Row}
use Rattle.store_opens.specs.declared.open_table.row.OpenParts.{OpenParts}
use Rattle.store_opens.specs.declared.open_table.table.Opens.{Opens}
use Rattle.store_opens.specs.open_table.Rows.{OpenRowFound, OpenTreeShown, PartsFound, parts_of}
use Rattle.store_opens.specs.open_table.Kept.{kept_result}
use Rattle.store_opens.specs.open_table.Shown.{ShowsOpens}

pub found : (t : Opens) (s : model.Server) (o : ℕ) (r : Option Row) → ShowsOpens t s → r ≡ get nat_eq t.rows o → OpenRowFound r s o
found t s o r h e = subst (λ (v : Option Row). OpenRowFound v s o) (sym e) (h.rows_are o)

pub parts_found : (s : model.Server) (o : ℕ) (r : Row) (p : OpenParts) → OpenRowFound (Some r) s o → p ≡ parts_of r
    → PartsFound (Some p) s o
parts_found s o r p h e =
    subst (λ (q : OpenParts). PartsFound (Some q) s o) (sym e) (
      h.0,
      record {
        opened_is = rw h.1.opened_is refl;
        session_is = h.1.session_is;
        sequence_is = h.1.sequence_is;
      },
    )

-- the row of an open tells whether it is one of a session's tree
pub row_of_tree : (s : model.Server) (o x tree : ℕ) (r : Row) → OpenRowFound (Some r) s o → OpenTreeShown (Some r) (s.tree_of_open o)
    → (is_at x r.session && (r.tree == tree)) ≡ is_of_tree s o x tree
row_of_tree s o x tree r e k = rw (e.0, e.1.session_is) (by r.session refl)
  where
    by : (u : Option ℕ) → r.session ≡ u → (is_at x u && (r.tree == tree)) ≡ (is_at x u && (s.tree_of_open o == tree))
    by None q = refl
    by (Some y) q = ap (λ (z : ℕ). is_at x (Some y) && (z == tree)) (sym (k y q))

pub tree_found : (t : Opens) (s : model.Server) (o : ℕ) (r : Option Row) → ShowsOpens t s → r ≡ get nat_eq t.rows o
    → OpenTreeShown r (s.tree_of_open o)
tree_found t s o r h e = subst (λ (v : Option Row). OpenTreeShown v (s.tree_of_open o)) (sym e) (h.trees_are o)

pub not_of_tree : (s : model.Server) (o x tree : ℕ) → OpenRowFound None s o → false ≡ is_of_tree s o x tree
not_of_tree s o x tree e = rw e refl

-- ---- what a session keeps

kept_is : (k : Option KeptResult) (closed : Bool) (refused : Option ℕ) → ResultShown k closed refused → kept_result k
    ≡ kept_of closed refused
kept_is None closed refused h = rw (h.0, h.1) refl
kept_is (Some Standing) closed refused h = rw (h.0, h.1) refl
kept_is (Some Closed) closed refused h = rw h refl
kept_is (Some (Refused status)) closed refused h = rw (h.0, h.1) refl

pub kept_row : (t : Opens) (s : model.Server) (x g : ℕ) (r : SessionOpens) → ShowsOpens t s → Some r
    ≡ get nat_eq t.sessions x → kept_result (get nat_eq r.results g) ≡ kept_of (s.closed x g) (s.refused x g)
kept_row t s x g r h e =
    let k = subst (λ (v : Option SessionOpens). SessionShown v (s.closed x) (s.refused x) (s.guids x)) (sym e) (h.sessions_are x) in
    kept_is (get nat_eq r.results g) (s.closed x g) (s.refused x g) (k.results_are g)

pub kept_absent : (t : Opens) (s : model.Server) (x g : ℕ) → ShowsOpens t s → None ≡ get nat_eq t.sessions x → None
    ≡ kept_of (s.closed x g) (s.refused x g)
kept_absent t s x g h e =
    let k = subst (λ (v : Option SessionOpens). SessionShown v (s.closed x) (s.refused x) (s.guids x)) (sym e) (h.sessions_are x) in
    rw (k.none_closed g, k.none_refused g) refl

pub guids_row : (t : Opens) (s : model.Server) (x : ℕ) (r : SessionOpens) → ShowsOpens t s → Some r
    ≡ get nat_eq t.sessions x → r.guids ≡ keep_capped (s.guids x)
guids_row t s x r h e = sym (subst (λ (v : Option SessionOpens). SessionShown v (s.closed x) (s.refused x) (s.guids x))
    (sym e) (h.sessions_are x)).guids_are

pub guids_absent : (t : Opens) (s : model.Server) (x : ℕ) → ShowsOpens t s → None ≡ get nat_eq t.sessions x → 0 ≡ keep_capped (s.guids x)
guids_absent t s x h e = rw (subst (λ (v : Option SessionOpens). SessionShown v (s.closed x) (s.refused x) (s.guids x))
    (sym e) (h.sessions_are x)).no_guids refl

-- ---- ids

pub ids_full : (n m : ℕ) → n ≡ m → 0xffff_ffff ≤ m → nat_le max_ids n ≡ true
ids_full n m e l = grind (arith, nat_tests)

pub ids_left : (n m : ℕ) → n ≡ m → m < 0xffff_ffff → nat_le max_ids n ≡ false
ids_left n m e l = grind (arith, nat_tests)
