-- Rows of sessions and connections behind a change at one key.
use Rattle.std.proofs.Common.{◌≡◌, ℕ, ◌+◌, ◌^◌, ◌<◌, ◌≤◌, ◌==◌, nat_le, nat_lt, Bool, true, false, not}
use Rattle.std.proofs.Common.{if◌then◌else◌, List, [], ◌∷◌, ◌++◌, filter, Option, Some, None, refl, sym, ap}
use Rattle.std.proofs.Common.{subst, ◌∙◌, arith}
use Rattle.std.proofs.lemmas.Grind.{common_steps}
use Rattle.std.proofs.lemmas.Bool.Decides.{nat_tests}
use Rattle.spec_exchange.specs.Table.{has, is_at, without}
use Rattle.spec_exchange.specs.State as model
use Rattle.spec_exchange.specs.Effects.{cleared, without_tree}
use Rattle.spec_exchange.specs.CheckSetup.{max_numbers, last_tree}
use Rattle.server_checks.specs.declared.session_table.row.SessionRow.{SessionRow}
use Rattle.server_checks.specs.declared.session_table.row.Link.{Link}
use Rattle.server_checks.specs.session_table.Shown.{SessionRowIs, SessionRowShown, LinkShown, session_lists}
use Rattle.server_checks.specs.session_table.Steps.{with_session, without_session, DrawsChannel, KeepsLogon}
use Rattle.server_checks.specs.session_table.Steps.{DropsChannel, RowTrees, AddsTree, DropsTree}

-- ---- lists

pub without_filter : (k : ℕ) (xs : List ℕ) → filter (λ o. not (o == k)) xs ≡ without k xs
without_filter k [] = refl
without_filter k (x ∷ xs) = let e = without_filter k xs in grind (arith, common_steps)

pub without_tree_filter : (id : ℕ) (ts : List model.Tree) → filter (λ t. not (t.id == id)) ts ≡ without_tree id ts
unfolding without_tree
without_tree_filter id [] = refl
without_tree_filter id (t ∷ ts) = let e = without_tree_filter id ts in grind (arith, common_steps)

pub has_more : (q x : ℕ) (xs : List ℕ) → has q (xs ++ x ∷ []) ≡ (if x == q then true else has q xs)
has_more q x [] = refl
has_more q x (y ∷ ys) = let e = has_more q x ys in grind (arith, common_steps)

turned : (q x : ℕ) → (q == x) ≡ (x == q)
turned q x = grind arith

-- ---- connections

pub link_live : (b : Bool) (old : Option Link) (x : ℕ) (session : Option ℕ) (making : Option model.Making)
    → (b ≡ true → old ≡ None → ⊥) → LinkShown old session making
    → LinkShown (if b then with_session x old else old) (if b then Some x else session) (if b then None else making)
link_live true None x session making there h = absurd (there refl refl)
link_live true (Some l) x session making there h = (refl, refl)
link_live false old x session making there h = h

pub link_gone : (b : Bool) (old : Option Link) (session : Option ℕ) (making : Option model.Making)
    → LinkShown old session making → LinkShown (if b then None else old) (if b then None else session)
    (if b then None else making)
link_gone true old session making h = (refl, refl)
link_gone false old session making h = h

pub cleared_twice : (x : ℕ) (l : Option Link) → without_session x (without_session x l) ≡ without_session x l
cleared_twice x None = refl
cleared_twice x (Some l) = grind (arith, common_steps)

pub link_cleared : (x : ℕ) (old : Option Link) (session : Option ℕ) (making : Option model.Making)
    → LinkShown old session making → LinkShown (without_session x old) (cleared x session) making
link_cleared x None session making h = rw h.0 (refl, h.1)
link_cleared x (Some l) session making h = rw h.0 (by (is_at x l.session) refl)
  where
    by : (b : Bool) → is_at x l.session ≡ b → LinkShown (if b then Some (record l { session = None }) else Some l)
        (if b then None else l.session) making
    by true e = (refl, h.1)
    by false e = (refl, h.1)

-- one more of a list of connections
pub one_more : (x q k : ℕ) (ks : List ℕ) (old before : Option Link) → before ≡ (if has q ks then without_session x old else old)
    → (if q == k then without_session x before else before) ≡ (if has q (ks ++ k ∷ []) then without_session x old else old)
one_more x q k ks old before e = rw (e, has_more q k ks, turned q k) (by (k == q) (has q ks))
  where
    by : (b c : Bool) → (if b then without_session x (if c then without_session x old else old) else
        (if c then without_session x old else old)) ≡ (if (if b then true else c) then without_session x old else old)
    by true true = cleared_twice x old
    by true false = refl
    by false c = refl

-- ---- sessions

pub row_gone : (b : Bool) (old : Option SessionRow) (present : Bool) (user : List ℕ) (client cipher signing drawn : ℕ)
    (trees : List model.Tree) (next_tree : ℕ) → SessionRowShown old present user client cipher signing drawn trees next_tree
    → SessionRowShown (if b then None else old) (if b then false else present) user client cipher signing drawn
    (if b then [] else trees) next_tree
row_gone true old present user client cipher signing drawn trees next_tree h = (refl, refl)
row_gone false old present user client cipher signing drawn trees next_tree h = h

no_row : false ≡ true → ⊥
no_row e = absurd (cc)

-- behind a change of its channels and trees
pub row_kept : (r n : SessionRow) (user : List ℕ) (client cipher signing drawn drawn_after : ℕ)
    (trees trees_after : List model.Tree) (next_tree next_after : ℕ) → KeepsLogon r n → drawn_after ≡ n.drawn
    → trees_after ≡ n.trees.items → next_after ≡ n.next_tree
    → SessionRowIs r user client cipher signing drawn trees next_tree → SessionRowIs n user client cipher signing
    drawn_after trees_after next_after
row_kept r n user client cipher signing drawn drawn_after trees trees_after next_tree next_after k d t x h =
    record {
      user_is = h.user_is ∙ sym k.user_is;
      client_is = h.client_is ∙ sym k.client_is;
      cipher_is = h.cipher_is ∙ sym k.cipher_is;
      signing_is = h.signing_is ∙ sym k.signing_is;
      drawn_is = d;
      trees_are = t;
      next_tree_is = x;
    }

few_numbers : (n : ℕ) → nat_le max_numbers n ≡ false → n + 1 < 2 ^ 32
few_numbers n e = subst (λ (v : ℕ). n + 1 < v) refl (below n (not_le max_numbers n e))
  where
    not_le : (a b : ℕ) → nat_le a b ≡ false → b < a
    not_le a b e = grind (arith, nat_tests)

    below : (n : ℕ) → n < 65535 → n + 1 < 4294967296
    below n h = grind arith

pub row_joined : (old new : Option SessionRow) (k number : ℕ) (present : Bool) (user : List ℕ)
    (client cipher signing drawn : ℕ) (trees : List model.Tree) (next_tree : ℕ) → DrawsChannel old new k number
    → present ≡ true → nat_le max_numbers drawn ≡ false
    → SessionRowShown old present user client cipher signing drawn trees next_tree → SessionRowShown new present user client cipher
    signing (drawn + 1) trees next_tree × (number ≡ drawn + 1)
row_joined None new k number present user client cipher signing drawn trees next_tree d there few h = absurd (no_row (sym h.0 ∙ there))
row_joined (Some r) None k number present user client cipher signing drawn trees next_tree d there few h = absurd d
row_joined (Some r) (Some n) k number present user client cipher signing drawn trees next_tree d there few h = (
  (
    there,
    row_kept r n user client cipher signing drawn (drawn + 1) trees trees next_tree next_tree d.logon is
        (h.1.trees_are ∙ ap (λ (v : _). v.items) (sym d.trees_are)) (h.1.next_tree_is ∙ sym d.next_tree_is) h.1,
  ),
  d.number_is ∙ sym is,
)
  where
    is : drawn + 1 ≡ n.drawn
    is = ap (λ (v : ℕ). v + 1) h.1.drawn_is
        ∙ sym (d.drawn_is (few_numbers r.drawn (subst (λ (v : ℕ). nat_le max_numbers v ≡ false) h.1.drawn_is few)))

pub row_parted : (old new : Option SessionRow) (k : ℕ) (present : Bool) (user : List ℕ)
    (client cipher signing drawn : ℕ) (trees : List model.Tree) (next_tree : ℕ) → DropsChannel old new k
    → SessionRowShown old present user client cipher signing drawn trees next_tree → SessionRowShown new present user client cipher
    signing drawn trees next_tree
row_parted None new k present user client cipher signing drawn trees next_tree d h = subst (λ (v : Option SessionRow).
    SessionRowShown v present user client cipher signing drawn trees next_tree) (sym d) h
row_parted (Some r) None k present user client cipher signing drawn trees next_tree d h = absurd d
row_parted (Some r) (Some n) k present user client cipher signing drawn trees next_tree d h = (
  h.0,
  row_kept r n user client cipher signing drawn drawn trees trees next_tree next_tree d.logon
      (h.1.drawn_is ∙ sym d.drawn_is) (h.1.trees_are ∙ ap (λ (v : _). v.items) (sym d.trees_are)) (h.1.next_tree_is
      ∙ sym d.next_tree_is) h.1,
)

few_trees : (n : ℕ) → nat_lt last_tree n ≡ false → n < 2 ^ 32
few_trees n e = subst (λ (v : ℕ). n < v) refl (below n (not_lt last_tree n e))
  where
    not_lt : (a b : ℕ) → nat_lt a b ≡ false → b ≤ a
    not_lt a b e = grind (arith, nat_tests)

    below : (n : ℕ) → n ≤ 4294967295 → n < 4294967296
    below n h = grind arith

pub row_treed : (old new : Option SessionRow) (pipes : Bool) (id : ℕ) (present : Bool) (user : List ℕ)
    (client cipher signing drawn : ℕ) (trees : List model.Tree) (next_tree : ℕ) → AddsTree old new pipes id → present
    ≡ true → nat_lt last_tree next_tree ≡ false
    → SessionRowShown old present user client cipher signing drawn trees next_tree
    → SessionRowShown new present user client cipher signing drawn (trees ++ record { id = next_tree; pipes = pipes } ∷ [])
    (next_tree + 1) × (id ≡ next_tree)
row_treed None new pipes id present user client cipher signing drawn trees next_tree d there few h = absurd (no_row (sym h.0 ∙ there))
row_treed (Some r) None pipes id present user client cipher signing drawn trees next_tree d there few h = absurd d
row_treed (Some r) (Some n) pipes id present user client cipher signing drawn trees next_tree d there few h = (
  (
    there,
    row_kept r n user client cipher signing drawn drawn trees _ next_tree _ made.1.logon
        (h.1.drawn_is ∙ sym made.1.drawn_is) more (ap (λ (v : ℕ). v + 1) h.1.next_tree_is ∙ sym made.1.next_tree_is)
        h.1,
  ),
  made.0 ∙ sym h.1.next_tree_is,
)
  where
    made : (id ≡ r.next_tree) × RowTrees r n (r.trees.items ++ record { id = r.next_tree; pipes = pipes } ∷ []) (r.next_tree + 1)
    made = d (few_trees r.next_tree (subst (λ (v : ℕ). nat_lt last_tree v ≡ false) h.1.next_tree_is few))

    more : trees ++ record { id = next_tree; pipes = pipes } ∷ [] ≡ n.trees.items
    more = rw (h.1.trees_are, h.1.next_tree_is) (sym made.1.trees_are)

pub row_untreed : (old new : Option SessionRow) (id : ℕ) (present : Bool) (user : List ℕ)
    (client cipher signing drawn : ℕ) (trees : List model.Tree) (next_tree : ℕ) → DropsTree old new id
    → SessionRowShown old present user client cipher signing drawn trees next_tree → SessionRowShown new present user client cipher
    signing drawn (without_tree id trees) next_tree
unfolding without_tree
row_untreed None new id present user client cipher signing drawn trees next_tree d h = subst (λ (v : Option SessionRow).
    SessionRowShown v present user client cipher signing drawn (without_tree id trees) next_tree) (sym d)
    (h.0, ap (λ (v : List model.Tree). without_tree id v) h.1 ∙ refl)
row_untreed (Some r) None id present user client cipher signing drawn trees next_tree d h = absurd d
row_untreed (Some r) (Some n) id present user client cipher signing drawn trees next_tree d h = (
  h.0,
  row_kept r n user client cipher signing drawn drawn trees _ next_tree next_tree d.logon
      (h.1.drawn_is ∙ sym d.drawn_is) (ap (λ (v : List model.Tree). without_tree id v) h.1.trees_are
      ∙ sym d.trees_are) (h.1.next_tree_is ∙ sym d.next_tree_is) h.1,
)

-- ---- the connections of a row

pub lists_joined : (old new : Option SessionRow) (k number q : ℕ) → DrawsChannel old new k number → session_lists old q
    ≡ true → session_lists new q ≡ true
lists_joined None new k number q d e = absurd (no_row e)
lists_joined (Some r) None k number q d e = absurd d
lists_joined (Some r) (Some n) k number q d e = rw (d.channels_are, has_more q k r.channels.items, e) (same (k == q))
  where
    same : (c : Bool) → (if c then true else true) ≡ true
    same true = refl
    same false = refl

pub lists_drawn : (old new : Option SessionRow) (k number : ℕ) (present : Bool) (user : List ℕ)
    (client cipher signing drawn : ℕ) (trees : List model.Tree) (next_tree : ℕ) → DrawsChannel old new k number
    → SessionRowShown old present user client cipher signing drawn trees next_tree → present ≡ true → session_lists new k ≡ true
lists_drawn None new k number present user client cipher signing drawn trees next_tree d h there = absurd (no_row (sym h.0 ∙ there))
lists_drawn (Some r) None k number present user client cipher signing drawn trees next_tree d h there = absurd d
lists_drawn (Some r) (Some n) k number present user client cipher signing drawn trees next_tree d h there =
    rw (d.channels_are, has_more k k r.channels.items, same k) refl
  where
    same : (z : ℕ) → (z == z) ≡ true
    same z = grind arith

pub has_other : (q k : ℕ) (xs : List ℕ) → (q == k) ≡ false → has q (without k xs) ≡ has q xs
has_other q k [] e = refl
has_other q k (x ∷ xs) e = let i = has_other q k xs e in by (x == k) refl i
  where
    by : (c : Bool) → (x == k) ≡ c → has q (without k xs) ≡ has q xs → has q (if c then without k xs else x ∷ without k xs) ≡ has q (x ∷ xs)
    by true f i = rw (i, f_q) refl
      where
        f_q : (x == q) ≡ false
        f_q = grind arith
    by false f i = rw i refl

pub lists_parted : (old new : Option SessionRow) (k q : ℕ) → DropsChannel old new k → (q == k) ≡ false
    → session_lists new q ≡ session_lists old q
lists_parted None new k q d e = rw d refl
lists_parted (Some r) None k q d e = absurd d
lists_parted (Some r) (Some n) k q d e = d.others_stay q e

pub lists_treed : (old new : Option SessionRow) (pipes : Bool) (id q : ℕ) (present : Bool) (user : List ℕ)
    (client cipher signing drawn : ℕ) (trees : List model.Tree) (next_tree : ℕ) → AddsTree old new pipes id
    → SessionRowShown old present user client cipher signing drawn trees next_tree → nat_lt last_tree next_tree ≡ false
    → session_lists new q ≡ session_lists old q
lists_treed None new pipes id q present user client cipher signing drawn trees next_tree d h few = rw d refl
lists_treed (Some r) None pipes id q present user client cipher signing drawn trees next_tree d h few = absurd d
lists_treed (Some r) (Some n) pipes id q present user client cipher signing drawn trees next_tree d h few =
    ap (λ (v : _). has q v.items)
    (d (few_trees r.next_tree (subst (λ (v : ℕ). nat_lt last_tree v ≡ false) h.1.next_tree_is few))).1.channels_are

pub lists_untreed : (old new : Option SessionRow) (id q : ℕ) → DropsTree old new id → session_lists new q ≡ session_lists old q
lists_untreed None new id q d = rw d refl
lists_untreed (Some r) None id q d = absurd d
lists_untreed (Some r) (Some n) id q d = ap (λ (v : _). has q v.items) d.channels_are

-- a row that stays has each of its channels
pub part_same : (k : ℕ) (r : Option SessionRow) → DropsChannel r r k
part_same k None = refl
part_same k (Some r) = record {
  logon = record { user_is = refl; client_is = refl; cipher_is = refl; signing_is = refl; keys_are = refl };
  drawn_is = refl;
  others_stay = λ q e. refl;
  trees_are = refl;
  next_tree_is = refl;
}
