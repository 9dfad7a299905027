-- The table of sessions behind each change: what its maps say makes the whole.
use Rattle.std.proofs.Common.{◌≡◌, ℕ, ◌+◌, ◌-◌, ◌==◌, nat_eq, nat_le, nat_lt, Bool, true, false}
use Rattle.std.proofs.Common.{if◌then◌else◌, List, [], ◌∷◌, ◌++◌, Option, Some, None, refl, sym, ap, subst, ◌∙◌}
use Rattle.std.proofs.Common.{eqb-true}
use Rattle.std.specs.HashMap.{get, hash_map_len}
use Rattle.spec_exchange.specs.Table.{without}
use Rattle.spec_exchange.specs.State as model
use Rattle.spec_exchange.specs.Effects.{cleared, add_tree, without_tree}
use Rattle.spec_exchange.specs.Step.{forget_connection}
use Rattle.spec_exchange.specs.CheckSetup.{max_numbers, last_tree}
use Rattle.server_checks.specs.declared.session_table.table.Sessions.{Sessions}
use Rattle.server_checks.specs.session_table.Shown.{SessionRowShown, LinkShown, session_lists, ShowsSessions}
use Rattle.server_checks.specs.session_table.Steps.{with_session, without_session, DrawsChannel}
use Rattle.server_checks.specs.session_table.Steps.{DropsChannel, AddsTree, DropsTree}
use Rattle.server_checks.specs.session_table.Changes.{session_gone, session_joined, tree_dropped}
use Rattle.server_checks.proofs.session_table.Rows.{link_live, link_cleared, row_gone, row_joined, row_parted, row_treed}
use Rattle.server_checks.proofs.session_table.Rows.{row_untreed, link_gone, lists_joined, lists_drawn, lists_parted, lists_treed}
use Rattle.server_checks.proofs.session_table.Rows.{lists_untreed}

clash : false ≡ true → ⊥
clash e = absurd (cc)

some_same : (x y : ℕ) → Some x ≡ Some y → x ≡ y
some_same x y e = cc

-- ---- a session that ends

pub record Ended (t u : Sessions) (x : ℕ) : Type 0 where
  pub rows : (q : ℕ) → get nat_eq u.rows q ≡ (if q == x then None else get nat_eq t.rows q)
  pub len : hash_map_len u.rows ≡ hash_map_len t.rows - 1
  pub links : (q : ℕ) → get nat_eq u.links q
      ≡ (if session_lists (get nat_eq t.rows x) q then without_session x (get nat_eq t.links q) else get nat_eq t.links q)
  pub order : u.order ≡ t.order
  pub epoch : u.epoch ≡ t.epoch
  pub given : u.given ≡ t.given

pub ended : (t u : Sessions) (x : ℕ) (s : model.Server) → Ended t u x → ShowsSessions t s → s.present x ≡ true
    → ShowsSessions u (session_gone s x)
ended t u x s b h there =
    record {
      epoch_is = h.epoch_is ∙ sym b.epoch;
      given_is = h.given_is ∙ sym b.given;
      count_is = ap (λ (v : ℕ). v - 1) h.count_is ∙ sym b.len;
      rows_are = λ q. rw (b.rows q) (row_gone (q == x) _ _ _ _ _ _ _ _ _ (h.rows_are q));
      connections_are = subst (λ (v : _). s.connections ≡ v.items) (sym b.order) h.connections_are;
      links_are = λ q. rw (b.links q) (link_at q (session_lists (get nat_eq t.rows x) q) refl);
      listed = λ q y. listed_at q y (y == x) refl;
    }
  where
    link_at : (q : ℕ) (c : Bool) → session_lists (get nat_eq t.rows x) q ≡ c
        → LinkShown (if c then without_session x (get nat_eq t.links q) else get nat_eq t.links q)
        (cleared x (s.session_on q)) (s.making q)
    link_at q true e = link_cleared x _ _ _ (h.links_are q)
    link_at q false e = subst (λ (v : Option ℕ). LinkShown (get nat_eq t.links q) v (s.making q))
        (sym (elsewhere (s.session_on q) refl)) (h.links_are q)
      where
        elsewhere : (o : Option ℕ) → s.session_on q ≡ o → cleared x o ≡ o
        elsewhere None f = refl
        elsewhere (Some y) f = other (y == x) refl
          where
            other : (d : Bool) → (y == x) ≡ d → (if d then None else Some y) ≡ Some y
            other false i = refl
            other true i = absurd (clash (sym e ∙ h.listed q x (f ∙ ap (λ (z : ℕ). Some z) (eqb-true y x i)) there))

    listed_at : (q y : ℕ) (c : Bool) → (y == x) ≡ c → cleared x (s.session_on q) ≡ Some y
        → (if c then false else s.present y) ≡ true → session_lists (get nat_eq u.rows y) q ≡ true
    listed_at q y true e f g = absurd (clash g)
    listed_at q y false e f g = rw (b.rows y, e) (h.listed q y (before (s.session_on q) refl f) g)
      where
        before : (o : Option ℕ) → s.session_on q ≡ o → cleared x o ≡ Some y → o ≡ Some y
        before None i j = j
        before (Some z) i j = at (z == x) j
          where
            at : (d : Bool) → (if d then None else Some z) ≡ Some y → Some z ≡ Some y
            at false j = j
            at true j = absurd (cc)

-- ---- one row of a session that changes

pub record RowChanged (t u : Sessions) (x : ℕ) : Type 0 where
  pub others : (q : ℕ) → (q == x) ≡ false → get nat_eq u.rows q ≡ get nat_eq t.rows q
  pub len : hash_map_len u.rows ≡ hash_map_len t.rows
  pub epoch : u.epoch ≡ t.epoch
  pub given : u.given ≡ t.given

-- ---- one more channel

pub record Joined (t u : Sessions) (k x number : ℕ) : Type 0 where
  pub row : RowChanged t u x
  pub here : DrawsChannel (get nat_eq t.rows x) (get nat_eq u.rows x) k number
  pub links : (q : ℕ) → get nat_eq u.links q ≡ (if q == k then with_session x (get nat_eq t.links q) else get nat_eq t.links q)
  pub there : get nat_eq t.links k ≡ None → ⊥
  pub order : u.order ≡ t.order

pub joined : (t u : Sessions) (k x number : ℕ) (s : model.Server) → Joined t u k x number → ShowsSessions t s
    → s.present x ≡ true → nat_le max_numbers (s.channel_numbers_drawn x) ≡ false
    → ShowsSessions u (session_joined s k x)
joined t u k x number s b h there few =
    record {
      epoch_is = h.epoch_is ∙ sym b.row.epoch;
      given_is = h.given_is ∙ sym b.row.given;
      count_is = h.count_is ∙ sym b.row.len;
      rows_are = λ q. row q (q == x) refl;
      connections_are = subst (λ (v : _). s.connections ≡ v.items) (sym b.order) h.connections_are;
      links_are = λ q. rw (b.links q)
          (link_live (q == k) _ x _ _
          (λ e f. b.there (subst (λ (z : ℕ). get nat_eq t.links z ≡ None) (eqb-true q k e) f)) (h.links_are q));
      listed = λ q y. listed_at q y (q == k) refl;
    }
  where
    row : (q : ℕ) (c : Bool) → (q == x) ≡ c → SessionRowShown (get nat_eq u.rows q) (s.present q) (s.user q) (s.client q)
        (s.cipher q) (s.signing q) (if c then s.channel_numbers_drawn x + 1 else s.channel_numbers_drawn q) (s.trees q)
        (s.next_tree q)
    row q true e = subst (λ (z : ℕ). SessionRowShown (get nat_eq u.rows z) (s.present z) (s.user z) (s.client z) (s.cipher z)
        (s.signing z) (s.channel_numbers_drawn x + 1) (s.trees z) (s.next_tree z)) (sym (eqb-true q x e))
        (row_joined _ _ k number _ _ _ _ _ _ _ _ b.here there few (h.rows_are x)).0
    row q false e = rw (b.row.others q e) (h.rows_are q)

    before : (q y : ℕ) (c : Bool) → (y == x) ≡ c → session_lists (get nat_eq t.rows y) q ≡ true
        → session_lists (get nat_eq u.rows y) q ≡ true
    before q y true e i = subst (λ (z : ℕ). session_lists (get nat_eq u.rows z) q ≡ true) (sym (eqb-true y x e))
        (lists_joined _ _ k number q b.here (subst (λ (z : ℕ). session_lists (get nat_eq t.rows z) q ≡ true) (eqb-true y x e)
        i))
    before q y false e i = rw (b.row.others y e) i

    listed_at : (q y : ℕ) (c : Bool) → (q == k) ≡ c → (if c then Some x else s.session_on q) ≡ Some y → s.present y
        ≡ true → session_lists (get nat_eq u.rows y) q ≡ true
    listed_at q y true e f g = subst (λ (z : ℕ). session_lists (get nat_eq u.rows z) q ≡ true) (some_same x y f)
        (subst (λ (z : ℕ). session_lists (get nat_eq u.rows x) z ≡ true) (sym (eqb-true q k e))
        (lists_drawn _ _ k number _ _ _ _ _ _ _ _ b.here (h.rows_are x) there))
    listed_at q y false e f g = before q y (y == x) refl (h.listed q y f g)

-- ---- a connection that goes

pub record Forgotten (t u : Sessions) (k : ℕ) : Type 0 where
  pub rows : (y : ℕ) → DropsChannel (get nat_eq t.rows y) (get nat_eq u.rows y) k
  pub len : hash_map_len u.rows ≡ hash_map_len t.rows
  pub links : (q : ℕ) → get nat_eq u.links q ≡ (if q == k then None else get nat_eq t.links q)
  pub order : u.order.items ≡ without k t.order.items
  pub epoch : u.epoch ≡ t.epoch
  pub given : u.given ≡ t.given

pub forgotten : (t u : Sessions) (k : ℕ) (s : model.Server) → Forgotten t u k → ShowsSessions t s → ShowsSessions u (forget_connection s k)
forgotten t u k s b h =
    record {
      epoch_is = h.epoch_is ∙ sym b.epoch;
      given_is = h.given_is ∙ sym b.given;
      count_is = h.count_is ∙ sym b.len;
      rows_are = λ y. row_parted _ _ k _ _ _ _ _ _ _ _ (b.rows y) (h.rows_are y);
      connections_are = ap (λ (v : List ℕ). without k v) h.connections_are ∙ sym b.order;
      links_are = λ q. rw (b.links q) (link_gone (q == k) _ _ _ (h.links_are q));
      listed = λ q y. listed_at q y (q == k) refl;
    }
  where
    listed_at : (q y : ℕ) (c : Bool) → (q == k) ≡ c → (if c then None else s.session_on q) ≡ Some y → s.present y ≡ true
        → session_lists (get nat_eq u.rows y) q ≡ true
    listed_at q y true e f g = absurd (cc)
    listed_at q y false e f g = lists_parted _ _ k q (b.rows y) e ∙ h.listed q y f g

-- ---- trees

pub record TreeAdded (t u : Sessions) (x : ℕ) (pipes : Bool) (id : ℕ) : Type 0 where
  pub row : RowChanged t u x
  pub here : AddsTree (get nat_eq t.rows x) (get nat_eq u.rows x) pipes id
  pub links : u.links ≡ t.links
  pub order : u.order ≡ t.order

pub tree_added : (t u : Sessions) (x : ℕ) (pipes : Bool) (id : ℕ) (s : model.Server) → TreeAdded t u x pipes id
    → ShowsSessions t s → s.present x ≡ true → nat_lt last_tree (s.next_tree x) ≡ false
    → ShowsSessions u (add_tree s x pipes)
tree_added t u x pipes id s b h there few =
    record {
      epoch_is = h.epoch_is ∙ sym b.row.epoch;
      given_is = h.given_is ∙ sym b.row.given;
      count_is = h.count_is ∙ sym b.row.len;
      rows_are = λ q. row q (q == x) refl;
      connections_are = subst (λ (v : _). s.connections ≡ v.items) (sym b.order) h.connections_are;
      links_are = λ q. subst (λ (v : _). LinkShown (get nat_eq v q) (s.session_on q) (s.making q)) (sym b.links) (h.links_are q);
      listed = λ q y e f. before q y (y == x) refl ∙ h.listed q y e f;
    }
  where
    row : (q : ℕ) (c : Bool) → (q == x) ≡ c → SessionRowShown (get nat_eq u.rows q) (s.present q) (s.user q) (s.client q)
        (s.cipher q) (s.signing q) (s.channel_numbers_drawn q)
        (if c then s.trees x ++ record { id = s.next_tree x; pipes = pipes } ∷ [] else s.trees q)
        (if c then s.next_tree x + 1 else s.next_tree q)
    row q true e = subst (λ (z : ℕ). SessionRowShown (get nat_eq u.rows z) (s.present z) (s.user z) (s.client z) (s.cipher z)
        (s.signing z) (s.channel_numbers_drawn z) (s.trees x ++ record { id = s.next_tree x; pipes = pipes } ∷ [])
        (s.next_tree x + 1)) (sym (eqb-true q x e))
        (row_treed _ _ pipes id _ _ _ _ _ _ _ _ b.here there few (h.rows_are x)).0
    row q false e = rw (b.row.others q e) (h.rows_are q)

    before : (q y : ℕ) (c : Bool) → (y == x) ≡ c → session_lists (get nat_eq u.rows y) q ≡ session_lists (get nat_eq t.rows y) q
    before q y true e = subst (λ (z : ℕ). session_lists (get nat_eq u.rows z) q ≡ session_lists (get nat_eq t.rows z) q)
        (sym (eqb-true y x e)) (lists_treed _ _ pipes id q _ _ _ _ _ _ _ _ b.here (h.rows_are x) few)
    before q y false e = rw (b.row.others y e) refl

pub record TreeDropped (t u : Sessions) (x id : ℕ) : Type 0 where
  pub row : RowChanged t u x
  pub here : DropsTree (get nat_eq t.rows x) (get nat_eq u.rows x) id
  pub links : u.links ≡ t.links
  pub order : u.order ≡ t.order

pub tree_gone : (t u : Sessions) (x id : ℕ) (s : model.Server) → TreeDropped t u x id → ShowsSessions t s
    → ShowsSessions u (tree_dropped s x id)
tree_gone t u x id s b h =
    record {
      epoch_is = h.epoch_is ∙ sym b.row.epoch;
      given_is = h.given_is ∙ sym b.row.given;
      count_is = h.count_is ∙ sym b.row.len;
      rows_are = λ q. row q (q == x) refl;
      connections_are = subst (λ (v : _). s.connections ≡ v.items) (sym b.order) h.connections_are;
      links_are = λ q. subst (λ (v : _). LinkShown (get nat_eq v q) (s.session_on q) (s.making q)) (sym b.links) (h.links_are q);
      listed = λ q y e f. before q y (y == x) refl ∙ h.listed q y e f;
    }
  where
    row : (q : ℕ) (c : Bool) → (q == x) ≡ c → SessionRowShown (get nat_eq u.rows q) (s.present q) (s.user q) (s.client q)
        (s.cipher q) (s.signing q) (s.channel_numbers_drawn q) (if c then without_tree id (s.trees x) else s.trees q)
        (s.next_tree q)
    row q true e = subst (λ (z : ℕ). SessionRowShown (get nat_eq u.rows z) (s.present z) (s.user z) (s.client z) (s.cipher z)
        (s.signing z) (s.channel_numbers_drawn z) (without_tree id (s.trees x)) (s.next_tree z)) (sym (eqb-true q x e))
        (row_untreed _ _ id _ _ _ _ _ _ _ _ b.here (h.rows_are x))
    row q false e = rw (b.row.others q e) (h.rows_are q)

    before : (q y : ℕ) (c : Bool) → (y == x) ≡ c → session_lists (get nat_eq u.rows y) q ≡ session_lists (get nat_eq t.rows y) q
    before q y true e = subst (λ (z : ℕ). session_lists (get nat_eq u.rows z) q ≡ session_lists (get nat_eq t.rows z) q)
        (sym (eqb-true y x e)) (lists_untreed _ _ id q b.here)
    before q y false e = rw (b.row.others y e) refl
