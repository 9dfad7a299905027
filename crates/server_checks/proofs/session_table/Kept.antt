-- The table behind a call that changes nothing that it shows.
use Rattle.std.proofs.Common.{◌≡◌, ℕ, ◌==◌, nat_eq, Bool, true, false, List, Option, Some, None, refl, sym, ap, subst, ◌∙◌, eqb-true}
use Rattle.std.specs.HashMap.{get, hash_map_len}
use Rattle.spec_exchange.specs.Table.{has}
use Rattle.spec_exchange.specs.State as model
use Rattle.server_checks.specs.declared.session_table.row.SessionRow.{SessionRow}
use Rattle.server_checks.specs.declared.session_table.row.Link.{Link}
use Rattle.server_checks.specs.declared.session_table.table.Sessions.{Sessions}
use Rattle.server_checks.specs.session_table.Shown.{SessionRowShown, LinkShown, session_lists, ShowsSessions, IsLink}
use Rattle.server_checks.specs.session_table.Steps.{SessionRowStays}
use Rattle.server_checks.proofs.session_table.Rows.{row_kept}

-- ---- rows at all keys, of which one alone changed

pub stays_at : (a b : ℕ → Option SessionRow) (x : ℕ) → ((q : ℕ) → (q == x) ≡ false → b q ≡ a q) → SessionRowStays (a x) (b x)
    → (q : ℕ) → SessionRowStays (a q) (b q)
stays_at a b x others here q = by (q == x) refl
  where
    self : (r : Option SessionRow) → SessionRowStays r r
    self None = refl
    self (Some r) = record {
      logon = record { user_is = refl; client_is = refl; cipher_is = refl; signing_is = refl; keys_are = refl };
      drawn_is = refl;
      channels_are = refl;
      trees_are = refl;
      next_tree_is = refl;
    }

    by : (c : Bool) → (q == x) ≡ c → SessionRowStays (a q) (b q)
    by true e = subst (λ (z : ℕ). SessionRowStays (a z) (b z)) (sym (eqb-true q x e)) here
    by false e = subst (λ (v : Option SessionRow). SessionRowStays (a q) v) (sym (others q e)) (self (a q))

row_stays : (old new : Option SessionRow) (present : Bool) (user : List ℕ) (client cipher signing drawn : ℕ)
    (trees : List model.Tree) (next_tree : ℕ) → SessionRowStays old new
    → SessionRowShown old present user client cipher signing drawn trees next_tree → SessionRowShown new present user client cipher
    signing drawn trees next_tree
row_stays None new present user client cipher signing drawn trees next_tree d h = subst (λ (v : Option SessionRow).
    SessionRowShown v present user client cipher signing drawn trees next_tree) (sym d) h
row_stays (Some r) None present user client cipher signing drawn trees next_tree d h = absurd d
row_stays (Some r) (Some n) present user client cipher signing drawn trees next_tree d h = (
  h.0,
  row_kept r n user client cipher signing drawn drawn trees trees next_tree next_tree d.logon
      (h.1.drawn_is ∙ sym d.drawn_is) (h.1.trees_are ∙ sym d.trees_are) (h.1.next_tree_is ∙ sym d.next_tree_is) h.1,
)

lists_stay : (old new : Option SessionRow) (k : ℕ) → SessionRowStays old new → session_lists new k ≡ session_lists old k
lists_stay None new k d = ap (λ (v : Option SessionRow). session_lists v k) d
lists_stay (Some r) None k d = absurd d
lists_stay (Some r) (Some n) k d = ap (λ (v : List ℕ). has k v) d.channels_are

-- ---- the table

pub record Stays (t u : Sessions) : Type 0 where
  pub epoch : u.epoch ≡ t.epoch
  pub given : u.given ≡ t.given
  pub len : hash_map_len u.rows ≡ hash_map_len t.rows
  pub rows : (q : ℕ) → SessionRowStays (get nat_eq t.rows q) (get nat_eq u.rows q)
  pub order : u.order.items ≡ t.order.items
  pub links : (q : ℕ) → get nat_eq u.links q ≡ get nat_eq t.links q

pub shows_same : (t u : Sessions) → Stays t u → (s : model.Server) → ShowsSessions t s → ShowsSessions u s
shows_same t u b s h =
    record {
      epoch_is = h.epoch_is ∙ sym b.epoch;
      given_is = h.given_is ∙ sym b.given;
      count_is = h.count_is ∙ sym b.len;
      rows_are = λ q. row_stays (get nat_eq t.rows q) (get nat_eq u.rows q) (s.present q) (s.user q) (s.client q)
          (s.cipher q) (s.signing q) (s.channel_numbers_drawn q) (s.trees q) (s.next_tree q) (b.rows q) (h.rows_are q);
      connections_are = h.connections_are ∙ sym b.order;
      links_are = λ q. subst (λ (v : Option Link). LinkShown v (s.session_on q) (s.making q)) (sym (b.links q)) (h.links_are q);
      listed = λ k x e f. lists_stay (get nat_eq t.rows x) (get nat_eq u.rows x) k (b.rows x) ∙ h.listed k x e f;
    }

-- ---- a connection that has a row

pub is_there : (l : Option Link) → IsLink l → l ≡ None → ⊥
is_there l h e = subst (λ (v : Option Link). IsLink v) e h
