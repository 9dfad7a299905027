-- States of which the one is the other's as far as files that are delete pending go: on a full journal none is unmarked, removed
-- while it is open, or opened anew.
use Rattle.std.proofs.Common.{◌≡◌, ◌⊎◌, inl, inr, ℕ, ◌+◌, ◌≤◌, ◌<◌, Bool, true, false, ◌&&◌, List, [], ◌∷◌, ◌∙◌, ap, subst}
use Rattle.spec_exchange.specs.Table.{has}
use Rattle.spec_exchange.specs.State.{Server, Record, RemoveRecord, CloseRecord, ExpireRecord}
use Rattle.spec_exchange.specs.Records.{entry_bytes, lower_limit}

-- files as they were, and no open more but of a file that isn't delete pending
pub record Steady (t u : Server) : Type 0 where
  pub entries : u.entries ≡ t.entries
  pub delete_pending : (f : ℕ) → u.delete_pending f ≡ t.delete_pending f
  pub directory : (f : ℕ) → u.directory f ≡ t.directory f
  pub others : (p f : ℕ) → has p u.opens ≡ true → (u.opened p).file ≡ f → t.delete_pending f ≡ true → has p t.opens
      ≡ true × (t.opened p).file ≡ f

-- files may have gone
pub record Calm (t u : Server) : Type 0 where
  pub delete_pending : (f : ℕ) → t.delete_pending f ≡ true → u.delete_pending f ≡ true
  pub others : (p f : ℕ) → has p u.opens ≡ true → (u.opened p).file ≡ f → t.delete_pending f ≡ true → has p t.opens
      ≡ true × (t.opened p).file ≡ f

pub steady_same : (t u : Server) → u.entries ≡ t.entries → u.delete_pending ≡ t.delete_pending → u.directory
    ≡ t.directory → u.opens ≡ t.opens → u.opened ≡ t.opened → Steady t u
steady_same t u e m d o p =
    record {
      entries = e;
      delete_pending = λ f. ap (λ z. z f) m;
      directory = λ f. ap (λ z. z f) d;
      others = λ q f h k l. (subst (λ z. has q z ≡ true) o h, subst (λ z. (z q).file ≡ f) p k);
    }

pub steady_on : (t u v : Server) → Steady t u → Steady u v → Steady t v
steady_on t u v a b =
    record {
      entries = b.entries ∙ a.entries;
      delete_pending = λ f. b.delete_pending f ∙ a.delete_pending f;
      directory = λ f. b.directory f ∙ a.directory f;
      others = λ q f h k l. let x = b.others q f h k (a.delete_pending f ∙ l) in a.others q f x.0 x.1 l;
    }

pub calm_of : (t u : Server) → Steady t u → Calm t u
calm_of t u s = record { delete_pending = λ f e. s.delete_pending f ∙ e; others = s.others }

pub calm_on : (t u v : Server) → Calm t u → Calm u v → Calm t v
calm_on t u v a b =
    record {
      delete_pending = λ f e. b.delete_pending f (a.delete_pending f e);
      others = λ q f h k l. let x = b.others q f h k (a.delete_pending f l) in a.others q f x.0 x.1 l;
    }

-- where the last 34 bytes are taken, by no more than an open that left or a file that went with it
abbrev pub Steadies : Server → Server → Type 0
Steadies t u = Steady t u ⊎ (Calm t u × lower_limit < u.journal + 34)

pub calm_either : (t u : Server) → Steadies t u → Calm t u
calm_either t u (inl s) = calm_of t u s
calm_either t u (inr c) = c.0

-- ---- records that take no more

-- that an open left or a file went: 29 bytes
unfoldable pub is_end : Record → Bool
is_end (RemoveRecord origin f) = true
is_end (CloseRecord origin o) = true
is_end (ExpireRecord origin o) = true
is_end _ = false

unfoldable pub all_ends : List Record → Bool
all_ends [] = true
all_ends (r ∷ rs) = is_end r && all_ends rs

-- what the last 34 bytes may hold of the records that an event owes, in its body
abbrev pub Ending : List Record → List Record → Type 0
Ending owed body = (owed ≡ []) ⊎ ((all_ends owed ≡ true) × (34 ≤ entry_bytes body))
