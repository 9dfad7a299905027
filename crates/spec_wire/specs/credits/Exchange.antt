-- One purse and one window over a connection that loses nothing: requests and grants arrive, each in its order.
use Rattle.std.specs.Prelude.{◌≡◌, ℕ, ◌+◌, nat_le, Bool, true, false, List, [], ◌∷◌, ◌++◌, sum, Some, None, Option as Perhaps}
use Rattle.spec_wire.specs.credits.Ids.{counted, ids_from, outside}
use Rattle.spec_wire.specs.credits.Window.{HeldIds, first_window, after_take, granted, after_grant}
use Rattle.spec_wire.specs.credits.Purse.{Credits, first_purse, after_spend, after_add}

-- Requests that were sent and not served, each with its first id and its charge, and grants that were made and not heard.
pub record Line : Type 0 where
  pub window : HeldIds
  pub purse : Credits
  pub requests : List (ℕ × ℕ)
  pub grants : List ℕ

abbrev pub first_line : Line
first_line = record { window = first_window; purse = first_purse; requests = []; grants = [] }

pub data Step : Type 0 where
  -- the client sends a request of this charge, if it holds so much
  sends : ℕ → Step
  -- the server takes the first request's ids, and grants what is asked for
  serves : ℕ → Step
  -- the client hears the first grant
  hears : Step

abbrev pub sent_if : Bool → ℕ → Line → Line
sent_if true charge l = record l {
  purse = after_spend charge l.purse;
  requests = l.requests ++ (l.purse.next, charge) ∷ [];
}
sent_if false charge l = l

-- the server goes on only where the ids are held
abbrev pub served_if : Perhaps ℕ → ℕ × ℕ → List (ℕ × ℕ) → ℕ → Line → Line
served_if None q rest asked l = record l {
  window = after_grant asked (after_take q.0 q.1 l.window);
  requests = rest;
  grants = l.grants ++ granted asked (after_take q.0 q.1 l.window) ∷ [];
}
served_if (Some id) q rest asked l = l

abbrev pub served : List (ℕ × ℕ) → ℕ → Line → Line
served [] asked l = l
served (q ∷ rest) asked l = served_if (outside l.window.held q.0 (counted q.1)) q rest asked l

abbrev pub heard : List ℕ → Line → Line
heard [] l = l
heard (g ∷ rest) l = record l { purse = after_add g l.purse; grants = rest }

abbrev pub after_step : Step → Line → Line
after_step (sends charge) l = sent_if (nat_le (counted charge) l.purse.held) charge l
after_step (serves asked) l = served l.requests asked l
after_step hears l = heard l.grants l

abbrev pub after_steps : List Step → Line → Line
after_steps [] l = l
after_steps (s ∷ ss) l = after_steps ss (after_step s l)

-- the ids of the requests on their way
abbrev pub ids_on_their_way : List (ℕ × ℕ) → List ℕ
ids_on_their_way [] = []
ids_on_their_way (q ∷ qs) = ids_from q.0 (counted q.1) ++ ids_on_their_way qs

-- The window holds the ids of the requests on their way, then those of the purse, then those of the grants on their way, and no others.
abbrev pub IsBalanced : Line → Type 0
IsBalanced l =
    (l.window.held ≡ ids_on_their_way l.requests ++ ids_from l.purse.next (l.purse.held + sum l.grants))
    × (l.window.next ≡ l.purse.next + (l.purse.held + sum l.grants))

-- all ids of the first request on its way are held
abbrev pub FrontIsHeld : List (ℕ × ℕ) → HeldIds → Type 0
FrontIsHeld [] w = Unit {0}
FrontIsHeld (q ∷ qs) w = outside w.held q.0 (counted q.1) ≡ None

-- Over every list of steps the window holds what the purse spends: the next request to be served is never refused.
abbrev pub NothingIsRefused : Type 0
NothingIsRefused = (steps : List Step) →
    IsBalanced (after_steps steps first_line)
    × FrontIsHeld (after_steps steps first_line).requests (after_steps steps first_line).window
