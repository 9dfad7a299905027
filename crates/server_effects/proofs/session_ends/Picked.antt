-- Which open leaves first.
use Rattle.std.proofs.Common.{◌≡◌, ℕ, Bool, true, List, [], ◌∷◌, Some, None, refl, sym, ap, subst, ◌∙◌}
use Rattle.spec_exchange.specs.Effects.{plain_of}
use Rattle.spec_exchange.specs.State.{Server}
use Rattle.store_opens.specs.open_table.Changes.{first_above}
use Rattle.law_server.specs.tables.Fits.{Fits}
use Rattle.server_checks.specs.Shown.{TablesShown}
use Rattle.server_checks.specs.declared.tables.Tables.{Tables}
use Rattle.server_effects.proofs.session_ends.Left.{first_plain, first_stands}
use Rattle.server_effects.specs.session_ends.Ended.{first_left, left_behind}

-- the open is the first of those that leave
record IsFirst (s : Server) (x o : ℕ) : Type 0 where
  rest : List ℕ
  split : plain_of s x ≡ o ∷ rest

is_first : (s : Server) (x o : ℕ) → Fits s → Some o ≡ first_above 0 (plain_of s x) → IsFirst s x o
is_first s x o f e = by (plain_of s x) refl
  where
    by : (os : List ℕ) → plain_of s x ≡ os → IsFirst s x o
    by [] k = absurd (let m = e ∙ ap (first_above 0) k in cc)
    by (p ∷ ps) k = let m = e ∙ first_plain s x p ps f k in let i : p ≡ o = cc in record {
      rest = ps;
      split = k ∙ ap (λ (z : ℕ). z ∷ ps) i;
    }

pub picked_stands : (s : Server) (x o : ℕ) → Fits s → Some o ≡ first_above 0 (plain_of s x) → s.standing o ≡ true
picked_stands s x o f e = let i = is_first s x o f e in first_stands s x o i.rest f i.split

pub picked_left : (t : Tables) (s : Server) (x o : ℕ) (q : Bool) → Fits s → Some o ≡ first_above 0 (plain_of s x)
    → TablesShown t (left_behind s o q) → TablesShown t (first_left s (plain_of s x) q)
picked_left t s x o q f e h = let i = is_first s x o f e in
    subst (λ (os : List ℕ). TablesShown t (first_left s os q)) (sym i.split) h

pub none_left : (t : Tables) (s : Server) (x : ℕ) (q : Bool) → Fits s → None ≡ first_above 0 (plain_of s x)
    → TablesShown t s → TablesShown t (first_left s (plain_of s x) q)
none_left t s x q f e h = by (plain_of s x) refl
  where
    by : (os : List ℕ) → plain_of s x ≡ os → TablesShown t (first_left s (plain_of s x) q)
    by [] k = subst (λ (os : List ℕ). TablesShown t (first_left s os q)) (sym k) h
    by (p ∷ ps) k = absurd (let m = e ∙ first_plain s x p ps f k in cc)
