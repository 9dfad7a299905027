-- The opens that leave with their session, by what the session's row lists of them.
use Rattle.std.proofs.Common.{◌≡◌, ℕ, nat_eq, nat_lt, Bool, true, false, not, ◌&&◌, if◌then◌else◌, List, [], ◌∷◌}
use Rattle.std.proofs.Common.{◌++◌, filter, Option, Some, None, Result, Ok, Err, IfOk, refl, sym, ap, ◌∙◌, arith}
use Rattle.std.proofs.Common.{eqb-true, Vec}
use Rattle.std.proofs.lemmas.Grind.{common_steps}
use Rattle.std.specs.HashMap.{get}
use Rattle.std.specs.BTreeMap.Range.{range_contains}
use Rattle.std.specs.Ordering.{nat_cmp}
use Rattle.std.specs.declared.ops.Bound.TheVariants.{Excluded, Unbounded}
use Rattle.std.proofs.lemmas.Bool.Decides.{nat_tests}
use Rattle.spec_exchange.specs.Table.{has, is_at}
use Rattle.spec_exchange.specs.State as model
use Rattle.spec_exchange.specs.Effects.{leaves, plain_in, plain_of}
use Rattle.law_server.specs.tables.Fits.{Fits, is_ascending}
use Rattle.law_server.proofs.tables.Logic.{front_of, back_of, not_true}
use Rattle.store_opens.specs.open_index.Keep.{lists_plain}
use Rattle.store_opens.specs.declared.open_table.table.Opens.{Opens}
use Rattle.store_opens.specs.open_table.Changes.{first_above}
use Rattle.store_opens.specs.open_table.Shown.{ShowsOpens}
use Rattle.store_opens.proofs.open_table.DueLemmas.{first, plain_same}

pub at_session : (x : ℕ) (session : Option ℕ) → is_at x session ≡ true → session ≡ Some x
at_session x None e = absurd (cc)
at_session x (Some z) e = ap Some (eqb-true z x e)

-- a list that has those that the row lists as plain
pub plain_is_listed : (t : Opens) (s : model.Server) (x : ℕ) (xs : List ℕ) → ShowsOpens t s → Fits s → is_ascending xs ≡ true
    → ((o : ℕ) → lists_plain (get nat_eq t.sessions x) o ≡ has o xs) → plain_in s x xs ≡ plain_of s x
plain_is_listed t s x xs h i a same =
    sym (plain_same s x s.opens xs i.ascending a
    (λ q k. there q (at_session x (s.session_of_open q) (front_of (is_at x (s.session_of_open q))
    (not (s.opened q).persistent) k))
    (not_true (s.opened q).persistent (back_of (is_at x (s.session_of_open q)) (not (s.opened q).persistent) k))))
  where
    there : (q : ℕ) → s.session_of_open q ≡ Some x → (s.opened q).persistent ≡ false → has q s.opens ≡ has q xs
    there q e p = i.listed q ∙ (i.attached q x e).0 ∙ sym (sym (same q) ∙ h.plain_listed q x e p)

-- the first above an id, by a list of those above it
pub first_is_above : (s : model.Server) (x n : ℕ) (test : ℕ → Bool) (xs : List ℕ) → ((y : ℕ) → test y ≡ nat_lt n y)
    → first (plain_in s x (filter test xs)) ≡ first_above n (plain_in s x xs)
unfolding plain_in
first_is_above s x n test [] e = refl
first_is_above s x n test (y ∷ ys) e = let r = first_is_above s x n test ys e in let k = e y in grind (arith, common_steps)

-- what a loop over the list has found, and what is left
pub plain_more : (s : model.Server) (x y : ℕ) (b : Bool) (found xs all : List ℕ) → b ≡ leaves s x y → found
    ++ plain_in s x (y ∷ xs) ≡ all → (if b then found ++ y ∷ [] else found) ++ plain_in s x xs ≡ all
unfolding plain_in
plain_more s x y true found xs all e h = grind (arith, common_steps)
plain_more s x y false found xs all e h = grind (arith, common_steps)

pub all_listed : {Z E : Type 0} (t : Opens) (x : ℕ) (xs : List ℕ) (r : Result (Vec ℕ Z) E)
    → IfOk r (λ v. (s : model.Server) → Fits s → ShowsOpens t s → v.items ≡ plain_in s x xs) → is_ascending xs ≡ true
    → ((o : ℕ) → lists_plain (get nat_eq t.sessions x) o ≡ has o xs) → IfOk r (λ v. (s : model.Server) → Fits s
    → ShowsOpens t s → v.items ≡ plain_of s x)
all_listed t x xs (Ok v) f a same = λ s i h. f s i h ∙ plain_is_listed t s x xs h i a same
all_listed t x xs (Err e) f a same = tt

-- a session that lists none has none
pub plain_none : (t : Opens) (s : model.Server) (x : ℕ) → ShowsOpens t s → Fits s
    → ((o : ℕ) → lists_plain (get nat_eq t.sessions x) o ≡ false) → [] ≡ plain_of s x
unfolding is_ascending plain_in
plain_none t s x h i none = plain_is_listed t s x [] h i refl none

pub leaves_absent : (s : model.Server) (x o : ℕ) → Fits s → s.standing o ≡ false → false ≡ leaves s x o
leaves_absent s x o i st = by (s.session_of_open o) refl
  where
    by : (session : Option ℕ) → s.session_of_open o ≡ session → false ≡ (is_at x session && not (s.opened o).persistent)
    by None e = refl
    by (Some y) e = absurd (let k = (i.attached o y e).0 in cc)

pub above_is : (n y : ℕ) → range_contains nat_cmp (Excluded n) Unbounded y ≡ nat_lt n y
above_is n y = grind (arith, nat_tests)
