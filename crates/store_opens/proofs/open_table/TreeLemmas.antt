-- The opens of a tree, by what its session's row lists of opens.
use Rattle.std.proofs.Common.{◌≡◌, ℕ, nat_eq, ◌==◌, true, false, List, [], ◌∷◌}
use Rattle.std.proofs.Common.{Result, Ok, Err, IfOk, Vec, refl, sym, ◌∙◌, arith}
use Rattle.std.proofs.lemmas.Grind.{common_steps}
use Rattle.std.specs.HashMap.{get}
use Rattle.spec_exchange.specs.Table.{has, is_at}
use Rattle.spec_exchange.specs.State as model
use Rattle.spec_exchange.specs.Effects.{opens_of_tree, tree_opens_in}
use Rattle.spec_exchange.specs.Opens.{is_of_session, is_of_tree}
use Rattle.law_server.specs.tables.Fits.{Fits, is_ascending}
use Rattle.law_server.proofs.tables.Logic.{front_of, back_of}
use Rattle.store_opens.specs.open_index.Keep.{keep_lists}
use Rattle.store_opens.specs.declared.open_table.table.Opens.{Opens}
use Rattle.store_opens.specs.open_table.Shown.{ShowsOpens}
use Rattle.store_opens.proofs.open_table.DueLemmas.{passing, passing_same}
use Rattle.store_opens.proofs.open_table.PlainLemmas.{at_session}

tree_is : (s : model.Server) (x n : ℕ) (xs : List ℕ) → tree_opens_in s x n xs ≡ passing (λ o. is_of_tree s o x n) xs
unfolding tree_opens_in
tree_is s x n [] = refl
tree_is s x n (o ∷ os) = let e = tree_is s x n os in grind (arith, common_steps)

-- a list that has those that the row lists
pub tree_is_listed : (t : Opens) (s : model.Server) (x n : ℕ) (xs : List ℕ) → ShowsOpens t s → Fits s → is_ascending xs ≡ true
    → ((o : ℕ) → keep_lists (get nat_eq t.sessions x) o ≡ has o xs) → tree_opens_in s x n xs ≡ opens_of_tree s x n
tree_is_listed t s x n xs h i a same = tree_is s x n xs
    ∙ (sym (passing_same (λ o. is_of_tree s o x n) s.opens xs i.ascending a (λ q k. there q k)) ∙ sym (tree_is s x n s.opens))
  where
    there : (q : ℕ) → is_of_tree s q x n ≡ true → has q s.opens ≡ has q xs
    there q k =
        let own : is_of_session s q x ≡ true = front_of (is_of_session s q x) (s.tree_of_open q == n) k in
        i.listed q ∙ (front_of (s.standing q) (is_at x (s.session_of_open q)) own
        ∙ sym (sym (same q) ∙ h.listed q x (at_session x (s.session_of_open q)
        (back_of (s.standing q) (is_at x (s.session_of_open q)) own))))

pub tree_all_listed : {Z E : Type 0} (t : Opens) (x n : ℕ) (xs : List ℕ) (r : Result (Vec ℕ Z) E)
    → IfOk r (λ v. (s : model.Server) → ShowsOpens t s → v.items ≡ tree_opens_in s x n xs) → is_ascending xs ≡ true
    → ((o : ℕ) → keep_lists (get nat_eq t.sessions x) o ≡ has o xs)
    → IfOk r (λ v. (s : model.Server) → Fits s → ShowsOpens t s → v.items ≡ opens_of_tree s x n)
tree_all_listed t x n xs (Ok v) f a same = λ s i h. f s h ∙ tree_is_listed t s x n xs h i a same
tree_all_listed t x n xs (Err e) f a same = tt

-- a session that lists none has none
pub tree_none : (t : Opens) (s : model.Server) (x n : ℕ) → ShowsOpens t s → Fits s
    → ((o : ℕ) → keep_lists (get nat_eq t.sessions x) o ≡ false) → [] ≡ opens_of_tree s x n
unfolding is_ascending tree_opens_in
tree_none t s x n h i none = tree_is_listed t s x n [] h i refl none
