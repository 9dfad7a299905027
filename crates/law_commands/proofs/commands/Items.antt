-- The items of a chain read back.
use Rattle.std.proofs.Common.{◌≡◌, ℕ, zero, suc, ◌≤◌, Bool, true, false, List, [], ◌∷◌, length, drop, take, Option}
use Rattle.std.proofs.Common.{Some, None, refl, sym, ap, ◌∙◌, arith, length-drop}
use Rattle.std.specs.Prelude.{◌==◌, if◌then◌else◌, is_some, option_map}
use Rattle.std.proofs.lemmas.Grind.{common_steps}
use Rattle.std.proofs.lemmas.List.{length-take}
use Rattle.spec_wire.specs.messages.Places.{number}
use Rattle.spec_wire.specs.messages.Chain.{is_badly_linked, piece, IsChain, IsChainOf}
use Rattle.spec_wire.specs.messages.CreateContexts.{CreateContext, IsContext, context_in, first_fault, request_due}
use Rattle.spec_wire.specs.messages.CreateContexts.{request_contexts, SpellsCreateContexts}
use Rattle.spec_wire.specs.declared.messages.context.CreateContexts.{CreateContexts}
use Rattle.law_wire.proofs.info.OneContext.{same_context, whole_context, given_context, whole_first}
use Rattle.spec_commands.specs.Items.{first_items, items_in}
use Rattle.spec_commands.specs.CommandOf.{contexts_in}
use Rattle.spec_commands.specs.Clashes.{clash, all_clash, clash_in}

is_last : (n : ℕ) → n ≡ 0 → (n == 0) ≡ true
is_last n e = grind (arith, common_steps)

pub is_linked : (n : ℕ) → (n ≡ 0 → ⊥) → (n == 0) ≡ false
is_linked n some = grind (arith, common_steps)

positive : (n : ℕ) → (n ≡ 0 → ⊥) → 1 ≤ n
positive zero some = absurd (some refl)
positive (suc n) some = omega arith

shorter : (last : Bool) (next : ℕ) (m : List ℕ) → length (if last then m else take next m) ≤ length m
shorter true next m = omega arith
shorter false next m = omega (arith, length-take next m)

pub piece_short : (m : List ℕ) → length (piece m) ≤ length m
unfolding piece
piece_short m = shorter (number 4 m 0 == 0) (number 4 m 0) m

module _ {V : Type 0} where
  last_item : (breaks last : Bool) (x : V) (o : Option (List V)) → breaks ≡ false → last ≡ true → (if breaks then None
      else if last then Some (x ∷ []) else o) ≡ Some (x ∷ [])
  last_item true last x o e f = absurd cc
  last_item false true x o e f = refl
  last_item false false x o e f = absurd cc

  pub next_item : (breaks last : Bool) (x : V) (o : Option (List V)) → breaks ≡ false → last ≡ false → (if breaks then None
      else if last then Some (x ∷ []) else o) ≡ o
  next_item true last x o e f = absurd cc
  next_item false true x o e f = absurd cc
  next_item false false x o e f = refl

module _ {V : Type 0} (Is : List ℕ → V → Type 0) (value : List ℕ → V) (breaks : List ℕ → Bool) where
  module _ (whole : (m : List ℕ) (v : V) → is_badly_linked m ≡ false → Is (piece m) v → breaks m ≡ false)
      (gives : (m : List ℕ) (v : V) → Is m v → value m ≡ v)
      (some : (m : List ℕ) (v : V) → Is m v → 1 ≤ length m) where
    first_again : (n : ℕ) (m : List ℕ) (v : V) (vs : List V) → length m ≤ n → IsChain Is m v vs → first_items value
        breaks n m ≡ Some (v ∷ vs)
    unfolding first_items
    first_again zero m v [] le s = absurd (let long = some (piece m) v s.2 in omega (arith, le, long, piece_short m))
    first_again zero m v (w ∷ ws) le s = absurd (let long = some (piece m) v s.2 in omega (arith, le, long, piece_short m))
    first_again (suc n) m v [] le s =
        last_item (breaks m) (number 4 m 0 == 0) (value (piece m)) _ (whole m v s.1 s.2) (is_last (number 4 m 0) s.0) ∙
        ap (λ (x : V). Some (x ∷ [])) (gives (piece m) v s.2)
    first_again (suc n) m v (w ∷ ws) le s =
        let some_next = positive (number 4 m 0) s.0 in
        let later = first_again n (drop (number 4 m 0) m) w ws (omega (arith, length-drop (number 4 m 0) m, le, some_next)) s.3 in
        next_item (breaks m) (number 4 m 0 == 0) (value (piece m)) _ (whole m v s.1 s.2) (is_linked (number 4 m 0) s.0)
        ∙ ap (option_map (λ (vs : List V). value (piece m) ∷ vs)) later
        ∙ ap (λ (x : V). Some (x ∷ w ∷ ws)) (gives (piece m) v s.2)

    not_empty : (v : V) (vs : List V) → IsChain Is [] v vs → ⊥
    not_empty v [] s = let long = some (piece []) v s.2 in omega (arith, long, piece_short [])
    not_empty v (w ∷ ws) s = let long = some (piece []) v s.2 in omega (arith, long, piece_short [])

    pub items_again : (m : List ℕ) (vs : List V) → IsChainOf Is m vs → items_in value breaks m ≡ Some vs
    unfolding items_in
    items_again [] [] s = refl
    items_again [] (v ∷ vs) s = absurd (not_empty v vs s)
    items_again (b ∷ bs) [] s = absurd cc
    items_again (b ∷ bs) (v ∷ vs) s = first_again (length (b ∷ bs)) (b ∷ bs) v vs (omega arith) s

-- ---- contexts

no_fault : {E : Type 0} (e : Option E) → e ≡ None → is_some e ≡ false
no_fault e is = ap is_some is

first_whole : (m : List ℕ) (v : CreateContext) → is_badly_linked m ≡ false → IsContext request_due (piece m) v → is_some
    (first_fault request_due m) ≡ false
first_whole m v link is = no_fault (first_fault request_due m) (whole_first request_due m v link is)

one_given : (m : List ℕ) (v : CreateContext) → IsContext request_due m v → context_in m ≡ v
one_given m v is = same_context request_due m (context_in m) v (given_context request_due m (whole_context request_due m v is)) is

some_bytes : (m : List ℕ) (v : CreateContext) → IsContext request_due m v → 1 ≤ length m
some_bytes m v is = grind (arith, common_steps)

pub listed_again : (m : List ℕ) (vs : List CreateContext) → IsChainOf (IsContext request_due) m vs
    → items_in context_in (λ m. is_some (first_fault request_due m)) m ≡ Some vs
listed_again m vs s =
    items_again (IsContext request_due) context_in (λ m. is_some (first_fault request_due m)) first_whole one_given some_bytes m vs s

pub contexts_again : (m : List ℕ) (c : CreateContexts) → SpellsCreateContexts m c → contexts_in m ≡ Some c
unfolding contexts_in
contexts_again m c s = ap (option_map request_contexts) (listed_again m s.contexts s.chain) ∙ ap Some (sym s.says)

pub clash_again : (m : List ℕ) (vs : List CreateContext) → IsChainOf (IsContext request_due) m vs → clash_in m ≡ clash vs
unfolding clash_in
clash_again m vs s = ap all_clash (listed_again m vs s)
