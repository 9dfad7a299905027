-- One context more of a list.
use Rattle.std.proofs.Common.{◌≡◌, ℕ, suc, ◌+◌, ◌<◌, ◌≤◌, ◌&&◌, nat_le, Bool, true, false, List, [], ◌∷◌, ◌++◌, length}
use Rattle.std.proofs.Common.{append_assoc, Some, None, refl, sym, ap, subst, ◌∙◌, arith}
use Rattle.std.proofs.lemmas.Grind.{common_steps}
use Rattle.spec_wire.specs.messages.Places.{number, bytes_at}
use Rattle.spec_wire.specs.messages.Contexts.{Context, context_place, context_end, contexts_end, contexts_in}
use Rattle.spec_wire.specs.messages.Offer.{all_fit, lists_fit, first_of, is_known, has_id, doubled, ids_at}
use Rattle.spec_wire.proofs.messages.ContextEnds.{one_more, none_more, past_end}

-- the context of this type and these bytes
abbrev pub context : ℕ → List ℕ → Context
context kind bytes = record { kind = kind; bytes = bytes }

-- what a reader of one context gave
pub record IsNext (m : List ℕ) (behind kind : ℕ) (bytes : List ℕ) (end : ℕ) : Type 0 where
  pub is_kind : kind ≡ number 2 m (context_place behind)
  pub is_bytes : bytes ≡ bytes_at (number 2 m (context_place behind + 2)) m (context_place behind + 8)
  pub is_end : end ≡ context_end m (context_place behind)

pub next_context : (m : List ℕ) (behind left n kind : ℕ) (bytes : List ℕ) (end : ℕ) → left ≡ suc n
    → IsNext m behind kind bytes end → contexts_in m behind left ≡ context kind bytes ∷ contexts_in m end n
unfolding contexts_in
next_context m behind left n kind bytes end e is =
    ap (λ (k : ℕ). contexts_in m behind k) e
    ∙ ap (λ (k : ℕ). context k (bytes_at (number 2 m (context_place behind + 2)) m (context_place behind + 8)) ∷
    contexts_in m (context_end m (context_place behind)) n) (sym is.is_kind)
    ∙ ap (λ (b : List ℕ). context kind b ∷ contexts_in m (context_end m (context_place behind)) n) (sym is.is_bytes)
    ∙ ap (λ (k : ℕ). context kind bytes ∷ contexts_in m k n) (sym is.is_end)

pub no_context : (m : List ℕ) (behind left : ℕ) → left ≡ 0 → contexts_in m behind left ≡ []
unfolding contexts_in
no_context m behind left e = ap (λ (k : ℕ). contexts_in m behind k) e

-- Walking over contexts: those behind a place end where all do.
pub record Walks (m : List ℕ) (count end left : ℕ) : Type 0 where
  pub ends : contexts_end m end left ≡ contexts_end m 0 count
  pub inside : end ≤ length m

pub walks_on : (m : List ℕ) (count behind left n kind : ℕ) (bytes : List ℕ) (end : ℕ) → Walks m count behind left → left
    ≡ suc n → IsNext m behind kind bytes end → end ≤ length m → Walks m count end n
walks_on m count behind left n kind bytes end w e is inside = record {
  ends = sym (one_more left n m behind end e is.is_end) ∙ w.ends;
  inside = inside;
}

pub walked : (m : List ℕ) (count end left : ℕ) → Walks m count end left → left ≡ 0 → contexts_end m 0 count ≤ length m
walked m count end left w e = let last = none_more left m end e in let ends = w.ends in let inside = w.inside in omega arith

pub walks_past : (m : List ℕ) (count behind left n : ℕ) → Walks m count behind left → left ≡ suc n
    → length m < context_end m (context_place behind) → length m < contexts_end m 0 count
walks_past m count behind left n w e past = subst (λ x. length m < x) w.ends (past_end left n m behind (length m) e past)

pub too_few : (ends size : ℕ) (rest : Bool) → size < ends → false ≡ (nat_le ends size && rest)
too_few ends size rest past = grind (arith, common_steps)

pub enough : (ends size : ℕ) (rest : Bool) → ends ≤ size → rest ≡ true → true ≡ (nat_le ends size && rest)
enough ends size rest fits all = grind (arith, common_steps)

pub none_fits : (first : Bool) (rest : Bool) → rest ≡ false → false ≡ (first && rest)
none_fits true rest e = sym e
none_fits false rest e = refl

pub fit_more : (c : Context) (cs : List Context) → lists_fit c ≡ true → all_fit (c ∷ cs) ≡ all_fit cs
unfolding all_fit
fit_more c cs e = rw e refl

pub fit_first : (c : Context) (cs : List Context) → lists_fit c ≡ false → all_fit (c ∷ cs) ≡ false
unfolding all_fit
fit_first c cs e = rw e refl

pub fit_none : all_fit [] ≡ true
unfolding all_fit
fit_none = refl

both : (a b : Bool) → (a && b) ≡ true → (a ≡ true) × (b ≡ true)
both true b e = (refl, e)
both false b e = absurd cc

pub fit_each : (c : Context) (cs : List Context) → all_fit (c ∷ cs) ≡ true → (lists_fit c ≡ true) × (all_fit cs ≡ true)
unfolding all_fit
fit_each c cs e = both (lists_fit c) (all_fit cs) e

pub first_here : (kind : ℕ) (c : Context) (cs : List Context) → c.kind ≡ kind → first_of kind (c ∷ cs) ≡ Some c
unfolding first_of
first_here kind c cs e = grind (arith, common_steps)

pub first_later : (kind : ℕ) (c : Context) (cs : List Context) → (c.kind ≡ kind → ⊥) → first_of kind (c ∷ cs) ≡ first_of kind cs
unfolding first_of
first_later kind c cs e = grind (arith, common_steps)

pub first_none : (kind : ℕ) → first_of kind [] ≡ None
unfolding first_of
first_none kind = refl

pub doubled_here : (before : List ℕ) (c : Context) (cs : List Context) → (is_known c.kind && has_id c.kind before)
    ≡ true → doubled before (c ∷ cs) ≡ Some c.kind
unfolding doubled
doubled_here before c cs e = rw e refl

pub doubled_later : (before : List ℕ) (c : Context) (cs : List Context) → (is_known c.kind && has_id c.kind before)
    ≡ false → doubled before (c ∷ cs) ≡ doubled (c.kind ∷ before) cs
unfolding doubled
doubled_later before c cs e = rw e refl

pub doubled_none : (before : List ℕ) → doubled before [] ≡ None
unfolding doubled
doubled_none before = refl

-- one number more
pub one_id : (bytes : List ℕ) (front later : List ℕ) (id at left n : ℕ) → left ≡ suc n → id ≡ number 2 bytes at → later
    ≡ front ++ id ∷ [] → later ++ ids_at bytes (at + 2) n ≡ front ++ ids_at bytes at left
unfolding ids_at
one_id bytes front later id at left n e is more =
    ap (λ (l : List ℕ). l ++ ids_at bytes (at + 2) n) more ∙ append_assoc front (id ∷ []) (ids_at bytes (at + 2) n)
    ∙ ap (λ (k : ℕ). front ++ k ∷ ids_at bytes (at + 2) n) is ∙ ap (λ (k : ℕ). front ++ ids_at bytes at k) (sym e)
