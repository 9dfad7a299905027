-- Where the contexts of a NEGOTIATE end.
use Rattle.std.proofs.Common.{◌≡◌, ℕ, zero, suc, ◌<◌, ◌≤◌, List, [], None, inl, refl, sym, ap, ◌∙◌, arith}
use Rattle.spec_wire.specs.messages.Places.{bytes_at}
use Rattle.spec_wire.specs.messages.Contexts.{context_place, context_end, contexts_end, contexts_size, contexts_fault, AreContexts}
use Rattle.spec_wire.proofs.messages.Numbers.{bytes_at-nothing}

-- contexts end no earlier than they begin
pub ends_behind : (n : ℕ) (m : List ℕ) (behind : ℕ) → behind ≤ contexts_end m behind n
unfolding contexts_end
ends_behind zero m behind = omega arith
ends_behind (suc n) m behind =
    let later : context_end m (context_place behind) ≤ contexts_end m (context_end m (context_place behind)) n =
    ends_behind n m (context_end m (context_place behind)) in
    omega arith

-- one context more
pub one_more : (left n : ℕ) (m : List ℕ) (behind end : ℕ) → left ≡ suc n → end ≡ context_end m (context_place behind)
    → contexts_end m behind left ≡ contexts_end m end n
unfolding contexts_end
one_more left n m behind end e is = ap (λ (k : ℕ). contexts_end m behind k) e ∙ ap (λ (k : ℕ). contexts_end m k n) (sym is)

pub none_more : (left : ℕ) (m : List ℕ) (behind : ℕ) → left ≡ 0 → contexts_end m behind left ≡ behind
unfolding contexts_end
none_more left m behind e = ap (λ (k : ℕ). contexts_end m behind k) e

-- contexts of which one doesn't fit don't fit
pub past_end : (left n : ℕ) (m : List ℕ) (behind size : ℕ) → left ≡ suc n → size < context_end m (context_place behind)
    → size < contexts_end m behind left
past_end left n m behind size e past =
    let next : contexts_end m behind left ≡ contexts_end m (context_end m (context_place behind)) n = one_more left n m
    behind (context_end m (context_place behind)) e refl in
    let later : context_end m (context_place behind) ≤ contexts_end m (context_end m (context_place behind)) n =
    ends_behind n m (context_end m (context_place behind)) in
    omega (arith, next, later, past)

-- where the count is 0 there are none
pub no_contexts : (m : List ℕ) (at count fixed : ℕ) → count ≡ 0 → AreContexts m at count fixed []
no_contexts m at count fixed e =
    let size : contexts_size m at count ≡ 0 = omega (arith, none_more count m at e) in
    record { bytes = sym (ap (λ (w : ℕ). bytes_at w m at) size ∙ bytes_at-nothing m at); place = inl e }

pub no_contexts_fault : (m : List ℕ) (at count fixed : ℕ) → count ≡ 0 → contexts_fault m at count fixed ≡ None
unfolding contexts_fault
no_contexts_fault m at count fixed e = ap (λ (n : ℕ). contexts_fault m at n fixed) e
