-- The walk over the contexts of a request.
use Rattle.std.proofs.Common.{◌≡◌, ℕ, List, [], ◌∷◌, drop, Some, refl, sym, ap, subst, ◌∙◌}
use Rattle.spec_wire.specs.messages.Chain.{BreaksChain}
use Rattle.spec_wire.specs.messages.CreateContexts.{CreateContext, IsContext, first_fault, request_due, request_of}
use Rattle.spec_wire.specs.messages.CreateContexts.{both_requests, no_requests, request_contexts, SpellsCreateContexts}
use Rattle.spec_wire.specs.declared.messages.chain_error.ChainError.{ChainError}
use Rattle.spec_wire.specs.declared.messages.context.CreateContexts.{CreateContexts}
use Rattle.spec_wire.proofs.messages.Walk.{Walked, begins, goes_on, ends, breaks}
use Rattle.wire_bytes.specs.create_contexts.Parts.{FirstRequestSays}
use Rattle.wire_bytes.proofs.create_contexts.Firsts.{requests_assoc, requests_none, none_requests}

abbrev pub RequestsFound : List ℕ → List ℕ → CreateContexts → Type 0
RequestsFound bytes rest found = Walked (IsContext request_due) (first_fault request_due) request_of both_requests
    no_requests request_contexts bytes rest found

step : (v : CreateContext) (vs : List CreateContext) → request_contexts (v ∷ vs) ≡ both_requests (request_of v) (request_contexts vs)
step v vs = refl

pub requests_begin : (bytes : List ℕ) → (bytes ≡ [] → ⊥) → RequestsFound bytes bytes no_requests
requests_begin bytes some = begins (IsContext request_due) (first_fault request_due) request_of both_requests
    no_requests request_contexts none_requests bytes some

pub requests_go_on : (bytes rest : List ℕ) (found said : CreateContexts) (next : ℕ) → RequestsFound bytes rest found
    → FirstRequestSays rest said next → (next ≡ 0 → ⊥) → RequestsFound bytes (drop next rest) (both_requests found said)
requests_go_on bytes rest found said next walked f more =
    let t = goes_on (IsContext request_due) (first_fault request_due) request_of both_requests no_requests
    request_contexts step requests_assoc bytes rest found f.context walked f.whole (λ z. more (f.told ∙ z)) f.link
    f.is in
    let at : RequestsFound bytes (drop next rest) (both_requests found (request_of f.context)) =
    subst (λ (k : ℕ). RequestsFound bytes (drop k rest) (both_requests found (request_of f.context))) (sym f.told) t
    in
    subst (λ (x : CreateContexts). RequestsFound bytes (drop next rest) (both_requests found x)) (sym f.says) at

pub requests_end : (bytes rest : List ℕ) (found said : CreateContexts) (next : ℕ) → RequestsFound bytes rest found
    → FirstRequestSays rest said next → next ≡ 0 → SpellsCreateContexts bytes (both_requests found said)
requests_end bytes rest found said next walked f last =
    let t = ends (IsContext request_due) (first_fault request_due) request_of both_requests no_requests request_contexts
    step requests_none refl bytes rest found f.context walked (sym f.told ∙ last) f.link f.is in
    record { contexts = t.items; chain = t.chain; says = ap (both_requests found) f.says ∙ t.says }

pub requests_break : (bytes rest : List ℕ) (found : CreateContexts) (e : ChainError) → RequestsFound bytes rest found
    → first_fault request_due rest ≡ Some e → BreaksChain (first_fault request_due) bytes e
requests_break bytes rest found e walked here = breaks (IsContext request_due) (first_fault request_due) request_of
    both_requests no_requests request_contexts bytes rest found e walked here
