-- What is told of the answers from a place on.
use Rattle.std.proofs.Common.{◌≡◌, ℕ, ◌+◌, ◌<◌, ◌≤◌, Bool, true, false, ◌||◌, List, length, drop, get_or, Result, sym, ap, ◌∙◌}
use Rattle.std.proofs.Math.ListN.{drop_of_length-le}
use Rattle.std.proofs.lemmas.List.{drop_more}
use Rattle.conn_core.specs.declared.served.error.ServeError.{ServeError}
use Rattle.conn_core.specs.declared.served.serve.Reply.{Reply}
use Rattle.conn_core.specs.served.Replies.{event_lacks, event_acts, some_lacked, some_acted}

abbrev Answer : Type 0
Answer = Result Reply ServeError

-- ---- whether one found no memory

lacked_at : (rs : List Answer) (i : ℕ) (r : Answer) → i < length rs → r ≡ get_or rs i r
    → some_lacked (drop i rs) ≡ (event_lacks r || some_lacked (drop (i + 1) rs))
unfolding some_lacked
lacked_at rs i r less item =
    ap (λ (xs : List Answer). some_lacked xs) (drop_more rs i r less)
    ∙ ap (λ (x : Answer). event_lacks x || some_lacked (drop (i + 1) rs)) (sym item)

pub lacked_on : (rs : List Answer) (i : ℕ) (r : Answer) (b : Bool) → i < length rs → r ≡ get_or rs i r → b ≡ event_lacks r → b ≡ false
    → some_lacked (drop i rs) ≡ some_lacked rs → some_lacked (drop (i + 1) rs) ≡ some_lacked rs
lacked_on rs i r b less item is off was =
    sym (lacked_at rs i r less item ∙ ap (λ (x : Bool). x || some_lacked (drop (i + 1) rs)) (sym is ∙ off)) ∙ was

pub lacked_here : (rs : List Answer) (i : ℕ) (r : Answer) (b : Bool) → i < length rs → r ≡ get_or rs i r → b ≡ event_lacks r → b ≡ true
    → some_lacked (drop i rs) ≡ some_lacked rs → true ≡ some_lacked rs
lacked_here rs i r b less item is on was =
    sym (lacked_at rs i r less item ∙ ap (λ (x : Bool). x || some_lacked (drop (i + 1) rs)) (sym is ∙ on)) ∙ was

pub lacked_through : (rs : List Answer) (i : ℕ) → length rs ≤ i → some_lacked (drop i rs) ≡ some_lacked rs → false ≡ some_lacked rs
unfolding some_lacked
lacked_through rs i past was = sym (ap (λ (xs : List Answer). some_lacked xs) (drop_of_length-le rs past)) ∙ was

-- ---- whether one acted

acted_at : (rs : List Answer) (i : ℕ) (r : Answer) → i < length rs → r ≡ get_or rs i r
    → some_acted (drop i rs) ≡ (event_acts r || some_acted (drop (i + 1) rs))
unfolding some_acted
acted_at rs i r less item =
    ap (λ (xs : List Answer). some_acted xs) (drop_more rs i r less)
    ∙ ap (λ (x : Answer). event_acts x || some_acted (drop (i + 1) rs)) (sym item)

pub acted_on : (rs : List Answer) (i : ℕ) (r : Answer) (b : Bool) → i < length rs → r ≡ get_or rs i r → b ≡ event_acts r → b ≡ false
    → some_acted (drop i rs) ≡ some_acted rs → some_acted (drop (i + 1) rs) ≡ some_acted rs
acted_on rs i r b less item is off was =
    sym (acted_at rs i r less item ∙ ap (λ (x : Bool). x || some_acted (drop (i + 1) rs)) (sym is ∙ off)) ∙ was

pub acted_here : (rs : List Answer) (i : ℕ) (r : Answer) (b : Bool) → i < length rs → r ≡ get_or rs i r → b ≡ event_acts r → b ≡ true
    → some_acted (drop i rs) ≡ some_acted rs → true ≡ some_acted rs
acted_here rs i r b less item is on was =
    sym (acted_at rs i r less item ∙ ap (λ (x : Bool). x || some_acted (drop (i + 1) rs)) (sym is ∙ on)) ∙ was

pub acted_through : (rs : List Answer) (i : ℕ) → length rs ≤ i → some_acted (drop i rs) ≡ some_acted rs → false ≡ some_acted rs
unfolding some_acted
acted_through rs i past was = sym (ap (λ (xs : List Answer). some_acted xs) (drop_of_length-le rs past)) ∙ was
