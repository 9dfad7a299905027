-- What a client looks at of a reply.
use Rattle.std.proofs.Common.{◌≡◌, ℕ, Bool, true, false, if◌then◌else◌, inl, inr, refl, sym, subst, ◌∙◌}
use Rattle.spec_exchange.specs.State.{Body, Reply}
use Rattle.spec_exchange.specs.Operations.{Outcome}
use Rattle.spec_exchange.specs.Client.{Client, create_for}
use Rattle.spec_exchange.specs.ClientStep.{hear_act, hear_after}
use Rattle.spec_exchange.specs.Settling.{Attaches, EndsSession, GoesAgain, Heard, hear, heard, is_awaited, noted, noted_full, settled}
use Rattle.spec_exchange.specs.Settling.{settle, settles_open, with_no_opens}
use Rattle.spec_exchange.specs.Settling as settling
use Rattle.client_events.specs.world_law.Settled.{AreAlike}

-- with another place
by_open : (b : Bool) (x : Client) (g create place other : ℕ) (outcome : Outcome)
    → (if b then with_no_opens (settled x g outcome place) create else settled x g outcome place)
    ≡ record (if b then with_no_opens (settled x g outcome other) create else settled x g outcome other) {
      settled_by = (if b then with_no_opens (settled x g outcome place) create else settled x g outcome place).settled_by;
    }
by_open true x g create place other outcome = refl
by_open false x g create place other outcome = refl

settles_alike : (c : Client) (g : ℕ) (asking : Bool) (r : Reply) (place other : ℕ) (outcome : Outcome)
    → settle c g asking r place outcome
    ≡ record (settle c g asking r other outcome) { settled_by = (settle c g asking r place outcome).settled_by }
settles_alike c g asking r place other outcome =
    let x = noted_full (noted c g outcome r.body) g asking r.status in
    by_open (settles_open (c.op g)) x g (create_for c g) place other outcome

hears_alike : (c : Client) (g : ℕ) (asking : Bool) (r : Reply) (place other : ℕ) (x : Heard)
    → AreAlike (hear c g asking r place x) (hear c g asking r other x)
hears_alike c g asking r place other (settling.Settles outcome) = inr (settles_alike c g asking r place other outcome)
hears_alike c g asking r place other GoesAgain = inl refl
hears_alike c g asking r place other Attaches = inl refl
hears_alike c g asking r place other EndsSession = inl refl

in_one : (b : Bool) (x y c : Client) → AreAlike x y → AreAlike (if b then x else c) (if b then y else c)
in_one true x y c h = h
in_one false x y c h = inl refl

placed : (c : Client) (k g : ℕ) (asking : Bool) (r : Reply) (place other : ℕ)
    → AreAlike (hear_after c k g asking r place) (hear_after c k g asking r other)
placed c k g asking r place other =
    in_one (is_awaited c k g asking) (hear c g asking r place (heard c g asking r)) (hear c g asking r other (heard c g asking r)) c
    (hears_alike c g asking r place other (heard c g asking r))

-- with another reply of this status and this body
abbrev of_parts : ℕ → Body → Reply
of_parts status body = record { status = status; session_id = 0; tree_id = 0; body = body }

as_parts : (c : Client) (k g : ℕ) (asking : Bool) (r : Reply) (place : ℕ)
    → hear_after c k g asking r place ≡ hear_after c k g asking (of_parts r.status r.body) place
as_parts c k g asking r place = refl

act_as_parts : (c : Client) (k g : ℕ) (asking : Bool) (r : Reply) → hear_act c k g asking r
    ≡ hear_act c k g asking (of_parts r.status r.body)
act_as_parts c k g asking r = refl

pub looks : (c : Client) (k g : ℕ) (asking : Bool) (r s : Reply) (place other : ℕ) → r.status ≡ s.status → r.body ≡ s.body
    → AreAlike (hear_after c k g asking r place) (hear_after c k g asking s other)
looks c k g asking r s place other e f =
    let path : hear_after c k g asking r other ≡ hear_after c k g asking s other =
    as_parts c k g asking r other
    ∙ ((λ i. hear_after c k g asking (of_parts (e i) (f i)) other) ∙ sym (as_parts c k g asking s other)) in
    subst (λ (d : Client). AreAlike (hear_after c k g asking r place) d) path (placed c k g asking r place other)

pub acts_alike : (c : Client) (k g : ℕ) (asking : Bool) (r s : Reply) → r.status ≡ s.status → r.body ≡ s.body
    → hear_act c k g asking r ≡ hear_act c k g asking s
acts_alike c k g asking r s e f =
    act_as_parts c k g asking r
    ∙ ((λ i. hear_act c k g asking (of_parts (e i) (f i))) ∙ sym (act_as_parts c k g asking s))
