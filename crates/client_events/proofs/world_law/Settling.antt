-- A response.
use Rattle.std.proofs.Common.{ℕ, ◌==◌, ◌&&◌, not, Bool, true, false, if◌then◌else◌, List, [], ◌∷◌, ◌++◌, Option, Some}
use Rattle.std.proofs.Common.{◌⊎◌, inl, inr, refl, ap}
use Rattle.spec_exchange.specs.State.{Body, Reply}
use Rattle.spec_exchange.specs.Status.{disk_full}
use Rattle.spec_exchange.specs.Operations.{Outcome, NoOpen, NoSlot, Unknown, Unsettled, WasOk, WasRefused, id_in}
use Rattle.spec_exchange.specs.Operations.{is_close, is_create, is_lock}
use Rattle.spec_exchange.specs.Table.{put, put2}
use Rattle.spec_exchange.specs.Client.{Client, create_for}
use Rattle.spec_exchange.specs.ClientStep.{hear_after}
use Rattle.spec_exchange.specs.Settling.{Attaches, EndsSession, GoesAgain, Heard, hear, heard, is_awaited}
use Rattle.spec_exchange.specs.Settling.{noted, noted_full, noted_ok, settle, settled, settles_open, with_no_opens}
use Rattle.spec_exchange.specs.Settling as settling
use Rattle.client_events.specs.world_law.Settled.{ClientSettles, SettlesNone}

-- what holds of both holds of a test's
pub in_both : (P : Client → Type 0) (b : Bool) (x y : Client) → P x → P y → P (if b then x else y)
in_both P true x y f g = f
in_both P false x y f g = g

opens : (c : Client) (g : ℕ) (body : Body) → SettlesNone c (noted_ok c g body)
opens c g body =
    in_both (λ (d : Client). SettlesNone c d) (is_create (c.op g))
    (record c { file = put c.file g (id_in body); attached = put c.attached g c.session_number })
    (if is_close (c.op g) then record c { closed_ok = put c.closed_ok (create_for c g) true } else c)
    (record { order = refl; settled_by = refl })
    (in_both (λ (d : Client). SettlesNone c d) (is_close (c.op g)) (record c { closed_ok = put c.closed_ok (create_for c g) true }) c
    (record { order = refl; settled_by = refl }) (record { order = refl; settled_by = refl }))

notes : (c : Client) (g : ℕ) (r : Outcome) (body : Body) → SettlesNone c (noted c g r body)
notes c g (WasOk reply) body = opens c g body
notes c g Unsettled body = record { order = refl; settled_by = refl }
notes c g (WasRefused status) body = record { order = refl; settled_by = refl }
notes c g (NoSlot create) body = record { order = refl; settled_by = refl }
notes c g (NoOpen create) body = record { order = refl; settled_by = refl }
notes c g (Unknown why) body = record { order = refl; settled_by = refl }

fills : (c d : Client) (g : ℕ) (asking : Bool) (status : ℕ) → SettlesNone c d → SettlesNone c (noted_full d g asking status)
fills c d g asking status s =
    in_both (λ (x : Client). SettlesNone c x) (is_lock (d.op g) && (not asking && (status == disk_full)))
    (record d { full = put2 d.full (create_for d g) (d.slot_of g) true }) d
    (record { order = s.order; settled_by = s.settled_by }) s

settles_one : (c d : Client) (g : ℕ) (r : Outcome) (place : ℕ) → SettlesNone c d → ClientSettles c g place (settled d g r place)
settles_one c d g r place s = record {
  order = ap (λ (l : List ℕ). l ++ g ∷ []) s.order;
  settled_by = ap (λ (by : ℕ → Option ℕ). put by g (Some place)) s.settled_by;
}

settles_it : (c : Client) (g : ℕ) (asking : Bool) (r : Reply) (place : ℕ) (outcome : Outcome)
    → ClientSettles c g place (settle c g asking r place outcome)
settles_it c g asking r place outcome =
    let a = noted c g outcome r.body in
    let b = noted_full a g asking r.status in
    let d = settled b g outcome place in
    let is = settles_one c b g outcome place (fills c a g asking r.status (notes c g outcome r.body)) in
    in_both (λ (x : Client). ClientSettles c g place x) (settles_open (c.op g)) (with_no_opens d (create_for c g)) d
    (record { order = is.order; settled_by = is.settled_by }) is

hears : (c : Client) (g : ℕ) (asking : Bool) (r : Reply) (place : ℕ) (x : Heard)
    → SettlesNone c (hear c g asking r place x) ⊎ ClientSettles c g place (hear c g asking r place x)
hears c g asking r place (settling.Settles outcome) = inr (settles_it c g asking r place outcome)
hears c g asking r place GoesAgain = inl (record { order = refl; settled_by = refl })
hears c g asking r place Attaches = inl (record { order = refl; settled_by = refl })
hears c g asking r place EndsSession = inl (record { order = refl; settled_by = refl })

pub responds : (c : Client) (k g : ℕ) (asking : Bool) (r : Reply) (place : ℕ)
    → SettlesNone c (hear_after c k g asking r place) ⊎ ClientSettles c g place (hear_after c k g asking r place)
responds c k g asking r place =
    in_both (λ (d : Client). SettlesNone c d ⊎ ClientSettles c g place d) (is_awaited c k g asking)
    (hear c g asking r place (heard c g asking r)) c (hears c g asking r place (heard c g asking r))
    (inl (record { order = refl; settled_by = refl }))
