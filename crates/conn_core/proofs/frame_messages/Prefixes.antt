-- One message more in front of what is due of the rest.
use Rattle.std.proofs.Common.{◌≡◌, Bool, true, false, List, [], ◌∷◌, ◌++◌, Option, Some, None}
use Rattle.std.proofs.Common.{Result, Ok, Err, refl, ap}
use Rattle.spec_world.specs.Ends as ends
use Rattle.spec_world.specs.Messages.{HeardMessage}
use Rattle.spec_world.specs.Hearing as hearing
use Rattle.conn_core.specs.frame_messages.Checking.{check_prefixed, rest_due}

abbrev pub Due : Type 0
Due = Result hearing.Frame ends.ConnEnd

-- a message that is in its turn goes in front of the rest
pub due_next : (first sealed behind : Bool) (f : ends.ServerEnd) (x : HeardMessage) (xs : List HeardMessage)
    → (behind ≡ true → first ≡ true → ⊥)
    → hearing.turn_end f x.header ≡ None
    → rest_due first f sealed behind (x ∷ xs)
    ≡ hearing.in_front (hearing.checked_as f sealed behind first x)
    (rest_due false (hearing.behind_turn f x.header) sealed (hearing.bars f sealed behind x) xs)
unfolding hearing.checked_behind
due_next true sealed false f x xs differs e =
    ap (λ (o : Option ends.ConnEnd). hearing.if_in_turn o (hearing.in_front (hearing.checked_as f sealed false true x)
    (hearing.checked_behind (hearing.behind_turn f x.header) sealed (hearing.bars f sealed false x) xs))) e
due_next true sealed true f x xs differs e = absurd (differs refl refl)
due_next false sealed behind f x xs differs e =
    ap (λ (o : Option ends.ConnEnd). hearing.if_in_turn o (hearing.in_front (hearing.checked_as f sealed behind false x)
    (hearing.checked_behind (hearing.behind_turn f x.header) sealed (hearing.bars f sealed behind x) xs))) e

-- one that isn't ends the connection
pub due_ends : (first sealed behind : Bool) (f : ends.ServerEnd) (x : HeardMessage) (xs : List HeardMessage) (why : ends.ConnEnd)
    → hearing.turn_end f x.header ≡ Some why → rest_due first f sealed behind (x ∷ xs) ≡ Err why
unfolding hearing.checked_behind
due_ends true sealed behind f x xs why e =
    ap (λ (o : Option ends.ConnEnd). hearing.if_in_turn o (hearing.in_front (hearing.checked_as f sealed false true x)
    (hearing.checked_behind (hearing.behind_turn f x.header) sealed (hearing.bars f sealed false x) xs))) e
due_ends false sealed behind f x xs why e =
    ap (λ (o : Option ends.ConnEnd). hearing.if_in_turn o (hearing.in_front (hearing.checked_as f sealed behind false x)
    (hearing.checked_behind (hearing.behind_turn f x.header) sealed (hearing.bars f sealed behind x) xs))) e

pub prefixed_more : (cs : List hearing.Checked) (c : hearing.Checked) (due : Due) → check_prefixed (cs ++ c ∷ []) due
    ≡ check_prefixed cs (hearing.in_front c due)
unfolding check_prefixed
prefixed_more [] c due = refl
prefixed_more (x ∷ xs) c due = ap (hearing.in_front x) (prefixed_more xs c due)

pub prefixed_err : (cs : List hearing.Checked) (why : ends.ConnEnd) → check_prefixed cs (Err why) ≡ Err why
unfolding check_prefixed
prefixed_err [] why = refl
prefixed_err (x ∷ xs) why = ap (hearing.in_front x) (prefixed_err xs why)

pub prefixed_ok : (cs : List hearing.Checked) (f : ends.ServerEnd) (sealed : Bool)
    → check_prefixed cs (Ok (record { server_end = f; sealed = sealed; messages = [] }))
    ≡ Ok (record { server_end = f; sealed = sealed; messages = cs })
unfolding check_prefixed
prefixed_ok [] f sealed = refl
prefixed_ok (x ∷ xs) f sealed = ap (hearing.in_front x) (prefixed_ok xs f sealed)
