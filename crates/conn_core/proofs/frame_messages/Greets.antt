-- A NEGOTIATE is the first message of its frame.
use Rattle.std.proofs.Common.{◌≡◌, Bool, true, false, not, ◌&&◌, ◌||◌, if◌then◌else◌, List, [], ◌∷◌, Option, Some, None, Result, Ok, Err}
use Rattle.std.proofs.Common.{refl, sym, ap, subst, ◌∙◌}
use Rattle.std.specs.Prelude.{is_some}
use Rattle.spec_world.specs.Ends.{ServerEnd, ConnEnd, BadFrame, SecondNegotiate}
use Rattle.spec_world.specs.Messages.{HeardMessage}
use Rattle.spec_world.specs.Hearing.{Checked, Frame, is_negotiate, turn_end, behind_turn, if_in_turn, bars}
use Rattle.spec_world.specs.Hearing.{in_front, end_by_id, outside_of}
use Rattle.spec_world.specs.Hearing.{checked_as, checked_in, checked_behind}
use Rattle.conn_core.specs.frame_messages.Checking.{NoneGreets, GreetsFirst}

messages_of : Result Frame ConnEnd → List Checked
messages_of (Ok F) = F.messages
messages_of (Err e) = []

pub in_turn : (o : Option ConnEnd) (rest : Result Frame ConnEnd) (F : Frame) → if_in_turn o rest ≡ Ok F → (o ≡ None) × (rest ≡ Ok F)
in_turn None rest F e = (refl, e)
in_turn (Some why) rest F e = absurd cc

behind : (c : Checked) (r : Result Frame ConnEnd) (F : Frame) → in_front c r ≡ Ok F
    → (G : Frame) × (r ≡ Ok G) × (F.messages ≡ c ∷ G.messages)
unfolding messages_of
behind c (Ok G) F e = (G, refl, sym (ap messages_of e))
behind c (Err why) F e = absurd cc

no_second : (met n a : Bool) (o : Option ConnEnd) → a ≡ true
    → (if not met && not n then Some BadFrame else if n && a then Some SecondNegotiate else o) ≡ None → n ≡ false
no_second met false a o asked e = refl
no_second true true true o asked e = absurd cc
no_second false true true o asked e = absurd cc
no_second met true false o asked e = absurd cc

-- where one was heard there is none any more
none_greets : (f : ServerEnd) (sealed setup : Bool) (xs : List HeardMessage) (F : Frame) → f.asked ≡ true
    → checked_behind f sealed setup xs ≡ Ok F → NoneGreets F.messages
unfolding checked_behind messages_of
none_greets f sealed setup [] F asked e = subst NoneGreets (ap messages_of e) tt
none_greets f sealed setup (x ∷ xs) F asked e =
    let t = in_turn (turn_end f x.header) _ F e in
    let b = behind (checked_as f sealed setup false x) _ F t.1 in
    let still : (behind_turn f x.header).asked ≡ true =
    ap (λ (a : Bool). is_negotiate x.header || a) asked ∙ or_true (is_negotiate x.header) in
    subst NoneGreets (sym b.2) (
      no_second (is_some f.greeting) (is_negotiate x.header) f.asked (end_by_id (outside_of f.window x.header)) asked t.0,
      none_greets (behind_turn f x.header) sealed (bars f sealed setup x) xs b.0 still b.1,
    )
  where
    or_true : (a : Bool) → (a || true) ≡ true
    or_true true = refl
    or_true false = refl

-- the first message is a NEGOTIATE, or one was heard
heard_first : (met n a : Bool) (o : Option ConnEnd) → (met ≡ true → a ≡ true)
    → (if not met && not n then Some BadFrame else if n && a then Some SecondNegotiate else o) ≡ None → (n || a) ≡ true
heard_first met true a o h e = refl
heard_first true false a o h e = h refl
heard_first false false a o h e = absurd cc

pub greets_first : (f : ServerEnd) (sealed : Bool) (xs : List HeardMessage) (F : Frame) → (is_some f.greeting ≡ true → f.asked ≡ true)
    → checked_in f sealed xs ≡ Ok F → GreetsFirst F.messages
greets_first f sealed [] F met e = absurd cc
greets_first f sealed (x ∷ xs) F met e =
    let t = in_turn (turn_end f x.header) _ F e in
    let b = behind (checked_as f sealed false true x) _ F t.1 in
    let asked = heard_first (is_some f.greeting) (is_negotiate x.header) f.asked (end_by_id (outside_of f.window x.header)) met t.0 in
    subst GreetsFirst (sym b.2) (none_greets (behind_turn f x.header) sealed (bars f sealed false x) xs b.0 asked b.1)
