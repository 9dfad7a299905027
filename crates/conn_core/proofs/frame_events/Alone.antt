-- A NEGOTIATE is the only message of its frame: no other one is taken before it was answered with success.
use Rattle.std.proofs.Common.{◌≡◌, ℕ, zero, suc, ◌≤◌, Bool, true, false, not, ◌&&◌, ◌||◌, if◌then◌else◌, List, [], ◌∷◌, length, slice_get}
use Rattle.std.proofs.Common.{Option, Some, None, Result, Ok, Err, refl, sym, ap, subst, ◌∙◌, arith}
use Rattle.std.specs.Prelude.{is_some}
use Rattle.spec_world.specs.Ends.{ServerEnd, ConnEnd, BadFrame, SecondNegotiate}
use Rattle.spec_world.specs.Messages.{HeardMessage}
use Rattle.spec_world.specs.Hearing.{Checked, Frame, is_negotiate, turn_end, behind_turn, in_front, end_by_id, outside_of, bars}
use Rattle.spec_world.specs.Hearing.{checked_as, checked_in, checked_behind}
use Rattle.conn_core.specs.frame_messages.Checking.{NoneGreets, GreetsFirst}
use Rattle.conn_core.proofs.frame_messages.Greets.{in_turn, greets_first}
use Rattle.conn_core.specs.frame_events.Dealing.{Alone}
use Rattle.conn_core.proofs.frame_events.Turns.{one_checked}

messages_of : Result Frame ConnEnd → List Checked
messages_of (Ok F) = F.messages
messages_of (Err e) = []

behind : (c : Checked) (r : Result Frame ConnEnd) (F : Frame) → in_front c r ≡ Ok F → (G : Frame) × (r ≡ Ok G) × (F.messages ≡ c ∷
    G.messages)
unfolding messages_of
behind c (Ok G) F e = (G, refl, sym (ap messages_of e))
behind c (Err why) F e = absurd cc

none_goes : (met n a : Bool) (o : Option ConnEnd) → met ≡ false → a ≡ true
    → (if not met && not n then Some BadFrame else if n && a then Some SecondNegotiate else o) ≡ None → ⊥
none_goes true n a o unmet asked e = absurd cc
none_goes false n false o unmet asked e = absurd cc
none_goes false true true o unmet asked e = absurd cc
none_goes false false true o unmet asked e = absurd cc

-- behind a NEGOTIATE that isn't answered yet nothing is taken
none_behind : (f : ServerEnd) (sealed setup : Bool) (xs : List HeardMessage) (G : Frame) → is_some f.greeting ≡ false → f.asked ≡ true
    → checked_behind f sealed setup xs ≡ Ok G → G.messages ≡ []
unfolding checked_behind messages_of
none_behind f sealed setup [] G unmet asked e = sym (ap messages_of e)
none_behind f sealed setup (x ∷ xs) G unmet asked e =
    let t = in_turn (turn_end f x.header) _ G e in
    absurd (none_goes (is_some f.greeting) (is_negotiate x.header) f.asked (end_by_id (outside_of f.window x.header)) unmet asked t.0)

-- the first NEGOTIATE comes before any was answered
unmet_first : (met n a : Bool) (o : Option ConnEnd) → n ≡ true → (met ≡ true → a ≡ true)
    → (if not met && not n then Some BadFrame else if n && a then Some SecondNegotiate else o) ≡ None → met ≡ false
unmet_first false n a o is h e = refl
unmet_first true false a o is h e = absurd cc
unmet_first true true true o is h e = absurd cc
unmet_first true true false o is h e =
    let same : false ≡ true = h refl in
    absurd (apart same)
  where
    apart : false ≡ true → ⊥
    apart e = absurd cc

later_none : (cs : List Checked) (i : ℕ) (c : Checked) → NoneGreets cs → slice_get cs i ≡ Some c → is_negotiate c.header ≡ true → ⊥
later_none [] zero c none e is = absurd cc
later_none [] (suc i) c none e is = absurd cc
later_none (x ∷ xs) zero c none e is =
    let off : is_negotiate c.header ≡ false =
    sym (ap (λ (y : Checked). is_negotiate y.header) (one_checked x c e)) ∙ none.0 in
    apart (sym off ∙ is)
  where
    apart : false ≡ true → ⊥
    apart e = absurd cc
later_none (x ∷ xs) (suc i) c none e is = later_none xs i c none.1 e is

alone_in : (c : Checked) (cs : List Checked) → NoneGreets cs → (is_negotiate c.header ≡ true → cs ≡ []) → (i : ℕ) (d : Checked)
    → slice_get (c ∷ cs) i ≡ Some d → is_negotiate d.header ≡ true → length (c ∷ cs) ≤ 1
alone_in c cs none first zero d e is =
    let mine : is_negotiate c.header ≡ true = ap (λ (y : Checked). is_negotiate y.header) (one_checked c d e) ∙ is in
    subst (λ (l : List Checked). length (c ∷ l) ≤ 1) (sym (first mine)) (omega arith)
alone_in c cs none first (suc i) d e is = absurd (later_none cs i d none e is)

pub alone : (f : ServerEnd) (sealed : Bool) (xs : List HeardMessage) (F : Frame) → (is_some f.greeting ≡ true → f.asked ≡ true)
    → checked_in f sealed xs ≡ Ok F → Alone F.messages
alone f sealed [] F met e = absurd cc
alone f sealed (x ∷ xs) F met e =
    let t = in_turn (turn_end f x.header) _ F e in
    let b = behind (checked_as f sealed false true x) _ F t.1 in
    let none : NoneGreets b.0.messages = subst GreetsFirst b.2 (greets_first f sealed (x ∷ xs) F met e) in
    let first : is_negotiate x.header ≡ true → b.0.messages ≡ [] =
    λ is. none_behind (behind_turn f x.header) sealed (bars f sealed false x) xs b.0
    (unmet_first (is_some f.greeting) (is_negotiate x.header) f.asked (end_by_id (outside_of f.window x.header)) is met t.0)
    (ap (λ (a : Bool). a || f.asked) is) b.1 in
    subst (λ (cs : List Checked). Alone cs) (sym b.2) (alone_in (checked_as f sealed false true x) b.0.messages none first)
