-- What a check leaves of an end: its counter; and where a NEGOTIATE is among the messages one was heard.
use Rattle.std.proofs.Common.{◌≡◌, Bool, true, false, ◌||◌, List, [], ◌∷◌, Result, Ok, Err, refl, ap, subst, ◌∙◌}
use Rattle.std.specs.Prelude.{is_some}
use Rattle.spec_world.specs.Ends.{ServerEnd, ConnEnd}
use Rattle.spec_world.specs.Messages.{HeardMessage}
use Rattle.spec_world.specs.Hearing.{Checked, Frame, FrameText, is_negotiate, turn_end, behind_turn, in_front, checked_as, bars}
use Rattle.spec_world.specs.Hearing.{checked_in, checked_behind, checked_text}
use Rattle.conn_core.proofs.frame_messages.Greets.{in_turn}
use Rattle.conn_core.specs.message_replies.Replying.{AreAsked}
use Rattle.conn_core.specs.frame_events.Dealing.{Alone}
use Rattle.conn_core.proofs.frame_events.Alone.{alone}

pub record KeptBehind (f : ServerEnd) (F : Frame) : Type 0 where
  pub counter : F.server_end.counter ≡ f.counter
  pub stays : f.asked ≡ true → F.server_end.asked ≡ true
  pub asked : AreAsked F.server_end.asked F.messages

abbrev frame_or : Frame → Result Frame ConnEnd → Frame
frame_or d (Ok F) = F
frame_or d (Err e) = d

front_is : (c : Checked) (r : Result Frame ConnEnd) (F : Frame) → in_front c r ≡ Ok F
    → (G : Frame) × (r ≡ Ok G) × (record G { messages = c ∷ G.messages } ≡ F)
front_is c (Ok G) F e = (G, refl, ap (λ (r : Result Frame ConnEnd). frame_or F r) e)
front_is c (Err why) F e = absurd cc

or_true : (a : Bool) → (a || true) ≡ true
or_true true = refl
or_true false = refl

none_kept : (f : ServerEnd) (sealed : Bool) → KeptBehind f (record { server_end = f; sealed = sealed; messages = [] })
unfolding AreAsked
none_kept f sealed = record { counter = refl; stays = λ a. a; asked = tt }

one_kept : (f g : ServerEnd) (c : Checked) (G : Frame) → KeptBehind g G → g.counter ≡ f.counter → (f.asked ≡ true → g.asked ≡ true)
    → (is_negotiate c.header ≡ true → g.asked ≡ true) → KeptBehind f (record G { messages = c ∷ G.messages })
unfolding AreAsked
one_kept f g c G k counter asked greets = record {
  counter = k.counter ∙ counter;
  stays = λ a. k.stays (asked a);
  asked = (λ n. k.stays (greets n), k.asked);
}

kept_behind : (f : ServerEnd) (sealed setup : Bool) (xs : List HeardMessage) (F : Frame) → checked_behind f sealed setup
    xs ≡ Ok F → KeptBehind f F
unfolding checked_behind
kept_behind f sealed setup [] F e =
    subst (λ (x : Frame). KeptBehind f x) (ap (λ (r : Result Frame ConnEnd). frame_or F r) e) (none_kept f sealed)
kept_behind f sealed setup (x ∷ xs) F e =
    let t = in_turn (turn_end f x.header) _ F e in
    let b = front_is (checked_as f sealed setup false x) _ F t.1 in
    let k = kept_behind (behind_turn f x.header) sealed (bars f sealed setup x) xs b.0 b.1 in
    subst (λ (y : Frame). KeptBehind f y) b.2
    (one_kept f (behind_turn f x.header) (checked_as f sealed setup false x) b.0 k refl
    (λ a. ap (λ (y : Bool). is_negotiate x.header || y) a ∙ or_true (is_negotiate x.header))
    (λ n. ap (λ (y : Bool). y || f.asked) n))

kept_in : (f : ServerEnd) (sealed : Bool) (xs : List HeardMessage) (F : Frame) → checked_in f sealed xs ≡ Ok F → KeptBehind f F
kept_in f sealed [] F e = absurd cc
kept_in f sealed (x ∷ xs) F e =
    let t = in_turn (turn_end f x.header) _ F e in
    let b = front_is (checked_as f sealed false true x) _ F t.1 in
    let k = kept_behind (behind_turn f x.header) sealed (bars f sealed false x) xs b.0 b.1 in
    subst (λ (y : Frame). KeptBehind f y) b.2
    (one_kept f (behind_turn f x.header) (checked_as f sealed false true x) b.0 k refl
    (λ a. ap (λ (y : Bool). is_negotiate x.header || y) a ∙ or_true (is_negotiate x.header))
    (λ n. ap (λ (y : Bool). y || f.asked) n))

-- of a whole frame
pub kept_by : (f : ServerEnd) (t : Result FrameText ConnEnd) (F : Frame) → checked_text f t ≡ Ok F → KeptBehind f F
kept_by f (Ok t) F e = kept_in f t.sealed t.messages F e
kept_by f (Err why) F e = absurd cc

pub alone_by : (f : ServerEnd) (t : Result FrameText ConnEnd) (F : Frame) → (is_some f.greeting ≡ true → f.asked ≡ true)
    → checked_text f t ≡ Ok F → Alone F.messages
alone_by f (Ok t) F met e = alone f t.sealed t.messages F met e
alone_by f (Err why) F met e = absurd cc
