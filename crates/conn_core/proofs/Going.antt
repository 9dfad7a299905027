-- Neither the check of a frame nor its answer ends as a server that stopped.
use Rattle.std.proofs.Common.{◌≡◌, ℕ, Bool, true, false, not, ◌&&◌, if◌then◌else◌, List, [], ◌∷◌, length}
use Rattle.std.proofs.Common.{Option, Some, None, Result, Ok, Err, refl, sym, ap, ◌∙◌}
use Rattle.std.specs.Prelude.{is_some}
use Rattle.spec_exchange.specs.State as model
use Rattle.spec_wire.specs.credits.Window.{HeldIds}
use Rattle.spec_world.specs.Ends as ends
use Rattle.spec_world.specs.Ends.{Logons, ServerEnd}
use Rattle.spec_world.specs.Messages.{HeardMessage, messages_in}
use Rattle.spec_world.specs.Hearing as hearing
use Rattle.spec_world.specs.Hearing.{Frame, FrameText, check_frame, checked_behind, checked_in, checked_text, text_of}
use Rattle.spec_world.specs.Answering as answering
use Rattle.spec_world.specs.Connection.{Going, answered_with, ended_by}
use Rattle.conn_core.specs.declared.end.ConnEnd.TheVariants.{Stopped}
use Rattle.conn_core.specs.frame_messages.Checking.{EndsAll}
use Rattle.conn_core.specs.reply_frames.Replying.{EndsAs, walk_replied}

abbrev stops : {X : Type 0} → Result X ends.ConnEnd → Bool
stops (Err (ends.Stopped count)) = true
stops (Err _) = false
stops (Ok x) = false

-- ---- the check

split_goes : (sealed : Bool) (o : Option (List HeardMessage)) → stops (hearing.split_text sealed o) ≡ false
split_goes sealed None = refl
split_goes sealed (Some messages) = refl

text_by : (long sealed : Bool) (o : Option (List ℕ)) (frame : List ℕ)
    → stops (if long then Err ends.BadFrame else if sealed then hearing.opened_text o else hearing.split_text false
    (messages_in frame)) ≡ false
text_by true sealed o frame = refl
text_by false true None frame = refl
text_by false true (Some text) frame = split_goes true (messages_in text)
text_by false false o frame = split_goes false (messages_in frame)

turn_goes : (early second : Bool) (o : Option ℕ) (rest : Result Frame ends.ConnEnd) → stops rest ≡ false
    → stops (hearing.if_in_turn (if early then Some ends.BadFrame else if second then Some ends.SecondNegotiate else
    hearing.end_by_id o) rest)
    ≡ false
turn_goes true second o rest h = refl
turn_goes false true o rest h = refl
turn_goes false false None rest h = h
turn_goes false false (Some id) rest h = refl

front_goes : (c : hearing.Checked) (rest : Result Frame ends.ConnEnd) → stops rest ≡ false → stops (hearing.in_front c rest) ≡ false
front_goes c (Ok F) h = refl
front_goes c (Err why) h = h

behind_goes : (f : ServerEnd) (sealed setup : Bool) (xs : List HeardMessage) → stops (checked_behind f sealed setup xs) ≡ false
unfolding checked_behind
behind_goes f sealed setup [] = refl
behind_goes f sealed setup (x ∷ xs) =
    turn_goes (not (is_some f.greeting) && not (hearing.is_negotiate x.header)) (hearing.is_negotiate x.header && f.asked)
    (hearing.outside_of f.window x.header) _
    (front_goes (hearing.checked_as f sealed setup false x) _
    (behind_goes (hearing.behind_turn f x.header) sealed (hearing.bars f sealed setup x) xs))

in_goes : (f : ServerEnd) (sealed : Bool) (xs : List HeardMessage) → stops (checked_in f sealed xs) ≡ false
in_goes f sealed [] = refl
in_goes f sealed (x ∷ xs) =
    turn_goes (not (is_some f.greeting) && not (hearing.is_negotiate x.header)) (hearing.is_negotiate x.header && f.asked)
    (hearing.outside_of f.window x.header) _
    (front_goes (hearing.checked_as f sealed false true x) _
    (behind_goes (hearing.behind_turn f x.header) sealed (hearing.bars f sealed false x) xs))

whole_goes : (f : ServerEnd) (t : Result FrameText ends.ConnEnd) → stops t ≡ false → stops (checked_text f t) ≡ false
whole_goes f (Ok t) h = in_goes f t.sealed t.messages
whole_goes f (Err why) h = h

frame_goes : (f : ServerEnd) (frame : List ℕ) → stops (check_frame f frame) ≡ false
frame_goes f frame =
    whole_goes f (text_of f.keys frame)
    (text_by (hearing.is_too_long f.keys frame) (hearing.begins_sealed frame) (hearing.opened_by f.keys frame) frame)

ends_by : (heard : Result Frame ends.ConnEnd) (count : ℕ) → stops heard ≡ false → EndsAll heard (Stopped count) → ⊥
ends_by (Ok F) count goes h = h
ends_by (Err why) count goes h =
    let yes : stops {X = Frame} (Err why) ≡ true = ap (λ (x : ends.ConnEnd). stops {X = Frame} (Err x)) h in
    apart (sym goes ∙ yes)
  where
    apart : false ≡ true → ⊥
    apart e = absurd cc

pub check_goes : (f : ServerEnd) (frame : List ℕ) (count : ℕ) → EndsAll (check_frame f frame) (Stopped count) → ⊥
check_goes f frame count h = ends_by (check_frame f frame) count (frame_goes f frame) h

-- ---- the answer

rows_of : Bool → List answering.SaidReply → List (List (List ℕ))
rows_of sealed rs = answering.all_texts sealed (answering.joined_in (answering.text_limit sealed) rs)

spent_goes : (count : ℕ) → ends.Spent ≡ ends.Stopped count → ⊥
spent_goes count e = absurd cc

replied_by : (b : Bool) (f : ServerEnd) (sealed : Bool) (g : Going) (rows : List (List (List ℕ))) (count : ℕ)
    → EndsAs (Stopped count)
    (if b then ended_by g.server g.logons f g.taken ends.Spent else answered_with f sealed g rows (answering.each_joined rows)).ends → ⊥
replied_by true f sealed g rows count h = spent_goes count h
replied_by false f sealed g rows count h = h

pub replied_goes : (s : model.Server) (L : Logons) (f : ServerEnd) (sealed : Bool) (w : HeldIds) (ss : List answering.SaidReply) (count : ℕ)
    → EndsAs (Stopped count) (walk_replied s L f sealed w ss).ends → ⊥
unfolding rows_of
replied_goes s L f sealed w ss count h =
    replied_by (sealed && not (answering.has_nonces f (length (rows_of sealed ss)))) f sealed
    (record { server = s; logons = L; window = w; carried = None; taken = None; replies = ss }) (rows_of sealed ss) count h
