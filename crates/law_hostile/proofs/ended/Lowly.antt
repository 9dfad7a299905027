-- Along a repeat run the session that a reply's header tells is a number of eight bytes, and its tree one of four.
use Rattle.std.proofs.Common.{◌≡◌, ℕ, zero, suc, ◌<◌, ◌^◌, true, false, ◌&&◌, if◌then◌else◌, List, [], ◌∷◌, ◌++◌, ◌⊎◌, inl, inr, refl, sym}
use Rattle.std.proofs.Common.{ap, ◌∙◌, subst, take, Option, Some, None, slice_get, Result, Ok, Err}
use Rattle.law_server.proofs.tables.Logic.{either}
use Rattle.spec_wire.specs.messages.Places.{number_of, le, bytes_at}
use Rattle.spec_wire.specs.declared.messages.header.Header.{Header}
use Rattle.spec_crypto.specs.declared.sessions.material.Signer.{Signer}
use Rattle.spec_crypto.specs.sessions.Signing.{signed}
use Rattle.spec_exchange.specs.Network.{Conn, Event, Serve, Take, Received, Token, is_possible}
use Rattle.spec_world.specs.Settings.{WorldSettings, draw}
use Rattle.spec_world.specs.Messages.{header_in, message_spelling}
use Rattle.spec_world.specs.Ends.{ConnEnd}
use Rattle.spec_world.specs.Answering.{SaidReply, said_text, with_signature, gathered, all_texts, texts_of, joined_in, text_limit, concatenated}
use Rattle.spec_world.specs.Answering.{each_joined}
use Rattle.spec_world.specs.Connection.{ConnectionStep, step_of}
use Rattle.spec_world.specs.Hearing.{Frame, check_frame}
use Rattle.spec_world.specs.World.{World, Wires, step_at, served_by, served_mutely, serve_frame}
use Rattle.spec_world.specs.Events.{Plain, bytes_happen, bytes_changed, bytes_later}
use Rattle.spec_hostile.specs.RepeatRuns.{RepeatWorld, RepeatEvent, Same, Give, UpFrame, DownFrame, is_served, is_heard, loaded_up, loaded_down}
use Rattle.spec_hostile.specs.RepeatRuns.{given_up, given_down, give_up, give_down, repeat_happens, puts_down, new_downs, uses_no_list, own_connection}
use Rattle.spec_hostile.specs.RepeatRuns.{with_opening, same_done, sents, up_frames}
use Rattle.spec_hostile.specs.RepeatRuns.{down_frames, is_opening, repeat_start}
use Rattle.spec_hostile.specs.SignedFor.{went_at}
use Rattle.law_hostile.specs.empties.Empties.{HasEmptyLists}
use Rattle.law_hostile.proofs.puts.Growing.{none_in}
use Rattle.law_hostile.proofs.puts.Replies.{in_either, conn_loaded, wires_loaded, may_serve_loaded, frames_are, happen_says}
use Rattle.law_hostile.proofs.ids.Bearing.{bears_one}
use Rattle.law_hostile.proofs.finals.Replying.{Lone, Few, lone_frame, few_replies}
use Rattle.law_hostile.proofs.greeted.Greeting.{AllFine}
use Rattle.law_hostile.proofs.ended.Texts.{low_number}
use Rattle.law_hostile.proofs.ended.Quiet.{Quiet, then_quiet, put_quiet, same_quiet, down_quiet}

-- ---- a reply's text

abbrev pub TellsLow : List ℕ → Type 0
TellsLow m = (let h = header_in m in (h.session < 256 ^ 8) × (h.tree < 256 ^ 4))

bare_session : (h : Header) (body : List ℕ) → (header_in (message_spelling h body)).session ≡ number_of (le 8 h.session)
unfolding header_in message_spelling bytes_at le
bare_session h body = refl

signed_session : (s : Signer) (h : Header) (body : List ℕ)
    → (header_in (signed s (message_spelling h body))).session ≡ number_of (le 8 h.session)
unfolding header_in message_spelling signed bytes_at le
signed_session s h body = refl

bare_tree : (h : Header) (body : List ℕ) → (header_in (message_spelling h body)).tree ≡ number_of (le 4 h.tree)
unfolding header_in message_spelling bytes_at le
bare_tree h body = refl

signed_tree : (s : Signer) (h : Header) (body : List ℕ) → (header_in (signed s (message_spelling h body))).tree ≡ number_of (le 4 h.tree)
unfolding header_in message_spelling signed bytes_at le
signed_tree s h body = refl

said_low : (o : Option Signer) (h : Header) (body : List ℕ) → TellsLow (with_signature o h body)
said_low None h body = (
  subst (λ n. n < 256 ^ 8) (sym (bare_session h body)) (low_number 8 h.session),
  subst (λ n. n < 256 ^ 4) (sym (bare_tree h body)) (low_number 4 h.tree),
)
said_low (Some s) h body = (
  subst (λ n. n < 256 ^ 8) (sym (signed_session s (record h { flags = _ }) body)) (low_number 8 h.session),
  subst (λ n. n < 256 ^ 4) (sym (signed_tree s (record h { flags = _ }) body)) (low_number 4 h.tree),
)

-- ---- lists of frames

abbrev AllLowFrames : List (List ℕ) → Type 0
AllLowFrames fs = (i : ℕ) (b : List ℕ) → slice_get fs i ≡ Some b → TellsLow b

abbrev pub AllLow : List DownFrame → Type 0
AllLow ds = (i : ℕ) (d : DownFrame) → slice_get ds i ≡ Some d → TellsLow d.frame

no_frames : (fs : List (List ℕ)) → fs ≡ [] → AllLowFrames fs
no_frames fs e i b at = absurd (none_in [] i b refl (sym (ap (λ l. slice_get l i) e) ∙ at))

one_frame : (f : List ℕ) → TellsLow f → AllLowFrames (f ∷ [])
one_frame f h zero b at = let q : Some f ≡ Some b = at in let s : f ≡ b = cc in subst TellsLow s h
one_frame f h (suc i) b at = absurd (none_in [] i b refl at)

no_downs : AllLow []
no_downs i d at = absurd (none_in [] i d refl at)

puts_low : (fs : List (List ℕ)) (ys : List Received) → AllLowFrames fs → AllLow (puts_down fs ys)
unfolding puts_down
puts_low [] ys all i d at = no_downs i d at
puts_low (b ∷ bs) [] all i d at = no_downs i d at
puts_low (b ∷ bs) (y ∷ ys) all zero d at =
    let q : Some (record { frame = b; received = y }) ≡ Some d = at in
    let s : record { frame = b; received = y } ≡ d = cc in
    subst (λ (x : DownFrame). TellsLow x.frame) s (all 0 b refl)
puts_low (b ∷ bs) (y ∷ ys) all (suc i) d at = puts_low bs ys (λ n c h. all (suc n) c h) i d at

joined_low : (ds more : List DownFrame) → AllLow ds → AllLow more → AllLow (ds ++ more)
joined_low ds more a b i d at = by (in_either ds more i d at)
  where
    by : ((m : ℕ) × (slice_get ds m ≡ Some d)) ⊎ ((m : ℕ) × (slice_get more m ≡ Some d)) → TellsLow d.frame
    by (inl m) = a m.0 d m.1
    by (inr m) = b m.0 d m.1

-- ---- the answer to a frame

none_framed : each_joined (all_texts false (joined_in (text_limit false) [])) ≡ []
unfolding each_joined all_texts
none_framed = refl

one_framed : (r : SaidReply) → each_joined (all_texts false (joined_in (text_limit false) (r ∷ []))) ≡ (said_text false false r ++ []) ∷ []
unfolding each_joined all_texts texts_of gathered concatenated
one_framed r = refl

with_nothing : (m : List ℕ) → m ++ [] ≡ m
with_nothing [] = refl
with_nothing (x ∷ m) = ap (λ l. x ∷ l) (with_nothing m)

few_low : (rs : List SaidReply) → Few rs → AllLowFrames (each_joined (all_texts false (joined_in (text_limit false) rs)))
few_low rs (inl none) =
    no_frames (each_joined (all_texts false (joined_in (text_limit false) rs)))
    (ap (λ l. each_joined (all_texts false (joined_in (text_limit false) l))) none ∙ none_framed)
few_low rs (inr q) =
    let r = q.0 in
    subst (λ l. AllLowFrames (each_joined (all_texts false (joined_in (text_limit false) l)))) (sym q.1)
    (subst AllLowFrames (sym (one_framed r))
    (one_frame (said_text false false r ++ []) (subst TellsLow (sym (with_nothing (said_text false false r))) (said_low r.signer _ _))))

step_low : (z : WorldSettings) (w : World) (k : ℕ) (frame : List ℕ) (q : Result Frame ConnEnd) → check_frame (w.wires k).server_end frame ≡ q
    → Lone q → (let S = step_at z w k frame in AllLowFrames S.frames)
step_low z w k frame (Err why) e one =
    no_frames (step_at z w k frame).frames
    (ap (λ r. (step_of z.server k w.values.moment (take 8 (draw z.seed w.draws)) w.values.server w.logons (w.wires k).server_end r).frames) e)
step_low z w k frame (Ok x) e one =
    subst AllLowFrames (sym (frames_are z w k frame x e one.sealed)) (few_low (went_at z w k x).replies (few_replies z w k x one))

-- ---- a request is given

ends_quiet : (w : World) (k : ℕ) (token : Token) (S : ConnectionStep) (why : ConnEnd) → Quiet w.wires (served_by w k [] [] token S (Some why)).wires
ends_quiet w k token S why =
    let v = served_mutely w k [] [] token S in
    then_quiet w.wires v.wires (served_by w k [] [] token S (Some why)).wires (put_quiet w.wires k _ (λ e. e)) (put_quiet v.wires k _ (λ e. e))

mute_up : (z : WorldSettings) (r : RepeatWorld) (k : ℕ) (u : UpFrame) (why : ConnEnd) → is_served r.world k ≡ true
    → (step_at z (loaded_up r k u) k u.frame).ends ≡ Some why → ((bytes_happen z (loaded_up r k u) (Plain (Serve k))).wires k).down ≡ []
unfolding sents up_frames down_frames
mute_up z r k u why on ends =
    let w = loaded_up r k u in
    let S = step_at z w k u.frame in
    let bs : (w.wires k).up ≡ u.frame ∷ [] = ap (λ (x : Wires). x.up) (wires_loaded r k u) in
    let xs : (w.values.conns k).up ≡ u.sent ∷ [] = ap (λ (c : Conn). c.up) (conn_loaded r k u) in
    ap (λ b. ((if b then bytes_later (bytes_changed z w (Serve k)) 1 else w).wires k).down) (may_serve_loaded r k u on)
    ∙ (ap (λ l. ((serve_frame z w k l (w.values.conns k).up).wires k).down) bs
    ∙ (ap (λ l. ((serve_frame z w k (u.frame ∷ []) l).wires k).down) xs
    ∙ (ap (λ o. ((served_by w k [] [] u.sent.token S o).wires k).down) ends
    ∙ ends_quiet w k u.sent.token S why k (ap (λ (x : Wires). x.down) (wires_loaded r k u)))))

up_low : (z : WorldSettings) (r : RepeatWorld) (k : ℕ) (u : UpFrame) (o : Option ConnEnd) → is_served r.world k ≡ true
    → (step_at z (loaded_up r k u) k u.frame).ends ≡ o → Lone (check_frame ((loaded_up r k u).wires k).server_end u.frame)
    → AllLowFrames ((bytes_happen z (loaded_up r k u) (Plain (Serve k))).wires k).down
up_low z r k u (Some why) on ends one =
    no_frames ((bytes_happen z (loaded_up r k u) (Plain (Serve k))).wires k).down (mute_up z r k u why on ends)
up_low z r k u None on ends one =
    let w = loaded_up r k u in
    let says = happen_says z r k u on ends in
    subst AllLowFrames (sym says.frames) (step_low z w k u.frame (check_frame (w.wires k).server_end u.frame) refl one)

-- ---- each event

collected_low : (r : RepeatWorld) (k : ℕ) (w : World) → AllLow r.downs → AllLowFrames (w.wires k).down → AllLow (r.downs ++ new_downs w k)
collected_low r k w old all = joined_low r.downs (new_downs w k) old (puts_low (w.wires k).down (w.values.conns k).down all)

opened_downs : (r : RepeatWorld) (e : Event) → (with_opening r e).downs ≡ r.downs
opened_downs r e =
    either (λ (v : RepeatWorld). v.downs ≡ r.downs) (is_opening e && is_possible r.world.values e) _ r (λ _. refl) (λ _. refl)

same_low : (z : WorldSettings) (r : RepeatWorld) (e : Event) → uses_no_list e ≡ true → HasEmptyLists r.world → AllLow r.downs
    → AllLow (same_done z r e).downs
same_low z r e s empties old =
    let k = own_connection e in
    let w = bytes_happen z r.world (Plain e) in
    subst (λ ds. AllLow (ds ++ new_downs w k)) (sym (opened_downs r e))
    (collected_low r k w old (no_frames (w.wires k).down (same_quiet z r.world e s empties)))

give_up_low : (z : WorldSettings) (r : RepeatWorld) (k i : ℕ) (o : Option UpFrame) → slice_get r.ups i ≡ o → AllFine z r → AllLow r.downs
    → AllLow (give_up z r k o).downs
give_up_low z r k i None at fine old = old
give_up_low z r k i (Some u) at fine old =
    let w = loaded_up r k u in
    let bare = fine.1.ups i u at in
    let one = bears_one z u.connection u.frame u.sent.message bare (fine.0.bear i u at) in
    either (λ (v : RepeatWorld). AllLow v.downs) (is_served r.world k) (given_up z r k u) r
    (λ on. collected_low r k (bytes_happen z w (Plain (Serve k))) old
    (up_low z r k u (step_at z w k u.frame).ends on refl (lone_frame (w.wires k).server_end u.frame bare one.alone))) (λ _. old)

give_down_low : (z : WorldSettings) (r : RepeatWorld) (k : ℕ) (o : Option DownFrame) → AllLow r.downs → AllLow (give_down z r k o).downs
give_down_low z r k None old = old
give_down_low z r k (Some d) old =
    let w = bytes_happen z (loaded_down r k d) (Plain (Take k)) in
    either (λ (v : RepeatWorld). AllLow v.downs) (is_heard r.world k) (given_down z r k d) r
    (λ _. collected_low r k w old (no_frames (w.wires k).down (down_quiet z r k d))) (λ _. old)

pub event_low : (z : WorldSettings) (r : RepeatWorld) (e : RepeatEvent) → AllFine z r → HasEmptyLists r.world → AllLow r.downs
    → AllLow (repeat_happens z r e).downs
event_low z r (Same e) fine empties old =
    either (λ (v : RepeatWorld). AllLow v.downs) (uses_no_list e) (same_done z r e) r (λ s. same_low z r e s empties old) (λ _. old)
event_low z r (Give k true place) fine empties old = give_up_low z r k place (slice_get r.ups place) refl fine old
event_low z r (Give k false place) fine empties old = give_down_low z r k (slice_get r.downs place) old

pub start_low : (z : WorldSettings) → (let r = repeat_start z in AllLow r.downs)
start_low z = no_downs
