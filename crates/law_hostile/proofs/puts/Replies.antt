-- Each entry of a reply comes of a frame that went down in its event, whole or as one of several messages.
use Rattle.std.proofs.Common.{◌≡◌, ℕ, zero, suc, ◌+◌, Bool, true, false, ◌&&◌, if◌then◌else◌, List, [], ◌∷◌, ◌++◌, ◌⊎◌, inl, inr, refl, sym}
use Rattle.std.proofs.Common.{◌∙◌, ap, arith, subst, length, take, Option, Some, None, slice_get, Result, Ok, Err, add-one, append_assoc}
use Rattle.std.specs.Prelude.{is_some}
use Rattle.law_server.proofs.tables.Logic.{either}
use Rattle.law_records.proofs.recovery.Lists.{put_here}
use Rattle.spec_exchange.specs.Table.{put, is_filled}
use Rattle.spec_exchange.specs.State.{Server}
use Rattle.spec_exchange.specs.Network.{World as Values, Conn, Received, Token, Serve, behind_front, say_down, is_possible}
use Rattle.spec_world.specs.Settings.{WorldSettings, draw}
use Rattle.spec_world.specs.Messages.{header_in}
use Rattle.spec_world.specs.Ends.{ServerEnd, ConnEnd}
use Rattle.spec_world.specs.Answering.{SaidReply, all_texts, joined_in, text_limit, concatenated, each_joined}
use Rattle.spec_world.specs.Connection.{ConnectionStep, LastTaken, step_of, answered}
use Rattle.spec_world.specs.Hearing.{Frame, check_frame, is_setup}
use Rattle.spec_world.specs.Logon.{Progress, Stays, Interim, Final}
use Rattle.spec_world.specs.World.{World, Wires, step_at, serve_frame, served_by, served_on, values_took, values_said, replied_each, last_reply}
use Rattle.spec_world.specs.Events.{Plain, bytes_happen, bytes_changed, bytes_later}
use Rattle.spec_hostile.specs.RepeatRuns.{RepeatWorld, RepeatEvent, Same, Give, UpFrame, DownFrame, is_served, loaded_up, sents}
use Rattle.spec_hostile.specs.RepeatRuns.{receiveds, up_frames, down_frames, puts_down, new_downs, given_up, give_up, own_connection}
use Rattle.spec_hostile.specs.RepeatRuns.{repeat_happens, repeat_start}
use Rattle.spec_hostile.specs.SignedFor.{Watched, SignedEntry, entry_up, entries_up, put_since, carries_signature, entry_by, entries_said}
use Rattle.spec_hostile.specs.SignedFor.{binds_to, went_at, texts_said, signed_in, said_in, watching, client_secret}
use Rattle.spec_hostile.specs.SignedFor.{watched_up, watched_served, watched_happens, watched_run}
use Rattle.law_hostile.specs.puts.Puts.{Grows, IsPiece, WasPutDown, SignedReplyWasPut}
use Rattle.law_hostile.proofs.puts.Growing.{none_in, event_grows, event_watched, watches_run}
use Rattle.law_hostile.proofs.puts.Requests.{AllOf, none_of_all, all_with, all_joined}

abbrev IsTold : RepeatWorld → SignedEntry → Type 0
IsTold r e = e.to_server ≡ false → WasPutDown r e.message

-- ---- lists

pub in_back : {X : Type 0} (xs ys : List X) (n : ℕ) (x : X) → slice_get ys n ≡ Some x → (m : ℕ) × (slice_get (xs ++ ys) m ≡ Some x)
in_back [] ys n x h = (n, h)
in_back (v ∷ xs) ys n x h = let m = in_back xs ys n x h in (m.0 + 1, rw (add-one) m.1)

pub in_either : {X : Type 0} (xs ys : List X) (n : ℕ) (x : X) → slice_get (xs ++ ys) n ≡ Some x
    → ((m : ℕ) × (slice_get xs m ≡ Some x)) ⊎ ((m : ℕ) × (slice_get ys m ≡ Some x))
in_either [] ys n x h = inr (n, h)
in_either (v ∷ xs) ys zero x h = inl (0, h)
in_either (v ∷ xs) ys (suc n) x h = later (in_either xs ys n x h)
  where
    later : ((m : ℕ) × (slice_get xs m ≡ Some x)) ⊎ ((m : ℕ) × (slice_get ys m ≡ Some x))
        → ((m : ℕ) × (slice_get (v ∷ xs) m ≡ Some x)) ⊎ ((m : ℕ) × (slice_get ys m ≡ Some x))
    later (inl m) = inl (m.0 + 1, rw (add-one) m.1)
    later (inr m) = inr m

-- ---- a message is a piece of its frame

pieced : (m before behind f : List ℕ) → f ≡ before ++ (m ++ behind) → IsPiece m f
pieced m before behind f e = record { before = before; behind = behind; joined = e }

piece_behind : (t m f : List ℕ) → IsPiece m f → IsPiece m (t ++ f)
piece_behind t m f p =
    pieced m (t ++ p.before) p.behind (t ++ f) (ap (λ l. t ++ l) p.joined ∙ sym (append_assoc t p.before (m ++ p.behind)))

piece_of : (ts : List (List ℕ)) (i : ℕ) (m : List ℕ) → slice_get ts i ≡ Some m → IsPiece m (concatenated ts)
unfolding concatenated
piece_of [] i m h = absurd (none_in [] i m refl h)
piece_of (t ∷ ts) zero m h =
    let q : Some t ≡ Some m = h in
    let r : t ≡ m = cc in
    subst (λ l. IsPiece l (t ++ concatenated ts)) r (pieced t [] (concatenated ts) (t ++ concatenated ts) refl)
piece_of (t ∷ ts) (suc i) m h = piece_behind t m (concatenated ts) (piece_of ts i m h)

-- one of these frames has it
record Pieced (m : List ℕ) (fs : List (List ℕ)) : Type 0 where
  index : ℕ
  frame : List ℕ
  at : slice_get fs index ≡ Some frame
  piece : IsPiece m frame

one_behind : (m t : List ℕ) (fs : List (List ℕ)) → Pieced m fs → Pieced m (t ∷ fs)
one_behind m t fs p = record { index = p.index + 1; frame = p.frame; at = rw (add-one) p.at; piece = p.piece }

first_or_later : (m : List ℕ) (ts : List (List ℕ)) (fs rest : List (List ℕ))
    → ((j : ℕ) (h : slice_get rest j ≡ Some m) → Pieced m fs)
    → ((j : ℕ) × (slice_get ts j ≡ Some m)) ⊎ ((j : ℕ) × (slice_get rest j ≡ Some m)) → Pieced m (concatenated ts ∷ fs)
first_or_later m ts fs rest f (inl j) = record { index = 0; frame = concatenated ts; at = refl; piece = piece_of ts j.0 m j.1 }
first_or_later m ts fs rest f (inr j) = one_behind m (concatenated ts) fs (f j.0 j.1)

pieces : (rows : List (List (List ℕ))) (i : ℕ) (m : List ℕ) → slice_get (concatenated rows) i ≡ Some m → Pieced m (each_joined rows)
unfolding concatenated each_joined
pieces [] i m h = absurd (none_in [] i m refl h)
pieces (ts ∷ rest) i m h =
    first_or_later m ts (each_joined rest) (concatenated rest) (λ j q. pieces rest j m q) (in_either ts (concatenated rest) i m h)

-- ---- what a step says goes down

say_open : (c : Conn) (y : Received) → c.client_open ≡ true → say_down c y ≡ record c { down = c.down ++ y ∷ [] }
say_open c y e = ap (λ b. if b then record c { down = c.down ++ y ∷ [] } else c) e

one_longer : (ys : List Received) (y : Received) → length (ys ++ y ∷ []) ≡ length ys + 1
one_longer [] y = omega arith
one_longer (x ∷ ys) y = let e = one_longer ys y in omega (arith, e)

counted : (a b c d n : ℕ) → a ≡ b + n → b ≡ c + 1 → d ≡ n + 1 → a ≡ c + d
counted a b c d n e f g = omega (arith, e, f, g)

replied_long : (v : Values) (k : ℕ) (y : Received) (fs : List (List ℕ)) → (v.conns k).client_open ≡ true
    → length ((replied_each v k y fs).conns k).down ≡ length (v.conns k).down + length fs
unfolding replied_each
replied_long v k y [] e = omega arith
replied_long v k y (f ∷ fs) e =
    let c = v.conns k in
    let u : Values = record v { conns = put v.conns k (say_down c y) } in
    let is : u.conns k ≡ record c { down = c.down ++ y ∷ [] } = put_here v.conns k (say_down c y) ∙ say_open c y e in
    let on : (u.conns k).client_open ≡ true = ap (λ (d : Conn). d.client_open) is ∙ e in
    let more : length (u.conns k).down ≡ length c.down + 1 = ap (λ (d : Conn). length d.down) is ∙ one_longer c.down y in
    counted (length ((replied_each u k y fs).conns k).down) (length (u.conns k).down) (length c.down) (length (f ∷ fs)) (length fs)
    (replied_long u k y fs on) more (omega arith)

-- the values behind what the server took
took_conns : (v : Values) (k : ℕ) (token : Token) (o : Option LastTaken)
    → (values_took v k token [] o).conns ≡ put v.conns k (behind_front (v.conns k) [])
took_conns v k token None = refl
took_conns v k token (Some t) = refl

took_at : (v : Values) (k : ℕ) (token : Token) (o : Option LastTaken)
    → (values_took v k token [] o).conns k ≡ behind_front (v.conns k) []
took_at v k token o = ap (λ (f : ℕ → Conn). f k) (took_conns v k token o) ∙ put_here v.conns k (behind_front (v.conns k) [])

none_before : (a b n : ℕ) → a ≡ b + n → b ≡ 0 → a ≡ n
none_before a b n e f = omega (arith, e, f)

-- as many replies as frames, where none waited
said_long : (v : Values) (k : ℕ) (token : Token) (S : ConnectionStep) → (v.conns k).client_open ≡ true → (v.conns k).down ≡ []
    → length ((values_said v k token [] S).conns k).down ≡ length S.frames
said_long v k token S on none =
    let u = values_took v k token [] S.taken in
    let y : Received = record { token = token; reply = last_reply S.taken; place = v.log.places } in
    let at = took_at v k token S.taken in
    let open_ : (u.conns k).client_open ≡ true = ap (λ (c : Conn). c.client_open) at ∙ on in
    let empty : (u.conns k).down ≡ [] = ap (λ (c : Conn). c.down) at ∙ none in
    none_before (length ((replied_each u k y S.frames).conns k).down) (length (u.conns k).down) (length S.frames)
    (replied_long u k y S.frames open_) (ap length empty)

-- the replies of a world's connection stand beside these frames
pub record Says (v : World) (k : ℕ) (fs : List (List ℕ)) : Type 0 where
  pub frames : (v.wires k).down ≡ fs
  pub replies : length (v.values.conns k).down ≡ length fs

says_on : (w : World) (k : ℕ) (token : Token) (S : ConnectionStep) → (w.values.conns k).client_open ≡ true
    → (w.values.conns k).down ≡ [] → (w.wires k).down ≡ [] → Says (served_on w k [] [] token S) k S.frames
says_on w k token S on none nothing =
    record {
      frames = ap (λ (x : Wires). x.down) (put_here w.wires k _)
          ∙ (ap (λ b. if b then (w.wires k).down ++ S.frames else (w.wires k).down) on ∙ ap (λ l. l ++ S.frames) nothing);
      replies = said_long w.values k token S on none;
    }

pub conn_loaded : (r : RepeatWorld) (k : ℕ) (u : UpFrame)
    → (loaded_up r k u).values.conns k ≡ record (r.world.values.conns k) { client_open = true; up = sents (u ∷ []); down = receiveds [] }
conn_loaded r k u = put_here r.world.values.conns k _

pub wires_loaded : (r : RepeatWorld) (k : ℕ) (u : UpFrame)
    → (loaded_up r k u).wires k ≡ record (r.world.wires k) { up = up_frames (u ∷ []); down = down_frames [] }
wires_loaded r k u = put_here r.world.wires k _

serves_loaded : (z : WorldSettings) (r : RepeatWorld) (k : ℕ) (u : UpFrame) → (step_at z (loaded_up r k u) k u.frame).ends ≡ None
    → Says (bytes_changed z (loaded_up r k u) (Serve k)) k (step_at z (loaded_up r k u) k u.frame).frames
unfolding sents receiveds up_frames down_frames
serves_loaded z r k u none =
    let w = loaded_up r k u in
    let S = step_at z w k u.frame in
    let bs : (w.wires k).up ≡ u.frame ∷ [] = ap (λ (x : Wires). x.up) (wires_loaded r k u) in
    let xs : (w.values.conns k).up ≡ u.sent ∷ [] = ap (λ (c : Conn). c.up) (conn_loaded r k u) in
    let is : served_by w k [] [] u.sent.token S S.ends ≡ bytes_changed z w (Serve k) =
    sym (ap (λ l. serve_frame z w k l (w.values.conns k).up) bs ∙ ap (λ l. serve_frame z w k (u.frame ∷ []) l) xs) in
    subst (λ v. Says v k S.frames) is
    (subst (λ o. Says (served_by w k [] [] u.sent.token S o) k S.frames) (sym none)
    (says_on w k u.sent.token S (ap (λ (c : Conn). c.client_open) (conn_loaded r k u)) (ap (λ (c : Conn). c.down) (conn_loaded r k u))
    (ap (λ (x : Wires). x.down) (wires_loaded r k u))))

pub may_serve_loaded : (r : RepeatWorld) (k : ℕ) (u : UpFrame) → is_served r.world k ≡ true
    → is_possible (loaded_up r k u).values (Serve k) ≡ true
unfolding sents is_filled
may_serve_loaded r k u on =
    ap (λ (c : Conn). c.server_open && is_filled c.up) (conn_loaded r k u) ∙ ap (λ b. b && true) on

says_later : (w : World) (k n : ℕ) (fs : List (List ℕ)) → Says w k fs → Says (bytes_later w n) k fs
says_later w k n fs h = record { frames = h.frames; replies = h.replies }

pub happen_says : (z : WorldSettings) (r : RepeatWorld) (k : ℕ) (u : UpFrame) → is_served r.world k ≡ true
    → (step_at z (loaded_up r k u) k u.frame).ends ≡ None
    → Says (bytes_happen z (loaded_up r k u) (Plain (Serve k))) k (step_at z (loaded_up r k u) k u.frame).frames
happen_says z r k u on none =
    let w = loaded_up r k u in
    let S = step_at z w k u.frame in
    subst (λ b. Says (if b then bytes_later (bytes_changed z w (Serve k)) 1 else w) k S.frames) (sym (may_serve_loaded r k u on))
    (says_later (bytes_changed z w (Serve k)) k 1 S.frames (serves_loaded z r k u none))

-- ---- each of these frames is put

beside : (fs : List (List ℕ)) (ys : List Received) (i : ℕ) (f : List ℕ) → length ys ≡ length fs → slice_get fs i ≡ Some f
    → (j : ℕ) × (d : DownFrame) × (slice_get (puts_down fs ys) j ≡ Some d) × (d.frame ≡ f)
unfolding puts_down
beside [] ys i f e h = absurd (none_in [] i f refl h)
beside (b ∷ fs) [] i f e h = absurd (omega (arith, e))
beside (b ∷ fs) (y ∷ ys) zero f e h = (0, record { frame = b; received = y }, refl, (let q : Some b ≡ Some f = h in cc))
beside (b ∷ fs) (y ∷ ys) (suc i) f e h =
    let m = beside fs ys i f (omega (arith, e)) h in (m.0 + 1, m.1, rw (add-one) m.2, m.3)

puts_said : (w : World) (k : ℕ) (fs : List (List ℕ)) (i : ℕ) (f : List ℕ) → Says w k fs → slice_get fs i ≡ Some f
    → (j : ℕ) × (d : DownFrame) × (slice_get (new_downs w k) j ≡ Some d) × (d.frame ≡ f)
puts_said w k fs i f h at =
    beside (w.wires k).down (w.values.conns k).down i f (h.replies ∙ ap length (sym h.frames))
    (ap (λ l. slice_get l i) h.frames ∙ at)

frame_told : (z : WorldSettings) (r : RepeatWorld) (k : ℕ) (u : UpFrame) (i : ℕ) (m f : List ℕ) → is_served r.world k ≡ true
    → (step_at z (loaded_up r k u) k u.frame).ends ≡ None
    → slice_get (step_at z (loaded_up r k u) k u.frame).frames i ≡ Some f → IsPiece m f → WasPutDown (given_up z r k u) m
frame_told z r k u i m f on none at piece =
    let w = bytes_happen z (loaded_up r k u) (Plain (Serve k)) in
    let d = puts_said w k (step_at z (loaded_up r k u) k u.frame).frames i f (happen_says z r k u on none) at in
    let n = in_back r.downs (new_downs w k) d.0 d.1 d.2 in
    (n.0, d.1, n.1, subst (λ l. IsPiece m l) (sym d.3) piece)

pub frames_are : (z : WorldSettings) (w : World) (k : ℕ) (frame : List ℕ) (x : Frame) → check_frame (w.wires k).server_end frame ≡ Ok x
    → x.sealed ≡ false
    → (step_at z w k frame).frames ≡ each_joined (all_texts false (joined_in (text_limit false) (went_at z w k x).replies))
frames_are z w k frame x ok plain =
    ap (λ r. (step_of z.server k w.values.moment (take 8 (draw z.seed w.draws)) w.values.server w.logons (w.wires k).server_end r).frames) ok
    ∙ ap (λ b. (answered x.server_end b (went_at z w k x)).frames) plain

text_told : (z : WorldSettings) (r : RepeatWorld) (k : ℕ) (u : UpFrame) (x : Frame) → is_served r.world k ≡ true
    → (step_at z (loaded_up r k u) k u.frame).ends ≡ None
    → check_frame ((loaded_up r k u).wires k).server_end u.frame ≡ Ok x → x.sealed ≡ false → (i : ℕ) (m : List ℕ)
    → slice_get (texts_said (went_at z (loaded_up r k u) k x).replies) i ≡ Some m → WasPutDown (given_up z r k u) m
text_told z r k u x on none ok plain i m h =
    let w = loaded_up r k u in
    let p = pieces (all_texts false (joined_in (text_limit false) (went_at z w k x).replies)) i m h in
    frame_told z r k u p.index m p.frame on none
    (ap (λ l. slice_get l p.index) (frames_are z w k u.frame x ok plain) ∙ p.at) p.piece

-- ---- the server's entries

pub said_message : (t : Watched) (k : ℕ) (s : Server) (f : ServerEnd) (r : SaidReply) (m : List ℕ) (p : Progress)
    → (entry_by t k s f r m p).message ≡ m
said_message t k s f r m (Final binding channel encrypts) = refl
said_message t k s f r m (Interim binding) = refl
said_message t k s f r m Stays = either (λ (e : SignedEntry). e.message ≡ m) (binds_to s r.request) _ _ (λ _. refl) (λ _. refl)

abbrev AllTold : RepeatWorld → List (List ℕ) → Type 0
AllTold v ms = (i : ℕ) (m : List ℕ) → slice_get ms i ≡ Some m → WasPutDown v m

rest_told : (v : RepeatWorld) (m : List ℕ) (ms : List (List ℕ)) → AllTold v (m ∷ ms) → AllTold v ms
rest_told v m ms all i x h = all (i + 1) x (rw (add-one) h)

first_told : (v : RepeatWorld) (m : List ℕ) (ms : List (List ℕ)) → AllTold v (m ∷ ms) → WasPutDown v m
first_told v m ms all = all 0 m refl

entry_told : (v : RepeatWorld) (t : Watched) (k : ℕ) (s : Server) (f : ServerEnd) (r : SaidReply) (m : List ℕ) → WasPutDown v m
    → IsTold v (entry_by t k s f r m r.progress)
entry_told v t k s f r m p way = subst (λ l. WasPutDown v l) (sym (said_message t k s f r m r.progress)) p

entries_told : (v : RepeatWorld) (t : Watched) (k : ℕ) (s : Server) (f : ServerEnd) (rs : List SaidReply) (ms : List (List ℕ))
    → AllTold v ms → AllOf (IsTold v) (entries_said t k s f rs ms)
unfolding entries_said
entries_told v t k s f [] ms all = none_of_all (IsTold v)
entries_told v t k s f (r ∷ rs) [] all = none_of_all (IsTold v)
entries_told v t k s f (r ∷ rs) (m ∷ ms) all =
    let rest = entries_told v t k s f rs ms (rest_told v m ms all) in
    let e = entry_by t k s f r m r.progress in
    either (λ es. AllOf (IsTold v) es) (is_some r.signer) (e ∷ entries_said t k s f rs ms) (entries_said t k s f rs ms)
    (λ _. all_with (IsTold v) e (entries_said t k s f rs ms) (entry_told v t k s f r m (first_told v m ms all)) rest) (λ _. rest)

signed_told : (z : WorldSettings) (t : Watched) (r : RepeatWorld) (k : ℕ) (u : UpFrame) (x : Frame) → is_served r.world k ≡ true
    → (step_at z (loaded_up r k u) k u.frame).ends ≡ None → check_frame ((loaded_up r k u).wires k).server_end u.frame ≡ Ok x
    → AllOf (IsTold (given_up z r k u)) (signed_in z t k (loaded_up r k u) x)
signed_told z t r k u x on none ok =
    let w = loaded_up r k u in
    let v = given_up z r k u in
    let g = went_at z w k x in
    either (λ es. AllOf (IsTold v) es) x.sealed [] (entries_said t k g.server x.server_end g.replies (texts_said g.replies))
    (λ _. none_of_all (IsTold v))
    (λ plain. entries_told v t k g.server x.server_end g.replies (texts_said g.replies) (text_told z r k u x on none ok plain))

said_told : (z : WorldSettings) (t : Watched) (r : RepeatWorld) (k : ℕ) (u : UpFrame) → is_served r.world k ≡ true
    → (o : Option ConnEnd) → (step_at z (loaded_up r k u) k u.frame).ends ≡ o → (x : Result Frame ConnEnd)
    → check_frame ((loaded_up r k u).wires k).server_end u.frame ≡ x → AllOf (IsTold (given_up z r k u)) t.signed
    → AllOf (IsTold (given_up z r k u)) (said_in z t k (loaded_up r k u) o x).signed
said_told z t r k u on (Some why) e x ok all = all
said_told z t r k u on None e (Err why) ok all = all
said_told z t r k u on None e (Ok x) ok all =
    all_joined (IsTold (given_up z r k u)) t.signed (signed_in z t k (loaded_up r k u) x) all (signed_told z t r k u x on e ok)

served_told : (z : WorldSettings) (t : Watched) (k : ℕ) (e : RepeatEvent) (o : Option UpFrame)
    → AllOf (IsTold (give_up z t.repeating k o)) t.signed → AllOf (IsTold (give_up z t.repeating k o)) (watched_served z t k o e).signed
served_told z t k e None all = all
served_told z t k e (Some u) all = by_served (is_served t.repeating.world k) refl all
  where
    by_served : (b : Bool) → is_served t.repeating.world k ≡ b
        → AllOf (IsTold (if b then given_up z t.repeating k u else t.repeating)) t.signed
        → AllOf (IsTold (if b then given_up z t.repeating k u else t.repeating)) (if b then watched_up z t k u e else t).signed
    by_served true on all =
        let w = loaded_up t.repeating k u in
        said_told z t t.repeating k u on (step_at z w k u.frame).ends refl (check_frame (w.wires k).server_end u.frame) refl all
    by_served false on all = all

-- ---- the client's entries are no replies

pub entry_asks : (t : Watched) (k : ℕ) (r : RepeatWorld) (m : List ℕ) → (entry_up t k r m).to_server ≡ true
entry_asks t k r m = either (λ (e : SignedEntry). e.to_server ≡ true) (is_setup (header_in m)) _ _ (λ _. refl) (λ _. refl)

not_told : (v : RepeatWorld) (e : SignedEntry) → e.to_server ≡ true → IsTold v e
not_told v e on off = absurd (cc)

entries_ask : (v : RepeatWorld) (t : Watched) (k : ℕ) (r : RepeatWorld) (us : List UpFrame) → AllOf (IsTold v) (entries_up t k r us)
unfolding entries_up
entries_ask v t k r [] = none_of_all (IsTold v)
entries_ask v t k r (u ∷ us) =
    let rest = entries_ask v t k r us in
    either (λ es. AllOf (IsTold v) es) (carries_signature u.frame) (entry_up t k r u.frame ∷ entries_up t k r us) (entries_up t k r us)
    (λ _. all_with (IsTold v) (entry_up t k r u.frame) (entries_up t k r us)
    (not_told v (entry_up t k r u.frame) (entry_asks t k r u.frame)) rest) (λ _. rest)

-- ---- one event, and a run

stays_told : (old r : RepeatWorld) (es : List SignedEntry) → Grows old r → AllOf (IsTold old) es → AllOf (IsTold r) es
stays_told old r es g all i e h way = let w = all i e h way in (w.0, w.1, g.downs w.0 w.1 w.2, w.3)

abbrev Holds : Watched → Type 0
Holds t = AllOf (IsTold t.repeating) t.signed

told_in_event : (z : WorldSettings) (t : Watched) (e : RepeatEvent) → Holds t
    → AllOf (IsTold (repeat_happens z t.repeating e)) (watched_happens z t e).signed
told_in_event z t (Same e) all =
    let r = repeat_happens z t.repeating (Same e) in
    let k = own_connection e in
    all_joined (IsTold r) t.signed (entries_up t k r (put_since t.repeating r))
    (stays_told t.repeating r t.signed (event_grows z t.repeating (Same e)) all)
    (entries_ask r t k r (put_since t.repeating r))
told_in_event z t (Give k true place) all =
    served_told z t k (Give k true place) (slice_get t.repeating.ups place)
    (stays_told t.repeating (repeat_happens z t.repeating (Give k true place)) t.signed
    (event_grows z t.repeating (Give k true place)) all)
told_in_event z t (Give k false place) all =
    let r = repeat_happens z t.repeating (Give k false place) in
    let v : Watched = record t { repeating = r; of_client = client_secret t r } in
    all_joined (IsTold r) t.signed (entries_up v k r (put_since t.repeating r))
    (stays_told t.repeating r t.signed (event_grows z t.repeating (Give k false place)) all)
    (entries_ask r v k r (put_since t.repeating r))

event_holds : (z : WorldSettings) (t : Watched) (e : RepeatEvent) → Holds t → Holds (watched_happens z t e)
event_holds z t e all =
    subst (λ r. AllOf (IsTold r) (watched_happens z t e).signed) (sym (event_watched z t e)) (told_in_event z t e all)

run_holds : (z : WorldSettings) (es : List RepeatEvent) (t : Watched) → Holds t → Holds (watched_run z es t)
unfolding watched_run
run_holds z [] t all = all
run_holds z (e ∷ es) t all = run_holds z es (watched_happens z t e) (event_holds z t e all)

pub signed_reply_was_put : SignedReplyWasPut
signed_reply_was_put z es i e h way =
    let t = watching (repeat_start z) in
    subst (λ r. WasPutDown r e.message) (watches_run z es t)
    (run_holds z es t (none_of_all (IsTold t.repeating)) i e h way)
