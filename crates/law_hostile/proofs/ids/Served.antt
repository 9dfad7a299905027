-- A message that a server's end is given leaves the list, and nothing goes up.
use Rattle.std.proofs.Common.{◌≡◌, ℕ, ◌==◌, Bool, true, false, if◌then◌else◌, List, [], ◌∷◌, ◌++◌, refl, sym, ◌∙◌, ap, subst, Option}
use Rattle.std.proofs.Common.{Some, None, eqb-true}
use Rattle.law_server.proofs.tables.Logic.{either}
use Rattle.law_records.proofs.recovery.Lists.{put_here}
use Rattle.spec_exchange.specs.Table.{put}
use Rattle.spec_exchange.specs.Network.{World as Values, Conn, Received, Token, Serve, behind_front, say_down, replied}
use Rattle.spec_world.specs.Settings.{WorldSettings}
use Rattle.spec_world.specs.Ends.{ConnEnd}
use Rattle.spec_world.specs.Connection.{ConnectionStep, LastTaken}
use Rattle.spec_world.specs.World.{Wires, World, served_by, served_mutely, serve_frame, step_at, values_took, values_said, replied_each, last_reply}
use Rattle.spec_world.specs.Events.{Plain, bytes_happen, bytes_changed, bytes_later}
use Rattle.spec_hostile.specs.RepeatRuns.{RepeatWorld, UpFrame, DownFrame, is_served, loaded_up, lists_as, sents, receiveds, up_frames}
use Rattle.law_hostile.proofs.puts.Replies.{conn_loaded, wires_loaded, may_serve_loaded}

-- no list has anything, where no other one had, and ids stay
abbrev pub Emptied : ℕ → (ℕ → Conn) → (ℕ → Conn) → Type 0
Emptied k f g = (j : ℕ) → ((g j).next_id ≡ (f j).next_id) × (((j == k) ≡ false → (f j).up ≡ []) → (g j).up ≡ [])

emptied_put : (f : ℕ → Conn) (k : ℕ) (d : Conn) → d.up ≡ [] → d.next_id ≡ (f k).next_id → Emptied k f (put f k d)
emptied_put f k d e n j = elim (j == k) as (λ b. j == k ≡ b
    → ((if b then d else f j).next_id ≡ (f j).next_id) × (((j == k) ≡ false → (f j).up ≡ []) → (if b then d else f j).up ≡ [])) [
      | true ↦ λ t. let s = eqb-true j k t in (n ∙ ap (λ i. (f i).next_id) (sym s), λ _. e)
      | false ↦ λ t. (refl, λ h. h t)
    ] refl

emptied_then : (k : ℕ) (f g h : ℕ → Conn) → Emptied k f g → Emptied k g h → Emptied k f h
emptied_then k f g h p q j = ((q j).0 ∙ (p j).0, λ e. (q j).1 (λ _. (p j).1 e))

-- a reply goes down alone
says_emptied : (v : Values) (k : ℕ) (y : Received) → (v.conns k).up ≡ [] → Emptied k v.conns (replied v k y).conns
says_emptied v k y e =
    let c = v.conns k in
    emptied_put v.conns k (say_down c y)
    (either (λ (d : Conn). d.up ≡ []) c.client_open (record c { down = c.down ++ y ∷ [] }) c (λ _. e) (λ _. e))
    (either (λ (d : Conn). d.next_id ≡ c.next_id) c.client_open (record c { down = c.down ++ y ∷ [] }) c (λ _. refl) (λ _. refl))

itself : (k : ℕ) (f : ℕ → Conn) → (f k).up ≡ [] → Emptied k f f
itself k f e j = (refl, λ h. by (j == k) refl h)
  where
    by : (b : Bool) → (j == k) ≡ b → ((j == k) ≡ false → (f j).up ≡ []) → (f j).up ≡ []
    by true t h = let s = eqb-true j k t in subst (λ i. (f i).up ≡ []) (sym s) e
    by false t h = h t

each_emptied : (v : Values) (k : ℕ) (y : Received) (fs : List (List ℕ)) → (v.conns k).up ≡ []
    → Emptied k v.conns (replied_each v k y fs).conns
unfolding replied_each
each_emptied v k y [] e = itself k v.conns e
each_emptied v k y (f ∷ fs) e =
    let u = replied v k y in
    let p = says_emptied v k y e in
    emptied_then k v.conns u.conns (replied_each u k y fs).conns p (each_emptied u k y fs ((p k).1 (λ _. e)))

took_emptied : (v : Values) (k : ℕ) (token : Token) (o : Option LastTaken) → Emptied k v.conns (values_took v k token [] o).conns
took_emptied v k token None = emptied_put v.conns k _ refl refl
took_emptied v k token (Some t) = emptied_put v.conns k _ refl refl

took_none : (v : Values) (k : ℕ) (token : Token) (o : Option LastTaken) → ((values_took v k token [] o).conns k).up ≡ []
took_none v k token None = ap (λ (c : Conn). c.up) (put_here v.conns k (behind_front (v.conns k) []))
took_none v k token (Some t) = ap (λ (c : Conn). c.up) (put_here v.conns k (behind_front (v.conns k) []))

said_emptied : (v : Values) (k : ℕ) (token : Token) (S : ConnectionStep) → Emptied k v.conns (values_said v k token [] S).conns
said_emptied v k token S =
    let u = values_took v k token [] S.taken in
    let y : Received = record { token = token; reply = last_reply S.taken; place = v.log.places } in
    emptied_then k v.conns u.conns (replied_each u k y S.frames).conns (took_emptied v k token S.taken)
    (each_emptied u k y S.frames (took_none v k token S.taken))

by_end : (w : World) (k : ℕ) (token : Token) (S : ConnectionStep) (o : Option ConnEnd)
    → Emptied k w.values.conns (served_by w k [] [] token S o).values.conns
by_end w k token S None = said_emptied w.values k token S
by_end w k token S (Some why) =
    let v = served_mutely w k [] [] token S in
    emptied_then k w.values.conns v.values.conns (served_by w k [] [] token S (Some why)).values.conns
    (took_emptied w.values k token S.taken) (emptied_put v.values.conns k _ refl refl)

loaded_served : (z : WorldSettings) (r : RepeatWorld) (k : ℕ) (u : UpFrame)
    → Emptied k (loaded_up r k u).values.conns (bytes_changed z (loaded_up r k u) (Serve k)).values.conns
unfolding sents up_frames
loaded_served z r k u =
    let w = loaded_up r k u in
    let S = step_at z w k u.frame in
    let bs : (w.wires k).up ≡ u.frame ∷ [] = ap (λ (x : Wires). x.up) (wires_loaded r k u) in
    let xs : (w.values.conns k).up ≡ u.sent ∷ [] = ap (λ (c : Conn). c.up) (conn_loaded r k u) in
    let is : served_by w k [] [] u.sent.token S S.ends ≡ bytes_changed z w (Serve k) =
    sym (ap (λ l. serve_frame z w k l (w.values.conns k).up) bs ∙ ap (λ l. serve_frame z w k (u.frame ∷ []) l) xs) in
    subst (λ (v : World). Emptied k w.values.conns v.values.conns) is (by_end w k u.sent.token S S.ends)

pub serve_empties : (z : WorldSettings) (r : RepeatWorld) (k : ℕ) (u : UpFrame) → is_served r.world k ≡ true
    → Emptied k (loaded_up r k u).values.conns (bytes_happen z (loaded_up r k u) (Plain (Serve k))).values.conns
serve_empties z r k u on =
    let w = loaded_up r k u in
    subst (λ b. Emptied k w.values.conns (if b then bytes_later (bytes_changed z w (Serve k)) 1 else w).values.conns)
    (sym (may_serve_loaded r k u on)) (loaded_served z r k u)

-- ---- ids stay where lists become others

pub lists_ids : (w : World) (k : ℕ) (us : List UpFrame) (ds : List DownFrame) (heard : Bool) (j : ℕ)
    → ((lists_as w k us ds heard).values.conns j).next_id ≡ (w.values.conns j).next_id
lists_ids w k us ds heard j = elim (j == k) as (λ b. j == k ≡ b
    → (if b then (record (w.values.conns k) {
      client_open = heard;
      up = sents us;
      down = receiveds ds;
    }) else w.values.conns j).next_id ≡ (w.values.conns j).next_id) [
      | true ↦ λ t. ap (λ i. (w.values.conns i).next_id) (sym (eqb-true j k t))
      | false ↦ λ t. refl
    ] refl
