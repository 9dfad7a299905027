-- A Serve of a dialog's request leaves a world tied.
use Rattle.std.proofs.Common.{◌≡◌, ℕ, ◌+◌, ◌≤◌, ◌==◌, Bool, true, false, ◌&&◌, if◌then◌else◌, List, [], ◌∷◌, ◌++◌, length}
use Rattle.std.proofs.Common.{refl, sym, ap, ◌∙◌, subst, eqb-true, arith, Option, Some, None, Result, Ok}
use Rattle.spec_wire.specs.declared.messages.error.MessageError.{MessageError}
use Rattle.spec_wire.specs.messages.TreeConnect.{tree_connect_request_in, tree_connect_request_fault}
use Rattle.spec_exchange.specs.Table.{put}
use Rattle.spec_exchange.specs.Operations.{Op}
use Rattle.spec_exchange.specs.Client.{Stage, Apart, SaidNegotiate, SaidFirst, SaidSecond, AskedTree}
use Rattle.spec_exchange.specs.Network.{World as Values, Sent, Received, ForDialog, Serve, answer, behind_front, say_down}
use Rattle.spec_exchange.specs.Network.{serve_front}
use Rattle.spec_commands.specs.CommandOf.{unless, tree_connect_of, tree_connect_in, named_command, message_of}
use Rattle.spec_commands.specs.Text.{text_in}
use Rattle.spec_wire.specs.credits.Ids.{counted, outside}
use Rattle.spec_wire.specs.credits.Window.{HeldIds, after_take, granted, after_grant}
use Rattle.spec_wire.specs.credits.Exchange.{Line, serves, FrontIsHeld, NothingIsRefused}
use Rattle.spec_crypto.specs.declared.sessions.material.Keys.{Keys}
use Rattle.spec_world.specs.Settings.{WorldSettings}
use Rattle.spec_world.specs.Messages.{HeardMessage}
use Rattle.spec_world.specs.Ends.{ClientEnd, ServerEnd, Logons, ConnEnd}
use Rattle.spec_world.specs.Hearing.{FrameText, text_of, behind_turn, window_behind, checked_as, is_misplaced}
use Rattle.spec_world.specs.Logon.{Progress, Stays, Interim, Final, final_keys, pending_by, token_in}
use Rattle.spec_world.specs.Connection.{told_of}
use Rattle.spec_world.specs.World.{World, answered_wires, served_on, served_by, step_at, serve_frame}
use Rattle.spec_world.specs.Events.{Plain, bytes_happen}
use Rattle.law_ties.specs.wire_facts.Lawful.{IsLawful}
use Rattle.law_ties.specs.events.Fronts.{MayServe}
use Rattle.law_ties.specs.events.Links.{Shared, is_line, Asked, AllAsked, LinkReached, Linked, LinkCarries, Waiting}
use Rattle.law_ties.specs.events.Links.{Coming, Talks, Waits, Comes, Lost}
use Rattle.law_ties.specs.events.Links.{is_lined, dialog_grant, Tied, TieOf, HasOwnKeys, Ties, IsTied}
use Rattle.law_ties.proofs.events.Serving.{told_at, said_values}
use Rattle.law_ties.proofs.events.InStep.{next_low, front_held, has_frame_up}
use Rattle.law_ties.proofs.events.Took.{reach_more}
use Rattle.law_ties.specs.requests.Lines.{is_lines}
use Rattle.law_ties.proofs.requests.Commands.{named_at, well_placed}
use Rattle.law_ties.proofs.requests.Linking.{line_less, served_is, window_is}
use Rattle.law_ties.proofs.requests.Line.{split_by, fresh_of, checked_of, conn_twice, said_conn, open_by, next_by, served_world}
use Rattle.law_dialogs.specs.dialog_requests.Serving.{Spare, IsApart, IsTalk, IsDialogFront, DialogServesAreKept}
use Rattle.law_dialogs.proofs.dialog_requests.Sparing.{Sparing, with_logons, session_at, tied_spared}
use Rattle.law_dialogs.proofs.dialog_requests.Credit.{dialog_granted}
use Rattle.law_dialogs.proofs.dialog_requests.Step.{progress_by, said_by, text_by, counted_by, end_by, logons_to}
use Rattle.law_dialogs.proofs.dialog_requests.Step.{logons_by, served, same_window}
use Rattle.law_dialogs.proofs.dialog_requests.Step.{same_salt, less_counted}
use Rattle.law_dialogs.proofs.dialog_requests.Front.{Front, shared_at, IsComing}
use Rattle.law_dialogs.proofs.dialog_requests.Greeted.{greeted_comes}
use Rattle.law_dialogs.proofs.dialog_requests.First.{first_comes}
use Rattle.law_dialogs.proofs.dialog_requests.Second.{second_comes}

-- ---- a dialog's request isn't sealed

tree_lines : (o : Option MessageError) (p : Option (List ℕ)) → is_lines (unless o (tree_connect_of p)) ≡ true
tree_lines (Some e) p = refl
tree_lines None None = refl
tree_lines None (Some path) = refl

tree_is : (m : List ℕ) → is_lines (tree_connect_in m) ≡ true
unfolding tree_connect_in
tree_is m = tree_lines (tree_connect_request_fault m) (text_in (tree_connect_request_in m).path)

plain_by : (line sealed : Bool) → (line ≡ true → ⊥) → (line ≡ false → sealed ≡ false) → sealed ≡ false
plain_by true sealed e f = absurd (e refl)
plain_by false sealed e f = f refl

-- it is heard by its bytes alone
pub read_as : (z : WorldSettings) (L : Logons) (k : ℕ) (f : ServerEnd) (b : List ℕ) (x : Sent) (q : ℕ × ℕ) (a : Asked z L k f b x q)
    → message_of (told_of z.server L k f (checked_as f a.reads.sealed false true a.reads.heard)) a.reads.heard.header a.reads.heard.bytes
    ≡ Some x.message
read_as z L k f b x q a =
    let r = a.reads in
    let c = checked_as f r.sealed false true r.heard in
    well_placed (is_misplaced c) (message_of (told_of z.server L k f c) r.heard.header r.heard.bytes) (Some x.message) a.apart r.message

pub plain_front : (z : WorldSettings) (L : Logons) (k : ℕ) (f : ServerEnd) (b : List ℕ) (x : Sent) (q : ℕ × ℕ) (a : Asked z L k f b x q)
    → x.token ≡ ForDialog → is_lines x.message.command ≡ false → a.reads.sealed ≡ false
plain_front z L k f b x q a own talks =
    let r = a.reads in
    let c = checked_as f r.sealed false true r.heard in
    let t = told_of z.server L k f c in
    let h = r.heard.header in
    plain_by (is_line r.heard) r.sealed
    (λ line. (let tree = a.tree own line in
    let command : named_command 3 t h r.heard.bytes ≡ x.message.command =
    ap (λ n. named_command n t h r.heard.bytes) (sym tree) ∙ named_at t h r.heard.bytes x.message (read_as z L k f b x q a) in
    let bad : true ≡ false = sym (tree_is r.heard.bytes) ∙ (ap is_lines command ∙ talks) in cc))
    a.plain

-- ---- what it leaves of the logons

put_else : {X : Type 0} (f : ℕ → X) (k : ℕ) (v : X) (j : ℕ) → (j == k) ≡ false → put f k v j ≡ f j
put_else f k v j e = ap (λ b. if b then v else f j) e

key_else : (f : ℕ → Keys) (x : ℕ) (v : Keys) (y : ℕ) → (y ≡ x → ⊥) → put f x v y ≡ f y
key_else f x v y other = elim (y == x) as (λ b. y == x ≡ b → (if b then v else f y) ≡ f y) [
  | true ↦ λ e. absurd (other (eqb-true y x e))
  | false ↦ λ e. refl
] refl

pub keys_spared : (z : WorldSettings) (w : World) (k : ℕ) (h : HeardMessage) (p : Progress) (y : ℕ) → Spare h.header.session p y
    → (logons_to z w k h p).keys y ≡ w.logons.keys y
keys_spared z w k h Stays y s = refl
keys_spared z w k h (Interim binding) y s = refl
keys_spared z w k h (Final true channel encrypts) y s = refl
keys_spared z w k h (Final false channel encrypts) y s =
    key_else w.logons.keys h.header.session
    (final_keys z.server.users w.logons k (behind_turn (w.wires k).server_end h.header) (checked_of w k false h) false) y (s refl)

pending_spared : (z : WorldSettings) (w : World) (k : ℕ) (h : HeardMessage) (p : Progress) (j : ℕ) → (j == k) ≡ false
    → (logons_to z w k h p).pending j ≡ w.logons.pending j
pending_spared z w k h Stays j e = refl
pending_spared z w k h (Interim binding) j e =
    put_else w.logons.pending k (pending_by z.server.users.bare (token_in h.bytes) (fresh_of z w) w.values.moment) j e
pending_spared z w k h (Final true channel encrypts) j e = refl
pending_spared z w k h (Final false channel encrypts) j e = refl

pub sparing : (z : WorldSettings) (w : World) (k : ℕ) (h : HeardMessage) (p : Progress) (j : ℕ) → (j == k) ≡ false
    → Sparing w.logons (logons_to z w k h p) j (Spare h.header.session p)
sparing z w k h p j e = record { pending = pending_spared z w k h p j e; keys = λ y s. keys_spared z w k h p y s }

-- another connection
pub other_tie : (z : WorldSettings) (w : World) (k : ℕ) (h : HeardMessage) (p : Progress) → IsApart w h.header.session p
    → IsTied z w → (j : ℕ)
    → (j == k) ≡ false
    → TieOf z w.values.client.op (with_logons (shared_at w) (logons_to z w k h p)) j (w.values.conns j) (w.wires j)
other_tie z w k h p a i j e =
    let d = w.values.conns j in
    let u = w.wires j in
    tied_spared z w.values.client.op (shared_at w) (logons_to z w k h p) j d.client_open d.server_open u.client_end u.server_end u.up u.down
    d.up d.down (Spare h.header.session p) (sparing z w k h p j e) (a.setups j) (a.pending j) (i.tied j)

pub own_spared : (z : WorldSettings) (w : World) (k : ℕ) (h : HeardMessage) (p : Progress) → IsApart w h.header.session p → IsTied z w
    → HasOwnKeys z w.keys (logons_to z w k h p) w.values.client.rank w.values.client.accepted
own_spared z w k h p a i e =
    let own = i.own_keys e in
    (keys_spared z w k h p w.values.client.accepted (a.accepted e) ∙ own.0, own.1, own.2)

-- its message is of the session that its header tells
pub apart_at : (z : WorldSettings) (w : World) (k : ℕ) (b : List ℕ) (x : Sent) (q : ℕ × ℕ)
    (a : Asked z w.logons k (w.wires k).server_end b x q) → IsTalk w k x → IsApart w a.reads.heard.header.session (progress_by w x)
apart_at z w k b x q a talk =
    let f = (w.wires k).server_end in
    let r = a.reads in
    let c = checked_as f r.sealed false true r.heard in
    subst (λ s. IsApart w s (progress_by w x))
    (session_at (told_of z.server w.logons k f c) r.heard.header r.heard.bytes x.message (read_as z w.logons k f b x q a)) talk.apart

-- ---- the line behind it

one_less : (c e n : ℕ) → e ≤ c → c + 1 ≤ n → e + 0 ≤ n
one_less c e n f g = omega (arith, f, g)

-- of a line no more is asked
none_of : {X : Type 0} (co : Bool) → co ≡ false → co ≡ true → X
none_of co off on = absurd (let h : false ≡ true = sym off ∙ on in cc)

dialog_link : (z : WorldSettings) (op : ℕ → Op) (s : Shared) (M : Logons) (k : ℕ) (co : Bool) (n : ClientEnd) (f g : ServerEnd) (b : List ℕ)
    (down more : List (List ℕ)) (x : Sent) (ys told : List Received) (i : Linked z op s k co true n f (b ∷ []) down (x ∷ []) ys) (q : ℕ × ℕ)
    → i.line.requests ≡ q ∷ [] → LinkReached (line_less i.line q []) → co ≡ false
    → g.window ≡ after_grant 512 (after_take q.0 q.1 i.line.window) → g.counter ≤ f.counter
    → Linked z op (with_logons s M) k co true n g [] more [] told
dialog_link z op s M k co n f g b down more x ys told i q e reached off window low =
    let l = i.line in
    let count : f.counter + length (q ∷ []) ≤ l.purse.next = subst (λ rs. f.counter + length rs ≤ l.purse.next) e
    (i.counted refl) in record {
      line = line_less l q [];
      reached = reached;
      purse = i.purse;
      window = λ o. window;
      counted = λ o. one_less f.counter g.counter l.purse.next low count;
      asked = λ o. tt;
      awaited = λ c o. none_of co off c;
      answers = λ c. none_of co off c;
      session_fits = λ c. none_of co off c;
      sealable = λ c. none_of co off c;
      keys = λ c o. none_of co off c;
      encrypts = λ c o. none_of co off c;
      greeted = λ c o. none_of co off c;
    }

-- ---- the front is the dialog's

same_heard : (o : Result FrameText ConnEnd) (a b : Bool) (x y : HeardMessage) → o ≡ Ok (record { sealed = a; messages = x ∷ [] })
    → o ≡ Ok (record { sealed = b; messages = y ∷ [] }) → x ≡ y
same_heard o a b x y e f =
    let one : FrameText = record { sealed = a; messages = x ∷ [] } in
    let two : FrameText = record { sealed = b; messages = y ∷ [] } in
    let h : Ok one ≡ Ok two = sym e ∙ f in
    let same : one ≡ two = (cc) in
    let lists : x ∷ [] ≡ y ∷ [] = ap (λ (v : FrameText). v.messages) same in
    (cc)

abbrev pub AloneTied : WorldSettings → World → ℕ → List ℕ → Sent → Type 0
AloneTied z w k b x =
    Tied z w.values.client.op (shared_at w) k (w.values.conns k).client_open true (w.wires k).client_end (w.wires k).server_end (b ∷ [])
    (w.wires k).down (x ∷ []) (w.values.conns k).down

-- the front of a list of one, its bill and what the server may do with it
pub record Fronted (z : WorldSettings) (w : World) (k : ℕ) (b : List ℕ) (x : Sent) (l : Line) : Type 0 where
  pub bill : ℕ × ℕ
  pub is : l.requests ≡ bill ∷ []
  pub asked : Asked z w.logons k (w.wires k).server_end b x bill
  pub may : MayServe (w.wires k).server_end bill
  pub reached : LinkReached (line_less l bill [])

none_left : (z : WorldSettings) (L : Logons) (k : ℕ) (f : ServerEnd) (qs : List (ℕ × ℕ)) → AllAsked z L k f [] [] qs → qs ≡ []
none_left z L k f [] all = refl
none_left z L k f (q ∷ qs) all = absurd all

pub fronted : NothingIsRefused → (z : WorldSettings) (w : World) (k : ℕ) (b : List ℕ) (x : Sent) (t : AloneTied z w k b x)
    → Fronted z w k b x t.link.line
fronted held z w k b x t =
    let f = (w.wires k).server_end in
    let link = t.link in
    let l = link.line in
    let p = split_by z w k b [] x [] l l.requests refl (link.asked refl) in
    let q = p.bill in
    let is : l.requests ≡ q ∷ [] = p.is ∙ ap (λ v. q ∷ v) (none_left z w.logons k f p.bills p.rest) in
    let none : outside l.window.held q.0 (counted q.1) ≡ None =
    subst (λ (rs : List (ℕ × ℕ)). FrontIsHeld rs l.window) is (front_held held l link.reached) in
    let low = next_low held l link.reached in
    let count : f.counter + length (q ∷ []) ≤ l.purse.next = subst (λ rs. f.counter + length rs ≤ l.purse.next) is
    (link.counted refl) in record {
      bill = q;
      is = is;
      asked = p.asked;
      may = record {
        held = ap (λ (v : HeldIds). outside v.held q.0 (counted q.1)) (link.window refl) ∙ none;
        nonce = omega (arith, count, low);
      };
      reached = subst LinkReached (served_is l q [] is none) (reach_more l (serves 512) link.reached);
    }

-- the window behind it is the line's
window_at : (z : WorldSettings) (w : World) (k : ℕ) (b : List ℕ) (x : Sent) (t : AloneTied z w k b x) (F : Fronted z w k b x t.link.line)
    → window_behind (w.wires k).server_end.window F.asked.reads.heard.header ≡ after_take F.bill.0 F.bill.1 t.link.line.window
window_at z w k b x t F =
    let link = t.link in
    let a = F.asked in
    let r = a.reads in
    window_is (w.wires k).server_end r.heard.header link.line F.bill a.counts (link.window refl) r.id r.charge

pub front_is : NothingIsRefused → (z : WorldSettings) (w : World) (k : ℕ) (b : List ℕ) (x : Sent) → IsTied z w → IsDialogFront z w k x []
    → (t : AloneTied z w k b x) (F : Fronted z w k b x t.link.line) → (w.values.conns k).client_open ≡ true
    → is_lined (w.wires k).client_end.stage ≡ false
    → Waiting z (shared_at w) k (w.wires k).client_end (w.wires k).server_end b x t.link.line.grants (w.wires k).client_end.stage
    → Front z w k b x F.asked.reads.heard (w.wires k).client_end.stage
front_is held z w k b x i front t F co off W =
    let n = (w.wires k).client_end in
    let f = (w.wires k).server_end in
    let link = t.link in
    let l = link.line in
    let q = F.bill in
    let a = F.asked in
    let r = a.reads in
    let h = r.heard in
    let same : h ≡ W.heard = same_heard (text_of f.keys b) r.sealed false h W.heard r.text W.opens in
    let purse = t.purse co off in
    let logon = t.logon co in record {
      bytes = ap (λ (v : HeardMessage). v.bytes) same ∙ W.alone;
      own = W.token;
      command = W.command;
      header = ap (λ (v : HeardMessage). v.header.command) same ∙ W.header;
      awaits = ap (λ (v : HeardMessage). n.awaited v.header.message) same ∙ W.awaits;
      no_keys = W.no_keys;
      behind = W.behind;
      carries = subst (LinkCarries z (shared_at w) k n n.stage) (sym same) W.carries;
      head = record { charge = a.charge_fits; command = a.command_fits; message = a.message_fits };
      fits = front.fits;
      moment = front.moment;
      salted = t.salted refl;
      logon = record { challenge = logon.0; base = logon.1 };
      credit = ap (λ c. granted c (window_behind f.window h.header)) a.credits
          ∙ (ap (granted 512) (window_at z w k b x t F)
          ∙ dialog_granted held l link.reached q F.reached W.no_grants n.stage off (sym link.purse ∙ purse));
      purse = purse;
      bound = λ e. (let session = front.bound_session co e in let own = i.own_keys session.1 in (
        ap w.logons.keys session.0
            ∙ own.0,
        own.1,
      ));
      logs_on = front.logs_on co;
      seals = front.seals;
    }

came : (z : WorldSettings) → IsLawful z → (w : World) (k : ℕ) (b : List ℕ) (x : Sent) (h : HeardMessage) (place : ℕ) (stage : Stage)
    → is_lined stage ≡ false → Front z w k b x h stage → IsComing z w k h x place stage
came z law w k b x h place Apart off F = absurd (let q : true ≡ false = off in cc)
came z law w k b x h place (SaidNegotiate bound) off F = greeted_comes z law w k b x h bound place F
came z law w k b x h place (SaidFirst bound) off F = first_comes z law w k b x h bound place F
came z law w k b x h place (SaidSecond bound) off F = second_comes z law w k b x h bound place F
came z law w k b x h place AskedTree off F = absurd (let q : true ≡ false = off in cc)

-- ---- its two ends

abbrev told_reply : World → Sent → Received
told_reply w x = record { token = x.token; reply = (answer w.values x).reply; place = w.values.log.places }

first_of : {X : Type 0} (a b : X) → a ∷ [] ≡ b ∷ [] → b ≡ a
first_of a b e = sym (let h : a ∷ [] ≡ b ∷ [] = e in cc)

talked : NothingIsRefused → (z : WorldSettings) → IsLawful z → (w : World) (k : ℕ) (b : List ℕ) (x : Sent) → IsTied z w
    → IsDialogFront z w k x [] → (t : AloneTied z w k b x) (F : Fronted z w k b x t.link.line) → (w.values.conns k).client_open ≡ true
    → is_lined (w.wires k).client_end.stage ≡ false
    → Talks z (shared_at w) k true (w.wires k).client_end (w.wires k).server_end (b ∷ []) (w.wires k).down (x ∷ []) (w.values.conns k).down
    t.link.line (w.wires k).client_end.stage
    → Talks z (with_logons (shared_at w) (logons_by z w k F.asked.reads.heard x)) k true (w.wires k).client_end
    (end_by z w k F.asked.reads.heard x) [] ((w.wires k).down ++ text_by z w k F.asked.reads.heard x ∷ []) []
    ((w.values.conns k).down ++ told_reply w x ∷ []) (line_less t.link.line F.bill []) (w.wires k).client_end.stage
talked held z law w k b x i front t F co off (Comes a y e1 e2 e3 e4 c) = absurd (let q : b ∷ [] ≡ [] = e1 in cc)
talked held z law w k b x i front t F co off (Lost e1 e2 e3 e4 e5) = absurd (let q : b ∷ [] ≡ [] = e1 in cc)
talked held z law w k b x i front t F co off (Waits c v e1 e2 e3 e4 g) =
    let n = (w.wires k).client_end in
    let f = (w.wires k).server_end in
    let stage = n.stage in
    let l = t.link.line in
    let h = F.asked.reads.heard in
    let s = with_logons (shared_at w) (logons_by z w k h x) in
    let text = text_by z w k h x in
    let y = told_reply w x in
    let W : Waiting z (shared_at w) k n f b x l.grants stage =
    subst (λ m. Waiting z (shared_at w) k n f b m l.grants stage) (first_of x v e2)
    (subst (λ m. Waiting z (shared_at w) k n f m v l.grants stage) (first_of b c e1) (g refl)) in
    let F' = front_is held z w k b x i front t F co off W in
    let coming : Coming z s k true n (end_by z w k h x) text y (dialog_grant stage ∷ []) stage =
    came z law w k b x h w.values.log.places stage off F' in
    let grants : (line_less l F.bill []).grants ≡ dialog_grant stage ∷ [] =
    ap (λ gs. gs ++ granted 512 (after_take F.bill.0 F.bill.1 l.window) ∷ []) W.no_grants
    ∙ ap (λ m. m ∷ []) (dialog_granted held l t.link.reached F.bill F.reached W.no_grants stage off (sym t.link.purse ∙ t.purse co off)) in
    Comes text y refl refl (ap (λ m. m ++ text ∷ []) e3) (ap (λ m. m ++ y ∷ []) e4)
    (subst (λ m. Coming z s k true n (end_by z w k h x) text y m stage) (sym grants) coming)

both_off : (a b : Bool) → (a ≡ true → b ≡ false) → (a && b) ≡ false
both_off true b f = f refl
both_off false b f = refl

dialog_tie : NothingIsRefused → (z : WorldSettings) (w : World) (k : ℕ) (b : List ℕ) (x : Sent) → IsDialogFront z w k x []
    → (t : AloneTied z w k b x) (F : Fronted z w k b x t.link.line) (more : List (List ℕ)) (told : List Received)
    → ((w.values.conns k).client_open ≡ true → is_lined (w.wires k).client_end.stage ≡ false
    → Talks z (with_logons (shared_at w) (logons_by z w k F.asked.reads.heard x)) k true (w.wires k).client_end
    (end_by z w k F.asked.reads.heard x) [] more [] told (line_less t.link.line F.bill []) (w.wires k).client_end.stage)
    → Tied z w.values.client.op (with_logons (shared_at w) (logons_by z w k F.asked.reads.heard x)) k (w.values.conns k).client_open true
    (w.wires k).client_end (end_by z w k F.asked.reads.heard x) [] more [] told
unfolding dialog_link
dialog_tie held z w k b x front t F more told talks =
    let n = (w.wires k).client_end in
    let f = (w.wires k).server_end in
    let d = w.values.conns k in
    let a = F.asked in
    let h = a.reads.heard in
    let g = end_by z w k h x in
    let p = progress_by w x in
    let G = counted_by w k h in
    let said = said_by z w k h x in
    let text = text_by z w k h x in
    let window : g.window ≡ after_grant 512 (after_take F.bill.0 F.bill.1 t.link.line.window) =
    same_window G said text p
    ∙ (ap (λ c. after_grant c (window_behind f.window h.header)) a.credits ∙ ap (after_grant 512) (window_at z w k b x t F)) in record {
      link = dialog_link z w.values.client.op (shared_at w) (logons_by z w k h x) k
          (d.client_open && is_lined n.stage) n f g b (w.wires k).down
          more x d.down told t.link F.bill F.is F.reached (both_off d.client_open (is_lined n.stage) front.unlined) window
          (less_counted G said text p);
      bound_keys = t.bound_keys;
      talk = talks;
      purse = t.purse;
      logon = t.logon;
      salted = λ o. ap length (same_salt G said text p) ∙ t.salted refl;
    }

-- ---- the world behind it

served_tie : (z : WorldSettings) → IsLawful z → NothingIsRefused → (w : World) (k : ℕ) (b : List ℕ) (x : Sent) → IsTied z w
    → (w.values.conns k).server_open ≡ true → (w.wires k).up ≡ b ∷ [] → (w.values.conns k).up ≡ x ∷ [] → IsDialogFront z w k x []
    → IsTied z (serve_frame z w k (b ∷ []) (x ∷ []))
served_tie z law held w k b x i so e h front =
    let c = w.values.client in
    let u = w.wires k in
    let d = w.values.conns k in
    let n = u.client_end in
    let t : AloneTied z w k b x =
    subst (λ o. Tied z c.op (shared_at w) k d.client_open o n u.server_end (b ∷ []) u.down (x ∷ []) d.down) so
    (subst (λ v. Tied z c.op (shared_at w) k d.client_open d.server_open n u.server_end v u.down (x ∷ []) d.down) e
    (subst (λ v. Tied z c.op (shared_at w) k d.client_open d.server_open n u.server_end u.up u.down v d.down) h (i.tied k))) in
    let F = fronted held z w k b x t in
    let a = F.asked in
    let hd = a.reads.heard in
    let talk = front.talk in
    let T = served z w k b x F.bill a F.may (plain_front z w.logons k u.server_end b x F.bill a talk.own talk.talks) in
    let S = step_at z w k b in
    let E = end_by z w k hd x in
    let M = logons_by z w k hd x in
    let text = text_by z w k hd x in
    let p = progress_by w x in
    let s = with_logons (shared_at w) M in
    let y = told_reply w x in
    let apart = apart_at z w k b x F.bill a talk in
    let tied : (more : List (List ℕ)) (told : List Received)
    → (d.client_open ≡ true → is_lined n.stage ≡ false → Talks z s k true n E [] more [] told (line_less t.link.line F.bill []) n.stage)
    → Tied z c.op s k d.client_open d.server_open n E [] more [] told =
    λ more told talks. subst (λ o. Tied z c.op s k d.client_open o n E [] more [] told) (sym so)
    (dialog_tie held z w k b x front t F more told talks) in
    let told : (o : Bool) → d.client_open ≡ o → TieOf z c.op s k (said_conn d [] y o) (answered_wires u o E [] (text ∷ [])) =
    λ o. elim o as (λ o. d.client_open ≡ o → TieOf z c.op s k (said_conn d [] y o) (answered_wires u o E [] (text ∷ []))) [
      | true ↦ λ is. tied (u.down ++ text ∷ []) (d.down ++ y ∷ [])
          (λ co off. talked held z law w k b x i front t F co off (t.talk co off))
      | false ↦ λ is. tied u.down d.down (λ co off. absurd (let g : false ≡ true = sym is ∙ co in cc))
    ] in
    let base : Ties z c w.keys M (serve_front w.values k (x ∷ [])).conns
    (put w.wires k (answered_wires u d.client_open E [] (text ∷ []))) = record {
      tied = conn_twice (TieOf z c.op s) w.values.conns w.wires k (behind_front d []) (λ g. say_down g y)
          (answered_wires u d.client_open E [] (text ∷ [])) (told d.client_open refl) (other_tie z w k hd p apart i);
      stages = conn_twice (λ j r g. r.client_open ≡ true → g.client_end.stage ≡ c.stage j) w.values.conns w.wires k (behind_front d [])
          (λ g. say_down g y) (answered_wires u d.client_open E [] (text ∷ []))
          (open_by d [] y (λ g. g ≡ true → n.stage ≡ c.stage k) (i.stages k) d.client_open) (λ j g. i.stages j);
      nexts = conn_twice (λ j r g. r.client_open ≡ true → g.client_end.purse.next ≡ r.next_id) w.values.conns w.wires k (behind_front d [])
          (λ g. say_down g y) (answered_wires u d.client_open E [] (text ∷ [])) (next_by d [] y n.purse.next (i.nexts k) d.client_open)
          (λ j g. i.nexts j);
      own_keys = own_spared z w k hd p apart i;
    } in
    let values : (served_on w k [] [] x.token S).values ≡ serve_front w.values k (x ∷ []) =
    sym (ap (λ o. (served_by w k [] [] x.token S o).values) T.ends)
    ∙ said_values w k [] x [] S (told_at z w k b x F.bill a.reads F.may) in
    subst (λ o. IsTied z (served_by w k [] [] x.token S o)) (sym T.ends)
    (subst (λ (V : Values). Ties z V.client w.keys S.logons V.conns
    (put w.wires k (answered_wires u d.client_open S.server_end [] S.frames)))
    (sym values)
    (subst (λ L. Ties z c w.keys L (serve_front w.values k (x ∷ [])).conns
    (put w.wires k (answered_wires u d.client_open S.server_end [] S.frames))) (sym T.logons)
    (subst (λ g. Ties z c w.keys M (serve_front w.values k (x ∷ [])).conns
    (put w.wires k (answered_wires u d.client_open g [] S.frames))) (sym T.server_end)
    (subst (λ g. Ties z c w.keys M (serve_front w.values k (x ∷ [])).conns
    (put w.wires k (answered_wires u d.client_open E [] g))) (sym T.frames) base))))

-- ---- a Serve

pub no_more : (z : WorldSettings) (L : Logons) (k : ℕ) (f : ServerEnd) (b : List ℕ) (bs : List (List ℕ)) (x : Sent) (qs : List (ℕ × ℕ))
    → AllAsked z L k f (b ∷ bs) (x ∷ []) qs → bs ≡ []
no_more z L k f b [] x qs all = refl
no_more z L k f b (c ∷ bs) x [] all = absurd all
no_more z L k f b (c ∷ bs) x (q ∷ qs) all = absurd all.1

serve_by : NothingIsRefused → (z : WorldSettings) (w : World) (k : ℕ) (x : Sent) → IsLawful z → IsTied z w
    → (w.values.conns k).server_open ≡ true → (w.values.conns k).up ≡ x ∷ [] → IsDialogFront z w k x [] → (bs : List (List ℕ))
    → (w.wires k).up ≡ bs → IsTied z (bytes_happen z w (Plain (Serve k)))
serve_by held z w k x law i so h front [] e = absurd (has_frame_up z w k x [] i so e h)
serve_by held z w k x law i so h front (b ∷ bs) e =
    let t = i.tied k in
    let link = t.link in
    let l = link.line in
    let f = (w.wires k).server_end in
    let all : AllAsked z w.logons k f (b ∷ bs) (x ∷ []) l.requests =
    subst (λ v. AllAsked z w.logons k f (b ∷ bs) v l.requests) h
    (subst (λ v. AllAsked z w.logons k f v (w.values.conns k).up l.requests) e (link.asked so)) in
    let one : (w.wires k).up ≡ b ∷ [] = e ∙ ap (λ v. b ∷ v) (no_more z w.logons k f b bs x l.requests all) in
    subst (IsTied z) (sym (served_world z w k b [] x [] so one h)) (served_tie z law held w k b x i so one h front)

pub dialog_serves : NothingIsRefused → DialogServesAreKept
dialog_serves held z w k x xs law i so h front =
    let one : (w.values.conns k).up ≡ x ∷ [] = h ∙ ap (λ v. x ∷ v) front.alone in
    serve_by held z w k x law i so one (subst (IsDialogFront z w k x) front.alone front) (w.wires k).up refl
