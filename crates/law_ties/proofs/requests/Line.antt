-- A Serve of a line's request leaves a world tied.
use Rattle.std.proofs.Common.{◌≡◌, ℕ, ◌+◌, ◌^◌, ◌<◌, ◌≤◌, ◌==◌, Bool, true, false, not, ◌&&◌, if◌then◌else◌, List, [], ◌∷◌}
use Rattle.std.proofs.Common.{◌++◌, length, take, refl, sym, ap, ◌∙◌, subst, eqb-true, arith, Option, Some, None, is_some}
use Rattle.spec_exchange.specs.Table.{put, is_filled}
use Rattle.spec_exchange.specs.Status.{success}
use Rattle.spec_exchange.specs.Commands.{Command}
use Rattle.spec_exchange.specs.State.{Reply}
use Rattle.spec_exchange.specs.Network.{World as Values, Conn, Sent, Received, Serve, answer, behind_front, say_down}
use Rattle.spec_exchange.specs.Network.{serve_front, is_possible}
use Rattle.spec_wire.specs.messages.Places.{number}
use Rattle.spec_wire.specs.credits.Ids.{counted, outside}
use Rattle.spec_wire.specs.credits.Window.{HeldIds, granted, after_take}
use Rattle.spec_wire.specs.credits.Exchange.{Line, FrontIsHeld, NothingIsRefused}
use Rattle.spec_commands.specs.CommandOf.{message_of}
use Rattle.spec_commands.specs.ReplyBody.{reply_body}
use Rattle.spec_crypto.specs.declared.sessions.material.Keys.{Keys}
use Rattle.spec_world.specs.Settings.{WorldSettings, draw}
use Rattle.spec_world.specs.Messages.{HeardMessage}
use Rattle.spec_world.specs.Ends.{signer_on}
use Rattle.spec_world.specs.Hearing.{is_negotiate, is_setup, window_behind, behind_turn, Checked, checked_as, is_misplaced, is_probe}
use Rattle.spec_world.specs.Logon.{Stays, progress, token_in, answer_token_by, logons_behind, signer_by, unless_faulty}
use Rattle.spec_world.specs.Answering.{SaidReply, said_body}
use Rattle.spec_world.specs.Connection.{told_of, said_to, went_by, beginning, answered}
use Rattle.spec_world.specs.World.{World, Wires, answered_wires, served_on, served_by, step_at, serve_frame}
use Rattle.spec_world.specs.Events.{Plain, bytes_later, bytes_happen}
use Rattle.law_ties.specs.wire_facts.Lawful.{heard_under, IsLawful}
use Rattle.law_ties.specs.events.Fronts.{MayServe}
use Rattle.law_ties.specs.events.Links.{shared_of, is_line, Asked, AllAsked, AllAwaited, LinkAnswers, Linked, is_lined}
use Rattle.law_ties.specs.events.Links.{Tied, TieOf, Ties, IsTied}
use Rattle.law_ties.proofs.events.Taking.{put_same}
use Rattle.law_ties.proofs.events.Serving.{step_is, told_at, said_values}
use Rattle.law_ties.proofs.events.InStep.{next_low, front_held, has_frame_up}
use Rattle.law_ties.specs.requests.Lines.{is_lines, ReplyFits, TellsToken, IsLineFront, LineServesAreKept}
use Rattle.law_ties.proofs.requests.Commands.{line_header, line_stays, line_signer, well_placed, line_asks}
use Rattle.law_ties.proofs.requests.Answering.{LineStep, answer_frame, one_line}
use Rattle.law_ties.proofs.requests.Hearing.{plain_flags, told_header, with_flags, IsSaid, answered_to, body_told, tree_told}
use Rattle.law_ties.proofs.requests.Linking.{end_behind, window_is, served_link}

-- ---- the front of a line, with what waits behind it

pub record Split (z : WorldSettings) (w : World) (k : ℕ) (b : List ℕ) (bs : List (List ℕ)) (x : Sent) (xs : List Sent)
    (l : Line) : Type 0 where
  pub bill : ℕ × ℕ
  pub bills : List (ℕ × ℕ)
  pub is : l.requests ≡ bill ∷ bills
  pub asked : Asked z w.logons k (w.wires k).server_end b x bill
  pub rest : AllAsked z w.logons k (w.wires k).server_end bs xs bills

pub split_by : (z : WorldSettings) (w : World) (k : ℕ) (b : List ℕ) (bs : List (List ℕ)) (x : Sent) (xs : List Sent) (l : Line)
    (rs : List (ℕ × ℕ)) → l.requests ≡ rs → AllAsked z w.logons k (w.wires k).server_end (b ∷ bs) (x ∷ xs) rs
    → Split z w k b bs x xs l
split_by z w k b bs x xs l [] e all = absurd all
split_by z w k b bs x xs l (q ∷ qs) e all = record { bill = q; bills = qs; is = e; asked = all.0; rest = all.1 }

-- ---- small words

key_of : (o : Option Keys) → is_some o ≡ true → (keys : Keys) × (o ≡ Some keys)
key_of None e = absurd (let h : false ≡ true = e in cc)
key_of (Some keys) e = (keys, refl)

same_keys : (o : Option Keys) (a b : Keys) → o ≡ Some a → o ≡ Some b → a ≡ b
same_keys o a b e f = (let h : Some a ≡ Some b = sym e ∙ f in cc)

no_probe : (echo zeros : Bool) → echo ≡ false → (echo && zeros) ≡ false
no_probe true zeros e = absurd (let q : true ≡ false = e in cc)
no_probe false zeros e = refl

line_there : (first second : Bool) → first ≡ false → second ≡ false → (not first && not second) ≡ true
line_there first second e f = ap (λ b. not b && not second) e ∙ ap not f

pub few_granted : (asked : ℕ) (w : HeldIds) → granted asked w < 256 ^ 2
few_granted asked w = omega arith

not_taken : {X : Type 0} (b c : Bool) (x y : X) → b ≡ false → (if b && c then x else y) ≡ y
not_taken true c x y e = absurd (let h : true ≡ false = e in cc)
not_taken false c x y e = refl

pub body_is : (guid salt : List ℕ) (now : ℕ) (c : Checked) (token : List ℕ) (command : Command) (r : Reply) → is_negotiate c.header ≡ false
    → said_body guid salt now c token command r ≡ reply_body token command r
unfolding said_body
body_is guid salt now c token command r e =
    not_taken (is_negotiate c.header) (r.status == success) _ (reply_body token command r) e

-- ---- what the server's end makes of it

abbrev pub fresh_of : WorldSettings → World → List ℕ
fresh_of z w = take 8 (draw z.seed w.draws)

abbrev pub checked_of : World → ℕ → Bool → HeardMessage → Checked
checked_of w k sealed x = checked_as (w.wires k).server_end sealed false true x

abbrev pub said_of : WorldSettings → World → ℕ → Bool → HeardMessage → Sent → SaidReply
said_of z w k sealed h x =
    let F = behind_turn (w.wires k).server_end h.header in
    said_to z.server k w.values.moment (fresh_of z w) F w.logons F.window (checked_of w k sealed h) x.message.command
    (answer w.values x)

abbrev pub token_of : WorldSettings → World → ℕ → HeardMessage → Sent → List ℕ
token_of z w k h x =
    answer_token_by z.server.users (w.logons.pending k) (token_in h.bytes) (fresh_of z w) w.values.moment
    (progress x.message.command (answer w.values x).reply)

pub record IsServed (z : WorldSettings) (w : World) (k : ℕ) (b : List ℕ) (x : Sent) (q : ℕ × ℕ)
    (a : Asked z w.logons k (w.wires k).server_end b x q) : Type 0 where
  pub keys : Keys
  pub has : (w.wires k).server_end.keys ≡ Some keys
  pub sealing : a.reads.sealed ≡ (w.wires k).server_end.encrypts
  pub first : is_negotiate a.reads.heard.header ≡ false
  pub line : is_line a.reads.heard ≡ true
  pub step :
      LineStep (step_at z w k b) w.logons (end_behind (w.wires k).server_end a.reads.heard.header a.reads.sealed)
      (answer_frame keys (behind_turn (w.wires k).server_end a.reads.heard.header) a.reads.sealed
      (said_of z w k a.reads.sealed a.reads.heard x))
  pub said :
      IsSaid (said_of z w k a.reads.sealed a.reads.heard x)
      (told_header a.reads.heard.header (answer w.values x).reply
      (granted a.reads.heard.header.credits (window_behind (w.wires k).server_end.window a.reads.heard.header)) plain_flags)
      (reply_body (token_of z w k a.reads.heard x) x.message.command (answer w.values x).reply) keys.signing

pub served : (z : WorldSettings) (w : World) (k : ℕ) (b : List ℕ) (x : Sent) (q : ℕ × ℕ)
    (a : Asked z w.logons k (w.wires k).server_end b x q) → MayServe (w.wires k).server_end q → is_lines x.message.command ≡ true
    → IsServed z w k b x q a
served z w k b x q a may line =
    let f = (w.wires k).server_end in
    let r = a.reads in
    let h = r.heard.header in
    let F = behind_turn f h in
    let c = checked_of w k r.sealed r.heard in
    let m = x.message in
    let A = answer w.values x in
    let now = w.values.moment in
    let fresh = fresh_of z w in
    let told = told_of z.server w.logons k f c in
    let read : message_of told h r.heard.bytes ≡ Some m =
    well_placed (is_misplaced c) (message_of told h r.heard.bytes) (Some m) a.apart r.message in
    let both = line_header told h r.heard.bytes m read line in
    let asks : is_probe h r.heard.bytes ≡ false =
    no_probe (h.command == 13) (number 8 r.heard.bytes 40 == 0) (line_asks told h r.heard.bytes m read line) in
    let there : is_line r.heard ≡ true = line_there (is_negotiate h) (is_setup h) both.0 both.1 in
    let owed = a.sealing there in
    let key = key_of f.keys owed.1 in
    let stays : progress m.command A.reply ≡ Stays = line_stays m.command A.reply line in
    let G = went_by z.server k now fresh F (beginning w.values.server w.logons F) c m A in
    let said = said_of z w k r.sealed r.heard x in
    let one = one_line F r.sealed key.0 G.server G.logons G.window G.carried G.taken said key.1 may.nonce stays both.0 in
    let same : G.logons ≡ w.logons = ap (logons_behind z.server.users w.logons k F c fresh now) stays in record {
      keys = key.0;
      has = key.1;
      sealing = owed.0;
      first = both.0;
      line = there;
      step = subst (λ S. LineStep S w.logons (end_behind f h r.sealed) (answer_frame key.0 F r.sealed said))
          (sym (step_is z w k b x q r may))
          (subst (λ L. LineStep (answered F r.sealed G) L (end_behind f h r.sealed) (answer_frame key.0 F r.sealed said)) same one);
      said = record {
        header = refl;
        says = body_is z.server.guid F.salt now c (token_of z w k r.heard x) m.command A.reply both.0;
        signer = ap (λ (o : Option ℕ). unless_faulty o
            (signer_by A.server z.server.users w.logons k F c m.command A.reply.status (progress m.command A.reply))) a.fault
            ∙ (ap (signer_by A.server z.server.users w.logons k F c m.command A.reply.status) stays
            ∙ (line_signer A.server w.logons F c m.command A.reply.status line
            ∙ (ap (λ b. if b then None else signer_on F.keys) asks ∙ ap signer_on key.1)));
      };
    }

-- ---- what the client hears of it

answers_it : (z : WorldSettings) → IsLawful z → (w : World) (k : ℕ) (b : List ℕ) (x : Sent) (q : ℕ × ℕ)
    (a : Asked z w.logons k (w.wires k).server_end b x q) (v : IsServed z w k b x q a) (l : Line) (place : ℕ)
    → ReplyFits x.message.command (answer w.values x).reply
    → TellsToken z w.values.client.op x.token x.message.command (answer w.values x).reply
    → (w.wires k).server_end.window ≡ l.window → (w.wires k).server_end.keys ≡ Some (w.wires k).client_end.keys
    → (w.wires k).server_end.encrypts ≡ (w.wires k).client_end.encrypts → (w.wires k).client_end.keys.session < 2 ^ 64
    → (w.wires k).client_end.awaited q.0 ≡ Some x.token → q.0 < (w.wires k).client_end.purse.next
    → LinkAnswers w.values.client.op (w.wires k).client_end.keys (w.wires k).client_end.encrypts (w.wires k).client_end.awaited
    (w.wires k).client_end.purse.next
    (answer_frame v.keys (behind_turn (w.wires k).server_end a.reads.heard.header) a.reads.sealed
    (said_of z w k a.reads.sealed a.reads.heard x))
    (record { token = x.token; reply = (answer w.values x).reply; place = place }) (granted 512 (after_take q.0 q.1 l.window))
answers_it z law w k b x q a v l place fits tells window same_key same_seal id awaits below =
    let f = (w.wires k).server_end in
    let n = (w.wires k).client_end in
    let r = a.reads in
    let h = r.heard.header in
    let F = behind_turn f h in
    let reply = (answer w.values x).reply in
    let command = x.message.command in
    let said = said_of z w k r.sealed r.heard x in
    let credits = granted h.credits (window_behind f.window h) in
    let token = token_of z w k r.heard x in
    let body = reply_body token command reply in
    let keys : n.keys ≡ v.keys = same_keys f.keys n.keys v.keys same_key v.has in
    let seals : n.encrypts ≡ r.sealed = sym same_seal ∙ sym v.sealing in
    let small : v.keys.session < 2 ^ 64 = subst (λ (c : Keys). c.session < 2 ^ 64) keys id in
    let t = answered_to z law h command reply credits body said v.keys F r.sealed
    (record { charge = a.charge_fits; command = a.command_fits; message = a.message_fits }) fits
    (few_granted h.credits (window_behind f.window h)) small (fits.short token) v.said in
    let head = with_flags (told_header h reply credits plain_flags) t.flags in record {
      heard = heard_under head t.bytes;
      opens = λ m e g. t.opens m (e ∙ keys) (g ∙ seals);
      awaits = ap n.awaited r.id ∙ awaits;
      below = subst (λ i. i < n.purse.next) (sym r.id) below;
      same = record { status = refl; session = refl; tree = refl };
      body = body_told z law w.values.client.op head t.bytes token x.token command reply tells t.fits refl t.is;
      credits = ap (λ c. granted c (window_behind f.window h)) a.credits
          ∙ ap (granted 512) (window_is f h l q a.counts window r.id r.charge);
      tree = λ e ok. (
        a.tree e v.line,
        tree_told z law w.values.client.op head t.bytes token x.token command reply e tells t.fits
            (eqb-true reply.status success ok) t.is,
      );
    }

-- ---- the connection behind it

pub conn_twice : (P : ℕ → Conn → Wires → Type 0) (conns : ℕ → Conn) (wires : ℕ → Wires) (k : ℕ) (d : Conn) (h : Conn → Conn) (u : Wires)
    → P k (h d) u → ((j : ℕ) → (j == k) ≡ false → P j (conns j) (wires j)) → (j : ℕ)
    → P j (put (put conns k d) k (h (put conns k d k)) j) (put wires k u j)
conn_twice P conns wires k d h u here there j =
    subst (λ v. P j (put (put conns k d) k (h v) j) (put wires k u j)) (sym (put_same conns k d))
    (elim (j == k) as (λ b. j == k ≡ b → P j (if b then h d else (if b then d else conns j)) (if b then u else wires j)) [
      | true ↦ λ e. subst (λ q. P q (h d) u) (sym (eqb-true j k e)) here
      | false ↦ λ e. there j e
    ] refl)

-- by whether the client's end is open
abbrev pub said_conn : Conn → List Sent → Received → Bool → Conn
said_conn d xs y b =
    let p = behind_front d xs in if b then record p { down = d.down ++ y ∷ [] } else p

closed_off : (a b : Bool) → a ≡ false → (a && b) ≡ true → ⊥
closed_off true b e f = let h : true ≡ false = e in cc
closed_off false b e f = let h : false ≡ true = f in cc

pub open_by : (d : Conn) (xs : List Sent) (y : Received) (P : Bool → Type 0) → P d.client_open → (b : Bool)
    → P (said_conn d xs y b).client_open
open_by d xs y P p true = p
open_by d xs y P p false = p

pub next_by : (d : Conn) (xs : List Sent) (y : Received) (next : ℕ) → (d.client_open ≡ true → next ≡ d.next_id) → (b : Bool)
    → (said_conn d xs y b).client_open ≡ true → next ≡ (said_conn d xs y b).next_id
next_by d xs y next p true o = p o
next_by d xs y next p false o = p o

-- one front, of which the server's end and frame are given
served_tie : (z : WorldSettings) → IsLawful z → NothingIsRefused → (w : World) (k : ℕ) (b : List ℕ) (bs : List (List ℕ)) (x : Sent)
    (xs : List Sent) (place : ℕ) → IsTied z w → (w.values.conns k).server_open ≡ true → (w.wires k).up ≡ b ∷ bs
    → (w.values.conns k).up ≡ x ∷ xs → IsLineFront z w k x → IsTied z (serve_frame z w k (b ∷ bs) (x ∷ xs))
served_tie z law held w k b bs x xs place i so e h front =
    let c = w.values.client in
    let u = w.wires k in
    let d = w.values.conns k in
    let n = u.client_end in
    let f = u.server_end in
    let s = shared_of c w.keys w.logons in
    let t = i.tied k in
    let co = d.client_open && is_lined n.stage in
    let link : Linked z c.op s k co true n f (b ∷ bs) u.down (x ∷ xs) d.down =
    subst (λ o. Linked z c.op s k co o n f (b ∷ bs) u.down (x ∷ xs) d.down) so
    (subst (λ v. Linked z c.op s k co d.server_open n f v u.down (x ∷ xs) d.down) e
    (subst (λ v. Linked z c.op s k co d.server_open n f u.up u.down v d.down) h t.link)) in
    let l = link.line in
    let p = split_by z w k b bs x xs l l.requests refl (link.asked refl) in
    let q = p.bill in
    let qs = p.bills in
    let a = p.asked in
    let r = a.reads in
    let hd = r.heard.header in
    let none : outside l.window.held q.0 (counted q.1) ≡ None =
    subst (λ (rs : List (ℕ × ℕ)). FrontIsHeld rs l.window) p.is (front_held held l link.reached) in
    let low = next_low held l link.reached in
    let count : f.counter + length (q ∷ qs) ≤ l.purse.next = subst (λ rs. f.counter + length rs ≤ l.purse.next) p.is (link.counted refl) in
    let may : MayServe f q = record {
      held = ap (λ (v : HeldIds). outside v.held q.0 (counted q.1)) (link.window refl) ∙ none;
      nonce = omega (arith, count, low);
    } in
    let v = served z w k b x q a may front.line in
    let S = step_at z w k b in
    let T = v.step in
    let E = end_behind f hd r.sealed in
    let frame = answer_frame v.keys (behind_turn f hd) r.sealed (said_of z w k r.sealed r.heard x) in
    let y : Received = record { token = x.token; reply = (answer w.values x).reply; place = w.values.log.places } in
    let waits : co ≡ true → AllAwaited n.awaited n.purse.next (x ∷ xs) (q ∷ qs) =
    λ o. subst (λ rs. AllAwaited n.awaited n.purse.next (x ∷ xs) rs) p.is (link.awaited o refl) in
    let one = λ (o : co ≡ true). (let g = waits o in
    answers_it z law w k b x q a v l w.values.log.places front.fits front.tells (link.window refl) (link.keys o refl)
    (link.encrypts o refl) (link.session_fits o) g.0 g.1) in
    let linked = λ (more : List (List ℕ)) (told : List Received)
    (lists : co ≡ true → (more ≡ u.down ++ frame ∷ []) × (told ≡ d.down ++ y ∷ [])).
    served_link z c.op s k co n f b bs u.down more x xs d.down told frame y link q qs a p.is p.rest none v.first lists one in
    let tied : (more : List (List ℕ)) (told : List Received)
    → (co ≡ true → (more ≡ u.down ++ frame ∷ []) × (told ≡ d.down ++ y ∷ []))
    → Tied z c.op s k d.client_open d.server_open n E bs more xs told =
    λ more told lists. (record {
      link = subst (λ o. Linked z c.op s k co o n E bs more xs told) (sym so) (linked more told lists);
      bound_keys = t.bound_keys;
      talk = λ o off. absurd (let g : true ≡ false = sym (front.lined o) ∙ off in cc);
      purse = t.purse;
      logon = t.logon;
      salted = t.salted;
    }) in
    let told : (o : Bool) → d.client_open ≡ o → TieOf z c.op s k (said_conn d xs y o) (answered_wires u o E bs (frame ∷ [])) =
    λ o. elim o as (λ o. d.client_open ≡ o → TieOf z c.op s k (said_conn d xs y o) (answered_wires u o E bs (frame ∷ []))) [
      | true ↦ λ is. tied (u.down ++ frame ∷ []) (d.down ++ y ∷ []) (λ g. (refl, refl))
      | false ↦ λ is. tied u.down d.down (λ g. absurd (closed_off d.client_open (is_lined n.stage) is g))
    ] in
    let base : Ties z c w.keys w.logons (serve_front w.values k (x ∷ xs)).conns
    (put w.wires k (answered_wires u d.client_open E bs (frame ∷ []))) = record {
      tied = conn_twice (TieOf z c.op s) w.values.conns w.wires k (behind_front d xs) (λ g. say_down g y)
          (answered_wires u d.client_open E bs (frame ∷ [])) (told d.client_open refl) (λ j g. i.tied j);
      stages = conn_twice (λ j r g. r.client_open ≡ true → g.client_end.stage ≡ c.stage j) w.values.conns w.wires k (behind_front d xs)
          (λ g. say_down g y) (answered_wires u d.client_open E bs (frame ∷ []))
          (open_by d xs y (λ g. g ≡ true → n.stage ≡ c.stage k) (i.stages k) d.client_open)
          (λ j g. i.stages j);
      nexts = conn_twice (λ j r g. r.client_open ≡ true → g.client_end.purse.next ≡ r.next_id) w.values.conns w.wires k (behind_front d xs)
          (λ g. say_down g y) (answered_wires u d.client_open E bs (frame ∷ [])) (next_by d xs y n.purse.next (i.nexts k) d.client_open)
          (λ j g. i.nexts j);
      own_keys = i.own_keys;
    } in
    let values : (served_on w k bs xs x.token S).values ≡ serve_front w.values k (x ∷ xs) =
    sym (ap (λ o. (served_by w k bs xs x.token S o).values) T.ends) ∙ said_values w k bs x xs S (told_at z w k b x q r may) in
    subst (λ o. IsTied z (served_by w k bs xs x.token S o)) (sym T.ends)
    (subst (λ (V : Values). Ties z V.client w.keys S.logons V.conns
    (put w.wires k (answered_wires u d.client_open S.server_end bs S.frames)))
    (sym values)
    (subst (λ L. Ties z c w.keys L (serve_front w.values k (x ∷ xs)).conns
    (put w.wires k (answered_wires u d.client_open S.server_end bs S.frames))) (sym T.logons)
    (subst (λ g. Ties z c w.keys w.logons (serve_front w.values k (x ∷ xs)).conns
    (put w.wires k (answered_wires u d.client_open g bs S.frames))) (sym T.server_end)
    (subst (λ g. Ties z c w.keys w.logons (serve_front w.values k (x ∷ xs)).conns
    (put w.wires k (answered_wires u d.client_open E bs g))) (sym T.frames) base))))

-- ---- a Serve

pub served_world : (z : WorldSettings) (w : World) (k : ℕ) (b : List ℕ) (bs : List (List ℕ)) (x : Sent) (xs : List Sent)
    → (w.values.conns k).server_open ≡ true → (w.wires k).up ≡ b ∷ bs → (w.values.conns k).up ≡ x ∷ xs
    → bytes_happen z w (Plain (Serve k)) ≡ bytes_later (serve_frame z w k (b ∷ bs) (x ∷ xs)) 1
unfolding is_filled
served_world z w k b bs x xs so e h =
    let can : is_possible w.values (Serve k) ≡ true = ap (λ q. q && is_filled (w.values.conns k).up) so ∙ ap is_filled h in
    ap (λ q. if q then bytes_later (serve_frame z w k (w.wires k).up (w.values.conns k).up) 1 else w) can
    ∙ (ap (λ q. bytes_later (serve_frame z w k q (w.values.conns k).up) 1) e
    ∙ ap (λ q. bytes_later (serve_frame z w k (b ∷ bs) q) 1) h)

later_tied : (z : WorldSettings) (w : World) (n : ℕ) → IsTied z w → IsTied z (bytes_later w n)
later_tied z w n i = i

serve_by : NothingIsRefused → (z : WorldSettings) (w : World) (k : ℕ) (x : Sent) (xs : List Sent) → IsLawful z → IsTied z w
    → (w.values.conns k).server_open ≡ true → (w.values.conns k).up ≡ x ∷ xs → IsLineFront z w k x → (bs : List (List ℕ))
    → (w.wires k).up ≡ bs → IsTied z (bytes_happen z w (Plain (Serve k)))
serve_by held z w k x xs law i so h front [] e = absurd (has_frame_up z w k x xs i so e h)
serve_by held z w k x xs law i so h front (b ∷ bs) e =
    subst (IsTied z) (sym (served_world z w k b bs x xs so e h))
    (later_tied z (serve_frame z w k (b ∷ bs) (x ∷ xs)) 1 (served_tie z law held w k b bs x xs 0 i so e h front))

pub line_serves : NothingIsRefused → LineServesAreKept
line_serves held z w k x xs law i so h front = serve_by held z w k x xs law i so h front (w.wires k).up refl
