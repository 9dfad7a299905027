-- A line's reply that is taken, and a dialog that is refused, leave a world tied.
use Rattle.std.proofs.Common.{◌≡◌, ℕ, ◌==◌, Bool, true, false, ◌&&◌, if◌then◌else◌, List, [], ◌∷◌, ◌++◌}
use Rattle.std.proofs.Common.{refl, sym, ap, ◌∙◌, subst, eqb-true, Option, Some, None}
use Rattle.spec_exchange.specs.Table.{put, is_filled}
use Rattle.spec_exchange.specs.Operations.{Op, Refusal, HadStatus}
use Rattle.spec_exchange.specs.State.{Reply}
use Rattle.spec_exchange.specs.Client.{Client, Stage, Apart, SaidNegotiate, SaidFirst, SaidSecond, AskedTree, end_session, note_refusal}
use Rattle.spec_exchange.specs.Settling.{Heard as Hearing, Settles, GoesAgain, Attaches, EndsSession, answered, heard, hear, is_awaited}
use Rattle.spec_exchange.specs.ClientStep.{Act, Nothing, act_heard}
use Rattle.spec_exchange.specs.Dialogs.{DialogStep, GoesOn, Accepts, Binds, Readies, Refuses, dialog_step}
use Rattle.spec_exchange.specs.Network.{Conn, Sent, Received, Token, ForDialog, ForOp, ForAttach, Take, with_client}
use Rattle.spec_exchange.specs.Network.{take_front, client_off, closed_by, dialog_took, is_possible}
use Rattle.spec_wire.specs.credits.Purse.{after_add}
use Rattle.spec_wire.specs.credits.Exchange.{Line, Step, hears, after_step, after_steps, first_line}
use Rattle.spec_wire.specs.credits.Exchange.{heard as heard_grants}
use Rattle.spec_commands.specs.ReplyOf.{reply_of}
use Rattle.spec_crypto.specs.declared.sessions.material.Keys.{Keys}
use Rattle.spec_world.specs.Settings.{WorldSettings}
use Rattle.spec_world.specs.Messages.{HeardMessage}
use Rattle.spec_world.specs.Ends.{ClientEnd, ServerEnd, Logons}
use Rattle.spec_world.specs.Dialog.{paid_in, line_response, dialog_response, status_due, dialog_fault}
use Rattle.spec_world.specs.World.{World, Wires, with_values, with_client_end, client_end_off, closed_wires, command_asked, op_heard}
use Rattle.spec_world.specs.World.{line_heard, line_hears, dialog_reply, dialog_wires, dialog_passed, dialog_hears, hears as hears_at}
use Rattle.spec_world.specs.World.{behind_frame, take_frame}
use Rattle.spec_world.specs.Events.{Plain, bytes_later, bytes_happen}
use Rattle.law_ties.specs.events.Fronts.{FrontHearsAs, OnLine, InDialog}
use Rattle.law_ties.specs.events.Links.{Shared, shared_of, AllAwaited, LinkAnswers, AllAnswer, LinkReached, Linked, is_lined, Tied}
use Rattle.law_ties.specs.events.Links.{TieOf, HasOwnKeys, Ties, IsTied}
use Rattle.law_ties.specs.events.InStep.{RepliesAreDue}
use Rattle.law_ties.specs.events.Taken.{OtherUp, OtherDown, IsAlone, TakesStayTied, TakesAreKept}
use Rattle.law_ties.proofs.events.Taking.{put_same, end_is}
use Rattle.law_ties.proofs.events.InStep.{has_frame_down, heard_at}
use Rattle.law_ties.proofs.events.Keeping.{false_open, client_closed, client_tie, other_stage}
use Rattle.law_ties.proofs.events.Columns.{Keeps, hear_keeps}

-- ---- an id that is awaited no more; the others are

keep_one : (awaited : ℕ → Option Token) (id q : ℕ) (t u : Token) → awaited id ≡ Some t → (u ≡ t → ⊥) → awaited q ≡ Some u
    → put awaited id None q ≡ Some u
keep_one awaited id q t u at off is = elim (q == id) as (λ b. q == id ≡ b → (if b then None else awaited q) ≡ Some u) [
  | true ↦ λ e. absurd (off (same_token (sym is ∙ (ap awaited (eqb-true q id e) ∙ at))))
  | false ↦ λ e. is
] refl
  where
    same_token : Some u ≡ Some t → u ≡ t
    same_token e = cc

awaited_less : (awaited : ℕ → Option Token) (id next : ℕ) (t : Token) (xs : List Sent) (qs : List (ℕ × ℕ)) → awaited id ≡ Some t
    → OtherUp t xs → AllAwaited awaited next xs qs → AllAwaited (put awaited id None) next xs qs
awaited_less awaited id next t [] [] at off all = tt
awaited_less awaited id next t (x ∷ xs) (q ∷ qs) at off all =
    (keep_one awaited id q.0 t x.token at off.0 all.0, all.1, awaited_less awaited id next t xs qs at off.1 all.2)
awaited_less awaited id next t [] (q ∷ qs) at off all = absurd all
awaited_less awaited id next t (x ∷ xs) [] at off all = absurd all

answer_less : (op : ℕ → Op) (keys : Keys) (encrypts : Bool) (awaited : ℕ → Option Token) (id next : ℕ) (t : Token) (b : List ℕ)
    (y : Received) (g : ℕ) → awaited id ≡ Some t → (y.token ≡ t → ⊥) → LinkAnswers op keys encrypts awaited next b y g
    → LinkAnswers op keys encrypts (put awaited id None) next b y g
answer_less op keys encrypts awaited id next t b y g at off a = record {
  heard = a.heard;
  opens = a.opens;
  awaits = keep_one awaited id a.heard.header.message t y.token at off a.awaits;
  below = a.below;
  same = a.same;
  body = a.body;
  credits = a.credits;
  tree = a.tree;
}

answers_less : (op : ℕ → Op) (keys : Keys) (encrypts : Bool) (awaited : ℕ → Option Token) (id next : ℕ) (t : Token)
    (bs : List (List ℕ)) (ys : List Received) (gs : List ℕ) → awaited id ≡ Some t → OtherDown t ys
    → AllAnswer op keys encrypts awaited next bs ys gs → AllAnswer op keys encrypts (put awaited id None) next bs ys gs
answers_less op keys encrypts awaited id next t [] [] [] at off all = tt
answers_less op keys encrypts awaited id next t (b ∷ bs) (y ∷ ys) (g ∷ gs) at off all = (
  answer_less op keys encrypts awaited id next t b y g at off.0 all.0,
  answers_less op keys encrypts awaited id next t bs ys gs at off.1 all.1,
)
answers_less op keys encrypts awaited id next t [] [] (g ∷ gs) at off all = absurd all
answers_less op keys encrypts awaited id next t [] (y ∷ ys) gs at off all = absurd all
answers_less op keys encrypts awaited id next t (b ∷ bs) [] gs at off all = absurd all
answers_less op keys encrypts awaited id next t (b ∷ bs) (y ∷ ys) [] at off all = absurd all

-- ---- a line's two ends behind it

after_more : (steps : List Step) (s : Step) (l : Line) → after_steps (steps ++ s ∷ []) l ≡ after_step s (after_steps steps l)
after_more [] s l = refl
after_more (t ∷ steps) s l = after_more steps s (after_step t l)

pub reach_more : (l : Line) (s : Step) → LinkReached l → LinkReached (after_step s l)
reach_more l s r =
    record { steps = r.steps ++ s ∷ []; is = ap (after_step s) r.is ∙ sym (after_more r.steps s first_line) }

pub record TookLine (z : WorldSettings) (op : ℕ → Op) (s : Shared) (k : ℕ) (so : Bool) (n : ClientEnd) (f : ServerEnd)
    (up : List (List ℕ)) (b : List ℕ) (bs : List (List ℕ)) (xs : List Sent) (y : Received) (ys : List Received) : Type 0 where
  pub heard : HeardMessage
  pub opens : line_response n b ≡ Some heard
  pub awaits : n.awaited heard.header.message ≡ Some y.token
  pub linked : Linked z op s k true so (paid_in n heard.header) f up bs xs ys

pub took_link : (z : WorldSettings) (op : ℕ → Op) (s : Shared) (k : ℕ) (so : Bool) (n : ClientEnd) (f : ServerEnd) (up : List (List ℕ))
    (b : List ℕ) (bs : List (List ℕ)) (xs : List Sent) (y : Received) (ys : List Received)
    (i : Linked z op s k true so n f up (b ∷ bs) xs (y ∷ ys)) → OtherUp y.token xs → OtherDown y.token ys → (gs : List ℕ)
    → i.line.grants ≡ gs → AllAnswer op n.keys n.encrypts n.awaited n.purse.next (b ∷ bs) (y ∷ ys) gs
    → TookLine z op s k so n f up b bs xs y ys
took_link z op s k so n f up b bs xs y ys i off below [] e all = absurd all
took_link z op s k so n f up b bs xs y ys i off below (g ∷ gs) e all =
    let l = i.line in
    let a = all.0 in
    let x = a.heard in
    let more : Line = record l { purse = after_add g l.purse; grants = gs } in
    let is : after_step hears l ≡ more = ap (λ v. heard_grants v l) e in record {
      heard = x;
      opens = a.opens n refl refl;
      awaits = a.awaits;
      linked = record {
        line = more;
        reached = subst LinkReached is (reach_more l hears i.reached);
        purse = ap (λ c. after_add c n.purse) a.credits ∙ ap (after_add g) i.purse;
        window = i.window;
        counted = i.counted;
        asked = i.asked;
        awaited = λ c o. awaited_less n.awaited x.header.message n.purse.next y.token xs l.requests a.awaits off (i.awaited c o);
        answers = λ c. answers_less op n.keys n.encrypts n.awaited x.header.message n.purse.next y.token bs ys gs a.awaits below all.1;
        session_fits = i.session_fits;
        sealable = i.sealable;
        keys = i.keys;
        encrypts = i.encrypts;
        greeted = i.greeted;
      };
    }

-- ---- tables that were changed once and twice

pub both_twice : (P : ℕ → Conn → Wires → Type 0) (conns : ℕ → Conn) (wires : ℕ → Wires) (k : ℕ) (d : Conn) (a : Wires) (h : Wires → Wires)
    → P k d (h a) → ((j : ℕ) → (j == k) ≡ false → P j (conns j) (wires j)) → (j : ℕ)
    → P j (put conns k d j) (put (put wires k a) k (h (put wires k a k)) j)
both_twice P conns wires k d a h here there j =
    subst (λ v. P j (put conns k d j) (put (put wires k a) k (h v) j)) (sym (put_same wires k a))
    (elim (j == k) as (λ b. j == k ≡ b → P j (if b then d else conns j) (if b then h a else (if b then a else wires j))) [
      | true ↦ λ e. subst (λ q. P q d (h a)) (sym (eqb-true j k e)) here
      | false ↦ λ e. there j e
    ] refl)

-- ---- what the client makes of it

pub kept_ties : (z : WorldSettings) (c d : Client) (keys : Keys) (L : Logons) (conns : ℕ → Conn) (wires : ℕ → Wires) → Keeps c d
    → Ties z c keys L conns wires → Ties z d keys L conns wires
kept_ties z c d keys L conns wires s i = record {
  tied = λ j. subst (λ o. TieOf z o (shared_of d keys L) j (conns j) (wires j)) (sym s.op)
      (subst (λ n. TieOf z c.op (record { session = n; pending = d.pending; keys = keys; logons = L }) j (conns j) (wires j))
      (sym s.session)
      (subst (λ n. TieOf z c.op (record { session = c.session; pending = n; keys = keys; logons = L }) j (conns j) (wires j))
      (sym s.pending) (i.tied j)));
  stages = λ j o. i.stages j o ∙ ap (λ (f : ℕ → Stage). f j) (sym s.stage);
  nexts = i.nexts;
  own_keys = subst (λ (r : ℕ → ℕ). HasOwnKeys z keys L r d.accepted) (sym s.rank)
      (subst (λ a. HasOwnKeys z keys L c.rank a) (sym s.accepted) i.own_keys);
}

ended_ties : (z : WorldSettings) (c : Client) (g : ℕ) (keys : Keys) (L : Logons) (conns : ℕ → Conn) (wires : ℕ → Wires)
    → Ties z c keys L conns wires
    → Ties z (end_session (answered c g)) keys L (λ j. client_off (conns j)) (λ j. client_end_off (wires j))
ended_ties z c g keys L conns wires i = record {
  tied = λ j. client_tie z c.op (shared_of c keys L) j (conns j) (wires j) (i.tied j);
  stages = λ j o. false_open o;
  nexts = λ j o. false_open o;
  own_keys = i.own_keys;
}

abbrev heard_act : Bool → Hearing → Act
heard_act awaited h = if awaited then act_heard h else Nothing

abbrev heard_world : World → ℕ → ClientEnd → Bool → Hearing → Client → World
heard_world w k n awaited h d =
    with_values (closed_wires (with_client_end w k n) k (heard_act awaited h))
    (with_client (closed_by w.values k (heard_act awaited h)) (if awaited then d else w.values.client))

heard_ties : (z : WorldSettings) (w : World) (k g : ℕ) (asking : Bool) (r : Reply) (place : ℕ) (n : ClientEnd) (awaited : Bool)
    (h : Hearing) → Ties z w.values.client w.keys w.logons w.values.conns (with_client_end w k n).wires
    → IsTied z (heard_world w k n awaited h (hear w.values.client g asking r place h))
heard_ties z w k g asking r place n false h i = i
heard_ties z w k g asking r place n true EndsSession i =
    ended_ties z w.values.client g w.keys w.logons w.values.conns (with_client_end w k n).wires i
heard_ties z w k g asking r place n true (Settles o) i =
    kept_ties z w.values.client (hear w.values.client g asking r place (Settles o)) w.keys w.logons w.values.conns
    (with_client_end w k n).wires (hear_keeps w.values.client g asking r place (Settles o) refl) i
heard_ties z w k g asking r place n true GoesAgain i =
    kept_ties z w.values.client (hear w.values.client g asking r place GoesAgain) w.keys w.logons w.values.conns
    (with_client_end w k n).wires (hear_keeps w.values.client g asking r place GoesAgain refl) i
heard_ties z w k g asking r place n true Attaches i =
    kept_ties z w.values.client (hear w.values.client g asking r place Attaches) w.keys w.logons w.values.conns
    (with_client_end w k n).wires (hear_keeps w.values.client g asking r place Attaches refl) i

op_ties : (z : WorldSettings) (w : World) (k g : ℕ) (asking : Bool) (x : HeardMessage) (place : ℕ)
    → Ties z w.values.client w.keys w.logons w.values.conns (with_client_end w k (paid_in (w.wires k).client_end x.header)).wires
    → IsTied z (op_heard w k g asking x place)
op_ties z w k g asking x place i =
    let c = w.values.client in
    let r = reply_of (command_asked c g asking) x.header x.bytes in
    heard_ties z w k g asking r place (paid_in (w.wires k).client_end x.header) (is_awaited c k g asking) (heard c g asking r) i

token_ties : (z : WorldSettings) (w : World) (k : ℕ) (x : HeardMessage) (place : ℕ) (t : Token) → (t ≡ ForDialog → ⊥)
    → Ties z w.values.client w.keys w.logons w.values.conns (with_client_end w k (paid_in (w.wires k).client_end x.header)).wires
    → IsTied z (line_heard w k x place (Some t))
token_ties z w k x place ForDialog own i = absurd (own refl)
token_ties z w k x place (ForOp g) own i = op_ties z w k g false x place i
token_ties z w k x place (ForAttach g) own i = op_ties z w k g true x place i

-- ---- on a line

line_tie : (z : WorldSettings) (op : ℕ → Op) (s : Shared) (k : ℕ) (co so : Bool) (n : ClientEnd) (f : ServerEnd) (up : List (List ℕ))
    (b : List ℕ) (bs : List (List ℕ)) (xs : List Sent) (y : Received) (ys : List Received) → co ≡ true → n.stage ≡ Apart
    → Tied z op s k co so n f up (b ∷ bs) xs (y ∷ ys) → (t : TookLine z op s k so n f up b bs xs y ys)
    → Tied z op s k co so (paid_in n t.heard.header) f up bs xs ys
line_tie z op s k co so n f up b bs xs y ys co_is apart i t =
    let x = t.heard in
    let lined : (co && is_lined n.stage) ≡ true = ap (λ q. q && is_lined n.stage) co_is ∙ ap is_lined apart in record {
      link = subst (λ c. Linked z op s k c so (paid_in n x.header) f up bs xs ys) (sym lined) t.linked;
      bound_keys = i.bound_keys;
      talk = λ c off. absurd (let h : true ≡ false = sym (ap is_lined apart) ∙ off in cc);
      purse = λ c off. absurd (let h : true ≡ false = sym (ap is_lined apart) ∙ off in cc);
      logon = i.logon;
      salted = i.salted;
    }

-- the lists named
pub tied_lists : (z : WorldSettings) (w : World) (k : ℕ) (b : List ℕ) (bs : List (List ℕ)) (y : Received) (ys : List Received) → IsTied z w
    → (w.wires k).down ≡ b ∷ bs → (w.values.conns k).down ≡ y ∷ ys
    → Tied z w.values.client.op (shared_of w.values.client w.keys w.logons) k (w.values.conns k).client_open
    (w.values.conns k).server_open (w.wires k).client_end (w.wires k).server_end (w.wires k).up (b ∷ bs) (w.values.conns k).up (y ∷ ys)
tied_lists z w k b bs y ys i e h =
    let c = w.values.client in
    let u = w.wires k in
    let d = w.values.conns k in
    subst (λ v. Tied z c.op (shared_of c w.keys w.logons) k d.client_open d.server_open u.client_end u.server_end u.up v d.up (y ∷ ys)) e
    (subst (λ v. Tied z c.op (shared_of c w.keys w.logons) k d.client_open d.server_open u.client_end u.server_end u.up u.down d.up v) h
    (i.tied k))

took_line : (z : WorldSettings) (w : World) (k : ℕ) (b : List ℕ) (bs : List (List ℕ)) (y : Received) (ys : List Received) → IsTied z w
    → (w.values.conns k).client_open ≡ true → (w.wires k).client_end.stage ≡ Apart → (y.token ≡ ForDialog → ⊥)
    → (w.wires k).down ≡ b ∷ bs → (w.values.conns k).down ≡ y ∷ ys → IsAlone w k y ys → IsTied z (take_frame z w k (b ∷ bs) (y ∷ ys))
took_line z w k b bs y ys i co apart own e h alone =
    let c = w.values.client in
    let u = w.wires k in
    let d = w.values.conns k in
    let n = u.client_end in
    let s = shared_of c w.keys w.logons in
    let t = tied_lists z w k b bs y ys i e h in
    let lined : (d.client_open && is_lined n.stage) ≡ true = ap (λ q. q && is_lined n.stage) co ∙ ap is_lined apart in
    let link : Linked z c.op s k true d.server_open n u.server_end u.up (b ∷ bs) d.up (y ∷ ys) =
    subst (λ q. Linked z c.op s k q d.server_open n u.server_end u.up (b ∷ bs) d.up (y ∷ ys)) lined t.link in
    let l = link.line in
    let T = took_link z c.op s k d.server_open n u.server_end u.up b bs d.up y ys link alone.up alone.down l.grants refl
    (link.answers refl) in
    let x = T.heard in
    let v = behind_frame w k bs ys in
    let p = take_front d ys in
    let a : Wires = record u { down = bs } in
    let paid = λ (q : Wires). (let m : Wires = record q { client_end = paid_in q.client_end x.header } in m) in
    let tie : TieOf z c.op s k p (paid a) =
    line_tie z c.op s k d.client_open d.server_open n u.server_end u.up b bs d.up y ys co apart t T in
    let base : Ties z c w.keys w.logons v.values.conns (with_client_end v k (paid_in (v.wires k).client_end x.header)).wires = record {
      tied = both_twice (TieOf z c.op s) w.values.conns w.wires k p a paid tie (λ j q. i.tied j);
      stages = both_twice (λ j r q. r.client_open ≡ true → q.client_end.stage ≡ c.stage j) w.values.conns w.wires k p a paid (i.stages k)
          (λ j q. i.stages j);
      nexts = both_twice (λ j r q. r.client_open ≡ true → q.client_end.purse.next ≡ r.next_id) w.values.conns w.wires k p a paid
          (i.nexts k) (λ j q. i.nexts j);
      own_keys = i.own_keys;
    } in
    let is = end_is w k bs ys in
    let opens : line_response (v.wires k).client_end b ≡ Some x = ap (λ m. line_response m b) is ∙ T.opens in
    let awaits : (v.wires k).client_end.awaited x.header.message ≡ Some y.token =
    ap (λ (m : ClientEnd). m.awaited x.header.message) is ∙ T.awaits in
    let world : take_frame z w k (b ∷ bs) (y ∷ ys) ≡ line_heard v k x y.place (Some y.token) =
    ap (hears_at z v k b y.place) apart ∙ (ap (line_hears v k y.place) opens ∙ ap (line_heard v k x y.place) awaits) in
    subst (IsTied z) (sym world) (token_ties z v k x y.place y.token own base)

-- ---- a dialog that is refused

refused_step : (stage : Stage) (status : ℕ) → (status == status_due stage) ≡ false → dialog_step stage status ≡ Refuses status
refused_step Apart status e = refl
refused_step (SaidNegotiate bound) status e = ap (λ b. if b then GoesOn (SaidFirst bound) else Refuses status) e
refused_step (SaidFirst bound) status e = ap (λ b. if b then GoesOn (SaidSecond bound) else Refuses status) e
refused_step (SaidSecond bound) status e = ap (λ b. if b then (if bound then Binds else Accepts) else Refuses status) e
refused_step AskedTree status e = ap (λ b. if b then Readies else Refuses status) e

none_if : (b : Bool) (o : Option Refusal) → b ≡ false → (if b then o else None) ≡ None
none_if true o e = absurd (let h : true ≡ false = e in cc)
none_if false o e = refl

abbrev pub passed_world : WorldSettings → World → ℕ → Stage → HeardMessage → DialogStep → World
passed_world z w k stage x s = with_values (dialog_wires z w k stage x s) (dialog_took w.values k (dialog_reply w stage x) s)

refused_passed : (z : WorldSettings) (w : World) (k : ℕ) (stage : Stage) (x : HeardMessage) (o : Option HeardMessage) → o ≡ Some x
    → (x.header.status == status_due stage) ≡ false → dialog_hears z w k stage o ≡ passed_world z w k stage x (Refuses x.header.status)
refused_passed z w k stage x o opens off =
    ap (dialog_hears z w k stage) opens
    ∙ (ap (dialog_passed z w k stage x)
    (none_if (x.header.status == status_due stage) (dialog_fault z.client (w.wires k).client_end stage x) off)
    ∙ ap (passed_world z w k stage x) (refused_step stage x.header.status off))

refused_hears : (z : WorldSettings) (w : World) (k : ℕ) (b : List ℕ) (place : ℕ) (stage : Stage) (x : HeardMessage) → (stage ≡ Apart → ⊥)
    → dialog_response (w.wires k).client_end stage b ≡ Some x → (x.header.status == status_due stage) ≡ false
    → hears_at z w k b place stage ≡ passed_world z w k stage x (Refuses x.header.status)
refused_hears z w k b place Apart x off opens not_due = absurd (off refl)
refused_hears z w k b place (SaidNegotiate bound) x off opens not_due =
    refused_passed z w k (SaidNegotiate bound) x (dialog_response (w.wires k).client_end (SaidNegotiate bound) b) opens not_due
refused_hears z w k b place (SaidFirst bound) x off opens not_due =
    refused_passed z w k (SaidFirst bound) x (dialog_response (w.wires k).client_end (SaidFirst bound) b) opens not_due
refused_hears z w k b place (SaidSecond bound) x off opens not_due =
    refused_passed z w k (SaidSecond bound) x (dialog_response (w.wires k).client_end (SaidSecond bound) b) opens not_due
refused_hears z w k b place AskedTree x off opens not_due =
    refused_passed z w k AskedTree x (dialog_response (w.wires k).client_end AskedTree b) opens not_due

-- the tables were changed twice, and the client's end closed
pub closed_twice : (P : ℕ → Conn → Wires → Type 0) (conns : ℕ → Conn) (wires : ℕ → Wires) (k : ℕ) (d : Conn) (a : Wires)
    → P k (client_off d) (client_end_off a) → ((j : ℕ) → (j == k) ≡ false → P j (conns j) (wires j)) → (j : ℕ)
    → P j (put (put conns k d) k (client_off (put conns k d k)) j) (put (put wires k a) k (client_end_off (put wires k a k)) j)
closed_twice P conns wires k d a here there j =
    subst (λ v. P j (put (put conns k d) k (client_off v) j) (put (put wires k a) k (client_end_off (put wires k a k)) j))
    (sym (put_same conns k d))
    (subst (λ v. P j (put (put conns k d) k (client_off d) j) (put (put wires k a) k (client_end_off v) j)) (sym (put_same wires k a))
    (elim (j == k) as (λ b. j == k ≡ b → P j (if b then client_off d else (if b then d else conns j))
    (if b then client_end_off a else (if b then a else wires j))) [
      | true ↦ λ e. subst (λ q. P q (client_off d) (client_end_off a)) (sym (eqb-true j k e)) here
      | false ↦ λ e. there j e
    ] refl))

refused_ties : (z : WorldSettings) (w : World) (k : ℕ) (bs : List (List ℕ)) (ys : List Received) (stage : Stage) (x : HeardMessage)
    (status : ℕ) → IsTied z w → IsTied z (passed_world z (behind_frame w k bs ys) k stage x (Refuses status))
refused_ties z w k bs ys stage x status i =
    let c = w.values.client in
    let d = w.values.conns k in
    let u = w.wires k in
    let s = shared_of c w.keys w.logons in
    let p = take_front d ys in
    let a : Wires = record u { down = bs } in
    let e = note_refusal c k (HadStatus status) in record {
      tied = closed_twice (TieOf z c.op s) w.values.conns w.wires k p a
          (client_closed z c.op s k d.client_open d.server_open u.client_end u.server_end u.up u.down d.up d.down (i.tied k))
          (λ j q. i.tied j);
      stages = closed_twice (λ j r q. r.client_open ≡ true → q.client_end.stage ≡ e.stage j) w.values.conns w.wires k p a
          (λ o. false_open o) (λ j q o. i.stages j o ∙ sym (other_stage c.stage k j Apart q));
      nexts = closed_twice (λ j r q. r.client_open ≡ true → q.client_end.purse.next ≡ r.next_id) w.values.conns w.wires k p a
          (λ o. false_open o) (λ j q. i.nexts j);
      own_keys = i.own_keys;
    }

refused_front : (z : WorldSettings) (w : World) (k : ℕ) (b : List ℕ) (bs : List (List ℕ)) (y : Received) (ys : List Received)
    → IsTied z w → ((w.wires k).client_end.stage ≡ Apart → ⊥) → (y.reply.status == status_due (w.wires k).client_end.stage) ≡ false
    → FrontHearsAs z w.values.client.op (w.wires k).client_end b y → IsTied z (take_frame z w k (b ∷ bs) (y ∷ ys))
refused_front z w k b bs y ys i off not_due (OnLine h) = absurd (off h.stage)
refused_front z w k b bs y ys i off not_due (InDialog h) =
    let n = (w.wires k).client_end in
    let v = behind_frame w k bs ys in
    let x = h.heard in
    let same = h.same in
    let opens : dialog_response (v.wires k).client_end n.stage b ≡ Some x = ap (λ m. dialog_response m n.stage b)
    (end_is w k bs ys) ∙ h.opens in
    let told : (x.header.status == status_due n.stage) ≡ false = ap (λ q. q == status_due n.stage) same.status ∙ not_due in
    subst (IsTied z) (sym (refused_hears z v k b y.place n.stage x off opens told))
    (refused_ties z w k bs ys n.stage x x.header.status i)

-- ---- a Take

-- the world behind it
pub taken_world : (z : WorldSettings) (w : World) (k : ℕ) (b : List ℕ) (bs : List (List ℕ)) (y : Received) (ys : List Received)
    → (w.values.conns k).client_open ≡ true → (w.wires k).down ≡ b ∷ bs → (w.values.conns k).down ≡ y ∷ ys
    → bytes_happen z w (Plain (Take k)) ≡ bytes_later (take_frame z w k (b ∷ bs) (y ∷ ys)) 1
unfolding is_filled
taken_world z w k b bs y ys co e h =
    let can : is_possible w.values (Take k) ≡ true =
    ap (λ q. q && is_filled (w.values.conns k).down) co ∙ ap is_filled h in
    ap (λ q. if q then bytes_later (take_frame z w k (w.wires k).down (w.values.conns k).down) 1 else w) can
    ∙ (ap (λ q. bytes_later (take_frame z w k q (w.values.conns k).down) 1) e
    ∙ ap (λ q. bytes_later (take_frame z w k (b ∷ bs) q) 1) h)

pub later_tied : (z : WorldSettings) (w : World) (n : ℕ) → IsTied z w → IsTied z (bytes_later w n)
later_tied z w n i = i

take_tied : (z : WorldSettings) (w : World) (k : ℕ) (y : Received) (ys : List Received) → IsTied z w → RepliesAreDue w
    → (w.values.conns k).client_open ≡ true → (w.values.conns k).down ≡ y ∷ ys
    → (bs : List (List ℕ)) → (w.wires k).down ≡ bs → TakesStayTied z w k y ys
take_tied z w k y ys i whose co h [] e = absurd (has_frame_down z w k y ys i co e h)
take_tied z w k y ys i whose co h (b ∷ bs) e =
    let n = (w.wires k).client_end in
    let at = i.stages k co in
    let world = taken_world z w k b bs y ys co e h in record {
      line = λ apart alone. subst (IsTied z) (sym world)
          (later_tied z (take_frame z w k (b ∷ bs) (y ∷ ys)) 1
          (took_line z w k b bs y ys i co (at ∙ apart) (whose.operations k y ys co apart h) e h alone));
      refused = λ off not_due. subst (IsTied z) (sym world)
          (later_tied z (take_frame z w k (b ∷ bs) (y ∷ ys)) 1
          (refused_front z w k b bs y ys i (λ s. off (sym at ∙ s)) (ap (λ q. y.reply.status == status_due q) at ∙ not_due)
          (heard_at z w k b bs y ys i whose co e h n.stage refl)));
    }

pub takes_kept : TakesAreKept
takes_kept z w k y ys i whose co h = take_tied z w k y ys i whose co h (w.wires k).down refl
