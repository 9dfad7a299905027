-- Each verdict of the checks keeps what holds of creates.
use Rattle.law_creates.proofs.Facing.{keeps_trees}
use Rattle.std.proofs.Common.{◌≡◌, ◌≢◌, ℕ, ◌+◌, ◌≤◌, ◌<◌, nat_le, Bool, true, false, not, ◌&&◌, if◌then◌else◌, List}
use Rattle.std.proofs.Common.{Option, Some, None, slice_get, is_some, refl, arith, sym, ◌∙◌, ap, subst, ◌⊎◌, inl, inr}
use Rattle.spec_exchange.specs.Status.{success}
use Rattle.spec_exchange.specs.Commands.{Command, Create, Close, CreateRequest, Durable, SetupRequest, create_form, form}
use Rattle.spec_exchange.specs.State.{Server, Message, Answer, Body}
use Rattle.spec_exchange.specs.CheckCreate.{keeps_guid, max_guids}
use Rattle.spec_exchange.specs.CheckOpen.{file_of}
use Rattle.spec_exchange.specs.Effects.{apply, reach, set_ranges, attached, next_open, open_row, new_file, guid_of}
use Rattle.spec_exchange.specs.Effects.{is_persistent, end_if_named, add_session, end_session}
use Rattle.spec_exchange.specs.Verdict.{Verdict, Refuse, Give, KeepRefusal, Repeat, Attach, Make, TurnDown, Tell, Show}
use Rattle.spec_exchange.specs.Verdict.{KeepSlot, PutRanges, Alter, CloseOpen, Challenge, ChallengeBinding, Begin, Join}
use Rattle.spec_exchange.specs.Verdict.{EndSession, AddTree, DropTree, Change}
use Rattle.spec_exchange.specs.Operations.{durable_of, is_unsettled, is_ok}
use Rattle.spec_exchange.specs.Client.{Client, guid_for}
use Rattle.spec_exchange.specs.Network.{Conn, Sent, Received, Token, ForDialog, ForOp, ForAttach}
use Rattle.spec_exchange.specs.Runs.{is_send_of, never_acted}
use Rattle.law_sessions.specs.messages.Connections.{Connections, makes_open, create_at, count_down}
use Rattle.law_sessions.proofs.messages.Lists.{own_up_count, own_down_count}
use Rattle.law_server.proofs.tables.Logic.{either, both}
use Rattle.law_server.proofs.tables.Found.{Facts, SessionFacts, MakeFacts, ShutFacts, AlterFacts, WriteFacts, SettingFacts}
use Rattle.law_sessions.specs.sessions.Sessions.{is_ops}
use Rattle.law_creates.specs.Creates.{Seen, seen, Creates, named, guid_at, is_full, refuses, outlives, keeps_form}
use Rattle.law_creates.specs.Creates.{ActedKept, DeadRefused, BarredReply, has_files, may_act}
use Rattle.law_creates.proofs.Words.{guid_once, zero_by}
use Rattle.law_creates.proofs.Moves.{shut_in}
use Rattle.law_creates.proofs.Requests.{create_asked, asks_create, asks_durable, asks_form, shuts_of, same_guid}
use Rattle.law_creates.proofs.Seeing.{reach_seen, slot_seen, change_seen, shut_seen, end_seen, make_seen}
use Rattle.law_creates.proofs.Facing.{Facing, rest, is_creating, other_send, own_create, of_op, once_of}
use Rattle.law_creates.proofs.Recount.{recount_creates}
use Rattle.law_creates.proofs.RefuseIn.{refuse_in_creates}
use Rattle.law_creates.proofs.AttachTo.{attach_to_creates}
use Rattle.law_creates.proofs.MakeNew.{make_new_creates}
use Rattle.law_creates.proofs.ShutIn.{shut_in_creates}
use Rattle.law_creates.proofs.EndOf.{end_of_creates}
use Rattle.law_creates.proofs.BeginOf.{begin_of_creates}
use Rattle.spec_exchange.specs.CheckSetup.{tree_in}

abbrev pub counted : (ℕ → ℕ) → Token → Bool → ℕ → ℕ
counted a tk acted h = if is_send_of h tk && acted then a h + 1 else a h

abbrev pub Kept : Client → (ℕ → Conn) → (ℕ → ℕ) → Token → Answer → Type 0
Kept c conns a tk A = Creates c conns (seen A.server) (counted a tk A.acted)

-- ---- counts

not_acted : (b acted : Bool) (n : ℕ) → acted ≡ false → (if b && acted then n + 1 else n) ≡ n
not_acted b acted n e = grind arith

not_sent : (b acted : Bool) (n : ℕ) → b ≡ false → (if b && acted then n + 1 else n) ≡ n
not_sent b acted n e = grind arith

-- the server as it was, but for what creates don't speak of
still : (c : Client) (conns : ℕ → Conn) (a : ℕ → ℕ) (tk : Token) (v w : Seen) (acted : Bool) → w ≡ v → acted ≡ false
    → Creates c conns v a → Creates c conns w (counted a tk acted)
still c conns a tk v w acted same off i = recount_creates c conns w a (counted a tk acted)
    (λ h mk. not_acted (is_send_of h tk) acted (a h) off) (subst (λ u. Creates c conns u a) (sym same) i)

-- it acted on another operation than a create
other : (c : Client) (conns : ℕ → Conn) (a : ℕ → ℕ) (tk : Token) (v w : Seen) (acted : Bool) → w ≡ v
    → ((h : ℕ) → makes_open (c.op h) ≡ true → is_send_of h tk ≡ false) → Creates c conns v a
    → Creates c conns w (counted a tk acted)
other c conns a tk v w acted same off i = recount_creates c conns w a (counted a tk acted)
    (λ h mk. not_sent (is_send_of h tk) acted (a h) (off h mk)) (subst (λ u. Creates c conns u a) (sym same) i)

no_create : (x y : Command) (r : Command → Bool) → x ≡ y → r y ≡ false → r x ≡ false
no_create x y r e f = ap r e ∙ f

-- ---- an open that is attached again

attaches : (c : Client) (conns : ℕ → Conn) (a : ℕ → ℕ) (t : Server) (k : ℕ) (x0 : Sent) (r : CreateRequest) (o : ℕ)
    → Facing c conns (rest t) k x0 → SessionFacts t x0.message → x0.message.command ≡ Create r
    → Creates c conns (seen t) a
    → Creates c conns (seen (attached t x0.message o)) a
attaches c conns a t k x0 r o fc on is i =
    either (λ u. Creates c conns (seen u) a) (is_some (t.session_of_open o)) _ _ (λ _. i)
    (λ _. attach_to_creates c conns (seen t) a x0.message.session_id o
    (fc.ranked k 0 x0 fc.front (of_op conns k x0 r i.dialog_up fc.front is))
    (fc.on_present x0.message.connection x0.message.session_id on.session_on) i)

-- ---- a create that acts

request_in : Command → CreateRequest → CreateRequest
request_in (Create request) other = request
request_in _ other = other

same_request : (a b : Command) (r q : CreateRequest) → a ≡ Create r → a ≡ b → b ≡ Create q → r ≡ q
unfolding request_in
same_request a b r q e f g = sym (ap (λ x. request_in x q) e) ∙ (ap (λ x. request_in x q) f ∙ ap (λ x. request_in x q) g)

not_full : (r : CreateRequest) (d : Durable) (n : ℕ) → r.durable ≡ Some d → (keeps_guid r && nat_le max_guids n) ≡ false → is_full n ≡ false
unfolding is_full
not_full r d n e f = grind arith

formed_of : (cmd : Command) (r : CreateRequest) → cmd ≡ Create r → form cmd ≡ None → is_some (create_form r) ≡ false
formed_of cmd r e f = let h : form (Create r) ≡ None = subst (λ x. form x ≡ None) e f in grind arith

keeps_by : (b : Bool) (n : Bool) → n ≡ not b → n ≡ false → b ≡ true
keeps_by b n e f = grind arith

-- what the message of a create is, where the checks let it make its open
pub record Own (c : Client) (g : ℕ) (t : Server) (m : Message) (r : CreateRequest) : Type 0 where
  pub client : m.client_guid ≡ c.who.guid
  pub durable : r.durable ≡ Some (durable_of (guid_at c g) (outlives (c.op g)))
  pub formed : may_act c g ≡ true
  pub unnamed : named c (seen t) g ≡ None
  pub unclosed : t.closed m.session_id (guid_at c g) ≡ false
  pub not_pending : t.expired_guids c.who.guid (guid_at c g) ≡ false
  pub unrefused : t.refused m.session_id (guid_at c g) ≡ None
  pub unfull : is_full (t.guids m.session_id) ≡ false

owns : (c : Client) (conns : ℕ → Conn) (a : ℕ → ℕ) (t : Server) (k : ℕ) (x0 : Sent) (r : CreateRequest)
    (found : Option ℕ) (action g : ℕ) → Connections c conns a → slice_get (conns k).up 0 ≡ Some x0
    → MakeFacts t x0.message r found action
    → ((x id : ℕ) (b : Bool) → tree_in (t.trees x) id ≡ Some b → has_files c.who.share ≡ not b) → x0.token ≡ ForOp g
    → makes_open (c.op g) ≡ true → Own c g t x0.message r
owns c conns a t k x0 r found action g f front mf kinds tk mk =
    let bd = f.bodies k 0 g x0 front tk in
    let ask = asks_create (c.op g) (guid_for c g) (c.file (create_at c g)) (c.slot_of g) (c.number_of g) mk in
    let same : r ≡ create_asked (c.op g) (guid_for c g) = same_request x0.message.command _ r _ mf.new.create.command bd.1 ask in
    let dur0 : r.durable ≡ Some (durable_of (guid_for c g) (outlives (c.op g))) = ap (λ q. q.durable) same
    ∙ asks_durable (c.op g) (guid_for c g) mk in
    let dur : r.durable ≡ Some (durable_of (guid_at c g) (outlives (c.op g))) =
    subst (λ n. r.durable ≡ Some (durable_of n (outlives (c.op g)))) (same_guid c g) dur0 in
    let d : Durable = durable_of (guid_at c g) (outlives (c.op g)) in
    record {
      client = bd.2;
      durable = dur;
      formed = both (keeps_form (c.op g)) (has_files c.who.share)
          (keeps_by (keeps_form (c.op g)) (is_some (create_form (create_asked (c.op g) (guid_for c g))))
          (asks_form (c.op g) (guid_for c g) mk) (subst (λ q. is_some (create_form q) ≡ false) same
          (formed_of x0.message.command r mf.new.create.command mf.new.create.session.formed)))
          (kinds x0.message.session_id x0.message.tree_id false mf.new.create.tree);
      unnamed = subst (λ p. t.by_guid p (guid_at c g) ≡ None) bd.2 (mf.new.no_open d dur);
      unclosed = mf.new.no_closed d dur;
      not_pending = subst (λ p. t.expired_guids p (guid_at c g) ≡ false) bd.2 (mf.new.not_expired d dur);
      unrefused = mf.new.no_refusal d dur;
      unfull = not_full r d (t.guids x0.message.session_id) dur mf.new.guids;
    }

idle_of : (c : Client) (conns : ℕ → Conn) (a : ℕ → ℕ) (t : Server) (k g : ℕ) (x0 : Sent) (r : CreateRequest)
    → ActedKept c conns (seen t) a → Own c g t x0.message r → slice_get (conns k).up 0 ≡ Some x0 → x0.token ≡ ForOp g
    → makes_open (c.op g) ≡ true
    → t.present x0.message.session_id ≡ true → a g ≡ 0
idle_of c conns a t k g x0 r kept own front tk mk there =
    zero_by (a g) (λ l. let q = kept k 0 g x0 front tk mk there l in let e1 = own.unnamed in let e2 = own.unclosed in
    let e3 = own.not_pending in grind arith)

alive_of : (c : Client) (conns : ℕ → Conn) (t : Server) (k g : ℕ) (x0 : Sent) (r : CreateRequest)
    → DeadRefused c conns (seen t) → Own c g t x0.message r → slice_get (conns k).up 0 ≡ Some x0 → x0.token ≡ ForOp g
    → makes_open (c.op g) ≡ true
    → t.present x0.message.session_id ≡ true → never_acted (c.outcome g) ≡ false
alive_of c conns t k g x0 r dead own front tk mk there = by_test (never_acted (c.outcome g)) refl
  where
    by_test : (b : Bool) → never_acted (c.outcome g) ≡ b → never_acted (c.outcome g) ≡ false
    by_test false e = e
    by_test true e = let q = dead k 0 g x0 front tk mk e there in let e1 = own.unrefused in let e2 = own.unfull in
        let e3 = own.formed in grind arith

silent_of : (c : Client) (conns : ℕ → Conn) (a : ℕ → ℕ) (t : Server) (k g : ℕ) (x0 : Sent) (r : CreateRequest)
    → Connections c conns a → Facing c conns (rest t) k x0 → BarredReply c conns (seen t) → Own c g t x0.message r
    → x0.token ≡ ForOp g → makes_open (c.op g) ≡ true → t.present x0.message.session_id ≡ true → 0 < c.rank x0.message.session_id
    → (j n : ℕ) (y : Received) → slice_get (conns j).down n ≡ Some y → y.token ≡ ForOp g → refuses (c.unanswered g) y.reply.status ≡ false
silent_of c conns a t k g x0 r f fc barred own tk mk there ranked j n y h e =
    let front = fc.front in
    let sent = (f.bodies k 0 g x0 front tk).0 in let above = (f.taken g sent).0 in
    let n2 = own_down_count g (conns j).down n y h e in let u2 = f.outstanding j g in let d2 = f.down_open j in
    by_before sent above (c.unanswered g) refl
  where
    out_at : 0 < g → c.outstanding_on g ≡ Some j
    out_at above = let n2 = own_down_count g (conns j).down n y h e in let u2 = f.outstanding j g in let d2 = f.down_open j in grind arith

    by_status : c.live ≡ true → c.session ≡ x0.message.session_id → (b : Bool) → c.unanswered g ≡ true
        → refuses true y.reply.status ≡ b → refuses true y.reply.status ≡ false
    by_status live same false bf q = q
    by_status live same true bf q =
        let w = barred j n g y h e mk bf q (grind arith) in let e1 = own.unrefused in let e2 = own.unfull in let e3 =
        own.formed in grind arith

    by_before : c.sent g ≡ true → 0 < g → (b : Bool) → c.unanswered g ≡ b → refuses b y.reply.status ≡ false
    by_before sent above false bf =
        let fs = f.first k 0 g x0 fc.front tk (once_of c g mk) bf in
        let n1 = own_up_count g (conns k).up 0 x0 fc.front tk in
        let u1 = f.outstanding k g fs.0 (omega (arith, n1)) above in
        let u2 = out_at above in
        let n2 = own_down_count g (conns j).down n y h e in
        let one = f.once k g in
        let same : j ≡ k = grind arith in
        absurd (omega (arith, one, n1, subst (λ q. 1 ≤ count_down g (conns q).down) same n2))
    by_before sent above true bf =
        let u2 = out_at above in let rd = f.on_ready g j u2 in let lv = (f.ready j rd.0).1 in
        let ls = fc.lives lv in
        by_status lv (ls.0 ∙ sym (fc.here x0.message.session_id there ranked)) (refuses true y.reply.status) bf refl

next_above : (s : Server) → next_open s ≡ (seen s).last + 1
next_above s = omega arith

one_more : (a : ℕ → ℕ) (tk : Token) (g : ℕ) → tk ≡ ForOp g → a g ≡ 0 → counted a tk true g ≡ 1
one_more a tk g e z = grind arith

same_others : (a : ℕ → ℕ) (tk : Token) (g h : ℕ) → tk ≡ ForOp g → h ≢ g → counted a tk true h ≡ a h
same_others a tk g h e d = grind arith

makes_it : (c : Client) (conns : ℕ → Conn) (a : ℕ → ℕ) (t : Server) (k : ℕ) (x0 : Sent) (now : ℕ) (r : CreateRequest)
    (found : Option ℕ) (action g : ℕ) → Connections c conns a → Facing c conns (rest t) k x0 → Creates c conns (seen t)
    a
    → MakeFacts t x0.message r found action → x0.token ≡ ForOp g → makes_open (c.op g) ≡ true → Kept c conns a x0.token
    (apply t x0.message now (Make r found action))
makes_it c conns a t k x0 now r found action g f fc i mf tk mk =
    let m = x0.message in
    let own = owns c conns a t k x0 r found action g f fc.front mf fc.kinds tk mk in
    let there = fc.on_present m.connection m.session_id mf.new.create.session.session_on in
    let ranked = fc.ranked k 0 x0 fc.front (of_op conns k x0 r i.dialog_up fc.front mf.new.create.command) in
    let idle = idle_of c conns a t k g x0 r i.acted_kept own fc.front tk mk there in
    let row = open_row t m r (new_file t found) action in
    let b : ℕ → ℕ = counted a x0.token true in
    subst (λ v. Creates c conns v b) (sym (make_seen t m r found action now (durable_of (guid_at c g) (outlives (c.op g))) own.durable))
    (make_new_creates c conns (seen t) a g m.session_id (next_open t) row b mk idle (one_more a x0.token g tk idle)
    own.formed (next_above t) ranked there own.client (ap guid_of own.durable) (ap is_persistent own.durable)
    (fc.users m.session_id there)
    (alive_of c conns t k g x0 r i.dead_refused own fc.front tk mk there)
    (silent_of c conns a t k g x0 r f fc i.barred_reply own tk mk there ranked)
    (λ h _ d. same_others a x0.token g h tk d) i)

-- ---- an open that is closed

-- the create of the open that a close names is settled
shut_settled : (c : Client) (conns : ℕ → Conn) (a : ℕ → ℕ) (t : Server) (k o : ℕ) (query : Bool) (x0 : Sent)
    → Connections c conns a → Facing c conns (rest t) k x0 → Creates c conns (seen t) a → x0.message.command
    ≡ Close o query → t.standing o ≡ true
    → (h : ℕ) → makes_open (c.op h) ≡ true → (t.opened o).client_guid ≡ c.who.guid → (t.opened o).create_guid
    ≡ Some (guid_at c h) → is_unsettled (c.outcome h) ≡ false
shut_settled c conns a t k o query x0 f fc i is stands h mk client guid = by_token x0.token refl
  where
    ok_settled : (q : ℕ) → q ≡ h → is_ok (c.outcome q) ≡ true → is_unsettled (c.outcome h) ≡ false
    ok_settled q e ok = let ok2 : is_ok (c.outcome h) ≡ true = subst (λ p. is_ok (c.outcome p) ≡ true) e ok in grind arith

    by_token : (tk : Token) → x0.token ≡ tk → is_unsettled (c.outcome h) ≡ false
    by_token ForDialog e = let d = i.dialog_up k 0 x0 fc.front e in absurd (grind arith)
    by_token (ForAttach g) e = let d = i.ask_up k 0 g x0 fc.front e in absurd (grind arith)
    by_token (ForOp g) e =
        let bd = f.bodies k 0 g x0 fc.front e in
        let sh = shuts_of (c.op g) (guid_for c g) (c.file (create_at c g)) (c.slot_of g) (c.number_of g) o query (sym bd.1 ∙ is) in
        let q : ℕ = create_at c g in
        let tk = f.taken g bd.0 in
        let qk = (f.creates g tk.0 tk.1 sh.0).2 in
        let ho = f.has_open g bd.0 in
        let ok : is_ok (c.outcome q) ≡ true = grind arith in
        let fg = i.file_guid q qk ok in
        let st : t.standing (c.file q) ≡ true = subst (λ p. t.standing p ≡ true) sh.1 stands in
        let gq = (fg.1 st).1 in
        let gh : (t.opened (c.file q)).create_guid ≡ Some (guid_at c h) = subst (λ p. (t.opened p).create_guid
        ≡ Some (guid_at c h)) sh.1 guid in
        let same : guid_at c q ≡ guid_at c h = grind arith in
        ok_settled q (guid_once c.who.salt q h same) ok

-- ---- sessions

ends_it : (c : Client) (conns : ℕ → Conn) (a : ℕ → ℕ) (t : Server) (k x now : ℕ) (x0 : Sent) (quiet : Bool)
    → Facing c conns (rest t) k x0 → Creates c conns (seen t) a → Creates c conns (seen (end_session t x now quiet)) a
ends_it c conns a t k x now x0 quiet fc i =
    subst (λ v. Creates c conns v a) (sym (end_seen t x now quiet))
    (end_of_creates c conns (seen t) a x fc.here (λ l. (fc.lives l).0) (λ j n h y w e. fc.ranked j n y w (ap is_ops e)) i)

named_ends : (c : Client) (conns : ℕ → Conn) (a : ℕ → ℕ) (t : Server) (k now : ℕ) (x0 : Sent) (quiet : Bool)
    → Facing c conns (rest t) k x0 → Creates c conns (seen t) a → (previous : Option ℕ)
    → Creates c conns (seen (end_if_named t now previous quiet)) a
named_ends c conns a t k now x0 quiet fc i None = i
named_ends c conns a t k now x0 quiet fc i (Some x) = ends_it c conns a t k x now x0 quiet fc i

begins_it : (c : Client) (conns : ℕ → Conn) (a : ℕ → ℕ) (t : Server) (k now : ℕ) (x0 : Sent) (user : List ℕ)
    (previous : Option ℕ) (r : SetupRequest) (quiet : Bool) → Facing c conns (rest t) k x0
    → c.rank x0.message.session_id ≡ 0 → Creates c conns (seen t) a
    → Creates c conns (seen (add_session (end_if_named t now previous quiet) x0.message user r)) a
begins_it c conns a t k now x0 user previous r quiet fc new i =
    begin_of_creates c conns (seen (end_if_named t now previous quiet)) a x0.message.session_id new
    (λ l. subst (λ y. 0 < c.rank y) (sym (fc.lives l).0) (fc.lives l).1)
    (λ j n h y w e. fc.ranked j n y w (ap is_ops e))
    (named_ends c conns a t k now x0 quiet fc i previous)

-- ---- by verdict

shuts_it : (c : Client) (conns : ℕ → Conn) (a : ℕ → ℕ) (t : Server) (k o now : ℕ) (x0 : Sent) → Connections c conns a
    → Facing c conns (rest t) k x0 → Creates c conns (seen t) a → (sf : ShutFacts t x0.message o)
    → Creates c conns (shut_in (seen t) o x0.message.session_id (t.opened o).create_guid) a
shuts_it c conns a t k o now x0 f fc i sf =
    let there = fc.on_present x0.message.connection x0.message.session_id sf.opened.tree.session.session_on in
    let at = i.attached o x0.message.session_id sf.opened.session_of_open in
    let mine = fc.here x0.message.session_id there at.0 in
    shut_in_creates c conns (seen t) a x0.message.session_id o (t.opened o).create_guid refl
    (shut_settled c conns a t k o sf.query x0 f fc i sf.command sf.opened.standing)
    (λ j n h y w e p. fc.here y.message.session_id p (fc.ranked j n y w (ap is_ops e)) ∙ sym mine) i

not_creating : (x y : Command) → x ≡ y → is_creating y ≡ false → is_creating x ≡ false
not_creating x y e f = ap is_creating e ∙ f

altered_other : (c : Client) (t : Server) (m : Message) (o : ℕ) (change : Change) (body : Body)
    → AlterFacts t m o change body → is_creating m.command ≡ false
altered_other c t m o change body af = by_asked af.asked
  where
    by_asked : (WriteFacts t m o change body ⊎ SettingFacts t m o change body) → is_creating m.command ≡ false
    by_asked (inl w) = not_creating _ _ w.command refl
    by_asked (inr w) = not_creating _ _ w.command refl

pub moved : (c : Client) (conns : ℕ → Conn) (a : ℕ → ℕ) (t : Server) (k : ℕ) (x0 : Sent) (now : ℕ)
    → Connections c conns a → Facing c conns (rest t) k x0 → Creates c conns (seen t) a → (v : Verdict)
    → Facts t x0.message v
    → Kept c conns a x0.token (apply t x0.message now v)
moved c conns a t k x0 now f fc i (Refuse status) w = still c conns a x0.token (seen t) _ false refl refl i
moved c conns a t k x0 now f fc i (Give body) w = still c conns a x0.token (seen t) _ false refl refl i
moved c conns a t k x0 now f fc i (KeepRefusal guid status) w =
    still c conns a x0.token _ _ false refl refl (refuse_in_creates c conns (seen t) a x0.message.session_id guid status w.refused i)
moved c conns a t k x0 now f fc i (Repeat o r) w =
    still c conns a x0.token _ _ false refl refl (attaches c conns a t k x0 r o fc w.create.session w.create.command i)
moved c conns a t k x0 now f fc i (Attach o r) w =
    still c conns a x0.token _ _ false refl refl (attaches c conns a t k x0 r o fc w.create.session w.create.command i)
moved c conns a t k x0 now f fc i (Make r found action) w =
    own_create c conns a k x0 r (Kept c conns a x0.token (apply t x0.message now (Make r found action))) f i.dialog_up
    i.ask_up fc.front w.new.create.command w.new.new
    (λ g tk mk. makes_it c conns a t k x0 now r found action g f fc i w tk mk)
moved c conns a t k x0 now f fc i (TurnDown o status) w = still c conns a x0.token (seen t) _ false (reach_seen t x0.message o) refl i
moved c conns a t k x0 now f fc i (Tell o body) w = still c conns a x0.token (seen t) _ false (reach_seen t x0.message o) refl i
moved c conns a t k x0 now f fc i (Show o last body) w = still c conns a x0.token (seen t) _ false (reach_seen t x0.message o) refl i
moved c conns a t k x0 now f fc i (KeepSlot o index number status elements) w =
    still c conns a x0.token (seen t) _ false (slot_seen (reach t x0.message o) o index number status ∙ reach_seen t x0.message o) refl i
moved c conns a t k x0 now f fc i (PutRanges o index number ranges elements) w =
    other c conns a x0.token (seen t) _ true (slot_seen (set_ranges (reach t x0.message o) (file_of t o) ranges) o index
    number success ∙ reach_seen t x0.message o)
    (other_send c conns a k x0 f fc.front (not_creating _ _ w.lock.command refl)) i
moved c conns a t k x0 now f fc i (Alter o change body) w =
    other c conns a x0.token (seen t) _ _ (change_seen (reach t x0.message o) (file_of t o) now change
    ∙ reach_seen t x0.message o)
    (other_send c conns a k x0 f fc.front (altered_other c t x0.message o change body w)) i
moved c conns a t k x0 now f fc i (CloseOpen o body) w =
    other c conns a x0.token _ _ true (shut_seen t o x0.message.session_id)
    (other_send c conns a k x0 f fc.front (not_creating _ _ w.command refl))
    (shuts_it c conns a t k o now x0 f fc i w)
moved c conns a t k x0 now f fc i Challenge w = still c conns a x0.token (seen t) _ false refl refl i
moved c conns a t k x0 now f fc i (ChallengeBinding session) w = still c conns a x0.token (seen t) _ false refl refl i
moved c conns a t k x0 now f fc i (Begin session user previous r is_quiet) w =
    other c conns a x0.token _ _ _ refl (other_send c conns a k x0 f fc.front (not_creating _ _ w.command refl))
    (begins_it c conns a t k now x0 user previous r is_quiet fc (fc.making x0.message.connection x0.message.session_id (grind arith)) i)
moved c conns a t k x0 now f fc i (Join session) w = still c conns a x0.token (seen t) _ false refl refl i
moved c conns a t k x0 now f fc i (EndSession session is_quiet) w =
    other c conns a x0.token _ _ _ refl (other_send c conns a k x0 f fc.front (not_creating _ _ w.command refl))
    (ends_it c conns a t k session now x0 is_quiet fc i)
moved c conns a t k x0 now f fc i (AddTree pipes) w = still c conns a x0.token (seen t) _ false refl refl i
moved c conns a t k x0 now f fc i DropTree w = absurd (keeps_trees c conns a k x0 f i.dialog_up i.ask_up fc.front w.command)
