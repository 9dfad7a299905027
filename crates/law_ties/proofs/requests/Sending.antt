-- A line's request goes up, and both ends stay tied.
use Rattle.std.proofs.Common.{◌≡◌, ℕ, ◌+◌, ◌<◌, ◌≤◌, nat_le, Bool, true, false, ◌&&◌, List, [], ◌∷◌}
use Rattle.std.proofs.Common.{◌++◌, length, length-append, refl, sym, ap, ◌∙◌, subst, arith, Option, Some}
use Rattle.spec_exchange.specs.Table.{put}
use Rattle.spec_exchange.specs.Operations.{Op}
use Rattle.spec_exchange.specs.State.{Message}
use Rattle.spec_exchange.specs.Client.{Apart}
use Rattle.spec_exchange.specs.Network.{Conn, Sent, Received, Token, ForDialog, send_up}
use Rattle.spec_commands.specs.BodyOf.{number_of_command}
use Rattle.spec_wire.specs.credits.Ids.{counted}
use Rattle.spec_wire.specs.credits.Purse.{Credits, after_spend}
use Rattle.spec_wire.specs.credits.Exchange.{Line, sends, after_step, sent_if}
use Rattle.spec_crypto.specs.declared.sessions.material.Keys.{Keys}
use Rattle.spec_world.specs.Settings.{WorldSettings}
use Rattle.spec_world.specs.Ends.{ClientEnd, ServerEnd, Logons}
use Rattle.spec_world.specs.Sending.{line_frame, spent, sealed_on}
use Rattle.spec_world.specs.World.{Wires, queued}
use Rattle.law_ties.specs.wire_facts.Lawful.{IsLawful}
use Rattle.law_ties.specs.events.Links.{Shared, shared_of, is_operations, Asked, AllAsked, AllAwaited, LinkAnswers}
use Rattle.law_ties.specs.events.Links.{AllAnswer, LinkReached, Linked}
use Rattle.law_ties.specs.events.Links.{is_lined, TieOf}
use Rattle.law_ties.proofs.events.Keeping.{both_tables, put_other}
use Rattle.law_ties.proofs.events.Taking.{put_same}
use Rattle.law_ties.proofs.events.Took.{reach_more}
use Rattle.law_ties.specs.requests.Sending.{IsLineMessage, LineSendsAreKept}
use Rattle.law_ties.proofs.requests.Asking.{no_dialogs, asked_new}

-- ---- lists that go together, by one more

asked_push : (z : WorldSettings) (L : Logons) (k : ℕ) (f : ServerEnd) (bs : List (List ℕ)) (xs : List Sent) (qs : List (ℕ × ℕ))
    (b : List ℕ) (x : Sent) (q : ℕ × ℕ) → AllAsked z L k f bs xs qs → Asked z L k f b x q
    → AllAsked z L k f (bs ++ b ∷ []) (xs ++ x ∷ []) (qs ++ q ∷ [])
asked_push z L k f [] [] [] b x q all one = (one, tt)
asked_push z L k f (c ∷ bs) (y ∷ xs) (p ∷ qs) b x q all one = (all.0, asked_push z L k f bs xs qs b x q all.1 one)
asked_push z L k f [] [] (p ∷ qs) b x q all one = absurd all
asked_push z L k f [] (y ∷ xs) qs b x q all one = absurd all
asked_push z L k f (c ∷ bs) [] qs b x q all one = absurd all
asked_push z L k f (c ∷ bs) (y ∷ xs) [] b x q all one = absurd all

awaited_push : (awaited : ℕ → Option Token) (next more : ℕ) (token : Token) (xs : List Sent) (qs : List (ℕ × ℕ)) (x : Sent) (q : ℕ × ℕ)
    → x.token ≡ token → q.0 ≡ next → next < more → AllAwaited awaited next xs qs
    → AllAwaited (put awaited next (Some token)) more (xs ++ x ∷ []) (qs ++ q ∷ [])
awaited_push awaited next more token [] [] x q is at less all =
    (ap (put awaited next (Some token)) at ∙ (put_same awaited next (Some token) ∙ ap Some (sym is)), omega (arith, at, less), tt)
awaited_push awaited next more token (y ∷ xs) (p ∷ qs) x q is at less all = (
  put_other awaited next (Some token) p.0 all.1 ∙ all.0,
  (let low = all.1 in omega (arith, low, less)),
  awaited_push awaited next more token xs qs x q is at less all.2,
)
awaited_push awaited next more token [] (p ∷ qs) x q is at less all = absurd all
awaited_push awaited next more token (y ∷ xs) [] x q is at less all = absurd all

answer_later : (op : ℕ → Op) (keys : Keys) (encrypts : Bool) (awaited : ℕ → Option Token) (next more : ℕ) (token : Token) (b : List ℕ)
    (y : Received) (g : ℕ) → next < more → LinkAnswers op keys encrypts awaited next b y g
    → LinkAnswers op keys encrypts (put awaited next (Some token)) more b y g
answer_later op keys encrypts awaited next more token b y g less a =
    let low = a.below in record {
      heard = a.heard;
      opens = a.opens;
      awaits = put_other awaited next (Some token) a.heard.header.message low ∙ a.awaits;
      below = omega (arith, low, less);
      same = a.same;
      body = a.body;
      credits = a.credits;
      tree = a.tree;
    }

answers_later : (op : ℕ → Op) (keys : Keys) (encrypts : Bool) (awaited : ℕ → Option Token) (next more : ℕ) (token : Token)
    (bs : List (List ℕ)) (ys : List Received) (gs : List ℕ) → next < more → AllAnswer op keys encrypts awaited next bs ys gs
    → AllAnswer op keys encrypts (put awaited next (Some token)) more bs ys gs
answers_later op keys encrypts awaited next more token [] [] [] less all = tt
answers_later op keys encrypts awaited next more token (b ∷ bs) (y ∷ ys) (g ∷ gs) less all = (
  answer_later op keys encrypts awaited next more token b y g less all.0,
  answers_later op keys encrypts awaited next more token bs ys gs less all.1,
)
answers_later op keys encrypts awaited next more token [] [] (g ∷ gs) less all = absurd all
answers_later op keys encrypts awaited next more token [] (y ∷ ys) gs less all = absurd all
answers_later op keys encrypts awaited next more token (b ∷ bs) [] gs less all = absurd all
answers_later op keys encrypts awaited next more token (b ∷ bs) (y ∷ ys) [] less all = absurd all

-- ---- both ends

sent_line : (b : Bool) (charge : ℕ) (l : Line) → b ≡ true
    → sent_if b charge l ≡ record l { purse = after_spend charge l.purse; requests = l.requests ++ (l.purse.next, charge) ∷ [] }
sent_line true charge l e = refl
sent_line false charge l e = absurd (let h : false ≡ true = e in cc)

more_counted : (c r n cost : ℕ) → c + r ≤ n → 1 ≤ counted cost → c + (r + 1) ≤ n + counted cost
more_counted c r n cost e f = omega (arith, e, f)

one_at_least : (n : ℕ) → 1 ≤ counted n
one_at_least n = omega arith

rises : (n cost : ℕ) → n < n + counted cost
rises n cost = omega arith

pub sent_link : (z : WorldSettings) → IsLawful z → (op : ℕ → Op) (s : Shared) (k : ℕ) (so : Bool) (n : ClientEnd) (f : ServerEnd)
    (up down : List (List ℕ)) (xs : List Sent) (ys : List Received) (token : Token) (m : Message) (charge : ℕ)
    → Linked z op s k true so n f up down xs ys → (token ≡ ForDialog → number_of_command m.command ≡ 3) → IsLineMessage z n k m charge
    → Linked z op s k true so (sealed_on (spent n charge token)) f (up ++ line_frame n m charge ∷ []) down
    (xs ++ record { token = token; message = m } ∷ []) ys
sent_link z law op s k so n f up down xs ys token m charge i ops mine =
    let l = i.line in
    let x : Sent = record { token = token; message = m } in
    let q : ℕ × ℕ = (l.purse.next, charge) in
    let more : Line = record l { purse = after_spend charge l.purse; requests = l.requests ++ q ∷ [] } in
    let next : n.purse.next ≡ l.purse.next = ap (λ (c : Credits). c.next) i.purse in
    let paid : nat_le (counted charge) l.purse.held ≡ true = ap (λ (c : Credits). nat_le (counted charge) c.held)
    (sym i.purse) ∙ mine.paid in
    let is : after_step (sends charge) l ≡ more = sent_line (nat_le (counted charge) l.purse.held) charge l paid in
    let less : n.purse.next < n.purse.next + counted charge = rises n.purse.next charge in record {
      line = more;
      reached = subst LinkReached is (reach_more l (sends charge) i.reached);
      purse = ap (after_spend charge) i.purse;
      window = i.window;
      counted = λ o. subst (λ r. f.counter + r ≤ l.purse.next + counted charge) (sym (length-append l.requests (q ∷ [])))
          (more_counted f.counter (length l.requests) l.purse.next charge (i.counted o) (one_at_least charge));
      asked = λ o. asked_push z s.logons k f up xs l.requests (line_frame n m charge) x q (i.asked o)
          (asked_new z law s.logons n f k token m charge l.purse.next mine ops (i.session_fits refl) (i.sealable refl) (i.keys refl o)
          (i.encrypts refl o) (let g = i.greeted refl o in g.0) (let g = i.greeted refl o in g.1) next);
      awaited = λ c o. awaited_push n.awaited n.purse.next (n.purse.next + counted charge) token xs l.requests x q refl (sym next) less
          (i.awaited c o);
      answers = λ c. answers_later op n.keys n.encrypts n.awaited n.purse.next (n.purse.next + counted charge) token down ys l.grants less
          (i.answers c);
      session_fits = i.session_fits;
      sealable = i.sealable;
      keys = i.keys;
      encrypts = i.encrypts;
      greeted = i.greeted;
    }

sent_tie : (z : WorldSettings) → IsLawful z → (op : ℕ → Op) (s : Shared) (k : ℕ) (d : Conn) (u : Wires) (token : Token) (m : Message)
    (charge : ℕ) → d.client_open ≡ true → u.client_end.stage ≡ Apart → is_operations token ≡ true → IsLineMessage z u.client_end k m charge
    → TieOf z op s k d u
    → TieOf z op s k (send_up d token m charge)
    (queued u (sealed_on (spent u.client_end charge token)) (line_frame u.client_end m charge))
sent_tie z law op s k d u token m charge co apart ops mine t =
    let n = u.client_end in
    let f = u.server_end in
    let lined : (d.client_open && is_lined n.stage) ≡ true = ap (λ b. b && is_lined n.stage) co ∙ ap is_lined apart in
    let link : Linked z op s k true d.server_open n f u.up u.down d.up d.down =
    subst (λ c. Linked z op s k c d.server_open n f u.up u.down d.up d.down) lined t.link in
    let next = sent_link z law op s k d.server_open n f u.up u.down d.up d.down token m charge link
    (λ e. absurd (no_dialogs token ops e)) mine in record {
      link = subst (λ c. Linked z op s k c d.server_open (sealed_on (spent n charge token)) f (u.up ++ line_frame n m charge ∷ []) u.down
          (d.up ++ record { token = token; message = m } ∷ []) d.down) (sym lined) next;
      bound_keys = t.bound_keys;
      talk = λ c off. absurd (let h : true ≡ false = sym (ap is_lined apart) ∙ off in cc);
      purse = λ c off. absurd (let h : true ≡ false = sym (ap is_lined apart) ∙ off in cc);
      logon = t.logon;
      salted = t.salted;
    }

at_least : (n : ℕ) → 1 ≤ n → counted n ≡ n
at_least n e = omega (arith, e)

pub line_sends : LineSendsAreKept
line_sends z w k token m charge law i co apart ops mine =
    let c = w.values.client in
    let s = shared_of c w.keys w.logons in
    let d = w.values.conns k in
    let u = w.wires k in
    let n = u.client_end in
    let p = send_up d token m charge in
    let v = queued u (sealed_on (spent n charge token)) (line_frame n m charge) in record {
      tied = both_tables (TieOf z c.op s) w.values.conns w.wires k p v
          (sent_tie z law c.op s k d u token m charge co apart ops mine (i.tied k)) (λ j e. i.tied j);
      stages = both_tables (λ j r q. r.client_open ≡ true → q.client_end.stage ≡ c.stage j) w.values.conns w.wires k p v (i.stages k)
          (λ j e. i.stages j);
      nexts = both_tables (λ j r q. r.client_open ≡ true → q.client_end.purse.next ≡ r.next_id) w.values.conns w.wires k p v
          (λ o. (let e = i.nexts k o in let g = at_least charge mine.positive in ap (λ x. x + counted charge) e
          ∙ ap (λ x. d.next_id + x) g)) (λ j e. i.nexts j);
      own_keys = i.own_keys;
    }
