-- A line's two ends behind a Serve of its request.
use Rattle.std.proofs.Common.{◌≡◌, ℕ, ◌+◌, ◌≤◌, Bool, true, false, ◌||◌, if◌then◌else◌, List}
use Rattle.std.proofs.Common.{[], ◌∷◌, ◌++◌, length, refl, sym, ap, ◌∙◌, subst, arith, Option, None}
use Rattle.spec_exchange.specs.Operations.{Op}
use Rattle.spec_exchange.specs.Network.{Sent, Received, Token}
use Rattle.spec_wire.specs.credits.Ids.{counted, outside}
use Rattle.spec_wire.specs.credits.Window.{HeldIds, after_take, granted, after_grant}
use Rattle.spec_wire.specs.credits.Exchange.{Line, serves, after_step, served, served_if}
use Rattle.spec_crypto.specs.declared.sessions.material.Keys.{Keys}
use Rattle.spec_world.specs.Settings.{WorldSettings}
use Rattle.spec_world.specs.Ends.{ClientEnd, ServerEnd, Logons}
use Rattle.spec_world.specs.Hearing.{is_negotiate, is_cancel, window_behind, behind_turn}
use Rattle.spec_wire.specs.declared.messages.header.Header.{Header}
use Rattle.law_ties.specs.events.Links.{Shared, Asked, AllAsked, AllAwaited, LinkAnswers, AllAnswer, LinkReached, Linked}
use Rattle.law_ties.proofs.events.Took.{reach_more}
use Rattle.law_ties.proofs.requests.Answering.{counted_end}

-- ---- what waits behind it is read as before

abbrev pub end_behind : ServerEnd → Header → Bool → ServerEnd
end_behind f h sealed = counted_end (behind_turn f h) sealed (after_grant h.credits (window_behind f.window h))

no_other : (b c : Bool) → b ≡ false → (b || c) ≡ c
no_other true c e = absurd (let h : true ≡ false = e in cc)
no_other false c e = refl

asked_later : (z : WorldSettings) (L : Logons) (k : ℕ) (f : ServerEnd) (h : Header) (sealed : Bool) (b : List ℕ) (x : Sent) (q : ℕ × ℕ)
    → is_negotiate h ≡ false → Asked z L k f b x q → Asked z L k (end_behind f h sealed) b x q
asked_later z L k f h sealed b x q later a =
    let r = a.reads in record {
      reads = record {
        sealed = r.sealed;
        heard = r.heard;
        text = r.text;
        message = r.message;
        id = r.id;
        charge = r.charge;
        turn = r.turn;
        first = λ e. no_other (is_negotiate h) f.asked later ∙ r.first e;
      };
      fault = a.fault;
      credits = a.credits;
      counts = a.counts;
      apart = a.apart;
      charge_fits = a.charge_fits;
      command_fits = a.command_fits;
      message_fits = a.message_fits;
      sealing = a.sealing;
      plain = a.plain;
      kind = a.kind;
      tree = a.tree;
    }

all_later : (z : WorldSettings) (L : Logons) (k : ℕ) (f : ServerEnd) (h : Header) (sealed : Bool) (bs : List (List ℕ)) (xs : List Sent)
    (qs : List (ℕ × ℕ)) → is_negotiate h ≡ false → AllAsked z L k f bs xs qs → AllAsked z L k (end_behind f h sealed) bs xs qs
all_later z L k f h sealed [] [] [] later all = tt
all_later z L k f h sealed (b ∷ bs) (x ∷ xs) (q ∷ qs) later all =
    (asked_later z L k f h sealed b x q later all.0, all_later z L k f h sealed bs xs qs later all.1)
all_later z L k f h sealed [] [] (q ∷ qs) later all = absurd all
all_later z L k f h sealed [] (x ∷ xs) qs later all = absurd all
all_later z L k f h sealed (b ∷ bs) [] qs later all = absurd all
all_later z L k f h sealed (b ∷ bs) (x ∷ xs) [] later all = absurd all

-- ---- one more answer comes

answers_push : (op : ℕ → Op) (keys : Keys) (encrypts : Bool) (awaited : ℕ → Option Token) (next : ℕ) (bs : List (List ℕ))
    (ys : List Received) (gs : List ℕ) (b : List ℕ) (y : Received) (g : ℕ) → AllAnswer op keys encrypts awaited next bs ys gs
    → LinkAnswers op keys encrypts awaited next b y g
    → AllAnswer op keys encrypts awaited next (bs ++ b ∷ []) (ys ++ y ∷ []) (gs ++ g ∷ [])
answers_push op keys encrypts awaited next [] [] [] b y g all one = (one, tt)
answers_push op keys encrypts awaited next (c ∷ bs) (r ∷ ys) (h ∷ gs) b y g all one =
    (all.0, answers_push op keys encrypts awaited next bs ys gs b y g all.1 one)
answers_push op keys encrypts awaited next [] [] (h ∷ gs) b y g all one = absurd all
answers_push op keys encrypts awaited next [] (r ∷ ys) gs b y g all one = absurd all
answers_push op keys encrypts awaited next (c ∷ bs) [] gs b y g all one = absurd all
answers_push op keys encrypts awaited next (c ∷ bs) (r ∷ ys) [] b y g all one = absurd all

-- ---- credits

abbrev pub line_less : Line → ℕ × ℕ → List (ℕ × ℕ) → Line
line_less l q qs = record l {
  window = after_grant 512 (after_take q.0 q.1 l.window);
  requests = qs;
  grants = l.grants ++ granted 512 (after_take q.0 q.1 l.window) ∷ [];
}

pub served_is : (l : Line) (q : ℕ × ℕ) (qs : List (ℕ × ℕ)) → l.requests ≡ q ∷ qs → outside l.window.held q.0 (counted q.1) ≡ None
    → after_step (serves 512) l ≡ line_less l q qs
served_is l q qs e none = ap (λ rs. served rs 512 l) e ∙ ap (λ o. served_if o q qs 512 l) none

taken_window : (b : Bool) (id charge : ℕ) (w : HeldIds) → b ≡ false → (if b then w else after_take id charge w) ≡ after_take id charge w
taken_window true id charge w e = absurd (let h : true ≡ false = e in cc)
taken_window false id charge w e = refl

-- the window behind the request is the line's
pub window_is : (f : ServerEnd) (h : Header) (l : Line) (q : ℕ × ℕ) → is_cancel h ≡ false → f.window ≡ l.window → h.message ≡ q.0
    → h.charge ≡ q.1 → window_behind f.window h ≡ after_take q.0 q.1 l.window
window_is f h l q counts same id charge =
    taken_window (is_cancel h) h.message h.charge f.window counts
    ∙ (ap (after_take h.message h.charge) same
    ∙ (ap (λ i. after_take i h.charge l.window) id ∙ ap (λ n. after_take q.0 n l.window) charge))

counts : (b : Bool) (c n p : ℕ) → c + (n + 1) ≤ p → (if b then c + 1 else c) + n ≤ p
counts true c n p e = omega (arith, e)
counts false c n p e = omega (arith, e)

-- ---- both ends

pub served_link : (z : WorldSettings) (op : ℕ → Op) (s : Shared) (k : ℕ) (co : Bool) (n : ClientEnd) (f : ServerEnd) (b : List ℕ)
    (bs down more : List (List ℕ)) (x : Sent) (xs : List Sent) (ys told : List Received) (frame : List ℕ) (y : Received)
    (i : Linked z op s k co true n f (b ∷ bs) down (x ∷ xs) ys) (q : ℕ × ℕ) (qs : List (ℕ × ℕ)) (a : Asked z s.logons k f b x q)
    → i.line.requests ≡ q ∷ qs → AllAsked z s.logons k f bs xs qs → outside i.line.window.held q.0 (counted q.1) ≡ None
    → is_negotiate a.reads.heard.header ≡ false
    → (co ≡ true → (more ≡ down ++ frame ∷ []) × (told ≡ ys ++ y ∷ []))
    → (co ≡ true → LinkAnswers op n.keys n.encrypts n.awaited n.purse.next frame y (granted 512 (after_take q.0 q.1 i.line.window)))
    → Linked z op s k co true n (end_behind f a.reads.heard.header a.reads.sealed) bs more xs told
served_link z op s k co n f b bs down more x xs ys told frame y i q qs a e rest none first lists one =
    let r = a.reads in
    let h = r.heard.header in
    let l = i.line in
    let same : window_behind f.window h ≡ after_take q.0 q.1 l.window = window_is f h l q a.counts (i.window refl) r.id r.charge in
    let count : f.counter + length (q ∷ qs) ≤ l.purse.next = subst (λ rs. f.counter + length rs ≤ l.purse.next) e
    (i.counted refl) in record {
      line = line_less l q qs;
      reached = subst LinkReached (served_is l q qs e none) (reach_more l (serves 512) i.reached);
      purse = i.purse;
      window = λ o. ap (λ c. after_grant c (window_behind f.window h)) a.credits ∙ ap (after_grant 512) same;
      counted = λ o. counts r.sealed f.counter (length qs) l.purse.next (omega (arith, count));
      asked = λ o. all_later z s.logons k f h r.sealed bs xs qs first rest;
      awaited = λ c o. later (subst (λ rs. AllAwaited n.awaited n.purse.next (x ∷ xs) rs) e (i.awaited c o));
      answers = λ c. (let t = lists c in
          subst (λ v. AllAnswer op n.keys n.encrypts n.awaited n.purse.next v told (line_less l q qs).grants) (sym t.0)
          (subst (λ v. AllAnswer op n.keys n.encrypts n.awaited n.purse.next (down ++ frame ∷ []) v (line_less l q qs).grants) (sym t.1)
          (answers_push op n.keys n.encrypts n.awaited n.purse.next down ys l.grants frame y
          (granted 512 (after_take q.0 q.1 l.window)) (i.answers c) (one c))));
      session_fits = i.session_fits;
      sealable = i.sealable;
      keys = i.keys;
      encrypts = i.encrypts;
      greeted = i.greeted;
    }
  where
    later : AllAwaited n.awaited n.purse.next (x ∷ xs) (q ∷ qs) → AllAwaited n.awaited n.purse.next xs qs
    later all = all.2
