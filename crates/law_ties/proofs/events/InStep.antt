-- In a world whose ends are tied the front of each list is heard as what it was made for, so each event goes in step.
use Rattle.std.proofs.Common.{◌≡◌, ℕ, ◌+◌, ◌-◌, ◌^◌, ◌≤◌, ◌==◌, nat_le, Bool, true, false, ◌&&◌, if◌then◌else◌}
use Rattle.std.proofs.Common.{List, [], ◌∷◌, length, refl, sym, ap, ◌∙◌, subst, arith, Option, Some, None}
use Rattle.spec_exchange.specs.Table.{is_filled}
use Rattle.spec_exchange.specs.Status.{success}
use Rattle.spec_exchange.specs.Operations.{Op, BadToken, BadSignature}
use Rattle.spec_exchange.specs.Client.{Stage, Apart, SaidNegotiate, SaidFirst, SaidSecond, AskedTree}
use Rattle.spec_exchange.specs.Network.{Sent, Received, ForDialog, Event, Submit, Open, Push, Serve, Take, Cut, Drop}
use Rattle.spec_exchange.specs.Network.{Restart, Crash, Wait, Finish, happens, is_possible, changed, moments, later}
use Rattle.spec_wire.specs.credits.Ids.{counted, outside}
use Rattle.spec_wire.specs.credits.Window.{HeldIds, after_take, after_grant}
use Rattle.spec_wire.specs.credits.Exchange.{Line, Step, sends, serves, hears, after_step, after_steps, first_line}
use Rattle.spec_wire.specs.credits.Exchange.{sent_if, served, served_if}
use Rattle.spec_wire.specs.credits.Exchange.{heard, IsBalanced, FrontIsHeld, NothingIsRefused}
use Rattle.spec_crypto.specs.sessions.Signing.{verifies}
use Rattle.spec_crypto.specs.sessions.Sealing.{opened}
use Rattle.spec_world.specs.Settings.{WorldSettings}
use Rattle.spec_world.specs.Messages.{HeardMessage, has_header, heard_in}
use Rattle.spec_world.specs.Ends.{ClientEnd, ServerEnd, Logons}
use Rattle.spec_world.specs.Dialog.{response_in, is_response, if_response, line_text, dialog_response, is_dialogs}
use Rattle.spec_world.specs.Dialog.{body_reads, has_form, is_signed, status_due, dialog_fault, first_refusal, unless}
use Rattle.spec_world.specs.World.{World}
use Rattle.spec_world.specs.Events.{Plain, bytes_changed, bytes_later, bytes_happen}
use Rattle.spec_world.specs.Statements.{value_event}
use Rattle.law_ties.specs.events.Fronts.{MayServe, IsFrontServed, FrontHearsAs, OnLine, InDialog}
use Rattle.law_ties.specs.events.Links.{Shared, shared_of, Asked, AllAsked, LinkAnswers, AllAnswer, LinkReached, Talks, Waits, Comes}
use Rattle.law_ties.specs.events.Links.{Lost, is_lined, IsTied}
use Rattle.law_ties.specs.events.InStep.{RepliesAreDue, TiedGoesInStep}
use Rattle.law_ties.proofs.events.Own.{own_events}
use Rattle.law_ties.proofs.events.Serving.{fronts_served}
use Rattle.law_ties.proofs.events.Taking.{fronts_taken}

-- ---- credits: the next id stays below the last one

abbrev IsLow : Line → Type 0
IsLow l = l.window.next ≤ 2 ^ 64 - 1

low_grant : (asked : ℕ) (w : HeldIds) → w.next ≤ 2 ^ 64 - 1 → (after_grant asked w).next ≤ 2 ^ 64 - 1
low_grant asked w low = omega (arith, low)

low_sent : (b : Bool) (charge : ℕ) (l : Line) → IsLow l → IsLow (sent_if b charge l)
low_sent true charge l low = low
low_sent false charge l low = low

low_if : (o : Option ℕ) (q : ℕ × ℕ) (rest : List (ℕ × ℕ)) (asked : ℕ) (l : Line) → IsLow l → IsLow (served_if o q rest asked l)
low_if None q rest asked l low = low_grant asked (after_take q.0 q.1 l.window) low
low_if (Some id) q rest asked l low = low

low_served : (rs : List (ℕ × ℕ)) (asked : ℕ) (l : Line) → IsLow l → IsLow (served rs asked l)
low_served [] asked l low = low
low_served (q ∷ rest) asked l low = low_if (outside l.window.held q.0 (counted q.1)) q rest asked l low

low_heard : (gs : List ℕ) (l : Line) → IsLow l → IsLow (heard gs l)
low_heard [] l low = low
low_heard (g ∷ rest) l low = low

low_step : (s : Step) (l : Line) → IsLow l → IsLow (after_step s l)
low_step (sends charge) l low = low_sent (nat_le (counted charge) l.purse.held) charge l low
low_step (serves asked) l low = low_served l.requests asked l low
low_step hears l low = low_heard l.grants l low

low_steps : (steps : List Step) (l : Line) → IsLow l → IsLow (after_steps steps l)
low_steps [] l low = low
low_steps (s ∷ steps) l low = low_steps steps (after_step s l) (low_step s l low)

low_always : (l : Line) → LinkReached l → IsLow l
low_always l r = subst IsLow (sym r.is) (low_steps r.steps first_line (omega arith))

pub next_low : NothingIsRefused → (l : Line) → LinkReached l → l.purse.next ≤ 2 ^ 64 - 1
next_low law l r =
    let low = low_always l r in
    let even : IsBalanced l = subst IsBalanced (sym r.is) (law r.steps).0 in
    let e = even.1 in
    omega (arith, low, e)

pub front_held : NothingIsRefused → (l : Line) → LinkReached l → FrontIsHeld l.requests l.window
front_held law l r = subst (λ (v : Line). FrontIsHeld v.requests v.window) (sym r.is) (law r.steps).1

-- ---- the front of what goes up

record Front (z : WorldSettings) (w : World) (k : ℕ) (b : List ℕ) (x : Sent) : Type 0 where
  bill : ℕ × ℕ
  asked : Asked z w.logons k (w.wires k).server_end b x bill
  may : MayServe (w.wires k).server_end bill

front_by : (z : WorldSettings) (w : World) (k : ℕ) (b : List ℕ) (bs : List (List ℕ)) (x : Sent) (xs : List Sent) (l : Line)
    → NothingIsRefused → LinkReached l → (w.wires k).server_end.window ≡ l.window
    → (rs : List (ℕ × ℕ)) → l.requests ≡ rs → (w.wires k).server_end.counter + length rs ≤ l.purse.next
    → AllAsked z w.logons k (w.wires k).server_end (b ∷ bs) (x ∷ xs) rs → Front z w k b x
front_by z w k b bs x xs l law r window [] e count all = absurd all
front_by z w k b bs x xs l law r window (q ∷ qs) e count all =
    let f = (w.wires k).server_end in
    let held : outside l.window.held q.0 (counted q.1) ≡ None =
    subst (λ (rs : List (ℕ × ℕ)). FrontIsHeld rs l.window) e (front_held law l r) in
    let low = next_low law l r in record {
      bill = q;
      asked = all.0;
      may = record {
        held = ap (λ (v : HeldIds). outside v.held q.0 (counted q.1)) window ∙ held;
        nonce = omega (arith, count, low);
      };
    }

front_at : (z : WorldSettings) (w : World) (k : ℕ) (b : List ℕ) (bs : List (List ℕ)) (x : Sent) (xs : List Sent) → NothingIsRefused
    → IsTied z w → (w.values.conns k).server_open ≡ true → (w.wires k).up ≡ b ∷ bs → (w.values.conns k).up ≡ x ∷ xs → Front z w k b x
front_at z w k b bs x xs law i so e h =
    let t = i.tied k in
    let link = t.link in
    let l = link.line in
    let f = (w.wires k).server_end in
    let all : AllAsked z w.logons k f (b ∷ bs) (x ∷ xs) l.requests =
    subst (λ v. AllAsked z w.logons k f (b ∷ bs) v l.requests) h
    (subst (λ v. AllAsked z w.logons k f v (w.values.conns k).up l.requests) e (link.asked so)) in
    front_by z w k b bs x xs l law link.reached (link.window so) l.requests refl (link.counted so) all

served_at : (z : WorldSettings) (w : World) (k : ℕ) (b : List ℕ) (bs : List (List ℕ)) (x : Sent) (xs : List Sent) → NothingIsRefused
    → IsTied z w → (w.values.conns k).server_open ≡ true → (w.wires k).up ≡ b ∷ bs → (w.values.conns k).up ≡ x ∷ xs
    → IsFrontServed z w k b x
served_at z w k b bs x xs law i so e h =
    let f = front_at z w k b bs x xs law i so e h in
    let a = f.asked in
    fronts_served z w k b bs x xs f.bill e h a.reads f.may

no_frame_up : (z : WorldSettings) (L : Logons) (k : ℕ) (f : ServerEnd) (x : Sent) (xs : List Sent) (rs : List (ℕ × ℕ))
    → AllAsked z L k f [] (x ∷ xs) rs → ⊥
no_frame_up z L k f x xs [] all = all
no_frame_up z L k f x xs (q ∷ qs) all = all

-- a message waits with its frame
pub has_frame_up : (z : WorldSettings) (w : World) (k : ℕ) (x : Sent) (xs : List Sent) → IsTied z w → (w.values.conns k).server_open ≡ true
    → (w.wires k).up ≡ [] → (w.values.conns k).up ≡ x ∷ xs → ⊥
has_frame_up z w k x xs i so e h =
    let t = i.tied k in
    let link = t.link in
    let l = link.line in
    let f = (w.wires k).server_end in
    no_frame_up z w.logons k f x xs l.requests
    (subst (λ v. AllAsked z w.logons k f [] v l.requests) h
    (subst (λ v. AllAsked z w.logons k f v (w.values.conns k).up l.requests) e (link.asked so)))

-- ---- an event that the world can't meet is none

none_happens : (z : WorldSettings) (w : World) (e : Event) → is_possible w.values e ≡ false
    → (bytes_happen z w (Plain e)).values ≡ happens w.values e
none_happens z w e off =
    ap (λ b. (if b then bytes_later (bytes_changed z w e) (moments e) else w).values) off
    ∙ sym (ap (λ b. if b then later (changed w.values e) (moments e) else w.values) off)

closed_or : (a b : Bool) → a ≡ false → (a && b) ≡ false
closed_or true b e = absurd (let h : true ≡ false = e in cc)
closed_or false b e = refl

empty_or : {X : Type 0} (a : Bool) (xs : List X) → xs ≡ [] → (a && is_filled xs) ≡ false
unfolding is_filled
empty_or true xs e = ap is_filled e
empty_or false xs e = refl

-- by whether the end is open
pub by_open : (P : Type 0) (b : Bool) → (b ≡ true → P) → (b ≡ false → P) → P
by_open P true f g = f refl
by_open P false f g = g refl

-- ---- Serve and Crash

abbrev InStep : WorldSettings → World → Event → Type 0
InStep z w e = (bytes_happen z w (Plain e)).values ≡ happens w.values e

serve_lists : (z : WorldSettings) (w : World) (k : ℕ) → NothingIsRefused → IsTied z w → (w.values.conns k).server_open ≡ true
    → (bs : List (List ℕ)) (xs : List Sent) → (w.wires k).up ≡ bs → (w.values.conns k).up ≡ xs
    → InStep z w (Serve k) × InStep z w (Crash k true)
serve_lists z w k law i so bs [] e h =
    let never = empty_or (w.values.conns k).server_open (w.values.conns k).up h in
    (none_happens z w (Serve k) never, none_happens z w (Crash k true) never)
serve_lists z w k law i so [] (x ∷ xs) e h = absurd (has_frame_up z w k x xs i so e h)
serve_lists z w k law i so (b ∷ bs) (x ∷ xs) e h = (let s = served_at z w k b bs x xs law i so e h in (s.served, s.kept))

serve_any : (z : WorldSettings) (w : World) (k : ℕ) → NothingIsRefused → IsTied z w → InStep z w (Serve k) × InStep z w (Crash k true)
serve_any z w k law i =
    by_open (InStep z w (Serve k) × InStep z w (Crash k true)) (w.values.conns k).server_open
    (λ so. serve_lists z w k law i so (w.wires k).up (w.values.conns k).up refl refl)
    (λ so. (let never = closed_or (w.values.conns k).server_open (is_filled (w.values.conns k).up) so in
    (none_happens z w (Serve k) never, none_happens z w (Crash k true) never)))

-- ---- the response to a TREE_CONNECT, which a line opens

some_if : {X : Type 0} (c : Bool) (y x : X) → (if c then Some y else None) ≡ Some x → (c ≡ true) × (y ≡ x)
some_if true y x e = (refl, let h : Some y ≡ Some x = e in cc)
some_if false y x e = absurd (let h : None ≡ Some x = e in cc)

pub response_gives : (o : Option HeardMessage) (x : HeardMessage) → if_response o ≡ Some x → (o ≡ Some x) × (is_response x.header ≡ true)
response_gives None x e = absurd (let h : None ≡ Some x = e in cc)
response_gives (Some y) x e =
    let s = some_if (is_response y.header) y x e in (ap Some s.1, subst (λ (v : HeardMessage). is_response v.header ≡ true) s.1 s.0)

in_bytes : (b : List ℕ) (x : HeardMessage) → response_in (Some b) ≡ Some x → b ≡ x.bytes
in_bytes b x e = ap (λ (v : HeardMessage). v.bytes) (some_if (has_header b) (heard_in b) x e).1

pub opens_both : (b : List ℕ) (x : HeardMessage) (e v : Bool) (o : Option (List ℕ))
    → response_in (if e then o else if v then Some b else None) ≡ Some x
    → response_in (if e then o else Some b) ≡ Some x
opens_both b x true v o h = h
opens_both b x false true o h = h
opens_both b x false false o h = absurd (let q : None ≡ Some x = h in cc)

signed_at : (verified : List ℕ → Bool) (b : List ℕ) (x : HeardMessage) (v : Bool) → verified b ≡ v
    → response_in (if v then Some b else None) ≡ Some x → verified x.bytes ≡ true
signed_at verified b x true is h = subst (λ m. verified m ≡ true) (in_bytes b x h) is
signed_at verified b x false is h = absurd (let q : None ≡ Some x = h in cc)

signed_there : (verified : List ℕ → Bool) (b : List ℕ) (x : HeardMessage) (e : Bool) (o : Option (List ℕ))
    → response_in (if e then o else if verified b then Some b else None) ≡ Some x → (if e then true else verified x.bytes) ≡ true
signed_there verified b x true o h = refl
signed_there verified b x false o h = signed_at verified b x (verified b) refl h

three : (a b c d : Bool) → a ≡ true → b ≡ true → c ≡ true → d ≡ true → (a && (b && (c && d))) ≡ true
three a b c d ea eb ec ed =
    ap (λ v. v && (b && (c && d))) ea ∙ (ap (λ v. v && (c && d)) eb ∙ (ap (λ v. v && d) ec ∙ ed))

no_refusal : (form signed : Bool) → form ≡ true → signed ≡ true
    → first_refusal (unless form BadToken) (first_refusal (unless signed BadSignature) None) ≡ None
no_refusal form signed e f =
    ap (λ v. first_refusal (unless v BadToken) (first_refusal (unless signed BadSignature) None)) e
    ∙ ap (λ v. first_refusal (unless v BadSignature) None) f

tree_heard : (z : WorldSettings) (op : ℕ → Op) (n : ClientEnd) (b : List ℕ) (y : Received) (g : ℕ) → n.stage ≡ AskedTree
    → y.token ≡ ForDialog → LinkAnswers op n.keys n.encrypts n.awaited n.purse.next b y g → FrontHearsAs z op n b y
tree_heard z op n b y g at own a =
    let x = a.heard in
    let two = response_gives (response_in (line_text n b)) x (a.opens n refl refl) in
    let sealed = opened n.keys false b in
    let there = opens_both b x n.encrypts (verifies n.keys.signing b) sealed two.0 in
    let signed : is_signed n AskedTree x.bytes ≡ true = signed_there (verifies n.keys.signing) b x n.encrypts sealed two.0 in
    let waits : is_dialogs (n.awaited x.header.message) ≡ true = ap is_dialogs (a.awaits ∙ ap Some own) in
    let sound : (x.header.status == success) ≡ true → dialog_fault z.client n AskedTree x ≡ None =
    λ ok. (let t = a.tree own ok in
    no_refusal (has_form n AskedTree x) (is_signed n AskedTree x.bytes)
    (three (is_response x.header) (x.header.command == 3) (is_dialogs (n.awaited x.header.message)) (body_reads AskedTree x.bytes)
    two.1 (ap (λ c. c == 3) t.0) waits t.1) signed) in
    InDialog (record {
      stage = λ s. (let h : AskedTree ≡ Apart = sym at ∙ s in cc);
      heard = x;
      opens = subst (λ s. dialog_response n s b ≡ Some x) (sym at) there;
      own = own;
      same = a.same;
      sound = subst (λ s. (x.header.status == status_due s) ≡ true → dialog_fault z.client n s x ≡ None) (sym at) sound;
    })

line_heard : (z : WorldSettings) (op : ℕ → Op) (n : ClientEnd) (b : List ℕ) (y : Received) (g : ℕ) → n.stage ≡ Apart
    → (y.token ≡ ForDialog → ⊥) → LinkAnswers op n.keys n.encrypts n.awaited n.purse.next b y g → FrontHearsAs z op n b y
line_heard z op n b y g at own a = OnLine (record {
  stage = at;
  heard = a.heard;
  opens = a.opens n refl refl;
  awaits = a.awaits;
  own = own;
  same = a.same;
  body = a.body;
})

-- ---- the front of what comes down, by the stage

first_answer : (op : ℕ → Op) (n : ClientEnd) (b : List ℕ) (bs : List (List ℕ)) (y : Received) (ys : List Received) (gs : List ℕ)
    → AllAnswer op n.keys n.encrypts n.awaited n.purse.next (b ∷ bs) (y ∷ ys) gs
    → (g : ℕ) × LinkAnswers op n.keys n.encrypts n.awaited n.purse.next b y g
first_answer op n b bs y ys [] all = absurd all
first_answer op n b bs y ys (g ∷ gs) all = (g, all.0)

no_frame_down : (op : ℕ → Op) (n : ClientEnd) (y : Received) (ys : List Received) (gs : List ℕ)
    → AllAnswer op n.keys n.encrypts n.awaited n.purse.next [] (y ∷ ys) gs → ⊥
no_frame_down op n y ys [] all = all
no_frame_down op n y ys (g ∷ gs) all = all

-- of a line
record Comings (w : World) (k : ℕ) (bs : List (List ℕ)) (ys : List Received) : Type 0 where
  grants : List ℕ
  all :
      AllAnswer w.values.client.op (w.wires k).client_end.keys (w.wires k).client_end.encrypts (w.wires k).client_end.awaited
      (w.wires k).client_end.purse.next bs ys grants

both : (a b : Bool) → a ≡ true → b ≡ true → (a && b) ≡ true
both a b e f = ap (λ v. v && b) e ∙ f

comings_at : (z : WorldSettings) (w : World) (k : ℕ) (bs : List (List ℕ)) (ys : List Received) → IsTied z w
    → (w.values.conns k).client_open ≡ true → is_lined (w.wires k).client_end.stage ≡ true → (w.wires k).down ≡ bs
    → (w.values.conns k).down ≡ ys → Comings w k bs ys
comings_at z w k bs ys i co lined e h =
    let t = i.tied k in
    let link = t.link in
    let n = (w.wires k).client_end in
    let op = w.values.client.op in
    let gs = link.line.grants in record {
      grants = gs;
      all = subst (λ v. AllAnswer op n.keys n.encrypts n.awaited n.purse.next bs v gs) h
          (subst (λ v. AllAnswer op n.keys n.encrypts n.awaited n.purse.next v (w.values.conns k).down gs) e
          (link.answers (both (w.values.conns k).client_open (is_lined n.stage) co lined)));
    }

-- of a dialog
talk_heard : (z : WorldSettings) (op : ℕ → Op) (s : Shared) (k : ℕ) (so : Bool) (n : ClientEnd) (f : ServerEnd) (up down : List (List ℕ))
    (xs : List Sent) (rs : List Received) (l : Line) (b : List ℕ) (bs : List (List ℕ)) (y : Received) (ys : List Received)
    → down ≡ b ∷ bs → rs ≡ y ∷ ys → (n.stage ≡ Apart → ⊥) → Talks z s k so n f up down xs rs l n.stage → FrontHearsAs z op n b y
talk_heard z op s k so n f up down xs rs l b bs y ys e h off (Waits a x e1 e2 e3 e4 g) =
    absurd (let q : [] ≡ y ∷ ys = sym e4 ∙ h in cc)
talk_heard z op s k so n f up down xs rs l b bs y ys e h off (Lost e1 e2 e3 e4 e5) = absurd (let q : [] ≡ y ∷ ys = sym e4 ∙ h in cc)
talk_heard z op s k so n f up down xs rs l b bs y ys e h off (Comes a v e1 e2 e3 e4 c) =
    let frames : a ∷ [] ≡ b ∷ bs = sym e3 ∙ e in
    let replies : v ∷ [] ≡ y ∷ ys = sym e4 ∙ h in
    let frame : a ≡ b = (cc) in
    let reply : v ≡ y = (cc) in
    subst (λ m. FrontHearsAs z op n m y) frame
    (subst (λ r. FrontHearsAs z op n a r) reply
    (InDialog (record { stage = off; heard = c.heard; opens = c.opens; own = c.token; same = c.same; sound = c.sound })))

talk_at : (z : WorldSettings) (w : World) (k : ℕ) (b : List ℕ) (bs : List (List ℕ)) (y : Received) (ys : List Received) → IsTied z w
    → (w.values.conns k).client_open ≡ true → is_lined (w.wires k).client_end.stage ≡ false
    → ((w.wires k).client_end.stage ≡ Apart → ⊥) → (w.wires k).down ≡ b ∷ bs → (w.values.conns k).down ≡ y ∷ ys
    → FrontHearsAs z w.values.client.op (w.wires k).client_end b y
talk_at z w k b bs y ys i co lined off e h =
    let t = i.tied k in
    let u = w.wires k in
    let c = w.values.conns k in
    talk_heard z w.values.client.op (shared_of w.values.client w.keys w.logons) k c.server_open u.client_end u.server_end u.up u.down c.up
    c.down t.link.line b bs y ys e h off
    (t.talk co lined)

pub heard_at : (z : WorldSettings) (w : World) (k : ℕ) (b : List ℕ) (bs : List (List ℕ)) (y : Received) (ys : List Received) → IsTied z w
    → RepliesAreDue w → (w.values.conns k).client_open ≡ true → (w.wires k).down ≡ b ∷ bs → (w.values.conns k).down ≡ y ∷ ys
    → (stage : Stage) → (w.wires k).client_end.stage ≡ stage → FrontHearsAs z w.values.client.op (w.wires k).client_end b y
heard_at z w k b bs y ys i status_due co e h Apart at =
    let n = (w.wires k).client_end in
    let op = w.values.client.op in
    let c = comings_at z w k (b ∷ bs) (y ∷ ys) i co (ap is_lined at) e h in
    let one = first_answer op n b bs y ys c.grants c.all in
    line_heard z op n b y one.0 at (status_due.operations k y ys co (sym (i.stages k co) ∙ at) h) one.1
heard_at z w k b bs y ys i status_due co e h AskedTree at =
    let n = (w.wires k).client_end in
    let op = w.values.client.op in
    let c = comings_at z w k (b ∷ bs) (y ∷ ys) i co (ap is_lined at) e h in
    let one = first_answer op n b bs y ys c.grants c.all in
    tree_heard z op n b y one.0 at (status_due.dialogs k y ys co (sym (i.stages k co) ∙ at) h) one.1
heard_at z w k b bs y ys i status_due co e h (SaidNegotiate bound) at =
    talk_at z w k b bs y ys i co (ap is_lined at) (λ s. (let q : SaidNegotiate bound ≡ Apart = sym at ∙ s in cc)) e h
heard_at z w k b bs y ys i status_due co e h (SaidFirst bound) at =
    talk_at z w k b bs y ys i co (ap is_lined at) (λ s. (let q : SaidFirst bound ≡ Apart = sym at ∙ s in cc)) e h
heard_at z w k b bs y ys i status_due co e h (SaidSecond bound) at =
    talk_at z w k b bs y ys i co (ap is_lined at) (λ s. (let q : SaidSecond bound ≡ Apart = sym at ∙ s in cc)) e h

no_talk_down : (z : WorldSettings) (s : Shared) (k : ℕ) (so : Bool) (n : ClientEnd) (f : ServerEnd) (up down : List (List ℕ))
    (xs : List Sent) (rs : List Received) (l : Line) (y : Received) (ys : List Received) → down ≡ [] → rs ≡ y ∷ ys
    → Talks z s k so n f up down xs rs l n.stage → ⊥
no_talk_down z s k so n f up down xs rs l y ys e h (Waits a x e1 e2 e3 e4 g) = let q : [] ≡ y ∷ ys = sym e4 ∙ h in cc
no_talk_down z s k so n f up down xs rs l y ys e h (Lost e1 e2 e3 e4 e5) = let q : [] ≡ y ∷ ys = sym e4 ∙ h in cc
no_talk_down z s k so n f up down xs rs l y ys e h (Comes a v e1 e2 e3 e4 c) = let q : a ∷ [] ≡ [] = sym e3 ∙ e in cc

-- a reply comes with its frame
pub has_frame_down : (z : WorldSettings) (w : World) (k : ℕ) (y : Received) (ys : List Received) → IsTied z w
    → (w.values.conns k).client_open ≡ true → (w.wires k).down ≡ [] → (w.values.conns k).down ≡ y ∷ ys → ⊥
has_frame_down z w k y ys i co e h =
    let t = i.tied k in
    let u = w.wires k in
    let c = w.values.conns k in
    let n = u.client_end in
    by_open ⊥ (is_lined n.stage)
    (λ lined. (let g = comings_at z w k [] (y ∷ ys) i co lined e h in no_frame_down w.values.client.op n y ys g.grants g.all))
    (λ lined. no_talk_down z (shared_of w.values.client w.keys w.logons) k c.server_open n u.server_end u.up u.down c.up
    c.down t.link.line y ys e h (t.talk co lined))

-- ---- Take

take_lists : (z : WorldSettings) (w : World) (k : ℕ) → IsTied z w → RepliesAreDue w → (w.values.conns k).client_open ≡ true
    → (bs : List (List ℕ)) (ys : List Received) → (w.wires k).down ≡ bs → (w.values.conns k).down ≡ ys → InStep z w (Take k)
take_lists z w k i status_due co bs [] e h = none_happens z w (Take k) (empty_or (w.values.conns k).client_open (w.values.conns k).down h)
take_lists z w k i status_due co [] (y ∷ ys) e h = absurd (has_frame_down z w k y ys i co e h)
take_lists z w k i status_due co (b ∷ bs) (y ∷ ys) e h =
    fronts_taken z w k b bs y ys e h (i.stages k co) (heard_at z w k b bs y ys i status_due co e h (w.wires k).client_end.stage refl)

take_any : (z : WorldSettings) (w : World) (k : ℕ) → IsTied z w → RepliesAreDue w → InStep z w (Take k)
take_any z w k i status_due =
    by_open (InStep z w (Take k)) (w.values.conns k).client_open
    (λ co. take_lists z w k i status_due co (w.wires k).down (w.values.conns k).down refl refl)
    (λ co. none_happens z w (Take k) (closed_or (w.values.conns k).client_open (is_filled (w.values.conns k).down) co))

-- ---- every event

pub tied_goes : NothingIsRefused → TiedGoesInStep
tied_goes law z w i status_due = record {
  values = values;
  requests = λ k b bs x xs so e h. (let s = served_at z w k b bs x xs law i so e h in s.taken);
}
  where
    values : (e : Event) → (bytes_happen z w (Plain e)).values ≡ happens w.values (value_event w e)
    values (Submit g op) = own_events z w (Submit g op) refl
    values (Open k) = own_events z w (Open k) refl
    values (Push k slotless pick) = own_events z w (Push k slotless pick) refl
    values (Serve k) = (serve_any z w k law i).0
    values (Take k) = take_any z w k i status_due
    values (Cut k) = own_events z w (Cut k) refl
    values (Drop k) = own_events z w (Drop k) refl
    values Restart = own_events z w Restart refl
    values (Crash k true) = (serve_any z w k law i).1
    values (Crash k false) = own_events z w (Crash k false) refl
    values (Wait n) = own_events z w (Wait n) refl
    values (Finish refusal) = own_events z w (Finish refusal) refl
