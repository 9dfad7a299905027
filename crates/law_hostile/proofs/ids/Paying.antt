-- What an event puts up on a connection whose lists are empty: nothing, or one frame that bears the id of its value, which was paid for.
use Rattle.std.proofs.Common.{◌≡◌, ℕ, ◌+◌, ◌-◌, ◌≤◌, ◌<◌, ◌^◌, nat_le, min, max, Bool, true, false, List}
use Rattle.std.proofs.Common.{[], ◌∷◌, ◌++◌, ◌⊎◌, inl, inr, refl, sym, ◌∙◌, ap, arith, subst, Option, Some, None}
use Rattle.std.proofs.lemmas.Bool.Decides.{nat_tests}
use Rattle.law_server.proofs.tables.Logic.{either, front_of}
use Rattle.law_nonces.proofs.negotiation.Tables.{by_key, by_key_2}
use Rattle.spec_wire.specs.declared.messages.header.Header.{Header}
use Rattle.spec_wire.specs.credits.Ids.{counted}
use Rattle.spec_wire.specs.credits.Purse.{Credits, after_spend, after_add}
use Rattle.spec_exchange.specs.Table.{put}
use Rattle.spec_exchange.specs.State.{Message}
use Rattle.spec_exchange.specs.Operations.{weight, charge}
use Rattle.spec_exchange.specs.Client.{Client, SaidNegotiate, own_message, ask_message, create_for, guid_for}
use Rattle.spec_exchange.specs.ClientStep.{Act, Nothing, Sends, Asks, CloseChannel, CloseChannels, AllSettled, IsCut}
use Rattle.spec_exchange.specs.ClientStep.{Hears, Pushes, Pick, act, client_after, push_act}
use Rattle.spec_exchange.specs.Network.{Conn, Sent, Token, ForDialog, ForOp, ForAttach, fresh}
use Rattle.spec_exchange.specs.Dialogs.{dialog_message}
use Rattle.spec_exchange.specs.Network.{cut_off, closed_by, pushed_by, send_up}
use Rattle.spec_commands.specs.ReplyOf.{reply_of}
use Rattle.spec_world.specs.Settings.{WorldSettings}
use Rattle.spec_world.specs.Messages.{HeardMessage}
use Rattle.spec_world.specs.Ends.{ClientEnd}
use Rattle.spec_world.specs.Sending.{line_frame}
use Rattle.spec_world.specs.Dialog.{paid_in}
use Rattle.spec_world.specs.World.{World, Wires, with_values, with_client_end, off_by, one_off, closed_wires, cut_wires, op_heard, line_heard}
use Rattle.spec_world.specs.World.{line_hears, command_asked}
use Rattle.spec_world.specs.World.{queued, line_sent, pushed_wires, cost, cost_of, may_pay, paid}
use Rattle.spec_world.specs.World.{fresh_wires, greeting_of}
use Rattle.law_hostile.proofs.ids.Bearing.{Bears, IsOwnAt, own_moves, asked_moves, line_bears, greeting_bears}
use Rattle.law_hostile.proofs.ids.Sending.{SameUps, closed_same, cut_same, charged}

-- ---- what is held of a connection

-- the end's next id is its values', and ids fit 64 bits
pub record IsPaid (p : Credits) (next : ℕ) : Type 0 where
  pub next_is : p.next ≡ next
  pub room : p.held + p.next < 2 ^ 64

pub record OneFront (z : WorldSettings) (k : ℕ) (bs : List (List ℕ)) (xs : List Sent) : Type 0 where
  pub frame : List ℕ
  pub sent : Sent
  pub frames : bs ≡ frame ∷ []
  pub values : xs ≡ sent ∷ []
  pub bears : Bears z k frame sent.message

abbrev pub Fronts : WorldSettings → ℕ → List (List ℕ) → List Sent → Type 0
Fronts z k bs xs = (xs ≡ []) ⊎ OneFront z k bs xs

-- with no list
pub record IsReadyAt (u : Wires) (c : Conn) : Type 0 where
  pub purse : IsPaid u.client_end.purse c.next_id
  pub frames : u.up ≡ []
  pub values : c.up ≡ []

-- behind an event
pub record IsBehind (z : WorldSettings) (k : ℕ) (u : Wires) (c : Conn) : Type 0 where
  pub purse : IsPaid u.client_end.purse c.next_id
  pub fronts : Fronts z k u.up c.up

abbrev pub AllReady : (ℕ → Wires) → (ℕ → Conn) → Type 0
AllReady f p = (j : ℕ) → IsReadyAt (f j) (p j)

abbrev pub AllBehind : WorldSettings → (ℕ → Wires) → (ℕ → Conn) → Type 0
AllBehind z f p = (j : ℕ) → IsBehind z j (f j) (p j)

pub ready_behind : (z : WorldSettings) (k : ℕ) (u : Wires) (c : Conn) → IsReadyAt u c → IsBehind z k u c
ready_behind z k u c i = record { purse = i.purse; fronts = inl i.values }

pub all_behind : (z : WorldSettings) (f : ℕ → Wires) (p : ℕ → Conn) → AllReady f p → AllBehind z f p
all_behind z f p all j = ready_behind z j (f j) (p j) (all j)

-- ---- credits

pub added : (granted n : ℕ) (p : Credits) → IsPaid p n → IsPaid (after_add granted p) n
added granted n p i = record { next_is = i.next_is; room = (let r = i.room in fits p.held p.next granted r) }
  where
    fits : (held next more : ℕ) → held + next < 2 ^ 64 → min (min (held + more) (2 ^ 64 - 1 - next)) (2 ^ 32 - 1) + next < 2 ^ 64
    fits held next more r = omega (arith, r)

spent_well : (cost n : ℕ) (p : Credits) → 1 ≤ cost → counted cost ≤ p.held → IsPaid p n → IsPaid (after_spend cost p) (n + cost)
spent_well cost n p one had i =
    record {
      next_is = next_of p.next n cost i.next_is one;
      room = (let r = i.room in fits p.held p.next (counted cost) had r);
    }
  where
    next_of : (a b c : ℕ) → a ≡ b → 1 ≤ c → a + max c 1 ≡ b + c
    next_of a b c e one = omega (arith, e, one)

    fits : (held next c : ℕ) → c ≤ held → held + next < 2 ^ 64 → (held - c) + (next + c) < 2 ^ 64
    fits held next c had r = omega (arith, had, r)

pub small_id : (p : Credits) (n : ℕ) → IsPaid p n → p.next < 2 ^ 64
small_id p n i = let r = i.room in less p.held p.next r
  where
    less : (held next : ℕ) → held + next < 2 ^ 64 → next < 2 ^ 64
    less held next r = omega (arith, r)

-- ---- ends that put nothing

pub record SameEnd (u v : Wires) : Type 0 where
  pub pay : (n : ℕ) → IsPaid u.client_end.purse n → IsPaid v.client_end.purse n
  pub up : v.up ≡ u.up

abbrev pub SameEnds : (ℕ → Wires) → (ℕ → Wires) → Type 0
SameEnds f g = (j : ℕ) → SameEnd (f j) (g j)

end_self : (u : Wires) → SameEnd u u
end_self u = record { pay = λ n i. i; up = refl }

ends_self : (f : ℕ → Wires) → SameEnds f f
ends_self f j = end_self (f j)

pub ends_then : (f g h : ℕ → Wires) → SameEnds f g → SameEnds g h → SameEnds f h
ends_then f g h p q j = record { pay = λ n i. (q j).pay n ((p j).pay n i); up = (q j).up ∙ (p j).up }

pub ends_put : (f : ℕ → Wires) (k : ℕ) (u : Wires) → SameEnd (f k) u → SameEnds f (put f k u)
ends_put f k u h = by_key (λ j (v : Wires). SameEnd (f j) v) f k u h (λ j off. end_self (f j))

-- an end with more credits
pub ends_added : (f : ℕ → Wires) (k : ℕ) (n : ClientEnd) (h : Header) → n.purse ≡ after_add h.credits (f k).client_end.purse
    → SameEnds f (put f k (record (f k) { client_end = n }))
ends_added f k n h e =
    ends_put f k (record (f k) { client_end = n }) (record {
      pay = λ m i. subst (λ p. IsPaid p m) (sym e) (added h.credits m (f k).client_end.purse i);
      up = refl;
    })

pub quiet : (f g : ℕ → Wires) (p q : ℕ → Conn) → SameEnds f g → SameUps p q → AllReady f p → AllReady g q
quiet f g p q s t all j =
    record {
      purse = subst (λ n. IsPaid (g j).client_end.purse n) (sym (t j).1) ((s j).pay (p j).next_id (all j).purse);
      frames = (s j).up ∙ (all j).frames;
      values = (t j).0 ∙ (all j).values;
    }

-- ---- one frame goes up

pub sent_behind : (z : WorldSettings) (f : ℕ → Wires) (p : ℕ → Conn) (k : ℕ) (n : ClientEnd) (frame : List ℕ) (token : Token) (m : Message)
    (cost : ℕ) → AllReady f p
    → n.purse ≡ after_spend cost (f k).client_end.purse → 1 ≤ cost → counted cost ≤ (f k).client_end.purse.held
    → Bears z k frame m → AllBehind z (put f k (queued (f k) n frame)) (put p k (send_up (p k) token m cost))
sent_behind z f p k n frame token m cost all e one had bears =
    by_key_2 (λ j (c : Conn) (u : Wires). IsBehind z j u c) p f k (send_up (p k) token m cost) (queued (f k) n frame)
    (record {
      purse = subst (λ q. IsPaid q ((p k).next_id + cost)) (sym e)
          (spent_well cost (p k).next_id (f k).client_end.purse one had (all k).purse);
      fronts = inr (record {
        frame = frame;
        sent = record { token = token; message = m };
        frames = ap (λ l. l ++ frame ∷ []) (all k).frames;
        values = ap (λ l. l ++ record { token = token; message = m } ∷ []) (all k).values;
        bears = bears;
      });
    })
    (λ j off. ready_behind z j (f j) (p j) (all j))

-- a line's, made for the end's next id, beside a value of the values' next id
pub line_behind : (z : WorldSettings) (w : World) (conns : ℕ → Conn) (k : ℕ) (token : Token) (m : ℕ → Message) (cost : ℕ)
    → AllReady w.wires conns → ((id : ℕ) → (m id).message_id ≡ id) → ((id : ℕ) → IsOwnAt k cost (m id)) → 1 ≤ cost → counted cost ≤ (w.wires k).client_end.purse.held
    → AllBehind z (line_sent w k token (m (w.wires k).client_end.purse.next) cost).wires
    (put conns k (send_up (conns k) token (m (conns k).next_id) cost))
line_behind z w conns k token m cost all named own one had =
    let n = (w.wires k).client_end in
    let i = (all k).purse in
    let small : (m n.purse.next).message_id < 2 ^ 64 =
    subst (λ a. a < 2 ^ 64) (sym (named n.purse.next)) (small_id n.purse (conns k).next_id i) in
    sent_behind z w.wires conns k _ (line_frame n (m n.purse.next) cost) token (m (conns k).next_id) cost all refl one had
    (subst (λ id. Bears z k (line_frame n (m n.purse.next) cost) (m id)) i.next_is
    (line_bears z k n (m n.purse.next) cost (own n.purse.next) small))

-- ---- the client closes

off_ends : (w : World) (k : ℕ) (a : Act) → SameEnds w.wires (off_by w k a).wires
off_ends w k CloseChannels = λ j. record { pay = λ n i. i; up = refl }
off_ends w k CloseChannel = ends_put w.wires k _ (record { pay = λ n i. i; up = refl })
off_ends w k Nothing = ends_put w.wires k _ (record { pay = λ n i. i; up = refl })
off_ends w k (Sends g) = ends_put w.wires k _ (record { pay = λ n i. i; up = refl })
off_ends w k (Asks g) = ends_put w.wires k _ (record { pay = λ n i. i; up = refl })
off_ends w k AllSettled = ends_put w.wires k _ (record { pay = λ n i. i; up = refl })

pub closed_ends : (w : World) (k : ℕ) (a : Act) → SameEnds w.wires (closed_wires w k a).wires
closed_ends w k CloseChannels = λ j. record { pay = λ n i. i; up = refl }
closed_ends w k CloseChannel = ends_put w.wires k _ (record { pay = λ n i. i; up = refl })
closed_ends w k Nothing = ends_self w.wires
closed_ends w k (Sends g) = ends_self w.wires
closed_ends w k (Asks g) = ends_self w.wires
closed_ends w k AllSettled = ends_self w.wires

cut_ends : (w : World) (k : ℕ) → SameEnds w.wires (cut_wires w k).wires
cut_ends w k =
    either (λ (v : World). SameEnds w.wires v.wires) (w.values.client.ready k)
    (with_values (off_by w k (act w.values.client (IsCut k))) (cut_off w.values k)) (with_values (one_off w k) (cut_off w.values k))
    (λ _. off_ends w k (act w.values.client (IsCut k))) (λ _. ends_put w.wires k _ (record { pay = λ n i. i; up = refl }))

cut_conns : (w : World) (k : ℕ) → SameUps w.values.conns (cut_wires w k).values.conns
cut_conns w k =
    either (λ (v : World). SameUps w.values.conns v.values.conns) (w.values.client.ready k)
    (with_values (off_by w k (act w.values.client (IsCut k))) (cut_off w.values k)) (with_values (one_off w k) (cut_off w.values k))
    (λ _. cut_same w.values k) (λ _. cut_same w.values k)

abbrev pub Ready : World → Type 0
Ready w = AllReady w.wires w.values.conns

abbrev pub Behind : WorldSettings → World → Type 0
Behind z w = AllBehind z w.wires w.values.conns

pub behind_of : (z : WorldSettings) (w : World) → Ready w → Behind z w
behind_of z w all = all_behind z w.wires w.values.conns all

pub cut_behind : (z : WorldSettings) (w : World) (k : ℕ) → Ready w → Behind z (cut_wires w k)
cut_behind z w k all =
    behind_of z (cut_wires w k)
    (quiet w.wires (cut_wires w k).wires w.values.conns (cut_wires w k).values.conns (cut_ends w k) (cut_conns w k) all)

-- ---- Push

own_at : (c : Client) (k g id : ℕ) → IsOwnAt k (charge (weight (c.op g))) (own_message c k id g)
own_at c k g id =
    record {
      connection = refl;
      fault = refl;
      pays = ap charge (sym (own_moves (c.op g) (guid_for c g) (c.file (create_for c g)) (c.slot_of g) (c.number_of g)));
    }

ask_at : (c : Client) (k g id : ℕ) → IsOwnAt k 1 (ask_message c k id g)
ask_at c k g id =
    let q = create_for c g in
    record { connection = refl; fault = refl; pays = ap charge (sym (asked_moves (c.op q) (guid_for c q) (c.file q))) }

pushed_behind : (z : WorldSettings) (w : World) (k : ℕ) (c : Client) (a : Act)
    → (cost_of c a ≡ 0) ⊎ (counted (cost_of c a) ≤ (w.wires k).client_end.purse.held) → Ready w
    → AllBehind z (pushed_wires w k c a).wires (pushed_by w.values k c a).conns
pushed_behind z w k c (Sends g) (inl none) all =
    absurd (let one = charged (weight (c.op g)) in let e : charge (weight (c.op g)) ≡ 0 = none in omega (arith, one, e))
pushed_behind z w k c (Sends g) (inr had) all =
    line_behind z w w.values.conns k (ForOp g) (λ id. own_message c k id g) (charge (weight (c.op g))) all (λ id. refl) (own_at c k g)
    (charged (weight (c.op g))) had
pushed_behind z w k c (Asks g) (inl none) all = absurd (let e : 1 ≡ 0 = none in omega (arith, e))
pushed_behind z w k c (Asks g) (inr had) all =
    line_behind z w w.values.conns k (ForAttach g) (λ id. ask_message c k id g) 1 all (λ id. refl) (ask_at c k g) (omega arith) had
pushed_behind z w k c Nothing h all = behind_of z w all
pushed_behind z w k c CloseChannel h all = behind_of z w all
pushed_behind z w k c CloseChannels h all = behind_of z w all
pushed_behind z w k c AllSettled h all = behind_of z w all

no_cost : (c d : Client) (k : ℕ) (slotless : List ℕ) → cost_of c (push_act d k slotless None) ≡ 0
no_cost c d k slotless =
    either (λ a. cost_of c a ≡ 0) (d.ready k) _ _
    (λ _. either (λ a. cost_of c a ≡ 0) _ Nothing AllSettled (λ _. refl) (λ _. refl))
    (λ _. either (λ a. cost_of c a ≡ 0) _ CloseChannels AllSettled (λ _. refl) (λ _. refl))

at_most : (n m : ℕ) → nat_le n m ≡ true → n ≤ m
at_most n m e = grind (arith, nat_tests)

pub push_behind : (z : WorldSettings) (w : World) (k : ℕ) (slotless : List ℕ) (pick : Option Pick) → Ready w
    → (let p = Pushes k slotless (paid w k slotless pick) in AllBehind z (pushed_wires w k (client_after w.values.client p)
    (act w.values.client p)).wires (pushed_by w.values k (client_after w.values.client p) (act w.values.client p)).conns)
push_behind z w k slotless pick all =
    let c = w.values.client in
    let n = (w.wires k).client_end in
    either (λ (o : Option Pick). AllBehind z (pushed_wires w k (client_after c (Pushes k slotless o)) (act c (Pushes k slotless o))).wires
    (pushed_by w.values k (client_after c (Pushes k slotless o)) (act c (Pushes k slotless o))).conns)
    (may_pay n (cost c k slotless pick)) pick None
    (λ on. pushed_behind z w k (client_after c (Pushes k slotless pick)) (act c (Pushes k slotless pick))
    (inr (at_most (counted (cost c k slotless pick)) n.purse.held (front_of _ _ on))) all)
    (λ _. pushed_behind z w k (client_after c (Pushes k slotless None)) (act c (Pushes k slotless None))
    (inl (no_cost (client_after c (Pushes k slotless None)) c k slotless)) all)

-- ---- Open

pub open_behind : (z : WorldSettings) (w : World) (k : ℕ) (served : Bool) → Ready w
    → AllBehind z (put w.wires k (fresh_wires z w (greeting_of z w k) served)) (put w.values.conns k (fresh w.values.client k served))
open_behind z w k served all =
    by_key_2 (λ j (c : Conn) (u : Wires). IsBehind z j u c) w.values.conns w.wires k (fresh w.values.client k served)
    (fresh_wires z w (greeting_of z w k) served) (opened_at served)
    (λ j off. ready_behind z j (w.wires j) (w.values.conns j) (all j))
  where
    opened_at : (b : Bool) → IsBehind z k (fresh_wires z w (greeting_of z w k) b) (fresh w.values.client k b)
    opened_at true = record {
      purse = record { next_is = refl; room = omega arith };
      fronts = inr (record {
        frame = greeting_of z w k;
        sent = _;
        frames = refl;
        values = refl;
        bears = greeting_bears z k w.draws (dialog_message w.values.client k 0 (SaidNegotiate w.values.client.live)) refl refl refl (omega arith);
      });
    }
    opened_at false = record { purse = record { next_is = refl; room = omega arith }; fronts = inl refl }

-- ---- Take, on a line

op_behind : (z : WorldSettings) (w : World) (k g : ℕ) (asking : Bool) (x : HeardMessage) (place : ℕ) → Ready w
    → Behind z (op_heard w k g asking x place)
op_behind z w k g asking x place all =
    let n = (w.wires k).client_end in
    let v = with_client_end w k (paid_in n x.header) in
    let a = act w.values.client (Hears k g asking (reply_of (command_asked w.values.client g asking) x.header x.bytes) place) in
    behind_of z (op_heard w k g asking x place)
    (quiet w.wires (closed_wires v k a).wires w.values.conns (closed_by w.values k a).conns
    (ends_then w.wires v.wires (closed_wires v k a).wires (ends_added w.wires k (paid_in n x.header) x.header refl) (closed_ends v k a))
    (closed_same w.values k a) all)

line_heard_behind : (z : WorldSettings) (w : World) (k : ℕ) (x : HeardMessage) (place : ℕ) (t : Option Token) → Ready w
    → Behind z (line_heard w k x place t)
line_heard_behind z w k x place (Some (ForOp g)) all = op_behind z w k g false x place all
line_heard_behind z w k x place (Some (ForAttach g)) all = op_behind z w k g true x place all
line_heard_behind z w k x place (Some ForDialog) all = cut_behind z w k all
line_heard_behind z w k x place None all = cut_behind z w k all

pub line_hears_behind : (z : WorldSettings) (w : World) (k place : ℕ) (o : Option HeardMessage) → Ready w → Behind z (line_hears w k place o)
line_hears_behind z w k place None all = cut_behind z w k all
line_hears_behind z w k place (Some x) all = line_heard_behind z w k x place ((w.wires k).client_end.awaited x.header.message) all
