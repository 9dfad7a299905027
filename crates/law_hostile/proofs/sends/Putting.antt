-- The numbers of what the client sends at an event fit their fields.
use Rattle.std.proofs.Common.{◌≡◌, ℕ, ◌+◌, ◌*◌, ◌≤◌, ◌<◌, ◌^◌, ◌==◌, ◌&&◌, nat_lt, nat_le, Bool, true, false, if◌then◌else◌, List}
use Rattle.std.proofs.Common.{refl, sym, ◌∙◌, ap, arith, subst, Option, Some, None}
use Rattle.std.proofs.lemmas.Bool.{ltb-true, leb-true}
use Rattle.law_server.proofs.tables.Logic.{either, front_of, back_of, front_off}
use Rattle.spec_wire.specs.messages.Places.{number_of}
use Rattle.spec_exchange.specs.Status.{success, more_processing_required}
use Rattle.spec_exchange.specs.Commands.{Command, TreeConnect}
use Rattle.spec_exchange.specs.State.{Reply}
use Rattle.spec_exchange.specs.Operations.{Op, is_create, request_of}
use Rattle.spec_exchange.specs.Client.{Client, Identity, Stage, Apart, SaidNegotiate, SaidFirst, SaidSecond, AskedTree, is_taken, create_for, guid_for}
use Rattle.spec_exchange.specs.Client.{may_push, goes_itself, has_its_slot, settle_no_slots, own_message, ask_message}
use Rattle.spec_exchange.specs.ClientStep.{Pick, Act, Nothing, Sends, Asks, CloseChannel, CloseChannels, AllSettled, Pushes, act, client_after}
use Rattle.spec_exchange.specs.ClientStep.{pick_act, op_act, some_unsettled}
use Rattle.spec_exchange.specs.Dialogs.{DialogStep, GoesOn, Accepts, Binds, Readies, Refuses, dialog_step, dialog_message, went_on, accepted}
use Rattle.spec_exchange.specs.Network.{Sent, ForDialog, ForOp, ForAttach}
use Rattle.spec_world.specs.Settings.{WorldSettings, identity_of}
use Rattle.law_hostile.specs.dialogs.OwnDialogs.{goes_on_line}
use Rattle.law_hostile.specs.meant.Heard.{OfOperation, OfAttach, OfTree, FitsRequest}
use Rattle.law_hostile.specs.sends.OwnSends.{PushSends, DialogSends}
use Rattle.law_hostile.proofs.sends.Clients.{Base, Fit, Alike, base_of, based, no_slots, pushes_fit}
use Rattle.law_hostile.proofs.sends.Salt.{salt_fits}

-- ---- what is pushed was taken

record Picks (c : Client) (a : Act) : Type 0 where
  sends : (g : ℕ) → a ≡ Sends g → is_taken c g ≡ true
  asks : (g : ℕ) → a ≡ Asks g → (is_taken c g ≡ true) × (is_create (c.op g) ≡ false)

quiet_picks : (c : Client) (a : Act) → ((g : ℕ) → a ≡ Sends g → ⊥) → ((g : ℕ) → a ≡ Asks g → ⊥) → Picks c a
quiet_picks c a s t = record { sends = λ g e. absurd (s g e); asks = λ g e. absurd (t g e) }

nothing_picks : (c : Client) → Picks c Nothing
nothing_picks c = quiet_picks c Nothing (λ g e. absurd (cc)) (λ g e. absurd (cc))

settled_picks : (c : Client) → Picks c AllSettled
settled_picks c = quiet_picks c AllSettled (λ g e. absurd (cc)) (λ g e. absurd (cc))

close_picks : (c : Client) → Picks c CloseChannels
close_picks c = quiet_picks c CloseChannels (λ g e. absurd (cc)) (λ g e. absurd (cc))

sends_picks : (c : Client) (g : ℕ) → is_taken c g ≡ true → Picks c (Sends g)
sends_picks c g t =
    record {
      sends = λ h e. (let s : g ≡ h = cc in subst (λ i. is_taken c i ≡ true) s t);
      asks = λ h e. absurd (cc);
    }

asks_picks : (c : Client) (g : ℕ) → is_taken c g ≡ true → is_create (c.op g) ≡ false → Picks c (Asks g)
asks_picks c g t off =
    record {
      sends = λ h e. absurd (cc);
      asks = λ h e. (let s : g ≡ h = cc in subst (λ i. (is_taken c i ≡ true) × (is_create (c.op i) ≡ false)) s (t, off));
    }

op_picks : (c : Client) (k g i : ℕ) → Picks c (op_act c k g i)
op_picks c k g i =
    either (Picks c) (may_push c k g) _ Nothing
    (λ may. (let t = front_of (is_taken c g) _ (back_of (c.ready k) _ may) in
    either (Picks c) (goes_itself c g) _ (Asks g)
    (λ _. either (Picks c) (has_its_slot c g i) (Sends g) Nothing (λ _. sends_picks c g t) (λ _. nothing_picks c))
    (λ off. asks_picks c g t (front_off (is_create (c.op g)) _ off))))
    (λ _. nothing_picks c)

pick_picks : (c : Client) (k : ℕ) (pick : Option Pick) → Picks c (pick_act c k pick)
pick_picks c k None =
    either (Picks c) (some_unsettled c c.taken) Nothing AllSettled (λ _. nothing_picks c) (λ _. settled_picks c)
pick_picks c k (Some p) = op_picks c k p.op p.slot

alike_picks : (c d : Client) (a : Act) → Alike c d → Picks d a → Picks c a
alike_picks c d a i p =
    let m = i.most in
    record {
      sends = λ g e. ap (λ n. nat_lt 0 g && nat_le g n) (sym m.taken) ∙ p.sends g e;
      asks = λ g e. (let q = p.asks g e in (
        ap (λ n. nat_lt 0 g && nat_le g n) (sym m.taken) ∙ q.0,
        ap (λ (op : ℕ → Op). is_create (op g)) (sym m.op) ∙ q.1,
      ));
    }

push_picks : (c : Client) (k : ℕ) (slotless : List ℕ) (pick : Option Pick) → Picks c (act c (Pushes k slotless pick))
push_picks c k slotless pick =
    let d = settle_no_slots c k slotless in
    either (Picks c) (c.ready k) (pick_act d k pick) (if some_unsettled c c.taken then CloseChannels else AllSettled)
    (λ _. alike_picks c d (pick_act d k pick) (no_slots c k slotless) (pick_picks d k pick))
    (λ _. either (Picks c) (some_unsettled c c.taken) CloseChannels AllSettled (λ _. close_picks c) (λ _. settled_picks c))

taken_is : (c : Client) (g : ℕ) → is_taken c g ≡ true → (0 < g) × (g ≤ c.taken)
taken_is c g e = (ltb-true 0 g (front_of (nat_lt 0 g) (nat_le g c.taken) e), leb-true g c.taken (back_of (nat_lt 0 g) (nat_le g c.taken) e))

-- ---- its numbers

low_sequence : (n : ℕ) → n ≤ 32767 → n < 256 ^ 2
low_sequence n l = omega (arith, l)

low_slot : (n : ℕ) → n ≤ 64 → n < 256 ^ 3
low_slot n l = omega (arith, l)

low_guid : (salt g : ℕ) → salt < 2 ^ 64 → g < 2 ^ 64 → salt * 0x1_0000_0000_0000_0000 + g < 256 ^ 16
low_guid salt g s l = omega (arith, s, l)

below : (g t n : ℕ) → g ≤ t → t ≤ n → n < 2 ^ 64 → g < 2 ^ 64
below g t n a b c = omega (arith, a, b, c)

less_below : (q g t n : ℕ) → q < g → g ≤ t → t ≤ n → n < 2 ^ 64 → q < 2 ^ 64
less_below q g t n a b c d = omega (arith, a, b, c, d)

no_less : (q g t : ℕ) → q < g → g ≤ t → q ≤ t
no_less q g t a b = omega (arith, a, b)

guid_low : (z : WorldSettings) (limit : ℕ) (base : Base) (c : Client) (g : ℕ) → Fit (identity_of z) limit base c → g < 2 ^ 64
    → guid_for c g < 256 ^ 16
guid_low z limit base c g f l =
    low_guid c.who.salt g (subst (λ (i : Identity). i.salt < 2 ^ 64) (sym f.own) (salt_fits z)) l

own_fits : (z : WorldSettings) (limit : ℕ) (base : Base) (c : Client) (k id g : ℕ) → Fit (identity_of z) limit base c → limit < 2 ^ 64
    → 0 < g → g ≤ c.taken → FitsRequest z (own_message c k id g)
own_fits z limit base c k id g f few low up =
    record {
      sequence = low_sequence c.sequence f.sequence;
      session = f.session;
      tree = f.tree;
      command = OfOperation (c.op g) (guid_for c g) (c.file (create_for c g)) (c.slot_of g) (c.number_of g) refl (f.kept g low up)
          (guid_low z limit base c g f (below g c.taken limit up f.count few)) (f.files (create_for c g)) (low_slot (c.slot_of g) (f.slots g))
          (f.numbers g);
    }

ask_fits : (z : WorldSettings) (limit : ℕ) (base : Base) (c : Client) (k id g : ℕ) → Fit (identity_of z) limit base c → limit < 2 ^ 64
    → 0 < g → g ≤ c.taken → is_create (c.op g) ≡ false → FitsRequest z (ask_message c k id g)
ask_fits z limit base c k id g f few low up off =
    let q = create_for c g in
    let n = f.creates g low up off in
    record {
      sequence = low_sequence c.sequence f.sequence;
      session = f.session;
      tree = f.tree;
      command = OfAttach (c.op q) (guid_for c q) (c.file q) refl (f.kept q n.0 (no_less q g c.taken n.1 up)) n.2
          (guid_low z limit base c q f (less_below q g c.taken limit n.1 up f.count few)) (f.files q);
    }

zero_low : 0 < 256 ^ 2
zero_low = omega arith

no_tree : 0 < 256 ^ 4
no_tree = omega arith

tree_fits : (z : WorldSettings) (limit : ℕ) (base : Base) (c : Client) (k id : ℕ) → Fit (identity_of z) limit base c
    → FitsRequest z (dialog_message (accepted c k) k id AskedTree)
tree_fits z limit base c k id f =
    record {
      sequence = zero_low;
      session = f.pending;
      tree = no_tree;
      command = OfTree (ap (λ (i : Identity). TreeConnect i.share) f.own);
    }

-- ---- what is sent at a push

-- an operation's own request, by what its client had taken
pub record OfOp (op : ℕ → Op) (taken g : ℕ) (c : Command) : Type 0 where
  pub low : 0 < g
  pub up : g ≤ taken
  pub guid : ℕ
  pub file : ℕ
  pub slot : ℕ
  pub number : ℕ
  pub command : c ≡ request_of (op g) guid file slot number

pub record GoodSend (z : WorldSettings) (op : ℕ → Op) (taken : ℕ) (x : Sent) : Type 0 where
  pub fits : goes_on_line x.token x.message.command ≡ true → FitsRequest z x.message
  pub own : (g : ℕ) → x.token ≡ ForOp g → OfOp op taken g x.message.command
  pub client : x.message.client_guid ≡ number_of z.client.guid

own_good : (z : WorldSettings) (op : ℕ → Op) (limit taken : ℕ) (d : Client) (k id g : ℕ) (base : Base) → Fit (identity_of z) limit base d
    → limit < 2 ^ 64 → 0 < g → g ≤ taken → g ≤ d.taken → d.op g ≡ op g
    → GoodSend z op taken (record { token = ForOp g; message = own_message d k id g })
own_good z op limit taken d k id g base f few low up here same =
    record {
      fits = λ _. own_fits z limit base d k id g f few low here;
      own = λ h e. (
          let s : g ≡ h = cc in
          subst (λ i. OfOp op taken i (request_of (d.op g) (guid_for d g) (d.file (create_for d g)) (d.slot_of g) (d.number_of g))) s
          (record {
            low = low;
            up = up;
            guid = guid_for d g;
            file = d.file (create_for d g);
            slot = d.slot_of g;
            number = d.number_of g;
            command = ap (λ o. request_of o (guid_for d g) (d.file (create_for d g)) (d.slot_of g) (d.number_of g)) same;
          }));
      client = ap (λ (i : Identity). i.guid) f.own;
    }

ask_good : (z : WorldSettings) (op : ℕ → Op) (limit taken : ℕ) (d : Client) (k id g : ℕ) (base : Base) → Fit (identity_of z) limit base d
    → limit < 2 ^ 64 → 0 < g → g ≤ d.taken → is_create (d.op g) ≡ false
    → GoodSend z op taken (record { token = ForAttach g; message = ask_message d k id g })
ask_good z op limit taken d k id g base f few low here off =
    record {
      fits = λ _. ask_fits z limit base d k id g f few low here off;
      own = λ h e. absurd (cc);
      client = ap (λ (i : Identity). i.guid) f.own;
    }

no_more : (g a b : ℕ) → g ≤ a → a ≤ b → g ≤ b
no_more g a b l m = omega (arith, l, m)

-- of the client c before the push and d behind it
pub push_good : (z : WorldSettings) (limit : ℕ) (base : Base) (c : Client) (k id : ℕ) (slotless : List ℕ) (pick : Option Pick) (x : Sent)
    → Fit (identity_of z) limit base c → limit < 2 ^ 64
    → PushSends k id (client_after c (Pushes k slotless pick)) (act c (Pushes k slotless pick)) x → GoodSend z c.op c.taken x
push_good z limit base c k id slotless pick x f few h =
    by (act c (Pushes k slotless pick)) (push_picks c k slotless pick) h
  where
    by : (a : Act) → Picks c a → PushSends k id (client_after c (Pushes k slotless pick)) a x → GoodSend z c.op c.taken x
    by (Sends g) p e =
        let t = taken_is c g (p.sends g refl) in
        let f_d = pushes_fit (identity_of z) limit (base_of c) c k slotless pick (based (identity_of z) limit base c f) in
        subst (GoodSend z c.op c.taken) (sym e)
        (own_good z c.op limit c.taken (client_after c (Pushes k slotless pick)) k id g (base_of c) f_d few t.0 t.1
        (no_more g c.taken (client_after c (Pushes k slotless pick)).taken t.1 f_d.grown) (f_d.same g t.0 t.1))
    by (Asks g) p e =
        let q = p.asks g refl in
        let t = taken_is c g q.0 in
        let f_d = pushes_fit (identity_of z) limit (base_of c) c k slotless pick (based (identity_of z) limit base c f) in
        subst (GoodSend z c.op c.taken) (sym e)
        (ask_good z c.op limit c.taken (client_after c (Pushes k slotless pick)) k id g (base_of c) f_d few t.0
        (no_more g c.taken (client_after c (Pushes k slotless pick)).taken t.1 f_d.grown) (ap is_create (f_d.same g t.0 t.1) ∙ q.1))
    by Nothing p e = absurd e
    by CloseChannel p e = absurd e
    by CloseChannels p e = absurd e
    by AllSettled p e = absurd e

-- ---- what is sent in a dialog

talk_good : (z : WorldSettings) (op : ℕ → Op) (taken : ℕ) (x : Sent) → x.message.client_guid ≡ number_of z.client.guid → x.token ≡ ForDialog
    → goes_on_line x.token x.message.command ≡ false → GoodSend z op taken x
talk_good z op taken x client own off =
    record {
      client = client;
      fits = λ on. absurd (let q : true ≡ false = sym on ∙ off in cc);
      own = λ g e. absurd (let q : ForOp g ≡ ForDialog = sym e ∙ own in cc);
    }

pub open_good : (z : WorldSettings) (op : ℕ → Op) (taken limit : ℕ) (base : Base) (c : Client) (k id : ℕ) (bound : Bool) (x : Sent)
    → Fit (identity_of z) limit base c → x ≡ record { token = ForDialog; message = dialog_message c k id (SaidNegotiate bound) } → GoodSend z op taken x
open_good z op taken limit base c k id bound x f e =
    subst (GoodSend z op taken) (sym e)
    (talk_good z op taken (record { token = ForDialog; message = dialog_message c k id (SaidNegotiate bound) })
    (ap (λ (i : Identity). i.guid) f.own) refl refl)

tree_good : (z : WorldSettings) (op : ℕ → Op) (taken limit : ℕ) (base : Base) (c : Client) (k id : ℕ) → Fit (identity_of z) limit base c
    → GoodSend z op taken (record { token = ForDialog; message = dialog_message (accepted c k) k id AskedTree })
tree_good z op taken limit base c k id f =
    record { fits = λ _. tree_fits z limit base c k id f; own = λ g e. absurd (cc); client = ap (λ (i : Identity). i.guid) f.own }

abbrev Answering : WorldSettings → (ℕ → Op) → ℕ → ℕ → ℕ → Client → Reply → DialogStep → Type 0
Answering z op taken k id c r d = (x : Sent) → DialogSends k id c r d x → GoodSend z op taken x

refused_good : (z : WorldSettings) (op : ℕ → Op) (taken k id : ℕ) (c : Client) (r : Reply) (status : ℕ)
    → Answering z op taken k id c r (Refuses status)
refused_good z op taken k id c r status x h = absurd h

pub dialog_good : (z : WorldSettings) (op : ℕ → Op) (taken limit : ℕ) (base : Base) (c : Client) (k id : ℕ) (r : Reply) (s : Stage) (status : ℕ)
    → Fit (identity_of z) limit base c → Answering z op taken k id c r (dialog_step s status)
dialog_good z op taken limit base c k id r Apart status f = refused_good z op taken k id c r status
dialog_good z op taken limit base c k id r (SaidNegotiate bound) status f =
    either (Answering z op taken k id c r) (status == success) (GoesOn (SaidFirst bound)) (Refuses status)
    (λ _ x e. subst (GoodSend z op taken) (sym e) (talk_good z op taken (record {
      token = ForDialog;
      message = dialog_message (went_on c k (SaidFirst bound) r) k id (SaidFirst bound);
    }) (ap (λ (i : Identity). i.guid) f.own) refl refl))
    (λ _. refused_good z op taken k id c r status)
dialog_good z op taken limit base c k id r (SaidFirst bound) status f =
    either (Answering z op taken k id c r) (status == more_processing_required) (GoesOn (SaidSecond bound)) (Refuses status)
    (λ _ x e. subst (GoodSend z op taken) (sym e) (talk_good z op taken (record {
      token = ForDialog;
      message = dialog_message (went_on c k (SaidSecond bound) r) k id (SaidSecond bound);
    }) (ap (λ (i : Identity). i.guid) f.own) refl refl))
    (λ _. refused_good z op taken k id c r status)
dialog_good z op taken limit base c k id r (SaidSecond true) status f =
    either (Answering z op taken k id c r) (status == success) Binds (Refuses status) (λ _ x h. absurd h)
    (λ _. refused_good z op taken k id c r status)
dialog_good z op taken limit base c k id r (SaidSecond false) status f =
    either (Answering z op taken k id c r) (status == success) Accepts (Refuses status)
    (λ _ x e. subst (GoodSend z op taken) (sym e) (tree_good z op taken limit base c k id f))
    (λ _. refused_good z op taken k id c r status)
dialog_good z op taken limit base c k id r AskedTree status f =
    either (Answering z op taken k id c r) (status == success) Readies (Refuses status) (λ _ x h. absurd h)
    (λ _. refused_good z op taken k id c r status)
