-- The numbers that a client sends fit their fields, and stay so at each of its steps.
use Rattle.std.proofs.Common.{◌≡◌, ℕ, ◌+◌, ◌%◌, ◌≤◌, ◌<◌, ◌^◌, ◌==◌, ◌&&◌, ◌||◌, not, nat_lt, nat_le, Bool, true, false, if◌then◌else◌, List}
use Rattle.std.proofs.Common.{[], ◌∷◌, refl, sym, ◌∙◌, ap, arith, subst, Option, Some, None, eqb-true, eq-eqb}
use Rattle.std.proofs.lemmas.Bool.{eqb-false, ltb-true, leb-true}
use Rattle.law_server.proofs.tables.Logic.{either, front_of, back_of, back_off}
use Rattle.spec_exchange.specs.Table.{put}
use Rattle.spec_exchange.specs.Status.{success, disk_full, user_session_deleted}
use Rattle.spec_exchange.specs.State.{Body, Reply}
use Rattle.spec_exchange.specs.Operations.{Op, Outcome, Unsettled, WasOk, WasRefused, NoSlot, NoOpen, Unknown, Refusal, is_create, is_close, is_lock}
use Rattle.spec_exchange.specs.Operations.{OpReply, create_of, keeps_limits, id_in}
use Rattle.spec_exchange.specs.Client.{Client, Identity, Stage, Apart, SaidNegotiate, SaidFirst, SaidSecond, AskedTree, create_for, may_take, take_op}
use Rattle.spec_exchange.specs.Client.{may_push, goes_itself, has_its_slot, needs_slot, is_free, take_slot, begin, again, begun, outstanding, asked}
use Rattle.spec_exchange.specs.Client.{lacks_slot, settle_no_slot, settle_no_slots, cut_channel, ends_at_cut, end_session, bind_channel, begin_session}
use Rattle.spec_exchange.specs.Client.{leave_dialog, next_number, last_sequence}
use Rattle.spec_exchange.specs.ClientStep.{Pick, TakesOp, Pushes, Hears, IsCut, IsReady, IsRefused, client_after, itself_after, op_after, pick_after}
use Rattle.spec_exchange.specs.ClientStep.{becomes_ready}
use Rattle.spec_exchange.specs.Settling.{Heard, Settles, GoesAgain, Attaches, EndsSession, noted_ok, noted, noted_full, settled, settle, settles_open}
use Rattle.spec_exchange.specs.Settling.{with_no_opens, hear, heard, is_awaited, was_closed, may_have_acted, refuses_all}
use Rattle.spec_exchange.specs.Dialogs.{open_channel, told_session, went_on, accepted}

-- ---- what its messages' numbers come of

-- the operations that it had taken at some time
pub record Base : Type 0 where
  pub taken : ℕ
  pub op : ℕ → Op

pub record Fit (who : Identity) (limit : ℕ) (base : Base) (c : Client) : Type 0 where
  pub own : c.who ≡ who
  pub sequence : c.sequence ≤ 32767
  pub session : c.session < 256 ^ 8
  pub pending : c.pending < 256 ^ 8
  pub tree : c.tree < 256 ^ 4
  pub kept : (g : ℕ) → 0 < g → g ≤ c.taken → keeps_limits (c.op g) ≡ true
  pub creates :
      (g : ℕ) → 0 < g → g ≤ c.taken → is_create (c.op g) ≡ false
      → (0 < create_for c g) × (create_for c g < g) × (is_create (c.op (create_for c g)) ≡ true)
  pub slots : (g : ℕ) → c.slot_of g ≤ 64
  pub numbers : (g : ℕ) → c.number_of g < 16
  pub files : (g : ℕ) → c.file g < 256 ^ 8
  pub count : c.taken ≤ limit
  pub grown : base.taken ≤ c.taken
  pub same : (g : ℕ) → 0 < g → g ≤ base.taken → c.op g ≡ base.op g

-- all but the files are the same
pub record Most (c d : Client) : Type 0 where
  pub own : d.who ≡ c.who
  pub sequence : d.sequence ≡ c.sequence
  pub session : d.session ≡ c.session
  pub pending : d.pending ≡ c.pending
  pub tree : d.tree ≡ c.tree
  pub taken : d.taken ≡ c.taken
  pub op : d.op ≡ c.op
  pub slots : d.slot_of ≡ c.slot_of
  pub numbers : d.number_of ≡ c.number_of

pub record Alike (c d : Client) : Type 0 where
  pub most : Most c d
  pub file : d.file ≡ c.file

most_self : (c : Client) → Most c c
most_self c = record {
  own = refl;
  sequence = refl;
  session = refl;
  pending = refl;
  tree = refl;
  taken = refl;
  op = refl;
  slots = refl;
  numbers = refl;
}

most_then : (c d e : Client) → Most c d → Most d e → Most c e
most_then c d e a b = record {
  own = b.own ∙ a.own;
  sequence = b.sequence ∙ a.sequence;
  session = b.session ∙ a.session;
  pending = b.pending ∙ a.pending;
  tree = b.tree ∙ a.tree;
  taken = b.taken ∙ a.taken;
  op = b.op ∙ a.op;
  slots = b.slots ∙ a.slots;
  numbers = b.numbers ∙ a.numbers;
}

alike_self : (c : Client) → Alike c c
alike_self c = record { most = most_self c; file = refl }

alike_then : (c d e : Client) → Alike c d → Alike d e → Alike c e
alike_then c d e a b = record { most = most_then c d e a.most b.most; file = b.file ∙ a.file }

-- what it took keeps limits, and names its creates
abbrev KeptBy : (ℕ → Op) → ℕ → Type 0
KeptBy op taken = (g : ℕ) → 0 < g → g ≤ taken → keeps_limits (op g) ≡ true

abbrev CreatesBy : (ℕ → Op) → ℕ → Type 0
CreatesBy op taken =
    (g : ℕ) → 0 < g → g ≤ taken → is_create (op g) ≡ false
    → (0 < create_of g (op g)) × (create_of g (op g) < g) × (is_create (op (create_of g (op g))) ≡ true)

most_fit : (who : Identity) (limit : ℕ) (base : Base) (c d : Client) → Most c d → ((g : ℕ) → d.file g < 256 ^ 8) → Fit who limit base c → Fit who limit base d
most_fit who limit base c d m files f =
    record {
      own = m.own ∙ f.own;
      sequence = subst (λ n. n ≤ 32767) (sym m.sequence) f.sequence;
      session = subst (λ n. n < 256 ^ 8) (sym m.session) f.session;
      pending = subst (λ n. n < 256 ^ 8) (sym m.pending) f.pending;
      tree = subst (λ n. n < 256 ^ 4) (sym m.tree) f.tree;
      kept = subst (λ op. KeptBy op d.taken) (sym m.op) (subst (KeptBy c.op) (sym m.taken) f.kept);
      creates = subst (λ op. CreatesBy op d.taken) (sym m.op) (subst (CreatesBy c.op) (sym m.taken) f.creates);
      slots = subst (λ (s : ℕ → ℕ). (g : ℕ) → s g ≤ 64) (sym m.slots) f.slots;
      numbers = subst (λ (s : ℕ → ℕ). (g : ℕ) → s g < 16) (sym m.numbers) f.numbers;
      files = files;
      count = subst (λ n. n ≤ limit) (sym m.taken) f.count;
      grown = subst (λ n. base.taken ≤ n) (sym m.taken) f.grown;
      same = λ g low up. ap (λ (op : ℕ → Op). op g) m.op ∙ f.same g low up;
    }

alike_fit : (who : Identity) (limit : ℕ) (base : Base) (c d : Client) → Alike c d → Fit who limit base c → Fit who limit base d
alike_fit who limit base c d a f =
    most_fit who limit base c d a.most (subst (λ (s : ℕ → ℕ). (g : ℕ) → s g < 256 ^ 8) (sym a.file) f.files) f

-- ---- Submit

below_next : (h g t : ℕ) → g ≡ t + 1 → h ≤ g → (h ≡ g → ⊥) → h ≤ t
below_next h g t e l n = grind (arith, e, l, n)

put_at : (op : ℕ → Op) (g h : ℕ) (x : Op) → h ≡ g → put op g x h ≡ x
put_at op g h x e = ap (λ b. if b then x else op h) (eq-eqb h g e)

put_off : (op : ℕ → Op) (g h : ℕ) (x : Op) → (h == g) ≡ false → put op g x h ≡ op h
put_off op g h x e = ap (λ b. if b then x else op h) e

less_off : (a g : ℕ) → a < g → (a == g) ≡ false
less_off a g l = by (a == g) refl
  where
    by : (b : Bool) → (a == g) ≡ b → b ≡ false
    by false e = refl
    by true e = absurd (let q = eqb-true a g e in omega (arith, l, q))

takes_kept : (c : Client) (g : ℕ) (op : Op) → g ≡ c.taken + 1 → keeps_limits op ≡ true → KeptBy c.op c.taken → KeptBy (put c.op g op) g
takes_kept c g op next keeps all h low up = by (h == g) refl
  where
    by : (b : Bool) → (h == g) ≡ b → keeps_limits (put c.op g op h) ≡ true
    by true e = ap keeps_limits (put_at c.op g h op (eqb-true h g e)) ∙ keeps
    by false e =
        ap keeps_limits (put_off c.op g h op e) ∙ all h low (below_next h g c.taken next up (λ q. eqb-false h g e q))

-- of an operation that is no create: its create was taken before
abbrev NamesCreate : (ℕ → Op) → ℕ → Op → Type 0
NamesCreate f g op = is_create op ≡ false → (0 < create_of g op) × (create_of g op < g) × (is_create (f (create_of g op)) ≡ true)

names_create : (f : ℕ → Op) (g : ℕ) (op : Op)
    → (is_create op || (nat_lt 0 (create_of g op) && (nat_lt (create_of g op) g && is_create (f (create_of g op))))) ≡ true
    → NamesCreate f g op
names_create f g op e off =
    let q = create_of g op in
    let h : (nat_lt 0 q && (nat_lt q g && is_create (f q))) ≡ true =
    sym (ap (λ b. b || (nat_lt 0 q && (nat_lt q g && is_create (f q)))) off) ∙ e in
    let i = back_of (nat_lt 0 q) (nat_lt q g && is_create (f q)) h in (
      ltb-true 0 q (front_of (nat_lt 0 q) (nat_lt q g && is_create (f q)) h),
      ltb-true q g (front_of (nat_lt q g) (is_create (f q)) i),
      back_of (nat_lt q g) (is_create (f q)) i,
    )

low_create : (q h g t : ℕ) → q < h → h ≤ t → g ≡ t + 1 → q < g
low_create q h g t a b e = omega (arith, a, b, e)

takes_creates : (c : Client) (g : ℕ) (op : Op) → g ≡ c.taken + 1 → NamesCreate c.op g op → CreatesBy c.op c.taken
    → CreatesBy (put c.op g op) g
takes_creates c g op next names all h low up off = by (h == g) refl
  where
    named : (q : ℕ) → q < g → is_create (c.op q) ≡ true → is_create (put c.op g op q) ≡ true
    named q l e = ap is_create (put_off c.op g q op (less_off q g l)) ∙ e

    by : (b : Bool) → (h == g) ≡ b
        → (0 < create_of h (put c.op g op h)) × (create_of h (put c.op g op h) < h)
        × (is_create (put c.op g op (create_of h (put c.op g op h))) ≡ true)
    by true e =
        let s = eqb-true h g e in
        let is = put_at c.op g h op s in
        let n = names (sym (ap is_create is) ∙ off) in
        subst (λ x. (0 < create_of h x) × (create_of h x < h) × (is_create (put c.op g op (create_of h x)) ≡ true)) (sym is)
        (subst (λ i. (0 < create_of i op) × (create_of i op < i) × (is_create (put c.op g op (create_of i op)) ≡ true)) (sym s)
        (n.0, n.1, named (create_of g op) n.1 n.2))
    by false e =
        let is = put_off c.op g h op e in
        let old = below_next h g c.taken next up (λ q. eqb-false h g e q) in
        let n = all h low old (sym (ap is_create is) ∙ off) in
        subst (λ x. (0 < create_of h x) × (create_of h x < h) × (is_create (put c.op g op (create_of h x)) ≡ true)) (sym is)
        (n.0, n.1, named (create_of h (c.op h)) (low_create (create_of h (c.op h)) h g c.taken n.1 old next) n.2)

next_count : (g t n : ℕ) → g ≡ t + 1 → t ≤ n → g ≤ n + 1
next_count g t n e l = omega (arith, e, l)

next_grown : (b t g : ℕ) → g ≡ t + 1 → b ≤ t → b ≤ g
next_grown b t g e l = omega (arith, e, l)

next_less : (h b t g : ℕ) → g ≡ t + 1 → b ≤ t → h ≤ b → h < g
next_less h b t g e l k = omega (arith, e, l, k)

more_count : (t n : ℕ) → t ≤ n → t ≤ n + 1
more_count t n l = omega (arith, l)

pub more_fit : (who : Identity) (limit : ℕ) (base : Base) (c : Client) → Fit who limit base c → Fit who (limit + 1) base c
more_fit who limit base c f = record {
  own = f.own;
  sequence = f.sequence;
  session = f.session;
  pending = f.pending;
  tree = f.tree;
  kept = f.kept;
  creates = f.creates;
  slots = f.slots;
  numbers = f.numbers;
  files = f.files;
  count = more_count c.taken limit f.count;
  grown = f.grown;
  same = f.same;
}

pub submits_fit : (who : Identity) (limit : ℕ) (base : Base) (c : Client) (g : ℕ) (op : Op) → Fit who limit base c
    → Fit who (limit + 1) base (client_after c (TakesOp g op))
submits_fit who limit base c g op f = by (may_take c g op) refl
  where
    names : Bool
    names = is_create op || (nat_lt 0 (create_of g op) && (nat_lt (create_of g op) g && is_create (c.op (create_of g op))))

    by : (b : Bool) → may_take c g op ≡ b → Fit who (limit + 1) base (if b then take_op c g op else c)
    by false e = more_fit who limit base c f
    by true e =
        let next = eqb-true g (c.taken + 1) (front_of (g == c.taken + 1) (keeps_limits op && names) e) in
        let h = back_of (g == c.taken + 1) (keeps_limits op && names) e in
        record {
          own = f.own;
          sequence = f.sequence;
          session = f.session;
          pending = f.pending;
          tree = f.tree;
          kept = takes_kept c g op next (front_of (keeps_limits op) names h) f.kept;
          creates = takes_creates c g op next (names_create c.op g op (back_of (keeps_limits op) names h)) f.creates;
          slots = f.slots;
          numbers = f.numbers;
          files = f.files;
          count = next_count g c.taken limit next f.count;
          grown = next_grown base.taken c.taken g next f.grown;
          same = λ h low up. put_off c.op g h op (less_off h g (next_less h base.taken c.taken g next f.grown up)) ∙ f.same h low up;
        }

-- ---- Push

same_columns : (c : Client) (outcome : ℕ → Outcome) → Alike c (record c { outcome = outcome })
same_columns c outcome =
    record {
      most = record {
        own = refl;
        sequence = refl;
        session = refl;
        pending = refl;
        tree = refl;
        taken = refl;
        op = refl;
        slots = refl;
        numbers = refl;
      };
      file = refl;
    }

no_slot : (c : Client) (k g : ℕ) → Alike c (settle_no_slot c k g)
no_slot c k g =
    either (Alike c) (lacks_slot c k g) (record c { outcome = put c.outcome g (NoSlot (create_for c g)) }) c
    (λ _. same_columns c (put c.outcome g (NoSlot (create_for c g)))) (λ _. alike_self c)

pub no_slots : (c : Client) (k : ℕ) (gs : List ℕ) → Alike c (settle_no_slots c k gs)
unfolding settle_no_slots
no_slots c k [] = alike_self c
no_slots c k (g ∷ gs) =
    alike_then c (settle_no_slot c k g) (settle_no_slots (settle_no_slot c k g) k gs) (no_slot c k g) (no_slots (settle_no_slot c k g) k gs)

again_fit : (who : Identity) (limit : ℕ) (base : Base) (c : Client) (g : ℕ) → Fit who limit base c → Fit who limit base (again c g)
again_fit who limit base c g f =
    either (Fit who limit base) (is_lock (c.op g)) _ c
    (λ _. record {
      own = f.own;
      sequence = f.sequence;
      session = f.session;
      pending = f.pending;
      tree = f.tree;
      kept = f.kept;
      creates = f.creates;
      slots = f.slots;
      numbers = f.numbers;
      files = f.files;
      count = f.count;
      grown = f.grown;
      same = f.same;
    }) (λ _. f)

put_low : (f : ℕ → ℕ) (g v n : ℕ) → v ≤ n → ((h : ℕ) → f h ≤ n) → (h : ℕ) → put f g v h ≤ n
put_low f g v n l all h = either (λ m. m ≤ n) (h == g) v (f h) (λ _. l) (λ _. all h)

put_less : (f : ℕ → ℕ) (g v n : ℕ) → v < n → ((h : ℕ) → f h < n) → (h : ℕ) → put f g v h < n
put_less f g v n l all h = either (λ m. m < n) (h == g) v (f h) (λ _. l) (λ _. all h)

mod_low : (n : ℕ) → (n + 1) % 16 < 16
mod_low n = omega arith

next_low : (c : Client) (o : Option ℕ) → next_number c o < 16
next_low c None = omega arith
next_low c (Some h) = mod_low (c.number_of h)

slot_low : (c : Client) (g i : ℕ) → has_its_slot c g i ≡ true → c.sent g ≡ false → is_lock (c.op g) ≡ true → i ≤ 64
slot_low c g i has unsent locks =
    let needs : needs_slot c g ≡ true = ap (λ b. is_lock (c.op g) && not b) unsent ∙ ap (λ b. b && true) locks in
    let free : is_free c (create_for c g) i ≡ true = sym (ap (λ b. if b then is_free c (create_for c g) i else true) needs) ∙ has in
    leb-true i 64 (back_of (nat_lt 0 i) (nat_le i 64) (front_of (nat_lt 0 i && nat_le i 64) _ free))

begin_fit : (who : Identity) (limit : ℕ) (base : Base) (c : Client) (g i : ℕ) → (is_lock (c.op g) ≡ true → i ≤ 64) → Fit who limit base c → Fit who limit base (begin c g i)
begin_fit who limit base c g i low f =
    either (Fit who limit base) (is_lock (c.op g)) (record (take_slot c g i) { sent = put c.sent g true }) (record c { sent = put c.sent g true })
    (λ locks. record {
      own = f.own;
      sequence = f.sequence;
      session = f.session;
      pending = f.pending;
      tree = f.tree;
      kept = f.kept;
      creates = f.creates;
      slots = put_low c.slot_of g i 64 (low locks) f.slots;
      numbers = put_less c.number_of g (next_number c (c.slot_user (create_for c g) i)) 16 (next_low c (c.slot_user (create_for c g) i)) f.numbers;
      files = f.files;
      count = f.count;
      grown = f.grown;
      same = f.same;
    })
    (λ _. record {
      own = f.own;
      sequence = f.sequence;
      session = f.session;
      pending = f.pending;
      tree = f.tree;
      kept = f.kept;
      creates = f.creates;
      slots = f.slots;
      numbers = f.numbers;
      files = f.files;
      count = f.count;
      grown = f.grown;
      same = f.same;
    })

begun_fit : (who : Identity) (limit : ℕ) (base : Base) (c : Client) (g i : ℕ) → has_its_slot c g i ≡ true → Fit who limit base c → Fit who limit base (begun c g i)
begun_fit who limit base c g i has f =
    either (Fit who limit base) (c.sent g) (again c g) (begin c g i) (λ _. again_fit who limit base c g f)
    (λ unsent. begin_fit who limit base c g i (λ locks. slot_low c g i has unsent locks) f)

out_fit : (who : Identity) (limit : ℕ) (base : Base) (c : Client) (k g : ℕ) → Fit who limit base c → Fit who limit base (outstanding c k g)
out_fit who limit base c k g f = record {
  own = f.own;
  sequence = f.sequence;
  session = f.session;
  pending = f.pending;
  tree = f.tree;
  kept = f.kept;
  creates = f.creates;
  slots = f.slots;
  numbers = f.numbers;
  files = f.files;
  count = f.count;
  grown = f.grown;
  same = f.same;
}

asked_fit : (who : Identity) (limit : ℕ) (base : Base) (c : Client) (k g : ℕ) → Fit who limit base c → Fit who limit base (asked c k g)
asked_fit who limit base c k g f = record {
  own = f.own;
  sequence = f.sequence;
  session = f.session;
  pending = f.pending;
  tree = f.tree;
  kept = f.kept;
  creates = f.creates;
  slots = f.slots;
  numbers = f.numbers;
  files = f.files;
  count = f.count;
  grown = f.grown;
  same = f.same;
}

op_fit : (who : Identity) (limit : ℕ) (base : Base) (c : Client) (k g i : ℕ) → Fit who limit base c → Fit who limit base (op_after c k g i)
op_fit who limit base c k g i f =
    either (Fit who limit base) (may_push c k g) (if goes_itself c g then itself_after c k g i else asked c k g) c
    (λ _. either (Fit who limit base) (goes_itself c g) (itself_after c k g i) (asked c k g)
    (λ _. either (Fit who limit base) (has_its_slot c g i) (outstanding (begun c g i) k g) c
    (λ has. out_fit who limit base (begun c g i) k g (begun_fit who limit base c g i has f)) (λ _. f))
    (λ _. asked_fit who limit base c k g f)) (λ _. f)

pick_fit : (who : Identity) (limit : ℕ) (base : Base) (c : Client) (k : ℕ) (pick : Option Pick) → Fit who limit base c → Fit who limit base (pick_after c k pick)
pick_fit who limit base c k None f = f
pick_fit who limit base c k (Some p) f = op_fit who limit base c k p.op p.slot f

pub pushes_fit : (who : Identity) (limit : ℕ) (base : Base) (c : Client) (k : ℕ) (slotless : List ℕ) (pick : Option Pick) → Fit who limit base c
    → Fit who limit base (client_after c (Pushes k slotless pick))
pushes_fit who limit base c k slotless pick f =
    let d = settle_no_slots c k slotless in
    either (Fit who limit base) (c.ready k) (pick_after d k pick) c (λ _. pick_fit who limit base d k pick (alike_fit who limit base c d (no_slots c k slotless) f)) (λ _. f)

-- ---- a reply is heard

abbrev FilesLow : Client → Type 0
FilesLow c = (g : ℕ) → c.file g < 256 ^ 8

ok_most : (c : Client) (g : ℕ) (body : Body) → Most c (noted_ok c g body)
ok_most c g body =
    either (Most c) (is_create (c.op g)) _ _ (λ _. record {
      own = refl;
      sequence = refl;
      session = refl;
      pending = refl;
      tree = refl;
      taken = refl;
      op = refl;
      slots = refl;
      numbers = refl;
    })
    (λ _. either (Most c) (is_close (c.op g)) _ c (λ _. record {
      own = refl;
      sequence = refl;
      session = refl;
      pending = refl;
      tree = refl;
      taken = refl;
      op = refl;
      slots = refl;
      numbers = refl;
    }) (λ _. most_self c))

ok_files : (c : Client) (g : ℕ) (body : Body) → (is_create (c.op g) ≡ true → id_in body < 256 ^ 8) → FilesLow c → FilesLow (noted_ok c g body)
ok_files c g body low f =
    either FilesLow (is_create (c.op g)) _ _ (λ on. put_less c.file g (id_in body) (256 ^ 8) (low on) f)
    (λ _. either FilesLow (is_close (c.op g)) _ c (λ _. f) (λ _. f))

noted_most : (c : Client) (g : ℕ) (o : Outcome) (body : Body) → Most c (noted c g o body)
noted_most c g Unsettled body = most_self c
noted_most c g (WasOk reply) body = ok_most c g body
noted_most c g (WasRefused status) body = most_self c
noted_most c g (NoSlot create) body = most_self c
noted_most c g (NoOpen create) body = most_self c
noted_most c g (Unknown why) body = most_self c

-- a create that settles with success names an open of at most 8 bytes
abbrev NamesLow : Client → ℕ → Outcome → Body → Type 0
NamesLow c g o body = (x : OpReply) → o ≡ WasOk x → is_create (c.op g) ≡ true → id_in body < 256 ^ 8

noted_files : (c : Client) (g : ℕ) (o : Outcome) (body : Body) → NamesLow c g o body → FilesLow c → FilesLow (noted c g o body)
noted_files c g Unsettled body low f = f
noted_files c g (WasOk reply) body low f = ok_files c g body (low reply refl) f
noted_files c g (WasRefused status) body low f = f
noted_files c g (NoSlot create) body low f = f
noted_files c g (NoOpen create) body low f = f
noted_files c g (Unknown why) body low f = f

full_alike : (d : Client) (g : ℕ) (asking : Bool) (status : ℕ) → Alike d (noted_full d g asking status)
full_alike d g asking status =
    either (Alike d) (is_lock (d.op g) && (not asking && (status == disk_full))) _ d (λ _. record {
      most = record {
        own = refl;
        sequence = refl;
        session = refl;
        pending = refl;
        tree = refl;
        taken = refl;
        op = refl;
        slots = refl;
        numbers = refl;
      };
      file = refl;
    }) (λ _. alike_self d)

settled_alike : (d : Client) (g : ℕ) (o : Outcome) (place : ℕ) → Alike d (settled d g o place)
settled_alike d g o place = record {
  most = record {
    own = refl;
    sequence = refl;
    session = refl;
    pending = refl;
    tree = refl;
    taken = refl;
    op = refl;
    slots = refl;
    numbers = refl;
  };
  file = refl;
}

settle_fit : (who : Identity) (limit : ℕ) (base : Base) (c : Client) (g : ℕ) (asking : Bool) (r : Reply) (place : ℕ) (o : Outcome) → NamesLow c g o r.body
    → Fit who limit base c → Fit who limit base (settle c g asking r place o)
settle_fit who limit base c g asking r place o low f =
    let n = noted c g o r.body in
    let u = noted_full n g asking r.status in
    let d = settled u g o place in
    let at : Fit who limit base n = most_fit who limit base c n (noted_most c g o r.body) (noted_files c g o r.body low f.files) f in
    let there : Fit who limit base d = alike_fit who limit base n d
    (alike_then n u d (full_alike n g asking r.status) (settled_alike u g o place)) at in
    either (Fit who limit base) (settles_open (c.op g)) (with_no_opens d (create_for c g)) d
    (λ _. alike_fit who limit base d (with_no_opens d (create_for c g)) (same_columns d _) there) (λ _. there)

heard_fit : (who : Identity) (limit : ℕ) (base : Base) (c : Client) (g : ℕ) (asking : Bool) (r : Reply) (place : ℕ) (h : Heard)
    → ((x : OpReply) → h ≡ Settles (WasOk x) → is_create (c.op g) ≡ true → id_in r.body < 256 ^ 8)
    → Fit who limit base c → Fit who limit base (hear c g asking r place h)
heard_fit who limit base c g asking r place (Settles o) low f =
    settle_fit who limit base c g asking r place o (λ x e on. low x (ap Settles e) on) f
heard_fit who limit base c g asking r place GoesAgain low f = record {
  own = f.own;
  sequence = f.sequence;
  session = f.session;
  pending = f.pending;
  tree = f.tree;
  kept = f.kept;
  creates = f.creates;
  slots = f.slots;
  numbers = f.numbers;
  files = f.files;
  count = f.count;
  grown = f.grown;
  same = f.same;
}
heard_fit who limit base c g asking r place Attaches low f = record {
  own = f.own;
  sequence = f.sequence;
  session = f.session;
  pending = f.pending;
  tree = f.tree;
  kept = f.kept;
  creates = f.creates;
  slots = f.slots;
  numbers = f.numbers;
  files = f.files;
  count = f.count;
  grown = f.grown;
  same = f.same;
}
heard_fit who limit base c g asking r place EndsSession low f = record {
  own = f.own;
  sequence = f.sequence;
  session = f.session;
  pending = f.pending;
  tree = f.tree;
  kept = f.kept;
  creates = f.creates;
  slots = f.slots;
  numbers = f.numbers;
  files = f.files;
  count = f.count;
  grown = f.grown;
  same = f.same;
}

-- what is asked in a create's place settles nothing of it

never_both : (op : Op) → is_create op ≡ true → is_close op ≡ true → ⊥
never_both op e f = absurd (grind arith)

abbrev NotOk : OpReply → Heard → Type 0
NotOk x h = h ≡ Settles (WasOk x) → ⊥

asked_not_ok : (c : Client) (g : ℕ) (r : Reply) (x : OpReply) → is_create (c.op g) ≡ true → NotOk x (heard c g true r)
asked_not_ok c g r x on =
    either (NotOk x) (r.status == user_session_deleted) _ _ (λ _ e. absurd (cc))
    (λ _. either (NotOk x) (r.status == success) _ _ (λ _ e. absurd (cc))
    (λ _. either (NotOk x) (not (c.unanswered g)) _ _ (λ _ e. absurd (cc))
    (λ _. either (NotOk x) (was_closed (c.op g) true r.status) _ _ (λ closed e. never_both (c.op g) on (front_of (is_close (c.op g)) _ closed))
    (λ _. either (NotOk x) (may_have_acted (c.op g) true r.status) _ _ (λ _ e. absurd (cc))
    (λ _. either (NotOk x) (refuses_all (c.op g) r.status) _ _ (λ _ e. absurd (cc)) (λ _ e. absurd (cc)))))))

pub hears_fit : (who : Identity) (limit : ℕ) (base : Base) (c : Client) (k g : ℕ) (asking : Bool) (r : Reply) (place : ℕ)
    → (is_create (c.op g) ≡ true → asking ≡ false → id_in r.body < 256 ^ 8) → Fit who limit base c
    → Fit who limit base (client_after c (Hears k g asking r place))
hears_fit who limit base c k g asking r place low f =
    either (Fit who limit base) (is_awaited c k g asking) (hear c g asking r place (heard c g asking r)) c
    (λ _. heard_fit who limit base c g asking r place (heard c g asking r) (by asking refl) f) (λ _. f)
  where
    by : (b : Bool) → asking ≡ b → (x : OpReply) → heard c g asking r ≡ Settles (WasOk x) → is_create (c.op g) ≡ true → id_in r.body < 256 ^ 8
    by false e x is on = low on e
    by true e x is on = absurd (asked_not_ok c g r x on (sym (ap (λ b. heard c g b r) e) ∙ is))

-- ---- cuts, ends of dialogs

one_more : (n : ℕ) → n ≤ 32767 → (n ≡ 32767 → ⊥) → n + 1 ≤ 32767
one_more n l e = grind (arith, l, e)

ended_fit : (who : Identity) (limit : ℕ) (base : Base) (c : Client) → Fit who limit base c → Fit who limit base (end_session c)
ended_fit who limit base c f = record {
  own = f.own;
  sequence = f.sequence;
  session = f.session;
  pending = f.pending;
  tree = f.tree;
  kept = f.kept;
  creates = f.creates;
  slots = f.slots;
  numbers = f.numbers;
  files = f.files;
  count = f.count;
  grown = f.grown;
  same = f.same;
}

pub cuts_fit : (who : Identity) (limit : ℕ) (base : Base) (c : Client) (k : ℕ) → Fit who limit base c → Fit who limit base (client_after c (IsCut k))
cuts_fit who limit base c k f =
    either (Fit who limit base) (c.ready k) _ c
    (λ _. either (Fit who limit base) (ends_at_cut c) (end_session c) (cut_channel c k) (λ _. ended_fit who limit base c f)
    (λ off. record {
      own = f.own;
      sequence = one_more c.sequence f.sequence
          (λ e. eqb-false c.sequence last_sequence (back_off (c.channels == 1) (c.sequence == last_sequence) off) e);
      session = f.session;
      pending = f.pending;
      tree = f.tree;
      kept = f.kept;
      creates = f.creates;
      slots = f.slots;
      numbers = f.numbers;
      files = f.files;
      count = f.count;
      grown = f.grown;
      same = f.same;
    })) (λ _. f)

pub leaves_fit : (who : Identity) (limit : ℕ) (base : Base) (c : Client) (k : ℕ) → Fit who limit base c → Fit who limit base (leave_dialog c k)
leaves_fit who limit base c k f = record {
  own = f.own;
  sequence = f.sequence;
  session = f.session;
  pending = f.pending;
  tree = f.tree;
  kept = f.kept;
  creates = f.creates;
  slots = f.slots;
  numbers = f.numbers;
  files = f.files;
  count = f.count;
  grown = f.grown;
  same = f.same;
}

pub refuses_fit : (who : Identity) (limit : ℕ) (base : Base) (c : Client) (k : ℕ) (why : Refusal) → Fit who limit base c → Fit who limit base (client_after c (IsRefused k why))
refuses_fit who limit base c k why f = record {
  own = f.own;
  sequence = f.sequence;
  session = f.session;
  pending = f.pending;
  tree = f.tree;
  kept = f.kept;
  creates = f.creates;
  slots = f.slots;
  numbers = f.numbers;
  files = f.files;
  count = f.count;
  grown = f.grown;
  same = f.same;
}

pub ready_fit : (who : Identity) (limit : ℕ) (base : Base) (c : Client) (k session tree : ℕ) → session < 256 ^ 8 → tree < 256 ^ 4 → Fit who limit base c
    → Fit who limit base (client_after c (IsReady k session tree))
ready_fit who limit base c k session tree low small f =
    either (Fit who limit base) (becomes_ready c session) (if c.live then bind_channel c k else begin_session c k session tree) (leave_dialog c k)
    (λ _. either (Fit who limit base) c.live (bind_channel c k) (begin_session c k session tree)
    (λ _. record {
      own = f.own;
      sequence = f.sequence;
      session = f.session;
      pending = f.pending;
      tree = f.tree;
      kept = f.kept;
      creates = f.creates;
      slots = f.slots;
      numbers = f.numbers;
      files = f.files;
      count = f.count;
      grown = f.grown;
      same = f.same;
    })
    (λ _. record {
      own = f.own;
      sequence = omega arith;
      session = low;
      pending = f.pending;
      tree = small;
      kept = f.kept;
      creates = f.creates;
      slots = f.slots;
      numbers = f.numbers;
      files = f.files;
      count = f.count;
      grown = f.grown;
      same = f.same;
    })) (λ _. leaves_fit who limit base c k f)

-- ---- dialogs

pub opens_fit : (who : Identity) (limit : ℕ) (base : Base) (c : Client) (k : ℕ) → Fit who limit base c → Fit who limit base (open_channel c k)
opens_fit who limit base c k f = record {
  own = f.own;
  sequence = f.sequence;
  session = f.session;
  pending = f.pending;
  tree = f.tree;
  kept = f.kept;
  creates = f.creates;
  slots = f.slots;
  numbers = f.numbers;
  files = f.files;
  count = f.count;
  grown = f.grown;
  same = f.same;
}

told_low : (c : Client) (s : Stage) (r : Reply) → r.session_id < 256 ^ 8 → c.pending < 256 ^ 8 → told_session c s r < 256 ^ 8
told_low c Apart r l old = old
told_low c (SaidNegotiate bound) r l old = old
told_low c (SaidFirst bound) r l old = old
told_low c (SaidSecond true) r l old = old
told_low c (SaidSecond false) r l old = l
told_low c AskedTree r l old = old

pub went_fit : (who : Identity) (limit : ℕ) (base : Base) (c : Client) (k : ℕ) (s : Stage) (r : Reply) → r.session_id < 256 ^ 8 → Fit who limit base c → Fit who limit base (went_on c k s r)
went_fit who limit base c k s r low f = record {
  own = f.own;
  sequence = f.sequence;
  session = f.session;
  pending = told_low c s r low f.pending;
  tree = f.tree;
  kept = f.kept;
  creates = f.creates;
  slots = f.slots;
  numbers = f.numbers;
  files = f.files;
  count = f.count;
  grown = f.grown;
  same = f.same;
}

pub accepts_fit : (who : Identity) (limit : ℕ) (base : Base) (c : Client) (k : ℕ) → Fit who limit base c → Fit who limit base (accepted c k)
accepts_fit who limit base c k f = record {
  own = f.own;
  sequence = f.sequence;
  session = f.session;
  pending = f.pending;
  tree = f.tree;
  kept = f.kept;
  creates = f.creates;
  slots = f.slots;
  numbers = f.numbers;
  files = f.files;
  count = f.count;
  grown = f.grown;
  same = f.same;
}

-- the operations that it has taken now
abbrev pub base_of : Client → Base
base_of c = record { taken = c.taken; op = c.op }

same_many : (n : ℕ) → n ≤ n
same_many n = omega arith

pub based : (who : Identity) (limit : ℕ) (base : Base) (c : Client) → Fit who limit base c → Fit who limit (base_of c) c
based who limit base c f = record {
  own = f.own;
  sequence = f.sequence;
  session = f.session;
  pending = f.pending;
  tree = f.tree;
  kept = f.kept;
  creates = f.creates;
  slots = f.slots;
  numbers = f.numbers;
  files = f.files;
  count = f.count;
  grown = same_many c.taken;
  same = λ g low up. refl;
}
