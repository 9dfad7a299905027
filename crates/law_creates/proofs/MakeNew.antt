-- Written by tools/law_creates.py. A create acts.
use Rattle.std.proofs.Common.{◌≡◌, ◌≢◌, ℕ, ◌+◌, ◌<◌, true, false, arith, Some, slice_get}
use Rattle.spec_exchange.specs.State.{Open as OpenRow}
use Rattle.spec_exchange.specs.Client.{Client}
use Rattle.spec_exchange.specs.Network.{Conn, Received, ForOp}
use Rattle.spec_exchange.specs.Runs.{never_acted}
use Rattle.law_sessions.specs.messages.Connections.{makes_open}
use Rattle.law_sessions.proofs.messages.Lists.{get-push}
use Rattle.law_sessions.specs.sessions.Sessions.{logon_user}
use Rattle.law_creates.specs.Creates.{Seen, Creates, guid_at, refuses, outlives, may_act, Made, Named, NamedKind}
use Rattle.law_creates.specs.Creates.{NamedGiven, Attached, PlainAttached, Unclosed, ActedKept, AtMost, FormActed}
use Rattle.law_creates.specs.Creates.{RefusedNot, DeadRefused, NoReply, BarredReply, OkActed, OkReply, FileGuid, FileOf}
use Rattle.law_creates.specs.Creates.{ReplyGuid, ReplyOf}
use Rattle.law_creates.proofs.Words.{guid_once, full_more}
use Rattle.law_creates.proofs.Moves.{make_new}

make_new_made : (c : Client) (conns : ℕ → Conn) (v : Seen) (a : ℕ → ℕ) (g x o0 : ℕ) (row : OpenRow) (b : ℕ → ℕ)
    → (makes_open (c.op g) ≡ true) → (a g ≡ 0) → (b g ≡ 1) → (may_act c g ≡ true) → (o0 ≡ v.last + 1) → (0 < c.rank x)
    → (v.present x ≡ true) → (row.client_guid ≡ c.who.guid) → (row.create_guid ≡ Some (guid_at c g))
    → (row.persistent ≡ outlives (c.op g)) → (row.user ≡ logon_user c.who.logon) → (never_acted (c.outcome g) ≡ false)
    → ((h : ℕ) → makes_open (c.op h) ≡ true → h ≢ g → b h ≡ a h) → Made c v a
    → Made c (make_new v o0 row x (guid_at c g)) b
make_new_made c conns v a g x o0 row b create idle counted formed above ranked there client guid kind user alive others i_made =
    λ p o. let old = i_made p o in let same = guid_once c.who.salt p g in let oth = others p in grind arith

make_new_named : (c : Client) (conns : ℕ → Conn) (v : Seen) (a : ℕ → ℕ) (g x o0 : ℕ) (row : OpenRow) (b : ℕ → ℕ)
    → (makes_open (c.op g) ≡ true) → (a g ≡ 0) → (b g ≡ 1) → (may_act c g ≡ true) → (o0 ≡ v.last + 1) → (0 < c.rank x)
    → (v.present x ≡ true) → (row.client_guid ≡ c.who.guid) → (row.create_guid ≡ Some (guid_at c g))
    → (row.persistent ≡ outlives (c.op g)) → (row.user ≡ logon_user c.who.logon) → (never_acted (c.outcome g) ≡ false)
    → Named c v → NamedGiven c v → Named c (make_new v o0 row x (guid_at c g))
make_new_named c conns v a g x o0 row b create idle counted formed above ranked there client guid kind user alive i_named i_named_given =
    λ p o. let old = i_named p o in let gv = i_named_given p o in let same = guid_once c.who.salt p g in grind arith

make_new_named_kind : (c : Client) (conns : ℕ → Conn) (v : Seen) (a : ℕ → ℕ) (g x o0 : ℕ) (row : OpenRow) (b : ℕ → ℕ)
    → (makes_open (c.op g) ≡ true) → (a g ≡ 0) → (b g ≡ 1) → (may_act c g ≡ true) → (o0 ≡ v.last + 1) → (0 < c.rank x)
    → (v.present x ≡ true) → (row.client_guid ≡ c.who.guid) → (row.create_guid ≡ Some (guid_at c g))
    → (row.persistent ≡ outlives (c.op g)) → (row.user ≡ logon_user c.who.logon) → (never_acted (c.outcome g) ≡ false)
    → NamedKind c v → NamedGiven c v → NamedKind c (make_new v o0 row x (guid_at c g))
make_new_named_kind c conns v a g x o0 row b create idle counted formed above ranked there client guid kind user alive
    i_named_kind i_named_given =
    λ p o. let old = i_named_kind p o in let gv = i_named_given p o in let same = guid_once c.who.salt p g in grind arith

make_new_named_given : (c : Client) (conns : ℕ → Conn) (v : Seen) (a : ℕ → ℕ) (g x o0 : ℕ) (row : OpenRow) (b : ℕ → ℕ)
    → (makes_open (c.op g) ≡ true) → (a g ≡ 0) → (b g ≡ 1) → (may_act c g ≡ true) → (o0 ≡ v.last + 1) → (0 < c.rank x)
    → (v.present x ≡ true) → (row.client_guid ≡ c.who.guid) → (row.create_guid ≡ Some (guid_at c g))
    → (row.persistent ≡ outlives (c.op g)) → (row.user ≡ logon_user c.who.logon) → (never_acted (c.outcome g) ≡ false)
    → NamedGiven c v → NamedGiven c (make_new v o0 row x (guid_at c g))
make_new_named_given c conns v a g x o0 row b create idle counted formed above ranked there client guid kind user alive i_named_given =
    λ p o. let old = i_named_given p o in let same = guid_once c.who.salt p g in grind arith

make_new_attached : (c : Client) (conns : ℕ → Conn) (v : Seen) (a : ℕ → ℕ) (g x o0 : ℕ) (row : OpenRow) (b : ℕ → ℕ)
    → (makes_open (c.op g) ≡ true) → (a g ≡ 0) → (b g ≡ 1) → (may_act c g ≡ true) → (o0 ≡ v.last + 1) → (0 < c.rank x)
    → (v.present x ≡ true) → (row.client_guid ≡ c.who.guid) → (row.create_guid ≡ Some (guid_at c g))
    → (row.persistent ≡ outlives (c.op g)) → (row.user ≡ logon_user c.who.logon) → (never_acted (c.outcome g) ≡ false)
    → Attached c v → Attached c (make_new v o0 row x (guid_at c g))
make_new_attached c conns v a g x o0 row b create idle counted formed above ranked there client guid kind user alive i_attached =
    λ o z. let old = i_attached o z in grind arith

make_new_plain_attached : (c : Client) (conns : ℕ → Conn) (v : Seen) (a : ℕ → ℕ) (g x o0 : ℕ) (row : OpenRow)
    (b : ℕ → ℕ) → (makes_open (c.op g) ≡ true) → (a g ≡ 0) → (b g ≡ 1) → (may_act c g ≡ true) → (o0 ≡ v.last + 1)
    → (0 < c.rank x) → (v.present x ≡ true) → (row.client_guid ≡ c.who.guid) → (row.create_guid ≡ Some (guid_at c g))
    → (row.persistent ≡ outlives (c.op g)) → (row.user ≡ logon_user c.who.logon) → (never_acted (c.outcome g) ≡ false)
    → PlainAttached v → PlainAttached (make_new v o0 row x (guid_at c g))
make_new_plain_attached c conns v a g x o0 row b create idle counted formed above ranked there client guid kind user
    alive i_plain_attached =
    λ o. let old = i_plain_attached o in grind arith

make_new_unclosed : (c : Client) (conns : ℕ → Conn) (v : Seen) (a : ℕ → ℕ) (g x o0 : ℕ) (row : OpenRow) (b : ℕ → ℕ)
    → (makes_open (c.op g) ≡ true) → (a g ≡ 0) → (b g ≡ 1) → (may_act c g ≡ true) → (o0 ≡ v.last + 1) → (0 < c.rank x)
    → (v.present x ≡ true) → (row.client_guid ≡ c.who.guid) → (row.create_guid ≡ Some (guid_at c g))
    → (row.persistent ≡ outlives (c.op g)) → (row.user ≡ logon_user c.who.logon) → (never_acted (c.outcome g) ≡ false)
    → ((h : ℕ) → makes_open (c.op h) ≡ true → h ≢ g → b h ≡ a h) → Unclosed c v a
    → Unclosed c (make_new v o0 row x (guid_at c g)) b
make_new_unclosed c conns v a g x o0 row b create idle counted formed above ranked there client guid kind user alive others i_unclosed =
    λ p. let old = i_unclosed p in let same = guid_once c.who.salt p g in let oth = others p in grind arith

make_new_acted_kept : (c : Client) (conns : ℕ → Conn) (v : Seen) (a : ℕ → ℕ) (g x o0 : ℕ) (row : OpenRow) (b : ℕ → ℕ)
    → (makes_open (c.op g) ≡ true) → (a g ≡ 0) → (b g ≡ 1) → (may_act c g ≡ true) → (o0 ≡ v.last + 1) → (0 < c.rank x)
    → (v.present x ≡ true) → (row.client_guid ≡ c.who.guid) → (row.create_guid ≡ Some (guid_at c g))
    → (row.persistent ≡ outlives (c.op g)) → (row.user ≡ logon_user c.who.logon) → (never_acted (c.outcome g) ≡ false)
    → ((h : ℕ) → makes_open (c.op h) ≡ true → h ≢ g → b h ≡ a h) → ActedKept c conns v a
    → ActedKept c conns (make_new v o0 row x (guid_at c g)) b
make_new_acted_kept c conns v a g x o0 row b create idle counted formed above ranked there client guid kind user alive others i_acted_kept =
    λ j n p y. let old = i_acted_kept j n p y in let same = guid_once c.who.salt p g in let oth = others p in grind arith

make_new_at_most : (c : Client) (conns : ℕ → Conn) (v : Seen) (a : ℕ → ℕ) (g x o0 : ℕ) (row : OpenRow) (b : ℕ → ℕ)
    → (makes_open (c.op g) ≡ true) → (a g ≡ 0) → (b g ≡ 1) → (may_act c g ≡ true) → (o0 ≡ v.last + 1) → (0 < c.rank x)
    → (v.present x ≡ true) → (row.client_guid ≡ c.who.guid) → (row.create_guid ≡ Some (guid_at c g))
    → (row.persistent ≡ outlives (c.op g)) → (row.user ≡ logon_user c.who.logon) → (never_acted (c.outcome g) ≡ false)
    → ((h : ℕ) → makes_open (c.op h) ≡ true → h ≢ g → b h ≡ a h) → AtMost c a → AtMost c b
make_new_at_most c conns v a g x o0 row b create idle counted formed above ranked there client guid kind user alive others i_at_most =
    λ p. let old = i_at_most p in let oth = others p in grind arith

make_new_form_acted : (c : Client) (conns : ℕ → Conn) (v : Seen) (a : ℕ → ℕ) (g x o0 : ℕ) (row : OpenRow) (b : ℕ → ℕ)
    → (makes_open (c.op g) ≡ true) → (a g ≡ 0) → (b g ≡ 1) → (may_act c g ≡ true) → (o0 ≡ v.last + 1) → (0 < c.rank x)
    → (v.present x ≡ true) → (row.client_guid ≡ c.who.guid) → (row.create_guid ≡ Some (guid_at c g))
    → (row.persistent ≡ outlives (c.op g)) → (row.user ≡ logon_user c.who.logon) → (never_acted (c.outcome g) ≡ false)
    → ((h : ℕ) → makes_open (c.op h) ≡ true → h ≢ g → b h ≡ a h) → FormActed c a → FormActed c b
make_new_form_acted c conns v a g x o0 row b create idle counted formed above ranked there client guid kind user alive others i_form_acted =
    λ p. let old = i_form_acted p in let oth = others p in grind arith

make_new_refused_not : (c : Client) (conns : ℕ → Conn) (v : Seen) (a : ℕ → ℕ) (g x o0 : ℕ) (row : OpenRow) (b : ℕ → ℕ)
    → (makes_open (c.op g) ≡ true) → (a g ≡ 0) → (b g ≡ 1) → (may_act c g ≡ true) → (o0 ≡ v.last + 1) → (0 < c.rank x)
    → (v.present x ≡ true) → (row.client_guid ≡ c.who.guid) → (row.create_guid ≡ Some (guid_at c g))
    → (row.persistent ≡ outlives (c.op g)) → (row.user ≡ logon_user c.who.logon) → (never_acted (c.outcome g) ≡ false)
    → ((h : ℕ) → makes_open (c.op h) ≡ true → h ≢ g → b h ≡ a h) → RefusedNot c a → RefusedNot c b
make_new_refused_not c conns v a g x o0 row b create idle counted formed above ranked there client guid kind user alive
    others i_refused_not =
    λ p. let old = i_refused_not p in let oth = others p in grind arith

make_new_dead_refused : (c : Client) (conns : ℕ → Conn) (v : Seen) (a : ℕ → ℕ) (g x o0 : ℕ) (row : OpenRow) (b : ℕ → ℕ)
    → (makes_open (c.op g) ≡ true) → (a g ≡ 0) → (b g ≡ 1) → (may_act c g ≡ true) → (o0 ≡ v.last + 1) → (0 < c.rank x)
    → (v.present x ≡ true) → (row.client_guid ≡ c.who.guid) → (row.create_guid ≡ Some (guid_at c g))
    → (row.persistent ≡ outlives (c.op g)) → (row.user ≡ logon_user c.who.logon) → (never_acted (c.outcome g) ≡ false)
    → DeadRefused c conns v → DeadRefused c conns (make_new v o0 row x (guid_at c g))
make_new_dead_refused c conns v a g x o0 row b create idle counted formed above ranked there client guid kind user alive i_dead_refused =
    λ j n p y h t m e s. let old = i_dead_refused j n p y h t m e s in let fm = full_more (v.guids x) in grind arith

make_new_no_reply : (c : Client) (conns : ℕ → Conn) (v : Seen) (a : ℕ → ℕ) (g x o0 : ℕ) (row : OpenRow) (b : ℕ → ℕ)
    → (makes_open (c.op g) ≡ true) → (a g ≡ 0) → (b g ≡ 1) → (may_act c g ≡ true) → (o0 ≡ v.last + 1) → (0 < c.rank x)
    → (v.present x ≡ true) → (row.client_guid ≡ c.who.guid) → (row.create_guid ≡ Some (guid_at c g))
    → (row.persistent ≡ outlives (c.op g)) → (row.user ≡ logon_user c.who.logon) → (never_acted (c.outcome g) ≡ false)
    → ((j n : ℕ) (y : Received) → slice_get (conns j).down n ≡ Some y → y.token ≡ ForOp g → refuses (c.unanswered g)
    y.reply.status ≡ false) → ((h : ℕ) → makes_open (c.op h) ≡ true → h ≢ g → b h ≡ a h) → NoReply c conns a
    → NoReply c conns b
make_new_no_reply c conns v a g x o0 row b create idle counted formed above ranked there client guid kind user alive
    silent others i_no_reply =
    λ j n p y h t. let old = i_no_reply j n p y h t in let oth = others p in let q = silent j n y h in grind arith

make_new_barred_reply : (c : Client) (conns : ℕ → Conn) (v : Seen) (a : ℕ → ℕ) (g x o0 : ℕ) (row : OpenRow) (b : ℕ → ℕ)
    → (makes_open (c.op g) ≡ true) → (a g ≡ 0) → (b g ≡ 1) → (may_act c g ≡ true) → (o0 ≡ v.last + 1) → (0 < c.rank x)
    → (v.present x ≡ true) → (row.client_guid ≡ c.who.guid) → (row.create_guid ≡ Some (guid_at c g))
    → (row.persistent ≡ outlives (c.op g)) → (row.user ≡ logon_user c.who.logon) → (never_acted (c.outcome g) ≡ false)
    → BarredReply c conns v → BarredReply c conns (make_new v o0 row x (guid_at c g))
make_new_barred_reply c conns v a g x o0 row b create idle counted formed above ranked there client guid kind user alive i_barred_reply =
    λ j n p y h t m e s u. let old = i_barred_reply j n p y h t m e s u in let fm = full_more (v.guids x) in grind arith

make_new_ok_acted : (c : Client) (conns : ℕ → Conn) (v : Seen) (a : ℕ → ℕ) (g x o0 : ℕ) (row : OpenRow) (b : ℕ → ℕ)
    → (makes_open (c.op g) ≡ true) → (a g ≡ 0) → (b g ≡ 1) → (may_act c g ≡ true) → (o0 ≡ v.last + 1) → (0 < c.rank x)
    → (v.present x ≡ true) → (row.client_guid ≡ c.who.guid) → (row.create_guid ≡ Some (guid_at c g))
    → (row.persistent ≡ outlives (c.op g)) → (row.user ≡ logon_user c.who.logon) → (never_acted (c.outcome g) ≡ false)
    → ((h : ℕ) → makes_open (c.op h) ≡ true → h ≢ g → b h ≡ a h) → OkActed c a → OkActed c b
make_new_ok_acted c conns v a g x o0 row b create idle counted formed above ranked there client guid kind user alive others i_ok_acted =
    λ p. let old = i_ok_acted p in let oth = others p in grind arith

make_new_ok_reply : (c : Client) (conns : ℕ → Conn) (v : Seen) (a : ℕ → ℕ) (g x o0 : ℕ) (row : OpenRow) (b : ℕ → ℕ)
    → (makes_open (c.op g) ≡ true) → (a g ≡ 0) → (b g ≡ 1) → (may_act c g ≡ true) → (o0 ≡ v.last + 1) → (0 < c.rank x)
    → (v.present x ≡ true) → (row.client_guid ≡ c.who.guid) → (row.create_guid ≡ Some (guid_at c g))
    → (row.persistent ≡ outlives (c.op g)) → (row.user ≡ logon_user c.who.logon) → (never_acted (c.outcome g) ≡ false)
    → ((h : ℕ) → makes_open (c.op h) ≡ true → h ≢ g → b h ≡ a h) → OkReply c conns a → OkReply c conns b
make_new_ok_reply c conns v a g x o0 row b create idle counted formed above ranked there client guid kind user alive others i_ok_reply =
    λ j n p y h t. let old = i_ok_reply j n p y h t in let oth = others p in grind arith

make_new_file_guid : (c : Client) (conns : ℕ → Conn) (v : Seen) (a : ℕ → ℕ) (g x o0 : ℕ) (row : OpenRow) (b : ℕ → ℕ)
    → (makes_open (c.op g) ≡ true) → (a g ≡ 0) → (b g ≡ 1) → (may_act c g ≡ true) → (o0 ≡ v.last + 1) → (0 < c.rank x)
    → (v.present x ≡ true) → (row.client_guid ≡ c.who.guid) → (row.create_guid ≡ Some (guid_at c g))
    → (row.persistent ≡ outlives (c.op g)) → (row.user ≡ logon_user c.who.logon) → (never_acted (c.outcome g) ≡ false)
    → FileGuid c v → FileGuid c (make_new v o0 row x (guid_at c g))
make_new_file_guid c conns v a g x o0 row b create idle counted formed above ranked there client guid kind user alive i_file_guid =
    λ p. let old = i_file_guid p in grind arith

make_new_file_of : (c : Client) (conns : ℕ → Conn) (v : Seen) (a : ℕ → ℕ) (g x o0 : ℕ) (row : OpenRow) (b : ℕ → ℕ)
    → (makes_open (c.op g) ≡ true) → (a g ≡ 0) → (b g ≡ 1) → (may_act c g ≡ true) → (o0 ≡ v.last + 1) → (0 < c.rank x)
    → (v.present x ≡ true) → (row.client_guid ≡ c.who.guid) → (row.create_guid ≡ Some (guid_at c g))
    → (row.persistent ≡ outlives (c.op g)) → (row.user ≡ logon_user c.who.logon) → (never_acted (c.outcome g) ≡ false)
    → FileOf c v → OkActed c a → FileOf c (make_new v o0 row x (guid_at c g))
make_new_file_of c conns v a g x o0 row b create idle counted formed above ranked there client guid kind user alive i_file_of i_ok_acted =
    λ p o m e. let old = i_file_of p o m e in let ac = i_ok_acted p m e in let same = guid_once c.who.salt p g in grind arith

make_new_reply_guid : (c : Client) (conns : ℕ → Conn) (v : Seen) (a : ℕ → ℕ) (g x o0 : ℕ) (row : OpenRow) (b : ℕ → ℕ)
    → (makes_open (c.op g) ≡ true) → (a g ≡ 0) → (b g ≡ 1) → (may_act c g ≡ true) → (o0 ≡ v.last + 1) → (0 < c.rank x)
    → (v.present x ≡ true) → (row.client_guid ≡ c.who.guid) → (row.create_guid ≡ Some (guid_at c g))
    → (row.persistent ≡ outlives (c.op g)) → (row.user ≡ logon_user c.who.logon) → (never_acted (c.outcome g) ≡ false)
    → ReplyGuid c conns v → ReplyGuid c conns (make_new v o0 row x (guid_at c g))
make_new_reply_guid c conns v a g x o0 row b create idle counted formed above ranked there client guid kind user alive i_reply_guid =
    λ j n p y. let old = i_reply_guid j n p y in grind (arith, get-push)

make_new_reply_of : (c : Client) (conns : ℕ → Conn) (v : Seen) (a : ℕ → ℕ) (g x o0 : ℕ) (row : OpenRow) (b : ℕ → ℕ)
    → (makes_open (c.op g) ≡ true) → (a g ≡ 0) → (b g ≡ 1) → (may_act c g ≡ true) → (o0 ≡ v.last + 1) → (0 < c.rank x)
    → (v.present x ≡ true) → (row.client_guid ≡ c.who.guid) → (row.create_guid ≡ Some (guid_at c g))
    → (row.persistent ≡ outlives (c.op g)) → (row.user ≡ logon_user c.who.logon) → (never_acted (c.outcome g) ≡ false)
    → ReplyOf c conns v → OkReply c conns a → ReplyOf c conns (make_new v o0 row x (guid_at c g))
make_new_reply_of c conns v a g x o0 row b create idle counted formed above ranked there client guid kind user alive i_reply_of i_ok_reply =
    λ j n p o y h t m e. let old = i_reply_of j n p o y h t m e in let ac = i_ok_reply j n p y h t m e in let same =
    guid_once c.who.salt p g in grind arith

pub make_new_creates : (c : Client) (conns : ℕ → Conn) (v : Seen) (a : ℕ → ℕ) (g x o0 : ℕ) (row : OpenRow) (b : ℕ → ℕ)
    → (makes_open (c.op g) ≡ true) → (a g ≡ 0) → (b g ≡ 1) → (may_act c g ≡ true) → (o0 ≡ v.last + 1) → (0 < c.rank x)
    → (v.present x ≡ true) → (row.client_guid ≡ c.who.guid) → (row.create_guid ≡ Some (guid_at c g))
    → (row.persistent ≡ outlives (c.op g)) → (row.user ≡ logon_user c.who.logon) → (never_acted (c.outcome g) ≡ false)
    → ((j n : ℕ) (y : Received) → slice_get (conns j).down n ≡ Some y → y.token ≡ ForOp g → refuses (c.unanswered g)
    y.reply.status ≡ false) → ((h : ℕ) → makes_open (c.op h) ≡ true → h ≢ g → b h ≡ a h) → Creates c conns v a
    → Creates c conns (make_new v o0 row x (guid_at c g)) b
make_new_creates c conns v a g x o0 row b create idle counted formed above ranked there client guid kind user alive silent others i =
    record {
      made = make_new_made c conns v a g x o0 row b create idle counted formed above ranked there client guid kind user alive others i.made;
      named = make_new_named c conns v a g x o0 row b create idle counted formed above ranked there client guid kind
          user alive i.named i.named_given;
      named_kind = make_new_named_kind c conns v a g x o0 row b create idle counted formed above ranked there client
          guid kind user alive i.named_kind i.named_given;
      named_given = make_new_named_given c conns v a g x o0 row b create idle counted formed above ranked there client
          guid kind user alive i.named_given;
      attached = make_new_attached c conns v a g x o0 row b create idle counted formed above ranked there client guid
          kind user alive i.attached;
      plain_attached = make_new_plain_attached c conns v a g x o0 row b create idle counted formed above ranked there
          client guid kind user alive i.plain_attached;
      unclosed = make_new_unclosed c conns v a g x o0 row b create idle counted formed above ranked there client guid
          kind user alive others i.unclosed;
      acted_kept = make_new_acted_kept c conns v a g x o0 row b create idle counted formed above ranked there client
          guid kind user alive others i.acted_kept;
      at_most = make_new_at_most c conns v a g x o0 row b create idle counted formed above ranked there client guid kind
          user alive others i.at_most;
      form_acted = make_new_form_acted c conns v a g x o0 row b create idle counted formed above ranked there client
          guid kind user alive others i.form_acted;
      refused_not = make_new_refused_not c conns v a g x o0 row b create idle counted formed above ranked there client
          guid kind user alive others i.refused_not;
      dead_refused = make_new_dead_refused c conns v a g x o0 row b create idle counted formed above ranked there client
          guid kind user alive i.dead_refused;
      no_reply = make_new_no_reply c conns v a g x o0 row b create idle counted formed above ranked there client guid
          kind user alive silent others i.no_reply;
      barred_reply = make_new_barred_reply c conns v a g x o0 row b create idle counted formed above ranked there client
          guid kind user alive i.barred_reply;
      refused_status = i.refused_status;
      ok_acted = make_new_ok_acted c conns v a g x o0 row b create idle counted formed above ranked there client guid
          kind user alive others i.ok_acted;
      ok_reply = make_new_ok_reply c conns v a g x o0 row b create idle counted formed above ranked there client guid
          kind user alive others i.ok_reply;
      file_guid = make_new_file_guid c conns v a g x o0 row b create idle counted formed above ranked there client guid
          kind user alive i.file_guid;
      file_of = make_new_file_of c conns v a g x o0 row b create idle counted formed above ranked there client guid kind
          user alive i.file_of i.ok_acted;
      reply_guid = make_new_reply_guid c conns v a g x o0 row b create idle counted formed above ranked there client
          guid kind user alive i.reply_guid;
      reply_of = make_new_reply_of c conns v a g x o0 row b create idle counted formed above ranked there client guid
          kind user alive i.reply_of i.ok_reply;
      plain_dead = i.plain_dead;
      asking_other = i.asking_other;
      dialog_up = i.dialog_up;
      ask_up = i.ask_up;
    }
