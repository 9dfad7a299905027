-- What a create meets: counts, kept results and a reconnect.
use Rattle.std.proofs.Common.{◌≡◌, ℕ, ◌==◌, List, Bool, true, false, not, ◌&&◌, ◌||◌, if◌then◌else◌, Option, Some, None, nat_le, is_some}
use Rattle.std.proofs.Common.{refl, sym, ap}
use Rattle.std.proofs.Common.{◌∙◌, arith}
use Rattle.std.specs.Prelude.{option_map}
use Rattle.std.proofs.lemmas.Bool.Decides.{nat_tests}
use Rattle.wire_commands.specs.values.Meaning.{durable_of}
use Rattle.wire_commands.specs.declared.values.command.Durable.{Durable}
use Rattle.spec_exchange.specs.CheckCreate.{guid_check, has_guid, live_check, max_guids, new_check, reconnect_check, refusal_check}
use Rattle.spec_exchange.specs.Commands as asks
use Rattle.spec_exchange.specs.CheckOpen.{target_of}
use Rattle.spec_exchange.specs.Files.{exists, find}
use Rattle.spec_exchange.specs.State.{Server, Message}
use Rattle.spec_exchange.specs.Table.{is_at}
use Rattle.spec_exchange.specs.Texts.{same_name}
use Rattle.spec_exchange.specs.Status.{access_denied, duplicate_objectid, object_name_not_found}
use Rattle.spec_exchange.specs.Verdict.{Verdict, Refuse, Attach}
use Rattle.store_opens.specs.open_index.Keep.{keep_capped, kept_of}
use Rattle.store_opens.specs.declared.open_index.keep.KeptCreate.{KeptCreate}
use Rattle.store_opens.specs.declared.open_index.keep.KeptCreate.TheVariants as told
use Rattle.store_opens.specs.open_table.Changes.{attach_refusal}
use Rattle.store_opens.specs.open_table.Rows.{OpenRowFound}
use Rattle.store_opens.specs.declared.open_table.row.Row.{Row}
use Rattle.law_server.proofs.tables.Checked.{found_exists}
use Rattle.server_checks.specs.Looks.{row_check}

-- ---- counts

full_on : (n : ℕ) → nat_le max_guids n ≡ true → nat_le max_guids (keep_capped n) ≡ true
full_on n e = grind (arith, nat_tests)

full_off : (n : ℕ) → nat_le max_guids n ≡ false → nat_le max_guids (keep_capped n) ≡ false
full_off n e = grind (arith, nat_tests)

pub full_capped : (n : ℕ) → nat_le max_guids (keep_capped n) ≡ nat_le max_guids n
full_capped n = by (nat_le max_guids n) refl
  where
    by : (b : Bool) → nat_le max_guids n ≡ b → nat_le max_guids (keep_capped n) ≡ b
    by true k = full_on n k
    by false k = full_off n k

pub some_durable : (o : Option Durable) → is_some (option_map durable_of o) ≡ is_some o
some_durable None = refl
some_durable (Some d) = refl

-- one comes next, unless
abbrev next_unless : Bool → ℕ → Option ℕ
next_unless b x = if b then None else Some x

pub left_ids : (b : Bool) (x y : ℕ) → Some y ≡ next_unless b x → false ≡ b
left_ids true x y e = absurd (cc)
left_ids false x y e = refl

pub no_ids : (b : Bool) (x : ℕ) → None ≡ next_unless b x → true ≡ b
no_ids true x e = refl
no_ids false x e = absurd (cc)

-- ---- what is kept of a CreateGuid

closed_case : (a b : Bool) (r : Option ℕ) (w : Option ℕ → Verdict) (k : KeptCreate) → k ≡ told.Closed → Some k ≡ kept_of a r
    → Refuse duplicate_objectid ≡ (if a then Refuse duplicate_objectid else if b then Refuse duplicate_objectid else w r)
closed_case true b r w k e h = refl
closed_case false b None w k e h = absurd (cc)
closed_case false b (Some status) w k e h = absurd (cc)

refused_case : (a b : Bool) (r : Option ℕ) (w : Option ℕ → Verdict) (k : KeptCreate) (status : ℕ) → ((u : ℕ) → w (Some u) ≡ Refuse u)
    → k ≡ told.Refused status → Some k ≡ kept_of a r
    → Refuse (if b then duplicate_objectid else status)
    ≡ (if a then Refuse duplicate_objectid else if b then Refuse duplicate_objectid else w r)
refused_case true b r w k status g e h = absurd (cc)
refused_case false b None w k status g e h = absurd (cc)
refused_case false true (Some u) w k status g e h = refl
refused_case false false (Some u) w k status g e h = let i : status ≡ u = cc in ap Refuse i ∙ sym (g u)

none_case : (a b : Bool) (r : Option ℕ) (w : Option ℕ → Verdict) → None ≡ kept_of a r
    → (if b then Refuse duplicate_objectid else w None)
    ≡ (if a then Refuse duplicate_objectid else if b then Refuse duplicate_objectid else w r)
none_case true b r w h = absurd (cc)
none_case false b None w h = refl
none_case false b (Some status) w h = absurd (cc)

pub closed_before : (s : Server) (m : Message) (r : asks.CreateRequest) (d : asks.Durable) (k : KeptCreate) → k ≡ told.Closed
    → Some k ≡ kept_of (s.closed m.session_id d.guid) (s.refused m.session_id d.guid)
    → Refuse duplicate_objectid ≡ guid_check s m r d None
closed_before s m r d k e h = closed_case (s.closed m.session_id d.guid) (s.expired_guids m.client_guid d.guid)
    (s.refused m.session_id d.guid) (refusal_check s m r) k e h

pub refused_once : (s : Server) (m : Message) (r : asks.CreateRequest) (d : asks.Durable) (k : KeptCreate) (status : ℕ)
    → k ≡ told.Refused status → Some k ≡ kept_of (s.closed m.session_id d.guid) (s.refused m.session_id d.guid)
    → Refuse (if s.expired_guids m.client_guid d.guid then duplicate_objectid else status) ≡ guid_check s m r d None
refused_once s m r d k status e h = refused_case (s.closed m.session_id d.guid) (s.expired_guids m.client_guid d.guid)
    (s.refused m.session_id d.guid) (refusal_check s m r) k status (λ u. refl) e h

pub unkept : (s : Server) (m : Message) (r : asks.CreateRequest) (d : asks.Durable)
    → None ≡ kept_of (s.closed m.session_id d.guid) (s.refused m.session_id d.guid)
    → (if s.expired_guids m.client_guid d.guid then Refuse duplicate_objectid else new_check s m r (find s r.path))
    ≡ guid_check s m r d None
unkept s m r d h = none_case (s.closed m.session_id d.guid) (s.expired_guids m.client_guid d.guid)
    (s.refused m.session_id d.guid) (refusal_check s m r) h

-- ---- a live open

pub live_by_row : (s : Server) (m : Message) (r : asks.CreateRequest) (o : ℕ) (row : Row) (user : List ℕ) → OpenRowFound (Some row) s o
    → user ≡ s.user m.session_id → row_check m r o row user ≡ live_check s m r o
live_by_row s m r o row user h e = rw (h.1.session_is, h.1.opened_is, e) refl

-- ---- a reconnect

abbrev attached_or : asks.CreateRequest → ℕ → Option ℕ → Verdict
attached_or r o None = Attach o r
attached_or r o (Some status) = Refuse status

in_order : (a b d : Bool) (r : asks.CreateRequest) (o x y z : ℕ)
    → attached_or r o (if a then Some x else if b then Some y else if d then Some z else None)
    ≡ (if a then Refuse x else if b then Refuse y else if d then Refuse z else Attach o r)
in_order true b d r o x y z = refl
in_order false true d r o x y z = refl
in_order false false true r o x y z = refl
in_order false false false r o x y z = refl

reconnected : (s : Server) (m : Message) (r : asks.CreateRequest) (c : asks.Reconnect) (answer : Option ℕ)
    → answer ≡ attach_refusal s c.file c.guid m.session_id (s.user m.session_id)
    → attached_or r c.file answer ≡ reconnect_check s m r c
reconnected s m r c answer e = ap (attached_or r c.file) e
    ∙ in_order (not (s.standing c.file && has_guid c.guid (s.opened c.file).create_guid))
    (not (same_name (s.opened c.file).user (s.user m.session_id)))
    (is_some (s.session_of_open c.file) && not (is_at m.session_id (s.session_of_open c.file)))
    r c.file object_name_not_found access_denied object_name_not_found

pub refused_reconnect : (s : Server) (m : Message) (r : asks.CreateRequest) (c : asks.Reconnect) (user : List ℕ) (status : ℕ)
    → user ≡ s.user m.session_id → Some status ≡ attach_refusal s c.file c.guid m.session_id user
    → Refuse status ≡ reconnect_check s m r c
refused_reconnect s m r c user status u e = reconnected s m r c (Some status) (e ∙ ap (attach_refusal s c.file c.guid m.session_id) u)

pub attached_again : (s : Server) (m : Message) (r : asks.CreateRequest) (c : asks.Reconnect) (user : List ℕ)
    → user ≡ s.user m.session_id → None ≡ attach_refusal s c.file c.guid m.session_id user → Attach c.file r ≡ reconnect_check s m r c
attached_again s m r c user u e = reconnected s m r c None (e ∙ ap (attach_refusal s c.file c.guid m.session_id) u)

-- ---- names

-- what a rename would replace is there
pub target_there : (s : Server) (path : List ℕ) (f t : ℕ) → target_of f (find s path) ≡ Some t → exists s t ≡ true
target_there s path f t e = by (find s path) refl
  where
    same : (a b : ℕ) → Some a ≡ Some b → a ≡ b
    same a b k = cc

    chosen : (u : ℕ) (b : Bool) → next_unless b u ≡ Some t → find s path ≡ Some u → exists s t ≡ true
    chosen u true k h = absurd (cc)
    chosen u false k h = found_exists s path t (h ∙ k)

    by : (o : Option ℕ) → find s path ≡ o → exists s t ≡ true
    by None k = absurd (let m = rw k at e in cc)
    by (Some u) k = chosen u (u == f) (rw k at e) k

-- ---- counts together

pub opens_out : (a m f i n : Bool) → (a || i) ≡ true → true ≡ (a || ((m && f) || (i || (m && n))))
opens_out true m f i n e = refl
opens_out false true true true n e = refl
opens_out false true false true n e = refl
opens_out false false f true n e = refl
opens_out false m f false n e = absurd (cc)

pub files_out : (a m f i n : Bool) → (a || i) ≡ false → m ≡ true → (f || n) ≡ (a || ((m && f) || (i || (m && n))))
files_out true m f i n e g = absurd (cc)
files_out false m f true n e g = absurd (cc)
files_out false true f false n e g = refl
files_out false false f false n e g = absurd (cc)

pub none_out : (a m f i n : Bool) → (a || i) ≡ false → m ≡ false → false ≡ (a || ((m && f) || (i || (m && n))))
none_out true m f i n e g = absurd (cc)
none_out false m f true n e g = absurd (cc)
none_out false true f false n e g = absurd (cc)
none_out false false f false n e g = refl
