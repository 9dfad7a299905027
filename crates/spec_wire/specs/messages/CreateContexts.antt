-- The create contexts of a CREATE request and of its response (MS-SMB2 2.2.13.2, 2.2.14.2).
use Rattle.std.specs.Prelude.{◌≡◌, ℕ, ◌+◌, ◌/◌, ◌%◌, ◌==◌, nat_eq, nat_lt, Bool, true, false, not, ◌&&◌, ◌||◌}
use Rattle.std.specs.Prelude.{if◌then◌else◌, List, [], ◌∷◌, ◌++◌, length, Option, Some, None, Result, Ok, Err}
use Rattle.std.specs.Cmp.Lexicographic.{pointwise}
use Rattle.spec_wire.specs.messages.Places.{number, bytes_at}
use Rattle.spec_wire.specs.messages.Table.{Field, Num, Raw, Any, Stands, with_fields, AreWritable, IsPart}
use Rattle.spec_wire.specs.messages.Aligned.{told, aligned_gap}
use Rattle.spec_wire.specs.messages.Chain.{IsChainOf, BreaksChain, chain_spelling, is_badly_linked, piece}
use Rattle.spec_wire.specs.declared.messages.chain_error.ChainError.{ChainError}
use Rattle.spec_wire.specs.declared.messages.chain_error.ChainError.TheVariants.{Short, BadNext, BadLength}
use Rattle.spec_wire.specs.declared.messages.context.CreateContexts.{CreateContexts}
use Rattle.spec_wire.specs.declared.messages.context.Dh2q.{Dh2q}
use Rattle.spec_wire.specs.declared.messages.context.Dh2c.{Dh2c}
use Rattle.spec_wire.specs.declared.messages.context.ReplyContexts.{ReplyContexts}
use Rattle.spec_wire.specs.declared.messages.context.Dh2qReply.{Dh2qReply}
use Rattle.spec_wire.specs.declared.messages.context.MaximalAccess.{MaximalAccess}
use Rattle.spec_wire.specs.declared.messages.context.DiskId.{DiskId}

-- ---- one context

pub record CreateContext : Type 0 where
  pub name : List ℕ
  pub value : List ℕ

-- The fixed part: Next, place and length of the name, Reserved, place and length of the data. Places count from the
-- context's own beginning.
abbrev pub context_table : CreateContext → ℕ → ℕ → ℕ → List Field
context_table v next name_at value_at =
    Num 4 next ∷ Num 2 name_at ∷ Num 2 (length v.name) ∷ Any 2 ∷ Num 2 value_at ∷ Num 4 (length v.value) ∷ []

-- a length that a context of some name must have
abbrev pub HasLength : Option ℕ → ℕ → Type 0
HasLength None len = Unit {0}
HasLength (Some due) len = len ≡ due

-- m is this context, whose data has the length that is due for its name
pub record IsContext (due : List ℕ → Option ℕ) (m : List ℕ) (v : CreateContext) : Type 0 where
  pub fixed : Stands m 0 (context_table v (number 4 m 0) (number 2 m 4) (number 2 m 10))
  pub name : IsPart m (number 2 m 4) (number 2 m 6) 16 v.name
  pub value : IsPart m (number 2 m 10) (number 4 m 12) 16 v.value
  pub size : HasLength (due v.name) (number 4 m 12)

-- the context that stands in m
abbrev pub context_in : List ℕ → CreateContext
context_in m = record { name = bytes_at (number 2 m 6) m (number 2 m 4); value = bytes_at (number 4 m 12) m (number 2 m 10) }

-- a part that isn't empty, and isn't behind the fixed part and inside the context
unfoldable pub is_outside : List ℕ → ℕ → ℕ → Bool
is_outside m at len = not (len == 0) && (nat_lt at 16 || nat_lt (length m) (at + len))

unfoldable pub length_fault : Option ℕ → List ℕ → ℕ → Option ChainError
length_fault None name len = None
length_fault (Some due) name len = if len == due then None else Some (BadLength name)

-- the first break of one context
unfoldable pub context_fault : (List ℕ → Option ℕ) → List ℕ → Option ChainError
context_fault due m =
    if nat_lt (length m) 16 then Some Short
    else if is_outside m (number 2 m 4) (number 2 m 6) then Some Short
    else if is_outside m (number 2 m 10) (number 4 m 12) then Some Short
    else length_fault (due (bytes_at (number 2 m 6) m (number 2 m 4))) (bytes_at (number 2 m 6) m (number 2 m 4)) (number 4 m 12)

-- the first break of the context that a chain begins with
unfoldable pub first_fault : (List ℕ → Option ℕ) → List ℕ → Option ChainError
first_fault due m =
    if nat_lt (length m) 16 then Some Short
    else if is_badly_linked m then Some BadNext
    else context_fault due (piece m)

-- What is written of a context: the name, and the data at the next multiple of 8. The place of data that are empty is
-- told as 0.
abbrev pub context_whole : CreateContext → ℕ → List Field
context_whole v next =
    context_table v next 16 (told (length v.value) (16 + length v.name + aligned_gap (length v.value) (length v.name)))
    ++ Raw (length v.name) v.name ∷ Any (aligned_gap (length v.value) (length v.name)) ∷ Raw (length v.value) v.value ∷ []

abbrev pub context_spelling : CreateContext → ℕ → List ℕ
context_spelling v next = with_fields [] (context_whole v next)

abbrev pub context_size : CreateContext → ℕ
context_size v = 16 + length v.name + aligned_gap (length v.value) (length v.name) + length v.value

-- ---- the names

-- DH2Q, DH2C, MxAc, QFid
abbrev pub dh2q : List ℕ
dh2q = 0x44 ∷ 0x48 ∷ 0x32 ∷ 0x51 ∷ []

abbrev pub dh2c : List ℕ
dh2c = 0x44 ∷ 0x48 ∷ 0x32 ∷ 0x43 ∷ []

abbrev pub mxac : List ℕ
mxac = 0x4d ∷ 0x78 ∷ 0x41 ∷ 0x63 ∷ []

abbrev pub qfid : List ℕ
qfid = 0x51 ∷ 0x46 ∷ 0x69 ∷ 0x64 ∷ []

unfoldable pub is_named : List ℕ → List ℕ → Bool
is_named name tag = pointwise nat_eq name tag

-- of two values the first that is there
abbrev pub first : {A : Type 0} → Option A → Option A → Option A
first (Some a) b = Some a
first None b = b

-- the bit 2 of Flags: the open is to be persistent, or is
unfoldable pub is_persistent : ℕ → Bool
is_persistent flags = (flags / 2) % 2 == 1

unfoldable pub flags_of : Bool → ℕ
flags_of persistent = if persistent then 2 else 0

-- ---- the contexts of a request

-- DH2Q (2.2.13.2.11) has 32 bytes, DH2C (2.2.13.2.12) 36. The data of MxAc and QFid may have any length and are passed
-- over, as all other contexts are.
unfoldable pub request_due : List ℕ → Option ℕ
request_due name = if is_named name dh2q then Some 32 else if is_named name dh2c then Some 36 else None

-- Timeout, Flags, Reserved, CreateGuid
abbrev pub dh2q_table : Dh2q → List Field
dh2q_table q = Num 4 q.timeout ∷ Num 4 (flags_of q.persistent) ∷ Any 8 ∷ Raw 16 q.guid ∷ []

abbrev pub dh2q_in : List ℕ → Dh2q
dh2q_in b = record { timeout = number 4 b 0; persistent = is_persistent (number 4 b 4); guid = bytes_at 16 b 16 }

-- FileId, CreateGuid, Flags
abbrev pub dh2c_table : Dh2c → List Field
dh2c_table q = Raw 16 q.file ∷ Raw 16 q.guid ∷ Num 4 (flags_of q.persistent) ∷ []

abbrev pub dh2c_in : List ℕ → Dh2c
dh2c_in b = record { file = bytes_at 16 b 0; guid = bytes_at 16 b 16; persistent = is_persistent (number 4 b 32) }

-- what one context says
abbrev pub request_of : CreateContext → CreateContexts
request_of v = record {
  dh2q = if is_named v.name dh2q then Some (dh2q_in v.value) else None;
  dh2c = if is_named v.name dh2c then Some (dh2c_in v.value) else None;
  mxac = is_named v.name mxac;
  qfid = is_named v.name qfid;
}

-- what two say together: of two with one name the first counts
abbrev pub both_requests : CreateContexts → CreateContexts → CreateContexts
both_requests a b = record { dh2q = first a.dh2q b.dh2q; dh2c = first a.dh2c b.dh2c; mxac = a.mxac || b.mxac; qfid = a.qfid || b.qfid }

abbrev pub no_requests : CreateContexts
no_requests = record { dh2q = None; dh2c = None; mxac = false; qfid = false }

abbrev pub request_contexts : List CreateContext → CreateContexts
request_contexts [] = no_requests
request_contexts (v ∷ vs) = both_requests (request_of v) (request_contexts vs)

-- m is the contexts of a request, and they say this
pub record SpellsCreateContexts (m : List ℕ) (c : CreateContexts) : Type 0 where
  pub contexts : List CreateContext
  pub chain : IsChainOf (IsContext request_due) m contexts
  pub says : c ≡ request_contexts contexts

-- what a reader answered: what the contexts say, or the first break
abbrev pub ReadsCreateContexts : List ℕ → Result CreateContexts ChainError → Type 0
ReadsCreateContexts m (Ok c) = SpellsCreateContexts m c
ReadsCreateContexts m (Err e) = BreaksChain (first_fault request_due) m e

abbrev pub asked : Bool → List ℕ → List CreateContext
asked true tag = record { name = tag; value = [] } ∷ []
asked false tag = []

abbrev pub dh2q_asked : Option Dh2q → List CreateContext
dh2q_asked None = []
dh2q_asked (Some q) = record { name = dh2q; value = with_fields [] (dh2q_table q) } ∷ []

abbrev pub dh2c_asked : Option Dh2c → List CreateContext
dh2c_asked None = []
dh2c_asked (Some q) = record { name = dh2c; value = with_fields [] (dh2c_table q) } ∷ []

-- the contexts that are written, in this order
abbrev pub asked_contexts : CreateContexts → List CreateContext
asked_contexts c = dh2q_asked c.dh2q ++ (dh2c_asked c.dh2c ++ (asked c.mxac mxac ++ asked c.qfid qfid))

abbrev pub IsWritableDh2q : Option Dh2q → Type 0
IsWritableDh2q None = Unit {0}
IsWritableDh2q (Some q) = AreWritable (dh2q_table q)

abbrev pub IsWritableDh2c : Option Dh2c → Type 0
IsWritableDh2c None = Unit {0}
IsWritableDh2c (Some q) = AreWritable (dh2c_table q)

pub record IsWritableCreateContexts (c : CreateContexts) : Type 0 where
  pub dh2q : IsWritableDh2q c.dh2q
  pub dh2c : IsWritableDh2c c.dh2c

abbrev pub create_contexts_spelling : CreateContexts → List ℕ
create_contexts_spelling c = chain_spelling context_spelling context_size (asked_contexts c)

-- ---- the contexts of a response

-- DH2Q (2.2.14.2.12) has 8 bytes, MxAc (2.2.14.2.5) 8, QFid (2.2.14.2.9) 32. Others are passed over.
unfoldable pub reply_due : List ℕ → Option ℕ
reply_due name = if is_named name dh2q then Some 8 else if is_named name mxac then Some 8 else if is_named name qfid then Some 32 else None

-- Timeout, Flags
abbrev pub dh2q_reply_table : Dh2qReply → List Field
dh2q_reply_table q = Num 4 q.timeout ∷ Num 4 (flags_of q.persistent) ∷ []

abbrev pub dh2q_reply_in : List ℕ → Dh2qReply
dh2q_reply_in b = record { timeout = number 4 b 0; persistent = is_persistent (number 4 b 4) }

-- QueryStatus, MaximalAccess
abbrev pub maximal_access_table : MaximalAccess → List Field
maximal_access_table a = Num 4 a.query_status ∷ Num 4 a.maximal_access ∷ []

abbrev pub maximal_access_in : List ℕ → MaximalAccess
maximal_access_in b = record { query_status = number 4 b 0; maximal_access = number 4 b 4 }

-- DiskFileId, VolumeId, Reserved
abbrev pub disk_id_table : DiskId → List Field
disk_id_table d = Num 8 d.file ∷ Num 8 d.volume ∷ Any 16 ∷ []

abbrev pub disk_id_in : List ℕ → DiskId
disk_id_in b = record { file = number 8 b 0; volume = number 8 b 8 }

abbrev pub reply_of : CreateContext → ReplyContexts
reply_of v = record {
  dh2q = if is_named v.name dh2q then Some (dh2q_reply_in v.value) else None;
  mxac = if is_named v.name mxac then Some (maximal_access_in v.value) else None;
  qfid = if is_named v.name qfid then Some (disk_id_in v.value) else None;
}

abbrev pub both_replies : ReplyContexts → ReplyContexts → ReplyContexts
both_replies a b = record { dh2q = first a.dh2q b.dh2q; mxac = first a.mxac b.mxac; qfid = first a.qfid b.qfid }

abbrev pub no_replies : ReplyContexts
no_replies = record { dh2q = None; mxac = None; qfid = None }

abbrev pub reply_contexts : List CreateContext → ReplyContexts
reply_contexts [] = no_replies
reply_contexts (v ∷ vs) = both_replies (reply_of v) (reply_contexts vs)

-- m is the contexts of a response, and they say this
pub record SpellsReplyContexts (m : List ℕ) (c : ReplyContexts) : Type 0 where
  pub contexts : List CreateContext
  pub chain : IsChainOf (IsContext reply_due) m contexts
  pub says : c ≡ reply_contexts contexts

abbrev pub ReadsReplyContexts : List ℕ → Result ReplyContexts ChainError → Type 0
ReadsReplyContexts m (Ok c) = SpellsReplyContexts m c
ReadsReplyContexts m (Err e) = BreaksChain (first_fault reply_due) m e

abbrev pub dh2q_told : Option Dh2qReply → List CreateContext
dh2q_told None = []
dh2q_told (Some q) = record { name = dh2q; value = with_fields [] (dh2q_reply_table q) } ∷ []

abbrev pub mxac_told : Option MaximalAccess → List CreateContext
mxac_told None = []
mxac_told (Some a) = record { name = mxac; value = with_fields [] (maximal_access_table a) } ∷ []

abbrev pub qfid_told : Option DiskId → List CreateContext
qfid_told None = []
qfid_told (Some d) = record { name = qfid; value = with_fields [] (disk_id_table d) } ∷ []

abbrev pub told_contexts : ReplyContexts → List CreateContext
told_contexts c = dh2q_told c.dh2q ++ (mxac_told c.mxac ++ qfid_told c.qfid)

abbrev pub IsWritableDh2qReply : Option Dh2qReply → Type 0
IsWritableDh2qReply None = Unit {0}
IsWritableDh2qReply (Some q) = AreWritable (dh2q_reply_table q)

abbrev pub IsWritableMaximalAccess : Option MaximalAccess → Type 0
IsWritableMaximalAccess None = Unit {0}
IsWritableMaximalAccess (Some a) = AreWritable (maximal_access_table a)

abbrev pub IsWritableDiskId : Option DiskId → Type 0
IsWritableDiskId None = Unit {0}
IsWritableDiskId (Some d) = AreWritable (disk_id_table d)

pub record IsWritableReplyContexts (c : ReplyContexts) : Type 0 where
  pub dh2q : IsWritableDh2qReply c.dh2q
  pub mxac : IsWritableMaximalAccess c.mxac
  pub qfid : IsWritableDiskId c.qfid

abbrev pub reply_contexts_spelling : ReplyContexts → List ℕ
reply_contexts_spelling c = chain_spelling context_spelling context_size (told_contexts c)
