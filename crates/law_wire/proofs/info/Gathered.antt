-- What the contexts that are written say is what they were written from.
use Rattle.std.proofs.Common.{◌≡◌, ℕ, Bool, true, false, List, [], ◌++◌, length, Option, Some, None, refl, subst, arith}
use Rattle.std.proofs.lemmas.List.{append-nil}
use Rattle.spec_wire.specs.messages.Table.{AreWritable, Stands, with_fields, Field}
use Rattle.spec_wire.specs.messages.CreateContexts.{CreateContext, is_named, mxac, qfid, is_persistent, flags_of, request_due}
use Rattle.spec_wire.specs.messages.CreateContexts.{request_contexts, reply_due, reply_contexts, dh2q_table, dh2q_in, dh2c_table}
use Rattle.spec_wire.specs.messages.CreateContexts.{dh2c_in, asked, dh2q_asked, dh2c_asked, asked_contexts, dh2q_reply_table}
use Rattle.spec_wire.specs.messages.CreateContexts.{dh2q_reply_in, maximal_access_table, maximal_access_in, disk_id_table}
use Rattle.spec_wire.specs.messages.CreateContexts.{disk_id_in, dh2q_told, mxac_told, qfid_told, told_contexts}
use Rattle.spec_wire.specs.messages.CreateContexts.{IsWritableCreateContexts, IsWritableReplyContexts, IsWritableDh2q}
use Rattle.spec_wire.specs.messages.CreateContexts.{IsWritableDh2c, IsWritableDh2qReply, IsWritableMaximalAccess}
use Rattle.spec_wire.specs.messages.CreateContexts.{IsWritableDiskId}
use Rattle.spec_wire.specs.declared.messages.context.CreateContexts.{CreateContexts}
use Rattle.spec_wire.specs.declared.messages.context.ReplyContexts.{ReplyContexts}
use Rattle.spec_wire.specs.declared.messages.context.Dh2q.{Dh2q}
use Rattle.spec_wire.specs.declared.messages.context.Dh2c.{Dh2c}
use Rattle.spec_wire.specs.declared.messages.context.Dh2qReply.{Dh2qReply}
use Rattle.spec_wire.specs.declared.messages.context.MaximalAccess.{MaximalAccess}
use Rattle.spec_wire.specs.declared.messages.context.DiskId.{DiskId}
use Rattle.law_wire.proofs.messages.Rows.{table_again, length-with_fields, size_of}
use Rattle.law_wire.proofs.info.ContextChain.{AreSmall, small_append}

-- fields that are written alone stand
alone : (fs : List Field) → AreWritable fs → Stands (with_fields [] fs) 0 fs
alone fs fit = subst (λ (b : List ℕ). Stands b 0 fs) (append-nil (with_fields [] fs)) (table_again fs [] [] 0 refl fit)

persistent_again : (p : Bool) → is_persistent (flags_of p) ≡ p
unfolding is_persistent flags_of
persistent_again true = refl
persistent_again false = refl

dh2q_again : (q : Dh2q) → AreWritable (dh2q_table q) → dh2q_in (with_fields [] (dh2q_table q)) ≡ q
dh2q_again q fit = let s = alone (dh2q_table q) fit in rw (s.0, s.1.0, s.1.1.0, persistent_again q.persistent) refl

dh2c_again : (q : Dh2c) → AreWritable (dh2c_table q) → dh2c_in (with_fields [] (dh2c_table q)) ≡ q
dh2c_again q fit = let s = alone (dh2c_table q) fit in rw (s.0, s.1.0, s.1.1.0, persistent_again q.persistent) refl

dh2q_reply_again : (q : Dh2qReply) → AreWritable (dh2q_reply_table q) → dh2q_reply_in (with_fields [] (dh2q_reply_table q)) ≡ q
dh2q_reply_again q fit = let s = alone (dh2q_reply_table q) fit in rw (s.0, s.1.0, persistent_again q.persistent) refl

access_again : (a : MaximalAccess) → AreWritable (maximal_access_table a) → maximal_access_in (with_fields [] (maximal_access_table a)) ≡ a
access_again a fit = let s = alone (maximal_access_table a) fit in rw (s.0, s.1.0) refl

disk_id_again : (d : DiskId) → AreWritable (disk_id_table d) → disk_id_in (with_fields [] (disk_id_table d)) ≡ d
disk_id_again d fit = let s = alone (disk_id_table d) fit in rw (s.0, s.1.0) refl

dh2q_length : (q : Dh2q) → AreWritable (dh2q_table q) → length (with_fields [] (dh2q_table q)) ≡ 32
unfolding size_of
dh2q_length q fit = length-with_fields (dh2q_table q) [] fit

dh2c_length : (q : Dh2c) → AreWritable (dh2c_table q) → length (with_fields [] (dh2c_table q)) ≡ 36
unfolding size_of
dh2c_length q fit = length-with_fields (dh2c_table q) [] fit

dh2q_reply_length : (q : Dh2qReply) → AreWritable (dh2q_reply_table q) → length (with_fields [] (dh2q_reply_table q)) ≡ 8
unfolding size_of
dh2q_reply_length q fit = length-with_fields (dh2q_reply_table q) [] fit

access_length : (a : MaximalAccess) → AreWritable (maximal_access_table a) → length (with_fields [] (maximal_access_table a)) ≡ 8
unfolding size_of
access_length a fit = length-with_fields (maximal_access_table a) [] fit

disk_id_length : (d : DiskId) → AreWritable (disk_id_table d) → length (with_fields [] (disk_id_table d)) ≡ 32
unfolding size_of
disk_id_length d fit = length-with_fields (disk_id_table d) [] fit

-- ---- each is small

small_asked_mxac : (wanted : Bool) → AreSmall request_due (asked wanted mxac)
unfolding request_due is_named
small_asked_mxac true = (record { name = refl; few = omega arith; size = tt }, tt)
small_asked_mxac false = tt

small_asked_qfid : (wanted : Bool) → AreSmall request_due (asked wanted qfid)
unfolding request_due is_named
small_asked_qfid true = (record { name = refl; few = omega arith; size = tt }, tt)
small_asked_qfid false = tt

small_dh2q : (o : Option Dh2q) → IsWritableDh2q o → AreSmall request_due (dh2q_asked o)
unfolding request_due is_named
small_dh2q None fit = tt
small_dh2q (Some q) fit = (record { name = refl; few = omega (arith, dh2q_length q fit); size = dh2q_length q fit }, tt)

small_dh2c : (o : Option Dh2c) → IsWritableDh2c o → AreSmall request_due (dh2c_asked o)
unfolding request_due is_named
small_dh2c None fit = tt
small_dh2c (Some q) fit = (record { name = refl; few = omega (arith, dh2c_length q fit); size = dh2c_length q fit }, tt)

pub requests_small : (c : CreateContexts) → IsWritableCreateContexts c → AreSmall request_due (asked_contexts c)
requests_small c fit =
    small_append request_due (dh2q_asked c.dh2q) _ (small_dh2q c.dh2q fit.dh2q)
    (small_append request_due (dh2c_asked c.dh2c) _ (small_dh2c c.dh2c fit.dh2c)
    (small_append request_due (asked c.mxac mxac) _ (small_asked_mxac c.mxac) (small_asked_qfid c.qfid)))

small_dh2q_told : (o : Option Dh2qReply) → IsWritableDh2qReply o → AreSmall reply_due (dh2q_told o)
unfolding reply_due is_named
small_dh2q_told None fit = tt
small_dh2q_told (Some q) fit = (record { name = refl; few = omega (arith, dh2q_reply_length q fit); size = dh2q_reply_length q fit }, tt)

small_mxac_told : (o : Option MaximalAccess) → IsWritableMaximalAccess o → AreSmall reply_due (mxac_told o)
unfolding reply_due is_named
small_mxac_told None fit = tt
small_mxac_told (Some a) fit = (record { name = refl; few = omega (arith, access_length a fit); size = access_length a fit }, tt)

small_qfid_told : (o : Option DiskId) → IsWritableDiskId o → AreSmall reply_due (qfid_told o)
unfolding reply_due is_named
small_qfid_told None fit = tt
small_qfid_told (Some d) fit = (record { name = refl; few = omega (arith, disk_id_length d fit); size = disk_id_length d fit }, tt)

pub replies_small : (c : ReplyContexts) → IsWritableReplyContexts c → AreSmall reply_due (told_contexts c)
replies_small c fit =
    small_append reply_due (dh2q_told c.dh2q) _ (small_dh2q_told c.dh2q fit.dh2q)
    (small_append reply_due (mxac_told c.mxac) _ (small_mxac_told c.mxac fit.mxac) (small_qfid_told c.qfid fit.qfid))

-- ---- what they say

asked_says : (wants_mxac wants_qfid : Bool) → request_contexts (asked wants_mxac mxac ++ asked wants_qfid qfid)
    ≡ record { dh2q = None; dh2c = None; mxac = wants_mxac; qfid = wants_qfid }
unfolding is_named
asked_says true true = refl
asked_says true false = refl
asked_says false true = refl
asked_says false false = refl

dh2c_says : (o : Option Dh2c) (a b : Bool) (rest : List CreateContext) → IsWritableDh2c o → request_contexts rest
    ≡ record { dh2q = None; dh2c = None; mxac = a; qfid = b }
    → request_contexts (dh2c_asked o ++ rest) ≡ record { dh2q = None; dh2c = o; mxac = a; qfid = b }
unfolding is_named
dh2c_says None a b rest fit says = says
dh2c_says (Some q) a b rest fit says = rw (says, dh2c_again q fit) refl

dh2q_says : (o : Option Dh2q) (p : Option Dh2c) (a b : Bool) (rest : List CreateContext) → IsWritableDh2q o
    → request_contexts rest ≡ record { dh2q = None; dh2c = p; mxac = a; qfid = b }
    → request_contexts (dh2q_asked o ++ rest) ≡ record { dh2q = o; dh2c = p; mxac = a; qfid = b }
unfolding is_named
dh2q_says None p a b rest fit says = says
dh2q_says (Some q) p a b rest fit says = rw (says, dh2q_again q fit) refl

pub requests_say : (c : CreateContexts) → IsWritableCreateContexts c → request_contexts (asked_contexts c) ≡ c
requests_say c fit = dh2q_says c.dh2q c.dh2c c.mxac c.qfid _ fit.dh2q (dh2c_says c.dh2c c.mxac c.qfid _ fit.dh2c (asked_says c.mxac c.qfid))

qfid_says : (o : Option DiskId) → IsWritableDiskId o → reply_contexts (qfid_told o) ≡ record { dh2q = None; mxac = None; qfid = o }
unfolding is_named
qfid_says None fit = refl
qfid_says (Some d) fit = rw (disk_id_again d fit) refl

mxac_says : (o : Option MaximalAccess) (d : Option DiskId) (rest : List CreateContext) → IsWritableMaximalAccess o
    → reply_contexts rest ≡ record { dh2q = None; mxac = None; qfid = d }
    → reply_contexts (mxac_told o ++ rest) ≡ record { dh2q = None; mxac = o; qfid = d }
unfolding is_named
mxac_says None d rest fit says = says
mxac_says (Some a) d rest fit says = rw (says, access_again a fit) refl

reply_says : (o : Option Dh2qReply) (a : Option MaximalAccess) (d : Option DiskId) (rest : List CreateContext)
    → IsWritableDh2qReply o → reply_contexts rest ≡ record { dh2q = None; mxac = a; qfid = d }
    → reply_contexts (dh2q_told o ++ rest) ≡ record { dh2q = o; mxac = a; qfid = d }
unfolding is_named
reply_says None a d rest fit says = says
reply_says (Some q) a d rest fit says = rw (says, dh2q_reply_again q fit) refl

pub replies_say : (c : ReplyContexts) → IsWritableReplyContexts c → reply_contexts (told_contexts c) ≡ c
replies_say c fit = reply_says c.dh2q c.mxac c.qfid _ fit.dh2q (mxac_says c.mxac c.qfid _ fit.mxac (qfid_says c.qfid fit.qfid))
