-- The contexts of a CREATE and of its response take few bytes.
use Rattle.std.proofs.Common.{ℕ, ◌+◌, ◌*◌, ◌≤◌, Bool, true, false, List, [], ◌∷◌, ◌++◌, length, Option, Some, None}
use Rattle.std.proofs.Common.{refl, arith, length-append}
use Rattle.std.specs.Prelude.{◌==◌, if◌then◌else◌}
use Rattle.spec_wire.specs.messages.Places.{le, gap_to_8}
use Rattle.spec_wire.proofs.messages.Numbers.{length-le}
use Rattle.spec_wire.specs.messages.Table.{AreWritable}
use Rattle.spec_wire.specs.messages.Aligned.{told, aligned_gap}
use Rattle.spec_wire.specs.messages.Chain.{chain_spelling}
use Rattle.spec_wire.specs.messages.CreateContexts.{CreateContext, request_due, reply_due, dh2q_told, mxac_told, qfid_told}
use Rattle.spec_wire.specs.messages.CreateContexts.{told_contexts, IsWritableReplyContexts, reply_contexts_spelling}
use Rattle.spec_wire.specs.messages.CreateContexts.{context_whole, context_spelling, context_size, asked, dh2q_asked, dh2c_asked}
use Rattle.spec_wire.specs.messages.CreateContexts.{asked_contexts, mxac, qfid, IsWritableCreateContexts}
use Rattle.spec_wire.specs.messages.CreateContexts.{create_contexts_spelling}
use Rattle.spec_wire.specs.declared.messages.context.CreateContexts.{CreateContexts}
use Rattle.spec_wire.specs.declared.messages.context.Dh2q.{Dh2q}
use Rattle.spec_wire.specs.declared.messages.context.Dh2c.{Dh2c}
use Rattle.spec_wire.specs.declared.messages.context.ReplyContexts.{ReplyContexts}
use Rattle.spec_wire.specs.declared.messages.context.Dh2qReply.{Dh2qReply}
use Rattle.spec_wire.specs.declared.messages.context.MaximalAccess.{MaximalAccess}
use Rattle.spec_wire.specs.declared.messages.context.DiskId.{DiskId}
use Rattle.law_wire.proofs.messages.Rows.{length-with_fields, size_of}
use Rattle.law_wire.proofs.info.ContextChain.{IsSmall, AreSmall}
use Rattle.law_wire.proofs.info.Gathered.{requests_small, replies_small}

at_most : (empty : Bool) (n : ℕ) → (if empty then 0 else n) ≤ n
at_most true n = omega arith
at_most false n = omega arith

gap_small : (n : ℕ) → gap_to_8 n ≤ 7
gap_small n = omega arith

gap_fits : (v : CreateContext) → aligned_gap (length v.value) (length v.name) ≤ 7
gap_fits v = omega (arith, at_most (length v.value == 0) (gap_to_8 (length v.name)), gap_small (length v.name))

fits : (due : List ℕ → Option ℕ) (v : CreateContext) (next : ℕ) → IsSmall due v → next ≤ 100 → AreWritable (context_whole v next)
fits due v next s le =
    let gap = gap_fits v in
    let at : ℕ = 16 + length v.name + aligned_gap (length v.value) (length v.name) in
    let place : told (length v.value) at ≤ at = at_most (length v.value == 0) at in
    (omega arith, (omega arith, (omega (arith, s.name), (omega (arith, s.name, gap, place), (omega (arith, s.few), (refl, (refl, tt)))))))

size_small : (due : List ℕ → Option ℕ) (v : CreateContext) → IsSmall due v → context_size v ≤ 70
size_small due v s = omega (arith, s.name, s.few, gap_fits v)

length-one : (due : List ℕ → Option ℕ) (v : CreateContext) (next : ℕ) → IsSmall due v → next ≤ 100 → length (context_spelling v next) ≤ 70
unfolding size_of
length-one due v next s le = omega (arith, length-with_fields (context_whole v next) [] (fits due v next s le), s.name, s.few, gap_fits v)

length-chain : (due : List ℕ → Option ℕ) (vs : List CreateContext) → AreSmall due vs → length (chain_spelling
    context_spelling context_size vs) ≤ 100 * length vs
length-chain due [] s = omega arith
length-chain due (v ∷ []) s = omega (arith, length-one due v 0 s.0 (omega arith), length-append (context_spelling v 0) [])
length-chain due (v ∷ w ∷ ws) s =
    let gap : ℕ = gap_to_8 (context_size v) in
    let small = size_small due v s.0 in
    let gap_is = gap_small (context_size v) in
    let next : ℕ = context_size v + gap in
    let first = length-one due v next s.0 (omega (arith, small, gap_is)) in
    let later = length-chain due (w ∷ ws) s.1 in
    omega (
      arith,
      length-append (context_spelling v next ++ le gap 0) (chain_spelling context_spelling context_size (w ∷
          ws)),
      length-append (context_spelling v next) (le gap 0),
      length-le gap 0,
      gap_is,
      first,
      later,
    )

one_dh2q : (o : Option Dh2q) → length (dh2q_asked o) ≤ 1
one_dh2q None = omega arith
one_dh2q (Some q) = omega arith

one_dh2c : (o : Option Dh2c) → length (dh2c_asked o) ≤ 1
one_dh2c None = omega arith
one_dh2c (Some q) = omega arith

one_asked : (b : Bool) (tag : List ℕ) → length (asked b tag) ≤ 1
one_asked true tag = omega arith
one_asked false tag = omega arith

few_contexts : (c : CreateContexts) → length (asked_contexts c) ≤ 4
few_contexts c =
    omega (
      arith,
      length-append (dh2q_asked c.dh2q) (dh2c_asked c.dh2c ++ (asked c.mxac mxac ++ asked c.qfid qfid)),
      length-append (dh2c_asked c.dh2c) (asked c.mxac mxac ++ asked c.qfid qfid),
      length-append (asked c.mxac mxac) (asked c.qfid qfid),
      one_dh2q c.dh2q,
      one_dh2c c.dh2c,
      one_asked c.mxac mxac,
      one_asked c.qfid qfid,
    )

pub contexts_few : (c : CreateContexts) → IsWritableCreateContexts c → length (create_contexts_spelling c) ≤ 400
contexts_few c fit = omega (arith, length-chain request_due (asked_contexts c) (requests_small c fit), few_contexts c)

one_timeout : (o : Option Dh2qReply) → length (dh2q_told o) ≤ 1
one_timeout None = omega arith
one_timeout (Some q) = omega arith

one_access : (o : Option MaximalAccess) → length (mxac_told o) ≤ 1
one_access None = omega arith
one_access (Some a) = omega arith

one_disk_id : (o : Option DiskId) → length (qfid_told o) ≤ 1
one_disk_id None = omega arith
one_disk_id (Some d) = omega arith

pub replies_few : (c : ReplyContexts) → IsWritableReplyContexts c → length (reply_contexts_spelling c) ≤ 300
replies_few c fit =
    omega (
      arith,
      length-chain reply_due (told_contexts c) (replies_small c fit),
      length-append (dh2q_told c.dh2q)
          (mxac_told c.mxac ++ qfid_told c.qfid),
      length-append (mxac_told c.mxac) (qfid_told c.qfid),
      one_timeout c.dh2q,
      one_access c.mxac,
      one_disk_id c.qfid,
    )
