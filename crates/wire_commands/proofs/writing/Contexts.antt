-- What is written in several parts is short.
use Rattle.std.proofs.Common.{◌≡◌, ℕ, ◌+◌, ◌*◌, ◌/◌, ◌<◌, ◌≤◌, Bool, true, false, List, [], ◌∷◌, ◌++◌, length, Option, Some}
use Rattle.std.proofs.Common.{None, ◌∙◌, arith, length-append}
use Rattle.std.specs.Prelude.{◌^◌, ◌==◌, if◌then◌else◌, flat_map, option_map}
use Rattle.spec_wire.specs.messages.Places.{le, gap_to_8}
use Rattle.spec_wire.proofs.messages.Numbers.{length-le}
use Rattle.spec_wire.specs.messages.Chain.{chain_spelling}
use Rattle.spec_wire.specs.messages.CreateContexts.{CreateContext, context_spelling, context_size, context_whole}
use Rattle.spec_wire.specs.messages.CreateContexts.{mxac, qfid, asked, dh2q_asked, dh2c_asked, asked_contexts, dh2q_told}
use Rattle.spec_wire.specs.messages.CreateContexts.{mxac_told, qfid_told, told_contexts, dh2q_table, dh2c_table}
use Rattle.spec_wire.specs.messages.CreateContexts.{dh2q_reply_table, maximal_access_table, disk_id_table}
use Rattle.spec_wire.specs.messages.CreateContexts.{reply_contexts_spelling, create_contexts_spelling}
use Rattle.spec_wire.specs.declared.messages.context.ReplyContexts.{ReplyContexts}
use Rattle.spec_wire.specs.declared.messages.context.Dh2qReply.{Dh2qReply}
use Rattle.spec_wire.specs.declared.messages.context.MaximalAccess.{MaximalAccess}
use Rattle.spec_wire.specs.declared.messages.context.DiskId.{DiskId}
use Rattle.spec_wire.specs.messages.Lock.{lock_element_table, lock_element_spelling}
use Rattle.spec_exchange.specs.Commands.{CreateRequest, Durable, Reconnect, Element}
use Rattle.spec_exchange.specs.State.{Address, Info}
use Rattle.spec_commands.proofs.Lengths.{total, length_fields, interface_long, object_id_long}
use Rattle.spec_commands.specs.Ids.{file_id, guid_id}
use Rattle.spec_commands.specs.BodyOf.{dh2q_of, dh2c_of, contexts_of, element_of}
use Rattle.spec_commands.specs.Infos.{interface_bytes, object_id_bytes, all_of}
use Rattle.spec_wire.specs.messages.Utf16.{utf16}
use Rattle.spec_wire.specs.messages.FileClasses.{file_all_information_spelling, file_all_information_whole}
use Rattle.spec_wire.specs.messages.FileClasses.{file_name_information_spelling, file_name_information_whole}

-- ---- contexts

gap_small : (empty : Bool) (n : ℕ) → (if empty then 0 else gap_to_8 n) ≤ 7
gap_small true n = omega arith
gap_small false n = omega arith

pub context_short : (v : CreateContext) (next : ℕ) → length (context_spelling v next) ≤ 23 + length v.name + length v.value
unfolding total
context_short v next =
    let e : length (context_spelling v next) ≡ 0 + total (context_whole v next) = length_fields (context_whole v next) [] in
    omega (arith, e, gap_small (length v.value == 0) (length v.name))

abbrev AreShort : List CreateContext → Type 0
AreShort [] = Unit {0}
AreShort (v ∷ vs) = (length v.name + length v.value ≤ 40) × AreShort vs

chain_short : (vs : List CreateContext) → AreShort vs → length (chain_spelling context_spelling context_size vs) ≤ 80 * length vs
chain_short [] s = omega arith
chain_short (v ∷ []) s = omega (arith, context_short v 0, s.0, length-append (context_spelling v 0) [])
chain_short (v ∷ w ∷ ws) s =
    let next : ℕ = context_size v + gap_to_8 (context_size v) in
    let gap : List ℕ = le (gap_to_8 (context_size v)) 0 in
    let rest : List ℕ = chain_spelling context_spelling context_size (w ∷ ws) in
    let later : length rest ≤ 80 * length (w ∷ ws) = chain_short (w ∷ ws) s.1 in
    let size : length gap ≡ gap_to_8 (context_size v) = length-le (gap_to_8 (context_size v)) 0 in
    omega (
      arith,
      context_short v next,
      s.0,
      later,
      size,
      gap_small false (context_size v),
      length-append (context_spelling v next) gap,
      length-append (context_spelling v next ++ gap) rest,
    )

short_append : (vs ws : List CreateContext) → AreShort vs → AreShort ws → AreShort (vs ++ ws)
short_append [] ws s t = t
short_append (v ∷ vs) ws s t = (s.0, short_append vs ws s.1 t)

-- of a response

told_dh2q : (o : Option Dh2qReply) → AreShort (dh2q_told o) × (length (dh2q_told o) ≤ 1)
unfolding total
told_dh2q None = (tt, omega arith)
told_dh2q (Some q) = ((omega (arith, length_fields (dh2q_reply_table q) []), tt), omega arith)

told_mxac : (o : Option MaximalAccess) → AreShort (mxac_told o) × (length (mxac_told o) ≤ 1)
unfolding total
told_mxac None = (tt, omega arith)
told_mxac (Some a) = ((omega (arith, length_fields (maximal_access_table a) []), tt), omega arith)

told_qfid : (o : Option DiskId) → AreShort (qfid_told o) × (length (qfid_told o) ≤ 1)
unfolding total
told_qfid None = (tt, omega arith)
told_qfid (Some d) = ((omega (arith, length_fields (disk_id_table d) []), tt), omega arith)

pub told_short : (c : ReplyContexts) → length (reply_contexts_spelling c) < 2 ^ 32
told_short c =
    let a = told_dh2q c.dh2q in
    let b = told_mxac c.mxac in
    let d = told_qfid c.qfid in
    let short = chain_short (told_contexts c)
    (short_append (dh2q_told c.dh2q) _ a.0 (short_append (mxac_told c.mxac) (qfid_told c.qfid) b.0 d.0)) in
    omega (
      arith,
      short,
      a.1,
      b.1,
      d.1,
      length-append (dh2q_told c.dh2q) (mxac_told c.mxac ++ qfid_told c.qfid),
      length-append (mxac_told c.mxac) (qfid_told c.qfid),
    )

-- of a request that a client writes

length_file : (o : ℕ) → length (file_id o) ≡ 16
unfolding file_id
length_file o = omega (
  arith,
  length-append (le 8 o) (le 8 (o + o / 0x1_0000_0000_0000_0000)),
  length-le 8 o,
  length-le 8 (o + o / 0x1_0000_0000_0000_0000),
)

length_guid : (g : ℕ) → length (guid_id g) ≡ 16
unfolding guid_id
length_guid g = length-le 16 g

asked_dh2q : (o : Option Durable) → AreShort (dh2q_asked (option_map dh2q_of o)) × (length (dh2q_asked (option_map dh2q_of o)) ≤ 1)
unfolding total
asked_dh2q None = (tt, omega arith)
asked_dh2q (Some d) = ((omega (arith, length_fields (dh2q_table (dh2q_of d)) [], length_guid d.guid), tt), omega arith)

asked_dh2c : (o : Option Reconnect) → AreShort (dh2c_asked (option_map dh2c_of o)) × (length (dh2c_asked (option_map dh2c_of o)) ≤ 1)
unfolding total
asked_dh2c None = (tt, omega arith)
asked_dh2c (Some c) = ((omega (arith, length_fields (dh2c_table (dh2c_of c)) [], length_file c.file, length_guid c.guid), tt), omega arith)

asked_mxac : (b : Bool) → AreShort (asked b mxac) × (length (asked b mxac) ≤ 1)
asked_mxac true = ((omega arith, tt), omega arith)
asked_mxac false = (tt, omega arith)

asked_qfid : (b : Bool) → AreShort (asked b qfid) × (length (asked b qfid) ≤ 1)
asked_qfid true = ((omega arith, tt), omega arith)
asked_qfid false = (tt, omega arith)

pub asked_short : (r : CreateRequest) → length (create_contexts_spelling (contexts_of r)) < 2 ^ 32
asked_short r =
    let a = asked_dh2q r.durable in
    let b = asked_dh2c r.reconnect in
    let d = asked_mxac r.maximal in
    let e = asked_qfid r.disk_id in
    let front = dh2q_asked (option_map dh2q_of r.durable) in
    let middle = dh2c_asked (option_map dh2c_of r.reconnect) in
    let short = chain_short (asked_contexts (contexts_of r))
    (short_append front _ a.0 (short_append middle _ b.0 (short_append (asked r.maximal mxac) (asked r.disk_id qfid)
    d.0 e.0))) in
    omega (
      arith,
      short,
      a.1,
      b.1,
      d.1,
      e.1,
      length-append front (middle ++ (asked r.maximal mxac ++ asked r.disk_id qfid)),
      length-append middle (asked r.maximal mxac ++ asked r.disk_id qfid),
      length-append (asked r.maximal mxac) (asked r.disk_id qfid),
    )

-- ---- others

pub interface_short : (a : Address) → length (interface_bytes a) < 2 ^ 32
interface_short a = omega (arith, interface_long a)

pub object_id_short : (file : ℕ) → length (object_id_bytes file) < 2 ^ 32
object_id_short file = omega (arith, object_id_long file)

-- what is told of all of a file is no shorter than its name
pub all_long : (path : List ℕ) (i : Info) (access options position : ℕ)
    → length (utf16 (92 ∷ path)) ≤ length (file_all_information_spelling (all_of path i access options position))
unfolding total
all_long path i access options position = omega (arith, length_fields (file_all_information_whole (all_of path i access options position)) [])

-- no shorter is its name alone
pub name_long : (name : List ℕ) → length name ≤ length (file_name_information_spelling (record { name = name }))
unfolding total
name_long name = omega (arith, length_fields (file_name_information_whole (record { name = name })) [])

one_element : (e : Element) → length (lock_element_spelling (element_of e)) ≡ 24
unfolding total
one_element e = length_fields (lock_element_table (element_of e)) [] ∙ omega arith

pub length_elements : (es : List Element) → length (flat_map (λ e. lock_element_spelling (element_of e)) es) ≡ 24 * length es
length_elements [] = omega arith
length_elements (e ∷ es) = omega (
  arith,
  length-append (lock_element_spelling (element_of e)) (flat_map (λ e. lock_element_spelling (element_of e)) es),
  one_element e,
  length_elements es,
)
