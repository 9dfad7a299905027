-- A chain that is written piece by piece.
use Rattle.std.proofs.Common.{◌≡◌, ℕ, ◌≤◌, Bool, true, false, List, [], ◌∷◌, ◌++◌, length, Option, Some, None, refl}
use Rattle.std.proofs.Common.{sym, ap, ◌∙◌, append_assoc, arith}
use Rattle.std.proofs.lemmas.List.{append-nil}
use Rattle.spec_wire.specs.messages.Chain.{chain_spelling}
use Rattle.spec_wire.specs.messages.CreateContexts.{CreateContext, context_spelling, context_size, dh2q_asked, dh2c_asked, asked}
use Rattle.spec_wire.specs.messages.CreateContexts.{mxac, qfid, create_contexts_spelling, dh2q_told, mxac_told, qfid_told}
use Rattle.spec_wire.specs.messages.CreateContexts.{reply_contexts_spelling}
use Rattle.spec_wire.specs.declared.messages.context.CreateContexts.{CreateContexts}
use Rattle.spec_wire.specs.declared.messages.context.ReplyContexts.{ReplyContexts}
use Rattle.spec_wire.specs.declared.messages.context.Dh2q.{Dh2q}
use Rattle.spec_wire.specs.declared.messages.context.Dh2c.{Dh2c}
use Rattle.spec_wire.specs.declared.messages.context.Dh2qReply.{Dh2qReply}
use Rattle.spec_wire.specs.declared.messages.context.MaximalAccess.{MaximalAccess}
use Rattle.spec_wire.specs.declared.messages.context.DiskId.{DiskId}
use Rattle.wire_bytes.specs.create_contexts.Parts.{context_pieces, context_some}

abbrev pub written : List CreateContext → List ℕ
written vs = chain_spelling context_spelling context_size vs

-- one context or none, and those behind it
joined : (xs ys : List CreateContext) → length xs ≤ 1 → written (xs ++ ys) ≡ context_pieces (context_some ys) xs ++ written ys
joined [] ys few = refl
joined (v ∷ []) [] few = refl
joined (v ∷ []) (w ∷ ws) few = refl
joined (v ∷ w ∷ ws) ys few = absurd (omega arith)

joined_last : (xs : List CreateContext) → length xs ≤ 1 → written xs ≡ context_pieces false xs
joined_last xs few = ap written (sym (append-nil xs)) ∙ joined xs [] few ∙ append-nil (context_pieces false xs)

-- three lists of one context or none
joined_three : (xs ys zs : List CreateContext) → length xs ≤ 1 → length ys ≤ 1 → length zs ≤ 1
    → written (xs ++ (ys ++ zs)) ≡ (context_pieces (context_some (ys ++ zs)) xs ++ context_pieces (context_some zs) ys)
    ++ context_pieces false zs
joined_three xs ys zs one two three =
    joined xs (ys ++ zs) one
    ∙ ap (λ (b : List ℕ). context_pieces (context_some (ys ++ zs)) xs ++ b) (joined ys zs two
    ∙ ap (λ (b : List ℕ). context_pieces (context_some zs) ys
    ++ b) (joined_last zs three))
    ∙ sym (append_assoc (context_pieces (context_some (ys ++ zs)) xs) (context_pieces (context_some zs) ys) (context_pieces false zs))

few_asked : (wanted : Bool) (name : List ℕ) → length (asked wanted name) ≤ 1
few_asked true name = omega arith
few_asked false name = omega arith

few_dh2q : (o : Option Dh2q) → length (dh2q_asked o) ≤ 1
few_dh2q None = omega arith
few_dh2q (Some q) = omega arith

few_dh2c : (o : Option Dh2c) → length (dh2c_asked o) ≤ 1
few_dh2c None = omega arith
few_dh2c (Some q) = omega arith

few_dh2q_told : (o : Option Dh2qReply) → length (dh2q_told o) ≤ 1
few_dh2q_told None = omega arith
few_dh2q_told (Some q) = omega arith

few_mxac_told : (o : Option MaximalAccess) → length (mxac_told o) ≤ 1
few_mxac_told None = omega arith
few_mxac_told (Some q) = omega arith

few_qfid_told : (o : Option DiskId) → length (qfid_told o) ≤ 1
few_qfid_told None = omega arith
few_qfid_told (Some q) = omega arith

some_asked : (wanted : Bool) (name : List ℕ) → context_some (asked wanted name) ≡ wanted
some_asked true name = refl
some_asked false name = refl

pub replies_written : (c : ReplyContexts) → reply_contexts_spelling c
    ≡ (context_pieces (context_some (mxac_told c.mxac ++ qfid_told c.qfid)) (dh2q_told c.dh2q)
    ++ context_pieces (context_some (qfid_told c.qfid))
    (mxac_told c.mxac)) ++ context_pieces false (qfid_told c.qfid)
replies_written c = joined_three (dh2q_told c.dh2q) (mxac_told c.mxac) (qfid_told c.qfid) (few_dh2q_told c.dh2q)
    (few_mxac_told c.mxac) (few_qfid_told c.qfid)

pub requests_written : (c : CreateContexts) → create_contexts_spelling c
    ≡ ((context_pieces (context_some (dh2c_asked c.dh2c ++ (asked c.mxac mxac ++ asked c.qfid qfid))) (dh2q_asked c.dh2q)
    ++ context_pieces (context_some (asked c.mxac mxac ++ asked c.qfid qfid)) (dh2c_asked c.dh2c))
    ++ context_pieces c.qfid (asked c.mxac mxac))
    ++ context_pieces false (asked c.qfid qfid)
requests_written c =
    let first : List ℕ = context_pieces (context_some (dh2c_asked c.dh2c ++ (asked c.mxac mxac ++ asked c.qfid qfid)))
    (dh2q_asked c.dh2q) in
    let last : List ℕ = context_pieces false (asked c.qfid qfid) in
    let rest = joined_three (dh2c_asked c.dh2c) (asked c.mxac mxac) (asked c.qfid qfid) (few_dh2c c.dh2c)
    (few_asked c.mxac mxac) (few_asked c.qfid qfid) in
    joined (dh2q_asked c.dh2q) (dh2c_asked c.dh2c ++ (asked c.mxac mxac ++ asked c.qfid qfid)) (few_dh2q c.dh2q)
    ∙ ap (λ (b : List ℕ). first ++ b) rest
    ∙ rw (some_asked c.qfid qfid) (simp append_assoc)
