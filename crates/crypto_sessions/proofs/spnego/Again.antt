-- What a canonical token holds reads back, part by part.
use Rattle.std.proofs.Common.{◌≡◌, ℕ, ◌+◌, ◌^◌, ◌<◌, ◌==◌, Bool, true, false, List, [], ◌∷◌, ◌++◌, length, refl, arith}
use Rattle.std.proofs.Common.{sym, ◌∙◌, ap, Option, Some, None, Ok}
use Rattle.std.proofs.lemmas.List.{append-nil}
use Rattle.spec_crypto.specs.tokens.Der.{Piece, comes, ends, spelled}
use Rattle.spec_crypto.specs.tokens.Spnego.{InitValue, RespValue, Names, spnego, ntlmssp, byte_is, spnego_named, octets, passed}
use Rattle.spec_crypto.specs.tokens.Spnego.{names_in, mech_types, hints, init_fields, init_choice, init_in, state_in, mech_in}
use Rattle.spec_crypto.specs.tokens.Spnego.{resp_fields, resp_in, octets_spelling, state_spelling, mech_spelling}
use Rattle.spec_crypto.specs.tokens.Spnego.{init_fields_spelling, init_spelling, resp_fields_spelling, resp_spelling}
use Rattle.spec_crypto.specs.tokens.Spnego.{IsWritableInit, IsWritableResp}
use Rattle.crypto_sessions.proofs.spnego.Lengths.{short_inside, short_front, short_back, mech_short, state_short, init_parts, resp_parts}
use Rattle.crypto_sessions.proofs.spnego.Spelled.{lead, element_reads, element_alone, comes_here, comes_other}

abbrev pub piece_at : ℕ → List ℕ → Piece
piece_at at bytes = record { at = at; bytes = bytes }

-- no element with this tag comes in front
abbrev pub Lacks : ℕ → List ℕ → Type 0
Lacks tag bytes = (at : ℕ) → comes tag (piece_at at bytes) ≡ false

lacks_octets : (tag other : ℕ) (o : Option (List ℕ)) (rest : List ℕ) → (other == tag) ≡ false → Lacks tag rest → Lacks
    tag (octets_spelling other o ++ rest)
lacks_octets tag other None rest e h = h
lacks_octets tag other (Some b) rest e h = λ at. comes_other tag other at (spelled 0x04 b) rest e

lacks_none : (tag : ℕ) → Lacks tag []
lacks_none tag = λ at. refl

octets_read : (tag at : ℕ) (o : Option (List ℕ)) (rest : List ℕ) → length (octets_spelling tag o) < 2 ^ 32 → Lacks tag
    rest → (k : ℕ) × (octets tag (piece_at at (octets_spelling tag o ++ rest)) ≡ Ok (record {
      bytes = o;
      rest = piece_at
          k rest;
    }))
unfolding octets ends
octets_read tag at None rest lt h = (at, rw (h at) refl)
octets_read tag at (Some b) rest lt h =
    let string = short_inside tag (spelled 0x04 b) lt in
    let bytes = short_inside 0x04 b string in (
      at + (lead (spelled 0x04 b) + length (spelled 0x04 b)),
      rw (
        comes_here tag at (spelled 0x04 b) rest,
        element_reads
            tag at (spelled 0x04 b) rest string,
        element_alone 0x04 (at + lead (spelled 0x04 b)) b bytes,
      ) refl,
    )

types_read : (at : ℕ) (list : List ℕ) (names : Names) (rest : List ℕ) → length list < 2 ^ 32 → ((at : ℕ) → names_in
    (piece_at at list) ≡ Ok names) → (k : ℕ) × (mech_types (piece_at at (spelled 0xa0 list ++ rest)) ≡ Ok (record {
      list
          = list;
      names = names;
      rest = piece_at k rest;
    }))
unfolding mech_types
types_read at list names rest lt h = (at + (lead list + length list), rw (element_reads 0xa0 at list rest lt, h (at + lead list)) refl)

passed_none : (tag at : ℕ) (bytes : List ℕ) → Lacks tag bytes → passed tag (piece_at at bytes) ≡ Ok (piece_at at bytes)
unfolding passed
passed_none tag at bytes h = rw (h at) refl

-- a MIC is no hint
no_hints : (at : ℕ) (o : Option (List ℕ)) → length (octets_spelling 0xa3 o) < 2 ^ 32 → hints (piece_at at
    (octets_spelling 0xa3 o ++ [])) ≡ Ok (record { there = false; rest = piece_at at (octets_spelling 0xa3 o ++ []) })
unfolding hints
no_hints at None lt = refl
no_hints at (Some b) lt =
    let string = short_inside 0xa3 (spelled 0x04 b) lt in
    let other : comes 0x30 (piece_at (at + lead (spelled 0x04 b)) (spelled 0x04 b)) ≡ false =
    ap (λ (l : List ℕ). comes 0x30 (piece_at (at + lead (spelled 0x04 b)) l)) (sym (append-nil (spelled 0x04 b))) ∙
    comes_other 0x30 0x04 (at + lead (spelled 0x04 b)) b [] refl in
    rw (comes_here 0xa3 at (spelled 0x04 b) [], element_reads 0xa3 at (spelled 0x04 b) [] string, other) refl

init_read : (at : ℕ) (v : InitValue) → ((at : ℕ) → names_in (piece_at at v.mech_list) ≡ Ok (record {
  first =
      v.ntlm_first;
  named = true;
})) → length (init_fields_spelling v) < 2 ^ 32 → init_fields (piece_at at
    (init_fields_spelling v)) ≡ Ok (record { named = true; value = v })
unfolding init_fields ends
init_read at v h lt =
    let mic = octets_spelling 0xa3 v.mic in
    let token = octets_spelling 0xa2 v.token in
    let list_short = short_inside 0xa0 v.mech_list (short_front (spelled 0xa0 v.mech_list) (token ++ mic) lt) in
    let both = short_back (spelled 0xa0 v.mech_list) (token ++ mic) lt in
    let token_short = short_front token mic both in
    let mic_short = short_back token mic both in
    let types = types_read at v.mech_list (record { first = v.ntlm_first; named = true }) (token ++ (mic ++ [])) list_short h in
    let mic_lacks : Lacks 0xa2 (mic ++ []) = lacks_octets 0xa2 0xa3 v.mic [] refl (lacks_none 0xa2) in
    let no_flags = passed_none 0xa1 types.0 (token ++ (mic ++ [])) (lacks_octets 0xa1 0xa2 v.token (mic ++ []) refl
    (lacks_octets 0xa1 0xa3 v.mic [] refl (lacks_none 0xa1))) in
    let tokens = octets_read 0xa2 types.0 v.token (mic ++ []) token_short mic_lacks in
    let none = no_hints tokens.0 v.mic mic_short in
    let mics = octets_read 0xa3 tokens.0 v.mic [] mic_short (lacks_none 0xa3) in
    let e : init_fields_spelling v ≡ spelled 0xa0 v.mech_list ++ (token ++ (mic ++ [])) = ap (λ (l : List ℕ). spelled
    0xa0 v.mech_list ++ (token ++ l)) (sym (append-nil mic)) in
    rw (e, types.1, no_flags, tokens.1, none, mics.1) refl

name_read : (at : ℕ) (rest : List ℕ) → (k : ℕ) × (spnego_named (piece_at at (spelled 0x06 spnego ++ rest)) ≡ Ok (piece_at k rest))
unfolding spnego_named byte_is
name_read at rest = (at + 8, rw (element_reads 0x06 at spnego rest (omega arith)) refl)

choice_read : (at : ℕ) (v : InitValue) → IsWritableInit v → init_choice (piece_at at (spelled 0xa0 (spelled 0x30
    (init_fields_spelling v)))) ≡ Ok (record { named = true; value = v })
unfolding init_choice ends
choice_read at v w =
    let parts = init_parts v w.short in
    let sequence = spelled 0x30 (init_fields_spelling v) in
    rw (
      element_alone 0xa0 at sequence parts.1,
      element_alone 0x30 (at + lead sequence) (init_fields_spelling v)
          parts.0,
      init_read (at + lead sequence + lead (init_fields_spelling v)) v w.list parts.0,
    ) refl

pub init_again : (v : InitValue) → IsWritableInit v → init_in (init_spelling v) ≡ Ok v
unfolding init_in init_spelling ends
init_again v w =
    let parts = init_parts v w.short in
    let choice = spelled 0xa0 (spelled 0x30 (init_fields_spelling v)) in
    let contents = spelled 0x06 spnego ++ choice in
    let name = name_read (0 + lead contents) choice in
    rw (element_alone 0x60 0 contents parts.2, name.1, choice_read name.0 v w) refl

state_read : (at : ℕ) (s : Option ℕ) (rest : List ℕ) → Lacks 0xa0 rest → (k : ℕ) × (state_in (piece_at at
    (state_spelling s ++ rest)) ≡ Ok (record { value = s; rest = piece_at k rest }))
unfolding state_in ends
state_read at None rest h = (at, rw (h at) refl)
state_read at (Some s) rest h =
    let number = spelled 0x0a (s ∷ []) in (
      at + (lead number + length number),
      rw (
        comes_here 0xa0 at number rest,
        element_reads 0xa0 at number rest
            (state_short s),
        element_alone 0x0a (at + lead number) (s ∷ []) (omega arith),
      ) refl,
    )

mech_read : (at : ℕ) (ntlm : Bool) (rest : List ℕ) → Lacks 0xa1 rest → (k : ℕ) × (mech_in (piece_at at (mech_spelling
    ntlm ++ rest)) ≡ Ok (record { ntlm = ntlm; rest = piece_at k rest }))
unfolding mech_in ends
mech_read at false rest h = (at, rw (h at) refl)
mech_read at true rest h =
    let name = spelled 0x06 ntlmssp in (
      at + (lead name + length name),
      rw (
        comes_here 0xa1 at name rest,
        element_reads 0xa1 at name rest mech_short,
        element_alone 0x06 (at + lead name) ntlmssp (omega arith),
      ) refl,
    )

lacks_mech : (tag : ℕ) (ntlm : Bool) (rest : List ℕ) → (0xa1 == tag) ≡ false → Lacks tag rest → Lacks tag (mech_spelling ntlm ++ rest)
lacks_mech tag false rest e h = h
lacks_mech tag true rest e h = λ at. comes_other tag 0xa1 at (spelled 0x06 ntlmssp) rest e

resp_read : (at : ℕ) (v : RespValue) → length (resp_fields_spelling v) < 2 ^ 32 → resp_fields (piece_at at (resp_fields_spelling v)) ≡ Ok v
unfolding resp_fields ends
resp_read at v lt =
    let mic = octets_spelling 0xa3 v.mic in
    let token = octets_spelling 0xa2 v.token in
    let mech = mech_spelling v.ntlm in
    let behind_state = short_back (state_spelling v.state) (mech ++ (token ++ mic)) lt in
    let both = short_back mech (token ++ mic) behind_state in
    let token_short = short_front token mic both in
    let mic_short = short_back token mic both in
    let lacks : (tag : ℕ) → (0xa2 == tag) ≡ false → (0xa3 == tag) ≡ false → Lacks tag (token ++ (mic ++ [])) =
    (λ tag e f. lacks_octets tag 0xa2 v.token (mic ++ []) e (lacks_octets tag 0xa3 v.mic [] f (lacks_none tag))) in
    let states = state_read at v.state (mech ++ (token ++ (mic ++ []))) (lacks_mech 0xa0 v.ntlm (token ++ (mic ++ []))
    refl (lacks 0xa0 refl refl)) in
    let mechs = mech_read states.0 v.ntlm (token ++ (mic ++ [])) (lacks 0xa1 refl refl) in
    let tokens = octets_read 0xa2 mechs.0 v.token (mic ++ []) token_short (lacks_octets 0xa2 0xa3 v.mic [] refl (lacks_none 0xa2)) in
    let mics = octets_read 0xa3 tokens.0 v.mic [] mic_short (lacks_none 0xa3) in
    let e : resp_fields_spelling v ≡ state_spelling v.state ++ (mech ++ (token ++ (mic ++ []))) = ap (λ (l : List ℕ).
    state_spelling v.state ++ (mech ++ (token ++ l))) (sym (append-nil mic)) in
    rw (e, states.1, mechs.1, tokens.1, mics.1) refl

pub resp_again : (v : RespValue) → IsWritableResp v → resp_in (resp_spelling v) ≡ Ok v
unfolding resp_in resp_spelling ends
resp_again v w =
    let parts = resp_parts v w.short in
    let sequence = spelled 0x30 (resp_fields_spelling v) in
    rw (
      element_alone 0xa1 0 sequence parts.1,
      element_alone 0x30 (0 + lead sequence) (resp_fields_spelling v) parts.0,
      resp_read (0 + lead sequence + lead (resp_fields_spelling v)) v parts.0,
    ) refl
