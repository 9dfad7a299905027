use Rattle.std.proofs.Common.{◌≡◌, ℕ, ◌+◌, ◌^◌, ◌≤◌, ◌<◌, Bool, true, false, List, ◌++◌, length, Option, Some, None, refl, ap, ◌∙◌, arith}
use Rattle.std.specs.Prelude.{◌==◌, if◌then◌else◌, option_map}
use Rattle.spec_wire.specs.messages.Places.{gap_to_8}
use Rattle.spec_wire.specs.messages.Utf16.{utf16}
use Rattle.spec_wire.specs.messages.Create.{CreateRequestValue, SpellsCreateRequest, create_request_fault}
use Rattle.spec_wire.specs.messages.Create.{create_request_in, contexts_place}
use Rattle.spec_wire.specs.messages.CreateContexts.{IsWritableCreateContexts, IsWritableDh2q, IsWritableDh2c}
use Rattle.spec_wire.specs.messages.CreateContexts.{create_contexts_spelling, flags_of, request_due, is_named, mxac, qfid, asked}
use Rattle.spec_wire.specs.messages.CreateContexts.{asked_contexts, dh2q_asked, dh2c_asked}
use Rattle.spec_wire.specs.declared.messages.context.CreateContexts.{CreateContexts}
use Rattle.spec_wire.specs.declared.messages.context.Dh2q.{Dh2q}
use Rattle.spec_wire.specs.declared.messages.context.Dh2c.{Dh2c}
use Rattle.spec_exchange.specs.Commands.{Command, Create, CreateRequest, Durable, Reconnect}
use Rattle.spec_commands.specs.Ids.{guid_of, guid_id}
use Rattle.spec_commands.specs.Text.{text_in}
use Rattle.spec_commands.specs.Clashes.{clash, clash_in, has_named, has_twice}
use Rattle.spec_commands.specs.BodyOf.{body_of, create_value, contexts_of, dh2q_of, dh2c_of}
use Rattle.spec_commands.specs.CommandOf.{create_in, create_of, contexts_in, durable_of, reconnect_of}
use Rattle.law_wire.proofs.info.ContextChain.{chain_again}
use Rattle.law_wire.proofs.info.Gathered.{requests_small}
use Rattle.law_commands.specs.commands.Fitting.{IsFittingCreate, IsDurable, IsReconnect}
use Rattle.law_commands.proofs.commands.Fields.{file_again, length-file_id, guid_again, length-guid_id}
use Rattle.law_commands.proofs.commands.ReadBack.{found, read_as}
use Rattle.law_commands.proofs.commands.Texts.{text_again}
use Rattle.law_commands.proofs.commands.Items.{contexts_again, clash_again}
use Rattle.law_commands.proofs.commands.Chained.{contexts_few}
use Rattle.law_commands.proofs.commands.create.create_again.Goals as goal

abbrev of_value : CreateRequestValue → Command
of_value v = create_of v (text_in v.name) (contexts_in v.contexts) (clash_in v.contexts)

flags_small : (b : Bool) → flags_of b < 256 ^ 4
unfolding flags_of
flags_small true = omega arith
flags_small false = omega arith

dh2q_fits : (o : Option Durable) → IsDurable o → IsWritableDh2q (option_map dh2q_of o)
dh2q_fits None is = tt
dh2q_fits (Some d) is = (is.0, (flags_small d.persistent, (length-guid_id d.guid, tt)))

dh2c_fits : (o : Option Reconnect) → IsReconnect o → IsWritableDh2c (option_map dh2c_of o)
dh2c_fits None is = tt
dh2c_fits (Some q) is = (length-file_id q.file, (length-guid_id q.guid, (flags_small true, tt)))

fits : (r : CreateRequest) → IsFittingCreate r → IsWritableCreateContexts (contexts_of r)
fits r is = record { dh2q = dh2q_fits r.durable is.durable; dh2c = dh2c_fits r.reconnect is.reconnect }

durable_again : (o : Option Durable) → IsDurable o → option_map durable_of (option_map dh2q_of o) ≡ o
durable_again None is = refl
durable_again (Some d) is = ap (λ (g : ℕ). Some (made d.timeout d.persistent g)) (guid_again d.guid is.1)
  where
    made : ℕ → Bool → ℕ → Durable
    made timeout persistent guid = record { timeout = timeout; persistent = persistent; guid = guid }

reconnect_again : (o : Option Reconnect) → IsReconnect o → option_map reconnect_of (option_map dh2c_of o) ≡ o
reconnect_again None is = refl
reconnect_again (Some q) is = ap (λ (o : ℕ). Some (made o (guid_of (guid_id q.guid)))) (file_again q.file is.0) ∙ ap (λ
    (g : ℕ). Some (made q.file g)) (guid_again q.guid is.1)
  where
    made : ℕ → ℕ → Reconnect
    made file guid = record { file = file; guid = guid }

-- the request with these in place of its own
abbrev with_contexts : CreateRequest → Option Durable → Option Reconnect → Command
with_contexts r durable reconnect = Create (record {
  path = r.path;
  access = r.access;
  share = r.share;
  attributes =
      r.attributes;
  disposition = r.disposition;
  options = r.options;
  durable = durable;
  reconnect = reconnect;
  maximal =
      r.maximal;
  disk_id = r.disk_id;
})

-- ---- what a client writes doesn't clash

apart : (q : Option Dh2q) (r : Option Dh2c) (m d : Bool) → clash (dh2q_asked q ++ (dh2c_asked r ++ (asked m mxac ++ asked d qfid))) ≡ false
unfolding has_named has_twice is_named
apart None None false false = refl
apart None None false true = refl
apart None None true false = refl
apart None None true true = refl
apart None (Some r) false false = refl
apart None (Some r) false true = refl
apart None (Some r) true false = refl
apart None (Some r) true true = refl
apart (Some q) None false false = refl
apart (Some q) None false true = refl
apart (Some q) None true false = refl
apart (Some q) None true true = refl
apart (Some q) (Some r) false false = refl
apart (Some q) (Some r) false true = refl
apart (Some q) (Some r) true false = refl
apart (Some q) (Some r) true true = refl

none_clash : (c : CreateContexts) → IsWritableCreateContexts c → clash_in (create_contexts_spelling c) ≡ false
none_clash c fit =
    clash_again (create_contexts_spelling c) (asked_contexts c) (chain_again request_due (asked_contexts c) (requests_small c fit))
    ∙ apart c.dh2q c.dh2c c.mxac c.qfid

place_small : (none : Bool) (n : ℕ) → n < 256 ^ 2 → (if none then 0 else 120 + n + gap_to_8 n) < 256 ^ 4
place_small true n small = omega arith
place_small false n small = omega (arith, small)

pub returns : goal.returns
unfolding create_in body_of
returns c = λ header rest r len is.
    let law = c.create_request_law.ensures in
    let told = c.create_contexts_law.ensures in
    let v : CreateRequestValue = create_value r in
    let m : List ℕ = header ++ (body_of (Create r) ++ rest) in
    let fit = fits r is in
    let few : length (create_contexts_spelling (contexts_of r)) ≤ 400 = contexts_few (contexts_of r) fit in
    let place : contexts_place v < 256 ^ 4 = place_small (length (create_contexts_spelling (contexts_of r)) == 0)
    (length (utf16 r.path)) is.path.short in
    let row = found SpellsCreateRequest create_request_fault create_request_in law.one law.whole law.given m v
    (law.again header rest v len (
      omega arith,
      (
        omega arith,
        (
          omega arith,
          (
            is.access,
            (
              is.attributes,
              (
                is.share,
                (
                  is.disposition,
                  (
                    is.options,
                    (
                      omega arith,
                      (
                        is.path.short,
                        (
                          place,
                          (
                            omega (arith, few),
                            (
                              refl,
                              (
                                refl,
                                tt,
                              ),
                            ),
                          ),
                        ),
                      ),
                    ),
                  ),
                ),
              ),
            ),
          ),
        ),
      ),
    )) in
    read_as SpellsCreateRequest create_request_fault create_request_in of_value m v row
    ∙ ap (λ (t : Option (List ℕ)). create_of v t (contexts_in v.contexts) (clash_in v.contexts)) (text_again r.path is.path.utf8)
    ∙ ap (λ (o : Option CreateContexts). create_of v (Some r.path) o (clash_in v.contexts)) (contexts_again (create_contexts_spelling
    (contexts_of r)) (contexts_of r) (told.again (contexts_of r) fit))
    ∙ ap (create_of v (Some r.path) (Some (contexts_of r))) (none_clash (contexts_of r) fit)
    ∙ ap (λ (d : Option Durable). with_contexts r d (option_map reconnect_of (option_map dh2c_of r.reconnect)))
    (durable_again r.durable is.durable)
    ∙ ap (with_contexts r r.durable) (reconnect_again r.reconnect is.reconnect)
